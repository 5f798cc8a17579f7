-- What is left to answer of `flush`.
use Rattle.std.proofs.Common.{[], ◌∷◌, ◌++◌, Err, sym, ap, ◌∙◌, subst}
use Rattle.xdb_rangedel.proofs.SpanLaws.{spans_in-content_of}
use Rattle.xdb_rangedel.specs.Content.{content_of}
use Rattle.xdb_rangedel.specs.Pieces.{AreFragments}
use Rattle.xdb_work.proofs.WorkLaws.{stopped_by}
use Rattle.xdb_build.proofs.FlushLaws.{Made, left_is, some_left, flushed, one, held_one, one_created, one_failed}
use Rattle.xdb_build.proofs.flush.flush.Goals as goal

pub table_of-requires-clause-some : goal.table_of-requires-clause-some
table_of-requires-clause-some g c =
    some_left c.args.given.now c.deref.result.now c.in_ok-entries.spans c.requires.whole c.requires.some
    (left_is c.args.given.now c.mem-mem.result.now c.entries.result.now c.deref.result.now c.in_ok-entries.entries.items c.spans.result.now c.in_ok-entries.spans c.stripes.result.now c.floor.result.now
    c.mem-mem.ensures c.entries.ensures.entries c.spans.ensures c.stripes.ensures.stripes c.floor.ensures c.deref.ensures.value c.in_ok-entries.ensures.content)

pub returns-in_err-meta-clause-first : goal.returns-in_err-meta-clause-first
returns-in_err-meta-clause-first g c =
    (one_failed c.args.given.now c.first-num.result c.try_reserve.new.self.items c.create_table.new.tried.items c.in_ok-table.table.bytes.items c.in_err-meta.field-0.0 (Unit {0}) (g.D.Reader.told c.args.dev.now) (g.D.Reader.told c.create_table.new.dev)
    c.first-num.ensures.given c.first-num.ensures.first (c.in_ok-try_reserve.ensures.items ∙ c.requires.empty) c.create_table.ensures.tried c.in_err-meta.ensures.told (λ _. tt)).first

pub returns-in_err-meta-clause-told : goal.returns-in_err-meta-clause-told
returns-in_err-meta-clause-told g c =
    let is = stopped_by c.from_residual-in_err-meta.result c.in_err-meta.field-0.0 c.from_residual-in_err-meta.ensures.0 c.from_residual-in_err-meta.ensures.1 in
    (one_failed c.args.given.now c.first-num.result c.try_reserve.new.self.items c.create_table.new.tried.items c.in_ok-table.table.bytes.items c.in_err-meta.field-0.0 _ (g.D.Reader.told c.args.dev.now) (g.D.Reader.told c.create_table.new.dev)
    c.first-num.ensures.given c.first-num.ensures.first (c.in_ok-try_reserve.ensures.items ∙ c.requires.empty) c.create_table.ensures.tried c.in_err-meta.ensures.told (λ lack. is ∙ ap Err lack)).told

pub returns-clause-fits : goal.returns-clause-fits
returns-clause-fits g c =
    let given = c.args.given.now in
    let left = content_of c.deref.result.now c.in_ok-entries.spans in
    let same = left_is given c.mem-mem.result.now c.entries.result.now c.deref.result.now c.in_ok-entries.entries.items c.spans.result.now c.in_ok-entries.spans c.stripes.result.now c.floor.result.now
    c.mem-mem.ensures c.entries.ensures.entries c.spans.ensures c.stripes.ensures.stripes c.floor.ensures c.deref.ensures.value c.in_ok-entries.ensures.content in
    let made : Made c.first-num.result c.in_ok-table.table.extent c.in_ok-table.table.bytes.items left c.in_ok-meta.meta =
    record {
      table = c.in_ok-meta.ensures.table;
      content = c.in_ok-table.ensures.content;
      extent = c.in_ok-table.ensures.extent;
      fragments = subst AreFragments (sym (spans_in-content_of c.deref.result.now c.in_ok-entries.spans)) c.in_ok-entries.ensures.fragments;
    } in
    one g.D.File.FileRef.size g.D.File.FileRef.bytes given c.new.result c.new-2.result c.in_ok-meta.meta (c.first-num.result, c.in_ok-meta.file)
    (c.new.ensures ∙ c.put.ensures.put ∙ ap (λ ts. ts ++ c.in_ok-meta.meta ∷ []) c.in_ok-tables.ensures.items)
    (c.new-2.ensures ∙ c.put-2.ensures.put ∙ ap (λ fs. fs ++ (c.first-num.result, c.in_ok-meta.file) ∷ []) c.in_ok-files.ensures.items)
    (flushed g.D.File.FileRef.size g.D.File.FileRef.bytes given c.first-num.result c.in_ok-table.table.extent c.in_ok-table.table.bytes.items left c.in_ok-meta.meta c.in_ok-meta.file
    c.first-num.ensures.first made same c.in_ok-meta.ensures.size c.in_ok-meta.ensures.bytes)

pub returns-clause-first : goal.returns-clause-first
returns-clause-first g c =
    (one_created c.args.given.now c.first-num.result c.try_reserve.new.self.items c.create_table.new.tried.items c.in_ok-table.table.bytes.items (c.in_ok-meta.meta, c.in_ok-meta.file) ⊥ (g.D.Reader.told c.args.dev.now) (g.D.Reader.told c.create_table.new.dev)
    c.first-num.ensures.given c.first-num.ensures.first (c.in_ok-try_reserve.ensures.items ∙ c.requires.empty) c.create_table.ensures.tried c.in_ok-meta.ensures.told).first

pub returns-clause-told : goal.returns-clause-told
returns-clause-told g c =
    (one_created c.args.given.now c.first-num.result c.try_reserve.new.self.items c.create_table.new.tried.items c.in_ok-table.table.bytes.items (c.in_ok-meta.meta, c.in_ok-meta.file) _ (g.D.Reader.told c.args.dev.now) (g.D.Reader.told c.create_table.new.dev)
    c.first-num.ensures.given c.first-num.ensures.first (c.in_ok-try_reserve.ensures.items ∙ c.requires.empty) c.create_table.ensures.tried c.in_ok-meta.ensures.told).told

pub returns-clause-held : goal.returns-clause-held
returns-clause-held g c =
    held_one g.D.File.FileRef.size g.D.File.FileRef.bytes (c.in_ok-meta.meta, c.in_ok-meta.file) c.first-num.result c.in_ok-table.table.bytes.items c.in_ok-meta.file c.new-2.result (g.D.Reader.told c.args.dev.now) (g.D.Reader.told c.create_table.new.dev)
    (c.new-2.ensures ∙ c.put-2.ensures.put ∙ ap (λ fs. fs ++ (c.first-num.result, c.in_ok-meta.file) ∷ []) c.in_ok-files.ensures.items) c.in_ok-meta.ensures.size c.in_ok-meta.ensures.bytes c.in_ok-meta.ensures.told
