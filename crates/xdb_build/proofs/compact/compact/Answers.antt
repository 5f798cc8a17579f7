-- What is left to answer of `compact`.
use Rattle.std.proofs.Common.{◌≡◌, length, vec_len, sym, ◌∙◌, arith}
use Rattle.std.proofs.lemmas.Bool.{eqb-true}
use Rattle.std.proofs.lemmas.List.{nil_from_length}
use Rattle.std.proofs.lemmas.Result.{on_ok_weaker}
use Rattle.xdb_build.proofs.CompactLaws.{nothing_compacted, compacted_from}
use Rattle.xdb_build.proofs.compact.compact.Goals as goal

pub returns-then-is_empty-2-clause-fits : goal.returns-then-is_empty-2-clause-fits
returns-then-is_empty-2-clause-fits g c =
    let entries = c.in_ok-entries.entries in
    let spans = c.in_ok-entries.spans in
    let no_entries : length entries.items ≡ 0 = omega (arith, entries.ok.0, eqb-true (vec_len entries) 0 (sym c.is_empty.ensures ∙ c.if-is_empty.true)) in
    let no_spans : length c.list.result.now ≡ 0 = eqb-true (length c.list.result.now) 0 (sym c.is_empty-then-is_empty.ensures ∙ c.if-is_empty-2.true) in
    nothing_compacted g.D.File.FileRef.size g.D.File.FileRef.bytes c.args.given.now entries.items spans c.args.made.now (g.D.Reader.told c.args.dev.now) (g.D.Reader.told c.left_of_tables.new.dev)
    c.in_ok-entries.ensures.left (nil_from_length entries.items no_entries) (sym c.list.ensures.list ∙ nil_from_length c.list.result.now no_spans)
    c.requires.no_tables c.requires.no_files c.requires.none_tried c.left_of_tables.ensures.told

pub returns-clause-fits : goal.returns-clause-fits
returns-clause-fits g c =
    on_ok_weaker c.write_outputs.result
    (λ written.
    compacted_from g.D.File.FileRef.size g.D.File.FileRef.bytes c.args.given.now c.in_ok-entries.entries.items c.in_ok-entries.spans c.in_ok-entries.ensures.left c.deref.result.now c.write_outputs.new.made
    (g.D.Reader.told c.args.dev.now) (g.D.Reader.told c.left_of_tables.new.dev) (g.D.Reader.told c.write_outputs.new.dev) c.deref.ensures.value c.left_of_tables.ensures.told written)
    c.write_outputs.ensures.written
