-- What is left to answer of `write_files`.
use Rattle.std.proofs.Common.{ap, ◌∙◌, subst, length, Err, rules}
use Rattle.std.proofs.Math.Nat.{le_trans}
use Rattle.xdb_device.proofs.Counts.{Counted-refl, Counted-then, Counted-where}
use Rattle.xdb_ext.specs.Operations.{IsFileOf}
use Rattle.xdb_ext.specs.TableBounds.{IsExtentOf}
use Rattle.xdb_work.proofs.WorkLaws.{stopped_by, fault_means, tried_where, one_longer}
use Rattle.xdb_ext.proofs.LoadLaws.{written_first, written_more, whole, stopped, stopped_at}
use Rattle.xdb_ext.proofs.write.write_files.Goals as goal

pub loop-num-init : goal.loop-num-init
loop-num-init g c = record {
  written = written_first g.D.File.FileRef.size g.D.File.FileRef.bytes c.args.tables.now c.args.tried.now.items c.try_reserve.new.self.items (g.D.Reader.told c.args.dev.now) c.requires.empty (c.in_ok-try_reserve.ensures.items ∙ c.new-files.ensures.items);
  counted = Counted-refl _;
  tried = ap length c.requires.empty;
  files = ap length (c.in_ok-try_reserve.ensures.items ∙ c.new-files.ensures.items);
  room = c.requires.room;
  files_room = search rules;
}

pub returns-in_err-table-clause-first : goal.returns-in_err-table-clause-first
returns-in_err-table-clause-first g c = (stopped g.D.File.FileRef.size g.D.File.FileRef.bytes c.args.tables.now c.loop-num.num-index c.loop-num.tried.items c.loop-num.files.items (Unit {0}) (g.D.Reader.told c.args.dev.now) (g.D.Reader.told c.loop-num.dev) c.loop-num.auto.num-index-end c.loop-num.invariant.written).first

pub returns-in_err-table-clause-told : goal.returns-in_err-table-clause-told
returns-in_err-table-clause-told g c = (stopped g.D.File.FileRef.size g.D.File.FileRef.bytes c.args.tables.now c.loop-num.num-index c.loop-num.tried.items c.loop-num.files.items _ (g.D.Reader.told c.args.dev.now) (g.D.Reader.told c.loop-num.dev) c.loop-num.auto.num-index-end c.loop-num.invariant.written).told

pub returns-in_err-file-clause-counted : goal.returns-in_err-file-clause-counted
returns-in_err-file-clause-counted g c =
    let is = stopped_by c.from_residual-in_err-file.result c.in_err-file.field-0.0 c.from_residual-in_err-file.ensures.0 c.from_residual-in_err-file.ensures.1 in
    Counted-where _ _ (λ fault. fault_means c.from_residual-in_err-file.result c.in_err-file.field-0.0 is fault)
    (Counted-then _ _ _ c.loop-num.invariant.counted c.in_err-file.ensures.counted)

pub returns-in_err-file-clause-first : goal.returns-in_err-file-clause-first
returns-in_err-file-clause-first g c =
    (stopped_at g.D.File.FileRef.size g.D.File.FileRef.bytes c.args.tables.now c.loop-num.num-index c.loop-num-item.result c.loop-num.tried.items c.create.new.tried.items c.loop-num.files.items c.deref.result.now c.in_err-file.field-0.0 (Unit {0}) (g.D.Reader.told c.args.dev.now) (g.D.Reader.told c.loop-num.dev) (g.D.Reader.told c.create.new.dev)
    c.loop-num-test.true c.loop-num-item.is c.loop-num.invariant.written c.create.ensures.tried c.in_err-file.ensures.told (λ _. tt)).first

pub returns-in_err-file-clause-told : goal.returns-in_err-file-clause-told
returns-in_err-file-clause-told g c =
    let is = stopped_by c.from_residual-in_err-file.result c.in_err-file.field-0.0 c.from_residual-in_err-file.ensures.0 c.from_residual-in_err-file.ensures.1 in
    (stopped_at g.D.File.FileRef.size g.D.File.FileRef.bytes c.args.tables.now c.loop-num.num-index c.loop-num-item.result c.loop-num.tried.items c.create.new.tried.items c.loop-num.files.items c.deref.result.now c.in_err-file.field-0.0 _ (g.D.Reader.told c.args.dev.now) (g.D.Reader.told c.loop-num.dev) (g.D.Reader.told c.create.new.dev)
    c.loop-num-test.true c.loop-num-item.is c.loop-num.invariant.written c.create.ensures.tried c.in_err-file.ensures.told (λ lack. is ∙ ap Err lack)).told

pub loop-num-preserved : goal.loop-num-preserved
loop-num-preserved g c =
    let t = c.loop-num-item.result in
    let table = c.in_ok-table.table in
    let file = c.in_ok-file.file in
    let before = c.loop-num.invariant in
    record {
      written = written_more g.D.File.FileRef.size g.D.File.FileRef.bytes c.args.tables.now c.loop-num.num-index t c.loop-num.tried.items c.create.new.tried.items c.loop-num.files.items _ table.bytes.items c.deref.result.now table.extent file
          (g.D.Reader.told c.args.dev.now) (g.D.Reader.told c.loop-num.dev) (g.D.Reader.told c.create.new.dev) c.loop-num-test.true c.loop-num-item.is before.written c.create.ensures.tried c.put.ensures.put
          (record {
            content = subst (λ ops. IsFileOf ops table.bytes.items) c.list.ensures c.in_ok-table.ensures.file;
            bounds = subst (λ ops. IsExtentOf ops table.extent) c.list.ensures c.in_ok-table.ensures.extent;
            long = c.in_ok-table.ensures.long;
            is_seen = c.deref.ensures.value;
            len = c.in_ok-file.ensures.size;
            told = c.in_ok-file.ensures.bytes;
          }) c.in_ok-file.ensures.told;
      counted = Counted-where _ _ (λ never. absurd never) (Counted-then _ _ _ before.counted c.in_ok-file.ensures.counted);
      tried = one_longer c.loop-num.tried.items c.create.new.tried.items t.0 c.loop-num.num-index c.create.ensures.tried before.tried;
      files = one_longer c.loop-num.files.items _ (t.0, table.extent, file) c.loop-num.num-index c.put.ensures.put before.files;
      room = le_trans before.room c.create.ensures.capacity;
      files_room = le_trans before.files_room c.put.ensures.capacity;
    }

pub returns : goal.returns
returns g c =
    let w = whole g.D.File.FileRef.size g.D.File.FileRef.bytes c.args.tables.now c.loop-num.num-index c.loop-num.tried.items c.loop-num.files.items (g.D.Reader.told c.args.dev.now) (g.D.Reader.told c.loop-num.dev) c.loop-num-test.false c.loop-num.invariant.written in
    record {
      fits = w.fits;
      cause = search rules;
      counted = Counted-where _ _ (λ never. absurd (cc)) c.loop-num.invariant.counted;
      all = w.all;
      first = w.first;
      told = tried_where _ _ _ _ (λ never. absurd never) w.told;
      held = w.held;
    }
