use Rattle.std.proofs.Common.{◌∙◌, ◌-◌, sym, ap, arith}
use Rattle.xdb_table_r.specs.Opening.{layout_at, footer_at}
use Rattle.xdb_table_r.proofs.OpeningLaws.{told_short, told_footer, told_named}
use Rattle.xdb_table_r.proofs.table.read_layout.Goals as goal

pub returns-then-size-lt-LEN-clause-tells : goal.returns-then-size-lt-LEN-clause-tells
returns-then-size-lt-LEN-clause-tells g c =
    told_short (g.R.File.FileRef.bytes c.args.file.now) c.size_of-size.result c.args.backing c.size_of-size.ensures.told c.if-size-lt-LEN.true

pub returns-in-Some-clause-tells : goal.returns-in-Some-clause-tells
returns-in-Some-clause-tells g c =
    told_footer (g.R.File.FileRef.bytes c.args.file.now) c.size_of-size.result c.in_ok-bytes.bytes.items _ c.size_of-size.ensures.told (omega arith) c.in_ok-bytes.ensures.read
    (ap (layout_at (c.size_of-size.result - 40)) (sym c.deref.ensures.value) ∙ sym c.layout.ensures ∙ c.in-Some.is)

pub returns-clause-tells : goal.returns-clause-tells
returns-clause-tells g c =
    told_named (g.R.File.FileRef.bytes c.args.file.now) (c.size_of-size.result - 40) c.args.backing footer_at (told_footer (g.R.File.FileRef.bytes c.args.file.now) c.size_of-size.result c.in_ok-bytes.bytes.items _ c.size_of-size.ensures.told (omega arith) c.in_ok-bytes.ensures.read
    (ap (layout_at (c.size_of-size.result - 40)) (sym c.deref.ensures.value) ∙ sym c.layout.ensures ∙ c.in-None.is))
