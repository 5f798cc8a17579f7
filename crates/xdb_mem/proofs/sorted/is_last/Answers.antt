use Rattle.std.proofs.Common.{◌∙◌, ◌-◌, length, sym, ap, arith}
use Rattle.xdb_mem.specs.InOrder.{comes_before}
use Rattle.xdb_mem.proofs.InOrderLaws.{last-before}
use Rattle.xdb_mem.proofs.sorted.is_last.Goals as goal

pub returns-then-count-gt0 : goal.returns-then-count-gt0
returns-then-count-gt0 c = λ h.
    let some = c.if-count-gt0.true in
    let last = sym (ap (λ p. comes_before p c.args.entry.now) c.index-entries-count.is) ∙ sym c.comes_before.ensures ∙ h in
    last-before c.args.entries.now (length c.args.entries.now - 1) c.index-entries-count.result c.args.entry.now c.requires (omega (arith, some)) last
