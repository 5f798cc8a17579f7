-- What is left to answer of `is_below_at`.
use Rattle.std.proofs.Common.{◌≡◌, sym, ap, ◌∙◌, false}
use Rattle.xdb_key.specs.Entries.{Point}
use Rattle.xdb_key.specs.Order.{is_below}
use Rattle.xdb_mem.proofs.InOrderLaws.{none_behind, nothing_behind}
use Rattle.xdb_mem.proofs.sorted.is_below_at.Goals as goal

pub returns-then-place-entries-clause-no : goal.returns-then-place-entries-clause-no
returns-then-place-entries-clause-no c = λ h.
    let x = c.index-entries-place.result in
    let there : is_below x.key c.args.at.now ≡ false = rw (c.bytes.ensures.bytes, c.key.ensures, c.bytes-then-place-entries.ensures.bytes) at (sym c.is_below.ensures ∙ h) in
    let first = sym (ap (λ (p : Point). is_below p.key c.args.at.now) c.index-entries-place.is) ∙ there in
    none_behind c.args.at.now c.args.entries.now c.args.place x c.requires first c.if-place-entries.true

pub returns-clause-no : goal.returns-clause-no
returns-clause-no c = λ h. nothing_behind (λ p. is_below p.key c.args.at.now ≡ false) c.args.entries.now c.args.place c.if-place-entries.false
