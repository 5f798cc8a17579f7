-- What is left to answer of `add_all`.
use Rattle.std.proofs.Common.{[], subst, sym, ap, ◌∙◌, arith}
use Rattle.xdb_device.proofs.Counts.{Counted-then, Counted-where}
use Rattle.xdb_merge.specs.Tables.{tables_in}
use Rattle.xdb_read.proofs.OnWayLaws.{ends-by, goes-by}
use Rattle.xdb_read.proofs.pairs.add_all.Goals as goal

pub returns-then-not-branch-clause-pairs : goal.returns-then-not-branch-clause-pairs
returns-then-not-branch-clause-pairs g c =
    ends-by g.F.FileRef.bytes c.args.parts.now c.args.pairs.now.bounds c.args.way c.loop.pairs c.add_next.new.pairs c.loop.found.items c.add_next.new.found.items c.loop.counter c.args.most c.in_ok-add_next.field-0
    c.loop.invariant.3 c.in_ok-add_next.ensures.adds c.if-not-branch.true (omega arith)

pub loop-preserved : goal.loop-preserved
loop-preserved g c = (
  Counted-where _ _ (λ never. absurd never) (Counted-then _ _ _ c.loop.invariant.0 (Counted-where _ _ (λ never. absurd never) c.add_next.ensures.counted)),
  c.add_next.ensures.told ∙ c.loop.invariant.1,
  λ none. c.add_next.ensures.alone (ap (λ r. tables_in r c.args.parts.now.tables) c.loop.invariant.3.keys ∙ none) ∙ c.loop.invariant.2 none,
  goes-by g.F.FileRef.bytes c.args.parts.now c.args.pairs.now.bounds c.args.way c.loop.pairs c.add_next.new.pairs c.loop.found.items c.add_next.new.found.items c.loop.counter c.in_ok-add_next.field-0
      c.loop.invariant.3 c.add_next.ensures.cursor c.add_next.ensures.keys c.in_ok-add_next.ensures.adds c.if-not-branch.false,
)
