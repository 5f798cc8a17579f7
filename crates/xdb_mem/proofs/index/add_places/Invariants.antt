-- What the loop of `add_places` keeps.
use Rattle.std.proofs.Common.{ℕ, ◌<◌, ◌≤◌}
use Rattle.std.specs.List.{All}
use Rattle.xdb_rangedel.specs.Members.{Has}
use Rattle.xdb_mem.proofs.index.add_places.Given as goal

abbrev pub invariant-loop-place : goal.invariant-loop-place
invariant-loop-place l = record {
  kept : (p : ℕ) → Has l.fn.out.items p → Has l.out.items p;
  added : (p : ℕ) → l.from ≤ p → p < l.place → Has l.out.items p;
  inside : All (λ p. p < l.to) l.fn.out.items → All (λ p. p < l.to) l.out.items;
}
