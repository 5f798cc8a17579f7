use Rattle.std.proofs.Common.{◌≡◌, ◌+◌, ◌-◌, ◌≤◌, length, drop}
use Rattle.std.specs.List.{common_prefix_len}
use Rattle.std.specs.Prelude.{nat_eq}
use Rattle.xdb_block.proofs.shared.shared_len.Given as goal

-- what is left shares as much as the whole does behind the bytes so far
abbrev pub invariant-loop-len : goal.invariant-loop-len
invariant-loop-len l = record {
  in_a : l.len ≤ length l.a;
  in_b : l.len ≤ length l.b;
  left : l.len + common_prefix_len nat_eq (drop l.len l.a) (drop l.len l.b) ≡ common_prefix_len nat_eq l.a l.b;
}

abbrev pub decreases-loop-len : goal.decreases-loop-len
decreases-loop-len l = length l.a - l.len
