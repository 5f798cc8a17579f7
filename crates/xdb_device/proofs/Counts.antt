-- Calls one after another, as their counts and their frame see them.
use Rattle.std.proofs.Common.{ℕ, ◌+◌, ◌≤◌, List, refl, ◌∙◌, arith}
use Rattle.xdb_device.specs.Counted.{Counted, RoseWithin}
use Rattle.xdb_device.specs.Faults.{Rose}

pub Rose-after : (a b c : ℕ) → a ≤ b → Rose b c → Rose a c
Rose-after a b c before rose = omega arith

pub Rose-before : (a b c : ℕ) → Rose a b → b ≤ c → Rose a c
Rose-before a b c rose later = omega arith

RoseWithin-then : (a b c m n o : ℕ) → b ≤ c → RoseWithin a b m n → RoseWithin b c n o → RoseWithin a c m o
RoseWithin-then a b c m n o later first second bound =
    let one : n + a ≤ m + b = first (omega arith) in
    let two : o + b ≤ n + c = second bound in
    omega arith

module _ {D : Type 0} {faults misses : D → ℕ} {frame : D → List ℕ} where
  -- nothing happened
  pub Counted-refl : (a : D) → Counted faults misses frame a a ⊥
  Counted-refl a = record {
    later = omega arith;
    misses_later = omega arith;
    within = λ bound. omega arith;
    same_frame = refl;
    failed = λ never. absurd never;
    missed = λ never. absurd never;
  }

  -- one call, and then another: the fault of the last one is the fault of both
  pub Counted-then : {P Q : Type 0} (a b c : D) → Counted faults misses frame a b P → Counted faults misses frame b c Q → Counted faults misses frame a c Q
  Counted-then a b c first second = record {
    later = omega (arith, first.later, second.later);
    misses_later = omega (arith, first.misses_later, second.misses_later);
    within = RoseWithin-then _ _ _ _ _ _ second.later first.within second.within;
    same_frame = second.same_frame ∙ first.same_frame;
    failed = λ fault. Rose-after _ _ _ first.later (second.failed fault);
    missed = λ fault. Rose-after _ _ _ first.misses_later (second.missed fault);
  }

  -- under another fault, where that one is a fault too
  pub Counted-where : {P Q : Type 0} (a b : D) → (Q → P) → Counted faults misses frame a b P → Counted faults misses frame a b Q
  Counted-where a b means call = record {
    later = call.later;
    misses_later = call.misses_later;
    within = call.within;
    same_frame = call.same_frame;
    failed = λ fault. call.failed (means fault);
    missed = λ fault. call.missed (means fault);
  }
