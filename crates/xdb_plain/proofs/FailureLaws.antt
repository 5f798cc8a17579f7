-- What histories tell of devices that failed and of damaged files, over two that follow each other.
use Rattle.std.proofs.Common.{◌≡◌, ℕ, ◌+◌, Bool, true, false, not, ◌&&◌, ◌||◌, List, [], ◌∷◌, ◌++◌, if◌then◌else◌, refl, sym, arith}
use Rattle.std.proofs.lemmas.Bool.{false≢true}
use Rattle.std.proofs.lemmas.List.Folds.{list_any-append, list_all-append}
use Rattle.xdb_plain.specs.Failures.{is_fault, is_damage, is_failure_outside, faults, has_damage, is_faultless}
use Rattle.xdb_plain.specs.declared.note.Note.{Note}

plus_assoc : (k m n s : ℕ) → s ≡ m + n → k + s ≡ (k + m) + n
plus_assoc k m n s h = omega arith

pub faults-append : (a b : List Note) → faults (a ++ b) ≡ faults a + faults b
faults-append [] b = nothing_first (faults b)
  where
    nothing_first : (n : ℕ) → n ≡ 0 + n
    nothing_first n = omega arith
faults-append (note ∷ a) b =
    plus_assoc (if is_fault note.reply then 1 else 0) (faults a) (faults b) (faults (a ++ b)) (faults-append a b)

pub has_damage-append : (a b : List Note) → has_damage (a ++ b) ≡ (has_damage a || has_damage b)
has_damage-append a b = list_any-append (λ note. is_damage note.reply) a b

pub is_faultless-append : (a b : List Note) → is_faultless (a ++ b) ≡ (is_faultless a && is_faultless b)
is_faultless-append a b = list_all-append (λ note. not (is_failure_outside note.reply)) a b

none_first : (fault damage : Bool) (notes : List Note)
    → ((is_faultless notes ≡ true) → (faults notes ≡ 0) × (has_damage notes ≡ false))
    → (not (fault || damage) && is_faultless notes) ≡ true
    → ((if fault then 1 else 0) + faults notes ≡ 0) × ((damage || has_damage notes) ≡ false)
none_first false false notes rest h = rest_of (faults notes) (rest h)
  where
    rest_of : (n : ℕ) → (n ≡ 0) × (has_damage notes ≡ false) → (0 + n ≡ 0) × (has_damage notes ≡ false)
    rest_of n r = (omega (r.0, arith), r.1)
none_first true damage notes rest h = absurd (false≢true h)
none_first false true notes rest h = absurd (false≢true h)

pub faultless_has_none : (notes : List Note) → is_faultless notes ≡ true → (faults notes ≡ 0) × (has_damage notes ≡ false)
faultless_has_none [] h = (refl, refl)
faultless_has_none (note ∷ notes) h = none_first (is_fault note.reply) (is_damage note.reply) notes (faultless_has_none notes) h

all_first : (fault damage : Bool) (notes : List Note)
    → (faults notes ≡ 0 → has_damage notes ≡ false → is_faultless notes ≡ true)
    → (if fault then 1 else 0) + faults notes ≡ 0 → (damage || has_damage notes) ≡ false
    → (not (fault || damage) && is_faultless notes) ≡ true
all_first false false notes rest h k = rest (zero_of (faults notes) h) k
  where
    zero_of : (n : ℕ) → 0 + n ≡ 0 → n ≡ 0
    zero_of n h = omega arith
all_first false true notes rest h k = absurd (false≢true (sym k))
all_first true damage notes rest h k = absurd (not_one (faults notes) h)
  where
    not_one : (n : ℕ) → 1 + n ≡ 0 → ⊥
    not_one n h = omega arith

pub none_is_faultless : (notes : List Note) → faults notes ≡ 0 → has_damage notes ≡ false → is_faultless notes ≡ true
none_is_faultless [] h k = refl
none_is_faultless (note ∷ notes) h k = all_first (is_fault note.reply) (is_damage note.reply) notes (none_is_faultless notes) h k
