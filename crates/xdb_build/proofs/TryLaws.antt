-- The reserved numbers are tried one after the other.
use Rattle.std.proofs.Common.{◌≡◌, ℕ, zero, suc, ◌+◌, ◌≤◌, List, [], ◌∷◌, ◌++◌, take, Result, Ok, Err, IsErr, IsErrAnd, IsErrOf, OnErr, inl, inr, refl, sym, ap, ◌∙◌, subst, arith}
use Rattle.std.specs.List.{range_with_len}
use Rattle.xdb_device.specs.Told.{Told, Created}
use Rattle.xdb_device.specs.Work.{cause_of}
use Rattle.xdb_device.specs.declared.fault.DevNo.{DevNo}
use Rattle.xdb_device.specs.declared.fault.WorkCause.{WorkCause}
use Rattle.xdb_device.specs.declared.fault.WorkCause.TheVariants as causes
use Rattle.xdb_rangedel.specs.Members.{Has}
use Rattle.xdb_work.proofs.WorkLaws.{tried_none, tried_more, tried_failed, tried_next, tried_where, first_numbers}
use Rattle.xdb_work.specs.Work.{IsNext, Tried}
use Rattle.xdb_build.specs.Series.{Tries, Stops}

pub tries_none : (reserved nums : List ℕ) (t : Told) → nums ≡ [] → Tries reserved 0 nums t t
tries_none reserved nums t none = record { within = omega arith; first = none; told = tried_none reserved t }

pub tries_more : {F : Type 0} (reserved : List ℕ) (i num : ℕ) (old new bytes : List ℕ) (file : F) (start mid now : Told) → IsNext reserved i num → Tries reserved i old start mid → new ≡ old ++ num ∷ [] → Created num bytes (Ok file) mid now → Tries reserved (i + 1) new start now
tries_more reserved i num old new bytes file start mid now next before made c = record {
  within = omega (arith, next.inside);
  first = tried_next reserved i num old new next before.first made;
  told = tried_more reserved i num bytes file start mid now next before.told c;
}

pub tries_stop : {F : Type 0} (reserved : List ℕ) (i num : ℕ) (old new bytes : List ℕ) (why : DevNo) (lacks : Type 0) (start mid now : Told) → IsNext reserved i num → Tries reserved i old start mid → new ≡ old ++ num ∷ [] → Created {F = F} num bytes (Err why) mid now → (cause_of why ≡ causes.Memory → lacks) → Stops reserved new lacks start now
tries_stop reserved i num old new bytes why lacks start mid now next before made c means =
    let is = tried_next reserved i num old new next before.first made in
    record {
      first = first_numbers reserved new (i + 1) (omega (arith, next.inside)) is;
      told = subst (λ ns. Tried reserved ns lacks start now) (sym is) (tried_where reserved (take (i + 1) reserved) start now means (tried_failed reserved i num bytes why start mid now next before.told c));
    }

-- where the work stops before it tries another number, and where it ends
pub tries_stand : (reserved : List ℕ) (i : ℕ) (nums : List ℕ) (lacks : Type 0) (start now : Told) → Tries reserved i nums start now → Stops reserved nums lacks start now
tries_stand reserved i nums lacks start now so_far = record {
  first = first_numbers reserved nums i so_far.within so_far.first;
  told = subst (λ ns. Tried reserved ns lacks start now) (sym so_far.first) (tried_where reserved (take i reserved) start now (λ never. absurd never) so_far.told);
}

pub failed_stops : {F T : Type 0} (result : Result T WorkCause) (why : DevNo) (num : ℕ) (old new bytes : List ℕ) (mid now : Told) → IsErr result → IsErrAnd result (λ e. e ≡ cause_of why) → new ≡ old ++ num ∷ [] → Created {F = F} num bytes (Err why) mid now
    → OnErr result ((reserved : List ℕ) (i : ℕ) (start : Told) → IsNext reserved i num → Tries reserved i old start mid → Stops reserved new (IsErrOf result causes.Memory) start now)
failed_stops (Ok x) why num old new bytes mid now failed cause made c = tt
failed_stops (Err e) why num old new bytes mid now failed cause made c = λ reserved i start next before.
    tries_stop reserved i num old new bytes why _ start mid now next before made c (λ lack. ap Err (cause ∙ lack))

-- a number behind those of a range isn't among them
pub not_in_range : (a n num : ℕ) → a + n ≤ num → Has (range_with_len a n) num → ⊥
not_in_range a zero num more has = absurd has
not_in_range a (suc n) num more (inl e) = absurd (omega (arith, more, e))
not_in_range a (suc n) num more (inr h) = not_in_range (a + 1) n num (omega (arith, more)) h

take_range : (a n k : ℕ) → k ≤ n → take k (range_with_len a n) ≡ range_with_len a k
take_range a n zero less = refl
take_range a zero (suc k) less = absurd (omega (arith, less))
take_range a (suc n) (suc k) less = ap (λ xs. a ∷ xs) (take_range (a + 1) n k (omega (arith, less)))

pub not_tried : (a n k num : ℕ) (nums : List ℕ) → k ≤ n → a + k ≤ num → nums ≡ take k (range_with_len a n) → Has nums num → ⊥
not_tried a n k num nums less more are has = not_in_range a k num more (subst (λ ns. Has ns num) (are ∙ take_range a n k less) has)
