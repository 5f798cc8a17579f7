-- Work that creates one file after another, as what its device tells sees it.
use Rattle.std.proofs.Common.{◌≡◌, ℕ, zero, suc, ◌+◌, ◌-◌, ◌≤◌, false, cond, List, [], ◌∷◌, ◌++◌, length, take, map, Option, Some, None, IfSome, Result, Ok, Err, inl, inr, ◌⊎◌, refl, sym, ap, ◌∙◌, subst, arith, append_assoc, append-nil}
use Rattle.std.proofs.lemmas.Bool.{false≢true, eq-eqb, ne_eqb}
use Rattle.std.proofs.lemmas.Cmp.{nat_cmp_total, eq_by_cmp_equiv}
use Rattle.std.proofs.lemmas.List.{take_more, length-append, length-take-le}
use Rattle.std.proofs.Math.Seq.{take-append_seam}
use Rattle.std.specs.FinMap as map
use Rattle.std.specs.Io.KnownBytes.{append_known}
use Rattle.std.specs.List.{AllByRecursion, IsDistinct}
use Rattle.std.specs.Ordering.{nat_cmp, eq_by_cmp}
use Rattle.std.specs.Prelude.{nat_eq, IsErr, IsErrOf, IsErrAnd}
use Rattle.std.specs.Cmp.{unsigned_tied}
use Rattle.std.proofs.lemmas.List.Elements.{All-push, All-from_recursion, recursion_from_All}
use Rattle.xdb_device.specs.Told.{Held, Told, Created, IsListed, noted, put, without}
use Rattle.xdb_device.specs.Work.{cause_of}
use Rattle.xdb_device.specs.declared.fault.DevNo.{DevNo}
use Rattle.xdb_device.specs.declared.fault.DevNo.TheVariants as dev
use Rattle.xdb_device.specs.declared.fault.WorkCause.{WorkCause}
use Rattle.xdb_device.specs.declared.fault.WorkCause.TheVariants as causes
use Rattle.xdb_rangedel.proofs.FragmentLaws.{All-at_Has}
use Rattle.xdb_rangedel.proofs.MemberLaws.{Has-from_Contains, Contains-from_Has, Has-append_left, Has-append_right, Has-append_cases, Has-get_or}
use Rattle.xdb_rangedel.specs.Members.{Has}
use Rattle.xdb_work.specs.Work.{IsNext, AreNew, Tried, IsHeld, AreHeld, under, but_last}

-- ---- numbers

pub one_longer : {A : Type 0} (xs ys : List A) (x : A) (n : ℕ) → ys ≡ xs ++ x ∷ [] → length xs ≡ n → length ys ≡ n + 1
one_longer xs ys x n is count = omega (arith, ap length is, length-append xs (x ∷ []), count)

more : (nums : List ℕ) (i num : ℕ) → IsNext nums i num → take (i + 1) nums ≡ take i nums ++ num ∷ []
more nums i num at = take_more nums i num at.inside ∙ ap (λ n. take i nums ++ n ∷ []) (sym at.is)

has_later : (nums : List ℕ) (i num : ℕ) → IsNext nums i num → Has nums num
has_later nums i num at = subst (λ n. Has nums n) (sym at.is) (Has-get_or nums i num at.inside)

-- the number at a place isn't among those before
pub apart : (nums : List ℕ) (i num : ℕ) → IsDistinct nat_eq nums → IsNext nums i num → Has (take i nums) num → ⊥
unfolding IsDistinct
apart [] i num distinct at has = absurd (omega (arith, at.inside))
apart (m ∷ nums) zero num distinct at has = absurd has
apart (m ∷ nums) (suc i) num distinct at (inl e) =
    let later : Has nums m = subst (λ n. Has nums n) (sym e) (has_later nums i num (record { inside = omega (arith, at.inside); is = at.is })) in
    false≢true (sym (All-at_Has (λ k. nat_eq m k ≡ false) nums m (All-from_recursion (λ k. nat_eq m k ≡ false) nums distinct.0) later) ∙ eq-eqb m m refl)
apart (m ∷ nums) (suc i) num distinct at (inr has) = apart nums i num distinct.1 (record { inside = omega (arith, at.inside); is = at.is }) has

-- ---- lists that are told

noted_more : (known : Option (List ℕ)) (nums : List ℕ) (num : ℕ) → noted num (append_known known nums) ≡ append_known known (nums ++ num ∷ [])
noted_more None nums num = refl
noted_more (Some xs) nums num = ap Some (append_assoc xs nums (num ∷ []))

listed_cases : (num : ℕ) (known : Option (List ℕ)) (nums : List ℕ) → IsListed num (append_known known nums) → IsListed num known ⊎ Has nums num
listed_cases num None nums is = absurd is
listed_cases num (Some xs) nums is = elim (Has-append_cases xs nums num (Has-from_Contains (xs ++ nums) num is)) [
  | inl has ↦ inl (Contains-from_Has xs num has)
  | inr has ↦ inr has
]

append_none : (known : Option (List ℕ)) → known ≡ append_known known []
append_none None = refl
append_none (Some xs) = ap Some (sym (append-nil xs))

-- ---- what is held

other_key : (a b : ℕ) → (a ≡ b → ⊥) → eq_by_cmp nat_cmp a b ≡ false
other_key a b h = unsigned_tied a b ∙ ne_eqb a b h

under-put : (num other : ℕ) (bytes : List ℕ) (holds : Option Held) → (other ≡ num → ⊥) → under other (put num bytes holds) ≡ under other holds
under-put num other bytes None h = refl
under-put num other bytes (Some held) h = ap Some (map.get-insert nat_cmp_total held num bytes other ∙ ap (λ b. cond b (Some bytes) (map.get held other)) (other_key other num h))

under-without : (num other : ℕ) (holds : Option Held) → (other ≡ num → ⊥) → under other (without num holds) ≡ under other holds
under-without num other None h = refl
under-without num other (Some held) h = ap Some (map.get-remove nat_cmp_total held num other ∙ ap (λ b. cond b None (map.get held other)) (other_key other num h))

-- ---- work so far

pub tried_none : (reserved : List ℕ) (t : Told) → Tried reserved [] ⊥ t t
tried_none reserved t = record {
  creations = inl (append_none t.creations);
  removals = refl;
  given_up = λ _. refl;
  elsewhere = λ num _. refl;
}

pub tried_where : {P Q : Type 0} (reserved tried : List ℕ) (a b : Told) → (P → Q) → Tried reserved tried P a b → Tried reserved tried Q a b
tried_where reserved tried a b means t = record {
  creations = elim t.creations [ inl e ↦ inl e | inr e ↦ inr (means e.0, e.1) ];
  removals = t.removals;
  given_up = t.given_up;
  elsewhere = t.elsewhere;
}

created_all : {P : Type 0} (known new : Option (List ℕ)) (nums : List ℕ) → (P → ⊥) → (new ≡ append_known known nums) ⊎ (P × (new ≡ append_known known (but_last nums))) → new ≡ append_known known nums
created_all known new nums never t = elim t [ inl e ↦ e | inr e ↦ absurd (never e.0) ]

given_up_same : (reserved : List ℕ) (i num : ℕ) (old mid new : Told) → IsNext reserved i num → mid.creations ≡ append_known old.creations (take i reserved) → (AreNew reserved old.creations → mid.given_up ≡ old.given_up)
    → (new.given_up ≡ mid.given_up) ⊎ ((new.given_up ≡ noted num mid.given_up) × IsListed num mid.creations) → AreNew reserved old.creations → new.given_up ≡ old.given_up
given_up_same reserved i num old mid new at was before gave fresh = elim gave [
  | inl e ↦ e ∙ before fresh
  | inr e ↦ absurd (elim (listed_cases num old.creations (take i reserved) (subst (IsListed num) was e.1)) [
    | inl listed ↦ fresh.unlisted num (has_later reserved i num at) listed
    | inr has ↦ apart reserved i num fresh.distinct at has
  ])
]

not_last : (nums : List ℕ) (i num other : ℕ) → IsNext nums i num → (Has (take (i + 1) nums) other → ⊥) → (other ≡ num → ⊥) × (Has (take i nums) other → ⊥)
not_last nums i num other at not = (
  λ same. not (subst (λ ns. Has ns other) (sym (more nums i num at)) (Has-append_right (take i nums) (num ∷ []) other (inl (sym same)))),
  λ has. not (subst (λ ns. Has ns other) (sym (more nums i num at)) (Has-append_left (take i nums) (num ∷ []) other has)),
)

listed_more : (old mid new : Option (List ℕ)) (nums : List ℕ) (i num : ℕ) → IsNext nums i num → mid ≡ append_known old (take i nums) → new ≡ noted num mid → new ≡ append_known old (take (i + 1) nums)
listed_more old mid new nums i num at was made =
    made ∙ ap (noted num) was ∙ noted_more old (take i nums) num ∙ ap (append_known old) (sym (more nums i num at))

-- one more file was created
pub tried_more : {F : Type 0} (reserved : List ℕ) (i num : ℕ) (bytes : List ℕ) (file : F) (old mid new : Told) → IsNext reserved i num → Tried reserved (take i reserved) ⊥ old mid → Created num bytes (Ok file) mid new → Tried reserved (take (i + 1) reserved) ⊥ old new
tried_more reserved i num bytes file old mid new at t c =
    let was = created_all old.creations mid.creations (take i reserved) (λ never. never) t.creations in
    record {
      creations = inl (listed_more old.creations mid.creations new.creations reserved i num at was c.listed);
      removals = c.same_removals ∙ t.removals;
      given_up = given_up_same reserved i num old mid new at was t.given_up c.gave_up;
      elsewhere = λ other not.
          let apart = not_last reserved i num other at not in
          ap (under other) c.held ∙ under-put num other bytes mid.holds apart.0 ∙ t.elsewhere other apart.1;
    }

but_last-push : (nums : List ℕ) (n : ℕ) → but_last (nums ++ n ∷ []) ≡ nums
but_last-push nums n =
    let len : length (nums ++ n ∷ []) - 1 ≡ length nums = omega (arith, length-append nums (n ∷ [])) in
    ap (λ k. take k (nums ++ n ∷ [])) len ∙ take-append_seam nums (n ∷ [])

-- the number of a call that failed is listed; without memory it is listed or not
listed_failed : {F : Type 0} (reserved : List ℕ) (i num : ℕ) (bytes : List ℕ) (why : DevNo) (result : Result F DevNo) (old mid new : Told) → IsNext reserved i num → mid.creations ≡ append_known old.creations (take i reserved) → result ≡ Err why → Created num bytes result mid new
    → (new.creations ≡ append_known old.creations (take (i + 1) reserved)) ⊎ ((cause_of why ≡ causes.Memory) × (new.creations ≡ append_known old.creations (but_last (take (i + 1) reserved))))
listed_failed reserved i num bytes dev.Failed result old mid new at was is c = inl (listed_more old.creations mid.creations new.creations reserved i num at was (c.listed_failed is))
listed_failed reserved i num bytes dev.Memory result old mid new at was is c = elim (c.listed_memory is) [
  | inl same ↦ inr (refl, same ∙ was ∙ ap (append_known old.creations) (sym (ap but_last (more reserved i num at) ∙ but_last-push (take i reserved) num)))
  | inr made ↦ inl (listed_more old.creations mid.creations new.creations reserved i num at was made)
]

-- a file wasn't created
pub tried_failed : {F : Type 0} (reserved : List ℕ) (i num : ℕ) (bytes : List ℕ) (why : DevNo) (old mid new : Told) → IsNext reserved i num → Tried reserved (take i reserved) ⊥ old mid → Created {F = F} num bytes (Err why) mid new → Tried reserved (take (i + 1) reserved) (cause_of why ≡ causes.Memory) old new
tried_failed reserved i num bytes why old mid new at t c =
    let was = created_all old.creations mid.creations (take i reserved) (λ never. never) t.creations in
    record {
      creations = listed_failed reserved i num bytes why (Err why) old mid new at was refl c;
      removals = c.same_removals ∙ t.removals;
      given_up = given_up_same reserved i num old mid new at was t.given_up c.gave_up;
      elsewhere = λ other not.
          let apart = not_last reserved i num other at not in
          sym (under-without num other new.holds apart.0) ∙ ap (under other) c.others ∙ under-without num other mid.holds apart.0 ∙ t.elsewhere other apart.1;
    }

-- ---- the first of the reserved numbers

pub first_numbers : (nums tried : List ℕ) (i : ℕ) → i ≤ length nums → tried ≡ take i nums → tried ≡ take (length tried) nums
first_numbers nums tried i inside is = is ∙ ap (λ n. take n nums) (sym (ap length is ∙ length-take-le i nums inside))

-- ---- files that are held

module _ {F : Type 0} (size : F → ℕ) (bytes : F → Option (List ℕ)) where
  pub held_none : (holds : Option Held) → AreHeld size bytes holds []
  held_none None = tt
  held_none (Some held) = tt

  held_beside : (held : Held) (num : ℕ) (is : List ℕ) (files : List (ℕ × F)) → (Has (map (λ f. f.0) files) num → ⊥) → AllByRecursion (IsHeld size bytes held) files → AllByRecursion (IsHeld size bytes (map.insert held num is)) files
  held_beside held num is [] apart all = tt
  held_beside held num is (f ∷ files) apart all = (
    record {
      is = all.0.is;
      there = map.get-insert nat_cmp_total held num is f.0 ∙ ap (λ b. cond b (Some is) (map.get held f.0)) (other_key f.0 num (λ same. apart (inl same))) ∙ all.0.there;
      len = all.0.len;
      told = all.0.told;
    },
    held_beside held num is files (λ has. apart (inr has)) all.1,
  )

  -- one file more is held, under another number than those before
  pub held_more : (holds new : Option Held) (num : ℕ) (is : List ℕ) (file : F) (files : List (ℕ × F)) → (Has (map (λ f. f.0) files) num → ⊥) → new ≡ put num is holds → length is ≡ size file → IfSome (bytes file) (λ told. told ≡ is)
      → AreHeld size bytes holds files → AreHeld size bytes new (files ++ (num, file) ∷ [])
  held_more None new num is file files apart made len told all = subst (λ h. AreHeld size bytes h (files ++ (num, file) ∷ [])) (sym made) tt
  held_more (Some held) new num is file files apart made len told all =
      let P = IsHeld size bytes (map.insert held num is) in
      let last : P (num, file) = record {
        is = is;
        there = map.get-insert nat_cmp_total held num is num ∙ ap (λ b. cond b (Some is) (map.get held num)) ((eq_by_cmp_equiv nat_cmp_total).refl num);
        len = len;
        told = told;
      } in
      subst (λ h. AreHeld size bytes h (files ++ (num, file) ∷ [])) (sym made) (recursion_from_All P (files ++ (num, file) ∷ []) (All-push P files (num, file) (All-from_recursion P files (held_beside held num is files apart all)) last))

-- ---- what stopped the work

pub is_failed : (why : DevNo) → cause_of why ≡ causes.Fault → why ≡ dev.Failed
is_failed dev.Failed e = refl
is_failed dev.Memory e = absurd (cc)

pub stopped_by : {T : Type 0} (result : Result T WorkCause) (why : DevNo) → IsErr result → IsErrAnd result (λ e. e ≡ cause_of why) → result ≡ Err (cause_of why)
stopped_by (Ok x) why failed cause = absurd (false≢true failed)
stopped_by (Err e) why failed cause = ap Err cause

-- the cause of the answer is that of the failure
pub fault_means : {T F : Type 0} (result : Result T WorkCause) (why : DevNo) → result ≡ Err (cause_of why) → IsErrOf result causes.Fault → IsErrOf {T = F} (Err why) dev.Failed
fault_means result why is fault = ap Err (is_failed why (same_cause _ _ (sym is ∙ fault)))
  where
    same_cause : {T : Type 0} (a b : WorkCause) → ◌≡◌ {A = Result T WorkCause} (Err a) (Err b) → a ≡ b
    same_cause a b e = cc

pub tried_next : (nums : List ℕ) (i num : ℕ) (old new : List ℕ) → IsNext nums i num → old ≡ take i nums → new ≡ old ++ num ∷ [] → new ≡ take (i + 1) nums
tried_next nums i num old new at was made = made ∙ ap (λ ns. ns ++ num ∷ []) was ∙ sym (more nums i num at)
