-- The open snapshots: the one of a name stands at one place, and what holds of all stays.
use Rattle.std.proofs.Common.{◌≡◌, ℕ, ◌-◌, ◌<◌, ◌≤◌, Bool, true, false, not, ◌&&◌, cond, List, [], ◌∷◌, ◌++◌, length, map, filter, get_or, set, drop, Option, Some, None, inl, inr, refl, sym, ap, ap₂, ◌∙◌, arith}
use Rattle.std.specs.Bool.{IsTrue}
use Rattle.std.specs.Borrow.{Bor}
use Rattle.std.specs.Prelude.{is_some}
use Rattle.std.specs.Option.{option_copied}
use Rattle.std.specs.Cmp.{tied_itself, Equal-is}
use Rattle.std.specs.List.{remove, position, list_all}
use Rattle.std.specs.Ordering.{is_eq}
use Rattle.std.proofs.lemmas.Bool.{cases_Bool, cases_lt, false≢true, not_from_false}
use Rattle.std.proofs.lemmas.List.{length_push, length-map, length-drop, get_or-map}
use Rattle.std.proofs.lemmas.List.Folds.{list_all-append}
use Rattle.std.proofs.lemmas.List.Kept.{AllPairs-filter}
use Rattle.std.proofs.lemmas.List.Quantifiers.{all_pairs_push, position-Some}
use Rattle.xdb_key.specs.Order.{key_cmp}
use Rattle.xdb_key.specs.Bounds.{Bounds}
use Rattle.xdb_key.proofs.OrderLaws.{key_exact, key_total}
use Rattle.xdb_lists.proofs.SortedLaws.{all_filter}
use Rattle.xdb_plain.specs.Snapshots.{are_rising}
use Rattle.xdb_plain.specs.State.{same_name}
use Rattle.xdb_snap.specs.declared.snap.Snap.{Snap}
use Rattle.xdb_snap.specs.Changes.{may_give, may_turn, is_excised}
use Rattle.xdb_snap.specs.Listed.{AreListed, has_name, named, without, changed}
use Rattle.xdb_snap.proofs.AloneLaws.{none-each, none-left_out, none-found, alone-found, alone-left_out, alone-changed}

-- ---- names

same_name-tells : (a b : List ℕ) → same_name a b ≡ true → a ≡ b
same_name-tells a b h = key_exact a b ((Equal-is (key_cmp a b)).0 h)

same_name-itself : (a : List ℕ) → same_name a a ≡ true
same_name-itself a = ap is_eq (tied_itself key_total a)

pub not-copied : {X : Type 0} (o : Option (Bor X)) (p : Option X) → option_copied o ≡ p → is_some o ≡ false → p ≡ None
not-copied None p e off = sym e
not-copied (Some b) p e off = absurd (false≢true (sym off))

module _ {H T : Type 0} where
  apart : (name : List ℕ) (a b : Snap H T) → has_name name a ≡ true → not (same_name a.name b.name) ≡ true → has_name name b ≡ false
  apart name a b is off = elim (cases_Bool (has_name name b)) [
    | inl here ↦
        let first = same_name-tells a.name name is in
        let second = same_name-tells b.name name here in
        let same : same_name a.name b.name ≡ true = ap₂ same_name first second ∙ same_name-itself name in
        absurd (false≢true (sym (ap not same) ∙ off))
    | inr h ↦ h
  ]

  -- no other has the name of the one at the place
  others-off : (name : List ℕ) (snaps : List (Snap H T)) (at : ℕ) → AreListed snaps → position (has_name name) snaps ≡ Some at → (k : ℕ) (d : Snap H T) → k < length snaps → (k ≡ at → ⊥) → has_name name (get_or snaps k d) ≡ false
  others-off name snaps at listed there k d l ne =
      let p = position-Some (has_name name) snaps at d there in
      elim (cases_lt k at) [
        | inl front ↦ p.2 k front
        | inr back ↦ apart name (get_or snaps at d) (get_or snaps k d) p.1 (listed.names at k d (omega arith) l)
      ]

  -- ---- the one at the place

  pub place-found : (name : List ℕ) (snaps : List (Snap H T)) (at : ℕ) (s : Snap H T) → AreListed snaps → position (has_name name) snaps ≡ Some at → s ≡ get_or snaps at s → named name snaps ≡ Some s
  place-found name snaps at s listed there is =
      let p = position-Some (has_name name) snaps at s there in
      alone-found (has_name name) s snaps at p.0 (sym is) (ap (has_name name) is ∙ p.1) (others-off name snaps at listed there)

  pub place-removed : (name : List ℕ) (snaps : List (Snap H T)) (at : ℕ) (s : Snap H T) → AreListed snaps → position (has_name name) snaps ≡ Some at → s ≡ get_or snaps at s → remove snaps at ≡ without name snaps
  place-removed name snaps at s listed there is =
      let p = position-Some (has_name name) snaps at s there in
      alone-left_out (has_name name) s snaps at p.0 (sym is) (ap (has_name name) is ∙ p.1) (others-off name snaps at listed there)

  pub place-changed : (f : Snap H T → Snap H T) (name : List ℕ) (snaps : List (Snap H T)) (at : ℕ) (s : Snap H T) → AreListed snaps → position (has_name name) snaps ≡ Some at → s ≡ get_or snaps at s → set snaps at (f s) ≡ changed name f snaps
  place-changed f name snaps at s listed there is =
      let p = position-Some (has_name name) snaps at s there in
      alone-changed (has_name name) f s snaps at p.0 (sym is) (ap (has_name name) is ∙ p.1) (others-off name snaps at listed there)

  pub no_place-found : (name : List ℕ) (snaps : List (Snap H T)) → position (has_name name) snaps ≡ None → named name snaps ≡ None
  no_place-found name snaps none = none-found (has_name name) snaps none

  pub no_place-removed : (name : List ℕ) (snaps : List (Snap H T)) → position (has_name name) snaps ≡ None → snaps ≡ without name snaps
  no_place-removed name snaps none = sym (none-left_out (has_name name) snaps (none-each (has_name name) snaps (none-found (has_name name) snaps none)))

  -- ---- what is asked of the one of a name

  pub gives-none : (o : Option (Snap H T)) → o ≡ None → may_give o ≡ true → ⊥
  gives-none o none may = false≢true (sym (ap may_give none) ∙ may)

  pub turns-none : (o : Option (Snap H T)) → o ≡ None → may_turn o ≡ true → ⊥
  turns-none o none may = false≢true (sym (ap may_turn none) ∙ may)

  pub ticket-there : (o : Option (Snap H T)) (s : Snap H T) → o ≡ Some s → may_give o ≡ true → s.ticket ≡ None → ⊥
  ticket-there o s there may none = by (is_excised s.state) s.ticket (sym (ap may_give there) ∙ may) none
    where
      by : (e : Bool) (t : Option T) → (not e && is_some t) ≡ true → t ≡ None → ⊥
      by true t m n = false≢true m
      by false (Some t) m n = absurd (cc)
      by false None m n = false≢true m

  -- ---- what holds of all stays

  pub listed-made : (snaps : List (Snap H T)) (s : Snap H T) → AreListed snaps → named s.name snaps ≡ None → are_rising s.ranges ≡ true → length snaps < 64 → AreListed (snaps ++ s ∷ [])
  listed-made snaps s listed free rising room = record {
    names = all_pairs_push (λ a b. IsTrue (not (same_name a.name b.name))) snaps s listed.names (λ k d l. not_from_false (same_name (get_or snaps k d).name s.name) (none-each (has_name s.name) snaps free k d l));
    ranges = list_all-append (λ x. are_rising x.ranges) snaps (s ∷ []) ∙ ap₂ ◌&&◌ listed.ranges (ap (λ t. t && true) rising);
    few = let long = length_push snaps s in omega arith;
  }

  pub listed-removed : (name : List ℕ) (snaps : List (Snap H T)) → AreListed snaps → AreListed (without name snaps)
  listed-removed name snaps listed = record {
    names = AllPairs-filter (λ a b. IsTrue (not (same_name a.name b.name))) (λ s. not (has_name name s)) snaps listed.names;
    ranges = all_filter (λ s. are_rising s.ranges) (λ s. not (has_name name s)) snaps listed.ranges;
    few = let long = filter-shorter (λ s. not (has_name name s)) snaps in omega arith;
  }
    where
      shorter : {X : Type 0} (t : Bool) (x : X) (xs ys : List X) → length ys ≤ length xs → length (cond t (x ∷ ys) ys) ≤ length (x ∷ xs)
      shorter true x xs ys l = omega arith
      shorter false x xs ys l = omega arith

      filter-shorter : {X : Type 0} (p : X → Bool) (xs : List X) → length (filter p xs) ≤ length xs
      filter-shorter p [] = omega arith
      filter-shorter p (x ∷ xs) = shorter (p x) x xs (filter p xs) (filter-shorter p xs)

  -- a change that leaves names and ranges
  pub listed-changed : (f : Snap H T → Snap H T) (snaps : List (Snap H T)) → ((s : Snap H T) → (f s).name ≡ s.name) → ((s : Snap H T) → (f s).ranges ≡ s.ranges) → AreListed snaps → AreListed (map f snaps)
  listed-changed f snaps name ranges listed = record {
    names = λ i j d less l.
        let long = length-map snaps f in
        let a = ap (λ s. s.name) (get_or-map f snaps i d d (omega arith)) ∙ name (get_or snaps i d) in
        let b = ap (λ s. s.name) (get_or-map f snaps j d d (omega arith)) ∙ name (get_or snaps j d) in
        ap not (ap₂ same_name a b) ∙ listed.names i j d less (omega arith);
    ranges = all-rising snaps listed.ranges;
    few = let long = length-map snaps f in omega arith;
  }
    where
      both : (x y : Bool) (s : Snap H T) → are_rising (f s).ranges ≡ x → (x && y) ≡ true → (z : Bool) → (y ≡ true → z ≡ true) → (are_rising (f s).ranges && z) ≡ true
      both true y s is all z rest = ap₂ ◌&&◌ is (rest all)
      both false y s is all z rest = absurd (false≢true all)

      all-rising : (xs : List (Snap H T)) → list_all (λ s. are_rising s.ranges) xs ≡ true → list_all (λ s. are_rising s.ranges) (map f xs) ≡ true
      all-rising [] all = refl
      all-rising (x ∷ xs) all =
          both (are_rising x.ranges) (list_all (λ s. are_rising s.ranges) xs) x (ap are_rising (ranges x)) all (list_all (λ s. are_rising s.ranges) (map f xs)) (all-rising xs)

  pub listed-changed_at : (f : Snap H T → Snap H T) (name : List ℕ) (snaps : List (Snap H T)) → ((s : Snap H T) → (f s).name ≡ s.name) → ((s : Snap H T) → (f s).ranges ≡ s.ranges) → AreListed snaps → AreListed (changed name f snaps)
  listed-changed_at f name snaps same_names ranges listed =
      listed-changed (λ s. cond (has_name name s) (f s) s) snaps
      (λ s. one (λ x. x.name ≡ s.name) (has_name name s) (f s) s (same_names s) refl)
      (λ s. one (λ x. x.ranges ≡ s.ranges) (has_name name s) (f s) s (ranges s) refl)
      listed
    where
      one : (P : Snap H T → Type 0) (t : Bool) (a b : Snap H T) → P a → P b → P (cond t a b)
      one P true a b p q = p
      one P false a b p q = q

-- ---- ranges

-- of one range at the most nothing is asked
few-rise : (ranges : List Bounds) → length ranges ≤ 1 → are_rising ranges ≡ true
few-rise [] few = refl
few-rise (r ∷ []) few = refl
few-rise (r ∷ s ∷ rs) few = absurd (omega arith)

pub rises-at_end : (ranges : List Bounds) (at : ℕ) → 1 ≤ at → length ranges ≤ at → are_rising (drop (at - 1) ranges) ≡ are_rising ranges → true ≡ are_rising ranges
rises-at_end ranges at some end same = sym (few-rise (drop (at - 1) ranges) (let long = length-drop (at - 1) ranges in omega arith)) ∙ same
