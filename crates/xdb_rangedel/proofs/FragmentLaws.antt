-- Parts of fragments are fragments.
use Rattle.std.proofs.Common.{◌≡◌, ℕ, suc, ◌<◌, true, ◌&&◌, cond, ltb, List, [], ◌∷◌, get_or, Option, Some, None, inl, inr, IsTrue, refl, sym, ap, ◌∙◌, arith}
use Rattle.std.proofs.lemmas.Bool.{cases_Bool, and_parts, and_from, or_left, or_right, lt-ltb}
use Rattle.std.proofs.lemmas.List.Elements.{All-nil, All-cons, All-tail, All-contains}
use Rattle.std.proofs.lemmas.List.Kept.{AllPairs-cons}
use Rattle.std.specs.List.{All, AllPairs, filter_map, cons_option}
use Rattle.std.specs.Ordering.{eq_by_cmp}
use Rattle.std.proofs.lemmas.Option.{cond_some}
use Rattle.xdb_key.specs.Order.{key_cmp, is_below, is_upto}
use Rattle.xdb_key.specs.Bounds.{Bounds, bounds, meets}
use Rattle.xdb_key.specs.Entries.{Tombstone, tombstone}
use Rattle.xdb_key.proofs.OrderLaws.{upto-itself, upto_from_below, upto_trans}
use Rattle.xdb_rangedel.specs.Members.{Has}
use Rattle.xdb_rangedel.specs.Pieces.{precedes, is_ordered, AreFragments}
use Rattle.xdb_rangedel.specs.Clip.{later_of, earlier_of, starting_from, ending_by, part_before, part_from, part_in, parts_before, parts_from, parts_in}
use Rattle.xdb_rangedel.proofs.MemberLaws.{Contains-from_Has, Has-get_or, Has-from_filter_map}
use Rattle.xdb_rangedel.proofs.NewestLaws.{same_key-itself}
use Rattle.xdb_rangedel.proofs.PartLaws.{precedes_tells}

pub precedes_same : (s t : Tombstone) → s.range ≡ t.range → t.seq < s.seq → precedes s t ≡ true
precedes_same s t same less =
    let los = eq_by_cmp key_cmp s.range.lo t.range.lo in
    let his = eq_by_cmp key_cmp s.range.hi t.range.hi in
    let lo : los ≡ true = ap (λ r. eq_by_cmp key_cmp s.range.lo r.lo) (sym same) ∙ same_key-itself s.range.lo in
    let hi : his ≡ true = ap (λ r. eq_by_cmp key_cmp s.range.hi r.hi) (sym same) ∙ same_key-itself s.range.hi in
    or_left (los && his && ltb t.seq s.seq) (is_upto s.range.hi t.range.lo) (and_from (los && his) (ltb t.seq s.seq) (and_from los his lo hi) (lt-ltb t.seq s.seq less))

pub precedes_apart : (s t : Tombstone) → is_upto s.range.hi t.range.lo ≡ true → precedes s t ≡ true
precedes_apart s t apart =
    or_right (eq_by_cmp key_cmp s.range.lo t.range.lo && eq_by_cmp key_cmp s.range.hi t.range.hi && ltb t.seq s.seq) (is_upto s.range.hi t.range.lo) apart

pub All-from_Has : {A : Type 0} (P : A → Type 0) (xs : List A) → ((x : A) → Has xs x → P x) → All P xs
All-from_Has P xs h = λ k d l. h (get_or xs k d) (Has-get_or xs k d l)

pub All-at_Has : {A : Type 0} (P : A → Type 0) (xs : List A) (x : A) → All P xs → Has xs x → P x
All-at_Has P xs x all h = All-contains P xs x all (Contains-from_Has xs x h)

pub AllPairs-head : {A : Type 0} (R : A → A → Type 0) (x : A) (xs : List A) → AllPairs R (x ∷ xs) → All (R x) xs
AllPairs-head R x xs h = λ k d l. h 0 (suc k) d (omega arith) (omega arith)

pub AllPairs-tail : {A : Type 0} (R : A → A → Type 0) (x : A) (xs : List A) → AllPairs R (x ∷ xs) → AllPairs R xs
AllPairs-tail R x xs h = λ i j d less inside. h (suc i) (suc j) d (omega arith) (omega arith)

pub AreFragments-nil : AreFragments []
AreFragments-nil = record { ordered = All-nil (λ t. IsTrue (is_ordered t)); apart = λ i j d less inside. absurd (omega arith) }

pub AreFragments-tail : (t : Tombstone) (ts : List Tombstone) → AreFragments (t ∷ ts) → AreFragments ts
AreFragments-tail t ts f = record {
  ordered = All-tail (λ x. IsTrue (is_ordered x)) t ts f.ordered;
  apart = AllPairs-tail (λ x y. IsTrue (precedes x y)) t ts f.apart;
}

module _ (f : Tombstone → Option Tombstone) (order : (s u : Tombstone) → is_ordered s ≡ true → f s ≡ Some u → is_ordered u ≡ true) (apart : (s t u v : Tombstone) → precedes s t ≡ true → f s ≡ Some u → f t ≡ Some v → precedes u v ≡ true) where
  filtered_with : (t : Tombstone) (ts : List Tombstone) (o : Option Tombstone) → f t ≡ o → AreFragments (t ∷ ts) → AreFragments (filter_map f ts) → AreFragments (cons_option o (filter_map f ts))
  filtered_with t ts None e fragments rest = rest
  filtered_with t ts (Some u) e fragments rest = record {
    ordered = All-cons (λ x. IsTrue (is_ordered x)) u (filter_map f ts) (order t u (fragments.ordered 0 t (omega arith)) e) rest.ordered;
    apart = AllPairs-cons (λ x y. IsTrue (precedes x y)) u (filter_map f ts) (All-from_Has (λ y. IsTrue (precedes u y)) (filter_map f ts) (λ v h.
        let from = Has-from_filter_map f ts v h in
        apart t from.0 u v (All-at_Has (λ y. IsTrue (precedes t y)) ts from.0 (AllPairs-head (λ x y. IsTrue (precedes x y)) t ts fragments.apart) from.1) e from.2)) rest.apart;
  }

  pub AreFragments-filter_map : (ts : List Tombstone) → AreFragments ts → AreFragments (filter_map f ts)
  AreFragments-filter_map [] fragments = AreFragments-nil
  AreFragments-filter_map (t ∷ ts) fragments = filtered_with t ts (f t) refl fragments (AreFragments-filter_map ts (AreFragments-tail t ts fragments))

earlier-upto : (a b : List ℕ) → is_upto (earlier_of a b) b ≡ true
earlier-upto a b = elim (cases_Bool (is_below a b)) [
  | inl h ↦ ap (λ x. is_upto (cond x a b) b) h ∙ upto_from_below a b h
  | inr h ↦ ap (λ x. is_upto (cond x a b) b) h ∙ upto-itself b
]

upto-later : (a b : List ℕ) → is_upto b (later_of a b) ≡ true
upto-later a b = elim (cases_Bool (is_below b a)) [
  | inl h ↦ ap (λ x. is_upto b (cond x a b)) h ∙ upto_from_below b a h
  | inr h ↦ ap (λ x. is_upto b (cond x a b)) h ∙ upto-itself b
]

below-earlier : (c a b : List ℕ) → is_below c a ≡ true → is_below c b ≡ true → is_below c (earlier_of a b) ≡ true
below-earlier c a b p q = elim (cases_Bool (is_below a b)) [
  | inl h ↦ ap (λ x. is_below c (cond x a b)) h ∙ p
  | inr h ↦ ap (λ x. is_below c (cond x a b)) h ∙ q
]

later-below : (c a b : List ℕ) → is_below a c ≡ true → is_below b c ≡ true → is_below (later_of a b) c ≡ true
later-below c a b p q = elim (cases_Bool (is_below b a)) [
  | inl h ↦ ap (λ x. is_below (cond x a b) c) h ∙ p
  | inr h ↦ ap (λ x. is_below (cond x a b) c) h ∙ q
]

-- a part of each of two fragments, cut by one rule on their ranges
apart_by : (cut : Bounds → Bounds) (s t : Tombstone) → ((a b : Bounds) → is_upto a.hi b.lo ≡ true → is_upto (cut a).hi (cut b).lo ≡ true) → precedes s t ≡ true → precedes (tombstone (cut s.range) s.seq) (tombstone (cut t.range) t.seq) ≡ true
apart_by cut s t keep before = elim (precedes_tells s t before) [
  | inl (same, less) ↦ precedes_same (tombstone (cut s.range) s.seq) (tombstone (cut t.range) t.seq) (ap cut same) less
  | inr apart ↦ precedes_apart (tombstone (cut s.range) s.seq) (tombstone (cut t.range) t.seq) (keep s.range t.range apart)
]

along_both : (s t u v : Tombstone) → s ≡ u → t ≡ v → precedes s t ≡ true → precedes u v ≡ true
along_both s t u v e g h = sym (λ i. precedes (e i) (g i)) ∙ h

pub AreFragments-parts_before : (at : List ℕ) (ts : List Tombstone) → AreFragments ts → AreFragments (parts_before at ts)
AreFragments-parts_before at = AreFragments-filter_map (part_before at)
    (λ s u o e.
    let (started, same) = cond_some (is_below s.range.lo at) (ending_by at s) u e in
    ap is_ordered (sym same) ∙ below-earlier s.range.lo at s.range.hi started o)
    (λ s t u v before e g.
    along_both (ending_by at s) (ending_by at t) u v (cond_some (is_below s.range.lo at) (ending_by at s) u e).1 (cond_some (is_below t.range.lo at) (ending_by at t) v g).1
    (apart_by (λ r. bounds r.lo (earlier_of at r.hi)) s t (λ a b apart. upto_trans (earlier_of at a.hi) a.hi b.lo (earlier-upto at a.hi) apart) before))

pub AreFragments-parts_from : (at : List ℕ) (ts : List Tombstone) → AreFragments ts → AreFragments (parts_from at ts)
AreFragments-parts_from at = AreFragments-filter_map (part_from at)
    (λ s u o e.
    let (open_, same) = cond_some (is_below at s.range.hi) (starting_from at s) u e in
    ap is_ordered (sym same) ∙ later-below s.range.hi at s.range.lo open_ o)
    (λ s t u v before e g.
    along_both (starting_from at s) (starting_from at t) u v (cond_some (is_below at s.range.hi) (starting_from at s) u e).1 (cond_some (is_below at t.range.hi) (starting_from at t) v g).1
    (apart_by (λ r. bounds (later_of at r.lo) r.hi) s t (λ a b apart. upto_trans a.hi b.lo (later_of at b.lo) apart (upto-later at b.lo)) before))

-- a part in a range that isn't empty, of a span that isn't
pub part_in-ordered : (r : Bounds) (s u : Tombstone) → is_below r.lo r.hi ≡ true → is_ordered s ≡ true → part_in r s ≡ Some u → is_ordered u ≡ true
part_in-ordered r s u sane o e =
    let (met, same) = cond_some (meets s.range r) (starting_from r.lo (ending_by r.hi s)) u e in
    let (started, open_) = and_parts (is_below s.range.lo r.hi) (is_below r.lo s.range.hi) met in
    ap is_ordered (sym same)
    ∙ below-earlier (later_of r.lo s.range.lo) r.hi s.range.hi (later-below r.hi r.lo s.range.lo sane started) (later-below s.range.hi r.lo s.range.lo open_ o)

pub AreFragments-parts_in : (r : Bounds) (ts : List Tombstone) → is_below r.lo r.hi ≡ true → AreFragments ts → AreFragments (parts_in r ts)
AreFragments-parts_in r ts sane = AreFragments-filter_map (part_in r)
    (λ s u o e. part_in-ordered r s u sane o e)
    (λ s t u v before e g.
    let part = λ (x : Tombstone). starting_from r.lo (ending_by r.hi x) in
    along_both (part s) (part t) u v (cond_some (meets s.range r) (part s) u e).1 (cond_some (meets t.range r) (part t) v g).1
    (apart_by (λ x. bounds (later_of r.lo x.lo) (earlier_of r.hi x.hi)) s t
    (λ a b apart. upto_trans (earlier_of r.hi a.hi) a.hi (later_of r.lo b.lo) (earlier-upto r.hi a.hi) (upto_trans a.hi b.lo (later_of r.lo b.lo) apart (upto-later r.lo b.lo))) before))
    ts
