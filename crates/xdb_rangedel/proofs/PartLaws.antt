-- Searches in fragments, and the parts that they find.
use Rattle.std.proofs.Common.{◌≡◌, ℕ, zero, suc, ◌+◌, ◌-◌, min, ◌<◌, ◌≤◌, Bool, true, false, not, ◌&&◌, cond, ltb, leb, List, [], ◌∷◌, length, get_or, take, drop, map, Option, Some, None, inl, inr, ◌⊎◌, IsTrue, refl, sym, ap, ◌∙◌, subst, arith}
use Rattle.std.proofs.lemmas.Bool.{cases_Bool, cases_order, and_parts, and_from, and_left, and_right, or_cases, or_parts, or_left, or_right, false≢true, ltb-true, leb-true, leb-false, lt-ltb, le-ltb, not-true, le-leb, cond-true, cond-false}
use Rattle.std.proofs.lemmas.List.{get_or_default, get_or-drop, length-drop, length-take, get_or-take, take_rest}
use Rattle.std.proofs.lemmas.List.Elements.{All-drop}
use Rattle.std.specs.List.{All, filter_map, cons_option}
use Rattle.std.specs.List.Sorted.{IsPartitionedBy, IsPartitionPoint}
use Rattle.std.specs.Ordering.{eq_by_cmp}
use Rattle.xdb_key.specs.Order.{key_cmp, is_below, is_upto}
use Rattle.xdb_key.specs.Bounds.{Bounds, bounds, holds, meets}
use Rattle.xdb_key.specs.Entries.{Tombstone, tombstone}
use Rattle.xdb_key.proofs.OrderLaws.{upto-not_below, upto_from_below, below_trans, below_upto, upto_below, upto_trans}
use Rattle.xdb_rangedel.specs.Members.{Has}
use Rattle.xdb_rangedel.specs.Cover.{cover_of}
use Rattle.xdb_rangedel.specs.Pieces.{precedes, is_ordered, AreFragments}
use Rattle.xdb_rangedel.specs.Clip.{starting_from, ending_by, part_before, part_from, part_in, parts_before, parts_from, parts_in}
use Rattle.xdb_rangedel.specs.Sweep.{ends_by, starts_before, is_passed}
use Rattle.xdb_rangedel.proofs.MemberLaws.{Contains-from_Has, Has-get_or}
use Rattle.xdb_rangedel.proofs.NewestLaws.{same_key-tells}
use Rattle.xdb_rangedel.proofs.CoverLaws.{covers_at, cover_of-covered}

same_bounds : (r o : Bounds) → r.lo ≡ o.lo → r.hi ≡ o.hi → r ≡ o
same_bounds r o e f = λ i. record { lo = e i; hi = f i }

pub precedes_tells : (s t : Tombstone) → precedes s t ≡ true → ((s.range ≡ t.range) × (t.seq < s.seq)) ⊎ (is_upto s.range.hi t.range.lo ≡ true)
precedes_tells s t h =
    let los = eq_by_cmp key_cmp s.range.lo t.range.lo in
    let his = eq_by_cmp key_cmp s.range.hi t.range.hi in
    elim (or_cases (los && his && ltb t.seq s.seq) (is_upto s.range.hi t.range.lo) h) [
      | inl same ↦
          let (both, number) = and_parts (los && his) (ltb t.seq s.seq) same in
          let (lo, hi) = and_parts los his both in
          inl (same_bounds s.range t.range (same_key-tells s.range.lo t.range.lo lo) (same_key-tells s.range.hi t.range.hi hi), ltb-true t.seq s.seq number)
      | inr apart ↦ inr apart
    ]

below-false : (a b : List ℕ) → is_upto b a ≡ true → is_below a b ≡ false
below-false a b h = not-true (is_below a b) (sym (upto-not_below b a) ∙ h)

-- what passes a test also passes where it stands earlier
partitioned_by : (p : Tombstone → Bool) (ts : List Tombstone) → AreFragments ts → ((s t : Tombstone) → is_ordered s ≡ true → is_ordered t ≡ true → precedes s t ≡ true → p t ≡ true → p s ≡ true) → IsPartitionedBy p ts
partitioned_by p ts fragments step = λ i j d i_le_j inside h. elim (cases_order i j) [
  | inl e ↦ ap (λ n. p (get_or ts n d)) e ∙ h
  | inr (inl less) ↦ step (get_or ts i d) (get_or ts j d) (fragments.ordered i d (omega arith)) (fragments.ordered j d inside) (fragments.apart i j d less inside) h
  | inr (inr more) ↦ absurd (omega arith)
]

pub ends_by-partitioned : (at : List ℕ) (ts : List Tombstone) → AreFragments ts → IsPartitionedBy (ends_by at) ts
ends_by-partitioned at ts fragments = partitioned_by (ends_by at) ts fragments (λ s t os ot before h. elim (precedes_tells s t before) [
  | inl (same, less) ↦ ap (λ r. is_upto r.hi at) same ∙ h
  | inr apart ↦ upto_trans s.range.hi t.range.lo at apart (upto_trans t.range.lo t.range.hi at (upto_from_below t.range.lo t.range.hi ot) h)
])

pub starts_before-partitioned : (at : List ℕ) (ts : List Tombstone) → AreFragments ts → IsPartitionedBy (starts_before at) ts
starts_before-partitioned at ts fragments = partitioned_by (starts_before at) ts fragments (λ s t os ot before h. elim (precedes_tells s t before) [
  | inl (same, less) ↦ ap (λ r. is_below r.lo at) same ∙ h
  | inr apart ↦ below_trans s.range.lo s.range.hi at os (upto_below s.range.hi t.range.lo at apart h)
])

pub is_passed-partitioned : (key : List ℕ) (limit : ℕ) (ts : List Tombstone) → AreFragments ts → IsPartitionedBy (is_passed key limit) ts
is_passed-partitioned key limit ts fragments = partitioned_by (is_passed key limit) ts fragments (λ s t os ot before h. elim (precedes_tells s t before) [
  | inl (same, less) ↦ elim (or_cases (ends_by key t) (is_upto t.range.lo key && leb limit t.seq) h) [
    | inl done ↦ or_left (ends_by key s) (is_upto s.range.lo key && leb limit s.seq) (ap (λ r. is_upto r.hi key) same ∙ done)
    | inr high ↦
        let (start, number) = and_parts (is_upto t.range.lo key) (leb limit t.seq) high in
        let low : limit ≤ t.seq = leb-true limit t.seq number in
        or_right (ends_by key s) (is_upto s.range.lo key && leb limit s.seq) (and_from (is_upto s.range.lo key) (leb limit s.seq) (ap (λ r. is_upto r.lo key) same ∙ start) (le-leb limit s.seq (omega arith)))
  ]
  | inr apart ↦
      let start : is_upto t.range.lo key ≡ true = elim (or_cases (ends_by key t) (is_upto t.range.lo key && leb limit t.seq) h) [
        | inl done ↦ upto_trans t.range.lo t.range.hi key (upto_from_below t.range.lo t.range.hi ot) done
        | inr high ↦ (and_parts (is_upto t.range.lo key) (leb limit t.seq) high).0
      ] in
      or_left (ends_by key s) (is_upto s.range.lo key && leb limit s.seq) (upto_trans s.range.hi t.range.lo key apart start)
])

-- the first fragment that isn't passed decides

passed_covers_not : (key : List ℕ) (limit : ℕ) (t : Tombstone) → is_passed key limit t ≡ true → covers_at key limit t ≡ false
passed_covers_not key limit t h = elim (or_cases (ends_by key t) (is_upto t.range.lo key && leb limit t.seq) h) [
  | inl done ↦ and_left (holds t.range key) (ltb t.seq limit) (and_right (is_upto t.range.lo key) (is_below key t.range.hi) (below-false key t.range.hi done))
  | inr high ↦ and_right (holds t.range key) (ltb t.seq limit) (le-ltb t.seq limit (leb-true limit t.seq (and_parts (is_upto t.range.lo key) (leb limit t.seq) high).1))
]

-- a fragment that starts behind the key doesn't hold it
behind_covers_not : (key : List ℕ) (limit : ℕ) (t : Tombstone) → is_below key t.range.lo ≡ true → covers_at key limit t ≡ false
behind_covers_not key limit t h =
    and_left (holds t.range key) (ltb t.seq limit) (and_left (is_upto t.range.lo key) (is_below key t.range.hi) (upto-not_below t.range.lo key ∙ ap not h))

below-from_not_upto : (a b : List ℕ) → is_upto a b ≡ false → is_below b a ≡ true
below-from_not_upto a b h = elim (cases_Bool (is_below b a)) [ inl e ↦ e | inr e ↦ absurd (false≢true (sym h ∙ upto-not_below a b ∙ ap not e)) ]

-- what is known of the fragment at the place that the search finds
record Found (key : List ℕ) (limit : ℕ) (ts : List Tombstone) (n : ℕ) : Type 0 where
  fragments : AreFragments ts
  split : IsPartitionPoint (λ t. is_passed key limit t ≡ true) (λ t. is_passed key limit t ≡ false) ts n

-- the fragment at the place isn't passed
open_there : (key : List ℕ) (limit : ℕ) (ts : List Tombstone) (n : ℕ) (t : Tombstone) → Found key limit ts n → n < length ts → t ≡ get_or ts n t → (is_upto t.range.hi key ≡ false) × ((is_upto t.range.lo key && leb limit t.seq) ≡ false)
open_there key limit ts n t f inside e =
    or_parts (ends_by key t) (is_upto t.range.lo key && leb limit t.seq) (ap (is_passed key limit) e ∙ f.split.1 n t (omega arith) inside)

-- what stands before the place doesn't cover the key
earlier_covers_not : (key : List ℕ) (limit : ℕ) (ts : List Tombstone) (n j : ℕ) (u : Tombstone) → Found key limit ts n → j < n → get_or ts j u ≡ u → covers_at key limit u ≡ true → ⊥
earlier_covers_not key limit ts n j u f less e h =
    false≢true (sym (passed_covers_not key limit u (sym (ap (is_passed key limit) e) ∙ f.split.0 j u (omega arith) less)) ∙ h)

-- how the fragment at the place stands to a later one
later_tells : (key : List ℕ) (limit : ℕ) (ts : List Tombstone) (n j : ℕ) (t u : Tombstone) → Found key limit ts n → n < j → j < length ts → t ≡ get_or ts n t → get_or ts j u ≡ u → ((t.range ≡ u.range) × (u.seq < t.seq)) ⊎ (is_upto t.range.hi u.range.lo ≡ true)
later_tells key limit ts n j t u f less inside at_t at_u =
    let here : get_or ts n u ≡ t = get_or_default ts n u t (omega arith) ∙ sym at_t in
    precedes_tells t u (sym (ap (λ x. precedes x u) here) ∙ ap (precedes (get_or ts n u)) (sym at_u) ∙ f.fragments.apart n j u less inside)

one_place : (ts : List Tombstone) (n j : ℕ) (t u : Tombstone) → j < length ts → j ≡ n → t ≡ get_or ts n t → get_or ts j u ≡ u → u ≡ t
one_place ts n j t u inside e at_t at_u = sym at_u ∙ ap (λ i. get_or ts i u) e ∙ get_or_default ts n u t (omega arith) ∙ sym at_t

pub cover_found : (key : List ℕ) (limit : ℕ) (ts : List Tombstone) (n : ℕ) (t : Tombstone) → AreFragments ts → IsPartitionPoint (λ x. is_passed key limit x ≡ true) (λ x. is_passed key limit x ≡ false) ts n → n < length ts → t ≡ get_or ts n t → holds t.range key ≡ true → Some t.seq ≡ cover_of ts key limit
cover_found key limit ts n t fragments split inside at_t held =
    let f : Found key limit ts n = record { fragments = fragments; split = split } in
    let (behind, number) = open_there key limit ts n t f inside at_t in
    let start = (and_parts (is_upto t.range.lo key) (is_below key t.range.hi) held).0 in
    let low : t.seq < limit = leb-false limit t.seq (ap (λ b. b && leb limit t.seq) (sym start) ∙ number) in
    cover_of-covered ts key limit (Some t.seq) (
      (t, subst (λ x. Has ts x) (sym at_t) (Has-get_or ts n t inside), and_from (holds t.range key) (ltb t.seq limit) held (lt-ltb t.seq limit low), refl),
      λ u has covers.
          let (j, below, at_u) = Contains-from_Has ts u has in
          elim (cases_order j n) [
            | inl e ↦ let same : u.seq ≡ t.seq = ap (λ x. x.seq) (one_place ts n j t u below e at_t at_u) in omega arith
            | inr (inl less) ↦ absurd (earlier_covers_not key limit ts n j u f less at_u covers)
            | inr (inr more) ↦ elim (later_tells key limit ts n j t u f more below at_t at_u) [
              | inl (same, less) ↦ omega arith
              | inr apart ↦ absurd (false≢true (sym (behind_covers_not key limit u (below_upto key t.range.hi u.range.lo (below-from_not_upto t.range.hi key behind) apart)) ∙ covers))
            ]
          ],
    )

pub cover_not_held : (key : List ℕ) (limit : ℕ) (ts : List Tombstone) (n : ℕ) (t : Tombstone) → AreFragments ts → IsPartitionPoint (λ x. is_passed key limit x ≡ true) (λ x. is_passed key limit x ≡ false) ts n → n < length ts → t ≡ get_or ts n t → holds t.range key ≡ false → ◌≡◌ {A = Option ℕ} None (cover_of ts key limit)
cover_not_held key limit ts n t fragments split inside at_t free =
    let f : Found key limit ts n = record { fragments = fragments; split = split } in
    let behind = (open_there key limit ts n t f inside at_t).0 in
    let before_end : is_below key t.range.hi ≡ true = below-from_not_upto t.range.hi key behind in
    let before : is_below key t.range.lo ≡ true = elim (cases_Bool (is_upto t.range.lo key)) [
      | inl e ↦ absurd (false≢true (sym free ∙ and_from (is_upto t.range.lo key) (is_below key t.range.hi) e before_end))
      | inr e ↦ below-from_not_upto t.range.lo key e
    ] in
    cover_of-covered ts key limit None (λ u has covers.
    let (j, below, at_u) = Contains-from_Has ts u has in
    elim (cases_order j n) [
      | inl e ↦ false≢true (sym (behind_covers_not key limit u (ap (λ x. is_below key x.range.lo) (one_place ts n j t u below e at_t at_u) ∙ before)) ∙ covers)
      | inr (inl less) ↦ earlier_covers_not key limit ts n j u f less at_u covers
      | inr (inr more) ↦ elim (later_tells key limit ts n j t u f more below at_t at_u) [
        | inl (same, less) ↦ false≢true (sym (behind_covers_not key limit u (ap (λ r. is_below key r.lo) (sym same) ∙ before)) ∙ covers)
        | inr apart ↦ false≢true (sym (behind_covers_not key limit u (below_upto key t.range.hi u.range.lo before_end apart)) ∙ covers)
      ]
    ])

pub cover_past : (key : List ℕ) (limit : ℕ) (ts : List Tombstone) (n : ℕ) → AreFragments ts → IsPartitionPoint (λ x. is_passed key limit x ≡ true) (λ x. is_passed key limit x ≡ false) ts n → length ts ≤ n → ◌≡◌ {A = Option ℕ} None (cover_of ts key limit)
cover_past key limit ts n fragments split past =
    let f : Found key limit ts n = record { fragments = fragments; split = split } in
    cover_of-covered ts key limit None (λ u has covers.
    let (j, below, at_u) = Contains-from_Has ts u has in
    earlier_covers_not key limit ts n j u f (omega arith) at_u covers)

-- a list of which the test keeps a front, a back, or what stands between

filter_map_all : {A B : Type 0} (f : A → Option B) (g : A → B) (xs : List A) → ((i : ℕ) (d : A) → i < length xs → f (get_or xs i d) ≡ Some (g (get_or xs i d))) → filter_map f xs ≡ map g xs
filter_map_all f g [] h = refl
filter_map_all f g (x ∷ xs) h = ap (λ o. cons_option o (filter_map f xs)) (h 0 x (omega arith)) ∙ ap (λ ys. g x ∷ ys) (filter_map_all f g xs (λ i d l. h (suc i) d (omega arith)))

filter_map_none : {A B : Type 0} (f : A → Option B) (xs : List A) → ((i : ℕ) (d : A) → i < length xs → f (get_or xs i d) ≡ None) → filter_map f xs ≡ []
filter_map_none f [] h = refl
filter_map_none f (x ∷ xs) h = ap (λ o. cons_option o (filter_map f xs)) (h 0 x (omega arith)) ∙ filter_map_none f xs (λ i d l. h (suc i) d (omega arith))

filter_map_front : {A B : Type 0} (f : A → Option B) (g : A → B) (xs : List A) (n : ℕ) → ((i : ℕ) (d : A) → i < n → i < length xs → f (get_or xs i d) ≡ Some (g (get_or xs i d))) → ((i : ℕ) (d : A) → n ≤ i → i < length xs → f (get_or xs i d) ≡ None) → filter_map f xs ≡ map g (take n xs)
filter_map_front f g [] zero h k = refl
filter_map_front f g [] (suc n) h k = refl
filter_map_front f g (x ∷ xs) zero h k = filter_map_none f (x ∷ xs) (λ i d l. k i d (omega arith) l)
filter_map_front f g (x ∷ xs) (suc n) h k =
    ap (λ o. cons_option o (filter_map f xs)) (h 0 x (omega arith) (omega arith))
    ∙ ap (λ ys. g x ∷ ys) (filter_map_front f g xs n (λ i d a l. h (suc i) d (omega arith) (omega arith)) (λ i d a l. k (suc i) d (omega arith) (omega arith)))

filter_map_drop : {A B : Type 0} (f : A → Option B) (xs : List A) (n : ℕ) → ((i : ℕ) (d : A) → i < n → i < length xs → f (get_or xs i d) ≡ None) → filter_map f xs ≡ filter_map f (drop n xs)
filter_map_drop f xs zero h = refl
filter_map_drop f [] (suc n) h = refl
filter_map_drop f (x ∷ xs) (suc n) h =
    ap (λ o. cons_option o (filter_map f xs)) (h 0 x (omega arith) (omega arith)) ∙ filter_map_drop f xs n (λ i d a l. h (suc i) d (omega arith) (omega arith))

pub parts_before-front : (at : List ℕ) (ts : List Tombstone) (n : ℕ) → IsPartitionPoint (λ t. starts_before at t ≡ true) (λ t. starts_before at t ≡ false) ts n → n ≤ length ts → parts_before at ts ≡ map (ending_by at) (take n ts)
parts_before-front at ts n split inside =
    filter_map_front (part_before at) (ending_by at) ts n
    (λ i d a l. cond-true (is_below (get_or ts i d).range.lo at) (Some (ending_by at (get_or ts i d))) None (split.0 i d (omega arith) a))
    (λ i d a l. cond-false (is_below (get_or ts i d).range.lo at) (Some (ending_by at (get_or ts i d))) None (split.1 i d a l))

-- what doesn't end at the bound or before reaches behind it
open_behind : (at : List ℕ) (t : Tombstone) → ends_by at t ≡ false → is_below at t.range.hi ≡ true
open_behind at t h = below-from_not_upto t.range.hi at h

ended : (at : List ℕ) (t : Tombstone) → ends_by at t ≡ true → is_below at t.range.hi ≡ false
ended at t h = below-false at t.range.hi h

pub parts_from-back : (at : List ℕ) (ts : List Tombstone) (n : ℕ) → IsPartitionPoint (λ t. ends_by at t ≡ true) (λ t. ends_by at t ≡ false) ts n → n ≤ length ts → parts_from at ts ≡ map (starting_from at) (drop n ts)
parts_from-back at ts n split inside =
    filter_map_drop (part_from at) ts n (λ i d a l. cond-false (is_below at (get_or ts i d).range.hi) (Some (starting_from at (get_or ts i d))) None (ended at (get_or ts i d) (split.0 i d (omega arith) a)))
    ∙ filter_map_all (part_from at) (starting_from at) (drop n ts) (λ i d l.
    let there : i < length ts - n = subst (λ m. i < m) (length-drop n ts) l in
    cond-true (is_below at (get_or (drop n ts) i d).range.hi) (Some (starting_from at (get_or (drop n ts) i d))) None
    (ap (λ x. is_below at x.range.hi) (get_or-drop n ts i d) ∙ open_behind at (get_or ts (n + i) d) (split.1 (n + i) d (omega arith) (omega arith))))

-- a part that is whole, and one that is cut

pub ending_by-whole : (at : List ℕ) (t : Tombstone) → is_below at t.range.hi ≡ false → t ≡ ending_by at t
ending_by-whole at t h = sym (ap (λ b. tombstone (bounds t.range.lo (cond b at t.range.hi)) t.seq) h)

pub ending_by-cut : (at : List ℕ) (t : Tombstone) → is_below at t.range.hi ≡ true → tombstone (bounds t.range.lo at) t.seq ≡ ending_by at t
ending_by-cut at t h = sym (ap (λ b. tombstone (bounds t.range.lo (cond b at t.range.hi)) t.seq) h)

pub starting_from-whole : (at : List ℕ) (t : Tombstone) → is_below t.range.lo at ≡ false → t ≡ starting_from at t
starting_from-whole at t h = sym (ap (λ b. tombstone (bounds (cond b at t.range.lo) t.range.hi) t.seq) h)

pub starting_from-cut : (at : List ℕ) (t : Tombstone) → is_below t.range.lo at ≡ true → tombstone (bounds at t.range.hi) t.seq ≡ starting_from at t
starting_from-cut at t h = sym (ap (λ b. tombstone (bounds (cond b at t.range.lo) t.range.hi) t.seq) h)

-- what is left of fragments
pub AreFragments-drop : (n : ℕ) (ts : List Tombstone) → AreFragments ts → AreFragments (drop n ts)
AreFragments-drop n ts fragments = record {
  ordered = All-drop (λ t. IsTrue (is_ordered t)) n ts fragments.ordered;
  apart = λ i j d less inside.
      let there : j < length ts - n = subst (λ m. j < m) (length-drop n ts) inside in
      subst (λ x. IsTrue (precedes x (get_or (drop n ts) j d))) (sym (get_or-drop n ts i d))
      (subst (λ x. IsTrue (precedes (get_or ts (n + i) d) x)) (sym (get_or-drop n ts j d)) (fragments.apart (n + i) (n + j) d (omega arith) (omega arith)));
}

-- what the search leaves reaches behind the bound
pub open_rest : (at : List ℕ) (ts : List Tombstone) (n : ℕ) → IsPartitionPoint (λ t. ends_by at t ≡ true) (λ t. ends_by at t ≡ false) ts n → All (λ t. IsTrue (is_below at t.range.hi)) (drop n ts)
open_rest at ts n split = λ i d l.
    let there : i < length ts - n = subst (λ m. i < m) (length-drop n ts) l in
    ap (λ x. is_below at x.range.hi) (get_or-drop n ts i d) ∙ open_behind at (get_or ts (n + i) d) (split.1 (n + i) d (omega arith) (omega arith))

module _ (r : Bounds) (ts : List Tombstone) (n m : ℕ) (ends : IsPartitionPoint (λ t. ends_by r.lo t ≡ true) (λ t. ends_by r.lo t ≡ false) ts n) (starts : IsPartitionPoint (λ t. starts_before r.hi t ≡ true) (λ t. starts_before r.hi t ≡ false) (drop n ts) m) where
  pub met_middle : All (λ t. IsTrue (meets t.range r)) (take m (drop n ts))
  met_middle = λ i d l.
      let there : i < min m (length (drop n ts)) = subst (λ x. i < x) (length-take m (drop n ts)) l in
      let t = get_or (drop n ts) i d in
      ap (λ x. meets x.range r) (get_or-take m (drop n ts) i d (omega arith))
      ∙ and_from (is_below t.range.lo r.hi) (is_below r.lo t.range.hi) (starts.0 i d (omega arith) (omega arith)) (open_rest r.lo ts n ends i d (omega arith))

  pub parts_in-middle : parts_in r ts ≡ map (λ t. starting_from r.lo (ending_by r.hi t)) (take m (drop n ts))
  parts_in-middle =
      filter_map_drop (part_in r) ts n (λ i d a l. cond-false (meets (get_or ts i d).range r) (Some (starting_from r.lo (ending_by r.hi (get_or ts i d)))) None
      (and_right (is_below (get_or ts i d).range.lo r.hi) (is_below r.lo (get_or ts i d).range.hi) (ended r.lo (get_or ts i d) (ends.0 i d (omega arith) a))))
      ∙ filter_map_front (part_in r) (λ t. starting_from r.lo (ending_by r.hi t)) (drop n ts) m
      (λ i d a l.
      let t = get_or (drop n ts) i d in
      cond-true (meets t.range r) (Some (starting_from r.lo (ending_by r.hi t))) None (and_from (is_below t.range.lo r.hi) (is_below r.lo t.range.hi) (starts.0 i d (omega arith) a) (open_rest r.lo ts n ends i d l)))
      (λ i d a l.
      let t = get_or (drop n ts) i d in
      cond-false (meets t.range r) (Some (starting_from r.lo (ending_by r.hi t))) None (and_left (is_below t.range.lo r.hi) (is_below r.lo t.range.hi) (starts.1 i d a l)))

pub parts_from-rest : (at : List ℕ) (ts : List Tombstone) (n : ℕ) → IsPartitionPoint (λ t. ends_by at t ≡ true) (λ t. ends_by at t ≡ false) ts n → n ≤ length ts → parts_from at ts ≡ map (starting_from at) (take (length ts - n) (drop n ts))
parts_from-rest at ts n split inside = parts_from-back at ts n split inside ∙ ap (map (starting_from at)) (sym (take_rest ts n))

-- the same, of the list that a slice shows

pub met_rest : (r : Bounds) (ts rest : List Tombstone) (n m : ℕ) → rest ≡ drop n ts → IsPartitionPoint (λ t. ends_by r.lo t ≡ true) (λ t. ends_by r.lo t ≡ false) ts n → IsPartitionPoint (λ t. starts_before r.hi t ≡ true) (λ t. starts_before r.hi t ≡ false) rest m → All (λ t. IsTrue (meets t.range r)) (take m rest)
met_rest r ts rest n m e ends starts =
    subst (λ x. All (λ t. IsTrue (meets t.range r)) (take m x)) (sym e) (met_middle r ts n m ends (subst (λ x. IsPartitionPoint (λ t. starts_before r.hi t ≡ true) (λ t. starts_before r.hi t ≡ false) x m) e starts))

pub parts_in-rest : (r : Bounds) (ts rest : List Tombstone) (n m : ℕ) → rest ≡ drop n ts → IsPartitionPoint (λ t. ends_by r.lo t ≡ true) (λ t. ends_by r.lo t ≡ false) ts n → IsPartitionPoint (λ t. starts_before r.hi t ≡ true) (λ t. starts_before r.hi t ≡ false) rest m → parts_in r ts ≡ map (λ t. starting_from r.lo (ending_by r.hi t)) (take m rest)
parts_in-rest r ts rest n m e ends starts =
    parts_in-middle r ts n m ends (subst (λ x. IsPartitionPoint (λ t. starts_before r.hi t ≡ true) (λ t. starts_before r.hi t ≡ false) x m) e starts)
    ∙ ap (λ x. map (λ t. starting_from r.lo (ending_by r.hi t)) (take m x)) (sym e)

-- a span made of a bound of another, and the bound at which it is cut

pub ending_by-made : (at : List ℕ) (t new : Tombstone) (range : Bounds) (lo hi : List ℕ) (seq : ℕ) → is_below at t.range.hi ≡ true → new ≡ tombstone range seq → range ≡ bounds lo hi → lo ≡ t.range.lo → hi ≡ at → seq ≡ t.seq → new ≡ ending_by at t
ending_by-made at t new range lo hi seq h made ranges los his seqs =
    made ∙ (λ i. tombstone (ranges i) (seqs i)) ∙ (λ i. tombstone (bounds (los i) (his i)) t.seq) ∙ ending_by-cut at t h

pub starting_from-made : (at : List ℕ) (t new : Tombstone) (range : Bounds) (lo hi : List ℕ) (seq : ℕ) → is_below t.range.lo at ≡ true → new ≡ tombstone range seq → range ≡ bounds lo hi → lo ≡ at → hi ≡ t.range.hi → seq ≡ t.seq → new ≡ starting_from at t
starting_from-made at t new range lo hi seq h made ranges los his seqs =
    made ∙ (λ i. tombstone (ranges i) (seqs i)) ∙ (λ i. tombstone (bounds (los i) (his i)) t.seq) ∙ starting_from-cut at t h
