-- What is kept of operations gives them back: they are one list, whichever way it was come by.
use Rattle.std.proofs.Common.{◌≡◌, ℕ, ◌+◌, ◌<◌, ◌≤◌, ◌^◌, List, [], ◌∷◌, ◌++◌, length, map, Option, Some, None, inl, inr, ◌⊎◌, refl, sym, ap, ◌∙◌, subst, arith}
use Rattle.std.proofs.lemmas.Bool.{cases_order, lt-ltb, le-ltb}
use Rattle.std.proofs.lemmas.List.{length-append}
use Rattle.std.specs.List.{filter_map, cons_option}
use Rattle.xdb_key.specs.Entries.{Point, point, Tombstone, tombstone}
use Rattle.xdb_key.specs.declared.op.Kind.TheVariants as kinds
use Rattle.xdb_key.specs.declared.op.Op.{Op}
use Rattle.xdb_key.specs.declared.op.Op.TheVariants.{Set, Del, DelSpan}
use Rattle.xdb_rangedel.specs.Members.{Has, SameMembers}
use Rattle.xdb_rangedel.proofs.MemberLaws.{Has-append_left, Has-append_right, Has-append_cases, Has-map, Has-from_map, Has-from_filter_map}
use Rattle.xdb_mem.specs.Numbered.{numbered, greatest_of, RisesWithin, point_at, span_at, points, spans}
use Rattle.xdb_mem.specs.InOrder.{AreInOrder, AreNumbered}
use Rattle.xdb_mem.specs.Held.{entry_op, span_op, put, by_number, ops_of, IsHeld}
use Rattle.xdb_mem.proofs.NumberLaws.{length-numbered, points-append, spans-append, rises-room, rises-from, rises-below, rises-one, rises-append, rises-wider, rises-numbered, rises-above}

-- ---- a list whose numbers rise has one order

pub rising_one : (low high : ℕ) (xs ys : List (ℕ × Op)) → RisesWithin low high xs → RisesWithin low high ys → SameMembers xs ys → xs ≡ ys
rising_one low high [] [] h g same = refl
rising_one low high [] (y ∷ ys) h g same = absurd ((same y).1 (inl refl))
rising_one low high (x ∷ xs) [] h g same = absurd ((same x).0 (inl refl))
rising_one low high (x ∷ xs) (y ∷ ys) h g same =
    let first : x ≡ y = elim ((same x).0 (inl refl)) [
      | inl e ↦ sym e
      | inr a ↦ elim ((same y).1 (inl refl)) [
        | inl e ↦ e
        | inr b ↦ absurd (omega (arith, rises-from (y.0 + 1) high ys x g.1 a, rises-from (x.0 + 1) high xs y h.1 b))
      ]
    ] in
    let number : x.0 ≡ y.0 = ap (λ (o : ℕ × Op). o.0) first in
    let behind : RisesWithin (x.0 + 1) high ys = subst (λ n. RisesWithin (n + 1) high ys) (sym number) g.1 in
    let rest : SameMembers xs ys = λ z. (
      λ a. elim ((same z).0 (inr a)) [
        | inl e ↦ absurd (omega (arith, ap (λ (o : ℕ × Op). o.0) e, number, rises-from (x.0 + 1) high xs z h.1 a))
        | inr b ↦ b
      ],
      λ b. elim ((same z).1 (inr b)) [
        | inl e ↦ absurd (omega (arith, ap (λ (o : ℕ × Op). o.0) e, rises-from (x.0 + 1) high ys z behind b))
        | inr a ↦ a
      ],
    ) in
    (λ i. first i ∷ rising_one (x.0 + 1) high xs ys h.1 behind rest i)

-- ---- what is put in order by number

put-rises : (low high : ℕ) (o : ℕ × Op) (ps : List (ℕ × Op)) → low ≤ o.0 → o.0 < high → RisesWithin low high ps → RisesWithin low high (put o ps)
put-rises low high o [] from below h = (from, omega arith)
put-rises low high o (p ∷ ps) from below h = elim (cases_order o.0 p.0) [
  | inl same ↦ rw (le-ltb o.0 p.0 (omega arith), le-ltb p.0 o.0 (omega arith)) h
  | inr (inl less) ↦ rw (lt-ltb o.0 p.0 less) (from, (omega arith, h.1))
  | inr (inr more) ↦ rw (le-ltb o.0 p.0 (omega arith), lt-ltb p.0 o.0 more) (h.0, put-rises (p.0 + 1) high o ps (omega arith) below h.1)
]

put-has_from : (o z : ℕ × Op) (ps : List (ℕ × Op)) → Has (put o ps) z → (o ≡ z) ⊎ Has ps z
put-has_from o z [] (inl e) = inl e
put-has_from o z [] (inr h) = absurd h
put-has_from o z (p ∷ ps) h = elim (cases_order o.0 p.0) [
  | inl same ↦ inr (rw (le-ltb o.0 p.0 (omega arith), le-ltb p.0 o.0 (omega arith)) at h)
  | inr (inl less) ↦ rw (lt-ltb o.0 p.0 less) at h
  | inr (inr more) ↦ elim (rw (le-ltb o.0 p.0 (omega arith), lt-ltb p.0 o.0 more) at h) [
    | inl e ↦ inr (inl e)
    | inr g ↦ elim (put-has_from o z ps g) [ inl e ↦ inl e | inr k ↦ inr (inr k) ]
  ]
]

put-keeps : (o z : ℕ × Op) (ps : List (ℕ × Op)) → Has ps z → Has (put o ps) z
put-keeps o z [] h = absurd h
put-keeps o z (p ∷ ps) h = elim (cases_order o.0 p.0) [
  | inl same ↦ rw (le-ltb o.0 p.0 (omega arith), le-ltb p.0 o.0 (omega arith)) h
  | inr (inl less) ↦ rw (lt-ltb o.0 p.0 less) (inr h)
  | inr (inr more) ↦ rw (le-ltb o.0 p.0 (omega arith), lt-ltb p.0 o.0 more) (elim h [ inl e ↦ inl e | inr g ↦ inr (put-keeps o z ps g) ])
]

-- where an operation of its number, if there is one, is the same
put-there : (o : ℕ × Op) (ps : List (ℕ × Op)) → ((p : ℕ × Op) → Has ps p → o.0 ≡ p.0 → o ≡ p) → Has (put o ps) o
put-there o [] one = inl refl
put-there o (p ∷ ps) one = elim (cases_order o.0 p.0) [
  | inl same ↦ rw (le-ltb o.0 p.0 (omega arith), le-ltb p.0 o.0 (omega arith)) (inl (sym (one p (inl refl) same)))
  | inr (inl less) ↦ rw (lt-ltb o.0 p.0 less) (inl refl)
  | inr (inr more) ↦ rw (le-ltb o.0 p.0 (omega arith), lt-ltb p.0 o.0 more) (inr (put-there o ps (λ q h. one q (inr h))))
]

by_number-from : (os : List (ℕ × Op)) (z : ℕ × Op) → Has (by_number os) z → Has os z
by_number-from [] z h = h
by_number-from (o ∷ os) z h = elim (put-has_from o z (by_number os) h) [ inl e ↦ inl e | inr g ↦ inr (by_number-from os z g) ]

by_number-rises : (low high : ℕ) (os : List (ℕ × Op)) → low ≤ high → ((o : ℕ × Op) → Has os o → (low ≤ o.0) × (o.0 < high)) → RisesWithin low high (by_number os)
by_number-rises low high [] wide h = wide
by_number-rises low high (o ∷ os) wide h = let here = h o (inl refl) in put-rises low high o (by_number os) here.0 here.1 (by_number-rises low high os wide (λ p g. h p (inr g)))

by_number-has : (os : List (ℕ × Op)) → ((o p : ℕ × Op) → Has os o → Has os p → o.0 ≡ p.0 → o ≡ p) → (z : ℕ × Op) → Has os z → Has (by_number os) z
by_number-has [] one z h = h
by_number-has (o ∷ os) one z (inl e) = subst (Has (put o (by_number os))) e (put-there o (by_number os) (λ p h. one o p (inl refl) (inr (by_number-from os p h))))
by_number-has (o ∷ os) one z (inr h) = put-keeps o z (by_number os) (by_number-has os (λ a b g k. one a b (inr g) (inr k)) z h)

-- ---- entries and tombstones, and the operations that they were

entry-was : (n : ℕ) (op : Op) (p : Point) → point_at n op ≡ Some p → entry_op p ≡ (n, op)
entry-was n (Set key value) p e = let same : point key n kinds.Set value ≡ p = cc in ap entry_op (sym same)
entry-was n (Del key) p e = let same : point key n kinds.Del [] ≡ p = cc in ap entry_op (sym same)
entry-was n (DelSpan range) p e = absurd (cc)

span-was : (n : ℕ) (op : Op) (t : Tombstone) → span_at n op ≡ Some t → span_op t ≡ (n, op)
span-was n (Set key value) t e = absurd (cc)
span-was n (Del key) t e = absurd (cc)
span-was n (DelSpan range) t e = let same : tombstone range n ≡ t = cc in ap span_op (sym same)

Has-cons_option_rest : {B : Type 0} (o : Option B) (zs : List B) (z : B) → Has zs z → Has (cons_option o zs) z
Has-cons_option_rest None zs z h = h
Has-cons_option_rest (Some y) zs z h = inr h

pub Has-filter_map : {A B : Type 0} (f : A → Option B) (xs : List A) (x : A) (y : B) → Has xs x → f x ≡ Some y → Has (filter_map f xs) y
Has-filter_map f [] x y h e = absurd h
Has-filter_map f (z ∷ xs) x y (inl same) e =
    let here : f z ≡ Some y = ap f same ∙ e in
    rw here (inl refl)
Has-filter_map f (z ∷ xs) x y (inr h) e = Has-cons_option_rest (f z) (filter_map f xs) y (Has-filter_map f xs x y h e)

-- the operation that a point of the list was
pub points-from : (ops : List (ℕ × Op)) (p : Point) → Has (points ops) p → Has ops (entry_op p)
points-from ops p h =
    let from = Has-from_filter_map (λ (o : ℕ × Op). point_at o.0 o.1) ops p h in
    subst (Has ops) (sym (entry-was from.0.0 from.0.1 p from.2)) from.1

pub spans-from : (ops : List (ℕ × Op)) (t : Tombstone) → Has (spans ops) t → Has ops (span_op t)
spans-from ops t h =
    let from = Has-from_filter_map (λ (o : ℕ × Op). span_at o.0 o.1) ops t h in
    subst (Has ops) (sym (span-was from.0.0 from.0.1 t from.2)) from.1

there : (ops : List (ℕ × Op)) (n : ℕ) (op : Op) → Has ops (n, op) → Has (map entry_op (points ops) ++ map span_op (spans ops)) (n, op)
there ops n (Set key value) h =
    Has-append_left (map entry_op (points ops)) (map span_op (spans ops)) (n, Set key value) (Has-map entry_op (points ops) (point key n kinds.Set value) (Has-filter_map (λ (o : ℕ × Op). point_at o.0 o.1) ops (n, Set key value) (point key n kinds.Set value) h refl))
there ops n (Del key) h =
    Has-append_left (map entry_op (points ops)) (map span_op (spans ops)) (n, Del key) (Has-map entry_op (points ops) (point key n kinds.Del []) (Has-filter_map (λ (o : ℕ × Op). point_at o.0 o.1) ops (n, Del key) (point key n kinds.Del []) h refl))
there ops n (DelSpan range) h =
    Has-append_right (map entry_op (points ops)) (map span_op (spans ops)) (n, DelSpan range) (Has-map span_op (spans ops) (tombstone range n) (Has-filter_map (λ (o : ℕ × Op). span_at o.0 o.1) ops (n, DelSpan range) (tombstone range n) h refl))

-- what is kept has an operation's trace exactly where it is an operation
kept-from : (ops : List (ℕ × Op)) (es : List Point) (ts : List Tombstone) → IsHeld ops es ts → (z : ℕ × Op) → Has (map entry_op es ++ map span_op ts) z → Has ops z
kept-from ops es ts held z h = elim (Has-append_cases (map entry_op es) (map span_op ts) z h) [
  | inl g ↦
      let from = Has-from_map entry_op es z g in
      subst (Has ops) from.2 (points-from ops from.0 ((held.members from.0).0 from.1))
  | inr g ↦
      let from = Has-from_map span_op ts z g in
      subst (Has ops) from.2 (spans-from ops from.0 (subst (λ xs. Has xs from.0) held.same_spans from.1))
]

kept-to : (ops : List (ℕ × Op)) (es : List Point) (ts : List Tombstone) → IsHeld ops es ts → (z : ℕ × Op) → Has ops z → Has (map entry_op es ++ map span_op ts) z
kept-to ops es ts held z h = elim (Has-append_cases (map entry_op (points ops)) (map span_op (spans ops)) z (there ops z.0 z.1 h)) [
  | inl g ↦
      let from = Has-from_map entry_op (points ops) z g in
      Has-append_left (map entry_op es) (map span_op ts) z (subst (Has (map entry_op es)) from.2 (Has-map entry_op es from.0 ((held.members from.0).1 from.1)))
  | inr g ↦ Has-append_right (map entry_op es) (map span_op ts) z (subst (λ xs. Has (map span_op xs) z) (sym held.same_spans) g)
]

-- what is kept of operations gives them back
pub held-ops : (ops : List (ℕ × Op)) (es : List Point) (ts : List Tombstone) → IsHeld ops es ts → ops_of es ts ≡ ops
unfolding ops_of
held-ops ops es ts held =
    let xs = map entry_op es ++ map span_op ts in
    let from = kept-from ops es ts held in
    let to = kept-to ops es ts held in
    let one : (o p : ℕ × Op) → Has xs o → Has xs p → o.0 ≡ p.0 → o ≡ p = λ o p h g e. rises-one 1 (2 ^ 56) ops o p held.rising (from o h) (from p g) e in
    let within : (o : ℕ × Op) → Has xs o → (1 ≤ o.0) × (o.0 < 2 ^ 56) = λ o h. (rises-from 1 (2 ^ 56) ops o held.rising (from o h), rises-below 1 (2 ^ 56) ops o held.rising (from o h)) in
    rising_one 1 (2 ^ 56) (by_number xs) ops (by_number-rises 1 (2 ^ 56) xs (omega arith) within) held.rising
    (λ z. (λ h. from z (by_number-from xs z h), λ h. by_number-has xs one z (to z h)))

-- ---- operations that join

-- entries of one number are one
pub points-numbered : (low high : ℕ) (ops : List (ℕ × Op)) → RisesWithin low high ops → AreNumbered (points ops)
points-numbered low high ops rising = λ p q has_p has_q e.
    let f : ℕ × Op → Option Point = λ o. point_at o.0 o.1 in
    let a = Has-from_filter_map f ops p has_p in
    let b = Has-from_filter_map f ops q has_q in
    let number_a : p.seq ≡ a.0.0 = ap (λ (o : ℕ × Op). o.0) (entry-was a.0.0 a.0.1 p a.2) in
    let number_b : q.seq ≡ b.0.0 = ap (λ (o : ℕ × Op). o.0) (entry-was b.0.0 b.0.1 q b.2) in
    let same : a.0 ≡ b.0 = rises-one low high ops a.0 b.0 rising a.1 b.1 (sym number_a ∙ e ∙ number_b) in
    let both : Some p ≡ Some q = sym a.2 ∙ ap f same ∙ b.2 in
    cc

pub numbered-through : (xs ys : List Point) → SameMembers xs ys → AreNumbered ys → AreNumbered xs
numbered-through xs ys same numbered = λ p q has_p has_q e. numbered p q ((same p).0 has_p) ((same q).0 has_q) e

pub same_front : {A : Type 0} (es ps qs : List A) → SameMembers es ps → SameMembers (es ++ qs) (ps ++ qs)
same_front es ps qs same = λ z. (
  λ h. elim (Has-append_cases es qs z h) [ inl g ↦ Has-append_left ps qs z ((same z).0 g) | inr g ↦ Has-append_right ps qs z g ],
  λ h. elim (Has-append_cases ps qs z h) [ inl g ↦ Has-append_left es qs z ((same z).1 g) | inr g ↦ Has-append_right es qs z g ],
)

pub same_then : {A : Type 0} (xs ys zs : List A) → SameMembers xs ys → SameMembers ys zs → SameMembers xs zs
same_then xs ys zs h g = λ z. (λ a. (g z).0 ((h z).0 a), λ a. (h z).1 ((g z).1 a))

-- what is added to operations: numbered from a number above theirs
pub record Joins (ops : List (ℕ × Op)) (first : ℕ) (batch : List Op) : Type 0 where
  pub from : 1 ≤ first
  pub upto : first + length batch ≤ 2 ^ 56
  pub above : greatest_of ops < first

pub joined-rises : (ops : List (ℕ × Op)) (first : ℕ) (batch : List Op) → RisesWithin 1 (2 ^ 56) ops → Joins ops first batch → RisesWithin 1 (2 ^ 56) (ops ++ numbered first batch)
joined-rises ops first batch rising joins =
    rises-append 1 first (2 ^ 56) ops (numbered first batch) (rises-above 1 (2 ^ 56) first ops joins.from joins.above rising) (rises-wider first (first + length batch) (2 ^ 56) (numbered first batch) joins.upto (rises-numbered first batch))

pub joined-same : (ops : List (ℕ × Op)) (es : List Point) (ts : List Tombstone) (first : ℕ) (batch : List Op) → IsHeld ops es ts → SameMembers (es ++ points (numbered first batch)) (points (ops ++ numbered first batch))
joined-same ops es ts first batch held =
    subst (SameMembers (es ++ points (numbered first batch))) (sym (points-append ops (numbered first batch))) (same_front es (points ops) (points (numbered first batch)) held.members)

pub joined-numbered : (ops : List (ℕ × Op)) (es : List Point) (ts : List Tombstone) (first : ℕ) (batch : List Op) → IsHeld ops es ts → Joins ops first batch → AreNumbered (es ++ points (numbered first batch))
joined-numbered ops es ts first batch held joins =
    numbered-through (es ++ points (numbered first batch)) (points (ops ++ numbered first batch)) (joined-same ops es ts first batch held) (points-numbered 1 (2 ^ 56) (ops ++ numbered first batch) (joined-rises ops first batch held.rising joins))

pub joined-held : (ops : List (ℕ × Op)) (es new_es : List Point) (ts new_ts : List Tombstone) (first : ℕ) (batch : List Op) → IsHeld ops es ts → Joins ops first batch → SameMembers new_es (es ++ points (numbered first batch)) → AreInOrder new_es → new_ts ≡ ts ++ spans (numbered first batch) → IsHeld (ops ++ numbered first batch) new_es new_ts
joined-held ops es new_es ts new_ts first batch held joins same order e = record {
  rising = joined-rises ops first batch held.rising joins;
  members = same_then new_es (es ++ points (numbered first batch)) (points (ops ++ numbered first batch)) same (joined-same ops es ts first batch held);
  order = order;
  same_spans = e ∙ ap (λ xs. xs ++ spans (numbered first batch)) held.same_spans ∙ sym (spans-append ops (numbered first batch));
}

pub empty-held : IsHeld [] [] []
empty-held = record { rising = omega arith; members = λ z. (λ h. h, λ h. h); order = λ i j d less inside. absurd (omega arith); same_spans = refl }

-- ---- what a memtable's fields keep

pub held-itself : (ops : List (ℕ × Op)) (es : List Point) (ts : List Tombstone) → IsHeld ops es ts → IsHeld (ops_of es ts) es ts
held-itself ops es ts held = subst (λ os. IsHeld os es ts) (sym (held-ops ops es ts held)) held

held-empty : (es : List Point) (ts : List Tombstone) → es ≡ [] → ts ≡ [] → IsHeld [] es ts
held-empty es ts no_entries no_spans = subst (λ xs. IsHeld [] xs ts) (sym no_entries) (subst (λ xs. IsHeld [] [] xs) (sym no_spans) empty-held)

pub opened-ops : (es : List Point) (ts : List Tombstone) → es ≡ [] → ts ≡ [] → ops_of es ts ≡ []
opened-ops es ts no_entries no_spans = held-ops [] es ts (held-empty es ts no_entries no_spans)

pub opened-held : (es : List Point) (ts : List Tombstone) → es ≡ [] → ts ≡ [] → IsHeld (ops_of es ts) es ts × (0 ≡ length (ops_of es ts))
opened-held es ts no_entries no_spans =
    (held-itself [] es ts (held-empty es ts no_entries no_spans), sym (ap length (opened-ops es ts no_entries no_spans)))

-- what a memtable's fields are before an insert
pub record Stands (now : List (ℕ × Op)) (es : List Point) (ts : List Tombstone) (len : ℕ) (first : ℕ) (batch : List Op) : Type 0 where
  pub seen : ops_of es ts ≡ now
  pub held : IsHeld (ops_of es ts) es ts
  pub counted : len ≡ length (ops_of es ts)
  pub joins : Joins now first batch

pub stands-from : (now : List (ℕ × Op)) (es : List Point) (ts : List Tombstone) (len first : ℕ) (batch : List Op) → ops_of es ts ≡ now → IsHeld (ops_of es ts) es ts × (len ≡ length (ops_of es ts)) → 1 ≤ first → first + length batch ≤ 2 ^ 56 → greatest_of now < first → Stands now es ts len first batch
stands-from now es ts len first batch seen kept from upto above = record {
  seen = seen;
  held = kept.0;
  counted = kept.1;
  joins = record { from = from; upto = upto; above = above };
}

stands-held : (now : List (ℕ × Op)) (es : List Point) (ts : List Tombstone) (len first : ℕ) (batch : List Op) → Stands now es ts len first batch → IsHeld now es ts
stands-held now es ts len first batch s = subst (λ os. IsHeld os es ts) s.seen s.held

pub stands-numbered : (now : List (ℕ × Op)) (es : List Point) (ts : List Tombstone) (len first : ℕ) (batch : List Op) → Stands now es ts len first batch → AreNumbered (es ++ points (numbered first batch))
stands-numbered now es ts len first batch s = joined-numbered now es ts first batch (stands-held now es ts len first batch s) s.joins

-- the count stays below 2^57, since there are no more operations than numbers
pub stands-small : (now : List (ℕ × Op)) (es : List Point) (ts : List Tombstone) (len first : ℕ) (batch : List Op) → Stands now es ts len first batch → len + length batch < 2 ^ 64
stands-small now es ts len first batch s =
    let room = rises-room 1 (2 ^ 56) (ops_of es ts) s.held.rising in
    let counted = s.counted in
    let upto = s.joins.upto in
    omega arith

inserted-held : (now : List (ℕ × Op)) (es new_es : List Point) (ts new_ts : List Tombstone) (len first : ℕ) (batch : List Op) → Stands now es ts len first batch → SameMembers new_es (es ++ points (numbered first batch)) → AreInOrder new_es → new_ts ≡ ts ++ spans (numbered first batch) → IsHeld (now ++ numbered first batch) new_es new_ts
inserted-held now es new_es ts new_ts len first batch s same order e =
    joined-held now es new_es ts new_ts first batch (stands-held now es ts len first batch s) s.joins same order e

pub inserted-ops : (now : List (ℕ × Op)) (es new_es : List Point) (ts new_ts : List Tombstone) (len first : ℕ) (batch : List Op) → Stands now es ts len first batch → SameMembers new_es (es ++ points (numbered first batch)) → AreInOrder new_es → new_ts ≡ ts ++ spans (numbered first batch) → ops_of new_es new_ts ≡ now ++ numbered first batch
inserted-ops now es new_es ts new_ts len first batch s same order e =
    held-ops (now ++ numbered first batch) new_es new_ts (inserted-held now es new_es ts new_ts len first batch s same order e)

pub inserted-keeps : (now : List (ℕ × Op)) (es new_es : List Point) (ts new_ts : List Tombstone) (len first : ℕ) (batch : List Op) → Stands now es ts len first batch → SameMembers new_es (es ++ points (numbered first batch)) → AreInOrder new_es → new_ts ≡ ts ++ spans (numbered first batch) → IsHeld (ops_of new_es new_ts) new_es new_ts × (len + length batch ≡ length (ops_of new_es new_ts))
inserted-keeps now es new_es ts new_ts len first batch s same order e =
    let is = inserted-ops now es new_es ts new_ts len first batch s same order e in
    let before = s.counted ∙ ap length s.seen in
    let after = ap length is ∙ length-append now (numbered first batch) in (
      held-itself (now ++ numbered first batch) new_es new_ts (inserted-held now es new_es ts new_ts len first batch s same order e),
      omega (arith, before, after, length-numbered first batch),
    )
