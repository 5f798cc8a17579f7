-- What operations are in a content, and what their parts in a range are.
use Rattle.std.proofs.Common.{◌≡◌, ℕ, ◌+◌, ◌<◌, cond, ltb, ◌&&◌, List, [], ◌∷◌, ◌++◌, map, Option, Some, None, Result, Ok, Err, IfOk, inl, inr, refl, sym, ap, ◌∙◌, subst, arith}
use Rattle.std.proofs.lemmas.Bool.{cases_Bool}
use Rattle.std.specs.List.{cons_option}
use Rattle.std.specs.Option.{option_map}
use Rattle.xdb_key.specs.Bounds.{Bounds, holds}
use Rattle.xdb_key.specs.Entries.{Point, point, Tombstone, tombstone}
use Rattle.xdb_key.specs.declared.op.Kind.TheVariants as kinds
use Rattle.xdb_key.specs.declared.op.Op.{Op}
use Rattle.xdb_key.specs.declared.op.Op.TheVariants.{Set, Del, DelSpan}
use Rattle.xdb_rangedel.specs.Clip.{part_in}
use Rattle.xdb_rangedel.specs.Content.{Item, entry, span, seq_of, IsClear, entry_of, content_of, entries_in, spans_in, in_pieces}
use Rattle.xdb_rangedel.specs.Layers.{IsNewerAt}
use Rattle.xdb_rangedel.specs.Members.{Has, SameMembers}
use Rattle.xdb_rangedel.specs.Pieces.{pieces}
use Rattle.xdb_rangedel.specs.View.{restricted}
use Rattle.xdb_rangedel.proofs.MemberLaws.{Has-append_left, Has-append_right, Has-append_cases, Has-map, Has-from_map, Has-from_filter_map}
use Rattle.xdb_mem.specs.Numbered.{RisesWithin, point_at, span_at, points, spans}
use Rattle.xdb_mem.specs.Parts.{picked, clipped, item_at, items, items_below}
use Rattle.xdb_mem.proofs.NumberLaws.{rises-one, rises-from}
use Rattle.xdb_mem.proofs.HeldLaws.{Has-filter_map, same_front, same_then}
use Rattle.xdb_mem.proofs.PutLaws.{same_behind}

same_map : {A B : Type 0} (f : A → B) (xs ys : List A) → SameMembers xs ys → SameMembers (map f xs) (map f ys)
same_map f xs ys same = λ z. (
  λ h. let from = Has-from_map f xs z h in subst (Has (map f ys)) from.2 (Has-map f ys from.0 ((same from.0).0 from.1)),
  λ h. let from = Has-from_map f ys z h in subst (Has (map f xs)) from.2 (Has-map f xs from.0 ((same from.0).1 from.1)),
)

-- ---- in a range, below a limit

-- an entry in front of what is left
entry-step : (r : Bounds) (limit : ℕ) (p : Point) (value : Option (List ℕ)) (rest : List Item) (ps : List Point) → entry_of p ≡ entry p.key p.seq value → entries_in (restricted r rest) ≡ map entry_of ps → entries_in (restricted r (cond (ltb p.seq limit) (entry p.key p.seq value ∷ rest) rest)) ≡ map entry_of (cond (holds r p.key && ltb p.seq limit) (p ∷ ps) ps)
entry-step r limit p value rest ps is before = elim (cases_Bool (ltb p.seq limit)) [
  | inl e ↦ elim (cases_Bool (holds r p.key)) [
    | inl h ↦ rw (e, h) (ap (λ x. x ∷ entries_in (restricted r rest)) (sym is) ∙ ap (λ xs. entry_of p ∷ xs) before)
    | inr h ↦ rw (e, h) before
  ]
  | inr e ↦ elim (cases_Bool (holds r p.key)) [
    | inl h ↦ rw (e, h) before
    | inr h ↦ rw (e, h) before
  ]
]

no_entry : (o : Option Tombstone) (c : List Item) → entries_in (cons_option (option_map span o) c) ≡ entries_in c
no_entry None c = refl
no_entry (Some t) c = refl

entries-one : (r : Bounds) (limit n : ℕ) (op : Op) (ops : List (ℕ × Op)) → entries_in (restricted r (items_below limit ops)) ≡ map entry_of (picked r limit ops) → entries_in (restricted r (items_below limit ((n, op) ∷ ops))) ≡ map entry_of (picked r limit ((n, op) ∷ ops))
entries-one r limit n (Set key value) ops before = entry-step r limit (point key n kinds.Set value) (Some value) (items_below limit ops) (picked r limit ops) refl before
entries-one r limit n (Del key) ops before = entry-step r limit (point key n kinds.Del []) None (items_below limit ops) (picked r limit ops) refl before
entries-one r limit n (DelSpan range) ops before = elim (cases_Bool (ltb n limit)) [
  | inl e ↦ rw e (no_entry (part_in r (tombstone range n)) (restricted r (items_below limit ops)) ∙ before)
  | inr e ↦ rw e before
]

entries-are : (r : Bounds) (limit : ℕ) (ops : List (ℕ × Op)) → entries_in (restricted r (items_below limit ops)) ≡ map entry_of (picked r limit ops)
entries-are r limit [] = refl
entries-are r limit (o ∷ ops) = entries-one r limit o.0 o.1 ops (entries-are r limit ops)

no_span : (r : Bounds) (limit n : ℕ) (key : List ℕ) (value : Option (List ℕ)) (rest : List Item) (ts : List Tombstone) → spans_in (restricted r rest) ≡ ts → spans_in (restricted r (cond (ltb n limit) (entry key n value ∷ rest) rest)) ≡ ts
no_span r limit n key value rest ts before = elim (cases_Bool (ltb n limit)) [
  | inl e ↦ elim (cases_Bool (holds r key)) [
    | inl h ↦ rw (e, h) before
    | inr h ↦ rw (e, h) before
  ]
  | inr e ↦ rw e before
]

one_span : (o : Option Tombstone) (c : List Item) (ts : List Tombstone) → spans_in c ≡ ts → spans_in (cons_option (option_map span o) c) ≡ cons_option o ts
one_span None c ts h = h
one_span (Some t) c ts h = ap (λ xs. t ∷ xs) h

spans-one : (r : Bounds) (limit n : ℕ) (op : Op) (ops : List (ℕ × Op)) → spans_in (restricted r (items_below limit ops)) ≡ clipped r limit ops → spans_in (restricted r (items_below limit ((n, op) ∷ ops))) ≡ clipped r limit ((n, op) ∷ ops)
spans-one r limit n (Set key value) ops before = no_span r limit n key (Some value) (items_below limit ops) (clipped r limit ops) before
spans-one r limit n (Del key) ops before = no_span r limit n key None (items_below limit ops) (clipped r limit ops) before
spans-one r limit n (DelSpan range) ops before = elim (cases_Bool (ltb n limit)) [
  | inl e ↦ rw e (one_span (part_in r (tombstone range n)) (restricted r (items_below limit ops)) (clipped r limit ops) before)
  | inr e ↦ rw e before
]

spans-are : (r : Bounds) (limit : ℕ) (ops : List (ℕ × Op)) → spans_in (restricted r (items_below limit ops)) ≡ clipped r limit ops
spans-are r limit [] = refl
spans-are r limit (o ∷ ops) = spans-one r limit o.0 o.1 ops (spans-are r limit ops)

-- what was picked and what was clipped are the content's part, in pieces
pub parts-content : (r : Bounds) (limit : ℕ) (ops : List (ℕ × Op)) (es : List Point) (ts : List Tombstone) → SameMembers es (picked r limit ops) → SameMembers ts (pieces (clipped r limit ops)) → SameMembers (content_of es ts) (in_pieces (restricted r (items_below limit ops)))
parts-content r limit ops es ts entries tombstones =
    let whole : in_pieces (restricted r (items_below limit ops)) ≡ map entry_of (picked r limit ops) ++ map span (pieces (clipped r limit ops)) =
    ap (λ xs. xs ++ map span (pieces (spans_in (restricted r (items_below limit ops))))) (entries-are r limit ops)
    ∙ ap (λ xs. map entry_of (picked r limit ops) ++ map span (pieces xs)) (spans-are r limit ops) in
    subst (SameMembers (content_of es ts)) (sym whole) (same_then (map entry_of es ++ map span ts) (map entry_of (picked r limit ops) ++ map span ts) (map entry_of (picked r limit ops) ++ map span (pieces (clipped r limit ops)))
    (same_front (map entry_of es) (map entry_of (picked r limit ops)) (map span ts) (same_map entry_of es (picked r limit ops) entries))
    (same_behind (map entry_of (picked r limit ops)) (map span ts) (map span (pieces (clipped r limit ops))) (same_map span ts (pieces (clipped r limit ops)) tombstones)))

-- ---- entries and tombstones together

item-was_entry : (n : ℕ) (op : Op) (p : Point) → point_at n op ≡ Some p → item_at n op ≡ entry_of p
item-was_entry n (Set key value) p e = let same : point key n kinds.Set value ≡ p = cc in ap entry_of same
item-was_entry n (Del key) p e = let same : point key n kinds.Del [] ≡ p = cc in ap entry_of same
item-was_entry n (DelSpan range) p e = absurd (cc)

item-was_span : (n : ℕ) (op : Op) (t : Tombstone) → span_at n op ≡ Some t → item_at n op ≡ span t
item-was_span n (Set key value) t e = absurd (cc)
item-was_span n (Del key) t e = absurd (cc)
item-was_span n (DelSpan range) t e = let same : tombstone range n ≡ t = cc in ap span same

there : (ops : List (ℕ × Op)) (n : ℕ) (op : Op) → Has ops (n, op) → Has (content_of (points ops) (spans ops)) (item_at n op)
there ops n (Set key value) h =
    Has-append_left (map entry_of (points ops)) (map span (spans ops)) (item_at n (Set key value)) (Has-map entry_of (points ops) (point key n kinds.Set value) (Has-filter_map (λ (o : ℕ × Op). point_at o.0 o.1) ops (n, Set key value) (point key n kinds.Set value) h refl))
there ops n (Del key) h =
    Has-append_left (map entry_of (points ops)) (map span (spans ops)) (item_at n (Del key)) (Has-map entry_of (points ops) (point key n kinds.Del []) (Has-filter_map (λ (o : ℕ × Op). point_at o.0 o.1) ops (n, Del key) (point key n kinds.Del []) h refl))
there ops n (DelSpan range) h =
    Has-append_right (map entry_of (points ops)) (map span (spans ops)) (item_at n (DelSpan range)) (Has-map span (spans ops) (tombstone range n) (Has-filter_map (λ (o : ℕ × Op). span_at o.0 o.1) ops (n, DelSpan range) (tombstone range n) h refl))

pub group-content : (ops : List (ℕ × Op)) → SameMembers (content_of (points ops) (spans ops)) (items ops)
group-content ops = λ z. (
  λ h. elim (Has-append_cases (map entry_of (points ops)) (map span (spans ops)) z h) [
    | inl g ↦
        let p = Has-from_map entry_of (points ops) z g in
        let o = Has-from_filter_map (λ (o : ℕ × Op). point_at o.0 o.1) ops p.0 p.1 in
        subst (Has (items ops)) (item-was_entry o.0.0 o.0.1 p.0 o.2 ∙ p.2) (Has-map (λ (o : ℕ × Op). item_at o.0 o.1) ops o.0 o.1)
    | inr g ↦
        let t = Has-from_map span (spans ops) z g in
        let o = Has-from_filter_map (λ (o : ℕ × Op). span_at o.0 o.1) ops t.0 t.1 in
        subst (Has (items ops)) (item-was_span o.0.0 o.0.1 t.0 o.2 ∙ t.2) (Has-map (λ (o : ℕ × Op). item_at o.0 o.1) ops o.0 o.1)
  ],
  λ h.
      let o = Has-from_map (λ (o : ℕ × Op). item_at o.0 o.1) ops z h in
      subst (Has (content_of (points ops) (spans ops))) o.2 (there ops o.0.0 o.0.1 o.1),
)

seq-item : (n : ℕ) (op : Op) → seq_of (item_at n op) ≡ n
seq-item n (Set key value) = refl
seq-item n (Del key) = refl
seq-item n (DelSpan range) = refl

pub items-clear : (low high : ℕ) (ops : List (ℕ × Op)) → RisesWithin low high ops → IsClear (items ops)
items-clear low high ops rising = λ key seq v w has_v has_w.
    let f : ℕ × Op → Item = λ o. item_at o.0 o.1 in
    let a = Has-from_map f ops (entry key seq v) has_v in
    let b = Has-from_map f ops (entry key seq w) has_w in
    let number_a : a.0.0 ≡ seq = sym (seq-item a.0.0 a.0.1) ∙ ap seq_of a.2 in
    let number_b : b.0.0 ≡ seq = sym (seq-item b.0.0 b.0.1) ∙ ap seq_of b.2 in
    let same : a.0 ≡ b.0 = rises-one low high ops a.0 b.0 rising a.1 b.1 (number_a ∙ sym number_b) in
    let both : entry key seq v ≡ entry key seq w = sym a.2 ∙ ap f same ∙ b.2 in
    cc

rises-apart : (low high : ℕ) (xs ys : List (ℕ × Op)) (o p : ℕ × Op) → RisesWithin low high (xs ++ ys) → Has xs o → Has ys p → o.0 < p.0
rises-apart low high [] ys o p h has_o has_p = absurd has_o
rises-apart low high (x ∷ xs) ys o p h (inl e) has_p = omega (arith, ap (λ (y : ℕ × Op). y.0) e, rises-from (x.0 + 1) high (xs ++ ys) p h.1 (Has-append_right xs ys p has_p))
rises-apart low high (x ∷ xs) ys o p h (inr has_o) has_p = rises-apart (x.0 + 1) high xs ys o p h.1 has_o has_p

pub items-newer : (low high : ℕ) (xs ys : List (ℕ × Op)) (k : List ℕ) → RisesWithin low high (xs ++ ys) → IsNewerAt k (items ys) (items xs)
items-newer low high xs ys k rising = λ i j has_i has_j here_i here_j.
    let f : ℕ × Op → Item = λ o. item_at o.0 o.1 in
    let a = Has-from_map f ys i has_i in
    let b = Has-from_map f xs j has_j in
    let number_a : a.0.0 ≡ seq_of i = sym (seq-item a.0.0 a.0.1) ∙ ap seq_of a.2 in
    let number_b : b.0.0 ≡ seq_of j = sym (seq-item b.0.0 b.0.1) ∙ ap seq_of b.2 in
    let less = rises-apart low high xs ys b.0 a.0 rising b.1 a.1 in
    omega (arith, number_a, number_b, less)

-- what two clauses say of one result
pub both-ok : {T E : Type 0} {P Q R : T → Type 0} (r : Result T E) → ((x : T) → P x → Q x → R x) → IfOk r P → IfOk r Q → IfOk r R
both-ok (Ok x) f p q = f x p q
both-ok (Err e) f p q = p
