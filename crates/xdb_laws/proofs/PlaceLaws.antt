-- The places of an engine: they have all that it has, and a commit and a seal keep their order.
use Rattle.std.proofs.Common.{◌≡◌, ℕ, ◌+◌, ◌<◌, ◌≤◌, List, [], ◌∷◌, ◌++◌, length, map, reverse, append-nil, inl, inr, refl, sym, ap, ◌∙◌, subst, arith}
use Rattle.std.proofs.lemmas.Grind.{reverse_onto}
use Rattle.std.proofs.lemmas.List.{append_assoc, reverse-append, map-append}
use Rattle.std.proofs.lemmas.List.Folds.{flat_map-map}
use Rattle.std.specs.List.{flat_map}
use Rattle.xdb_key.specs.Groups.{Group}
use Rattle.xdb_key.specs.declared.op.Op.{Op}
use Rattle.xdb_rangedel.specs.Content.{Item, seq_of, said_by, value_of, IsClear}
use Rattle.xdb_rangedel.specs.Layers.{IsAllBelow, IsAllFrom}
use Rattle.xdb_rangedel.specs.Members.{Has, SameMembers}
use Rattle.xdb_rangedel.proofs.MemberLaws.{Has-append_left, Has-append_right, Has-append_cases, Has-from_map}
use Rattle.xdb_rangedel.proofs.NewestLaws.{newest_unordered, image_is_one}
use Rattle.xdb_mem.specs.Numbered.{numbered}
use Rattle.xdb_mem.specs.Parts.{item_at, items}
use Rattle.xdb_mem.specs.Queue.{all_ops}
use Rattle.xdb_mem.proofs.NumberLaws.{rises-numbered, rises-from, rises-below}
use Rattle.xdb_mem.proofs.ContentLaws.{items-clear}
use Rattle.xdb_laws.specs.Image.{image}
use Rattle.xdb_laws.specs.Ordered.{IsNewer, IsNumberedUpTo, joined, Ordered, places, whole}
use Rattle.xdb_laws.proofs.CommitLaws.{seq-item}
use Rattle.xdb_laws.proofs.ImageLaws.{image-is}
use Rattle.xdb_laws.proofs.OrderLaws.{joined-append, joined-left, joined-right, joined-cases, newer-upper, clear-together, clear-within, ordered-clear}

pub same-turned : (a b : List Item) → SameMembers a b → SameMembers b a
same-turned a b s = λ i. ((s i).1, (s i).0)

pub same-along : (a b c : List Item) → SameMembers a b → SameMembers b c → SameMembers a c
same-along a b c s t = λ i. (λ h. (t i).0 ((s i).0 h), λ h. (s i).1 ((t i).1 h))

pub same-equal : (a b : List Item) → a ≡ b → SameMembers a b
same-equal a b e = λ i. (λ h. subst (λ x. Has x i) e h, λ h. subst (λ x. Has x i) (sym e) h)

pub same-joint : (a b c d : List Item) → SameMembers a b → SameMembers c d → SameMembers (a ++ c) (b ++ d)
same-joint a b c d s t = λ i. (one a b c d s t i, one b a d c (same-turned a b s) (same-turned c d t) i)
  where
    one : (a b c d : List Item) → SameMembers a b → SameMembers c d → (i : Item) → Has (a ++ c) i → Has (b ++ d) i
    one a b c d s t i h = elim (Has-append_cases a c i h) [
      | inl p ↦ Has-append_left b d i ((s i).0 p)
      | inr p ↦ Has-append_right b d i ((t i).0 p)
    ]

-- of a clear content the image is that of its members
pub image-same : (c d : List Item) (limit : ℕ) → IsClear c → SameMembers c d → image c limit ≡ image d limit
image-same c d limit clear same = image_is_one d limit (image c limit) (image d limit)
    (λ k. image-is c limit k ∙ ap (λ o. value_of (said_by o)) (newest_unordered c d limit k same clear))
    (image-is d limit)

-- what reversed places have

reverse-from : (cs : List (List Item)) (i : Item) → Has (joined (reverse cs)) i → Has (joined cs) i
reverse-from [] i h = h
reverse-from (c ∷ cs) i h = elim (joined-cases (reverse cs) (c ∷ []) i (subst (λ x. Has (joined x) i) (reverse_onto cs c []) h)) [
  | inl g ↦ Has-append_right c (joined cs) i (reverse-from cs i g)
  | inr g ↦ Has-append_left c (joined cs) i (subst (λ x. Has x i) (append-nil c) g)
]

reverse-has : (cs : List (List Item)) (i : Item) → Has (joined cs) i → Has (joined (reverse cs)) i
reverse-has [] i h = h
reverse-has (c ∷ cs) i h = subst (λ x. Has (joined x) i) (sym (reverse_onto cs c [])) (elim (Has-append_cases c (joined cs) i h) [
  | inl g ↦ joined-right (reverse cs) (c ∷ []) i (subst (λ x. Has x i) (sym (append-nil c)) g)
  | inr g ↦ joined-left (reverse cs) (c ∷ []) i (reverse-has cs i g)
])

pub same-reversed : (cs : List (List Item)) → SameMembers (joined (reverse cs)) (joined cs)
same-reversed cs = λ i. (reverse-from cs i, reverse-has cs i)

-- the places of an engine

pub places-same : (groups : List (List Item)) (levels : List (List (List Item))) → SameMembers (joined (places groups levels)) (whole groups levels)
places-same groups [] = same-along (joined (reverse groups)) (joined groups) (joined groups ++ []) (same-reversed groups) (same-equal (joined groups) (joined groups ++ []) (sym (append-nil (joined groups))))
places-same groups (l0 ∷ lower) =
    same-along (joined (places groups (l0 ∷ lower))) (joined (reverse groups) ++ (joined (reverse l0) ++ flat_map joined lower)) (joined groups ++ (joined l0 ++ flat_map joined lower))
    (same-equal (joined (places groups (l0 ∷ lower))) (joined (reverse groups) ++ (joined (reverse l0) ++ flat_map joined lower)) apart)
    (same-joint (joined (reverse groups)) (joined groups) (joined (reverse l0) ++ flat_map joined lower) (joined l0 ++ flat_map joined lower) (same-reversed groups)
    (same-joint (joined (reverse l0)) (joined l0) (flat_map joined lower) (flat_map joined lower) (same-reversed l0) (same-equal (flat_map joined lower) (flat_map joined lower) refl)))
  where
    apart : joined (reverse groups ++ (reverse l0 ++ map joined lower)) ≡ joined (reverse groups) ++ (joined (reverse l0) ++ flat_map joined lower)
    apart = joined-append (reverse groups) (reverse l0 ++ map joined lower)
        ∙ ap (λ x. joined (reverse groups) ++ x) (joined-append (reverse l0) (map joined lower) ∙ ap (λ x. joined (reverse l0) ++ x) (flat_map-map (λ c. c) joined lower))

pub places-clear : (groups : List (List Item)) (levels : List (List (List Item))) → Ordered (places groups levels) → IsClear (whole groups levels)
places-clear groups levels o =
    clear-within (joined (places groups levels)) (whole groups levels) (λ i. (places-same groups levels i).1) (ordered-clear (places groups levels) o)

pub places-split : (groups l0 level : List (List Item)) (upper lower : List (List (List Item))) → places groups (l0 ∷ (upper ++ (level ∷ lower))) ≡ places groups (l0 ∷ upper) ++ (joined level ∷ map joined lower)
places-split groups l0 level upper lower =
    ap (λ x. reverse groups ++ (reverse l0 ++ x)) (map-append joined upper (level ∷ lower))
    ∙ ap (λ x. reverse groups ++ x) (sym (append_assoc (reverse l0) (map joined upper) (joined level ∷ map joined lower)))
    ∙ sym (append_assoc (reverse groups) (reverse l0 ++ map joined upper) (joined level ∷ map joined lower))

pub groups-operations : (gs : List Group) → joined (map (λ g. items g.ops) gs) ≡ items (all_ops gs)
groups-operations [] = refl
groups-operations (g ∷ gs) =
    ap (λ x. items g.ops ++ x) (groups-operations gs) ∙ sym (map-append (λ o. item_at o.0 o.1) g.ops (all_ops gs))

-- the last group is the first place
pub places-last : (groups : List (List Item)) (active : List Item) (levels : List (List (List Item))) → places (groups ++ active ∷ []) levels ≡ active ∷ places groups levels
places-last groups active [] = reverse-append groups (active ∷ [])
places-last groups active (l0 ∷ lower) = ap (λ x. x ++ (reverse l0 ++ map joined lower)) (reverse-append groups (active ∷ []))

-- numbered operations

pub numbered-item : (next : ℕ) (ops : List Op) (i : Item) → Has (items (numbered next ops)) i → (next ≤ seq_of i) × (seq_of i < next + length ops)
numbered-item next ops i h =
    let from = Has-from_map (λ o. item_at o.0 o.1) (numbered next ops) i h in
    let low = rises-from next (next + length ops) (numbered next ops) from.0 (rises-numbered next ops) from.1 in
    let high = rises-below next (next + length ops) (numbered next ops) from.0 (rises-numbered next ops) from.1 in
    let same : seq_of (item_at from.0.0 from.0.1) ≡ seq_of i = ap seq_of from.2 in
    let number : seq_of (item_at from.0.0 from.0.1) ≡ from.0.0 = seq-item from.0.0 from.0.1 in
    (omega arith, omega arith)

-- numbers from the next one on are newer than those below it
pub newer-numbered : (next : ℕ) (a b : List Item) → IsAllFrom next a → IsAllBelow next b → IsNewer a b
newer-numbered next a b f g = λ k i j p q at_i at_j.
    let low : next ≤ seq_of i = f i p in
    let high : seq_of j < next = g j q in
    omega arith

pub committed-ordered : (active : List Item) (older : List (List Item)) (next : ℕ) (ops : List Op) → Ordered (active ∷ older) → IsAllBelow next (active ++ joined older) → Ordered ((active ++ items (numbered next ops)) ∷ older)
committed-ordered active older next ops o below =
    let new = items (numbered next ops) in
    let from : IsAllFrom next new = λ i h. (numbered-item next ops i h).0 in
    let over_active = newer-numbered next new active from (λ i h. below i (Has-append_left active (joined older) i h)) in
    let over_older = newer-numbered next new (joined older) from (λ i h. below i (Has-append_right active (joined older) i h)) in
    let clear = clear-together new active (items-clear next (next + length ops) (numbered next ops) (rises-numbered next ops)) o.0 over_active in (
      clear-within (new ++ active) (active ++ new) (λ i h. elim (Has-append_cases active new i h) [
        | inl g ↦ Has-append_right new active i g
        | inr g ↦ Has-append_left new active i g
      ]) clear,
      newer-upper active new (joined older) o.1 over_older,
      o.2,
    )

pub commit-ordered : (sealed : List (List Item)) (active : List Item) (levels : List (List (List Item))) (next : ℕ) (ops : List Op) → Ordered (places (sealed ++ active ∷ []) levels) → IsAllBelow next (whole (sealed ++ active ∷ []) levels) → Ordered (places (sealed ++ (active ++ items (numbered next ops)) ∷ []) levels)
commit-ordered sealed active levels next ops o below =
    subst Ordered (sym (places-last sealed (active ++ items (numbered next ops)) levels))
    (committed-ordered active (places sealed levels) next ops (subst Ordered (places-last sealed active levels) o)
    (λ i h. below i ((places-same (sealed ++ active ∷ []) levels i).0 (subst (λ x. Has (joined x) i) (sym (places-last sealed active levels)) h))))

pub seal-ordered : (groups : List (List Item)) (levels : List (List (List Item))) → Ordered (places groups levels) → Ordered (places (groups ++ [] ∷ []) levels)
seal-ordered groups levels o =
    subst Ordered (sym (places-last groups [] levels)) ((λ key seq v w p q. absurd p), (λ k i j p q at_i at_j. absurd p), o)

pub seal-whole : (groups : List (List Item)) (levels : List (List (List Item))) → whole (groups ++ [] ∷ []) levels ≡ whole groups levels
seal-whole groups levels = ap (λ x. x ++ flat_map joined levels) (joined-append groups ([] ∷ []) ∙ append-nil (joined groups))

-- numbers

pub numbers-committed : (next : ℕ) (c : List Item) (marks : List ℕ) (ops : List Op) → IsNumberedUpTo next c marks → IsNumberedUpTo (next + length ops) (c ++ items (numbered next ops)) marks
numbers-committed next c marks ops n = record {
  numbers = λ i h. elim (Has-append_cases c (items (numbered next ops)) i h) [
    | inl g ↦ let low : seq_of i < next = n.numbers i g in omega arith
    | inr g ↦ (numbered-item next ops i g).1
  ];
  upto = λ m h. let low : m ≤ next = n.upto m h in omega arith;
}

pub numbers-marked : (next : ℕ) (c : List Item) (marks : List ℕ) → IsNumberedUpTo next c marks → IsNumberedUpTo next c (marks ++ next ∷ [])
numbers-marked next c marks n = record {
  numbers = n.numbers;
  upto = λ m h. elim (Has-append_cases marks (next ∷ []) m h) [
    | inl g ↦ n.upto m g
    | inr g ↦ elim g [
      | inl e ↦ omega (arith, e)
      | inr never ↦ absurd never
    ]
  ];
}

pub numbers-drawn : (next : ℕ) (c d : List Item) (marks : List ℕ) → IsNumberedUpTo next c marks → ((i : Item) → Has d i → (j : Item) × Has c j × (seq_of j ≡ seq_of i)) → IsNumberedUpTo next d marks
numbers-drawn next c d marks n from = record {
  numbers = λ i h.
      let s = from i h in
      let low : seq_of s.0 < next = n.numbers s.0 s.1 in
      omega (arith, s.2);
  upto = n.upto;
}
