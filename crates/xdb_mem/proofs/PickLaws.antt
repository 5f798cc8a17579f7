-- What is picked of entries and clipped of range tombstones, list by list.
use Rattle.std.proofs.Common.{◌≡◌, ℕ, zero, suc, ◌+◌, ◌<◌, ◌^◌, Bool, true, false, cond, ltb, List, [], ◌∷◌, ◌++◌, length, get_or, take, drop, inl, inr, refl, sym, ap, ◌∙◌, subst}
use Rattle.std.proofs.lemmas.Bool.{cases_Bool, and_parts, and_from}
use Rattle.std.proofs.lemmas.List.{append_assoc, append-nil, take-append-drop, take_more}
use Rattle.std.proofs.lemmas.List.Elements.{filter-append, filter_map-append, filter_more}
use Rattle.std.specs.List.{filter, filter_map}
use Rattle.std.specs.Option.{option_to_list}
use Rattle.xdb_key.specs.Bounds.{Bounds, holds}
use Rattle.xdb_key.specs.Entries.{Point, Tombstone}
use Rattle.xdb_key.specs.declared.op.Op.{Op}
use Rattle.xdb_rangedel.specs.Members.{Has, SameMembers}
use Rattle.xdb_rangedel.proofs.MemberLaws.{Has-append_left, Has-append_right, Has-append_cases, Has-get_or}
use Rattle.xdb_mem.specs.InOrder.{AreNumbered}
use Rattle.xdb_mem.specs.Numbered.{RisesWithin, points, spans}
use Rattle.xdb_mem.specs.KeptQueue.{joined}
use Rattle.xdb_mem.specs.Parts.{is_picked, picked, part_below, clipped}
use Rattle.xdb_mem.proofs.NumberLaws.{points-append, spans-append, one_or_none}
use Rattle.xdb_mem.proofs.HeldLaws.{points-numbered, same_then, same_front}
use Rattle.xdb_mem.proofs.QueueLaws.{joined_more}

pub Has-filter : {A : Type 0} (p : A → Bool) (xs : List A) (x : A) → Has xs x → p x ≡ true → Has (filter p xs) x
Has-filter p [] x h e = absurd h
Has-filter p (y ∷ xs) x (inl same) e =
    let here : p y ≡ true = ap p same ∙ e in
    rw here (inl same)
Has-filter p (y ∷ xs) x (inr h) e = elim (cases_Bool (p y)) [
  | inl k ↦ rw k (inr (Has-filter p xs x h e))
  | inr k ↦ rw k (Has-filter p xs x h e)
]

pub Has-from_filter : {A : Type 0} (p : A → Bool) (xs : List A) (x : A) → Has (filter p xs) x → Has xs x × (p x ≡ true)
Has-from_filter p [] x h = absurd h
Has-from_filter p (y ∷ xs) x h = elim (cases_Bool (p y)) [
  | inl k ↦ elim (rw k at h) [
    | inl same ↦ (inl same, ap p (sym same) ∙ k)
    | inr g ↦ let from = Has-from_filter p xs x g in (inr from.0, from.1)
  ]
  | inr k ↦ let from = Has-from_filter p xs x (rw k at h) in (inr from.0, from.1)
]

Has-take : {A : Type 0} (n : ℕ) (xs : List A) (x : A) → Has (take n xs) x → Has xs x
Has-take n xs x h = subst (λ ys. Has ys x) (take-append-drop n xs) (Has-append_left (take n xs) (drop n xs) x h)

pub numbered-part : (xs ys : List Point) → ((x : Point) → Has xs x → Has ys x) → AreNumbered ys → AreNumbered xs
numbered-part xs ys within numbered = λ p q has_p has_q e. numbered p q (within p has_p) (within q has_q) e

abbrev pub is_under : ℕ → Point → Bool
is_under limit p = ltb p.seq limit

-- one more of the entries, with a number below the limit
under-more : (es : List Point) (limit i : ℕ) (x : Point) → i < length es → x ≡ get_or es i x → is_under limit x ≡ true → filter (is_under limit) (take (i + 1) es) ≡ filter (is_under limit) (take i es) ++ x ∷ []
under-more es limit i x inside at small =
    let q = is_under limit in
    filter_more q es i x inside ∙ ap (λ y. filter q (take i es) ++ cond (q y) (y ∷ []) []) (sym at) ∙ ap (λ b. filter q (take i es) ++ cond b (x ∷ []) []) small

-- with another number
over-more : (es : List Point) (limit i : ℕ) (x : Point) → i < length es → x ≡ get_or es i x → is_under limit x ≡ false → filter (is_under limit) (take (i + 1) es) ≡ filter (is_under limit) (take i es)
over-more es limit i x inside at large =
    let q = is_under limit in
    filter_more q es i x inside ∙ ap (λ y. filter q (take i es) ++ cond (q y) (y ∷ []) []) (sym at) ∙ ap (λ b. filter q (take i es) ++ cond b (x ∷ []) []) large ∙ append-nil (filter q (take i es))

-- an entry with a number below the limit is added
pub add_one : (old es out now : List Point) (limit i : ℕ) (x e : Point) → i < length es → x ≡ get_or es i x → e ≡ x → is_under limit x ≡ true → out ≡ old ++ filter (is_under limit) (take i es) → now ≡ out ++ e ∷ [] → now ≡ old ++ filter (is_under limit) (take (i + 1) es)
add_one old es out now limit i x e inside at same small before added =
    let front = filter (is_under limit) (take i es) in
    added ∙ ap (λ xs. xs ++ e ∷ []) before ∙ append_assoc old front (e ∷ []) ∙ ap (λ y. old ++ (front ++ y ∷ [])) same
    ∙ ap (λ ys. old ++ ys) (sym (under-more es limit i x inside at small))

-- one with another number is left out
pub leave_one : (old es out : List Point) (limit i : ℕ) (x : Point) → i < length es → x ≡ get_or es i x → is_under limit x ≡ false → out ≡ old ++ filter (is_under limit) (take i es) → out ≡ old ++ filter (is_under limit) (take (i + 1) es)
leave_one old es out limit i x inside at large before = before ∙ ap (λ ys. old ++ ys) (sym (over-more es limit i x inside at large))

-- an entry with a number below the limit is put
pub put_one : (old es out now : List Point) (limit i : ℕ) (x e : Point) → i < length es → x ≡ get_or es i x → e ≡ x → is_under limit x ≡ true → AreNumbered (old ++ es) → SameMembers out (old ++ filter (is_under limit) (take i es)) → (AreNumbered (out ++ e ∷ []) → SameMembers now (out ++ e ∷ [])) → SameMembers now (old ++ filter (is_under limit) (take (i + 1) es))
put_one old es out now limit i x e inside at same small numbered before put =
    let q = is_under limit in
    let has_x : Has es x = subst (Has es) (sym at) (Has-get_or es i x inside) in
    let within : (p : Point) → Has (out ++ e ∷ []) p → Has (old ++ es) p = λ p h. elim (Has-append_cases out (e ∷ []) p h) [
      | inl a ↦ elim (Has-append_cases old (filter q (take i es)) p ((before p).0 a)) [
        | inl b ↦ Has-append_left old es p b
        | inr b ↦ Has-append_right old es p (Has-take i es p (Has-from_filter q (take i es) p b).0)
      ]
      | inr (inl e_p) ↦ Has-append_right old es p (subst (Has es) (sym same ∙ e_p) has_x)
      | inr (inr nothing) ↦ absurd nothing
    ] in
    let now_is = put (numbered-part (out ++ e ∷ []) (old ++ es) within numbered) in
    let all : SameMembers now ((old ++ filter q (take i es)) ++ e ∷ []) = same_then now (out ++ e ∷ []) ((old ++ filter q (take i es)) ++ e ∷ []) now_is (same_front out (old ++ filter q (take i es)) (e ∷ []) before) in
    subst (SameMembers now) (append_assoc old (filter q (take i es)) (e ∷ []) ∙ ap (λ y. old ++ (filter q (take i es) ++ y ∷ [])) same ∙ ap (λ ys. old ++ ys) (sym (under-more es limit i x inside at small))) all

-- one with another number is passed by
pub pass_one : (old es out : List Point) (limit i : ℕ) (x : Point) → i < length es → x ≡ get_or es i x → is_under limit x ≡ false → SameMembers out (old ++ filter (is_under limit) (take i es)) → SameMembers out (old ++ filter (is_under limit) (take (i + 1) es))
pass_one old es out limit i x inside at large before =
    subst (λ ys. SameMembers out (old ++ ys)) (sym (over-more es limit i x inside at large)) before

-- ---- what one memtable gives

pub picked-same : (range : Bounds) (limit : ℕ) (es found : List Point) (ops : List (ℕ × Op)) → SameMembers es (points ops) → found ≡ filter (λ p. holds range p.key) es → SameMembers (filter (is_under limit) found) (picked range limit ops)
picked-same range limit es found ops same e = λ z. (
  λ h.
      let under = Has-from_filter (is_under limit) found z h in
      let inside = Has-from_filter (λ (p : Point). holds range p.key) es z (subst (λ xs. Has xs z) e under.0) in
      Has-filter (is_picked range limit) (points ops) z ((same z).0 inside.0) (and_from (holds range z.key) (ltb z.seq limit) inside.1 under.1),
  λ h.
      let from = Has-from_filter (is_picked range limit) (points ops) z h in
      let both = and_parts (holds range z.key) (ltb z.seq limit) from.1 in
      Has-filter (is_under limit) found z (subst (λ xs. Has xs z) (sym e) (Has-filter (λ (p : Point). holds range p.key) es z ((same z).1 from.0) both.0)) both.1,
)

pub found-numbered : (range : Bounds) (old es found : List Point) (ops : List (ℕ × Op)) → SameMembers es (points ops) → found ≡ filter (λ p. holds range p.key) es → AreNumbered (old ++ points ops) → AreNumbered (old ++ found)
found-numbered range old es found ops same e numbered = numbered-part (old ++ found) (old ++ points ops) (λ p h. elim (Has-append_cases old found p h) [
  | inl a ↦ Has-append_left old (points ops) p a
  | inr b ↦ Has-append_right old (points ops) p ((same p).0 (Has-from_filter (λ (x : Point). holds range x.key) es p (subst (λ xs. Has xs p) e b)).0)
]) numbered

-- ---- what one memtable after the other gives

pub picked-append : (range : Bounds) (limit : ℕ) (xs ys : List (ℕ × Op)) → picked range limit (xs ++ ys) ≡ picked range limit xs ++ picked range limit ys
picked-append range limit xs ys =
    ap (filter (is_picked range limit)) (points-append xs ys) ∙ filter-append (is_picked range limit) (points xs) (points ys)

pub clipped-append : (range : Bounds) (limit : ℕ) (xs ys : List (ℕ × Op)) → clipped range limit (xs ++ ys) ≡ clipped range limit xs ++ clipped range limit ys
clipped-append range limit xs ys =
    ap (filter_map (part_below range limit)) (spans-append xs ys) ∙ filter_map-append (part_below range limit) (spans xs) (spans ys)

-- the next operations are picked from too
pub picked_then : (range : Bounds) (limit : ℕ) (done next : List (ℕ × Op)) (out now : List Point) → SameMembers out (picked range limit done) → SameMembers now (out ++ picked range limit next) → SameMembers now (picked range limit (done ++ next))
picked_then range limit done next out now before step =
    subst (SameMembers now) (sym (picked-append range limit done next)) (same_then now (out ++ picked range limit next) (picked range limit done ++ picked range limit next) step (same_front out (picked range limit done) (picked range limit next) before))

-- what was picked, and the next entries, are entries of operations whose numbers rise
pub picked-numbered : (range : Bounds) (limit : ℕ) (all done next : List (ℕ × Op)) (rest : List (ℕ × Op)) (out : List Point) → all ≡ (done ++ next) ++ rest → RisesWithin 1 (2 ^ 56) all → SameMembers out (picked range limit done) → AreNumbered (out ++ points next)
picked-numbered range limit all done next rest out split rising before =
    let whole : points all ≡ (points done ++ points next) ++ points rest =
    ap points split ∙ points-append (done ++ next) rest ∙ ap (λ ps. ps ++ points rest) (points-append done next) in
    numbered-part (out ++ points next) (points all) (λ p h.
    subst (λ ps. Has ps p) (sym whole) (Has-append_left (points done ++ points next) (points rest) p (elim (Has-append_cases out (points next) p h) [
      | inl a ↦ Has-append_left (points done) (points next) p (Has-from_filter (is_picked range limit) (points done) p ((before p).0 a)).0
      | inr b ↦ Has-append_right (points done) (points next) p b
    ]))) (points-numbered 1 (2 ^ 56) all rising)

joined-split : (ms : List (List (ℕ × Op))) (i : ℕ) → joined ms ≡ joined (take i ms) ++ joined (drop i ms)
joined-split ms zero = refl
joined-split [] (suc i) = refl
joined-split (m ∷ ms) (suc i) = ap (λ xs. m ++ xs) (joined-split ms i) ∙ sym (append_assoc m (joined (take i ms)) (joined (drop i ms)))

-- the operations before a memtable, its own, and those behind it
pub joined-at : (ms : List (List (ℕ × Op))) (a : List (ℕ × Op)) (i : ℕ) (m : List (ℕ × Op)) → i < length ms → m ≡ get_or ms i m → joined ms ++ a ≡ (joined (take i ms) ++ m) ++ (joined (drop (i + 1) ms) ++ a)
joined-at ms a i m inside e =
    ap (λ xs. xs ++ a) (joined-split ms (i + 1) ∙ ap (λ xs. xs ++ joined (drop (i + 1) ms)) (joined_more ms i m inside e))
    ∙ append_assoc (joined (take i ms) ++ m) (joined (drop (i + 1) ms)) a

pub part_more : (range : Bounds) (limit : ℕ) (ts : List Tombstone) (i : ℕ) (t : Tombstone) (old before now : List Tombstone) → i < length ts → t ≡ get_or ts i t → before ≡ old ++ filter_map (part_below range limit) (take i ts) → now ≡ before ++ option_to_list (part_below range limit t) → now ≡ old ++ filter_map (part_below range limit) (take (i + 1) ts)
part_more range limit ts i t old before now inside e was made =
    let f = part_below range limit in
    made ∙ ap (λ xs. xs ++ option_to_list (f t)) was ∙ append_assoc old (filter_map f (take i ts)) (option_to_list (f t))
    ∙ ap (λ xs. old ++ (filter_map f (take i ts) ++ xs)) (sym (one_or_none (f t)))
    ∙ ap (λ xs. old ++ xs) (sym (filter_map-append f (take i ts) (t ∷ [])))
    ∙ ap (λ xs. old ++ filter_map f xs) (ap (λ x. take i ts ++ x ∷ []) e ∙ sym (take_more ts i t inside))

pub nothing-in : {A : Type 0} (xs : List A) → SameMembers xs [] → xs ≡ []
nothing-in [] h = refl
nothing-in (x ∷ xs) h = absurd ((h x).0 (inl refl))
