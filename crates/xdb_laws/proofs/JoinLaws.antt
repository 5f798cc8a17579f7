-- Tables of one number that come to stand among older content keep the order of all places.
use Rattle.std.proofs.Common.{◌≡◌, ℕ, ◌⊎◌, List, [], ◌∷◌, ◌++◌, map, reverse, append-nil, inl, inr, sym, ap, ◌∙◌, subst, arith}
use Rattle.std.proofs.lemmas.List.{reverse-append, append_assoc}
use Rattle.xdb_rangedel.specs.Content.{Item, seq_of}
use Rattle.xdb_rangedel.specs.Layers.{IsAllBelow}
use Rattle.xdb_rangedel.specs.Members.{Has}
use Rattle.xdb_rangedel.proofs.MemberLaws.{Has-append_left, Has-append_right, Has-append_cases}
use Rattle.xdb_laws.specs.Compaction.{ShareNoKey}
use Rattle.xdb_laws.specs.Ordered.{IsNewer, joined, Ordered, places}
use Rattle.xdb_laws.specs.Placement.{AreApart, AreFilled, Joins}
use Rattle.xdb_laws.proofs.CutLaws.{turned-first}
use Rattle.xdb_laws.proofs.OrderLaws.{joined-left, joined-right, joined-cases, clear-together, clear-within, ordered-layers, ordered-upper, ordered-lower, ordered-together}
use Rattle.xdb_laws.proofs.PlaceLaws.{same-reversed, places-same}

-- ---- what shares no key

pub strangers : (a b : List Item) → ShareNoKey a b → IsNewer a b
strangers a b s = λ k i j p q at_i at_j. absurd (s k i j p q at_i at_j)

pub unrelated-within : (a b c d : List Item) → ((i : Item) → Has c i → Has a i) → ((i : Item) → Has d i → Has b i) → ShareNoKey a b → ShareNoKey c d
unrelated-within a b c d f g s = λ k i j p q at_i at_j. s k i j (f i p) (g j q) at_i at_j

apart-layers : (a b : List (List Item)) → AreApart (a ++ b) → ShareNoKey (joined a) (joined b)
apart-layers [] b s = λ k i j p q at_i at_j. p
apart-layers (c ∷ a) b s = λ k i j p q at_i at_j. elim (Has-append_cases c (joined a) i p) [
  | inl h ↦ s.1 k i j h (joined-right a b j q) at_i at_j
  | inr h ↦ apart-layers a b s.2 k i j h q at_i at_j
]

apart-upper : (a b : List (List Item)) → AreApart (a ++ b) → AreApart a
apart-upper [] b s = tt
apart-upper (c ∷ a) b s = (s.0, unrelated-within c (joined (a ++ b)) c (joined a) (λ i h. h) (joined-left a b) s.1, apart-upper a b s.2)

apart-lower : (a b : List (List Item)) → AreApart (a ++ b) → AreApart b
apart-lower [] b s = s
apart-lower (c ∷ a) b s = apart-lower a b s.2

-- in whatever order, places that share no key stand in order
apart-turned : (cs : List (List Item)) → AreApart cs → Ordered (reverse cs)
apart-turned [] s = tt
apart-turned (c ∷ cs) s =
    subst Ordered (sym (turned-first c cs))
    (ordered-together (reverse cs) (c ∷ []) (apart-turned cs s.2) (s.0, (λ k i j p q at_i at_j. absurd q), tt)
    (λ k i j p q at_i at_j. absurd (s.1 k j i (subst (λ x. Has x j) (append-nil c) q) ((same-reversed cs i).0 p) at_j at_i)))

-- ---- the levels below L0

-- what a level has then, it had or has got
filled-from : (above : List Item) (ls cs fs : List (List (List Item))) (i : Item) → AreFilled above ls cs fs → Has (joined (map joined fs)) i → Has (joined (map joined ls)) i ⊎ Has (joined (map joined cs)) i
filled-from above [] [] [] i f h = absurd h
filled-from above [] [] (m ∷ ms) i f h = absurd f
filled-from above [] (c ∷ cs) fs i f h = absurd f
filled-from above (l ∷ ls) [] fs i f h = absurd f
filled-from above (l ∷ ls) (c ∷ cs) [] i f h = absurd f
filled-from above (l ∷ ls) (c ∷ cs) (m ∷ ms) i f h = elim (Has-append_cases (joined m) (joined (map joined ms)) i h) [
  | inl g ↦ elim (Has-append_cases (joined l) (joined c) i ((f.1 i).0 g)) [
    | inl a ↦ inl (Has-append_left (joined l) (joined (map joined ls)) i a)
    | inr b ↦ inr (Has-append_left (joined c) (joined (map joined cs)) i b)
  ]
  | inr g ↦ elim (filled-from (above ++ joined l) ls cs ms i f.2 g) [
    | inl a ↦ inl (Has-append_right (joined l) (joined (map joined ls)) i a)
    | inr b ↦ inr (Has-append_right (joined c) (joined (map joined cs)) i b)
  ]
]

-- nothing that comes shares a key with what stands above
filled-free : (above : List Item) (ls cs fs : List (List (List Item))) → AreFilled above ls cs fs → ShareNoKey above (joined (map joined cs))
filled-free above [] [] [] f = λ k i j p q at_i at_j. q
filled-free above [] [] (m ∷ ms) f = absurd f
filled-free above [] (c ∷ cs) fs f = absurd f
filled-free above (l ∷ ls) [] fs f = absurd f
filled-free above (l ∷ ls) (c ∷ cs) [] f = absurd f
filled-free above (l ∷ ls) (c ∷ cs) (m ∷ ms) f = λ k i j p q at_i at_j. elim (Has-append_cases (joined c) (joined (map joined cs)) j q) [
  | inl h ↦ f.0 k i j (Has-append_left above (joined l) i p) h at_i at_j
  | inr h ↦ filled-free (above ++ joined l) ls cs ms f.2 k i j (Has-append_left above (joined l) i p) h at_i at_j
]

-- below a number, and at it
abbrev HasNumber : ℕ → List Item → Type 0
HasNumber n c = (i : Item) → Has c i → seq_of i ≡ n

newer-coming : (next : ℕ) (a b : List Item) → HasNumber next a → IsAllBelow next b → IsNewer a b
newer-coming next a b number older = λ k i j p q at_i at_j. let e = number i p in let low = older j q in omega arith

-- one level above the others
level-newer : (next : ℕ) (above : List Item) (l c m : List (List Item)) (ls cs ms : List (List (List Item))) → Ordered (map joined (l ∷ ls)) → IsAllBelow next (joined (map joined (l ∷ ls))) → HasNumber next (joined (map joined (c ∷ cs))) → AreApart (map joined (c ∷ cs)) → AreFilled above (l ∷ ls) (c ∷ cs) (m ∷ ms)
    → IsNewer (joined m) (joined (map joined ms))
level-newer next above l c m ls cs ms o older number apart f = λ k i j p q at_i at_j.
    let lj = joined l in
    let cj = joined c in
    let lows = joined (map joined ls) in
    let comes = joined (map joined cs) in
    elim (Has-append_cases lj cj i ((f.1 i).0 p)) [
      | inl a ↦ elim (filled-from (above ++ lj) ls cs ms j f.2 q) [
        | inl b ↦ o.1 k i j a b at_i at_j
        | inr b ↦ absurd (filled-free (above ++ lj) ls cs ms f.2 k i j (Has-append_right above lj i a) b at_i at_j)
      ]
      | inr a ↦ elim (filled-from (above ++ lj) ls cs ms j f.2 q) [
        | inl b ↦
            let e = number i (Has-append_left cj comes i a) in
            let low = older j (Has-append_right lj lows j b) in
            omega arith
        | inr b ↦ absurd (apart.1 k i j a b at_i at_j)
      ]
    ]

levels-ordered : (next : ℕ) (above : List Item) (ls cs fs : List (List (List Item))) → Ordered (map joined ls) → IsAllBelow next (joined (map joined ls)) → HasNumber next (joined (map joined cs)) → AreApart (map joined cs) → AreFilled above ls cs fs → Ordered (map joined fs)
levels-ordered next above [] [] [] o older number apart f = tt
levels-ordered next above [] [] (m ∷ ms) o older number apart f = absurd f
levels-ordered next above [] (c ∷ cs) fs o older number apart f = absurd f
levels-ordered next above (l ∷ ls) [] fs o older number apart f = absurd f
levels-ordered next above (l ∷ ls) (c ∷ cs) [] o older number apart f = absurd f
levels-ordered next above (l ∷ ls) (c ∷ cs) (m ∷ ms) o older number apart f =
    let lj = joined l in
    let cj = joined c in
    let lows = joined (map joined ls) in
    let comes = joined (map joined cs) in
    let over = newer-coming next cj lj (λ i h. number i (Has-append_left cj comes i h)) (λ i h. older i (Has-append_left lj lows i h)) in
    let both = clear-together cj lj apart.0 o.0 over in (
      clear-within (cj ++ lj) (joined m) (λ i h. elim (Has-append_cases lj cj i ((f.1 i).0 h)) [
        | inl g ↦ Has-append_right cj lj i g
        | inr g ↦ Has-append_left cj lj i g
      ]) both,
      level-newer next above l c m ls cs ms o older number apart f,
      levels-ordered next (above ++ lj) ls cs ms o.2 (λ i h. older i (Has-append_right lj lows i h)) (λ i h. number i (Has-append_right cj comes i h)) apart.2 f.2,
    )

-- ---- all of them

module _ (next : ℕ) (groups l0 fresh : List (List Item)) (lower coming filled : List (List (List Item))) (o : Ordered (places groups (l0 ∷ lower))) (is : Joins next groups l0 fresh lower coming filled) where
  older-places : IsAllBelow next (joined (places groups (l0 ∷ lower)))
  older-places = λ i h. is.older i ((places-same groups (l0 ∷ lower) i).0 h)

  rest-places : Ordered (reverse l0 ++ map joined lower)
  rest-places = ordered-lower (reverse groups) (reverse l0 ++ map joined lower) o

  older-rest : IsAllBelow next (joined (reverse l0 ++ map joined lower))
  older-rest = λ i h. older-places i (joined-right (reverse groups) (reverse l0 ++ map joined lower) i h)

  comes-below : ShareNoKey (joined groups ++ joined l0) (joined (map joined coming))
  comes-below = filled-free (joined groups ++ joined l0) lower coming filled is.levels

  number-fresh : HasNumber next (joined (reverse fresh))
  number-fresh = λ i h. is.number i (joined-left fresh (map joined coming) i ((same-reversed fresh i).0 h))

  -- L0 as it was, above the levels
  l0-newer : IsNewer (joined (reverse l0)) (joined (map joined filled))
  l0-newer = λ k i j p q at_i at_j. elim (filled-from (joined groups ++ joined l0) lower coming filled j is.levels q) [
    | inl b ↦ ordered-layers (reverse l0) (map joined lower) rest-places k i j p b at_i at_j
    | inr b ↦ absurd (comes-below k i j (Has-append_right (joined groups) (joined l0) i ((same-reversed l0 i).0 p)) b at_i at_j)
  ]

  low-ordered : Ordered (reverse l0 ++ map joined filled)
  low-ordered =
      ordered-together (reverse l0) (map joined filled) (ordered-upper (reverse l0) (map joined lower) rest-places)
      (levels-ordered next (joined groups ++ joined l0) lower coming filled (ordered-lower (reverse l0) (map joined lower) rest-places)
      (λ i h. older-rest i (joined-right (reverse l0) (map joined lower) i h))
      (λ i h. is.number i (joined-right fresh (map joined coming) i h))
      (apart-lower fresh (map joined coming) is.apart) is.levels)
      l0-newer

  -- what stands in L0 and below it is old, or has come to a level
  low-from : (j : Item) → Has (joined (reverse l0 ++ map joined filled)) j → Has (joined (reverse l0 ++ map joined lower)) j ⊎ Has (joined (map joined coming)) j
  low-from j h = elim (joined-cases (reverse l0) (map joined filled) j h) [
    | inl a ↦ inl (joined-left (reverse l0) (map joined lower) j a)
    | inr a ↦ elim (filled-from (joined groups ++ joined l0) lower coming filled j is.levels a) [
      | inl b ↦ inl (joined-right (reverse l0) (map joined lower) j b)
      | inr b ↦ inr b
    ]
  ]

  fresh-newer : IsNewer (joined (reverse fresh)) (joined (reverse l0 ++ map joined filled))
  fresh-newer = λ k i j p q at_i at_j. elim (low-from j q) [
    | inl b ↦ let e = number-fresh i p in let low = older-rest j b in omega arith
    | inr b ↦ absurd (apart-layers fresh (map joined coming) is.apart k i j ((same-reversed fresh i).0 p) b at_i at_j)
  ]

  groups-newer : IsNewer (joined (reverse groups)) (joined (reverse fresh ++ (reverse l0 ++ map joined filled)))
  groups-newer = λ k i j p q at_i at_j.
      let there = (same-reversed groups i).0 p in
      elim (joined-cases (reverse fresh) (reverse l0 ++ map joined filled) j q) [
        | inl a ↦ absurd (is.free k i j there ((same-reversed fresh j).0 a) at_i at_j)
        | inr a ↦ elim (low-from j a) [
          | inl b ↦ ordered-layers (reverse groups) (reverse l0 ++ map joined lower) o k i j p b at_i at_j
          | inr b ↦ absurd (comes-below k i j (Has-append_left (joined groups) (joined l0) i there) b at_i at_j)
        ]
      ]

  pub join-places : Ordered (places groups ((l0 ++ fresh) ∷ filled))
  join-places =
      subst (λ x. Ordered (reverse groups ++ x)) (sym (ap (λ x. x ++ map joined filled) (reverse-append l0 fresh) ∙ append_assoc (reverse fresh) (reverse l0) (map joined filled)))
      (ordered-together (reverse groups) (reverse fresh ++ (reverse l0 ++ map joined filled))
      (ordered-upper (reverse groups) (reverse l0 ++ map joined lower) o)
      (ordered-together (reverse fresh) (reverse l0 ++ map joined filled) (apart-turned fresh (apart-upper fresh (map joined coming) is.apart)) low-ordered fresh-newer)
      groups-newer)
