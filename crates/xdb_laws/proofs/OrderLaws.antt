-- Contents that are newer than others, and places in order.
use Rattle.std.proofs.Common.{◌≡◌, ℕ, ◌<◌, ◌⊎◌, Bool, List, [], ◌∷◌, ◌++◌, filter, inl, inr, refl, sym, subst, arith}
use Rattle.std.proofs.lemmas.Bool.{cases_Bool}
use Rattle.std.proofs.lemmas.Grind.{flat_map-append}
use Rattle.xdb_rangedel.specs.Content.{Item, entry, span, seq_of, rank, IsClear}
use Rattle.xdb_rangedel.specs.Layers.{IsDrawn}
use Rattle.xdb_rangedel.specs.Members.{Has, SameMembers}
use Rattle.xdb_rangedel.proofs.MemberLaws.{Has-append_left, Has-append_right, Has-append_cases}
use Rattle.xdb_rangedel.proofs.NewestLaws.{same_key-itself}
use Rattle.xdb_rangedel.proofs.LayerLaws.{drawn_clear, drawn_newer}
use Rattle.xdb_laws.specs.Ordered.{IsNewer, joined, Ordered, HasSource, AreLeftOf}

-- what joined contents have

pub joined-append : (a b : List (List Item)) → joined (a ++ b) ≡ joined a ++ joined b
joined-append a b = flat_map-append (λ c. c) a b

pub joined-left : (a b : List (List Item)) (i : Item) → Has (joined a) i → Has (joined (a ++ b)) i
joined-left a b i h = subst (λ x. Has x i) (sym (joined-append a b)) (Has-append_left (joined a) (joined b) i h)

pub joined-right : (a b : List (List Item)) (i : Item) → Has (joined b) i → Has (joined (a ++ b)) i
joined-right a b i h = subst (λ x. Has x i) (sym (joined-append a b)) (Has-append_right (joined a) (joined b) i h)

pub joined-cases : (a b : List (List Item)) (i : Item) → Has (joined (a ++ b)) i → Has (joined a) i ⊎ Has (joined b) i
joined-cases a b i h = Has-append_cases (joined a) (joined b) i (subst (λ x. Has x i) (joined-append a b) h)

-- the same rank is the same number
pub seq-of_rank : (i j : Item) → rank j ≡ rank i → seq_of j ≡ seq_of i
seq-of_rank (entry key seq v) (entry other t w) e = omega (arith, e)
seq-of_rank (entry key seq v) (span t) e = absurd (omega (arith, e))
seq-of_rank (span t) (entry key seq v) e = absurd (omega (arith, e))
seq-of_rank (span t) (span u) e = omega (arith, e)

-- newer contents

pub newer-upper : (a b c : List Item) → IsNewer a c → IsNewer b c → IsNewer (a ++ b) c
newer-upper a b c f g = λ k i j p q at_i at_j. elim (Has-append_cases a b i p) [
  | inl h ↦ f k i j h q at_i at_j
  | inr h ↦ g k i j h q at_i at_j
]

pub newer-lower : (a b c : List Item) → IsNewer a b → IsNewer a c → IsNewer a (b ++ c)
newer-lower a b c f g = λ k i j p q at_i at_j. elim (Has-append_cases b c j q) [
  | inl h ↦ f k i j p h at_i at_j
  | inr h ↦ g k i j p h at_i at_j
]

pub newer-within : (a b c d : List Item) → ((i : Item) → Has c i → Has a i) → ((i : Item) → Has d i → Has b i) → IsNewer a b → IsNewer c d
newer-within a b c d f g n = λ k i j p q at_i at_j. n k i j (f i p) (g j q) at_i at_j

pub newer-drawn : (a b c d : List Item) → IsDrawn a c → IsDrawn b d → IsNewer a b → IsNewer c d
newer-drawn a b c d e f n = λ k. drawn_newer k a b c d e f (n k)

pub drawn-itself : (c : List Item) → IsDrawn c c
drawn-itself c = λ k i h at_i. (i, h, at_i, refl, refl)

pub drawn-within : (c d : List Item) → ((i : Item) → Has d i → Has c i) → IsDrawn c d
drawn-within c d f = λ k i h at_i. (i, f i h, at_i, refl, refl)

pub source-in : (c d : List Item) (k : List ℕ) (i : Item) → ((j : Item) → Has c j → Has d j) → HasSource c k i → HasSource d k i
source-in c d k i f s = (s.0, f s.0 s.1, s.2, s.3, s.4)

-- Contents that are clear are so together where one is newer.
pub clear-together : (a b : List Item) → IsClear a → IsClear b → IsNewer a b → IsClear (a ++ b)
clear-together a b ca cb n = λ key seq v w p q. elim (Has-append_cases a b (entry key seq v) p) [
  | inl h ↦ elim (Has-append_cases a b (entry key seq w) q) [
    | inl g ↦ ca key seq v w h g
    | inr g ↦ absurd (let less : seq < seq = n key (entry key seq v) (entry key seq w) h g (same_key-itself key) (same_key-itself key) in omega arith)
  ]
  | inr h ↦ elim (Has-append_cases a b (entry key seq w) q) [
    | inl g ↦ absurd (let less : seq < seq = n key (entry key seq w) (entry key seq v) g h (same_key-itself key) (same_key-itself key) in omega arith)
    | inr g ↦ cb key seq v w h g
  ]
]

pub clear-within : (c d : List Item) → ((i : Item) → Has d i → Has c i) → IsClear c → IsClear d
clear-within c d f clear = λ key seq v w p q. clear key seq v w (f (entry key seq v) p) (f (entry key seq w) q)

-- places in order

pub ordered-layers : (a b : List (List Item)) → Ordered (a ++ b) → IsNewer (joined a) (joined b)
ordered-layers [] b o = λ k i j p q at_i at_j. absurd p
ordered-layers (c ∷ a) b o = newer-upper c (joined a) (joined b)
    (newer-within c (joined (a ++ b)) c (joined b) (λ i h. h) (λ i h. joined-right a b i h) o.1)
    (ordered-layers a b o.2)

pub ordered-upper : (a b : List (List Item)) → Ordered (a ++ b) → Ordered a
ordered-upper [] b o = tt
ordered-upper (c ∷ a) b o = (
  o.0,
  newer-within c (joined (a ++ b)) c (joined a) (λ i h. h) (λ i h. joined-left a b i h) o.1,
  ordered-upper a b o.2,
)

pub ordered-lower : (a b : List (List Item)) → Ordered (a ++ b) → Ordered b
ordered-lower [] b o = o
ordered-lower (c ∷ a) b o = ordered-lower a b o.2

pub ordered-together : (a b : List (List Item)) → Ordered a → Ordered b → IsNewer (joined a) (joined b) → Ordered (a ++ b)
ordered-together [] b oa ob n = ob
ordered-together (c ∷ a) b oa ob n = (
  oa.0,
  λ k i j p q at_i at_j. elim (joined-cases a b j q) [
    | inl h ↦ oa.1 k i j p h at_i at_j
    | inr h ↦ n k i j (Has-append_left c (joined a) i p) h at_i at_j
  ],
  ordered-together a b oa.2 ob (λ k i j p q at_i at_j. n k i j (Has-append_right c (joined a) i p) q at_i at_j),
)

pub ordered-clear : (cs : List (List Item)) → Ordered cs → IsClear (joined cs)
ordered-clear [] o = λ key seq v w p q. absurd p
ordered-clear (c ∷ cs) o = clear-together c (joined cs) o.0 (ordered-clear cs o.2) o.1

-- what is left of places

pub left-drawn : (ps cs : List (List Item)) → AreLeftOf ps cs → IsDrawn (joined ps) (joined cs)
left-drawn [] [] l = λ k i h at_i. absurd h
left-drawn [] (c ∷ cs) l = absurd l
left-drawn (p ∷ ps) [] l = λ k i h at_i. absurd h
left-drawn (p ∷ ps) (c ∷ cs) (inl l) = λ k i h at_i. elim (Has-append_cases c (joined cs) i h) [
  | inl g ↦ source-in p (p ++ joined ps) k i (λ j. Has-append_left p (joined ps) j) (l.0 k i g at_i)
  | inr g ↦ source-in (joined ps) (p ++ joined ps) k i (λ j. Has-append_right p (joined ps) j) (left-drawn ps cs l.1 k i g at_i)
]
left-drawn (p ∷ ps) (c ∷ cs) (inr l) = λ k i h at_i.
    source-in (joined ps) (p ++ joined ps) k i (λ j. Has-append_right p (joined ps) j) (left-drawn ps (c ∷ cs) l k i h at_i)

pub left-ordered : (ps cs : List (List Item)) → AreLeftOf ps cs → Ordered ps → Ordered cs
left-ordered [] [] l o = tt
left-ordered [] (c ∷ cs) l o = absurd l
left-ordered (p ∷ ps) [] l o = tt
left-ordered (p ∷ ps) (c ∷ cs) (inl l) o = (
  drawn_clear p c l.0 o.0,
  newer-drawn p (joined ps) c (joined cs) l.0 (left-drawn ps cs l.1) o.1,
  left-ordered ps cs l.1 o.2,
)
left-ordered (p ∷ ps) (c ∷ cs) (inr l) o = left-ordered ps (c ∷ cs) l o.2

pub left-below : (ps cs below : List (List Item)) → AreLeftOf ps cs → Ordered (ps ++ below) → Ordered (cs ++ below)
left-below ps cs below l o = ordered-together cs below
    (left-ordered ps cs l (ordered-upper ps below o))
    (ordered-lower ps below o)
    (newer-drawn (joined ps) (joined below) (joined cs) (joined below) (left-drawn ps cs l) (drawn-itself (joined below)) (ordered-layers ps below o))

pub left-itself : (cs : List (List Item)) → AreLeftOf cs cs
left-itself [] = tt
left-itself (c ∷ cs) = inl (drawn-itself c, left-itself cs)

pub left-skip : (c : List Item) (cs ds : List (List Item)) → AreLeftOf cs ds → AreLeftOf (c ∷ cs) ds
left-skip c cs [] l = tt
left-skip c cs (d ∷ ds) l = inr l

pub left-filter : (keeps : List Item → Bool) (cs : List (List Item)) → AreLeftOf cs (filter keeps cs)
left-filter keeps [] = tt
left-filter keeps (c ∷ cs) = elim (cases_Bool (keeps c)) [
  | inl e ↦ rw e (inl (drawn-itself c, left-filter keeps cs))
  | inr e ↦ rw e (left-skip c cs (filter keeps cs) (left-filter keeps cs))
]

left-one : (upper below : List (List Item)) (c d : List Item) → IsDrawn c d → AreLeftOf (upper ++ (c ∷ below)) (upper ++ (d ∷ below))
left-one [] below c d e = inl (e, left-itself below)
left-one (p ∷ upper) below c d e = inl (drawn-itself p, left-one upper below c d e)

pub ordered-same : (upper below : List (List Item)) (c d : List Item) → SameMembers c d → Ordered (upper ++ (c ∷ below)) → Ordered (upper ++ (d ∷ below))
ordered-same upper below c d same o =
    left-ordered (upper ++ (c ∷ below)) (upper ++ (d ∷ below)) (left-one upper below c d (drawn-within c d (λ i. (same i).1))) o

-- A place that sinks below others, drawn anew, where these are newer than it.
pub ordered-sunk : (a b c : List (List Item)) (g t : List Item) → Ordered (a ++ (g ∷ (b ++ c))) → IsDrawn g t → IsNewer (joined b) t → Ordered (a ++ (b ++ (t ∷ c)))
ordered-sunk a b c g t o d n =
    let og = ordered-lower a (g ∷ (b ++ c)) o in
    let ot : Ordered (t ∷ c) = (
      drawn_clear g t d og.0,
      newer-drawn g (joined (b ++ c)) t (joined c) d (drawn-within (joined (b ++ c)) (joined c) (λ i. joined-right b c i)) og.1,
      ordered-lower b c og.2,
    ) in
    let obt = ordered-together b (t ∷ c) (ordered-upper b c og.2) ot (newer-lower (joined b) t (joined c) n (ordered-layers b c og.2)) in
    ordered-together a (b ++ (t ∷ c)) (ordered-upper a (g ∷ (b ++ c)) o) obt
    (newer-drawn (joined a) (g ++ joined (b ++ c)) (joined a) (joined (b ++ (t ∷ c))) (drawn-itself (joined a)) drawn (ordered-layers a (g ∷ (b ++ c)) o))
  where
    drawn : IsDrawn (g ++ joined (b ++ c)) (joined (b ++ (t ∷ c)))
    drawn k i h at_i = elim (joined-cases b (t ∷ c) i h) [
      | inl p ↦ (i, Has-append_right g (joined (b ++ c)) i (joined-left b c i p), at_i, refl, refl)
      | inr p ↦ elim (Has-append_cases t (joined c) i p) [
        | inl q ↦ source-in g (g ++ joined (b ++ c)) k i (λ j. Has-append_left g (joined (b ++ c)) j) (d k i q at_i)
        | inr q ↦ (i, Has-append_right g (joined (b ++ c)) i (joined-right b c i q), at_i, refl, refl)
      ]
    ]
