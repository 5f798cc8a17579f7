-- What a span leaves of the levels stands in order.
use Rattle.std.proofs.Common.{◌≡◌, ℕ, ◌<◌, ◌≤◌, List, [], ◌∷◌, ◌++◌, map, reverse, append-nil, inl, inr, refl, sym, ap, ◌∙◌, subst, arith}
use Rattle.std.proofs.lemmas.Bool.{cases_order}
use Rattle.std.proofs.lemmas.Grind.{reverse_onto}
use Rattle.xdb_rangedel.specs.Content.{Item, seq_of, IsClear}
use Rattle.xdb_rangedel.specs.Layers.{IsDrawn}
use Rattle.xdb_rangedel.specs.Members.{Has}
use Rattle.xdb_rangedel.proofs.LayerLaws.{drawn_clear}
use Rattle.xdb_rangedel.proofs.MemberLaws.{Has-append_left, Has-append_right, Has-append_cases}
use Rattle.xdb_laws.specs.Compaction.{ShareNoKey}
use Rattle.xdb_laws.specs.Ordered.{IsNewer, StandsByNumber, joined, Ordered, AreLeftOf, places}
use Rattle.xdb_laws.specs.Placement.{RiseByNumber, without_numbers, AreDrawn, IsCut}
use Rattle.xdb_laws.proofs.RewriteLaws.{drawn-joint}
use Rattle.xdb_laws.proofs.OrderLaws.{joined-append, newer-within, newer-drawn, drawn-itself, source-in, clear-within, ordered-layers, ordered-upper, ordered-lower, ordered-together, ordered-clear, left-drawn, left-ordered}
use Rattle.xdb_laws.proofs.PlaceLaws.{same-reversed}

-- ---- tables of L0, the oldest first

pub in-contents : (ts : List (ℕ × List Item)) (t : ℕ × List Item) (i : Item) → Has ts t → Has t.1 i → Has (joined (without_numbers ts)) i
in-contents [] t i h g = absurd h
in-contents (u ∷ ts) t i (inl e) g = Has-append_left u.1 (joined (without_numbers ts)) i (subst (λ x. Has x.1 i) (sym e) g)
in-contents (u ∷ ts) t i (inr h) g = Has-append_right u.1 (joined (without_numbers ts)) i (in-contents ts t i h g)

pub from-contents : (ts : List (ℕ × List Item)) (i : Item) → Has (joined (without_numbers ts)) i → (t : ℕ × List Item) × Has ts t × Has t.1 i
from-contents [] i h = absurd h
from-contents (u ∷ ts) i h = elim (Has-append_cases u.1 (joined (without_numbers ts)) i h) [
  | inl g ↦ (u, inl refl, g)
  | inr g ↦ let (t, has, at_t) = from-contents ts i g in (t, inr has, at_t)
]

in-turned : (ts : List (ℕ × List Item)) (t : ℕ × List Item) (i : Item) → Has ts t → Has t.1 i → Has (joined (reverse (without_numbers ts))) i
in-turned ts t i h g = (same-reversed (without_numbers ts) i).1 (in-contents ts t i h g)

-- the first of them is the last place
pub turned-first : (c : List Item) (cs : List (List Item)) → reverse (c ∷ cs) ≡ reverse cs ++ c ∷ []
turned-first c cs = reverse_onto cs c []

first-older : (c : List Item) (cs : List (List Item)) → Ordered (reverse (c ∷ cs)) → IsNewer (joined (reverse cs)) c
first-older c cs o =
    newer-within (joined (reverse cs)) (joined (c ∷ [])) (joined (reverse cs)) c (λ i h. h) (λ i h. Has-append_left c [] i h)
    (ordered-layers (reverse cs) (c ∷ []) (subst Ordered (turned-first c cs) o))

rest-ordered : (c : List Item) (cs : List (List Item)) → Ordered (reverse (c ∷ cs)) → Ordered (reverse cs)
rest-ordered c cs o = ordered-upper (reverse cs) (c ∷ []) (subst Ordered (turned-first c cs) o)

-- of two tables the one with the greater number is newer
newer-number : (ts : List (ℕ × List Item)) (s t : ℕ × List Item) → RiseByNumber ts → Ordered (reverse (without_numbers ts)) → Has ts s → Has ts t → s.0 < t.0 → IsNewer t.1 s.1
newer-number [] s t by o hs ht less = absurd hs
newer-number (u ∷ ts) s t by o (inl e) (inl f) less = let same : u.0 ≡ s.0 = ap (λ x. x.0) e in let other : u.0 ≡ t.0 = ap (λ x. x.0) f in absurd (omega arith)
newer-number (u ∷ ts) s t by o (inl e) (inr ht) less =
    newer-within (joined (reverse (without_numbers ts))) u.1 t.1 s.1 (λ i h. in-turned ts t i ht h) (λ i h. subst (λ x. Has x.1 i) (sym e) h) (first-older u.1 (without_numbers ts) o)
newer-number (u ∷ ts) s t by o (inr hs) (inl f) less = let same : u.0 ≡ t.0 = ap (λ x. x.0) f in let low = (by.0 s hs).0 in absurd (omega arith)
newer-number (u ∷ ts) s t by o (inr hs) (inr ht) less = newer-number ts s t by.1 (rest-ordered u.1 (without_numbers ts) o) hs ht less

clear-number : (ts : List (ℕ × List Item)) (t : ℕ × List Item) → Ordered (reverse (without_numbers ts)) → Has ts t → IsClear t.1
clear-number ts t o h = clear-within (joined (reverse (without_numbers ts))) t.1 (λ i g. in-turned ts t i h g) (ordered-clear (reverse (without_numbers ts)) o)

-- ---- what is left of them

abbrev AreFrom : List (ℕ × List Item) → List (ℕ × List Item) → Type 0
AreFrom old new = (u : ℕ × List Item) → Has new u → (t : ℕ × List Item) × Has old t × (t.0 ≡ u.0) × IsDrawn t.1 u.1

module _ (old : List (ℕ × List Item)) (by : RiseByNumber old) (o : Ordered (reverse (without_numbers old))) where
  cut-newer : (t u : ℕ × List Item) → AreFrom old (t ∷ u ∷ []) → t.0 ≤ u.0 → (t.0 ≡ u.0 → ShareNoKey t.1 u.1) → IsNewer u.1 t.1
  cut-newer t u from upto apart = elim (cases_order t.0 u.0) [
    | inl e ↦ λ k i j p q at_i at_j. absurd (apart e k j i q p at_j at_i)
    | inr (inl less) ↦
        let (a, has_a, same_a, drawn_a) = from t (inl refl) in
        let (b, has_b, same_b, drawn_b) = from u (inr (inl refl)) in
        newer-drawn b.1 a.1 u.1 t.1 drawn_b drawn_a (newer-number old a b by o has_a has_b (omega arith))
    | inr (inr more) ↦ absurd (omega arith)
  ]

  cut-ordered : (new : List (ℕ × List Item)) → RiseByNumber new → AreFrom old new → Ordered (reverse (without_numbers new))
  cut-ordered [] stand from = tt
  cut-ordered (t ∷ ts) stand from =
      subst Ordered (sym (turned-first t.1 (without_numbers ts)))
      (ordered-together (reverse (without_numbers ts)) (t.1 ∷ [])
      (cut-ordered ts stand.1 (λ u h. from u (inr h)))
      (let (a, has, same, drawn) = from t (inl refl) in (drawn_clear a.1 t.1 drawn (clear-number old a o has), (λ k i j p q at_i at_j. absurd q), tt))
      newer)
    where
      newer : IsNewer (joined (reverse (without_numbers ts))) (joined (t.1 ∷ []))
      newer = λ k i j p q at_i at_j.
          let (u, has, at_u) = from-contents ts i ((same-reversed (without_numbers ts) i).0 p) in
          let rule = stand.0 u has in
          cut-newer t u (λ x h. elim h [
            | inl e ↦ from x (inl e)
            | inr g ↦ elim g [
              | inl e ↦ from x (inr (subst (Has ts) e has))
              | inr never ↦ absurd never
            ]
          ]) rule.0 rule.1 k i j at_u (subst (λ x. Has x j) (append-nil t.1) q) at_i at_j

  cut-drawn : (new : List (ℕ × List Item)) → AreFrom old new → IsDrawn (joined (reverse (without_numbers old))) (joined (reverse (without_numbers new)))
  cut-drawn new from = λ k i h at_i.
      let (u, has, at_u) = from-contents new i ((same-reversed (without_numbers new) i).0 h) in
      let (t, there, same, drawn) = from u has in
      source-in t.1 (joined (reverse (without_numbers old))) k i (λ j g. in-turned old t j there g) (drawn k i at_u at_i)

-- ---- the levels below

left-levels : (ls ms : List (List (List Item))) → AreDrawn ls ms → AreLeftOf (map joined ls) (map joined ms)
left-levels [] [] d = tt
left-levels [] (m ∷ ms) d = absurd d
left-levels (l ∷ ls) [] d = absurd d
left-levels (l ∷ ls) (m ∷ ms) d = inl (d.0, left-levels ls ms d.1)

-- ---- all of them

drawn-places : (a b c d : List (List Item)) → IsDrawn (joined a) (joined b) → IsDrawn (joined c) (joined d) → IsDrawn (joined (a ++ c)) (joined (b ++ d))
drawn-places a b c d p q =
    subst (λ x. IsDrawn x (joined (b ++ d))) (sym (joined-append a c)) (subst (IsDrawn (joined a ++ joined c)) (sym (joined-append b d)) (drawn-joint (joined a) (joined b) (joined c) (joined d) p q))

pub cut-places : (groups : List (List Item)) (l0 cut : List (ℕ × List Item)) (lower left : List (List (List Item))) → Ordered (places groups (without_numbers l0 ∷ lower)) → IsCut l0 cut lower left → Ordered (places groups (without_numbers cut ∷ left))
cut-places groups l0 cut lower left o is =
    let gs = reverse groups in
    let old = reverse (without_numbers l0) in
    let new = reverse (without_numbers cut) in
    let ls = map joined lower in
    let ms = map joined left in
    let rest = ordered-lower gs (old ++ ls) o in
    let ordered_old = ordered-upper old ls rest in
    let drawn_l0 = cut-drawn l0 is.before ordered_old cut is.from in
    let drawn_low = left-drawn ls ms (left-levels lower left is.below) in
    ordered-together gs (new ++ ms) (ordered-upper gs (old ++ ls) o)
    (ordered-together new ms (cut-ordered l0 is.before ordered_old cut is.after is.from) (left-ordered ls ms (left-levels lower left is.below) (ordered-lower old ls rest))
    (newer-drawn (joined old) (joined ls) (joined new) (joined ms) drawn_l0 drawn_low (ordered-layers old ls rest)))
    (newer-drawn (joined gs) (joined (old ++ ls)) (joined gs) (joined (new ++ ms)) (drawn-itself (joined gs)) (drawn-places old new ls ms drawn_l0 drawn_low) (ordered-layers gs (old ++ ls) o))

-- what is cut from a table stands by its number
pub cut-stands : (unflushed old new : List Item) (next greatest : ℕ) → StandsByNumber unflushed next greatest old → ((i : Item) → Has new i → (j : Item) × Has old j × (seq_of j ≡ seq_of i)) → StandsByNumber unflushed next greatest new
cut-stands unflushed old new next greatest s from = record {
  below = s.below;
  within = λ i h. let (j, has, same) = from i h in let low = s.within j has in omega arith;
  apart = elim s.apart [
    | inl low ↦ inl low
    | inr number ↦ inr (λ i h. let (j, has, same) = from i h in sym same ∙ number j has)
  ];
}
