-- The spans of an output, between the keys where it begins and where the next one does.
use Rattle.std.proofs.Common.{◌≡◌, ℕ, zero, suc, ◌+◌, ◌-◌, ◌<◌, ◌≤◌, ◌==◌, Bool, true, false, ◌&&◌, cond, List, [], ◌∷◌, length, get_or, take, drop, Some, None, inl, inr, refl, sym, ap, ◌∙◌, subst, arith}
use Rattle.std.proofs.lemmas.Bool.{cases_Bool, and_right, false≢true, ne_eqb}
use Rattle.std.proofs.lemmas.Option.{slice_get-get_or, get_or_from_slice_get}
use Rattle.std.proofs.lemmas.List.{drop_more, get_or_default}
use Rattle.std.specs.List.{cons_option, slice_get}
use Rattle.xdb_key.proofs.OrderLaws.{below_trans}
use Rattle.xdb_key.specs.Bounds.{Bounds, bounds}
use Rattle.xdb_key.specs.Entries.{Point, Tombstone, tombstone}
use Rattle.xdb_key.specs.Order.{is_below}
use Rattle.xdb_rangedel.specs.Clip.{later_of, starting_from, ending_by, part_before, part_from, part_in, parts_before, parts_from, parts_in}
use Rattle.xdb_rangedel.specs.Members.{Has}
use Rattle.xdb_build.proofs.StepLaws.{next_cut}
use Rattle.xdb_build.specs.Series.{EndsFrom, parts_behind, spans_left}

-- ---- one cut after another

later-at : (at lo : List ℕ) → is_below lo at ≡ true → later_of at lo ≡ at
later-at at lo h = ap (λ b. cond b at lo) h

later-lo : (at lo : List ℕ) → is_below lo at ≡ false → later_of at lo ≡ lo
later-lo at lo h = ap (λ b. cond b at lo) h

-- what begins at the later of two keys begins before a bound behind the first of them
later-below : (lo hi k : List ℕ) → is_below lo hi ≡ true → is_below (later_of lo k) hi ≡ is_below k hi
later-below lo hi k less = elim (cases_Bool (is_below k lo)) [
  | inl e ↦ ap (λ x. is_below x hi) (later-at lo k e) ∙ less ∙ sym (below_trans k lo hi e less)
  | inr e ↦ ap (λ x. is_below x hi) (later-lo lo k e)
]

later-again : (lo hi k : List ℕ) → is_below lo hi ≡ true → later_of hi (later_of lo k) ≡ later_of hi k
later-again lo hi k less = elim (cases_Bool (is_below k lo)) [
  | inl e ↦ ap (later_of hi) (later-at lo k e) ∙ later-at hi lo less ∙ sym (later-at hi k (below_trans k lo hi e less))
  | inr e ↦ ap (later_of hi) (later-lo lo k e)
]

module _ (lo hi : List ℕ) (less : is_below lo hi ≡ true) where
  part_between : (t : Tombstone) → is_below lo t.range.hi ≡ true → part_in (bounds lo hi) t ≡ part_before hi (starting_from lo t)
  part_between t open_ =
      ap (λ b. cond b (Some (starting_from lo (ending_by hi t))) None)
      (ap (λ b. is_below t.range.lo hi && b) open_ ∙ and_true (is_below t.range.lo hi) ∙ sym (later-below lo hi t.range.lo less))
    where
      and_true : (b : Bool) → (b && true) ≡ b
      and_true true = refl
      and_true false = refl

  part_not_between : (t : Tombstone) → is_below lo t.range.hi ≡ false → part_in (bounds lo hi) t ≡ None
  part_not_between t shut = ap (λ b. cond b (Some (starting_from lo (ending_by hi t))) None) (and_right (is_below t.range.lo hi) (is_below lo t.range.hi) shut)

  part_from-is : (t : Tombstone) → is_below lo t.range.hi ≡ true → part_from lo t ≡ Some (starting_from lo t)
  part_from-is t h = ap (λ b. cond b (Some (starting_from lo t)) None) h

  part_from-none : (at : List ℕ) (t : Tombstone) → is_below at t.range.hi ≡ false → part_from at t ≡ None
  part_from-none at t h = ap (λ b. cond b (Some (starting_from at t)) None) h

  -- what spans have in a range is what is left of their rest before its end
  pub parts_between : (ts : List Tombstone) → parts_in (bounds lo hi) ts ≡ parts_before hi (parts_from lo ts)
  parts_between [] = refl
  parts_between (t ∷ ts) = elim (cases_Bool (is_below lo t.range.hi)) [
    | inl open_ ↦
        ap (λ o. cons_option o (parts_in (bounds lo hi) ts)) (part_between t open_)
        ∙ ap (cons_option (part_before hi (starting_from lo t))) (parts_between ts)
        ∙ ap (λ o. parts_before hi (cons_option o (parts_from lo ts))) (sym (part_from-is t open_))
    | inr shut ↦
        ap (λ o. cons_option o (parts_in (bounds lo hi) ts)) (part_not_between t shut)
        ∙ parts_between ts
        ∙ ap (λ o. parts_before hi (cons_option o (parts_from lo ts))) (sym (part_from-none lo t shut))
  ]

  later_part : (t : Tombstone) → part_from hi (starting_from lo t) ≡ part_from hi t
  later_part t = ap (λ k. cond (is_below hi t.range.hi) (Some (tombstone (bounds k t.range.hi) t.seq)) None) (later-again lo hi t.range.lo less)

  -- what is left of the rest from a later bound on is what was left of all
  pub parts_later : (ts : List Tombstone) → parts_from hi (parts_from lo ts) ≡ parts_from hi ts
  parts_later [] = refl
  parts_later (t ∷ ts) = elim (cases_Bool (is_below lo t.range.hi)) [
    | inl open_ ↦
        ap (λ o. parts_from hi (cons_option o (parts_from lo ts))) (part_from-is t open_)
        ∙ ap (λ o. cons_option o (parts_from hi (parts_from lo ts))) (later_part t)
        ∙ ap (cons_option (part_from hi t)) (parts_later ts)
    | inr shut ↦
        ap (λ o. parts_from hi (cons_option o (parts_from lo ts))) (part_from-none lo t shut)
        ∙ parts_later ts
        ∙ ap (λ o. cons_option o (parts_from hi ts)) (sym (part_from-none hi t (ended t shut)))
  ]
    where
      ended : (t : Tombstone) → is_below lo t.range.hi ≡ false → is_below hi t.range.hi ≡ false
      ended t shut = elim (cases_Bool (is_below hi t.range.hi)) [
        | inl e ↦ absurd (false≢true (sym shut ∙ below_trans lo hi t.range.hi less e))
        | inr e ↦ e
      ]

-- ---- what is left at a place

later_place : (n : ℕ) → 1 ≤ n → (n == 0) ≡ false
later_place n h = ne_eqb n 0 (λ e. absurd (omega (arith, e, h)))

pub left_first : (ps : List Point) (from : ℕ) (ss : List Tombstone) → from ≡ 0 → spans_left ps from ss ≡ ss
left_first ps from ss none = ap (λ n. spans_left ps n ss) none

pub left_later : (ps : List Point) (from : ℕ) (q : Point) (ss : List Tombstone) → 1 ≤ from → from < length ps → q ≡ get_or ps from q → spans_left ps from ss ≡ parts_from q.key ss
left_later ps from q ss later inside is =
    ap (λ b. cond b ss (parts_behind (slice_get ps from) ss)) (later_place from later)
    ∙ ap (λ o. parts_behind o ss) (slice_get-get_or ps from q inside ∙ ap Some (sym is))

first_taken : (n : ℕ) (xs : List Point) (q : Point) (rest : List Point) → 1 ≤ n → xs ≡ q ∷ rest → Has (take n xs) q
first_taken zero xs q rest some is = absurd (omega (arith, some))
first_taken (suc n) xs q rest some is = subst (λ ys. Has (take (suc n) ys) q) (sym is) (inl refl)

-- the key where an output begins stands before the key where the next one does
pub keys_rise : (ps : List Point) (from to : ℕ) (q p : Point) → EndsFrom ps from true to → to < length ps → q ≡ get_or ps from q → p ≡ get_or ps to p → is_below q.key p.key ≡ true
keys_rise ps from to q p e less at is =
    let inside : from < length ps = omega (arith, e.after, less) in
    let further : from < to = e.some inside in
    let first : drop from ps ≡ q ∷ drop (from + 1) ps = drop_more ps from q inside ∙ ap (λ x. x ∷ drop (from + 1) ps) (sym at) in
    (next_cut 2 ps from to true p e less is (omega arith)).fresh q (first_taken (to - from) (drop from ps) q (drop (from + 1) ps) (omega (arith, further)) first)

pub left_next : (ps : List Point) (from to : ℕ) (p : Point) (ss : List Tombstone) → EndsFrom ps from true to → to < length ps → p ≡ get_or ps to p → parts_from p.key (spans_left ps from ss) ≡ spans_left ps to ss
left_next ps zero to p ss e less is =
    let further : 0 < to = e.some (omega (arith, less)) in
    sym (left_later ps to p ss (omega (arith, further)) less is)
left_next ps (suc from) to p ss e less is =
    let inside : suc from < length ps = omega (arith, e.after, less) in
    let further : suc from < to = e.some inside in
    let q = get_or ps (suc from) p in
    let at : q ≡ get_or ps (suc from) q = get_or_default ps (suc from) p q inside in
    ap (parts_from p.key) (left_later ps (suc from) q ss (omega arith) inside at)
    ∙ parts_later q.key p.key (keys_rise ps (suc from) to q p e less at is) ss
    ∙ sym (left_later ps to p ss (omega (arith, further)) less is)

-- ---- what the calls on spans give

pub between_first : (ps : List Point) (from to : ℕ) (r : Point) (hi : List ℕ) (ss part : List Tombstone) → from ≡ 0 → to < length ps → r ≡ get_or ps to r → hi ≡ r.key → part ≡ parts_before hi ss
    → (p : Point) → slice_get ps to ≡ Some p → part ≡ parts_before p.key (spans_left ps from ss)
between_first ps from to r hi ss part none less is hi_is made p there =
    let same : r ≡ p = is ∙ get_or_from_slice_get ps to p r there in
    made ∙ ap (λ k. parts_before k ss) (hi_is ∙ ap (λ (x : Point). x.key) same) ∙ ap (parts_before p.key) (sym (left_first ps from ss none))

pub between_later : (ps : List Point) (from to : ℕ) (q r : Point) (range : Bounds) (ss part : List Tombstone) → 1 ≤ from → EndsFrom ps from true to → to < length ps → q ≡ get_or ps from q → r ≡ get_or ps to r → range ≡ bounds q.key r.key → part ≡ parts_in range ss
    → (p : Point) → slice_get ps to ≡ Some p → part ≡ parts_before p.key (spans_left ps from ss)
between_later ps from to q r range ss part later e less at is range_is made p there =
    let inside : from < length ps = omega (arith, e.after, less) in
    let same : r ≡ p = is ∙ get_or_from_slice_get ps to p r there in
    made ∙ ap (λ x. parts_in x ss) range_is
    ∙ parts_between q.key r.key (keys_rise ps from to q r e less at is) ss
    ∙ ap (λ (x : Point). parts_before x.key (parts_from q.key ss)) same
    ∙ ap (parts_before p.key) (sym (left_later ps from q ss later inside at))

pub entry_at : (ps : List Point) (at : ℕ) → at < length ps → (p : Point) × (p ≡ get_or ps at p) × (slice_get ps at ≡ Some p)
entry_at [] at less = absurd (omega (arith, less))
entry_at (q ∷ ps) at less =
    let p = get_or (q ∷ ps) at q in
    (p, get_or_default (q ∷ ps) at q p less, slice_get-get_or (q ∷ ps) at q less)
