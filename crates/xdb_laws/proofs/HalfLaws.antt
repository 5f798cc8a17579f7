-- A half shows just what its table shows on its side.
use Rattle.std.proofs.Common.{◌≡◌, ℕ, Bool, true, false, cond, List, [], ◌∷◌, Option, Some, None, inl, inr, refl, sym, ap, ◌∙◌, subst}
use Rattle.std.proofs.lemmas.Bool.{cases_Bool, and_from, and_parts, false≢true}
use Rattle.std.specs.List.{filter_map, cons_option}
use Rattle.std.specs.Option.{option_map}
use Rattle.xdb_key.specs.Bounds.{Bounds, bounds, holds, meets, covers, key_hull}
use Rattle.xdb_key.specs.Entries.{Tombstone, tombstone}
use Rattle.xdb_key.specs.Order.{is_below, is_upto}
use Rattle.xdb_key.proofs.OrderLaws.{upto_antisymm, upto_trans, upto_below, below_upto, key-below-successor, lesser_upto_first, lesser_upto_second, first_upto_greater, second_upto_greater, upto_lesser, greater_upto}
use Rattle.xdb_rangedel.specs.Clip.{later_of, earlier_of, starting_from, ending_by}
use Rattle.xdb_rangedel.specs.Content.{Item, entry, span}
use Rattle.xdb_rangedel.specs.Members.{Has}
use Rattle.xdb_rangedel.specs.Pieces.{is_ordered}
use Rattle.xdb_rangedel.specs.View.{within, restricted, renumbered, view, lies_in, HasOrderedSpans}
use Rattle.xdb_rangedel.proofs.MemberLaws.{Has-filter_map, none-held}
use Rattle.xdb_rangedel.proofs.RangeLaws.{nothing-view, inside-view}
use Rattle.xdb_laws.specs.Excises.{item_hull, AreHalfBounds, half}
use Rattle.xdb_laws.proofs.AnswerLaws.{holds-covered, holds-itself}

-- ---- bounds on a side, around what it shows

later-same : (a b c : List ℕ) → is_upto a b ≡ true → is_upto b (later_of a c) ≡ true → later_of b c ≡ later_of a c
later-same a b c wide start = upto_antisymm (later_of b c) (later_of a c)
    (greater_upto (later_of a c) c b (first_upto_greater c a) start)
    (greater_upto (later_of b c) c a (first_upto_greater c b) (upto_trans a b (later_of b c) wide (second_upto_greater c b)))

earlier-same : (a b c : List ℕ) → is_upto b a ≡ true → is_upto (earlier_of a c) b ≡ true → earlier_of b c ≡ earlier_of a c
earlier-same a b c wide end = upto_antisymm (earlier_of b c) (earlier_of a c)
    (upto_lesser (earlier_of b c) c a (lesser_upto_first c b) (upto_trans (earlier_of b c) b a (lesser_upto_second c b) wide))
    (upto_lesser (earlier_of a c) c b (lesser_upto_first c a) end)

-- a range around a hull has keys
hull-ordered : (r : Bounds) (i : Item) → lies_in r i ≡ true → is_below (item_hull i).lo (item_hull i).hi ≡ true
hull-ordered r (entry key seq v) lies = key-below-successor key
hull-ordered r (span t) lies = (and_parts (is_ordered t) (covers r t.range) lies).0

around-ordered : (b h : Bounds) → covers b h ≡ true → is_below h.lo h.hi ≡ true → is_below b.lo b.hi ≡ true
around-ordered b h wide sane =
    let (lo, hi) = and_parts (is_upto b.lo h.lo) (is_upto h.hi b.hi) wide in
    below_upto b.lo h.hi b.hi (upto_below b.lo h.lo h.hi lo sane) hi

pub meets-wider : (t side b : Bounds) → covers side b ≡ true → meets t b ≡ true → meets t side ≡ true
meets-wider t side b wide met =
    let (lo, hi) = and_parts (is_upto side.lo b.lo) (is_upto b.hi side.hi) wide in
    let (start, end) = and_parts (is_below t.lo b.hi) (is_below b.lo t.hi) met in
    and_from (is_below t.lo side.hi) (is_below side.lo t.hi) (below_upto t.lo b.hi side.hi start hi) (upto_below side.lo b.lo t.hi lo end)

same-truth : (a b : Bool) → (a ≡ true → b ≡ true) → (b ≡ true → a ≡ true) → a ≡ b
same-truth true b f g = sym (f refl)
same-truth false true f g = g refl
same-truth false false f g = refl

along : {A B : Type 0} (f g : A → Option B) (xs : List A) → ((x : A) → Has xs x → f x ≡ g x) → filter_map f xs ≡ filter_map g xs
along f g [] same = refl
along f g (x ∷ xs) same = (λ i. cons_option (same x (inl refl) i) (filter_map f xs)) ∙ ap (cons_option (g x)) (along f g xs (λ y h. same y (inr h)))

-- ---- item by item

module _ (side b : Bounds) (inside : covers side b ≡ true) where
  -- an item of the side lies there, and the bounds are around it
  abbrev IsShown : Item → Type 0
  IsShown x = (j : Item) → within side x ≡ Some j → (lies_in side j ≡ true) × (covers b (item_hull j) ≡ true)

  entry-same : (key : List ℕ) (seq : ℕ) (v : Option (List ℕ)) → IsShown (entry key seq v) → within b (entry key seq v) ≡ within side (entry key seq v)
  entry-same key seq v shown = ap (λ x. cond x (Some (entry key seq v)) None) (same-truth (holds b key) (holds side key)
      (holds-covered side b key inside)
      (λ e. holds-covered b (key_hull key) key (shown (entry key seq v) (ap (λ x. cond x (Some (entry key seq v)) None) e)).1 (holds-itself key)))

  part-same : (t : Tombstone) → meets t.range side ≡ true → IsShown (span t) → (meets t.range b ≡ true) × (starting_from b.lo (ending_by b.hi t) ≡ starting_from side.lo (ending_by side.hi t))
  part-same t met shown =
      let u = starting_from side.lo (ending_by side.hi t) in
      let (lies, wide) = shown (span u) (ap (λ x. option_map span (cond x (Some u) None)) met) in
      let sane = (and_parts (is_ordered u) (covers side u.range) lies).0 in
      let (start, end) = and_parts (is_upto b.lo u.range.lo) (is_upto u.range.hi b.hi) wide in
      let (lo, hi) = and_parts (is_upto side.lo b.lo) (is_upto b.hi side.hi) inside in (
        and_from (is_below t.range.lo b.hi) (is_below b.lo t.range.hi)
            (upto_below t.range.lo u.range.lo b.hi (first_upto_greater t.range.lo side.lo) (below_upto u.range.lo u.range.hi b.hi sane end))
            (upto_below b.lo u.range.lo t.range.hi start (below_upto u.range.lo u.range.hi t.range.hi sane (lesser_upto_first t.range.hi side.hi))),
        λ i. tombstone (bounds (later-same side.lo b.lo t.range.lo lo start i) (earlier-same side.hi b.hi t.range.hi hi end i)) t.seq,
      )

  span-same : (t : Tombstone) → IsShown (span t) → within b (span t) ≡ within side (span t)
  span-same t shown = elim (cases_Bool (meets t.range side)) [
    | inl met ↦
        let (near, same) = part-same t met shown in
        ap (λ x. option_map span (cond x (Some (starting_from b.lo (ending_by b.hi t))) None)) (near ∙ sym met)
        ∙ ap (λ u. option_map span (cond (meets t.range side) (Some u) None)) same
    | inr far ↦
        let off = same-truth (meets t.range b) (meets t.range side) (meets-wider t.range side b inside) (λ met. absurd (false≢true (sym far ∙ met))) in
        ap (λ x. option_map span (cond x (Some (starting_from b.lo (ending_by b.hi t))) None)) (off ∙ far)
        ∙ sym (ap (λ x. option_map span (cond x (Some (starting_from side.lo (ending_by side.hi t))) None)) far)
  ]

  item-same : (x : Item) → IsShown x → within b x ≡ within side x
  item-same (entry key seq v) shown = entry-same key seq v shown
  item-same (span t) shown = span-same t shown

-- ---- all of it

module _ (c : List Item) (side : Bounds) (s : ℕ) (ordered : HasOrderedSpans c) where
  view-by : (r : Bounds) → is_below r.lo r.hi ≡ true → view c r s ≡ restricted r (renumbered s c)
  view-by r sane = ap (λ x. cond x (restricted r (renumbered s c)) []) sane

  bounds-whole : (b : Bounds) (sane some : Bool) → is_below side.lo side.hi ≡ sane → is_below b.lo b.hi ≡ some → AreHalfBounds c side s (Some b) → view c b s ≡ view c side s
  bounds-whole b false some e f (inside, around) =
      let none : is_below b.lo b.hi ≡ false = elim (cases_Bool (is_below b.lo b.hi)) [
        | inl g ↦ absurd (false≢true (sym e ∙ around-ordered side b inside g))
        | inr g ↦ g
      ] in
      nothing-view c b s none ∙ sym (nothing-view c side s e)
  bounds-whole b true false e f (inside, around) =
      nothing-view c b s f
      ∙ sym (none-held (view c side s) (λ i h. false≢true (sym f ∙ around-ordered b (item_hull i) (around i h) (hull-ordered side i (inside-view c side s i ordered h)))))
  bounds-whole b true true e f (inside, around) =
      view-by b f
      ∙ along (within b) (within side) (renumbered s c) (λ x h. item-same side b inside x (λ j shown.
      let there = subst (λ l. Has l j) (sym (view-by side e)) (Has-filter_map (within side) (renumbered s c) x j h shown) in
      (inside-view c side s j ordered there, around j there)))
      ∙ sym (view-by side e)

  pub half-whole : (b : Option Bounds) → AreHalfBounds c side s b → half c s b ≡ view c side s
  half-whole None none = sym (none-held (view c side s) none)
  half-whole (Some b) is = bounds-whole b (is_below side.lo side.hi) (is_below b.lo b.hi) refl refl is
