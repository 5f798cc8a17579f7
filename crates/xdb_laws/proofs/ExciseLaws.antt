-- What is left where a span is taken out, part by part.
use Rattle.std.proofs.Common.{◌≡◌, ℕ, ◌+◌, Bool, true, false, not, ◌&&◌, cond, ltb, List, [], ◌∷◌, ◌++◌, Option, Some, None, inl, inr, refl, sym, ap, ◌∙◌, subst, arith}
use Rattle.std.proofs.lemmas.Bool.{cases_Bool, and_from, and_parts, false≢true, lt-ltb, not-true}
use Rattle.std.proofs.lemmas.Option.{cond_some}
use Rattle.std.specs.Option.{option_map}
use Rattle.xdb_key.specs.Order.{is_below, is_upto}
use Rattle.xdb_key.specs.Bounds.{Bounds, holds, meets, covers, key_hull}
use Rattle.xdb_key.specs.Entries.{Tombstone}
use Rattle.xdb_key.proofs.OrderLaws.{upto-itself, upto-not_below, upto_trans, below_trans, below_upto, upto_below, lesser_upto_first, first_upto_greater}
use Rattle.xdb_rangedel.specs.Clip.{starting_from, ending_by}
use Rattle.xdb_rangedel.specs.Content.{Item, entry, span, Mark, seq_of, here, newer, newest}
use Rattle.xdb_rangedel.specs.Layers.{IsDrawn, IsSilentAt}
use Rattle.xdb_rangedel.specs.Members.{Has}
use Rattle.xdb_rangedel.specs.View.{within, restricted, view, renumbered}
use Rattle.xdb_rangedel.proofs.CoverLaws.{upto-later_of, below-earlier_of, meets-from_held}
use Rattle.xdb_rangedel.proofs.MemberLaws.{Has-append_left, Has-append_right, Has-append_cases, Has-filter_map, Has-from_filter_map, none-held}
use Rattle.xdb_rangedel.proofs.NewestLaws.{newer-none, newest-append, newest-None, newest_silent, same_key-tells}
use Rattle.xdb_rangedel.proofs.RangeLaws.{newest-view, drawn-view, kept-view}
use Rattle.xdb_laws.specs.Excises.{is_cut, Excised, AreExcised, IsSilentIn, KeepsTo, keys_before, keys_behind, item_hull, AreHalfBounds, half}
use Rattle.xdb_laws.specs.Compaction.{ShareNoKey}
use Rattle.xdb_laws.specs.Ordered.{joined}
use Rattle.xdb_laws.proofs.AnswerLaws.{holds-covered, holds-itself}
use Rattle.xdb_laws.proofs.OrderLaws.{drawn-itself}
use Rattle.xdb_laws.proofs.RewriteLaws.{drawn-joint}

-- ---- parts together

drawn-both : (c a b : List Item) → IsDrawn c a → IsDrawn c b → IsDrawn c (a ++ b)
drawn-both c a b p q = λ k i h at_i. elim (Has-append_cases a b i h) [
  | inl g ↦ p k i g at_i
  | inr g ↦ q k i g at_i
]

abbrev pub HaveNumbersOf : List Item → List Item → Type 0
HaveNumbersOf old new = (i : Item) → Has new i → (j : Item) × Has old j × (seq_of j ≡ seq_of i)

pub numbers-joined : (a b c d : List Item) → HaveNumbersOf a b → HaveNumbersOf c d → HaveNumbersOf (a ++ c) (b ++ d)
numbers-joined a b c d p q = λ i h. elim (Has-append_cases b d i h) [
  | inl g ↦ let from = p i g in (from.0, Has-append_left a c from.0 from.1, from.2)
  | inr g ↦ let from = q i g in (from.0, Has-append_right a c from.0 from.1, from.2)
]

numbers-both : (c a b : List Item) → HaveNumbersOf c a → HaveNumbersOf c b → HaveNumbersOf c (a ++ b)
numbers-both c a b p q = λ i h. elim (Has-append_cases a b i h) [
  | inl g ↦ p i g
  | inr g ↦ q i g
]

newer-cut : (b : Bool) (x y : Option Mark) → newer (cond b None x) (cond b None y) ≡ cond b None (newer x y)
newer-cut true x y = refl
newer-cut false x y = refl

none-cut : (b : Bool) → ◌≡◌ {A = Option Mark} None (cond b None None)
none-cut true = refl
none-cut false = refl

pub excised-joined : (out : Option Bounds) (a b c d : List Item) → Excised out a b → Excised out c d → Excised out (a ++ c) (b ++ d)
excised-joined out a b c d p q = record {
  says = λ limit k.
      newest-append b d limit k
      ∙ (λ i. newer (p.says limit k i) (q.says limit k i))
      ∙ newer-cut (is_cut out k) (newest a limit k) (newest c limit k)
      ∙ ap (cond (is_cut out k) None) (sym (newest-append a c limit k));
  drawn = drawn-joint a b c d p.drawn q.drawn;
  numbers = numbers-joined a b c d p.numbers q.numbers;
}

pub excised-each : (out : Option Bounds) (olds news : List (List Item)) → AreExcised out olds news → Excised out (joined olds) (joined news)
excised-each out [] [] each = record {
  says = λ limit k. none-cut (is_cut out k);
  drawn = λ k i h at_i. absurd h;
  numbers = λ i h. absurd h;
}
excised-each out [] (new ∷ news) each = absurd each
excised-each out (old ∷ olds) [] each = absurd each
excised-each out (old ∷ olds) (new ∷ news) each = excised-joined out old new (joined olds) (joined news) each.0 (excised-each out olds news each.1)

-- ---- a part of which the span has nothing

pub excised-silent : (out : Option Bounds) (c : List Item) → ((k : List ℕ) → is_cut out k ≡ true → IsSilentAt k c) → Excised out c c
excised-silent out c silent = record {
  says = λ limit k. elim (cases_Bool (is_cut out k)) [
    | inl e ↦ newest_silent c limit k (silent k e) ∙ ap (λ b. cond b None (newest c limit k)) (sym e)
    | inr e ↦ ap (λ b. cond b None (newest c limit k)) (sym e)
  ];
  drawn = drawn-itself c;
  numbers = λ i h. (i, h, refl);
}

pub excised-nothing : (c : List Item) → Excised None c c
excised-nothing c = excised-silent None c (λ k e. absurd (false≢true e))

-- what keeps to bounds that the span doesn't meet
pub excised-beside : (out r : Bounds) (c : List Item) → KeepsTo r c → meets r out ≡ false → Excised (Some out) c c
excised-beside out r c keeps apart = excised-silent (Some out) c (λ k held i h at_i. false≢true (sym apart ∙ meets-from_held r out k (keeps k i h at_i) held))

-- ---- what a view speaks of

pub keeps-view : (c : List Item) (r : Bounds) (s : ℕ) → KeepsTo r (view c r s)
keeps-view c r s = λ k i h at_i. elim (cases_Bool (holds r k)) [
  | inl e ↦ e
  | inr e ↦ absurd (newest-None (view c r s) (seq_of i + 1) k (newest-view c r s (seq_of i + 1) k ∙ ap (λ b. cond b (newest (renumbered s c) (seq_of i + 1) k) None) e) i h
      (and_from (here k i) (ltb (seq_of i) (seq_of i + 1)) at_i (lt-ltb (seq_of i) (seq_of i + 1) (omega arith))))
]

pub hull-here : (k : List ℕ) (i : Item) → here k i ≡ true → holds (item_hull i) k ≡ true
hull-here k (entry key seq value) e = subst (λ x. holds (key_hull key) x ≡ true) (same_key-tells key k e) (holds-itself key)
hull-here k (span t) e = e

-- a view in part of a range is drawn from the view of the range
drawn-narrowed : (c : List Item) (r b : Bounds) (s : ℕ) → ((k : List ℕ) → holds b k ≡ true → holds r k ≡ true) → IsDrawn (view c r s) (view c b s)
drawn-narrowed c r b s wider = λ k i h at_i.
    let (j, has, at_j, ranks, says) = drawn-view c b s k i h at_i in
    let (m, there, at_m, same, alike) = kept-view c r s k j has (wider k (keeps-view c b s k i h at_i)) at_j in
    (m, there, at_m, same ∙ ranks, alike ∙ says)

-- ---- the numbers of a view in part of a range

met-span : (m : Bool) (u : Tombstone) (i : Item) → option_map span (cond m (Some u) None) ≡ Some i → (m ≡ true) × (span u ≡ i)
met-span true u i e = (refl, cc)
met-span false u i e = absurd (cc)

within-wider : (r b : Bounds) (x i : Item) → covers r b ≡ true → within b x ≡ Some i → (j : Item) × (within r x ≡ Some j) × (seq_of j ≡ seq_of i)
within-wider r b (entry key seq v) i wide e =
    let (held, same) = cond_some (holds b key) (entry key seq v) i e in
    (entry key seq v, ap (λ x. cond x (Some (entry key seq v)) None) (holds-covered r b key wide held), ap seq_of same)
within-wider r b (span t) i wide e =
    let (met, same) = met-span (meets t.range b) (starting_from b.lo (ending_by b.hi t)) i e in
    let (start, end) = and_parts (is_below t.range.lo b.hi) (is_below b.lo t.range.hi) met in
    let (lo, hi) = and_parts (is_upto r.lo b.lo) (is_upto b.hi r.hi) wide in (
      span (starting_from r.lo (ending_by r.hi t)),
      ap (λ x. option_map span (cond x (Some (starting_from r.lo (ending_by r.hi t))) None)) (and_from (is_below t.range.lo r.hi) (is_below r.lo t.range.hi) (below_upto t.range.lo b.hi r.hi start hi) (upto_below r.lo b.lo t.range.hi lo end)),
      ap seq_of same,
    )

shown-by : (some : Bool) (r : Bounds) (c : List Item) (i : Item) → Has (cond some (restricted r c) []) i → (some ≡ true) × Has (restricted r c) i
shown-by true r c i h = (refl, h)
shown-by false r c i h = absurd h

numbers-narrowed : (c : List Item) (r b : Bounds) (s : ℕ) → covers r b ≡ true → HaveNumbersOf (view c r s) (view c b s)
numbers-narrowed c r b s wide = λ i h.
    let (some, there) = shown-by (is_below b.lo b.hi) b (renumbered s c) i h in
    let (x, has, e) = Has-from_filter_map (within b) (renumbered s c) i there in
    let (j, shown, same) = within-wider r b x i wide e in
    let (lo, hi) = and_parts (is_upto r.lo b.lo) (is_upto b.hi r.hi) wide in
    let more : is_below r.lo r.hi ≡ true = below_upto r.lo b.hi r.hi (upto_below r.lo b.lo b.hi lo some) hi in
    (j, subst (λ x. Has (cond x (restricted r (renumbered s c)) []) j) (sym more) (Has-filter_map (within r) (renumbered s c) x j has shown), same)

covers-through : (a b c : Bounds) → covers a b ≡ true → covers b c ≡ true → covers a c ≡ true
covers-through a b c p q =
    let (lo, hi) = and_parts (is_upto a.lo b.lo) (is_upto b.hi a.hi) p in
    let (start, end) = and_parts (is_upto b.lo c.lo) (is_upto c.hi b.hi) q in
    and_from _ _ (upto_trans a.lo b.lo c.lo lo start) (upto_trans c.hi b.hi a.hi end hi)

-- ---- a half

module _ (c : List Item) (side : Bounds) (s : ℕ) where
  -- a half speaks of keys of its side alone
  half-keeps : (b : Option Bounds) → AreHalfBounds c side s b → KeepsTo side (half c s b)
  half-keeps None none = λ k i h at_i. absurd h
  half-keeps (Some b) (inside, around) = λ k i h at_i. holds-covered side b k inside (keeps-view c b s k i h at_i)

  half-says : (b : Option Bounds) → AreHalfBounds c side s b → (limit : ℕ) (k : List ℕ) → newest (half c s b) limit k ≡ newest (view c side s) limit k
  half-says None none limit k = sym (ap (λ x. newest x limit k) (none-held (view c side s) none))
  half-says (Some b) (inside, around) limit k = elim (cases_Bool (holds b k)) [
    | inl e ↦ newest-view c b s limit k ∙ ap (λ x. cond x (newest (renumbered s c) limit k) None) (e ∙ sym (holds-covered side b k inside e)) ∙ sym (newest-view c side s limit k)
    | inr e ↦ newest-view c b s limit k ∙ ap (λ x. cond x (newest (renumbered s c) limit k) None) e
        ∙ sym (newest_silent (view c side s) limit k (λ i has at_i. false≢true (sym e ∙ holds-covered b (item_hull i) k (around i has) (hull-here k i at_i))))
  ]

  pub half-drawn : (shown : Bounds) (b : Option Bounds) → covers shown side ≡ true → AreHalfBounds c side s b → IsDrawn (view c shown s) (half c s b)
  half-drawn shown None cover none = λ k i h at_i. absurd h
  half-drawn shown (Some b) cover (inside, around) = drawn-narrowed c shown b s (λ k h. holds-covered shown side k cover (holds-covered side b k inside h))

  pub half-numbers : (shown : Bounds) (b : Option Bounds) → covers shown side ≡ true → AreHalfBounds c side s b → HaveNumbersOf (view c shown s) (half c s b)
  half-numbers shown None cover none = λ i h. absurd h
  half-numbers shown (Some b) cover (inside, around) = numbers-narrowed c shown b s (covers-through shown side b cover inside)

held-before : (shown out : Bounds) (k : List ℕ) → holds (keys_before shown out) k ≡ (is_upto shown.lo k && (not (is_upto out.lo k) && is_below k shown.hi))
held-before shown out k = ap (λ b. is_upto shown.lo k && b) (below-earlier_of out.lo shown.hi k ∙ ap (λ b. b && is_below k shown.hi) (turned (is_upto out.lo k) (is_below k out.lo) (upto-not_below out.lo k)))
  where
    turned : (a b : Bool) → a ≡ not b → b ≡ not a
    turned true true e = absurd (false≢true (sym e))
    turned true false e = refl
    turned false true e = refl
    turned false false e = absurd (false≢true e)

held-behind : (shown out : Bounds) (k : List ℕ) → holds (keys_behind shown out) k ≡ ((not (is_below k out.hi) && is_upto shown.lo k) && is_below k shown.hi)
held-behind shown out k = ap (λ b. b && is_below k shown.hi) (upto-later_of out.hi shown.lo k ∙ ap (λ b. b && is_upto shown.lo k) (upto-not_below out.hi k))

-- no key stands before the start and not below the end
one : (out : Bounds) → is_below out.lo out.hi ≡ true → (k : List ℕ) → is_upto out.lo k ≡ false → is_below k out.hi ≡ false → ⊥
one out sane k low high = elim (cases_Bool (is_below k out.lo)) [
  | inl e ↦ false≢true (sym high ∙ below_trans k out.lo out.hi e sane)
  | inr e ↦ false≢true (sym low ∙ upto-not_below out.lo k ∙ ap not e)
]

-- a key stands before the span, in it or behind it
sides : (a h u w : Bool) (n : Option Mark) → (u ≡ false → w ≡ false → ⊥) → newer (cond (a && (not u && h)) n None) (cond ((not w && a) && h) n None) ≡ cond (u && w) None (cond (a && h) n None)
sides true true true true n one = refl
sides true true true false n one = refl
sides true true false true n one = newer-none n
sides true h false false n one = absurd (one refl refl)
sides true false true true n one = refl
sides true false true false n one = refl
sides true false false true n one = refl
sides false h true true n one = refl
sides false h true false n one = refl
sides false h false true n one = refl
sides false h false false n one = absurd (one refl refl)

before-inside : (shown out : Bounds) → covers shown (keys_before shown out) ≡ true
before-inside shown out = and_from _ _ (upto-itself shown.lo) (lesser_upto_first shown.hi out.lo)

behind-inside : (shown out : Bounds) → covers shown (keys_behind shown out) ≡ true
behind-inside shown out = and_from _ _ (first_upto_greater shown.lo out.hi) (upto-itself shown.hi)

-- a table gives way to its halves
pub excised-halves : (c : List Item) (shown out : Bounds) (s : ℕ) (left right : Option Bounds) → is_below out.lo out.hi ≡ true → AreHalfBounds c (keys_before shown out) s left → AreHalfBounds c (keys_behind shown out) s right
    → Excised (Some out) (view c shown s) (half c s left ++ half c s right)
excised-halves c shown out s left right sane is_left is_right = record {
  says = λ limit k.
      let n = newest (renumbered s c) limit k in
      newest-append (half c s left) (half c s right) limit k
      ∙ (λ i. newer
      ((half-says c (keys_before shown out) s left is_left limit k ∙ newest-view c (keys_before shown out) s limit k ∙ ap (λ b. cond b n None) (held-before shown out k)) i)
      ((half-says c (keys_behind shown out) s right is_right limit k ∙ newest-view c (keys_behind shown out) s limit k ∙ ap (λ b. cond b n None) (held-behind shown out k)) i))
      ∙ sides (is_upto shown.lo k) (is_below k shown.hi) (is_upto out.lo k) (is_below k out.hi) n (one out sane k)
      ∙ ap (cond (holds out k) None) (sym (newest-view c shown s limit k));
  drawn = drawn-both (view c shown s) (half c s left) (half c s right)
      (half-drawn c (keys_before shown out) s shown left (before-inside shown out) is_left)
      (half-drawn c (keys_behind shown out) s shown right (behind-inside shown out) is_right);
  numbers = numbers-both (view c shown s) (half c s left) (half c s right)
      (half-numbers c (keys_before shown out) s shown left (before-inside shown out) is_left)
      (half-numbers c (keys_behind shown out) s shown right (behind-inside shown out) is_right);
}

-- halves on the two sides share no key
pub halves-apart : (c : List Item) (shown out : Bounds) (s : ℕ) (left right : Option Bounds) → is_below out.lo out.hi ≡ true → AreHalfBounds c (keys_before shown out) s left → AreHalfBounds c (keys_behind shown out) s right
    → ShareNoKey (half c s left) (half c s right)
halves-apart c shown out s left right sane is_left is_right = λ k i j p q at_i at_j.
    let before = sym (held-before shown out k) ∙ half-keeps c (keys_before shown out) s left is_left k i p at_i in
    let behind = sym (held-behind shown out k) ∙ half-keeps c (keys_behind shown out) s right is_right k j q at_j in
    let low = not-true (is_upto out.lo k) (and_parts _ _ (and_parts _ _ before).1).0 in
    let high = not-true (is_below k out.hi) (and_parts _ _ (and_parts _ _ behind).0).0 in
    one out sane k low high

-- what is silent in a range shares no key with what keeps to it
pub silent-apart : (r : Bounds) (a b : List Item) → IsSilentIn r a → KeepsTo r b → ShareNoKey a b
silent-apart r a b silent keeps = λ k i j p q at_i at_j. silent k (keeps k j q at_j) i p at_i
