-- A view in a range: what it says, and which items it has.
use Rattle.std.proofs.Common.{◌≡◌, ℕ, Bool, true, false, not, ◌&&◌, cond, eqb, List, [], map, Option, Some, None, inl, inr, ◌↔◌, IsTrue, refl, sym, ap, ◌∙◌, subst}
use Rattle.std.proofs.lemmas.Bool.{cases_Bool, and_parts, and_from, false≢true}
use Rattle.std.proofs.lemmas.Option.{cond_some, none-some, same_Some}
use Rattle.std.specs.Option.{option_map}
use Rattle.xdb_key.specs.Order.{is_below, is_upto}
use Rattle.xdb_key.specs.Bounds.{Bounds, holds, meets, covers}
use Rattle.xdb_key.specs.Entries.{Tombstone}
use Rattle.xdb_key.proofs.OrderLaws.{below-itself, upto-itself, upto-not_below, below_upto, upto_below}
use Rattle.xdb_rangedel.specs.Members.{Has}
use Rattle.xdb_rangedel.specs.Pieces.{is_ordered}
use Rattle.xdb_rangedel.specs.Clip.{later_of, earlier_of, starting_from, ending_by, part_in}
use Rattle.xdb_rangedel.specs.Content.{Item, entry, span, spans_in, here, rank, said, newest}
use Rattle.xdb_rangedel.specs.View.{within, restricted, at_number, renumbered, view, lies_in, HasOrderedSpans}
use Rattle.xdb_rangedel.specs.Layers.{IsDrawn, IsSilentAt}
use Rattle.xdb_rangedel.proofs.MemberLaws.{Has-map, Has-from_map, Has-filter_map, Has-from_filter_map, none-held}
use Rattle.xdb_rangedel.proofs.NewestLaws.{same_key-tells, same_key-itself}
use Rattle.xdb_rangedel.proofs.CoverLaws.{upto-later_of, below-earlier_of, holds-part_in, meets-from_held}
use Rattle.xdb_rangedel.proofs.SpanLaws.{Has-spans_in, spans_in-keeps}
use Rattle.xdb_rangedel.proofs.ViewLaws.{newest-restricted, drawn-restricted}
use Rattle.xdb_rangedel.proofs.FragmentLaws.{All-from_Has, All-at_Has, part_in-ordered}

-- ---- the range

-- a range that holds a key isn't empty
pub held-ordered : (r : Bounds) (k : List ℕ) → holds r k ≡ true → is_below r.lo r.hi ≡ true
held-ordered r k h = let (a, b) = and_parts (is_upto r.lo k) (is_below k r.hi) h in upto_below r.lo k r.hi a b

pub none-held_in : (r : Bounds) (k : List ℕ) → is_below r.lo r.hi ≡ false → holds r k ≡ false
none-held_in r k none = elim (cases_Bool (holds r k)) [
  | inl h ↦ absurd (false≢true (sym none ∙ held-ordered r k h))
  | inr e ↦ e
]

view-some : (c : List Item) (r : Bounds) (s : ℕ) → is_below r.lo r.hi ≡ true → view c r s ≡ restricted r (renumbered s c)
view-some c r s e = ap (λ b. cond b (restricted r (renumbered s c)) []) e

pub nothing-view : (c : List Item) (r : Bounds) (s : ℕ) → is_below r.lo r.hi ≡ false → view c r s ≡ []
nothing-view c r s e = ap (λ b. cond b (restricted r (renumbered s c)) []) e

-- ---- what is said

pub newest-view : (c : List Item) (r : Bounds) (s limit : ℕ) (k : List ℕ) → newest (view c r s) limit k ≡ cond (holds r k) (newest (renumbered s c) limit k) None
newest-view c r s limit k = elim (cases_Bool (is_below r.lo r.hi)) [
  | inl e ↦ ap (λ x. newest x limit k) (view-some c r s e) ∙ newest-restricted r (renumbered s c) limit k
  | inr e ↦ ap (λ x. newest x limit k) (nothing-view c r s e) ∙ ap (λ b. cond b (newest (renumbered s c) limit k) None) (sym (none-held_in r k e))
]

-- ---- members

has-from_view : (c : List Item) (r : Bounds) (s : ℕ) (i : Item) → Has (view c r s) i → (is_below r.lo r.hi ≡ true) × Has (restricted r (renumbered s c)) i
has-from_view c r s i h = elim (cases_Bool (is_below r.lo r.hi)) [
  | inl e ↦ (e, subst (λ x. Has x i) (view-some c r s e) h)
  | inr e ↦ absurd (subst (λ x. Has x i) (nothing-view c r s e) h)
]

has-view : (c : List Item) (r : Bounds) (s : ℕ) (i j : Item) → is_below r.lo r.hi ≡ true → Has (renumbered s c) i → within r i ≡ Some j → Has (view c r s) j
has-view c r s i j sane h e = subst (λ x. Has x j) (sym (view-some c r s sane)) (Has-filter_map (within r) (renumbered s c) i j h e)

pub drawn-view : (c : List Item) (r : Bounds) (s : ℕ) → IsDrawn (renumbered s c) (view c r s)
drawn-view c r s = λ k i h at_i. drawn-restricted r (renumbered s c) k i (has-from_view c r s i h).1 at_i

-- what speaks of a key of the range has a part there that speaks of it
kept_within : (r : Bounds) (k : List ℕ) (i : Item) → holds r k ≡ true → here k i ≡ true → (j : Item) × (within r i ≡ Some j) × (here k j ≡ true) × (rank j ≡ rank i) × (said j ≡ said i)
kept_within r k (entry key seq v) held at_i =
    (entry key seq v, ap (λ b. cond b (Some (entry key seq v)) None) (ap (holds r) (same_key-tells key k at_i) ∙ held), at_i, refl, refl)
kept_within r k (span t) held at_i =
    let u = starting_from r.lo (ending_by r.hi t) in
    (span u, ap (λ b. option_map span (cond b (Some u) None)) (meets-from_held t.range r k at_i held), holds-part_in r t k ∙ and_from (holds r k) (holds t.range k) held at_i, refl, refl)

pub kept-view : (c : List Item) (r : Bounds) (s : ℕ) (k : List ℕ) (i : Item) → Has (renumbered s c) i → IsTrue (holds r k) → IsTrue (here k i) → (j : Item) × Has (view c r s) j × IsTrue (here k j) × (rank j ≡ rank i) × (said j ≡ said i)
kept-view c r s k i h held at_i =
    let (j, e, at_j, ranks, says) = kept_within r k i held at_i in
    (j, has-view c r s i j (held-ordered r k held) h e, at_j, ranks, says)

-- ---- entries

mapped-some : (o : Option Tombstone) (i : Item) → option_map span o ≡ Some i → (u : Tombstone) × (o ≡ Some u) × (span u ≡ i)
mapped-some None i e = absurd (none-some i e)
mapped-some (Some u) i e = (u, refl, same_Some (span u) i e)

entry_within : (r : Bounds) (i : Item) (key : List ℕ) (seq : ℕ) (v : Option (List ℕ)) → within r i ≡ Some (entry key seq v) → (i ≡ entry key seq v) × (holds r key ≡ true)
entry_within r (entry a n w) key seq v e =
    let (held, same) = cond_some (holds r a) (entry a n w) (entry key seq v) e in
    let keys : a ≡ key = cc in
    (same, ap (holds r) (sym keys) ∙ held)
entry_within r (span t) key seq v e =
    let (u, some, same) = mapped-some (part_in r t) (entry key seq v) e in
    absurd (cc)

pub entries-view : (c : List Item) (r : Bounds) (s : ℕ) (key : List ℕ) (seq : ℕ) (v : Option (List ℕ)) → Has (view c r s) (entry key seq v) ↔ (Has (renumbered s c) (entry key seq v) × IsTrue (holds r key))
entries-view c r s key seq v = (
  λ h.
      let (i, has, e) = Has-from_filter_map (within r) (renumbered s c) (entry key seq v) (has-from_view c r s (entry key seq v) h).1 in
      let (same, held) = entry_within r i key seq v e in
      (subst (λ x. Has (renumbered s c) x) same has, held),
  λ both. has-view c r s (entry key seq v) (entry key seq v) (held-ordered r key both.1) both.0 (ap (λ b. cond b (Some (entry key seq v)) None) both.1),
)

-- ---- the whole item lies in the range

-- the span starts before it ends
abbrev starts_first : Item → Bool
starts_first (entry key seq v) = true
starts_first (span t) = is_ordered t

part-covered : (r : Bounds) (t u : Tombstone) → part_in r t ≡ Some u → covers r u.range ≡ true
part-covered r t u e =
    let (met, same) = cond_some (meets t.range r) (starting_from r.lo (ending_by r.hi t)) u e in
    let lo = later_of r.lo t.range.lo in
    let hi = earlier_of r.hi t.range.hi in
    let start : is_upto r.lo lo ≡ true = (and_parts (is_upto r.lo lo) (is_upto t.range.lo lo) (sym (upto-later_of r.lo t.range.lo lo) ∙ upto-itself lo)).0 in
    let end : is_upto hi r.hi ≡ true = upto-not_below hi r.hi ∙ ap not (below-earlier_of r.hi t.range.hi r.hi ∙ ap (λ b. b && is_below r.hi t.range.hi) (below-itself r.hi)) in
    ap (λ x. covers r x.range) (sym same) ∙ and_from (is_upto r.lo lo) (is_upto hi r.hi) start end

inside_within : (r : Bounds) (i j : Item) → is_below r.lo r.hi ≡ true → starts_first i ≡ true → within r i ≡ Some j → lies_in r j ≡ true
inside_within r (entry key seq v) j sane first e =
    let (held, same) = cond_some (holds r key) (entry key seq v) j e in
    ap (lies_in r) (sym same) ∙ held
inside_within r (span t) j sane first e =
    let (u, some, same) = mapped-some (part_in r t) j e in
    ap (lies_in r) (sym same) ∙ and_from (is_ordered u) (covers r u.range) (part_in-ordered r t u sane first some) (part-covered r t u some)

-- an item with another number speaks of the same keys
abbrev Alike : Item → Item → Type 0
Alike i j = ((k : List ℕ) → here k i ≡ here k j) × (starts_first i ≡ starts_first j)

alike-at_number : (s : ℕ) (i : Item) → Alike (at_number s i) i
alike-at_number s (entry key seq v) = (λ k. refl, refl)
alike-at_number s (span t) = (λ k. refl, refl)

from_renumbered : (none : Bool) (s : ℕ) (c : List Item) (i : Item) → Has (cond none c (map (at_number s) c)) i → (j : Item) × Has c j × Alike i j
from_renumbered true s c i h = (i, h, (λ k. refl, refl))
from_renumbered false s c i h =
    let (j, has, e) = Has-from_map (at_number s) c i h in
    (j, has, subst (λ x. Alike x j) e (alike-at_number s j))

to_renumbered : (none : Bool) (s : ℕ) (c : List Item) (i : Item) → Has c i → (j : Item) × Has (cond none c (map (at_number s) c)) j × Alike j i
to_renumbered true s c i h = (i, h, (λ k. refl, refl))
to_renumbered false s c i h = (at_number s i, Has-map (at_number s) c i h, alike-at_number s i)

all_start_first : (c : List Item) (i : Item) → HasOrderedSpans c → Has c i → starts_first i ≡ true
all_start_first c (entry key seq v) ordered h = refl
all_start_first c (span t) ordered h = All-at_Has (λ x. IsTrue (is_ordered x)) (spans_in c) t ordered (spans_in-keeps c t h)

pub inside-view : (c : List Item) (r : Bounds) (s : ℕ) (i : Item) → HasOrderedSpans c → Has (view c r s) i → IsTrue (lies_in r i)
inside-view c r s i ordered h =
    let (sane, there) = has-from_view c r s i h in
    let (j, has, e) = Has-from_filter_map (within r) (renumbered s c) i there in
    let (own, held, alike) = from_renumbered (eqb s 0) s c j has in
    inside_within r j i sane (alike.1 ∙ all_start_first c own ordered held) e

pub ordered-view : (c : List Item) (r : Bounds) (s : ℕ) → HasOrderedSpans c → HasOrderedSpans (view c r s)
ordered-view c r s ordered = All-from_Has (λ t. IsTrue (is_ordered t)) (spans_in (view c r s)) (λ t h.
    (and_parts (is_ordered t) (covers r t.range) (inside-view c r s (span t) ordered (Has-spans_in (view c r s) t h))).0)

-- ---- whether there is an item

-- an item in the range speaks of a key of it
key_inside : (r : Bounds) (i : Item) → lies_in r i ≡ true → (k : List ℕ) × (holds r k ≡ true) × (here k i ≡ true)
key_inside r (entry key seq v) lies = (key, lies, same_key-itself key)
key_inside r (span t) lies =
    let lo = t.range.lo in
    let (first, whole) = and_parts (is_ordered t) (covers r t.range) lies in
    let (start, end) = and_parts (is_upto r.lo lo) (is_upto t.range.hi r.hi) whole in
    (lo, and_from (is_upto r.lo lo) (is_below lo r.hi) start (below_upto lo t.range.hi r.hi first end), and_from (is_upto lo lo) (is_below lo t.range.hi) (upto-itself lo) first)

pub empty-view : (c : List Item) (r : Bounds) (s : ℕ) → HasOrderedSpans c → (view c r s ≡ []) ↔ ((k : List ℕ) → IsTrue (holds r k) → IsSilentAt k c)
empty-view c r s ordered = (
  λ empty k held i h at_i.
      let (j, has, alike) = to_renumbered (eqb s 0) s c i h in
      let part = kept-view c r s k j has held (alike.0 k ∙ at_i) in
      subst (λ x. Has x part.0) empty part.1,
  λ silent. none-held (view c r s) (λ i h.
      let (k, held, at_i) = key_inside r i (inside-view c r s i ordered h) in
      let (j, has, at_j, ranks, says) = drawn-view c r s k i h at_i in
      let (own, there, alike) = from_renumbered (eqb s 0) s c j has in
      silent k held own there (sym (alike.0 k) ∙ at_j)),
)
