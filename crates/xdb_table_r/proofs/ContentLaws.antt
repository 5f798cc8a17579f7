-- What the points and the spans of a view make is the view of the table's content.
use Rattle.std.proofs.Common.{◌≡◌, ℕ, Bool, true, false, cond, eqb, List, [], ◌∷◌, ◌++◌, map, Option, Some, None, refl, sym, ap, ◌∙◌, subst, inl, inr}
use Rattle.std.specs.List.{cons_option}
use Rattle.std.specs.Option.{option_map}
use Rattle.std.proofs.lemmas.List.{map-append}
use Rattle.std.proofs.lemmas.List.Elements.{filter_map-append}
use Rattle.xdb_key.specs.Bounds.{Bounds, holds, meets}
use Rattle.xdb_key.specs.Entries.{Point, Tombstone, tombstone}
use Rattle.xdb_key.specs.Order.{is_below}
use Rattle.xdb_rangedel.proofs.RangeLaws.{none-held_in}
use Rattle.xdb_rangedel.proofs.MemberLaws.{Has-append_left, Has-append_right, Has-append_cases, Has-map, Has-from_map}
use Rattle.xdb_rangedel.specs.Clip.{starting_from, ending_by, part_in, parts_in}
use Rattle.xdb_rangedel.specs.Content.{Item, span, entry_of, content_of}
use Rattle.xdb_rangedel.specs.Members.{Has, SameMembers}
use Rattle.xdb_rangedel.specs.View.{within, restricted, at_number, renumbered as all_numbered, view}
use Rattle.xdb_block.specs.Rows.{Row, user_part}
use Rattle.xdb_table_r.specs.Contents.{content_in}
use Rattle.xdb_table_r.specs.Views.{point_of, renumbered, point_in, points_in, span_for, spans_in}

-- ---- one item after the other

abbrev numbered : Bool → ℕ → Item → Item
numbered none s i = cond none i (at_number s i)

all_numbered_is : (none : Bool) (s : ℕ) (c : List Item) → eqb s 0 ≡ none → all_numbered s c ≡ map (numbered none s) c
all_numbered_is true s c e = ap (λ b. cond b c (map (at_number s) c)) e ∙ same c where
  same : (c : List Item) → c ≡ map (numbered true s) c
  same [] = refl
  same (i ∷ c) = ap (λ x. i ∷ x) (same c)
all_numbered_is false s c e = ap (λ b. cond b c (map (at_number s) c)) e ∙ same c where
  same : (c : List Item) → map (at_number s) c ≡ map (numbered false s) c
  same [] = refl
  same (i ∷ c) = ap (λ x. at_number s i ∷ x) (same c)

kept : {A B : Type 0} (f : A → B) (h : Bool) (x : A) → option_map f (cond h (Some x) None) ≡ cond h (Some (f x)) None
kept f true x = refl
kept f false x = refl

mapped : {A B : Type 0} (f : A → B) (o : Option A) (xs : List A) → map f (cons_option o xs) ≡ cons_option (option_map f o) (map f xs)
mapped f (Some x) xs = refl
mapped f None xs = refl

-- ---- points

point_seen : (none : Bool) (r : Bounds) (s : ℕ) (i : Row) → eqb s 0 ≡ none → option_map entry_of (point_in r s i) ≡ within r (numbered none s (entry_of (point_of i)))
point_seen true r s i e = kept entry_of (holds r (user_part i.key)) (renumbered s (point_of i)) ∙ ap (λ b. cond (holds r (user_part i.key)) (Some (entry_of (by b))) None) e where
  by : Bool → Point
  by b = record { key = (point_of i).key; seq = cond b (point_of i).seq s; kind = (point_of i).kind; value = (point_of i).value }
point_seen false r s i e = kept entry_of (holds r (user_part i.key)) (renumbered s (point_of i)) ∙ ap (λ b. cond (holds r (user_part i.key)) (Some (entry_of (by b))) None) e where
  by : Bool → Point
  by b = record { key = (point_of i).key; seq = cond b (point_of i).seq s; kind = (point_of i).kind; value = (point_of i).value }

points_seen : (none : Bool) (r : Bounds) (s : ℕ) (rows : List Row) → eqb s 0 ≡ none → map entry_of (points_in r s rows) ≡ restricted r (map (numbered none s) (map entry_of (map point_of rows)))
points_seen none r s [] e = refl
points_seen none r s (i ∷ is) e = mapped entry_of (point_in r s i) (points_in r s is) ∙ (λ j. cons_option (point_seen none r s i e j) (points_seen none r s is e j))

-- ---- spans

-- the part of a span that has another number
abbrev piece : Bounds → Tombstone → ℕ → Bool → Option Tombstone
piece r t n h = cond h (Some (starting_from r.lo (ending_by r.hi (tombstone t.range n)))) None

part_by : (none h : Bool) (r : Bounds) (s : ℕ) (t : Tombstone) → option_map span (option_map (λ u. tombstone u.range (cond none u.seq s)) (piece r t t.seq h)) ≡ option_map span (piece r t (cond none t.seq s) h)
part_by none true r s t = refl
part_by none false r s t = refl

part_seen : (none : Bool) (r : Bounds) (s : ℕ) (t : Tombstone) → eqb s 0 ≡ none → option_map span (option_map (span_for s) (part_in r t)) ≡ within r (numbered none s (span t))
part_seen true r s t e = (λ j. option_map span (option_map (λ u. tombstone u.range (cond (e j) u.seq s)) (part_in r t))) ∙ part_by true (meets t.range r) r s t
part_seen false r s t e = (λ j. option_map span (option_map (λ u. tombstone u.range (cond (e j) u.seq s)) (part_in r t))) ∙ part_by false (meets t.range r) r s t

spans_seen : (none : Bool) (r : Bounds) (s : ℕ) (ts : List Tombstone) → eqb s 0 ≡ none → map span (map (span_for s) (parts_in r ts)) ≡ restricted r (map (numbered none s) (map span ts))
spans_seen none r s [] e = refl
spans_seen none r s (t ∷ ts) e =
    ap (map span) (mapped (span_for s) (part_in r t) (parts_in r ts)) ∙ mapped span (option_map (span_for s) (part_in r t)) (map (span_for s) (parts_in r ts))
    ∙ (λ j. cons_option (part_seen none r s t e j) (spans_seen none r s ts e j))

-- ---- together

restricted_joined : (r : Bounds) (f : Item → Item) (a b : List Item) → restricted r (map f a) ++ restricted r (map f b) ≡ restricted r (map f (a ++ b))
restricted_joined r f a b = sym (ap (restricted r) (map-append f a b) ∙ filter_map-append (within r) (map f a) (map f b))

restricted_seen : (none : Bool) (r : Bounds) (s : ℕ) (rows : List Row) (ts : List Tombstone) → eqb s 0 ≡ none → content_of (points_in r s rows) (map (span_for s) (parts_in r ts)) ≡ restricted r (all_numbered s (content_in rows ts))
restricted_seen none r s rows ts e =
    (λ j. points_seen none r s rows e j ++ spans_seen none r s ts e j)
    ∙ restricted_joined r (numbered none s) (map entry_of (map point_of rows)) (map span ts) ∙ ap (restricted r) (sym (all_numbered_is none s (content_in rows ts) e))

-- a range that holds no key has no points
no_points : (r : Bounds) (s : ℕ) (rows : List Row) → is_below r.lo r.hi ≡ false → points_in r s rows ≡ []
no_points r s [] empty = refl
no_points r s (i ∷ is) empty =
    (λ j. cons_option (cond (none-held_in r (user_part i.key) empty j) (Some (renumbered s (point_of i))) None) (no_points r s is empty j))

seen_by : (sane : Bool) (r : Bounds) (s : ℕ) (rows : List Row) (ts : List Tombstone) → is_below r.lo r.hi ≡ sane → content_of (points_in r s rows) (cond sane (map (span_for s) (parts_in r ts)) []) ≡ cond sane (restricted r (all_numbered s (content_in rows ts))) []
seen_by true r s rows ts e = restricted_seen (eqb s 0) r s rows ts refl
seen_by false r s rows ts e = ap (λ ps. content_of ps []) (no_points r s rows e)

pub seen_is_view : (r : Bounds) (s : ℕ) (rows : List Row) (ts : List Tombstone) → content_of (points_in r s rows) (spans_in r s ts) ≡ view (content_in rows ts) r s
seen_is_view r s rows ts = seen_by (is_below r.lo r.hi) r s rows ts refl

-- ---- spans by their members

along : (ps : List Point) (xs ys : List Tombstone) → ((t : Tombstone) → Has xs t → Has ys t) → (i : Item) → Has (content_of ps xs) i → Has (content_of ps ys) i
along ps xs ys sub i has = elim (Has-append_cases (map entry_of ps) (map span xs) i has) [
  | inl a ↦ Has-append_left (map entry_of ps) (map span ys) i a
  | inr b ↦ let from = Has-from_map span xs i b in Has-append_right (map entry_of ps) (map span ys) i (subst (λ x. Has (map span ys) x) from.2 (Has-map span ys from.0 (sub from.0 from.1)))
]

pub members_are_view : (r : Bounds) (s : ℕ) (rows : List Row) (ts made : List Tombstone) → SameMembers made (spans_in r s ts) → SameMembers (content_of (points_in r s rows) made) (view (content_in rows ts) r s)
members_are_view r s rows ts made same =
    subst (SameMembers (content_of (points_in r s rows) made)) (seen_is_view r s rows ts)
    (λ i. (along (points_in r s rows) made (spans_in r s ts) (λ t h. (same t).0 h) i, along (points_in r s rows) (spans_in r s ts) made (λ t h. (same t).1 h) i))
