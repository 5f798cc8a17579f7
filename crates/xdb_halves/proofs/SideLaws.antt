-- The two sides of a span: which keys they have, and the extent of what a table has there.
use Rattle.std.proofs.Common.{◌≡◌, ℕ, Bool, true, false, not, ◌&&◌, ◌||◌, cond, List, [], ◌++◌, map, Option, None, Some, IfSome, Result, Ok, Err, IsOkAnd, IsTrue, ◌↔◌, refl, sym, ap, ◌∙◌, subst, inl, inr}
use Rattle.std.proofs.lemmas.Bool.{and_from, and_parts, cases_Bool, false≢true}
use Rattle.std.proofs.lemmas.List.{map-append}
use Rattle.std.proofs.lemmas.Simd.{map-map}
use Rattle.xdb_key.proofs.OrderLaws.{upto-not_below, upto_trans, below_upto, upto_below, lesser_upto_first, lesser_upto_second, first_upto_greater, second_upto_greater}
use Rattle.xdb_key.specs.Bounds.{Bounds, bounds, holds, covers, lesser, greater}
use Rattle.xdb_key.specs.Entries.{Point, Tombstone, Reach, IsReach}
use Rattle.xdb_key.specs.Order.{is_below, is_upto}
use Rattle.xdb_key.specs.Reading.{◌>>=◌}
use Rattle.xdb_rangedel.proofs.CoverLaws.{below-earlier_of, upto-later_of}
use Rattle.xdb_rangedel.proofs.MemberLaws.{Has-map, none-held}
use Rattle.xdb_rangedel.proofs.RangeLaws.{empty-view, nothing-view, newest-view}
use Rattle.xdb_rangedel.specs.Clip.{parts_in}
use Rattle.xdb_rangedel.specs.Content.{Item, span, newest, entry_of, content_of}
use Rattle.xdb_rangedel.specs.Layers.{IsSilentAt}
use Rattle.xdb_rangedel.specs.Members.{Has}
use Rattle.xdb_rangedel.specs.View.{view, renumbered, HasOrderedSpans}
use Rattle.xdb_block.specs.Rows.{Row}
use Rattle.xdb_table_r.proofs.ContentLaws.{seen_is_view}
use Rattle.xdb_table_r.specs.Contents.{content_in}
use Rattle.xdb_table_r.specs.Points.{points_at}
use Rattle.xdb_table_r.specs.Reaches.{reaches, IsExtentOf, LiesWithin, IsEmpty, Reaches, part_at, range_before, range_from}
use Rattle.xdb_table_r.specs.Views.{Shown, keys_of, points_in, span_for, spans_in, seen_at}
use Rattle.xdb_halves.specs.Beside.{left_of, right_of, has_keys, item_reach, IsExtent, HasNone, AreHalvesOf, rows_beside}
use Rattle.xdb_halves.specs.declared.sides.Halves.{Halves}

-- ---- a span that covers what is shown leaves no keys

not_above : (a b : List ℕ) → is_upto a b ≡ true → is_below b a ≡ false
not_above a b h = elim (cases_Bool (is_below b a)) [
  | inl e ↦ absurd (false≢true (sym (upto-not_below a b ∙ ap not e) ∙ h))
  | inr e ↦ e
]

pub left_empty : (shown out : Bounds) (at : List ℕ) → at ≡ out.lo → covers out shown ≡ true → IsEmpty (range_before shown at)
left_empty shown out at e h =
    not_above (lesser shown.hi at) shown.lo (upto_trans (lesser shown.hi at) at shown.lo (lesser_upto_second shown.hi at) (ap (λ a. is_upto a shown.lo) e ∙ (and_parts _ _ h).0))

pub right_empty : (shown out : Bounds) (at : List ℕ) → at ≡ out.hi → covers out shown ≡ true → IsEmpty (range_from shown at)
right_empty shown out at e h =
    not_above shown.hi (greater shown.lo at) (upto_trans shown.hi at (greater shown.lo at) (ap (is_upto shown.hi) e ∙ (and_parts _ _ h).1) (second_upto_greater shown.lo at))

-- ---- what lies within a side

pub left_apart : (shown out : Bounds) (e : Reach) → LiesWithin (left_of shown out) e → IsTrue (covers shown (bounds e.lo e.hi)) × IsTrue (is_upto e.hi out.lo)
left_apart shown out e h =
    let parts = and_parts _ _ h in (
      and_from _ _ parts.0 (upto_trans e.hi (lesser shown.hi out.lo) shown.hi parts.1 (lesser_upto_first shown.hi out.lo)),
      upto_trans e.hi (lesser shown.hi out.lo) out.lo parts.1 (lesser_upto_second shown.hi out.lo),
    )

pub right_apart : (shown out : Bounds) (e : Reach) → LiesWithin (right_of shown out) e → IsTrue (covers shown (bounds e.lo e.hi)) × IsTrue (is_upto out.hi e.lo)
right_apart shown out e h =
    let parts = and_parts _ _ h in (
      and_from _ _ (upto_trans shown.lo (greater shown.lo out.hi) e.lo (first_upto_greater shown.lo out.hi) parts.0) parts.1,
      upto_trans out.hi (greater shown.lo out.hi) e.lo (second_upto_greater shown.lo out.hi) parts.0,
    )

-- no extent lies within a side without keys
none_within : (r : Bounds) (e : Option Reach) → IsEmpty r → IfSome e (LiesWithin r) → IfSome e IsReach → e ≡ None
none_within r None empty within is = refl
none_within r (Some e) empty within is =
    let parts = and_parts _ _ within in
    absurd (false≢true (sym empty ∙ below_upto r.lo e.hi r.hi (upto_below r.lo e.lo e.hi parts.0 is.ordered) parts.1))

pub none_covered : (shown out : Bounds) (h : Halves) (lo hi : List ℕ) → lo ≡ out.lo → hi ≡ out.hi → covers out shown ≡ true
    → IfSome h.left (LiesWithin (range_before shown lo)) → IfSome h.left IsReach → IfSome h.right (LiesWithin (range_from shown hi)) → IfSome h.right IsReach → HasNone h
none_covered shown out h lo hi is_lo is_hi covered left l right r =
    (none_within (range_before shown lo) h.left (left_empty shown out lo is_lo covered) left l, none_within (range_from shown hi) h.right (right_empty shown out hi is_hi covered) right r)

-- ---- where nothing is

pub none_there : (c : List Item) (r : Bounds) (s : ℕ) → HasOrderedSpans c → IsExtent (view c r s) None ↔ ((k : List ℕ) → IsTrue (holds r k) → IsSilentAt k c)
none_there c r s o = (
  λ h. (empty-view c r s o).0 (none-held (view c r s) (λ i has. h (item_reach i) (Has-map item_reach (view c r s) i has))),
  λ silent x has. subst (λ v. Has (map item_reach v) x) ((empty-view c r s o).1 silent) has,
)

-- ---- what a side says

moved : (a b c : Bool) → (a && (b && c)) ≡ (b && (a && c))
moved true b c = refl
moved false true c = refl
moved false false c = refl

grouped : (a b c : Bool) → ((a && b) && c) ≡ (a && (b && c))
grouped true b c = refl
grouped false b c = refl

nested : {A : Type 0} (a b : Bool) (x : Option A) → cond (a && b) x None ≡ cond a (cond b x None) None
nested true b x = refl
nested false b x = refl

held_left : (shown out : Bounds) (k : List ℕ) → holds (left_of shown out) k ≡ (is_below k out.lo && holds shown k)
held_left shown out k = ap (λ b. is_upto shown.lo k && b) (below-earlier_of out.lo shown.hi k) ∙ moved (is_upto shown.lo k) (is_below k out.lo) (is_below k shown.hi)

held_right : (shown out : Bounds) (k : List ℕ) → holds (right_of shown out) k ≡ (is_upto out.hi k && holds shown k)
held_right shown out k = ap (λ b. b && is_below k shown.hi) (upto-later_of out.hi shown.lo k) ∙ grouped (is_upto out.hi k) (is_upto shown.lo k) (is_below k shown.hi)

says_by : (c : List Item) (r shown : Bounds) (s limit : ℕ) (k : List ℕ) (on : Bool) → holds r k ≡ (on && holds shown k) → newest (view c r s) limit k ≡ cond on (newest (view c shown s) limit k) None
says_by c r shown s limit k on h =
    newest-view c r s limit k ∙ ap (λ b. cond b (newest (renumbered s c) limit k) None) h ∙ nested on (holds shown k) (newest (renumbered s c) limit k)
    ∙ ap (λ x. cond on x None) (sym (newest-view c shown s limit k))

pub left_says : (c : List Item) (shown out : Bounds) (s limit : ℕ) (k : List ℕ) → newest (view c (left_of shown out) s) limit k ≡ cond (is_below k out.lo) (newest (view c shown s) limit k) None
left_says c shown out s limit k = says_by c (left_of shown out) shown s limit k (is_below k out.lo) (held_left shown out k)

pub right_says : (c : List Item) (shown out : Bounds) (s limit : ℕ) (k : List ℕ) → newest (view c (right_of shown out) s) limit k ≡ cond (is_upto out.hi k) (newest (view c shown s) limit k) None
right_says c shown out s limit k = says_by c (right_of shown out) shown s limit k (is_upto out.hi k) (held_right shown out k)

-- ---- the extent of a side

content_reaches : (ps : List Point) (ts : List Tombstone) → map item_reach (content_of ps ts) ≡ reaches ps ts
content_reaches ps ts = map-append item_reach (map entry_of ps) (map span ts) ∙ (λ j. map-map item_reach entry_of ps j ++ map-map item_reach span ts j)

view_reaches : (r : Bounds) (s : ℕ) (rows : List Row) (ts : List Tombstone) → reaches (points_in r s rows) (spans_in r s ts) ≡ map item_reach (view (content_in rows ts) r s)
view_reaches r s rows ts = sym (content_reaches (points_in r s rows) (spans_in r s ts)) ∙ ap (map item_reach) (seen_is_view r s rows ts)

-- the extent of what a range has of a table
abbrev Side : Bounds → ℕ → List Tombstone → Option Reach → List Row → Type 0
Side r s ts e rows = IsExtent (view (content_in rows ts) r s) e

side_by : (r : Bounds) (s : ℕ) (ts : List Tombstone) (e : Option Reach) (read : Result (List Row) ℕ) → IsOkAnd (read >>= λ rows. Ok (points_in r s rows)) (Reaches r s ts e) → IsOkAnd read (Side r s ts e)
side_by r s ts e (Ok rows) h = subst (λ hs. IsExtentOf hs e) (view_reaches r s rows ts) h
side_by r s ts e (Err at) h = absurd h

side_read : (r : Bounds) (s : ℕ) (index : List Row) (ts : List Tombstone) (file : List ℕ) (e : Option Reach) → IsOkAnd (part_at r s index file) (Reaches r s ts e) → has_keys r ≡ true → IsOkAnd (points_at index file) (Side r s ts e)
side_read r s index ts file e h some =
    side_by r s ts e (points_at index file) (subst (λ b. IsOkAnd (cond b (seen_at r s index file) (Ok [])) (Reaches r s ts e)) some h)

side_none : (r : Bounds) (s : ℕ) (index : List Row) (ts : List Tombstone) (file : List ℕ) (e : Option Reach) → IsOkAnd (part_at r s index file) (Reaches r s ts e) → has_keys r ≡ false → (rows : List Row) → Side r s ts e rows
side_none r s index ts file e h none rows =
    let empty = subst (λ b. IsOkAnd (cond b (seen_at r s index file) (Ok [])) (λ ps. IsExtentOf (reaches ps (cond b (map (span_for s) (parts_in r ts)) [])) e)) none h in
    subst (λ v. IsExtentOf (map item_reach v) e) (sym (nothing-view (content_in rows ts) r s none)) empty

-- ---- both sides

both : (l r : Bool) (read : Result (List Row) ℕ) (P Q : List Row → Type 0) → (l ≡ true → IsOkAnd read P) → (l ≡ false → (rows : List Row) → P rows) → (r ≡ true → IsOkAnd read Q) → (r ≡ false → (rows : List Row) → Q rows)
    → IsOkAnd (cond (l || r) read (Ok [])) (λ rows. P rows × Q rows)
both true true (Ok rows) P Q pl nl pr nr = (pl refl, pr refl)
both true true (Err at) P Q pl nl pr nr = absurd (pl refl)
both true false (Ok rows) P Q pl nl pr nr = (pl refl, nr refl rows)
both true false (Err at) P Q pl nl pr nr = absurd (pl refl)
both false true (Ok rows) P Q pl nl pr nr = (nl refl rows, pr refl)
both false true (Err at) P Q pl nl pr nr = absurd (pr refl)
both false false read P Q pl nl pr nr = (nl refl [], nr refl [])

weaker : {X E : Type 0} (P Q : X → Type 0) (read : Result X E) → ((x : X) → P x → Q x) → IsOkAnd read P → IsOkAnd read Q
weaker P Q (Ok x) f h = f x h
weaker P Q (Err e) f h = absurd h

-- what both sides tell of a file
abbrev Tells : {F : Type 0} → Shown F → Bounds → Option (List ℕ) → Option Reach → Type 0
Tells v r known e = IfSome known (λ b. IsOkAnd (part_at r v.synthetic v.table.index b) (Reaches r v.synthetic v.table.spans e))

told : {F : Type 0} (v : Shown F) (out : Bounds) (known : Option (List ℕ)) (h : Halves) → Tells v (left_of (keys_of v) out) known h.left → Tells v (right_of (keys_of v) out) known h.right
    → IfSome known (λ b. IsOkAnd (rows_beside v out b) (AreHalvesOf v out h))
told v out None h left right = tt
told v out (Some b) h left right =
    let s = v.synthetic in
    let ts = v.table.spans in
    let index = v.table.index in
    let l = left_of (keys_of v) out in
    let r = right_of (keys_of v) out in
    weaker (λ rows. Side l s ts h.left rows × Side r s ts h.right rows) (AreHalvesOf v out h) (rows_beside v out b) (λ rows x. record { left = x.0; right = x.1 })
    (both (has_keys l) (has_keys r) (points_at index b) (Side l s ts h.left) (Side r s ts h.right)
    (side_read l s index ts b h.left left) (side_none l s index ts b h.left left) (side_read r s index ts b h.right right) (side_none r s index ts b h.right right))

pub halves_told : {F : Type 0} (v : Shown F) (out : Bounds) (known : Option (List ℕ)) (h : Halves) (lo hi : List ℕ) → lo ≡ out.lo → hi ≡ out.hi
    → Tells v (range_before (keys_of v) lo) known h.left → Tells v (range_from (keys_of v) hi) known h.right
    → IfSome known (λ b. IsOkAnd (rows_beside v out b) (AreHalvesOf v out h))
halves_told v out known h lo hi is_lo is_hi left right =
    told v out known h (subst (λ at. Tells v (range_before (keys_of v) at) known h.left) is_lo left) (subst (λ at. Tells v (range_from (keys_of v) at) known h.right) is_hi right)
