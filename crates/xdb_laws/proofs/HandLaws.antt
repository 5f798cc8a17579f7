-- What is handed out for a range says there what all that is there says.
use Rattle.std.proofs.Common.{◌≡◌, ℕ, Bool, true, cond, List, [], ◌∷◌, ◌++◌, map, filter, inl, inr, refl, sym, ap, ◌∙◌, subst}
use Rattle.std.proofs.lemmas.Bool.{cases_Bool, false≢true}
use Rattle.std.proofs.lemmas.Grind.{flat_map-append}
use Rattle.std.specs.List.{AllByRecursion, flat_map}
use Rattle.xdb_key.specs.Bounds.{Bounds, holds, meets, covers}
use Rattle.xdb_key.specs.declared.state.SnapState.{SnapState}
use Rattle.xdb_key.specs.declared.state.SnapState.TheVariants.{Pinned, FileOnly, Excised}
use Rattle.xdb_mem.specs.Parts.{items, items_below}
use Rattle.xdb_plain.specs.PlainMap.{PlainMap}
use Rattle.xdb_plain.specs.Snapshots.{is_pinned, is_file_only}
use Rattle.xdb_plain.specs.State.{Snapshot}
use Rattle.xdb_rangedel.specs.Content.{Item, newer, newest, in_pieces, IsImage, IsClear}
use Rattle.xdb_rangedel.specs.Layers.{IsDrawn}
use Rattle.xdb_rangedel.specs.Members.{Has, SameMembers}
use Rattle.xdb_rangedel.specs.View.{restricted}
use Rattle.xdb_rangedel.proofs.CoverLaws.{meets-from_held}
use Rattle.xdb_rangedel.proofs.LayerLaws.{drawn_clear, newest_silent_left}
use Rattle.xdb_rangedel.proofs.MemberLaws.{Has-append_left, Has-append_right, Has-append_cases}
use Rattle.xdb_rangedel.proofs.NewestLaws.{newest-append, newest_unordered}
use Rattle.xdb_laws.specs.Excises.{KeepsTo}
use Rattle.xdb_laws.specs.Image.{image, AreAlikeIn}
use Rattle.xdb_laws.specs.Ordered.{joined}
use Rattle.xdb_laws.specs.Parts.{content_of_all, meeting, Handout, all_of, handed_of, IsHandout}
use Rattle.xdb_laws.specs.Snapshots.{ShowsCopy, CopyIsShown, KeepsCopy}
use Rattle.xdb_laws.proofs.AnswerLaws.{holds-covered}
use Rattle.xdb_laws.proofs.RewriteLaws.{drawn-joint}
use Rattle.xdb_laws.proofs.ImageLaws.{image-is}
use Rattle.xdb_laws.proofs.OrderLaws.{clear-within, drawn-within}
use Rattle.xdb_laws.proofs.PartLaws.{parts-say, drawn-parts, same-drawn}
use Rattle.xdb_laws.proofs.SnapshotLaws.{get-image}

-- ---- tables, whatever they are, by their bounds and what they have

module _ {A : Type 0} (bounds_of : A → Bounds) (content : A → List Item) where
  -- a table of which the range has nothing says nothing there
  pub newest-meeting : (r : Bounds) (ts : List A) (limit : ℕ) (k : List ℕ) → AllByRecursion (λ t. KeepsTo (bounds_of t) (content t)) ts → holds r k ≡ true → newest (flat_map content (filter (λ t. meets r (bounds_of t)) ts)) limit k ≡ newest (flat_map content ts) limit k
  newest-meeting r [] limit k inside held = refl
  newest-meeting r (t ∷ ts) limit k inside held = elim (cases_Bool (meets r (bounds_of t))) [
    | inl e ↦ ap (λ b. newest (flat_map content (cond b (t ∷ filter (λ u. meets r (bounds_of u)) ts) (filter (λ u. meets r (bounds_of u)) ts))) limit k) e
        ∙ newest-append (content t) (flat_map content (filter (λ u. meets r (bounds_of u)) ts)) limit k
        ∙ ap (newer (newest (content t) limit k)) (newest-meeting r ts limit k inside.1 held)
        ∙ sym (newest-append (content t) (flat_map content ts) limit k)
    | inr e ↦ ap (λ b. newest (flat_map content (cond b (t ∷ filter (λ u. meets r (bounds_of u)) ts) (filter (λ u. meets r (bounds_of u)) ts))) limit k) e
        ∙ newest-meeting r ts limit k inside.1 held
        ∙ sym (newest_silent_left (flat_map content ts) (content t) limit k (λ i has at_i. false≢true (sym e ∙ meets-from_held r (bounds_of t) k held (inside.0 k i has at_i))))
  ]

  has-from_tables : (ts : List A) (i : Item) → Has (flat_map content ts) i → (t : A) × Has ts t × Has (content t) i
  has-from_tables [] i h = absurd h
  has-from_tables (t ∷ ts) i h = elim (Has-append_cases (content t) (flat_map content ts) i h) [
    | inl g ↦ (t, inl refl, g)
    | inr g ↦ let (u, has, at_u) = has-from_tables ts i g in (u, inr has, at_u)
  ]

  has-in_tables : (ts : List A) (t : A) (i : Item) → Has ts t → Has (content t) i → Has (flat_map content ts) i
  has-in_tables [] t i h g = absurd h
  has-in_tables (u ∷ ts) t i (inl e) g = Has-append_left (content u) (flat_map content ts) i (subst (λ x. Has (content x) i) (sym e) g)
  has-in_tables (u ∷ ts) t i (inr h) g = Has-append_right (content u) (flat_map content ts) i (has-in_tables ts t i h g)

  -- the members of tables are those of their contents
  pub tables-within : (ts us : List A) → ((t : A) → Has ts t → Has us t) → (i : Item) → Has (flat_map content ts) i → Has (flat_map content us) i
  tables-within ts us f i h = let (t, has, at_t) = has-from_tables ts i h in has-in_tables us t i (f t has) at_t

pub picked : {A : Type 0} (p : A → Bool) (xs : List A) (x : A) → Has (filter p xs) x → Has xs x
picked p [] x h = absurd h
picked p (y ∷ xs) x h = elim (cases_Bool (p y)) [
  | inl e ↦ elim (subst (λ b. Has (cond b (y ∷ filter p xs) (filter p xs)) x) e h) [
    | inl is ↦ inl is
    | inr g ↦ inr (picked p xs x g)
  ]
  | inr e ↦ inr (picked p xs x (subst (λ b. Has (cond b (y ∷ filter p xs) (filter p xs)) x) e h))
]

-- ---- what is handed out

module _ (h : Handout) (is : IsHandout h) where
  handed-within : (i : Item) → Has (content_of_all h.handed) i → Has (content_of_all h.tables) i
  handed-within = tables-within (λ t. t.0) (λ t. t.1) h.handed h.tables (λ t has. picked (λ u. meets h.range u.0) h.tables t ((is.tables_are t).0 has))

  clear-mem : IsClear (items h.ops)
  clear-mem = clear-within (all_of h) (items h.ops) (λ i. Has-append_left (items h.ops) (content_of_all h.tables) i) is.clear

  clear-tables : IsClear (content_of_all h.tables)
  clear-tables = clear-within (all_of h) (content_of_all h.tables) (λ i. Has-append_right (items h.ops) (content_of_all h.tables) i) is.clear

  clear-handed : IsClear (content_of_all h.handed)
  clear-handed = clear-within (content_of_all h.tables) (content_of_all h.handed) handed-within clear-tables

  drawn-handed : IsDrawn (all_of h) (handed_of h)
  drawn-handed = drawn-joint (items h.ops) h.part (content_of_all h.tables) (content_of_all h.handed)
      (same-drawn (items h.ops) (in_pieces (restricted h.range (items_below h.limit h.ops))) h.part is.mem (drawn-parts h.range h.limit h.ops))
      (drawn-within (content_of_all h.tables) (content_of_all h.handed) handed-within)

  pub handed-clear : IsClear (handed_of h)
  handed-clear = drawn_clear (all_of h) (handed_of h) drawn-handed is.clear

  same-handed : SameMembers (content_of_all h.handed) (content_of_all (meeting h.range h.tables))
  same-handed = λ i. (
    tables-within (λ t. t.0) (λ t. t.1) h.handed (meeting h.range h.tables) (λ t. (is.tables_are t).0) i,
    tables-within (λ t. t.0) (λ t. t.1) (meeting h.range h.tables) h.handed (λ t. (is.tables_are t).1) i,
  )

  pub handed-says : (k : List ℕ) → holds h.range k ≡ true → newest (handed_of h) h.limit k ≡ newest (all_of h) h.limit k
  handed-says k held =
      newest-append h.part (content_of_all h.handed) h.limit k
      ∙ (λ i. newer
      (parts-say h.range h.limit h.ops h.part k is.mem clear-mem held i)
      ((newest_unordered (content_of_all h.handed) (content_of_all (meeting h.range h.tables)) h.limit k same-handed clear-handed
      ∙ newest-meeting (λ t. t.0) (λ t. t.1) h.range h.tables h.limit k is.inside held) i))
      ∙ sym (newest-append (items h.ops) (content_of_all h.tables) h.limit k)

  pub handed-alike : (copy : PlainMap) → AreAlikeIn h.range (image (all_of h) h.limit) copy → AreAlikeIn h.range (image (handed_of h) h.limit) copy
  handed-alike copy alike = λ k held. get-image (all_of h) (handed_of h) h.limit k (handed-says k held) ∙ alike k held

  pub handed-now : (m : PlainMap) → IsImage (all_of h) h.limit m → AreAlikeIn h.range (image (handed_of h) h.limit) m
  handed-now m now = handed-alike m (λ k held. image-is (all_of h) h.limit k ∙ sym (now k))

-- level by level, tables have what all of them have
pub levels-tables : (levels : List (List (Bounds × List Item))) → flat_map joined (map (map (λ t. t.1)) levels) ≡ content_of_all (flat_map (λ ts. ts) levels)
levels-tables [] = refl
levels-tables (ts ∷ levels) =
    (λ i. joined-map ts i ++ levels-tables levels i) ∙ sym (flat_map-append (λ t. t.1) ts (flat_map (λ us. us) levels))
  where
    joined-map : (ts : List (Bounds × List Item)) → joined (map (λ t. t.1) ts) ≡ content_of_all ts
    joined-map [] = refl
    joined-map (t ∷ ts) = ap (λ x. t.1 ++ x) (joined-map ts)

-- ---- through a snapshot

shown-inside : (ranges : List Bounds) (mark : ℕ) (copy : PlainMap) (c : List Item) (range r : Bounds) → ShowsCopy ranges mark copy c → Has ranges range → covers range r ≡ true → AreAlikeIn r (image c mark) copy
shown-inside ranges mark copy c range r shown has wide = λ k held. shown range has k (holds-covered range r k wide held)

pinned-shows : (state : SnapState) (ranges : List Bounds) (mark : ℕ) (copy : PlainMap) (all held : List Item) → is_pinned state ≡ true → CopyIsShown state ranges mark copy all held → ShowsCopy ranges mark copy all
pinned-shows (Pinned group) ranges mark copy all held e shown = shown
pinned-shows FileOnly ranges mark copy all held e shown = absurd (false≢true e)
pinned-shows (Excised load) ranges mark copy all held e shown = absurd (false≢true e)

file_only-shows : (state : SnapState) (ranges : List Bounds) (mark : ℕ) (copy : PlainMap) (all held : List Item) → is_file_only state ≡ true → CopyIsShown state ranges mark copy all held → ShowsCopy ranges mark copy held
file_only-shows (Pinned group) ranges mark copy all held e shown = absurd (false≢true e)
file_only-shows FileOnly ranges mark copy all held e shown = shown
file_only-shows (Excised load) ranges mark copy all held e shown = absurd (false≢true e)

pub handed-pinned : (s : Snapshot) (range : Bounds) (h : Handout) (held : List Item) → is_pinned s.state ≡ true → KeepsCopy s (all_of h) held → Has s.ranges range → covers range h.range ≡ true → h.limit ≡ s.mark → IsHandout h → AreAlikeIn h.range (image (handed_of h) s.mark) s.copy
handed-pinned s range h held pinned kept has wide mark is =
    subst (λ n. AreAlikeIn h.range (image (handed_of h) n) s.copy) mark
    (handed-alike h is s.copy (subst (λ n. AreAlikeIn h.range (image (all_of h) n) s.copy) (sym mark)
    (shown-inside s.ranges s.mark s.copy (all_of h) range h.range (pinned-shows s.state s.ranges s.mark s.copy (all_of h) held pinned kept) has wide)))

-- of tables alone, as those of a held version
abbrev tables-only : Handout → Handout
tables-only h = record { range = h.range; limit = h.limit; ops = []; tables = h.tables; part = []; handed = h.handed }

only-handed : (h : Handout) → IsHandout h → IsHandout (tables-only h)
only-handed h is = record {
  clear = clear-within (all_of h) (content_of_all h.tables) (λ i. Has-append_right (items h.ops) (content_of_all h.tables) i) is.clear;
  inside = is.inside;
  mem = λ i. (λ has. absurd has, λ has. absurd has);
  tables_are = is.tables_are;
}

pub handed-file_only : (s : Snapshot) (range : Bounds) (h : Handout) (all : List Item) → is_file_only s.state ≡ true → KeepsCopy s all (content_of_all h.tables) → Has s.ranges range → covers range h.range ≡ true → h.limit ≡ s.mark → IsHandout h
    → AreAlikeIn h.range (image (content_of_all h.handed) s.mark) s.copy
handed-file_only s range h all file_only kept has wide mark is =
    let held = content_of_all h.tables in
    subst (λ n. AreAlikeIn h.range (image (content_of_all h.handed) n) s.copy) mark
    (handed-alike (tables-only h) (only-handed h is) s.copy (subst (λ n. AreAlikeIn h.range (image held n) s.copy) (sym mark)
    (shown-inside s.ranges s.mark s.copy held range h.range (file_only-shows s.state s.ranges s.mark s.copy all held file_only kept) has wide)))
