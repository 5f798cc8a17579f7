-- Tables within the least bounds around what their files have show all of it.
use Rattle.std.proofs.Common.{◌≡◌, ◌==◌, ℕ, Bool, true, false, cond, List, [], ◌∷◌, ◌++◌, Option, Some, None, IsSome, IfSome, Result, Ok, Err, IsTrue, inl, inr, refl, sym, ap, ◌∙◌, subst}
use Rattle.std.proofs.lemmas.Bool.{and_from, false≢true, not-true}
use Rattle.std.proofs.lemmas.List.{append-nil}
use Rattle.std.specs.List.{AllByRecursion, cons_option, filter_map, flat_map}
use Rattle.std.specs.Option.{option_map}
use Rattle.xdb_halves.specs.Beside.{item_reach, IsExtent}
use Rattle.xdb_key.proofs.OrderLaws.{upto-not_below, below_upto, upto_below, key-below-successor}
use Rattle.xdb_key.specs.Bounds.{Bounds, bounds, holds, meets, successor}
use Rattle.xdb_key.specs.Entries.{Tombstone, Reach}
use Rattle.xdb_key.specs.Order.{is_below, is_upto}
use Rattle.xdb_key.specs.Reading.{◌>>=◌}
use Rattle.xdb_merge.specs.Tables.{table_at, shown, content_told as table_content_told, content_of_tables}
use Rattle.xdb_meta.specs.Table.{Table, bounds_of}
use Rattle.xdb_block.specs.Rows.{Row}
use Rattle.xdb_rangedel.proofs.FragmentLaws.{All-at_Has}
use Rattle.xdb_rangedel.proofs.MemberLaws.{Has-map, Has-from_map}
use Rattle.xdb_rangedel.specs.Clip.{later_of, earlier_of, part_in}
use Rattle.xdb_rangedel.specs.Content.{Item, entry, span, spans_in}
use Rattle.xdb_rangedel.specs.Members.{Has, SameMembers}
use Rattle.xdb_rangedel.specs.Pieces.{is_ordered}
use Rattle.xdb_rangedel.specs.View.{within, restricted, view}
use Rattle.xdb_table_r.specs.Contents.{content_in}
use Rattle.xdb_table_r.specs.Opening.{Opened, opened_at}
use Rattle.xdb_table_r.specs.Points.{points_at}
use Rattle.xdb_table_r.specs.Reaches.{IsInside}
use Rattle.xdb_build.proofs.ReachLaws.{extent_same, turned}
use Rattle.xdb_build.specs.Fits.{IsFlushed}
use Rattle.xdb_build.specs.Given.{Given, mem_content, left_of}
use Rattle.xdb_build.specs.Outputs.{file_content, content_told, HasFragments, reach_of, IsReachOf, IsInFile, Pairwise, AreTold, contents, with_files}

-- ---- an item that lies inside a range is in the range's part as it is

key_below : (k hi : List ℕ) → is_upto (successor k) hi ≡ true → is_below k hi ≡ true
key_below k hi h = below_upto k (successor k) hi (key-below-successor k) h

not_past : (a b : List ℕ) → is_upto a b ≡ true → is_below b a ≡ false
not_past a b h = not-true (is_below b a) (sym (upto-not_below a b) ∙ h)

span_stays : (r : Bounds) (t : Tombstone) → is_ordered t ≡ true → is_upto r.lo t.range.lo ≡ true → is_upto t.range.hi r.hi ≡ true → part_in r t ≡ Some t
span_stays r t ordered lo hi =
    let met : meets t.range r ≡ true = and_from _ _ (below_upto t.range.lo t.range.hi r.hi ordered hi) (upto_below r.lo t.range.lo t.range.hi lo ordered) in
    let start : later_of r.lo t.range.lo ≡ t.range.lo = rw (not_past r.lo t.range.lo lo) refl in
    let end : earlier_of r.hi t.range.hi ≡ t.range.hi = rw (not_past t.range.hi r.hi hi) refl in
    rw met (λ i. Some (record { range = record { lo = start i; hi = end i }; seq = t.seq }))

-- the item lies inside the reach, and is ordered if it is a span
LiesIn : Reach → Item → Type 0
LiesIn e (entry key seq value) = IsInside (item_reach (entry key seq value)) e
LiesIn e (span t) = IsInside (item_reach (span t)) e × (is_ordered t ≡ true)

item_stays : (e : Reach) (i : Item) → LiesIn e i → within (bounds e.lo e.hi) i ≡ Some i
unfolding LiesIn
item_stays e (entry key seq value) h =
    let held : holds (bounds e.lo e.hi) key ≡ true = and_from _ _ h.lo (key_below key e.hi h.hi) in
    rw held refl
item_stays e (span t) h = ap (option_map span) (span_stays (bounds e.lo e.hi) t h.1 h.0.lo h.0.hi)

restricted_whole : (e : Reach) (c : List Item) → ((i : Item) → Has c i → LiesIn e i) → restricted (bounds e.lo e.hi) c ≡ c
restricted_whole e [] h = refl
restricted_whole e (i ∷ c) h =
    ap (λ o. cons_option o (restricted (bounds e.lo e.hi) c)) (item_stays e i (h i (inl refl)))
    ∙ ap (λ xs. i ∷ xs) (restricted_whole e c (λ j g. h j (inr g)))

span_among : (c : List Item) (t : Tombstone) → Has c (span t) → Has (spans_in c) t
span_among [] t h = absurd h
span_among (entry key seq value ∷ c) t (inl e) = absurd (cc)
span_among (entry key seq value ∷ c) t (inr h) = span_among c t h
span_among (span u ∷ c) t (inl e) = inl (same u t e)
  where
    same : (u t : Tombstone) → span u ≡ span t → u ≡ t
    same u t e = cc
span_among (span u ∷ c) t (inr h) = inr (span_among c t h)

lies_in : (c : List Item) (e : Reach) → IsExtent c (Some e) → HasFragments c → (i : Item) → Has c i → LiesIn e i
unfolding LiesIn
lies_in c e least fragments (entry key seq value) h = least.each (item_reach (entry key seq value)) (Has-map item_reach c (entry key seq value) h)
lies_in c e least fragments (span t) h = (
  least.each (item_reach (span t)) (Has-map item_reach c (span t) h),
  All-at_Has (λ u. IsTrue (is_ordered u)) (spans_in c) t fragments.ordered (span_among c t h),
)

-- an item has keys, so a range around it does
has_keys : (e : Reach) (i : Item) → LiesIn e i → is_below e.lo e.hi ≡ true
unfolding LiesIn
has_keys e (entry key seq value) h = upto_below e.lo key e.hi h.lo (key_below key e.hi h.hi)
has_keys e (span t) h = below_upto e.lo t.range.hi e.hi (upto_below e.lo t.range.lo t.range.hi h.0.lo h.1) h.0.hi

pub all_shown : (c : List Item) (e : Reach) → IsExtent c (Some e) → HasFragments c → view c (bounds e.lo e.hi) 0 ≡ c
all_shown c e least fragments =
    let lies = lies_in c e least fragments in
    let i = Has-from_map item_reach c least.lo.0 least.lo.1 in
    rw (has_keys e i.0 (lies i.0 i.1)) (restricted_whole e c lies)

-- ---- a file that tells its bytes

view-nothing : (r : Bounds) (s : ℕ) → [] ≡ view [] r s
view-nothing r s = none (is_below r.lo r.hi) (s == 0)
  where
    none : (a b : Bool) → ◌≡◌ {A = List Item} [] (cond a (filter_map (within r) (cond b [] [])) [])
    none true true = refl
    none true false = refl
    none false true = refl
    none false false = refl

table_view : (file : List ℕ) (r : Bounds) (s : ℕ) → shown (table_at file r s) ≡ view (file_content file) r s
table_view file r s = of_opened (opened_at file)
  where
    of_points : (points : Result (List Row) ℕ) (spans : List Tombstone) → shown (points >>= λ rows. Ok (view (content_in rows spans) r s)) ≡ view (shown (points >>= λ rows. Ok (content_in rows spans))) r s
    of_points (Ok rows) spans = refl
    of_points (Err at) spans = view-nothing r s

    of_opened : (o : Result Opened ℕ) → shown (o >>= λ o. points_at o.index file >>= λ rows. Ok (view (content_in rows o.spans) r s)) ≡ view (shown (o >>= λ o. points_at o.index file >>= λ rows. Ok (content_in rows o.spans))) r s
    of_opened (Ok o) = of_points (points_at o.index file) o.spans
    of_opened (Err at) = view-nothing r s

table_shows : (t : Table) (file : List ℕ) → t.synthetic ≡ 0 → IsReachOf t (file_content file) → HasFragments (file_content file) → table_content_told (Some file) t ≡ file_content file
table_shows t file own least fragments =
    table_view file (bounds_of t) t.synthetic ∙ ap (view (file_content file) (bounds_of t)) own ∙ all_shown (file_content file) (reach_of t) least fragments

module _ {F : Type 0} (size : F → ℕ) (bytes : F → Option (List ℕ)) where
  one_shows : (t : Table) (file : ℕ × F) (known : Option (List ℕ)) → IsInFile size t file → IsSome known → IsReachOf t (content_told known) → HasFragments (content_told known) → table_content_told known t ≡ content_told known
  one_shows t file None own told least fragments = absurd (false≢true told)
  one_shows t file (Some b) own told least fragments = table_shows t b (ap (λ (x : Table). x.synthetic) own.own) least fragments

  pub tables_show : (tables : List Table) (files : List (ℕ × F)) → Pairwise (IsInFile size) tables files → AreTold bytes files → Pairwise IsReachOf tables (contents bytes files) → AllByRecursion HasFragments (contents bytes files)
      → content_of_tables bytes (with_files tables files) ≡ flat_map (λ o. o) (contents bytes files)
  tables_show [] [] own told least fragments = refl
  tables_show [] (f ∷ fs) own told least fragments = absurd own
  tables_show (t ∷ ts) [] own told least fragments = absurd own
  tables_show (t ∷ ts) (f ∷ fs) own told least fragments =
      λ i. one_shows t f (bytes f.1) own.0 told.0 least.0 fragments.0 i ++ tables_show ts fs own.1 told.1 least.1 fragments.1 i

  told_as : (known : Option (List ℕ)) (c : List Item) → IsSome known → IfSome known (λ b. SameMembers (file_content b) c) → SameMembers (content_told known) c
  told_as None c told h = absurd (false≢true told)
  told_as (Some b) c told h = h

  told_fragments : (known : Option (List ℕ)) → IsSome known → IfSome known (λ b. HasFragments (file_content b)) → HasFragments (content_told known)
  told_fragments None told h = absurd (false≢true told)
  told_fragments (Some b) told h = h

  pub flush_shows : (g : Given F) (table : Table) (file : ℕ × F) → IsFlushed size bytes g table file → IsSome (bytes file.1) → SameMembers (content_of_tables bytes ((table, file.1) ∷ [])) (left_of g (mem_content g))
  flush_shows g table file h told =
      let same = told_as (bytes file.1) (left_of g (mem_content g)) told h.content in
      let fragments = told_fragments (bytes file.1) told h.fragments in
      let least = extent_same (left_of g (mem_content g)) (content_told (bytes file.1)) (Some (reach_of table)) (turned (content_told (bytes file.1)) (left_of g (mem_content g)) same) h.reach in
      let all = tables_show (table ∷ []) (file ∷ []) (h.own, tt) (told, tt) (least, tt) (fragments, tt) in
      subst (λ c. SameMembers c (left_of g (mem_content g))) (sym (all ∙ append-nil (content_told (bytes file.1)))) same
