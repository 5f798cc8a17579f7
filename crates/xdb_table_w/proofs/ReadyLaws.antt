-- All blocks of a table: what is written of them is a table file, and what its extent is made of.
use Rattle.std.proofs.Common.{◌≡◌, ℕ, ◌+◌, ◌^◌, ◌<◌, ◌≤◌, Bool, true, false, cond, eqb, List, [], ◌∷◌, ◌++◌, length, All, Option, Some, None, is_some, ◌||◌, refl, sym, ap, ◌∙◌, subst, arith}
use Rattle.std.specs.List.{AllByRecursion}
use Rattle.std.proofs.lemmas.Bool.{eqb-true, eqb-false, leb-true, and_parts}
use Rattle.std.proofs.lemmas.List.{append-nil, length-append, length-map, nil_from_length}
use Rattle.std.proofs.lemmas.List.Elements.{All-map, recursion_from_All, All-from_recursion}
use Rattle.xdb_key.specs.Bounds.{bounds, successor}
use Rattle.xdb_key.specs.Entries.{reach}
use Rattle.xdb_key.specs.Order.{is_below}
use Rattle.xdb_key.specs.Limits.{IsKey}
use Rattle.xdb_block.specs.declared.kind.BlockKind.TheVariants.{Point, Spans, Index}
use Rattle.xdb_block.specs.Kept.{Draft, last_key}
use Rattle.xdb_block.specs.Rows.{Row, user_part, is_point_key, Follow, AreRows}
use Rattle.xdb_block.specs.Spelling.{IsBlock}
use Rattle.xdb_table_w.specs.declared.seqs.Seqs.{Seqs}
use Rattle.std.specs.Option.{option_map}
use Rattle.xdb_table_w.specs.Content.{content, last_of}
use Rattle.xdb_table_w.specs.Extents.{user, end, numbers, IsExtent, Spread, both, lesser, greater, hull_end}
use Rattle.xdb_table_w.specs.Files.{AreCut, joined, len_of, part, index_from, index, table_bytes, IsTable}
use Rattle.xdb_rangedel.specs.Members.{Has}
use Rattle.xdb_table_w.specs.Halves.{rows_in, points_in, first_of, IsPointBlock, HasEnded, ArePoints, AreSpans, IsHalf, closed, IsReady}
use Rattle.xdb_table_w.proofs.CutLaws.{all_cut, last_cut, open_rows}
use Rattle.xdb_table_w.proofs.FollowLaws.{blocks_follow, last_point, joined-cons}
use Rattle.xdb_table_w.proofs.ExtentLaws.{extent_of, is_extent, extent_ordered}
use Rattle.xdb_table_w.proofs.HalfLaws.{joined_more}
use Rattle.xdb_table_w.proofs.SpreadLaws.{spread_both}

-- ---- closing

abbrev Sized : Draft → Type 0
Sized d = (d.interval ≡ 16) × (1 ≤ length d.rows)

ended_sized : (blocks : List Draft) → AllByRecursion HasEnded blocks → AllByRecursion Sized blocks
ended_sized [] h = tt
ended_sized (d ∷ blocks) h = ((h.0.0, h.0.1.0.0), ended_sized blocks h.1)

sized_more : (blocks : List Draft) (d : Draft) → AllByRecursion Sized blocks → Sized d → AllByRecursion Sized (blocks ++ d ∷ [])
sized_more [] d h e = (e, tt)
sized_more (b ∷ blocks) d h e = (h.0, sized_more blocks d h.1 e)

point_blocks : (blocks : List Draft) → AllByRecursion Sized blocks → AllByRecursion (λ b. Follow Point None b) (rows_in blocks) → AllByRecursion IsPointBlock blocks
point_blocks [] h g = tt
point_blocks (d ∷ blocks) h g = ((h.0.0, (h.0.1, g.0)), point_blocks blocks h.1 g.1)

pub record Closed (blocks : List Draft) (spans : Draft) (first : Option (List ℕ)) (last : List ℕ) (lo hi : Option (List ℕ)) (point_seqs span_seqs : Option Seqs) (points : List Row) : Type 0 where
  pub ready : IsReady blocks spans first last lo hi point_seqs span_seqs
  pub is : joined (rows_in blocks) ≡ points

close_with : (blocks : List Draft) (spans : Draft) (first : Option (List ℕ)) (last : List ℕ) (lo hi : Option (List ℕ)) (point_seqs span_seqs : Option Seqs) (points : List Row) → AllByRecursion Sized blocks → AreCut 16 (rows_in blocks) → joined (rows_in blocks) ≡ points
    → spans.interval ≡ 16 → ArePoints points first last point_seqs → AreSpans spans.rows lo hi span_seqs → 1 ≤ length points + length spans.rows → Closed blocks spans first last lo hi point_seqs span_seqs points
close_with blocks spans first last lo hi point_seqs span_seqs points sized cut is spans_interval are ranges some =
    let follow : Follow Point None (joined (rows_in blocks)) = subst (Follow Point None) (sym is) are.follow in
    record {
      ready = record {
        point_blocks = All-from_recursion IsPointBlock blocks (point_blocks blocks sized (blocks_follow (rows_in blocks) follow));
        cut = cut;
        spans_interval = spans_interval;
        points = subst (λ ps. ArePoints ps first last point_seqs) (sym is) are;
        ranges = ranges;
        some = subst (λ (ps : List Row). 1 ≤ length ps + length spans.rows) (sym is) some;
      };
      is = is;
    }

close_by : (b : Bool) (blocks : List Draft) (block spans : Draft) (first : Option (List ℕ)) (last : List ℕ) (lo hi : Option (List ℕ)) (point_seqs span_seqs : Option Seqs) → eqb (length block.rows) 0 ≡ b → IsHalf blocks block spans first last lo hi point_seqs span_seqs
    → 1 ≤ length (points_in blocks block) + length spans.rows → Closed (cond b blocks (blocks ++ block ∷ [])) spans first last lo hi point_seqs span_seqs (points_in blocks block)
close_by true blocks block spans first last lo hi point_seqs span_seqs e k some =
    let none : block.rows ≡ [] = nil_from_length block.rows (eqb-true (length block.rows) 0 e) in
    let is : joined (rows_in blocks) ≡ points_in blocks block = sym (append-nil (joined (rows_in blocks))) ∙ ap (λ x. joined (rows_in blocks) ++ x) (sym none) in
    close_with blocks spans first last lo hi point_seqs span_seqs (points_in blocks block) (ended_sized blocks k.ended) (all_cut blocks k.ended) is k.spans_interval k.points k.ranges some
close_by false blocks block spans first last lo hi point_seqs span_seqs e k some =
    let ne = eqb-false (length block.rows) 0 e in
    let rows : 1 ≤ length block.rows = omega arith in
    close_with (blocks ++ block ∷ []) spans first last lo hi point_seqs span_seqs (points_in blocks block) (sized_more blocks block (ended_sized blocks k.ended) (k.block_interval, rows)) (last_cut blocks block k.ended (open_rows block.rows rows k.few))
    (joined_more blocks block) k.spans_interval k.points k.ranges some

pub close_all : (blocks : List Draft) (block spans : Draft) (first : Option (List ℕ)) (last : List ℕ) (lo hi : Option (List ℕ)) (point_seqs span_seqs : Option Seqs) (all : List Draft) → IsHalf blocks block spans first last lo hi point_seqs span_seqs → 1 ≤ length (points_in blocks block) + length spans.rows
    → all ≡ closed blocks block → Closed all spans first last lo hi point_seqs span_seqs (points_in blocks block)
close_all blocks block spans first last lo hi point_seqs span_seqs all k some is = rw is (close_by (eqb (length block.rows) 0) blocks block spans first last lo hi point_seqs span_seqs refl k some)

-- ---- the file

pub is_table : (blocks : List Draft) (spans : Draft) (first : Option (List ℕ)) (last : List ℕ) (lo hi : Option (List ℕ)) (point_seqs span_seqs : Option Seqs) (points : List Row) (bytes : List ℕ) → Closed blocks spans first last lo hi point_seqs span_seqs points
    → bytes ≡ table_bytes 16 (rows_in blocks) spans.rows → All (λ d. IsBlock 16 Point d.rows) blocks → (1 ≤ length blocks → IsBlock 16 Index (index 16 (rows_in blocks))) → (AreRows Spans spans.rows → IsBlock 16 Spans spans.rows)
    → len_of 16 spans.rows < 2 ^ 32 → len_of 16 (index 16 (rows_in blocks)) < 2 ^ 32 → IsTable 16 bytes (content points spans.rows)
is_table blocks spans first last lo hi point_seqs span_seqs points bytes c spelled each index_is spans_is spans_len index_len =
    let r = c.ready in
    let count = length-map blocks (λ (d : Draft). d.rows) in
    record {
      blocks = rows_in blocks;
      is_joined = c.is;
      order = subst (Follow Point None) c.is r.points.follow;
      cut = r.cut;
      points = recursion_from_All (IsBlock 16 Point) (rows_in blocks) (All-map (IsBlock 16 Point) (λ (d : Draft). d.rows) blocks each);
      index_block = λ some. index_is (omega arith);
      spans = λ some. spans_is (some, r.ranges.follow);
      spans_len = spans_len;
      index_len = index_len;
      some = subst (λ (ps : List Row). 1 ≤ length ps + length spans.rows) c.is r.some;
      spelled = spelled;
    }

-- ---- the last key

key_behind : (k : List ℕ) (xs ys : List Row) → 1 ≤ length ys → last_key k (xs ++ ys) ≡ last_key [] ys
key_behind k [] [] some = absurd (omega arith)
key_behind k [] (y ∷ ys) some = refl
key_behind k (x ∷ xs) ys some = key_behind x.key xs ys some

abbrev AreSome : List (List Row) → Type 0
AreSome blocks = AllByRecursion (λ b. 1 ≤ length b) blocks

some_joined : (b : List Row) (bs : List (List Row)) → 1 ≤ length b → 1 ≤ length (joined (b ∷ bs))
some_joined b bs some = omega (arith, ap length (joined-cons b bs), length-append b (joined bs))

index_last : (interval at : ℕ) (b : List Row) (bs : List (List Row)) → AreSome (b ∷ bs) → last_key [] (index_from interval at (b ∷ bs)) ≡ last_key [] (joined (b ∷ bs))
index_last interval at b [] some = ap (last_key []) (sym (joined-cons b [] ∙ append-nil b))
index_last interval at b (c ∷ bs) some =
    index_last interval (at + length (part interval b)) c bs some.1 ∙ sym (ap (last_key []) (joined-cons b (c ∷ bs)) ∙ key_behind [] b (joined (c ∷ bs)) (some_joined c bs some.1.0))

hull_by : (xs ys : List Row) → 1 ≤ length xs → 1 ≤ length ys → last_key [] xs ≡ last_key [] ys → hull_end xs ≡ hull_end ys
hull_by [] ys some other is = absurd (omega arith)
hull_by (x ∷ xs) [] some other is = absurd (omega arith)
hull_by (x ∷ xs) (y ∷ ys) some other is = ap (λ k. Some (successor (user_part k))) is

hull_same : (interval : ℕ) (blocks : List (List Row)) → AreSome blocks → hull_end (index interval blocks) ≡ hull_end (joined blocks)
hull_same interval [] some = refl
hull_same interval (b ∷ bs) some = hull_by (index interval (b ∷ bs)) (joined (b ∷ bs)) (omega arith) (some_joined b bs some.0) (index_last interval 0 b bs some)

point_some : (blocks : List Draft) → AllByRecursion IsPointBlock blocks → AreSome (rows_in blocks)
point_some [] h = tt
point_some (d ∷ blocks) h = (h.0.1.0, point_some blocks h.1)

pub blocks_some : (blocks : List Draft) → All IsPointBlock blocks → AreSome (rows_in blocks)
blocks_some blocks h = point_some blocks (recursion_from_All IsPointBlock blocks h)

pub hull_of_index : (blocks : List Draft) → All IsPointBlock blocks → hull_end (index 16 (rows_in blocks)) ≡ hull_end (joined (rows_in blocks))
hull_of_index blocks h = hull_same 16 (rows_in blocks) (blocks_some blocks h)

key_is : (key : List ℕ) → is_point_key key ≡ true → IsKey (user_part key)
key_is key h =
    let parts = and_parts _ _ (and_parts _ _ h).0 in
    (leb-true 1 (length (user_part key)) parts.0, leb-true (length (user_part key)) 1024 parts.1)

last_is_key : (blocks : List (List Row)) → AreSome blocks → Follow Point None (joined blocks) → 1 ≤ length (index 16 blocks) → IsKey (user_part (last_key [] (index 16 blocks)))
last_is_key [] some follow h = absurd (omega arith)
last_is_key (b ∷ bs) some follow h =
    subst (λ k. IsKey (user_part k)) (sym (index_last 16 0 b bs some)) (key_is (last_key [] (joined (b ∷ bs))) (last_point None (joined (b ∷ bs)) follow (some_joined b bs some.0)))

pub index_key : (blocks : List Draft) → All IsPointBlock blocks → Follow Point None (joined (rows_in blocks)) → 1 ≤ length (index 16 (rows_in blocks)) → IsKey (user_part (last_key [] (index 16 (rows_in blocks))))
index_key blocks h follow some = last_is_key (rows_in blocks) (blocks_some blocks h) follow some

-- ---- what the extent is made of

pub spread_of : (points spans : List Row) (first : Option (List ℕ)) (last : List ℕ) (lo hi : Option (List ℕ)) (point_seqs span_seqs : Option Seqs) → ArePoints points first last point_seqs → AreSpans spans lo hi span_seqs
    → Spread (numbers points ++ numbers spans) (both point_seqs span_seqs)
spread_of points spans first last lo hi point_seqs span_seqs p s = spread_both (numbers points) (numbers spans) point_seqs span_seqs p.spread s.spread

-- some numbers are there where rows are
no_numbers : (points spans : List Row) → numbers points ++ numbers spans ≡ [] → 1 ≤ length points + length spans → ⊥
no_numbers [] [] e some = absurd (omega arith)
no_numbers [] (r ∷ rs) e some = cc
no_numbers (r ∷ rs) spans e some = cc

pub seqs_some : (points spans : List Row) (o : Option Seqs) → o ≡ None → Spread (numbers points ++ numbers spans) o → 1 ≤ length points + length spans → ⊥
seqs_some points spans o is h some = no_numbers points spans (subst (λ x. Spread (numbers points ++ numbers spans) x) is h) some

pub lo_some : (points spans : List Row) → 1 ≤ length points + length spans → (is_some (option_map user (first_of points)) || is_some (option_map user (first_of spans))) ≡ true
lo_some [] [] some = absurd (omega arith)
lo_some [] (r ∷ rs) some = refl
lo_some (r ∷ rs) spans some = refl

last_some : (r : Row) (rs : List Row) → is_some (option_map end (last_of (Some r) rs)) ≡ true
last_some r [] = refl
last_some r (s ∷ rs) = last_some s rs

pub hi_some : (points spans : List Row) → 1 ≤ length points + length spans → (is_some (hull_end points) || is_some (option_map end (last_of None spans))) ≡ true
hi_some [] [] some = absurd (omega arith)
hi_some [] (r ∷ rs) some = last_some r rs
hi_some (r ∷ rs) spans some = refl

-- what some numbers lie between rises
between-rises : (lo hi n : ℕ) (ns : List ℕ) → AllByRecursion (λ m. (lo ≤ m) × (m ≤ hi)) ns → Has ns n → lo ≤ hi
between-rises lo hi n [] all has = absurd has
between-rises lo hi n (m ∷ ns) all has =
    let low : lo ≤ m = all.0.0 in
    let high : m ≤ hi = all.0.1 in
    omega arith

pub record Ranged (points spans : List Row) (first hull lo hi : Option (List ℕ)) (s : Seqs) : Type 0 where
  pub some_lo : (is_some first || is_some lo) ≡ true
  pub some_hi : (is_some hull || is_some hi) ≡ true
  pub ordered : is_below (lesser first lo) (greater hull hi) ≡ true
  pub rising : s.lo ≤ s.hi
  pub small : s.hi < 2 ^ 56
  pub extent : IsExtent (content points spans) (reach (bounds (lesser first lo) (greater hull hi)) s.lo s.hi)

pub ranged : (points spans : List Row) (first : Option (List ℕ)) (last : List ℕ) (hull lo hi : Option (List ℕ)) (point_seqs span_seqs : Option Seqs) (s : Seqs) → ArePoints points first last point_seqs → AreSpans spans lo hi span_seqs
    → 1 ≤ length points + length spans → hull ≡ hull_end points → both point_seqs span_seqs ≡ Some s → Ranged points spans first hull lo hi s
ranged points spans first last hull lo hi point_seqs span_seqs s p q some hull_is seqs_are =
    let spread = subst (Spread (numbers points ++ numbers spans)) seqs_are (spread_of points spans first last lo hi point_seqs span_seqs p q) in
    let extent = is_extent points spans s p.follow q.follow some spread in
    let made : Ranged points spans (option_map user (first_of points)) (hull_end points) (option_map user (first_of spans)) (option_map end (last_of None spans)) s = record {
      some_lo = lo_some points spans some;
      some_hi = hi_some points spans some;
      ordered = extent_ordered points spans (extent_of points spans s) q.follow some extent;
      rising = between-rises s.lo s.hi s.lo (numbers points ++ numbers spans) spread.0 spread.1;
      small = spread.3;
      extent = extent;
    } in
    rw (p.first_is, hull_is, q.lo_is, q.hi_is) made
