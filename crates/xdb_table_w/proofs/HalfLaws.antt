-- What a table writer keeps goes on with each point and each span.
use Rattle.std.proofs.Common.{◌≡◌, ℕ, ◌^◌, ◌<◌, ◌≤◌, Bool, true, false, cond, leb, List, [], ◌∷◌, ◌++◌, length, append_assoc, Option, Some, None, refl, sym, ap, ◌∙◌, subst, arith}
use Rattle.std.specs.List.{AllByRecursion}
use Rattle.std.specs.Option.{option_map, option_or}
use Rattle.std.proofs.lemmas.Bool.{leb-true, leb-false}
use Rattle.std.proofs.lemmas.List.{append-nil, map-append}
use Rattle.std.proofs.lemmas.Grind.{flat_map-append}
use Rattle.xdb_block.specs.declared.kind.BlockKind.TheVariants.{Point, Spans}
use Rattle.xdb_block.specs.Kept.{Draft, draft, last_key}
use Rattle.xdb_block.specs.Rows.{Row, row, precedes, suits}
use Rattle.xdb_block.specs.Spelling.{entries}
use Rattle.xdb_table_w.specs.declared.seqs.Seqs.{Seqs}
use Rattle.xdb_table_w.specs.Content.{last_of, goes_behind, lies_behind}
use Rattle.xdb_table_w.specs.Extents.{user, end, number, numbers, widened, Spread}
use Rattle.xdb_table_w.specs.Files.{joined}
use Rattle.xdb_table_w.specs.Halves.{rows_in, points_in, first_of, HasEnded, ArePoints, AreSpans, IsHalf}
use Rattle.xdb_table_w.proofs.CutLaws.{full_rows, ended_more}
use Rattle.xdb_table_w.proofs.FollowLaws.{follow_push, point_follows, span_follows}
use Rattle.xdb_table_w.proofs.SpreadLaws.{spread_more}

-- ---- one more

first_more : (rows : List Row) (r : Row) (first : Option (List ℕ)) → first ≡ option_map user (first_of rows) → option_or first (Some (user r)) ≡ option_map user (first_of (rows ++ r ∷ []))
first_more [] r first is = ap (λ o. option_or o (Some (user r))) is
first_more (q ∷ rows) r first is = ap (λ o. option_or o (Some (user r))) is

last_more : (last : Option Row) (rows : List Row) (r : Row) → last_of last (rows ++ r ∷ []) ≡ Some r
last_more last [] r = refl
last_more last (q ∷ rows) r = last_more (Some q) rows r

numbers_more : (rows : List Row) (r : Row) → numbers (rows ++ r ∷ []) ≡ numbers rows ++ number r ∷ []
numbers_more rows r = map-append number rows (r ∷ [])

key_more : (k : List ℕ) (rows : List Row) (r : Row) → last_key k (rows ++ r ∷ []) ≡ r.key
key_more k [] r = refl
key_more k (q ∷ rows) r = key_more q.key rows r

points_more : (points : List Row) (first : Option (List ℕ)) (last : List ℕ) (seqs : Option Seqs) (r : Row) → number r < 2 ^ 56 → suits Point r ≡ true → goes_behind (last_of None points) r ≡ true → ArePoints points first last seqs
    → ArePoints (points ++ r ∷ []) (option_or first (Some (user r))) r.key (Some (widened seqs (number r)))
points_more points first last seqs r small fits behind k = record {
  follow = follow_push Point None points r k.follow (point_follows (last_of None points) r fits behind);
  first_is = first_more points r first k.first_is;
  last_is = sym (key_more [] points r);
  spread = subst (λ ns. Spread ns (Some (widened seqs (number r)))) (sym (numbers_more points r)) (spread_more (numbers points) seqs (number r) small k.spread);
}

pub spans_more : (spans : List Row) (lo hi : Option (List ℕ)) (seqs : Option Seqs) (r : Row) → number r < 2 ^ 56 → suits Spans r ≡ true → lies_behind (last_of None spans) r ≡ true → AreSpans spans lo hi seqs
    → AreSpans (spans ++ r ∷ []) (option_or lo (Some (user r))) (Some (end r)) (Some (widened seqs (number r)))
spans_more spans lo hi seqs r small fits behind k = record {
  follow = follow_push Spans None spans r k.follow (span_follows (last_of None spans) r fits behind);
  lo_is = first_more spans r lo k.lo_is;
  hi_is = ap (option_map end) (sym (last_more None spans r));
  spread = subst (λ ns. Spread ns (Some (widened seqs (number r)))) (sym (numbers_more spans r)) (spread_more (numbers spans) seqs (number r) small k.spread);
}

-- ---- nothing yet

pub nothing : (blocks : List Draft) (block spans : Draft) → blocks ≡ [] → block ≡ draft 16 [] → spans ≡ draft 16 [] → IsHalf blocks block spans None [] None None None None × (points_in blocks block ≡ [])
nothing blocks block spans no_blocks no_block no_spans =
    let empty : IsHalf [] (draft 16 []) (draft 16 []) None [] None None None None = record {
      ended = tt;
      block_interval = refl;
      spans_interval = refl;
      few = omega arith;
      points = record { follow = tt; first_is = refl; last_is = refl; spread = refl };
      ranges = record { follow = tt; lo_is = refl; hi_is = refl; spread = refl };
    } in
    rw (no_blocks, no_block, no_spans) (empty, refl)

-- ---- a point

pub joined_more : (blocks : List Draft) (d : Draft) → joined (rows_in (blocks ++ d ∷ [])) ≡ joined (rows_in blocks) ++ d.rows
joined_more blocks d =
    ap joined (map-append (λ (x : Draft). x.rows) blocks (d ∷ [])) ∙ flat_map-append (λ (x : List Row). x) (rows_in blocks) (d.rows ∷ []) ∙ ap (λ x. joined (rows_in blocks) ++ x) (append-nil d.rows)

pub record HasPoint (blocks : List Draft) (block spans : Draft) (first : Option (List ℕ)) (last : List ℕ) (lo hi : Option (List ℕ)) (point_seqs span_seqs : Option Seqs) (points : List Row) : Type 0 where
  pub half : IsHalf blocks block spans first last lo hi point_seqs span_seqs
  pub is : points_in blocks block ≡ points

-- the block under way with one row more, which ends or not
pub record Grown (blocks : List Draft) (block spans : Draft) (first : Option (List ℕ)) (last : List ℕ) (lo hi : Option (List ℕ)) (point_seqs span_seqs : Option Seqs) (points : List Row) : Type 0 where
  pub ended : AllByRecursion HasEnded blocks
  pub interval : block.interval ≡ 16
  pub spans_interval : spans.interval ≡ 16
  pub full : 4096 ≤ length (entries 16 block.rows) → HasEnded block
  pub is : points_in blocks block ≡ points
  pub points_are : ArePoints points first last point_seqs
  pub ranges : AreSpans spans.rows lo hi span_seqs

grown : (blocks : List Draft) (block spans : Draft) (first : Option (List ℕ)) (last : List ℕ) (lo hi : Option (List ℕ)) (point_seqs span_seqs : Option Seqs) (r : Row) → number r < 2 ^ 56 → suits Point r ≡ true → goes_behind (last_of None (points_in blocks block)) r ≡ true
    → IsHalf blocks block spans first last lo hi point_seqs span_seqs
    → Grown blocks (draft 16 (block.rows ++ r ∷ [])) spans (option_or first (Some (user r))) r.key lo hi (Some (widened point_seqs (number r))) span_seqs (points_in blocks block ++ r ∷ [])
grown blocks block spans first last lo hi point_seqs span_seqs r small fits behind k = record {
  ended = k.ended;
  interval = refl;
  spans_interval = k.spans_interval;
  full = λ many. (refl, full_rows block.rows r k.few many);
  is = sym (append_assoc (joined (rows_in blocks)) block.rows (r ∷ []));
  points_are = points_more (points_in blocks block) first last point_seqs r small fits behind k.points;
  ranges = k.ranges;
}

-- which way the block went
abbrev pub moved : Bool → List Draft → Draft → List Draft
moved b blocks d = cond b (blocks ++ d ∷ []) blocks

abbrev pub left : Bool → Draft → Draft
left b d = cond b (draft 16 []) d

settled : (b : Bool) (blocks : List Draft) (block spans : Draft) (first : Option (List ℕ)) (last : List ℕ) (lo hi : Option (List ℕ)) (point_seqs span_seqs : Option Seqs) (points : List Row) → leb 4096 (length (entries 16 block.rows)) ≡ b
    → Grown blocks block spans first last lo hi point_seqs span_seqs points → HasPoint (moved b blocks block) (left b block) spans first last lo hi point_seqs span_seqs points
settled true blocks block spans first last lo hi point_seqs span_seqs points e g =
    let is : points_in (blocks ++ block ∷ []) (draft 16 []) ≡ points = append-nil (joined (rows_in (blocks ++ block ∷ []))) ∙ joined_more blocks block ∙ g.is in
    record {
      half = record {
        ended = ended_more blocks block g.ended (g.full (leb-true 4096 (length (entries 16 block.rows)) e));
        block_interval = refl;
        spans_interval = g.spans_interval;
        few = omega arith;
        points = subst (λ ps. ArePoints ps first last point_seqs) (sym is) g.points_are;
        ranges = g.ranges;
      };
      is = is;
    }
settled false blocks block spans first last lo hi point_seqs span_seqs points e g = record {
  half = record {
    ended = g.ended;
    block_interval = g.interval;
    spans_interval = g.spans_interval;
    few = leb-false 4096 (length (entries 16 block.rows)) e;
    points = subst (λ ps. ArePoints ps first last point_seqs) (sym g.is) g.points_are;
    ranges = g.ranges;
  };
  is = g.is;
}

pub point_added : (blocks : List Draft) (block spans : Draft) (first : Option (List ℕ)) (last : List ℕ) (lo hi : Option (List ℕ)) (point_seqs span_seqs : Option Seqs) (r : Row) (blocks' : List Draft) (added block' : Draft) (first' : Option (List ℕ)) (last' : List ℕ) (seq : ℕ) → number r < 2 ^ 56 → suits Point r ≡ true
    → goes_behind (last_of None (points_in blocks block)) r ≡ true → IsHalf blocks block spans first last lo hi point_seqs span_seqs → added ≡ draft block.interval (block.rows ++ r ∷ [])
    → blocks' ≡ moved (leb 4096 (length (entries added.interval added.rows))) blocks added → block' ≡ left (leb 4096 (length (entries added.interval added.rows))) added → first' ≡ option_or first (Some (user r)) → last' ≡ r.key → seq ≡ number r
    → HasPoint blocks' block' spans first' last' lo hi (Some (widened point_seqs seq)) span_seqs (points_in blocks block ++ r ∷ [])
point_added blocks block spans first last lo hi point_seqs span_seqs r blocks' added block' first' last' seq small fits behind k added_is blocks_are block_is first_is last_is seq_is =
    let whole = draft 16 (block.rows ++ r ∷ []) in
    let is : added ≡ whole = added_is ∙ ap (λ n. draft n (block.rows ++ r ∷ [])) k.block_interval in
    let b = leb 4096 (length (entries 16 whole.rows)) in
    let g = grown blocks block spans first last lo hi point_seqs span_seqs r small fits behind k in
    let done = settled b blocks whole spans (option_or first (Some (user r))) r.key lo hi (Some (widened point_seqs (number r))) span_seqs (points_in blocks block ++ r ∷ []) refl g in
    let blocks_is : blocks' ≡ moved b blocks whole = blocks_are ∙ (λ i. moved (leb 4096 (length (entries (is i).interval (is i).rows))) blocks (is i)) in
    let block_is' : block' ≡ left b whole = block_is ∙ (λ i. left (leb 4096 (length (entries (is i).interval (is i).rows))) (is i)) in
    rw (blocks_is, block_is', first_is, last_is, seq_is) done

-- ---- a span

pub span_added : (blocks : List Draft) (block spans : Draft) (first : Option (List ℕ)) (last : List ℕ) (lo hi : Option (List ℕ)) (point_seqs span_seqs : Option Seqs) (r : Row) (spans' : Draft) (lo' hi' : Option (List ℕ)) (seq : ℕ) → number r < 2 ^ 56 → suits Spans r ≡ true → lies_behind (last_of None spans.rows) r ≡ true
    → IsHalf blocks block spans first last lo hi point_seqs span_seqs → spans' ≡ draft spans.interval (spans.rows ++ r ∷ []) → lo' ≡ option_or lo (Some (user r)) → hi' ≡ Some (end r) → seq ≡ number r
    → IsHalf blocks block spans' first last lo' hi' point_seqs (Some (widened span_seqs seq))
span_added blocks block spans first last lo hi point_seqs span_seqs r spans' lo' hi' seq small fits behind k spans_are lo_is hi_is seq_is =
    let done : IsHalf blocks block (draft spans.interval (spans.rows ++ r ∷ [])) first last (option_or lo (Some (user r))) (Some (end r)) point_seqs (Some (widened span_seqs (number r))) = record {
      ended = k.ended;
      block_interval = k.block_interval;
      spans_interval = k.spans_interval;
      few = k.few;
      points = k.points;
      ranges = spans_more spans.rows lo hi span_seqs r small fits behind k.ranges;
    } in
    rw (spans_are, lo_is, hi_is, seq_is) done

-- ---- the tests of order

abbrev pub after_key : Option (List ℕ) → List ℕ → Row → Bool
after_key None last r = true
after_key (Some first) last r = precedes last r.key

tied : (q : Row) (rows : List Row) (r : Row) → goes_behind (last_of (Some q) rows) r ≡ precedes (last_key q.key rows) r.key
tied q [] r = refl
tied q (p ∷ rows) r = tied p rows r

pub behind_is : (points : List Row) (first : Option (List ℕ)) (last : List ℕ) (seqs : Option Seqs) (r : Row) → ArePoints points first last seqs → after_key first last r ≡ goes_behind (last_of None points) r
behind_is [] first last seqs r k = ap (λ o. after_key o last r) k.first_is
behind_is (q ∷ rows) first last seqs r k = ap (λ o. after_key o last r) k.first_is ∙ ap (λ l. precedes l r.key) k.last_is ∙ sym (tied q rows r)

abbrev pub after_span : Option (List ℕ) → List ℕ → Row → Bool
after_span None last r = true
after_span (Some end) last r = lies_behind (Some (row last end)) r

span_tied : (q : Row) (rows : List Row) (r : Row) → after_span (option_map end (last_of (Some q) rows)) (last_key q.key rows) r ≡ lies_behind (last_of (Some q) rows) r
span_tied q [] r = refl
span_tied q (p ∷ rows) r = span_tied p rows r

pub span_behind_is : (spans : List Row) (lo hi : Option (List ℕ)) (seqs : Option Seqs) (last : List ℕ) (r : Row) → last ≡ last_key [] spans → AreSpans spans lo hi seqs → after_span hi last r ≡ lies_behind (last_of None spans) r
span_behind_is [] lo hi seqs last r is k = ap (λ o. after_span o last r) k.hi_is
span_behind_is (q ∷ spans) lo hi seqs last r is k = (λ i. after_span (k.hi_is i) (is i) r) ∙ span_tied q spans r
