-- What is read as a table file is spelled so.
use Rattle.std.proofs.Common.{◌≡◌, ℕ, ◌+◌, ◌-◌, ◌^◌, ◌<◌, ◌≤◌, Bool, true, false, not, ◌&&◌, cond, eqb, List, [], ◌∷◌, ◌++◌, length, drop, Option, Some, None, Result, Ok, Err, refl, sym, ap, ◌∙◌, subst, arith, append_assoc}
use Rattle.std.specs.List.{AllByRecursion}
use Rattle.std.proofs.lemmas.Bool.{and_parts, and_from, eqb-true, leb-true, ltb-true, false≢true}
use Rattle.std.proofs.lemmas.List.{length-append}
use Rattle.std.proofs.lemmas.List.Concat.{flat_map-cons}
use Rattle.std.proofs.lemmas.List.Folds.{drop_split}
use Rattle.xdb_key.proofs.ReadingLaws.{bind_ok}
use Rattle.xdb_key.specs.Entries.{Tombstone}
use Rattle.xdb_key.specs.Reading.{◌>>=◌, AreBytes}
use Rattle.xdb_block.specs.declared.kind.BlockKind.{BlockKind}
use Rattle.xdb_block.specs.declared.kind.BlockKind.TheVariants as kinds
use Rattle.xdb_block.specs.Kept.{last_key}
use Rattle.xdb_block.specs.Rows.{Row, row, precedes, is_handle, suits, Follow}
use Rattle.xdb_block.specs.Spelling.{block_bytes, IsBlock}
use Rattle.xdb_table_w.proofs.FollowLaws.{joined-cons}
use Rattle.xdb_table_w.specs.Content.{last_of}
use Rattle.xdb_table_w.specs.Files.{AreCut, joined, part as part_bytes, part_of, place_of, len_of, parts, handle as handle_bytes, index_from, index, footer, table_bytes}
use Rattle.xdb_table_r.specs.declared.part.Part.{Part}
use Rattle.xdb_table_r.specs.declared.part.Layout.{Layout}
use Rattle.xdb_table_r.specs.Parts.{behind, part_at, rows_at, handle, follows as follows_at, follow_on}
use Rattle.xdb_table_r.specs.Opening.{points_end, is_laid, footer_at, tiled, index_at, tombstones, spans_at, opened, opened_at}
use Rattle.xdb_table_r.specs.Points.{ends_well, is_behind, stands, standing, block_of, is_more, points_from, points_at}
use Rattle.xdb_table_r.specs.Grammar.{IsTableOf}
use Rattle.xdb_table_r.proofs.AgainLaws.{length-part, some_bytes}
use Rattle.xdb_table_r.proofs.OpeningLaws.{not_zero}
use Rattle.xdb_table_r.proofs.RowLaws.{same-tells, all_suit}
use Rattle.xdb_table_r.proofs.TakenLaws.{TakesPart, part_takes, handle_takes, TakesFooter, footer_takes}

abbrev done : {A : Type 0} → A → Result A ℕ
done x = Ok x

ok_is : {A : Type 0} (x y : A) → done x ≡ done y → x ≡ y
ok_is x y e = cc

chosen_ok : {A : Type 0} (b : Bool) (x y : A) (at : ℕ) → cond b (done x) (Err at) ≡ Ok y → (b ≡ true) × (x ≡ y)
chosen_ok true x y at e = (refl, ok_is x y e)
chosen_ok false x y at e = absurd cc

-- ---- rows behind rows

-- the last row before has the key of the index row before
abbrev Tied : Option Row → Option Row → Type 0
Tied None last = last ≡ None
Tied (Some q) None = ⊥
Tied (Some q) (Some l) = l.key ≡ q.key

starts_behind : (q last : Option Row) (b : List Row) → Tied q last → is_behind q b ≡ true → Follow kinds.Point None b → Follow kinds.Point last b
starts_behind q last [] tied behind_is h = tt
starts_behind None last (r ∷ rs) tied behind_is h = subst (λ o. Follow kinds.Point o (r ∷ rs)) (sym tied) h
starts_behind (Some q) None (r ∷ rs) tied behind_is h = absurd tied
starts_behind (Some q) (Some l) (r ∷ rs) tied behind_is h = (and_from _ _ (and_from _ _ h.0 (ap (λ k. precedes k r.key) tied ∙ behind_is)) refl, h.1)

follow_join : (last : Option Row) (xs ys : List Row) → Follow kinds.Point last xs → Follow kinds.Point (last_of last xs) ys → Follow kinds.Point last (xs ++ ys)
follow_join last [] ys h g = g
follow_join last (x ∷ xs) ys h g = (h.0, follow_join (Some x) xs ys h.1 g)

tied_last : (last : Option Row) (b : List Row) (i : Row) → 1 ≤ length b → last_key [] b ≡ i.key → Tied (Some i) (last_of last b)
tied_last last [] i some is = absurd (omega arith)
tied_last last (r ∷ []) i some is = is
tied_last last (r ∷ s ∷ rs) i some is = tied_last (Some r) (s ∷ rs) i (omega arith) is

cut_more : (n : ℕ) (b : List Row) (bs : List (List Row)) → 1 ≤ length b → ends_well (is_more (index_from 16 n bs)) b ≡ true → AreCut 16 bs → AreCut 16 (b ∷ bs)
cut_more n b [] some h rest = (some, ltb-true _ _ (and_parts _ _ h).0)
cut_more n b (c ∷ bs) some h rest =
    let tests = and_parts _ _ h in
    (((some, ltb-true _ _ tests.0), leb-true _ _ tests.1), rest)

-- ---- point blocks

-- what was read of a point block
record TakesBlock (q : Option Row) (more : Bool) (i : Row) (file : List ℕ) (rows : List Row) : Type 0 where
  part : TakesPart kinds.Point (handle i) file rows
  key : last_key [] rows ≡ i.key
  first : is_behind q rows ≡ true
  ends : ends_well more rows ≡ true

block_takes : (q : Option Row) (more : Bool) (i : Row) (file rows : List _) → AreBytes file → block_of q more i file ≡ Ok rows → TakesBlock q more i file rows
unfolding block_of
block_takes q more i file rows fits e =
    let a = bind_ok (part_at kinds.Point (handle i) file) (standing q more i) e in
    let c = chosen_ok (stands q more i a.0) a.0 rows (handle i).at a.2 in
    let tests = and_parts _ _ c.0 in
    let firsts = and_parts _ _ tests.0 in
    subst (TakesBlock q more i file) c.1 (record {
      part = part_takes kinds.Point (handle i) file a.0 fits a.1;
      key = same-tells _ _ firsts.0;
      first = firsts.1;
      ends = tests.1;
    })

points_parts : (q : Option Row) (i : Row) (is : List Row) (file : List ℕ) (points : List Row) → points_from q (i ∷ is) file ≡ Ok points
    → (rows : List Row) × (rest : List Row) × (block_of q (is_more is) i file ≡ Ok rows) × (points_from (Some i) is file ≡ Ok rest) × (rows ++ rest ≡ points)
unfolding points_from
points_parts q i is file points e =
    let a = bind_ok (block_of q (is_more is) i file) (λ rows. points_from (Some i) is file >>= λ rest. Ok (rows ++ rest)) e in
    let b = bind_ok (points_from (Some i) is file) (λ rest. Ok (a.0 ++ rest)) a.2 in
    (a.0, b.0, a.1, b.1, ok_is (a.0 ++ b.0) points b.2)

no_points : (q : Option Row) (file : List ℕ) (points : List Row) → points_from q [] file ≡ Ok points → [] ≡ points
unfolding points_from
no_points q file points e = ok_is [] points e

-- point blocks from a place up to the end, which the index rows name
record TakesPoints (at end : ℕ) (q : Option Row) (rows : List Row) (file : List ℕ) (points : List Row) : Type 0 where
  blocks : List (List Row)
  are_joined : joined blocks ≡ points
  order : (last : Option Row) → Tied q last → Follow kinds.Point last (joined blocks)
  cut : AreCut 16 blocks
  each : AllByRecursion (IsBlock 16 kinds.Point) blocks
  listed : index_from 16 at blocks ≡ rows
  ends : at + length (parts 16 blocks) ≡ end
  spelled : drop at file ≡ parts 16 blocks ++ drop end file

take_one : (at end : ℕ) (q : Option Row) (i : Row) (is : List Row) (file : List ℕ) (rows rest : List Row) → TakesBlock q (is_more is) i file rows → i.value ≡ handle_bytes (handle i).at (handle i).len → follows_at at end (handle i) ≡ true
    → TakesPoints (behind (handle i)) end (Some i) is file rest → TakesPoints at end q (i ∷ is) file (rows ++ rest)
take_one at end q i is file rows rest b value place t =
    let p = handle i in
    let len = length (block_bytes 16 rows) in
    let begins : p.at ≡ at = eqb-true p.at at (and_parts _ _ (and_parts _ _ place).0).0 in
    let size = length-part rows in
    let len_is = b.part.len in
    let next : behind p ≡ at + length (part_bytes 16 rows) = omega arith in
    let more : is_more is ≡ is_more (index_from 16 (behind p) t.blocks) = ap is_more (sym t.listed) in
    let all = flat_map-cons (part_bytes 16) rows t.blocks in
    let total = ap length all ∙ length-append (part_bytes 16 rows) (parts 16 t.blocks) in
    let t_ends = t.ends in
    let here : i ≡ row (last_key [] rows) (handle_bytes at len) = λ j. row (sym b.key j) ((value ∙ (λ k. handle_bytes (begins k) (len_is k))) j) in
    let split = ap (λ n. drop n file) (sym begins) ∙ drop_split file p.at (behind p) (omega arith) ∙ (λ j. b.part.spelled j ++ t.spelled j) in
    record {
      blocks = rows ∷ t.blocks;
      are_joined = joined-cons rows t.blocks ∙ ap (λ x. rows ++ x) t.are_joined;
      order = λ last tied.
          let first = starts_behind q last rows tied b.first b.part.block.each in
          subst (Follow kinds.Point last) (sym (joined-cons rows t.blocks)) (follow_join last rows (joined t.blocks) first (t.order (last_of last rows) (tied_last last rows i b.part.block.some b.key)));
      cut = cut_more (behind p) rows t.blocks b.part.block.some (ap (λ m. ends_well m rows) (sym more) ∙ b.ends) t.cut;
      each = (b.part.block, t.each);
      listed = λ j. sym here j ∷ (ap (λ n. index_from 16 n t.blocks) (sym next) ∙ t.listed) j;
      ends = omega arith;
      spelled = split ∙ sym (append_assoc (part_bytes 16 rows) (parts 16 t.blocks) (drop end file)) ∙ ap (λ x. x ++ drop end file) (sym all);
    }

points_take : (at end : ℕ) (q : Option Row) (rows : List Row) (file : List ℕ) (points : List Row) → AreBytes file → AllByRecursion (λ i. AreBytes i.value) rows → AllByRecursion (λ i. is_handle i.value ≡ true) rows → follow_on at end rows ≡ true
    → points_from q rows file ≡ Ok points → TakesPoints at end q rows file points
points_take at end q [] file points fits values handles follow e = subst (TakesPoints at end q [] file) (no_points q file points e) (record {
  blocks = [];
  are_joined = refl;
  order = λ last tied. tt;
  cut = tt;
  each = tt;
  listed = refl;
  ends = let same = eqb-true at end follow in omega arith;
  spelled = ap (λ n. drop n file) (eqb-true at end follow);
})
points_take at end q (i ∷ is) file points fits values handles follow e =
    let x = points_parts q i is file points e in
    let tests = and_parts _ _ follow in
    let rest = points_take (behind (handle i)) end (Some i) is file x.1 fits values.1 handles.1 tests.1 x.3 in
    subst (TakesPoints at end q (i ∷ is) file) x.4 (take_one at end q i is file x.0 x.1 (block_takes q (is_more is) i file x.0 fits x.2) (handle_takes i values.0 handles.0) tests.0 rest)

-- ---- blocks that may be left out

record TakesRows (kind : BlockKind) (p : Part) (file : List ℕ) (rows : List Row) : Type 0 where
  block : 1 ≤ length rows → IsBlock 16 kind rows
  len : p.len ≡ len_of 16 rows
  values : AllByRecursion (λ r. AreBytes r.value) rows
  spelled : drop p.at file ≡ part_of 16 rows ++ drop (p.at + length (part_of 16 rows)) file

some_rows : (kind : BlockKind) (p : Part) (file : List ℕ) (rows : List Row) → TakesPart kind p file rows → TakesRows kind p file rows
some_rows kind p file [] t = let some = t.block.some in absurd (omega arith)
some_rows kind p file (r ∷ rs) t =
    let size = length-part (r ∷ rs) in
    let len = t.len in
    let next : behind p ≡ p.at + length (part_bytes 16 (r ∷ rs)) = omega arith in
    record {
      block = λ some. t.block;
      len = t.len;
      values = t.values;
      spelled = drop_split file p.at (behind p) (omega arith) ∙ (λ j. t.spelled j ++ drop (next j) file);
    }

rows_by : (b : Bool) (kind : BlockKind) (p : Part) (file : List ℕ) (rows : List Row) → AreBytes file → eqb p.len 0 ≡ b → cond b (done []) (part_at kind p file) ≡ Ok rows → TakesRows kind p file rows
rows_by true kind p file rows fits none e = subst (TakesRows kind p file) (ok_is [] rows e) (record {
  block = λ some. absurd (omega arith);
  len = eqb-true p.len 0 none;
  values = tt;
  spelled = let same : p.at ≡ p.at + 0 = omega arith in ap (λ n. drop n file) same;
})
rows_by false kind p file rows fits none e = some_rows kind p file rows (part_takes kind p file rows fits e)

rows_take : (kind : BlockKind) (p : Part) (file : List ℕ) (rows : List Row) → AreBytes file → rows_at kind p file ≡ Ok rows → TakesRows kind p file rows
rows_take kind p file rows fits e = rows_by (eqb p.len 0) kind p file rows fits refl e

-- ---- where the blocks lie

record Lies (end p : ℕ) (l : Layout) (spans rows : List Row) : Type 0 where
  span_at : l.spans.at ≡ place_of p spans
  index_at : l.index.at ≡ place_of (p + length (part_of 16 spans)) rows
  ends : p + length (part_of 16 spans) + length (part_of 16 rows) ≡ end
  some : 1 ≤ length rows + length spans

by_len : (end : ℕ) (l : Layout) (a b : Bool) → eqb l.index.len 0 ≡ a → eqb l.spans.len 0 ≡ b → is_laid end l ≡ true
    → cond a (eqb l.index.at 0 && not b && eqb l.spans.at 0 && eqb (behind l.spans) end) (eqb (behind l.index) end && cond b (eqb l.spans.at 0) (eqb (behind l.spans) l.index.at)) ≡ true
by_len end l a b ea eb h = (λ j. cond (sym ea j) (eqb l.index.at 0 && not (sym eb j) && eqb l.spans.at 0 && eqb (behind l.spans) end) (eqb (behind l.index) end && cond (sym eb j) (eqb l.spans.at 0) (eqb (behind l.spans) l.index.at))) ∙ h

is_none : (n : ℕ) → n ≡ 0 → eqb n 0 ≡ true
is_none n e = ap (λ m. eqb m 0) e

is_some : (n : ℕ) (r : Row) (rs : List Row) → n ≡ len_of 16 (r ∷ rs) → eqb n 0 ≡ false
is_some n r rs e = not_zero n (let some = some_bytes (r ∷ rs) in omega arith)

end_of : (l : Layout) (b : Bool) → eqb l.spans.len 0 ≡ b → points_end l ≡ cond b l.index.at l.spans.at
end_of l b e = ap (λ t. cond t l.index.at l.spans.at) e

lies_in : (end : ℕ) (l : Layout) (spans rows : List Row) → l.spans.len ≡ len_of 16 spans → l.index.len ≡ len_of 16 rows → is_laid end l ≡ true → Lies end (points_end l) l spans rows
lies_in end l [] [] s x laid =
    let h = by_len end l true true (is_none l.index.len x) (is_none l.spans.len s) laid in
    absurd (false≢true (and_parts _ _ (and_parts _ _ (and_parts _ _ h).0).0).1)
lies_in end l (r ∷ rs) [] s x laid =
    let h = by_len end l true false (is_none l.index.len x) (is_some l.spans.len r rs s) laid in
    let size = length-part (r ∷ rs) in
    let p : points_end l ≡ l.spans.at = end_of l false (is_some l.spans.len r rs s) in
    let tests = and_parts _ _ h in
    let begins = and_parts _ _ tests.0 in
    let no_index : l.index.at ≡ 0 = eqb-true _ _ (and_parts _ _ begins.0).0 in
    let ends_at : behind l.spans ≡ end = eqb-true _ _ tests.1 in
    record { span_at = sym p; index_at = no_index; ends = omega arith; some = omega arith }
lies_in end l [] (y ∷ ys) s x laid =
    let h = by_len end l false true (is_some l.index.len y ys x) (is_none l.spans.len s) laid in
    let size = length-part (y ∷ ys) in
    let p : points_end l ≡ l.index.at = end_of l true (is_none l.spans.len s) in
    let tests = and_parts _ _ h in
    let ends_at : behind l.index ≡ end = eqb-true _ _ tests.0 in
    record { span_at = eqb-true _ _ tests.1; index_at = omega arith; ends = omega arith; some = omega arith }
lies_in end l (r ∷ rs) (y ∷ ys) s x laid =
    let h = by_len end l false false (is_some l.index.len y ys x) (is_some l.spans.len r rs s) laid in
    let first = length-part (r ∷ rs) in
    let size = length-part (y ∷ ys) in
    let p : points_end l ≡ l.spans.at = end_of l false (is_some l.spans.len r rs s) in
    let tests = and_parts _ _ h in
    let ends_at : behind l.index ≡ end = eqb-true _ _ tests.0 in
    let next : behind l.spans ≡ l.index.at = eqb-true _ _ tests.1 in
    record { span_at = sym p; index_at = omega arith; ends = omega arith; some = omega arith }

-- a block behind a place is there, or left out
behind_place : (p at : ℕ) (file : List ℕ) (rows : List Row) → at ≡ place_of p rows → drop at file ≡ part_of 16 rows ++ drop (at + length (part_of 16 rows)) file → drop p file ≡ part_of 16 rows ++ drop (p + length (part_of 16 rows)) file
behind_place p at file [] is e = let same : p ≡ p + 0 = omega arith in ap (λ n. drop n file) same
behind_place p at file (r ∷ rs) is e = subst (λ n. drop n file ≡ part_of 16 (r ∷ rs) ++ drop (n + length (part_of 16 (r ∷ rs))) file) is e

-- ---- the file

record Opens (file : List ℕ) (ts : List Tombstone) (rows : List Row) (end : ℕ) : Type 0 where
  l : Layout
  spans : List Row
  foot : TakesFooter file l
  index_rows : TakesRows kinds.Index l.index file rows
  span_rows : TakesRows kinds.Spans l.spans file spans
  are_spans : tombstones spans ≡ ts
  follow : follow_on 0 (points_end l) rows ≡ true
  end_is : points_end l ≡ end

index_takes : (l : Layout) (file : List ℕ) (rows : List Row) → index_at l file ≡ Ok rows → (rows_at kinds.Index l.index file ≡ Ok rows) × (follow_on 0 (points_end l) rows ≡ true)
unfolding index_at
index_takes l file rows e =
    let a = bind_ok (rows_at kinds.Index l.index file) (tiled l.index.at (points_end l)) e in
    let c = chosen_ok (follow_on 0 (points_end l) a.0) a.0 rows l.index.at a.2 in
    (a.1 ∙ ap Ok c.1, ap (follow_on 0 (points_end l)) (sym c.1) ∙ c.0)

spans_take : (p : Part) (file : List ℕ) (ts : List Tombstone) → spans_at p file ≡ Ok ts → (spans : List Row) × (rows_at kinds.Spans p file ≡ Ok spans) × (tombstones spans ≡ ts)
unfolding spans_at
spans_take p file ts e =
    let a = bind_ok (rows_at kinds.Spans p file) (λ rows. Ok (tombstones rows)) e in
    (a.0, a.1, ok_is (tombstones a.0) ts a.2)

opens_by : (file : List ℕ) (ts us : List Tombstone) (rows others : List Row) (end : ℕ) (l : Layout) → AreBytes file → footer_at file ≡ Ok l → index_at l file ≡ Ok others → spans_at l.spans file ≡ Ok us → opened us others (points_end l) ≡ opened ts rows end → Opens file ts rows end
opens_by file ts us rows others end l fits foot of_index of_spans same =
    let i = index_takes l file others of_index in
    let s = spans_take l.spans file us of_spans in
    let are : others ≡ rows = ap (λ o. o.index) same in
    let ts_are : us ≡ ts = ap (λ o. o.spans) same in
    let end_is : points_end l ≡ end = ap (λ o. o.end) same in
    record {
      l = l;
      spans = s.0;
      foot = footer_takes file l fits foot;
      index_rows = subst (TakesRows kinds.Index l.index file) are (rows_take kinds.Index l.index file others fits i.0);
      span_rows = rows_take kinds.Spans l.spans file s.0 fits s.1;
      are_spans = s.2 ∙ ts_are;
      follow = ap (follow_on 0 (points_end l)) (sym are) ∙ i.1;
      end_is = end_is;
    }

opens : (file : List ℕ) (ts : List Tombstone) (rows : List Row) (end : ℕ) → AreBytes file → opened_at file ≡ Ok (opened ts rows end) → Opens file ts rows end
unfolding opened_at
opens file ts rows end fits e =
    let a = bind_ok (footer_at file) (λ l. index_at l file >>= λ index. spans_at l.spans file >>= λ spans. Ok (opened spans index (points_end l))) e in
    let l = a.0 in
    let b = bind_ok (index_at l file) (λ index. spans_at l.spans file >>= λ spans. Ok (opened spans index (points_end l))) a.2 in
    let c = bind_ok (spans_at l.spans file) (λ spans. Ok (opened spans b.0 (points_end l))) b.2 in
    opens_by file ts c.0 rows b.0 end l fits a.1 b.1 c.1 (ok_is (opened c.0 b.0 (points_end l)) (opened ts rows end) c.2)

handles_in : (last : Option Row) (rows : List Row) → AllByRecursion (λ r. suits kinds.Index r ≡ true) rows → AllByRecursion (λ i. is_handle i.value ≡ true) rows
handles_in last [] h = tt
handles_in last (r ∷ rs) h = ((and_parts _ _ h.0).1, handles_in last rs h.1)

index_handles : (rows : List Row) → (1 ≤ length rows → IsBlock 16 kinds.Index rows) → AllByRecursion (λ i. is_handle i.value ≡ true) rows
index_handles [] h = tt
index_handles (r ∷ rs) h = handles_in None (r ∷ rs) (all_suit kinds.Index None (r ∷ rs) (h (omega arith)).each)

has_points : (at : ℕ) (blocks : List (List Row)) (rows points : List Row) → AllByRecursion (IsBlock 16 kinds.Point) blocks → index_from 16 at blocks ≡ rows → joined blocks ≡ points → 1 ≤ length rows → 1 ≤ length points
has_points at [] rows points each listed are_joined some = let none = ap length listed in absurd (omega arith)
has_points at (b ∷ bs) rows points each listed are_joined some =
    let size = ap length (sym are_joined ∙ joined-cons b bs) ∙ length-append b (joined bs) in
    let one = each.0.some in
    omega arith

rows_there : (at : ℕ) (blocks : List (List Row)) (rows : List Row) → index_from 16 at blocks ≡ rows → 1 ≤ length blocks → 1 ≤ length rows
rows_there at [] rows listed some = absurd (omega arith)
rows_there at (b ∷ bs) rows listed some = let size = ap length listed in omega arith

some_there : (blocks : List (List Row)) (rows points : List Row) (n : ℕ) → AllByRecursion (IsBlock 16 kinds.Point) blocks → index_from 16 0 blocks ≡ rows → joined blocks ≡ points → 1 ≤ length rows + n → 1 ≤ length points + n
some_there blocks [] points n each listed are_joined some = omega arith
some_there blocks (r ∷ rs) points n each listed are_joined some =
    let there = has_points 0 blocks (r ∷ rs) points each listed are_joined (omega arith) in
    omega arith

spelled_by : (file : List ℕ) (blocks : List (List Row)) (spans rows : List Row) (p : ℕ) (l : Layout) → index_from 16 0 blocks ≡ rows → p ≡ length (parts 16 blocks) → l.spans.at ≡ place_of p spans → l.index.at ≡ place_of (p + length (part_of 16 spans)) rows
    → l.spans.len ≡ len_of 16 spans → l.index.len ≡ len_of 16 rows → file ≡ parts 16 blocks ++ (part_of 16 spans ++ (part_of 16 rows ++ footer l.spans.at l.spans.len l.index.at l.index.len)) → file ≡ table_bytes 16 blocks spans
spelled_by file blocks spans rows p l listed count span_at index_at span_len index_len all =
    let front = parts 16 blocks in
    let middle = part_of 16 spans in
    let back = part_of 16 (index 16 blocks) in
    let at = length front in
    let foot = footer (place_of at spans) (len_of 16 spans) (place_of (at + length middle) (index 16 blocks)) (len_of 16 (index 16 blocks)) in
    let first : l.spans.at ≡ place_of at spans = span_at ∙ ap (λ k. place_of k spans) count in
    let third : l.index.at ≡ place_of (at + length middle) (index 16 blocks) = index_at ∙ (λ k. place_of (count k + length middle) (sym listed k)) in
    let fourth : l.index.len ≡ len_of 16 (index 16 blocks) = index_len ∙ ap (len_of 16) (sym listed) in
    all ∙ (λ j. front ++ (middle ++ (part_of 16 (sym listed j) ++ footer (first j) (span_len j) (third j) (fourth j))))
    ∙ sym (append_assoc (front ++ middle) back foot ∙ append_assoc front middle (back ++ foot))

pub spelled_so : (file : List ℕ) (ts : List Tombstone) (rows : List Row) (end : ℕ) (points : List Row) → AreBytes file → opened_at file ≡ Ok (opened ts rows end) → points_at rows file ≡ Ok points → IsTableOf file points ts
spelled_so file ts rows end points fits e f =
    let o = opens file ts rows end fits e in
    let l = o.l in
    let spans = o.spans in
    let p = points_end l in
    let t = points_take 0 p None rows file points fits o.index_rows.values (index_handles rows o.index_rows.block) o.follow f in
    let lies = lies_in (length file - 40) l spans rows o.span_rows.len o.index_rows.len o.foot.laid in
    let m = p + length (part_of 16 spans) in
    let n = m + length (part_of 16 rows) in
    let middle : drop p file ≡ part_of 16 spans ++ drop m file = behind_place p l.spans.at file spans lies.span_at o.span_rows.spelled in
    let back : drop m file ≡ part_of 16 rows ++ drop n file = behind_place m l.index.at file rows lies.index_at o.index_rows.spelled in
    let foot : drop n file ≡ footer l.spans.at l.spans.len l.index.at l.index.len = ap (λ k. drop k file) lies.ends ∙ o.foot.spelled in
    let count : p ≡ length (parts 16 t.blocks) = sym t.ends ∙ omega arith in
    let all : file ≡ parts 16 t.blocks ++ (part_of 16 spans ++ (part_of 16 rows ++ footer l.spans.at l.spans.len l.index.at l.index.len)) =
    t.spelled ∙ ap (λ x. parts 16 t.blocks ++ x) (middle ∙ ap (λ x. part_of 16 spans ++ x) (back ∙ ap (λ x. part_of 16 rows ++ x) foot)) in
    record {
      spans = spans;
      are_spans = o.are_spans;
      table = record {
        blocks = t.blocks;
        is_joined = t.are_joined;
        order = subst (Follow kinds.Point None) t.are_joined (t.order None refl);
        cut = t.cut;
        points = t.each;
        index_block = λ some. subst (IsBlock 16 kinds.Index) (sym t.listed) (o.index_rows.block (rows_there 0 t.blocks rows t.listed some));
        spans = o.span_rows.block;
        spans_len = subst (λ k. k < 2 ^ 32) o.span_rows.len o.foot.spans;
        index_len = subst (λ k. k < 2 ^ 32) (o.index_rows.len ∙ ap (len_of 16) (sym t.listed)) o.foot.index;
        some = some_there t.blocks rows points (length spans) t.each t.listed t.are_joined lies.some;
        spelled = spelled_by file t.blocks spans rows p l t.listed count lies.span_at lies.index_at o.span_rows.len o.index_rows.len all;
      };
    }
