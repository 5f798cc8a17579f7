-- What is spelled as a table file is read again.
use Rattle.std.proofs.Common.{◌≡◌, ℕ, ◌+◌, ◌-◌, ◌^◌, ◌<◌, ◌≤◌, Bool, true, false, not, ◌&&◌, cond, eqb, List, [], ◌∷◌, ◌++◌, length, take, get_or, Option, Some, None, Ok, Err, refl, sym, ap, ◌∙◌, subst, arith, append_assoc}
use Rattle.std.specs.List.{AllByRecursion, slice_range, flat_map}
use Rattle.std.specs.Cmp.{tied_itself}
use Rattle.std.specs.Ordering.{is_eq}
use Rattle.std.proofs.lemmas.Bool.{and_parts, and_from, lt-ltb, le-leb, eq-eqb}
use Rattle.std.proofs.lemmas.List.{append-nil, length-append, take_at, drop_at}
use Rattle.std.proofs.lemmas.List.Concat.{flat_map-cons}
use Rattle.byteorder.specs.Endian.{little_bytes}
use Rattle.byteorder.specs.Numbers.{length-bytes_low_first}
use Rattle.xdb_key.proofs.OrderLaws.{key_total}
use Rattle.xdb_key.proofs.VarintLaws.{varint_at-again}
use Rattle.xdb_key.specs.Reading.{◌>>=◌}
use Rattle.xdb_key.specs.Varint.{varint, varint_at}
use Rattle.xdb_block.proofs.BlockLaws.{block_again}
use Rattle.xdb_block.specs.declared.kind.BlockKind.{BlockKind}
use Rattle.xdb_block.specs.declared.kind.BlockKind.TheVariants as kinds
use Rattle.xdb_block.specs.Kept.{last_key}
use Rattle.xdb_block.specs.Reading.{block_at}
use Rattle.xdb_block.specs.Rows.{Row, row, precedes, Follow}
use Rattle.xdb_block.specs.Spelling.{entries, offsets, restart_bytes, block_bytes, IsBlock}
use Rattle.xdb_table_w.proofs.FollowLaws.{follow_append, joined-cons}
use Rattle.xdb_table_w.specs.Content.{last_of}
use Rattle.xdb_table_w.specs.Files.{AreCut, joined, part as part_bytes, parts, handle as handle_bytes, index_from}
use Rattle.xdb_table_r.specs.declared.part.Part.{Part}
use Rattle.xdb_table_r.specs.Parts.{part, behind, in_block, typed_at, part_at, numbers_in, handle, follows as follows_at, follow_on}
use Rattle.xdb_table_r.specs.Points.{ends_well, is_behind, stands, block_of, is_more, points_from, then_rows}
use Rattle.xdb_table_r.proofs.PointLaws.{block_is}
use Rattle.xdb_table_r.proofs.GoneLaws.{step, no_more}
use Rattle.xdb_table_r.proofs.OpeningLaws.{not_zero}

-- ---- a block at its place

pub range_mid : (pre mid post : List ℕ) (from to : ℕ) → length pre ≡ from → from + length mid ≡ to → slice_range (pre ++ (mid ++ post)) from to ≡ mid
range_mid pre mid post from to starts ends =
    ap (take (to - from)) (drop_at pre (mid ++ post) from (omega arith)) ∙ take_at mid post (to - from) (omega arith)

last_at : (xs : List ℕ) (x d : ℕ) → get_or (xs ++ x ∷ []) (length xs) d ≡ x
last_at [] x d = refl
last_at (y ∷ ys) x d = last_at ys x d

pub part_reads : (kind : BlockKind) (rows : List Row) (file : List ℕ) (at : ℕ) → IsBlock 16 kind rows → slice_range file at (behind (part at (length (block_bytes 16 rows)))) ≡ part_bytes 16 rows → part_at kind (part at (length (block_bytes 16 rows))) file ≡ Ok rows
part_reads kind rows file at h range =
    let bytes = block_bytes 16 rows in
    let p : Part = part at (length bytes) in
    let front_is : take (length bytes) (bytes ++ 0 ∷ []) ≡ bytes = take_at bytes (0 ∷ []) (length bytes) (omega arith) in
    ap (typed_at kind p) range
    ∙ ap (λ n. cond (eqb n 0) (in_block at (block_at 16 kind (take (length bytes) (bytes ++ 0 ∷ [])))) (Err at)) (last_at bytes 0 1)
    ∙ ap (λ x. in_block at (block_at 16 kind x)) front_is
    ∙ ap (in_block at) (block_again 16 kind rows (omega arith) h)

pub some_bytes : (rows : List Row) → 4 ≤ length (block_bytes 16 rows)
some_bytes rows =
    let os = offsets 16 rows in
    let count : length (little_bytes 4 (length os)) ≡ 4 = length-bytes_low_first 0 4 (length os) in
    let a = length-append (entries 16 rows) (restart_bytes os) in
    let b = length-append (flat_map (little_bytes 4) os) (little_bytes 4 (length os)) in
    omega arith

pub length-part : (rows : List Row) → length (part_bytes 16 rows) ≡ length (block_bytes 16 rows) + 1
length-part rows = length-append (block_bytes 16 rows) (0 ∷ [])

length-parts : (b : List Row) (bs : List (List Row)) → length (parts 16 (b ∷ bs)) ≡ length (part_bytes 16 b) + length (parts 16 bs)
length-parts b bs = ap length (flat_map-cons (part_bytes 16) b bs) ∙ length-append (part_bytes 16 b) (parts 16 bs)

-- ---- handles

pub handle_reads : (k : List ℕ) (at len : ℕ) → at < 2 ^ 63 → len < 2 ^ 63 → handle (row k (handle_bytes at len)) ≡ part at len
handle_reads k at len small_at small_len =
    let first : varint_at (handle_bytes at len) ≡ Ok (at, varint len) = varint_at-again at (varint len) small_at in
    let second : varint_at (varint len) ≡ Ok (len, []) = ap varint_at (sym (append-nil (varint len))) ∙ varint_at-again len [] small_len in
    ap (λ r. numbers_in (r >>= λ a. varint_at a.1 >>= λ l. Ok ((a.0, l.0), l.1))) first ∙ ap (λ r. numbers_in (r >>= λ l. Ok ((at, l.0), l.1))) second

pub tiles : (at end : ℕ) (blocks : List (List Row)) → at + length (parts 16 blocks) ≡ end → end < 2 ^ 63 → follow_on at end (index_from 16 at blocks) ≡ true
tiles at end [] is small = eq-eqb at end (omega arith)
tiles at end (b ∷ bs) is small =
    let len = length (block_bytes 16 b) in
    let some = some_bytes b in
    let one = length-part b in
    let all = length-parts b bs in
    let next : at + len + 1 ≡ at + length (part_bytes 16 b) = omega arith in
    let here : follows_at at end (part at len) ≡ true = and_from _ _ (and_from _ _ (eq-eqb at at refl) (ap not (not_zero len (omega arith)))) (le-leb (at + len + 1) end (omega arith)) in
    let rest = ap (λ n. follow_on n end (index_from 16 (at + length (part_bytes 16 b)) bs)) next ∙ tiles (at + length (part_bytes 16 b)) end bs (omega arith) small in
    ap (λ p. follows_at at end p && follow_on (behind p) end (index_from 16 (at + length (part_bytes 16 b)) bs)) (handle_reads (last_key [] b) at len (omega arith) (omega arith)) ∙ and_from _ _ here rest

-- ---- points

ends : (n : ℕ) (b : List Row) (bs : List (List Row)) → AreCut 16 (b ∷ bs) → ends_well (is_more (index_from 16 n bs)) b ≡ true
ends n b [] h = and_from _ _ (lt-ltb _ _ h.1) refl
ends n b (c ∷ bs) h = and_from _ _ (lt-ltb _ _ h.0.0.1) (le-leb _ _ h.0.1)

cut_tail : (b : List Row) (bs : List (List Row)) → AreCut 16 (b ∷ bs) → AreCut 16 bs
cut_tail b [] h = tt
cut_tail b (c ∷ bs) h = h.1

-- the last row before has the key of the index row before
abbrev Tied : Option Row → Option Row → Type 0
Tied None last = Unit {0}
Tied (Some q) None = ⊥
Tied (Some q) (Some l) = l.key ≡ q.key

behind_is : (q last : Option Row) (b rest : List Row) → 1 ≤ length b → Tied q last → Follow kinds.Point last (b ++ rest) → is_behind q b ≡ true
behind_is None last b rest some tied h = refl
behind_is (Some q) None b rest some tied h = absurd tied
behind_is (Some q) (Some l) [] rest some tied h = absurd (omega arith)
behind_is (Some q) (Some l) (r ∷ rs) rest some tied h = ap (λ k. precedes k r.key) (sym tied) ∙ (and_parts _ _ (and_parts _ _ h.0).0).1

tied_next : (last : Option Row) (b : List Row) (value : List ℕ) → 1 ≤ length b → Tied (Some (row (last_key [] b) value)) (last_of last b)
tied_next last [] value some = absurd (omega arith)
tied_next last (r ∷ []) value some = refl
tied_next last (r ∷ s ∷ rs) value some = tied_next (Some r) (s ∷ rs) value (omega arith)

pub points_again : (file pre post : List ℕ) (at : ℕ) (q last : Option Row) (blocks : List (List Row)) → file ≡ pre ++ (parts 16 blocks ++ post) → length pre ≡ at → AllByRecursion (IsBlock 16 kinds.Point) blocks → AreCut 16 blocks
    → Follow kinds.Point last (joined blocks) → Tied q last → at + length (parts 16 blocks) < 2 ^ 63 → points_from q (index_from 16 at blocks) file ≡ Ok (joined blocks)
points_again file pre post at q last [] is starts each cut order tied small = no_more file q
points_again file pre post at q last (b ∷ bs) is starts each cut order tied small =
    let len = length (block_bytes 16 b) in
    let one = length-part b in
    let all = length-parts b bs in
    let next = at + length (part_bytes 16 b) in
    let x = row (last_key [] b) (handle_bytes at len) in
    let rest = index_from 16 next bs in
    let split : file ≡ pre ++ (part_bytes 16 b ++ (parts 16 bs ++ post)) = is ∙ ap (λ y. pre ++ (y ++ post)) (flat_map-cons (part_bytes 16) b bs) ∙ ap (λ y. pre ++ y) (append_assoc (part_bytes 16 b) (parts 16 bs) post) in
    let moved : file ≡ (pre ++ part_bytes 16 b) ++ (parts 16 bs ++ post) = split ∙ sym (append_assoc pre (part_bytes 16 b) (parts 16 bs ++ post)) in
    let range : slice_range file at (behind (part at len)) ≡ part_bytes 16 b = ap (λ y. slice_range y at (at + len + 1)) split ∙ range_mid pre (part_bytes 16 b) (parts 16 bs ++ post) at (at + len + 1) starts (omega arith) in
    let read = part_reads kinds.Point b file at each.0 range in
    let whole = subst (Follow kinds.Point last) (joined-cons b bs) order in
    let stood : stands q (is_more rest) x b ≡ true = and_from _ _ (and_from _ _ (ap is_eq (tied_itself key_total (last_key [] b))) (behind_is q last b (joined bs) each.0.some tied whole)) (ends next b bs cut) in
    let block : block_of q (is_more rest) x file ≡ Ok b = block_is file q (is_more rest) x (part at len) (Ok b) (sym (handle_reads (last_key [] b) at len (omega arith) (omega arith))) read ∙ ap (λ t. cond t (Ok b) (Err (handle x).at)) stood in
    let size = length-append pre (part_bytes 16 b) in
    let others = points_again file (pre ++ part_bytes 16 b) post next (Some x) (last_of last b) bs moved (omega arith) each.1 (cut_tail b bs cut) (follow_append kinds.Point last b (joined bs) whole).1 (tied_next last b (handle_bytes at len) each.0.some) (omega arith) in
    step file q x rest b block ∙ ap (then_rows b) others ∙ ap Ok (sym (joined-cons b bs))
