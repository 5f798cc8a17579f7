-- What a writer keeps goes on with each row.
use Rattle.std.proofs.Common.{◌≡◌, ℕ, zero, suc, ◌+◌, ◌*◌, ◌^◌, ◌<◌, ◌≤◌, Bool, true, ◌&&◌, ltb, leb, List, [], ◌∷◌, ◌++◌, length, append_assoc, subst, Ok, Err, refl, sym, ap, ◌∙◌, arith}
use Rattle.std.specs.List.{AllByRecursion}
use Rattle.std.proofs.lemmas.Bool.{and_parts, ltb-true}
use Rattle.std.proofs.lemmas.List.{append-nil, length-append}
use Rattle.xdb_key.specs.Varint.{varint_at}
use Rattle.xdb_block.specs.declared.kind.BlockKind.{BlockKind}
use Rattle.xdb_block.specs.declared.kind.BlockNo.TheVariants.{Damaged}
use Rattle.xdb_block.specs.Kept.{then_rows, rows_from, rows_in, last_key, draft, IsShort, Keeps, IsDraft}
use Rattle.xdb_block.specs.Reading.{number_at, lengths_at, row_at, rise, block_at}
use Rattle.xdb_block.specs.Rows.{Row, row, AreRows}
use Rattle.xdb_block.specs.Spelling.{is_restart, left_out, entry_bytes, entries_from, offset_of, offsets_from, entries, offsets, restart_bytes, block_bytes, IsBlock}
use Rattle.xdb_block.proofs.BlockLaws.{offsets_rise, block_again}
use Rattle.xdb_block.proofs.EntryLaws.{row_again, entry-some}
use Rattle.xdb_block.proofs.OffsetLaws.{length-restarts}

-- ---- a list longer by one row

entries_more : (interval i : ℕ) (last : List ℕ) (rows : List Row) (r : Row) → entries_from interval i last (rows ++ r ∷ []) ≡ entries_from interval i last rows ++ entry_bytes (left_out (is_restart interval (i + length rows)) (last_key last rows) r.key) r
entries_more interval i last [] r = append-nil (entry_bytes (left_out (is_restart interval i) last r.key) r) ∙ ap (λ n. entry_bytes (left_out (is_restart interval n) last r.key) r) (omega arith)
entries_more interval i last (q ∷ rows) r =
    let first = entry_bytes (left_out (is_restart interval i) last q.key) q in
    let others = entries_from interval (i + 1) q.key rows in
    let place : i + 1 + length rows ≡ i + suc (length rows) = omega arith in
    ap (λ x. first ++ x) (entries_more interval (i + 1) q.key rows r ∙ ap (λ n. others ++ entry_bytes (left_out (is_restart interval n) (last_key q.key rows) r.key) r) place)
    ∙ sym (append_assoc first others _)

offsets_more : (interval at i : ℕ) (last : List ℕ) (rows : List Row) (r : Row) → offsets_from interval at i last (rows ++ r ∷ []) ≡ offsets_from interval at i last rows ++ offset_of (is_restart interval (i + length rows)) (at + length (entries_from interval i last rows))
offsets_more interval at i last [] r = append-nil (offset_of (is_restart interval i) at) ∙ (λ j. offset_of (is_restart interval (same i j)) (same at j)) where
  same : (n : ℕ) → n ≡ n + 0
  same n = omega arith
offsets_more interval at i last (q ∷ rows) r =
    let first = entry_bytes (left_out (is_restart interval i) last q.key) q in
    let others = entries_from interval (i + 1) q.key rows in
    let number : i + 1 + length rows ≡ i + suc (length rows) = omega arith in
    let place : at + length first + length others ≡ at + length (first ++ others) = omega (arith, length-append first others) in
    ap (λ x. offset_of (is_restart interval i) at ++ x) (offsets_more interval (at + length first) (i + 1) q.key rows r
    ∙ (λ j. offsets_from interval (at + length first) (i + 1) q.key rows ++ offset_of (is_restart interval (number j)) (place j)))
    ∙ sym (append_assoc (offset_of (is_restart interval i) at) _ _)

last_more : (last : List ℕ) (rows : List Row) (r : Row) → last_key last (rows ++ r ∷ []) ≡ r.key
last_more last [] r = refl
last_more last (q ∷ rows) r = last_more q.key rows r

short_more : (rows : List Row) (r : Row) → AllByRecursion IsShort rows → IsShort r → AllByRecursion IsShort (rows ++ r ∷ [])
short_more [] r short one = (one, tt)
short_more (q ∷ rows) r short one = (short.0, short_more rows r short.1 one)

-- ---- rows that entries spell

row_at-none : (restart : Bool) (last : List ℕ) → row_at 0 restart last [] ≡ Err (Damaged 0)
unfolding row_at lengths_at number_at varint_at
row_at-none restart last = refl

rows_from-none : (most interval i : ℕ) (last : List ℕ) → rows_from most interval i last [] ≡ []
rows_from-none zero interval i last = refl
rows_from-none (suc most) interval i last = ap (λ x. then_rows x (λ r rest. rows_from most interval (i + 1) r.key rest)) (row_at-none (is_restart interval i) last)

rows_from-again : (most interval i : ℕ) (last : List ℕ) (rows : List Row) → AllByRecursion IsShort rows → length (entries_from interval i last rows) ≤ most → rows_from most interval i last (entries_from interval i last rows) ≡ rows
rows_from-again most interval i last [] short enough = rows_from-none most interval i last
rows_from-again zero interval i last (r ∷ rows) short enough =
    let n = left_out (is_restart interval i) last r.key in
    absurd (omega (arith, entry-some n r, length-append (entry_bytes n r) (entries_from interval (i + 1) r.key rows)))
rows_from-again (suc most) interval i last (r ∷ rows) short enough =
    let n = left_out (is_restart interval i) last r.key in
    let rest = entries_from interval (i + 1) r.key rows in
    let len = length-append (entry_bytes n r) rest in
    let some = entry-some n r in
    ap (λ x. then_rows x (λ r rest. rows_from most interval (i + 1) r.key rest)) (row_again 0 (is_restart interval i) last r rest short.0.0 short.0.1)
    ∙ ap (λ rs. r ∷ rs) (rows_from-again most interval (i + 1) r.key rows short.1 (omega arith))

rows_in-again : (interval : ℕ) (rows : List Row) → AllByRecursion IsShort rows → rows_in interval (entries interval rows) ≡ rows
unfolding rows_in
rows_in-again interval rows short = rows_from-again (length (entries interval rows)) interval 0 [] rows short (omega arith)

entries_many : (interval i : ℕ) (last : List ℕ) (rows : List Row) → length rows ≤ length (entries_from interval i last rows)
entries_many interval i last [] = omega arith
entries_many interval i last (r ∷ rows) =
    let n = left_out (is_restart interval i) last r.key in
    let others = entries_many interval (i + 1) r.key rows in
    omega (arith, entry-some n r, length-append (entry_bytes n r) (entries_from interval (i + 1) r.key rows))

-- ---- a writer's state

pub many : (interval : ℕ) (rows : List Row) (out last os : List ℕ) (count : ℕ) → Keeps interval rows out last os count → count ≤ length out
many interval rows out last os count k =
    let counted = k.counted in
    omega (arith, entries_many interval 0 [] rows, ap length k.spelled)

pub begins : (interval : ℕ) (out last os : List ℕ) → 1 ≤ interval → out ≡ [] → last ≡ [] → os ≡ [] → IsDraft interval out last os 0
begins interval out last os positive no_out no_last no_os =
    let none : rows_in interval out ≡ [] = ap (rows_in interval) no_out ∙ rows_in-again interval [] tt in
    subst (λ rows. Keeps interval rows out last os 0) (sym none) (record { positive = positive; short = tt; spelled = no_out; behind = no_last; restarts = no_os; counted = refl })

pub no_rows : (interval : ℕ) (out : List ℕ) → out ≡ [] → draft interval (rows_in interval out) ≡ draft interval []
no_rows interval out no_out = ap (draft interval) (ap (rows_in interval) no_out ∙ rows_in-again interval [] tt)

keeps_more : (interval : ℕ) (rows : List Row) (out last os : List ℕ) (count : ℕ) (key value out' last' os' : List ℕ) → length key < 2 ^ 63 → length value < 2 ^ 63 → Keeps interval rows out last os count
    → out' ≡ out ++ entry_bytes (left_out (is_restart interval count) last key) (row key value) → last' ≡ key → os' ≡ os ++ offset_of (is_restart interval count) (length out) → Keeps interval (rows ++ row key value ∷ []) out' last' os' (count + 1)
keeps_more interval rows out last os count key value out' last' os' small_key small_value k out_is last_is os_is =
    let r = row key value in
    let counted = k.counted in
    let len = length-append rows (r ∷ []) in
    let spelled : out' ≡ entries interval (rows ++ r ∷ []) =
    out_is ∙ (λ j. k.spelled j ++ entry_bytes (left_out (is_restart interval (counted j)) (k.behind j) key) r)
    ∙ ap (λ n. entries interval rows ++ entry_bytes (left_out (is_restart interval n) (last_key [] rows) key) r) (zero_plus (length rows)) ∙ sym (entries_more interval 0 [] rows r) in
    let placed : os' ≡ offsets interval (rows ++ r ∷ []) =
    os_is ∙ (λ j. k.restarts j ++ offset_of (is_restart interval (counted j)) (length (k.spelled j)))
    ∙ (λ j. offsets interval rows ++ offset_of (is_restart interval (zero_plus (length rows) j)) (zero_plus (length (entries interval rows)) j)) ∙ sym (offsets_more interval 0 0 [] rows r) in
    record {
      positive = k.positive;
      short = short_more rows r k.short (small_key, small_value);
      spelled = spelled;
      behind = last_is ∙ sym (last_more [] rows r);
      restarts = placed;
      counted = omega arith;
    } where
      zero_plus : (n : ℕ) → n ≡ 0 + n
      zero_plus n = omega arith

-- one row more
pub record GoesOn (interval : ℕ) (rows : List Row) (out last os : List ℕ) (count : ℕ) : Type 0 where
  pub kept : IsDraft interval out last os count
  pub is : rows_in interval out ≡ rows

pub goes_on : (interval : ℕ) (out last os : List ℕ) (count : ℕ) (key value out' last' os' : List ℕ) → length key < 2 ^ 63 → length value < 2 ^ 63 → IsDraft interval out last os count
    → out' ≡ out ++ entry_bytes (left_out (is_restart interval count) last key) (row key value) → last' ≡ key → os' ≡ os ++ offset_of (is_restart interval count) (length out)
    → GoesOn interval (rows_in interval out ++ row key value ∷ []) out' last' os' (count + 1)
goes_on interval out last os count key value out' last' os' small_key small_value k out_is last_is os_is =
    let rows = rows_in interval out in
    let next = keeps_more interval rows out last os count key value out' last' os' small_key small_value k out_is last_is os_is in
    let is : rows_in interval out' ≡ rows ++ row key value ∷ [] = ap (rows_in interval) next.spelled ∙ rows_in-again interval (rows ++ row key value ∷ []) next.short in
    record { kept = subst (λ rs. Keeps interval rs out' last' os' (count + 1)) (sym is) next; is = is }

-- ---- a finished block

rise_small : (least end : ℕ) (os : List ℕ) → end ≤ 2 ^ 32 → rise least end os ≡ true → AllByRecursion (λ o. o < 2 ^ 32) os
rise_small least end [] less h = tt
rise_small least end (o ∷ os) less h =
    let parts = and_parts (leb least o && ltb o end) (rise (o + 1) end os) h in
    let below : o < end = ltb-true o end (and_parts (leb least o) (ltb o end) parts.0).1 in
    (omega arith, rise_small (o + 1) end os less parts.1)

values_short : (rows : List Row) → AllByRecursion IsShort rows → AllByRecursion (λ r. length r.value < 2 ^ 63) rows
values_short [] short = tt
values_short (r ∷ rows) short = (short.0.1, values_short rows short.1)

pub finished_is : (interval : ℕ) (out last os : List ℕ) (count : ℕ) (bytes : List ℕ) → IsDraft interval out last os count → bytes ≡ out ++ restart_bytes os → bytes ≡ block_bytes interval (rows_in interval out)
finished_is interval out last os count bytes k is = is ∙ (λ j. k.spelled j ++ restart_bytes (k.restarts j))

pub finished_block : (interval : ℕ) (out last os : List ℕ) (count : ℕ) (bytes : List ℕ) (kind : BlockKind) → IsDraft interval out last os count → bytes ≡ out ++ restart_bytes os → length bytes < 2 ^ 32 → AreRows kind (rows_in interval out)
    → IsBlock interval kind (rows_in interval out)
finished_block interval out last os count bytes kind k is small rows_are =
    let rows = rows_in interval out in
    let whole = finished_is interval out last os count bytes k is in
    let len : length bytes ≡ length (entries interval rows) + (4 * length (offsets interval rows) + 4) =
    ap length whole ∙ length-append (entries interval rows) (restart_bytes (offsets interval rows)) ∙ ap (λ n. length (entries interval rows) + n) (length-restarts (offsets interval rows)) in
    record {
      some = rows_are.0;
      each = rows_are.1;
      short = values_short rows k.short;
      placed = rise_small 0 (length (entries interval rows)) (offsets interval rows) (omega arith) (offsets_rise interval 0 (length (entries interval rows)) 0 0 [] rows (omega arith) (omega arith));
      counted = omega arith;
    }

pub finished_again : (interval : ℕ) (out last os : List ℕ) (count : ℕ) (bytes : List ℕ) (kind : BlockKind) → IsDraft interval out last os count → bytes ≡ out ++ restart_bytes os → length bytes < 2 ^ 32 → AreRows kind (rows_in interval out)
    → block_at interval kind bytes ≡ Ok (rows_in interval out)
finished_again interval out last os count bytes kind k is small rows_are =
    ap (block_at interval kind) (finished_is interval out last os count bytes k is) ∙ block_again interval kind (rows_in interval out) k.positive (finished_block interval out last os count bytes kind k is small rows_are)
