-- A row as code makes it.
use Rattle.std.proofs.Common.{◌≡◌, ℕ, ◌+◌, ◌-◌, ◌≤◌, Bool, true, false, ◌||◌, cond, eqb, ltb, List, ◌++◌, length, take, drop, slice_range, Option, Result, Ok, Err, refl, sym, ap, ◌∙◌, arith, append_assoc}
use Rattle.std.proofs.lemmas.Bool.{le-ltb, or_from}
use Rattle.std.proofs.lemmas.List.{length-drop, length-take-le, drop-drop}
use Rattle.xdb_block.specs.declared.kind.BlockKind.{BlockKind}
use Rattle.xdb_block.specs.declared.kind.BlockNo.{BlockNo}
use Rattle.xdb_block.specs.declared.kind.BlockNo.TheVariants.{Damaged}
use Rattle.xdb_block.specs.declared.place.Place.{Place}
use Rattle.xdb_block.specs.Kept.{row_of}
use Rattle.xdb_block.specs.Reading.{lengths_at, row_at, next_at}
use Rattle.xdb_block.specs.Rows.{Row, row, follows}
use Rattle.xdb_block.specs.Spelling.{left_out, key_of}
use Rattle.xdb_block.proofs.Ranges.{range_front, range_take, range_back}

-- the row of three lengths and the bytes behind them, where it leaves out what it has to
abbrev pub made : ℕ → Bool → Row → List ℕ → Result (Row × List ℕ) BlockNo
made at longest r rest = cond longest (Ok (r, rest)) (Err (Damaged at))

pub row_at-made : (at : ℕ) (restart : Bool) (last bytes : List ℕ) (s u v : ℕ) (after : List ℕ) → lengths_at at bytes ≡ Ok ((s, u, v), after) → u + v ≤ length after → s ≤ length last
    → row_at at restart last bytes ≡ made at (eqb s (left_out restart last (take s last ++ take u after))) (row (take s last ++ take u after) (take v (drop u after))) (drop (u + v) after)
unfolding row_at
row_at-made at restart last bytes s u v after read there shares =
    let tests : (ltb (length after) (u + v) || ltb (length last) s) ≡ false = or_from _ _ (le-ltb (length after) (u + v) there) (le-ltb (length last) s shares) in
    rw (read, tests) refl

abbrev pub place : ℕ → ℕ → ℕ → ℕ → Place
place key key_end value end = record { key = key; key_end = key_end; value = value; end = end }

pub put_row : (at : ℕ) (restart : Bool) (keys new bytes last text_bytes : List ℕ) (from to s u v text : ℕ) → from ≤ to → to ≤ length keys → slice_range keys from to ≡ last → u + v ≤ length bytes - text → text ≤ length bytes → s ≤ to - from
    → lengths_at at text_bytes ≡ Ok ((s, u, v), drop text bytes) → new ≡ (keys ++ slice_range keys from (from + s)) ++ slice_range bytes text (text + u)
    → row_at at restart last text_bytes ≡ made at (eqb s (left_out restart (slice_range new from to) (slice_range new (length keys) (length new)))) (row_of new bytes (place (length keys) (length new) (text + u) (text + u + v))) (drop (text + u + v) bytes)
put_row at restart keys new bytes last text_bytes from to s u v text order within is there in_text shares read is_made =
    let after = drop text bytes in
    let size = length-drop text bytes in
    let whole : new ≡ keys ++ (slice_range keys from (from + s) ++ slice_range bytes text (text + u)) = is_made ∙ append_assoc keys _ _ in
    let front : slice_range keys from (from + s) ≡ take s last = range_take keys from to s shares ∙ ap (take s) is in
    let len_u : text + u - text ≡ u = omega arith in
    let back : slice_range bytes text (text + u) ≡ take u after = ap (λ n. take n after) len_u in
    let key : slice_range new (length keys) (length new) ≡ take s last ++ take u after =
    ap (λ x. slice_range x (length keys) (length x)) whole ∙ range_back keys _ ∙ (λ i. front i ++ back i) in
    let before : slice_range new from to ≡ last = ap (λ x. slice_range x from to) whole ∙ range_front keys _ from to order within ∙ is in
    let len_last : length last ≡ to - from = ap length (sym is) ∙ length-take-le (to - from) (drop from keys) (omega (arith, length-drop from keys)) in
    let len_v : text + u + v - (text + u) ≡ v = omega arith in
    let value : slice_range bytes (text + u) (text + u + v) ≡ take v (drop u after) = (λ i. take (len_v i) (sym (drop-drop u text bytes) i)) in
    let rest : drop (u + v) after ≡ drop (text + u + v) bytes = drop-drop (u + v) text bytes ∙ ap (λ n. drop n bytes) (omega arith) in
    row_at-made at restart last text_bytes s u v after read (omega arith) (omega arith)
    ∙ (λ i. made at (eqb s (left_out restart (sym before i) (sym key i))) (row (sym key i) (sym value i)) (rest i))

-- a row that was read may follow the one before it, or not
pub next-fits : (at : ℕ) (kind : BlockKind) (restart : Bool) (last : Option Row) (bytes : List ℕ) (r : Row) (rest : List ℕ) → row_at at restart (key_of last) bytes ≡ Ok (r, rest) → follows kind last r ≡ true
    → next_at at kind restart last bytes ≡ Ok (r, rest)
unfolding next_at
next-fits at kind restart last bytes r rest read fits = rw (read, fits) refl

pub next-refused : (at : ℕ) (kind : BlockKind) (restart : Bool) (last : Option Row) (bytes : List ℕ) (r : Row) (rest : List ℕ) → row_at at restart (key_of last) bytes ≡ Ok (r, rest) → follows kind last r ≡ false
    → next_at at kind restart last bytes ≡ Err (Damaged at)
unfolding next_at
next-refused at kind restart last bytes r rest read fits = rw (read, fits) refl
