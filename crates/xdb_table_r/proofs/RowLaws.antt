-- Rows of one kind of block, one by one.
use Rattle.std.proofs.Common.{◌≡◌, ℕ, zero, suc, ◌+◌, ◌-◌, ◌<◌, ◌≤◌, true, List, [], ◌∷◌, ◌++◌, length, take, Option, Some, None, refl, arith}
use Rattle.std.specs.List.{AllByRecursion}
use Rattle.std.proofs.lemmas.Bool.{and_parts}
use Rattle.std.specs.Cmp.{Equal-is}
use Rattle.std.specs.Ordering.{is_eq}
use Rattle.xdb_key.proofs.OrderLaws.{key_exact}
use Rattle.xdb_key.specs.Order.{key_cmp}
use Rattle.xdb_block.specs.declared.kind.BlockKind.{BlockKind}
use Rattle.std.proofs.lemmas.List.{length-append}
use Rattle.xdb_block.specs.Kept.{last_key}
use Rattle.xdb_block.specs.Spelling.{is_restart, left_out, entry_bytes, entries_from, entries}
use Rattle.xdb_table_w.specs.Files.{front}
use Rattle.xdb_block.specs.Rows.{Row, nth, suits, follows, Follow}

pub same-tells : (a b : List ℕ) → is_eq (key_cmp a b) ≡ true → a ≡ b
same-tells a b h = key_exact a b ((Equal-is _).0 h)

pub follows_suits : (kind : BlockKind) (last : Option Row) (r : Row) → follows kind last r ≡ true → suits kind r ≡ true
follows_suits kind None r h = h
follows_suits kind (Some last) r h = (and_parts _ _ (and_parts _ _ h).0).0

pub all_suit : (kind : BlockKind) (last : Option Row) (rows : List Row) → Follow kind last rows → AllByRecursion (λ r. suits kind r ≡ true) rows
all_suit kind last [] h = tt
all_suit kind last (r ∷ rs) h = (follows_suits kind last r h.0, all_suit kind (Some r) rs h.1)

at : (P : Row → Type 0) (rows : List Row) (i : ℕ) → AllByRecursion P rows → i < length rows → P (nth rows i)
at P [] i h less = absurd (omega arith)
at P (r ∷ rs) zero h less = h.0
at P (r ∷ rs) (suc i) h less = at P rs i h.1 (omega arith)

pub nth_suits : (kind : BlockKind) (rows : List Row) (i : ℕ) → Follow kind None rows → i < length rows → suits kind (nth rows i) ≡ true
nth_suits kind rows i h less = at (λ r. suits kind r ≡ true) rows i (all_suit kind None rows h) less

-- ---- entries

takes_less : (i : ℕ) (last : List ℕ) (rows : List Row) (n m : ℕ) → n ≤ m → length (entries_from 16 i last (take n rows)) ≤ length (entries_from 16 i last (take m rows))
takes_less i last rows zero m h = omega arith
takes_less i last rows (suc n) zero h = absurd (omega arith)
takes_less i last [] (suc n) (suc m) h = omega arith
takes_less i last (r ∷ rs) (suc n) (suc m) h =
    let e = entry_bytes (left_out (is_restart 16 i) last r.key) r in
    let less = takes_less (i + 1) r.key rs n m (omega arith) in
    omega (arith, length-append e (entries_from 16 (i + 1) r.key (take n rs)), length-append e (entries_from 16 (i + 1) r.key (take m rs)))

-- the rows before the last one have no fewer bytes than some of them
pub front_takes : (rows : List Row) (n : ℕ) → n < length rows → length (entries 16 (take n rows)) ≤ length (entries 16 (front rows))
front_takes rows n h = takes_less 0 [] rows n (length rows - 1) (omega arith)

-- ---- the last key

last_key_at : (k : List ℕ) (rows : List Row) (n : ℕ) → n + 1 ≡ length rows → last_key k rows ≡ (nth rows n).key
last_key_at k [] n e = absurd (omega arith)
last_key_at k (r ∷ []) zero e = refl
last_key_at k (r ∷ []) (suc n) e = absurd (omega arith)
last_key_at k (r ∷ s ∷ rs) zero e = absurd (omega arith)
last_key_at k (r ∷ s ∷ rs) (suc n) e = last_key_at r.key (s ∷ rs) n (omega arith)

pub last_key_is : (rows : List Row) → 1 ≤ length rows → last_key [] rows ≡ (nth rows (length rows - 1)).key
last_key_is rows some = last_key_at [] rows (length rows - 1) (omega arith)

pub last_key_append : (k : List ℕ) (xs ys : List Row) → 1 ≤ length ys → last_key k (xs ++ ys) ≡ last_key [] ys
last_key_append k [] [] some = absurd (omega arith)
last_key_append k [] (y ∷ ys) some = refl
last_key_append k (x ∷ xs) ys some = last_key_append x.key xs ys some
