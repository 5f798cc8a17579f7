-- The points of a table, as far as its blocks have been read.
use Rattle.std.proofs.Common.{◌≡◌, ℕ, zero, suc, ◌+◌, ◌-◌, ◌<◌, ◌≤◌, Bool, true, false, ◌&&◌, cond, eqb, ltb, List, [], ◌∷◌, ◌++◌, length, drop, Option, Some, None, IfSome, Result, Ok, Err, refl, sym, ap, ◌∙◌, subst, arith, inl, inr, append_assoc}
use Rattle.std.proofs.lemmas.Bool.{and_parts, and_from, leb-true, eqb-true, eqb-false, cases_Bool, lt-ltb, le-ltb, ltb-true, ltb-false}
use Rattle.std.proofs.lemmas.List.{append-nil, length-append}
use Rattle.std.proofs.Math.Seq.{drop-cons}
use Rattle.xdb_key.specs.Bounds.{Bounds}
use Rattle.xdb_key.specs.Entries.{Point}
use Rattle.xdb_key.specs.Reading.{◌>>=◌}
use Rattle.xdb_block.specs.declared.kind.BlockKind.TheVariants as kinds
use Rattle.xdb_block.specs.Kept.{last_key}
use Rattle.xdb_block.specs.Rows.{Row, nth, precedes, Follow}
use Rattle.xdb_block.specs.Spelling.{IsBlock}
use Rattle.xdb_table_w.specs.Content.{last_of}
use Rattle.xdb_table_r.specs.declared.error.TableNo.{TableNo}
use Rattle.xdb_table_r.specs.Opening.{IsNo}
use Rattle.xdb_table_r.specs.Parts.{handle, behind, follow_on}
use Rattle.xdb_table_r.specs.Points.{stands, block_of, is_more, points_from, points_at, before, has_more, is_behind, then_rows}
use Rattle.xdb_table_r.specs.Views.{points_in, seen_at}
use Rattle.xdb_table_r.proofs.TellLaws.{no_then}
use Rattle.xdb_table_r.proofs.RowLaws.{same-tells, last_key_append}
use Rattle.xdb_table_r.proofs.SeenLaws.{points_append}

-- ---- where a block lies

pub place_within : (at end : ℕ) (rows : List Row) (i : ℕ) → follow_on at end rows ≡ true → i < length rows → behind (handle (nth rows i)) ≤ end
place_within at end [] i h less = absurd (omega arith)
place_within at end (r ∷ rs) zero h less = leb-true (behind (handle r)) end (and_parts _ _ (and_parts _ _ h).0).1
place_within at end (r ∷ rs) (suc i) h less = place_within (behind (handle r)) end rs i (and_parts _ _ h).1 (omega arith)

-- ---- one block more

then_is : (rows : List Row) (p : Result (List Row) ℕ) → (p >>= λ rest. Ok (rows ++ rest)) ≡ then_rows rows p
then_is rows (Ok rest) = refl
then_is rows (Err at) = refl

then_then : (a b : List Row) (p : Result (List Row) ℕ) → then_rows a (then_rows b p) ≡ then_rows (a ++ b) p
then_then a b (Ok rest) = ap Ok (sym (append_assoc a b rest))
then_then a b (Err at) = refl

pub step : (file : List ℕ) (last : Option Row) (x : Row) (is : List Row) (rows : List Row) → block_of last (is_more is) x file ≡ Ok rows → points_from last (x ∷ is) file ≡ then_rows rows (points_from (Some x) is file)
unfolding points_from
step file last x is rows e = ap (λ r. r >>= λ rs. points_from (Some x) is file >>= λ rest. Ok (rs ++ rest)) e ∙ then_is rows (points_from (Some x) is file)

step_err : (file : List ℕ) (last : Option Row) (x : Row) (is : List Row) (at : ℕ) → block_of last (is_more is) x file ≡ Err at → points_from last (x ∷ is) file ≡ Err at
unfolding points_from
step_err file last x is at e = ap (λ r. r >>= λ rs. points_from (Some x) is file >>= λ rest. Ok (rs ++ rest)) e

pub no_more : (file : List ℕ) (last : Option Row) → points_from last [] file ≡ Ok []
unfolding points_from
no_more file last = refl

more_is : (xs : List Row) (n : ℕ) → is_more (drop n xs) ≡ ltb n (length xs)
more_is [] zero = refl
more_is [] (suc n) = sym (le-ltb (suc n) 0 (omega arith))
more_is (x ∷ xs) zero = sym (lt-ltb 0 (suc (length xs)) (omega arith))
more_is (x ∷ xs) (suc n) = more_is xs n ∙ both_less n (length xs) where
  both_less : (a b : ℕ) → ltb a b ≡ ltb (suc a) (suc b)
  both_less a b = elim (cases_Bool (ltb a b)) [
    | inl e ↦ e ∙ sym (lt-ltb (suc a) (suc b) (let less : a < b = ltb-true a b e in omega arith))
    | inr e ↦ e ∙ sym (le-ltb (suc a) (suc b) (let less : b ≤ a = ltb-false a b e in omega arith))
  ]

more_at : (index : List Row) (i : ℕ) → is_more (drop (suc i) index) ≡ has_more index i
more_at index i =
    let next : suc i ≡ i + 1 = omega arith in
    more_is index (suc i) ∙ ap (λ n. ltb n (length index)) next

before_next : (index : List Row) (i : ℕ) → Some (nth index i) ≡ before index (i + 1)
before_next index i = elim (cases_Bool (eqb (i + 1) 0)) [
  | inl e ↦ let is = eqb-true (i + 1) 0 e in absurd (omega arith)
  | inr e ↦
      let same : i ≡ i + 1 - 1 = omega arith in
      ap (λ n. Some (nth index n)) same ∙ sym (ap (λ b. cond b None (Some (nth index (i + 1 - 1)))) e)
]

before_some : (index : List Row) (i : ℕ) → 1 ≤ i → before index i ≡ Some (nth index (i - 1))
before_some index i some = elim (cases_Bool (eqb i 0)) [
  | inl e ↦ let is = eqb-true i 0 e in absurd (omega arith)
  | inr e ↦ ap (λ b. cond b None (Some (nth index (i - 1)))) e
]

-- the reading from a block on
from_block : (file : List ℕ) (index : List Row) (i : ℕ) (rows : List Row) → i < length index → block_of (before index i) (has_more index i) (nth index i) file ≡ Ok rows
    → points_from (before index i) (drop i index) file ≡ then_rows rows (points_from (before index (i + 1)) (drop (i + 1) index) file)
from_block file index i rows less e =
    let next : suc i ≡ i + 1 = omega arith in
    let x = nth index i in
    ap (λ xs. points_from (before index i) xs file) (drop-cons index i (record { key = []; value = [] }) less)
    ∙ step file (before index i) x (drop (suc i) index) rows (ap (λ m. block_of (before index i) m x file) (more_at index i) ∙ e)
    ∙ ap (λ o. then_rows rows (points_from o (drop (suc i) index) file)) (before_next index i)
    ∙ ap (λ n. then_rows rows (points_from (before index (i + 1)) (drop n index) file)) next

from_bad : (file : List ℕ) (index : List Row) (i at : ℕ) → i < length index → block_of (before index i) (has_more index i) (nth index i) file ≡ Err at → points_from (before index i) (drop i index) file ≡ Err at
from_bad file index i at less e =
    let x = nth index i in
    ap (λ xs. points_from (before index i) xs file) (drop-cons index i (record { key = []; value = [] }) less)
    ∙ step_err file (before index i) x (drop (suc i) index) at (ap (λ m. block_of (before index i) m x file) (more_at index i) ∙ e)

-- ---- rows behind rows

abbrev After : Option Row → List Row → Type 0
After None ys = Unit {0}
After (Some l) ys = precedes l.key (nth ys 0).key ≡ true

start : (last : Option Row) (ys : List Row) → Follow kinds.Point None ys → After last ys → Follow kinds.Point last ys
start None ys g p = g
start (Some l) [] g p = tt
start (Some l) (y ∷ ys) g p = (and_from _ _ (and_from _ _ g.0 p) refl, g.1)

join : (last : Option Row) (xs ys : List Row) → Follow kinds.Point last xs → Follow kinds.Point None ys → After (last_of last xs) ys → Follow kinds.Point last (xs ++ ys)
join last [] ys h g p = start last ys g p
join last (x ∷ xs) ys h g p = (h.0, join (Some x) xs ys h.1 g p)

after_key : (last : Option Row) (xs ys : List Row) → 1 ≤ length xs → precedes (last_key [] xs) (nth ys 0).key ≡ true → After (last_of last xs) ys
after_key last [] ys some p = absurd (omega arith)
after_key last (x ∷ []) ys some p = p
after_key last (x ∷ y ∷ xs) ys some p = after_key (Some x) (y ∷ xs) ys (omega arith) p

-- ---- what has been read

pub record Gone (known : Option (List ℕ)) (r : Bounds) (s : ℕ) (index : List Row) (i : ℕ) (out : List Point) : Type 0 where
  pub rows : List Row
  pub seen : out ≡ points_in r s rows
  pub each : Follow kinds.Point None rows
  pub none : i ≡ 0 → rows ≡ []
  pub some : 1 ≤ i → 1 ≤ length rows
  pub ends : 1 ≤ i → last_key [] rows ≡ (nth index (i - 1)).key
  pub told : IfSome known (λ b. points_at index b ≡ then_rows rows (points_from (before index i) (drop i index) b))

start_told : (known : Option (List ℕ)) (index : List Row) → IfSome known (λ b. points_at index b ≡ then_rows [] (points_from (before index 0) (drop 0 index) b))
start_told None index = tt
start_told (Some b) index = plain (points_from None index b) where
  plain : (p : Result (List Row) ℕ) → p ≡ then_rows [] p
  plain (Ok rest) = refl
  plain (Err at) = refl

pub gone_start : (known : Option (List ℕ)) (r : Bounds) (s : ℕ) (index : List Row) (out : List Point) → out ≡ [] → Gone known r s index 0 out
gone_start known r s index out is = record {
  rows = [];
  seen = is;
  each = tt;
  none = λ e. refl;
  some = λ h. absurd (omega arith);
  ends = λ h. absurd (omega arith);
  told = start_told known index;
}

told_more : (known : Option (List ℕ)) (index : List Row) (i : ℕ) (rows block : List Row) → i < length index → IfSome known (λ b. points_at index b ≡ then_rows rows (points_from (before index i) (drop i index) b))
    → IfSome known (λ b. block_of (before index i) (has_more index i) (nth index i) b ≡ Ok block) → IfSome known (λ b. points_at index b ≡ then_rows (rows ++ block) (points_from (before index (i + 1)) (drop (i + 1) index) b))
told_more None index i rows block less h e = tt
told_more (Some b) index i rows block less h e = h ∙ ap (then_rows rows) (from_block b index i block less e) ∙ then_then rows block (points_from (before index (i + 1)) (drop (i + 1) index) b)

joined : (known : Option (List ℕ)) (r : Bounds) (s : ℕ) (index : List Row) (i : ℕ) (out : List Point) (g : Gone known r s index i out) (block : List Row) → 1 ≤ length block → Follow kinds.Point None block → is_behind (before index i) block ≡ true → Follow kinds.Point None (g.rows ++ block)
joined known r s index i out g block some each back = elim (cases_Bool (eqb i 0)) [
  | inl e ↦ subst (λ xs. Follow kinds.Point None (xs ++ block)) (sym (g.none (eqb-true i 0 e))) each
  | inr e ↦
      let ne = eqb-false i 0 e in
      let one : 1 ≤ i = omega arith in
      let near = ap (λ o. is_behind o block) (sym (before_some index i one)) ∙ back in
      join None g.rows block g.each each (after_key None g.rows block (g.some one) (ap (λ k. precedes k (nth block 0).key) (g.ends one) ∙ near))
]

pub gone_more : (known : Option (List ℕ)) (r : Bounds) (s : ℕ) (index : List Row) (i : ℕ) (out out2 : List Point) (block : List Row) → Gone known r s index i out → i < length index → IsBlock 16 kinds.Point block → stands (before index i) (has_more index i) (nth index i) block ≡ true
    → IfSome known (λ b. block_of (before index i) (has_more index i) (nth index i) b ≡ Ok block) → out2 ≡ out ++ points_in r s block → Gone known r s index (i + 1) out2
gone_more known r s index i out out2 block g less is_block stand told out_is =
    let parts = and_parts _ _ (and_parts _ _ stand).0 in
    let last : last_key [] block ≡ (nth index i).key = same-tells _ _ parts.0 in
    let size = length-append g.rows block in
    let same : i ≡ i + 1 - 1 = omega arith in
    let many = is_block.some in
    record {
      rows = g.rows ++ block;
      seen = out_is ∙ ap (λ x. x ++ points_in r s block) g.seen ∙ sym (points_append r s g.rows block);
      each = joined known r s index i out g block many is_block.each parts.1;
      none = λ e. absurd (omega arith);
      some = λ h. omega arith;
      ends = λ h. last_key_append [] g.rows block many ∙ last ∙ ap (λ n. (nth index n).key) same;
      told = told_more known index i g.rows block less g.told told;
    }

pub gone_end : (known : Option (List ℕ)) (r : Bounds) (s : ℕ) (index : List Row) (i : ℕ) (out : List Point) → Gone known r s index i out → drop i index ≡ [] → IfSome known (λ b. seen_at r s index b ≡ Ok out)
gone_end known r s index i out g none = by known g.told where
  by : (k : Option (List ℕ)) → IfSome k (λ b. points_at index b ≡ then_rows g.rows (points_from (before index i) (drop i index) b)) → IfSome k (λ b. seen_at r s index b ≡ Ok out)
  by None h = tt
  by (Some b) h =
      let all : points_at index b ≡ Ok g.rows = h ∙ ap (λ xs. then_rows g.rows (points_from (before index i) xs b)) none ∙ ap (then_rows g.rows) (no_more b (before index i)) ∙ ap Ok (append-nil g.rows) in
      ap (λ p. p >>= λ rows. Ok (points_in r s rows)) all ∙ ap Ok (sym g.seen)

pub gone_bad : (known : Option (List ℕ)) (r : Bounds) (s : ℕ) (index : List Row) (i : ℕ) (out : List Point) (backing : ℕ) (e : TableNo) → Gone known r s index i out → i < length index
    → IfSome known (λ b. IsNo backing e (block_of (before index i) (has_more index i) (nth index i) b)) → IfSome known (λ b. IsNo backing e (seen_at r s index b))
gone_bad known r s index i out backing e g less bad = by known g.told bad where
  by : (k : Option (List ℕ)) → IfSome k (λ b. points_at index b ≡ then_rows g.rows (points_from (before index i) (drop i index) b)) → IfSome k (λ b. IsNo backing e (block_of (before index i) (has_more index i) (nth index i) b)) → IfSome k (λ b. IsNo backing e (seen_at r s index b))
  by None h n = tt
  by (Some b) h n = no_then backing e (block_of (before index i) (has_more index i) (nth index i) b) (seen_at r s index b)
      (λ at is. ap (λ p. p >>= λ rows. Ok (points_in r s rows)) (h ∙ ap (then_rows g.rows) (from_bad b index i at less is))) n

-- without an index there are no points
pub told_none : (known : Option (List ℕ)) (r : Bounds) (s : ℕ) (index : List Row) (out : List Point) → index ≡ [] → out ≡ [] → IfSome known (λ b. seen_at r s index b ≡ Ok out)
told_none None r s index out is none = tt
told_none (Some b) r s index out is none = ap (λ rows. seen_at r s rows b) is ∙ ap (λ p. p >>= λ rows. Ok (points_in r s rows)) (no_more b None) ∙ ap Ok (sym none)
