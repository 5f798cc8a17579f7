-- The walks over removed tables, over neighbours and over levels: what is left says what the whole says.
use Rattle.std.proofs.Common.{◌≡◌, ℕ, ◌+◌, ◌-◌, ◌<◌, ◌≤◌, true, false, List, [], ◌∷◌, length, get_or, drop, Option, Some, None, refl, sym, ap, ◌∙◌, arith}
use Rattle.std.proofs.lemmas.Bool.{cond-true, cond-false}
use Rattle.std.proofs.lemmas.List.{drop_more, drop_all, length-drop}
use Rattle.xdb_key.specs.Bounds.{meets}
use Rattle.xdb_meta.specs.Table.{Table, bounds_of}
use Rattle.xdb_edit.specs.Versions.{LevelLists, stands_in, missing_from, or_else, meeting_after, meeting_in, meeting_among, overlap}

-- the element at a place, before what is behind it
split_at : {X : Type 0} (xs : List X) (i : ℕ) (x : X) → i < length xs → x ≡ get_or xs i x → drop i xs ≡ x ∷ drop (i + 1) xs
split_at xs i x l read = drop_more xs i x l ∙ ap (λ y. y ∷ drop (i + 1) xs) (sym read)

-- ---- removed tables

pub missing_there : (levels : LevelLists) (rs : List (ℕ × ℕ)) (i : ℕ) (r : ℕ × ℕ) → i < length rs → r ≡ get_or rs i r → missing_from levels (drop i rs) ≡ missing_from levels rs → stands_in levels r ≡ true → missing_from levels (drop (i + 1) rs) ≡ missing_from levels rs
missing_there levels rs i r l read so_far stands =
    sym (cond-true (stands_in levels r) (missing_from levels (drop (i + 1) rs)) (Some r.1) stands) ∙ sym (ap (missing_from levels) (split_at rs i r l read)) ∙ so_far

pub missing_found : (levels : LevelLists) (rs : List (ℕ × ℕ)) (i : ℕ) (r : ℕ × ℕ) → i < length rs → r ≡ get_or rs i r → missing_from levels (drop i rs) ≡ missing_from levels rs → stands_in levels r ≡ false → Some r.1 ≡ missing_from levels rs
missing_found levels rs i r l read so_far absent =
    sym (cond-false (stands_in levels r) (missing_from levels (drop (i + 1) rs)) (Some r.1) absent) ∙ sym (ap (missing_from levels) (split_at rs i r l read)) ∙ so_far

pub missing_none : (levels : LevelLists) (rs : List (ℕ × ℕ)) (i : ℕ) → length rs ≤ i → missing_from levels (drop i rs) ≡ missing_from levels rs → None ≡ missing_from levels rs
missing_none levels rs i l so_far = sym (ap (missing_from levels) (drop_all i rs l)) ∙ so_far

-- ---- neighbours of a level

short_meets_none : (ts : List Table) → length ts ≤ 1 → meeting_in ts ≡ None
short_meets_none [] l = refl
short_meets_none (t ∷ []) l = refl
short_meets_none (t ∷ u ∷ us) l = absurd (omega arith)

neighbours : (ts : List Table) (i : ℕ) (a b : Table) → 1 ≤ i → i < length ts → a ≡ get_or ts (i - 1) a → b ≡ get_or ts i b → drop (i - 1) ts ≡ a ∷ b ∷ drop (i + 1) ts
neighbours ts i a b some l read_a read_b =
    let next : i - 1 + 1 ≡ i = omega arith in
    split_at ts (i - 1) a (omega arith) read_a ∙ ap (λ (n : ℕ). a ∷ drop n ts) next ∙ ap (λ xs. a ∷ xs) (split_at ts i b l read_b)

pub meeting_apart : (ts : List Table) (i : ℕ) (a b : Table) → 1 ≤ i → i < length ts → a ≡ get_or ts (i - 1) a → b ≡ get_or ts i b → meeting_in (drop (i - 1) ts) ≡ meeting_in ts → meets (bounds_of a) (bounds_of b) ≡ false → meeting_in (drop (i + 1 - 1) ts) ≡ meeting_in ts
meeting_apart ts i a b some l read_a read_b so_far apart =
    let here : i + 1 - 1 ≡ i = omega arith in
    ap (λ (n : ℕ). meeting_in (drop n ts)) here
    ∙ ap meeting_in (split_at ts i b l read_b)
    ∙ sym (cond-false (meets (bounds_of a) (bounds_of b)) (Some (a.num, b.num)) (meeting_after b (drop (i + 1) ts)) apart)
    ∙ sym (ap meeting_in (neighbours ts i a b some l read_a read_b))
    ∙ so_far

pub meeting_found : (ts : List Table) (i : ℕ) (a b : Table) → 1 ≤ i → i < length ts → a ≡ get_or ts (i - 1) a → b ≡ get_or ts i b → meeting_in (drop (i - 1) ts) ≡ meeting_in ts → meets (bounds_of a) (bounds_of b) ≡ true → Some (a.num, b.num) ≡ meeting_in ts
meeting_found ts i a b some l read_a read_b so_far meet =
    sym (cond-true (meets (bounds_of a) (bounds_of b)) (Some (a.num, b.num)) (meeting_after b (drop (i + 1) ts)) meet)
    ∙ sym (ap meeting_in (neighbours ts i a b some l read_a read_b))
    ∙ so_far

pub meeting_none : (ts : List Table) (i : ℕ) → 1 ≤ i → length ts ≤ i → meeting_in (drop (i - 1) ts) ≡ meeting_in ts → None ≡ meeting_in ts
meeting_none ts i some l so_far = sym (short_meets_none (drop (i - 1) ts) (omega (arith, length-drop (i - 1) ts))) ∙ so_far

-- ---- levels

pub overlap_begins : (levels : LevelLists) → meeting_among (drop 1 levels) ≡ overlap levels
overlap_begins [] = refl
overlap_begins (ts ∷ rest) = refl

or_else-none : {A : Type 0} (a b : Option A) → a ≡ None → b ≡ or_else a b
or_else-none (Some x) b h = absurd cc
or_else-none None b h = refl

or_else-some : {A : Type 0} (a b : Option A) (x : A) → a ≡ Some x → a ≡ or_else a b
or_else-some (Some y) b x h = refl
or_else-some None b x h = absurd cc

pub overlap_not_here : (levels : LevelLists) (i : ℕ) (ts : List Table) → i < length levels → ts ≡ get_or levels i ts → meeting_among (drop i levels) ≡ overlap levels → meeting_in ts ≡ None → meeting_among (drop (i + 1) levels) ≡ overlap levels
overlap_not_here levels i ts l read so_far none =
    or_else-none (meeting_in ts) (meeting_among (drop (i + 1) levels)) none ∙ sym (ap meeting_among (split_at levels i ts l read)) ∙ so_far

pub overlap_here : (levels : LevelLists) (i : ℕ) (ts : List Table) (p : ℕ × ℕ) → i < length levels → ts ≡ get_or levels i ts → meeting_among (drop i levels) ≡ overlap levels → meeting_in ts ≡ Some p → meeting_in ts ≡ overlap levels
overlap_here levels i ts p l read so_far found =
    or_else-some (meeting_in ts) (meeting_among (drop (i + 1) levels)) p found ∙ sym (ap meeting_among (split_at levels i ts l read)) ∙ so_far

pub overlap_none : (levels : LevelLists) (i : ℕ) → length levels ≤ i → meeting_among (drop i levels) ≡ overlap levels → None ≡ overlap levels
overlap_none levels i l so_far = sym (ap meeting_among (drop_all i levels l)) ∙ so_far
