-- Where a loaded table stands nothing meets it.
use Rattle.std.proofs.Common.{◌≡◌, ℕ, zero, suc, ◌+◌, ◌-◌, ◌<◌, Bool, true, false, cond, not, eqb, List, [], ◌∷◌, ◌++◌, length, filter, Option, Some, None, refl, sym, ap, subst, arith}
use Rattle.std.proofs.lemmas.Bool.{false≢true, and_parts, or_parts}
use Rattle.std.specs.List.{list_any, AllByRecursion, filter_map, cons_option, find}
use Rattle.std.specs.Option.{option_map}
use Rattle.std.specs.declared.cmp.Ordering.{Ordering}
use Rattle.std.specs.Ordering.{is_lt}
use Rattle.xdb_rangedel.specs.Members.{Has}
use Rattle.xdb_key.specs.Bounds.{Bounds, bounds, meets}
use Rattle.xdb_meta.specs.Table.{Table, bounds_of}
use Rattle.xdb_edit.specs.Changes.{Changes}
use Rattle.xdb_edit.specs.Plans.{place, free_levels}
use Rattle.xdb_edit.specs.Versions.{LevelLists, tables_of, table_cmp, put_in, put_all_in, removes, added_to, edited_level, edited_from, or_else}
use Rattle.xdb_plain.specs.Edits.{are_loaded}
use Rattle.xdb_plain.specs.Fences.{first_overlap, met_by}
use Rattle.xdb_plain.specs.Tables.{TableOps, table_bounds}
use Rattle.xdb_model.proofs.ListLaws.{all-has, pairs-insert}
use Rattle.xdb_model.proofs.CrossedLaws.{has-filtered}
use Rattle.xdb_model.proofs.PairLaws.{at_level-turned, AtLevel}
use Rattle.xdb_model.proofs.PartLaws.{IsLoadedAs, stands_for, loaded-tells, loaded-left, loaded-all, picked, insert-length}
use Rattle.xdb_model.specs.Apart.{Pairwise, IsOff}

-- ---- what a level after an edit has, its parts have

put-parts : (P : Table → Type 0) (x t : Table) (more ts : List Table) (b : Bool) → (AllByRecursion P more → P x × AllByRecursion P ts) → AllByRecursion P (cond b (t ∷ more) (x ∷ t ∷ ts)) → P x × AllByRecursion P (t ∷ ts)
put-parts P x t more ts true parts all = ((parts all.1).0, (all.0, (parts all.1).1))
put-parts P x t more ts false parts all = all

all-unput : (P : Table → Type 0) (cmp : Table → Table → Ordering) (x : Table) (ts : List Table) → AllByRecursion P (put_in cmp x ts) → P x × AllByRecursion P ts
all-unput P cmp x [] all = all
all-unput P cmp x (t ∷ ts) all = put-parts P x t (put_in cmp x ts) ts (is_lt (cmp t x)) (λ h. all-unput P cmp x ts h) all

all-unput_all : (P : Table → Type 0) (cmp : Table → Table → Ordering) (xs ts : List Table) → AllByRecursion P (put_all_in cmp xs ts) → AllByRecursion P xs × AllByRecursion P ts
all-unput_all P cmp [] ts all = (tt, all)
all-unput_all P cmp (x ∷ xs) ts all =
    let rest = all-unput_all P cmp xs (put_in cmp x ts) all in
    let one = all-unput P cmp x ts rest.1 in
    ((one.0, rest.0), one.1)

added-first : (P : Table → Type 0) (t : Table) (others : List Table) (b : Bool) → AllByRecursion P (cons_option (cond b (Some t) None) others) → (b ≡ true → P t) × AllByRecursion P others
added-first P t others true all = ((λ e. all.0), all.1)
added-first P t others false all = ((λ e. absurd (false≢true e)), all)

all-unadded : (P : Table → Type 0) (level : ℕ) (adds : List (ℕ × Table)) → AllByRecursion P (filter_map (λ a. cond (eqb a.0 level) (Some a.1) None) adds) → AllByRecursion (λ a. eqb a.0 level ≡ true → P a.1) adds
all-unadded P level [] all = tt
all-unadded P level (a ∷ adds) all =
    let parts = added-first P a.1 (filter_map (λ x. cond (eqb x.0 level) (Some x.1) None) adds) (eqb a.0 level) all in
    (parts.0, all-unadded P level adds parts.1)

pub record Parts (P : Table → Type 0) (e : Changes) (level : ℕ) (ts : List Table) : Type 0 where
  pub added : AllByRecursion (λ a. eqb a.0 level ≡ true → P a.1) e.added
  pub kept : (t : Table) → Has ts t → removes e level t ≡ false → P t

level-parts : (P : Table → Type 0) (e : Changes) (level : ℕ) (ts : List Table) → AllByRecursion P (edited_level e level ts) → Parts P e level ts
level-parts P e level ts all =
    let stays : List Table = filter (λ t. not (removes e level t)) ts in
    let both = all-unput_all P (table_cmp level) (added_to e level) stays all in
    record {
      added = all-unadded P level e.added both.0;
      kept = λ t has left. all-has P stays t (has-filtered (λ u. not (removes e level u)) ts t has (ap not left)) both.1;
    }

level-at : (P : Table → Type 0) (e : Changes) (levels : LevelLists) (base j i : ℕ) → i ≡ base + j → j < length levels → AllByRecursion P (tables_of (edited_from base e levels) j) → AllByRecursion P (edited_level e i (tables_of levels j))
level-at P e [] base j i is few all = absurd (omega arith)
level-at P e (ts ∷ levels) base zero i is few all = let same : base ≡ i = omega arith in subst (λ k. AllByRecursion P (edited_level e k ts)) same all
level-at P e (ts ∷ levels) base (suc j) i is few all = level-at P e levels (suc base) j i (omega arith) (omega arith) all

pub edited-parts : (P : Table → Type 0) (e : Changes) (levels : LevelLists) (level : ℕ) → level < length levels → AllByRecursion P (tables_of (edited_from 0 e levels) level) → Parts P e level (tables_of levels level)
edited-parts P e levels level few all = level-parts P e level (tables_of levels level) (level-at P e levels 0 level level (omega arith) few all)

-- ---- places

pub none-meets : (b : Bounds) (ts : List Table) → list_any (λ t. meets b (bounds_of t)) ts ≡ false → AllByRecursion (λ t. IsOff b (bounds_of t)) ts
none-meets b [] none = tt
none-meets b (t ∷ ts) none =
    let parts = or_parts (meets b (bounds_of t)) (list_any (λ u. meets b (bounds_of u)) ts) none in
    (parts.0, none-meets b ts parts.1)

free-first : (b : Bounds) (ts : List Table) (levels : LevelLists) (some : Bool) (j : ℕ) → list_any (λ t. meets b (bounds_of t)) ts ≡ some → j < cond some 0 (suc (free_levels levels b))
    → ((i : ℕ) → i < free_levels levels b → (i < length levels) × AllByRecursion (λ t. IsOff b (bounds_of t)) (tables_of levels i))
    → (j < length (ts ∷ levels)) × AllByRecursion (λ t. IsOff b (bounds_of t)) (tables_of (ts ∷ levels) j)
free-first b ts levels true j is few more = absurd (omega arith)
free-first b ts levels false zero is few more = (omega arith, none-meets b ts is)
free-first b ts levels false (suc j) is few more = let later = more j (omega arith) in let low = later.0 in (omega arith, later.1)

free-at : (levels : LevelLists) (b : Bounds) (j : ℕ) → j < free_levels levels b → (j < length levels) × AllByRecursion (λ t. IsOff b (bounds_of t)) (tables_of levels j)
free-at [] b j few = absurd (omega arith)
free-at (ts ∷ levels) b j few = free-first b ts levels (list_any (λ t. meets b (bounds_of t)) ts) j refl few (λ i h. free-at levels b i h)

-- at a level above L0
pub record PlacedAt (levels : LevelLists) (running : List Bounds) (level : ℕ) (b : Bounds) : Type 0 where
  pub none_running : list_any (meets b) running ≡ false
  pub inside : level < length levels
  pub free : AllByRecursion (λ t. IsOff b (bounds_of t)) (tables_of levels level)

place-by : (levels : LevelLists) (running : List Bounds) (level : ℕ) (b : Bounds) (t : Bool) → list_any (meets b) running ≡ t → 0 < level → level ≡ cond t 0 (free_levels levels b - 1) → PlacedAt levels running level b
place-by levels running level b true is high at = absurd (omega arith)
place-by levels running level b false is high at =
    let free = free-at levels b level (omega arith) in
    record { none_running = is; inside = free.0; free = free.1 }

pub place-tells : (levels : LevelLists) (running : List Bounds) (level : ℕ) (b : Bounds) → 0 < level → level ≡ place levels running b → PlacedAt levels running level b
place-tells levels running level b high at = place-by levels running level b (list_any (meets b) running) refl high at

-- ---- tables of one load

abbrev pub OffOps : TableOps → TableOps → Type 0
OffOps t u = IsOff (table_bounds t) (table_bounds u)

pub same-bounds : (levels : LevelLists) (running : List Bounds) (num : ℕ) (t : TableOps) (a : ℕ × Table) → IsLoadedAs levels running num t a → bounds_of a.1 ≡ table_bounds t
same-bounds levels running num t a stands = λ i. bounds (stands.same_lo i) (stands.same_hi i)

loaded-off : (level : ℕ) (levels : LevelLists) (running : List Bounds) (num seq later : ℕ) (t : TableOps) (ts : List TableOps) (a : ℕ × Table) (added : List (ℕ × Table)) → IsLoadedAs levels running num t a → AllByRecursion (OffOps t) ts
    → are_loaded levels running later seq ts added ≡ true → length added ≡ length ts → AllByRecursion (AtLevel level a) added
loaded-off level levels running num seq later t ts a added stands off all as_many =
    loaded-all (AtLevel level a) levels running later seq ts added all as_many (λ k u b from to has other here there.
    subst (λ r. IsOff r (bounds_of b.1)) (sym (same-bounds levels running num t a stands))
    (subst (IsOff (table_bounds t)) (sym (same-bounds levels running k u b other)) (all-has (OffOps t) ts u has off)))

-- tables that don't meet are loaded so that they don't
pub loaded-pairs : (level : ℕ) (levels : LevelLists) (running : List Bounds) (num seq : ℕ) (ts : List TableOps) (added : List (ℕ × Table)) → are_loaded levels running num seq ts added ≡ true → length added ≡ length ts
    → Pairwise OffOps ts → Pairwise (AtLevel level) added
loaded-pairs level levels running num seq [] [] all as_many off = tt
loaded-pairs level levels running num seq [] (a ∷ added) all as_many off = absurd (omega arith)
loaded-pairs level levels running num seq (t ∷ ts) added all as_many off =
    let parts = and_parts (list_any (stands_for levels running num seq t) added) (are_loaded levels running (num + 1) seq ts added) all in
    let p = picked (stands_for levels running num seq t) added parts.0 in
    let first = loaded-tells levels running num seq t p.one p.passes in
    let low = first.same_num in
    let others = loaded-left levels running (num + 1) seq ts p.front p.one p.back (omega arith) (subst (λ l. are_loaded levels running (num + 1) seq ts l ≡ true) p.split parts.1) in
    let one_less = insert-length p.front p.one p.back in
    let count = ap length p.split in
    subst (Pairwise (AtLevel level)) (sym p.split)
    (pairs-insert (AtLevel level) (at_level-turned level) p.front p.one p.back
    (loaded-off level levels running num seq (num + 1) t ts p.one (p.front ++ p.back) first off.0 others (omega arith))
    (loaded-pairs level levels running (num + 1) seq ts (p.front ++ p.back) others (omega arith) off.1))

found-none : (t u : TableOps) (rest : Option TableOps) (b : Bool) → option_map {U = List ℕ × List ℕ} (λ (x : TableOps). (t.name, x.name)) (cond b (Some u) rest) ≡ None → (b ≡ false) × (option_map {U = List ℕ × List ℕ} (λ (x : TableOps). (t.name, x.name)) rest ≡ None)
found-none t u rest true e = absurd (cc)
found-none t u rest false e = (refl, e)

met-none : (t : TableOps) (ts : List TableOps) → met_by t ts ≡ None → AllByRecursion (OffOps t) ts
met-none t [] none = tt
met-none t (u ∷ ts) none =
    let parts = found-none t u (find (λ x. meets (table_bounds t) (table_bounds x)) ts) (meets (table_bounds t) (table_bounds u)) none in
    (parts.0, met-none t ts parts.1)

or_else-none : {A : Type 0} (a b : Option A) → or_else a b ≡ None → (a ≡ None) × (b ≡ None)
or_else-none (Some x) b h = absurd (cc)
or_else-none None b h = (refl, h)

pub none-overlap : (ts : List TableOps) → first_overlap ts ≡ None → Pairwise OffOps ts
none-overlap [] none = tt
none-overlap (t ∷ ts) none =
    let parts = or_else-none (met_by t ts) (first_overlap ts) none in
    (met-none t ts parts.0, none-overlap ts parts.1)
