-- The level at which a table may stand: nothing at it or above it meets the table's bounds.
use Rattle.std.proofs.Common.{◌≡◌, ℕ, zero, suc, ◌-◌, ◌<◌, ◌≤◌, Bool, true, false, cond, List, [], ◌∷◌, inl, inr, refl, sym, ◌∙◌, arith}
use Rattle.std.proofs.lemmas.Bool.{cases_Bool, false≢true}
use Rattle.std.specs.List.{list_any}
use Rattle.xdb_key.specs.Bounds.{Bounds, meets}
use Rattle.xdb_edit.specs.Plans.{free_levels, place}
use Rattle.xdb_edit.specs.Versions.{LevelLists, tables_of}
use Rattle.xdb_meta.specs.Table.{Table, bounds_of}
use Rattle.xdb_rangedel.specs.Content.{Item}
use Rattle.xdb_rangedel.specs.Members.{Has}
use Rattle.xdb_rangedel.proofs.CoverLaws.{meets-from_held}
use Rattle.xdb_mem.proofs.TouchLaws.{any-from}
use Rattle.xdb_laws.specs.Compaction.{ShareNoKey}
use Rattle.xdb_laws.specs.Excises.{KeepsTo}

none-of : {A : Type 0} (p : A → Bool) (xs : List A) (x : A) → list_any p xs ≡ false → Has xs x → p x ≡ false
none-of p xs x none h = elim (cases_Bool (p x)) [
  | inl e ↦ absurd (false≢true (sym none ∙ any-from p xs x h e))
  | inr e ↦ e
]

free-first : (ts : List Table) (levels : LevelLists) (b : Bounds) (i : ℕ) (t : Table) (some : Bool) → list_any (λ u. meets b (bounds_of u)) ts ≡ some → i < cond some 0 (suc (free_levels levels b)) → Has (tables_of (ts ∷ levels) i) t
    → ((j : ℕ) → j < free_levels levels b → Has (tables_of levels j) t → meets b (bounds_of t) ≡ false) → meets b (bounds_of t) ≡ false
free-first ts levels b i t true is low h more = absurd (omega arith)
free-first ts levels b zero t false is low h more = none-of (λ u. meets b (bounds_of u)) ts t is h
free-first ts levels b (suc i) t false is low h more = more i (omega arith) h

free-at : (levels : LevelLists) (b : Bounds) (i : ℕ) (t : Table) → i < free_levels levels b → Has (tables_of levels i) t → meets b (bounds_of t) ≡ false
free-at [] b i t low h = absurd (omega arith)
free-at (ts ∷ levels) b i t low h = free-first ts levels b i t (list_any (λ u. meets b (bounds_of u)) ts) refl low h (λ j l g. free-at levels b j t l g)

place-by : (levels : LevelLists) (running : List Bounds) (b : Bounds) (some : Bool) → list_any (meets b) running ≡ some → 0 < cond some 0 (free_levels levels b - 1)
    → (list_any (meets b) running ≡ false) × ((i : ℕ) (t : Table) → i ≤ cond some 0 (free_levels levels b - 1) → Has (tables_of levels i) t → meets b (bounds_of t) ≡ false)
place-by levels running b true is high = absurd (omega arith)
place-by levels running b false is high = (is, λ i t low h. free-at levels b i t (omega arith) h)

pub place-levels : (levels : LevelLists) (running : List Bounds) (b : Bounds) (i : ℕ) (t : Table) → 0 < place levels running b → i ≤ place levels running b → Has (tables_of levels i) t → meets b (bounds_of t) ≡ false
place-levels levels running b i t high low h = (place-by levels running b (list_any (meets b) running) refl high).1 i t low h

pub place-running : (levels : LevelLists) (running : List Bounds) (b hull : Bounds) → 0 < place levels running b → Has running hull → meets b hull ≡ false
place-running levels running b hull high h = none-of (meets b) running hull (place-by levels running b (list_any (meets b) running) refl high).0 h

pub bounds-apart : (r o : Bounds) (a b : List Item) → KeepsTo r a → KeepsTo o b → meets r o ≡ false → ShareNoKey a b
bounds-apart r o a b p q none = λ k i j h g at_i at_j. false≢true (sym none ∙ meets-from_held r o k (p k i h at_i) (q k j g at_j))
