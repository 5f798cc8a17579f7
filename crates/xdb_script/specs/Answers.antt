-- What the parts of the reader answer, said by the definitions of what is read.
use Rattle.std.specs.Prelude.{◌≡◌, ℕ, Bool, true, false, not, List, [], map, Result, Ok, Err, if◌then◌else◌}
use Rattle.std.specs.Borrow.{Bor}
use Rattle.std.specs.List.{list_all, list_any}
use Rattle.std.specs.Ordering.{eq_by_cmp}
use Rattle.xdb_key.specs.Bounds.{Bounds}
use Rattle.xdb_key.specs.Order.{is_below, key_cmp}
use Rattle.xdb_key.specs.Reading.{◌>>=◌}
use Rattle.xdb_plain.specs.Tables.{TableOps, table_ops}
use Rattle.xdb_plain.specs.declared.script.Cmd.{Cmd}
use Rattle.xdb_script.specs.Reading.{rules_read}
use Rattle.xdb_script.specs.declared.error.LineNo.{LineNo}
use Rattle.xdb_script.specs.declared.error.LineNo.TheVariants.{Bad, Memory}
use Rattle.xdb_script.specs.declared.error.Why.{Why}
use Rattle.xdb_script.specs.declared.error.Why.TheVariants as why

-- words behind references
abbrev pub texts : List (Bor (List ℕ)) → List (List ℕ)
texts words = map (λ w. w.now) words

-- a refusal is the defect that the definition finds; want of memory may come at any place
abbrev pub IsDefect : {Y : Type 0} → LineNo → Result Y Why → Type 0
IsDefect Memory read = Unit {0}
IsDefect (Bad defect) read = read ≡ Err defect

-- what a call returned, seen by `view`, is what the definition reads, unless memory ran out
abbrev pub Answers : {X Y : Type 0} → (X → Y) → Result X LineNo → Result Y Why → Type 0
Answers view (Ok x) read = read ≡ Ok (view x)
Answers view (Err refusal) read = IsDefect refusal read

-- a range's start is below its end
abbrev pub rises : Bounds → Bool
rises range = is_below range.lo range.hi

-- the ranges of what was read are tested behind all words
abbrev pub ranged : {A : Type 0} → (A → List Bounds) → Result A Why → Result A Why
ranged ranges_of read = do
  x ← read
  if not (list_all rises (ranges_of x)) then Err why.Range else Ok x

-- a pair of bounds becomes a range, or its start isn't below its end
abbrev pub Rises : Result Bounds LineNo → Bounds → Type 0
Rises (Ok range) pair = (range ≡ pair) × (rises pair ≡ true)
Rises (Err (Bad why.Range)) pair = rises pair ≡ false
Rises (Err _) pair = ⊥

-- what is within it rises, or the start of one of its ranges isn't below its end
abbrev pub RisesAs : {A : Type 0} → (A → List Bounds) → Result A LineNo → A → Type 0
RisesAs ranges_of (Ok x) a = (x ≡ a) × (list_all rises (ranges_of a) ≡ true)
RisesAs ranges_of (Err (Bad why.Range)) a = list_all rises (ranges_of a) ≡ false
RisesAs ranges_of (Err _) a = ⊥

-- tables of these names: of the tables that are defined above a line, only their names matter
abbrev pub as_tables : List (List ℕ) → List TableOps
as_tables names = map (λ name. table_ops name []) names

abbrev pub has_name : List (List ℕ) → List ℕ → Bool
has_name names name = list_any (λ n. eq_by_cmp key_cmp name n) names

-- what was read is tested by all rules, where tables of these names are defined
abbrev pub ruled : List (List ℕ) → Result Cmd Why → Result Cmd Why
ruled names read = do
  c ← read
  rules_read (as_tables names) c
