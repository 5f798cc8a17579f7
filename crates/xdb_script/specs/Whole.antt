-- What the reader answers of whole scripts, and what it does with one part after the other.
use Rattle.std.specs.Prelude.{◌≡◌, ℕ, Bool, true, false, List, [], ◌∷◌, ◌++◌, Option, Some, Result, Ok, Err, is_some}
use Rattle.xdb_key.specs.Reading.{◌>>=◌}
use Rattle.xdb_plain.specs.Scripts.{found_table, tables_below}
use Rattle.xdb_plain.specs.declared.script.Line.{Line}
use Rattle.xdb_script.specs.Answers.{as_tables, has_name}
use Rattle.xdb_script.specs.declared.error.LineNo.{LineNo}
use Rattle.xdb_script.specs.declared.error.LineNo.TheVariants as line_no
use Rattle.xdb_script.specs.declared.error.ScriptNo.{ScriptNo}
use Rattle.xdb_script.specs.declared.error.ScriptNo.TheVariants.{BadLine, Memory}
use Rattle.xdb_script.specs.declared.error.Why.{Why}

-- a refusal is the line and the reason that the definition finds; want of memory may come at any place
abbrev pub IsRefusal : {A : Type 0} → ScriptNo → Result A (ℕ × Why) → Type 0
IsRefusal Memory read = Unit {0}
IsRefusal (BadLine line reason) read = read ≡ Err (line, reason)

-- what a call returned, seen by `view`, is what the definition reads, unless memory ran out
abbrev pub IsAnswered : {X A : Type 0} → (X → A) → Result X ScriptNo → Result A (ℕ × Why) → Type 0
IsAnswered view (Ok x) read = read ≡ Ok (view x)
IsAnswered view (Err refusal) read = IsRefusal refusal read

-- the same of a script's lines
abbrev pub IsAnswer : Result (List Line) ScriptNo → Result (List Line) (ℕ × Why) → Type 0
IsAnswer result read = IsAnswered (λ lines. lines) result read

-- these lines, or want of memory
abbrev pub IsOnly : Result (List Line) ScriptNo → List Line → Type 0
IsOnly (Ok script) lines = script ≡ lines
IsOnly (Err Memory) lines = Unit {0}
IsOnly (Err (BadLine line reason)) lines = ⊥

-- the first defect, or want of memory
abbrev pub IsFirst : ScriptNo → Option (ℕ × Why) → Type 0
IsFirst Memory defect = Unit {0}
IsFirst (BadLine line reason) defect = defect ≡ Some (line, reason)

abbrev pub at_line_no : ℕ → LineNo → ScriptNo
at_line_no line (line_no.Bad reason) = BadLine line reason
at_line_no line line_no.Memory = Memory

-- A part that says something was read: its line stands behind the others, and its table is known. Any other part
-- changes nothing.
abbrev pub IsTaken : Bool → Result Line Why → List (List ℕ) → List (List ℕ) → List Line → List Line → Type 0
IsTaken false read names names' lines lines' = (names' ≡ names) × (lines' ≡ lines)
IsTaken true read names names' lines lines' =
    ((read >>= λ line. Ok (lines ++ line ∷ [])) ≡ Ok lines')
    × ((name : List ℕ) → (read >>= λ line. Ok (is_some (found_table name (tables_below (as_tables names) line.cmd)))) ≡ Ok (has_name names' name))

-- a part that says something wasn't read
abbrev pub IsStopped : Bool → ℕ → Result Line Why → ScriptNo → Type 0
IsStopped said number read Memory = Unit {0}
IsStopped true number read (BadLine line reason) = (line ≡ number) × (read ≡ Err reason)
IsStopped false number read (BadLine line reason) = ⊥
