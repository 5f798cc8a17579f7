-- The first defect of a script: its line, counted from 1, and the reason.
use Rattle.std.specs.Prelude.{◌≡◌, ℕ, ◌+◌, Bool, true, false, not, ◌&&◌, List, [], ◌∷◌, ◌++◌, length, filter, take, Option, Some, None, Result, Ok, Err, nat_lt, nat_le, if◌then◌else◌}
use Rattle.std.specs.List.{list_all}
use Rattle.xdb_key.specs.Reading.{◌>>=◌}
use Rattle.xdb_plain.specs.Scripts.{tables_below}
use Rattle.xdb_plain.specs.Tables.{TableOps}
use Rattle.xdb_plain.specs.declared.script.Line.{Line}
use Rattle.xdb_script.specs.Grammar.{most_bytes, is_space, is_line_feed, words_in, said_in, AreLines}
use Rattle.xdb_script.specs.Reading.{line_read}
use Rattle.xdb_script.specs.declared.error.Why.{Why}
use Rattle.xdb_script.specs.declared.error.Why.TheVariants as why
use Rattle.xdb_script.specs.declared.form.ScriptForm.{ScriptForm}

-- a defect and the line that has it
abbrev pub at_line : {A : Type 0} → ℕ → Result A Why → Result A (ℕ × Why)
at_line number (Ok x) = Ok x
at_line number (Err defect) = Err (number, defect)

-- the lines of these parts, where these tables are defined above them
abbrev pub lines_read : ScriptForm → List TableOps → List (ℕ × List ℕ) → Result (List Line) (ℕ × Why)
lines_read form tables [] = Ok []
lines_read form tables (part ∷ parts) = do
  line ← at_line part.0 (line_read form tables part.0 (words_in part.1))
  lines ← lines_read form (tables_below tables line.cmd) parts
  Ok (line ∷ lines)

-- the line that holds the first byte past the most; a line feed belongs to the line that it ends
abbrev pub long_line : List ℕ → ℕ
long_line bytes = 1 + length (filter is_line_feed (take most_bytes bytes))

-- the lines that the bytes spell, or the first defect
abbrev pub script_read : ScriptForm → List ℕ → Result (List Line) (ℕ × Why)
script_read form bytes =
    if nat_lt most_bytes (length bytes) then Err (long_line bytes, why.Long) else lines_read form [] (said_in bytes)

abbrev pub defect_of : {A : Type 0} → Result A (ℕ × Why) → Option (ℕ × Why)
defect_of (Ok x) = None
defect_of (Err defect) = Some defect

abbrev pub first_defect : ScriptForm → List ℕ → Option (ℕ × Why)
first_defect form bytes = defect_of (script_read form bytes)

-- the tables that are defined below lines
abbrev pub tables_behind : List TableOps → List Line → List TableOps
tables_behind tables [] = tables
tables_behind tables (line ∷ lines) = tables_behind (tables_below tables line.cmd) lines

-- among parts, the first that is no line, behind others that are lines, and what is wrong with it
pub record IsFirstBad (form : ScriptForm) (tables : List TableOps) (parts : List (ℕ × List ℕ)) (number : ℕ) (reason : Why) : Type 0 where
  pub before : List (ℕ × List ℕ)
  pub part : List ℕ
  pub after : List (ℕ × List ℕ)
  pub lines : List Line
  pub stands : parts ≡ before ++ (number, part) ∷ after
  pub good : AreLines form tables before lines
  pub bad : line_read form (tables_behind tables lines) number (words_in part) ≡ Err reason

-- ---- spaces, as bytes

abbrev pub is_printable : ℕ → Bool
is_printable b = nat_le 32 b && nat_le b 126

-- what follows a space or the beginning, or else a letter: no space follows a space, and none ends the line
abbrev pub spaced_behind : Bool → List ℕ → Bool
spaced_behind space [] = not space
spaced_behind space (b ∷ bs) = if is_space b then not space && spaced_behind true bs else spaced_behind false bs

-- printable characters of ASCII, with no space at an end and no two together
abbrev pub is_well_spaced : List ℕ → Bool
is_well_spaced part = list_all is_printable part && spaced_behind true part
