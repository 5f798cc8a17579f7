-- Short ways to state what the words of a script are.
use Rattle.std.specs.Prelude.{◌≡◌, ℕ, List, [], ◌∷◌, ◌++◌, Ok, Err}
use Rattle.std.specs.List.{flat_map}
use Rattle.xdb_plain.specs.declared.script.Line.{Line}
use Rattle.xdb_script.specs.Defects.{script_read}
use Rattle.xdb_script.specs.declared.error.Why.{Why}
use Rattle.xdb_script.specs.declared.form.ScriptForm.TheVariants.{Run, Threads}

-- the first bad line of a script that is run
abbrev pub Refused : List ℕ → ℕ → Why → Type 0
Refused bytes line reason = script_read Run bytes ≡ Err (line, reason)

-- the lines of a script that is run
abbrev pub Reads : List ℕ → List Line → Type 0
Reads bytes lines = script_read Run bytes ≡ Ok lines

-- the first bad line of a script for workers
abbrev pub RefusedByWorkers : List ℕ → ℕ → Why → Type 0
RefusedByWorkers bytes line reason = script_read Threads bytes ≡ Err (line, reason)

-- lines, each ended by a line feed
abbrev pub text : List (List ℕ) → List ℕ
text lines = flat_map (λ line. line ++ 10 ∷ []) lines

-- the lines of a script for workers
abbrev pub ReadByWorkers : List ℕ → List Line → Type 0
ReadByWorkers bytes lines = script_read Threads bytes ≡ Ok lines
