-- The grammar of scripts: which lists of lines a byte string spells.
use Rattle.std.specs.Prelude.{◌≡◌, ℕ, ◌≤◌, Bool, true, false, not, List, [], ◌∷◌, length, filter, IsTrue, ◌==◌}
use Rattle.std.specs.List.{slice_split, enumerate_from}
use Rattle.xdb_plain.specs.Scripts.{suits, tables_below, is_threads_line}
use Rattle.xdb_plain.specs.Tables.{TableOps}
use Rattle.xdb_plain.specs.Words.{who_word, cmd_words}
use Rattle.xdb_plain.specs.declared.script.Line.{Line}
use Rattle.xdb_script.specs.Rules.{fits, ranges_rise, is_sound}
use Rattle.xdb_script.specs.declared.form.ScriptForm.{ScriptForm}
use Rattle.xdb_script.specs.declared.form.ScriptForm.TheVariants.{Run, Threads}

-- the most bytes that a script has: 1 MiB
abbrev pub most_bytes : ℕ
most_bytes = 1048576

abbrev pub is_space : ℕ → Bool
is_space b = b == 32

abbrev pub is_line_feed : ℕ → Bool
is_line_feed b = b == 10

-- words stand between spaces
abbrev pub words_in : List ℕ → List (List ℕ)
words_in part = slice_split is_space part

-- no line stands behind a line feed at the end
abbrev pub without_empty_last : List (List ℕ) → List (List ℕ)
without_empty_last [] = []
without_empty_last ([] ∷ []) = []
without_empty_last (part ∷ parts) = part ∷ without_empty_last parts

-- lines stand between line feeds
abbrev pub lines_in : List ℕ → List (List ℕ)
lines_in bytes = without_empty_last (slice_split is_line_feed bytes)

-- an empty line and a comment mean nothing
abbrev pub says_something : List ℕ → Bool
says_something [] = false
says_something (b ∷ bs) = not (b == 35)

-- the lines that mean something, with their numbers among all lines, from 1
abbrev pub said_in : List ℕ → List (ℕ × List ℕ)
said_in bytes = filter (λ part. says_something part.1) (enumerate_from 1 (lines_in bytes))

-- what workers are given has lines of clients alone, and no question in parts
abbrev pub suits_script : ScriptForm → Line → Bool
suits_script Run line = true
suits_script Threads line = is_threads_line line

-- a line of a number says what these words spell, where these tables are defined above it
pub record IsLine (form : ScriptForm) (tables : List TableOps) (number : ℕ) (words : List (List ℕ)) (line : Line) : Type 0 where
  pub numbered : line.number ≡ number
  pub spelled : words ≡ who_word line.by ∷ cmd_words line.cmd
  pub limits : IsTrue (fits line.cmd)
  pub rising : IsTrue (ranges_rise line.cmd)
  pub table : IsTrue (is_sound line.cmd)
  pub suited : IsTrue (suits tables line.by line.cmd)
  pub in_form : IsTrue (suits_script form line)

-- each part is the line at its place
abbrev pub AreLines : ScriptForm → List TableOps → List (ℕ × List ℕ) → List Line → Type 0
AreLines form tables [] [] = Unit {0}
AreLines form tables (part ∷ parts) (line ∷ lines) =
    IsLine form tables part.0 (words_in part.1) line × AreLines form (tables_below tables line.cmd) parts lines
AreLines form tables _ _ = ⊥

-- the bytes spell these lines
pub record Spells (form : ScriptForm) (bytes : List ℕ) (lines : List Line) : Type 0 where
  pub short : length bytes ≤ most_bytes
  pub are_lines : AreLines form [] (said_in bytes) lines
