-- The words of a line read: the line that they spell, or the first defect. Of a line's defects the first
-- is the first of these: `spaces`, `who`, `verb`, `shape`, then the first word from the left that is no spelling,
-- name or number or has a length outside its limits, then `range`, `table`, `order`. So each verb's reading tests
-- the shape of all its words before it reads the first one.
use Rattle.std.specs.Prelude.{ℕ, ◌^◌, ◌-◌, Bool, true, false, not, ◌&&◌, ◌||◌, List, [], ◌∷◌, length, Option, Some, None, Result, Ok, Err, nat_le, ◌==◌, if◌then◌else◌, codes}
use Rattle.std.specs.List.{slice_split, list_all, find}
use Rattle.xdb_key.specs.Bounds.{Bounds, bounds}
use Rattle.xdb_key.specs.Reading.{◌>>=◌}
use Rattle.xdb_key.specs.declared.op.Op.{Op}
use Rattle.xdb_key.specs.declared.op.Op.TheVariants as op
use Rattle.xdb_plain.specs.Tables.{TableOps, table_ops}
use Rattle.xdb_plain.specs.declared.act.By.{By}
use Rattle.xdb_plain.specs.declared.act.By.TheVariants.{Client, Db}
use Rattle.xdb_plain.specs.declared.act.CommitForm.{CommitForm}
use Rattle.xdb_plain.specs.declared.act.CommitForm.TheVariants as commit
use Rattle.xdb_plain.specs.declared.act.ShowWhat.TheVariants as what
use Rattle.xdb_plain.specs.declared.act.StatusForm.TheVariants as status
use Rattle.xdb_plain.specs.declared.act.Which.{Which}
use Rattle.xdb_plain.specs.declared.act.Which.TheVariants.{Auto, At}
use Rattle.xdb_plain.specs.declared.question.Question.{Question}
use Rattle.xdb_plain.specs.declared.question.Question.TheVariants.{Get, Scan, RScan, Move}
use Rattle.xdb_plain.specs.declared.question.Step.{Step}
use Rattle.xdb_plain.specs.declared.question.Step.TheVariants.{First, Last, Next, Prev, Seek, SeekLt}
use Rattle.xdb_plain.specs.declared.script.Cmd.{Cmd}
use Rattle.xdb_plain.specs.declared.script.Cmd.TheVariants as cmd
use Rattle.xdb_plain.specs.declared.script.Line.{Line}
use Rattle.xdb_script.specs.Fields.{same_word, key_read, bound_read, value_read, name_read, number_read, all_read, some_read}
use Rattle.xdb_script.specs.Rules.{ranges_rise, tables_stand, points_rise}
use Rattle.xdb_script.specs.Verbs.{read_word, client_word, db_word, read_verbs, client_verbs, db_verbs, is_verb_in}
use Rattle.xdb_script.specs.declared.verbs.ReadVerb.{ReadVerb}
use Rattle.xdb_script.specs.declared.verbs.ClientVerb.{ClientVerb}
use Rattle.xdb_script.specs.declared.verbs.DbVerb.{DbVerb}
use Rattle.xdb_script.specs.declared.verbs.ReadVerb.TheVariants as reads
use Rattle.xdb_script.specs.declared.verbs.ClientVerb.TheVariants as says
use Rattle.xdb_script.specs.declared.verbs.DbVerb.TheVariants as owns
use Rattle.xdb_script.specs.declared.error.Why.{Why}
use Rattle.xdb_script.specs.declared.error.Why.TheVariants as why
use Rattle.xdb_script.specs.declared.form.ScriptForm.{ScriptForm}
use Rattle.xdb_script.specs.declared.form.ScriptForm.TheVariants.{Run, Threads}

-- ---- so many words

abbrev pub only_word : List (List ℕ) → Result (List ℕ) Why
only_word (word ∷ []) = Ok word
only_word _ = Err why.Shape

abbrev pub two_words : List (List ℕ) → Result (List ℕ × List ℕ) Why
two_words (first ∷ second ∷ []) = Ok (first, second)
two_words _ = Err why.Shape

-- ---- ranges and operations

-- two bounds, whose order is tested behind all words
abbrev pub pair_read : List ℕ × List ℕ → Result Bounds Why
pair_read pair = do
  lo ← bound_read pair.0
  hi ← bound_read pair.1
  Ok (bounds lo hi)

abbrev pub set_read : List (List ℕ) → Result Op Why
set_read words = do
  pair ← two_words words
  k ← key_read pair.0
  v ← value_read pair.1
  Ok (op.Set k v)

abbrev pub del_read : List (List ℕ) → Result Op Why
del_read words = do
  key ← only_word words
  k ← key_read key
  Ok (op.Del k)

abbrev pub span_read : List (List ℕ) → Result Op Why
span_read words = do
  pair ← two_words words
  range ← pair_read pair
  Ok (op.DelSpan range)

-- an operation of several, by its verb
abbrev pub op_read : List (List ℕ) → Result Op Why
op_read [] = Err why.Shape
op_read (v ∷ words) =
    if same_word v (codes "set") then set_read words else (
    if same_word v (codes "del") then del_read words else (
    if same_word v (codes "delspan") then span_read words else Err why.Shape))

-- its verb is one of the three, with as many words as it wants
abbrev pub is_op_shape : List (List ℕ) → Bool
is_op_shape [] = false
is_op_shape (v ∷ words) =
    (same_word v (codes "set") && (length words == 2)) || (
    (same_word v (codes "del") && (length words == 1)) || (same_word v (codes "delspan") && (length words == 2)))

abbrev pub is_semicolon : List ℕ → Bool
is_semicolon word = same_word word (codes ";")

-- the words of 1 to 4,096 operations between semicolons
abbrev pub ops_shape : List (List ℕ) → Result (List (List (List ℕ))) Why
ops_shape words =
    let parts = slice_split is_semicolon words in
    if list_all is_op_shape parts && nat_le (length parts) 4096 then Ok parts else Err why.Shape

-- ---- questions

-- nothing more, or `at` and a snapshot
abbrev pub at_shape : List (List ℕ) → Result (Option (List ℕ)) Why
at_shape [] = Ok None
at_shape (fixed ∷ snap ∷ []) = if same_word fixed (codes "at") then Ok (Some snap) else Err why.Shape
at_shape _ = Err why.Shape

abbrev pub get_read : List (List ℕ) → Result Question Why
get_read [] = Err why.Shape
get_read (key ∷ words) = do
  snap ← at_shape words
  k ← key_read key
  at ← some_read name_read snap
  Ok (Get k at)

abbrev pub scan_read : (Bounds → ℕ → Option (List ℕ) → Question) → List (List ℕ) → Result Question Why
scan_read make (lo ∷ hi ∷ most ∷ words) = do
  snap ← at_shape words
  range ← pair_read (lo, hi)
  n ← number_read 1 1000 most
  at ← some_read name_read snap
  Ok (make range n at)
scan_read make _ = Err why.Shape

abbrev pub move_read : Step → List (List ℕ) → Result Question Why
move_read step words = do
  cursor ← only_word words
  name ← name_read cursor
  Ok (Move name step)

abbrev pub seek_read : (List ℕ → Step) → List (List ℕ) → Result Question Why
seek_read make words = do
  pair ← two_words words
  name ← name_read pair.0
  k ← key_read pair.1
  Ok (Move name (make k))

abbrev pub question_read : ReadVerb → List (List ℕ) → Result Question Why
question_read reads.Get words = get_read words
question_read reads.Scan words = scan_read (λ range most at. Scan range most at) words
question_read reads.RScan words = scan_read (λ range most at. RScan range most at) words
question_read reads.First words = move_read First words
question_read reads.Last words = move_read Last words
question_read reads.Next words = move_read Next words
question_read reads.Prev words = move_read Prev words
question_read reads.Seek words = seek_read (λ key. Seek key) words
question_read reads.SeekLt words = seek_read (λ key. SeekLt key) words

-- what was found, or the defect that nothing was
abbrev pub found_or : {A : Type 0} → Why → Option A → Result A Why
found_or defect None = Err defect
found_or defect (Some x) = Ok x

abbrev pub found_read : List ℕ → Option ReadVerb
found_read word = find (λ v. same_word (read_word v) word) read_verbs

-- the command that asks a question, in parts or whole
abbrev pub ask_read : Result Question Why → Bool → Result Cmd Why
ask_read read parted = do
  question ← read
  Ok (cmd.Ask question parted)

-- `begin` stands before a question
abbrev pub begin_read : List (List ℕ) → Result Cmd Why
begin_read [] = Err why.Shape
begin_read (word ∷ words) = do
  v ← found_or why.Shape (found_read word)
  ask_read (question_read v words) true

-- ---- clients

abbrev pub commit_read : CommitForm → Result Op Why → Result Cmd Why
commit_read form one = do
  o ← one
  Ok (cmd.Commit form (o ∷ []))

abbrev pub batch_read : List (List ℕ) → Result Cmd Why
batch_read words = do
  parts ← ops_shape words
  ops ← all_read op_read parts
  Ok (cmd.Commit commit.Batch ops)

abbrev pub only_name : List (List ℕ) → Result (List ℕ) Why
only_name words = do
  word ← only_word words
  name_read word

-- the number of a job or a question
abbrev pub only_number : List (List ℕ) → Result ℕ Why
only_number words = do
  word ← only_word words
  number_read 1 (2 ^ 56 - 1) word

-- one name, and what it makes
abbrev pub named_read : (List ℕ → Cmd) → List (List ℕ) → Result Cmd Why
named_read make words = do
  name ← only_name words
  Ok (make name)

-- one number, and what it makes
abbrev pub numbered_read : (ℕ → Cmd) → List (List ℕ) → Result Cmd Why
numbered_read make words = do
  n ← only_number words
  Ok (make n)

-- words by twos
abbrev pub pairs_shape : List (List ℕ) → Result (List (List ℕ × List ℕ)) Why
pairs_shape [] = Ok []
pairs_shape (word ∷ []) = Err why.Shape
pairs_shape (lo ∷ hi ∷ words) = do
  pairs ← pairs_shape words
  Ok ((lo, hi) ∷ pairs)

-- at least and at most so many
abbrev pub few_shape : {A : Type 0} → ℕ → ℕ → List A → Result (List A) Why
few_shape least most xs = if nat_le least (length xs) && nat_le (length xs) most then Ok xs else Err why.Shape

-- a name and 1 to 8 pairs
abbrev pub snap_read : List (List ℕ) → Result Cmd Why
snap_read [] = Err why.Shape
snap_read (word ∷ words) = do
  all ← pairs_shape words
  pairs ← few_shape 1 8 all
  name ← name_read word
  ranges ← all_read pair_read pairs
  Ok (cmd.Snap name ranges)

abbrev pub cursor_read : List (List ℕ) → Result Cmd Why
cursor_read (word ∷ lo ∷ hi ∷ words) = do
  snap ← at_shape words
  name ← name_read word
  range ← pair_read (lo, hi)
  at ← some_read name_read snap
  Ok (cmd.Cursor name range at)
cursor_read _ = Err why.Shape

abbrev pub is_excise : List ℕ → Bool
is_excise word = same_word word (codes "excise")

-- the words before the first `excise`, and those from it on
abbrev pub up_to_excise : List (List ℕ) → List (List ℕ) × List (List ℕ)
up_to_excise [] = ([], [])
up_to_excise (word ∷ words) =
    let more = up_to_excise words in
    if is_excise word then ([], word ∷ words) else (word ∷ more.0, more.1)

-- nothing more, or `excise` and two bounds
abbrev pub excise_shape : List (List ℕ) → Result (Option (List ℕ × List ℕ)) Why
excise_shape [] = Ok None
excise_shape (excise ∷ lo ∷ hi ∷ []) = Ok (Some (lo, hi))
excise_shape _ = Err why.Shape

-- a name and 0 to 16 tables, and what is to be cut out
abbrev pub load_read : List (List ℕ) → Result Cmd Why
load_read [] = Err why.Shape
load_read (word ∷ words) = do
  few ← few_shape 0 16 (up_to_excise words).0
  excise ← excise_shape (up_to_excise words).1
  name ← name_read word
  tables ← all_read name_read few
  span ← some_read pair_read excise
  Ok (cmd.Load name tables span)

abbrev pub client_read : ClientVerb → List (List ℕ) → Result Cmd Why
client_read says.Put words = commit_read commit.Put (set_read words)
client_read says.Del words = commit_read commit.Del (del_read words)
client_read says.DelSpan words = commit_read commit.DelSpan (span_read words)
client_read says.Batch words = batch_read words
client_read (says.Read v) words = ask_read (question_read v words) false
client_read says.Begin words = begin_read words
client_read says.Settle words = numbered_read (λ ask. cmd.Settle ask) words
client_read says.Snap words = snap_read words
client_read says.Drop words = named_read (λ name. cmd.Drop name) words
client_read says.Status words = named_read (λ name. cmd.Status name status.Status) words
client_read says.Await words = named_read (λ name. cmd.Status name status.Await) words
client_read says.Cursor words = cursor_read words
client_read says.Shut words = named_read (λ name. cmd.Shut name) words
client_read says.Load words = load_read words
client_read says.Install words = named_read (λ name. cmd.Install name) words

-- ---- the owner

abbrev pub no_words : List (List ℕ) → Result (Unit {0}) Why
no_words [] = Ok tt
no_words _ = Err why.Shape

abbrev pub alone_read : Cmd → List (List ℕ) → Result Cmd Why
alone_read c words = do
  none ← no_words words
  Ok c

-- `auto`, or the words of a level and a range
abbrev pub which_shape : List (List ℕ) → Result (Option (List ℕ × List ℕ × List ℕ)) Why
which_shape (word ∷ []) = if same_word word (codes "auto") then Ok None else Err why.Shape
which_shape (level ∷ lo ∷ hi ∷ []) = Ok (Some (level, lo, hi))
which_shape _ = Err why.Shape

-- a level is from 0 to 6
abbrev pub which_made : (Which → Cmd) → Option (List ℕ × List ℕ × List ℕ) → Result Cmd Why
which_made make None = Ok (make Auto)
which_made make (Some at) = do
  level ← number_read 0 6 at.0
  range ← pair_read (at.1, at.2)
  Ok (make (At level range))

abbrev pub which_read : (Which → Cmd) → List (List ℕ) → Result Cmd Why
which_read make words = do
  which ← which_shape words
  which_made make which

abbrev pub shown_read : List ℕ → Result Cmd Why
shown_read word =
    if same_word word (codes "levels") then Ok (cmd.Show what.Levels) else (
    if same_word word (codes "counts") then Ok (cmd.Show what.Counts) else (
    if same_word word (codes "snaps") then Ok (cmd.Show what.Snaps) else Err why.Shape))

abbrev pub show_read : List (List ℕ) → Result Cmd Why
show_read words = do
  word ← only_word words
  shown_read word

abbrev pub db_read : DbVerb → List (List ℕ) → Result Cmd Why
db_read owns.Seal words = alone_read cmd.Seal words
db_read owns.FlushTake words = alone_read cmd.FlushTake words
db_read owns.Put words = numbered_read (λ job. cmd.Put job) words
db_read owns.CompactTake words = which_read (λ which. cmd.CompactTake which) words
db_read owns.Build words = numbered_read (λ job. cmd.Build job) words
db_read owns.Work words = numbered_read (λ ask. cmd.Work ask) words
db_read owns.Flush words = alone_read cmd.Flush words
db_read owns.Compact words = which_read (λ which. cmd.Compact which) words
db_read owns.Reap words = alone_read cmd.Reap words
db_read owns.Show words = show_read words

-- ---- lines

-- a table's name and its operations
abbrev pub named_table_read : List ℕ → List (List ℕ) → Result Cmd Why
named_table_read word words = do
  parts ← ops_shape words
  name ← name_read word
  ops ← all_read op_read parts
  Ok (cmd.Table (table_ops name ops))

abbrev pub table_read : List (List ℕ) → Result Cmd Why
table_read [] = Err why.Shape
table_read (word ∷ words) = named_table_read word words

abbrev pub client_numbered : Result ℕ Why → Result (Option By) Why
client_numbered (Ok n) = Ok (Some (Client n))
client_numbered (Err defect) = Err why.Who

-- `c` and a number from 1 to 16
abbrev pub client_of : List ℕ → Result (Option By) Why
client_of [] = Err why.Who
client_of (b ∷ digits) = if b == 99 then client_numbered (number_read 1 16 digits) else Err why.Who

abbrev pub db_in : ScriptForm → Result (Option By) Why
db_in Run = Ok (Some Db)
db_in Threads = Err why.Who

-- `table`, `db` or a client; with workers the owner doesn't speak
abbrev pub who_read : ScriptForm → List ℕ → Result (Option By) Why
who_read form word =
    if same_word word (codes "table") then Ok None else (if same_word word (codes "db") then db_in form else client_of word)

abbrev pub found_client : ScriptForm → List ℕ → Option ClientVerb
found_client form word = find (λ v. same_word (client_word v) word && is_verb_in form v) client_verbs

abbrev pub found_db : List ℕ → Option DbVerb
found_db word = find (λ v. same_word (db_word v) word) db_verbs

abbrev pub client_line : ScriptForm → List (List ℕ) → Result Cmd Why
client_line form [] = Err why.Verb
client_line form (word ∷ words) = do
  v ← found_or why.Verb (found_client form word)
  client_read v words

abbrev pub db_line : List (List ℕ) → Result Cmd Why
db_line [] = Err why.Verb
db_line (word ∷ words) = do
  v ← found_or why.Verb (found_db word)
  db_read v words

-- the command behind the word that says who speaks
abbrev pub cmd_read : ScriptForm → Option By → List (List ℕ) → Result Cmd Why
cmd_read form None words = table_read words
cmd_read form (Some (Client n)) words = client_line form words
cmd_read form (Some Db) words = db_line words

-- what is wrong with a command whose words are well-formed
abbrev pub rules_read : List TableOps → Cmd → Result Cmd Why
rules_read tables c =
    if not (ranges_rise c) then Err why.Range else (
    if not (tables_stand tables c) then Err why.Table else (
    if not (points_rise c) then Err why.Order else Ok c))

abbrev pub is_visible : ℕ → Bool
is_visible b = nat_le 33 b && nat_le b 126

-- printable characters of ASCII, and at least one: an empty word stands at a space at an end, or between two
abbrev pub is_clean : List ℕ → Bool
is_clean [] = false
is_clean (b ∷ bs) = list_all is_visible (b ∷ bs)

abbrev pub line_of : ℕ → Option By → Cmd → Line
line_of number by c = record { number = number; by = by; cmd = c }

-- what clean words say
abbrev pub spoken_read : ScriptForm → List TableOps → ℕ → List ℕ → List (List ℕ) → Result Line Why
spoken_read form tables number who words = do
  by ← who_read form who
  c ← cmd_read form by words
  ruled ← rules_read tables c
  Ok (line_of number by ruled)

abbrev pub clean_read : ScriptForm → List TableOps → ℕ → List ℕ → List (List ℕ) → Result Line Why
clean_read form tables number who words =
    if not (list_all is_clean (who ∷ words)) then Err why.Spaces else spoken_read form tables number who words

-- the line of a number, where these tables are defined above it
abbrev pub line_read : ScriptForm → List TableOps → ℕ → List (List ℕ) → Result Line Why
line_read form tables number [] = Err why.Spaces
line_read form tables number (who ∷ words) = clean_read form tables number who words
