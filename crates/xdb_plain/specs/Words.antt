-- How commands are spelled: as words, with one space between two.
use Rattle.std.specs.Prelude.{ℕ, ◌+◌, ◌/◌, ◌%◌, Bool, ◌&&◌, ◌||◌, List, [], ◌∷◌, ◌++◌, map, Option, Some, None, nat_lt, nat_le, ◌==◌, if◌then◌else◌, codes}
use Rattle.std.specs.List.{flat_map}
use Rattle.std.specs.Fmt.{decimal}
use Rattle.xdb_key.specs.Bounds.{Bounds}
use Rattle.xdb_key.specs.declared.op.Op.{Op}
use Rattle.xdb_key.specs.declared.op.Op.TheVariants as op
use Rattle.xdb_plain.specs.declared.act.By.{By}
use Rattle.xdb_plain.specs.declared.act.By.TheVariants.{Client, Db}
use Rattle.xdb_plain.specs.declared.act.CommitForm.{CommitForm}
use Rattle.xdb_plain.specs.declared.act.CommitForm.TheVariants as form
use Rattle.xdb_plain.specs.declared.act.StatusForm.{StatusForm}
use Rattle.xdb_plain.specs.declared.act.StatusForm.TheVariants as status_form
use Rattle.xdb_plain.specs.declared.act.Which.{Which}
use Rattle.xdb_plain.specs.declared.act.Which.TheVariants.{Auto, At}
use Rattle.xdb_plain.specs.declared.act.ShowWhat.{ShowWhat}
use Rattle.xdb_plain.specs.declared.act.ShowWhat.TheVariants as show
use Rattle.xdb_plain.specs.declared.act.Act.{Act}
use Rattle.xdb_plain.specs.declared.act.Act.TheVariants as act
use Rattle.xdb_plain.specs.declared.question.Question.{Question}
use Rattle.xdb_plain.specs.declared.question.Question.TheVariants.{Get, Scan, RScan, Move}
use Rattle.xdb_plain.specs.declared.question.Step.{Step}
use Rattle.xdb_plain.specs.declared.question.Step.TheVariants.{First, Last, Next, Prev, Seek, SeekLt}
use Rattle.xdb_plain.specs.declared.script.Cmd.{Cmd}
use Rattle.xdb_plain.specs.declared.script.Cmd.TheVariants as cmd

-- letters, digits and `_`, `-`, `.`, `/` stand for themselves
abbrev pub is_plain : ℕ → Bool
is_plain b =
    (nat_le 97 b && nat_le b 122) || (nat_le 65 b && nat_le b 90) || (nat_le 45 b && nat_le b 57) || (b == 95)

abbrev pub hex_digit : ℕ → ℕ
hex_digit d = if nat_lt d 10 then 48 + d else 87 + d

-- every other byte is `%` and two digits
abbrev pub byte_word : ℕ → List ℕ
byte_word b = if is_plain b then b ∷ [] else 37 ∷ hex_digit (b / 16) ∷ hex_digit (b % 16) ∷ []

-- no bytes at all are two quotes
abbrev pub string_word : List ℕ → List ℕ
string_word [] = codes "\"\""
string_word (b ∷ bs) = flat_map byte_word (b ∷ bs)

-- `c` and the client's number
abbrev pub by_word : By → List ℕ
by_word (Client n) = 99 ∷ decimal n
by_word Db = codes "db"

-- who says a line; the definition of a table has a word in its place
abbrev pub who_word : Option By → List ℕ
who_word (Some by) = by_word by
who_word None = codes "table"

abbrev pub range_words : Bounds → List (List ℕ)
range_words range = string_word range.lo ∷ string_word range.hi ∷ []

abbrev pub span_words : List ℕ → Bounds → List (List ℕ)
span_words verb range = verb ∷ range_words range

abbrev pub op_words : Op → List (List ℕ)
op_words (op.Set key value) = codes "set" ∷ string_word key ∷ string_word value ∷ []
op_words (op.Del key) = codes "del" ∷ string_word key ∷ []
op_words (op.DelSpan range) = span_words (codes "delspan") range

-- operations with a `;` between two
abbrev pub ops_words : List Op → List (List ℕ)
ops_words [] = []
ops_words (o ∷ ops) = op_words o ++ flat_map (λ next. codes ";" ∷ op_words next) ops

-- a commit of one operation of its form goes by that form, and every other one is a batch
abbrev pub commit_words : CommitForm → List Op → List (List ℕ)
commit_words form.Put (op.Set key value ∷ []) = codes "put" ∷ string_word key ∷ string_word value ∷ []
commit_words form.Del (op.Del key ∷ []) = codes "del" ∷ string_word key ∷ []
commit_words form.DelSpan (op.DelSpan range ∷ []) = span_words (codes "delspan") range
commit_words _ ops = codes "batch" ∷ ops_words ops

-- a snapshot is named behind `at`
abbrev pub at_words : Option (List ℕ) → List (List ℕ)
at_words None = []
at_words (Some snap) = codes "at" ∷ snap ∷ []

abbrev pub scan_words : List ℕ → Bounds → ℕ → Option (List ℕ) → List (List ℕ)
scan_words verb range most at = verb ∷ range_words range ++ decimal most ∷ at_words at

abbrev pub move_words : List ℕ → Step → List (List ℕ)
move_words cursor First = codes "first" ∷ cursor ∷ []
move_words cursor Last = codes "last" ∷ cursor ∷ []
move_words cursor Next = codes "next" ∷ cursor ∷ []
move_words cursor Prev = codes "prev" ∷ cursor ∷ []
move_words cursor (Seek key) = codes "seek" ∷ cursor ∷ string_word key ∷ []
move_words cursor (SeekLt key) = codes "seeklt" ∷ cursor ∷ string_word key ∷ []

abbrev pub question_words : Question → List (List ℕ)
question_words (Get key at) = codes "get" ∷ string_word key ∷ at_words at
question_words (Scan range most at) = scan_words (codes "scan") range most at
question_words (RScan range most at) = scan_words (codes "rscan") range most at
question_words (Move cursor step) = move_words cursor step

-- a question in parts begins with `begin`
abbrev pub ask_words : Question → Bool → List (List ℕ)
ask_words question parted = if parted then codes "begin" ∷ question_words question else question_words question

abbrev pub number_words : List ℕ → ℕ → List (List ℕ)
number_words verb number = verb ∷ decimal number ∷ []

abbrev pub name_words : List ℕ → List ℕ → List (List ℕ)
name_words verb name = verb ∷ name ∷ []

abbrev pub status_verb : StatusForm → List ℕ
status_verb status_form.Status = codes "status"
status_verb status_form.Await = codes "await"

abbrev pub snap_words : List ℕ → List Bounds → List (List ℕ)
snap_words name ranges = codes "snap" ∷ name ∷ flat_map range_words ranges

abbrev pub cursor_words : List ℕ → Bounds → Option (List ℕ) → List (List ℕ)
cursor_words name range at = codes "cursor" ∷ name ∷ range_words range ++ at_words at

abbrev pub excise_words : Option Bounds → List (List ℕ)
excise_words None = []
excise_words (Some span) = span_words (codes "excise") span

abbrev pub load_words : List ℕ → List (List ℕ) → Option Bounds → List (List ℕ)
load_words load tables span = codes "load" ∷ load ∷ tables ++ excise_words span

-- a compaction begins by itself, or at a level and a range
abbrev pub which_words : List ℕ → Which → List (List ℕ)
which_words verb Auto = verb ∷ codes "auto" ∷ []
which_words verb (At level range) = verb ∷ decimal level ∷ range_words range

abbrev pub show_words : ShowWhat → List (List ℕ)
show_words show.Levels = codes "show" ∷ codes "levels" ∷ []
show_words show.Counts = codes "show" ∷ codes "counts" ∷ []
show_words show.Snaps = codes "show" ∷ codes "snaps" ∷ []

-- the words of a command behind the word that says who speaks
abbrev pub cmd_words : Cmd → List (List ℕ)
cmd_words (cmd.Table table) = table.name ∷ ops_words table.ops
cmd_words (cmd.Commit form ops) = commit_words form ops
cmd_words (cmd.Ask question parted) = ask_words question parted
cmd_words (cmd.Settle ask) = number_words (codes "settle") ask
cmd_words (cmd.Snap name ranges) = snap_words name ranges
cmd_words (cmd.Drop name) = name_words (codes "drop") name
cmd_words (cmd.Status name form) = name_words (status_verb form) name
cmd_words (cmd.Cursor name range at) = cursor_words name range at
cmd_words (cmd.Shut name) = name_words (codes "shut") name
cmd_words (cmd.Load load tables span) = load_words load tables span
cmd_words (cmd.Install load) = name_words (codes "install") load
cmd_words cmd.Seal = codes "seal" ∷ []
cmd_words cmd.FlushTake = codes "flush-take" ∷ []
cmd_words (cmd.Put job) = number_words (codes "put") job
cmd_words (cmd.CompactTake which) = which_words (codes "compact-take") which
cmd_words (cmd.Build job) = number_words (codes "build") job
cmd_words (cmd.Work ask) = number_words (codes "work") ask
cmd_words cmd.Flush = codes "flush" ∷ []
cmd_words (cmd.Compact which) = which_words (codes "compact") which
cmd_words cmd.Reap = codes "reap" ∷ []
cmd_words (cmd.Show what) = show_words what

-- the words of the command that an act is printed as
abbrev pub act_words : Act → List (List ℕ)
act_words (act.Commit form ops) = commit_words form ops
act_words act.Seal = codes "seal" ∷ []
act_words act.FlushTake = codes "flush-take" ∷ []
act_words (act.CompactTake which) = which_words (codes "compact-take") which
act_words (act.Put job) = number_words (codes "put") job
act_words (act.Build job) = number_words (codes "build") job
act_words (act.Work ask) = number_words (codes "work") ask
act_words (act.LoadOpen load tables span) = load_words load (map (λ t. t.name) tables) span
act_words (act.LoadKept load) = name_words (codes "load") load
act_words (act.Install load) = name_words (codes "install") load
act_words (act.Snap name ranges) = snap_words name ranges
act_words (act.Drop name) = name_words (codes "drop") name
act_words (act.Status name form) = name_words (status_verb form) name
act_words (act.Cursor name range at) = cursor_words name range at
act_words (act.Shut name) = name_words (codes "shut") name
act_words (act.Ask ask question parted) = ask_words question parted
act_words (act.Settle ask) = number_words (codes "settle") ask
act_words act.Reap = codes "reap" ∷ []
act_words (act.Remove num) = number_words (codes "remove") num
act_words (act.Show what) = show_words what
