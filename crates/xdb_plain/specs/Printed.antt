-- The printed line of a note: the command's words, an arrow and the reply.
use Rattle.std.specs.Prelude.{ℕ, Bool, true, false, not, ◌&&◌, List, [], ◌∷◌, ◌++◌, map, if◌then◌else◌, codes}
use Rattle.std.specs.List.{flat_map, join_by, enumerate_from}
use Rattle.std.specs.Fmt.{decimal}
use Rattle.xdb_key.specs.declared.state.SnapState.{SnapState}
use Rattle.xdb_key.specs.declared.state.SnapState.TheVariants as state
use Rattle.xdb_meta.specs.Table.{Table}
use Rattle.xdb_edit.specs.Versions.{LevelLists}
use Rattle.xdb_plain.specs.Words.{by_word, act_words, string_word}
use Rattle.xdb_plain.specs.declared.act.Act.{Act}
use Rattle.xdb_plain.specs.declared.act.Act.TheVariants as act
use Rattle.xdb_plain.specs.declared.answer.Answer.{Answer}
use Rattle.xdb_plain.specs.declared.answer.Answer.TheVariants.{Value, Absent, Found, Pair, End}
use Rattle.xdb_plain.specs.declared.reply.Reply.{Reply}
use Rattle.xdb_plain.specs.declared.reply.Reply.TheVariants as reply
use Rattle.xdb_plain.specs.declared.note.Note.{Note}

-- words with a space between two
abbrev pub joined : List (List ℕ) → List ℕ
joined words = join_by (λ word. word) (32 ∷ []) words

-- `none` where there are no words
abbrev pub or_none : List (List ℕ) → List ℕ
or_none [] = codes "none"
or_none (word ∷ words) = joined (word ∷ words)

abbrev pub pair_word : List ℕ × List ℕ → List ℕ
pair_word pair = string_word pair.0 ++ 61 ∷ string_word pair.1

abbrev pub answer_text : Answer → List ℕ
answer_text (Value value) = codes "value " ++ string_word value
answer_text Absent = codes "none"
answer_text (Found pairs) = joined (codes "found" ∷ map pair_word pairs)
answer_text (Pair key value) = codes "at " ++ pair_word (key, value)
answer_text End = codes "end"

-- a number, and for a part of another table's file `@` and that file's
abbrev pub table_number : Table → List ℕ
table_number t = if t.virt then decimal t.num ++ 64 ∷ decimal t.backing else decimal t.num

-- a table and its bounds, as `2@1[a,b)`
abbrev pub table_word : Table → List ℕ
table_word t = table_number t ++ 91 ∷ string_word t.lo ++ 44 ∷ string_word t.hi ++ 41 ∷ []

-- a level with tables is `L`, its number and its tables
abbrev pub level_words : ℕ → List Table → List (List ℕ)
level_words level [] = []
level_words level (t ∷ ts) = (76 ∷ decimal level) ∷ map table_word (t ∷ ts)

abbrev pub levels_words : LevelLists → List (List ℕ)
levels_words levels = flat_map (λ l. level_words l.0 l.1) (enumerate_from 0 levels)

abbrev pub count_word : ℕ × ℕ → List ℕ
count_word c = decimal c.0 ++ 61 ∷ decimal c.1

abbrev pub state_text : SnapState → List ℕ
state_text (state.Pinned group) = codes "pinned/" ++ decimal group
state_text state.FileOnly = codes "file-only"
state_text (state.Excised load) = codes "excised/" ++ load

abbrev pub snap_word : List ℕ × SnapState → List ℕ
snap_word s = s.0 ++ 61 ∷ state_text s.1

abbrev pub is_load : Act → Bool
is_load (act.LoadOpen load tables span) = true
is_load _ = false

abbrev pub nothing_text : Act → List ℕ
nothing_text a = if is_load a then codes "nothing" else codes "none"

-- the reply to an act
abbrev pub reply_text : Act → Reply → List ℕ
reply_text a reply.Done = codes "done"
reply_text a reply.Installed = codes "installed"
reply_text a reply.Opened = codes "opened"
reply_text a reply.Opening = codes "opening"
reply_text a reply.Dropped = codes "dropped"
reply_text a reply.Shut = codes "shut"
reply_text a reply.CursorOn = codes "open"
reply_text a (reply.Answered answer) = answer_text answer
reply_text a (reply.Asked ask) = codes "asked " ++ decimal ask
reply_text a (reply.Group group) = codes "group " ++ decimal group
reply_text a (reply.Job job) = codes "job " ++ decimal job
reply_text a (reply.Took num) = decimal num
reply_text a reply.FileOnly = codes "file-only"
reply_text a (reply.Pinned group) = codes "pinned " ++ decimal group
reply_text a (reply.Excised load) = codes "excised " ++ load
reply_text a (reply.Fenced load) = codes "fenced " ++ load
reply_text a (reply.Waits group) = codes "waits " ++ decimal group
reply_text a (reply.Cancelled load) = codes "cancelled " ++ load
reply_text a (reply.Busy ask) = codes "busy " ++ decimal ask
reply_text a (reply.Overlap first second) = codes "overlap " ++ first ++ 32 ∷ second
reply_text a reply.Nothing = nothing_text a
reply_text a reply.NoSuch = codes "no-such"
reply_text a reply.Outside = codes "outside"
reply_text a reply.NameInUse = codes "name-in-use"
reply_text a reply.TooMany = codes "too-many"
reply_text a reply.BadRanges = codes "bad-ranges"
reply_text a reply.Spent = codes "spent"
reply_text a reply.NotYet = codes "not-yet"
reply_text a reply.Fault = codes "fault"
reply_text a reply.Stuck = codes "stuck"
reply_text a reply.Memory = codes "memory"
reply_text a (reply.Damaged backing at) = codes "damaged " ++ decimal backing ++ 32 ∷ decimal at
reply_text a (reply.Levels levels) = or_none (levels_words levels)
reply_text a (reply.Counts counts) = or_none (map count_word counts)
reply_text a (reply.Snaps snaps) = or_none (map snap_word snaps)

-- a question was opened, and a load's opening began
abbrev pub is_asked : Reply → Bool
is_asked (reply.Asked ask) = true
is_asked _ = false

abbrev pub is_opening : Reply → Bool
is_opening reply.Opening = true
is_opening _ = false

-- a read's line is printed with its answer and not when it is asked, and a load's when its opening ends
abbrev pub is_silent : Act → Reply → Bool
is_silent (act.Ask ask question parted) r = not parted && is_asked r
is_silent (act.LoadOpen load tables span) r = is_opening r
is_silent _ r = false

-- words, with a space before each
abbrev pub spaced : List (List ℕ) → List ℕ
spaced words = flat_map (λ word. 32 ∷ word) words

abbrev pub line_of : Note → List ℕ
line_of note =
    if is_silent note.act note.reply then [] else
    by_word note.by ++ spaced (act_words note.act) ++ codes " -> " ++ reply_text note.act note.reply ++ 10 ∷ []

-- the lines in order
abbrev pub text_of : List Note → List ℕ
text_of notes = flat_map line_of notes
