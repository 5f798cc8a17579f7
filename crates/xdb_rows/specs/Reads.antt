-- Histories of commits and reads.
use Rattle.std.specs.Prelude.{ℕ, true, List, [], ◌∷◌, ◌++◌, None, codes}
use Rattle.xdb_key.specs.declared.op.Op.TheVariants.{Set, DelSpan}
use Rattle.xdb_plain.specs.declared.act.Act.TheVariants.{Work, Settle}
use Rattle.xdb_plain.specs.declared.answer.Answer.TheVariants.{Value, Absent, Found}
use Rattle.xdb_plain.specs.declared.note.HoldNote.TheVariants.{Hold}
use Rattle.xdb_plain.specs.declared.note.Note.{Note}
use Rattle.xdb_plain.specs.declared.question.Question.TheVariants.{RScan}
use Rattle.xdb_plain.specs.declared.reply.Reply.TheVariants as reply
use Rattle.xdb_plain.specs.declared.script.Cmd.TheVariants as cmd
use Rattle.xdb_plain.specs.declared.script.Line.{Line}
use Rattle.xdb_rows.specs.Lines as line
use Rattle.xdb_rows.specs.Notes.{c1, c2, db, from_to, put, del, batch, read, get, get_at, scan, let_go, ask_held, ask_refused}

abbrev pub empty_script : List Note
empty_script = []

abbrev pub empty_script_script : List Line
empty_script_script = []

abbrev pub empty_script_text : List (List ℕ)
empty_script_text = []

abbrev pub stored_run : List Note
stored_run =
    c1 (put (codes "a") (codes "1")) reply.Done
    ∷ read 1 (get (codes "a")) 1 0 (Value (codes "1"))
    ++ c1 (del (codes "a")) reply.Done
    ∷ read 2 (get (codes "a")) 2 0 Absent

abbrev pub stored_run_script : List Line
stored_run_script =
    line.lines (line.c1 (line.put (codes "a") (codes "1"))
    ∷ line.c1 (line.ask (get (codes "a")))
    ∷ line.c1 (line.del (codes "a"))
    ∷ line.c1 (line.ask (get (codes "a")))
    ∷ [])

abbrev pub stored_run_text : List (List ℕ)
stored_run_text =
    codes "c1 put a 1 -> done"
    ∷ codes "c1 get a -> value 1"
    ∷ codes "c1 del a -> done"
    ∷ codes "c1 get a -> none"
    ∷ []

abbrev pub two_clients : List Note
two_clients =
    read 1 (get (codes "a")) 1 0 Absent
    ++ c2 (put (codes "a") (codes "x/1")) reply.Done
    ∷ read 2 (get (codes "a")) 2 0 (Value (codes "x/1"))

abbrev pub two_clients_script : List Line
two_clients_script =
    line.lines (line.c1 (line.ask (get (codes "a")))
    ∷ line.c2 (line.put (codes "a") (codes "x/1"))
    ∷ line.c1 (line.ask (get (codes "a")))
    ∷ [])

abbrev pub two_clients_text : List (List ℕ)
two_clients_text =
    codes "c1 get a -> none"
    ∷ codes "c2 put a x/1 -> done"
    ∷ codes "c1 get a -> value x/1"
    ∷ []

-- the order inside a batch
abbrev pub batch_order : List Note
batch_order =
    c1 (batch (Set (codes "b") (codes "1") ∷ DelSpan (from_to (codes "a") (codes "c")) ∷ Set (codes "a") (codes "2") ∷ [])) reply.Done
    ∷ read 1 (scan (from_to (codes "a") (codes "z"))) 1 0 (Found ((codes "a", codes "2") ∷ []))
    ++ read 2 (RScan (from_to (codes "b") (codes "z")) 10 None) 2 0 (Found [])

abbrev pub batch_order_script : List Line
batch_order_script =
    line.lines (line.c1 (line.batch (Set (codes "b") (codes "1") ∷ DelSpan (from_to (codes "a") (codes "c")) ∷ Set (codes "a") (codes "2") ∷ []))
    ∷ line.c1 (line.ask (scan (from_to (codes "a") (codes "z"))))
    ∷ line.c1 (line.ask (RScan (from_to (codes "b") (codes "z")) 10 None))
    ∷ [])

abbrev pub batch_order_text : List (List ℕ)
batch_order_text =
    codes "c1 batch set b 1 ; delspan a c ; set a 2 -> done"
    ∷ codes "c1 scan a z 10 -> found a=2"
    ∷ codes "c1 rscan b z 10 -> found"
    ∷ []

-- a question in parts has the answer of its asking
abbrev pub question_in_parts : List Note
question_in_parts =
    c1 (put (codes "c") (codes "1")) reply.Done
    ∷ ask_held 1 (get (codes "c")) true (Hold 1 0)
    ∷ c1 (put (codes "c") (codes "2")) reply.Done
    ∷ c1 (Settle 1) reply.NotYet
    ∷ let_go (Settle 1) (reply.Answered (Value (codes "1"))) 1
    ∷ c1 (Settle 1) reply.NoSuch
    ∷ db (Work 1) reply.NoSuch
    ∷ []

abbrev pub question_in_parts_script : List Line
question_in_parts_script =
    line.lines (line.c1 (line.put (codes "c") (codes "1"))
    ∷ line.c1 (line.ask_in_parts (get (codes "c")))
    ∷ line.c1 (line.put (codes "c") (codes "2"))
    ∷ line.c1 (cmd.Settle 1)
    ∷ line.db (cmd.Work 1)
    ∷ line.c1 (cmd.Settle 1)
    ∷ line.c1 (cmd.Settle 1)
    ∷ line.db (cmd.Work 1)
    ∷ [])

abbrev pub question_in_parts_text : List (List ℕ)
question_in_parts_text =
    codes "c1 put c 1 -> done"
    ∷ codes "c1 begin get c -> asked 1"
    ∷ codes "c1 put c 2 -> done"
    ∷ codes "c1 settle 1 -> not-yet"
    ∷ codes "c1 settle 1 -> value 1"
    ∷ codes "c1 settle 1 -> no-such"
    ∷ codes "db work 1 -> no-such"
    ∷ []

-- a read at a snapshot that there isn't
abbrev pub read_at_nothing : List Note
read_at_nothing = ask_refused (get_at (codes "a") (codes "s9")) reply.NoSuch ∷ []

abbrev pub read_at_nothing_script : List Line
read_at_nothing_script = line.lines (line.c1 (line.ask (get_at (codes "a") (codes "s9"))) ∷ [])

abbrev pub read_at_nothing_text : List (List ℕ)
read_at_nothing_text = codes "c1 get a at s9 -> no-such" ∷ []

-- the last sequence numbers, from 2^56 - 1 on
abbrev pub last_numbers : List Note
last_numbers =
    c1 (batch (Set (codes "a") (codes "1") ∷ Set (codes "b") (codes "1") ∷ [])) reply.Spent
    ∷ c1 (put (codes "a") (codes "1")) reply.Done
    ∷ c1 (put (codes "a") (codes "1")) reply.Spent
    ∷ []

abbrev pub last_numbers_script : List Line
last_numbers_script =
    line.lines (line.c1 (line.batch (Set (codes "a") (codes "1") ∷ Set (codes "b") (codes "1") ∷ []))
    ∷ line.c1 (line.put (codes "a") (codes "1"))
    ∷ line.c1 (line.put (codes "a") (codes "1"))
    ∷ [])

abbrev pub last_numbers_text : List (List ℕ)
last_numbers_text =
    codes "c1 batch set a 1 ; set b 1 -> spent"
    ∷ codes "c1 put a 1 -> done"
    ∷ codes "c1 put a 1 -> spent"
    ∷ []
