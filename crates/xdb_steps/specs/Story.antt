-- A short story of an engine's parts, step by step: a question is asked, and answered after a flush has put a table in
-- place of the group that it was asked over. A second flush puts a range delete, and a last commit stands above both.
use Rattle.std.specs.Prelude.{ℕ, ◌==◌, true, List, [], ◌∷◌, map, Some, None, IsTrue, if◌then◌else◌}
use Rattle.xdb_edit.specs.Changes.{Changes, changes}
use Rattle.xdb_key.specs.Bounds.{Bounds, bounds, successor, key_hull}
use Rattle.xdb_key.specs.Entries.{tombstone}
use Rattle.xdb_key.specs.declared.op.Op.{Op}
use Rattle.xdb_key.specs.declared.op.Op.TheVariants.{Set, DelSpan}
use Rattle.xdb_mem.specs.Queue.{opening as queue_opening}
use Rattle.xdb_meta.specs.Table.{Table, physical}
use Rattle.xdb_plain.specs.Answers.{Landing, landing}
use Rattle.xdb_plain.specs.Changes.{after}
use Rattle.xdb_plain.specs.Legal.{after_all}
use Rattle.xdb_plain.specs.State.{Plain, opening}
use Rattle.xdb_plain.specs.declared.act.Act.TheVariants as act
use Rattle.xdb_plain.specs.declared.act.By.TheVariants.{Client, Db}
use Rattle.xdb_plain.specs.declared.act.CommitForm.TheVariants as form
use Rattle.xdb_plain.specs.declared.answer.Answer.TheVariants.{Value}
use Rattle.xdb_plain.specs.declared.note.HoldNote.TheVariants.{Hold as Taken, Release}
use Rattle.xdb_plain.specs.declared.note.Note.{Note}
use Rattle.xdb_plain.specs.declared.question.Place.TheVariants.{Before}
use Rattle.xdb_plain.specs.declared.question.Question.{Question}
use Rattle.xdb_plain.specs.declared.question.Question.TheVariants.{Get}
use Rattle.xdb_plain.specs.declared.reply.Reply.TheVariants as reply
use Rattle.xdb_rangedel.specs.Content.{Item, entry, span}
use Rattle.xdb_steps.specs.Core.{Core, Contents, core, numbers, no_files, committed_core, sealed_core, asked_core, next_hold, holding_core, flushing_core, flushed_core, ended_core}
use Rattle.xdb_steps.specs.Notes.{plain_note, held_note, put_note}
use Rattle.xdb_steps.specs.Step.{HeldStep}

-- each note is a step of the parts that the one before it left, and leads to these
abbrev pub AreSteps : Core → Plain → List (Note × Core) → Type 0
AreSteps c p [] = Unit {0}
AreSteps c p (s ∷ ss) = HeldStep (IsTrue true) 0 c s.1 p s.0 × AreSteps s.1 (after p s.0) ss

-- the first parts, which agree with the opening state
abbrev pub first_core : Core
first_core = core queue_opening (numbers 1 1 0 0) [] no_files []

-- the key and the value
abbrev pub a : List ℕ
a = 97 ∷ []

abbrev pub one : List ℕ
one = 49 ∷ []

abbrev pub ops : List Op
ops = Set a one ∷ []

abbrev pub question : Question
question = Get a None

abbrev pub answer : Landing
answer = landing (Value one) Before

-- what the group has, and so what its table has
abbrev pub content : List Item
content = entry a 1 (Some one) ∷ []

abbrev pub flushed_table : Table
flushed_table = physical 1 (record { lo = a; hi = successor a; seq_lo = 1; seq_hi = 1 }) 0 100

abbrev pub edit : Changes
edit = changes [] (1 ∷ []) ((0, flushed_table) ∷ [])

abbrev pub tables : Contents
tables = (content ∷ []) ∷ [] ∷ [] ∷ [] ∷ [] ∷ [] ∷ [] ∷ []

abbrev pub after_commit : Core
after_commit = committed_core first_core ops

abbrev pub after_seal : Core
after_seal = sealed_core after_commit

abbrev pub after_ask : Core
after_ask = holding_core (asked_core after_seal (Client 1) question true answer) (next_hold after_seal 0 ∷ [])

abbrev pub after_take : Core
after_take = flushing_core after_ask 1 content []

abbrev pub after_put : Core
after_put = flushed_core after_take 1 edit tables (1 ∷ [])

abbrev pub after_settle : Core
after_settle = holding_core (ended_core after_put 1) []

-- all keys from the first one up to the next letter
abbrev pub range : Bounds
range = bounds a (98 ∷ [])

abbrev pub range_ops : List Op
range_ops = DelSpan range ∷ []

abbrev pub range_content : List Item
range_content = span (tombstone range 2) ∷ []

abbrev pub range_table : Table
range_table = physical 2 (record { lo = range.lo; hi = range.hi; seq_lo = 2; seq_hi = 2 }) 0 100

abbrev pub range_edit : Changes
range_edit = changes [] (2 ∷ []) ((0, range_table) ∷ [])

-- what each of the two tables has
abbrev pub content_of : Table → List Item
content_of t = if t.num == 1 then content else range_content

abbrev pub both_tables : Contents
both_tables = (content ∷ range_content ∷ []) ∷ [] ∷ [] ∷ [] ∷ [] ∷ [] ∷ [] ∷ []

abbrev pub after_range : Core
after_range = committed_core after_settle range_ops

abbrev pub after_second_seal : Core
after_second_seal = sealed_core after_range

abbrev pub after_second_take : Core
after_second_take = flushing_core after_second_seal 2 range_content []

abbrev pub after_second_put : Core
after_second_put = flushed_core after_second_take 2 range_edit both_tables (2 ∷ 1 ∷ [])

-- a group above two tables, of which one is a range delete
abbrev pub last_core : Core
last_core = committed_core after_second_put ops

abbrev pub story : List (Note × Core)
story =
    (plain_note (Client 1) (act.Commit form.Put ops) reply.Done, after_commit)
    ∷ (plain_note Db act.Seal (reply.Group 1), after_seal)
    ∷ (held_note (Client 1) (act.Ask 1 question true) (reply.Asked 1) (Taken 0 0 ∷ []), after_ask)
    ∷ (plain_note Db act.FlushTake (reply.Job 1), after_take)
    ∷ (put_note 1 edit [], after_put)
    ∷ (held_note (Client 1) (act.Settle 1) (reply.Answered (Value one)) (Release 0 ∷ []), after_settle)
    ∷ (plain_note (Client 1) (act.Commit form.Put range_ops) reply.Done, after_range)
    ∷ (plain_note Db act.Seal (reply.Group 2), after_second_seal)
    ∷ (plain_note Db act.FlushTake (reply.Job 2), after_second_take)
    ∷ (put_note 2 range_edit [], after_second_put)
    ∷ (plain_note (Client 1) (act.Commit form.Put ops) reply.Done, last_core)
    ∷ []

-- the notes alone, and the state that they lead to
abbrev pub last_state : Plain
last_state = after_all (opening 1 1) (map (λ s. s.0) story)

-- what is handed out then for a question about the key: what the group has of it, and both tables
abbrev pub last_part : List Item
last_part = entry a 3 (Some one) ∷ []

abbrev pub last_handed : List (Bounds × List Item)
last_handed = (key_hull a, content) ∷ (range, range_content) ∷ []
