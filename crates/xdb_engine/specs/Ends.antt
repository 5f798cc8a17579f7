-- How questions end: answered, or in vain.
use Rattle.std.specs.Prelude.{◌≡◌, ℕ, false, List, Option, Some, None, is_some, if◌then◌else◌}
use Rattle.std.specs.Option.{option_map}
use Rattle.xdb_plain.specs.declared.act.Act.{Act}
use Rattle.xdb_plain.specs.declared.act.Act.TheVariants as act
use Rattle.xdb_plain.specs.declared.act.By.{By}
use Rattle.xdb_plain.specs.declared.act.By.TheVariants.{Db}
use Rattle.xdb_plain.specs.declared.note.Note.{Note}
use Rattle.xdb_plain.specs.declared.reply.Reply.{Reply}
use Rattle.xdb_plain.specs.declared.reply.Reply.TheVariants as reply
use Rattle.xdb_read.specs.declared.parts.ReadDone.{ReadDone}
use Rattle.xdb_steps.specs.Notes.{held_note}
use Rattle.xdb_vset.specs.Hold.{Hold}
use Rattle.xdb_engine.specs.Holds.{release_notes}
use Rattle.xdb_engine.specs.Questions.{Asking, question_by, question_of, without}
use Rattle.xdb_engine.specs.declared.ids.Id.{Id}
use Rattle.xdb_engine.specs.declared.questions.Settled.{Settled}

-- the reply to a settle, by what is kept
abbrev pub answer_of : Option ReadDone → Reply
answer_of None = reply.NotYet
answer_of (Some done) = reply.Answered done.answer

module _ {F : Type 0} where
  -- the act that a reply to the question is told as, where the client gets it
  abbrev pub answer_act : Asking F → Act
  answer_act q = if q.parted then act.Settle q.ask else act.Ask q.ask q.given.question false

  -- the act that its failure is told as, and who tells it
  abbrev pub failure_act : Asking F → Act
  failure_act q = if q.parted then act.Work q.ask else act.Ask q.ask q.given.question false

  abbrev pub failure_by : Asking F → By
  failure_by q = if q.parted then Db else q.by

  -- The note of a settle, by the question and its result: the act, and the reply. The question ends only with an answer.
  abbrev pub settle_act : ℕ → Option (Asking F) → Act
  settle_act ask None = act.Settle ask
  settle_act ask (Some q) = if is_some q.kept then answer_act q else act.Settle ask

  abbrev pub settle_reply : Option (Asking F) → Reply
  settle_reply None = reply.NoSuch
  settle_reply (Some q) = answer_of q.kept

  abbrev pub settle_leaves : ℕ → Option (Asking F) → List (Asking F) → List (Asking F)
  settle_leaves ask None questions = questions
  settle_leaves ask (Some q) questions = if is_some q.kept then without ask questions else questions

  -- what the question lets go of
  abbrev pub settle_hold : Option (Asking F) → Option Hold
  settle_hold None = None
  settle_hold (Some q) = if is_some q.kept then Some q.hold else None

  -- the same by the questions that are open
  abbrev pub settle_note : By → ℕ → List (Asking F) → Reply → Note
  settle_note by ask questions reply = let q = question_of ask questions in
      held_note by (settle_act ask q) reply (release_notes (settle_hold q))

  abbrev pub after_settle : ℕ → List (Asking F) → List (Asking F)
  after_settle ask questions = settle_leaves ask (question_of ask questions) questions

  -- what a settle makes of the question of the number, if there is one
  pub record IsSettled (ask : ℕ) (question : Option (Asking F)) (old new : List (Asking F)) (settled : Settled) : Type 0 where
    pub same_act : settled.act ≡ settle_act ask question
    pub noted : settled.noted ≡ settle_reply question
    pub told : settled.told ≡ settle_reply question
    pub hold : settled.hold ≡ settle_hold question
    pub leaves : new ≡ settle_leaves ask question old

  -- who tells the failure of a question that is there, and as what
  abbrev pub failure : Option (Asking F) → By × Act
  failure None = (Db, act.Work 0)
  failure (Some q) = (failure_by q, failure_act q)

  -- what it lets go of
  abbrev pub failure_hold : Option (Asking F) → Option Hold
  failure_hold question = option_map (λ q. q.hold) question

  -- the note of its failure
  abbrev pub failure_note : Option (Asking F) → Reply → Note
  failure_note question reply =
      held_note (failure question).0 (failure question).1 reply (release_notes (failure_hold question))

  -- the questions without that one
  abbrev pub failure_leaves : Option (Asking F) → List (Asking F) → List (Asking F)
  failure_leaves None questions = questions
  failure_leaves (Some q) questions = without q.ask questions

  -- the same by the questions that are open
  abbrev pub lack_note : Id → List (Asking F) → Reply → Note
  lack_note id questions reply = failure_note (question_by id questions) reply

  abbrev pub after_failure : Id → List (Asking F) → List (Asking F)
  after_failure id questions = failure_leaves (question_by id questions) questions
