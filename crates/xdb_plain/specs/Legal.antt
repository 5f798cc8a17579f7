-- Histories whose notes are steps, and those whose answers are right besides.
use Rattle.std.specs.Prelude.{◌≡◌, ℕ, List, [], ◌∷◌, Option, Some}
use Rattle.std.specs.Option.{option_map}
use Rattle.xdb_plain.specs.Changes.{after}
use Rattle.xdb_plain.specs.Holds.{HoldsFit}
use Rattle.xdb_plain.specs.State.{Plain, opening, found_question}
use Rattle.xdb_plain.specs.Steps.{MayStand}
use Rattle.xdb_plain.specs.declared.act.Act.{Act}
use Rattle.xdb_plain.specs.declared.act.Act.TheVariants as act
use Rattle.xdb_plain.specs.declared.answer.Answer.{Answer}
use Rattle.xdb_plain.specs.declared.reply.Reply.{Reply}
use Rattle.xdb_plain.specs.declared.reply.Reply.TheVariants.{Answered}
use Rattle.xdb_plain.specs.declared.note.Note.{Note}

-- the state after some notes
abbrev pub after_all : Plain → List Note → Plain
after_all p [] = p
after_all p (note ∷ notes) = after_all (after p note) notes

-- each note may stand where it stands
abbrev pub Legal : Plain → List Note → Type 0
Legal p [] = Unit {0}
Legal p (note ∷ notes) = MayStand p note × Legal (after p note) notes

-- each note tells the holds of versions that it takes and lets go
abbrev pub TellHolds : Plain → List Note → Type 0
TellHolds p [] = Unit {0}
TellHolds p (note ∷ notes) = HoldsFit p note × TellHolds (after p note) notes

-- the question that an act replies to
abbrev pub asked_by : Act → ℕ
asked_by (act.Ask ask question parted) = ask
asked_by (act.Settle ask) = ask
asked_by _ = 0

-- the answer that is kept since the question was asked
abbrev pub kept_answer : Plain → Act → Option Answer
kept_answer p a = option_map (λ q. q.answer) (found_question (asked_by a) p.questions)

-- a reply that carries an answer carries the one that is kept
abbrev pub AnswersRight : Plain → Act → Reply → Type 0
AnswersRight p a (Answered answer) = kept_answer p a ≡ Some answer
AnswersRight p a _ = Unit {0}

abbrev pub Right : Plain → List Note → Type 0
Right p [] = Unit {0}
Right p (note ∷ notes) = MayStand p note × AnswersRight p note.act note.reply × Right (after p note) notes

-- from the opening state on, with the first sequence number and the first file number
abbrev pub IsLegal : ℕ → ℕ → List Note → Type 0
IsLegal first_seq first_file notes = Legal (opening first_seq first_file) notes

abbrev pub IsRight : ℕ → ℕ → List Note → Type 0
IsRight first_seq first_file notes = Right (opening first_seq first_file) notes
