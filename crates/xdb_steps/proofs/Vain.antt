-- Replies that tell that something ended in vain.
use Rattle.std.proofs.Common.{◌≡◌, ℕ, true, List, [], ◌∷◌, Option, None, refl}
use Rattle.std.specs.List.{list_any}
use Rattle.xdb_edit.specs.Changes.{Changes}
use Rattle.xdb_plain.specs.Changes.{after}
use Rattle.xdb_plain.specs.Legal.{AnswersRight}
use Rattle.xdb_plain.specs.Outcomes.{outcome, fails}
use Rattle.xdb_plain.specs.Replies.{same_reply}
use Rattle.xdb_plain.specs.State.{Plain}
use Rattle.xdb_plain.specs.Steps.{FitsEdit, IsShown, IsToldBy}
use Rattle.xdb_plain.specs.declared.act.Act.{Act}
use Rattle.xdb_plain.specs.declared.act.By.{By}
use Rattle.xdb_plain.specs.declared.answer.Answer.TheVariants.{Absent}
use Rattle.xdb_plain.specs.declared.note.HoldNote.{HoldNote}
use Rattle.xdb_plain.specs.declared.reply.Reply.{Reply}
use Rattle.xdb_plain.specs.declared.reply.Reply.TheVariants.{Answered, NoSuch, Memory, Fault, Damaged}
use Rattle.xdb_steps.specs.Notes.{full_note}

-- what such a reply gives wherever it stands; the state behind it is the one behind want of memory
pub record InVain (r : Reply) : Type 0 where
  pub edit : (p : Plain) (a : Act) → FitsEdit p a r None
  pub shown : (p : Plain) → IsShown p r
  pub answers : (p : Plain) (a : Act) → AnswersRight p a r
  pub told_by : (asker by : By) → asker ≡ by → IsToldBy r asker by
  pub of_work : list_any (same_reply r) (NoSuch ∷ Fault ∷ Damaged 0 0 ∷ Memory ∷ []) ≡ true
  pub of_ask : list_any (same_reply r) (Answered Absent ∷ Fault ∷ Damaged 0 0 ∷ Memory ∷ []) ≡ true
  pub same : (p : Plain) (by : By) (a : Act) (edit : Option Changes) (holds : List HoldNote) (tried : List ℕ) → after p (full_note by a r edit holds tried) ≡ after p (full_note by a Memory edit holds tried)

pub in-vain : (r : Reply) → outcome r ≡ fails → InVain r
in-vain Fault e = record { edit = λ p a. refl; shown = λ p. tt; answers = λ p a. tt; told_by = λ x y is. is; of_work = refl; of_ask = refl; same = λ p by a edit holds tried. refl }
in-vain Memory e = record { edit = λ p a. refl; shown = λ p. tt; answers = λ p a. tt; told_by = λ x y is. is; of_work = refl; of_ask = refl; same = λ p by a edit holds tried. refl }
in-vain (Damaged backing at) e = record { edit = λ p a. refl; shown = λ p. tt; answers = λ p a. tt; told_by = λ x y is. is; of_work = refl; of_ask = refl; same = λ p by a edit holds tried. refl }
in-vain _ e = absurd (cc)
