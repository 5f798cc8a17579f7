-- Open questions.
use Rattle.std.specs.Prelude.{◌≡◌, ℕ, ◌≤◌, All, List, map, IsTrue}
use Rattle.xdb_plain.specs.State.{OpenQuestion}
use Rattle.xdb_plain.specs.Steps.{is_client}
use Rattle.xdb_plain.specs.declared.answer.Answer.TheVariants.{Absent}
use Rattle.xdb_plain.specs.declared.question.Place.TheVariants.{Before}

-- the question without its answer and its place, which are known only where files tell
abbrev pub unanswered : OpenQuestion → OpenQuestion
unanswered q = record q { answer = Absent; place = Before }

-- a client's question, with a number that was given
pub record IsNumbered (asked : ℕ) (q : OpenQuestion) : Type 0 where
  pub from : 1 ≤ q.ask
  pub given : q.ask ≤ asked
  pub client : IsTrue (is_client q.by)

-- The questions are the plain ones but for their answers and places.
pub record AsksAgree (count : ℕ) (asks questions : List OpenQuestion) : Type 0 where
  pub same : map unanswered asks ≡ map unanswered questions
  pub numbered : All (IsNumbered count) asks
