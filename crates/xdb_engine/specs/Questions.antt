-- Open questions as an engine keeps them, the one that was asked first in front.
use Rattle.std.specs.Prelude.{◌≡◌, ℕ, ◌<◌, ◌≤◌, Bool, true, false, not, All, List, [], length, map, filter, Option, Some, None, ◌==◌, is_some, IfSome, if◌then◌else◌}
use Rattle.std.specs.List.{find, HoldsAt}
use Rattle.std.specs.Option.{option_map}
use Rattle.xdb_lists.specs.Keyed.{IsRising}
use Rattle.xdb_laws.specs.Answered.{answered}
use Rattle.xdb_laws.specs.Image.{image, inside}
use Rattle.xdb_order.specs.Desk.{Looks}
use Rattle.xdb_order.specs.declared.story.Story.{Story}
use Rattle.xdb_plain.specs.Answers.{Landing}
use Rattle.xdb_plain.specs.State.{OpenQuestion}
use Rattle.xdb_plain.specs.declared.act.By.{By}
use Rattle.xdb_rangedel.specs.Content.{IsClear}
use Rattle.xdb_read.specs.Fits.{mem_content, ReadFits}
use Rattle.xdb_read.specs.declared.parts.ReadDone.{ReadDone}
use Rattle.xdb_read.specs.declared.parts.ReadParts.{ReadParts}
use Rattle.xdb_steps.specs.Parts.Asks.{IsNumbered}
use Rattle.xdb_vset.specs.Hold.{Hold}
use Rattle.xdb_engine.specs.declared.ids.Id.{Id}
use Rattle.xdb_engine.specs.declared.ids.Id.TheVariants as ids

-- An open question: who asked it and how, what was handed out for it, the hold of the version that this stands on, how
-- often its desk looked for the result, and the result once it is kept.
pub record Asking (F : Type 0) : Type 0 where
  pub ask : ℕ
  pub by : By
  pub parted : Bool
  pub given : ReadParts F
  pub hold : Hold
  pub story : Story
  pub kept : Option ReadDone

module _ {F : Type 0} where
  abbrev pub asking : ℕ → By → Bool → ReadParts F → Hold → Story → Option ReadDone → Asking F
  asking ask by parted given hold story kept =
      record { ask = ask; by = by; parted = parted; given = given; hold = hold; story = story; kept = kept }

  -- the same question with another story and result
  abbrev pub with_story : Asking F → Story → Option ReadDone → Asking F
  with_story q story kept = asking q.ask q.by q.parted q.given q.hold story kept

  -- the question of a number
  abbrev pub question_of : ℕ → List (Asking F) → Option (Asking F)
  question_of ask questions = find (λ q. q.ask == ask) questions

  -- the question that work under way is for
  abbrev pub question_by : Id → List (Asking F) → Option (Asking F)
  question_by (ids.Ask ask) questions = question_of ask questions
  question_by (ids.Job job) questions = None
  question_by (ids.Load load) questions = None

  -- the others
  abbrev pub without : ℕ → List (Asking F) → List (Asking F)
  without ask questions = filter (λ q. not (q.ask == ask)) questions

  -- the questions with this one in place of that of its number
  abbrev pub put : Asking F → List (Asking F) → List (Asking F)
  put r questions = map (λ q. if q.ask == r.ask then r else q) questions

  -- the questions with this result kept with that one
  abbrev pub with_result : Asking F → ReadDone → List (Asking F) → List (Asking F)
  with_result q done questions = put (with_story q q.story (Some done)) questions

  -- what was handed out for work that is under way
  abbrev pub parts_by : Id → List (Asking F) → Option (ReadParts F)
  parts_by id questions = option_map (λ q. q.given) (question_by id questions)

  -- where the question of a number stands
  abbrev pub IsPlaceOf : ℕ → List (Asking F) → Option ℕ → Type 0
  IsPlaceOf ask questions None = question_of ask questions ≡ None
  IsPlaceOf ask questions (Some at) = (at < length questions) × HoldsAt (λ q. q.ask ≡ ask) questions at

  -- what parts without tables mean: no tables are handed out yet
  abbrev pub mem_meant : ReadParts F → Landing
  mem_meant parts = answered (inside parts.bounds (image (mem_content parts) parts.at)) parts.bounds parts.place parts.question

  -- the plain model's question, by what its parts mean
  abbrev pub plain_question : Asking F → OpenQuestion
  plain_question q = record {
    ask = q.ask;
    by = q.by;
    question = q.given.question;
    parted = q.parted;
    answer = (mem_meant q.given).answer;
    place = (mem_meant q.given).place;
  }

  -- it has a number that was given, and was asked by a client
  abbrev pub HasNumber : ℕ → Asking F → Type 0
  HasNumber asked q = IsNumbered asked (plain_question q)

  -- a result is kept with it
  abbrev pub is_kept : Option (Asking F) → Bool
  is_kept None = false
  is_kept (Some q) = is_some q.kept

  -- no tables were handed out
  abbrev pub IsBare : Asking F → Type 0
  IsBare q = q.given.tables ≡ []

  -- Where a result is kept nothing changes, and else it is one look at the desk.
  abbrev pub LooksUnlessKept : Option ReadDone → Asking F → Asking F → Type 0
  LooksUnlessKept (Some done) old new = new ≡ old
  LooksUnlessKept None old new = Looks old.story (is_some new.kept) new.story

-- `bytes` is what files tell
module _ {F : Type 0} (bytes : F → Option (List ℕ)) where
  -- what is kept fits what was handed out
  abbrev pub FitsGiven : Asking F → Type 0
  FitsGiven q = IfSome q.kept (ReadFits bytes q.given)

  -- What holds of the open questions at any time: at most 64 are open, in the order of their numbers. What each was
  -- handed has no tables and is clear: two entries of one key with one number say the same.
  pub record AreAsks (questions : List (Asking F)) : Type 0 where
    pub few : length questions ≤ 64
    pub rising : IsRising (λ q. q.ask) questions
    pub bare : All IsBare questions
    pub clear : All (λ q. IsClear (mem_content q.given)) questions
    pub fits : All FitsGiven questions

  -- One look at the desk: what it finds is kept, and fits.
  pub record IsLook (q : Asking F) (old new : List (Asking F)) (is_there : Bool) : Type 0 where
    pub story : Story
    pub kept : Option ReadDone
    pub leaves : new ≡ put (with_story q story kept) old
    pub look : Looks q.story (is_some kept) story
    pub tells : is_there ≡ is_some kept
    pub fits : IfSome kept (ReadFits bytes q.given)

  -- a look for the result, where none is kept
  abbrev pub LooksAt : Option ReadDone → Asking F → List (Asking F) → List (Asking F) → Bool → Type 0
  LooksAt (Some done) q old new is_there = (new ≡ old) × (is_there ≡ true)
  LooksAt None q old new is_there = IsLook q old new is_there

  -- a look for the result of a question, if there is one
  abbrev pub LooksFor : Option (Asking F) → List (Asking F) → List (Asking F) → Bool → Type 0
  LooksFor None old new is_there = (new ≡ old) × (is_there ≡ false)
  LooksFor (Some q) old new is_there = LooksAt q.kept q old new is_there

  -- the same by the questions that are open
  abbrev pub LooksBy : Id → List (Asking F) → List (Asking F) → Bool → Type 0
  LooksBy id old new is_there = LooksFor (question_by id old) old new is_there
