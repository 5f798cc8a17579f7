-- What becomes of a question that is asked.
use Rattle.std.specs.Prelude.{◌≡◌, ℕ, ◌+◌, ◌<◌, ◌≤◌, Bool, true, false, List, [], ◌∷◌, ◌++◌, length, Option, Some, None}
use Rattle.xdb_key.specs.Groups.{Group}
use Rattle.xdb_laws.specs.Answered.{question_bounds, is_of_now}
use Rattle.xdb_mem.specs.Parts.{picked, clipped, items_below}
use Rattle.xdb_mem.specs.Queue.{groups, all_ops}
use Rattle.xdb_order.specs.Desk.{fresh_story}
use Rattle.xdb_plain.specs.declared.act.By.{By}
use Rattle.xdb_plain.specs.declared.question.Place.TheVariants.{Before}
use Rattle.xdb_plain.specs.declared.question.Question.{Question}
use Rattle.xdb_plain.specs.declared.reply.Reply.{Reply}
use Rattle.xdb_plain.specs.declared.reply.Reply.TheVariants.{Asked, NoSuch, TooMany, Memory}
use Rattle.xdb_rangedel.specs.Content.{in_pieces}
use Rattle.xdb_rangedel.specs.Members.{SameMembers}
use Rattle.xdb_rangedel.specs.Pieces.{pieces}
use Rattle.xdb_rangedel.specs.View.{restricted}
use Rattle.xdb_read.specs.Fits.{mem_content}
use Rattle.xdb_read.specs.declared.parts.ReadParts.{ReadParts}
use Rattle.xdb_plain.specs.State.{groups as plain_groups}
use Rattle.xdb_vset.specs.Hold.{Hold}
use Rattle.xdb_engine.specs.Holds.{HoldsCurrent, holds_since}
use Rattle.xdb_engine.specs.Questions.{Asking, asking}
use Rattle.xdb_engine.specs.View.{EngineView, plain_of}
use Rattle.xdb_engine.specs.declared.asking.NewQuestion.{NewQuestion}
use Rattle.xdb_engine.specs.declared.state.State.{State}

-- what a question is asked over: the groups, the next number, the number of the current version, how many questions
-- were asked, and the open ones
pub record Grounds (F : Type 0) : Type 0 where
  pub groups : List Group
  pub next : ℕ
  pub version : ℕ
  pub asked : ℕ
  pub questions : List (Asking F)

abbrev pub grounds : {F : Type 0} → List Group → ℕ → ℕ → ℕ → List (Asking F) → Grounds F
grounds gs next version asked questions =
    record { groups = gs; next = next; version = version; asked = asked; questions = questions }

module _ {F : Type 0} where
  -- those of an engine's parts, and those of the plain state
  abbrev pub state_grounds : State F → Grounds F
  state_grounds s = grounds (groups s.mem) s.numbers.next s.files.current.num s.numbers.asked s.asks

  abbrev pub plain_grounds : EngineView F → Grounds F
  plain_grounds e = let p = plain_of e in grounds (plain_groups p) p.next p.current.num p.asked e.questions

  -- The parts of a question about what stands now: all that the groups have inside its bounds below the next number.
  pub record ArePartsOf (groups : List Group) (next : ℕ) (question : Question) (parts : ReadParts F) : Type 0 where
    pub same_question : parts.question ≡ question
    pub bounds : question_bounds question ≡ Some parts.bounds
    pub place : parts.place ≡ Before
    pub at : parts.at ≡ next
    pub entries : SameMembers parts.mem.entries (picked parts.bounds next (all_ops groups))
    pub spans : SameMembers parts.mem.spans (pieces (clipped parts.bounds next (all_ops groups)))
    pub same_content : SameMembers (mem_content parts) (in_pieces (restricted parts.bounds (items_below next (all_ops groups))))
    pub tables : parts.tables ≡ []

  -- The question is opened behind the others, with the next number. It holds the current version.
  pub record Opens (g : Grounds F) (new : List (Asking F)) (by : By) (question : Question) (parted : Bool) (ask : ℕ) (given : ReadParts F) : Type 0 where
    pub number : ask ≡ g.asked + 1
    pub hold : Hold
    pub opened : new ≡ g.questions ++ asking ask by parted given hold fresh_story None ∷ []
    pub version : hold.version ≡ g.version
    pub parts : ArePartsOf g.groups g.next question given
    pub of_now : is_of_now question ≡ true
    pub room : length g.questions < 64

  -- The question is opened in the parts, where this number, these parts and these notes of holds came of it.
  pub record IsOpened (old new : State F) (by : By) (question : Question) (parted : Bool) (made : NewQuestion F)
      : Type 0 where
    pub opens : Opens (state_grounds old) new.asks by question parted made.ask made.hand
    pub numbers : new.numbers ≡ record old.numbers { asked = made.ask }
    pub mem : new.mem ≡ old.mem
    pub files : HoldsCurrent old.files new.files opens.hold
    pub holds : made.holds ≡ holds_since old.asks new.asks

  -- By the reply and what is handed out. No snapshot and no cursor is open, so what is asked of one has none.
  abbrev pub IsAsked : Grounds F → List (Asking F) → By → Question → Bool → Reply → Option (ReadParts F) → Type 0
  IsAsked g new by question parted (Asked ask) (Some given) = Opens g new by question parted ask given
  IsAsked g new by question parted NoSuch None = (new ≡ g.questions) × (is_of_now question ≡ false)
  IsAsked g new by question parted TooMany None = (new ≡ g.questions) × (is_of_now question ≡ true) × (64 ≤ length g.questions)
  IsAsked g new by question parted Memory None = (new ≡ g.questions) × (is_of_now question ≡ true) × (length g.questions < 64)
  IsAsked g new by question parted _ _ = ⊥

  -- the same from one state of the parts to the next, and from one engine to the next
  abbrev pub IsAskedIn : State F → State F → By → Question → Bool → Reply → Option (ReadParts F) → Type 0
  IsAskedIn old new by question parted told hand = IsAsked (state_grounds old) new.asks by question parted told hand

  abbrev pub IsAskedOf : EngineView F → EngineView F → By → Question → Bool → Reply → Option (ReadParts F) → Type 0
  IsAskedOf old new by question parted told hand = IsAsked (plain_grounds old) new.questions by question parted told hand
