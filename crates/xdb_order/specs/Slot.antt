-- How a tray stands: its word, its slot and what the seats know.
use Rattle.std.specs.Prelude.{ℕ, ◌<◌, true, false, List, [], ◌∷◌, Option, Some, None}
use mathlib.Core.Option.{Option as Home, some, none}
use Rattle.atomic_table.specs.Table.{State}
use Rattle.xdb_order.specs.Desk.{story_at}
use Rattle.xdb_order.specs.declared.story.Story.{Story}
use Rattle.xdb_order.specs.declared.known.Role.{Role}
use Rattle.xdb_order.specs.declared.known.Role.TheVariants.{Maker, Holder, Hand, Done, Desk}
use Rattle.xdb_order.specs.declared.known.Known.{Known}

module _ {I O : Type 0} where
  abbrev pub known : I → Role O → Known I O
  known given role = record { given = given; role = role }

  abbrev pub desk_knows : I → Story → Known I O
  desk_knows given it = known given (Desk it)

-- The five ways to stand. Every seat knows the given of the tray, and what is at home in the slot fits it.
-- The word is 1 where a result is at home, and else 0. The slot is out (`none`) with the maker, then the hand, and in the end the desk.
-- The first look after the hand's exchange finds the result.
pub data Stands {I O : Type 0} (fits : I → O → Type 0) (given : I)
    : List ℕ → List (Home (Option O)) → List (Known I O) → Type 0 where
  made : Stands fits given (0 ∷ []) (some None ∷ []) (known given Maker ∷ [])
  held : Stands fits given (0 ∷ []) (none ∷ []) (known given Holder ∷ [])
  awaited : (looks : ℕ)
      → Stands fits given (0 ∷ []) (none ∷ []) (known given Hand ∷ desk_knows given (story_at looks false) ∷ [])
  delivered : (out : O) (looks : ℕ) → fits given out
      → Stands fits given (1 ∷ []) (some (Some out) ∷ [])
      (known given (Done out looks) ∷ desk_knows given (story_at looks false) ∷ [])
  collected : (out : O) (at looks : ℕ) → at < looks
      → Stands fits given (0 ∷ []) (none ∷ [])
      (known given (Done out at) ∷ desk_knows given (story_at looks true) ∷ [])

-- the rule of the table
abbrev pub Keeps : {I O : Type 0} → (I → O → Type 0) → I → State (Option O) (Known I O) → Type 0
Keeps fits given s = Stands fits given s.words s.homes s.views

-- The desk's exchange, before which this was at home: what the hand knows stays.
pub record DeskStep {I O : Type 0} (fits : I → O → Type 0) : Type 0 where
  pub given : I
  pub hand : Known I O
  pub before : Story
  pub after : Story
  pub home : Home (Option O)
  pub words : List ℕ
  pub words_after : List ℕ
  pub homes_after : List (Home (Option O))
  pub stood : Stands fits given words (home ∷ []) (hand ∷ desk_knows given before ∷ [])
  pub stands : Stands fits given words_after homes_after (hand ∷ desk_knows given after ∷ [])

-- The hand's exchange, after which this is at home: what the desk knows stays.
pub record HandStep {I O : Type 0} (fits : I → O → Type 0) : Type 0 where
  pub given : I
  pub desk : Known I O
  pub out : O
  pub looks : ℕ
  pub home : Home (Option O)
  pub words : List ℕ
  pub words_after : List ℕ
  pub homes : List (Home (Option O))
  pub stood : Stands fits given words homes (known given Hand ∷ desk ∷ [])
  pub stands : Stands fits given words_after (home ∷ []) (known given (Done out looks) ∷ desk ∷ [])
