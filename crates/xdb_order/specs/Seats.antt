-- The two seats at a tray's table.
use Rattle.std.specs.Prelude.{◌≡◌, ℕ, [], ◌∷◌, Option, None}
use Rattle.atomic_table.specs.Seated.{TableId}
use Rattle.atomic_table.specs.declared.shared.Seat.{Seat}
use Rattle.xdb_order.specs.Desk.{fresh_story}
use Rattle.xdb_order.specs.Slot.{known, desk_knows}
use Rattle.xdb_order.specs.declared.story.Story.{Story}
use Rattle.xdb_order.specs.declared.known.Role.{Role}
use Rattle.xdb_order.specs.declared.known.Role.TheVariants.{Maker, Holder, Hand, Done, Desk}
use Rattle.xdb_order.specs.declared.known.Known.{Known}

-- the story that a desk's seat knows
abbrev pub story_of : {O : Type 0} → Role O → Story
story_of (Desk it) = it
story_of Maker = fresh_story
story_of Holder = fresh_story
story_of Hand = fresh_story
story_of (Done out at) = fresh_story

abbrev pub seat_story : {I O : Type 0} → Seat (Option O) (Known I O) → Story
seat_story seat = story_of seat.me.0.role

-- the seat is the desk's at this table
pub record SitsAtDesk {I O : Type 0} (table : TableId) (given : I) (seat : Seat (Option O) (Known I O)) : Type 0 where
  pub here : seat.table_id ≡ table
  pub knows : seat.me.0 ≡ desk_knows given (seat_story seat)

-- the seat is the hand's at this table, and the slot is out with it, with nothing in it
pub record SitsInHand {I O : Type 0} (table : TableId) (given : I) (seat : Seat (Option O) (Known I O)) : Type 0 where
  pub here : seat.table_id ≡ table
  pub holds : seat.me ≡ (known given Hand, (0, None) ∷ [])

-- the seat is that of a hand that has put this result into the slot (the law `what_was_put`)
abbrev pub HasPut : {I O : Type 0} → I → O → Seat (Option O) (Known I O) → Type 0
HasPut given out seat = (looks : ℕ) × (seat.me.0 ≡ known given (Done out looks))
