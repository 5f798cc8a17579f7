-- What each step at a tray's table tells, of the seat before it, the word that it found and the seat after it.
use Rattle.std.specs.Prelude.{◌≡◌, ◌≢◌, ℕ, true, false, ◌∷◌, Option, Some, None}
use Rattle.atomic_table.specs.Table.{Me, rest}
use Rattle.xdb_order.specs.Desk.{Looks}
use Rattle.xdb_order.specs.Seats.{story_of}
use Rattle.xdb_order.specs.Slot.{known, desk_knows}
use Rattle.xdb_order.specs.declared.known.Role.TheVariants.{Holder, Done}
use Rattle.xdb_order.specs.declared.known.Known.{Known}

-- what a seat knows, and the slots that are out with it
abbrev pub Place : Type 0 → Type 0 → Type 0
Place I O = Me (Option O) (Known I O)

module _ {I O : Type 0} where
  -- the maker has the slot
  abbrev pub took : Place I O → ℕ → Place I O → Type 0
  took before found after = after ≡ (known before.0.given Holder, (0, None) ∷ before.1)

  -- the hand has put in what was in the slot that was out with it
  abbrev pub put : Place I O → ℕ → Place I O → Type 0
  put before found after =
      (out : O) × (looks : ℕ) × (before.1 ≡ (0, Some out) ∷ rest before.1)
      × (after.0 ≡ known before.0.given (Done out looks))

  -- the desk still knows its given, and has the slot with a result that fits, or nothing was at home there
  abbrev pub looked : (I → O → Type 0) → Place I O → ℕ → Place I O → Type 0
  looked fits before found after =
      let was = story_of before.0.role in
      let is = story_of after.0.role in
      (after.0 ≡ desk_knows before.0.given is)
      × (found ≡ 1 → (out : O) × (after.1 ≡ (0, Some out) ∷ before.1) × fits before.0.given out × Looks was true is)
      × (found ≢ 1 → Looks was false is)
