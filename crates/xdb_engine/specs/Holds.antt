-- Holds of versions: what notes tell of them, and what is done to the set that has them.
use Rattle.std.specs.Prelude.{◌≡◌, ℕ, ◌==◌, ◌||◌, List, [], ◌∷◌, length, map, drop, Option, Some, None, if◌then◌else◌}
use Rattle.std.specs.Option.{unwrap_or}
use Rattle.xdb_edit.specs.Versions.{no_tables}
use Rattle.xdb_plain.specs.State.{Version, Hold as PlainHold, for_ask}
use Rattle.xdb_plain.specs.declared.note.HoldNote.{HoldNote}
use Rattle.xdb_plain.specs.declared.note.HoldNote.TheVariants as hold_note
use Rattle.xdb_vset.specs.Backings.{file_in}
use Rattle.xdb_vset.specs.Hold.{Hold}
use Rattle.xdb_vset.specs.Holds.{slot_of, is_held}
use Rattle.xdb_vset.specs.Seen.{Seen, named, version_of}
use Rattle.xdb_engine.specs.Questions.{Asking}

-- ---- notes

-- that the hold was taken
abbrev pub taking_note : Hold → HoldNote
taking_note h = hold_note.Hold h.id h.version

-- that it was let go
abbrev pub release_note : Hold → HoldNote
release_note h = hold_note.Release h.id

-- that it was let go, if one was
abbrev pub release_notes : Option Hold → List HoldNote
release_notes None = []
release_notes (Some h) = release_note h ∷ []

-- the holds of the questions that came behind those that were open
abbrev pub holds_since : {F : Type 0} → List (Asking F) → List (Asking F) → List HoldNote
holds_since old new = map (λ q. taking_note q.hold) (drop (length old) new)

-- ---- the set

module _ {F : Type 0} where
  -- the set has it
  abbrev pub IsHoldIn : Seen F → Hold → Type 0
  IsHoldIn s h = slot_of h.id s.slots ≡ Some (Some h.version)

  -- the version of a number, as the set has it
  abbrev pub version_at : Seen F → ℕ → Version
  version_at s v = record { num = v; levels = unwrap_or (version_of s v) no_tables }

  -- the hold of an open question
  abbrev pub ask_hold : Seen F → Asking F → PlainHold
  ask_hold s q = record { id = q.hold.id; holder = for_ask q.ask; version = version_at s q.hold.version }

  -- those of all of them
  abbrev pub ask_holds : Seen F → List (Asking F) → List PlainHold
  ask_holds s questions = map (ask_hold s) questions

  -- The current version is held once more, under a number that nothing stood under.
  pub record HoldsCurrent (old new : Seen F) (h : Hold) : Type 0 where
    pub version : h.version ≡ old.current.num
    pub fresh : slot_of h.id old.slots ≡ None
    pub slot : (n : ℕ) → slot_of n new.slots
        ≡ (if n == h.id then Some (Some old.current.num) else slot_of n old.slots)
    pub rest : new ≡ record old { slots = new.slots; next = new.next }

  -- The hold goes. What is current or held stays, and nothing else; a file stays as long as it is named.
  pub record LetsGoOf (h : Hold) (old new : Seen F) : Type 0 where
    pub slot : (n : ℕ) → slot_of n new.slots ≡ (if n == h.id then None else slot_of n old.slots)
    pub version : (v : ℕ) → version_of new v
        ≡ (if old.current.num == v || is_held v new.slots then version_of old v else None)
    pub file : (b : ℕ) → file_in b new.backings
        ≡ (if named new b == 0 then None else file_in b old.backings)
    pub rest : new ≡ record old { older = new.older; slots = new.slots; backings = new.backings; dead = new.dead; spare = new.spare }

  -- if there is one that goes
  abbrev pub LetsGo : Option Hold → Seen F → Seen F → Type 0
  LetsGo None old new = new ≡ old
  LetsGo (Some h) old new = LetsGoOf h old new
