-- What a device tells of its files, and what its calls do to that. Each part is told or not.
use Rattle.std.specs.Prelude.{◌≡◌, ℕ, Option, None, Some, List, [], ◌∷◌, Contains, ◌⊎◌, Result, OnOk, OnErr, IsErrOf}
use Rattle.std.specs.Option.{option_map}
use Rattle.std.specs.Ordering.{nat_cmp}
use Rattle.std.specs.FinMap as map
use Rattle.std.specs.Io.KnownBytes.{append_known}
use Rattle.xdb_device.specs.declared.fault.DevNo.{DevNo}
use Rattle.xdb_device.specs.declared.fault.DevNo.TheVariants.{Failed, Memory}

-- the bytes that stand under each number
abbrev pub Held : Type 0
Held = map.FinMap nat_cmp (List ℕ)

-- The numbers with which `create` was called, those for which `remove` answered Ok, and those that were given up,
-- each in order; and what is held.
pub record Told : Type 0 where
  pub creations : Option (List ℕ)
  pub removals : Option (List ℕ)
  pub given_up : Option (List ℕ)
  pub holds : Option Held

abbrev pub nothing_told : Told
nothing_told = record { creations = None; removals = None; given_up = None; holds = None }

-- a number behind a told list
abbrev pub noted : ℕ → Option (List ℕ) → Option (List ℕ)
noted num known = append_known known (num ∷ [])

-- bytes under a number, where it is told what is held
abbrev pub put : ℕ → List ℕ → Option Held → Option Held
put num bytes holds = option_map (λ held. map.insert held num bytes) holds

-- nothing under a number, where it is told what is held
abbrev pub without : ℕ → Option Held → Option Held
without num holds = option_map (λ held. map.remove held num) holds

-- the list is told and has the number
abbrev pub IsListed : ℕ → Option (List ℕ) → Type 0
IsListed num None = ⊥
IsListed num (Some nums) = Contains nums num

-- A call of `create`. Without memory its number may be listed or not. It gives a number up only where it was created before.
-- One that fails changes at most what stands under its number.
pub record Created {F : Type 0} (num : ℕ) (bytes : List ℕ) (result : Result F DevNo) (old new : Told) : Type 0 where
  pub listed : OnOk result (new.creations ≡ noted num old.creations)
  pub listed_failed : IsErrOf result Failed → new.creations ≡ noted num old.creations
  pub listed_memory : IsErrOf result Memory → (new.creations ≡ old.creations) ⊎ (new.creations ≡ noted num old.creations)
  pub same_removals : new.removals ≡ old.removals
  pub gave_up : (new.given_up ≡ old.given_up) ⊎ ((new.given_up ≡ noted num old.given_up) × IsListed num old.creations)
  pub held : OnOk result (new.holds ≡ put num bytes old.holds)
  pub others : OnErr result (without num new.holds ≡ without num old.holds)

-- A call of `remove`.
pub record Removed (num : ℕ) (result : Result (Unit {0}) DevNo) (old new : Told) : Type 0 where
  pub same_creations : new.creations ≡ old.creations
  pub removed : OnOk result (new.removals ≡ noted num old.removals)
  pub same_removals : OnErr result (new.removals ≡ old.removals)
  pub gave_up : (new.given_up ≡ old.given_up) ⊎ (new.given_up ≡ noted num old.given_up)
  pub gone : OnOk result (new.holds ≡ without num old.holds)
  pub others : OnErr result (without num new.holds ≡ without num old.holds)
