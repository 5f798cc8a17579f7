-- What is seen of files in memory, and of the devices that keep them.
use Rattle.std.specs.Prelude.{◌≡◌, ◌⊎◌, ℕ, Some, None, List, [], ◌∷◌, ◌++◌, Result, IsErrOf, refl}
use Rattle.std.specs.FinMap as map
use Rattle.std.specs.Coded.{Coded, code_by, coded×, coded_ℕ, coded_list}
use Rattle.xdb_device.specs.declared.fault.DevNo.{DevNo}
use Rattle.xdb_device.specs.declared.fault.DevNo.TheVariants.{Failed, Memory}
use Rattle.xdb_device.specs.Schedule.{Calls}
use Rattle.xdb_device.specs.Told.{Held, Told}

-- the numbers that were created and removed, and what is held
pub record Kept : Type 0 where
  pub creations : List ℕ
  pub removals : List ℕ
  pub holds : Held

-- a device whose calls may fail
pub record Faulty : Type 0 where
  pub kept : Kept
  pub calls : Calls

-- what is kept before the first call
abbrev pub nothing : Kept
nothing = record { creations = []; removals = []; holds = map.empty }

-- the number was listed, and no file made
abbrev pub listed : ℕ → Kept → Kept
listed num k = record k { creations = k.creations ++ num ∷ [] }

-- the number was listed and stands for these bytes
abbrev pub made : ℕ → List ℕ → Kept → Kept
made num bytes k = record { creations = k.creations ++ num ∷ []; removals = k.removals; holds = map.insert k.holds num bytes }

-- the number was listed among those removed, and stands for nothing
abbrev pub taken_out : ℕ → Kept → Kept
taken_out num k = record { creations = k.creations; removals = k.removals ++ num ∷ []; holds = map.remove k.holds num }

-- The call failed, or it had no memory and kept nothing.
abbrev pub FailsOrKeepsNothing : {F : Type 0} → Result F DevNo → Kept → Kept → Type 0
FailsOrKeepsNothing result old new = IsErrOf result Failed ⊎ (IsErrOf result Memory × (new ≡ old))

-- It tells all but numbers that were given up: it knows of none.
abbrev pub told_of : Kept → Told
told_of k = record { creations = Some k.creations; removals = Some k.removals; given_up = None; holds = Some k.holds }

abbrev pub held_code : Coded Held
held_code = map.code coded_ℕ (coded_list coded_ℕ)

abbrev pub kept_code : Coded Kept
kept_code =
    code_by (List ℕ × (List ℕ × Held)) (coded× (coded_list coded_ℕ) (coded× (coded_list coded_ℕ) held_code))
    (λ k. (k.creations, (k.removals, k.holds))) (λ p. record { creations = p.0; removals = p.1.0; holds = p.1.1 }) (λ _. refl)

abbrev pub calls_code : Coded Calls
calls_code =
    code_by (List ℕ × (ℕ × ℕ)) (coded× (coded_list coded_ℕ) (coded× coded_ℕ coded_ℕ))
    (λ c. (c.fails, (c.count, c.faults))) (λ p. record { fails = p.0; count = p.1.0; faults = p.1.1 }) (λ _. refl)

abbrev pub faulty_code : Coded Faulty
faulty_code = code_by (Kept × Calls) (coded× kept_code calls_code) (λ f. (f.kept, f.calls)) (λ p. record { kept = p.0; calls = p.1 }) (λ _. refl)
