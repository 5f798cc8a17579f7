-- What a piece of work does to a device: it creates files under numbers that its given reserves, in their order,
-- and gives these files, or names the numbers that it tried.
use Rattle.std.specs.Prelude.{◌≡◌, ℕ, ◌-◌, ◌<◌, ◌⊎◌, List, length, get_or, map, take, nat_eq, Option, Some, IfSome, Result, Ok, Err}
use Rattle.std.specs.FinMap as map
use Rattle.std.specs.Io.KnownBytes.{append_known}
use Rattle.std.specs.List.{AllByRecursion, IsDistinct}
use Rattle.std.specs.Option.{option_map}
use Rattle.xdb_device.specs.Told.{Held, Told, IsListed}
use Rattle.xdb_device.specs.declared.fault.WorkCause.{WorkCause}
use Rattle.xdb_device.specs.declared.fault.WorkFault.{WorkFault}
use Rattle.xdb_rangedel.specs.Members.{Has}

-- the numbers of numbered things
abbrev pub nums_of : {A : Type 0} → List (ℕ × A) → List ℕ
nums_of xs = map (λ x. x.0) xs

-- The numbers that `create` was called with: those of the files that are given, or those that the fault names.
abbrev pub tried_by : {A : Type 0} → (A → List ℕ) → Result A WorkFault → List ℕ
tried_by nums (Ok out) = nums out
tried_by nums (Err fault) = fault.tried.items

-- the work gave nothing, for this cause
abbrev pub IsStopped : {A : Type 0} → WorkCause → Result A WorkFault → Type 0
IsStopped cause (Ok out) = ⊥
IsStopped cause (Err fault) = fault.cause ≡ cause

-- the number at a place among those that are reserved
pub record IsNext (reserved : List ℕ) (i num : ℕ) : Type 0 where
  pub inside : i < length reserved
  pub is : num ≡ get_or reserved i num

-- the first of the reserved numbers
abbrev pub AreFirst : List ℕ → List ℕ → Type 0
AreFirst reserved tried = tried ≡ take (length tried) reserved

abbrev pub but_last : List ℕ → List ℕ
but_last nums = take (length nums - 1) nums

-- the numbers differ from each other, and none of them is listed
pub record AreNew (nums : List ℕ) (listed : Option (List ℕ)) : Type 0 where
  pub distinct : IsDistinct nat_eq nums
  pub unlisted : (num : ℕ) → Has nums num → IsListed num listed → ⊥

-- what stands under a number, where it is told what is held
abbrev pub under : ℕ → Option Held → Option (Option (List ℕ))
under num holds = option_map (λ held. map.get held num) holds

-- What the device tells after work that tried these numbers: all of them were created behind the ones before; the
-- last may lack where the work stopped for want of memory. Nothing was removed, and no new number was given up.
-- What is held changed at these numbers alone.
pub record Tried (reserved tried : List ℕ) (may_lack : Type 0) (old new : Told) : Type 0 where
  pub creations : (new.creations ≡ append_known old.creations tried) ⊎ (may_lack × (new.creations ≡ append_known old.creations (but_last tried)))
  pub removals : new.removals ≡ old.removals
  pub given_up : AreNew reserved old.creations → new.given_up ≡ old.given_up
  pub elsewhere : (num : ℕ) → (Has tried num → ⊥) → under num new.holds ≡ under num old.holds

-- a file's bytes are held under a number; where the file tells its bytes, it tells these
pub record IsHeld {F : Type 0} (size : F → ℕ) (bytes : F → Option (List ℕ)) (held : Held) (file : ℕ × F) : Type 0 where
  pub is : List ℕ
  pub there : map.get held file.0 ≡ Some is
  pub len : length is ≡ size file.1
  pub told : IfSome (bytes file.1) (λ told. told ≡ is)

-- each file is held under its number, where it is told what is held
abbrev pub AreHeld : {F : Type 0} → (F → ℕ) → (F → Option (List ℕ)) → Option Held → List (ℕ × F) → Type 0
AreHeld size bytes holds files = IfSome holds (λ held. AllByRecursion (IsHeld size bytes held) files)
