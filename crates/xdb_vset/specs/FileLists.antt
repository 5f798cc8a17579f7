-- The files that are named, and the known, the dead and the taken numbers: what holds of these lists together.
use Rattle.std.specs.Prelude.{◌≡◌, ℕ, ◌+◌, ◌≤◌, ◌&&◌, not, Bool, List, IsTrue, IsSome, is_some}
use Rattle.xdb_lists.specs.Keyed.{IsRising}
use Rattle.xdb_lists.specs.Numbers.{is_among, NumbersRise}
use Rattle.xdb_vset.specs.declared.files.Backing.{Backing}
use Rattle.xdb_vset.specs.Backings.{count_in, file_in}

-- the files that are named with their running counts, the known numbers, those of them that are dead and those that
-- were taken, for how many more numbers room was promised, and how often a count was raised so far
pub record FileLists (F : Type 0) : Type 0 where
  pub named : List (Backing F)
  pub known : List ℕ
  pub dead : List ℕ
  pub taken : List ℕ
  pub spare : ℕ
  pub raised : ℕ

abbrev pub file_lists : {F : Type 0} → List (Backing F) → List ℕ → List ℕ → List ℕ → ℕ → ℕ → FileLists F
file_lists named known dead taken spare raised = record { named = named; known = known; dead = dead; taken = taken; spare = spare; raised = raised }

-- the number is known, has no file, and wasn't taken
abbrev pub waits : {F : Type 0} → List (Backing F) → List ℕ → List ℕ → ℕ → Bool
waits named known taken b = is_among b known && (not (is_some (file_in b named)) && not (is_among b taken))

-- each list is in order, what is named is known, and the dead are those that wait
pub record AreFiles {F : Type 0} (named : List (Backing F)) (known dead taken : List ℕ) : Type 0 where
  pub named_rise : IsRising (λ b. b.num) named
  pub known_rise : NumbersRise known
  pub dead_rise : NumbersRise dead
  pub taken_rise : NumbersRise taken
  pub named_known : (b : ℕ) → IsSome (file_in b named) → IsTrue (is_among b known)
  pub dead_wait : (b : ℕ) → is_among b dead ≡ waits named known taken b

-- no count was raised more often than all together
abbrev pub AreLow : {F : Type 0} → List (Backing F) → ℕ → Type 0
AreLow named raised = (b : ℕ) → count_in b named ≤ raised

-- by the lengths and capacities of the lists: so many more numbers can be known and named, each number that is named
-- can die, and each that is dead can be taken, without memory
pub record HasRoom (named named_cap known known_cap dead dead_cap taken taken_cap spare : ℕ) : Type 0 where
  pub to_be_named : named + spare ≤ named_cap
  pub to_be_known : known + spare ≤ known_cap
  pub to_die : dead + named + spare ≤ dead_cap
  pub to_be_taken : taken + dead + named + spare ≤ taken_cap
