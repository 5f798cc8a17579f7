-- The files of an engine's parts, as the version set has them that they are kept in.
use Rattle.std.specs.Prelude.{◌≡◌, ℕ, Some}
use Rattle.xdb_lists.specs.Numbers.{is_among}
use Rattle.xdb_plain.specs.State.{Hold}
use Rattle.xdb_rangedel.specs.Members.{Has}
use Rattle.xdb_steps.specs.Core.{Files}
use Rattle.xdb_vset.specs.Holds.{slot_of}
use Rattle.xdb_vset.specs.Seen.{Seen, version_of}

module _ {F : Type 0} where
  -- the set has the hold under its number, and the version that it is of
  pub record IsHoldOf (s : Seen F) (h : Hold) : Type 0 where
    pub slot : slot_of h.id s.slots ≡ Some (Some h.version.num)
    pub levels : version_of s h.version.num ≡ Some h.version.levels

  -- The current version is the set's, and so are the numbers. Each hold is in the set, and the set holds no version
  -- for anybody else.
  pub record AreOfSet (s : Seen F) (f : Files) : Type 0 where
    pub num : f.current.num ≡ s.current.num
    pub levels : f.current.levels ≡ s.current.levels
    pub held : (h : Hold) → Has f.holds h → IsHoldOf s h
    pub all : (id v : ℕ) → slot_of id s.slots ≡ Some (Some v) → (h : Hold) × Has f.holds h × (h.id ≡ id)
    pub known : (n : ℕ) → is_among n f.known ≡ is_among n s.known
    pub taken : (n : ℕ) → is_among n f.taken ≡ is_among n s.taken
