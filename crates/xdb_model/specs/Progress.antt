-- How a snapshot's state goes on.
use Rattle.std.specs.Prelude.{◌≡◌, List}
use Rattle.xdb_key.specs.declared.state.SnapState.{SnapState}
use Rattle.xdb_key.specs.declared.state.SnapState.TheVariants.{Pinned, FileOnly, Excised}
use Rattle.xdb_rangedel.specs.Members.{Has}
use Rattle.xdb_plain.specs.State.{Snapshot}

-- from pinned to file-only or to excised, and no further
abbrev pub GoesTo : SnapState → SnapState → Type 0
GoesTo (Pinned group) (Pinned other) = other ≡ group
GoesTo (Pinned group) FileOnly = Unit {0}
GoesTo (Pinned group) (Excised load) = Unit {0}
GoesTo FileOnly s = s ≡ FileOnly
GoesTo (Excised load) s = s ≡ Excised load

-- the snapshot is still there, with the same name, ranges and mark
pub record GoesOn (s : Snapshot) (snaps : List Snapshot) : Type 0 where
  pub later : Snapshot
  pub still_open : Has snaps later
  pub same_name : later.name ≡ s.name
  pub same_ranges : later.ranges ≡ s.ranges
  pub same_mark : later.mark ≡ s.mark
  pub goes_to : GoesTo s.state later.state
