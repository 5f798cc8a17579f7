-- Which content has a snapshot's copy, by the snapshot's state.
use Rattle.std.specs.Prelude.{ℕ, List}
use Rattle.xdb_key.specs.Bounds.{Bounds}
use Rattle.xdb_key.specs.declared.state.SnapState.{SnapState}
use Rattle.xdb_key.specs.declared.state.SnapState.TheVariants.{Pinned, FileOnly, Excised}
use Rattle.xdb_plain.specs.PlainMap.{PlainMap}
use Rattle.xdb_plain.specs.State.{Snapshot}
use Rattle.xdb_rangedel.specs.Content.{Item}
use Rattle.xdb_rangedel.specs.Members.{Has}
use Rattle.xdb_laws.specs.Image.{image, AreAlikeIn}

-- at the mark the image of the content is the copy in each of the ranges
abbrev pub ShowsCopy : List Bounds → ℕ → PlainMap → List Item → Type 0
ShowsCopy ranges mark copy c = (r : Bounds) → Has ranges r → AreAlikeIn r (image c mark) copy

-- Of all that is there and of what the held version has: the first shows the copy while the snapshot is pinned, and
-- the second once it is file-only. One that is excised owes nothing.
abbrev pub CopyIsShown : SnapState → List Bounds → ℕ → PlainMap → List Item → List Item → Type 0
CopyIsShown (Pinned group) ranges mark copy all held = ShowsCopy ranges mark copy all
CopyIsShown FileOnly ranges mark copy all held = ShowsCopy ranges mark copy held
CopyIsShown (Excised load) ranges mark copy all held = Unit {0}

abbrev pub KeepsCopy : Snapshot → List Item → List Item → Type 0
KeepsCopy s all held = CopyIsShown s.state s.ranges s.mark s.copy all held
