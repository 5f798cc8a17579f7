-- Which files the tables of a version and of an edit stand on.
use Rattle.std.specs.Prelude.{◌≡◌, ℕ, false, Option, Some, None, ◌==◌}
use Rattle.std.specs.List.{AllByRecursion}
use Rattle.xdb_edit.specs.Changes.{Changes}
use Rattle.xdb_plain.specs.Counts.{backings, is_among}
use Rattle.xdb_plain.specs.State.{Version}

-- no table of the version stands on the file
abbrev pub IsUnnamed : ℕ → Version → Type 0
IsUnnamed backing v = is_among backing (backings v) ≡ false

-- no table that the edit adds stands on the file
abbrev pub AddsNone : ℕ → Option Changes → Type 0
AddsNone backing None = Unit {0}
AddsNone backing (Some e) = AllByRecursion (λ a. (a.1.backing == backing) ≡ false) e.added
