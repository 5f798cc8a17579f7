-- The parts of range tombstones in a range, and on either side of a bound.
use Rattle.std.specs.Prelude.{ℕ, List, Option, Some, None, if◌then◌else◌}
use Rattle.std.specs.List.{filter_map}
use Rattle.xdb_key.specs.Order.{is_below}
use Rattle.xdb_key.specs.Bounds.{Bounds, bounds, meets}
use Rattle.xdb_key.specs.Entries.{Tombstone, tombstone}

abbrev pub later_of : List ℕ → List ℕ → List ℕ
later_of a b = if is_below b a then a else b

abbrev pub earlier_of : List ℕ → List ℕ → List ℕ
earlier_of a b = if is_below a b then a else b

-- the span without what lies before the bound
abbrev pub starting_from : List ℕ → Tombstone → Tombstone
starting_from at t = tombstone (bounds (later_of at t.range.lo) t.range.hi) t.seq

-- the span without what lies from the bound on
abbrev pub ending_by : List ℕ → Tombstone → Tombstone
ending_by at t = tombstone (bounds t.range.lo (earlier_of at t.range.hi)) t.seq

-- what a span has before the bound
abbrev pub part_before : List ℕ → Tombstone → Option Tombstone
part_before at t = if is_below t.range.lo at then Some (ending_by at t) else None

-- what a span has from the bound on
abbrev pub part_from : List ℕ → Tombstone → Option Tombstone
part_from at t = if is_below at t.range.hi then Some (starting_from at t) else None

-- what a span has in the range
abbrev pub part_in : Bounds → Tombstone → Option Tombstone
part_in r t = if meets t.range r then Some (starting_from r.lo (ending_by r.hi t)) else None

abbrev pub parts_before : List ℕ → List Tombstone → List Tombstone
parts_before at ts = filter_map (part_before at) ts

abbrev pub parts_from : List ℕ → List Tombstone → List Tombstone
parts_from at ts = filter_map (part_from at) ts

abbrev pub parts_in : Bounds → List Tombstone → List Tombstone
parts_in r ts = filter_map (part_in r) ts
