-- A view: the part of a content in a range, where a synthetic number may stand for all numbers. Items that are
-- equal then count as one, since a content is known by what it has.
use Rattle.std.specs.Prelude.{ℕ, Bool, ◌&&◌, List, [], map, Option, Some, None, IsTrue, ◌==◌, if◌then◌else◌}
use Rattle.std.specs.List.{All, filter_map}
use Rattle.std.specs.Option.{option_map}
use Rattle.xdb_key.specs.Order.{is_below}
use Rattle.xdb_key.specs.Bounds.{Bounds, holds, covers}
use Rattle.xdb_key.specs.Entries.{tombstone}
use Rattle.xdb_rangedel.specs.Pieces.{is_ordered}
use Rattle.xdb_rangedel.specs.Clip.{part_in}
use Rattle.xdb_rangedel.specs.Content.{Item, entry, span, spans_in}

-- what an item has in the range
abbrev pub within : Bounds → Item → Option Item
within r (entry key seq value) = if holds r key then Some (entry key seq value) else None
within r (span t) = option_map span (part_in r t)

abbrev pub restricted : Bounds → List Item → List Item
restricted r c = filter_map (within r) c

abbrev pub at_number : ℕ → Item → Item
at_number seq (entry key s value) = entry key seq value
at_number seq (span t) = span (tombstone t.range seq)

-- the content with the synthetic number in place of its own; 0 means that there is none
abbrev pub renumbered : ℕ → List Item → List Item
renumbered synthetic c = if synthetic == 0 then c else map (at_number synthetic) c

-- What the content has in the range, with the synthetic number where there is one. A range that is empty or ends before
-- it begins has nothing, since a part of a span in it wouldn't start before it ends.
abbrev pub view : List Item → Bounds → ℕ → List Item
view c r synthetic = if is_below r.lo r.hi then restricted r (renumbered synthetic c) else []

-- the range has the key of the entry, or the whole range of the span, which isn't empty
abbrev pub lies_in : Bounds → Item → Bool
lies_in r (entry key seq value) = holds r key
lies_in r (span t) = is_ordered t && covers r t.range

-- each span of the content starts before it ends
abbrev pub HasOrderedSpans : List Item → Type 0
HasOrderedSpans c = All (λ t. IsTrue (is_ordered t)) (spans_in c)
