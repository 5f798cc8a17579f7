-- The answer to a question over a map, inside bounds and from a place.
use Rattle.std.specs.Prelude.{Bool, true, false, Option, Some, None, is_none, take, reverse}
use Rattle.std.specs.FinMap as map
use Rattle.xdb_key.specs.Bounds.{Bounds, bounds, holds, covers, key_hull}
use Rattle.xdb_plain.specs.Answers.{Landing, landing, value_or_absent, pairs_in, moved}
use Rattle.xdb_plain.specs.PlainMap.{PlainMap}
use Rattle.xdb_plain.specs.declared.answer.Answer.TheVariants.{Found}
use Rattle.xdb_plain.specs.declared.question.Place.{Place}
use Rattle.xdb_plain.specs.declared.question.Place.TheVariants.{Before}
use Rattle.xdb_plain.specs.declared.question.Question.{Question}
use Rattle.xdb_plain.specs.declared.question.Question.TheVariants.{Get, Scan, RScan, Move}

-- a move goes over the pairs inside the bounds, from the place
abbrev pub answered : PlainMap → Bounds → Place → Question → Landing
answered m bounds place (Get key at) = landing (value_or_absent (map.get m key)) Before
answered m bounds place (Scan range most at) = landing (Found (take most (pairs_in range m))) Before
answered m bounds place (RScan range most at) = landing (Found (take most (reverse (pairs_in range m)))) Before
answered m bounds place (Move cursor step) = moved (pairs_in bounds m) place step

-- a question speaks of nothing outside the bounds
abbrev pub is_inside : Bounds → Question → Bool
is_inside r (Get key at) = holds r key
is_inside r (Scan range most at) = covers r range
is_inside r (RScan range most at) = covers r range
is_inside r (Move cursor step) = true

-- the keys that a question speaks of, where it is no move
abbrev pub question_bounds : Question → Option Bounds
question_bounds (Get key at) = Some (key_hull key)
question_bounds (Scan range most at) = Some range
question_bounds (RScan range most at) = Some range
question_bounds (Move cursor step) = None

-- a question about what stands now
abbrev pub is_of_now : Question → Bool
is_of_now (Get key at) = is_none at
is_of_now (Scan range most at) = is_none at
is_of_now (RScan range most at) = is_none at
is_of_now (Move cursor step) = false
