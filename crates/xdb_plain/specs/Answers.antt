-- The answer to a question, over the copy of the map that it looks at.
use Rattle.std.specs.Prelude.{ℕ, List, [], ◌∷◌, Option, Some, None, filter, take, reverse}
use Rattle.std.specs.List.{last_or}
use Rattle.std.specs.FinMap as map
use Rattle.xdb_key.specs.Bounds.{Bounds, holds}
use Rattle.xdb_key.specs.Order.{is_below, is_upto}
use Rattle.xdb_plain.specs.PlainMap.{PlainMap}
use Rattle.xdb_plain.specs.State.{Plain, Snapshot, Cursor, found_snap, found_cursor}
use Rattle.xdb_plain.specs.declared.answer.Answer.{Answer}
use Rattle.xdb_plain.specs.declared.answer.Answer.TheVariants.{Value, Absent, Found, Pair, End}
use Rattle.xdb_plain.specs.declared.question.Place.{Place}
use Rattle.xdb_plain.specs.declared.question.Place.TheVariants.{Before, On, After}
use Rattle.xdb_plain.specs.declared.question.Question.{Question}
use Rattle.xdb_plain.specs.declared.question.Question.TheVariants.{Get, Scan, RScan, Move}
use Rattle.xdb_plain.specs.declared.question.Step.{Step}
use Rattle.xdb_plain.specs.declared.question.Step.TheVariants.{First, Last, Next, Prev, Seek, SeekLt}

-- what a look-up found
abbrev pub value_or_absent : Option (List ℕ) → Answer
value_or_absent (Some value) = Value value
value_or_absent None = Absent

-- the pairs of a range, by rising keys
abbrev pub pairs_in : Bounds → PlainMap → List (List ℕ × List ℕ)
pairs_in range m = filter (λ pair. holds range pair.0) (map.entries m)

-- an answer, and the place of a cursor that goes with it
pub record Landing : Type 0 where
  pub answer : Answer
  pub place : Place

abbrev pub landing : Answer → Place → Landing
landing answer place = record { answer = answer; place = place }

-- at a pair, or behind the last one
abbrev pub at_or_after : Option (List ℕ × List ℕ) → Landing
at_or_after (Some (key, value)) = landing (Pair key value) (On key)
at_or_after None = landing End After

-- at a pair, or before the first one
abbrev pub at_or_before : Option (List ℕ × List ℕ) → Landing
at_or_before (Some (key, value)) = landing (Pair key value) (On key)
at_or_before None = landing End Before

abbrev pub first_of : {A : Type 0} → List A → Option A
first_of [] = None
first_of (x ∷ xs) = Some x

abbrev pub last_of : {A : Type 0} → List A → Option A
last_of xs = last_or None xs

abbrev pub next_from : List (List ℕ × List ℕ) → Place → Landing
next_from pairs Before = at_or_after (first_of pairs)
next_from pairs (On key) = at_or_after (first_of (filter (λ pair. is_below key pair.0) pairs))
next_from pairs After = at_or_after None

abbrev pub prev_from : List (List ℕ × List ℕ) → Place → Landing
prev_from pairs Before = at_or_before None
prev_from pairs (On key) = at_or_before (last_of (filter (λ pair. is_below pair.0 key) pairs))
prev_from pairs After = at_or_before (last_of pairs)

-- where a step from a place leads among the pairs
abbrev pub moved : List (List ℕ × List ℕ) → Place → Step → Landing
moved pairs place First = at_or_after (first_of pairs)
moved pairs place Last = at_or_before (last_of pairs)
moved pairs place Next = next_from pairs place
moved pairs place Prev = prev_from pairs place
moved pairs place (Seek key) = at_or_after (first_of (filter (λ pair. is_upto key pair.0) pairs))
moved pairs place (SeekLt key) = at_or_before (last_of (filter (λ pair. is_below pair.0 key) pairs))

abbrev pub snap_copy : Option Snapshot → PlainMap
snap_copy (Some s) = s.copy
snap_copy None = map.empty

-- the map as it is now, or a snapshot's copy
abbrev pub copy_at : Plain → Option (List ℕ) → PlainMap
copy_at p None = p.map
copy_at p (Some name) = snap_copy (found_snap name p.snaps)

abbrev pub cursor_move : Option Cursor → Step → Landing
cursor_move (Some c) step = moved (pairs_in c.range c.copy) c.place step
cursor_move None step = landing End Before

-- the answer to a question that is asked now, and the place that a move leads to
abbrev pub answer_now : Plain → Question → Landing
answer_now p (Get key at) = landing (value_or_absent (map.get (copy_at p at) key)) Before
answer_now p (Scan range most at) = landing (Found (take most (pairs_in range (copy_at p at)))) Before
answer_now p (RScan range most at) = landing (Found (take most (reverse (pairs_in range (copy_at p at))))) Before
answer_now p (Move cursor step) = cursor_move (found_cursor cursor p.cursors) step
