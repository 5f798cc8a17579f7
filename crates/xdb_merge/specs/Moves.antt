-- What a move leads to.
use Rattle.std.specs.Prelude.{◌≡◌, ℕ, List, Option, IfSome}
use Rattle.xdb_key.specs.Bounds.{Bounds}
use Rattle.xdb_key.specs.Entries.{Point}
use Rattle.xdb_mem.specs.Parts.{Parts}
use Rattle.xdb_plain.specs.Answers.{landing, moved}
use Rattle.xdb_plain.specs.declared.question.Place.{Place}
use Rattle.xdb_plain.specs.declared.question.Step.{Step}
use Rattle.xdb_plain.specs.declared.question.Step.TheVariants as steps
use Rattle.xdb_merge.specs.Layers.{content_of_layers}
use Rattle.xdb_merge.specs.Merge.{pairs_of}
use Rattle.xdb_merge.specs.Steps.{answer_of, Decides}
use Rattle.xdb_merge.specs.declared.moves.Move.{Move}
use Rattle.xdb_merge.specs.declared.moves.Move.TheVariants.{Next, Prev, Ge, Lt}

-- the step of a cursor that the move is
abbrev pub step_of : Move → Step
step_of Next = steps.Next
step_of Prev = steps.Prev
step_of (Ge key) = steps.Seek key.now
step_of (Lt key) = steps.SeekLt key.now

-- the entry and the place are those of the step among the pairs of the layers
pub record IsLanded (ls : List Parts) (r : Bounds) (at : ℕ) (old : Place) (step : Step) (e : Option Point) (new : Place) : Type 0 where
  pub moves : landing (answer_of e) new ≡ moved (pairs_of ls r at) old step
  pub decides : IfSome e (Decides (content_of_layers ls) at)
