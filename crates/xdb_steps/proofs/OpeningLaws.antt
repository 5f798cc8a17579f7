-- The parts before the first step.
use Rattle.std.proofs.Common.{ℕ, [], refl}
use Rattle.std.specs.FinMap.{get-empty}
use Rattle.xdb_laws.specs.Ordered.{IsNewer}
use Rattle.xdb_mem.specs.Queue.{opening as queue_opening}
use Rattle.xdb_plain.specs.State.{opening}
use Rattle.xdb_rangedel.specs.Content.{IsClear}
use Rattle.xdb_steps.specs.Core.{core, numbers, no_files}
use Rattle.xdb_steps.specs.Keeps.{Means}

-- nothing is clear, and newer than nothing
none : IsClear []
none key n v w h = absurd h

over : IsNewer [] []
over k i j h = absurd h

pub opening-means : (seq file : ℕ) → Means (core queue_opening (numbers seq file 0 0) [] no_files []) (opening seq file)
opening-means seq file = record {
  image = record { image = λ k. get-empty _ k };
  order = record { places = (none, over, (none, over, (none, over, (none, over, (none, over, (none, over, (none, over, tt))))))); l0 = tt };
  numbers = record { numbers = λ i h. absurd h; upto = λ m h. absurd h };
  tables = (tt, (tt, (tt, (tt, (tt, (tt, (tt, tt)))))));
  striped = tt;
  asks = refl;
}
