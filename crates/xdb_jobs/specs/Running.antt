-- Running compactions, in the order of their starts.
use Rattle.std.specs.Prelude.{◌≡◌, ℕ, false, ◌&&◌, List, map, Some, is_none, if◌then◌else◌}
use Rattle.std.specs.List.{AllPairs}
use Rattle.xdb_key.specs.Bounds.{Bounds, meets}
use Rattle.xdb_jobs.specs.declared.jobs.Job.{Job}

abbrev pub hulls_of : {H : Type 0} → List (Job H) → List Bounds
hulls_of jobs = map (λ j. j.hull) jobs

-- cancelled by the load where its hull meets the span, unless an earlier load did it
abbrev pub with_canceller : {H : Type 0} → List ℕ → Bounds → Job H → Job H
with_canceller load span j =
    record j { cancelled = if is_none j.cancelled && meets j.hull span then Some load else j.cancelled }

-- no two have one number
abbrev pub NumbersDiffer : {H : Type 0} → List (Job H) → Type 0
NumbersDiffer jobs = AllPairs (λ i j. ¬ (i.num ≡ j.num)) jobs

-- no two hulls meet
abbrev pub AreDisjoint : List Bounds → Type 0
AreDisjoint ranges = AllPairs (λ r o. meets r o ≡ false) ranges

-- the hulls that are kept beside the jobs are theirs
pub record AreRunning {H : Type 0} (jobs : List (Job H)) (ranges : List Bounds) : Type 0 where
  pub same : ranges ≡ hulls_of jobs
  pub numbers : NumbersDiffer jobs
  pub disjoint : AreDisjoint ranges
