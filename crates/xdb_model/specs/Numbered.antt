-- What the groups and the jobs of a state keep.
use Rattle.std.specs.Prelude.{◌≡◌, ℕ, ◌+◌, ◌<◌, ◌≤◌, ◌&&◌, false, List, [], ◌∷◌, length, map, IsTrue}
use Rattle.std.specs.List.{AllByRecursion}
use Rattle.xdb_key.specs.Groups.{Group}
use Rattle.xdb_edit.specs.Versions.{are_sorted}
use Rattle.xdb_plain.specs.Counts.{job_numbers, job_owns, load_owns, is_among}
use Rattle.xdb_plain.specs.Edits.{is_empty}
use Rattle.xdb_plain.specs.State.{Plain, groups, is_open}

-- the groups' numbers go up by one, from this one on
abbrev pub AreCounted : ℕ → List Group → Type 0
AreCounted num [] = Unit {0}
AreCounted num (g ∷ gs) = (g.num ≡ num) × AreCounted (num + 1) gs

abbrev pub HoldsOperations : Group → Type 0
HoldsOperations g = is_empty g.ops ≡ false

pub record GroupsFit (p : Plain) : Type 0 where
  pub first : ℕ
  pub from : 1 ≤ first
  pub counted : AreCounted first (groups p)
  pub filled : AllByRecursion HoldsOperations p.sealed

-- the numbers rise strictly, from above one up to another
abbrev pub RiseTo : ℕ → ℕ → List ℕ → Type 0
RiseTo last most [] = last ≤ most
RiseTo last most (n ∷ ns) = (last < n) × RiseTo n most ns

-- the numbers of the running jobs rise, and none is above that of the last one that was started
abbrev pub JobsFit : Plain → Type 0
JobsFit p = RiseTo 0 p.started (map (λ j. j.num) p.jobs)

-- the open questions' numbers rise, and none is above that of the last one that was asked
abbrev pub QuestionsFit : Plain → Type 0
QuestionsFit p = RiseTo 0 p.asked (map (λ q. q.ask) p.questions)

-- the file numbers of running jobs and of loads lie below the next one
pub record FilesFit (p : Plain) : Type 0 where
  pub of_jobs : AllByRecursion (λ j. j.first + job_numbers j.kind ≤ p.file) p.jobs
  pub of_loads : AllByRecursion (λ l. l.first + length l.tables ≤ p.file) p.loads

-- there are seven levels, each in its order
pub record LevelsFit (p : Plain) : Type 0 where
  pub seven : length p.current.levels ≡ 7
  pub sorted : IsTrue (are_sorted p.current.levels)

-- no number stands twice
abbrev pub AreDistinct : List ℕ → Type 0
AreDistinct [] = Unit {0}
AreDistinct (n ∷ ns) = (is_among n ns ≡ false) × AreDistinct ns

-- what was taken lies below the next number, and no running job and no open load has it
pub record TakenFit (p : Plain) : Type 0 where
  pub below : AllByRecursion (λ n. n < p.file) p.taken
  pub of_jobs : AllByRecursion (λ n. AllByRecursion (λ j. job_owns n j ≡ false) p.jobs) p.taken
  pub of_loads : AllByRecursion (λ n. AllByRecursion (λ l. (is_open l && load_owns n l) ≡ false) p.loads) p.taken

-- The tables of a level have different numbers. Each lies below the next one, and no running job and no open load
-- has it.
pub record TablesFit (p : Plain) : Type 0 where
  pub distinct : AllByRecursion (λ ts. AreDistinct (map (λ t. t.num) ts)) p.current.levels
  pub below : AllByRecursion (AllByRecursion (λ t. t.num < p.file)) p.current.levels
  pub of_jobs : AllByRecursion (AllByRecursion (λ t. AllByRecursion (λ j. job_owns t.num j ≡ false) p.jobs)) p.current.levels
  pub of_loads : AllByRecursion (AllByRecursion (λ t. AllByRecursion (λ l. (is_open l && load_owns t.num l) ≡ false) p.loads)) p.current.levels
