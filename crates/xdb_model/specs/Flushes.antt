-- Which flushes run.
use Rattle.std.specs.Prelude.{◌≡◌, ℕ, false, ◌&&◌, List, [], ◌∷◌}
use Rattle.std.specs.List.{AllByRecursion}
use Rattle.xdb_key.specs.Groups.{Group}
use Rattle.xdb_plain.specs.Replies.{is_flush}
use Rattle.xdb_plain.specs.State.{Plain, Job, JobKind, flush_of, compaction_of}
use Rattle.xdb_model.specs.Apart.{Pairwise}

-- the first of the groups has the number
abbrev pub IsOldest : List Group → ℕ → Type 0
IsOldest [] group = ⊥
IsOldest (g ∷ gs) group = g.num ≡ group

abbrev pub FlushesOldest : List Group → JobKind → Type 0
FlushesOldest sealed (flush_of group) = IsOldest sealed group
FlushesOldest sealed (compaction_of c) = Unit {0}

abbrev pub NotBoth : Job → Job → Type 0
NotBoth i j = (is_flush i.kind && is_flush j.kind) ≡ false

-- a running flush is of the oldest sealed group, and no two run
pub record FlushesFit (p : Plain) : Type 0 where
  pub oldest : AllByRecursion (λ j. FlushesOldest p.sealed j.kind) p.jobs
  pub one : Pairwise NotBoth p.jobs
