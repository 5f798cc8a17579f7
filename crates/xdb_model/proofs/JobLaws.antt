-- Jobs are numbered in order.
use Rattle.std.proofs.Common.{◌≡◌, ℕ, ◌+◌, ◌<◌, ◌≤◌, Bool, true, false, cond, not, eqb, List, [], ◌∷◌, ◌++◌, map, Option, Some, None, refl, arith}
use Rattle.xdb_key.specs.Bounds.{Bounds}
use Rattle.xdb_key.specs.Groups.{Group}
use Rattle.xdb_edit.specs.Plans.{Planned}
use Rattle.xdb_plain.specs.Changes.{after, jobs_after, started_after, new_flush, new_compaction, cancelled_by, cancelled_job, span_of_load}
use Rattle.xdb_plain.specs.Legal.{after_all}
use Rattle.xdb_plain.specs.Outcomes.{Outcome, succeeds, fails, cancels, outcome}
use Rattle.xdb_plain.specs.Replies.{plan_now}
use Rattle.xdb_plain.specs.State.{Plain, Job, opening, without_job}
use Rattle.xdb_plain.specs.declared.act.Act.{Act}
use Rattle.xdb_plain.specs.declared.act.Act.TheVariants as act
use Rattle.xdb_plain.specs.declared.note.Note.{Note}
use Rattle.xdb_model.specs.Numbered.{RiseTo, JobsFit}

abbrev pub nums : List Job → List ℕ
nums jobs = map (λ j. j.num) jobs

rise-later : (last most more : ℕ) (ns : List ℕ) → most ≤ more → RiseTo last most ns → RiseTo last more ns
rise-later last most more [] le h = omega arith
rise-later last most more (n ∷ ns) le h = (h.0, rise-later n most more ns le h.1)

rise-push : (last most : ℕ) (jobs : List Job) (j : Job) → j.num ≡ most + 1 → RiseTo last most (nums jobs) → RiseTo last (most + 1) (nums (jobs ++ j ∷ []))
rise-push last most [] j is h = (omega arith, omega arith)
rise-push last most (x ∷ jobs) j is h = (h.0, rise-push x.num most jobs j is h.1)

rise-none : (last most : ℕ) (jobs : List Job) → RiseTo last most (nums jobs) → RiseTo last (most + 1) (nums (jobs ++ []))
rise-none last most [] h = omega arith
rise-none last most (x ∷ jobs) h = (h.0, rise-none x.num most jobs h.1)

rise-from : (low last most : ℕ) (ns : List ℕ) → low ≤ last → RiseTo last most ns → RiseTo low most ns
rise-from low last most [] le h = omega arith
rise-from low last most (n ∷ ns) le h =
    let first = h.0 in
    (omega arith, h.1)

rise-kept : (last most : ℕ) (x : Job) (rest : List Job) (t : Bool) → last < x.num → RiseTo x.num most (nums rest) → RiseTo last most (nums (cond t (x ∷ rest) rest))
rise-kept last most x rest true above h = (above, h)
rise-kept last most x rest false above h = rise-from last x.num most (nums rest) (omega arith) h

rise-without : (last most job : ℕ) (jobs : List Job) → RiseTo last most (nums jobs) → RiseTo last most (nums (without_job job jobs))
rise-without last most job [] h = h
rise-without last most job (x ∷ jobs) h = rise-kept last most x (without_job job jobs) (not (eqb x.num job)) h.0 (rise-without x.num most job jobs h.1)

rise-cancelled : (last most : ℕ) (load : List ℕ) (span : Bounds) (jobs : List Job) → RiseTo last most (nums jobs) → RiseTo last most (nums (map (cancelled_job load span) jobs))
rise-cancelled last most load span [] h = h
rise-cancelled last most load span (x ∷ jobs) h = (h.0, rise-cancelled x.num most load span jobs h.1)

rise-installed : (most : ℕ) (load : List ℕ) (span : Option Bounds) (jobs : List Job) → RiseTo 0 most (nums jobs) → RiseTo 0 most (nums (cancelled_by load span jobs))
rise-installed most load None jobs h = h
rise-installed most load (Some span) jobs h = rise-cancelled 0 most load span jobs h

flush-pushed : (p : Plain) (gs : List Group) → RiseTo 0 p.started (nums p.jobs) → RiseTo 0 (p.started + 1) (nums (p.jobs ++ new_flush p gs))
flush-pushed p [] h = rise-none 0 p.started p.jobs h
flush-pushed p (g ∷ gs) h = rise-push 0 p.started p.jobs _ refl h

compaction-pushed : (p : Plain) (plan : Option Planned) → RiseTo 0 p.started (nums p.jobs) → RiseTo 0 (p.started + 1) (nums (p.jobs ++ new_compaction p plan))
compaction-pushed p None h = rise-none 0 p.started p.jobs h
compaction-pushed p (Some plan) h = rise-push 0 p.started p.jobs _ refl h

jobs-at : (p : Plain) (a : Act) (o : Outcome) → RiseTo 0 p.started (nums p.jobs) → RiseTo 0 (started_after p a o) (nums (jobs_after p a o))
jobs-at p act.FlushTake succeeds h = flush-pushed p p.sealed h
jobs-at p (act.CompactTake which) succeeds h = compaction-pushed p (plan_now p which) h
jobs-at p (act.Put job) succeeds h = rise-without 0 p.started job p.jobs h
jobs-at p (act.Put job) cancels h = rise-without 0 p.started job p.jobs h
jobs-at p (act.Build job) fails h = rise-without 0 p.started job p.jobs h
jobs-at p (act.Install load) succeeds h = rise-installed p.started load (span_of_load p load) p.jobs h
jobs-at p _ _ h = h

jobs-all : (p : Plain) (notes : List Note) → JobsFit p → JobsFit (after_all p notes)
jobs-all p [] fit = fit
jobs-all p (note ∷ notes) fit = jobs-all (after p note) notes (jobs-at p note.act (outcome note.reply) fit)

pub jobs-fit : (first_seq first_file : ℕ) (notes : List Note) → JobsFit (after_all (opening first_seq first_file) notes)
jobs-fit first_seq first_file notes = jobs-all (opening first_seq first_file) notes (omega arith)
