-- No two jobs or loads have a file number in common.
use Rattle.std.proofs.Common.{◌≡◌, ℕ, ◌+◌, ◌<◌, ◌≤◌, Bool, true, false, cond, not, eqb, leb, ltb, List, [], ◌∷◌, ◌++◌, length, Option, Some, None, is_some, refl, sym, subst, inl, inr, ◌⊎◌, arith}
use Rattle.std.proofs.lemmas.Bool.{and_parts, cases_Bool, ltb-true, leb-true}
use Rattle.std.specs.List.{AllByRecursion}
use Rattle.xdb_key.specs.Bounds.{Bounds}
use Rattle.xdb_key.specs.Groups.{Group}
use Rattle.xdb_edit.specs.Plans.{Planned}
use Rattle.xdb_plain.specs.Changes.{jobs_after, loads_after, new_flush, new_compaction, new_load, cancelled_by, cancelled_job, in_phase, at_phase, span_of_load}
use Rattle.xdb_plain.specs.Counts.{job_numbers, is_within}
use Rattle.xdb_plain.specs.Outcomes.{Outcome, succeeds, begins, fails, cancels}
use Rattle.xdb_plain.specs.Replies.{plan_now}
use Rattle.xdb_plain.specs.State.{Plain, Load, Phase, being_opened, waiting, is_in, Job, found_load, without_job, same_name}
use Rattle.xdb_plain.specs.Tables.{TableOps}
use Rattle.xdb_plain.specs.declared.act.Act.{Act}
use Rattle.xdb_plain.specs.declared.act.Act.TheVariants as act
use Rattle.xdb_plain.specs.declared.act.By.{By}
use Rattle.xdb_model.proofs.FileLaws.{JobBelow, LoadBelow, same-numbers}
use Rattle.xdb_model.proofs.ListLaws.{all-append, all-filtered, all-has, all-map, all-more, pairs-append, pairs-filtered, pairs-map, pairs-more}
use Rattle.xdb_model.specs.Apart.{Pairwise}
use Rattle.xdb_model.specs.Numbered.{FilesFit}

-- ---- stretches of numbers

-- one of two stretches, each from a number on and so long, ends before the other begins
abbrev pub Beside : ℕ → ℕ → ℕ → ℕ → Type 0
Beside a len b more = (a + len ≤ b) ⊎ (b + more ≤ a)

pub beside-turned : (a len b more : ℕ) → Beside a len b more → Beside b more a len
beside-turned a len b more (inl h) = inr h
beside-turned a len b more (inr h) = inl h

-- a number outside of a stretch
pub out-of : (first len n : ℕ) → (n < first) ⊎ (first + len ≤ n) → is_within first len n ≡ false
out-of first len n off = elim (cases_Bool (is_within first len n)) [
  | inl is ↦
      let parts = and_parts (leb first n) (ltb n (first + len)) is in
      let low = leb-true first n parts.0 in
      let high = ltb-true n (first + len) parts.1 in
      absurd (never low high off)
  | inr no_one ↦ no_one
]
  where
    never : first ≤ n → n < first + len → (n < first) ⊎ (first + len ≤ n) → ⊥
    never low high (inl h) = omega arith
    never low high (inr h) = omega arith

-- a number of the one isn't in the other
pub beside-out : (a len b more n : ℕ) → Beside a len b more → a ≤ n → n < a + len → is_within b more n ≡ false
beside-out a len b more n (inl h) low high = out-of b more n (inl (omega arith))
beside-out a len b more n (inr h) low high = out-of b more n (inr (omega arith))

-- ---- jobs and loads

abbrev pub JobsBeside : Job → Job → Type 0
JobsBeside i j = Beside i.first (job_numbers i.kind) j.first (job_numbers j.kind)

abbrev pub LoadsBeside : Load → Load → Type 0
LoadsBeside l m = Beside l.first (length l.tables) m.first (length m.tables)

abbrev pub JobBesideLoad : Job → Load → Type 0
JobBesideLoad j l = Beside j.first (job_numbers j.kind) l.first (length l.tables)

pub record OwnersFit (p : Plain) : Type 0 where
  pub jobs : Pairwise JobsBeside p.jobs
  pub loads : Pairwise LoadsBeside p.loads
  pub across : AllByRecursion (λ j. AllByRecursion (JobBesideLoad j) p.loads) p.jobs

-- ---- jobs

beside-cancelled : (load : List ℕ) (span : Bounds) (i j : Job) → JobsBeside i j → JobsBeside (cancelled_job load span i) (cancelled_job load span j)
beside-cancelled load span i j beside =
    subst (λ (n : ℕ × ℕ). Beside i.first n.0 j.first n.1) (λ k. (sym (same-numbers load span i.kind) k, sym (same-numbers load span j.kind) k)) beside

jobs-cancelled : (load : List ℕ) (span : Option Bounds) (jobs : List Job) → Pairwise JobsBeside jobs → Pairwise JobsBeside (cancelled_by load span jobs)
jobs-cancelled load None jobs pairs = pairs
jobs-cancelled load (Some s) jobs pairs = pairs-map JobsBeside (cancelled_job load s) jobs (pairs-more JobsBeside _ jobs (λ i j beside. beside-cancelled load s i j beside) pairs)

one-more : (file : ℕ) (jobs : List Job) (j : Job) → j.first ≡ file → AllByRecursion (JobBelow file) jobs → Pairwise JobsBeside jobs → Pairwise JobsBeside (jobs ++ j ∷ [])
one-more file jobs j is below pairs = pairs-append JobsBeside jobs (j ∷ []) pairs (tt, tt) (all-more (JobBelow file) _ jobs (λ i low. (inl (omega arith), tt)) below)

no-more : (jobs : List Job) → Pairwise JobsBeside jobs → Pairwise JobsBeside (jobs ++ [])
no-more [] pairs = tt
no-more (j ∷ jobs) pairs = (all-append (JobsBeside j) jobs [] pairs.0 tt, no-more jobs pairs.1)

jobs-flush : (p : Plain) (gs : List Group) → FilesFit p → Pairwise JobsBeside p.jobs → Pairwise JobsBeside (p.jobs ++ new_flush p gs)
jobs-flush p [] files pairs = no-more p.jobs pairs
jobs-flush p (g ∷ gs) files pairs = one-more p.file p.jobs _ refl files.of_jobs pairs

jobs-compaction : (p : Plain) (o : Option Planned) → FilesFit p → Pairwise JobsBeside p.jobs → Pairwise JobsBeside (p.jobs ++ new_compaction p o)
jobs-compaction p None files pairs = no-more p.jobs pairs
jobs-compaction p (Some q) files pairs = one-more p.file p.jobs _ refl files.of_jobs pairs

jobs-beside : (p : Plain) (a : Act) (o : Outcome) → FilesFit p → Pairwise JobsBeside p.jobs → Pairwise JobsBeside (jobs_after p a o)
jobs-beside p act.FlushTake succeeds files pairs = jobs-flush p p.sealed files pairs
jobs-beside p (act.CompactTake which) succeeds files pairs = jobs-compaction p (plan_now p which) files pairs
jobs-beside p (act.Put job) succeeds files pairs = pairs-filtered JobsBeside (λ j. not (eqb j.num job)) p.jobs pairs
jobs-beside p (act.Put job) cancels files pairs = pairs-filtered JobsBeside (λ j. not (eqb j.num job)) p.jobs pairs
jobs-beside p (act.Build job) fails files pairs = pairs-filtered JobsBeside (λ j. not (eqb j.num job)) p.jobs pairs
jobs-beside p (act.Install load) succeeds files pairs = jobs-cancelled load (span_of_load p load) p.jobs pairs
jobs-beside p _ _ files pairs = pairs

-- ---- loads

loads-phase : (name : List ℕ) (phase : Phase) (loads : List Load) → Pairwise LoadsBeside loads → Pairwise LoadsBeside (in_phase name phase loads)
loads-phase name phase loads pairs = pairs-map LoadsBeside (at_phase name phase) loads pairs

loads-push : (p : Plain) (l : Load) → l.first ≡ p.file → FilesFit p → Pairwise LoadsBeside p.loads → Pairwise LoadsBeside (p.loads ++ l ∷ [])
loads-push p l is files pairs = pairs-append LoadsBeside p.loads (l ∷ []) pairs (tt, tt) (all-more (LoadBelow p.file) _ p.loads (λ m low. (inl (omega arith), tt)) files.of_loads)

loads-opened : (p : Plain) (by : By) (load : List ℕ) (tables : List TableOps) (span : Option Bounds) (old : Bool) → FilesFit p → Pairwise LoadsBeside p.loads → Pairwise LoadsBeside (cond old (in_phase load waiting p.loads) (p.loads ++ new_load p by load tables span waiting ∷ []))
loads-opened p by load tables span true files pairs = loads-phase load waiting p.loads pairs
loads-opened p by load tables span false files pairs = loads-push p (new_load p by load tables span waiting) refl files pairs

loads-beside : (p : Plain) (by : By) (a : Act) (o : Outcome) → FilesFit p → Pairwise LoadsBeside p.loads → Pairwise LoadsBeside (loads_after p by a o)
loads-beside p by (act.LoadOpen load tables span) begins files pairs = loads-push p (new_load p by load tables span being_opened) refl files pairs
loads-beside p by (act.LoadOpen load tables span) succeeds files pairs = loads-opened p by load tables span (is_some (found_load load p.loads)) files pairs
loads-beside p by (act.LoadOpen load tables span) fails files pairs = pairs-filtered LoadsBeside (λ l. not (same_name l.name load)) p.loads pairs
loads-beside p by (act.Install load) succeeds files pairs = loads-phase load is_in p.loads pairs
loads-beside p by _ _ files pairs = pairs

-- ---- one of each

abbrev Across : List Job → List Load → Type 0
Across jobs loads = AllByRecursion (λ j. AllByRecursion (JobBesideLoad j) loads) jobs

across-job : (p : Plain) (j : Job) → j.first ≡ p.file → FilesFit p → Across p.jobs p.loads → Across (p.jobs ++ j ∷ []) p.loads
across-job p j is files all = all-append _ p.jobs (j ∷ []) all (all-more (LoadBelow p.file) (JobBesideLoad j) p.loads (λ l low. inr (omega arith)) files.of_loads, tt)

across-flush : (p : Plain) (gs : List Group) → FilesFit p → Across p.jobs p.loads → Across (p.jobs ++ new_flush p gs) p.loads
across-flush p [] files all = all-append _ p.jobs [] all tt
across-flush p (g ∷ gs) files all = across-job p _ refl files all

across-compaction : (p : Plain) (o : Option Planned) → FilesFit p → Across p.jobs p.loads → Across (p.jobs ++ new_compaction p o) p.loads
across-compaction p None files all = all-append _ p.jobs [] all tt
across-compaction p (Some q) files all = across-job p _ refl files all

across-without : (job : ℕ) (jobs : List Job) (loads : List Load) → Across jobs loads → Across (without_job job jobs) loads
across-without job jobs loads all = all-filtered _ (λ j. not (eqb j.num job)) jobs (λ j has left. all-has (λ (i : Job). AllByRecursion (JobBesideLoad i) loads) jobs j has all)

across-phase : (name : List ℕ) (phase : Phase) (jobs : List Job) (loads : List Load) → Across jobs loads → Across jobs (in_phase name phase loads)
across-phase name phase jobs loads all = all-more (λ j. AllByRecursion (JobBesideLoad j) loads) _ jobs (λ j each. all-map (JobBesideLoad j) (at_phase name phase) loads each) all

across-load : (p : Plain) (l : Load) → l.first ≡ p.file → FilesFit p → Across p.jobs p.loads → Across p.jobs (p.loads ++ l ∷ [])
across-load p l is files all = both p.jobs files.of_jobs all
  where
    both : (jobs : List Job) → AllByRecursion (JobBelow p.file) jobs → Across jobs p.loads → Across jobs (p.loads ++ l ∷ [])
    both [] below all = tt
    both (j ∷ jobs) below all = let low = below.0 in (all-append (JobBesideLoad j) p.loads (l ∷ []) all.0 (inl (omega arith), tt), both jobs below.1 all.1)

across-opened : (p : Plain) (by : By) (load : List ℕ) (tables : List TableOps) (span : Option Bounds) (old : Bool) → FilesFit p → Across p.jobs p.loads → Across p.jobs (cond old (in_phase load waiting p.loads) (p.loads ++ new_load p by load tables span waiting ∷ []))
across-opened p by load tables span true files all = across-phase load waiting p.jobs p.loads all
across-opened p by load tables span false files all = across-load p (new_load p by load tables span waiting) refl files all

across-cancelled : (load : List ℕ) (span : Option Bounds) (jobs : List Job) (loads : List Load) → Across jobs loads → Across (cancelled_by load span jobs) loads
across-cancelled load None jobs loads all = all
across-cancelled load (Some s) jobs loads all =
    all-map (λ j. AllByRecursion (JobBesideLoad j) loads) (cancelled_job load s) jobs
    (all-more (λ j. AllByRecursion (JobBesideLoad j) loads) _ jobs (λ j each. subst (λ n. AllByRecursion (λ (l : Load). Beside j.first n l.first (length l.tables)) loads) (sym (same-numbers load s j.kind)) each) all)

across-by : (p : Plain) (by : By) (a : Act) (o : Outcome) → FilesFit p → Across p.jobs p.loads → Across (jobs_after p a o) (loads_after p by a o)
across-by p by act.FlushTake succeeds files all = across-flush p p.sealed files all
across-by p by (act.CompactTake which) succeeds files all = across-compaction p (plan_now p which) files all
across-by p by (act.Put job) succeeds files all = across-without job p.jobs p.loads all
across-by p by (act.Put job) cancels files all = across-without job p.jobs p.loads all
across-by p by (act.Build job) fails files all = across-without job p.jobs p.loads all
across-by p by (act.LoadOpen load tables span) begins files all = across-load p (new_load p by load tables span being_opened) refl files all
across-by p by (act.LoadOpen load tables span) succeeds files all = across-opened p by load tables span (is_some (found_load load p.loads)) files all
across-by p by (act.LoadOpen load tables span) fails files all =
    all-more (λ j. AllByRecursion (JobBesideLoad j) p.loads) _ p.jobs (λ j each. all-filtered (JobBesideLoad j) (λ l. not (same_name l.name load)) p.loads (λ l has left. all-has (JobBesideLoad j) p.loads l has each)) all
across-by p by (act.Install load) succeeds files all = across-phase load is_in (cancelled_by load (span_of_load p load) p.jobs) p.loads (across-cancelled load (span_of_load p load) p.jobs p.loads all)
across-by p by _ _ files all = all

pub record After (p : Plain) (by : By) (a : Act) (o : Outcome) : Type 0 where
  pub jobs : Pairwise JobsBeside (jobs_after p a o)
  pub loads : Pairwise LoadsBeside (loads_after p by a o)
  pub across : AllByRecursion (λ j. AllByRecursion (JobBesideLoad j) (loads_after p by a o)) (jobs_after p a o)

pub owners-by : (p : Plain) (by : By) (a : Act) (o : Outcome) → FilesFit p → OwnersFit p → After p by a o
owners-by p by a o files owners = record {
  jobs = jobs-beside p a o files owners.jobs;
  loads = loads-beside p by a o files owners.loads;
  across = across-by p by a o files owners.across;
}
