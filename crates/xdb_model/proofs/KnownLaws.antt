-- Known numbers lie below the next one, and no running job or open load has a number that was taken.
use Rattle.std.proofs.Common.{◌≡◌, ℕ, ◌+◌, ◌<◌, ◌≤◌, Bool, true, false, cond, not, eqb, leb, ltb, ◌&&◌, List, [], ◌∷◌, ◌++◌, length, map, filter, Option, Some, None, refl, sym, subst, arith}
use Rattle.std.proofs.lemmas.Bool.{and_parts, or_parts, not-true, lt-leb, and_left}
use Rattle.std.specs.List.{list_any, AllByRecursion}
use Rattle.xdb_key.specs.Bounds.{Bounds}
use Rattle.xdb_key.specs.Groups.{Group}
use Rattle.xdb_edit.specs.Plans.{Planned}
use Rattle.xdb_plain.specs.Changes.{after, known_after, taken_after, file_after, jobs_after, new_flush, new_compaction, cancelled_by, cancelled_job, span_of_load}
use Rattle.xdb_plain.specs.Counts.{is_within, is_among, is_dead, is_owned, job_owns, load_owns, job_numbers, count}
use Rattle.xdb_plain.specs.Legal.{Legal, after_all}
use Rattle.xdb_plain.specs.Outcomes.{Outcome, succeeds, fails, cancels, outcome}
use Rattle.xdb_plain.specs.Replies.{plan_now}
use Rattle.xdb_plain.specs.State.{Plain, Job, opening, open_loads, without_job}
use Rattle.xdb_plain.specs.Steps.{MayStand}
use Rattle.xdb_plain.specs.declared.act.Act.{Act}
use Rattle.xdb_plain.specs.declared.act.Act.TheVariants as act
use Rattle.xdb_plain.specs.declared.note.Note.{Note}
use Rattle.xdb_plain.specs.declared.reply.Reply.{Reply}
use Rattle.xdb_plain.specs.declared.reply.Reply.TheVariants as reply
use Rattle.xdb_model.proofs.LegalLaws.{over-legal}
use Rattle.xdb_model.proofs.CauseLaws.{took}
use Rattle.xdb_model.proofs.BackingLaws.{JobHas, LoadHas, range-all, known-all}
use Rattle.xdb_model.proofs.FileLaws.{JobBelow, LoadBelow, file-later, files-step, same-numbers}
use Rattle.xdb_model.proofs.ListLaws.{all-more}
use Rattle.xdb_model.proofs.LoadLaws.{AreNamedOnce, LoadsFree, once-by, free-by, none-open}
use Rattle.xdb_model.proofs.TakenLaws.{only-reap, first-passes}
use Rattle.xdb_model.specs.Numbered.{FilesFit, TakenFit}

-- ---- numbers below another one

abbrev pub Below : ℕ → List ℕ → Type 0
Below file ns = AllByRecursion (λ n. n < file) ns

below-later : (low high : ℕ) (ns : List ℕ) → low ≤ high → Below low ns → Below high ns
below-later low high [] le h = tt
below-later low high (n ∷ ns) le h = let first = h.0 in (omega arith, below-later low high ns le h.1)

low-jobs : (p : Plain) → FilesFit p → AllByRecursion (JobHas (λ n. n < p.file)) p.jobs
low-jobs p fit = all-more (JobBelow p.file) _ p.jobs (λ j low. range-all (λ n. n < p.file) j.first (job_numbers j.kind) (λ i from to. omega arith)) fit.of_jobs

low-loads : (p : Plain) → FilesFit p → AllByRecursion (LoadHas (λ n. n < p.file)) p.loads
low-loads p fit = all-more (LoadBelow p.file) _ p.loads (λ l low. range-all (λ n. n < p.file) l.first (length l.tables) (λ i from to. omega arith)) fit.of_loads

known-by : (p : Plain) (note : Note) → MayStand p note → FilesFit p → Below p.file p.known → Below (file_after p note.act (outcome note.reply) note.edit) (known_after p note)
known-by p note may fit h =
    below-later p.file (file_after p note.act (outcome note.reply) note.edit) (known_after p note) (file-later p note.act (outcome note.reply) note.edit)
    (known-all (λ n. n < p.file) p note may (low-jobs p fit) (low-loads p fit) h)

-- ---- who has a number

-- not from that number on
pub not-within : (file len n : ℕ) → n < file → is_within file len n ≡ false
not-within file len n low = and_left (leb file n) (ltb n (file + len)) (lt-leb file n low)

abbrev pub JobFree : ℕ → Job → Type 0
JobFree n j = job_owns n j ≡ false

abbrev pub JobsFree : ℕ → List Job → Type 0
JobsFree n jobs = AllByRecursion (JobFree n) jobs

jobs-push : (n : ℕ) (jobs : List Job) (j : Job) → JobsFree n jobs → JobFree n j → JobsFree n (jobs ++ j ∷ [])
jobs-push n [] j h is = (is, tt)
jobs-push n (x ∷ jobs) j h is = (h.0, jobs-push n jobs j h.1 is)

jobs-none : (n : ℕ) (jobs : List Job) → JobsFree n jobs → JobsFree n (jobs ++ [])
jobs-none n [] h = tt
jobs-none n (x ∷ jobs) h = (h.0, jobs-none n jobs h.1)

jobs-kept : (n : ℕ) (x : Job) (rest : List Job) (t : Bool) → JobFree n x → JobsFree n rest → JobsFree n (cond t (x ∷ rest) rest)
jobs-kept n x rest true is h = (is, h)
jobs-kept n x rest false is h = h

jobs-without : (n job : ℕ) (jobs : List Job) → JobsFree n jobs → JobsFree n (without_job job jobs)
jobs-without n job [] h = tt
jobs-without n job (x ∷ jobs) h = jobs-kept n x (without_job job jobs) (not (eqb x.num job)) h.0 (jobs-without n job jobs h.1)

jobs-cancelled : (n : ℕ) (load : List ℕ) (span : Bounds) (jobs : List Job) → JobsFree n jobs → JobsFree n (map (cancelled_job load span) jobs)
jobs-cancelled n load span [] h = tt
jobs-cancelled n load span (x ∷ jobs) h =
    (subst (λ len. is_within x.first len n ≡ false) (sym (same-numbers load span x.kind)) h.0, jobs-cancelled n load span jobs h.1)

pub jobs-installed : (n : ℕ) (load : List ℕ) (span : Option Bounds) (jobs : List Job) → JobsFree n jobs → JobsFree n (cancelled_by load span jobs)
jobs-installed n load None jobs h = h
jobs-installed n load (Some span) jobs h = jobs-cancelled n load span jobs h

jobs-flush : (n : ℕ) (p : Plain) (gs : List Group) → n < p.file → JobsFree n p.jobs → JobsFree n (p.jobs ++ new_flush p gs)
jobs-flush n p [] low h = jobs-none n p.jobs h
jobs-flush n p (g ∷ gs) low h = jobs-push n p.jobs _ h (not-within p.file 1 n low)

jobs-compaction : (n : ℕ) (p : Plain) (plan : Option Planned) → n < p.file → JobsFree n p.jobs → JobsFree n (p.jobs ++ new_compaction p plan)
jobs-compaction n p None low h = jobs-none n p.jobs h
jobs-compaction n p (Some plan) low h = jobs-push n p.jobs _ h (not-within p.file 64 n low)

pub jobs-by : (n : ℕ) (p : Plain) (a : Act) (o : Outcome) → n < p.file → JobsFree n p.jobs → JobsFree n (jobs_after p a o)
jobs-by n p act.FlushTake succeeds low h = jobs-flush n p p.sealed low h
jobs-by n p (act.CompactTake which) succeeds low h = jobs-compaction n p (plan_now p which) low h
jobs-by n p (act.Put job) succeeds low h = jobs-without n job p.jobs h
jobs-by n p (act.Put job) cancels low h = jobs-without n job p.jobs h
jobs-by n p (act.Build job) fails low h = jobs-without n job p.jobs h
jobs-by n p (act.Install load) succeeds low h = jobs-installed n load (span_of_load p load) p.jobs h
jobs-by n p _ _ low h = h

all-jobs : (p : Plain) (a : Act) (o : Outcome) (ns : List ℕ) → Below p.file ns → AllByRecursion (λ n. JobsFree n p.jobs) ns → AllByRecursion (λ n. JobsFree n (jobs_after p a o)) ns
all-jobs p a o [] low h = tt
all-jobs p a o (n ∷ ns) low h = (jobs-by n p a o low.0 h.0, all-jobs p a o ns low.1 h.1)

all-loads : (p : Plain) (note : Note) (ns : List ℕ) → MayStand p note → AreNamedOnce p.loads → Below p.file ns → AllByRecursion (λ n. LoadsFree n p.loads) ns → AllByRecursion (λ n. LoadsFree n (after p note).loads) ns
all-loads p note [] may once low h = tt
all-loads p note (n ∷ ns) may once low h =
    (free-by n p note.by note.act (outcome note.reply) note.reply refl may.reply (λ len. not-within p.file len n low.0) once h.0, all-loads p note ns may once low.1 h.1)

all-push : (P : ℕ → Type 0) (ns : List ℕ) (n : ℕ) → AllByRecursion P ns → P n → AllByRecursion P (ns ++ n ∷ [])
all-push P [] n h is = (is, tt)
all-push P (m ∷ ns) n h is = (h.0, all-push P ns n h.1 is)

-- ---- the number that is taken

-- the first that passes is one of them
first-kept : (P : ℕ → Type 0) (test : ℕ → Bool) (x : ℕ) (xs : List ℕ) (n : ℕ) (others : List ℕ) (t : Bool) → cond t (x ∷ filter test xs) (filter test xs) ≡ n ∷ others → P x → (filter test xs ≡ n ∷ others → P n) → P n
first-kept P test x xs n others true e is more = let same : x ≡ n = cc in subst P same is
first-kept P test x xs n others false e is more = more e

pub first-all : (P : ℕ → Type 0) (test : ℕ → Bool) (xs : List ℕ) (n : ℕ) (others : List ℕ) → filter test xs ≡ n ∷ others → AllByRecursion P xs → P n
first-all P test [] n others e h = absurd (cc)
first-all P test (x ∷ xs) n others e h = first-kept P test x xs n others (test x) e h.0 (λ f. first-all P test xs n others f h.1)

none-owns : (n : ℕ) (jobs : List Job) → list_any (job_owns n) jobs ≡ false → JobsFree n jobs
none-owns n [] h = tt
none-owns n (j ∷ jobs) h = let parts = or_parts (job_owns n j) (list_any (job_owns n) jobs) h in (parts.0, none-owns n jobs parts.1)

dead-unowned : (p : Plain) (n : ℕ) → is_dead p n ≡ true → is_owned p n ≡ false
dead-unowned p n e =
    let front = and_parts (eqb (count p n) 0 && not (is_owned p n)) (not (is_among n p.taken)) e in
    not-true (is_owned p n) (and_parts (eqb (count p n) 0) (not (is_owned p n)) front.0).1

pub dead-open : (p : Plain) (n : ℕ) → is_dead p n ≡ true → LoadsFree n p.loads
dead-open p n e = none-open n p.loads (or_parts (list_any (load_owns n) (open_loads p.loads)) (list_any (job_owns n) p.jobs) (dead-unowned p n e)).0

pub dead-free : (p : Plain) (n : ℕ) → is_dead p n ≡ true → JobsFree n p.jobs
dead-free p n e = none-owns n p.jobs (or_parts (list_any (load_owns n) (open_loads p.loads)) (list_any (job_owns n) p.jobs) (dead-unowned p n e)).1

-- ---- over a whole history

pub record Fit (p : Plain) : Type 0 where
  pub files : FilesFit p
  pub once : AreNamedOnce p.loads
  pub known : Below p.file p.known
  pub taken : TakenFit p

taken-below : (p : Plain) (note : Note) (r : Reply) → note.reply ≡ r → MayStand p note → Fit p → Below p.file (taken_after p.taken r)
taken-below p note (reply.Took n) is may fit =
    let reaps = only-reap p note n may is in
    let first = took p note n may reaps is in
    all-push (λ m. m < p.file) p.taken n fit.taken.below (first-all (λ m. m < p.file) (is_dead p) p.known n first.0 first.1 fit.known)
taken-below p note _ is may fit = fit.taken.below

taken-jobs : (p : Plain) (note : Note) (r : Reply) → note.reply ≡ r → MayStand p note → Fit p → AllByRecursion (λ n. JobsFree n p.jobs) (taken_after p.taken r)
taken-jobs p note (reply.Took n) is may fit =
    let reaps = only-reap p note n may is in
    let first = took p note n may reaps is in
    all-push (λ m. JobsFree m p.jobs) p.taken n fit.taken.of_jobs (dead-free p n (first-passes (is_dead p) p.known n first.0 first.1))
taken-jobs p note _ is may fit = fit.taken.of_jobs

taken-loads : (p : Plain) (note : Note) (r : Reply) → note.reply ≡ r → MayStand p note → Fit p → AllByRecursion (λ n. LoadsFree n p.loads) (taken_after p.taken r)
taken-loads p note (reply.Took n) is may fit =
    let reaps = only-reap p note n may is in
    let first = took p note n may reaps is in
    all-push (λ m. LoadsFree m p.loads) p.taken n fit.taken.of_loads (dead-open p n (first-passes (is_dead p) p.known n first.0 first.1))
taken-loads p note _ is may fit = fit.taken.of_loads

pub fit-after : (p : Plain) (note : Note) → MayStand p note → Fit p → Fit (after p note)
fit-after p note may fit =
    let below = taken-below p note note.reply refl may fit in
    record {
      files = files-step p note may fit.files;
      once = once-by p note.by note.act (outcome note.reply) note.reply refl may.reply fit.once;
      known = known-by p note may fit.files fit.known;
      taken = record {
        below = below-later p.file (file_after p note.act (outcome note.reply) note.edit) (taken_after p.taken note.reply) (file-later p note.act (outcome note.reply) note.edit) below;
        of_jobs = all-jobs p note.act (outcome note.reply) (taken_after p.taken note.reply) below (taken-jobs p note note.reply refl may fit);
        of_loads = all-loads p note (taken_after p.taken note.reply) may fit.once below (taken-loads p note note.reply refl may fit);
      };
    }

pub fit-all : (p : Plain) (notes : List Note) → Legal p notes → Fit p → Fit (after_all p notes)
fit-all p notes legal fit = over-legal Fit fit-after p notes legal fit

pub fit-first : (first_seq first_file : ℕ) → Fit (opening first_seq first_file)
fit-first first_seq first_file = record { files = record { of_jobs = tt; of_loads = tt }; once = tt; known = tt; taken = record { below = tt; of_jobs = tt; of_loads = tt } }

pub taken-fit : (first_seq first_file : ℕ) (notes : List Note) → Legal (opening first_seq first_file) notes → TakenFit (after_all (opening first_seq first_file) notes)
taken-fit first_seq first_file notes legal =
    (fit-all (opening first_seq first_file) notes legal (fit-first first_seq first_file)).taken
