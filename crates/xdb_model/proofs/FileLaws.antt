-- File numbers are given in order.
use Rattle.std.proofs.Common.{◌≡◌, ℕ, ◌+◌, ◌≤◌, Bool, true, false, cond, not, eqb, leb, ◌&&◌, ◌||◌, List, [], ◌∷◌, ◌++◌, length, map, Option, Some, None, is_some, is_none, refl, sym, subst, arith, inl, inr}
use Rattle.std.proofs.lemmas.Bool.{false≢true, or_cases}
use Rattle.std.specs.List.{list_any, AllByRecursion}
use Rattle.xdb_key.specs.Bounds.{Bounds}
use Rattle.xdb_key.specs.Groups.{Group}
use Rattle.xdb_edit.specs.Changes.{Changes}
use Rattle.xdb_edit.specs.Plans.{Planned}
use Rattle.xdb_plain.specs.Changes.{after, jobs_after, loads_after, file_after, new_flush, new_compaction, new_load, cancelled_by, cancelled_job, cancelled_kind, in_phase, span_of_load}
use Rattle.xdb_plain.specs.Counts.{job_numbers}
use Rattle.xdb_plain.specs.Edits.{is_empty}
use Rattle.xdb_plain.specs.Fences.{fence, fence_met, first_overlap}
use Rattle.xdb_plain.specs.Legal.{Legal, after_all}
use Rattle.xdb_plain.specs.Outcomes.{Outcome, succeeds, begins, fails, cancels, outcome}
use Rattle.xdb_plain.specs.Replies.{may_reply, same_reply, plan_now, load_open_replies, or_reply, overlap_reply, lacks_numbers, lacks_files}
use Rattle.xdb_plain.specs.State.{Plain, Load, Phase, being_opened, waiting, is_in, Job, JobKind, flush_of, compaction_of, opening, open_loads, found_load, without_job, without_load, same_name}
use Rattle.xdb_plain.specs.Steps.{MayStand}
use Rattle.xdb_plain.specs.Tables.{TableOps}
use Rattle.xdb_plain.specs.declared.act.Act.{Act}
use Rattle.xdb_plain.specs.declared.act.Act.TheVariants as act
use Rattle.xdb_plain.specs.declared.act.By.{By}
use Rattle.xdb_plain.specs.declared.note.Note.{Note}
use Rattle.xdb_plain.specs.declared.reply.Reply.{Reply}
use Rattle.xdb_plain.specs.declared.reply.Reply.TheVariants as reply
use Rattle.xdb_model.proofs.LegalLaws.{over-legal}
use Rattle.xdb_model.specs.Numbered.{FilesFit}

-- ---- the next number never falls

pub file-later : (p : Plain) (a : Act) (o : Outcome) (e : Option Changes) → p.file ≤ file_after p a o e
file-later p act.FlushTake succeeds e = omega arith
file-later p (act.CompactTake which) succeeds e = omega arith
file-later p (act.LoadOpen load tables span) begins e = omega arith
file-later p (act.Install load) succeeds e = omega arith
file-later p _ _ e = omega arith

-- ---- jobs

abbrev pub JobBelow : ℕ → Job → Type 0
JobBelow file j = j.first + job_numbers j.kind ≤ file

abbrev pub JobsBelow : ℕ → List Job → Type 0
JobsBelow file jobs = AllByRecursion (JobBelow file) jobs

jobs-later : (low high : ℕ) (jobs : List Job) → low ≤ high → JobsBelow low jobs → JobsBelow high jobs
jobs-later low high [] le h = tt
jobs-later low high (j ∷ jobs) le h =
    let first = h.0 in
    (omega arith, jobs-later low high jobs le h.1)

jobs-push : (low high : ℕ) (jobs : List Job) (j : Job) → low ≤ high → JobsBelow low jobs → JobBelow high j → JobsBelow high (jobs ++ j ∷ [])
jobs-push low high [] j le h is = (is, tt)
jobs-push low high (x ∷ jobs) j le h is =
    let first = h.0 in
    (omega arith, jobs-push low high jobs j le h.1 is)

jobs-none : (low high : ℕ) (jobs : List Job) → low ≤ high → JobsBelow low jobs → JobsBelow high (jobs ++ [])
jobs-none low high [] le h = tt
jobs-none low high (x ∷ jobs) le h =
    let first = h.0 in
    (omega arith, jobs-none low high jobs le h.1)

jobs-kept : (file : ℕ) (x : Job) (rest : List Job) (t : Bool) → JobBelow file x → JobsBelow file rest → JobsBelow file (cond t (x ∷ rest) rest)
jobs-kept file x rest true is h = (is, h)
jobs-kept file x rest false is h = h

jobs-without : (file job : ℕ) (jobs : List Job) → JobsBelow file jobs → JobsBelow file (without_job job jobs)
jobs-without file job [] h = tt
jobs-without file job (x ∷ jobs) h = jobs-kept file x (without_job job jobs) (not (eqb x.num job)) h.0 (jobs-without file job jobs h.1)

pub same-numbers : (load : List ℕ) (span : Bounds) (kind : JobKind) → job_numbers (cancelled_kind load span kind) ≡ job_numbers kind
same-numbers load span (flush_of group) = refl
same-numbers load span (compaction_of c) = refl

jobs-cancelled : (file : ℕ) (load : List ℕ) (span : Bounds) (jobs : List Job) → JobsBelow file jobs → JobsBelow file (map (cancelled_job load span) jobs)
jobs-cancelled file load span [] h = tt
jobs-cancelled file load span (x ∷ jobs) h =
    (subst (λ n. x.first + n ≤ file) (sym (same-numbers load span x.kind)) h.0, jobs-cancelled file load span jobs h.1)

jobs-installed : (file : ℕ) (load : List ℕ) (span : Option Bounds) (jobs : List Job) → JobsBelow file jobs → JobsBelow file (cancelled_by load span jobs)
jobs-installed file load None jobs h = h
jobs-installed file load (Some span) jobs h = jobs-cancelled file load span jobs h

jobs-flush : (p : Plain) (gs : List Group) → JobsBelow p.file p.jobs → JobsBelow (p.file + 1) (p.jobs ++ new_flush p gs)
jobs-flush p [] h = jobs-none p.file (p.file + 1) p.jobs (omega arith) h
jobs-flush p (g ∷ gs) h = jobs-push p.file (p.file + 1) p.jobs _ (omega arith) h (omega arith)

jobs-compaction : (p : Plain) (plan : Option Planned) → JobsBelow p.file p.jobs → JobsBelow (p.file + 64) (p.jobs ++ new_compaction p plan)
jobs-compaction p None h = jobs-none p.file (p.file + 64) p.jobs (omega arith) h
jobs-compaction p (Some plan) h = jobs-push p.file (p.file + 64) p.jobs _ (omega arith) h (omega arith)

jobs-by : (p : Plain) (a : Act) (o : Outcome) (e : Option Changes) → JobsBelow p.file p.jobs → JobsBelow (file_after p a o e) (jobs_after p a o)
jobs-by p act.FlushTake succeeds e h = jobs-flush p p.sealed h
jobs-by p (act.CompactTake which) succeeds e h = jobs-compaction p (plan_now p which) h
jobs-by p (act.Put job) succeeds e h = jobs-without p.file job p.jobs h
jobs-by p (act.Put job) cancels e h = jobs-without p.file job p.jobs h
jobs-by p (act.Build job) fails e h = jobs-without p.file job p.jobs h
jobs-by p (act.Install load) succeeds e h =
    jobs-later p.file (file_after p (act.Install load) succeeds e) (cancelled_by load (span_of_load p load) p.jobs) (file-later p (act.Install load) succeeds e) (jobs-installed p.file load (span_of_load p load) p.jobs h)
jobs-by p (act.LoadOpen load tables span) begins e h = jobs-later p.file (p.file + length tables) p.jobs (omega arith) h
jobs-by p _ _ e h = h

-- ---- loads

abbrev pub LoadBelow : ℕ → Load → Type 0
LoadBelow file l = l.first + length l.tables ≤ file

abbrev pub LoadsBelow : ℕ → List Load → Type 0
LoadsBelow file loads = AllByRecursion (LoadBelow file) loads

loads-later : (low high : ℕ) (loads : List Load) → low ≤ high → LoadsBelow low loads → LoadsBelow high loads
loads-later low high [] le h = tt
loads-later low high (l ∷ loads) le h =
    let first = h.0 in
    (omega arith, loads-later low high loads le h.1)

loads-push : (low high : ℕ) (loads : List Load) (l : Load) → low ≤ high → LoadsBelow low loads → LoadBelow high l → LoadsBelow high (loads ++ l ∷ [])
loads-push low high [] l le h is = (is, tt)
loads-push low high (x ∷ loads) l le h is =
    let first = h.0 in
    (omega arith, loads-push low high loads l le h.1 is)

loads-kept : (file : ℕ) (x : Load) (rest : List Load) (t : Bool) → LoadBelow file x → LoadsBelow file rest → LoadsBelow file (cond t (x ∷ rest) rest)
loads-kept file x rest true is h = (is, h)
loads-kept file x rest false is h = h

loads-without : (file : ℕ) (name : List ℕ) (loads : List Load) → LoadsBelow file loads → LoadsBelow file (without_load name loads)
loads-without file name [] h = tt
loads-without file name (x ∷ loads) h = loads-kept file x (without_load name loads) (not (same_name x.name name)) h.0 (loads-without file name loads h.1)

loads-phase : (file : ℕ) (name : List ℕ) (phase : Phase) (loads : List Load) → LoadsBelow file loads → LoadsBelow file (in_phase name phase loads)
loads-phase file name phase [] h = tt
loads-phase file name phase (x ∷ loads) h = (h.0, loads-phase file name phase loads h.1)

-- a load that is opened at once has no tables
opened-end : (none lacking : Bool) → list_any (same_reply reply.Opened) (cond none (reply.Opened ∷ []) (cond lacking (reply.Spent ∷ []) (reply.Opening ∷ []))) ≡ true → none ≡ true
opened-end true lacking e = refl
opened-end false true e = absurd (false≢true e)
opened-end false false e = absurd (false≢true e)

opened-fence : (none lacking : Bool) (met : Option (List ℕ)) → list_any (same_reply reply.Opened) (or_reply reply.Fenced met (cond none (reply.Opened ∷ []) (cond lacking (reply.Spent ∷ []) (reply.Opening ∷ [])))) ≡ true → none ≡ true
opened-fence none lacking None e = opened-end none lacking e
opened-fence none lacking (Some name) e = absurd (false≢true e)

opened-overlap : (none lacking : Bool) (pair : Option (List ℕ × List ℕ)) (met : Option (List ℕ)) → list_any (same_reply reply.Opened) (or_reply overlap_reply pair (or_reply reply.Fenced met (cond none (reply.Opened ∷ []) (cond lacking (reply.Spent ∷ []) (reply.Opening ∷ []))))) ≡ true → none ≡ true
opened-overlap none lacking None met e = opened-fence none lacking met e
opened-overlap none lacking (Some pair) met e = absurd (false≢true e)

opened-new : (nothing many none lacking : Bool) (pair : Option (List ℕ × List ℕ)) (met : Option (List ℕ)) → list_any (same_reply reply.Opened) (cond nothing (reply.Nothing ∷ []) (cond many (reply.TooMany ∷ []) (reply.Memory ∷ or_reply overlap_reply pair (or_reply reply.Fenced met (cond none (reply.Opened ∷ []) (cond lacking (reply.Spent ∷ []) (reply.Opening ∷ []))))))) ≡ true → none ≡ true
opened-new true many none lacking pair met e = absurd (false≢true e)
opened-new false true none lacking pair met e = absurd (false≢true e)
opened-new false false none lacking pair met e = opened-overlap none lacking pair met e

empty-length : (tables : List TableOps) → is_empty tables ≡ true → length tables ≡ 0
empty-length [] e = refl
empty-length (t ∷ ts) e = absurd (false≢true e)

no-tables : (p : Plain) (tables : List TableOps) (span : Option Bounds) → list_any (same_reply reply.Opened) (load_open_replies p tables span None) ≡ true → length tables ≡ 0
no-tables p tables span e =
    empty-length tables (opened-new (is_empty tables && is_none span) (leb 16 (length (open_loads p.loads))) (is_empty tables) (lacks_numbers p 1 || lacks_files p (length tables)) (first_overlap tables) (fence_met (fence tables span) p.loads) e)

opened-tail : (none lacking : Bool) (r : Reply) → outcome r ≡ succeeds → list_any (same_reply r) (cond none (reply.Opened ∷ []) (cond lacking (reply.Spent ∷ []) (reply.Opening ∷ []))) ≡ true → r ≡ reply.Opened
opened-tail true lacking reply.Opened o e = refl
opened-tail false true reply.Spent o e = absurd (cc)
opened-tail false false reply.Opening o e = absurd (cc)
opened-tail true lacking _ o e = absurd (false≢true e)
opened-tail false true _ o e = absurd (false≢true e)
opened-tail false false _ o e = absurd (false≢true e)

opened-past : (none lacking : Bool) (met : Option (List ℕ)) (r : Reply) → outcome r ≡ succeeds → list_any (same_reply r) (or_reply reply.Fenced met (cond none (reply.Opened ∷ []) (cond lacking (reply.Spent ∷ []) (reply.Opening ∷ [])))) ≡ true → r ≡ reply.Opened
opened-past none lacking None r o e = opened-tail none lacking r o e
opened-past none lacking (Some name) (reply.Fenced l) o e = absurd (cc)
opened-past none lacking (Some name) _ o e = absurd (false≢true e)

opened-apart : (none lacking : Bool) (pair : Option (List ℕ × List ℕ)) (met : Option (List ℕ)) (r : Reply) → outcome r ≡ succeeds → list_any (same_reply r) (or_reply overlap_reply pair (or_reply reply.Fenced met (cond none (reply.Opened ∷ []) (cond lacking (reply.Spent ∷ []) (reply.Opening ∷ []))))) ≡ true → r ≡ reply.Opened
opened-apart none lacking None met r o e = opened-past none lacking met r o e
opened-apart none lacking (Some pair) met (reply.Overlap a b) o e = absurd (cc)
opened-apart none lacking (Some pair) met _ o e = absurd (false≢true e)

not-memory : (r : Reply) → outcome r ≡ succeeds → same_reply r reply.Memory ≡ true → ⊥
not-memory reply.Memory o e = cc
not-memory _ o e = false≢true e

opened-behind : (none lacking : Bool) (pair : Option (List ℕ × List ℕ)) (met : Option (List ℕ)) (r : Reply) → outcome r ≡ succeeds → list_any (same_reply r) (reply.Memory ∷ or_reply overlap_reply pair (or_reply reply.Fenced met (cond none (reply.Opened ∷ []) (cond lacking (reply.Spent ∷ []) (reply.Opening ∷ []))))) ≡ true → r ≡ reply.Opened
opened-behind none lacking pair met r o e =
    elim (or_cases (same_reply r reply.Memory) (list_any (same_reply r) (or_reply overlap_reply pair (or_reply reply.Fenced met (cond none (reply.Opened ∷ []) (cond lacking (reply.Spent ∷ []) (reply.Opening ∷ [])))))) e) [
      | inl m ↦ absurd (not-memory r o m)
      | inr later ↦ opened-apart none lacking pair met r o later
    ]

opened-of : (nothing many none lacking : Bool) (pair : Option (List ℕ × List ℕ)) (met : Option (List ℕ)) (r : Reply) → outcome r ≡ succeeds → list_any (same_reply r) (cond nothing (reply.Nothing ∷ []) (cond many (reply.TooMany ∷ []) (reply.Memory ∷ or_reply overlap_reply pair (or_reply reply.Fenced met (cond none (reply.Opened ∷ []) (cond lacking (reply.Spent ∷ []) (reply.Opening ∷ []))))))) ≡ true → r ≡ reply.Opened
opened-of true many none lacking pair met reply.Nothing o e = absurd (cc)
opened-of true many none lacking pair met _ o e = absurd (false≢true e)
opened-of false true none lacking pair met reply.TooMany o e = absurd (cc)
opened-of false true none lacking pair met _ o e = absurd (false≢true e)
opened-of false false none lacking pair met r o e = opened-behind none lacking pair met r o e

-- which reply a load's opening has where it succeeds
opened-reply : (p : Plain) (tables : List TableOps) (span : Option Bounds) (r : Reply) → outcome r ≡ succeeds → list_any (same_reply r) (load_open_replies p tables span None) ≡ true → r ≡ reply.Opened
opened-reply p tables span r o e = opened-of (is_empty tables && is_none span) (leb 16 (length (open_loads p.loads))) (is_empty tables) (lacks_numbers p 1 || lacks_files p (length tables)) (first_overlap tables) (fence_met (fence tables span) p.loads) r o e

pub opened-empty : (p : Plain) (tables : List TableOps) (span : Option Bounds) (r : Reply) → outcome r ≡ succeeds → list_any (same_reply r) (load_open_replies p tables span None) ≡ true → length tables ≡ 0
opened-empty p tables span r o e = no-tables p tables span (subst (λ x. list_any (same_reply x) (load_open_replies p tables span None) ≡ true) (opened-reply p tables span r o e) e)

opened-or : (p : Plain) (by : By) (load : List ℕ) (tables : List TableOps) (span : Option Bounds) (found : Option Load) (r : Reply) → outcome r ≡ succeeds → list_any (same_reply r) (load_open_replies p tables span found) ≡ true → LoadsBelow p.file p.loads → LoadsBelow p.file (cond (is_some found) (in_phase load waiting p.loads) (p.loads ++ new_load p by load tables span waiting ∷ []))
opened-or p by load tables span (Some l) r o e h = loads-phase p.file load waiting p.loads h
opened-or p by load tables span None r o e h =
    let none = opened-empty p tables span r o e in
    loads-push p.file p.file p.loads (new_load p by load tables span waiting) (omega arith) h (omega arith)

loads-by : (p : Plain) (by : By) (a : Act) (o : Outcome) (e : Option Changes) (r : Reply) → outcome r ≡ o → list_any (same_reply r) (may_reply p by a) ≡ true → LoadsBelow p.file p.loads → LoadsBelow (file_after p a o e) (loads_after p by a o)
loads-by p by (act.LoadOpen load tables span) begins e r is may h = loads-push p.file (p.file + length tables) p.loads (new_load p by load tables span being_opened) (omega arith) h (omega arith)
loads-by p by (act.LoadOpen load tables span) succeeds e r is may h = opened-or p by load tables span (found_load load p.loads) r is may h
loads-by p by (act.LoadOpen load tables span) fails e r is may h = loads-without p.file load p.loads h
loads-by p by (act.Install load) succeeds e r is may h =
    loads-later p.file (file_after p (act.Install load) succeeds e) (in_phase load is_in p.loads) (file-later p (act.Install load) succeeds e) (loads-phase p.file load is_in p.loads h)
loads-by p by act.FlushTake succeeds e r is may h = loads-later p.file (p.file + 1) p.loads (omega arith) h
loads-by p by (act.CompactTake which) succeeds e r is may h = loads-later p.file (p.file + 64) p.loads (omega arith) h
loads-by p by _ _ e r is may h = h

pub files-step : (p : Plain) (note : Note) → MayStand p note → FilesFit p → FilesFit (after p note)
files-step p note may fit = record {
  of_jobs = jobs-by p note.act (outcome note.reply) note.edit fit.of_jobs;
  of_loads = loads-by p note.by note.act (outcome note.reply) note.edit note.reply refl may.reply fit.of_loads;
}

pub files-fit : (first_seq first_file : ℕ) (notes : List Note) → Legal (opening first_seq first_file) notes → FilesFit (after_all (opening first_seq first_file) notes)
files-fit first_seq first_file notes legal = over-legal FilesFit files-step (opening first_seq first_file) notes legal (record { of_jobs = tt; of_loads = tt })
