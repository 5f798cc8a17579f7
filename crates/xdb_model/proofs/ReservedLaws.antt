-- File numbers are reserved in order, and no file has another one.
use Rattle.std.proofs.Common.{◌≡◌, ℕ, zero, suc, ◌+◌, ◌<◌, ◌≤◌, true, false, cond, not, eqb, List, [], ◌∷◌, ◌++◌, length, Option, Some, None, is_some, refl, sym, ap, subst, ◌∙◌, arith}
use Rattle.std.proofs.lemmas.Bool.{or_from, ne_eqb}
use Rattle.std.proofs.lemmas.List.{append-nil, append_assoc}
use Rattle.std.specs.List.{list_any, flat_map, range_with_len, AllByRecursion}
use Rattle.xdb_rangedel.specs.Members.{Has}
use Rattle.xdb_key.specs.Bounds.{Bounds}
use Rattle.xdb_key.specs.Groups.{Group}
use Rattle.xdb_meta.specs.Table.{Table}
use Rattle.xdb_edit.specs.Changes.{Changes}
use Rattle.xdb_edit.specs.Plans.{Planned}
use Rattle.xdb_edit.specs.Versions.{LevelLists}
use Rattle.xdb_plain.specs.Changes.{after, file_after, jobs_after, loads_after, taken_after, new_files, new_flush, new_compaction, new_load, cancelled_by, cancelled_job, at_phase, in_phase, span_of_load}
use Rattle.xdb_plain.specs.Counts.{is_among, is_dead, job_numbers, backings}
use Rattle.xdb_plain.specs.Holds.{version_after}
use Rattle.xdb_plain.specs.Legal.{Legal, after_all}
use Rattle.xdb_plain.specs.Outcomes.{Outcome, succeeds, begins, fails, cancels, outcome}
use Rattle.xdb_plain.specs.Replies.{may_reply, same_reply, plan_now, load_open_replies}
use Rattle.xdb_plain.specs.Reservations.{reserved_len, reserved_by, reserved_in}
use Rattle.xdb_plain.specs.State.{Plain, Version, Hold, Load, Phase, being_opened, waiting, is_in, Job, opening, found_load, same_name}
use Rattle.xdb_plain.specs.Steps.{MayStand}
use Rattle.xdb_plain.specs.Tables.{TableOps}
use Rattle.xdb_plain.specs.declared.act.Act.{Act}
use Rattle.xdb_plain.specs.declared.act.Act.TheVariants as act
use Rattle.xdb_plain.specs.declared.act.By.{By}
use Rattle.xdb_plain.specs.declared.note.Note.{Note}
use Rattle.xdb_plain.specs.declared.reply.Reply.{Reply}
use Rattle.xdb_plain.specs.declared.reply.Reply.TheVariants as reply
use Rattle.xdb_model.proofs.BackingLaws.{JobHas, LoadHas, OpenHas, AllStandOn, StandsOn, AddsOn, files-by, tried-by, known-all, adds-on}
use Rattle.xdb_model.proofs.CauseLaws.{took}
use Rattle.xdb_model.proofs.EditedLaws.{levels-all}
use Rattle.xdb_model.proofs.FileLaws.{opened-empty, same-numbers}
use Rattle.xdb_model.proofs.HeldLaws.{holds-step}
use Rattle.xdb_model.proofs.KnownLaws.{first-all}
use Rattle.xdb_model.proofs.ListLaws.{all-append, all-from_has, all-kept, all-map, all-more}
use Rattle.xdb_model.proofs.NamedLaws.{legal-parts}
use Rattle.xdb_model.proofs.TakenLaws.{only-reap}
use Rattle.xdb_model.specs.Counted.{standing}
use Rattle.xdb_model.specs.Numbered.{AreDistinct}
use Rattle.xdb_model.specs.Reserved.{RiseWithin, AreReserved}

pub reserved-push : (p : Plain) (notes : List Note) (note : Note) → reserved_in p (notes ++ note ∷ []) ≡ reserved_in p notes ++ reserved_by (after_all p notes) note
reserved-push p [] note = append-nil (reserved_by p note)
reserved-push p (n ∷ notes) note =
    ap (λ (ns : List ℕ). reserved_by p n ++ ns) (reserved-push (after p n) notes note)
    ∙ sym (append_assoc (reserved_by p n) (reserved_in (after p n) notes) (reserved_by (after_all (after p n) notes) note))

-- ---- they rise

rise-lower : (low least high : ℕ) (ns : List ℕ) → low ≤ least → RiseWithin least high ns → RiseWithin low high ns
rise-lower low least high [] le rise = omega arith
rise-lower low least high (n ∷ ns) le rise = let first = rise.0 in (omega arith, rise.1)

rise-append : (low middle high : ℕ) (ms ns : List ℕ) → RiseWithin low middle ms → RiseWithin middle high ns → RiseWithin low high (ms ++ ns)
rise-append low middle high [] ns rise more = rise-lower low middle high ns rise more
rise-append low middle high (m ∷ ms) ns rise more = (rise.0, rise-append (m + 1) middle high ms ns rise.1 more)

rise-range : (low len high : ℕ) → low + len ≤ high → RiseWithin low high (range_with_len low len)
rise-range low zero high le = omega arith
rise-range low (suc len) high le = (omega arith, rise-range (low + 1) len high (omega arith))

file-reserved : (p : Plain) (a : Act) (o : Outcome) (e : Option Changes) → p.file + reserved_len a o ≤ file_after p a o e
file-reserved p act.FlushTake succeeds e = omega arith
file-reserved p (act.CompactTake which) succeeds e = omega arith
file-reserved p (act.LoadOpen load tables span) begins e = omega arith
file-reserved p (act.Install load) succeeds e = omega arith
file-reserved p _ _ e = omega arith

pub reserved-rise : (p : Plain) (notes : List Note) → RiseWithin p.file (after_all p notes).file (reserved_in p notes)
reserved-rise p [] = omega arith
reserved-rise p (note ∷ notes) =
    rise-append p.file (after p note).file (after_all p (note ∷ notes)).file (reserved_by p note) (reserved_in (after p note) notes)
    (rise-range p.file (reserved_len note.act (outcome note.reply)) (after p note).file (file-reserved p note.act (outcome note.reply) note.edit))
    (reserved-rise (after p note) notes)

rise-end : (low high : ℕ) (ns : List ℕ) → RiseWithin low high ns → low ≤ high
rise-end low high [] rise = rise
rise-end low high (n ∷ ns) rise = let first = rise.0 in let last = rise-end (n + 1) high ns rise.1 in omega arith

rise-within : (low high : ℕ) (ns : List ℕ) → RiseWithin low high ns → AllByRecursion (λ n. (low ≤ n) × (n < high)) ns
rise-within low high [] rise = tt
rise-within low high (n ∷ ns) rise =
    let first = rise.0 in
    let last = rise-end (n + 1) high ns rise.1 in
    ((first, omega arith), all-more (λ m. (n + 1 ≤ m) × (m < high)) (λ m. (low ≤ m) × (m < high)) ns (λ m is. let above = is.0 in (omega arith, is.1)) (rise-within (n + 1) high ns rise.1))

rise-off : (n low high : ℕ) (ns : List ℕ) → n < low → RiseWithin low high ns → is_among n ns ≡ false
rise-off n low high [] below rise = refl
rise-off n low high (m ∷ ns) below rise =
    let first = rise.0 in
    or_from (eqb m n) (is_among n ns) (ne_eqb m n (λ same. omega arith)) (rise-off n (m + 1) high ns (omega arith) rise.1)

rise-distinct : (low high : ℕ) (ns : List ℕ) → RiseWithin low high ns → AreDistinct ns
rise-distinct low high [] rise = tt
rise-distinct low high (n ∷ ns) rise = (rise-off n (n + 1) high ns (omega arith) rise.1, rise-distinct (n + 1) high ns rise.1)

pub reserved-within : (p : Plain) (notes : List Note) → AllByRecursion (λ n. (p.file ≤ n) × (n < (after_all p notes).file)) (reserved_in p notes)
reserved-within p notes = rise-within p.file (after_all p notes).file (reserved_in p notes) (reserved-rise p notes)

pub reserved-once : (p : Plain) (notes : List Note) → AreDistinct (reserved_in p notes)
reserved-once p notes = rise-distinct p.file (after_all p notes).file (reserved_in p notes) (reserved-rise p notes)

-- ---- jobs and loads

flush-has : (P : ℕ → Type 0) (p : Plain) (gs : List Group) → AllByRecursion P (range_with_len p.file 1) → AllByRecursion (JobHas P) (new_flush p gs)
flush-has P p [] new = tt
flush-has P p (g ∷ gs) new = (new, tt)

compaction-has : (P : ℕ → Type 0) (p : Plain) (plan : Option Planned) → AllByRecursion P (range_with_len p.file 64) → AllByRecursion (JobHas P) (new_compaction p plan)
compaction-has P p None new = tt
compaction-has P p (Some plan) new = (new, tt)

cancelled-has : (P : ℕ → Type 0) (load : List ℕ) (span : Option Bounds) (jobs : List Job) → AllByRecursion (JobHas P) jobs → AllByRecursion (JobHas P) (cancelled_by load span jobs)
cancelled-has P load None jobs all = all
cancelled-has P load (Some s) jobs all =
    all-map (JobHas P) (cancelled_job load s) jobs
    (all-more (JobHas P) _ jobs (λ j has. subst (λ (n : ℕ). AllByRecursion P (range_with_len j.first n)) (sym (same-numbers load s j.kind)) has) all)

jobs-has : (P : ℕ → Type 0) (p : Plain) (a : Act) (o : Outcome) → AllByRecursion P (range_with_len p.file (reserved_len a o)) → AllByRecursion (JobHas P) p.jobs → AllByRecursion (JobHas P) (jobs_after p a o)
jobs-has P p act.FlushTake succeeds new all = all-append (JobHas P) p.jobs (new_flush p p.sealed) all (flush-has P p p.sealed new)
jobs-has P p (act.CompactTake which) succeeds new all = all-append (JobHas P) p.jobs (new_compaction p (plan_now p which)) all (compaction-has P p (plan_now p which) new)
jobs-has P p (act.Put job) succeeds new all = all-kept (JobHas P) (λ j. not (eqb j.num job)) p.jobs all
jobs-has P p (act.Put job) cancels new all = all-kept (JobHas P) (λ j. not (eqb j.num job)) p.jobs all
jobs-has P p (act.Build job) fails new all = all-kept (JobHas P) (λ j. not (eqb j.num job)) p.jobs all
jobs-has P p (act.Install load) succeeds new all = cancelled-has P load (span_of_load p load) p.jobs all
jobs-has P p _ _ new all = all

phase-has : (P : ℕ → Type 0) (name : List ℕ) (phase : Phase) (loads : List Load) → AllByRecursion (LoadHas P) loads → AllByRecursion (LoadHas P) (in_phase name phase loads)
phase-has P name phase loads all = all-map (LoadHas P) (at_phase name phase) loads all

opened-has : (P : ℕ → Type 0) (p : Plain) (by : By) (load : List ℕ) (tables : List TableOps) (span : Option Bounds) (found : Option Load) (r : Reply) → outcome r ≡ succeeds → list_any (same_reply r) (load_open_replies p tables span found) ≡ true
    → AllByRecursion (LoadHas P) p.loads → AllByRecursion (LoadHas P) (cond (is_some found) (in_phase load waiting p.loads) (p.loads ++ new_load p by load tables span waiting ∷ []))
opened-has P p by load tables span (Some l) r is may all = phase-has P load waiting p.loads all
opened-has P p by load tables span None r is may all =
    all-append (LoadHas P) p.loads (new_load p by load tables span waiting ∷ []) all
    (subst (λ (n : ℕ). AllByRecursion P (range_with_len p.file n)) (sym (opened-empty p tables span r is may)) tt, tt)

loads-has : (P : ℕ → Type 0) (p : Plain) (by : By) (a : Act) (o : Outcome) (r : Reply) → outcome r ≡ o → list_any (same_reply r) (may_reply p by a) ≡ true → AllByRecursion P (range_with_len p.file (reserved_len a o)) → AllByRecursion (LoadHas P) p.loads → AllByRecursion (LoadHas P) (loads_after p by a o)
loads-has P p by (act.LoadOpen load tables span) begins r is may new all = all-append (LoadHas P) p.loads (new_load p by load tables span being_opened ∷ []) all (new, tt)
loads-has P p by (act.LoadOpen load tables span) succeeds r is may new all = opened-has P p by load tables span (found_load load p.loads) r is may all
loads-has P p by (act.LoadOpen load tables span) fails r is may new all = all-kept (LoadHas P) (λ l. not (same_name l.name load)) p.loads all
loads-has P p by (act.Install load) succeeds r is may new all = phase-has P load is_in p.loads all
loads-has P p by _ _ r is may new all = all

-- ---- what is known, what was taken, and what tables stand on

taken-has : (P : ℕ → Type 0) (p : Plain) (note : Note) (r : Reply) → note.reply ≡ r → MayStand p note → AllByRecursion P p.known → AllByRecursion P p.taken → AllByRecursion P (taken_after p.taken r)
taken-has P p note (reply.Took n) is may known all =
    let first = took p note n may (only-reap p note n may is) is in
    all-append P p.taken (n ∷ []) all (first-all P (is_dead p) p.known n first.0 first.1 known, tt)
taken-has P p note _ is may known all = all

version-has : (P : ℕ → Type 0) (v : Version) (o : Option Changes) → AddsOn P o → AllStandOn P v.levels → AllStandOn P (version_after v o).levels
version-has P v None adds all = all
version-has P v (Some e) adds all = levels-all (StandsOn P) 0 e v.levels adds all

-- each number that the state has is one of these
record HasOnly (P : ℕ → Type 0) (p : Plain) : Type 0 where
  jobs : AllByRecursion (JobHas P) p.jobs
  loads : AllByRecursion (LoadHas P) p.loads
  known : AllByRecursion P p.known
  taken : AllByRecursion P p.taken
  current : AllStandOn P p.current.levels
  held : AllByRecursion (λ h. AllStandOn P h.version.levels) p.holds

made-by : (P : ℕ → Type 0) (p : Plain) (note : Note) → MayStand p note → HasOnly P p → AllByRecursion P (new_files note.edit)
made-by P p note may has =
    files-by P p note.by note.act note.reply note.edit has.jobs (all-more (LoadHas P) (OpenHas P) p.loads (λ l all is. all) has.loads) may.edit may.reply

step-has : (P : ℕ → Type 0) (p : Plain) (note : Note) → MayStand p note → AllByRecursion P (reserved_by p note) → HasOnly P p → HasOnly P (after p note)
step-has P p note may new has =
    let adds = adds-on P p note.act note.reply note.edit may.edit (made-by P p note may has) has.current in
    let current = version-has P p.current note.edit adds has.current in
    record {
      jobs = jobs-has P p note.act (outcome note.reply) new has.jobs;
      loads = loads-has P p note.by note.act (outcome note.reply) note.reply refl may.reply new has.loads;
      known = known-all P p note may has.jobs has.loads has.known;
      taken = taken-has P p note note.reply refl may has.known has.taken;
      current = current;
      held = holds-step (λ v. AllStandOn P v.levels) p has.current has.held note current;
    }

all-front : (P : ℕ → Type 0) (xs ys : List ℕ) → AllByRecursion P (xs ++ ys) → AllByRecursion P xs
all-front P [] ys all = tt
all-front P (x ∷ xs) ys all = (all.0, all-front P xs ys all.1)

all-behind : (P : ℕ → Type 0) (xs ys : List ℕ) → AllByRecursion P (xs ++ ys) → AllByRecursion P ys
all-behind P [] ys all = all
all-behind P (x ∷ xs) ys all = all-behind P xs ys all.1

over-notes : (P : ℕ → Type 0) (p : Plain) (notes : List Note) → Legal p notes → AllByRecursion P (reserved_in p notes) → HasOnly P p → HasOnly P (after_all p notes)
over-notes P p [] legal all has = has
over-notes P p (note ∷ notes) legal all has =
    over-notes P (after p note) notes legal.1 (all-behind P (reserved_by p note) (reserved_in (after p note) notes) all)
    (step-has P p note legal.0 (all-front P (reserved_by p note) (reserved_in (after p note) notes) all) has)

has-reserved : (first_seq first_file : ℕ) (notes : List Note) → Legal (opening first_seq first_file) notes → HasOnly (Has (reserved_in (opening first_seq first_file) notes)) (after_all (opening first_seq first_file) notes)
has-reserved first_seq first_file notes legal =
    let p = opening first_seq first_file in
    let P = Has (reserved_in p notes) in
    over-notes P p notes legal (all-from_has P (reserved_in p notes) (λ n has. has)) (record { jobs = tt; loads = tt; known = tt; taken = tt; current = (tt, (tt, (tt, (tt, (tt, (tt, (tt, tt))))))); held = tt })

pub jobs-reserved : (first_seq first_file : ℕ) (notes : List Note) → Legal (opening first_seq first_file) notes → AllByRecursion (λ j. AreReserved (opening first_seq first_file) notes (range_with_len j.first (job_numbers j.kind))) (after_all (opening first_seq first_file) notes).jobs
jobs-reserved first_seq first_file notes legal = (has-reserved first_seq first_file notes legal).jobs

pub loads-reserved : (first_seq first_file : ℕ) (notes : List Note) → Legal (opening first_seq first_file) notes → AllByRecursion (λ l. AreReserved (opening first_seq first_file) notes (range_with_len l.first (length l.tables))) (after_all (opening first_seq first_file) notes).loads
loads-reserved first_seq first_file notes legal = (has-reserved first_seq first_file notes legal).loads

pub known-reserved : (first_seq first_file : ℕ) (notes : List Note) → Legal (opening first_seq first_file) notes → AreReserved (opening first_seq first_file) notes (after_all (opening first_seq first_file) notes).known
known-reserved first_seq first_file notes legal = (has-reserved first_seq first_file notes legal).known

pub taken-reserved : (first_seq first_file : ℕ) (notes : List Note) → Legal (opening first_seq first_file) notes → AreReserved (opening first_seq first_file) notes (after_all (opening first_seq first_file) notes).taken
taken-reserved first_seq first_file notes legal = (has-reserved first_seq first_file notes legal).taken

flat-on : (P : ℕ → Type 0) (levels : LevelLists) → AllStandOn P levels → AllByRecursion (StandsOn P) (flat_map (λ ts. ts) levels)
flat-on P [] all = tt
flat-on P (ts ∷ rest) all = all-append (StandsOn P) ts (flat_map (λ ts. ts) rest) all.0 (flat-on P rest all.1)

version-on : (P : ℕ → Type 0) (v : Version) → AllStandOn P v.levels → AllByRecursion P (backings v)
version-on P v all = all-map P (λ (t : Table). t.backing) (flat_map (λ ts. ts) v.levels) (flat-on P v.levels all)

pub tables-reserved : (first_seq first_file : ℕ) (notes : List Note) → Legal (opening first_seq first_file) notes → AllByRecursion (λ v. AreReserved (opening first_seq first_file) notes (backings v)) (standing (after_all (opening first_seq first_file) notes))
tables-reserved first_seq first_file notes legal =
    let p = opening first_seq first_file in
    let P = Has (reserved_in p notes) in
    let has = has-reserved first_seq first_file notes legal in (
      version-on P (after_all p notes).current has.current,
      all-map (λ v. AllByRecursion P (backings v)) (λ (h : Hold). h.version) (after_all p notes).holds
          (all-more (λ h. AllStandOn P h.version.levels) _ (after_all p notes).holds (λ h on. version-on P h.version on) has.held),
    )

pub made-reserved : (first_seq first_file : ℕ) (before : List Note) (note : Note) (later : List Note) → Legal (opening first_seq first_file) (before ++ note ∷ later) → AreReserved (opening first_seq first_file) before (new_files note.edit)
made-reserved first_seq first_file before note later legal =
    let p = opening first_seq first_file in
    let parts = legal-parts p before (note ∷ later) legal in
    made-by (Has (reserved_in p before)) (after_all p before) note parts.1.0 (has-reserved first_seq first_file before parts.0)

pub tried-reserved : (first_seq first_file : ℕ) (before : List Note) (note : Note) (later : List Note) → Legal (opening first_seq first_file) (before ++ note ∷ later) → AreReserved (opening first_seq first_file) before note.tried
tried-reserved first_seq first_file before note later legal =
    let p = opening first_seq first_file in
    let parts = legal-parts p before (note ∷ later) legal in
    let has = has-reserved first_seq first_file before parts.0 in
    tried-by (Has (reserved_in p before)) (after_all p before) note.act (outcome note.reply) note.tried has.jobs has.loads parts.1.0.tried
