-- While a compaction runs, its hull meets no other one's, and nothing new comes into it above L0.
use Rattle.std.proofs.Common.{◌≡◌, ℕ, ◌+◌, ◌<◌, Bool, true, false, cond, not, eqb, ◌&&◌, List, [], ◌∷◌, ◌++◌, Option, Some, None, is_none, refl, sym, ap, subst, arith}
use Rattle.std.proofs.lemmas.Bool.{false≢true}
use Rattle.std.specs.List.{list_any, AllByRecursion}
use Rattle.xdb_rangedel.specs.Members.{Has}
use Rattle.xdb_key.specs.Bounds.{Bounds, meets}
use Rattle.xdb_key.specs.Groups.{Group}
use Rattle.xdb_meta.specs.Table.{bounds_of}
use Rattle.xdb_edit.specs.Changes.{Changes}
use Rattle.xdb_edit.specs.Plans.{Planned}
use Rattle.xdb_edit.specs.Versions.{LevelLists, edited}
use Rattle.xdb_plain.specs.Changes.{after, jobs_after, new_flush, new_compaction, cancelled_by, cancelled_job, cancelled_kind, span_of_load, load_span}
use Rattle.xdb_plain.specs.Edits.{IsFlushOf, IsCompactionOf, IsInstallOf, job_hull, running_hulls}
use Rattle.xdb_plain.specs.Holds.{version_after}
use Rattle.xdb_plain.specs.Outcomes.{Outcome, succeeds, fails, cancels, outcome}
use Rattle.xdb_plain.specs.Replies.{may_reply, same_reply, put_replies, or_reply, plan_now}
use Rattle.xdb_plain.specs.State.{Plain, Load, Job, JobKind, flush_of, compaction_of, Compaction, opening, found_load, found_job, without_job}
use Rattle.xdb_plain.specs.Steps.{MayStand, HasEdit, FitsEdit, PutsJob, InstallsLoad}
use Rattle.xdb_plain.specs.declared.act.Act.{Act}
use Rattle.xdb_plain.specs.declared.act.Act.TheVariants as act
use Rattle.xdb_plain.specs.declared.act.By.{By}
use Rattle.xdb_plain.specs.declared.note.Note.{Note}
use Rattle.xdb_plain.specs.declared.reply.Reply.{Reply}
use Rattle.xdb_plain.specs.declared.reply.Reply.TheVariants as reply
use Rattle.xdb_model.proofs.ListLaws.{all-append, all-both, all-filtered, all-from_has, all-has, all-map, all-more, pairs-append, pairs-filtered, pairs-map, pairs-more}
use Rattle.xdb_model.proofs.ApartLaws.{flush-off_hull, compaction-off_hull, install-off_hull, all-at}
use Rattle.xdb_model.proofs.PlannedLaws.{IsPlan, plan-is, plan-has_all, begun, HullsOff, JobsOff, hulls-turned, off-no_hull, off-running, hull-runs, found-has, others-pairs}
use Rattle.xdb_model.specs.Apart.{Pairwise, IsOff, HasAllAt, HasAll, Uncancelled}

-- ---- hulls of running compactions

hulls-flush : (p : Plain) (gs : List Group) → Pairwise JobsOff p.jobs → Pairwise JobsOff (p.jobs ++ new_flush p gs)
hulls-flush p [] pairs = pairs-append JobsOff p.jobs [] pairs tt (all-from_has _ p.jobs (λ j has. tt))
hulls-flush p (g ∷ gs) pairs = pairs-append JobsOff p.jobs _ pairs (tt, tt) (all-from_has _ p.jobs (λ j has. (off-no_hull (job_hull j), tt)))

hulls-compaction : (p : Plain) (o : Option Planned) → ((q : Planned) → o ≡ Some q → IsPlan p.current.levels (running_hulls p.jobs) q) → Pairwise JobsOff p.jobs → Pairwise JobsOff (p.jobs ++ new_compaction p o)
hulls-compaction p None is pairs = pairs-append JobsOff p.jobs [] pairs tt (all-from_has _ p.jobs (λ j has. tt))
hulls-compaction p (Some q) is pairs =
    let plan = is q refl in
    pairs-append JobsOff p.jobs _ pairs (tt, tt) (all-more (λ j. HullsOff (job_hull j) (Some q.hull)) _ p.jobs (λ j off. (off, tt)) (off-running q.hull p.jobs plan.off))

same-hull : (load : List ℕ) (span : Bounds) (num first : ℕ) (kind : JobKind) → job_hull (cancelled_job load span (record { num = num; first = first; kind = kind })) ≡ job_hull (record { num = num; first = first; kind = kind })
same-hull load span num first (flush_of group) = refl
same-hull load span num first (compaction_of c) = refl

hulls-cancelled : (load : List ℕ) (span : Option Bounds) (jobs : List Job) → Pairwise JobsOff jobs → Pairwise JobsOff (cancelled_by load span jobs)
hulls-cancelled load None jobs pairs = pairs
hulls-cancelled load (Some s) jobs pairs =
    pairs-map JobsOff (cancelled_job load s) jobs (pairs-more JobsOff (λ x y. JobsOff (cancelled_job load s x) (cancelled_job load s y)) jobs
    (λ x y off. subst (λ (h : Option Bounds × Option Bounds). HullsOff h.0 h.1) (λ i. (sym (same-hull load s x.num x.first x.kind) i, sym (same-hull load s y.num y.first y.kind) i)) off) pairs)

hulls-by : (p : Plain) (a : Act) (o : Outcome) → Pairwise JobsOff p.jobs → Pairwise JobsOff (jobs_after p a o)
hulls-by p act.FlushTake succeeds pairs = hulls-flush p p.sealed pairs
hulls-by p (act.CompactTake which) succeeds pairs = hulls-compaction p (plan_now p which) (λ q is. plan-is p which q is) pairs
hulls-by p (act.Put job) succeeds pairs = pairs-filtered JobsOff (λ j. not (eqb j.num job)) p.jobs pairs
hulls-by p (act.Put job) cancels pairs = pairs-filtered JobsOff (λ j. not (eqb j.num job)) p.jobs pairs
hulls-by p (act.Build job) fails pairs = pairs-filtered JobsOff (λ j. not (eqb j.num job)) p.jobs pairs
hulls-by p (act.Install load) succeeds pairs = hulls-cancelled load (span_of_load p load) p.jobs pairs
hulls-by p _ _ pairs = pairs

-- ---- compactions that aren't cancelled

abbrev pub Hold : (Compaction → Type 0) → List Job → Type 0
Hold P jobs = AllByRecursion (λ j. Uncancelled P j.kind) jobs

pub each-more : (P Q : Compaction → Type 0) (kind : JobKind) → ((c : Compaction) → kind ≡ compaction_of c → P c → Q c) → Uncancelled P kind → Uncancelled Q kind
each-more P Q (flush_of group) more holds = tt
each-more P Q (compaction_of c) more holds = λ none. more c refl (holds none)

others-hold : (P : Compaction → Type 0) (job : ℕ) (jobs : List Job) → Hold P jobs → Hold P (without_job job jobs)
others-hold P job jobs all = all-filtered (λ j. Uncancelled P j.kind) (λ j. not (eqb j.num job)) jobs (λ j has left. all-has (λ (i : Job). Uncancelled P i.kind) jobs j has all)

flush-holds : (P : Compaction → Type 0) (p : Plain) (gs : List Group) → Hold P p.jobs → Hold P (p.jobs ++ new_flush p gs)
flush-holds P p [] all = all-append _ p.jobs [] all tt
flush-holds P p (g ∷ gs) all = all-append _ p.jobs _ all (tt, tt)

compaction-holds : (P : Compaction → Type 0) (p : Plain) (o : Option Planned) → ((q : Planned) → o ≡ Some q → P (begun q)) → Hold P p.jobs → Hold P (p.jobs ++ new_compaction p o)
compaction-holds P p None new all = all-append _ p.jobs [] all tt
compaction-holds P p (Some q) new all = all-append _ p.jobs _ all ((λ none. new q refl), tt)

-- one that isn't cancelled wasn't so before, and the span doesn't meet it
uncancelled : (load : List ℕ) (hull span : Bounds) (o : Option (List ℕ)) (t : Bool) → meets hull span ≡ t → cond (is_none o && t) (Some load) o ≡ None → (o ≡ None) × IsOff hull span
uncancelled load hull span (Some other) t is e = absurd (cc)
uncancelled load hull span None true is e = absurd (cc)
uncancelled load hull span None false is e = (refl, is)

cancelled-one : (P Q : Compaction → Type 0) (load : List ℕ) (s : Bounds) (kind : JobKind) → ((c : Compaction) (o : Option (List ℕ)) → kind ≡ compaction_of c → IsOff c.hull s → P c → Q (record c { cancelled = o })) → Uncancelled P kind → Uncancelled Q (cancelled_kind load s kind)
cancelled-one P Q load s (flush_of group) more holds = tt
cancelled-one P Q load s (compaction_of c) more holds = λ none.
    let spared = uncancelled load c.hull s c.cancelled (meets c.hull s) refl none in
    more c (cond (is_none c.cancelled && meets c.hull s) (Some load) c.cancelled) refl spared.1 (holds spared.0)

-- what holds of the hull, the level and the inputs of those that a load spares
cancelled-hold : (P Q : Compaction → Type 0) (load : List ℕ) (span : Option Bounds) (jobs : List Job)
    → ((j : Job) (c : Compaction) (o : Option (List ℕ)) → Has jobs j → j.kind ≡ compaction_of c → ((s : Bounds) → span ≡ Some s → IsOff c.hull s) → P c → Q (record c { cancelled = o }))
    → Hold P jobs → Hold Q (cancelled_by load span jobs)
cancelled-hold P Q load None jobs more all =
    all-from_has (λ (j : Job). Uncancelled Q j.kind) jobs (λ j has. each-more P Q j.kind (λ c is holds. more j c c.cancelled has is (λ s never. absurd (cc)) holds) (all-has (λ (i : Job). Uncancelled P i.kind) jobs j has all))
cancelled-hold P Q load (Some s) jobs more all =
    all-map (λ (j : Job). Uncancelled Q j.kind) (cancelled_job load s) jobs
    (all-from_has _ jobs (λ j has. cancelled-one P Q load s j.kind (λ c o is off holds. more j c o has is (λ t same. let is_same : s ≡ t = cc in subst (IsOff c.hull) is_same off) holds) (all-has (λ (i : Job). Uncancelled P i.kind) jobs j has all)))

-- without an edit
pub hold-by : (P : Compaction → Type 0) → ((c : Compaction) (o : Option (List ℕ)) → P c → P (record c { cancelled = o })) → (p : Plain) → ((q : Planned) → IsPlan p.current.levels (running_hulls p.jobs) q → P (begun q)) → (a : Act) (o : Outcome) → Hold P p.jobs → Hold P (jobs_after p a o)
hold-by P same p new act.FlushTake succeeds all = flush-holds P p p.sealed all
hold-by P same p new (act.CompactTake which) succeeds all = compaction-holds P p (plan_now p which) (λ q is. new q (plan-is p which q is)) all
hold-by P same p new (act.Put job) succeeds all = others-hold P job p.jobs all
hold-by P same p new (act.Put job) cancels all = others-hold P job p.jobs all
hold-by P same p new (act.Build job) fails all = others-hold P job p.jobs all
hold-by P same p new (act.Install load) succeeds all = cancelled-hold P P load (span_of_load p load) p.jobs (λ j c o has is off holds. same c o holds) all
hold-by P same p new _ _ all = all

-- What an edit makes of those that go on: beside a flush, beside a compaction that is put, and beside a load that
-- spares them.
pub record Goes (P Q : Compaction → Type 0) (p : Plain) (e : Changes) : Type 0 where
  pub by_flush : (job : Job) (c : Compaction) → IsFlushOf job e → P c → Q c
  pub by_compaction : (job : Job) (d c : Compaction) → IsCompactionOf job d e → Has p.jobs job → job.kind ≡ compaction_of d → d.cancelled ≡ None → IsOff d.hull c.hull → P c → Q c
  pub by_load : (l : Load) (c : Compaction) (o : Option (List ℕ)) → IsInstallOf p l e → Has (running_hulls p.jobs) c.hull → ((s : Bounds) → l.span ≡ Some s → IsOff c.hull s) → P c → Q (record c { cancelled = o })

pub installed-runs : (o : Option (List ℕ)) → list_any (same_reply reply.Installed) (reply.NotYet ∷ or_reply reply.Cancelled o (reply.Memory ∷ reply.Installed ∷ [])) ≡ true → o ≡ None
installed-runs None e = refl
installed-runs (Some load) e = absurd (false≢true e)

beside-put : (P Q : Compaction → Type 0) (hull : Bounds) (num first : ℕ) (kind : JobKind) → ((c : Compaction) → IsOff hull c.hull → P c → Q c) → HullsOff (Some hull) (job_hull (record { num = num; first = first; kind = kind })) → Uncancelled P kind → Uncancelled Q kind
beside-put P Q hull num first (flush_of group) more off holds = tt
beside-put P Q hull num first (compaction_of c) more off holds = λ none. more c off (holds none)

put-hold : (P Q : Compaction → Type 0) (p : Plain) (job : ℕ) (e : Changes) (o : Option Job) → Goes P Q p e → found_job job p.jobs ≡ o → PutsJob o e → list_any (same_reply reply.Installed) (put_replies o) ≡ true → Pairwise JobsOff p.jobs → Hold P p.jobs → Hold Q (without_job job p.jobs)
put-hold P Q p job e None goes found is may pairs all = absurd is
put-hold P Q p job e (Some j) goes found is may pairs all = by-kind j.num j.first j.kind found is may
  where
    left : Hold P (without_job job p.jobs)
    left = others-hold P job p.jobs all

    by-kind : (num first : ℕ) (kind : JobKind) → found_job job p.jobs ≡ Some (record { num = num; first = first; kind = kind }) → PutsJob (Some (record { num = num; first = first; kind = kind })) e
        → list_any (same_reply reply.Installed) (put_replies (Some (record { num = num; first = first; kind = kind }))) ≡ true → Hold Q (without_job job p.jobs)
    by-kind num first (flush_of group) found is may =
        all-more (λ (i : Job). Uncancelled P i.kind) _ (without_job job p.jobs)
        (λ i holds. each-more P Q i.kind (λ c kind h. goes.by_flush (record { num = num; first = first; kind = flush_of group }) c is h) holds) left
    by-kind num first (compaction_of d) found is may =
        let k : Job = record { num = num; first = first; kind = compaction_of d } in
        all-both (JobsOff k) (λ i. Uncancelled P i.kind) _ (without_job job p.jobs)
        (λ i off holds. beside-put P Q d.hull i.num i.first i.kind (λ c apart h. goes.by_compaction k d c is (found-has job p.jobs k found) refl (installed-runs d.cancelled may) apart h) off holds)
        (others-pairs JobsOff (λ a b off. hulls-turned (job_hull a) (job_hull b) off) job p.jobs k found pairs) left

hull-of : (num first : ℕ) (kind : JobKind) (c : Compaction) → kind ≡ compaction_of c → job_hull (record { num = num; first = first; kind = kind }) ≡ Some c.hull
hull-of num first kind c is = ap (λ k. job_hull (record { num = num; first = first; kind = k })) is

install-hold : (P Q : Compaction → Type 0) (p : Plain) (load : List ℕ) (e : Changes) (o : Option Load) → Goes P Q p e → InstallsLoad p o e → Hold P p.jobs → Hold Q (cancelled_by load (load_span o) p.jobs)
install-hold P Q p load e None goes is all = absurd is
install-hold P Q p load e (Some l) goes is all =
    cancelled-hold P Q load l.span p.jobs (λ j c o has kind off holds. goes.by_load l c o is (hull-runs c.hull p.jobs j has (hull-of j.num j.first j.kind c kind)) off holds) all

pub hold-edit : (P Q : Compaction → Type 0) (p : Plain) (by : By) (a : Act) (e : Changes) → Goes P Q p e → HasEdit p a (Some e) → list_any (same_reply reply.Installed) (may_reply p by a) ≡ true → Pairwise JobsOff p.jobs → Hold P p.jobs → Hold Q (jobs_after p a succeeds)
hold-edit P Q p by (act.Put job) e goes has may pairs all = put-hold P Q p job e (found_job job p.jobs) goes refl has.1 may pairs all
hold-edit P Q p by (act.Install load) e goes has may pairs all = install-hold P Q p load e (found_load load p.loads) goes has.1 all
hold-edit P Q p by _ e goes has may pairs all = absurd has.1

-- ---- what meets a hull

-- nothing comes into the hull
goes-on : (levels : LevelLists) (e : Changes) (c : Compaction) → ((level : ℕ) → 0 < level → HasAllAt levels c level → AllByRecursion (λ a. eqb a.0 level ≡ true → IsOff c.hull (bounds_of a.1)) e.added) → HasAll levels c → HasAll (edited levels e) c
goes-on levels e c off has_all = record {
  from = λ high. all-at levels e c c.level (off c.level high (has_all.from high)) (has_all.from high);
  into = all-at levels e c (c.level + 1) (off (c.level + 1) (omega arith) has_all.into) has_all.into;
}

all-goes : (p : Plain) (e : Changes) → Goes (HasAll p.current.levels) (HasAll (edited p.current.levels e)) p e
all-goes p e = record {
  by_flush = λ job c is has_all. goes-on p.current.levels e c (λ level high all. flush-off_hull job e level c.hull high is) has_all;
  by_compaction = λ job d c is has kind none off has_all. goes-on p.current.levels e c (λ level high all. compaction-off_hull job d e level c.hull is off) has_all;
  by_load = λ l c o is runs off has_all.
      let over = goes-on p.current.levels e c (λ level high all. install-off_hull p l e is level high c runs off all) has_all in
      record { from = over.from; into = over.into };
}

-- ---- over a whole history

pub record Running (p : Plain) : Type 0 where
  pub hulls : Pairwise JobsOff p.jobs
  pub runs : Hold (HasAll p.current.levels) p.jobs

runs-edit : (p : Plain) (by : By) (a : Act) (o : Option Changes) → HasEdit p a o → list_any (same_reply reply.Installed) (may_reply p by a) ≡ true → Running p → Hold (HasAll (version_after p.current o).levels) (jobs_after p a succeeds)
runs-edit p by a None has may running = absurd has
runs-edit p by a (Some e) has may running = hold-edit (HasAll p.current.levels) (HasAll (edited p.current.levels e)) p by a e (all-goes p e) has may running.hulls running.runs

runs-by : (p : Plain) (by : By) (a : Act) (r q : Reply) (edit : Option Changes) → r ≡ q → FitsEdit p a q edit → list_any (same_reply r) (may_reply p by a) ≡ true → Running p → Hold (HasAll (version_after p.current edit).levels) (jobs_after p a (outcome r))
runs-by p by a r reply.Installed edit is fits may running =
    subst (λ x. Hold (HasAll (version_after p.current edit).levels) (jobs_after p a (outcome x))) (sym is) (runs-edit p by a edit fits (subst (λ x. list_any (same_reply x) (may_reply p by a) ≡ true) is may) running)
runs-by p by a r _ edit is fits may running =
    subst (λ (x : Option Changes). Hold (HasAll (version_after p.current x).levels) (jobs_after p a (outcome r))) (sym fits)
    (hold-by (HasAll p.current.levels) (λ c o h. record { from = h.from; into = h.into }) p (λ q plan. plan-has_all p.current.levels (running_hulls p.jobs) q plan) a (outcome r) running.runs)

pub running-after : (p : Plain) (note : Note) → MayStand p note → Running p → Running (after p note)
running-after p note may running = record {
  hulls = hulls-by p note.act (outcome note.reply) running.hulls;
  runs = runs-by p note.by note.act note.reply note.reply note.edit refl may.edit may.reply running;
}

pub running-first : (first_seq first_file : ℕ) → Running (opening first_seq first_file)
running-first first_seq first_file = record { hulls = tt; runs = tt }
