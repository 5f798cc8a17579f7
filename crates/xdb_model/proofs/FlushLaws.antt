-- At most one flush runs, and it is of the oldest sealed group.
use Rattle.std.proofs.Common.{◌≡◌, ℕ, Bool, true, false, cond, not, eqb, ◌&&◌, ◌||◌, List, [], ◌∷◌, ◌++◌, drop, Option, Some, None, refl, sym, ap, subst, ◌∙◌, inl, inr}
use Rattle.std.proofs.lemmas.Bool.{false≢true, and_right, and_left, or_parts, cases_Bool}
use Rattle.std.specs.List.{list_any, AllByRecursion}
use Rattle.xdb_key.specs.Bounds.{Bounds}
use Rattle.xdb_key.specs.Groups.{Group}
use Rattle.xdb_edit.specs.Plans.{Planned}
use Rattle.xdb_plain.specs.Changes.{after, jobs_after, sealed_after, is_flushed, is_sealed, new_flush, new_compaction, cancelled_by, cancelled_job, cancelled_kind, span_of_load}
use Rattle.xdb_plain.specs.Edits.{is_empty}
use Rattle.xdb_plain.specs.Legal.{Legal, after_all}
use Rattle.xdb_plain.specs.Outcomes.{Outcome, succeeds, fails, cancels, outcome}
use Rattle.xdb_plain.specs.Replies.{may_reply, same_reply, is_flush, plan_now}
use Rattle.xdb_plain.specs.State.{Plain, Job, JobKind, flush_of, compaction_of, opening, found_job, without_job}
use Rattle.xdb_plain.specs.Steps.{MayStand}
use Rattle.xdb_plain.specs.declared.act.Act.{Act}
use Rattle.xdb_plain.specs.declared.act.Act.TheVariants as act
use Rattle.xdb_plain.specs.declared.act.By.{By}
use Rattle.xdb_plain.specs.declared.note.Note.{Note}
use Rattle.xdb_plain.specs.declared.reply.Reply.{Reply}
use Rattle.xdb_plain.specs.declared.reply.Reply.TheVariants as reply
use Rattle.xdb_model.proofs.LegalLaws.{over-legal}
use Rattle.xdb_model.proofs.ListLaws.{all-append, all-filtered, all-from_has, all-has, all-map, all-more, pairs-append, pairs-filtered, pairs-map, pairs-more}
use Rattle.xdb_model.proofs.PlannedLaws.{others-pairs}
use Rattle.xdb_model.specs.Apart.{Pairwise}
use Rattle.xdb_model.specs.Flushes.{IsOldest, FlushesOldest, NotBoth, FlushesFit}

-- ---- a flush begins where a group is sealed and none runs

only-nothing : (r : Reply) → outcome r ≡ succeeds → list_any (same_reply r) (reply.Nothing ∷ []) ≡ true → ⊥
only-nothing reply.Nothing o e = cc
only-nothing _ o e = false≢true e

begins-where : (t : Bool) (others : List Reply) (r : Reply) → outcome r ≡ succeeds → list_any (same_reply r) (cond t (reply.Nothing ∷ []) others) ≡ true → t ≡ false
begins-where true others r o e = absurd (only-nothing r o e)
begins-where false others r o e = refl

none-flushes : (jobs : List Job) → list_any (λ j. is_flush j.kind) jobs ≡ false → AllByRecursion (λ j. is_flush j.kind ≡ false) jobs
none-flushes [] none = tt
none-flushes (j ∷ jobs) none = let parts = or_parts (is_flush j.kind) (list_any (λ i. is_flush i.kind) jobs) none in (parts.0, none-flushes jobs parts.1)

-- ---- the oldest group stays, but for a flush that is put

append-oldest : (gs more : List Group) (group : ℕ) → IsOldest gs group → IsOldest (gs ++ more) group
append-oldest [] more group is = absurd is
append-oldest (g ∷ gs) more group is = is

append-kind : (gs more : List Group) (kind : JobKind) → FlushesOldest gs kind → FlushesOldest (gs ++ more) kind
append-kind gs more (flush_of group) is = append-oldest gs more group is
append-kind gs more (compaction_of c) is = tt

-- a group more behind the others leaves the oldest
behind-oldest : (gs : List Group) (g : Group) (t : Bool) (jobs : List Job) → AllByRecursion (λ j. FlushesOldest gs j.kind) jobs → AllByRecursion (λ j. FlushesOldest (cond t (gs ++ g ∷ []) gs) j.kind) jobs
behind-oldest gs g true jobs all = all-more (λ (j : Job). FlushesOldest gs j.kind) _ jobs (λ j oldest. append-kind gs (g ∷ []) j.kind oldest) all
behind-oldest gs g false jobs all = all

stays-oldest : (p : Plain) (a : Act) (o : Outcome) (jobs : List Job) → is_flushed p a o ≡ false → AllByRecursion (λ j. FlushesOldest p.sealed j.kind) jobs → AllByRecursion (λ j. FlushesOldest (sealed_after p a o) j.kind) jobs
stays-oldest p a o jobs is all =
    subst (λ t. AllByRecursion (λ j. FlushesOldest (cond (is_sealed p a o) (cond t (drop 1 p.sealed) p.sealed ++ p.active ∷ []) (cond t (drop 1 p.sealed) p.sealed)) j.kind) jobs) (sym is)
    (behind-oldest p.sealed p.active (is_sealed p a o) jobs all)

no-flush : (sealed : List Group) (kind : JobKind) → is_flush kind ≡ false → FlushesOldest sealed kind
no-flush sealed (flush_of group) is = absurd (false≢true (sym is))
no-flush sealed (compaction_of c) is = tt

same-kind : (sealed : List Group) (load : List ℕ) (span : Bounds) (kind : JobKind) → FlushesOldest sealed kind → FlushesOldest sealed (cancelled_kind load span kind)
same-kind sealed load span (flush_of group) is = is
same-kind sealed load span (compaction_of c) is = tt

same-flush : (load : List ℕ) (span : Bounds) (kind : JobKind) → is_flush (cancelled_kind load span kind) ≡ is_flush kind
same-flush load span (flush_of group) = refl
same-flush load span (compaction_of c) = refl

not-both-turned : (i j : Job) → NotBoth i j → NotBoth j i
not-both-turned i j off = turned (is_flush i.kind) (is_flush j.kind) off
  where
    turned : (a b : Bool) → (a && b) ≡ false → (b && a) ≡ false
    turned true true h = h
    turned true false h = refl
    turned false true h = refl
    turned false false h = refl

-- ---- one step

flush-oldest : (p : Plain) (gs : List Group) → AllByRecursion (λ j. FlushesOldest gs j.kind) p.jobs → AllByRecursion (λ j. FlushesOldest gs j.kind) (p.jobs ++ new_flush p gs)
flush-oldest p [] all = all-append _ p.jobs [] all tt
flush-oldest p (g ∷ gs) all = all-append _ p.jobs _ all (refl, tt)

flush-one : (p : Plain) (gs : List Group) → AllByRecursion (λ j. is_flush j.kind ≡ false) p.jobs → Pairwise NotBoth p.jobs → Pairwise NotBoth (p.jobs ++ new_flush p gs)
flush-one p [] none pairs = pairs-append NotBoth p.jobs [] pairs tt (all-from_has _ p.jobs (λ j has. tt))
flush-one p (g ∷ gs) none pairs = pairs-append NotBoth p.jobs _ pairs (tt, tt) (all-more (λ j. is_flush j.kind ≡ false) _ p.jobs (λ j off. (and_left (is_flush j.kind) true off, tt)) none)

compaction-oldest : (p : Plain) (o : Option Planned) → AllByRecursion (λ j. FlushesOldest p.sealed j.kind) p.jobs → AllByRecursion (λ j. FlushesOldest p.sealed j.kind) (p.jobs ++ new_compaction p o)
compaction-oldest p None all = all-append _ p.jobs [] all tt
compaction-oldest p (Some q) all = all-append _ p.jobs _ all (tt, tt)

compaction-one : (p : Plain) (o : Option Planned) → Pairwise NotBoth p.jobs → Pairwise NotBoth (p.jobs ++ new_compaction p o)
compaction-one p None pairs = pairs-append NotBoth p.jobs [] pairs tt (all-from_has _ p.jobs (λ j has. tt))
compaction-one p (Some q) pairs = pairs-append NotBoth p.jobs _ pairs (tt, tt) (all-from_has _ p.jobs (λ j has. (and_right (is_flush j.kind) false refl, tt)))

without-oldest : (sealed : List Group) (job : ℕ) (jobs : List Job) → AllByRecursion (λ j. FlushesOldest sealed j.kind) jobs → AllByRecursion (λ j. FlushesOldest sealed j.kind) (without_job job jobs)
without-oldest sealed job jobs all = all-filtered _ (λ j. not (eqb j.num job)) jobs (λ j has left. all-has (λ (i : Job). FlushesOldest sealed i.kind) jobs j has all)

without-one : (job : ℕ) (jobs : List Job) → Pairwise NotBoth jobs → Pairwise NotBoth (without_job job jobs)
without-one job jobs pairs = pairs-filtered NotBoth (λ j. not (eqb j.num job)) jobs pairs

abbrev of_flush : Option Job → Bool
of_flush None = false
of_flush (Some j) = is_flush j.kind

-- the flush that is put was the only one
put-oldest : (p : Plain) (job : ℕ) (sealed : List Group) (o : Option Job) → found_job job p.jobs ≡ o → of_flush o ≡ true → Pairwise NotBoth p.jobs → AllByRecursion (λ j. FlushesOldest sealed j.kind) (without_job job p.jobs)
put-oldest p job sealed None found is pairs = absurd (false≢true is)
put-oldest p job sealed (Some j) found is pairs =
    all-more (NotBoth j) _ (without_job job p.jobs) (λ i off. no-flush sealed i.kind (sym (ap (λ b. b && is_flush i.kind) is) ∙ off)) (others-pairs NotBoth not-both-turned job p.jobs j found pairs)

flushed-oldest : (p : Plain) (a : Act) (o : Outcome) → is_flushed p a o ≡ true → FlushesFit p → AllByRecursion (λ j. FlushesOldest (sealed_after p a o) j.kind) (jobs_after p a o)
flushed-oldest p (act.Put job) succeeds flush fit = put-oldest p job (sealed_after p (act.Put job) succeeds) (found_job job p.jobs) refl flush fit.one
flushed-oldest p _ _ flush fit = absurd (false≢true flush)

cancelled-oldest : (sealed : List Group) (load : List ℕ) (span : Option Bounds) (jobs : List Job) → AllByRecursion (λ j. FlushesOldest sealed j.kind) jobs → AllByRecursion (λ j. FlushesOldest sealed j.kind) (cancelled_by load span jobs)
cancelled-oldest sealed load None jobs all = all
cancelled-oldest sealed load (Some s) jobs all =
    all-map (λ (j : Job). FlushesOldest sealed j.kind) (cancelled_job load s) jobs (all-more (λ (j : Job). FlushesOldest sealed j.kind) _ jobs (λ j oldest. same-kind sealed load s j.kind oldest) all)

cancelled-one : (load : List ℕ) (span : Option Bounds) (jobs : List Job) → Pairwise NotBoth jobs → Pairwise NotBoth (cancelled_by load span jobs)
cancelled-one load None jobs pairs = pairs
cancelled-one load (Some s) jobs pairs =
    pairs-map NotBoth (cancelled_job load s) jobs (pairs-more NotBoth _ jobs
    (λ i j off. subst (λ (t : Bool × Bool). (t.0 && t.1) ≡ false) (λ k. (sym (same-flush load s i.kind) k, sym (same-flush load s j.kind) k)) off) pairs)

jobs-oldest : (p : Plain) (a : Act) (o : Outcome) → FlushesFit p → AllByRecursion (λ j. FlushesOldest p.sealed j.kind) (jobs_after p a o)
jobs-oldest p act.FlushTake succeeds fit = flush-oldest p p.sealed fit.oldest
jobs-oldest p (act.CompactTake which) succeeds fit = compaction-oldest p (plan_now p which) fit.oldest
jobs-oldest p (act.Put job) succeeds fit = without-oldest p.sealed job p.jobs fit.oldest
jobs-oldest p (act.Put job) cancels fit = without-oldest p.sealed job p.jobs fit.oldest
jobs-oldest p (act.Build job) fails fit = without-oldest p.sealed job p.jobs fit.oldest
jobs-oldest p (act.Install load) succeeds fit = cancelled-oldest p.sealed load (span_of_load p load) p.jobs fit.oldest
jobs-oldest p _ _ fit = fit.oldest

jobs-one : (p : Plain) (by : By) (a : Act) (o : Outcome) (r : Reply) → outcome r ≡ o → list_any (same_reply r) (may_reply p by a) ≡ true → FlushesFit p → Pairwise NotBoth (jobs_after p a o)
jobs-one p by act.FlushTake succeeds r is may fit =
    let free = or_parts (is_empty p.sealed) (list_any (λ j. is_flush j.kind) p.jobs) (begins-where (is_empty p.sealed || list_any (λ j. is_flush j.kind) p.jobs) _ r is may) in
    flush-one p p.sealed (none-flushes p.jobs free.1) fit.one
jobs-one p by (act.CompactTake which) succeeds r is may fit = compaction-one p (plan_now p which) fit.one
jobs-one p by (act.Put job) succeeds r is may fit = without-one job p.jobs fit.one
jobs-one p by (act.Put job) cancels r is may fit = without-one job p.jobs fit.one
jobs-one p by (act.Build job) fails r is may fit = without-one job p.jobs fit.one
jobs-one p by (act.Install load) succeeds r is may fit = cancelled-one load (span_of_load p load) p.jobs fit.one
jobs-one p by _ _ r is may fit = fit.one

oldest-after : (p : Plain) (a : Act) (o : Outcome) → FlushesFit p → AllByRecursion (λ j. FlushesOldest (sealed_after p a o) j.kind) (jobs_after p a o)
oldest-after p a o fit = elim (cases_Bool (is_flushed p a o)) [
  | inl flush ↦ flushed-oldest p a o flush fit
  | inr other ↦ stays-oldest p a o (jobs_after p a o) other (jobs-oldest p a o fit)
]

fit-step : (p : Plain) (note : Note) → MayStand p note → FlushesFit p → FlushesFit (after p note)
fit-step p note may fit = record {
  oldest = oldest-after p note.act (outcome note.reply) fit;
  one = jobs-one p note.by note.act (outcome note.reply) note.reply refl may.reply fit;
}

pub flushes-fit : (first_seq first_file : ℕ) (notes : List Note) → Legal (opening first_seq first_file) notes → FlushesFit (after_all (opening first_seq first_file) notes)
flushes-fit first_seq first_file notes legal = over-legal FlushesFit fit-step (opening first_seq first_file) notes legal (record { oldest = tt; one = tt })
