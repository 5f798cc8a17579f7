-- A flush that ends in vain.
use Rattle.std.proofs.Common.{◌≡◌, ℕ, ◌+◌, ◌<◌, ◌≤◌, true, false, eqb, leb, ltb, ◌||◌, List, [], ◌∷◌, ◌++◌, Some, None, inl, inr, refl, sym, ap, ◌∙◌, subst, arith}
use Rattle.std.proofs.lemmas.Bool.{false≢true, and_parts, or_cases, eqb-true, ltb-true}
use Rattle.std.specs.List.{list_any, list_all, cons_option, filter_map, AllByRecursion}
use Rattle.std.specs.Option.{option_map}
use Rattle.xdb_lists.specs.Numbers.{is_among}
use Rattle.xdb_model.proofs.ListLaws.{all-more, found-all}
use Rattle.xdb_model.specs.Numbered.{JobsFit}
use Rattle.xdb_plain.specs.Counts.{is_within, job_numbers, job_owns, found_hold}
use Rattle.xdb_plain.specs.Failures.{faults, is_damage}
use Rattle.xdb_plain.specs.Holds.{releasing, holds_due}
use Rattle.xdb_plain.specs.Outcomes.{outcome, fails}
use Rattle.xdb_plain.specs.Replies.{is_flush, build_replies, same_reply}
use Rattle.xdb_plain.specs.State.{Plain, Hold, Job, flush_of, found_job}
use Rattle.xdb_plain.specs.Steps.{AreTried, FitsTried, FitsJobTried, are_rising_numbers}
use Rattle.xdb_plain.specs.declared.act.Act.TheVariants as act
use Rattle.xdb_plain.specs.declared.act.By.TheVariants.{Db}
use Rattle.xdb_plain.specs.declared.reply.Reply.{Reply}
use Rattle.xdb_steps.specs.Between.{Held, pinned_marks}
use Rattle.xdb_steps.specs.Core.{Core, RunningJob, ask_holders, job_holders, holders, running_job, other_jobs, vain_core}
use Rattle.xdb_steps.specs.Keeps.{Agrees, Means}
use Rattle.xdb_steps.specs.Notes.{end_note}
use Rattle.xdb_steps.specs.Step.{Step, HeldStep}
use Rattle.xdb_steps.proofs.Holding.{tells-none, held-alike}
use Rattle.xdb_steps.proofs.JobLaws.{flush-found, jobs-without, owned-less, given-less, striped-less, flush-unheld, holders-ended}
use Rattle.xdb_steps.proofs.KnownNumbers.{among-with, rise-with}
use Rattle.xdb_steps.proofs.Vain.{InVain, in-vain}

-- numbers that were tried are of those that were reserved
tried-within : (first len : ℕ) (tried : List ℕ) → list_all (is_within first len) tried ≡ true → AllByRecursion (λ n. is_within first len n ≡ true) tried
tried-within first len [] h = tt
tried-within first len (n ∷ ns) h = let parts = and_parts (is_within first len n) (list_all (is_within first len) ns) h in (parts.0, tried-within first len ns parts.1)

among-all : (P : ℕ → Type 0) (ns : List ℕ) (n : ℕ) → AllByRecursion P ns → is_among n ns ≡ true → P n
among-all P [] n all h = absurd (false≢true h)
among-all P (m ∷ ns) n all h = elim (or_cases (eqb m n) (is_among n ns) h) [
  | inl here ↦ subst P (eqb-true m n here) all.0
  | inr behind ↦ among-all P ns n all.1 behind
]

module _ (c : Core) (p : Plain) (num : ℕ) (r : RunningJob) (group : ℕ) (reply : Reply) (rise : ℕ) (tried known : List ℕ) (a : Agrees c p) (held : Held c.files.holds (holders c)) (fit : JobsFit p) (found : running_job num c.jobs ≡ Some r) (kind : r.job.kind ≡ flush_of group) (ends : outcome reply ≡ fails) (were : AreTried r.job.first 1 tried) (alike : (n : ℕ) → is_among n known ≡ (is_among n tried || is_among n c.files.known)) where
  vain : InVain reply
  vain = in-vain reply ends

  abbrev flush : Job
  flush = record { num = r.job.num; first = r.job.first; kind = flush_of group }

  plain-found : found_job num p.jobs ≡ Some flush
  plain-found = flush-found c p a num r group found kind

  within : AllByRecursion (λ n. is_within r.job.first 1 n ≡ true) tried
  within = tried-within r.job.first 1 tried (and_parts (are_rising_numbers tried) (list_all (is_within r.job.first 1) tried) were).1

  own : (n : ℕ) → is_among n tried ≡ true → job_owns n r.job ≡ true
  own n there = ap (λ k. is_within r.job.first (job_numbers k) n) kind ∙ among-all (λ m. is_within r.job.first 1 m ≡ true) tried n within there

  under : AllByRecursion (λ n. n < c.numbers.file) tried
  under =
      let le : r.job.first + job_numbers r.job.kind ≤ c.numbers.file = found-all (λ (x : RunningJob). x.job.first + job_numbers x.job.kind ≤ c.numbers.file) (λ (x : RunningJob). eqb x.job.num num) c.jobs r found a.owned.below in
      let one : job_numbers r.job.kind ≡ 1 = ap job_numbers kind in
      all-more (λ n. is_within r.job.first 1 n ≡ true) (λ n. n < c.numbers.file) tried (λ n is.
      let less = ltb-true n (r.job.first + 1) (and_parts (leb r.job.first n) (ltb n (r.job.first + 1)) is).1 in omega arith) within

  pub ends-in-vain : {told : Type 0} → rise ≡ faults (end_note num reply [] tried ∷ []) → (told → is_damage reply ≡ false) → HeldStep told rise c (vain_core c num known) p (end_note num reply [] tried)
  ends-in-vain {told} booked undamaged = record {
    step = step;
    holds = tells-none p Db (act.Build num) reply None tried
        (ap (λ o. filter_map (λ holder. option_map (λ (h : Hold). h.id) (found_hold holder p.holds)) (releasing (act.Build num) o)) ends ∙ ap (λ o. cons_option (option_map (λ (h : Hold). h.id) o) []) (flush-unheld c p a fit num r found (ap is_flush kind) held))
        (ap (λ o. holds_due p (act.Build num) o None) ends);
    held = held-alike c.files.holds (holders c) (ask_holders c.asks ++ job_holders (other_jobs num c.jobs)) held (holders-ended c p a fit num r found (ap is_flush kind));
  }
    where
      step : Step told rise c (vain_core c num known) p (end_note num reply [] tried)
      step =
          let same = sym (vain.same p Db (act.Build num) None [] tried) in
          record {
            stands = record {
              by = refl;
              reply = ap (λ o. list_any (same_reply reply) (build_replies o)) plain-found ∙ vain.of_work;
              act = tt;
              edit = vain.edit p (act.Build num);
              tried = subst (λ o. FitsTried p (act.Build num) o tried) (sym ends) (subst (λ o. FitsJobTried o tried) (sym plain-found) were);
              shown = vain.shown p;
            };
            agrees = subst (Agrees (vain_core c num known)) same (record {
              mem = a.mem;
              numbers = a.numbers;
              asks = a.asks;
              files = record {
                current = a.files.current;
                holds = a.files.holds;
                known = λ n. among-with n tried p.known ∙ ap (λ b. is_among n tried || b) (a.files.known n) ∙ sym (alike n);
                taken = a.files.taken;
                rising = rise-with c.numbers.file tried p.known under a.files.rising;
              };
              jobs = record { same = jobs-without c p a num };
              snaps = a.snaps;
              cursors = a.cursors;
              loads = a.loads;
              owned = owned-less c.numbers.file c.files.known known tried c.jobs num r a.owned found alike own;
              under_way = given-less c.mem.sealed c.jobs num a.under_way;
            });
            answers = λ t m. vain.answers p (act.Build num);
            means = λ t m. subst (Means (vain_core c num known)) same (record { image = m.image; order = m.order; numbers = m.numbers; tables = m.tables; striped = striped-less (pinned_marks p.snaps) c.jobs num m.striped; asks = m.asks });
            booked = booked;
            undamaged = undamaged;
          }
