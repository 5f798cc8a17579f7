-- What running jobs keep where one is started, one ends, and some are cancelled.
use Rattle.std.proofs.Common.{◌≡◌, ℕ, ◌+◌, ◌<◌, ◌==◌, false, List, [], ◌∷◌, ◌++◌, length, get_or, set, take, drop, map, Option, Some, None, sym, ap, ◌∙◌, subst, inl, inr, arith}
use Rattle.std.specs.List.{list_any, remove, position}
use Rattle.std.proofs.lemmas.Bool.{cases_Bool, eq-eqb, eqb-true, false≢true}
use Rattle.std.proofs.lemmas.List.{map-append, length-map, take_all, take-append-le}
use Rattle.std.proofs.lemmas.List.Edits.{map_over_more}
use Rattle.std.proofs.lemmas.List.Folds.{list_any_at}
use Rattle.std.proofs.lemmas.List.Quantifiers.{all_pairs_push, all_pairs_remove, position-Some}
use Rattle.xdb_key.specs.Bounds.{Bounds, meets}
use Rattle.xdb_key.proofs.OrderLaws.{meets-symmetric}
use Rattle.xdb_lists.specs.Keyed.{at_key, without}
use Rattle.xdb_jobs.specs.Running.{hulls_of, with_canceller, NumbersDiffer, AreRunning}
use Rattle.xdb_jobs.specs.declared.jobs.Job.{Job}
use Rattle.xdb_jobs.proofs.ListLaws.{all_pairs_map, map_remove, map_twice}
use Rattle.xdb_jobs.proofs.TakenOut.{PassOnce, no_place, none_found, all_stay, taken_out, found_there}

module _ {H : Type 0} where
  -- one number is that of one job at most
  pub number_once : (num : ℕ) (jobs : List (Job H)) → NumbersDiffer jobs → PassOnce (λ j. j.num == num) jobs
  number_once num jobs differ = λ i j d less l a b.
      differ i j d less l (eqb-true (get_or jobs i d).num num a ∙ sym (eqb-true (get_or jobs j d).num num b))

  pub running_pushed : (jobs : List (Job H)) (ranges : List Bounds) (job : Job H) → AreRunning jobs ranges → at_key (λ j. j.num) job.num jobs ≡ None → list_any (meets job.hull) (hulls_of jobs) ≡ false → AreRunning (jobs ++ job ∷ []) (ranges ++ job.hull ∷ [])
  running_pushed jobs ranges job running new apart = record {
    same = ap (λ rs. rs ++ job.hull ∷ []) running.same ∙ sym (map-append (λ j. j.hull) jobs (job ∷ []));
    numbers = all_pairs_push (λ i j. ¬ (i.num ≡ j.num)) jobs job running.numbers (λ k d l e.
        false≢true (sym (none_found (λ j. j.num == job.num) jobs new k d l) ∙ eq-eqb (get_or jobs k d).num job.num e));
    disjoint = all_pairs_push (λ r o. meets r o ≡ false) ranges job.hull running.disjoint (λ k d l.
        meets-symmetric (get_or ranges k d) job.hull ∙ elim (cases_Bool (meets job.hull (get_or ranges k d))) [
          | inl met ↦ absurd (false≢true (sym apart ∙ ap (list_any (meets job.hull)) (sym running.same) ∙ list_any_at (meets job.hull) ranges k d l met))
          | inr off ↦ off
        ]);
  }

  pub running_removed : (jobs : List (Job H)) (ranges : List Bounds) (at : ℕ) → AreRunning jobs ranges → at < length jobs → AreRunning (remove jobs at) (remove ranges at)
  running_removed jobs ranges at running l =
      let long : length ranges ≡ length jobs = ap length running.same ∙ length-map jobs (λ j. j.hull) in
      record {
        same = ap (λ rs. remove rs at) running.same ∙ map_remove (λ j. j.hull) jobs at;
        numbers = all_pairs_remove (λ i j. ¬ (i.num ≡ j.num)) jobs at l running.numbers;
        disjoint = all_pairs_remove (λ r o. meets r o ≡ false) ranges at (omega arith) running.disjoint;
      }

  pub running_cancelled : (load : List ℕ) (span : Bounds) (jobs : List (Job H)) (ranges : List Bounds) → AreRunning jobs ranges → AreRunning (map (with_canceller load span) jobs) ranges
  running_cancelled load span jobs ranges running = record {
    same = running.same ∙ sym (map_twice (with_canceller load span) (λ j. j.hull) jobs);
    numbers = all_pairs_map (λ i j. ¬ (i.num ≡ j.num)) (λ i j. ¬ (i.num ≡ j.num)) (with_canceller load span) (λ i j h. h) jobs running.numbers;
    disjoint = running.disjoint;
  }

  -- ---- for the bodies: `seen` are the jobs as clauses see them

  pub running_started : (jobs seen : List (Job H)) (ranges : List Bounds) (job : Job H) (hull : Bounds) (jobs' : List (Job H)) (ranges' : List Bounds) → jobs ≡ seen → AreRunning jobs ranges → at_key (λ j. j.num) job.num seen ≡ None → list_any (meets job.hull) (hulls_of seen) ≡ false → hull ≡ job.hull → jobs' ≡ jobs ++ job ∷ [] → ranges' ≡ ranges ++ hull ∷ [] → AreRunning jobs' ranges'
  running_started jobs seen ranges job hull jobs' ranges' same running new apart own jobs_are ranges_are =
      rw (jobs_are, ranges_are, own) (running_pushed jobs ranges job running (ap (at_key (λ j. j.num) job.num) same ∙ new) (ap (λ js. list_any (meets job.hull) (hulls_of js)) same ∙ apart))

  -- the place that was found in what was read
  pub place_read : (num : ℕ) (jobs read : List (Job H)) (r o : Option ℕ) → read ≡ jobs → r ≡ position (λ j. j.num == num) read → r ≡ o → position (λ j. j.num == num) jobs ≡ o
  place_read num jobs read r o same is o_is = ap (position (λ j. j.num == num)) (sym same) ∙ sym is ∙ o_is

  pub running_ended : (num : ℕ) (jobs : List (Job H)) (ranges : List Bounds) (at : ℕ) (d : Job H) (jobs' : List (Job H)) (ranges' : List Bounds) → AreRunning jobs ranges → position (λ j. j.num == num) jobs ≡ Some at → jobs' ≡ remove jobs at → ranges' ≡ remove ranges at → AreRunning jobs' ranges'
  running_ended num jobs ranges at d jobs' ranges' running place jobs_are ranges_are =
      rw (jobs_are, ranges_are) (running_removed jobs ranges at running (position-Some (λ j. j.num == num) jobs at d place).0)

  pub ended_job : (num : ℕ) (jobs seen : List (Job H)) (at : ℕ) (job : Job H) → jobs ≡ seen → NumbersDiffer jobs → position (λ j. j.num == num) jobs ≡ Some at → job ≡ get_or jobs at job → Some job ≡ at_key (λ j. j.num) num seen
  ended_job num jobs seen at job same differ place is =
      let l = (position-Some (λ j. j.num == num) jobs at job place).0 in
      ap Some is
      ∙ found_there (λ j. j.num == num) jobs at job (number_once num jobs differ) l (λ d. (position-Some (λ j. j.num == num) jobs at d place).1)
      ∙ ap (at_key (λ j. j.num) num) same

  pub ended_others : (num : ℕ) (jobs seen : List (Job H)) (at : ℕ) (d : Job H) (jobs' : List (Job H)) → jobs ≡ seen → NumbersDiffer jobs → position (λ j. j.num == num) jobs ≡ Some at → jobs' ≡ remove jobs at → jobs' ≡ without (λ j. j.num) num seen
  ended_others num jobs seen at d jobs' same differ place jobs_are =
      let l = (position-Some (λ j. j.num == num) jobs at d place).0 in
      jobs_are
      ∙ taken_out (λ j. j.num == num) jobs at (number_once num jobs differ) l (λ d. (position-Some (λ j. j.num == num) jobs at d place).1)
      ∙ ap (without (λ j. j.num) num) same

  pub none_ended : (num : ℕ) (jobs seen : List (Job H)) → jobs ≡ seen → position (λ j. j.num == num) jobs ≡ None → None ≡ at_key (λ j. j.num) num seen
  none_ended num jobs seen same place = sym (no_place (λ j. j.num == num) jobs place) ∙ ap (at_key (λ j. j.num) num) same

  pub all_run_on : (num : ℕ) (jobs seen : List (Job H)) → jobs ≡ seen → position (λ j. j.num == num) jobs ≡ None → seen ≡ without (λ j. j.num) num seen
  all_run_on num jobs seen same place =
      all_stay (λ j. j.num == num) seen (none_found (λ j. j.num == num) seen (sym (none_ended num jobs seen same place)))

  -- the list is written back over the one that was there
  pub running_cancelled_back : (load : List ℕ) (span : Bounds) (jobs jobs' : List (Job H)) (ranges : List Bounds) (n : ℕ) → AreRunning jobs ranges → n ≡ length jobs → jobs' ≡ map (with_canceller load span) jobs → AreRunning (take n (jobs' ++ drop (length jobs') jobs)) ranges
  running_cancelled_back load span jobs jobs' ranges n running long jobs_are =
      let same : length jobs' ≡ length jobs = ap length jobs_are ∙ length-map jobs (with_canceller load span) in
      let front = take-append-le n jobs' (drop (length jobs') jobs) (omega arith) ∙ take_all n jobs' (omega arith) ∙ jobs_are in
      subst (λ js. AreRunning js ranges) (sym front) (running_cancelled load span jobs ranges running)

  -- one more job of the list is done
  pub cancelled_more : (load : List ℕ) (span : Bounds) (jobs now : List (Job H)) (at : ℕ) (job job' : Job H) → at < length jobs → now ≡ map (with_canceller load span) (take at jobs) ++ drop at jobs → job ≡ get_or now at job → job' ≡ with_canceller load span (get_or now at job) → set now at job' ≡ map (with_canceller load span) (take (at + 1) jobs) ++ drop (at + 1) jobs
  cancelled_more load span jobs now at job job' l so_far read done =
      ap (λ j. set now at j) (done ∙ ap (with_canceller load span) (sym read)) ∙ map_over_more (with_canceller load span) jobs now at job l so_far read
