-- RunningJob jobs: found by their numbers, begun and ended.
use Rattle.std.proofs.Common.{◌≡◌, ℕ, ◌+◌, ◌<◌, ◌≤◌, Bool, true, false, cond, not, eqb, leb, ltb, ◌||◌, ◌&&◌, List, [], ◌∷◌, ◌++◌, map, filter, append-nil, Option, Some, None, inl, inr, refl, sym, ap, ◌∙◌, subst, arith}
use Rattle.std.proofs.lemmas.Bool.{false≢true, cases_Bool, and_parts, and_left, or_from, ne_eqb, eqb-true, leb-true, ltb-true, lt-leb}
use Rattle.std.proofs.lemmas.List.Elements.{filter_map-append}
use Rattle.std.proofs.lemmas.Option.{none-some}
use Rattle.std.specs.List.{find, list_any, cons_option, AllByRecursion}
use Rattle.std.specs.Option.{option_map}
use Rattle.xdb_key.specs.Groups.{Group}
use Rattle.xdb_laws.specs.Rewrite.{AreLimits}
use Rattle.xdb_lists.specs.Numbers.{is_among}
use Rattle.xdb_mem.proofs.PickLaws.{Has-filter, Has-from_filter}
use Rattle.xdb_model.proofs.ListLaws.{all-more, all-append, all-kept, all-from_has, all-both, pairs-append, pairs-filtered}
use Rattle.xdb_model.specs.Apart.{Pairwise}
use Rattle.xdb_model.specs.Flushes.{NotBoth}
use Rattle.xdb_model.specs.Numbered.{JobsFit, RiseTo}
use Rattle.xdb_plain.specs.Counts.{is_within, is_owned, job_numbers, job_owns, load_owns, same_holder, found_hold}
use Rattle.xdb_plain.specs.Edits.{is_empty}
use Rattle.xdb_plain.specs.Outcomes.{is_put_of_flush}
use Rattle.xdb_plain.specs.Upkeep.{flush_due}
use Rattle.xdb_plain.specs.Replies.{is_flush}
use Rattle.xdb_plain.specs.State.{Plain, Holder, for_ask, for_job, OpenQuestion, Job, JobKind, flush_of, compaction_of, open_loads, found_job, without_job, Snapshot}
use Rattle.xdb_rangedel.proofs.MemberLaws.{Has-append_left, Has-append_right, Has-append_cases, Has-from_map, Has-from_filter_map, Has-filter_map}
use Rattle.xdb_rangedel.specs.Content.{Item}
use Rattle.xdb_rangedel.specs.Members.{Has, SameMembers}
use Rattle.xdb_steps.specs.Between.{Owned, OwnApart, IsUnknown, Held, FitsGiven, UnderWay, Striped, pinned_marks}
use Rattle.xdb_steps.specs.Core.{Core, RunningJob, ask_holders, job_holder, job_holders, holders, running_job, other_jobs, flush_idle}
use Rattle.xdb_steps.specs.Keeps.{Agrees}
use Rattle.xdb_steps.proofs.Finding.{found-there, found-apart, told-by_number}
use Rattle.xdb_steps.proofs.Holding.{none-held}
use Rattle.xdb_steps.proofs.HoldSteps.{job-tells}

-- ---- jobs by what another list has

module _ {X Y : Type 0} (f : X → Y) (test : Y → Bool) where
  choice : (b : Bool) (x : X) (o : Option X) → cond b (Some (f x)) (option_map f o) ≡ option_map f (cond b (Some x) o)
  choice true x o = refl
  choice false x o = refl

  found-mapped : (xs : List X) → find test (map f xs) ≡ option_map f (find (λ x. test (f x)) xs)
  found-mapped [] = refl
  found-mapped (x ∷ xs) = ap (λ o. cond (test (f x)) (Some (f x)) o) (found-mapped xs) ∙ choice (test (f x)) x (find (λ y. test (f y)) xs)

  kept : (b : Bool) (x : X) (xs : List X) → cond b (f x ∷ map f xs) (map f xs) ≡ map f (cond b (x ∷ xs) xs)
  kept true x xs = refl
  kept false x xs = refl

  filtered-mapped : (xs : List X) → filter test (map f xs) ≡ map f (filter (λ x. test (f x)) xs)
  filtered-mapped [] = refl
  filtered-mapped (x ∷ xs) = ap (λ ys. cond (test (f x)) (f x ∷ ys) ys) (filtered-mapped xs) ∙ kept (test (f x)) x (filter (λ y. test (f y)) xs)

  any-mapped : (xs : List X) → list_any test (map f xs) ≡ list_any (λ x. test (f x)) xs
  any-mapped [] = refl
  any-mapped (x ∷ xs) = ap (λ b. test (f x) || b) (any-mapped xs)

abbrev job_of : RunningJob → Job
job_of r = r.job

module _ (c : Core) (p : Plain) (a : Agrees c p) where
  pub flush-runs : list_any (λ j. is_flush j.kind) p.jobs ≡ list_any (λ r. is_flush r.job.kind) c.jobs
  flush-runs = ap (list_any (λ (j : Job). is_flush j.kind)) a.jobs.same ∙ any-mapped job_of (λ j. is_flush j.kind) c.jobs

  pub job-found : (num : ℕ) (o : Option RunningJob) → running_job num c.jobs ≡ o → found_job num p.jobs ≡ option_map job_of o
  job-found num o e = ap (found_job num) a.jobs.same ∙ found-mapped job_of (λ j. eqb j.num num) c.jobs ∙ ap (option_map job_of) e

  pub flush-found : (num : ℕ) (r : RunningJob) (group : ℕ) → running_job num c.jobs ≡ Some r → r.job.kind ≡ flush_of group → found_job num p.jobs ≡ Some (record { num = r.job.num; first = r.job.first; kind = flush_of group })
  flush-found num r group found kind = job-found num (Some r) found ∙ (λ i. Some (record { num = r.job.num; first = r.job.first; kind = kind i }))

  pub jobs-without : (num : ℕ) → without_job num p.jobs ≡ map job_of (other_jobs num c.jobs)
  jobs-without num = ap (without_job num) a.jobs.same ∙ filtered-mapped job_of (λ j. not (eqb j.num num)) c.jobs

-- the put of a job that runs is one of a flush by its kind
pub put-is_flush : (p : Plain) (num : ℕ) (j : Job) → found_job num p.jobs ≡ Some j → is_put_of_flush p num ≡ is_flush j.kind
put-is_flush p num j found = rw found refl

-- ---- numbers of files

within-tells : (first len n : ℕ) → is_within first len n ≡ true → (first ≤ n) × (n < first + len)
within-tells first len n e = let parts = and_parts (leb first n) (ltb n (first + len)) e in (leb-true first n parts.0, ltb-true n (first + len) parts.1)

below-off : (first len n : ℕ) → n < first → is_within first len n ≡ false
below-off first len n low = and_left (leb first n) (ltb n (first + len)) (lt-leb first n low)

-- a job begins, under the next numbers
pub owned-more : (file : ℕ) (known : List ℕ) (jobs : List RunningJob) (r : RunningJob) → Owned file known jobs → ((n : ℕ) → is_among n known ≡ true → n < file) → r.job.first ≡ file → Owned (file + job_numbers r.job.kind) known (jobs ++ r ∷ [])
owned-more file known jobs r owned low first = record {
  below = all-append (λ s. s.job.first + job_numbers s.job.kind ≤ file + job_numbers r.job.kind) jobs (r ∷ []) (all-more (λ s. s.job.first + job_numbers s.job.kind ≤ file) _ jobs (λ s le. omega arith) owned.below) (omega arith, tt);
  unknown = all-append (λ s. IsUnknown known s.job) jobs (r ∷ []) owned.unknown (one-unknown, tt);
  apart = pairs-append (λ s t. OwnApart s.job t.job) jobs (r ∷ []) owned.apart (tt, tt) (all-more (λ s. s.job.first + job_numbers s.job.kind ≤ file) _ jobs (λ s le. (apart-from s le, tt)) owned.below);
}
  where
    one-unknown : IsUnknown known r.job
    one-unknown n is = elim (cases_Bool (is_among n known)) [
      | inl there ↦ let less = low n there in let within = within-tells r.job.first (job_numbers r.job.kind) n is in let from = within.0 in absurd (omega arith)
      | inr none ↦ none
    ]

    apart-from : (s : RunningJob) → s.job.first + job_numbers s.job.kind ≤ file → OwnApart s.job r.job
    apart-from s le n is = let within = within-tells s.job.first (job_numbers s.job.kind) n is in let under = within.1 in below-off r.job.first (job_numbers r.job.kind) n (omega arith)

apart-turned : (i j : Job) → OwnApart i j → OwnApart j i
apart-turned i j apart n is = elim (cases_Bool (job_owns n i)) [
  | inl mine ↦ absurd (false≢true (sym (apart n mine) ∙ is))
  | inr off ↦ off
]

-- a job ends, and some of its numbers are known from now on
pub owned-less : (file : ℕ) (known more tried : List ℕ) (jobs : List RunningJob) (num : ℕ) (r : RunningJob) → Owned file known jobs → running_job num jobs ≡ Some r → ((n : ℕ) → is_among n more ≡ (is_among n tried || is_among n known)) → ((n : ℕ) → is_among n tried ≡ true → job_owns n r.job ≡ true) → Owned file more (other_jobs num jobs)
owned-less file known more tried jobs num r owned found alike its = record {
  below = all-kept (λ s. s.job.first + job_numbers s.job.kind ≤ file) (λ s. not (eqb s.job.num num)) jobs owned.below;
  unknown = all-both (λ s. OwnApart r.job s.job) (λ s. IsUnknown known s.job) (λ s. IsUnknown more s.job) (other_jobs num jobs) (λ s apart unknown. still-unknown s apart unknown)
      (found-apart (λ s. eqb s.job.num num) (λ s t. OwnApart s.job t.job) (λ s t h. apart-turned s.job t.job h) r jobs found owned.apart)
      (all-kept (λ s. IsUnknown known s.job) (λ s. not (eqb s.job.num num)) jobs owned.unknown);
  apart = pairs-filtered (λ s t. OwnApart s.job t.job) (λ s. not (eqb s.job.num num)) jobs owned.apart;
}
  where
    still-unknown : (s : RunningJob) → OwnApart r.job s.job → IsUnknown known s.job → IsUnknown more s.job
    still-unknown s apart unknown n is =
        let untried : is_among n tried ≡ false = elim (cases_Bool (is_among n tried)) [
          | inl one ↦ absurd (false≢true (sym (apart n (its n one)) ∙ is))
          | inr none ↦ none
        ] in
        alike n ∙ ap (λ b. b || is_among n known) untried ∙ unknown n is

-- ---- what jobs were given

pub given-more : (sealed : List Group) (jobs : List RunningJob) (r : RunningJob) → UnderWay sealed jobs → FitsGiven sealed r.content r.job.kind → UnderWay sealed (jobs ++ r ∷ [])
given-more sealed jobs r h fits = all-append (λ s. FitsGiven sealed s.content s.job.kind) jobs (r ∷ []) h (fits, tt)

pub given-less : (sealed : List Group) (jobs : List RunningJob) (num : ℕ) → UnderWay sealed jobs → UnderWay sealed (other_jobs num jobs)
given-less sealed jobs num h = all-kept (λ s. FitsGiven sealed s.content s.job.kind) (λ s. not (eqb s.job.num num)) jobs h

-- beside a flush no other one runs, so the groups that it leaves are nobody's
pub given-none : (sealed : List Group) (jobs : List RunningJob) (num : ℕ) (r : RunningJob) → running_job num jobs ≡ Some r → is_flush r.job.kind ≡ true → Pairwise (λ s t. NotBoth s.job t.job) jobs → UnderWay sealed (other_jobs num jobs)
given-none sealed jobs num r found is pairs =
    all-more (λ s. NotBoth r.job s.job) (λ s. FitsGiven sealed s.content s.job.kind) (other_jobs num jobs) (λ s not-both. no-flush s.content s.job.kind (sym (ap (λ b. b && is_flush s.job.kind) is) ∙ not-both))
    (found-apart (λ s. eqb s.job.num num) (λ s t. NotBoth s.job t.job) turned r jobs found pairs)
  where
    no-flush : (content : List Item) (kind : JobKind) → is_flush kind ≡ false → FitsGiven sealed content kind
    no-flush content (flush_of group) e = absurd (false≢true (sym e))
    no-flush content (compaction_of x) e = tt

    swapped : (x y : Bool) → (x && y) ≡ false → (y && x) ≡ false
    swapped true true e = e
    swapped true false e = refl
    swapped false true e = refl
    swapped false false e = refl

    turned : (s t : RunningJob) → NotBoth s.job t.job → NotBoth t.job s.job
    turned s t h = swapped (is_flush s.job.kind) (is_flush t.job.kind) h

-- ---- marks and stripes

pub striped-less : (marks : List ℕ) (jobs : List RunningJob) (num : ℕ) → Striped marks jobs → Striped marks (other_jobs num jobs)
striped-less marks jobs num h = all-kept (λ s. AreLimits s.content s.stripes marks) (λ s. not (eqb s.job.num num)) jobs h

-- without snapshots there are no marks
pub striped-none : (snaps : List Snapshot) (jobs : List RunningJob) → snaps ≡ [] → Striped (pinned_marks snaps) jobs
striped-none snaps jobs none = all-from_has (λ s. AreLimits s.content s.stripes (pinned_marks snaps)) jobs (λ s has m there. absurd (subst (λ ss. Has (pinned_marks ss) m) none there))

-- ---- holders

no-holder : (num : ℕ) (kind : JobKind) → is_flush kind ≡ true → job_holder num kind ≡ None
no-holder num (flush_of group) e = refl
no-holder num (compaction_of x) e = absurd (false≢true e)

-- a flush holds no version
pub holders-flushing : (jobs : List RunningJob) (r : RunningJob) → is_flush r.job.kind ≡ true → job_holders (jobs ++ r ∷ []) ≡ job_holders jobs
holders-flushing jobs r is =
    filter_map-append (λ (s : RunningJob). job_holder s.job.num s.job.kind) jobs (r ∷ [])
    ∙ ap (λ o. job_holders jobs ++ cons_option o []) (no-holder r.job.num r.job.kind is) ∙ append-nil (job_holders jobs)

map-twice : {X Y Z : Type 0} (f : X → Y) (g : Y → Z) (xs : List X) → map g (map f xs) ≡ map (λ x. g (f x)) xs
map-twice f g [] = refl
map-twice f g (x ∷ xs) = ap (λ ys. g (f x) ∷ ys) (map-twice f g xs)

module _ (c : Core) (p : Plain) (a : Agrees c p) (fit : JobsFit p) (num : ℕ) (r : RunningJob) (found : running_job num c.jobs ≡ Some r) (is : is_flush r.job.kind ≡ true) where
  there : Has c.jobs r × (eqb r.job.num num ≡ true)
  there = found-there (λ (s : RunningJob). eqb s.job.num num) r c.jobs found

  rising : RiseTo 0 p.started (map (λ (s : RunningJob). s.job.num) c.jobs)
  rising = subst (RiseTo 0 p.started) (ap (map (λ (j : Job). j.num)) a.jobs.same ∙ map-twice job_of (λ j. j.num) c.jobs) fit

  -- no job with a hold has the number
  other : (s : RunningJob) (k : Holder) → Has c.jobs s → job_holder s.job.num s.job.kind ≡ Some k → s.job.num ≡ num → ⊥
  other s k has holds e =
      let same : s ≡ r = told-by_number (λ (x : RunningJob). x.job.num) 0 p.started s r c.jobs rising has there.0 (e ∙ sym (eqb-true r.job.num num there.1)) in
      let none : job_holder s.job.num s.job.kind ≡ None = ap (λ (x : RunningJob). job_holder x.job.num x.job.kind) same ∙ no-holder r.job.num r.job.kind is in
      absurd (none-some k (sym none ∙ holds))

  pub flush-unheld : Held c.files.holds (holders c) → found_hold (for_job num) p.holds ≡ None
  flush-unheld held = none-held (for_job num) c.files.holds p.holds (holders c) a.files.holds held (λ k has. elim (Has-append_cases (ask_holders c.asks) (job_holders c.jobs) k has) [
    | inl f ↦ let from = Has-from_map (λ (q : OpenQuestion). for_ask q.ask) c.asks k f in ap (λ x. same_holder x (for_job num)) (sym from.2)
    | inr b ↦
        let from = Has-from_filter_map (λ (s : RunningJob). job_holder s.job.num s.job.kind) c.jobs k b in
        ap (λ x. same_holder x (for_job num)) (job-tells from.0.job.num from.0.job.kind k from.2)
        ∙ ne_eqb from.0.job.num num (other from.0 k from.1 from.2)
  ])

  pub holders-ended : SameMembers (ask_holders c.asks ++ job_holders (other_jobs num c.jobs)) (holders c)
  holders-ended k = (
    λ has. elim (Has-append_cases (ask_holders c.asks) (job_holders (other_jobs num c.jobs)) k has) [
      | inl f ↦ Has-append_left (ask_holders c.asks) (job_holders c.jobs) k f
      | inr b ↦
          let from = Has-from_filter_map (λ (s : RunningJob). job_holder s.job.num s.job.kind) (other_jobs num c.jobs) k b in
          Has-append_right (ask_holders c.asks) (job_holders c.jobs) k (Has-filter_map (λ (s : RunningJob). job_holder s.job.num s.job.kind) c.jobs from.0 k
          (Has-from_filter (λ (s : RunningJob). not (eqb s.job.num num)) c.jobs from.0 from.1).0 from.2)
    ],
    λ has. elim (Has-append_cases (ask_holders c.asks) (job_holders c.jobs) k has) [
      | inl f ↦ Has-append_left (ask_holders c.asks) (job_holders (other_jobs num c.jobs)) k f
      | inr b ↦
          let from = Has-from_filter_map (λ (s : RunningJob). job_holder s.job.num s.job.kind) c.jobs k b in
          Has-append_right (ask_holders c.asks) (job_holders (other_jobs num c.jobs)) k (Has-filter_map (λ (s : RunningJob). job_holder s.job.num s.job.kind) (other_jobs num c.jobs) from.0 k
          (Has-filter (λ (s : RunningJob). not (eqb s.job.num num)) c.jobs from.0 from.1 (ap not (ne_eqb from.0.job.num num (other from.0 k from.1 from.2)))) from.2)
    ],
  )

-- ---- what is known is nobody's

none-owns : (n : ℕ) (known : List ℕ) (jobs : List RunningJob) → is_among n known ≡ true → AllByRecursion (λ r. IsUnknown known r.job) jobs → list_any (λ r. job_owns n r.job) jobs ≡ false
none-owns n known [] is all = refl
none-owns n known (r ∷ jobs) is all = or_from (job_owns n r.job) (list_any (λ x. job_owns n x.job) jobs) (elim (cases_Bool (job_owns n r.job)) [
  | inl mine ↦ absurd (false≢true (sym (all.0 n mine) ∙ is))
  | inr off ↦ off
]) (none-owns n known jobs is all.1)

pub known-unowned : (c : Core) (p : Plain) → Agrees c p → (n : ℕ) → is_among n p.known ≡ true → is_owned p n ≡ false
known-unowned c p a n there = or_from (list_any (load_owns n) (open_loads p.loads)) (list_any (job_owns n) p.jobs)
    (ap (λ ls. list_any (load_owns n) (open_loads ls)) a.loads.none)
    (ap (list_any (job_owns n)) a.jobs.same ∙ any-mapped job_of (job_owns n) c.jobs ∙ none-owns n c.files.known c.jobs (sym (a.files.known n) ∙ there) a.owned.unknown)

not-or : (x y : Bool) → (not x && not y) ≡ not (x || y)
not-or true y = refl
not-or false y = refl

pub due-is : (c : Core) (p : Plain) → Agrees c p → flush_due p ≡ not (flush_idle c)
due-is c p a = (λ i. not (is_empty (a.mem.sealed i)) && not (flush-runs c p a i)) ∙ not-or (is_empty c.mem.sealed) (list_any (λ r. is_flush r.job.kind) c.jobs)
