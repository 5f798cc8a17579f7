-- Jobs and fences beside those of the plain state.
use Rattle.std.proofs.Common.{◌≡◌, ℕ, ◌==◌, ◌&&◌, not, cond, List, [], ◌∷◌, ◌++◌, map, filter, Option, Some, is_none, refl, sym, ap, ◌∙◌, inl, inr, if◌then◌else◌}
use Rattle.std.specs.List.{filter_map, cons_option}
use Rattle.std.specs.Option.{option_map}
use Rattle.std.proofs.lemmas.Bool.{cases_Bool, cond-true, cond-false, not_from_true, not_from_false}
use Rattle.std.proofs.lemmas.List.{map-append}
use Rattle.std.proofs.lemmas.List.Elements.{filter_map-append}
use Rattle.xdb_key.specs.Bounds.{Bounds, meets}
use Rattle.xdb_lists.specs.Keyed.{without}
use Rattle.xdb_plain.specs.Changes.{cancelled_job, cancelled_by, at_phase, in_phase}
use Rattle.xdb_plain.specs.Edits.{job_hull, running_hulls}
use Rattle.xdb_plain.specs.Fences.{fence_of}
use Rattle.xdb_plain.specs.State.{JobKind, flush_of, compaction_of, Compaction, Load, Phase, is_in, is_open, open_loads, same_name, without_job, without_load}
use Rattle.xdb_plain.specs.State as plain
use Rattle.xdb_jobs.specs.Fencing.{fence, without_fence}
use Rattle.xdb_jobs.specs.InState.{Part, part, compaction_part, plain_part, compactions, fences_of}
use Rattle.xdb_jobs.specs.Running.{hulls_of, with_canceller}
use Rattle.xdb_jobs.specs.declared.jobs.Job.{Job}
use Rattle.xdb_jobs.proofs.ListLaws.{map_twice, map_filter, filter_swap, map_filter_map, filter_filter_map}

abbrev job_of : ℕ → ℕ → JobKind → plain.Job
job_of num first kind = record { num = num; first = first; kind = kind }

-- ---- hulls

hull_in_kind : (num first : ℕ) (kind : JobKind) → job_hull (job_of num first kind) ≡ option_map (λ q. q.hull) (plain_part (job_of num first kind))
hull_in_kind num first (flush_of group) = refl
hull_in_kind num first (compaction_of c) = refl

pub hulls_alike : {H : Type 0} (jobs : List (Job H)) (state : List plain.Job) → map part jobs ≡ compactions state → hulls_of jobs ≡ running_hulls state
hulls_alike jobs state same =
    sym (map_twice part (λ q. q.hull) jobs)
    ∙ ap (map (λ q. q.hull)) same
    ∙ sym (map_filter_map plain_part job_hull (λ q. q.hull) (λ j. hull_in_kind j.num j.first j.kind) state)

-- ---- one more

part_in_kind : (num first : ℕ) (kind : JobKind) (c : Compaction) → kind ≡ compaction_of c → plain_part (job_of num first kind) ≡ Some (compaction_part num c)
part_in_kind num first (flush_of group) c e = absurd (cc)
part_in_kind num first (compaction_of d) c e = let same : d ≡ c = cc in ap (λ x. Some (compaction_part num x)) same

pub started_alike : {H : Type 0} (jobs : List (Job H)) (state : List plain.Job) (job : Job H) (now : plain.Job) (c : Compaction) → map part jobs ≡ compactions state → now.kind ≡ compaction_of c → part job ≡ compaction_part now.num c → map part (jobs ++ job ∷ []) ≡ compactions (state ++ now ∷ [])
started_alike jobs state job now c same kind one =
    map-append part jobs (job ∷ [])
    ∙ ap (λ qs. qs ++ part job ∷ []) same
    ∙ ap (λ q. compactions state ++ q ∷ []) one
    ∙ sym (filter_map-append plain_part state (now ∷ []) ∙ ap (λ o. compactions state ++ cons_option o []) (part_in_kind now.num now.first now.kind c kind))

-- ---- one less

number_in_kind : (num first : ℕ) (kind : JobKind) (q : Part) → plain_part (job_of num first kind) ≡ Some q → q.num ≡ num
number_in_kind num first (flush_of group) q e = absurd (cc)
number_in_kind num first (compaction_of c) q e = let same : compaction_part num c ≡ q = cc in sym (ap (λ x. x.num) same)

pub finished_alike : {H : Type 0} (jobs : List (Job H)) (state : List plain.Job) (num : ℕ) → map part jobs ≡ compactions state → map part (without (λ j. j.num) num jobs) ≡ compactions (without_job num state)
finished_alike jobs state num same =
    map_filter part (λ q. not (q.num == num)) jobs
    ∙ ap (filter (λ q. not (q.num == num))) same
    ∙ filter_filter_map plain_part (λ j. not (j.num == num)) (λ q. not (q.num == num)) (λ j q e. ap (λ n. not (n == num)) (number_in_kind j.num j.first j.kind q e)) state

-- ---- some cancelled

abbrev cancelled_part : List ℕ → Bounds → Part → Part
cancelled_part load span q = record q { cancelled = if is_none q.cancelled && meets q.hull span then Some load else q.cancelled }

cancelled_in_kind : (load : List ℕ) (span : Bounds) (num first : ℕ) (kind : JobKind) → plain_part (cancelled_job load span (job_of num first kind)) ≡ option_map (cancelled_part load span) (plain_part (job_of num first kind))
cancelled_in_kind load span num first (flush_of group) = refl
cancelled_in_kind load span num first (compaction_of c) = refl

filter_map_twice : {X Y Z : Type 0} (f : X → Y) (h : Y → Option Z) (xs : List X) → filter_map h (map f xs) ≡ filter_map (λ x. h (f x)) xs
filter_map_twice f h [] = refl
filter_map_twice f h (x ∷ xs) = ap (cons_option (h (f x))) (filter_map_twice f h xs)

pub cancelled_alike : {H : Type 0} (jobs : List (Job H)) (state : List plain.Job) (load : List ℕ) (span : Bounds) → map part jobs ≡ compactions state → map part (map (with_canceller load span) jobs) ≡ compactions (cancelled_by load (Some span) state)
cancelled_alike jobs state load span same =
    map_twice (with_canceller load span) part jobs
    ∙ sym (map_twice part (cancelled_part load span) jobs)
    ∙ ap (map (cancelled_part load span)) same
    ∙ sym (filter_map_twice (cancelled_job load span) plain_part state
    ∙ map_filter_map plain_part (λ j. plain_part (cancelled_job load span j)) (cancelled_part load span) (λ j. cancelled_in_kind load span j.num j.first j.kind) state)

-- ---- fences

pub ended_alike : (loads : List Load) (name : List ℕ) → fences_of (without_load name loads) ≡ without_fence name (fences_of loads)
ended_alike loads name =
    ap (map (λ l. fence l.name (fence_of l))) (filter_swap is_open (λ l. not (same_name l.name name)) loads)
    ∙ map_filter (λ l. fence l.name (fence_of l)) (λ f. not (same_name f.load name)) (open_loads loads)

fences_cons : (l : Load) (ls : List Load) → fences_of (l ∷ ls) ≡ cond (is_open l) (fence l.name (fence_of l) ∷ fences_of ls) (fences_of ls)
fences_cons l ls = elim (cases_Bool (is_open l)) [
  | inl yes' ↦
      ap (map (λ l. fence l.name (fence_of l))) (cond-true (is_open l) (l ∷ open_loads ls) (open_loads ls) yes')
      ∙ sym (cond-true (is_open l) (fence l.name (fence_of l) ∷ fences_of ls) (fences_of ls) yes')
  | inr no' ↦
      ap (map (λ l. fence l.name (fence_of l))) (cond-false (is_open l) (l ∷ open_loads ls) (open_loads ls) no')
      ∙ sym (cond-false (is_open l) (fence l.name (fence_of l) ∷ fences_of ls) (fences_of ls) no')
]

-- an installed load is no longer open, and every other one is as it was
open_behind : (name : List ℕ) (l : Load) → is_open (at_phase name is_in l) ≡ (not (same_name l.name name) && is_open l)
open_behind name l = elim (cases_Bool (same_name l.name name)) [
  | inl yes' ↦
      ap (λ b. is_open (record l { phase = if b then is_in else l.phase })) yes'
      ∙ sym (ap (λ b. not b && is_open l) yes')
  | inr no' ↦
      ap (λ b. is_open (record l { phase = if b then is_in else l.phase })) no'
      ∙ sym (ap (λ b. not b && is_open l) no')
]

open_left : (name : List ℕ) (loads : List Load) → fences_of (in_phase name is_in loads) ≡ fences_of (without_load name loads)
open_left name [] = refl
open_left name (l ∷ ls) =
    let rest = fences_of (without_load name ls) in
    let own = fence l.name (fence_of l) in
    fences_cons (at_phase name is_in l) (in_phase name is_in ls)
    ∙ ap (λ b. cond b (own ∷ fences_of (in_phase name is_in ls)) (fences_of (in_phase name is_in ls))) (open_behind name l)
    ∙ ap (λ fs. cond (not (same_name l.name name) && is_open l) (own ∷ fs) fs) (open_left name ls)
    ∙ elim (cases_Bool (same_name l.name name)) [
      | inl yes' ↦
          ap (λ b. cond (not b && is_open l) (own ∷ rest) rest) yes'
          ∙ sym (ap fences_of (cond-false (not (same_name l.name name)) (l ∷ without_load name ls) (without_load name ls) (not_from_true (same_name l.name name) yes')))
      | inr no' ↦
          ap (λ b. cond (not b && is_open l) (own ∷ rest) rest) no'
          ∙ sym (fences_cons l (without_load name ls))
          ∙ sym (ap fences_of (cond-true (not (same_name l.name name)) (l ∷ without_load name ls) (without_load name ls) (not_from_false (same_name l.name name) no')))
    ]

pub installed_alike : (loads : List Load) (name : List ℕ) → fences_of (in_phase name is_in loads) ≡ without_fence name (fences_of loads)
installed_alike loads name = open_left name loads ∙ ended_alike loads name
