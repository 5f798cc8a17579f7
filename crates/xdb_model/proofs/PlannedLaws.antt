-- What a plan takes in, and hulls that don't meet.
use Rattle.std.proofs.Common.{◌≡◌, ℕ, suc, ◌+◌, Bool, true, false, cond, not, eqb, ltb, ◌&&◌, List, [], ◌∷◌, ◌++◌, take, Option, Some, None, refl, ap, subst, ◌∙◌, inl, inr, ◌⊎◌, arith, sym}
use Rattle.std.proofs.lemmas.Bool.{and_parts, or_parts}
use Rattle.std.specs.List.{list_any, list_all, cons_option, AllByRecursion}
use Rattle.xdb_rangedel.specs.Members.{Has}
use Rattle.xdb_key.specs.Bounds.{Bounds, meets, covers}
use Rattle.xdb_meta.specs.Table.{Table, bounds_of}
use Rattle.xdb_edit.specs.Plans.{Planned, meeting, inputs_at, planned, grown, hull_over, plan_from, plan_for, plan_of_first, pick_from, is_due, in_turn}
use Rattle.xdb_edit.specs.Versions.{LevelLists, tables_of, or_else}
use Rattle.xdb_edit.proofs.PlanLaws.{plan_for-full}
use Rattle.xdb_plain.specs.Edits.{job_hull, running_hulls}
use Rattle.xdb_plain.specs.Replies.{plan_now}
use Rattle.xdb_plain.specs.State.{Plain, Job, Compaction, found_job, without_job}
use Rattle.xdb_plain.specs.declared.act.Which.{Which}
use Rattle.xdb_plain.specs.declared.act.Which.TheVariants.{Auto, At}
use Rattle.xdb_model.proofs.ListLaws.{all-append, all-filtered, all-from_has, all-has}
use Rattle.xdb_model.proofs.CrossedLaws.{has-filtered, inputs-all, inputs-name, any-front, any-behind}
use Rattle.xdb_model.proofs.PairLaws.{off-turned}
use Rattle.xdb_model.specs.Apart.{Pairwise, IsOff, HasAllAt, HasAll, StandsIn}

-- ---- plans

record Takes (levels : LevelLists) (running : List Bounds) (q : Planned) : Type 0 where
  inputs : q.inputs ≡ inputs_at levels q.level q.hull ++ inputs_at levels (suc q.level) q.hull
  off : list_any (meets q.hull) running ≡ false

pub record IsPlan (levels : LevelLists) (running : List Bounds) (q : Planned) : Type 0 where
  pub inputs : q.inputs ≡ inputs_at levels q.level q.hull ++ inputs_at levels (suc q.level) q.hull
  pub off : list_any (meets q.hull) running ≡ false
  pub full : list_all (λ t. covers q.hull (bounds_of t)) (meeting q.hull (tables_of levels q.level ++ tables_of levels (suc q.level))) ≡ true

takes-unless : (levels : LevelLists) (running : List Bounds) (level : ℕ) (hull : Bounds) (q : Planned) (t : Bool) → list_any (meets hull) running ≡ t → cond t None (Some (planned levels level hull)) ≡ Some q → Takes levels running q
takes-unless levels running level hull q true is e = absurd (cc)
takes-unless levels running level hull q false is e =
    let same : planned levels level hull ≡ q = cc in
    subst (Takes levels running) same (record { inputs = refl; off = is })

takes-from : (levels : LevelLists) (running : List Bounds) (level : ℕ) (ts : List Table) (q : Planned) → plan_from levels running level ts ≡ Some q → Takes levels running q
takes-from levels running level [] q e = absurd (cc)
takes-from levels running level (t ∷ ts) q e =
    let tables = tables_of levels level ++ tables_of levels (suc level) in
    let hull = grown tables tables (hull_over (bounds_of t) ts) in
    takes-unless levels running level hull q (list_any (meets hull) running) refl e

takes-for : (levels : LevelLists) (running : List Bounds) (level : ℕ) (range : Bounds) (q : Planned) (deep : Bool) → cond deep None (plan_from levels running level (meeting range (tables_of levels level))) ≡ Some q → Takes levels running q
takes-for levels running level range q true e = absurd (cc)
takes-for levels running level range q false e = takes-from levels running level (meeting range (tables_of levels level)) q e

plan_for-is : (levels : LevelLists) (running : List Bounds) (level : ℕ) (range : Bounds) (q : Planned) → plan_for levels running level range ≡ Some q → IsPlan levels running q
plan_for-is levels running level range q e =
    let takes = takes-for levels running level range q (ltb 5 level) e in
    record { inputs = takes.inputs; off = takes.off; full = plan_for-full levels running level range q e }

either-some : {A : Type 0} (a b : Option A) (x : A) → or_else a b ≡ Some x → (a ≡ Some x) ⊎ (b ≡ Some x)
either-some (Some y) b x e = inl e
either-some None b x e = inr e

first-is : (levels : LevelLists) (running : List Bounds) (level : ℕ) (ts : List Table) (q : Planned) → plan_of_first levels running level ts ≡ Some q → IsPlan levels running q
first-is levels running level [] q e = absurd (cc)
first-is levels running level (t ∷ ts) q e = elim (either-some (plan_for levels running level (bounds_of t)) (plan_of_first levels running level ts) q e) [
  | inl here ↦ plan_for-is levels running level (bounds_of t) q here
  | inr later ↦ first-is levels running level ts q later
]

due-is : (levels : LevelLists) (running : List Bounds) (level : ℕ) (ts : List Table) (q : Planned) (due : Bool) → cond due (plan_of_first levels running level ts) None ≡ Some q → IsPlan levels running q
due-is levels running level ts q true e = first-is levels running level ts q e
due-is levels running level ts q false e = absurd (cc)

pick_from-is : (levels : LevelLists) (running : List Bounds) (level : ℕ) (rest : LevelLists) (q : Planned) → pick_from levels running level rest ≡ Some q → IsPlan levels running q
pick_from-is levels running level [] q e = absurd (cc)
pick_from-is levels running level (ts ∷ rest) q e = elim (either-some (cond (is_due level ts) (plan_of_first levels running level (in_turn level ts)) None) (pick_from levels running (suc level) rest) q e) [
  | inl here ↦ due-is levels running level (in_turn level ts) q (is_due level ts) here
  | inr later ↦ pick_from-is levels running (suc level) rest q later
]

pub plan-is : (p : Plain) (which : Which) (q : Planned) → plan_now p which ≡ Some q → IsPlan p.current.levels (running_hulls p.jobs) q
plan-is p Auto q e = pick_from-is p.current.levels (running_hulls p.jobs) 0 (take 6 p.current.levels) q e
plan-is p (At level range) q e = plan_for-is p.current.levels (running_hulls p.jobs) level range q e

-- ---- what a new compaction takes in

each-of : (test : Table → Bool) (ts : List Table) (t : Table) → list_all test ts ≡ true → Has ts t → test t ≡ true
each-of test [] t all has = absurd has
each-of test (x ∷ ts) t all (inl same) = subst (λ y. test y ≡ true) same (and_parts (test x) (list_all test ts) all).0
each-of test (x ∷ ts) t all (inr behind) = each-of test ts t (and_parts (test x) (list_all test ts) all).1 behind

has-front : (xs ys : List Table) (t : Table) → Has xs t → Has (xs ++ ys) t
has-front [] ys t has = absurd has
has-front (x ∷ xs) ys t (inl same) = inl same
has-front (x ∷ xs) ys t (inr behind) = inr (has-front xs ys t behind)

has-back : (xs ys : List Table) (t : Table) → Has ys t → Has (xs ++ ys) t
has-back [] ys t has = has
has-back (x ∷ xs) ys t has = inr (has-back xs ys t has)

abbrev pub begun : Planned → Compaction
begun q = record { level = q.level; inputs = q.inputs; hull = q.hull; cancelled = None }

-- what meets the hull lies in it
plan-within : (levels : LevelLists) (running : List Bounds) (q : Planned) → IsPlan levels running q → (t : Table) → Has (tables_of levels q.level ++ tables_of levels (suc q.level)) t → meets q.hull (bounds_of t) ≡ true → covers q.hull (bounds_of t) ≡ true
plan-within levels running q is t has met = each-of (λ u. covers q.hull (bounds_of u)) _ t is.full (has-filtered (λ u. meets q.hull (bounds_of u)) _ t has met)

pub plan-has_all : (levels : LevelLists) (running : List Bounds) (q : Planned) → IsPlan levels running q → HasAll levels (begun q)
plan-has_all levels running q is = record {
  from = λ high. all-from_has _ (tables_of levels q.level) (λ t has met. (
    plan-within levels running q is t (has-front (tables_of levels q.level) (tables_of levels (suc q.level)) t has) met,
    ap (list_any (λ (i : ℕ × ℕ). eqb i.0 q.level && eqb i.1 t.num)) is.inputs
        ∙ any-front _ (inputs_at levels q.level q.hull) (inputs_at levels (suc q.level) q.hull) (inputs-name levels q.level q.hull t has met),
  ));
  into = let next : suc q.level ≡ q.level + 1 = omega arith in subst (HasAllAt levels (begun q)) next (all-from_has _ (tables_of levels (suc q.level)) (λ t has met. (
    plan-within levels running q is t (has-back (tables_of levels q.level) (tables_of levels (suc q.level)) t has) met,
    ap (list_any (λ (i : ℕ × ℕ). eqb i.0 (suc q.level) && eqb i.1 t.num)) is.inputs
        ∙ any-behind _ (inputs_at levels q.level q.hull) (inputs_at levels (suc q.level) q.hull) (inputs-name levels (suc q.level) q.hull t has met),
  )));
}

pub plan-inputs : (levels : LevelLists) (running : List Bounds) (q : Planned) → IsPlan levels running q → AllByRecursion (StandsIn levels q.hull) q.inputs
plan-inputs levels running q is = subst (AllByRecursion (StandsIn levels q.hull)) (sym is.inputs)
    (all-append (StandsIn levels q.hull) (inputs_at levels q.level q.hull) (inputs_at levels (suc q.level) q.hull)
    (inputs-all (StandsIn levels q.hull) levels q.level q.hull (λ t has met. record {
      table = t;
      among = has;
      same_num = refl;
      within = plan-within levels running q is t (has-front (tables_of levels q.level) (tables_of levels (suc q.level)) t has) met;
    }))
    (inputs-all (StandsIn levels q.hull) levels (suc q.level) q.hull (λ t has met. record {
      table = t;
      among = has;
      same_num = refl;
      within = plan-within levels running q is t (has-back (tables_of levels q.level) (tables_of levels (suc q.level)) t has) met;
    })))

-- ---- hulls of jobs

abbrev pub HullsOff : Option Bounds → Option Bounds → Type 0
HullsOff None o = Unit {0}
HullsOff (Some r) None = Unit {0}
HullsOff (Some r) (Some o) = IsOff r o

abbrev pub JobsOff : Job → Job → Type 0
JobsOff i j = HullsOff (job_hull i) (job_hull j)

pub hulls-turned : (a b : Option Bounds) → HullsOff a b → HullsOff b a
hulls-turned None None off = tt
hulls-turned None (Some o) off = tt
hulls-turned (Some r) None off = tt
hulls-turned (Some r) (Some o) off = off-turned r o off

pub off-no_hull : (a : Option Bounds) → HullsOff a None
off-no_hull None = tt
off-no_hull (Some r) = tt

off-first : (hull : Bounds) (o : Option Bounds) (rest : List Bounds) → list_any (meets hull) (cons_option o rest) ≡ false → HullsOff (Some hull) o × (list_any (meets hull) rest ≡ false)
off-first hull None rest none = (tt, none)
off-first hull (Some r) rest none = or_parts (meets hull r) (list_any (meets hull) rest) none

-- a hull that meets none of the running ones
pub off-running : (hull : Bounds) (jobs : List Job) → list_any (meets hull) (running_hulls jobs) ≡ false → AllByRecursion (λ j. HullsOff (job_hull j) (Some hull)) jobs
off-running hull [] none = tt
off-running hull (j ∷ jobs) none =
    let parts = off-first hull (job_hull j) (running_hulls jobs) none in
    (hulls-turned (Some hull) (job_hull j) parts.0, off-running hull jobs parts.1)

has-hull : (hull : Bounds) (o : Option Bounds) (rest : List Bounds) → (o ≡ Some hull) ⊎ Has rest hull → Has (cons_option o rest) hull
has-hull hull None rest (inl same) = absurd (cc)
has-hull hull None rest (inr has) = has
has-hull hull (Some r) rest (inl same) = inl (cc)
has-hull hull (Some r) rest (inr has) = inr has

pub hull-runs : (hull : Bounds) (jobs : List Job) (j : Job) → Has jobs j → job_hull j ≡ Some hull → Has (running_hulls jobs) hull
hull-runs hull [] j has is = absurd has
hull-runs hull (x ∷ jobs) j (inl same) is = has-hull hull (job_hull x) (running_hulls jobs) (inl (ap job_hull same ∙ is))
hull-runs hull (x ∷ jobs) j (inr behind) is = has-hull hull (job_hull x) (running_hulls jobs) (inr (hull-runs hull jobs j behind is))

cons-pairs : (o : Option Bounds) (rest : List Bounds) → ((r : Bounds) → o ≡ Some r → AllByRecursion (IsOff r) rest) → Pairwise IsOff rest → Pairwise IsOff (cons_option o rest)
cons-pairs None rest off pairs = pairs
cons-pairs (Some r) rest off pairs = (off r refl, pairs)

off-all : (r : Bounds) (jobs : List Job) → AllByRecursion (λ j. HullsOff (Some r) (job_hull j)) jobs → AllByRecursion (IsOff r) (running_hulls jobs)
off-all r [] all = tt
off-all r (j ∷ jobs) all = off-cons (job_hull j) all.0 (off-all r jobs all.1)
  where
    off-cons : (o : Option Bounds) → HullsOff (Some r) o → AllByRecursion (IsOff r) (running_hulls jobs) → AllByRecursion (IsOff r) (cons_option o (running_hulls jobs))
    off-cons None off more = more
    off-cons (Some h) off more = (off, more)

pub hulls-apart : (jobs : List Job) → Pairwise JobsOff jobs → Pairwise IsOff (running_hulls jobs)
hulls-apart [] pairs = tt
hulls-apart (j ∷ jobs) pairs =
    cons-pairs (job_hull j) (running_hulls jobs) (λ r is. off-all r jobs (subst (λ o. AllByRecursion (λ i. HullsOff o (job_hull i)) jobs) is pairs.0)) (hulls-apart jobs pairs.1)

-- ---- the job that is found, and the others

found-first : (job : ℕ) (x j : Job) (rest : Option Job) (xs : List Job) (t : Bool) → cond t (Some x) rest ≡ Some j → (rest ≡ Some j → Has xs j) → Has (x ∷ xs) j
found-first job x j rest xs true e more = inl (cc)
found-first job x j rest xs false e more = inr (more e)

pub found-has : (job : ℕ) (jobs : List Job) (j : Job) → found_job job jobs ≡ Some j → Has jobs j
found-has job [] j e = absurd (cc)
found-has job (x ∷ jobs) j e = found-first job x j (found_job job jobs) jobs (eqb x.num job) e (λ f. found-has job jobs j f)

others-first : (P : Job → Type 0) (x j : Job) (rest : Option Job) (others : List Job) (t : Bool) → cond t (Some x) rest ≡ Some j → (x ≡ j → AllByRecursion P others) → (rest ≡ Some j → P x × AllByRecursion P others) → AllByRecursion P (cond (not t) (x ∷ others) others)
others-first P x j rest others true e same more = same (cc)
others-first P x j rest others false e same more = more e

pub others-pairs : (R : Job → Job → Type 0) → ((i j : Job) → R i j → R j i) → (job : ℕ) (jobs : List Job) (j : Job) → found_job job jobs ≡ Some j → Pairwise R jobs → AllByRecursion (R j) (without_job job jobs)
others-pairs R turned job [] j e pairs = tt
others-pairs R turned job (x ∷ jobs) j e pairs =
    others-first (R j) x j (found_job job jobs) (without_job job jobs) (eqb x.num job) e
    (λ same. subst (λ y. AllByRecursion (R y) (without_job job jobs)) same (all-filtered (R x) (λ y. not (eqb y.num job)) jobs (λ y has left. all-has (R x) jobs y has pairs.0)))
    (λ f. (turned x j (all-has (R x) jobs j (found-has job jobs j f) pairs.0), others-pairs R turned job jobs j f pairs.1))
