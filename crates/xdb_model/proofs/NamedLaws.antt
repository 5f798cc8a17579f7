-- Behind the note that takes a number no version names its file.
use Rattle.std.proofs.Common.{◌≡◌, ℕ, ◌+◌, ◌<◌, ◌≤◌, Bool, true, false, cond, not, eqb, ◌&&◌, List, [], ◌∷◌, ◌++◌, length, map, filter, Option, Some, None, refl, sym, ap, subst, ◌∙◌, inl, inr, arith}
use Rattle.std.proofs.lemmas.Bool.{false≢true, and_parts, and_from, or_from, cases_Bool, eqb-true, le-leb, lt-ltb}
use Rattle.std.specs.List.{list_any, flat_map, range_with_len, AllByRecursion}
use Rattle.xdb_meta.specs.Table.{Table}
use Rattle.xdb_edit.specs.Changes.{Changes}
use Rattle.xdb_edit.specs.Versions.{LevelLists}
use Rattle.xdb_plain.specs.Changes.{after}
use Rattle.xdb_plain.specs.Counts.{is_within, is_among, is_dead, is_owned, load_owns, job_numbers, count, backings, distinct}
use Rattle.xdb_plain.specs.Edits.{rest}
use Rattle.xdb_plain.specs.Holds.{version_after}
use Rattle.xdb_plain.specs.Legal.{Legal, after_all}
use Rattle.xdb_plain.specs.Outcomes.{outcome}
use Rattle.xdb_plain.specs.State.{Plain, Version, opening}
use Rattle.xdb_plain.specs.Steps.{MayStand}
use Rattle.xdb_plain.specs.declared.note.Note.{Note}
use Rattle.xdb_plain.specs.declared.reply.Reply.TheVariants as reply
use Rattle.xdb_model.proofs.ListLaws.{all-more, all-unmap}
use Rattle.xdb_model.proofs.BackingLaws.{JobHas, OpenHas, AddsOn, range-all, files-by, adds-on}
use Rattle.xdb_model.proofs.CauseLaws.{took}
use Rattle.xdb_model.proofs.EditedLaws.{levels-all}
use Rattle.xdb_model.proofs.FileLaws.{file-later}
use Rattle.xdb_model.proofs.KnownLaws.{Fit, fit-all, fit-first, JobFree, JobsFree, jobs-by, not-within, first-all, dead-free, dead-open}
use Rattle.xdb_model.proofs.LoadLaws.{AreNamedOnce, LoadFree, LoadsFree, once-by, free-by}
use Rattle.xdb_model.proofs.TakenLaws.{only-reap, first-passes}
use Rattle.xdb_model.specs.Named.{IsUnnamed, AddsNone}

abbrev pub Off : ℕ → Table → Type 0
Off n t = eqb t.backing n ≡ false

-- ---- a number that others than these have

pub within-other : (first len n m : ℕ) → is_within first len n ≡ false → first ≤ m → m < first + len → eqb m n ≡ false
within-other first len n m off low high = elim (cases_Bool (eqb m n)) [
  | inl is ↦
      let same = eqb-true m n is in
      absurd (false≢true (sym off ∙ and_from _ _ (le-leb first n (omega arith)) (lt-ltb n (first + len) (omega arith))))
  | inr other ↦ other
]

abbrev Other : ℕ → ℕ → Type 0
Other n m = eqb m n ≡ false

others-in : (n first len : ℕ) → is_within first len n ≡ false → AllByRecursion (Other n) (range_with_len first len)
others-in n first len off = range-all (Other n) first len (λ m from to. within-other first len n m off from to)

-- ---- a number that nobody has, and that no table of the current version stands on

pub record Gone (n : ℕ) (p : Plain) : Type 0 where
  pub low : n < p.file
  pub of_jobs : JobsFree n p.jobs
  pub of_loads : LoadsFree n p.loads
  pub unnamed : AllByRecursion (AllByRecursion (Off n)) p.current.levels

adds-others : (n : ℕ) (o : Option Changes) → AddsOn (Other n) o → AddsNone n o
adds-others n None on = tt
adds-others n (Some e) on = on

pub unnamed-after : (n : ℕ) (v : Version) (o : Option Changes) → AddsNone n o → AllByRecursion (AllByRecursion (Off n)) v.levels → AllByRecursion (AllByRecursion (Off n)) (version_after v o).levels
unnamed-after n v None none all = all
unnamed-after n v (Some e) none all = levels-all (Off n) 0 e v.levels none all

pub gone-adds : (n : ℕ) (p : Plain) (note : Note) → MayStand p note → Gone n p → AddsNone n note.edit
gone-adds n p note may gone =
    let jobs = all-more (JobFree n) (JobHas (Other n)) p.jobs (λ j free. others-in n j.first (job_numbers j.kind) free) gone.of_jobs in
    let loads = all-more (LoadFree n) (OpenHas (Other n)) p.loads (λ l free is. others-in n l.first (length l.tables) (sym (ap (λ b. b && load_owns n l) is) ∙ free)) gone.of_loads in
    let made = files-by (Other n) p note.by note.act note.reply note.edit jobs loads may.edit may.reply in
    adds-others n note.edit (adds-on (Other n) p note.act note.reply note.edit may.edit made gone.unnamed)

pub gone-after : (n : ℕ) (p : Plain) (note : Note) → MayStand p note → AreNamedOnce p.loads → Gone n p → Gone n (after p note)
gone-after n p note may once gone =
    let low = gone.low in
    let later = file-later p note.act (outcome note.reply) note.edit in
    record {
      low = omega arith;
      of_jobs = jobs-by n p note.act (outcome note.reply) low gone.of_jobs;
      of_loads = free-by n p note.by note.act (outcome note.reply) note.reply refl may.reply (λ len. not-within p.file len n low) once gone.of_loads;
      unnamed = unnamed-after n p.current note.edit (gone-adds n p note may gone) gone.unnamed;
    }

gone-all : (n : ℕ) (p : Plain) (notes : List Note) → Legal p notes → AreNamedOnce p.loads → Gone n p → Gone n (after_all p notes)
gone-all n p [] legal once gone = gone
gone-all n p (note ∷ notes) legal once gone =
    gone-all n (after p note) notes legal.1 (once-by p note.by note.act (outcome note.reply) note.reply refl legal.0.reply once) (gone-after n p note legal.0 once gone)

-- ---- the number that is taken

none-first : {A : Type 0} (test : A → Bool) (x : A) (passing xs : List A) (t : Bool) → test x ≡ t → (length passing ≡ 0 → AllByRecursion (λ x. test x ≡ false) xs) → length (cond t (x ∷ passing) passing) ≡ 0 → AllByRecursion (λ x. test x ≡ false) (x ∷ xs)
none-first test x passing xs true is more none = absurd (omega arith)
none-first test x passing xs false is more none = (is, more none)

pub none-pass : {A : Type 0} (test : A → Bool) (xs : List A) → length (filter test xs) ≡ 0 → AllByRecursion (λ x. test x ≡ false) xs
none-pass test [] none = tt
none-pass test (x ∷ xs) none = none-first test x (filter test xs) xs (test x) refl (λ n. none-pass test xs n) none

all-front : {A : Type 0} (P : A → Type 0) (xs ys : List A) → AllByRecursion P (xs ++ ys) → AllByRecursion P xs
all-front P [] ys all = tt
all-front P (x ∷ xs) ys all = (all.0, all-front P xs ys all.1)

all-back : {A : Type 0} (P : A → Type 0) (xs ys : List A) → AllByRecursion P (xs ++ ys) → AllByRecursion P ys
all-back P [] ys all = all
all-back P (x ∷ xs) ys all = all-back P xs ys all.1

pub off-levels : (n : ℕ) (levels : LevelLists) → AllByRecursion (λ b. eqb b n ≡ false) (map (λ t. t.backing) (flat_map (λ ts. ts) levels)) → AllByRecursion (AllByRecursion (Off n)) levels
off-levels n levels all = by-level levels (all-unmap (λ b. eqb b n ≡ false) (λ (t : Table). t.backing) (flat_map (λ ts. ts) levels) all)
  where
    by-level : (levels : LevelLists) → AllByRecursion (Off n) (flat_map (λ ts. ts) levels) → AllByRecursion (AllByRecursion (Off n)) levels
    by-level [] all = tt
    by-level (ts ∷ rest) all = (all-front (Off n) ts (flat_map (λ ts. ts) rest) all, by-level rest (all-back (Off n) ts (flat_map (λ ts. ts) rest) all))

count-none : (n : ℕ) (p : Plain) → count p n ≡ 0 → AllByRecursion (AllByRecursion (Off n)) p.current.levels
count-none n p none =
    let others = flat_map backings (filter (λ w. not (eqb w.num p.current.num)) (distinct (map (λ h. h.version) p.holds))) in
    off-levels n p.current.levels (all-front (λ b. eqb b n ≡ false) (backings p.current) others (none-pass (λ b. eqb b n) (backings p.current ++ others) none))

pub dead-count : (p : Plain) (n : ℕ) → is_dead p n ≡ true → count p n ≡ 0
dead-count p n e =
    let front = and_parts (eqb (count p n) 0 && not (is_owned p n)) (not (is_among n p.taken)) e in
    eqb-true (count p n) 0 (and_parts (eqb (count p n) 0) (not (is_owned p n)) front.0).0

-- at the note that takes it
pub took-gone : (n : ℕ) (p : Plain) (note : Note) → MayStand p note → note.reply ≡ reply.Took n → Fit p → Gone n p
took-gone n p note may said fit =
    let reaps = only-reap p note n may said in
    let first = took p note n may reaps said in
    let dead = first-passes (is_dead p) p.known n first.0 first.1 in
    record {
      low = first-all (λ m. m < p.file) (is_dead p) p.known n first.0 first.1 fit.known;
      of_jobs = dead-free p n dead;
      of_loads = dead-open p n dead;
      unnamed = count-none n p (dead-count p n dead);
    }

-- ---- what the definitions say

pub unnamed-tells : (n : ℕ) (v : Version) → AllByRecursion (AllByRecursion (Off n)) v.levels → IsUnnamed n v
unnamed-tells n v all = by-level v.levels all
  where
    none-of : (ts more : List Table) → AllByRecursion (Off n) ts → list_any (λ b. eqb b n) (map (λ t. t.backing) more) ≡ false → list_any (λ b. eqb b n) (map (λ t. t.backing) (ts ++ more)) ≡ false
    none-of [] more all none = none
    none-of (t ∷ ts) more all none = or_from (eqb t.backing n) _ all.0 (none-of ts more all.1 none)

    by-level : (levels : LevelLists) → AllByRecursion (AllByRecursion (Off n)) levels → list_any (λ b. eqb b n) (map (λ t. t.backing) (flat_map (λ ts. ts) levels)) ≡ false
    by-level [] all = refl
    by-level (ts ∷ rest) all = none-of ts (flat_map (λ ts. ts) rest) all.0 (by-level rest all.1)

-- ---- over a whole history

pub legal-parts : (p : Plain) (front back : List Note) → Legal p (front ++ back) → Legal p front × Legal (after_all p front) back
legal-parts p [] back legal = (tt, legal)
legal-parts p (note ∷ front) back legal =
    let parts = legal-parts (after p note) front back legal.1 in
    ((legal.0, parts.0), parts.1)

pub after-parts : (p : Plain) (front back : List Note) → after_all p (front ++ back) ≡ after_all (after_all p front) back
after-parts p [] back = refl
after-parts p (note ∷ front) back = after-parts (after p note) front back

gone-behind : (n : ℕ) (first_seq first_file : ℕ) (before : List Note) (note : Note) (between : List Note) → Legal (opening first_seq first_file) (before ++ note ∷ between) → note.reply ≡ reply.Took n
    → Gone n (after_all (opening first_seq first_file) (before ++ note ∷ between))
gone-behind n first_seq first_file before note between legal said =
    let p = opening first_seq first_file in
    let parts = legal-parts p before (note ∷ between) legal in
    let fit = fit-all p before parts.0 (fit-first first_seq first_file) in
    subst (Gone n) (sym (after-parts p before (note ∷ between))) (gone-all n (after_all p before) (note ∷ between) parts.1 fit.once (took-gone n (after_all p before) note parts.1.0 said fit))

pub named-no_more : (first_seq first_file : ℕ) (before : List Note) (note : Note) (between later : List Note) (n : ℕ) → Legal (opening first_seq first_file) (before ++ note ∷ between ++ later) → note.reply ≡ reply.Took n
    → IsUnnamed n (after_all (opening first_seq first_file) (before ++ note ∷ between)).current
named-no_more first_seq first_file before note between later n legal said =
    let p = opening first_seq first_file in
    let gone = gone-behind n first_seq first_file before note between (legal-parts p (before ++ note ∷ between) later legal).0 said in
    unnamed-tells n (after_all p (before ++ note ∷ between)).current gone.unnamed

pub added-no_more : (first_seq first_file : ℕ) (before : List Note) (note : Note) (between : List Note) (edit : Note) (later : List Note) (n : ℕ) → Legal (opening first_seq first_file) (before ++ note ∷ between ++ edit ∷ later) → note.reply ≡ reply.Took n
    → AddsNone n edit.edit
added-no_more first_seq first_file before note between edit later n legal said =
    let p = opening first_seq first_file in
    let parts = legal-parts p (before ++ note ∷ between) (edit ∷ later) legal in
    gone-adds n (after_all p (before ++ note ∷ between)) edit parts.1.0 (gone-behind n first_seq first_file before note between parts.0 said)
