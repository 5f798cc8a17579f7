-- The tables of a level have different numbers, which are nobody's.
use Rattle.std.proofs.Common.{◌≡◌, ℕ, zero, suc, ◌+◌, ◌<◌, ◌≤◌, Bool, true, false, cond, not, eqb, ltb, ◌&&◌, List, [], ◌∷◌, ◌++◌, length, map, Option, Some, None, refl, sym, ap, subst, ◌∙◌, inl, inr, ◌⊎◌, arith}
use Rattle.std.proofs.lemmas.Bool.{false≢true, and_parts, and_right, or_cases, or_from, eqb-true, eqb-false, ne_eqb, ltb-true, eq-eqb}
use Rattle.std.specs.List.{list_any, AllByRecursion}
use Rattle.xdb_rangedel.specs.Members.{Has}
use Rattle.xdb_key.specs.Bounds.{Bounds}
use Rattle.xdb_key.specs.Order.{is_upto}
use Rattle.xdb_meta.specs.Table.{Table}
use Rattle.xdb_edit.specs.Changes.{Changes}
use Rattle.xdb_edit.specs.Records.{IsEdit, rank_of, rises, is_before}
use Rattle.xdb_edit.specs.declared.record.Rank.{Rank}
use Rattle.xdb_edit.specs.declared.record.Record.{Record}
use Rattle.xdb_edit.specs.declared.record.Record.TheVariants.{Removed, NewBacking, Added}
use Rattle.xdb_edit.specs.Versions.{LevelLists, no_tables, tables_of, edited}
use Rattle.xdb_plain.specs.Changes.{after, file_after, jobs_after, loads_after, cancelled_by, in_phase, at_phase, load_span, span_of_load}
use Rattle.xdb_plain.specs.Counts.{job_owns, load_owns, job_numbers, is_among}
use Rattle.xdb_plain.specs.Edits.{is_empty, is_flushed, is_part, is_left, is_right, are_halves, crossed, running_hulls, virtual_in, physical_in, halved, Rest, rest, behind, behind_halves}
use Rattle.xdb_plain.specs.Holds.{version_after}
use Rattle.xdb_plain.specs.Legal.{Legal, after_all}
use Rattle.xdb_plain.specs.Outcomes.{Outcome, succeeds, outcome}
use Rattle.xdb_plain.specs.Replies.{may_reply, same_reply, install_replies}
use Rattle.xdb_plain.specs.State.{Plain, Load, is_in, is_open, Job, JobKind, flush_of, compaction_of, opening, found_load, found_job, without_job, same_name}
use Rattle.xdb_plain.specs.Steps.{MayStand, HasEdit, FitsEdit, PutsJob, InstallsLoad}
use Rattle.xdb_plain.specs.declared.act.Act.{Act}
use Rattle.xdb_plain.specs.declared.act.Act.TheVariants as act
use Rattle.xdb_plain.specs.declared.act.By.{By}
use Rattle.xdb_plain.specs.declared.note.Note.{Note}
use Rattle.xdb_plain.specs.declared.reply.Reply.{Reply}
use Rattle.xdb_plain.specs.declared.reply.Reply.TheVariants as reply
use Rattle.xdb_model.proofs.LegalLaws.{over-legal}
use Rattle.xdb_model.proofs.EditedLaws.{levels-all, level-all}
use Rattle.xdb_model.proofs.FileLaws.{JobBelow, LoadBelow, file-later}
use Rattle.xdb_model.proofs.KnownLaws.{Fit, fit-after, fit-first, JobFree, JobsFree, jobs-by, jobs-installed, not-within}
use Rattle.xdb_model.proofs.ListLaws.{all-either, all-from_has, all-has, all-map, all-more, all-unmap, pairs-more, same-or}
use Rattle.xdb_model.proofs.LoadLaws.{AreNamedOnce, LoadFree, LoadsFree, free-by, free-installed}
use Rattle.xdb_model.proofs.BackingLaws.{range-all, installed-open}
use Rattle.xdb_model.proofs.NamedLaws.{within-other, legal-parts, after-parts}
use Rattle.xdb_model.proofs.OwnerLaws.{OwnersFit, owners-by, JobsBeside, LoadsBeside, JobBesideLoad, beside-turned, beside-out, out-of}
use Rattle.xdb_model.proofs.PairLaws.{EachAt, level-pairs, edited-at}
use Rattle.xdb_model.proofs.PartLaws.{loaded-all}
use Rattle.xdb_model.proofs.PlannedLaws.{found-has, others-pairs}
use Rattle.xdb_model.specs.Apart.{Pairwise}
use Rattle.xdb_model.specs.Numbered.{FilesFit, AreDistinct, TablesFit}

-- ---- an edit's numbers rise at each level

abbrev IsLater : ℕ × Table → ℕ × Table → Type 0
IsLater a b = (a.0 < b.0) ⊎ ((a.0 ≡ b.0) × (a.1.num < b.1.num))

later-chain : (a b c : ℕ × Table) → IsLater a b → IsLater b c → IsLater a c
later-chain a b c (inl h) (inl k) = inl (omega arith)
later-chain a b c (inl h) (inr k) = let same = k.0 in inl (omega arith)
later-chain a b c (inr h) (inl k) = let same = h.0 in inl (omega arith)
later-chain a b c (inr h) (inr k) =
    let low = h.1 in
    let high = k.1 in
    inr (h.0 ∙ k.0, omega arith)

abbrev added_record : ℕ × Table → Record
added_record a = Added a.0 a.1

before-tells : (a b : ℕ × Table) → is_before (rank_of (added_record a)) (rank_of (added_record b)) ≡ true → IsLater a b
before-tells a b is = elim (or_cases (ltb a.0 b.0) (eqb a.0 b.0 && ltb a.1.num b.1.num) is) [
  | inl below ↦ inl (ltb-true a.0 b.0 below)
  | inr level ↦ let parts = and_parts (eqb a.0 b.0) (ltb a.1.num b.1.num) level in inr (eqb-true a.0 b.0 parts.0, ltb-true a.1.num b.1.num parts.1)
]

later-all : (a : ℕ × Table) (adds : List (ℕ × Table)) → rises (rank_of (added_record a)) (map added_record adds) ≡ true → AllByRecursion (IsLater a) adds
later-all a [] is = tt
later-all a (b ∷ adds) is =
    let parts = and_parts (is_before (rank_of (added_record a)) (rank_of (added_record b))) (rises (rank_of (added_record b)) (map added_record adds)) is in
    let first = before-tells a b parts.0 in
    (first, all-more (IsLater b) (IsLater a) adds (λ c later. later-chain a b c first later) (later-all b adds parts.1))

later-pairs : (last : Rank) (adds : List (ℕ × Table)) → rises last (map added_record adds) ≡ true → Pairwise IsLater adds
later-pairs last [] is = tt
later-pairs last (a ∷ adds) is =
    let parts = and_parts (is_before last (rank_of (added_record a))) (rises (rank_of (added_record a)) (map added_record adds)) is in
    (later-all a adds parts.1, later-pairs (rank_of (added_record a)) adds parts.1)

rises-behind : (last : Rank) (xs ys : List Record) → rises last (xs ++ ys) ≡ true → (from : Rank) × (rises from ys ≡ true)
rises-behind last [] ys is = (last, is)
rises-behind last (x ∷ xs) ys is = rises-behind (rank_of x) xs ys (and_parts (is_before last (rank_of x)) (rises (rank_of x) (xs ++ ys)) is).1

abbrev pub OtherNum : Table → Table → Type 0
OtherNum t u = eqb t.num u.num ≡ false

pub other-turned : (t u : Table) → OtherNum t u → OtherNum u t
other-turned t u other = ne_eqb u.num t.num (λ e. eqb-false t.num u.num other (sym e))

edit-distinct : (e : Changes) (level : ℕ) → IsEdit e → Pairwise (EachAt OtherNum level) e.added
edit-distinct e level edit =
    let behind = rises-behind _ (map (λ r. Removed r.0 r.1) e.removed ++ map NewBacking e.new_backings) (map added_record e.added) edit.order in
    pairs-more IsLater (EachAt OtherNum level) e.added (λ a b later ha hb. apart a b later (eqb-true a.0 level ha) (eqb-true b.0 level hb)) (later-pairs behind.0 e.added behind.1)
  where
    apart : (a b : ℕ × Table) → IsLater a b → a.0 ≡ level → b.0 ≡ level → OtherNum a.1 b.1
    apart a b (inl h) ha hb = absurd (omega arith)
    apart a b (inr h) ha hb = let low = h.1 in ne_eqb a.1.num b.1.num (λ same. absurd (omega arith))

-- ---- numbers that are nobody's

pub record IsFree (file : ℕ) (jobs : List Job) (loads : List Load) (n : ℕ) : Type 0 where
  pub below : n < file
  pub of_jobs : JobsFree n jobs
  pub of_loads : LoadsFree n loads

abbrev InStretch : ℕ → ℕ → ℕ → Type 0
InStretch first len n = (first ≤ n) × (n < first + len)

-- a number that is nobody's stays so
free-kept : (p : Plain) (by : By) (a : Act) (o : Outcome) (r : Reply) (edit : Option Changes) (n : ℕ) → outcome r ≡ o → list_any (same_reply r) (may_reply p by a) ≡ true → AreNamedOnce p.loads → IsFree p.file p.jobs p.loads n
    → IsFree (file_after p a o edit) (jobs_after p a o) (loads_after p by a o) n
free-kept p by a o r edit n is may once free =
    let low = free.below in
    let later = file-later p a o edit in
    record {
      below = omega arith;
      of_jobs = jobs-by n p a o low free.of_jobs;
      of_loads = free-by n p by a o r is may (λ len. not-within p.file len n low) once free.of_loads;
    }

-- ---- the numbers that a job gives

flush-nums : (first : ℕ) (added : List (ℕ × Table)) → is_flushed first added ≡ true → AllByRecursion (λ a. InStretch first 1 a.1.num) added
flush-nums first [] is = tt
flush-nums first (a ∷ []) is =
    let parts = and_parts (eqb a.0 0) (eqb a.1.num first && not a.1.virt) is in
    let same = eqb-true a.1.num first (and_parts (eqb a.1.num first) (not a.1.virt) parts.1).0 in
    ((omega arith, omega arith), tt)
flush-nums first (a ∷ b ∷ added) is = absurd (false≢true is)

put-nums : (first num : ℕ) (kind : JobKind) (e : Changes) → PutsJob (Some (record { num = num; first = first; kind = kind })) e → AllByRecursion (λ a. InStretch first (job_numbers kind) a.1.num) e.added
put-nums first num (flush_of group) e is = flush-nums first e.added is.added
put-nums first num (compaction_of c) e is =
    let few = is.few in
    let nums : AllByRecursion (InStretch first 64) (map (λ a. a.1.num) e.added) = subst (AllByRecursion (InStretch first 64)) (sym is.numbers) (range-all (InStretch first 64) first (length e.added) (λ i from to. (from, omega arith))) in
    all-unmap (InStretch first 64) (λ a. a.1.num) e.added nums

-- what is added has a number that is nobody's from now on, and that no table has
record Comes (file : ℕ) (jobs : List Job) (loads : List Load) (p : Plain) (n : ℕ) : Type 0 where
  free : IsFree file jobs loads n
  new : (m : ℕ) → IsFree p.file p.jobs p.loads m → eqb n m ≡ false

put-comes : (p : Plain) (job : ℕ) (j : Job) (n : ℕ) → found_job job p.jobs ≡ Some j → FilesFit p → OwnersFit p → InStretch j.first (job_numbers j.kind) n → Comes p.file (without_job job p.jobs) p.loads p n
put-comes p job j n found files owners stretch =
    let has = found-has job p.jobs j found in
    let low = stretch.0 in
    let high = stretch.1 in
    let most : j.first + job_numbers j.kind ≤ p.file = all-has (JobBelow p.file) p.jobs j has files.of_jobs in
    record {
      free = record {
        below = omega arith;
        of_jobs = all-more (JobsBeside j) (JobFree n) (without_job job p.jobs) (λ i beside. beside-out j.first (job_numbers j.kind) i.first (job_numbers i.kind) n beside low high)
            (others-pairs JobsBeside (λ i k beside. beside-turned i.first (job_numbers i.kind) k.first (job_numbers k.kind) beside) job p.jobs j found owners.jobs);
        of_loads = all-more (JobBesideLoad j) (LoadFree n) p.loads (λ l beside. and_right (is_open l) (load_owns n l) (beside-out j.first (job_numbers j.kind) l.first (length l.tables) n beside low high))
            (all-has (λ (i : Job). AllByRecursion (JobBesideLoad i) p.loads) p.jobs j has owners.across);
      };
      new = λ m free. within-other j.first (job_numbers j.kind) m n (all-has (JobFree m) p.jobs j has free.of_jobs) low high;
    }

put-all : (p : Plain) (job : ℕ) (o : Option Job) (e : Changes) → found_job job p.jobs ≡ o → PutsJob o e → FilesFit p → OwnersFit p → AllByRecursion (λ a. Comes p.file (without_job job p.jobs) p.loads p a.1.num) e.added
put-all p job None e found is files owners = absurd is
put-all p job (Some j) e found is files owners =
    all-more (λ a. InStretch j.first (job_numbers j.kind) a.1.num) _ e.added (λ a stretch. put-comes p job j a.1.num found files owners stretch) (put-nums j.first j.num j.kind e is)

-- ---- the numbers of halves

part-num : (num : ℕ) (old new : ℕ × Table) → is_part num old new ≡ true → new.1.num ≡ num
part-num num old new is =
    let size = and_parts _ _ is in
    let synthetic = and_parts _ _ size.0 in
    let hi = and_parts _ _ synthetic.0 in
    let lo = and_parts _ _ hi.0 in
    let seqs = and_parts _ _ lo.0 in
    let backing = and_parts _ _ seqs.0 in
    let virt = and_parts _ _ backing.0 in
    let level = and_parts (eqb new.0 old.0) (eqb new.1.num num) virt.0 in
    eqb-true new.1.num num level.1

behind-nums : (half : ℕ → ℕ × Table → Bool) (num : ℕ) (parts : List (ℕ × Table)) → ((k : ℕ) (x : ℕ × Table) → half k x ≡ true → x.1.num ≡ k)
    → AllByRecursion (λ x. InStretch (behind half (rest num parts)).num (length (behind half (rest num parts)).parts) x.1.num) (behind half (rest num parts)).parts → AllByRecursion (λ x. InStretch num (length parts) x.1.num) parts
behind-nums half num [] is all = tt
behind-nums half num (x ∷ xs) is all = by-test (half num x) (is num x) all
  where
    by-test : (t : Bool) → (t ≡ true → x.1.num ≡ num)
        → AllByRecursion (λ y. InStretch (cond t (rest (num + 1) xs) (rest num (x ∷ xs))).num (length (cond t (rest (num + 1) xs) (rest num (x ∷ xs))).parts) y.1.num) (cond t (rest (num + 1) xs) (rest num (x ∷ xs))).parts
        → AllByRecursion (λ y. InStretch num (length (x ∷ xs)) y.1.num) (x ∷ xs)
    by-test true is all =
        let here = is refl in
        ((omega arith, omega arith), all-more (λ y. InStretch (num + 1) (length xs) y.1.num) _ xs (λ y s. let low = s.0 in let high = s.1 in (omega arith, omega arith)) all)
    by-test false is all = all

halves-nums : (span : Bounds) (olds : List (ℕ × Table)) (r : Rest) → is_empty (behind_halves span olds r).parts ≡ true → AllByRecursion (λ x. InStretch r.num (length r.parts) x.1.num) r.parts
halves-nums span [] r none = empty r.parts none
  where
    empty : (xs : List (ℕ × Table)) → is_empty xs ≡ true → AllByRecursion (λ x. InStretch r.num (length r.parts) x.1.num) xs
    empty [] none = tt
    empty (x ∷ xs) none = absurd (false≢true none)
halves-nums span (old ∷ olds) r none =
    let left = behind (λ k. is_left span k old) r in
    let right = behind (λ k. is_right span k old) left in
    let later : AllByRecursion (λ x. InStretch right.num (length right.parts) x.1.num) right.parts = halves-nums span olds right none in
    let lefts : AllByRecursion (λ x. InStretch left.num (length left.parts) x.1.num) left.parts =
    behind-nums (λ k. is_right span k old) left.num left.parts (λ k x is. part-num k old x (and_parts (is_part k old x) (is_upto span.hi x.1.lo) is).0) later in
    behind-nums (λ k. is_left span k old) r.num r.parts (λ k x is. part-num k old x (and_parts (is_part k old x) (is_upto x.1.hi span.lo) is).0) lefts

half-nums : (file : ℕ) (span : Option Bounds) (olds parts : List (ℕ × Table)) → are_halves file span olds parts ≡ true → AllByRecursion (λ x. InStretch file (length parts) x.1.num) parts
half-nums file None olds [] none = tt
half-nums file None olds (x ∷ xs) none = absurd (false≢true none)
half-nums file (Some span) olds parts halves = halves-nums span olds (rest file parts) halves

half-comes : (p : Plain) (load : List ℕ) (span : Option Bounds) (len n : ℕ) → FilesFit p → InStretch p.file len n → Comes (p.file + len) (cancelled_by load span p.jobs) (in_phase load is_in p.loads) p n
half-comes p load span len n files stretch =
    let low = stretch.0 in
    record {
      free = record {
        below = stretch.1;
        of_jobs = jobs-installed n load span p.jobs (all-more (JobBelow p.file) (JobFree n) p.jobs (λ j below. out-of j.first (job_numbers j.kind) n (inr (omega arith))) files.of_jobs);
        of_loads = free-installed n load p.loads (all-more (LoadBelow p.file) (LoadFree n) p.loads (λ l below. and_right (is_open l) (load_owns n l) (out-of l.first (length l.tables) n (inr (omega arith)))) files.of_loads);
      };
      new = λ m free. let under = free.below in ne_eqb n m (λ same. absurd (omega arith));
    }

-- ---- the numbers of a load's own tables

load-first : (test : Load → Bool) (x l : Load) (others : Option Load) (xs : List Load) (t : Bool) → test x ≡ t → cond t (Some x) others ≡ Some l → (others ≡ Some l → Has xs l × (test l ≡ true)) → Has (x ∷ xs) l × (test l ≡ true)
load-first test x l others xs true is e more = let same : x ≡ l = cc in (inl same, subst (λ y. test y ≡ true) same is)
load-first test x l others xs false is e more = (inr (more e).0, (more e).1)

load-found : (load : List ℕ) (loads : List Load) (l : Load) → found_load load loads ≡ Some l → Has loads l × (same_name l.name load ≡ true)
load-found load [] l e = absurd (cc)
load-found load (x ∷ loads) l e = load-first (λ y. same_name y.name load) x l (found_load load loads) loads (same_name x.name load) refl e (λ f. load-found load loads l f)

closed : (n : ℕ) (l : Load) (t : Bool) → t ≡ true → LoadFree n (record l { phase = cond t is_in l.phase })
closed n l true is = refl
closed n l false is = absurd (false≢true is)

own-comes : (p : Plain) (load : List ℕ) (span : Option Bounds) (l : Load) (len n : ℕ) → found_load load p.loads ≡ Some l → is_open l ≡ true → FilesFit p → OwnersFit p → InStretch l.first (length l.tables) n
    → Comes (p.file + len) (cancelled_by load span p.jobs) (in_phase load is_in p.loads) p n
own-comes p load span l len n found op files owners stretch =
    let has = load-found load p.loads l found in
    let low = stretch.0 in
    let high = stretch.1 in
    let most : l.first + length l.tables ≤ p.file = all-has (LoadBelow p.file) p.loads l has.0 files.of_loads in
    record {
      free = record {
        below = omega arith;
        of_jobs = jobs-installed n load span p.jobs
            (all-more (λ j. AllByRecursion (JobBesideLoad j) p.loads) (JobFree n) p.jobs
            (λ j each. beside-out l.first (length l.tables) j.first (job_numbers j.kind) n (beside-turned j.first (job_numbers j.kind) l.first (length l.tables) (all-has (JobBesideLoad j) p.loads l has.0 each)) low high) owners.across);
        of_loads = all-map (LoadFree n) (at_phase load is_in) p.loads
            (all-from_has _ p.loads (λ x hx. elim (same-or LoadsBeside (λ a b beside. beside-turned a.first (length a.tables) b.first (length b.tables) beside) p.loads l x owners.loads has.0 hx) [
              | inl same ↦ closed n x (same_name x.name load) (subst (λ y. same_name y.name load ≡ true) same has.1)
              | inr beside ↦ and_right (is_open (at_phase load is_in x)) (load_owns n x) (beside-out l.first (length l.tables) x.first (length x.tables) n beside low high)
            ]));
      };
      new = λ m free. within-other l.first (length l.tables) m n (sym (ap (λ b. b && load_owns m l) op) ∙ all-has (LoadFree m) p.loads l has.0 free.of_loads) low high;
    }

install-all : (p : Plain) (load : List ℕ) (o : Option Load) (e : Changes) → found_load load p.loads ≡ o → InstallsLoad p o e → list_any (same_reply reply.Installed) (install_replies p o) ≡ true → FilesFit p → OwnersFit p
    → AllByRecursion (λ a. Comes (p.file + length (virtual_in e)) (cancelled_by load (load_span o) p.jobs) (in_phase load is_in p.loads) p a.1.num) e.added
install-all p load None e found is may files owners = absurd is
install-all p load (Some l) e found is may files owners =
    let op = installed-open p l.name l.by l.tables l.span l.first l.phase may in
    all-either _ (λ a. a.1.virt) e.added
    (all-more (λ a. InStretch p.file (length (virtual_in e)) a.1.num) _ (virtual_in e) (λ a stretch. half-comes p load l.span (length (virtual_in e)) a.1.num files stretch) (half-nums p.file l.span (crossed p.current.levels l.span) (virtual_in e) is.halves))
    (loaded-all _ (halved p.current.levels e) (running_hulls p.jobs) l.first p.next l.tables (physical_in e) is.loaded is.no_more
    (λ k t a from to has stands. let same = stands.same_num in own-comes p load l.span l (length (virtual_in e)) a.1.num found op files owners (omega arith, omega arith)))

-- ---- over a whole history

pub record Numbers (p : Plain) : Type 0 where
  pub fit : Fit p
  pub owners : OwnersFit p
  pub free : AllByRecursion (AllByRecursion (λ t. IsFree p.file p.jobs p.loads t.num)) p.current.levels
  pub distinct : (level : ℕ) → Pairwise OtherNum (tables_of p.current.levels level)

pub level-has : (P : Table → Type 0) (levels : LevelLists) (level : ℕ) (t : Table) → Has (tables_of levels level) t → AllByRecursion (AllByRecursion P) levels → P t
level-has P [] level t has all = absurd has
level-has P (ts ∷ levels) zero t has all = all-has P ts t has all.0
level-has P (ts ∷ levels) (suc level) t has all = level-has P levels level t has all.1

record Stay (file : ℕ) (jobs : List Job) (loads : List Load) (levels : LevelLists) : Type 0 where
  free : AllByRecursion (AllByRecursion (λ t. IsFree file jobs loads t.num)) levels
  distinct : (level : ℕ) → Pairwise OtherNum (tables_of levels level)

-- with an edit whose numbers come so
edit-stays : (p : Plain) (e : Changes) (file : ℕ) (jobs : List Job) (loads : List Load) → IsEdit e → AllByRecursion (λ a. Comes file jobs loads p a.1.num) e.added → ((n : ℕ) → IsFree p.file p.jobs p.loads n → IsFree file jobs loads n) → Numbers p
    → Stay file jobs loads (edited p.current.levels e)
edit-stays p e file jobs loads edit comes kept numbers = record {
  free = levels-all (λ t. IsFree file jobs loads t.num) 0 e p.current.levels (all-more (λ a. Comes file jobs loads p a.1.num) _ e.added (λ a c. c.free) comes)
      (all-more (AllByRecursion (λ (t : Table). IsFree p.file p.jobs p.loads t.num)) _ p.current.levels (λ ts all. all-more (λ (t : Table). IsFree p.file p.jobs p.loads t.num) _ ts (λ t free. kept t.num free) all) numbers.free);
  distinct = λ level. edited-at (Pairwise OtherNum) e p.current.levels 0 level level (omega arith) tt
      (level-pairs OtherNum other-turned e level (tables_of p.current.levels level)
      (record {
        pairs = edit-distinct e level edit;
        across = all-more (λ a. Comes file jobs loads p a.1.num) _ e.added (λ a c here t has stays. c.new t.num (level-has (λ u. IsFree p.file p.jobs p.loads u.num) p.current.levels level t has numbers.free)) comes;
      })
      (numbers.distinct level));
}

stays-edit : (p : Plain) (by : By) (a : Act) (o : Option Changes) → HasEdit p a o → list_any (same_reply reply.Installed) (may_reply p by a) ≡ true → Numbers p → Stay (file_after p a succeeds o) (jobs_after p a succeeds) (loads_after p by a succeeds) (version_after p.current o).levels
stays-edit p by a None has may numbers = absurd has
stays-edit p by (act.Put job) (Some e) has may numbers =
    edit-stays p e p.file (without_job job p.jobs) p.loads has.0 (put-all p job (found_job job p.jobs) e refl has.1 numbers.fit.files numbers.owners)
    (λ n free. free-kept p by (act.Put job) succeeds reply.Installed (Some e) n refl may numbers.fit.once free) numbers
stays-edit p by (act.Install load) (Some e) has may numbers =
    edit-stays p e (p.file + length (virtual_in e)) (cancelled_by load (span_of_load p load) p.jobs) (in_phase load is_in p.loads) has.0 (install-all p load (found_load load p.loads) e refl has.1 may numbers.fit.files numbers.owners)
    (λ n free. free-kept p by (act.Install load) succeeds reply.Installed (Some e) n refl may numbers.fit.once free) numbers
stays-edit p by _ (Some e) has may numbers = absurd has.1

without-edit : (p : Plain) (by : By) (a : Act) (o : Outcome) (r : Reply) → outcome r ≡ o → list_any (same_reply r) (may_reply p by a) ≡ true → Numbers p → Stay (file_after p a o None) (jobs_after p a o) (loads_after p by a o) p.current.levels
without-edit p by a o r is may numbers = record {
  free = all-more (AllByRecursion (λ (t : Table). IsFree p.file p.jobs p.loads t.num)) _ p.current.levels
      (λ ts all. all-more (λ (t : Table). IsFree p.file p.jobs p.loads t.num) _ ts (λ t free. free-kept p by a o r None t.num is may numbers.fit.once free) all) numbers.free;
  distinct = numbers.distinct;
}

stays-by : (p : Plain) (by : By) (a : Act) (r q : Reply) (edit : Option Changes) → r ≡ q → FitsEdit p a q edit → list_any (same_reply r) (may_reply p by a) ≡ true → Numbers p → Stay (file_after p a (outcome r) edit) (jobs_after p a (outcome r)) (loads_after p by a (outcome r)) (version_after p.current edit).levels
stays-by p by a r reply.Installed edit is fits may numbers =
    subst (λ x. Stay (file_after p a (outcome x) edit) (jobs_after p a (outcome x)) (loads_after p by a (outcome x)) (version_after p.current edit).levels) (sym is)
    (stays-edit p by a edit fits (subst (λ x. list_any (same_reply x) (may_reply p by a) ≡ true) is may) numbers)
stays-by p by a r _ edit is fits may numbers =
    subst (λ (x : Option Changes). Stay (file_after p a (outcome r) x) (jobs_after p a (outcome r)) (loads_after p by a (outcome r)) (version_after p.current x).levels) (sym fits) (without-edit p by a (outcome r) r refl may numbers)

pub numbers-after : (p : Plain) (note : Note) → MayStand p note → Numbers p → Numbers (after p note)
numbers-after p note may numbers =
    let owners = owners-by p note.by note.act (outcome note.reply) numbers.fit.files numbers.owners in
    let stay = stays-by p note.by note.act note.reply note.reply note.edit refl may.edit may.reply numbers in
    record {
      fit = fit-after p note may numbers.fit;
      owners = record { jobs = owners.jobs; loads = owners.loads; across = owners.across };
      free = stay.free;
      distinct = stay.distinct;
    }

none-twice : (levels : LevelLists) (level : ℕ) → AllByRecursion (Pairwise OtherNum) levels → Pairwise OtherNum (tables_of levels level)
none-twice [] level all = tt
none-twice (ts ∷ levels) zero all = all.0
none-twice (ts ∷ levels) (suc level) all = none-twice levels level all.1

pub numbers-first : (first_seq first_file : ℕ) → Numbers (opening first_seq first_file)
numbers-first first_seq first_file = record {
  fit = fit-first first_seq first_file;
  owners = record { jobs = tt; loads = tt; across = tt };
  free = (tt, (tt, (tt, (tt, (tt, (tt, (tt, tt)))))));
  distinct = λ level. none-twice no_tables level (tt, (tt, (tt, (tt, (tt, (tt, (tt, tt)))))));
}

pub numbers-all : (p : Plain) (notes : List Note) → Legal p notes → Numbers p → Numbers (after_all p notes)
numbers-all p notes legal numbers = over-legal Numbers numbers-after p notes legal numbers

-- ---- what the definitions say

no-other : (t : Table) (ts : List Table) → AllByRecursion (OtherNum t) ts → is_among t.num (map (λ u. u.num) ts) ≡ false
no-other t [] all = refl
no-other t (u ∷ ts) all = or_from (eqb u.num t.num) (is_among t.num (map (λ v. v.num) ts)) (other-turned t u all.0) (no-other t ts all.1)

distinct-tells : (ts : List Table) → Pairwise OtherNum ts → AreDistinct (map (λ t. t.num) ts)
distinct-tells [] pairs = tt
distinct-tells (t ∷ ts) pairs = (no-other t ts pairs.0, distinct-tells ts pairs.1)

distinct-all : (levels : LevelLists) → ((level : ℕ) → Pairwise OtherNum (tables_of levels level)) → AllByRecursion (λ ts. AreDistinct (map (λ t. t.num) ts)) levels
distinct-all [] distinct = tt
distinct-all (ts ∷ levels) distinct = (distinct-tells ts (distinct 0), distinct-all levels (λ level. distinct (suc level)))

pub tables-fit : (first_seq first_file : ℕ) (notes : List Note) → Legal (opening first_seq first_file) notes → TablesFit (after_all (opening first_seq first_file) notes)
tables-fit first_seq first_file notes legal =
    let p = after_all (opening first_seq first_file) notes in
    let numbers = numbers-all (opening first_seq first_file) notes legal (numbers-first first_seq first_file) in
    let each : (Q : ℕ → Type 0) → ((n : ℕ) → IsFree p.file p.jobs p.loads n → Q n) → AllByRecursion (AllByRecursion (λ (t : Table). Q t.num)) p.current.levels =
    λ Q is. all-more (AllByRecursion (λ (t : Table). IsFree p.file p.jobs p.loads t.num)) _ p.current.levels (λ ts all. all-more (λ (t : Table). IsFree p.file p.jobs p.loads t.num) _ ts (λ t free. is t.num free) all) numbers.free in
    record {
      distinct = distinct-all p.current.levels numbers.distinct;
      below = each (λ n. n < p.file) (λ n free. free.below);
      of_jobs = each (λ n. AllByRecursion (λ j. job_owns n j ≡ false) p.jobs) (λ n free. free.of_jobs);
      of_loads = each (λ n. AllByRecursion (λ l. (is_open l && load_owns n l) ≡ false) p.loads) (λ n free. free.of_loads);
    }

-- ---- a number is always that of one table

-- what is added has a number that no table has had
new-by : (p : Plain) (by : By) (a : Act) (e : Changes) → HasEdit p a (Some e) → list_any (same_reply reply.Installed) (may_reply p by a) ≡ true → Numbers p → AllByRecursion (λ x. (m : ℕ) → IsFree p.file p.jobs p.loads m → eqb x.1.num m ≡ false) e.added
new-by p by (act.Put job) e has may numbers = all-more _ _ e.added (λ x c. c.new) (put-all p job (found_job job p.jobs) e refl has.1 numbers.fit.files numbers.owners)
new-by p by (act.Install load) e has may numbers = all-more _ _ e.added (λ x c. c.new) (install-all p load (found_load load p.loads) e refl has.1 may numbers.fit.files numbers.owners)
new-by p by _ e has may numbers = absurd has.1

-- no other table of the level has its number
abbrev Only : Table → List Table → Type 0
Only t ts = AllByRecursion (λ u. eqb u.num t.num ≡ true → t ≡ u) ts

only-edit : (p : Plain) (by : By) (a : Act) (o : Option Changes) (level : ℕ) (t : Table) → HasEdit p a o → list_any (same_reply reply.Installed) (may_reply p by a) ≡ true → Numbers p → IsFree p.file p.jobs p.loads t.num → Only t (tables_of p.current.levels level)
    → Only t (tables_of (version_after p.current o).levels level)
only-edit p by a None level t has may numbers free only = absurd has
only-edit p by a (Some e) level t has may numbers free only =
    edited-at (Only t) e p.current.levels 0 level level (omega arith) tt
    (level-all (λ u. eqb u.num t.num ≡ true → t ≡ u) e level (tables_of p.current.levels level)
    (all-more _ _ e.added (λ x new here same. absurd (false≢true (sym (new t.num free) ∙ same))) (new-by p by a e has may numbers))
    (λ u hu stays. all-has (λ w. eqb w.num t.num ≡ true → t ≡ w) (tables_of p.current.levels level) u hu only))

only-by : (p : Plain) (by : By) (a : Act) (r : Reply) (o : Option Changes) (level : ℕ) (t : Table) → FitsEdit p a r o → list_any (same_reply r) (may_reply p by a) ≡ true → Numbers p → IsFree p.file p.jobs p.loads t.num → Only t (tables_of p.current.levels level)
    → Only t (tables_of (version_after p.current o).levels level)
only-by p by a reply.Installed o level t fits may numbers free only = only-edit p by a o level t fits may numbers free only
only-by p by a _ o level t fits may numbers free only = subst (λ (x : Option Changes). Only t (tables_of (version_after p.current x).levels level)) (sym fits) only

only-all : (p : Plain) (notes : List Note) (level : ℕ) (t : Table) → Legal p notes → Numbers p → IsFree p.file p.jobs p.loads t.num → Only t (tables_of p.current.levels level) → Only t (tables_of (after_all p notes).current.levels level)
only-all p [] level t legal numbers free only = only
only-all p (note ∷ notes) level t legal numbers free only =
    only-all (after p note) notes level t legal.1 (numbers-after p note legal.0 numbers)
    (free-kept p note.by note.act (outcome note.reply) note.reply note.edit t.num refl legal.0.reply numbers.fit.once free)
    (only-by p note.by note.act note.reply note.edit level t legal.0.edit legal.0.reply numbers free only)

only-now : (ts : List Table) (t : Table) → Pairwise OtherNum ts → Has ts t → Only t ts
only-now ts t distinct has = all-from_has (λ u. eqb u.num t.num ≡ true → t ≡ u) ts (λ u hu same. elim (same-or OtherNum other-turned ts t u distinct has hu) [
  | inl is ↦ is
  | inr other ↦ absurd (false≢true (sym (other-turned t u other) ∙ same))
])

pub same-table : (first_seq first_file : ℕ) (before between : List Note) (level : ℕ) (t u : Table) → Legal (opening first_seq first_file) (before ++ between) → Has (tables_of (after_all (opening first_seq first_file) before).current.levels level) t
    → Has (tables_of (after_all (opening first_seq first_file) (before ++ between)).current.levels level) u → t.num ≡ u.num → t ≡ u
same-table first_seq first_file before between level t u legal ht hu same =
    let start = opening first_seq first_file in
    let p = after_all start before in
    let parts = legal-parts start before between legal in
    let numbers = numbers-all start before parts.0 (numbers-first first_seq first_file) in
    let free = level-has (λ w. IsFree p.file p.jobs p.loads w.num) p.current.levels level t ht numbers.free in
    let only = only-all p between level t parts.1 numbers free (only-now (tables_of p.current.levels level) t (numbers.distinct level) ht) in
    all-has (λ w. eqb w.num t.num ≡ true → t ≡ w) (tables_of (after_all p between).current.levels level) u
    (subst (λ (q : Plain). Has (tables_of q.current.levels level) u) (after-parts start before between) hu) only (eq-eqb u.num t.num (sym same))
