-- Whatever holds of the file numbers that jobs and loads have, holds of the files that are made or tried, and of those
-- that tables stand on.
use Rattle.std.proofs.Common.{◌≡◌, ℕ, zero, suc, ◌+◌, ◌<◌, ◌≤◌, Bool, true, false, cond, not, eqb, leb, ltb, ◌&&◌, List, [], ◌∷◌, ◌++◌, length, Option, Some, None, refl, sym, subst, ◌∙◌, inl, inr, arith}
use Rattle.std.proofs.lemmas.Bool.{false≢true, and_parts, not-true, cases_Bool, eqb-true, leb-true, leb-false, ltb-true}
use Rattle.std.specs.List.{list_any, list_all, range_with_len, AllByRecursion}
use Rattle.xdb_key.specs.Bounds.{Bounds, covers}
use Rattle.xdb_meta.specs.Table.{Table, IsTable, bounds_of}
use Rattle.xdb_edit.specs.Changes.{Changes}
use Rattle.xdb_edit.specs.Versions.{LevelLists, tables_of}
use Rattle.xdb_plain.specs.Changes.{new_files, known_after}
use Rattle.xdb_plain.specs.Counts.{with_number, with_numbers, is_within, job_numbers}
use Rattle.xdb_plain.specs.Edits.{IsInstallOf, is_flushed, is_output, are_halves, crossed, running_hulls, virtual_in, physical_in, halved, rest}
use Rattle.xdb_plain.specs.Outcomes.{Outcome, fails, cancels, outcome}
use Rattle.xdb_plain.specs.Replies.{may_reply, same_reply, install_replies}
use Rattle.xdb_plain.specs.State.{Plain, Load, Phase, being_opened, waiting, is_in, is_open, Job, JobKind, flush_of, compaction_of, Compaction, found_load, found_job, same_name}
use Rattle.xdb_plain.specs.Steps.{MayStand, HasEdit, FitsEdit, PutsJob, InstallsLoad, FitsTried, FitsJobTried, FitsLoadTried, are_rising_numbers}
use Rattle.xdb_plain.specs.Tables.{TableOps}
use Rattle.xdb_plain.specs.declared.act.Act.{Act}
use Rattle.xdb_plain.specs.declared.act.Act.TheVariants as act
use Rattle.xdb_plain.specs.declared.act.By.{By}
use Rattle.xdb_plain.specs.declared.note.Note.{Note}
use Rattle.xdb_plain.specs.declared.reply.Reply.{Reply}
use Rattle.xdb_plain.specs.declared.reply.Reply.TheVariants as reply
use Rattle.xdb_model.proofs.CauseLaws.{load_of}
use Rattle.xdb_model.proofs.ListLaws.{all-append, all-both, all-either, all-more, all-unmap, found-all}
use Rattle.xdb_model.proofs.PartLaws.{crossed-all, halves-all, part-tells, loaded-all, empty-all}

-- ---- stretches of numbers

pub range-all : (P : ℕ → Type 0) (first len : ℕ) → ((i : ℕ) → first ≤ i → i < first + len → P i) → AllByRecursion P (range_with_len first len)
range-all P first zero is = tt
range-all P first (suc len) is = (is first (omega arith) (omega arith), range-all P (first + 1) len (λ i from to. is i (omega arith) (omega arith)))

pub range-at : (P : ℕ → Type 0) (first len n : ℕ) → AllByRecursion P (range_with_len first len) → first ≤ n → n < first + len → P n
range-at P first zero n all low high = absurd (omega arith)
range-at P first (suc len) n all low high = elim (cases_Bool (leb n first)) [
  | inl upto ↦
      let most = leb-true n first upto in
      let same : first ≡ n = omega arith in
      subst P same all.0
  | inr behind ↦
      let above = leb-false n first behind in
      range-at P (first + 1) len n all.1 (omega arith) (omega arith)
]

range-front : (P : ℕ → Type 0) (first few many : ℕ) → few ≤ many → AllByRecursion P (range_with_len first many) → AllByRecursion P (range_with_len first few)
range-front P first few many le all = range-all P first few (λ i from to. range-at P first many i all from (omega arith))

within-all : (P : ℕ → Type 0) (first len : ℕ) (ns : List ℕ) → AllByRecursion P (range_with_len first len) → list_all (is_within first len) ns ≡ true → AllByRecursion P ns
within-all P first len [] all inside = tt
within-all P first len (n ∷ ns) all inside =
    let parts = and_parts (is_within first len n) (list_all (is_within first len) ns) inside in
    let ends = and_parts (leb first n) (ltb n (first + len)) parts.0 in
    (range-at P first len n all (leb-true first n ends.0) (ltb-true n (first + len) ends.1), within-all P first len ns all parts.1)

-- ---- numbers that are put among others

all-put : (P : ℕ → Type 0) (n m : ℕ) (ms : List ℕ) (below same : Bool) → P n → P m → AllByRecursion P ms → AllByRecursion P (with_number n ms) → AllByRecursion P (cond below (n ∷ m ∷ ms) (cond same (m ∷ ms) (m ∷ with_number n ms)))
all-put P n m ms true same is first all more = (is, (first, all))
all-put P n m ms false true is first all more = (first, all)
all-put P n m ms false false is first all more = (first, more)

all-with : (P : ℕ → Type 0) (n : ℕ) (ms : List ℕ) → P n → AllByRecursion P ms → AllByRecursion P (with_number n ms)
all-with P n [] is all = (is, tt)
all-with P n (m ∷ ms) is all = all-put P n m ms (ltb n m) (eqb n m) is all.0 all.1 (all-with P n ms is all.1)

all-with_all : (P : ℕ → Type 0) (ns ms : List ℕ) → AllByRecursion P ns → AllByRecursion P ms → AllByRecursion P (with_numbers ns ms)
all-with_all P [] ms more all = all
all-with_all P (n ∷ ns) ms more all = all-with_all P ns (with_number n ms) more.1 (all-with P n ms more.0 all)

-- ---- the numbers that jobs and loads have

abbrev pub JobHas : (ℕ → Type 0) → Job → Type 0
JobHas P j = AllByRecursion P (range_with_len j.first (job_numbers j.kind))

abbrev pub LoadHas : (ℕ → Type 0) → Load → Type 0
LoadHas P l = AllByRecursion P (range_with_len l.first (length l.tables))

abbrev pub OpenHas : (ℕ → Type 0) → Load → Type 0
OpenHas P l = is_open l ≡ true → LoadHas P l

pub installed-open : (p : Plain) (name : List ℕ) (by : By) (tables : List TableOps) (span : Option Bounds) (first : ℕ) (phase : Phase) → list_any (same_reply reply.Installed) (install_replies p (Some (load_of name by tables span first phase))) ≡ true → is_open (load_of name by tables span first phase) ≡ true
installed-open p name by tables span first being_opened e = absurd (false≢true e)
installed-open p name by tables span first waiting e = refl
installed-open p name by tables span first is_in e = absurd (false≢true e)

-- ---- an edit's new files

put-files : (P : ℕ → Type 0) (o : Option Job) (e : Changes) → PutsJob o e → ((j : Job) → o ≡ Some j → JobHas P j) → AllByRecursion P e.new_backings
put-files P None e is all = absurd is
put-files P (Some j) e is all = by-kind j.first j.num j.kind is (all j refl)
  where
    by-kind : (first num : ℕ) (kind : JobKind) → PutsJob (Some (record { num = num; first = first; kind = kind })) e → AllByRecursion P (range_with_len first (job_numbers kind)) → AllByRecursion P e.new_backings
    by-kind first num (flush_of group) is all = subst (AllByRecursion P) (sym is.new_backings) all
    by-kind first num (compaction_of c) is all = subst (AllByRecursion P) (sym is.new_backings) (range-front P first (length e.added) 64 is.few all)

install-files : (P : ℕ → Type 0) (p : Plain) (o : Option Load) (e : Changes) → InstallsLoad p o e → list_any (same_reply reply.Installed) (install_replies p o) ≡ true → ((l : Load) → o ≡ Some l → OpenHas P l) → AllByRecursion P e.new_backings
install-files P p None e is may all = absurd is
install-files P p (Some l) e is may all =
    subst (AllByRecursion P) (sym is.new_backings) (all l refl (installed-open p l.name l.by l.tables l.span l.first l.phase may))

edit-files : (P : ℕ → Type 0) (p : Plain) (by : By) (a : Act) (o : Option Changes) → AllByRecursion (JobHas P) p.jobs → AllByRecursion (OpenHas P) p.loads → HasEdit p a o → list_any (same_reply reply.Installed) (may_reply p by a) ≡ true → AllByRecursion P (new_files o)
edit-files P p by a None jobs loads has may = absurd has
edit-files P p by (act.Put job) (Some e) jobs loads has may =
    put-files P (found_job job p.jobs) e has.1 (λ j found. found-all (JobHas P) (λ (x : Job). eqb x.num job) p.jobs j found jobs)
edit-files P p by (act.Install load) (Some e) jobs loads has may =
    install-files P p (found_load load p.loads) e has.1 may (λ l found. found-all (OpenHas P) (λ (x : Load). same_name x.name load) p.loads l found loads)
edit-files P p by _ (Some e) jobs loads has may = absurd has.1

pub files-by : (P : ℕ → Type 0) (p : Plain) (by : By) (a : Act) (r : Reply) (o : Option Changes) → AllByRecursion (JobHas P) p.jobs → AllByRecursion (OpenHas P) p.loads → FitsEdit p a r o → list_any (same_reply r) (may_reply p by a) ≡ true → AllByRecursion P (new_files o)
files-by P p by a reply.Installed o jobs loads fits may = edit-files P p by a o jobs loads fits may
files-by P p by a _ o jobs loads fits may = subst (λ (x : Option Changes). AllByRecursion P (new_files x)) (sym fits) tt

-- ---- the tried numbers

job-tried : (P : ℕ → Type 0) (o : Option Job) (tried : List ℕ) → FitsJobTried o tried → ((j : Job) → o ≡ Some j → JobHas P j) → AllByRecursion P tried
job-tried P None tried fits all = subst (AllByRecursion P) (sym fits) tt
job-tried P (Some j) tried fits all =
    within-all P j.first (job_numbers j.kind) tried (all j refl) (and_parts (are_rising_numbers tried) (list_all (is_within j.first (job_numbers j.kind)) tried) fits).1

load-tried : (P : ℕ → Type 0) (o : Option Load) (tried : List ℕ) → FitsLoadTried o tried → ((l : Load) → o ≡ Some l → LoadHas P l) → AllByRecursion P tried
load-tried P None tried fits all = subst (AllByRecursion P) (sym fits) tt
load-tried P (Some l) tried fits all =
    within-all P l.first (length l.tables) tried (all l refl) (and_parts (are_rising_numbers tried) (list_all (is_within l.first (length l.tables)) tried) fits).1

pub tried-by : (P : ℕ → Type 0) (p : Plain) (a : Act) (o : Outcome) (tried : List ℕ) → AllByRecursion (JobHas P) p.jobs → AllByRecursion (LoadHas P) p.loads → FitsTried p a o tried → AllByRecursion P tried
tried-by P p (act.Build job) fails tried jobs loads fits =
    job-tried P (found_job job p.jobs) tried fits (λ j found. found-all (JobHas P) (λ (x : Job). eqb x.num job) p.jobs j found jobs)
tried-by P p (act.Put job) cancels tried jobs loads fits =
    job-tried P (found_job job p.jobs) tried fits (λ j found. found-all (JobHas P) (λ (x : Job). eqb x.num job) p.jobs j found jobs)
tried-by P p (act.LoadOpen load tables span) fails tried jobs loads fits =
    load-tried P (found_load load p.loads) tried fits (λ l found. found-all (LoadHas P) (λ (x : Load). same_name x.name load) p.loads l found loads)
tried-by P p _ _ tried jobs loads fits = subst (AllByRecursion P) (sym fits) tt

-- ---- the numbers that are known then

pub known-all : (P : ℕ → Type 0) (p : Plain) (note : Note) → MayStand p note → AllByRecursion (JobHas P) p.jobs → AllByRecursion (LoadHas P) p.loads → AllByRecursion P p.known → AllByRecursion P (known_after p note)
known-all P p note may jobs loads all =
    let made = files-by P p note.by note.act note.reply note.edit jobs (all-more (LoadHas P) (OpenHas P) p.loads (λ l has is. has) loads) may.edit may.reply in
    let tried = tried-by P p note.act (outcome note.reply) note.tried jobs loads may.tried in
    all-with_all P (new_files note.edit ++ note.tried) p.known (all-append P (new_files note.edit) note.tried made tried) all

-- ---- the files that tables stand on

abbrev pub StandsOn : (ℕ → Type 0) → Table → Type 0
StandsOn P t = P t.backing

abbrev pub AllStandOn : (ℕ → Type 0) → LevelLists → Type 0
AllStandOn P levels = AllByRecursion (AllByRecursion (StandsOn P)) levels

not-false : (b : Bool) → not b ≡ false → b ≡ true
not-false true h = refl
not-false false h = absurd (false≢true (sym h))

own-file : (t : Table) → IsTable t → t.virt ≡ false → t.backing ≡ t.num
own-file t is own = eqb-true t.backing t.num (not-false (eqb t.backing t.num) (sym is.virt ∙ own))

-- a table in a file of its own
own-on : (P : ℕ → Type 0) (t : Table) → IsTable t → t.virt ≡ false → P t.num → StandsOn P t
own-on P t is own num = subst P (sym (own-file t is own)) num

flush-on : (P : ℕ → Type 0) (first : ℕ) (added : List (ℕ × Table)) → is_flushed first added ≡ true → P first → AllByRecursion (λ a. IsTable a.1) added → AllByRecursion (λ a. StandsOn P a.1) added
flush-on P first [] is new tables = tt
flush-on P first (a ∷ []) is new tables =
    let parts = and_parts (eqb a.0 0) (eqb a.1.num first && not a.1.virt) is in
    let own = and_parts (eqb a.1.num first) (not a.1.virt) parts.1 in
    (own-on P a.1 tables.0 (not-true a.1.virt own.1) (subst P (sym (eqb-true a.1.num first own.0)) new), tt)
flush-on P first (a ∷ b ∷ others) is new tables = absurd (false≢true is)

outputs-on : (P : ℕ → Type 0) (c : Compaction) (added : List (ℕ × Table)) → list_all (is_output c) added ≡ true → AllByRecursion (λ a. P a.1.num) added → AllByRecursion (λ a. IsTable a.1) added → AllByRecursion (λ a. StandsOn P a.1) added
outputs-on P c [] outputs nums tables = tt
outputs-on P c (a ∷ added) outputs nums tables =
    let parts = and_parts (is_output c a) (list_all (is_output c) added) outputs in
    let inside = and_parts (eqb a.0 (c.level + 1) && not a.1.virt) (covers c.hull (bounds_of a.1)) parts.0 in
    let own = and_parts (eqb a.0 (c.level + 1)) (not a.1.virt) inside.0 in
    (own-on P a.1 tables.0 (not-true a.1.virt own.1) nums.0, outputs-on P c added parts.1 nums.1 tables.1)

put-on : (P : ℕ → Type 0) (o : Option Job) (e : Changes) → PutsJob o e → AllByRecursion P e.new_backings → AllByRecursion (λ a. IsTable a.1) e.added → AllByRecursion (λ a. StandsOn P a.1) e.added
put-on P None e is new tables = absurd is
put-on P (Some j) e is new tables = by-kind j.first j.num j.kind is
  where
    by-kind : (first num : ℕ) (kind : JobKind) → PutsJob (Some (record { num = num; first = first; kind = kind })) e → AllByRecursion (λ a. StandsOn P a.1) e.added
    by-kind first num (flush_of group) is = flush-on P first e.added is.added (subst (AllByRecursion P) is.new_backings new).0 tables
    by-kind first num (compaction_of c) is =
        outputs-on P c e.added is.outputs (all-unmap P (λ a. a.1.num) e.added (subst (AllByRecursion P) (sym is.numbers) (subst (AllByRecursion P) is.new_backings new))) tables

level-of : (P : Table → Type 0) (levels : LevelLists) (j : ℕ) → AllByRecursion (AllByRecursion P) levels → AllByRecursion P (tables_of levels j)
level-of P [] j all = tt
level-of P (ts ∷ levels) zero all = all.0
level-of P (ts ∷ levels) (suc j) all = level-of P levels j all.1

crossed-on : (P : ℕ → Type 0) (levels : LevelLists) (span : Option Bounds) → AllStandOn P levels → AllByRecursion (λ old. StandsOn P old.1) (crossed levels span)
crossed-on P levels None all = tt
crossed-on P levels (Some span) all = crossed-all (λ old. StandsOn P old.1) span 0 levels (λ j i is. all-more (StandsOn P) _ (tables_of levels j) (λ t on meets. on) (level-of (StandsOn P) levels j all))

halves-on : (P : ℕ → Type 0) (file : ℕ) (span : Option Bounds) (olds parts : List (ℕ × Table)) → AllByRecursion (λ old. StandsOn P old.1) olds → are_halves file span olds parts ≡ true → AllByRecursion (λ a. StandsOn P a.1) parts
halves-on P file None olds parts all none = empty-all (λ a. StandsOn P a.1) parts none
halves-on P file (Some span) olds parts all none =
    halves-all (λ a. StandsOn P a.1) span olds (rest file parts) (all-more (λ old. StandsOn P old.1) _ olds (λ old on k x is. subst P (sym (part-tells k old x is).same_backing) on) all) none

install-on : (P : ℕ → Type 0) (p : Plain) (l : Load) (e : Changes) → IsInstallOf p l e → AllByRecursion P e.new_backings → AllStandOn P p.current.levels → AllByRecursion (λ a. IsTable a.1) e.added → AllByRecursion (λ a. StandsOn P a.1) e.added
install-on P p l e is new all tables =
    let halves = halves-on P p.file l.span (crossed p.current.levels l.span) (virtual_in e) (crossed-on P p.current.levels l.span all) is.halves in
    let own = loaded-all (λ a. IsTable a.1 → StandsOn P a.1) (halved p.current.levels e) (running_hulls p.jobs) l.first p.next l.tables (physical_in e) is.loaded is.no_more
    (λ k t a from to has stands table. own-on P a.1 table stands.in_own_file (subst P (sym stands.same_num) (range-at P l.first (length l.tables) k (subst (AllByRecursion P) is.new_backings new) from to))) in
    all-both (λ a. IsTable a.1 → StandsOn P a.1) (λ a. IsTable a.1) (λ a. StandsOn P a.1) e.added (λ a f t. f t)
    (all-either (λ a. IsTable a.1 → StandsOn P a.1) (λ a. a.1.virt) e.added (all-more (λ a. StandsOn P a.1) _ (virtual_in e) (λ a on table. on) halves) own)
    tables

load-on : (P : ℕ → Type 0) (p : Plain) (o : Option Load) (e : Changes) → InstallsLoad p o e → AllByRecursion P e.new_backings → AllStandOn P p.current.levels → AllByRecursion (λ a. IsTable a.1) e.added → AllByRecursion (λ a. StandsOn P a.1) e.added
load-on P p None e is new all tables = absurd is
load-on P p (Some l) e is new all tables = install-on P p l e is new all tables

abbrev pub AddsOn : (ℕ → Type 0) → Option Changes → Type 0
AddsOn P None = Unit {0}
AddsOn P (Some e) = AllByRecursion (λ a. StandsOn P a.1) e.added

edit-on : (P : ℕ → Type 0) (p : Plain) (a : Act) (o : Option Changes) → HasEdit p a o → AllByRecursion P (new_files o) → AllStandOn P p.current.levels → AddsOn P o
edit-on P p a None has new all = absurd has
edit-on P p (act.Put job) (Some e) has new all = put-on P (found_job job p.jobs) e has.1 new has.0.tables
edit-on P p (act.Install load) (Some e) has new all = load-on P p (found_load load p.loads) e has.1 new all has.0.tables
edit-on P p _ (Some e) has new all = absurd has.1

pub adds-on : (P : ℕ → Type 0) (p : Plain) (a : Act) (r : Reply) (o : Option Changes) → FitsEdit p a r o → AllByRecursion P (new_files o) → AllStandOn P p.current.levels → AddsOn P o
adds-on P p a reply.Installed o fits new all = edit-on P p a o fits new all
adds-on P p a _ o fits new all = subst (AddsOn P) (sym fits) tt
