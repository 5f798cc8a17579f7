-- The inputs of a running compaction stay where they are, and edits apply.
use Rattle.std.proofs.Common.{◌≡◌, ℕ, zero, suc, ◌+◌, ◌<◌, Bool, true, false, cond, not, eqb, ◌&&◌, List, [], ◌∷◌, ◌++◌, length, filter, Option, Some, None, is_none, refl, sym, ap, subst, ◌∙◌, inl, inr, arith}
use Rattle.std.proofs.lemmas.Bool.{false≢true, and_parts, and_from, or_cases, or_left, or_right, cases_Bool, eqb-true, eq-eqb, eqb-false}
use Rattle.std.specs.List.{list_any, list_all, AllByRecursion}
use Rattle.xdb_rangedel.specs.Members.{Has}
use Rattle.xdb_key.specs.Bounds.{Bounds, meets, covers}
use Rattle.xdb_key.specs.Order.{is_below, is_upto}
use Rattle.xdb_key.proofs.OrderLaws.{upto_below, below_upto, meets-symmetric}
use Rattle.xdb_meta.specs.Table.{Table, bounds_of}
use Rattle.xdb_edit.specs.Changes.{Changes}
use Rattle.xdb_edit.specs.Versions.{LevelLists, tables_of, table_cmp, removes, added_to, edited_level, edited_from, edited, has_range, have_ranges, stands_in, missing_from, overlap, applies}
use Rattle.xdb_plain.specs.Changes.{after, jobs_after}
use Rattle.xdb_plain.specs.Edits.{running_hulls}
use Rattle.xdb_plain.specs.Holds.{version_after}
use Rattle.xdb_plain.specs.Legal.{Legal, after_all}
use Rattle.xdb_plain.specs.Outcomes.{succeeds, outcome}
use Rattle.xdb_plain.specs.Replies.{may_reply, same_reply, put_replies}
use Rattle.xdb_plain.specs.State.{Plain, Load, Job, JobKind, flush_of, compaction_of, opening, found_load, found_job}
use Rattle.xdb_plain.specs.Steps.{MayStand, HasEdit, FitsEdit, PutsJob, InstallsLoad}
use Rattle.xdb_plain.specs.declared.act.Act.{Act}
use Rattle.xdb_plain.specs.declared.act.Act.TheVariants as act
use Rattle.xdb_plain.specs.declared.act.By.{By}
use Rattle.xdb_plain.specs.declared.note.Note.{Note}
use Rattle.xdb_plain.specs.declared.reply.Reply.{Reply}
use Rattle.xdb_plain.specs.declared.reply.Reply.TheVariants as reply
use Rattle.xdb_model.proofs.LegalLaws.{over-legal}
use Rattle.xdb_model.proofs.CrossedLaws.{has-filtered, has-put_all, has-level, removed-all}
use Rattle.xdb_model.proofs.DisjointLaws.{layered-all, layered-after, layered-first, no-overlap, ranges-after}
use Rattle.xdb_model.proofs.ListLaws.{all-has, all-more, same-or}
use Rattle.xdb_model.proofs.NamedLaws.{legal-parts}
use Rattle.xdb_model.proofs.PairLaws.{meets-wider}
use Rattle.xdb_model.proofs.PlannedLaws.{found-has, hulls-apart, plan-inputs}
use Rattle.xdb_model.proofs.RunningLaws.{Hold, Goes, Running, running-after, running-first, hold-by, hold-edit, installed-runs}
use Rattle.xdb_model.proofs.TableNumberLaws.{Numbers, numbers-after, numbers-first, OtherNum, other-turned, level-has}
use Rattle.xdb_model.specs.Apart.{Pairwise, IsOrderly, StandsIn, HasInputs, Uncancelled, CompactionsFit}

-- ---- a table that isn't removed stays

level-to : (P : List Table → Type 0) (e : Changes) (levels : LevelLists) (base j i : ℕ) → i ≡ base + j → j < length levels → P (edited_level e i (tables_of levels j)) → P (tables_of (edited_from base e levels) j)
level-to P e [] base j i is few some = absurd (omega arith)
level-to P e (ts ∷ levels) base zero i is few some = let same : i ≡ base = omega arith in subst (λ k. P (edited_level e k ts)) same some
level-to P e (ts ∷ levels) base (suc j) i is few some = level-to P e levels (suc base) j i (omega arith) (omega arith) some

has-edited : (levels : LevelLists) (e : Changes) (level : ℕ) (t : Table) → Has (tables_of levels level) t → removes e level t ≡ false → Has (tables_of (edited levels e) level) t
has-edited levels e level t has stays =
    level-to (λ ts. Has ts t) e levels 0 level level (omega arith) (has-level levels level t has)
    (has-put_all (table_cmp level) (added_to e level) (filter (λ u. not (removes e level u)) (tables_of levels level)) t
    (inr (has-filtered (λ u. not (removes e level u)) (tables_of levels level) t has (ap not stays))))

stands-kept : (levels : LevelLists) (e : Changes) (hull : Bounds) (i : ℕ × ℕ) (s : StandsIn levels hull i) → removes e i.0 s.table ≡ false → StandsIn (edited levels e) hull i
stands-kept levels e hull i s stays = record { table = s.table; among = has-edited levels e i.0 s.table s.among stays; same_num = s.same_num; within = s.within }

-- ---- what is removed, are tables that other hulls hold

any-with : {A : Type 0} (P : A → Type 0) (test : A → Bool) (xs : List A) → list_any test xs ≡ true → AllByRecursion P xs → (x : A) × (P x × (test x ≡ true))
any-with P test [] some all = absurd (false≢true some)
any-with P test (x ∷ xs) some all = elim (or_cases (test x) (list_any test xs) some) [
  | inl here ↦ (x, (all.0, here))
  | inr later ↦ any-with P test xs later all.1
]

-- what is known of a removed table of a level
record Gone (P : Table → Type 0) (levels : LevelLists) (r : ℕ × ℕ) : Type 0 where
  table : Table
  among : Has (tables_of levels r.0) table
  same_num : table.num ≡ r.1
  known : P table

-- a table that is removed is the one of its number
removed-is : (P : Table → Type 0) (levels : LevelLists) (e : Changes) (level : ℕ) (t : Table) → ((k : ℕ) → Pairwise OtherNum (tables_of levels k)) → AllByRecursion (Gone P levels) e.removed → Has (tables_of levels level) t → removes e level t ≡ true → P t
removed-is P levels e level t distinct all has gone =
    let r = any-with (Gone P levels) (λ (r : ℕ × ℕ). eqb r.0 level && eqb r.1 t.num) e.removed gone all in
    let parts = and_parts (eqb r.0.0 level) (eqb r.0.1 t.num) r.1.1 in
    let at = eqb-true r.0.0 level parts.0 in
    let there : Has (tables_of levels level) r.1.0.table = subst (λ k. Has (tables_of levels k) r.1.0.table) at r.1.0.among in
    elim (same-or OtherNum other-turned (tables_of levels level) r.1.0.table t (distinct level) there has) [
      | inl same ↦ subst P same r.1.0.known
      | inr other ↦ absurd (eqb-false r.1.0.table.num t.num other (r.1.0.same_num ∙ eqb-true r.0.1 t.num parts.1))
    ]

-- a table in two hulls
both-meet : (r s : Bounds) (t : Table) → covers r (bounds_of t) ≡ true → covers s (bounds_of t) ≡ true → is_below t.lo t.hi ≡ true → meets r s ≡ true
both-meet r s t inside within range =
    let a = and_parts (is_upto r.lo t.lo) (is_upto t.hi r.hi) inside in
    let b = and_parts (is_upto s.lo t.lo) (is_upto t.hi s.hi) within in
    and_from _ _ (below_upto r.lo t.hi s.hi (upto_below r.lo t.lo t.hi a.0 range) b.1) (below_upto s.lo t.hi r.hi (upto_below s.lo t.lo t.hi b.0 range) a.1)

each-range : (ts : List Table) → list_all has_range ts ≡ true → AllByRecursion (λ t. has_range t ≡ true) ts
each-range [] all = tt
each-range (t ∷ ts) all = let parts = and_parts (has_range t) (list_all has_range ts) all in (parts.0, each-range ts parts.1)

all-ranges : (levels : LevelLists) → have_ranges levels ≡ true → AllByRecursion (AllByRecursion (λ t. has_range t ≡ true)) levels
all-ranges [] all = tt
all-ranges (ts ∷ levels) all = let parts = and_parts (list_all has_range ts) (have_ranges levels) all in (each-range ts parts.0, all-ranges levels parts.1)

-- what each input keeps, where nothing in the hull is removed
inputs-kept : (levels : LevelLists) (e : Changes) (hull : Bounds) (inputs : List (ℕ × ℕ)) → ((level : ℕ) (t : Table) → Has (tables_of levels level) t → covers hull (bounds_of t) ≡ true → removes e level t ≡ false) → AllByRecursion (StandsIn levels hull) inputs → AllByRecursion (StandsIn (edited levels e) hull) inputs
inputs-kept levels e hull [] stays all = tt
inputs-kept levels e hull (i ∷ inputs) stays all =
    (stands-kept levels e hull i all.0 (stays i.0 all.0.table all.0.among all.0.within), inputs-kept levels e hull inputs stays all.1)

not-removed : (e : Changes) (level : ℕ) (t : Table) → (removes e level t ≡ true → ⊥) → removes e level t ≡ false
not-removed e level t never = elim (cases_Bool (removes e level t)) [ inl gone ↦ absurd (never gone) | inr stays ↦ stays ]

-- ---- over a whole history

record Kept (p : Plain) : Type 0 where
  numbers : Numbers p
  running : Running p
  ranges : have_ranges p.current.levels ≡ true
  inputs : Hold (HasInputs p.current.levels) p.jobs

inputs-go : (p : Plain) (e : Changes) → Kept p → Goes (HasInputs p.current.levels) (HasInputs (edited p.current.levels e)) p e
inputs-go p e kept = record {
  by_flush = λ job c is inputs. inputs-kept p.current.levels e c.hull c.inputs (λ level t has within. ap (list_any (λ (r : ℕ × ℕ). eqb r.0 level && eqb r.1 t.num)) is.removed) inputs;
  by_compaction = λ job d c is has kind none off inputs.
      let others = subst (Uncancelled (HasInputs p.current.levels)) kind (all-has (λ (i : Job). Uncancelled (HasInputs p.current.levels) i.kind) p.jobs job has kept.inputs) none in
      let gone = subst (AllByRecursion (Gone (λ t. covers d.hull (bounds_of t) ≡ true) p.current.levels)) (sym is.removed)
      (all-more (StandsIn p.current.levels d.hull) _ d.inputs (λ r s. record { table = s.table; among = s.among; same_num = s.same_num; known = s.within }) others) in
      inputs-kept p.current.levels e c.hull c.inputs (λ level t has within. not-removed e level t (λ removed.
      let inside = removed-is (λ u. covers d.hull (bounds_of u) ≡ true) p.current.levels e level t kept.numbers.distinct gone has removed in
      let range = level-has (λ u. has_range u ≡ true) p.current.levels level t has (all-ranges p.current.levels kept.ranges) in
      false≢true (sym off ∙ both-meet d.hull c.hull t inside within range))) inputs;
  by_load = λ l c o is runs off inputs.
      let gone = subst (AllByRecursion (Gone (λ t. (s : Bounds) × ((l.span ≡ Some s) × (meets s (bounds_of t) ≡ true))) p.current.levels)) (sym is.removed)
      (removed-all _ p.current.levels l.span (λ s level t spans has met. record { table = t; among = has; same_num = refl; known = (s, (spans, met)) })) in
      inputs-kept p.current.levels e c.hull c.inputs (λ level t has within. not-removed e level t (λ removed.
      let hit = removed-is (λ u. (s : Bounds) × ((l.span ≡ Some s) × (meets s (bounds_of u) ≡ true))) p.current.levels e level t kept.numbers.distinct gone has removed in
      false≢true (sym (off hit.0 hit.1.0) ∙ meets-wider c.hull (bounds_of t) hit.0 within (meets-symmetric (bounds_of t) hit.0 ∙ hit.1.1)))) inputs;
}

inputs-edit : (p : Plain) (by : By) (a : Act) (o : Option Changes) → HasEdit p a o → list_any (same_reply reply.Installed) (may_reply p by a) ≡ true → Kept p → Hold (HasInputs (version_after p.current o).levels) (jobs_after p a succeeds)
inputs-edit p by a None has may kept = absurd has
inputs-edit p by a (Some e) has may kept = hold-edit (HasInputs p.current.levels) (HasInputs (edited p.current.levels e)) p by a e (inputs-go p e kept) has may kept.running.hulls kept.inputs

inputs-by : (p : Plain) (by : By) (a : Act) (r q : Reply) (edit : Option Changes) → r ≡ q → FitsEdit p a q edit → list_any (same_reply r) (may_reply p by a) ≡ true → Kept p → Hold (HasInputs (version_after p.current edit).levels) (jobs_after p a (outcome r))
inputs-by p by a r reply.Installed edit is fits may kept =
    subst (λ x. Hold (HasInputs (version_after p.current edit).levels) (jobs_after p a (outcome x))) (sym is) (inputs-edit p by a edit fits (subst (λ x. list_any (same_reply x) (may_reply p by a) ≡ true) is may) kept)
inputs-by p by a r _ edit is fits may kept =
    subst (λ (x : Option Changes). Hold (HasInputs (version_after p.current x).levels) (jobs_after p a (outcome r))) (sym fits)
    (hold-by (HasInputs p.current.levels) (λ c o h. h) p (λ q plan. plan-inputs p.current.levels (running_hulls p.jobs) q plan) a (outcome r) kept.inputs)

kept-after : (p : Plain) (note : Note) → MayStand p note → Kept p → Kept (after p note)
kept-after p note may kept = record {
  numbers = numbers-after p note may kept.numbers;
  running = running-after p note may kept.running;
  ranges = ranges-after p note.act note.reply note.edit may.edit kept.ranges;
  inputs = inputs-by p note.by note.act note.reply note.reply note.edit refl may.edit may.reply kept;
}

kept-first : (first_seq first_file : ℕ) → Kept (opening first_seq first_file)
kept-first first_seq first_file = record {
  numbers = numbers-first first_seq first_file;
  running = running-first first_seq first_file;
  ranges = refl;
  inputs = tt;
}

kept-all : (p : Plain) (notes : List Note) → Legal p notes → Kept p → Kept (after_all p notes)
kept-all p notes legal kept = over-legal Kept kept-after p notes legal kept

pub compactions-fit : (first_seq first_file : ℕ) (notes : List Note) → Legal (opening first_seq first_file) notes → CompactionsFit (after_all (opening first_seq first_file) notes)
compactions-fit first_seq first_file notes legal =
    let p = after_all (opening first_seq first_file) notes in
    let kept = kept-all (opening first_seq first_file) notes legal (kept-first first_seq first_file) in
    record { apart = hulls-apart p.jobs kept.running.hulls; over = kept.running.runs; inputs = kept.inputs }

-- ---- edits apply

stands-any : (ts : List Table) (t : Table) (n : ℕ) → Has ts t → t.num ≡ n → list_any (λ u. eqb u.num n) ts ≡ true
stands-any [] t n has is = absurd has
stands-any (x ∷ ts) t n (inl same) is = or_left (eqb x.num n) _ (eq-eqb x.num n (ap (λ (u : Table). u.num) same ∙ is))
stands-any (x ∷ ts) t n (inr behind) is = or_right (eqb x.num n) _ (stands-any ts t n behind is)

none-missing : (levels : LevelLists) (removed : List (ℕ × ℕ)) → AllByRecursion (λ r. stands_in levels r ≡ true) removed → missing_from levels removed ≡ None
none-missing levels [] all = refl
none-missing levels (r ∷ removed) all = ap (λ b. cond b (missing_from levels removed) (Some r.1)) all.0 ∙ none-missing levels removed all.1

removed-stand : (p : Plain) (by : By) (a : Act) (e : Changes) → HasEdit p a (Some e) → list_any (same_reply reply.Installed) (may_reply p by a) ≡ true → Kept p → AllByRecursion (λ r. stands_in p.current.levels r ≡ true) e.removed
removed-stand p by (act.Put job) e has may kept = put-stand (found_job job p.jobs) refl has.1 may
  where
    by-kind : (num first : ℕ) (kind : JobKind) → found_job job p.jobs ≡ Some (record { num = num; first = first; kind = kind }) → PutsJob (Some (record { num = num; first = first; kind = kind })) e
        → list_any (same_reply reply.Installed) (put_replies (Some (record { num = num; first = first; kind = kind }))) ≡ true → AllByRecursion (λ r. stands_in p.current.levels r ≡ true) e.removed
    by-kind num first (flush_of group) found is may = subst (AllByRecursion (λ r. stands_in p.current.levels r ≡ true)) (sym is.removed) tt
    by-kind num first (compaction_of c) found is may =
        let j : Job = record { num = num; first = first; kind = compaction_of c } in
        let inputs = (all-has (λ (i : Job). Uncancelled (HasInputs p.current.levels) i.kind) p.jobs j (found-has job p.jobs j found) kept.inputs) (installed-runs c.cancelled may) in
        subst (AllByRecursion (λ r. stands_in p.current.levels r ≡ true)) (sym is.removed)
        (all-more (StandsIn p.current.levels c.hull) _ c.inputs (λ r s. stands-any (tables_of p.current.levels r.0) s.table r.1 s.among s.same_num) inputs)

    put-stand : (o : Option Job) → found_job job p.jobs ≡ o → PutsJob o e → list_any (same_reply reply.Installed) (put_replies o) ≡ true → AllByRecursion (λ r. stands_in p.current.levels r ≡ true) e.removed
    put-stand None found is may = absurd is
    put-stand (Some j) found is may = by-kind j.num j.first j.kind found is may
removed-stand p by (act.Install load) e has may kept = install-stand (found_load load p.loads) has.1
  where
    install-stand : (o : Option Load) → InstallsLoad p o e → AllByRecursion (λ r. stands_in p.current.levels r ≡ true) e.removed
    install-stand None is = absurd is
    install-stand (Some l) is = subst (AllByRecursion (λ r. stands_in p.current.levels r ≡ true)) (sym is.removed)
        (removed-all _ p.current.levels l.span (λ s level t spans has met. stands-any (tables_of p.current.levels level) t t.num has refl))
removed-stand p by _ e has may kept = absurd has.1

applies-edit : (p : Plain) (by : By) (a : Act) (e : Changes) → HasEdit p a (Some e) → list_any (same_reply reply.Installed) (may_reply p by a) ≡ true → Kept p → overlap (edited p.current.levels e) ≡ None → applies p.current.levels e ≡ true
applies-edit p by a e has may kept none =
    and_from _ _ (ap is_none (none-missing p.current.levels e.removed (removed-stand p by a e has may kept))) (ap is_none none)

applies-by : (p : Plain) (by : By) (a : Act) (r : Reply) (o : Option Changes) (e : Changes) → FitsEdit p a r o → o ≡ Some e → list_any (same_reply r) (may_reply p by a) ≡ true → Kept p → overlap (version_after p.current o).levels ≡ None → applies p.current.levels e ≡ true
applies-by p by a reply.Installed o e fits is may kept none =
    applies-edit p by a e (subst (HasEdit p a) is fits) may kept (subst (λ (x : Option Changes). overlap (version_after p.current x).levels ≡ None) is none)
applies-by p by a _ o e fits is may kept none = let never : None ≡ Some e = sym fits ∙ is in absurd (cc)

all-parts : {A : Type 0} (P : A → Type 0) (xs ys : List A) → AllByRecursion P (xs ++ ys) → AllByRecursion P xs × AllByRecursion P ys
all-parts P [] ys all = (tt, all)
all-parts P (x ∷ xs) ys all = let parts = all-parts P xs ys all.1 in ((all.0, parts.0), parts.1)

pub edits-apply : (first_seq first_file : ℕ) (before : List Note) (note : Note) (later : List Note) (e : Changes) → Legal (opening first_seq first_file) (before ++ note ∷ later) → AllByRecursion IsOrderly (before ++ note ∷ later) → note.edit ≡ Some e
    → applies (after_all (opening first_seq first_file) before).current.levels e ≡ true
edits-apply first_seq first_file before note later e legal orderly is =
    let start = opening first_seq first_file in
    let p = after_all start before in
    let parts = legal-parts start before (note ∷ later) legal in
    let well = all-parts IsOrderly before (note ∷ later) orderly in
    let kept = kept-all start before parts.0 (kept-first first_seq first_file) in
    let layered = layered-after p note parts.1.0 well.1.0 (layered-all start before parts.0 well.0 (layered-first first_seq first_file)) in
    applies-by p note.by note.act note.reply note.edit e parts.1.0.edit is parts.1.0.reply kept (no-overlap (after p note).current.levels layered.apart)
