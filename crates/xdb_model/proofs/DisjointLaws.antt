-- The levels above L0 stay disjoint.
use Rattle.std.proofs.Common.{◌≡◌, ℕ, zero, suc, ◌<◌, Bool, true, false, cond, not, leb, ◌&&◌, List, [], ◌∷◌, ◌++◌, length, map, Option, Some, None, is_some, is_none, refl, sym, ap, subst, ◌∙◌, inl, inr, arith}
use Rattle.std.proofs.lemmas.Bool.{false≢true, and_from, or_cases, and_parts, and_right, not-true}
use Rattle.std.specs.List.{list_any, list_all, AllByRecursion}
use Rattle.xdb_key.specs.Bounds.{Bounds}
use Rattle.xdb_key.specs.Order.{is_below, is_upto}
use Rattle.xdb_key.proofs.OrderLaws.{upto-not_below}
use Rattle.xdb_meta.specs.Table.{Table, IsTable, bounds_of}
use Rattle.xdb_edit.specs.Changes.{Changes}
use Rattle.xdb_edit.specs.Versions.{LevelLists, no_tables, tables_of, edited, has_range, have_ranges, meeting_after, meeting_in, meeting_among, overlap, are_disjoint, or_else, is_disjoint}
use Rattle.xdb_edit.proofs.VersionLaws.{ranges_kept, disjoint_where_apart}
use Rattle.xdb_plain.specs.Changes.{after, loads_after, new_load, in_phase}
use Rattle.xdb_plain.specs.Edits.{is_empty}
use Rattle.xdb_plain.specs.Fences.{first_overlap}
use Rattle.xdb_plain.specs.Holds.{version_after}
use Rattle.xdb_plain.specs.Legal.{Legal, after_all}
use Rattle.xdb_plain.specs.Outcomes.{Outcome, succeeds, begins, fails, cancels, stays, outcome}
use Rattle.xdb_plain.specs.Replies.{may_reply, same_reply, put_replies, load_open_replies, or_reply, overlap_reply}
use Rattle.xdb_plain.specs.State.{Plain, Load, Phase, being_opened, waiting, is_in, Job, JobKind, flush_of, compaction_of, opening, open_loads, found_load, found_job, same_name}
use Rattle.xdb_plain.specs.Steps.{MayStand, HasEdit, FitsEdit, PutsJob, InstallsLoad}
use Rattle.xdb_plain.specs.Tables.{TableOps}
use Rattle.xdb_plain.specs.declared.act.Act.{Act}
use Rattle.xdb_plain.specs.declared.act.Act.TheVariants as act
use Rattle.xdb_plain.specs.declared.act.By.{By}
use Rattle.xdb_plain.specs.declared.note.Note.{Note}
use Rattle.xdb_plain.specs.declared.reply.Reply.{Reply}
use Rattle.xdb_plain.specs.declared.reply.Reply.TheVariants as reply
use Rattle.xdb_model.proofs.ListLaws.{all-append, all-filtered, all-has, found-all}
use Rattle.xdb_model.proofs.ApartLaws.{flush-fits, compaction-fits, install-fits, apart-at}
use Rattle.xdb_model.proofs.RunningLaws.{Running, running-after, running-first, installed-runs}
use Rattle.xdb_model.proofs.LevelLaws.{levels-fit}
use Rattle.xdb_model.proofs.LoadLaws.{begun-new}
use Rattle.xdb_model.proofs.PlaceLaws.{OffOps, none-overlap}
use Rattle.xdb_model.proofs.PlannedLaws.{found-has}
use Rattle.xdb_model.specs.Apart.{Pairwise, AreApart, IsRange, PutsApart, OpensRange, IsOrderly, HasAll, Uncancelled, IsOff}

-- ---- loads

-- the span of a load is a range, and its tables don't meet
pub record LoadFits (l : Load) : Type 0 where
  pub range : IsRange l.span
  pub tables : Pairwise OffOps l.tables

abbrev is_made : Outcome → Bool
is_made succeeds = true
is_made begins = true
is_made fails = false
is_made cancels = false
is_made stays = false

not-nothing : (r : Reply) → is_made (outcome r) ≡ true → list_any (same_reply r) (reply.Nothing ∷ []) ≡ true → ⊥
not-nothing reply.Nothing made e = false≢true made
not-nothing _ made e = false≢true e

not-many : (r : Reply) → is_made (outcome r) ≡ true → list_any (same_reply r) (reply.TooMany ∷ []) ≡ true → ⊥
not-many reply.TooMany made e = false≢true made
not-many _ made e = false≢true e

not-memory : (r : Reply) → is_made (outcome r) ≡ true → same_reply r reply.Memory ≡ true → ⊥
not-memory reply.Memory made e = false≢true made
not-memory _ made e = false≢true e

not-overlap : (r : Reply) (pair : List ℕ × List ℕ) → is_made (outcome r) ≡ true → list_any (same_reply r) (overlap_reply pair ∷ []) ≡ true → ⊥
not-overlap (reply.Overlap a b) pair made e = false≢true made
not-overlap _ pair made e = false≢true e

made-overlap : (o : Option (List ℕ × List ℕ)) (others : List Reply) (r : Reply) → is_made (outcome r) ≡ true → list_any (same_reply r) (or_reply overlap_reply o others) ≡ true → o ≡ None
made-overlap None others r made e = refl
made-overlap (Some pair) others r made e = absurd (not-overlap r pair made e)

made-of : (nothing many : Bool) (o : Option (List ℕ × List ℕ)) (others : List Reply) (r : Reply) → is_made (outcome r) ≡ true → list_any (same_reply r) (cond nothing (reply.Nothing ∷ []) (cond many (reply.TooMany ∷ []) (reply.Memory ∷ or_reply overlap_reply o others))) ≡ true → o ≡ None
made-of true many o others r made e = absurd (not-nothing r made e)
made-of false true o others r made e = absurd (not-many r made e)
made-of false false o others r made e = elim (or_cases (same_reply r reply.Memory) (list_any (same_reply r) (or_reply overlap_reply o others)) e) [
  | inl memory ↦ absurd (not-memory r made memory)
  | inr later ↦ made-overlap o others r made later
]

-- a load is opened where none of its tables meet
made-apart : (p : Plain) (tables : List TableOps) (span : Option Bounds) (r : Reply) → is_made (outcome r) ≡ true → list_any (same_reply r) (load_open_replies p tables span None) ≡ true → first_overlap tables ≡ None
made-apart p tables span r made e = made-of (is_empty tables && is_none span) (leb 16 (length (open_loads p.loads))) (first_overlap tables) _ r made e

new-fits : (p : Plain) (by : By) (load : List ℕ) (tables : List TableOps) (span : Option Bounds) (phase : Phase) (r : Reply) → IsRange span → is_made (outcome r) ≡ true → list_any (same_reply r) (load_open_replies p tables span None) ≡ true → LoadFits (new_load p by load tables span phase)
new-fits p by load tables span phase r range made e = record { range = range; tables = none-overlap tables (made-apart p tables span r made e) }

fits-phase : (name : List ℕ) (phase : Phase) (loads : List Load) → AllByRecursion LoadFits loads → AllByRecursion LoadFits (in_phase name phase loads)
fits-phase name phase [] all = tt
fits-phase name phase (l ∷ loads) all = (record { range = all.0.range; tables = all.0.tables }, fits-phase name phase loads all.1)

opened-fits : (p : Plain) (by : By) (load : List ℕ) (tables : List TableOps) (span : Option Bounds) (o : Option Load) (r : Reply) → outcome r ≡ succeeds → IsRange span → list_any (same_reply r) (load_open_replies p tables span o) ≡ true → AllByRecursion LoadFits p.loads
    → AllByRecursion LoadFits (cond (is_some o) (in_phase load waiting p.loads) (p.loads ++ new_load p by load tables span waiting ∷ []))
opened-fits p by load tables span (Some l) r is range e all = fits-phase load waiting p.loads all
opened-fits p by load tables span None r is range e all = all-append LoadFits p.loads _ all (new-fits p by load tables span waiting r range (ap is_made is) e, tt)

loads-by : (p : Plain) (by : By) (a : Act) (o : Outcome) (r : Reply) → outcome r ≡ o → list_any (same_reply r) (may_reply p by a) ≡ true → OpensRange a → AllByRecursion LoadFits p.loads → AllByRecursion LoadFits (loads_after p by a o)
loads-by p by (act.LoadOpen load tables span) begins r is may range all =
    all-append LoadFits p.loads _ all
    (new-fits p by load tables span being_opened r range (ap is_made is) (subst (λ o. list_any (same_reply r) (load_open_replies p tables span o) ≡ true) (begun-new p tables span (found_load load p.loads) r is may) may), tt)
loads-by p by (act.LoadOpen load tables span) succeeds r is may range all = opened-fits p by load tables span (found_load load p.loads) r is range may all
loads-by p by (act.LoadOpen load tables span) fails r is may range all = all-filtered LoadFits (λ l. not (same_name l.name load)) p.loads (λ l has left. all-has LoadFits p.loads l has all)
loads-by p by (act.Install load) succeeds r is may range all = fits-phase load is_in p.loads all
loads-by p by _ _ r is may range all = all

-- ---- the levels above L0

abbrev pub ApartAbove : LevelLists → Type 0
ApartAbove levels = (level : ℕ) → 0 < level → AreApart (tables_of levels level)

put-apart : (p : Plain) (job : ℕ) (e : Changes) (o : Option Job) → found_job job p.jobs ≡ o → PutsJob o e → list_any (same_reply reply.Installed) (put_replies o) ≡ true → AreApart (map (λ a. a.1) e.added) → Running p → ApartAbove p.current.levels → ApartAbove (edited p.current.levels e)
put-apart p job e None found is may outputs running apart = absurd is
put-apart p job e (Some j) found is may outputs running apart = by-kind j.num j.first j.kind found is may
  where
    by-kind : (num first : ℕ) (kind : JobKind) → found_job job p.jobs ≡ Some (record { num = num; first = first; kind = kind }) → PutsJob (Some (record { num = num; first = first; kind = kind })) e
        → list_any (same_reply reply.Installed) (put_replies (Some (record { num = num; first = first; kind = kind }))) ≡ true → ApartAbove (edited p.current.levels e)
    by-kind num first (flush_of group) found is may = λ level high.
        apart-at p.current.levels e level (flush-fits (record { num = num; first = first; kind = flush_of group }) e level (tables_of p.current.levels level) high is) (apart level high)
    by-kind num first (compaction_of c) found is may = λ level high.
        let j : Job = record { num = num; first = first; kind = compaction_of c } in
        let over = (all-has (λ (i : Job). Uncancelled (HasAll p.current.levels) i.kind) p.jobs j (found-has job p.jobs j found) running.runs) (installed-runs c.cancelled may) in
        apart-at p.current.levels e level (compaction-fits p.current.levels j c e level is outputs over.into) (apart level high)

install-apart : (p : Plain) (load : List ℕ) (e : Changes) (o : Option Load) → found_load load p.loads ≡ o → InstallsLoad p o e → AllByRecursion LoadFits p.loads → ApartAbove p.current.levels → ApartAbove (edited p.current.levels e)
install-apart p load e None found is fits apart = absurd is
install-apart p load e (Some l) found is fits apart = λ level high.
    let fit = found-all LoadFits (λ (x : Load). same_name x.name load) p.loads l found fits in
    apart-at p.current.levels e level (install-fits p l e is level high fit.range fit.tables (apart level high)) (apart level high)

pub record Layered (p : Plain) : Type 0 where
  pub running : Running p
  pub loads : AllByRecursion LoadFits p.loads
  pub apart : ApartAbove p.current.levels
  pub ranges : have_ranges p.current.levels ≡ true

apart-edit : (p : Plain) (by : By) (a : Act) (o : Option Changes) → HasEdit p a o → list_any (same_reply reply.Installed) (may_reply p by a) ≡ true → PutsApart a o → Layered p → ApartAbove (version_after p.current o).levels
apart-edit p by a None has may puts layered = absurd has
apart-edit p by (act.Put job) (Some e) has may puts layered = put-apart p job e (found_job job p.jobs) refl has.1 may puts layered.running layered.apart
apart-edit p by (act.Install load) (Some e) has may puts layered = install-apart p load e (found_load load p.loads) refl has.1 layered.loads layered.apart
apart-edit p by _ (Some e) has may puts layered = absurd has.1

apart-after : (p : Plain) (by : By) (a : Act) (r : Reply) (o : Option Changes) → FitsEdit p a r o → list_any (same_reply r) (may_reply p by a) ≡ true → PutsApart a o → Layered p → ApartAbove (version_after p.current o).levels
apart-after p by a reply.Installed o fits may puts layered = apart-edit p by a o fits may puts layered
apart-after p by a _ o fits may puts layered = subst (λ (x : Option Changes). ApartAbove (version_after p.current x).levels) (sym fits) layered.apart

have-ranges : (added : List (ℕ × Table)) → AllByRecursion (λ a. IsTable a.1) added → list_all (λ a. has_range a.1) added ≡ true
have-ranges [] tables = refl
have-ranges (a ∷ added) tables = and_from _ _ tables.0.range (have-ranges added tables.1)

ranges-edit : (p : Plain) (a : Act) (o : Option Changes) → HasEdit p a o → have_ranges p.current.levels ≡ true → have_ranges (version_after p.current o).levels ≡ true
ranges-edit p a None has ranges = absurd has
ranges-edit p a (Some e) has ranges = ranges_kept p.current.levels e (have-ranges e.added has.0.tables) ranges

pub ranges-after : (p : Plain) (a : Act) (r : Reply) (o : Option Changes) → FitsEdit p a r o → have_ranges p.current.levels ≡ true → have_ranges (version_after p.current o).levels ≡ true
ranges-after p a reply.Installed o fits ranges = ranges-edit p a o fits ranges
ranges-after p a _ o fits ranges = subst (λ (x : Option Changes). have_ranges (version_after p.current x).levels ≡ true) (sym fits) ranges

pub layered-after : (p : Plain) (note : Note) → MayStand p note → IsOrderly note → Layered p → Layered (after p note)
layered-after p note may orderly layered = record {
  running = running-after p note may layered.running;
  loads = loads-by p note.by note.act (outcome note.reply) note.reply refl may.reply orderly.opens layered.loads;
  apart = apart-after p note.by note.act note.reply note.edit may.edit may.reply orderly.puts layered;
  ranges = ranges-after p note.act note.reply note.edit may.edit layered.ranges;
}

pub layered-all : (p : Plain) (notes : List Note) → Legal p notes → AllByRecursion IsOrderly notes → Layered p → Layered (after_all p notes)
layered-all p [] legal orderly layered = layered
layered-all p (note ∷ notes) legal orderly layered = layered-all (after p note) notes legal.1 orderly.1 (layered-after p note legal.0 orderly.0 layered)

none-apart : (levels : LevelLists) (level : ℕ) → AllByRecursion AreApart levels → AreApart (tables_of levels level)
none-apart [] level all = tt
none-apart (ts ∷ levels) zero all = all.0
none-apart (ts ∷ levels) (suc level) all = none-apart levels level all.1

pub layered-first : (first_seq first_file : ℕ) → Layered (opening first_seq first_file)
layered-first first_seq first_file = record {
  running = running-first first_seq first_file;
  loads = tt;
  apart = λ level high. none-apart no_tables level (tt, (tt, (tt, (tt, (tt, (tt, (tt, tt)))))));
  ranges = refl;
}

-- ---- what the definitions say

none-behind : (t : Table) (ts : List Table) → AreApart (t ∷ ts) → meeting_after t ts ≡ None
none-behind t [] apart = refl
none-behind t (u ∷ us) apart = ap (λ b. cond b (Some (t.num, u.num)) (meeting_after u us)) apart.0.0 ∙ none-behind u us apart.1

none-in : (ts : List Table) → AreApart ts → meeting_in ts ≡ None
none-in [] apart = refl
none-in (t ∷ ts) apart = none-behind t ts apart

none-among : (levels : LevelLists) → ((level : ℕ) → AreApart (tables_of levels level)) → meeting_among levels ≡ None
none-among [] apart = refl
none-among (ts ∷ levels) apart = ap (λ o. or_else o (meeting_among levels)) (none-in ts (apart 0)) ∙ none-among levels (λ level. apart (suc level))

pub no-overlap : (levels : LevelLists) → ApartAbove levels → overlap levels ≡ None
no-overlap [] apart = refl
no-overlap (ts ∷ levels) apart = none-among levels (λ level. apart (suc level) (omega arith))

pub disjoint-fit : (first_seq first_file : ℕ) (notes : List Note) → Legal (opening first_seq first_file) notes → AllByRecursion IsOrderly notes → are_disjoint (after_all (opening first_seq first_file) notes).current.levels ≡ true
disjoint-fit first_seq first_file notes legal orderly =
    let p = after_all (opening first_seq first_file) notes in
    let layered = layered-all (opening first_seq first_file) notes legal orderly (layered-first first_seq first_file) in
    disjoint_where_apart p.current.levels (levels-fit first_seq first_file notes).sorted layered.ranges (no-overlap p.current.levels layered.apart)

-- tables of which each ends before those behind it begin
pub disjoint-apart : (ts : List Table) → is_disjoint ts ≡ true → AreApart ts
disjoint-apart [] disjoint = tt
disjoint-apart (t ∷ ts) disjoint =
    let parts = and_parts (list_all (λ u. is_upto t.hi u.lo) ts) (is_disjoint ts) disjoint in
    (off-all ts parts.0, disjoint-apart ts parts.1)
  where
    off-all : (us : List Table) → list_all (λ u. is_upto t.hi u.lo) us ≡ true → AllByRecursion (λ u. IsOff (bounds_of t) (bounds_of u)) us
    off-all [] all = tt
    off-all (u ∷ us) all =
        let each = and_parts (is_upto t.hi u.lo) (list_all (λ v. is_upto t.hi v.lo) us) all in
        (and_right (is_below t.lo u.hi) (is_below u.lo t.hi) (not-true (is_below u.lo t.hi) (sym (upto-not_below t.hi u.lo) ∙ each.0)), off-all us each.1)
