-- Edits keep the levels in their order, and those above L0 apart.
use Rattle.std.proofs.Common.{◌≡◌, ℕ, zero, suc, Bool, true, false, not, ◌&&◌, cond, eqb, List, [], ◌∷◌, ◌++◌, filter, Option, Some, None, refl, ap, ◌∙◌, inl, inr}
use Rattle.std.specs.Option.{is_none}
use Rattle.std.specs.List.{cons_option, filter_map, list_all}
use Rattle.std.specs.declared.cmp.Ordering.{Ordering}
use Rattle.std.specs.declared.cmp.Ordering.TheVariants.{Less, Equal, Greater}
use Rattle.std.specs.Ordering.{nat_cmp, is_le, ordering_then}
use Rattle.std.specs.Cmp.{IsTotalOrder, on_total, then_total, nat_cmp_total}
use Rattle.std.proofs.lemmas.Bool.{and_parts, and_from, cases_Bool, false≢true}
use Rattle.xdb_lists.proofs.SortedLaws.{all_filter, all_put_all_in, sorted_filter, sorted_put_all_in}
use Rattle.xdb_key.specs.Bounds.{meets}
use Rattle.xdb_key.specs.Order.{key_cmp, is_below, is_upto}
use Rattle.xdb_key.proofs.OrderLaws.{key_total, upto-not_below, upto_below, upto_trans, upto_from_below}
use Rattle.xdb_meta.specs.Table.{Table, bounds_of}
use Rattle.xdb_edit.specs.Changes.{Changes}
use Rattle.xdb_edit.specs.Versions.{LevelLists, table_cmp, removes, added_to, edited_level, edited_from, edited, edited_by, or_else, meeting_after, meeting_in, meeting_among, overlap, missing, applies, is_sorted, is_disjoint, are_sorted_from, are_sorted, are_disjoint, has_range, have_ranges}

-- ---- the order of a level is total

pub table_cmp-total : (level : ℕ) → IsTotalOrder (table_cmp level)
table_cmp-total zero = then_total (on_total (λ t. t.seq_hi) nat_cmp_total) (on_total (λ t. t.num) nat_cmp_total)
table_cmp-total (suc level) = then_total (on_total (λ t. t.lo) key_total) (on_total (λ t. t.num) nat_cmp_total)

-- ---- sorted

sorted_level : (e : Changes) (level : ℕ) (ts : List Table) → is_sorted (table_cmp level) ts ≡ true → is_sorted (table_cmp level) (edited_level e level ts) ≡ true
sorted_level e level ts sorted =
    sorted_put_all_in (table_cmp-total level) (added_to e level) (filter (λ t. not (removes e level t)) ts) (sorted_filter (table_cmp level) (λ t. not (removes e level t)) ts sorted)

sorted_from : (level : ℕ) (e : Changes) (levels : LevelLists) → are_sorted_from level levels ≡ true → are_sorted_from level (edited_from level e levels) ≡ true
sorted_from level e [] sorted = refl
sorted_from level e (ts ∷ rest) sorted =
    let parts = and_parts (is_sorted (table_cmp level) ts) (are_sorted_from (suc level) rest) sorted in
    and_from _ _ (sorted_level e level ts parts.0) (sorted_from (suc level) e rest parts.1)

pub sorted_kept : (levels : LevelLists) (e : Changes) → are_sorted levels ≡ true → are_sorted (edited levels e) ≡ true
sorted_kept levels e sorted = sorted_from 0 e levels sorted

-- ---- ranges

-- the tables that an edit adds to a level are among those that it adds
ranges_added : (level : ℕ) (adds : List (ℕ × Table)) → list_all (λ a. has_range a.1) adds ≡ true → list_all has_range (filter_map (λ a. cond (eqb a.0 level) (Some a.1) None) adds) ≡ true
ranges_added level [] all = refl
ranges_added level (a ∷ adds) all =
    let parts = and_parts (has_range a.1) (list_all (λ a. has_range a.1) adds) all in
    let others = filter_map (λ x. cond (eqb x.0 level) (Some x.1) None) adds in
    let behind : list_all has_range others ≡ true = ranges_added level adds parts.1 in
    elim (cases_Bool (eqb a.0 level)) [
      | inl here ↦ ap (λ b. list_all has_range (cons_option (cond b (Some a.1) None) others)) here ∙ and_from _ _ parts.0 behind
      | inr there ↦ ap (λ b. list_all has_range (cons_option (cond b (Some a.1) None) others)) there ∙ behind
    ]

ranges_level : (e : Changes) (level : ℕ) (ts : List Table) → list_all (λ a. has_range a.1) e.added ≡ true → list_all has_range ts ≡ true → list_all has_range (edited_level e level ts) ≡ true
ranges_level e level ts more all =
    all_put_all_in (table_cmp level) has_range (added_to e level) (filter (λ t. not (removes e level t)) ts) (ranges_added level e.added more) (all_filter has_range (λ t. not (removes e level t)) ts all)

ranges_from : (level : ℕ) (e : Changes) (levels : LevelLists) → list_all (λ a. has_range a.1) e.added ≡ true → have_ranges levels ≡ true → have_ranges (edited_from level e levels) ≡ true
ranges_from level e [] more all = refl
ranges_from level e (ts ∷ rest) more all =
    let parts = and_parts (list_all has_range ts) (have_ranges rest) all in
    and_from _ _ (ranges_level e level ts more parts.0) (ranges_from (suc level) e rest more parts.1)

pub ranges_kept : (levels : LevelLists) (e : Changes) → list_all (λ a. has_range a.1) e.added ≡ true → have_ranges levels ≡ true → have_ranges (edited levels e) ≡ true
ranges_kept levels e more all = ranges_from 0 e levels more all

-- ---- apart

then_le : (r s : Ordering) → is_le (ordering_then r s) ≡ true → is_le r ≡ true
then_le Less s h = refl
then_le Equal s h = refl
then_le Greater s h = absurd (false≢true h)

and_off : (a b : Bool) → a ≡ true → (a && b) ≡ false → b ≡ false
and_off true b h off = off
and_off false b h off = absurd (false≢true h)

-- neighbours that don't meet are apart
apart : (level : ℕ) (t u : Table) → is_le (table_cmp (suc level) t u) ≡ true → has_range u ≡ true → meets (bounds_of t) (bounds_of u) ≡ false → is_upto t.hi u.lo ≡ true
apart level t u le range off =
    let below : is_below t.lo u.hi ≡ true = upto_below t.lo u.lo u.hi (then_le (key_cmp t.lo u.lo) (nat_cmp t.num u.num) le) range in
    upto-not_below t.hi u.lo ∙ ap not (and_off (is_below t.lo u.hi) (is_below u.lo t.hi) below off)

apart_behind : (t u : Table) (us : List Table) → is_upto t.hi u.lo ≡ true → has_range u ≡ true → list_all (λ v. is_upto u.hi v.lo) us ≡ true → list_all (λ v. is_upto t.hi v.lo) us ≡ true
apart_behind t u [] first range all = refl
apart_behind t u (v ∷ us) first range all =
    let parts = and_parts (is_upto u.hi v.lo) (list_all (λ v. is_upto u.hi v.lo) us) all in
    let over : is_upto u.lo u.hi ≡ true = upto_from_below u.lo u.hi range in
    and_from _ _ (upto_trans t.hi u.lo v.lo first (upto_trans u.lo u.hi v.lo over parts.0)) (apart_behind t u us first range parts.1)

cond_none : {A : Type 0} (b : Bool) (x : A) (o : Option A) → cond b (Some x) o ≡ None → (b ≡ false) × (o ≡ None)
cond_none true x o h = absurd cc
cond_none false x o h = (refl, h)

disjoint_after : (level : ℕ) (t : Table) (ts : List Table) → is_sorted (table_cmp (suc level)) (t ∷ ts) ≡ true → list_all has_range ts ≡ true → meeting_after t ts ≡ None → is_disjoint (t ∷ ts) ≡ true
disjoint_after level t [] sorted ranges none = refl
disjoint_after level t (u ∷ us) sorted ranges none =
    let s = and_parts (list_all (λ v. is_le (table_cmp (suc level) t v)) (u ∷ us)) (is_sorted (table_cmp (suc level)) (u ∷ us)) sorted in
    let le = and_parts (is_le (table_cmp (suc level) t u)) (list_all (λ v. is_le (table_cmp (suc level) t v)) us) s.0 in
    let r = and_parts (has_range u) (list_all has_range us) ranges in
    let off = cond_none (meets (bounds_of t) (bounds_of u)) (t.num, u.num) (meeting_after u us) none in
    let first = apart level t u le.0 r.0 off.0 in
    let behind = disjoint_after level u us s.1 r.1 off.1 in
    let parts = and_parts (list_all (λ v. is_upto u.hi v.lo) us) (is_disjoint us) behind in
    and_from _ _ (and_from _ _ first (apart_behind t u us first r.0 parts.0)) behind

disjoint_level : (level : ℕ) (ts : List Table) → is_sorted (table_cmp (suc level)) ts ≡ true → list_all has_range ts ≡ true → meeting_in ts ≡ None → is_disjoint ts ≡ true
disjoint_level level [] sorted ranges none = refl
disjoint_level level (t ∷ ts) sorted ranges none = disjoint_after level t ts sorted (and_parts (has_range t) (list_all has_range ts) ranges).1 none

or_else-none : {A : Type 0} (a b : Option A) → or_else a b ≡ None → (a ≡ None) × (b ≡ None)
or_else-none (Some x) b h = absurd cc
or_else-none None b h = (refl, h)

disjoint_from : (level : ℕ) (levels : LevelLists) → are_sorted_from (suc level) levels ≡ true → have_ranges levels ≡ true → meeting_among levels ≡ None → list_all is_disjoint levels ≡ true
disjoint_from level [] sorted ranges none = refl
disjoint_from level (ts ∷ rest) sorted ranges none =
    let s = and_parts (is_sorted (table_cmp (suc level)) ts) (are_sorted_from (suc (suc level)) rest) sorted in
    let r = and_parts (list_all has_range ts) (have_ranges rest) ranges in
    let n = or_else-none (meeting_in ts) (meeting_among rest) none in
    and_from _ _ (disjoint_level level ts s.0 r.0 n.0) (disjoint_from (suc level) rest s.1 r.1 n.1)

pub disjoint_where_apart : (levels : LevelLists) → are_sorted levels ≡ true → have_ranges levels ≡ true → overlap levels ≡ None → are_disjoint levels ≡ true
disjoint_where_apart [] sorted ranges none = refl
disjoint_where_apart (ts ∷ rest) sorted ranges none =
    disjoint_from 0 rest (and_parts (is_sorted (table_cmp 0) ts) (are_sorted_from 1 rest) sorted).1 (and_parts (list_all has_range ts) (have_ranges rest) ranges).1 none

none_is : {A : Type 0} (o : Option A) → is_none o ≡ true → o ≡ None
none_is (Some x) h = absurd (false≢true h)
none_is None h = refl

-- where an edit applies, it leaves the levels above L0 apart
pub disjoint_kept : (levels : LevelLists) (e : Changes) → are_sorted levels ≡ true → have_ranges levels ≡ true → list_all (λ a. has_range a.1) e.added ≡ true → applies levels e ≡ true → are_disjoint (edited levels e) ≡ true
disjoint_kept levels e sorted ranges more h =
    let parts = and_parts (is_none (missing levels e)) (is_none (overlap (edited levels e))) h in
    disjoint_where_apart (edited levels e) (sorted_kept levels e sorted) (ranges_kept levels e more ranges) (none_is (overlap (edited levels e)) parts.1)

-- a history longer by one edit
pub edited_by-push : (levels : LevelLists) (es : List Changes) (e : Changes) → edited_by levels (es ++ e ∷ []) ≡ edited (edited_by levels es) e
edited_by-push levels [] e = refl
edited_by-push levels (x ∷ es) e = edited_by-push (edited levels x) es e
