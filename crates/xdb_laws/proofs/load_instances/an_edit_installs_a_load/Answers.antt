-- The small load as an edit, table by table.
use Rattle.std.proofs.Common.{rules, ◌≡◌, ℕ, zero, suc, ◌<◌, ◌⊎◌, true, false, [], ◌∷◌, Some, inl, inr, IsTrue, refl, sym, subst, arith}
use Rattle.std.proofs.lemmas.Bool.{false≢true}
use Rattle.xdb_key.specs.Bounds.{Bounds, meets, covers, key_hull}
use Rattle.xdb_edit.specs.Plans.{place}
use Rattle.xdb_edit.specs.Versions.{tables_of, removes}
use Rattle.xdb_meta.specs.Table.{Table, bounds_of}
use Rattle.xdb_plain.specs.Edits.{halved}
use Rattle.xdb_plain.specs.Fences.{fence}
use Rattle.xdb_rangedel.specs.Members.{Has}
use Rattle.xdb_laws.specs.Excises.{Excised, IsSilentIn, KeepsTo}
use Rattle.xdb_laws.specs.LoadEdit.{is_met, IsHalfIn, levels_after, StandInTurn, IsEditOf}
use Rattle.xdb_laws.specs.Loads.{AreLoadable}
use Rattle.xdb_laws.specs.Small.{letters}
use Rattle.xdb_laws.specs.SmallLoad.{small_span, small_file, small_shown, small_left, small_right, left_half, right_half, small_groups, small_mem, small_other, small_tables, first_load, second_load, load_content, load_edit, first_table, second_table, left_table, right_table, first_loaded, second_loaded}
use Rattle.xdb_laws.specs.Tables.{is_input, content_of}
use Rattle.xdb_laws.proofs.ExciseLaws.{keeps-view}
use Rattle.xdb_laws.proofs.RewriteLaws.{rewrite-same}
use Rattle.xdb_laws.proofs.SmallLaws.{halves, silent}
use Rattle.xdb_laws.proofs.TouchLaws.{silent-untouched}
use Rattle.xdb_laws.proofs.load_instances.an_edit_installs_a_load.Goals as goal

-- what holds of both tables, each in its level, holds of all
each : (P : ℕ → Table → Type 0) → P 0 first_table → P 1 second_table → (level : ℕ) (t : Table) → Has (tables_of load_edit.levels level) t → P level t
each P one two zero t (inl e) = subst (P 0) e one
each P one two zero t (inr never) = absurd never
each P one two (suc zero) t (inl e) = subst (P 1) e two
each P one two (suc zero) t (inr never) = absurd never
each P one two (suc (suc level)) t h = absurd h

both_halves : (h : Table) → Has (left_table ∷ right_table ∷ []) h → (P : Table → Type 0) → P left_table → P right_table → P h
both_halves h (inl e) P l r = subst P e l
both_halves h (inr (inl e)) P l r = subst P e r
both_halves h (inr (inr never)) P l r = absurd never

half-in : (level : ℕ) (h : Table) → IsHalfIn load_edit level h → (level ≡ 0) × Has (left_table ∷ right_table ∷ []) h
half-in level h (t, there, met, has) =
    each (λ l u. IsTrue (is_met load_edit.out (bounds_of u)) → Has (load_edit.halves u) h → (l ≡ 0) × Has (left_table ∷ right_table ∷ []) h)
    (λ m g. (refl, g)) (λ m g. absurd (false≢true m)) level t there met has

each_half : (P : ℕ → Table → Type 0) → P 0 left_table → P 0 right_table → (level : ℕ) (h : Table) → IsHalfIn load_edit level h → P level h
each_half P l r level h half =
    let (at, has) = half-in level h half in
    subst (λ n. P n h) (sym at) (both_halves h has (P 0) l r)

each_loaded : (P : ℕ × Table → Type 0) → P (1, first_loaded) → P (0, second_loaded) → (a : ℕ × Table) → Has load_edit.loaded a → P a
each_loaded P one two a (inl e) = subst P e one
each_loaded P one two a (inr (inl e)) = subst P e two
each_loaded P one two a (inr (inr never)) = absurd never

each_added : (P : ℕ × Table → Type 0) → P (0, left_table) → P (0, right_table) → P (0, second_loaded) → P (1, first_loaded) → (a : ℕ × Table) → Has load_edit.edit.added a → P a
each_added P a b c d x (inl e) = subst P e a
each_added P a b c d x (inr (inl e)) = subst P e b
each_added P a b c d x (inr (inr (inl e))) = subst P e c
each_added P a b c d x (inr (inr (inr (inl e)))) = subst P e d
each_added P a b c d x (inr (inr (inr (inr never)))) = absurd never

cut_of_first : (h : Table) → Has (left_table ∷ right_table ∷ []) h → IsHalfIn load_edit 0 h
cut_of_first h has = (first_table, inl refl, refl, has)

edit : IsEditOf load_edit
edit = record {
  some = omega arith;
  removed = each (λ level t. removes load_edit.edit level t ≡ is_met load_edit.out (bounds_of t)) refl refl;
  added = λ a. (
    each_added (λ b. IsHalfIn load_edit b.0 b.1 ⊎ Has load_edit.loaded b)
        (inl (cut_of_first left_table (inl refl))) (inl (cut_of_first right_table (inr (inl refl)))) (inr (inr (inl refl))) (inr (inl refl)) a,
    λ h. elim h [
      | inl half ↦ each_half (λ level t. Has load_edit.edit.added (level, t)) (inl refl) (inr (inl refl)) a.0 a.1 half
      | inr l ↦ each_loaded (Has load_edit.edit.added) (inr (inr (inr (inl refl)))) (inr (inr (inl refl))) a l
    ],
  );
  inside = each_added (λ b. b.0 < 2) (omega arith) (omega arith) (omega arith) (omega arith);
  virtual = each_half (λ level h. h.virt ≡ true) refl refl;
  placed = each_loaded (λ a. a.0 ≡ place (halved load_edit.levels load_edit.edit) load_edit.running (bounds_of a.1)) refl refl;
  older = λ t h. each (λ level u. level ≡ 0 → u.seq_hi < 10) (λ e. omega arith) (λ e. omega arith) 0 t h refl;
  halved_number = λ level t h there has. each (λ l u. Has (load_edit.halves u) h → h.seq_hi ≡ u.seq_hi) (λ g. both_halves h g (λ x. x.seq_hi ≡ 7) refl refl) (λ g. absurd g) level t there has;
  number = each_loaded (λ a. a.1.seq_hi ≡ 10) refl refl;
}

untouched : (r : Bounds) → Has (fence small_tables (Some small_span)) r → IsSilentIn r small_mem
untouched r h = λ k held. silent-untouched (fence small_tables (Some small_span)) small_groups r k refl h held

before : StandInTurn (first_table ∷ [])
before = search rules

after : StandInTurn (tables_of (levels_after load_edit) 0)
after = search rules

loadable : AreLoadable small_tables
loadable = search rules

pub returns-clause-edit : goal.returns-clause-edit
returns-clause-edit c = record {
  edit = edit;
  before = before;
  after = after;
  span = silent;
  fence = each_loaded (λ a. IsSilentIn (bounds_of a.1) small_mem) (untouched (letters 98 100) (inr (inl refl))) (untouched (key_hull (105 ∷ [])) (inr (inr (inl refl))));
  tables = each (λ level t. KeepsTo (bounds_of t) (load_content t)) (keeps-view small_file small_shown 0) (keeps-view small_other (letters 107 108) 0);
  cut = each (λ level t. IsTrue (is_met load_edit.out (bounds_of t)) → Excised (Some small_span) (load_content t) (content_of load_content (load_edit.halves t))) (λ met. halves) (λ met. absurd (false≢true met));
  halves = each_half (λ level h. KeepsTo (bounds_of h) (load_content h)) (keeps-view left_half small_left 0) (keeps-view right_half small_right 0);
  loadable = loadable;
  loads = (rewrite-same first_load first_load (λ i. (λ h. h, λ h. h)), (rewrite-same second_load second_load (λ i. (λ h. h, λ h. h)), tt));
  loaded = each_loaded (λ a. KeepsTo (bounds_of a.1) (load_content a.1)) (keeps-view first_load (letters 98 100) 0) (keeps-view second_load (key_hull (105 ∷ [])) 0);
}

pub returns-clause-beside : goal.returns-clause-beside
returns-clause-beside c = each (λ level t. IsTrue (is_input ((1, 2) ∷ []) level t) → is_met load_edit.out (bounds_of t) ≡ false) (λ e. absurd (false≢true e)) (λ e. refl)

-- the first table is the only one of L0
only_first : (P : Table → Type 0) → P first_table → (t : Table) → Has (first_table ∷ []) t → P t
only_first P one t (inl e) = subst P e one
only_first P one t (inr never) = absurd never

pub returns-clause-apart : goal.returns-clause-apart
returns-clause-apart c = record {
  one = λ t u p q e. only_first (λ x. t ≡ x) (only_first (λ x. x ≡ first_table) refl t p) u q;
  inside = λ t h p has. only_first (λ x. Has (load_edit.halves x) h → IsTrue (covers (bounds_of x) (bounds_of h))) (λ g. both_halves h g (λ x. IsTrue (covers small_shown (bounds_of x))) refl refl) t p has;
  apart = λ t h g p has_h has_g. only_first (λ x. Has (load_edit.halves x) h → Has (load_edit.halves x) g → (h.num ≡ g.num → ⊥) → meets (bounds_of h) (bounds_of g) ≡ false)
      (λ a b. both_halves h a (λ x. (x.num ≡ g.num → ⊥) → meets (bounds_of x) (bounds_of g) ≡ false)
      (both_halves g b (λ x. (3 ≡ x.num → ⊥) → meets small_left (bounds_of x) ≡ false) (λ other. absurd (other refl)) (λ other. refl))
      (both_halves g b (λ x. (4 ≡ x.num → ⊥) → meets small_right (bounds_of x) ≡ false) (λ other. refl) (λ other. absurd (other refl))))
      t p has_h has_g;
  loaded = λ a b p q. each_loaded (λ l. (l.1.num ≡ b.1.num → ⊥) → meets (bounds_of l.1) (bounds_of b.1) ≡ false)
      (each_loaded (λ m. (5 ≡ m.1.num → ⊥) → meets (letters 98 100) (bounds_of m.1) ≡ false) (λ other. absurd (other refl)) (λ other. refl) b q)
      (each_loaded (λ m. (6 ≡ m.1.num → ⊥) → meets (key_hull (105 ∷ [])) (bounds_of m.1) ≡ false) (λ other. refl) (λ other. absurd (other refl)) b q) a p;
}
