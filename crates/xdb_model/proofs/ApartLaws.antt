-- What an edit brings to a level above L0 meets neither itself, nor what stays there, nor running compactions.
use Rattle.std.proofs.Common.{◌≡◌, ℕ, ◌+◌, ◌<◌, true, false, not, eqb, ◌&&◌, List, [], ◌∷◌, map, Option, Some, None, refl, sym, ap, subst, ◌∙◌, inl, inr, arith}
use Rattle.std.proofs.lemmas.Bool.{false≢true, and_parts, or_parts, cases_Bool, eqb-true}
use Rattle.std.specs.List.{list_any, list_all, AllByRecursion}
use Rattle.xdb_rangedel.specs.Members.{Has}
use Rattle.xdb_key.specs.Bounds.{Bounds, meets, covers}
use Rattle.xdb_key.proofs.OrderLaws.{meets-symmetric}
use Rattle.xdb_meta.specs.Table.{Table, bounds_of}
use Rattle.xdb_edit.specs.Changes.{Changes, changes}
use Rattle.xdb_edit.specs.Versions.{LevelLists, tables_of, removes, edited}
use Rattle.xdb_plain.specs.Edits.{IsFlushOf, IsCompactionOf, IsInstallOf, is_empty, is_flushed, is_physical, is_output, is_part, are_halves, crossed, removed_by, running_hulls, virtual_in, physical_in, halved, rest}
use Rattle.xdb_plain.specs.State.{Plain, Load, Job, Compaction}
use Rattle.xdb_model.proofs.ListLaws.{all-either, all-from_has, all-has, all-more, pairs-either, pairs-more, pairs-unmap, same-or}
use Rattle.xdb_model.proofs.CrossedLaws.{halves-apart, removed-name}
use Rattle.xdb_model.proofs.EditedLaws.{level-all}
use Rattle.xdb_model.proofs.LevelLaws.{as-many}
use Rattle.xdb_model.proofs.PairLaws.{FitsIn, AtLevel, OffTable, at_level-turned, off-turned, off-within, meets-wider, meets-outer, off_table-turned, edited-at, level-pairs}
use Rattle.xdb_model.proofs.PartLaws.{empty-all, crossed-all, halves-all, part-tells, loaded-all}
use Rattle.xdb_model.proofs.PlaceLaws.{PlacedAt, place-tells, edited-parts, loaded-pairs, same-bounds, OffOps}
use Rattle.xdb_model.specs.Apart.{Pairwise, IsOff, AreApart, IsRange, HasAllAt}

-- ---- a flush adds to L0 alone

flush-low : (P : ℕ × Table → Type 0) (first level : ℕ) (added : List (ℕ × Table)) → 0 < level → is_flushed first added ≡ true → AllByRecursion (λ a. eqb a.0 level ≡ true → P a) added
flush-low P first level [] high is = tt
flush-low P first level (a ∷ []) high is =
    let low = eqb-true a.0 0 (and_parts (eqb a.0 0) (is_physical first a.1) is).0 in
    ((λ here. let at = eqb-true a.0 level here in absurd (omega arith)), tt)
flush-low P first level (a ∷ b ∷ more) high is = absurd (false≢true is)

flush-pairs : (level first : ℕ) (added : List (ℕ × Table)) → is_flushed first added ≡ true → Pairwise (AtLevel level) added
flush-pairs level first [] is = tt
flush-pairs level first (a ∷ []) is = (tt, tt)
flush-pairs level first (a ∷ b ∷ more) is = absurd (false≢true is)

pub flush-fits : (job : Job) (e : Changes) (level : ℕ) (ts : List Table) → 0 < level → IsFlushOf job e → FitsIn e level ts
flush-fits job e level ts high is = record {
  pairs = flush-pairs level job.first e.added is.added;
  across = flush-low (λ a. (t : Table) → Has ts t → removes e level t ≡ false → OffTable a.1 t) job.first level e.added high is.added;
}

pub flush-off_hull : (job : Job) (e : Changes) (level : ℕ) (hull : Bounds) → 0 < level → IsFlushOf job e → AllByRecursion (λ a. eqb a.0 level ≡ true → IsOff hull (bounds_of a.1)) e.added
flush-off_hull job e level hull high is = flush-low (λ a. IsOff hull (bounds_of a.1)) job.first level e.added high is.added

-- ---- a compaction adds within its hull

record OutputAt (c : Compaction) (a : ℕ × Table) : Type 0 where
  at : a.0 ≡ c.level + 1
  within : covers c.hull (bounds_of a.1) ≡ true

outputs-tell : (c : Compaction) (added : List (ℕ × Table)) → list_all (is_output c) added ≡ true → AllByRecursion (OutputAt c) added
outputs-tell c [] outputs = tt
outputs-tell c (a ∷ added) outputs =
    let parts = and_parts (is_output c a) (list_all (is_output c) added) outputs in
    let inside = and_parts (eqb a.0 (c.level + 1) && not a.1.virt) (covers c.hull (bounds_of a.1)) parts.0 in
    let at = and_parts (eqb a.0 (c.level + 1)) (not a.1.virt) inside.0 in
    (record { at = eqb-true a.0 (c.level + 1) at.0; within = inside.1 }, outputs-tell c added parts.1)

-- what stays at its level lies outside of the hull
stays-off : (levels : LevelLists) (c : Compaction) (e : Changes) (level : ℕ) (t : Table) → e.removed ≡ c.inputs → HasAllAt levels c level → Has (tables_of levels level) t → removes e level t ≡ false → IsOff c.hull (bounds_of t)
stays-off levels c e level t removed has_all has stays = elim (cases_Bool (meets c.hull (bounds_of t))) [
  | inl met ↦
      let named = (all-has _ (tables_of levels level) t has has_all met).1 in
      absurd (false≢true (sym stays ∙ ap (list_any (λ (r : ℕ × ℕ). eqb r.0 level && eqb r.1 t.num)) removed ∙ named))
  | inr off ↦ off
]

pub compaction-fits : (levels : LevelLists) (job : Job) (c : Compaction) (e : Changes) (level : ℕ) → IsCompactionOf job c e → AreApart (map (λ a. a.1) e.added) → HasAllAt levels c (c.level + 1) → FitsIn e level (tables_of levels level)
compaction-fits levels job c e level is apart has_all = record {
  pairs = pairs-more (λ a b. OffTable a.1 b.1) (AtLevel level) e.added (λ a b off ha hb. off) (pairs-unmap OffTable (λ a. a.1) e.added apart);
  across = all-more (OutputAt c) _ e.added
      (λ a out here t has stays.
      let at = eqb-true a.0 level here in
      let goes = out.at in
      let same : c.level + 1 ≡ level = omega arith in
      off-within c.hull (bounds_of a.1) (bounds_of t) out.within (stays-off levels c e level t is.removed (subst (HasAllAt levels c) same has_all) has stays))
      (outputs-tell c e.added is.outputs);
}

pub compaction-off_hull : (job : Job) (c : Compaction) (e : Changes) (level : ℕ) (hull : Bounds) → IsCompactionOf job c e → IsOff c.hull hull → AllByRecursion (λ a. eqb a.0 level ≡ true → IsOff hull (bounds_of a.1)) e.added
compaction-off_hull job c e level hull is off =
    all-more (OutputAt c) _ e.added (λ a out here. off-turned (bounds_of a.1) hull (off-within c.hull (bounds_of a.1) hull out.within off)) (outputs-tell c e.added is.outputs)

-- ---- a load's halves

-- a part of a table of the level, which the span meets
halves-at : (P : ℕ × Table → Type 0) (level file : ℕ) (levels : LevelLists) (span : Option Bounds) (parts : List (ℕ × Table)) → are_halves file span (crossed levels span) parts ≡ true
    → ((s : Bounds) (k : ℕ) (t : Table) (x : ℕ × Table) → span ≡ Some s → Has (tables_of levels level) t → meets s (bounds_of t) ≡ true → covers (bounds_of t) (bounds_of x.1) ≡ true → eqb x.0 level ≡ true → P x)
    → AllByRecursion (λ x. eqb x.0 level ≡ true → P x) parts
halves-at P level file levels None parts halves is = empty-all _ parts halves
halves-at P level file levels (Some s) parts halves is =
    halves-all (λ x. eqb x.0 level ≡ true → P x) s (crossed levels (Some s)) (rest file parts)
    (crossed-all (λ old. (k : ℕ) (x : ℕ × Table) → is_part k old x ≡ true → eqb x.0 level ≡ true → P x) s 0 levels
    (λ j i same. all-from_has _ (tables_of levels j)
    (λ t has met k x part here.
    let tells = part-tells k (i, t) x part in
    let at = eqb-true x.0 level here in
    let old = tells.same_level in
    let there : j ≡ level = omega arith in
    is s k t x refl (subst (λ n. Has (tables_of levels n) t) there has) met tells.within here)))
    halves

halves-stay : (level file : ℕ) (levels : LevelLists) (span : Option Bounds) (e : Changes) (parts : List (ℕ × Table)) → are_halves file span (crossed levels span) parts ≡ true → e.removed ≡ removed_by levels span → AreApart (tables_of levels level)
    → AllByRecursion (λ x. eqb x.0 level ≡ true → (t : Table) → Has (tables_of levels level) t → removes e level t ≡ false → OffTable x.1 t) parts
halves-stay level file levels span e parts halves removed apart =
    halves-at (λ x. (t : Table) → Has (tables_of levels level) t → removes e level t ≡ false → OffTable x.1 t) level file levels span parts halves
    (λ s k u x is has met inside here t other stays. elim (same-or OffTable off_table-turned (tables_of levels level) u t apart has other) [
      | inl same ↦
          let named = removed-name levels s level u has met in
          let gone : removes e level u ≡ true = ap (list_any (λ (r : ℕ × ℕ). eqb r.0 level && eqb r.1 u.num)) (removed ∙ ap (removed_by levels) is) ∙ named in
          absurd (false≢true (sym stays ∙ subst (λ v. removes e level v ≡ true) same gone))
      | inr off ↦ off-within (bounds_of u) (bounds_of x.1) (bounds_of t) inside off
    ])

halves-two : (level file : ℕ) (levels : LevelLists) (span : Option Bounds) (parts : List (ℕ × Table)) → are_halves file span (crossed levels span) parts ≡ true → IsRange span → AreApart (tables_of levels level) → Pairwise (AtLevel level) parts
halves-two level file levels None parts halves range apart = empty parts halves
  where
    empty : (xs : List (ℕ × Table)) → is_empty xs ≡ true → Pairwise (AtLevel level) xs
    empty [] none = tt
    empty (x ∷ xs) none = absurd (false≢true none)
halves-two level file levels (Some span) parts halves range apart = halves-apart level file levels span parts range apart halves

-- ---- a load

module _ (p : Plain) (l : Load) (e : Changes) (is : IsInstallOf p l e) (level : ℕ) (high : 0 < level) where
  placed : AllByRecursion (λ a. eqb a.0 level ≡ true → PlacedAt (halved p.current.levels e) (running_hulls p.jobs) level (bounds_of a.1)) (physical_in e)
  placed = loaded-all _ (halved p.current.levels e) (running_hulls p.jobs) l.first p.next l.tables (physical_in e) is.loaded is.no_more
      (λ k t a from to has stands here.
      subst (PlacedAt (halved p.current.levels e) (running_hulls p.jobs) level) (sym (same-bounds (halved p.current.levels e) (running_hulls p.jobs) k t a stands))
      (place-tells (halved p.current.levels e) (running_hulls p.jobs) level _ high (sym (eqb-true a.0 level here) ∙ stands.at)))

  -- what the halves leave there
  left-off : (a : ℕ × Table) → PlacedAt (halved p.current.levels e) (running_hulls p.jobs) level (bounds_of a.1)
      → AllByRecursion (λ v. eqb v.0 level ≡ true → IsOff (bounds_of a.1) (bounds_of v.1)) (virtual_in e) × ((t : Table) → Has (tables_of p.current.levels level) t → removes e level t ≡ false → OffTable a.1 t)
  left-off a at =
      let halving = changes e.removed [] (virtual_in e) in
      let few = at.inside in
      let count = as-many 0 halving p.current.levels in
      let parts = edited-parts (λ t. IsOff (bounds_of a.1) (bounds_of t)) halving p.current.levels level (omega arith) at.free in
      (parts.added, parts.kept)

  own-halves : AllByRecursion (λ a. AllByRecursion (AtLevel level a) (virtual_in e)) (physical_in e)
  own-halves = all-more _ (λ a. AllByRecursion (AtLevel level a) (virtual_in e)) (physical_in e) (λ a at. elim (cases_Bool (eqb a.0 level)) [
    | inl here ↦ all-more _ (AtLevel level a) (virtual_in e) (λ v off h there. off there) (left-off a (at here)).0
    | inr there ↦ all-from_has (AtLevel level a) (virtual_in e) (λ v has here other. absurd (false≢true (sym there ∙ here)))
  ]) placed

  turned-round : AllByRecursion (λ v. AllByRecursion (AtLevel level v) (physical_in e)) (virtual_in e)
  turned-round = all-from_has _ (virtual_in e) (λ v hv. all-from_has _ (physical_in e) (λ a ha.
      at_level-turned level a v (all-has (AtLevel level a) (virtual_in e) v hv (all-has (λ b. AllByRecursion (AtLevel level b) (virtual_in e)) (physical_in e) a ha own-halves))))

  pub install-fits : IsRange l.span → Pairwise OffOps l.tables → AreApart (tables_of p.current.levels level) → FitsIn e level (tables_of p.current.levels level)
  install-fits range tables apart = record {
    pairs = pairs-either (AtLevel level) (λ a. a.1.virt) e.added (at_level-turned level)
        (halves-two level p.file p.current.levels l.span (virtual_in e) is.halves range apart)
        (loaded-pairs level (halved p.current.levels e) (running_hulls p.jobs) l.first p.next l.tables (physical_in e) is.loaded is.no_more tables)
        turned-round;
    across = all-either _ (λ a. a.1.virt) e.added
        (halves-stay level p.file p.current.levels l.span e (virtual_in e) is.halves is.removed apart)
        (all-more _ _ (physical_in e) (λ a at here. (left-off a (at here)).1) placed);
  }

  -- a compaction whose hull the span doesn't meet
  pub install-off_hull : (c : Compaction) → Has (running_hulls p.jobs) c.hull → ((s : Bounds) → l.span ≡ Some s → IsOff c.hull s) → HasAllAt p.current.levels c level → AllByRecursion (λ a. eqb a.0 level ≡ true → IsOff c.hull (bounds_of a.1)) e.added
  install-off_hull c runs off has_all = all-either _ (λ a. a.1.virt) e.added
      (halves-at (λ x. IsOff c.hull (bounds_of x.1)) level p.file p.current.levels l.span (virtual_in e) is.halves
      (λ s k t x spans has met inside here. elim (cases_Bool (meets c.hull (bounds_of x.1))) [
        | inl hits ↦
            let whole = (all-has _ (tables_of p.current.levels level) t has has_all (meets-outer (bounds_of t) (bounds_of x.1) c.hull inside hits)).0 in
            absurd (false≢true (sym (off s spans) ∙ meets-wider c.hull (bounds_of t) s whole (meets-symmetric (bounds_of t) s ∙ met)))
        | inr misses ↦ misses
      ]))
      (all-more _ _ (physical_in e) (λ a at here. off-turned (bounds_of a.1) c.hull (none-of (bounds_of a.1) (running_hulls p.jobs) (at here).none_running runs)) placed)
    where
      none-of : (b : Bounds) (hulls : List Bounds) → list_any (meets b) hulls ≡ false → Has hulls c.hull → IsOff b c.hull
      none-of b hulls none has = all-has (IsOff b) hulls c.hull has (none-any hulls none)
        where
          none-any : (hulls : List Bounds) → list_any (meets b) hulls ≡ false → AllByRecursion (IsOff b) hulls
          none-any [] none = tt
          none-any (h ∷ hulls) none = let parts = or_parts (meets b h) (list_any (meets b) hulls) none in (parts.0, none-any hulls parts.1)

-- ---- levels after an edit that fits

pub apart-at : (levels : LevelLists) (e : Changes) (level : ℕ) → FitsIn e level (tables_of levels level) → AreApart (tables_of levels level) → AreApart (tables_of (edited levels e) level)
apart-at levels e level fits apart = edited-at AreApart e levels 0 level level (omega arith) tt (level-pairs OffTable off_table-turned e level (tables_of levels level) fits apart)

pub all-at : (levels : LevelLists) (e : Changes) (c : Compaction) (level : ℕ) → AllByRecursion (λ a. eqb a.0 level ≡ true → IsOff c.hull (bounds_of a.1)) e.added → HasAllAt levels c level → HasAllAt (edited levels e) c level
all-at levels e c level off has_all =
    edited-at (AllByRecursion _) e levels 0 level level (omega arith) tt
    (level-all _ e level (tables_of levels level) (all-more _ _ e.added (λ a none here met. absurd (false≢true (sym (none here) ∙ met))) off) (λ t has stays. all-has _ (tables_of levels level) t has has_all))
