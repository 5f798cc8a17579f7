-- What the edit of a load adds: parts of the tables that its span meets, and its own tables.
use Rattle.std.proofs.Common.{◌≡◌, ℕ, suc, ◌+◌, ◌<◌, ◌≤◌, Bool, true, false, cond, not, eqb, ◌&&◌, List, [], ◌∷◌, ◌++◌, length, map, refl, sym, ap, subst, ◌∙◌, inl, inr, arith}
use Rattle.std.proofs.lemmas.Bool.{false≢true, and_parts, and_from, or_cases, or_left, or_right, cases_Bool, not-true, eqb-true}
use Rattle.std.specs.List.{list_any, AllByRecursion, flat_map, enumerate_from}
use Rattle.xdb_rangedel.specs.Members.{Has}
use Rattle.xdb_rangedel.proofs.NewestLaws.{same_key-tells}
use Rattle.xdb_key.specs.Bounds.{Bounds, meets, covers}
use Rattle.xdb_key.specs.Order.{is_upto}
use Rattle.xdb_meta.specs.Table.{Table, bounds_of}
use Rattle.xdb_edit.specs.Plans.{meeting, place}
use Rattle.xdb_edit.specs.Versions.{LevelLists, tables_of}
use Rattle.xdb_plain.specs.Edits.{is_empty, is_part, is_left, is_right, is_physical, is_loaded, are_loaded, crossed_in, Rest, rest, behind, behind_halves}
use Rattle.xdb_plain.specs.State.{same_name}
use Rattle.xdb_plain.specs.Tables.{TableOps, table_bounds, same_bounds}
use Rattle.xdb_model.proofs.ListLaws.{all-append}

-- ---- the tables that a span meets

met-all : (P : ℕ × Table → Type 0) (level : ℕ) (span : Bounds) (ts : List Table) → AllByRecursion (λ t. meets span (bounds_of t) ≡ true → P (level, t)) ts → AllByRecursion P (map (λ t. (level, t)) (meeting span ts))
met-all P level span [] all = tt
met-all P level span (t ∷ ts) all = by-test (meets span (bounds_of t)) all.0 (met-all P level span ts all.1)
  where
    by-test : (b : Bool) → (b ≡ true → P (level, t)) → AllByRecursion P (map (λ t. (level, t)) (meeting span ts)) → AllByRecursion P (map (λ t. (level, t)) (cond b (t ∷ meeting span ts) (meeting span ts)))
    by-test true is more = (is refl, more)
    by-test false is more = more

pub crossed-all : (P : ℕ × Table → Type 0) (span : Bounds) (base : ℕ) (levels : LevelLists) → ((j i : ℕ) → i ≡ base + j → AllByRecursion (λ t. meets span (bounds_of t) ≡ true → P (i, t)) (tables_of levels j))
    → AllByRecursion P (flat_map (λ l. crossed_in l span) (enumerate_from base levels))
crossed-all P span base [] all = tt
crossed-all P span base (ts ∷ levels) all =
    all-append P (map (λ t. (base, t)) (meeting span ts)) (flat_map (λ l. crossed_in l span) (enumerate_from (base + 1) levels)) (met-all P base span ts (all 0 base (omega arith)))
    (crossed-all P span (base + 1) levels (λ j i is. all (suc j) i (omega arith)))

-- ---- halves

pub empty-all : {A : Type 0} (P : A → Type 0) (xs : List A) → is_empty xs ≡ true → AllByRecursion P xs
empty-all P [] none = tt
empty-all P (x ∷ xs) none = absurd (false≢true none)

pub behind-all : (P : ℕ × Table → Type 0) (half : ℕ → ℕ × Table → Bool) (num : ℕ) (parts : List (ℕ × Table)) → ((k : ℕ) (x : ℕ × Table) → half k x ≡ true → P x) → AllByRecursion P (behind half (rest num parts)).parts → AllByRecursion P parts
behind-all P half num [] is all = tt
behind-all P half num (x ∷ xs) is all = by-test (half num x) (is num x) all
  where
    by-test : (t : Bool) → (t ≡ true → P x) → AllByRecursion P (cond t (rest (num + 1) xs) (rest num (x ∷ xs))).parts → AllByRecursion P (x ∷ xs)
    by-test true is all = (is refl, all)
    by-test false is all = all

-- each part is one of a table that the span meets
pub halves-all : (P : ℕ × Table → Type 0) (span : Bounds) (olds : List (ℕ × Table)) (r : Rest) → AllByRecursion (λ old. (k : ℕ) (x : ℕ × Table) → is_part k old x ≡ true → P x) olds → is_empty (behind_halves span olds r).parts ≡ true → AllByRecursion P r.parts
halves-all P span [] r all none = empty-all P r.parts none
halves-all P span (old ∷ olds) r all none =
    let left = behind (λ k. is_left span k old) r in
    let right = behind (λ k. is_right span k old) left in
    let later : AllByRecursion P right.parts = halves-all P span olds right all.1 none in
    let lefts : AllByRecursion P left.parts = behind-all P (λ k. is_right span k old) left.num left.parts (λ k x is. all.0 k x (and_parts (is_part k old x) (is_upto span.hi x.1.lo) is).0) later in
    behind-all P (λ k. is_left span k old) r.num r.parts (λ k x is. all.0 k x (and_parts (is_part k old x) (is_upto x.1.hi span.lo) is).0) lefts

-- what a part has of its table
pub record IsPartOf (old new : ℕ × Table) : Type 0 where
  pub same_level : new.0 ≡ old.0
  pub same_backing : new.1.backing ≡ old.1.backing
  pub within : covers (bounds_of old.1) (bounds_of new.1) ≡ true

pub part-tells : (num : ℕ) (old new : ℕ × Table) → is_part num old new ≡ true → IsPartOf old new
part-tells num old new is =
    let size = and_parts _ (covers (bounds_of old.1) (bounds_of new.1)) is in
    let synthetic = and_parts _ _ size.0 in
    let hi = and_parts _ _ synthetic.0 in
    let lo = and_parts _ _ hi.0 in
    let seqs = and_parts _ _ lo.0 in
    let backing = and_parts _ (eqb new.1.backing old.1.backing) seqs.0 in
    let virt = and_parts _ new.1.virt backing.0 in
    let level = and_parts (eqb new.0 old.0) _ virt.0 in
    record { same_level = eqb-true new.0 old.0 level.0; same_backing = eqb-true new.1.backing old.1.backing backing.1; within = size.1 }

-- ---- a load's own tables

pub record IsLoadedAs (levels : LevelLists) (running : List Bounds) (num : ℕ) (t : TableOps) (a : ℕ × Table) : Type 0 where
  pub at : a.0 ≡ place levels running (table_bounds t)
  pub same_num : a.1.num ≡ num
  pub in_own_file : a.1.virt ≡ false
  pub same_lo : a.1.lo ≡ (table_bounds t).lo
  pub same_hi : a.1.hi ≡ (table_bounds t).hi

abbrev pub stands_for : LevelLists → List Bounds → ℕ → ℕ → TableOps → ℕ × Table → Bool
stands_for levels running num seq t a = eqb a.0 (place levels running (table_bounds t)) && is_loaded num t seq a

pub loaded-tells : (levels : LevelLists) (running : List Bounds) (num seq : ℕ) (t : TableOps) (a : ℕ × Table) → stands_for levels running num seq t a ≡ true → IsLoadedAs levels running num t a
loaded-tells levels running num seq t a is =
    let parts = and_parts (eqb a.0 (place levels running (table_bounds t))) (is_loaded num t seq a) is in
    let synthetic = and_parts _ (eqb a.1.synthetic seq) parts.1 in
    let hi = and_parts _ (eqb a.1.seq_hi seq) synthetic.0 in
    let lo = and_parts _ (eqb a.1.seq_lo seq) hi.0 in
    let range = and_parts (is_physical num a.1) (same_bounds (bounds_of a.1) (table_bounds t)) lo.0 in
    let own = and_parts (eqb a.1.num num) (not a.1.virt) range.0 in
    let ends = and_parts (same_name a.1.lo (table_bounds t).lo) (same_name a.1.hi (table_bounds t).hi) range.1 in
    record {
      at = eqb-true a.0 (place levels running (table_bounds t)) parts.0;
      same_num = eqb-true a.1.num num own.0;
      in_own_file = not-true a.1.virt own.1;
      same_lo = same_key-tells a.1.lo (table_bounds t).lo ends.0;
      same_hi = same_key-tells a.1.hi (table_bounds t).hi ends.1;
    }

-- one that passes, and those before and behind it
pub record Picked {A : Type 0} (test : A → Bool) (xs : List A) : Type 0 where
  pub front : List A
  pub one : A
  pub back : List A
  pub split : xs ≡ front ++ one ∷ back
  pub passes : test one ≡ true

pub picked : {A : Type 0} (test : A → Bool) (xs : List A) → list_any test xs ≡ true → Picked test xs
picked test [] some = absurd (false≢true some)
picked test (x ∷ xs) some = elim (or_cases (test x) (list_any test xs) some) [
  | inl here ↦ record { front = []; one = x; back = xs; split = refl; passes = here }
  | inr later ↦
      let p = picked test xs later in
      record { front = x ∷ p.front; one = p.one; back = p.back; split = ap (λ l. x ∷ l) p.split; passes = p.passes }
]

any-left : {A : Type 0} (test : A → Bool) (front : List A) (one : A) (back : List A) → test one ≡ false → list_any test (front ++ one ∷ back) ≡ true → list_any test (front ++ back) ≡ true
any-left test [] one back off some = elim (or_cases (test one) (list_any test back) some) [ inl here ↦ absurd (false≢true (sym off ∙ here)) | inr later ↦ later ]
any-left test (x ∷ front) one back off some = elim (or_cases (test x) (list_any test (front ++ one ∷ back)) some) [
  | inl here ↦ or_left (test x) (list_any test (front ++ back)) here
  | inr later ↦ or_right (test x) (list_any test (front ++ back)) (any-left test front one back off later)
]

-- a table of a lesser number stands for none of those behind
pub loaded-left : (levels : LevelLists) (running : List Bounds) (num seq : ℕ) (ts : List TableOps) (front : List (ℕ × Table)) (a : ℕ × Table) (back : List (ℕ × Table)) → a.1.num < num → are_loaded levels running num seq ts (front ++ a ∷ back) ≡ true → are_loaded levels running num seq ts (front ++ back) ≡ true
loaded-left levels running num seq [] front a back low all = refl
loaded-left levels running num seq (t ∷ ts) front a back low all =
    let parts = and_parts (list_any (stands_for levels running num seq t) (front ++ a ∷ back)) (are_loaded levels running (num + 1) seq ts (front ++ a ∷ back)) all in
    let off : stands_for levels running num seq t a ≡ false = elim (cases_Bool (stands_for levels running num seq t a)) [
      | inl is ↦ let same = (loaded-tells levels running num seq t a is).same_num in absurd (omega arith)
      | inr other ↦ other
    ] in
    and_from _ _ (any-left (stands_for levels running num seq t) front a back off parts.0) (loaded-left levels running (num + 1) seq ts front a back (omega arith) parts.1)

pub insert-length : {A : Type 0} (front : List A) (one : A) (back : List A) → length (front ++ one ∷ back) ≡ suc (length (front ++ back))
insert-length [] one back = refl
insert-length (x ∷ front) one back = ap suc (insert-length front one back)

all-insert : {A : Type 0} (P : A → Type 0) (front : List A) (one : A) (back : List A) → P one → AllByRecursion P (front ++ back) → AllByRecursion P (front ++ one ∷ back)
all-insert P [] one back is all = (is, all)
all-insert P (x ∷ front) one back is all = (all.0, all-insert P front one back is all.1)

-- as many tables as are to be loaded, each for another one: none stands for nothing
pub loaded-all : (P : ℕ × Table → Type 0) (levels : LevelLists) (running : List Bounds) (num seq : ℕ) (ts : List TableOps) (added : List (ℕ × Table)) → are_loaded levels running num seq ts added ≡ true → length added ≡ length ts
    → ((k : ℕ) (t : TableOps) (a : ℕ × Table) → num ≤ k → k < num + length ts → Has ts t → IsLoadedAs levels running k t a → P a) → AllByRecursion P added
loaded-all P levels running num seq [] [] all as_many is = tt
loaded-all P levels running num seq [] (a ∷ added) all as_many is = absurd (omega arith)
loaded-all P levels running num seq (t ∷ ts) added all as_many is =
    let parts = and_parts (list_any (stands_for levels running num seq t) added) (are_loaded levels running (num + 1) seq ts added) all in
    let p = picked (stands_for levels running num seq t) added parts.0 in
    let first = loaded-tells levels running num seq t p.one p.passes in
    let low = first.same_num in
    let others = loaded-left levels running (num + 1) seq ts p.front p.one p.back (omega arith) (subst (λ l. are_loaded levels running (num + 1) seq ts l ≡ true) p.split parts.1) in
    let one_less = insert-length p.front p.one p.back in
    let count = ap length p.split in
    let behind = loaded-all P levels running (num + 1) seq ts (p.front ++ p.back) others (omega arith) (λ k u a from to has. is k u a (omega arith) (omega arith) (inr has)) in
    subst (AllByRecursion P) (sym p.split) (all-insert P p.front p.one p.back (is num t p.one (omega arith) (omega arith) (inl refl) first) behind)
