-- An edit that is read is the edit that was written, and what was written is read again.
use Rattle.std.proofs.Common.{◌≡◌, ℕ, zero, suc, ◌-◌, ◌<◌, ◌≤◌, Bool, true, false, ◌&&◌, ◌||◌, cond, eqb, ltb, List, [], ◌∷◌, ◌++◌, length, map, Option, Result, Ok, Err, refl, sym, ap, subst, ◌∙◌, arith, inl, inr}
use Rattle.std.specs.Prelude.{IfOk}
use Rattle.std.specs.List.{filter_map, flat_map, list_all, AllByRecursion}
use Rattle.std.proofs.lemmas.Bool.{and_parts, and_from, or_cases, ltb-true, eqb-true}
use Rattle.std.proofs.lemmas.List.{append-nil, length-append}
use Rattle.std.proofs.lemmas.List.Elements.{filter_map-append}
use Rattle.xdb_key.specs.Reading.{◌>>=◌, AreBytes}
use Rattle.xdb_key.proofs.ReadingLaws.{bind_ok}
use Rattle.xdb_meta.specs.Table.{Table, IsTable}
use Rattle.xdb_edit.specs.declared.error.EditBad.{EditBad}
use Rattle.xdb_edit.specs.declared.error.EditBad.TheVariants.{BadOrder}
use Rattle.xdb_edit.specs.declared.record.Rank.{Rank}
use Rattle.xdb_edit.specs.declared.record.Record.{Record}
use Rattle.xdb_edit.specs.declared.record.Record.TheVariants.{Removed, NewBacking, Added}
use Rattle.xdb_edit.specs.Changes.{Changes, changes}
use Rattle.xdb_edit.specs.Records.{records_of, removed_in, new_backing_in, added_in, changes_of, rank_of, is_before, front, rises, fits, IsEdit}
use Rattle.xdb_edit.specs.Spelling.{record_bytes, edit_bytes}
use Rattle.xdb_edit.specs.Reading.{Gives, record_at, records_at, edit_at}
use Rattle.xdb_edit.proofs.FieldLaws.{ok_is}
use Rattle.xdb_edit.proofs.RecordLaws.{HasTable, record_takes, record_again, record_bytes-some}

-- ---- an edit and its records

removed_of-removed : (xs : List (ℕ × ℕ)) → filter_map removed_in (map (λ p. Removed p.0 p.1) xs) ≡ xs
removed_of-removed [] = refl
removed_of-removed (x ∷ xs) = ap (λ ys. x ∷ ys) (removed_of-removed xs)

removed_of-new : (xs : List ℕ) → filter_map removed_in (map NewBacking xs) ≡ []
removed_of-new [] = refl
removed_of-new (x ∷ xs) = removed_of-new xs

removed_of-added : (xs : List (ℕ × Table)) → filter_map removed_in (map (λ p. Added p.0 p.1) xs) ≡ []
removed_of-added [] = refl
removed_of-added (x ∷ xs) = removed_of-added xs

new_of-removed : (xs : List (ℕ × ℕ)) → filter_map new_backing_in (map (λ p. Removed p.0 p.1) xs) ≡ []
new_of-removed [] = refl
new_of-removed (x ∷ xs) = new_of-removed xs

new_of-new : (xs : List ℕ) → filter_map new_backing_in (map NewBacking xs) ≡ xs
new_of-new [] = refl
new_of-new (x ∷ xs) = ap (λ ys. x ∷ ys) (new_of-new xs)

new_of-added : (xs : List (ℕ × Table)) → filter_map new_backing_in (map (λ p. Added p.0 p.1) xs) ≡ []
new_of-added [] = refl
new_of-added (x ∷ xs) = new_of-added xs

added_of-removed : (xs : List (ℕ × ℕ)) → filter_map added_in (map (λ p. Removed p.0 p.1) xs) ≡ []
added_of-removed [] = refl
added_of-removed (x ∷ xs) = added_of-removed xs

added_of-new : (xs : List ℕ) → filter_map added_in (map NewBacking xs) ≡ []
added_of-new [] = refl
added_of-new (x ∷ xs) = added_of-new xs

added_of-added : (xs : List (ℕ × Table)) → filter_map added_in (map (λ p. Added p.0 p.1) xs) ≡ xs
added_of-added [] = refl
added_of-added (x ∷ xs) = ap (λ ys. x ∷ ys) (added_of-added xs)

in_three : {A : Type 0} (f : Record → Option A) (a b c : List Record) (x y z : List A) → filter_map f a ≡ x → filter_map f b ≡ y → filter_map f c ≡ z → filter_map f (a ++ b ++ c) ≡ x ++ y ++ z
in_three f a b c x y z p q r = filter_map-append f (a ++ b) c ∙ ap (λ l. l ++ filter_map f c) (filter_map-append f a b) ∙ (λ i. p i ++ q i ++ r i)

-- the edit with the records of an edit is that edit
pub changes_of-records_of : (e : Changes) → changes_of (records_of e) ≡ e
changes_of-records_of e =
    let a = map (λ p. Removed p.0 p.1) e.removed in
    let b = map NewBacking e.new_backings in
    let c = map (λ p. Added p.0 p.1) e.added in
    let removed = in_three removed_in a b c e.removed [] [] (removed_of-removed e.removed) (removed_of-new e.new_backings) (removed_of-added e.added) ∙ append-nil (e.removed ++ []) ∙ append-nil e.removed in
    let new_backings = in_three new_backing_in a b c [] e.new_backings [] (new_of-removed e.removed) (new_of-new e.new_backings) (new_of-added e.added) ∙ append-nil e.new_backings in
    let added = in_three added_in a b c [] [] e.added (added_of-removed e.removed) (added_of-new e.new_backings) (added_of-added e.added) in
    λ i. changes (removed i) (new_backings i) (added i)

before-kind : (a b : Rank) → is_before a b ≡ true → a.kind ≤ b.kind
before-kind a b h = elim (or_cases (ltb a.kind b.kind) (eqb a.kind b.kind && (ltb a.level b.level || (eqb a.level b.level && ltb a.num b.num))) h) [
  | inl less ↦ let below = ltb-true a.kind b.kind less in omega arith
  | inr same ↦ let is = eqb-true a.kind b.kind (and_parts (eqb a.kind b.kind) (ltb a.level b.level || (eqb a.level b.level && ltb a.num b.num)) same).0 in omega arith
]

no_removed : (last : Rank) (rs : List Record) → 2 ≤ last.kind → rises last rs ≡ true → filter_map removed_in rs ≡ []
no_removed last [] kind h = refl
no_removed last (Removed level num ∷ rs) kind h =
    let p = and_parts (is_before last (rank_of (Removed level num))) (rises (rank_of (Removed level num)) rs) h in
    let up = before-kind last (rank_of (Removed level num)) p.0 in
    absurd (omega arith)
no_removed last (NewBacking num ∷ rs) kind h =
    let p = and_parts (is_before last (rank_of (NewBacking num))) (rises (rank_of (NewBacking num)) rs) h in
    no_removed (rank_of (NewBacking num)) rs (omega arith) p.1
no_removed last (Added level t ∷ rs) kind h =
    let p = and_parts (is_before last (rank_of (Added level t))) (rises (rank_of (Added level t)) rs) h in
    no_removed (rank_of (Added level t)) rs (omega arith) p.1

no_new : (last : Rank) (rs : List Record) → 3 ≤ last.kind → rises last rs ≡ true → filter_map new_backing_in rs ≡ []
no_new last [] kind h = refl
no_new last (Removed level num ∷ rs) kind h =
    let p = and_parts (is_before last (rank_of (Removed level num))) (rises (rank_of (Removed level num)) rs) h in
    let up = before-kind last (rank_of (Removed level num)) p.0 in
    absurd (omega arith)
no_new last (NewBacking num ∷ rs) kind h =
    let p = and_parts (is_before last (rank_of (NewBacking num))) (rises (rank_of (NewBacking num)) rs) h in
    let up = before-kind last (rank_of (NewBacking num)) p.0 in
    absurd (omega arith)
no_new last (Added level t ∷ rs) kind h =
    let p = and_parts (is_before last (rank_of (Added level t))) (rises (rank_of (Added level t)) rs) h in
    no_new (rank_of (Added level t)) rs (omega arith) p.1

abbrev three : List (ℕ × ℕ) → List ℕ → List (ℕ × Table) → List Record
three a b c = records_of (changes a b c)

-- records that rise are those of the edit that has them
pub records_of-changes_of : (last : Rank) (rs : List Record) → rises last rs ≡ true → records_of (changes_of rs) ≡ rs
records_of-changes_of last [] h = refl
records_of-changes_of last (Removed level num ∷ rs) h =
    let p = and_parts (is_before last (rank_of (Removed level num))) (rises (rank_of (Removed level num)) rs) h in
    ap (λ l. Removed level num ∷ l) (records_of-changes_of (rank_of (Removed level num)) rs p.1)
records_of-changes_of last (NewBacking num ∷ rs) h =
    let p = and_parts (is_before last (rank_of (NewBacking num))) (rises (rank_of (NewBacking num)) rs) h in
    let none = no_removed (rank_of (NewBacking num)) rs (omega arith) p.1 in
    let rest = records_of-changes_of (rank_of (NewBacking num)) rs p.1 in
    let news = filter_map new_backing_in rs in
    let adds = filter_map added_in rs in
    let rest' : three [] news adds ≡ rs = ap (λ l. three l news adds) (sym none) ∙ rest in
    ap (λ l. three l (num ∷ news) adds) none ∙ ap (λ l. NewBacking num ∷ l) rest'
records_of-changes_of last (Added level t ∷ rs) h =
    let p = and_parts (is_before last (rank_of (Added level t))) (rises (rank_of (Added level t)) rs) h in
    let none = no_removed (rank_of (Added level t)) rs (omega arith) p.1 in
    let no = no_new (rank_of (Added level t)) rs (omega arith) p.1 in
    let rest = records_of-changes_of (rank_of (Added level t)) rs p.1 in
    let adds = filter_map added_in rs in
    let rest' : three [] [] adds ≡ rs = (λ i. three (sym none i) (sym no i) adds) ∙ rest in
    (λ i. three (none i) (no i) ((level, t) ∷ adds)) ∙ ap (λ l. Added level t ∷ l) rest'

-- ---- their tables

tables_in : (rs : List Record) → AllByRecursion HasTable rs → AllByRecursion (λ (p : ℕ × Table). IsTable p.1) (filter_map added_in rs)
tables_in [] h = tt
tables_in (Removed level num ∷ rs) h = tables_in rs h.1
tables_in (NewBacking num ∷ rs) h = tables_in rs h.1
tables_in (Added level t ∷ rs) h = (h.0, tables_in rs h.1)

all_then : (xs ys : List Record) → AllByRecursion HasTable xs → AllByRecursion HasTable ys → AllByRecursion HasTable (xs ++ ys)
all_then [] ys h g = g
all_then (x ∷ xs) ys h g = (h.0, all_then xs ys h.1 g)

in_removed : (xs : List (ℕ × ℕ)) → AllByRecursion HasTable (map (λ p. Removed p.0 p.1) xs)
in_removed [] = tt
in_removed (x ∷ xs) = (tt, in_removed xs)

in_new : (xs : List ℕ) → AllByRecursion HasTable (map NewBacking xs)
in_new [] = tt
in_new (x ∷ xs) = (tt, in_new xs)

in_added : (xs : List (ℕ × Table)) → AllByRecursion (λ (p : ℕ × Table). IsTable p.1) xs → AllByRecursion HasTable (map (λ p. Added p.0 p.1) xs)
in_added [] h = tt
in_added (x ∷ xs) h = (h.0, in_added xs h.1)

tables_of : (e : Changes) → AllByRecursion (λ (p : ℕ × Table). IsTable p.1) e.added → AllByRecursion HasTable (records_of e)
tables_of e h = all_then _ _ (all_then _ _ (in_removed e.removed) (in_new e.new_backings)) (in_added e.added h)

-- ---- record after record

abbrev pub next_at : ℕ → Rank → ℕ → List ℕ → (Record × List ℕ) → Result (List Record) EditBad
next_at most last len bytes r = cond (is_before last (rank_of r.0)) (records_at most (rank_of r.0) len r.1) (Err (BadOrder (len - length bytes)))

abbrev pub step_at : ℕ → Rank → ℕ → List ℕ → Result (List Record) EditBad
step_at most last len bytes = record_at len bytes >>= λ r. next_at most last len bytes r >>= λ rs. Ok (r.0 ∷ rs)

pub records_at-nil : (most : ℕ) (last : Rank) (len : ℕ) → records_at most last len [] ≡ Ok []
unfolding records_at
records_at-nil zero last len = refl
records_at-nil (suc most) last len = refl

pub records_at-step : (most : ℕ) (last : Rank) (len : ℕ) (bytes : List ℕ) → 1 ≤ length bytes → records_at (suc most) last len bytes ≡ step_at most last len bytes
unfolding records_at
records_at-step most last len [] some = absurd (omega arith)
records_at-step most last len (b ∷ bs) some = refl

order_ok : {A : Type 0} {y : A} (b : Bool) (r : Result A EditBad) (d : EditBad) → cond b r (Err d) ≡ Ok y → (b ≡ true) × (r ≡ Ok y)
order_ok true r d e = (refl, e)
order_ok false r d e = absurd cc

-- what a record leaves is shorter
pub record-shorter : (len : ℕ) (bytes : List ℕ) (x : Record × List ℕ) → AreBytes bytes → record_at len bytes ≡ Ok x → length x.1 < length bytes
record-shorter len bytes x fits e =
    let t = record_takes len bytes x fits e in
    let some = record_bytes-some x.0 in
    omega (arith, ap length t.taken.parts, length-append (record_bytes x.0) x.1)

-- what records were read as
record AreRead (last : Rank) (bytes : List ℕ) (rs : List Record) : Type 0 where
  spelled : bytes ≡ flat_map record_bytes rs
  order : rises last rs ≡ true
  ranges : list_all fits rs ≡ true
  tables : AllByRecursion HasTable rs

records_take : (most : ℕ) (last : Rank) (len : ℕ) (bytes : List ℕ) (rs : List Record) → AreBytes bytes → length bytes ≤ most → records_at most last len bytes ≡ Ok rs → AreRead last bytes rs
records_take most last len [] rs fits enough e =
    subst (AreRead last []) (ok_is [] rs (sym (records_at-nil most last len) ∙ e)) (record { spelled = refl; order = refl; ranges = refl; tables = tt })
records_take zero last len (b ∷ bs) rs fits enough e = absurd (omega arith)
records_take (suc most) last len (b ∷ bs) rs fits enough e =
    let bytes : List ℕ = b ∷ bs in
    let step = sym (records_at-step most last len bytes (omega arith)) ∙ e in
    let a = bind_ok (record_at len bytes) (λ r. next_at most last len bytes r >>= λ l. Ok (r.0 ∷ l)) step in
    let c = bind_ok (next_at most last len bytes a.0) (λ l. Ok (a.0.0 ∷ l)) a.2 in
    let o = order_ok (is_before last (rank_of a.0.0)) (records_at most (rank_of a.0.0) len a.0.1) (BadOrder (len - length bytes)) c.1 in
    let one = record_takes len bytes a.0 fits a.1 in
    let shorter = record-shorter len bytes a.0 fits a.1 in
    let rest = records_take most (rank_of a.0.0) len a.0.1 c.0 one.taken.fits (omega arith) o.1 in
    let all : AreRead last bytes (a.0.0 ∷ c.0) = record {
      spelled = one.taken.parts ∙ ap (λ l. record_bytes a.0.0 ++ l) rest.spelled;
      order = and_from _ _ o.0 rest.order;
      ranges = and_from _ _ one.in_range rest.ranges;
      tables = (one.has, rest.tables);
    } in
    subst (AreRead last bytes) (ok_is (a.0.0 ∷ c.0) rs c.2) all

records_again : (most : ℕ) (last : Rank) (len : ℕ) (rs : List Record) → length (flat_map record_bytes rs) ≤ most → rises last rs ≡ true → list_all fits rs ≡ true → AllByRecursion HasTable rs → records_at most last len (flat_map record_bytes rs) ≡ Ok rs
records_again most last len [] enough order ranges tables = records_at-nil most last len
records_again zero last len (r ∷ rs) enough order ranges tables =
    let some = record_bytes-some r in
    absurd (omega (arith, length-append (record_bytes r) (flat_map record_bytes rs)))
records_again (suc most) last len (r ∷ rs) enough order ranges tables =
    let some = record_bytes-some r in
    let rest = flat_map record_bytes rs in
    let long = length-append (record_bytes r) rest in
    let o = and_parts (is_before last (rank_of r)) (rises (rank_of r) rs) order in
    let f = and_parts (fits r) (list_all fits rs) ranges in
    let at : ℕ = len - length (record_bytes r ++ rest) in
    let go : (Record × List ℕ) → Result (List Record) EditBad = λ x. next_at most last len (record_bytes r ++ rest) x >>= λ l. Ok (x.0 ∷ l) in
    records_at-step most last len (record_bytes r ++ rest) (omega (arith, long)) ∙ ap (λ x. x >>= go) (record_again len r rest f.0 tables.0)
    ∙ ap (λ b. cond b (records_at most (rank_of r) len rest) (Err (BadOrder at)) >>= λ l. Ok (r ∷ l)) o.0
    ∙ ap (λ x. x >>= λ l. Ok (r ∷ l)) (records_again most (rank_of r) len rs (omega (arith, long)) o.1 f.1 tables.1)

-- two steps agree where what they go on with does
same_step : (m n : ℕ) (last : Rank) (len : ℕ) (bytes : List ℕ) (r : Result (Record × List ℕ) EditBad) → AreBytes bytes → length bytes ≤ suc m → length bytes ≤ suc n → record_at len bytes ≡ r
    → ((next : Rank) (rest : List ℕ) → AreBytes rest → length rest ≤ m → length rest ≤ n → records_at m next len rest ≡ records_at n next len rest)
    → (r >>= λ x. next_at m last len bytes x >>= λ rs. Ok (x.0 ∷ rs)) ≡ (r >>= λ x. next_at n last len bytes x >>= λ rs. Ok (x.0 ∷ rs))
same_step m n last len bytes (Err e) fits le le' is again = refl
same_step m n last len bytes (Ok x) fits le le' is again =
    let shorter = record-shorter len bytes x fits is in
    let one = record_takes len bytes x fits is in
    ap (λ l. cond (is_before last (rank_of x.0)) l (Err (BadOrder (len - length bytes))) >>= λ rs. Ok (x.0 ∷ rs)) (again (rank_of x.0) x.1 one.taken.fits (omega arith) (omega arith))

-- how many records there may be is nothing, where it is enough
pub enough : (m n : ℕ) (last : Rank) (len : ℕ) (bytes : List ℕ) → AreBytes bytes → length bytes ≤ m → length bytes ≤ n → records_at m last len bytes ≡ records_at n last len bytes
enough m n last len [] fits le le' = records_at-nil m last len ∙ sym (records_at-nil n last len)
enough zero n last len (b ∷ bs) fits le le' = absurd (omega arith)
enough (suc m) zero last len (b ∷ bs) fits le le' = absurd (omega arith)
enough (suc m) (suc n) last len (b ∷ bs) fits le le' =
    records_at-step m last len (b ∷ bs) (omega arith)
    ∙ same_step m n last len (b ∷ bs) (record_at len (b ∷ bs)) fits le le' refl (λ next rest are few few'. enough m n next len rest are few few')
    ∙ sym (records_at-step n last len (b ∷ bs) (omega arith))

-- ---- the two laws

pub edit_takes : (bytes : List ℕ) (e : Changes) → AreBytes bytes → edit_at bytes ≡ Ok e → IsEdit e × (bytes ≡ edit_bytes e)
unfolding edit_at
edit_takes bytes e are h =
    let a = bind_ok (records_at (length bytes) front (length bytes) bytes) (λ rs. Ok (changes_of rs)) h in
    let read = records_take (length bytes) front (length bytes) bytes a.0 are (omega arith) a.1 in
    let back = records_of-changes_of front a.0 read.order in
    let is : IsEdit (changes_of a.0) = record {
      order = ap (rises front) back ∙ read.order;
      ranges = ap (list_all fits) back ∙ read.ranges;
      tables = tables_in a.0 read.tables;
    } in
    let spelled : bytes ≡ edit_bytes (changes_of a.0) = read.spelled ∙ ap (flat_map record_bytes) (sym back) in
    subst (λ x. IsEdit x × (bytes ≡ edit_bytes x)) (ok_is (changes_of a.0) e a.2) (is, spelled)

pub edit_again : (e : Changes) → IsEdit e → edit_at (edit_bytes e) ≡ Ok e
unfolding edit_at
edit_again e h =
    let bytes = edit_bytes e in
    ap (λ r. r >>= λ rs. Ok (changes_of rs)) (records_again (length bytes) front (length bytes) (records_of e) (omega arith) h.order h.ranges (tables_of e h.tables)) ∙ ap Ok (changes_of-records_of e)

-- what a reader answered was found
pub edit_found : (bytes : List ℕ) (r : Result Changes EditBad) → AreBytes bytes → Gives (λ x. x) r (edit_at bytes) → IfOk r (λ e. IsEdit e × (bytes ≡ edit_bytes e))
edit_found bytes (Ok e) are h = edit_takes bytes e are h
edit_found bytes (Err x) are h = tt
