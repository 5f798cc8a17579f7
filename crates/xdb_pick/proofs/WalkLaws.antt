-- The walks over tables and over levels: what is left says what the whole says.
use Rattle.std.proofs.Common.{◌≡◌, ℕ, zero, suc, ◌+◌, ◌-◌, ◌<◌, ◌≤◌, ◌^◌, Bool, true, false, ◌||◌, cond, ltb, List, [], ◌∷◌, ◌++◌, length, get_or, take, drop, map, sum, filter, Some, None, Bor, refl, sym, ap, ◌∙◌, append_assoc, arith}
use Rattle.std.specs.List.{list_all, list_any, flat_map}
use Rattle.std.proofs.lemmas.Bool.{lt-ltb}
use Rattle.std.proofs.lemmas.List.{drop_more, drop_all, take_more, append-nil, length-take-le, get_or-take, get_or-map, length-map, map-append}
use Rattle.std.proofs.lemmas.List.Elements.{filter-append}
use Rattle.std.proofs.lemmas.List.Sums.{AllPass-from_list_all, sum_by-cons, sum_by-append}
use Rattle.xdb_key.specs.Bounds.{Bounds, meets}
use Rattle.xdb_meta.specs.Table.{Table, bounds_of}
use Rattle.xdb_lists.proofs.SortedLaws.{all_put_all_in}
use Rattle.xdb_edit.specs.Plans.{Planned, hull_over, meeting, num_cmp, in_turn, plan_for, plan_of_first, pick_from, pick, free_levels}
use Rattle.xdb_edit.specs.Versions.{LevelLists, tables_of, or_else}
use Rattle.xdb_levels.proofs.LevelLaws.{tables_of-get_or}
use Rattle.xdb_pick.specs.Hulls.{hull_of, hull_with, lent, lent_name, wider}
use Rattle.xdb_pick.specs.Trying.{plan_of_due, IsTableOf, AreTablesOf}

-- the element at a place, before what is behind it
pub split_at : {X : Type 0} (xs : List X) (i : ℕ) (x : X) → i < length xs → x ≡ get_or xs i x → drop i xs ≡ x ∷ drop (i + 1) xs
split_at xs i x l read = drop_more xs i x l ∙ ap (λ y. y ∷ drop (i + 1) xs) (sym read)

pub level_at : (v : LevelLists) (i : ℕ) → i < length v → drop i v ≡ tables_of v i ∷ drop (i + 1) v
level_at v i l = drop_more v i [] l ∙ ap (λ ts. ts ∷ drop (i + 1) v) (sym (tables_of-get_or v i))

-- ---- tests over what meets a range

abbrev has_some : {X : Type 0} → List X → Bool
has_some [] = false
has_some (x ∷ xs) = true

any_filter : {X : Type 0} (p : X → Bool) (xs : List X) → list_any p xs ≡ has_some (filter p xs)
any_filter p [] = refl
any_filter p (x ∷ xs) = by_case (p x) (any_filter p xs)
  where
    by_case : (b : Bool) → list_any p xs ≡ has_some (filter p xs) → (b || list_any p xs) ≡ has_some (cond b (x ∷ filter p xs) (filter p xs))
    by_case true rest = refl
    by_case false rest = rest

pub any_meeting : (b : Bounds) (xs ys : List Table) → meeting b xs ≡ meeting b ys → list_any (λ t. meets b (bounds_of t)) xs ≡ list_any (λ t. meets b (bounds_of t)) ys
any_meeting b xs ys same =
    let p : Table → Bool = λ t. meets b (bounds_of t) in
    any_filter p xs ∙ ap has_some same ∙ sym (any_filter p ys)

-- ---- free levels

pub level_free : (v : LevelLists) (b : Bounds) (i : ℕ) → i < length v → list_any (λ t. meets b (bounds_of t)) (tables_of v i) ≡ false → free_levels v b ≡ i + free_levels (drop i v) b → free_levels v b ≡ i + 1 + free_levels (drop (i + 1) v) b
level_free v b i l free so_far =
    let here : free_levels (drop i v) b ≡ suc (free_levels (drop (i + 1) v) b) =
    ap (λ ls. free_levels ls b) (level_at v i l) ∙ ap (λ (t : Bool). cond t 0 (suc (free_levels (drop (i + 1) v) b))) free in
    so_far ∙ ap (λ n. i + n) here ∙ omega arith

pub level_met : (v : LevelLists) (b : Bounds) (i : ℕ) → i < length v → list_any (λ t. meets b (bounds_of t)) (tables_of v i) ≡ true → free_levels v b ≡ i + free_levels (drop i v) b → i ≡ free_levels v b
level_met v b i l met so_far =
    let here : free_levels (drop i v) b ≡ 0 =
    ap (λ ls. free_levels ls b) (level_at v i l) ∙ ap (λ (t : Bool). cond t 0 (suc (free_levels (drop (i + 1) v) b))) met in
    sym (so_far ∙ ap (λ n. i + n) here ∙ omega arith)

-- ---- the floor

pub floor_next : (v : LevelLists) (i : ℕ) (made new all : List Bounds) → i < length v → made ++ map bounds_of (flat_map (λ ts. ts) (drop i v)) ≡ all → new ≡ made ++ map bounds_of (tables_of v i) → new ++ map bounds_of (flat_map (λ ts. ts) (drop (i + 1) v)) ≡ all
floor_next v i made new all l so_far pushed =
    let rest = flat_map (λ ts. ts) (drop (i + 1) v) in
    ap (λ (xs : List Bounds). xs ++ map bounds_of rest) pushed
    ∙ append_assoc made (map bounds_of (tables_of v i)) (map bounds_of rest)
    ∙ ap (λ (xs : List Bounds). made ++ xs) (sym (map-append bounds_of (tables_of v i) rest) ∙ sym (ap (λ ls. map bounds_of (flat_map (λ ts. ts) ls)) (level_at v i l)))
    ∙ so_far

pub floor_end : (v : LevelLists) (i : ℕ) (made all : List Bounds) → length v ≤ i → made ++ map bounds_of (flat_map (λ ts. ts) (drop i v)) ≡ all → made ≡ all
floor_end v i made all l so_far =
    sym (append-nil made) ∙ sym (ap (λ ls. made ++ map bounds_of (flat_map (λ ts. ts) ls)) (drop_all i v l)) ∙ so_far

-- ---- the first hull

hull_over-push : (r : Bounds) (ts : List Table) (t : Table) → hull_over r (ts ++ t ∷ []) ≡ wider (hull_over r ts) (bounds_of t)
hull_over-push r [] t = refl
hull_over-push r (u ∷ us) t = hull_over-push (wider r (bounds_of u)) us t

pub hull_of-push : (ts : List Table) (t : Table) → hull_of (ts ++ t ∷ []) ≡ Some (hull_with (hull_of ts) (bounds_of t))
hull_of-push [] t = refl
hull_of-push (u ∷ us) t = ap Some (hull_over-push (bounds_of u) us t)

meeting-append : (r : Bounds) (xs ys : List Table) → meeting r (xs ++ ys) ≡ meeting r xs ++ meeting r ys
meeting-append r xs ys = filter-append (λ t. meets r (bounds_of t)) xs ys

pub hull_next : (r : Bounds) (ts : List Table) (i : ℕ) (t : Table) → i < length ts → t ≡ get_or ts i t → meets r (bounds_of t) ≡ true → Some (hull_with (hull_of (meeting r (take i ts))) (bounds_of t)) ≡ hull_of (meeting r (take (i + 1) ts))
hull_next r ts i t l read on =
    sym (
    ap (λ xs. hull_of (meeting r xs)) (take_more ts i t l ∙ ap (λ x. take i ts ++ x ∷ []) (sym read))
    ∙ ap hull_of (meeting-append r (take i ts) (t ∷ []) ∙ ap (λ b. meeting r (take i ts) ++ cond b (t ∷ []) []) on)
    ∙ hull_of-push (meeting r (take i ts)) t
    )

pub hull_same : (r : Bounds) (ts : List Table) (i : ℕ) (t : Table) → i < length ts → t ≡ get_or ts i t → meets r (bounds_of t) ≡ false → hull_of (meeting r (take i ts)) ≡ hull_of (meeting r (take (i + 1) ts))
hull_same r ts i t l read off =
    sym (
    ap (λ xs. hull_of (meeting r xs)) (take_more ts i t l ∙ ap (λ x. take i ts ++ x ∷ []) (sym read))
    ∙ ap hull_of (meeting-append r (take i ts) (t ∷ []) ∙ ap (λ b. meeting r (take i ts) ++ cond b (t ∷ []) []) off ∙ append-nil (meeting r (take i ts)))
    )

-- ---- sizes

sum-front : (f : Table → ℕ) (ts : List Table) (i : ℕ) → sum (map f (take i ts)) ≤ sum (map f ts)
sum-front f ts zero = omega arith
sum-front f [] (suc i) = omega arith
sum-front f (t ∷ ts) (suc i) =
    let rest = sum-front f ts i in
    let front = sum_by-cons (λ n. n) (f t) (map f (take i ts)) in
    let whole = sum_by-cons (λ n. n) (f t) (map f ts) in
    omega arith

pub more_in_front : (ts : List Table) (most bytes i : ℕ) → most < bytes → bytes ≡ sum (map (λ t. t.size) (take i ts)) → true ≡ ltb most (sum (map (λ t. t.size) ts))
more_in_front ts most bytes i more same = sym (lt-ltb most (sum (map (λ t. t.size) ts)) (omega (arith, sum-front (λ t. t.size) ts i)))

pub sum-next : (ts : List Table) (bytes i : ℕ) (t : Table) → i < length ts → t ≡ get_or ts i t → bytes ≡ sum (map (λ t. t.size) (take i ts)) → bytes + t.size ≡ sum (map (λ t. t.size) (take (i + 1) ts))
sum-next ts bytes i t l read same =
    let f : Table → ℕ = λ t. t.size in
    let one = sum_by-cons (λ n. n) (f t) [] in
    let parts : sum (map f (take (i + 1) ts)) ≡ sum (map f (take i ts)) + sum (f t ∷ []) =
    ap (λ (xs : List Table). sum (map f xs)) (take_more ts i t l ∙ ap (λ x. take i ts ++ x ∷ []) (sym read))
    ∙ ap sum (map-append f (take i ts) (t ∷ []))
    ∙ sum_by-append (λ n. n) (map f (take i ts)) (f t ∷ []) in
    omega arith

-- the bytes that a level may have
pub power_small : (level : ℕ) → level < 6 → 8 ^ (level - 1) ≤ 4096
power_small zero l = omega arith
power_small (suc zero) l = omega arith
power_small (suc (suc zero)) l = omega arith
power_small (suc (suc (suc zero))) l = omega arith
power_small (suc (suc (suc (suc zero)))) l = omega arith
power_small (suc (suc (suc (suc (suc zero))))) l = omega arith
power_small (suc (suc (suc (suc (suc (suc n)))))) l = absurd (omega arith)

-- ---- tables in turn

turn-all : (p : Table → Bool) (level : ℕ) (ts : List Table) → list_all p ts ≡ true → list_all p (in_turn level ts) ≡ true
turn-all p zero ts h = h
turn-all p (suc level) ts h = all_put_all_in num_cmp p ts [] h refl

pub turn-tables : (v : LevelLists) (level : ℕ) → AreTablesOf v level (in_turn level (tables_of v level))
turn-tables v level = λ p h. turn-all p level (tables_of v level) h

pub one_of : (v : LevelLists) (level : ℕ) (ts : List Table) (i : ℕ) (t : Table) → AreTablesOf v level ts → i < length ts → t ≡ get_or ts i t → IsTableOf v level t
one_of v level ts i t all l read = λ p h. ap p read ∙ AllPass-from_list_all p ts (all p h) i t l

pub first-next : (v : LevelLists) (running : List Bounds) (level : ℕ) (order : List Table) (i : ℕ) (t : Table) → i < length order → t ≡ get_or order i t → plan_for v running level (bounds_of t) ≡ None → plan_of_first v running level (drop i order) ≡ plan_of_first v running level order → plan_of_first v running level (drop (i + 1) order) ≡ plan_of_first v running level order
first-next v running level order i t l read none so_far =
    sym (ap (λ o. or_else o (plan_of_first v running level (drop (i + 1) order))) none)
    ∙ sym (ap (plan_of_first v running level) (split_at order i t l read))
    ∙ so_far

pub first-found : (v : LevelLists) (running : List Bounds) (level : ℕ) (order : List Table) (i : ℕ) (t : Table) (p : Planned) → i < length order → t ≡ get_or order i t → plan_for v running level (bounds_of t) ≡ Some p → plan_of_first v running level (drop i order) ≡ plan_of_first v running level order → Some p ≡ plan_of_first v running level order
first-found v running level order i t p l read found so_far =
    sym (ap (λ o. or_else o (plan_of_first v running level (drop (i + 1) order))) found)
    ∙ sym (ap (plan_of_first v running level) (split_at order i t l read))
    ∙ so_far

-- ---- levels in turn

six-at : (v : LevelLists) (i : ℕ) → length v ≡ 7 → i < 6 → drop i (take 6 v) ≡ tables_of v i ∷ drop (i + 1) (take 6 v)
six-at v i count l =
    level_at (take 6 v) i (omega (arith, length-take-le 6 v (omega arith)))
    ∙ ap (λ (ts : List Table). ts ∷ drop (i + 1) (take 6 v)) (tables_of-get_or (take 6 v) i ∙ get_or-take 6 v i [] l ∙ sym (tables_of-get_or v i))

first-of : (v : LevelLists) (running : List Bounds) (i : ℕ) → length v ≡ 7 → i < 6 → pick_from v running i (drop i (take 6 v)) ≡ or_else (plan_of_due v running i (tables_of v i)) (pick_from v running (i + 1) (drop (i + 1) (take 6 v)))
first-of v running i count l =
    let next : suc i ≡ i + 1 = omega arith in
    ap (pick_from v running i) (six-at v i count l)
    ∙ ap (λ (n : ℕ). or_else (plan_of_due v running i (tables_of v i)) (pick_from v running n (drop (i + 1) (take 6 v)))) next

pub pick-next : (v : LevelLists) (running : List Bounds) (i : ℕ) → length v ≡ 7 → i < 6 → plan_of_due v running i (tables_of v i) ≡ None → pick_from v running i (drop i (take 6 v)) ≡ pick v running → pick_from v running (i + 1) (drop (i + 1) (take 6 v)) ≡ pick v running
pick-next v running i count l none so_far =
    sym (ap (λ o. or_else o (pick_from v running (i + 1) (drop (i + 1) (take 6 v)))) none) ∙ sym (first-of v running i count l) ∙ so_far

pub get_or-lent : {X : Type 0} (xs : List (Bor X)) (i : ℕ) (x : Bor X) → i < length xs → x ≡ get_or xs i x → x.now ≡ get_or (lent xs) i x.now
get_or-lent {X} xs i x l read =
    let now : Bor X → X = λ y. y.now in
    ap now read ∙ sym (get_or-map now xs i x x.now l)

pub length-lent : {X : Type 0} (xs : List (Bor X)) → length (lent xs) ≡ length xs
length-lent xs = length-map xs (λ y. y.now)

-- a table by its level and number
abbrev pub name : ℕ → Table → ℕ × ℕ
name level t = (level, t.num)

pub names-lent : (level : ℕ) (xs : List (Bor Table)) → map (lent_name level) xs ≡ map (name level) (lent xs)
names-lent level [] = refl
names-lent level (x ∷ xs) = ap (λ (ys : List (ℕ × ℕ)). (level, x.now.num) ∷ ys) (names-lent level xs)
