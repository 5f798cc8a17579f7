-- How groups are found: by number, and by what they touch.
use Rattle.std.proofs.Common.{◌≡◌, ℕ, zero, suc, ◌+◌, ◌<◌, ◌≤◌, Bool, true, false, cond, eqb, List, [], ◌∷◌, ◌++◌, length, get_or, drop, Option, Some, None, is_some, inl, inr, refl, sym, ap, ◌∙◌, arith}
use Rattle.std.proofs.lemmas.Bool.{cases_Bool, ne_eqb, eq-eqb, true≢false, false≢true}
use Rattle.std.proofs.lemmas.List.{drop_more}
use Rattle.xdb_key.specs.Bounds.{Bounds}
use Rattle.xdb_key.specs.Groups.{Group, group_touches, group_touches_below, first_touching, last_touching, later}
use Rattle.xdb_key.specs.declared.op.Op.{Op}
use Rattle.xdb_mem.specs.Queue.{Queue, group, groups, ops_in}
use Rattle.xdb_mem.specs.KeptQueue.{groups_from, queue_of}
use Rattle.xdb_mem.proofs.QueueLaws.{groups_from-push}

pub ops_in-below : (num first : ℕ) (ms : List (List (ℕ × Op))) → num < first → ops_in num (groups_from first ms) ≡ None
ops_in-below num first [] less = refl
ops_in-below num first (m ∷ ms) less =
    let other : eqb first num ≡ false = ne_eqb first num (λ e. omega arith) in
    rw other (ops_in-below num (first + 1) ms (omega arith))

pub ops_in-behind : (num first : ℕ) (ms : List (List (ℕ × Op))) → first + length ms ≤ num → ops_in num (groups_from first ms) ≡ None
ops_in-behind num first [] more = refl
ops_in-behind num first (m ∷ ms) more =
    let other : eqb first num ≡ false = ne_eqb first num (λ e. omega arith) in
    rw other (ops_in-behind num (first + 1) ms (omega arith))

pub ops_in-at : (num first i : ℕ) (ms : List (List (ℕ × Op))) (d : List (ℕ × Op)) → num ≡ first + i → i < length ms → ops_in num (groups_from first ms) ≡ Some (get_or ms i d)
ops_in-at num first i [] d e inside = absurd (omega arith)
ops_in-at num first zero (m ∷ ms) d e inside =
    let same : eqb first num ≡ true = eq-eqb first num (omega arith) in
    rw same refl
ops_in-at num first (suc i) (m ∷ ms) d e inside =
    let other : eqb first num ≡ false = ne_eqb first num (λ f. omega arith) in
    rw other (ops_in-at num (first + 1) i ms d (omega arith) (omega arith))

-- ---- the first that touches

pub first-turn : (ranges : List Bounds) (num i : ℕ) (ms : List (List (ℕ × Op))) (m : List (ℕ × Op)) → i < length ms → m ≡ get_or ms i m → first_touching ranges (groups_from num (drop i ms)) ≡ cond (group_touches ranges (group num m)) (Some num) (first_touching ranges (groups_from (num + 1) (drop (i + 1) ms)))
first-turn ranges num i ms m inside e = ap (λ xs. first_touching ranges (groups_from num xs)) (drop_more ms i m inside ∙ ap (λ x. x ∷ drop (i + 1) ms) (sym e))

pub first-there : (ranges : List Bounds) (num : ℕ) (gs more : List Group) → first_touching ranges gs ≡ Some num → first_touching ranges (gs ++ more) ≡ Some num
first-there ranges num [] more h = absurd (cc)
first-there ranges num (g ∷ gs) more h = elim (cases_Bool (group_touches ranges g)) [
  | inl e ↦ rw e (rw e at h)
  | inr e ↦ rw e (first-there ranges num gs more (rw e at h))
]

pub first-behind : (ranges : List Bounds) (gs more : List Group) → first_touching ranges gs ≡ None → first_touching ranges (gs ++ more) ≡ first_touching ranges more
first-behind ranges [] more h = refl
first-behind ranges (g ∷ gs) more h = elim (cases_Bool (group_touches ranges g)) [
  | inl e ↦ let some : Some g.num ≡ None = rw e at h in absurd (cc)
  | inr e ↦ rw e (first-behind ranges gs more (rw e at h))
]

-- ---- the last that touches below a mark

later-group : (a b c : Option ℕ) → later a (later b c) ≡ later (later a b) c
later-group a None None = refl
later-group a None (Some n) = refl
later-group a (Some m) None = refl
later-group a (Some m) (Some n) = refl

pub last-turn : (ranges : List Bounds) (mark num i : ℕ) (ms : List (List (ℕ × Op))) (m : List (ℕ × Op)) (last next : Option ℕ) → i < length ms → m ≡ get_or ms i m → next ≡ later last (cond (group_touches_below ranges mark (group num m)) (Some num) None) → later next (last_touching ranges mark (groups_from (num + 1) (drop (i + 1) ms))) ≡ later last (last_touching ranges mark (groups_from num (drop i ms)))
last-turn ranges mark num i ms m last next inside e f =
    let rest = last_touching ranges mark (groups_from (num + 1) (drop (i + 1) ms)) in
    let here = cond (group_touches_below ranges mark (group num m)) (Some num) None in
    ap (λ x. later x rest) f ∙ sym (later-group last here rest)
    ∙ ap (λ xs. later last (last_touching ranges mark (groups_from num xs))) (sym (drop_more ms i m inside ∙ ap (λ x. x ∷ drop (i + 1) ms) (sym e)))

pub later-none : (a : Option ℕ) → later None a ≡ a
later-none None = refl
later-none (Some n) = refl

pub last-here : (ranges : List Bounds) (mark : ℕ) (gs : List Group) (g : Group) → group_touches_below ranges mark g ≡ true → last_touching ranges mark (gs ++ g ∷ []) ≡ Some g.num
last-here ranges mark [] g h = rw h refl
last-here ranges mark (f ∷ gs) g h = ap (λ x. later (cond (group_touches_below ranges mark f) (Some f.num) None) x) (last-here ranges mark gs g h)

pub last-before : (ranges : List Bounds) (mark : ℕ) (gs : List Group) (g : Group) → group_touches_below ranges mark g ≡ false → last_touching ranges mark (gs ++ g ∷ []) ≡ last_touching ranges mark gs
last-before ranges mark [] g h = rw h refl
last-before ranges mark (f ∷ gs) g h = ap (λ x. later (cond (group_touches_below ranges mark f) (Some f.num) None) x) (last-before ranges mark gs g h)

-- ---- over the groups of a queue

pub first-some : (ranges : List Bounds) (gs more : List Group) (o : Option ℕ) → is_some o ≡ true → o ≡ first_touching ranges gs → o ≡ first_touching ranges (gs ++ more)
first-some ranges gs more None h e = absurd (false≢true h)
first-some ranges gs more (Some n) h e = sym (first-there ranges n gs more (sym e))

none-from : (o : Option ℕ) → is_some o ≡ false → o ≡ None
none-from None h = refl
none-from (Some n) h = absurd (true≢false h)

pub first-active : (ranges : List Bounds) (gs : List Group) (g : Group) (o : Option ℕ) (b : Bool) → is_some o ≡ false → o ≡ first_touching ranges gs → group_touches ranges g ≡ b → first_touching ranges (gs ++ g ∷ []) ≡ cond b (Some g.num) None
first-active ranges gs g o b h e t =
    first-behind ranges gs (g ∷ []) (sym e ∙ none-from o h) ∙ ap (λ x. cond x (Some g.num) None) t

pub found-in : (num oldest : ℕ) (ms : List (List (ℕ × Op))) (a : List (ℕ × Op)) (greatest : ℕ) (now : Queue) → queue_of oldest ms a greatest ≡ now → ops_in num (groups_from oldest (ms ++ a ∷ [])) ≡ ops_in num (groups now)
found-in num oldest ms a greatest now seen = ap (ops_in num) (groups_from-push oldest ms a) ∙ ap (λ q. ops_in num (groups q)) seen
