-- What touches a range: the operations do exactly where the entries or the tombstones do.
use Rattle.std.proofs.Common.{◌≡◌, ℕ, ◌+◌, ◌≤◌, Bool, true, false, ltb, ◌&&◌, ◌||◌, List, [], ◌∷◌, inl, inr, refl, sym, ap, ◌∙◌, arith}
use Rattle.std.proofs.lemmas.Bool.{cases_Bool, and_parts, and_from, lt-ltb, or_cases, or_left, or_right, false≢true}
use Rattle.std.specs.Cmp.{both_ways}
use Rattle.std.specs.List.{filter, list_any}
use Rattle.xdb_key.specs.Bounds.{Bounds, holds, meets}
use Rattle.xdb_key.specs.Entries.{Point, Tombstone}
use Rattle.xdb_key.specs.Ops.{op_hull, touches}
use Rattle.xdb_key.specs.declared.op.Op.{Op}
use Rattle.xdb_key.specs.declared.op.Op.TheVariants.{Set, Del, DelSpan}
use Rattle.xdb_key.proofs.OrderLaws.{meets-key_hull}
use Rattle.xdb_rangedel.specs.Members.{Has, SameMembers}
use Rattle.xdb_mem.specs.Numbered.{RisesWithin, points, spans}
use Rattle.xdb_mem.specs.Held.{ops_of, IsHeld}
use Rattle.xdb_mem.proofs.NumberLaws.{rises-room}

pub any-has : {A : Type 0} (p : A → Bool) (xs : List A) → list_any p xs ≡ true → (x : A) × Has xs x × (p x ≡ true)
any-has p [] h = absurd (false≢true h)
any-has p (x ∷ xs) h = elim (or_cases (p x) (list_any p xs) h) [
  | inl e ↦ (x, inl refl, e)
  | inr g ↦ let more = any-has p xs g in (more.0, inr more.1, more.2)
]

pub any-from : {A : Type 0} (p : A → Bool) (xs : List A) (x : A) → Has xs x → p x ≡ true → list_any p xs ≡ true
any-from p [] x h e = absurd h
any-from p (y ∷ xs) x (inl same) e = or_left (p y) (list_any p xs) (ap p same ∙ e)
any-from p (y ∷ xs) x (inr h) e = or_right (p y) (list_any p xs) (any-from p xs x h e)

pub any-same : {A : Type 0} (p : A → Bool) (xs ys : List A) → SameMembers xs ys → list_any p xs ≡ list_any p ys
any-same p xs ys same = both_ways (list_any p xs) (list_any p ys)
    (λ h. let from = any-has p xs h in any-from p ys from.0 ((same from.0).0 from.1) from.2)
    (λ h. let from = any-has p ys h in any-from p xs from.0 ((same from.0).1 from.1) from.2)

and_with-true : (a : Bool) → a ≡ (a && true)
and_with-true true = refl
and_with-true false = refl

or_with-false : (a b : Bool) → b ≡ ((a && false) || b)
or_with-false true b = refl
or_with-false false b = refl

pub any-filter : {A : Type 0} (p t : A → Bool) (xs : List A) → list_any p (filter t xs) ≡ list_any (λ x. p x && t x) xs
any-filter p t [] = refl
any-filter p t (x ∷ xs) = elim (cases_Bool (t x)) [
  | inl e ↦ rw e (λ i. and_with-true (p x) i || any-filter p t xs i)
  | inr e ↦ rw e (any-filter p t xs ∙ or_with-false (p x) (list_any (λ y. p y && t y) xs))
]

or_turn : (a b c : Bool) → (a || (b || c)) ≡ (b || (a || c))
or_turn true true c = refl
or_turn true false c = refl
or_turn false true c = refl
or_turn false false c = refl

or_group : (a b c : Bool) → ((a || b) || c) ≡ (a || (b || c))
or_group true b c = refl
or_group false b c = refl

-- an entry numbered below the mark has its key in the range, or a tombstone meets it
abbrev pub by_point : Bounds → ℕ → Point → Bool
by_point r mark p = ltb p.seq mark && holds r p.key

abbrev pub by_span : Bounds → ℕ → Tombstone → Bool
by_span r mark t = ltb t.seq mark && meets t.range r

abbrev pub by_op : Bounds → ℕ → ℕ × Op → Bool
by_op r mark o = ltb o.0 mark && meets (op_hull o.1) r

one_more : (r : Bounds) (mark n : ℕ) (op : Op) (ops : List (ℕ × Op)) → (list_any (by_point r mark) (points ((n, op) ∷ ops)) || list_any (by_span r mark) (spans ((n, op) ∷ ops))) ≡ (by_op r mark (n, op) || (list_any (by_point r mark) (points ops) || list_any (by_span r mark) (spans ops)))
one_more r mark n (Set key value) ops =
    or_group (ltb n mark && holds r key) (list_any (by_point r mark) (points ops)) (list_any (by_span r mark) (spans ops))
    ∙ ap (λ b. (ltb n mark && b) || (list_any (by_point r mark) (points ops) || list_any (by_span r mark) (spans ops))) (sym (meets-key_hull key r))
one_more r mark n (Del key) ops =
    or_group (ltb n mark && holds r key) (list_any (by_point r mark) (points ops)) (list_any (by_span r mark) (spans ops))
    ∙ ap (λ b. (ltb n mark && b) || (list_any (by_point r mark) (points ops) || list_any (by_span r mark) (spans ops))) (sym (meets-key_hull key r))
one_more r mark n (DelSpan range) ops =
    or_turn (list_any (by_point r mark) (points ops)) (ltb n mark && meets range r) (list_any (by_span r mark) (spans ops))

by_parts : (r : Bounds) (mark : ℕ) (ops : List (ℕ × Op)) → (list_any (by_point r mark) (points ops) || list_any (by_span r mark) (spans ops)) ≡ list_any (by_op r mark) ops
by_parts r mark [] = refl
by_parts r mark (o ∷ ops) = one_more r mark o.0 o.1 ops ∙ ap (λ b. by_op r mark o || b) (by_parts r mark ops)

pub held-touches : (r : Bounds) (mark : ℕ) (ops : List (ℕ × Op)) (es : List Point) (ts : List Tombstone) → IsHeld ops es ts → (list_any (λ p. ltb p.seq mark) (filter (λ p. holds r p.key) es) || list_any (by_span r mark) ts) ≡ list_any (by_op r mark) ops
held-touches r mark ops es ts held =
    ap (λ b. b || list_any (by_span r mark) ts) (any-filter (λ (p : Point). ltb p.seq mark) (λ (p : Point). holds r p.key) es ∙ any-same (by_point r mark) es (points ops) held.members)
    ∙ ap (λ xs. list_any (by_point r mark) (points ops) || list_any (by_span r mark) xs) held.same_spans
    ∙ by_parts r mark ops

pub by_entries : (r : Bounds) (mark : ℕ) (now : List (ℕ × Op)) (es : List Point) (ts : List Tombstone) (b : Bool) → IsHeld (ops_of es ts) es ts → ops_of es ts ≡ now → b ≡ list_any (λ p. ltb p.seq mark) (filter (λ p. holds r p.key) es) → b ≡ true → b ≡ list_any (by_op r mark) now
by_entries r mark now es ts b held seen found is_true =
    let all = held-touches r mark (ops_of es ts) es ts held in
    let first = or_left (list_any (λ (p : Point). ltb p.seq mark) (filter (λ (p : Point). holds r p.key) es)) (list_any (by_span r mark) ts) (sym found ∙ is_true) in
    is_true ∙ sym first ∙ all ∙ ap (list_any (by_op r mark)) seen

pub by_spans : (r : Bounds) (mark : ℕ) (now : List (ℕ × Op)) (es : List Point) (ts : List Tombstone) (a b : Bool) → IsHeld (ops_of es ts) es ts → ops_of es ts ≡ now → a ≡ list_any (λ p. ltb p.seq mark) (filter (λ p. holds r p.key) es) → a ≡ false → b ≡ list_any (by_span r mark) ts → b ≡ list_any (by_op r mark) now
by_spans r mark now es ts a b held seen found none rest =
    let all = held-touches r mark (ops_of es ts) es ts held in
    rest ∙ ap (λ x. x || list_any (by_span r mark) ts) (sym none ∙ found) ∙ all ∙ ap (list_any (by_op r mark)) seen

-- which range it is, and which operation, may be asked in either order
pub any-turned : (mark : ℕ) (ranges : List Bounds) (ops : List (ℕ × Op)) → list_any (λ r. list_any (by_op r mark) ops) ranges ≡ list_any (λ o. ltb o.0 mark && touches o.1 ranges) ops
any-turned mark ranges ops = both_ways (list_any (λ r. list_any (by_op r mark) ops) ranges) (list_any (λ o. ltb o.0 mark && touches o.1 ranges) ops)
    (λ h.
    let range = any-has (λ r. list_any (by_op r mark) ops) ranges h in
    let op = any-has (by_op range.0 mark) ops range.2 in
    let both = and_parts (ltb op.0.0 mark) (meets (op_hull op.0.1) range.0) op.2 in
    any-from (λ (o : ℕ × Op). ltb o.0 mark && touches o.1 ranges) ops op.0 op.1 (and_from (ltb op.0.0 mark) (touches op.0.1 ranges) both.0 (any-from (meets (op_hull op.0.1)) ranges range.0 range.1 both.1)))
    (λ h.
    let op = any-has (λ (o : ℕ × Op). ltb o.0 mark && touches o.1 ranges) ops h in
    let both = and_parts (ltb op.0.0 mark) (touches op.0.1 ranges) op.2 in
    let range = any-has (meets (op_hull op.0.1)) ranges both.1 in
    any-from (λ r. list_any (by_op r mark) ops) ranges range.0 range.1 (any-from (by_op range.0 mark) ops op.0 op.1 (and_from (ltb op.0.0 mark) (meets (op_hull op.0.1) range.0) both.0 range.2)))

-- a mark above all numbers is none
pub any-unmarked : (low high mark : ℕ) (t : ℕ × Op → Bool) (ops : List (ℕ × Op)) → RisesWithin low high ops → high ≤ mark → list_any (λ o. ltb o.0 mark && t o) ops ≡ list_any t ops
any-unmarked low high mark t [] rising above = refl
any-unmarked low high mark t (o ∷ ops) rising above =
    let small : ltb o.0 mark ≡ true = lt-ltb o.0 mark (omega (arith, rises-room (o.0 + 1) high ops rising.1)) in
    rw small (ap (λ b. t o || b) (any-unmarked (o.0 + 1) high mark t ops rising.1 above))
