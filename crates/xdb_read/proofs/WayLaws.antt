-- On a way over pairs, what is found and what is left are all of them.
use Rattle.std.proofs.Common.{◌≡◌, ℕ, ◌≤◌, Bool, true, false, ◌&&◌, cond, List, [], ◌∷◌, ◌++◌, length, take, reverse, append-nil, Option, Some, None, inl, inr, refl, sym, ap, ◌∙◌, subst, arith}
use Rattle.std.proofs.lemmas.Bool.{cases_Bool, and_parts, false≢true}
use Rattle.std.proofs.lemmas.List.{append_assoc, reverse-append, take-append-le, take_all}
use Rattle.std.proofs.lemmas.List.Elements.{filter-append}
use Rattle.std.specs.FinMap.Entries.{is_sorted, below_all}
use Rattle.std.specs.List.{AllByRecursion, filter, last_or}
use Rattle.std.specs.Prelude.{T}
use Rattle.xdb_key.specs.Order.{key_cmp, is_below}
use Rattle.xdb_key.proofs.OrderLaws.{below-itself, below_trans}
use Rattle.xdb_plain.specs.Answers.{Landing, landing, at_or_after, at_or_before, first_of, last_of, moved}
use Rattle.xdb_plain.specs.declared.answer.Answer.{Answer}
use Rattle.xdb_plain.specs.declared.answer.Answer.TheVariants.{Pair, End}
use Rattle.xdb_plain.specs.declared.question.Place.{Place}
use Rattle.xdb_plain.specs.declared.question.Place.TheVariants.{Before, On, After}
use Rattle.xdb_read.specs.Pairs.{start_along, step_along, along}
use Rattle.xdb_read.specs.declared.pairs.Way.{Way}
use Rattle.xdb_read.specs.declared.pairs.Way.TheVariants.{Up, Down}

abbrev pub KeyValue : Type 0
KeyValue = List ℕ × List ℕ

-- what is left of a way behind a place
abbrev pub left : Way → List KeyValue → Place → List KeyValue
left Up pairs Before = pairs
left Up pairs (On key) = filter (λ pair. is_below key pair.0) pairs
left Up pairs After = []
left Down pairs Before = []
left Down pairs (On key) = filter (λ pair. is_below pair.0 key) (reverse pairs)
left Down pairs After = reverse pairs

-- ---- lists in the other direction

abbrev or_else : {A : Type 0} → Option A → Option A → Option A
or_else None b = b
or_else (Some x) b = Some x

or_else-none : {A : Type 0} (a : Option A) → or_else a None ≡ a
or_else-none None = refl
or_else-none (Some x) = refl

first-append : {A : Type 0} (xs ys : List A) → first_of (xs ++ ys) ≡ or_else (first_of xs) (first_of ys)
first-append [] ys = refl
first-append (x ∷ xs) ys = refl

or_else-assoc : {A : Type 0} (a b c : Option A) → or_else (or_else a b) c ≡ or_else a (or_else b c)
or_else-assoc None b c = refl
or_else-assoc (Some x) b c = refl

last_or-turned : {A : Type 0} (o : Option A) (xs : List A) → last_or o xs ≡ or_else (first_of (reverse xs)) o
last_or-turned o [] = refl
last_or-turned o (x ∷ xs) =
    last_or-turned (Some x) xs
    ∙ sym (or_else-assoc (first_of (reverse xs)) (Some x) o)
    ∙ ap (λ f. or_else f o) (sym (ap first_of (reverse-append (x ∷ []) xs) ∙ first-append (reverse xs) (x ∷ [])))

last-turned : {A : Type 0} (xs : List A) → last_of xs ≡ first_of (reverse xs)
last-turned xs = last_or-turned None xs ∙ or_else-none (first_of (reverse xs))

filter-turned : {A : Type 0} (t : A → Bool) (xs : List A) → filter t (reverse xs) ≡ reverse (filter t xs)
filter-turned t [] = refl
filter-turned t (x ∷ xs) =
    ap (filter t) (reverse-append (x ∷ []) xs) ∙ filter-append t (reverse xs) (x ∷ []) ∙ ap (λ ys. ys ++ filter t (x ∷ [])) (filter-turned t xs)
    ∙ elim (cases_Bool (t x)) [
      | inl e ↦ ap (λ b. reverse (filter t xs) ++ cond b (x ∷ []) []) e ∙ sym (reverse-append (x ∷ []) (filter t xs)) ∙ ap (λ b. reverse (cond b (x ∷ filter t xs) (filter t xs))) (sym e)
      | inr e ↦ ap (λ b. reverse (filter t xs) ++ cond b (x ∷ []) []) e ∙ append-nil (reverse (filter t xs)) ∙ ap (λ b. reverse (cond b (x ∷ filter t xs) (filter t xs))) (sym e)
    ]

all-joined : {A : Type 0} (P : A → Type 0) (xs ys : List A) → AllByRecursion P xs → AllByRecursion P ys → AllByRecursion P (xs ++ ys)
all-joined P [] ys h g = g
all-joined P (x ∷ xs) ys h g = (h.0, all-joined P xs ys h.1 g)

all-reversed : {A : Type 0} (P : A → Type 0) (xs : List A) → AllByRecursion P xs → AllByRecursion P (reverse xs)
all-reversed P [] h = tt
all-reversed P (x ∷ xs) h = subst (AllByRecursion P) (sym (reverse-append (x ∷ []) xs)) (all-joined P (reverse xs) (x ∷ []) (all-reversed P xs h.1) (h.0, tt))

-- ---- pairs in order

-- each pair comes before all behind it
abbrev Ordered : (List ℕ → List ℕ → Bool) → List KeyValue → Type 0
Ordered comes [] = Unit {0}
Ordered comes (p ∷ ps) = AllByRecursion (λ q. comes p.0 q.0 ≡ true) ps × Ordered comes ps

ordered-joined : (comes : List ℕ → List ℕ → Bool) (ps : List KeyValue) (q : KeyValue) → Ordered comes ps → AllByRecursion (λ p. comes p.0 q.0 ≡ true) ps → Ordered comes (ps ++ q ∷ [])
ordered-joined comes [] q order last = (tt, tt)
ordered-joined comes (p ∷ ps) q order last = (all-joined (λ x. comes p.0 x.0 ≡ true) ps (q ∷ []) order.0 (last.0, tt), ordered-joined comes ps q order.1 last.1)

ordered-turned : (ps : List KeyValue) → Ordered is_below ps → Ordered (λ a b. is_below b a) (reverse ps)
ordered-turned [] order = tt
ordered-turned (p ∷ ps) order = subst (Ordered (λ a b. is_below b a)) (sym (reverse-append (p ∷ []) ps))
    (ordered-joined (λ a b. is_below b a) (reverse ps) p (ordered-turned ps order.1) (all-reversed (λ q. is_below p.0 q.0 ≡ true) ps order.0))

truth : (b : Bool) → T b → b ≡ true
truth true h = refl
truth false h = absurd h

all-below : (key : List ℕ) (ps : List KeyValue) → below_all key_cmp key ps ≡ true → AllByRecursion (λ p. is_below key p.0 ≡ true) ps
all-below key [] h = tt
all-below key (p ∷ ps) h = let parts = and_parts (is_below key p.0) (below_all key_cmp key ps) h in (parts.0, all-below key ps parts.1)

ordered-up : (ps : List KeyValue) → is_sorted key_cmp ps ≡ true → Ordered is_below ps
ordered-up [] h = tt
ordered-up (p ∷ ps) h = let parts = and_parts (below_all key_cmp p.0 ps) (is_sorted key_cmp ps) h in (all-below p.0 ps parts.0, ordered-up ps parts.1)

filter-all : {A : Type 0} (t : A → Bool) (xs : List A) → AllByRecursion (λ x. t x ≡ true) xs → filter t xs ≡ xs
filter-all t [] h = refl
filter-all t (x ∷ xs) h = rw h.0 (ap (λ ys. x ∷ ys) (filter-all t xs h.1))

all-there : {A : Type 0} (P : A → Type 0) (xs ys : List A) (y : A) → AllByRecursion P (xs ++ y ∷ ys) → P y
all-there P [] ys y h = h.0
all-there P (x ∷ xs) ys y h = all-there P xs ys y h.1

-- behind a pair are those that come after it
behind : (comes : List ℕ → List ℕ → Bool) → ((a : List ℕ) → comes a a ≡ false) → ((a b : List ℕ) → comes a b ≡ true → comes b a ≡ false) → (found rest : List KeyValue) (p : KeyValue) → Ordered comes (found ++ p ∷ rest) → filter (λ q. comes p.0 q.0) (found ++ p ∷ rest) ≡ rest
behind comes itself turned [] rest p order = rw (itself p.0) (filter-all (λ q. comes p.0 q.0) rest order.0)
behind comes itself turned (x ∷ found) rest p order =
    rw (turned x.0 p.0 (all-there (λ q. comes x.0 q.0 ≡ true) found rest p order.0)) (behind comes itself turned found rest p order.1)

below-turned : (a b : List ℕ) → is_below a b ≡ true → is_below b a ≡ false
below-turned a b h = elim (cases_Bool (is_below b a)) [
  | inl e ↦ absurd (false≢true (sym (below-itself a) ∙ below_trans a b a h e))
  | inr e ↦ e
]

left-behind : (way : Way) (pairs found rest : List KeyValue) (p : KeyValue) → T (is_sorted key_cmp pairs) → along way pairs ≡ found ++ p ∷ rest → left way pairs (On p.0) ≡ rest
left-behind Up pairs found rest p sorted e =
    ap (filter (λ pair. is_below p.0 pair.0)) e
    ∙ behind is_below below-itself below-turned found rest p (subst (Ordered is_below) e (ordered-up pairs (truth _ sorted)))
left-behind Down pairs found rest p sorted e =
    ap (filter (λ pair. is_below pair.0 p.0)) e
    ∙ behind (λ a b. is_below b a) below-itself (λ a b h. below-turned b a h) found rest p (subst (Ordered (λ a b. is_below b a)) e (ordered-turned pairs (ordered-up pairs (truth _ sorted))))

-- ---- steps

abbrev landing_along : Way → Option KeyValue → Landing
landing_along Up o = at_or_after o
landing_along Down o = at_or_before o

step-is : (way : Way) (pairs : List KeyValue) (place : Place) → moved pairs place (step_along way) ≡ landing_along way (first_of (left way pairs place))
step-is Up pairs Before = refl
step-is Up pairs (On key) = refl
step-is Up pairs After = refl
step-is Down pairs Before = refl
step-is Down pairs (On key) = ap at_or_before (last-turned (filter (λ pair. is_below pair.0 key) pairs) ∙ ap first_of (sym (filter-turned (λ pair. is_below pair.0 key) pairs)))
step-is Down pairs After = ap at_or_before (last-turned pairs)

is-end : (way : Way) (o : Option KeyValue) (new : Place) → landing End new ≡ landing_along way o → o ≡ None
is-end way None new e = refl
is-end Up (Some p) new e = let same : End ≡ Pair p.0 p.1 = ap (λ l. l.answer) e in absurd (cc)
is-end Down (Some p) new e = let same : End ≡ Pair p.0 p.1 = ap (λ l. l.answer) e in absurd (cc)

record IsOn (o : Option KeyValue) (new : Place) (p : KeyValue) : Type 0 where
  is : o ≡ Some p
  place : new ≡ On p.0

is-pair : (way : Way) (o : Option KeyValue) (new : Place) (p : KeyValue) → landing (Pair p.0 p.1) new ≡ landing_along way o → IsOn o new p
is-pair Up None new p e = let same : Pair p.0 p.1 ≡ End = ap (λ l. l.answer) e in absurd (cc)
is-pair Down None new p e = let same : Pair p.0 p.1 ≡ End = ap (λ l. l.answer) e in absurd (cc)
is-pair Up (Some q) new p e =
    let answers : Pair p.0 p.1 ≡ Pair q.0 q.1 = ap (λ l. l.answer) e in
    let key : q.0 ≡ p.0 = cc in
    let value : q.1 ≡ p.1 = cc in
    record { is = ap Some (λ i. (key i, value i)); place = ap (λ l. l.place) e ∙ ap On key }
is-pair Down (Some q) new p e =
    let answers : Pair p.0 p.1 ≡ Pair q.0 q.1 = ap (λ l. l.answer) e in
    let key : q.0 ≡ p.0 = cc in
    let value : q.1 ≡ p.1 = cc in
    record { is = ap Some (λ i. (key i, value i)); place = ap (λ l. l.place) e ∙ ap On key }

first-none : {A : Type 0} (xs : List A) → first_of xs ≡ None → xs ≡ []
first-none [] e = refl
first-none (x ∷ xs) e = absurd (cc)

first-some : {A : Type 0} (xs : List A) (x : A) → first_of xs ≡ Some x → (rest : List A) × (xs ≡ x ∷ rest)
first-some [] x e = absurd (cc)
first-some (y ∷ ys) x e = let same : y ≡ x = cc in (ys, ap (λ z. z ∷ ys) same)

-- ---- the way

-- at its start all is left
pub way-begins : (way : Way) (pairs : List KeyValue) (place : Place) → place ≡ start_along way → along way pairs ≡ [] ++ left way pairs place
way-begins Up pairs place e = ap (left Up pairs) (sym e)
way-begins Down pairs place e = ap (left Down pairs) (sym e)

-- a step that comes to the end finds that nothing is left
pub way-ends : (way : Way) (pairs found : List KeyValue) (place new : Place) (most : ℕ) → landing End new ≡ moved pairs place (step_along way) → along way pairs ≡ found ++ left way pairs place → length found ≤ most → found ≡ take most (along way pairs)
way-ends way pairs found place new most lands all few =
    let none : left way pairs place ≡ [] = first-none (left way pairs place) (is-end way (first_of (left way pairs place)) new (lands ∙ step-is way pairs place)) in
    let whole : along way pairs ≡ found = all ∙ ap (λ ps. found ++ ps) none ∙ append-nil found in
    sym (ap (take most) whole ∙ take_all most found few)

-- a step that comes to a pair finds the first that is left
pub way-goes_on : (way : Way) (pairs found : List KeyValue) (place new : Place) (p : KeyValue) → T (is_sorted key_cmp pairs) → landing (Pair p.0 p.1) new ≡ moved pairs place (step_along way) → along way pairs ≡ found ++ left way pairs place → along way pairs ≡ (found ++ p ∷ []) ++ left way pairs new
way-goes_on way pairs found place new p sorted lands all =
    let on = is-pair way (first_of (left way pairs place)) new p (lands ∙ step-is way pairs place) in
    let split = first-some (left way pairs place) p on.is in
    let whole : along way pairs ≡ found ++ p ∷ split.0 = all ∙ ap (λ ps. found ++ ps) split.1 in
    let rest : left way pairs new ≡ split.0 = ap (left way pairs) on.place ∙ left-behind way pairs found split.0 p sorted whole in
    whole ∙ sym (append_assoc found (p ∷ []) split.0) ∙ ap (λ ps. (found ++ p ∷ []) ++ ps) (sym rest)

-- as many as were wanted
pub way-is_long : (way : Way) (pairs found : List KeyValue) (place : Place) (most : ℕ) → along way pairs ≡ found ++ left way pairs place → length found ≡ most → found ≡ take most (along way pairs)
way-is_long way pairs found place most all many =
    sym (ap (take most) all ∙ take-append-le most found (left way pairs place) (omega (arith, many)) ∙ take_all most found (omega (arith, many)))
