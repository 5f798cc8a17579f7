-- Where an output ends among entries in internal order.
use Rattle.std.proofs.Common.{◌≡◌, ℕ, zero, suc, ◌+◌, ◌-◌, ◌<◌, ◌≤◌, Bool, true, false, cond, List, [], ◌∷◌, ◌++◌, length, get_or, take, drop, map, sum, Option, Some, IsTrue, inl, inr, ◌⊎◌, not, refl, sym, ap, ◌∙◌, subst, arith, append-nil}
use Rattle.std.proofs.lemmas.Bool.{cases_Bool, cases_lt, false≢true}
use Rattle.std.proofs.Math.Seq.{take-append_seam}
use Rattle.std.proofs.lemmas.List.{take_more, map-append, length-take-le, length-drop}
use Rattle.std.proofs.lemmas.List.Elements.{filter-append}
use Rattle.std.proofs.lemmas.List.Sums.{sum_by-append, sum_by-cons}
use Rattle.std.proofs.lemmas.Option.{get_or_from_slice_get, slice_get_within}
use Rattle.std.specs.List.{filter, slice_get}
use Rattle.xdb_key.proofs.InOrderLaws.{before_keys}
use Rattle.xdb_key.proofs.OrderLaws.{below-itself, upto-itself, below_upto, upto_below, upto_antisymm, upto-not_below}
use Rattle.xdb_key.specs.Entries.{Point}
use Rattle.xdb_key.specs.InOrder.{comes_before, AreInOrder}
use Rattle.xdb_key.specs.Order.{is_below, is_upto}
use Rattle.xdb_mem.proofs.ListLaws.{AllPairs-take}
use Rattle.xdb_rangedel.proofs.FragmentLaws.{All-at_Has, AllPairs-head, AllPairs-tail}
use Rattle.xdb_rangedel.proofs.MemberLaws.{Has-append_cases, Has-append_right, Has-map, Has-from_map, Has-get_or, Contains-from_Has}
use Rattle.xdb_rangedel.specs.Content.{Item, entry, entry_of}
use Rattle.xdb_rangedel.specs.Members.{Has}
use Rattle.xdb_build.specs.Cuts.{weight, weight_of, is_before, weight_before, IsFull, IsOpen}
use Rattle.xdb_build.specs.Series.{AreBefore, EndsAt, EndsFrom, Weighs, FillsTo}

-- ---- weights

pub weight-append : (a b : List Item) → weight_of (a ++ b) ≡ weight_of a + weight_of b
weight-append a b = ap sum (map-append weight a b) ∙ sum_by-append (λ n. n) (map weight a) (map weight b)

pub weight-cons : (x : Item) (c : List Item) → weight_of (x ∷ c) ≡ weight x + weight_of c
weight-cons x c = sum_by-cons (λ n. n) (weight x) (map weight c)

-- what some of the items weigh
filter_weighs : (p : Item → Bool) (c : List Item) → weight_of (filter p c) ≤ weight_of c
filter_weighs p [] = omega arith
filter_weighs p (x ∷ c) =
    let rest = filter_weighs p c in
    elim (cases_Bool (p x)) [
      | inl k ↦
          let is : weight_of (filter p (x ∷ c)) ≡ weight x + weight_of (filter p c) = ap (λ b. weight_of (cond b (x ∷ filter p c) (filter p c))) k ∙ weight-cons x (filter p c) in
          omega (arith, is, weight-cons x c, rest)
      | inr k ↦
          let is : weight_of (filter p (x ∷ c)) ≡ weight_of (filter p c) = ap (λ b. weight_of (cond b (x ∷ filter p c) (filter p c))) k in
          omega (arith, is, weight-cons x c, rest)
    ]

entries_more : (ps : List Point) (p : Point) → map entry_of (ps ++ p ∷ []) ≡ map entry_of ps ++ entry_of p ∷ []
entries_more ps p = map-append entry_of ps (p ∷ [])

weight_more : (ps : List Point) (p : Point) → weight_of (map entry_of (ps ++ p ∷ [])) ≡ weight_of (map entry_of ps) + weight (entry_of p)
weight_more ps p =
    let whole = ap weight_of (entries_more ps p) ∙ weight-append (map entry_of ps) (entry_of p ∷ []) in
    omega (arith, whole, weight-cons (entry_of p) [])

-- an entry that doesn't stand before the key adds nothing
before_more : (key : List ℕ) (ps : List Point) (p : Point) → is_below p.key key ≡ false → weight_before key (map entry_of (ps ++ p ∷ [])) ≡ weight_before key (map entry_of ps)
before_more key ps p not_before =
    ap (weight_before key) (entries_more ps p)
    ∙ ap weight_of (filter-append (is_before key) (map entry_of ps) (entry_of p ∷ []) ∙ ap (λ xs. filter (is_before key) (map entry_of ps) ++ xs) (dropped (entry_of p) [] not_before) ∙ append-nil (filter (is_before key) (map entry_of ps)))
  where
    dropped : (x : Item) (xs : List Item) → is_before key x ≡ false → filter (is_before key) (x ∷ xs) ≡ filter (is_before key) xs
    dropped x xs h = rw h refl

-- ---- one entry more

-- each key stands before this one, or is it
abbrev AreUpto : List Point → List ℕ → Type 0
AreUpto ps key = (q : Point) → Has ps q → is_upto q.key key ≡ true

not_before : (a b : List ℕ) → is_upto a b ≡ true → is_below b a ≡ false
not_before a b h = elim (cases_Bool (is_below b a)) [
  | inl e ↦ absurd (false≢true (sym (below-itself b) ∙ below_upto b a b e h))
  | inr e ↦ e
]

same_entry : {key k : List ℕ} {seq s : ℕ} {v w : Option (List ℕ)} → entry key seq v ≡ entry k s w → key ≡ k
same_entry e = cc

-- the last key joined when what there was weighed less, or was there before
open_more : (ps : List Point) (p : Point) → AreUpto ps p.key → IsOpen (map entry_of ps) → (weight_of (map entry_of ps) < 65536) ⊎ ((q : Point) × Has ps q × (q.key ≡ p.key)) → IsOpen (map entry_of (ps ++ p ∷ []))
open_more ps p order so_far why key seq value has =
    let from = Has-from_map entry_of (ps ++ p ∷ []) (entry key seq value) has in
    let is : from.0.key ≡ key = same_entry from.2 in
    subst (λ k. weight_before k (map entry_of (ps ++ p ∷ [])) < 65536) is
    (elim (Has-append_cases ps (p ∷ []) from.0 from.1) [
      | inl old ↦ at_old from.0 old
      | inr (inl e) ↦ subst (λ (q : Point). weight_before q.key (map entry_of (ps ++ p ∷ [])) < 65536) e (at_new why)
      | inr (inr h) ↦ absurd h
    ])
  where
    known : (q : Point) → Has ps q → weight_before q.key (map entry_of ps) < 65536
    known q old = so_far q.key q.seq _ (Has-map entry_of ps q old)

    at_old : (q : Point) → Has ps q → weight_before q.key (map entry_of (ps ++ p ∷ [])) < 65536
    at_old q old = omega (arith, before_more q.key ps p (not_before q.key p.key (order q old)), known q old)

    at_new : (weight_of (map entry_of ps) < 65536) ⊎ ((q : Point) × Has ps q × (q.key ≡ p.key)) → weight_before p.key (map entry_of (ps ++ p ∷ [])) < 65536
    at_new (inl light) = omega (arith, before_more p.key ps p (below-itself p.key), filter_weighs (is_before p.key) (map entry_of ps), light)
    at_new (inr same) =
        let less = subst (λ k. weight_before k (map entry_of ps) < 65536) same.2 (known same.0 same.1) in
        omega (arith, before_more p.key ps p (below-itself p.key), less)

-- ---- places

pub fills_none : (ps : List Point) → FillsTo ps 0 0
fills_none ps = record { within = omega arith; open_ = λ key seq value has. absurd has; weighs = inl refl }

take_with : (ps : List Point) (i : ℕ) (p : Point) → i < length ps → p ≡ get_or ps i p → take (i + 1) ps ≡ take i ps ++ p ∷ []
take_with ps i p inside is = take_more ps i p inside ∙ ap (λ q. take i ps ++ q ∷ []) (sym is)

Has-take : {A : Type 0} (i : ℕ) (xs : List A) (x : A) → Has (take i xs) x → (j : ℕ) × (j < i) × (j < length xs) × (get_or xs j x ≡ x)
Has-take i [] x has = absurd (elim (cases_zero i) [ inl e ↦ subst (λ n. Has (take n []) x) e has | inr e ↦ subst (λ n. Has (take n []) x) e.1 has ])
  where
    cases_zero : (n : ℕ) → (n ≡ 0) ⊎ ((m : ℕ) × (n ≡ suc m))
    cases_zero zero = inl refl
    cases_zero (suc m) = inr (m, refl)
Has-take zero (y ∷ xs) x has = absurd has
Has-take (suc i) (y ∷ xs) x (inl e) = (0, omega arith, omega arith, e)
Has-take (suc i) (y ∷ xs) x (inr h) = let from = Has-take i xs x h in (suc from.0, omega (arith, from.1), omega (arith, from.2), from.3)

-- an entry that is read of a list, whatever the default
read_at : {A : Type 0} (xs : List A) (k : ℕ) (d e : A) → k < length xs → get_or xs k d ≡ get_or xs k e
read_at [] k d e less = absurd (omega (arith, less))
read_at (x ∷ xs) zero d e less = refl
read_at (x ∷ xs) (suc k) d e less = read_at xs k d e (omega (arith, less))

upto_taken : (ps : List Point) (i : ℕ) (p : Point) → AreInOrder ps → i < length ps → p ≡ get_or ps i p → AreUpto (take i ps) p.key
upto_taken ps i p order inside is q has =
    let from = Has-take i ps q has in
    let here : get_or ps i q ≡ p = read_at ps i q p inside ∙ sym is in
    before_keys q p (subst (λ x. comes_before x p ≡ true) from.3 (subst (λ x. comes_before (get_or ps from.0 q) x ≡ true) here (order from.0 i q from.1 inside)))

is_heavy : (w : ℕ) (ps : List Point) → Weighs w ps → 65536 ≤ w → IsFull (map entry_of ps)
is_heavy w ps (inl is) full = omega (arith, is, full)
is_heavy w ps (inr both) full = both.1

is_light : (w : ℕ) (ps : List Point) → Weighs w ps → w < 65536 → weight_of (map entry_of ps) < 65536
is_light w ps (inl is) light = omega (arith, is, light)
is_light w ps (inr both) light = absurd (omega (arith, both.0, light))

-- what the code adds is what the entry weighs, or both are full
heavier : (w v : ℕ) (ps : List Point) (p : Point) → Weighs w ps → (v ≡ w + weight (entry_of p)) ⊎ ((65536 ≤ v) × (65536 ≤ w + weight (entry_of p))) → Weighs v (ps ++ p ∷ [])
heavier w v ps p (inl is) (inl made) = inl (omega (arith, weight_more ps p, is, made))
heavier w v ps p (inl is) (inr both) = inr (both.0, omega (arith, weight_more ps p, is, both.1))
heavier w v ps p (inr was) (inl made) = inr (omega (arith, was.0, made), omega (arith, weight_more ps p, was.1))
heavier w v ps p (inr was) (inr both) = inr (both.0, omega (arith, weight_more ps p, was.1))

pub fills_more : (ps : List Point) (i w v : ℕ) (p : Point) → AreInOrder ps → i < length ps → p ≡ get_or ps i p → FillsTo ps i w → (w < 65536) ⊎ ((q : Point) × Has (take i ps) q × (q.key ≡ p.key))
    → (v ≡ w + weight (entry_of p)) ⊎ ((65536 ≤ v) × (65536 ≤ w + weight (entry_of p))) → FillsTo ps (i + 1) v
fills_more ps i w v p order inside is so_far why made =
    let more = take_with ps i p inside is in
    record {
      within = omega (arith, inside);
      open_ = subst (λ qs. IsOpen (map entry_of qs)) (sym more) (open_more (take i ps) p (upto_taken ps i p order inside is) so_far.open_ (elim why [ inl light ↦ inl (is_light w (take i ps) so_far.weighs light) | inr same ↦ inr same ]));
      weighs = subst (Weighs v) (sym more) (heavier w v (take i ps) p so_far.weighs made);
    }

pub ends_here : (ps : List Point) (i w : ℕ) (p : Point) → i < length ps → p ≡ get_or ps i p → FillsTo ps i w → 65536 ≤ w → AreBefore (take i ps) p.key → EndsAt ps i
ends_here ps i w p inside is so_far full before = record {
  within = so_far.within;
  open_ = so_far.open_;
  full = λ _. is_heavy w (take i ps) so_far.weighs full;
  fresh = λ q there. subst (λ (x : Point). AreBefore (take i ps) x.key) (is ∙ get_or_from_slice_get ps i q p there) before;
}

pub ends_all : (ps : List Point) (i w : ℕ) → i ≡ length ps → FillsTo ps i w → EndsAt ps (length ps)
ends_all ps i w all so_far = record {
  within = omega arith;
  open_ = subst (λ n. IsOpen (map entry_of (take n ps))) all so_far.open_;
  full = λ less. absurd (omega (arith, less));
  fresh = λ p there. absurd (omega (arith, slice_get_within ps (length ps) p there));
}

-- ---- the last key of some entries, and the one behind them

pub order_of_taken : (ps : List Point) (i : ℕ) (p : Point) → AreInOrder ps → i < length ps → p ≡ get_or ps i p → AreInOrder (take i ps ++ p ∷ [])
order_of_taken ps i p order inside is = subst AreInOrder (take_with ps i p inside is) (AllPairs-take (λ x y. IsTrue (comes_before x y)) (i + 1) ps order)

upto_from_apart : (a b : List ℕ) → is_upto a b ≡ true → (a ≡ b → ⊥) → is_below a b ≡ true
upto_from_apart a b h apart = elim (cases_Bool (is_below a b)) [
  | inl e ↦ e
  | inr e ↦ absurd (apart (upto_antisymm a b h (upto-not_below b a ∙ ap not e)))
]

pub all_before : (before : List Point) (last p : Point) → slice_get before (length before - 1) ≡ Some last → (last.key ≡ p.key → ⊥) → AreInOrder (before ++ p ∷ []) → AreBefore before p.key
all_before before last p there other order q has =
    upto_below q.key last.key p.key upto_last (upto_from_apart last.key p.key (before_keys last p (AllPairs-across before last p order (Has-at before (length before - 1) last there))) other)
  where
    AllPairs-across : (xs : List Point) (x y : Point) → AreInOrder (xs ++ y ∷ []) → Has xs x → comes_before x y ≡ true
    AllPairs-across [] x y h has = absurd has
    AllPairs-across (z ∷ xs) x y h (inl e) = subst (λ v. comes_before v y ≡ true) e (All-at_Has (λ v. comes_before z v ≡ true) (xs ++ y ∷ []) y (AllPairs-head (λ u v. comes_before u v ≡ true) z (xs ++ y ∷ []) h) (Has-append_right xs (y ∷ []) y (inl refl)))
    AllPairs-across (z ∷ xs) x y h (inr has) = AllPairs-across xs x y (AllPairs-tail (λ u v. comes_before u v ≡ true) z (xs ++ y ∷ []) h) has

    Has-at : (xs : List Point) (i : ℕ) (x : Point) → slice_get xs i ≡ Some x → Has xs x
    Has-at xs i x e = subst (Has xs) (get_or_from_slice_get xs i x x e) (Has-get_or xs i x (slice_get_within xs i x e))

    front : AreInOrder before
    front = subst AreInOrder (take-append_seam before (p ∷ [])) (AllPairs-take (λ x y. IsTrue (comes_before x y)) (length before) (before ++ p ∷ []) order)

    last_upto : (xs : List Point) (x y : Point) → AreInOrder xs → slice_get xs (length xs - 1) ≡ Some y → Has xs x → is_upto x.key y.key ≡ true
    last_upto xs x y ordered e h =
        let c = Contains-from_Has xs x h in
        let same = get_or_from_slice_get xs (length xs - 1) y x e in
        elim (cases_lt c.0 (length xs - 1)) [
          | inl less ↦ before_keys x y (subst (λ v. comes_before x v ≡ true) same (subst (λ v. comes_before v (get_or xs (length xs - 1) x) ≡ true) c.2 (ordered c.0 (length xs - 1) x less (omega (arith, less)))))
          | inr more ↦ let k : c.0 ≡ length xs - 1 = omega (arith, more, c.1) in subst (λ v. is_upto v.key y.key ≡ true) (sym same ∙ ap (λ n. get_or xs n x) (sym k) ∙ c.2) (upto-itself y.key)
        ]

    upto_last : is_upto q.key last.key ≡ true
    upto_last = last_upto before q last front there has

pub last_has : (xs : List Point) (x : Point) → slice_get xs (length xs - 1) ≡ Some x → Has xs x
last_has xs x e = subst (Has xs) (get_or_from_slice_get xs (length xs - 1) x x e) (Has-get_or xs (length xs - 1) x (slice_get_within xs (length xs - 1) x e))

full_some : (ps : List Point) → IsFull (map entry_of ps) → 1 ≤ length ps
full_some [] full = absurd (omega (arith, full))
full_some (p ∷ ps) full = omega arith

pub ends_some : (ps : List Point) (n : ℕ) → EndsAt ps n → 1 ≤ length ps → 1 ≤ n
ends_some ps n ends some = elim (cases_lt n (length ps)) [
  | inl less ↦ let first = full_some (take n ps) (ends.full less) in omega (arith, first, length-take-le n ps ends.within)
  | inr all ↦ omega (arith, all, some)
]

pub ends_behind : (ps rest : List Point) (from n : ℕ) → rest ≡ drop from ps → from ≤ length ps → EndsAt rest n → EndsFrom ps from true (from + n)
ends_behind ps rest from n is within ends =
    let len : length rest ≡ length ps - from = ap length is ∙ length-drop from ps in
    let back : from + n - from ≡ n = omega arith in
    record {
      after = omega arith;
      within = omega (arith, len, ends.within, within);
      some = λ less. let one = ends_some rest n ends (omega (arith, len, less)) in omega (arith, one);
      ends = λ _. subst (EndsAt (drop from ps)) (sym back) (subst (λ xs. EndsAt xs n) is ends);
      rest = λ never. absurd (false≢true (sym never));
    }
