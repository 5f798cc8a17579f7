-- What a binary search in sorted entries finds.
use Rattle.std.proofs.Common.{◌≡◌, ℕ, zero, suc, cond, ◌+◌, ◌<◌, ◌≤◌, Bool, true, false, not, ◌&&◌, List, [], ◌∷◌, length, get_or, Option, Some, None, inl, inr, leb, ltb, refl, sym, ap, ◌∙◌, subst, arith}
use Rattle.std.proofs.lemmas.Bool.{cases_Bool, cases_order, cases_lt, false≢true, not-true, not-false, and_parts, and_from, and_left, and_right, and_cases, or_cases, or_left, or_right, or_parts, leb-true, leb-false, le-leb, lt-ltb, le-ltb}
use Rattle.std.proofs.lemmas.List.{get_or_default}
use Rattle.std.specs.List.{Contains, find}
use Rattle.std.specs.List.Sorted.{IsPartitionedBy}
use Rattle.xdb_key.specs.Entries.{Point}
use Rattle.xdb_key.specs.Order.{is_below, is_upto}
use Rattle.xdb_key.proofs.OrderLaws.{upto-not_below, below-itself, upto-itself, below_upto, upto_below, upto_trans, upto_antisymm}
use Rattle.xdb_rangedel.specs.Content.{entry_of, is_seen, same_key}
use Rattle.xdb_rangedel.specs.Members.{Has}
use Rattle.xdb_rangedel.proofs.MemberLaws.{Contains-from_Has, Has-get_or}
use Rattle.xdb_rangedel.proofs.NewestLaws.{same_key-tells, same_key-itself}
use Rattle.xdb_merge.specs.Layers.{IsAhead, AreSorted}
use Rattle.xdb_merge.specs.Search.{is_from, is_short, is_before, forwards, backwards, IsNearest, Splits, is_passed, first_seen}
use Rattle.xdb_merge.specs.declared.edge.Edge.{Edge}
use Rattle.xdb_merge.specs.declared.edge.Edge.TheVariants.{At, Behind}

-- ---- keys

pub upto-or_below : (a b : List ℕ) → is_below b a ≡ false → is_upto a b ≡ true
upto-or_below a b h = upto-not_below a b ∙ ap not h

pub below-or_upto : (a b : List ℕ) → is_upto a b ≡ false → is_below b a ≡ true
below-or_upto a b h = not-false (is_below b a) (sym (upto-not_below a b) ∙ h)

pub not_below_both : (a b : List ℕ) → is_below a b ≡ true → is_upto b a ≡ true → ⊥
not_below_both a b h u = false≢true (sym (upto-not_below b a ∙ ap not h) ∙ u)

pub same_from_bounds : (a b : List ℕ) → is_upto a b ≡ true → is_below a b ≡ false → a ≡ b
same_from_bounds a b u h = upto_antisymm a b u (upto-or_below b a h)

pub other_key : (a b : List ℕ) → (a ≡ b → ⊥) → same_key a b ≡ false
other_key a b differ = elim (cases_Bool (same_key a b)) [
  | inl e ↦ absurd (differ (same_key-tells a b e))
  | inr e ↦ e
]

pub from_upto : (e : Edge) (a b : List ℕ) → is_from e a ≡ true → is_upto a b ≡ true → is_from e b ≡ true
from_upto (At key) a b h u = upto_trans key.now a b h u
from_upto (Behind key) a b h u = below_upto key.now a b h u

-- ---- what is partitioned

by_steps : (t : Point → Bool) (ps : List Point) → AreSorted ps → ((p q : Point) → IsAhead p q → t q ≡ true → t p ≡ true) → IsPartitionedBy t ps
by_steps t ps sorted step = λ i j d i_le_j inside h. elim (cases_order i j) [
  | inl e ↦ ap (λ n. t (get_or ps n d)) e ∙ h
  | inr (inl less) ↦ step (get_or ps i d) (get_or ps j d) (sorted i j d less inside) h
  | inr (inr more) ↦ absurd (omega arith)
]

short_step : (e : Edge) (p q : Point) → IsAhead p q → is_short e q ≡ true → is_short e p ≡ true
short_step e p q ahead h = elim (cases_Bool (is_from e p.key)) [
  | inl t ↦ absurd (false≢true (sym (not-true (is_from e q.key) h) ∙ from_upto e p.key q.key t ahead.upto))
  | inr f ↦ ap not f
]

pub short-partitioned : (e : Edge) (ps : List Point) → AreSorted ps → IsPartitionedBy (is_short e) ps
short-partitioned e ps sorted = by_steps (is_short e) ps sorted (short_step e)

passed_at : (limit : ℕ) (key : List ℕ) (p q : Point) → IsAhead p q → (leb limit q.seq && is_upto q.key key) ≡ true → is_passed limit key p ≡ true
passed_at limit key p q ahead h =
    let parts = and_parts (leb limit q.seq) (is_upto q.key key) h in
    let upto : is_upto p.key key ≡ true = upto_trans p.key q.key key ahead.upto parts.1 in
    elim (cases_Bool (is_below p.key key)) [
      | inl below ↦ or_left (is_below p.key key) _ below
      | inr not_below ↦
          let back : is_upto key p.key ≡ true = upto-or_below key p.key not_below in
          let same : p.key ≡ q.key = upto_antisymm p.key q.key ahead.upto (upto_trans q.key key p.key parts.1 back) in
          let less : limit ≤ q.seq = leb-true limit q.seq parts.0 in
          let number : leb limit p.seq ≡ true = le-leb limit p.seq (omega (arith, ahead.falls same)) in
          or_right (is_below p.key key) _ (and_from (leb limit p.seq) (is_upto p.key key) number upto)
    ]

passed_step : (limit : ℕ) (key : List ℕ) (p q : Point) → IsAhead p q → is_passed limit key q ≡ true → is_passed limit key p ≡ true
passed_step limit key p q ahead h = elim (or_cases (is_below q.key key) (leb limit q.seq && is_upto q.key key) h) [
  | inl below ↦ or_left (is_below p.key key) _ (upto_below p.key q.key key ahead.upto below)
  | inr at ↦ passed_at limit key p q ahead at
]

pub passed-partitioned : (limit : ℕ) (key : List ℕ) (ps : List Point) → AreSorted ps → IsPartitionedBy (is_passed limit key) ps
passed-partitioned limit key ps sorted = by_steps (is_passed limit key) ps sorted (passed_step limit key)

-- ---- the nearest key

from_at : (e : Edge) (p : Point) → is_short e p ≡ false → is_from e p.key ≡ true
from_at e p h = not-false (is_from e p.key) h

upto_later : (ps : List Point) (n j : ℕ) (d : Point) → AreSorted ps → n ≤ j → j < length ps → is_upto (get_or ps n d).key (get_or ps j d).key ≡ true
upto_later ps n j d sorted n_le_j inside = elim (cases_order n j) [
  | inl e ↦ subst (λ i. is_upto (get_or ps n d).key (get_or ps i d).key ≡ true) e (upto-itself (get_or ps n d).key)
  | inr (inl less) ↦ (sorted n j d less inside).upto
  | inr (inr more) ↦ absurd (omega arith)
]

first_by : (e : Edge) (ps : List Point) (n : ℕ) (x p : Point) → AreSorted ps → Splits (is_short e) ps n → x ≡ get_or ps n x → Contains ps p → is_from e p.key ≡ true → is_upto x.key p.key ≡ true
first_by e ps n x p sorted split is (j, inside, at) from = elim (cases_lt j n) [
  | inl less ↦
      let short : is_short e p ≡ true = ap (is_short e) (sym at) ∙ split.0 j p (omega arith) less in
      absurd (false≢true (sym (not-true (is_from e p.key) short) ∙ from))
  | inr more ↦
      let found : x ≡ get_or ps n p = is ∙ get_or_default ps n x p (omega arith) in
      ap (λ y. is_upto y.key p.key) found ∙ ap (λ y. is_upto (get_or ps n p).key y.key) (sym at) ∙ upto_later ps n j p sorted more inside
]

pub nearest_from : (e : Edge) (ps : List Point) (n : ℕ) (x : Point) (k : List ℕ) → AreSorted ps → Splits (is_short e) ps n → n < length ps → x ≡ get_or ps n x → k ≡ x.key → IsNearest forwards (is_from e) ps (Some k)
nearest_from e ps n x k sorted split inside is key =
    let short : is_short e x ≡ false = ap (is_short e) is ∙ split.1 n x (omega arith) inside in
    record {
      passing = ap (is_from e) key ∙ from_at e x short;
      held = (x, subst (Has ps) (sym is) (Has-get_or ps n x inside), sym key);
      first = λ p has from. ap (λ y. is_upto y p.key) key ∙ first_by e ps n x p sorted split is (Contains-from_Has ps p has) from;
    }

pub none_from : (e : Edge) (ps : List Point) (n : ℕ) → Splits (is_short e) ps n → length ps ≤ n → IsNearest forwards (is_from e) ps None
none_from e ps n split all = λ p has.
    let c = Contains-from_Has ps p has in
    not-true (is_from e p.key) (ap (is_short e) (sym c.2) ∙ split.0 c.0 p (omega arith) (omega (arith, c.1)))

last_by : (end : List ℕ) (e : Edge) (ps : List Point) (n m : ℕ) (x p : Point) → ((k : List ℕ) → is_from e k ≡ is_upto end k) → AreSorted ps → Splits (is_short e) ps n → m + 1 ≡ n → x ≡ get_or ps m x → n ≤ length ps → Contains ps p → is_below p.key end ≡ true → is_upto p.key x.key ≡ true
last_by end e ps n m x p edge sorted split next is bound (j, inside, at) below = elim (cases_lt j n) [
  | inl less ↦
      let found : x ≡ get_or ps m p = is ∙ get_or_default ps m x p (omega arith) in
      ap (λ y. is_upto p.key y.key) found ∙ ap (λ y. is_upto y.key (get_or ps m p).key) (sym at) ∙ upto_later ps j m p sorted (omega arith) (omega arith)
  | inr more ↦
      let short : is_short e p ≡ false = ap (is_short e) (sym at) ∙ split.1 j p more inside in
      absurd (not_below_both p.key end below (sym (edge p.key) ∙ from_at e p short))
]

before_at : (end : List ℕ) (e : Edge) (p : Point) → ((k : List ℕ) → is_from e k ≡ is_upto end k) → is_short e p ≡ true → is_below p.key end ≡ true
before_at end e p edge h = below-or_upto end p.key (sym (edge p.key) ∙ not-true (is_from e p.key) h)

pub nearest_before : (end : List ℕ) (e : Edge) (ps : List Point) (n m : ℕ) (x : Point) (k : List ℕ) → ((k : List ℕ) → is_from e k ≡ is_upto end k) → AreSorted ps → Splits (is_short e) ps n → n ≤ length ps → m + 1 ≡ n → x ≡ get_or ps m x → k ≡ x.key → IsNearest backwards (is_before end) ps (Some k)
nearest_before end e ps n m x k edge sorted split bound next is key =
    let short : is_short e x ≡ true = ap (is_short e) is ∙ split.0 m x (omega arith) (omega arith) in
    record {
      passing = ap (is_before end) key ∙ before_at end e x edge short;
      held = (x, subst (Has ps) (sym is) (Has-get_or ps m x (omega arith)), sym key);
      first = λ p has below. ap (λ y. is_upto p.key y) key ∙ last_by end e ps n m x p edge sorted split next is bound (Contains-from_Has ps p has) below;
    }

pub none_before : (end : List ℕ) (e : Edge) (ps : List Point) (n : ℕ) → ((k : List ℕ) → is_from e k ≡ is_upto end k) → Splits (is_short e) ps n → n ≤ 0 → IsNearest backwards (is_before end) ps None
none_before end e ps n edge split none = λ p has.
    let c = Contains-from_Has ps p has in
    let short : is_short e p ≡ false = ap (is_short e) (sym c.2) ∙ split.1 c.0 p (omega arith) c.1 in
    elim (cases_Bool (is_below p.key end)) [
      | inl below ↦ absurd (not_below_both p.key end below (sym (edge p.key) ∙ from_at e p short))
      | inr f ↦ f
    ]

-- ---- the entry that is seen

find_at : (t : Point → Bool) (ps : List Point) (n : ℕ) (d : Point) → n < length ps → t (get_or ps n d) ≡ true → ((j : ℕ) → j < n → t (get_or ps j d) ≡ false) → find t ps ≡ Some (get_or ps n d)
find_at t [] n d inside at before = absurd (omega arith)
find_at t (p ∷ ps) zero d inside at before = ap (λ b. cond b (Some p) (find t ps)) at
find_at t (p ∷ ps) (suc n) d inside at before =
    ap (λ b. cond b (Some p) (find t ps)) (before 0 (omega arith))
    ∙ find_at t ps n d (omega arith) at (λ j less. before (suc j) (omega arith))

find_none : (t : Point → Bool) (ps : List Point) → ((p : Point) → Has ps p → t p ≡ false) → find t ps ≡ None
find_none t [] all = refl
find_none t (p ∷ ps) all = ap (λ b. cond b (Some p) (find t ps)) (all p (inl refl)) ∙ find_none t ps (λ q has. all q (inr has))

-- what is passed isn't seen
passed-unseen : (limit : ℕ) (key : List ℕ) (p : Point) → is_passed limit key p ≡ true → is_seen limit key (entry_of p) ≡ false
passed-unseen limit key p h = elim (or_cases (is_below p.key key) (leb limit p.seq && is_upto p.key key) h) [
  | inl below ↦ and_left (same_key p.key key) (ltb p.seq limit) (other_key p.key key (λ e. false≢true (sym (ap (λ k. is_below k key) e ∙ below-itself key) ∙ below)))
  | inr at ↦ and_right (same_key p.key key) (ltb p.seq limit) (le-ltb p.seq limit (leb-true limit p.seq (and_parts (leb limit p.seq) (is_upto p.key key) at).0))
]

seen_at : (limit : ℕ) (key : List ℕ) (p : Point) → is_passed limit key p ≡ false → is_upto p.key key ≡ true → is_seen limit key (entry_of p) ≡ true
seen_at limit key p h upto =
    let parts = or_parts (is_below p.key key) (leb limit p.seq && is_upto p.key key) h in
    let same : p.key ≡ key = same_from_bounds p.key key upto parts.0 in
    let number : leb limit p.seq ≡ false = elim (and_cases (leb limit p.seq) (is_upto p.key key) parts.1) [
      | inl e ↦ e
      | inr e ↦ absurd (false≢true (sym e ∙ upto))
    ] in
    and_from (same_key p.key key) (ltb p.seq limit) (ap (λ k. same_key k key) same ∙ same_key-itself key) (lt-ltb p.seq limit (leb-false limit p.seq number))

pub seen_found : (limit : ℕ) (key : List ℕ) (ps : List Point) (n : ℕ) (x : Point) → Splits (is_passed limit key) ps n → n < length ps → x ≡ get_or ps n x → is_upto x.key key ≡ true → Some x ≡ first_seen limit key ps
seen_found limit key ps n x split inside is upto =
    let rest : is_passed limit key x ≡ false = ap (is_passed limit key) is ∙ split.1 n x (omega arith) inside in
    ap Some is ∙ sym (find_at (λ p. is_seen limit key (entry_of p)) ps n x inside
    (ap (λ p. is_seen limit key (entry_of p)) (sym is) ∙ seen_at limit key x rest upto)
    (λ j less. passed-unseen limit key (get_or ps j x) (split.0 j x (omega arith) less)))

behind-unseen : (limit : ℕ) (key : List ℕ) (x p : Point) → is_upto x.key key ≡ false → is_upto x.key p.key ≡ true → is_seen limit key (entry_of p) ≡ false
behind-unseen limit key x p behind upto =
    let below : is_below key p.key ≡ true = below_upto key x.key p.key (below-or_upto x.key key behind) upto in
    and_left (same_key p.key key) (ltb p.seq limit) (other_key p.key key (λ e. false≢true (sym (ap (λ k. is_below key k) e ∙ below-itself key) ∙ below)))

pub seen_behind : (limit : ℕ) (key : List ℕ) (ps : List Point) (n : ℕ) (x : Point) → AreSorted ps → Splits (is_passed limit key) ps n → n < length ps → x ≡ get_or ps n x → is_upto x.key key ≡ false → ◌≡◌ {A = Option Point} None (first_seen limit key ps)
seen_behind limit key ps n x sorted split inside is behind = sym (find_none (λ p. is_seen limit key (entry_of p)) ps (λ p has.
    let c = Contains-from_Has ps p has in
    elim (cases_lt c.0 n) [
      | inl less ↦ passed-unseen limit key p (ap (is_passed limit key) (sym c.2) ∙ split.0 c.0 p (omega arith) less)
      | inr more ↦
          let found : x ≡ get_or ps n p = is ∙ get_or_default ps n x p inside in
          behind-unseen limit key x p behind (ap (λ y. is_upto y.key p.key) found ∙ ap (λ y. is_upto (get_or ps n p).key y.key) (sym c.2) ∙ upto_later ps n c.0 p sorted more c.1)
    ]))

pub seen_past : (limit : ℕ) (key : List ℕ) (ps : List Point) (n : ℕ) → Splits (is_passed limit key) ps n → length ps ≤ n → ◌≡◌ {A = Option Point} None (first_seen limit key ps)
seen_past limit key ps n split all = sym (find_none (λ p. is_seen limit key (entry_of p)) ps (λ p has.
    let c = Contains-from_Has ps p has in
    passed-unseen limit key p (ap (is_passed limit key) (sym c.2) ∙ split.0 c.0 p (omega arith) (omega (arith, c.1)))))
