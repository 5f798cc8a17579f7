-- A search goes on from key to key, as long as the keys that it passes have no value.
use Rattle.std.proofs.Common.{◌≡◌, ℕ, ◌<◌, ◌≤◌, Bool, true, false, cond, List, [], ◌∷◌, length, Option, Some, None, inl, inr, sym, ap, ◌∙◌, arith}
use Rattle.std.proofs.lemmas.Bool.{cases_Bool, false≢true, and_left, and_right, and_from}
use Rattle.std.specs.Borrow.{Bor}
use Rattle.std.specs.List.{filter}
use Rattle.xdb_key.specs.Bounds.{Bounds, holds}
use Rattle.xdb_key.specs.Entries.{Point}
use Rattle.xdb_key.specs.Order.{is_below, is_upto}
use Rattle.xdb_key.proofs.OrderLaws.{below-itself, below_upto, upto_below, upto_trans, upto_from_below, below_trans}
use Rattle.xdb_mem.specs.Parts.{Parts}
use Rattle.xdb_plain.specs.Answers.{first_of, last_of}
use Rattle.xdb_rangedel.specs.Content.{verdict, value_of}
use Rattle.xdb_rangedel.specs.Members.{Has}
use Rattle.xdb_merge.specs.Layers.{entries_of, content_of_layers}
use Rattle.xdb_merge.specs.Merge.{pairs_of}
use Rattle.xdb_merge.specs.Search.{is_from, is_before, edge_key, forwards, backwards, IsNearest, IsNearestKey, IsDecider, StartsIn, end_in, value_in, pair_of}
use Rattle.xdb_merge.specs.declared.edge.Edge.{Edge}
use Rattle.xdb_merge.specs.declared.edge.Edge.TheVariants.{At, Behind}
use Rattle.xdb_merge.proofs.SortedLaws.{upto-or_below, not_below_both, same_from_bounds, from_upto}
use Rattle.xdb_merge.proofs.DecideLaws.{no_entry}
use Rattle.xdb_merge.proofs.PairLaws.{first_is, last_is, no_first, no_last}

-- ---- where a search begins

pub starts_at : (r : Bounds) (edge : Edge) (lo : Bor (List ℕ)) → lo.now ≡ r.lo → is_below (edge_key edge) r.lo ≡ true → StartsIn r edge (At lo)
starts_at r (At key) lo e short = record {
  behind = λ k h. upto_trans key.now r.lo k (upto_from_below key.now r.lo short) (sym (ap (λ x. is_upto x k) e) ∙ h);
  within = λ k h. sym (ap (λ x. is_upto x k) e) ∙ h;
  passed = λ k h out. sym (ap (λ x. is_upto x k) e) ∙ out;
}
starts_at r (Behind key) lo e short = record {
  behind = λ k h. below_upto key.now r.lo k short (sym (ap (λ x. is_upto x k) e) ∙ h);
  within = λ k h. sym (ap (λ x. is_upto x k) e) ∙ h;
  passed = λ k h out. sym (ap (λ x. is_upto x k) e) ∙ out;
}

pub starts_behind : (r : Bounds) (edge : Edge) → is_below (edge_key edge) r.lo ≡ false → StartsIn r edge edge
starts_behind r (At key) within = record {
  behind = λ k h. h;
  within = λ k h. upto_trans r.lo key.now k (upto-or_below r.lo key.now within) h;
  passed = λ k h out. absurd (false≢true (sym out ∙ h));
}
starts_behind r (Behind key) within = record {
  behind = λ k h. h;
  within = λ k h. upto_from_below r.lo k (upto_below r.lo key.now k (upto-or_below r.lo key.now within) h);
  passed = λ k h out. absurd (false≢true (sym out ∙ h));
}

-- ---- values

value_outside : (ls : List Parts) (r : Bounds) (at : ℕ) (k : List ℕ) → holds r k ≡ false → value_in ls r at k ≡ None
value_outside ls r at k out = ap (λ b. cond b (value_of (verdict (content_of_layers ls) at k)) None) out

value_inside : (ls : List Parts) (r : Bounds) (at : ℕ) (k : List ℕ) (v : Option (List ℕ)) → holds r k ≡ true → value_of (verdict (content_of_layers ls) at k) ≡ v → value_in ls r at k ≡ v
value_inside ls r at k v inside is = ap (λ b. cond b (value_of (verdict (content_of_layers ls) at k)) None) inside ∙ is

none_said : (ls : List Parts) (r : Bounds) (at : ℕ) (k : List ℕ) → value_of (verdict (content_of_layers ls) at k) ≡ None → value_in ls r at k ≡ None
none_said ls r at k none = elim (cases_Bool (holds r k)) [
  | inl e ↦ value_inside ls r at k None e none
  | inr e ↦ value_outside ls r at k e
]

-- ---- forwards

-- from the edge up to where the search is now, no key has a value
pub record HasPassed (ls : List Parts) (r : Bounds) (at : ℕ) (edge from : Edge) : Type 0 where
  pub behind : (k : List ℕ) → is_from from k ≡ true → is_from edge k ≡ true
  pub within : (k : List ℕ) → is_from from k ≡ true → is_upto r.lo k ≡ true
  pub passed : (k : List ℕ) → is_from edge k ≡ true → is_from from k ≡ false → value_in ls r at k ≡ None

pub passed_none : (ls : List Parts) (r : Bounds) (at : ℕ) (edge from : Edge) → StartsIn r edge from → HasPassed ls r at edge from
passed_none ls r at edge from start = record {
  behind = start.behind;
  within = start.within;
  passed = λ k h out. value_outside ls r at k (and_left (is_upto r.lo k) (is_below k r.hi) (start.passed k h out));
}

-- before the nearest key, no entry has a key
none_between : (ls : List Parts) (r : Bounds) (at : ℕ) (from : Edge) (key k : List ℕ) → IsNearestKey forwards (is_from from) (entries_of ls) key → is_from from k ≡ true → is_below k key ≡ true → value_in ls r at k ≡ None
none_between ls r at from key k near h less = none_said ls r at k (no_entry ls at k (λ p has same.
    not_below_both k key less (ap (is_upto key) (sym same) ∙ near.first p has (ap (is_from from) same ∙ h))))

-- no key below the nearest one has a value
below_nearest : (ls : List Parts) (r : Bounds) (at : ℕ) (edge from : Edge) (key k : List ℕ) → HasPassed ls r at edge from → IsNearestKey forwards (is_from from) (entries_of ls) key → is_from edge k ≡ true → is_below k key ≡ true → value_in ls r at k ≡ None
below_nearest ls r at edge from key k so_far near h less = elim (cases_Bool (is_from from k)) [
  | inl ahead ↦ none_between ls r at from key k near ahead less
  | inr out ↦ so_far.passed k h out
]

pub passed_key : (ls : List Parts) (r : Bounds) (at : ℕ) (edge from : Edge) (b : Bor (List ℕ)) (key : List ℕ) → b.now ≡ key → HasPassed ls r at edge from → IsNearestKey forwards (is_from from) (entries_of ls) key → value_of (verdict (content_of_layers ls) at key) ≡ None → HasPassed ls r at edge (Behind b)
passed_key ls r at edge from b key e so_far near none =
    let ahead : (k : List ℕ) → is_below b.now k ≡ true → is_from from k ≡ true = λ k h. from_upto from key k near.passing (upto_from_below key k (sym (ap (λ x. is_below x k) e) ∙ h)) in
    record {
      behind = λ k h. so_far.behind k (ahead k h);
      within = λ k h. so_far.within k (ahead k h);
      passed = λ k h out. elim (cases_Bool (is_below k key)) [
        | inl less ↦ below_nearest ls r at edge from key k so_far near h less
        | inr more ↦
            let same : k ≡ key = same_from_bounds k key (upto-or_below k key (sym (ap (λ x. is_below x k) e) ∙ out)) more in
            ap (value_in ls r at) same ∙ none_said ls r at key none
      ];
    }

pub first_ended : (ls : List Parts) (r : Bounds) (at : ℕ) (edge from : Edge) → HasPassed ls r at edge from → IsNearest forwards (is_from from) (entries_of ls) None → ◌≡◌ {A = Option (List ℕ × List ℕ)} None (first_of (filter (λ pair. is_from edge pair.0) (pairs_of ls r at)))
first_ended ls r at edge from so_far none = no_first ls r at (is_from edge) (λ k h. elim (cases_Bool (is_from from k)) [
  | inl ahead ↦ none_said ls r at k (no_entry ls at k (λ p has same. false≢true (sym (none p has) ∙ ap (is_from from) same ∙ ahead)))
  | inr out ↦ so_far.passed k h out
])

pub first_left : (ls : List Parts) (r : Bounds) (at : ℕ) (edge from : Edge) (key : List ℕ) → HasPassed ls r at edge from → IsNearestKey forwards (is_from from) (entries_of ls) key → is_below key r.hi ≡ false → ◌≡◌ {A = Option (List ℕ × List ℕ)} None (first_of (filter (λ pair. is_from edge pair.0) (pairs_of ls r at)))
first_left ls r at edge from key so_far near left = no_first ls r at (is_from edge) (λ k h. elim (cases_Bool (is_below k key)) [
  | inl less ↦ below_nearest ls r at edge from key k so_far near h less
  | inr more ↦
      let out : is_below k r.hi ≡ false = elim (cases_Bool (is_below k r.hi)) [
        | inl e ↦ absurd (false≢true (sym left ∙ upto_below key k r.hi (upto-or_below key k more) e))
        | inr e ↦ e
      ] in
      value_outside ls r at k (and_right (is_upto r.lo k) (is_below k r.hi) out)
])

pub first_found : (ls : List Parts) (r : Bounds) (at : ℕ) (edge from : Edge) (key : List ℕ) (p : Point) → HasPassed ls r at edge from → IsNearestKey forwards (is_from from) (entries_of ls) key → is_below key r.hi ≡ true → IsDecider (content_of_layers ls) at key (Some p) → Some (pair_of p) ≡ first_of (filter (λ pair. is_from edge pair.0) (pairs_of ls r at))
first_found ls r at edge from key p so_far near inside found =
    let held : holds r key ≡ true = and_from (is_upto r.lo key) (is_below key r.hi) (so_far.within key near.passing) inside in
    ap (λ k. Some (k, p.value)) found.0
    ∙ first_is ls r at (is_from edge) key p.value (so_far.behind key near.passing) (value_inside ls r at key (Some p.value) held found.1) (λ k h less. below_nearest ls r at edge from key k so_far near h less)

-- ---- backwards

-- from the end down to where the search is now, no key has a value
pub record HasPassedDown (ls : List Parts) (r : Bounds) (at : ℕ) (end before : List ℕ) : Type 0 where
  pub ahead : (k : List ℕ) → is_below k before ≡ true → is_below k end ≡ true
  pub within : (k : List ℕ) → is_below k before ≡ true → is_below k r.hi ≡ true
  pub passed : (k : List ℕ) → is_below k end ≡ true → is_below k before ≡ false → value_in ls r at k ≡ None

pub down_none : (ls : List Parts) (r : Bounds) (at : ℕ) (end before : List ℕ) → before ≡ end_in r end → HasPassedDown ls r at end before
down_none ls r at end before is = elim (cases_Bool (is_below r.hi end)) [
  | inl e ↦
      let hi : before ≡ r.hi = is ∙ ap (λ b. cond b r.hi end) e in
      record {
        ahead = λ k h. below_trans k r.hi end (ap (is_below k) (sym hi) ∙ h) e;
        within = λ k h. ap (is_below k) (sym hi) ∙ h;
        passed = λ k h out. value_outside ls r at k (and_right (is_upto r.lo k) (is_below k r.hi) (ap (is_below k) (sym hi) ∙ out));
      }
  | inr e ↦
      let whole : before ≡ end = is ∙ ap (λ b. cond b r.hi end) e in
      record {
        ahead = λ k h. ap (is_below k) (sym whole) ∙ h;
        within = λ k h. below_upto k end r.hi (ap (is_below k) (sym whole) ∙ h) (upto-or_below end r.hi e);
        passed = λ k h out. absurd (false≢true (sym out ∙ ap (is_below k) whole ∙ h));
      }
]

none_between-down : (ls : List Parts) (r : Bounds) (at : ℕ) (before key k : List ℕ) → IsNearestKey backwards (is_before before) (entries_of ls) key → is_below k before ≡ true → is_below key k ≡ true → value_in ls r at k ≡ None
none_between-down ls r at before key k near h more = none_said ls r at k (no_entry ls at k (λ p has same.
    not_below_both key k more (ap (λ x. is_upto x key) (sym same) ∙ near.first p has (ap (is_before before) same ∙ h))))

above_nearest : (ls : List Parts) (r : Bounds) (at : ℕ) (end before key k : List ℕ) → HasPassedDown ls r at end before → IsNearestKey backwards (is_before before) (entries_of ls) key → is_below k end ≡ true → is_below key k ≡ true → value_in ls r at k ≡ None
above_nearest ls r at end before key k so_far near h more = elim (cases_Bool (is_below k before)) [
  | inl left ↦ none_between-down ls r at before key k near left more
  | inr out ↦ so_far.passed k h out
]

pub passed_key-down : (ls : List Parts) (r : Bounds) (at : ℕ) (end before b key : List ℕ) → b ≡ key → HasPassedDown ls r at end before → IsNearestKey backwards (is_before before) (entries_of ls) key → value_of (verdict (content_of_layers ls) at key) ≡ None → HasPassedDown ls r at end b
passed_key-down ls r at end before b key e so_far near none =
    let ahead : (k : List ℕ) → is_below k b ≡ true → is_below k before ≡ true = λ k h. below_trans k key before (ap (is_below k) (sym e) ∙ h) near.passing in
    record {
      ahead = λ k h. so_far.ahead k (ahead k h);
      within = λ k h. so_far.within k (ahead k h);
      passed = λ k h out. elim (cases_Bool (is_below key k)) [
        | inl more ↦ above_nearest ls r at end before key k so_far near h more
        | inr less ↦
            let same : k ≡ key = same_from_bounds k key (upto-or_below k key less) (ap (is_below k) (sym e) ∙ out) in
            ap (value_in ls r at) same ∙ none_said ls r at key none
      ];
    }

pub last_ended : (ls : List Parts) (r : Bounds) (at : ℕ) (end before : List ℕ) → HasPassedDown ls r at end before → IsNearest backwards (is_before before) (entries_of ls) None → ◌≡◌ {A = Option (List ℕ × List ℕ)} None (last_of (filter (λ pair. is_before end pair.0) (pairs_of ls r at)))
last_ended ls r at end before so_far none = no_last ls r at (is_before end) (λ k h. elim (cases_Bool (is_below k before)) [
  | inl left ↦ none_said ls r at k (no_entry ls at k (λ p has same. false≢true (sym (none p has) ∙ ap (is_before before) same ∙ left)))
  | inr out ↦ so_far.passed k h out
])

pub last_left : (ls : List Parts) (r : Bounds) (at : ℕ) (end before key : List ℕ) → HasPassedDown ls r at end before → IsNearestKey backwards (is_before before) (entries_of ls) key → is_upto r.lo key ≡ false → ◌≡◌ {A = Option (List ℕ × List ℕ)} None (last_of (filter (λ pair. is_before end pair.0) (pairs_of ls r at)))
last_left ls r at end before key so_far near left = no_last ls r at (is_before end) (λ k h. elim (cases_Bool (is_below key k)) [
  | inl more ↦ above_nearest ls r at end before key k so_far near h more
  | inr less ↦
      let out : is_upto r.lo k ≡ false = elim (cases_Bool (is_upto r.lo k)) [
        | inl e ↦ absurd (false≢true (sym left ∙ upto_trans r.lo k key e (upto-or_below k key less)))
        | inr e ↦ e
      ] in
      value_outside ls r at k (and_left (is_upto r.lo k) (is_below k r.hi) out)
])

pub last_found : (ls : List Parts) (r : Bounds) (at : ℕ) (end before key : List ℕ) (p : Point) → HasPassedDown ls r at end before → IsNearestKey backwards (is_before before) (entries_of ls) key → is_upto r.lo key ≡ true → IsDecider (content_of_layers ls) at key (Some p) → Some (pair_of p) ≡ last_of (filter (λ pair. is_before end pair.0) (pairs_of ls r at))
last_found ls r at end before key p so_far near inside found =
    let held : holds r key ≡ true = and_from (is_upto r.lo key) (is_below key r.hi) inside (so_far.within key near.passing) in
    ap (λ k. Some (k, p.value)) found.0
    ∙ last_is ls r at (is_before end) key p.value (so_far.ahead key near.passing) (value_inside ls r at key (Some p.value) held found.1) (λ k h more. above_nearest ls r at end before key k so_far near h more)

-- ---- the search ends

not_longer : {A : Type 0} (t u : A → Bool) (xs : List A) → ((x : A) → u x ≡ true → t x ≡ true) → length (filter u xs) ≤ length (filter t xs)
not_longer t u [] less = omega arith
not_longer t u (x ∷ xs) less = elim (cases_Bool (u x)) [
  | inl e ↦ rw (e, less x e) (omega (arith, not_longer t u xs less))
  | inr e ↦ elim (cases_Bool (t x)) [
    | inl f ↦ rw (e, f) (omega (arith, not_longer t u xs less))
    | inr f ↦ rw (e, f) (not_longer t u xs less)
  ]
]

-- fewer pass a test that is stricter, and that one of them fails
pub shorter : {A : Type 0} (t u : A → Bool) (xs : List A) (y : A) → ((x : A) → u x ≡ true → t x ≡ true) → Has xs y → t y ≡ true → u y ≡ false → length (filter u xs) < length (filter t xs)
shorter t u [] y less has pass fail = absurd has
shorter t u (x ∷ xs) y less (inl is) pass fail =
    let e : u x ≡ false = ap u is ∙ fail in
    let f : t x ≡ true = ap t is ∙ pass in
    rw (e, f) (omega (arith, not_longer t u xs less))
shorter t u (x ∷ xs) y less (inr has) pass fail = elim (cases_Bool (u x)) [
  | inl e ↦ rw (e, less x e) (omega (arith, shorter t u xs y less has pass fail))
  | inr e ↦ elim (cases_Bool (t x)) [
    | inl f ↦ rw (e, f) (omega (arith, shorter t u xs y less has pass fail))
    | inr f ↦ rw (e, f) (shorter t u xs y less has pass fail)
  ]
]

pub fewer_behind : (ls : List Parts) (from : Edge) (b : Bor (List ℕ)) (key : List ℕ) → b.now ≡ key → IsNearestKey forwards (is_from from) (entries_of ls) key → length (filter (λ p. is_from (Behind b) p.key) (entries_of ls)) < length (filter (λ p. is_from from p.key) (entries_of ls))
fewer_behind ls from b key e near = shorter (λ p. is_from from p.key) (λ p. is_from (Behind b) p.key) (entries_of ls) near.held.0
    (λ p h. from_upto from key p.key near.passing (upto_from_below key p.key (sym (ap (λ x. is_below x p.key) e) ∙ h)))
    near.held.1
    (ap (is_from from) near.held.2 ∙ near.passing)
    (ap (is_below b.now) near.held.2 ∙ ap (λ x. is_below x key) e ∙ below-itself key)

pub fewer_before : (ls : List Parts) (before b key : List ℕ) → b ≡ key → IsNearestKey backwards (is_before before) (entries_of ls) key → length (filter (λ p. is_before b p.key) (entries_of ls)) < length (filter (λ p. is_before before p.key) (entries_of ls))
fewer_before ls before b key e near = shorter (λ p. is_before before p.key) (λ p. is_before b p.key) (entries_of ls) near.held.0
    (λ p h. below_trans p.key key before (ap (is_below p.key) (sym e) ∙ h) near.passing)
    near.held.1
    (ap (is_before before) near.held.2 ∙ near.passing)
    (ap (λ x. is_below x b) near.held.2 ∙ ap (is_below key) e ∙ below-itself key)
