-- A range that is widened by each of some ranges that it meets. Where they stand by their starts, one pass up
-- and one pass down leave it with the whole of each that it meets.
use Rattle.std.proofs.Common.{◌≡◌, ℕ, Bool, true, false, ◌&&◌, cond, List, [], ◌∷◌, ◌++◌, reverse, refl, sym, ap, ◌∙◌, subst, inl, inr}
use Rattle.std.specs.List.{list_all, AllByRecursion}
use Rattle.std.proofs.lemmas.Bool.{and_parts, and_from, cases_Bool, cond-true, cond-false, false≢true}
use Rattle.std.proofs.lemmas.Grind.{reverse_onto}
use Rattle.xdb_key.specs.Bounds.{Bounds, meets, covers, lesser, greater}
use Rattle.xdb_key.specs.Order.{is_below, is_upto}
use Rattle.xdb_key.proofs.OrderLaws.{upto_trans, upto_antisymm, upto_from_below, upto-itself, first_upto_greater, greater_upto}
use Rattle.xdb_lists.specs.Sorted.{is_sorted}
use Rattle.xdb_pick.specs.Hulls.{wider, swept, start_cmp}
use Rattle.xdb_pick.proofs.RangeLaws.{all_each, all_from_test, covers-itself, covers-chain, meets-wider, wider-first, wider-second, covers-wider, wider-has_key, never_below, off-apart}

abbrev step : Bounds → Bounds → Bounds
step h r = cond (meets h r) (wider h r) h

-- the pass from the other end
abbrev pub back : Bounds → List Bounds → Bounds
back h [] = h
back h (r ∷ rs) = step (back h rs) r

swept-push : (h : Bounds) (rs : List Bounds) (r : Bounds) → swept h (rs ++ r ∷ []) ≡ step (swept h rs) r
swept-push h [] r = refl
swept-push h (x ∷ rs) r = swept-push (step h x) rs r

pub swept-reverse : (h : Bounds) (rs : List Bounds) → swept h (reverse rs) ≡ back h rs
swept-reverse h [] = refl
swept-reverse h (r ∷ rs) =
    ap (swept h) (reverse_onto rs r []) ∙ swept-push h (reverse rs) r ∙ ap (λ o. step o r) (swept-reverse h rs)

-- ---- what each step keeps

module _ (P : Bounds → Type 0) where
  step-keeps : (h r : Bounds) → (meets h r ≡ true → P (wider h r)) → P h → P (step h r)
  step-keeps h r met off = by_case (meets h r) met
    where
      by_case : (b : Bool) → (b ≡ true → P (wider h r)) → P (cond b (wider h r) h)
      by_case true w = w refl
      by_case false w = off

  swept-keeps : (rs : List Bounds) → AllByRecursion (λ r. (h : Bounds) → P h → meets h r ≡ true → P (wider h r)) rs → (h : Bounds) → P h → P (swept h rs)
  swept-keeps [] w h p = p
  swept-keeps (r ∷ rs) w h p = swept-keeps rs w.1 (step h r) (step-keeps h r (w.0 h p) p)

  back-keeps : (rs : List Bounds) → AllByRecursion (λ r. (h : Bounds) → P h → meets h r ≡ true → P (wider h r)) rs → (h : Bounds) → P h → P (back h rs)
  back-keeps [] w h p = p
  back-keeps (r ∷ rs) w h p = let q = back-keeps rs w.1 h p in step-keeps (back h rs) r (w.0 (back h rs) q) q

all_any : {X : Type 0} {P : X → Type 0} → ((x : X) → P x) → (xs : List X) → AllByRecursion P xs
all_any f [] = tt
all_any f (x ∷ xs) = (f x, all_any f xs)

pub swept-has_key : (h : Bounds) (rs : List Bounds) → is_below h.lo h.hi ≡ true → is_below (swept h rs).lo (swept h rs).hi ≡ true
swept-has_key h rs range = swept-keeps (λ o. is_below o.lo o.hi ≡ true) rs (all_any (λ r o p m. wider-has_key o r p) rs) h range

pub swept-covers : (h : Bounds) (rs : List Bounds) → covers (swept h rs) h ≡ true
swept-covers h rs = swept-keeps (λ o. covers o h ≡ true) rs (all_any (λ r o p m. covers-chain (wider o r) o h (wider-first o r) p) rs) h (covers-itself h)

back-has_key : (h : Bounds) (rs : List Bounds) → is_below h.lo h.hi ≡ true → is_below (back h rs).lo (back h rs).hi ≡ true
back-has_key h rs range = back-keeps (λ o. is_below o.lo o.hi ≡ true) rs (all_any (λ r o p m. wider-has_key o r p) rs) h range

pub back-covers : (h : Bounds) (rs : List Bounds) → covers (back h rs) h ≡ true
back-covers h rs = back-keeps (λ o. covers o h ≡ true) rs (all_any (λ r o p m. covers-chain (wider o r) o h (wider-first o r) p) rs) h (covers-itself h)

-- a range that has whole what it meets also has what a range within it grows to
abbrev pub Whole : Bounds → Bounds → Type 0
Whole c r = meets c r ≡ true → covers c r ≡ true

stays_within : (c : Bounds) (rs : List Bounds) → AllByRecursion (Whole c) rs → AllByRecursion (λ r. (h : Bounds) → covers c h ≡ true → meets h r ≡ true → covers c (wider h r) ≡ true) rs
stays_within c rs full = all_each (λ r whole h p m. covers-wider c h r p (whole (meets-wider c h r p m))) rs full

pub swept-within : (c h : Bounds) (rs : List Bounds) → AllByRecursion (Whole c) rs → covers c h ≡ true → covers c (swept h rs) ≡ true
swept-within c h rs full p = swept-keeps (λ o. covers c o ≡ true) rs (stays_within c rs full) h p

pub back-within : (c h : Bounds) (rs : List Bounds) → AllByRecursion (Whole c) rs → covers c h ≡ true → covers c (back h rs) ≡ true
back-within c h rs full p = back-keeps (λ o. covers c o ≡ true) rs (stays_within c rs full) h p

-- ---- the pass up leaves nothing above

abbrev EndsIn : Bounds → Bounds → Type 0
EndsIn h r = meets h r ≡ true → is_upto r.hi h.hi ≡ true

abbrev FromOn : List ℕ → Bounds → Type 0
FromOn at r = is_upto at r.lo ≡ true

-- what begins behind the end isn't met
swept-behind : (h : Bounds) (rs : List Bounds) → AllByRecursion (FromOn h.hi) rs → swept h rs ≡ h
swept-behind h [] all = refl
swept-behind h (r ∷ rs) all = ap (λ o. swept o rs) (cond-false (meets h r) (wider h r) h (off (meets h r) refl)) ∙ swept-behind h rs all.1
  where
    off : (b : Bool) → meets h r ≡ b → meets h r ≡ false
    off false e = e
    off true e = absurd (never_below r.lo h.hi (and_parts (is_below h.lo r.hi) (is_below r.lo h.hi) e).1 all.0)

pub up-ends : (rs : List Bounds) → is_sorted start_cmp rs ≡ true → (h : Bounds) → is_below h.lo h.hi ≡ true → AllByRecursion (EndsIn (swept h rs)) rs
up-ends [] sorted h range = tt
up-ends (r ∷ rs) sorted h range = (first (meets h r) refl, up-ends rs parts.1 (step h r) (step-keeps (λ o. is_below o.lo o.hi ≡ true) h r (λ m. wider-has_key h r range) range))
  where
    parts : (list_all (λ u. is_upto r.lo u.lo) rs ≡ true) × (is_sorted start_cmp rs ≡ true)
    parts = and_parts (list_all (λ u. is_upto r.lo u.lo) rs) (is_sorted start_cmp rs) sorted

    high : (o : Bounds) → is_upto r.hi o.hi ≡ true → is_upto r.hi (swept o rs).hi ≡ true
    high o p = upto_trans r.hi o.hi (swept o rs).hi p (and_parts (is_upto (swept o rs).lo o.lo) (is_upto o.hi (swept o rs).hi) (swept-covers o rs)).1

    first : (b : Bool) → meets h r ≡ b → EndsIn (swept (step h r) rs) r
    first true e =
        let is : step h r ≡ wider h r = cond-true (meets h r) (wider h r) h e in
        λ m. high (step h r) (subst (λ o. is_upto r.hi o.hi ≡ true) (sym is) (and_parts (is_upto (wider h r).lo r.lo) (is_upto r.hi (wider h r).hi) (wider-second h r)).1)
    first false e =
        let is : step h r ≡ h = cond-false (meets h r) (wider h r) h e in
        elim (off-apart h r e) [
          | inl before ↦ λ m. high (step h r) (subst (λ o. is_upto r.hi o.hi ≡ true) (sym is) (upto_trans r.hi h.lo h.hi before (upto_from_below h.lo h.hi range)))
          | inr behind ↦
              let all : AllByRecursion (FromOn h.hi) rs = all_each (λ u p. upto_trans h.hi r.lo u.lo behind p) rs (all_from_test (λ u. is_upto r.lo u.lo) rs parts.0) in
              let same : swept (step h r) rs ≡ h = ap (λ o. swept o rs) is ∙ swept-behind h rs all in
              λ m. absurd (false≢true (sym e ∙ subst (λ o. meets o r ≡ true) same m))
        ]

-- ---- the pass down leaves nothing below, and nothing above

abbrev StartsIn : Bounds → Bounds → Type 0
StartsIn h r = meets h r ≡ true → is_upto h.lo r.lo ≡ true

pub down-starts : (rs : List Bounds) → is_sorted start_cmp rs ≡ true → (h : Bounds) → AllByRecursion (StartsIn (back h rs)) rs
down-starts [] sorted h = tt
down-starts (r ∷ rs) sorted h = by_case (meets (back h rs) r) refl (down-starts rs parts.1 h)
  where
    parts : (list_all (λ u. is_upto r.lo u.lo) rs ≡ true) × (is_sorted start_cmp rs ≡ true)
    parts = and_parts (list_all (λ u. is_upto r.lo u.lo) rs) (is_sorted start_cmp rs) sorted

    by_case : (b : Bool) → meets (back h rs) r ≡ b → AllByRecursion (StartsIn (back h rs)) rs → AllByRecursion (StartsIn (step (back h rs) r)) (r ∷ rs)
    by_case true e rest =
        let o = back h rs in
        let is : step o r ≡ wider o r = cond-true (meets o r) (wider o r) o e in
        let low : is_upto (step o r).lo r.lo ≡ true = subst (λ p. is_upto p.lo r.lo ≡ true) (sym is) (and_parts (is_upto (wider o r).lo r.lo) (is_upto r.hi (wider o r).hi) (wider-second o r)).0 in
        (λ m. low, all_each (λ u p m. upto_trans (step o r).lo r.lo u.lo low p) rs (all_from_test (λ u. is_upto r.lo u.lo) rs parts.0))
    by_case false e rest =
        let o = back h rs in
        let is : step o r ≡ o = cond-false (meets o r) (wider o r) o e in
        subst (λ p. AllByRecursion (StartsIn p) (r ∷ rs)) (sym is) (λ m. absurd (false≢true (sym e ∙ m)), rest)

-- widened by a range that ends in it, it ends where it did
ends-kept : (h r u : Bounds) → is_below h.lo h.hi ≡ true → EndsIn h r → EndsIn h u → EndsIn (step h r) u
ends-kept h r u range first other = by_case (meets h r) refl
  where
    by_case : (b : Bool) → meets h r ≡ b → EndsIn (step h r) u
    by_case false e = subst (λ o. EndsIn o u) (sym (cond-false (meets h r) (wider h r) h e)) other
    by_case true e =
        let same : greater h.hi r.hi ≡ h.hi = upto_antisymm (greater h.hi r.hi) h.hi (greater_upto h.hi h.hi r.hi (upto-itself h.hi) (first e)) (first_upto_greater h.hi r.hi) in
        subst (λ o. EndsIn o u) (sym (cond-true (meets h r) (wider h r) h e))
        (λ m.
        let parts = and_parts (is_below (lesser h.lo r.lo) u.hi) (is_below u.lo (greater h.hi r.hi)) m in
        let before : is_below u.lo h.hi ≡ true = subst (λ at. is_below u.lo at ≡ true) same parts.1 in
        let ends : is_upto u.hi h.hi ≡ true = elim (cases_Bool (is_below h.lo u.hi)) [
          | inl over ↦ other (and_from _ _ over before)
          | inr below ↦ elim (off-apart h u (ap (λ b. b && is_below u.lo h.hi) below)) [
            | inl low ↦ upto_trans u.hi h.lo h.hi low (upto_from_below h.lo h.hi range)
            | inr high ↦ absurd (never_below u.lo h.hi before high)
          ]
        ] in
        upto_trans u.hi h.hi (greater h.hi r.hi) ends (first_upto_greater h.hi r.hi))

down-ends-one : (h : Bounds) → is_below h.lo h.hi ≡ true → (rs : List Bounds) → AllByRecursion (EndsIn h) rs → (u : Bounds) → EndsIn h u → EndsIn (back h rs) u
down-ends-one h range [] all u p = p
down-ends-one h range (r ∷ rs) all u p =
    ends-kept (back h rs) r u (back-has_key h rs range) (down-ends-one h range rs all.1 r all.0) (down-ends-one h range rs all.1 u p)

pub down-ends : (h : Bounds) (rs : List Bounds) → is_below h.lo h.hi ≡ true → AllByRecursion (EndsIn h) rs → AllByRecursion (EndsIn (back h rs)) rs
down-ends h rs range all = all_each (λ u p. down-ends-one h range rs all u p) rs all

-- ---- both

both_ends : (h : Bounds) (rs : List Bounds) → AllByRecursion (StartsIn h) rs → AllByRecursion (EndsIn h) rs → AllByRecursion (Whole h) rs
both_ends h [] starts ends = tt
both_ends h (r ∷ rs) starts ends = (λ m. and_from _ _ (starts.0 m) (ends.0 m), both_ends h rs starts.1 ends.1)

pub swept_twice-whole : (h : Bounds) (rs : List Bounds) → is_below h.lo h.hi ≡ true → is_sorted start_cmp rs ≡ true → AllByRecursion (Whole (swept (swept h rs) (reverse rs))) rs
swept_twice-whole h rs range sorted =
    let up = swept h rs in
    subst (λ o. AllByRecursion (Whole o) rs) (sym (swept-reverse up rs))
    (both_ends (back up rs) rs (down-starts rs sorted up) (down-ends up rs (swept-has_key h rs range) (up-ends rs sorted h range)))

pub swept_twice-covers : (h : Bounds) (rs : List Bounds) → covers (swept (swept h rs) (reverse rs)) h ≡ true
swept_twice-covers h rs =
    let up = swept h rs in
    subst (λ o. covers o h ≡ true) (sym (swept-reverse up rs)) (covers-chain (back up rs) up h (back-covers up rs) (swept-covers h rs))

pub swept_twice-within : (c h : Bounds) (rs : List Bounds) → AllByRecursion (Whole c) rs → covers c h ≡ true → covers c (swept (swept h rs) (reverse rs)) ≡ true
swept_twice-within c h rs full p =
    let up = swept h rs in
    subst (λ o. covers c o ≡ true) (sym (swept-reverse up rs)) (back-within c up rs full (swept-within c h rs full p))
