-- What covers a key: joined, clipped and cut spans, and spans whose order is nothing.
use Rattle.std.proofs.Common.{◌≡◌, ℕ, ◌<◌, ◌≤◌, Bool, true, false, not, ◌&&◌, cond, ltb, List, [], ◌∷◌, ◌++◌, Option, Some, None, inl, inr, IsTrue, refl, sym, ap, ◌∙◌, subst, arith}
use Rattle.std.proofs.lemmas.Bool.{lt-ltb, le-ltb, cases_lt, false≢true, and_parts, and_from, cases_Bool}
use Rattle.std.specs.List.{filter_map, cons_option}
use Rattle.std.proofs.Math.Bool.{and_assoc, and_comm}
use Rattle.xdb_key.specs.Order.{is_below, is_upto}
use Rattle.xdb_key.specs.Bounds.{Bounds, bounds, holds, meets}
use Rattle.xdb_key.specs.Entries.{Tombstone, tombstone}
use Rattle.xdb_key.proofs.OrderLaws.{upto-not_below, upto_from_below, below_trans, below_upto, upto_below, upto_trans}
use Rattle.xdb_rangedel.specs.Members.{Has, SameMembers}
use Rattle.xdb_rangedel.specs.Cover.{greater, cover_by, cover_of}
use Rattle.xdb_rangedel.specs.Pieces.{ends, splits, cut_span, cut_spans, cut_all, pieces}
use Rattle.xdb_rangedel.specs.Clip.{later_of, earlier_of, starting_from, ending_by, part_before, part_from, part_in, parts_before, parts_from, parts_in}

-- two numbers

greater-none : (a : Option ℕ) → greater a None ≡ a
greater-none None = refl
greater-none (Some m) = refl

greater-rises : (m n : ℕ) → m < n → greater (Some m) (Some n) ≡ Some n
greater-rises m n h = ap (λ b. cond b (Some n) (Some m)) (lt-ltb m n h)

greater-stays : (m n : ℕ) → n ≤ m → greater (Some m) (Some n) ≡ Some m
greater-stays m n h = ap (λ b. cond b (Some n) (Some m)) (le-ltb m n h)

greater_assoc : (a b c : Option ℕ) → greater (greater a b) c ≡ greater a (greater b c)
greater_assoc None b c = refl
greater_assoc (Some l) None c = refl
greater_assoc (Some l) (Some m) None = greater-none (greater (Some l) (Some m))
greater_assoc (Some l) (Some m) (Some n) = elim (cases_lt l m) [
  | inl up ↦ elim (cases_lt m n) [
    | inl more ↦ ap (λ o. greater o (Some n)) (greater-rises l m up) ∙ greater-rises m n more
        ∙ sym (ap (λ o. greater (Some l) o) (greater-rises m n more) ∙ greater-rises l n (omega arith))
    | inr less ↦ ap (λ o. greater o (Some n)) (greater-rises l m up) ∙ greater-stays m n less
        ∙ sym (ap (λ o. greater (Some l) o) (greater-stays m n less) ∙ greater-rises l m up)
  ]
  | inr down ↦ elim (cases_lt m n) [
    | inl more ↦ ap (λ o. greater o (Some n)) (greater-stays l m down) ∙ sym (ap (λ o. greater (Some l) o) (greater-rises m n more))
    | inr less ↦ ap (λ o. greater o (Some n)) (greater-stays l m down) ∙ greater-stays l n (omega arith)
        ∙ sym (ap (λ o. greater (Some l) o) (greater-stays m n less) ∙ greater-stays l m down)
  ]
]

pub cover_of-append : (xs ys : List Tombstone) (k : List ℕ) (limit : ℕ) → cover_of (xs ++ ys) k limit ≡ greater (cover_of xs k limit) (cover_of ys k limit)
cover_of-append [] ys k limit = refl
cover_of-append (t ∷ xs) ys k limit =
    ap (λ o. greater (cover_by t k limit) o) (cover_of-append xs ys k limit) ∙ sym (greater_assoc (cover_by t k limit) (cover_of xs k limit) (cover_of ys k limit))

-- the cover is the greatest

-- the span covers the key at the limit
abbrev pub covers_at : List ℕ → ℕ → Tombstone → Bool
covers_at k limit t = holds t.range k && ltb t.seq limit

-- a number is the greatest of a span that covers the key, and where there is none no span does
abbrev pub Covered : List Tombstone → List ℕ → ℕ → Option ℕ → Type 0
Covered ts k limit None = (t : Tombstone) → Has ts t → covers_at k limit t ≡ true → ⊥
Covered ts k limit (Some n) =
    ((t : Tombstone) × Has ts t × (covers_at k limit t ≡ true) × (t.seq ≡ n)) × ((u : Tombstone) → Has ts u → covers_at k limit u ≡ true → u.seq ≤ n)

covered_missed : (t : Tombstone) (ts : List Tombstone) (k : List ℕ) (limit : ℕ) (o : Option ℕ) → covers_at k limit t ≡ false → Covered ts k limit o → Covered (t ∷ ts) k limit o
covered_missed t ts k limit None miss c = λ u h g. elim h [
  | inl e ↦ false≢true (sym miss ∙ ap (λ x. covers_at k limit x) e ∙ g)
  | inr q ↦ c u q g
]
covered_missed t ts k limit (Some n) miss c = (
  (c.0.0, inr c.0.1, c.0.2, c.0.3),
  λ u h g. elim h [
    | inl e ↦ absurd (false≢true (sym miss ∙ ap (λ x. covers_at k limit x) e ∙ g))
    | inr q ↦ c.1 u q g
  ],
)

covered_hit : (t : Tombstone) (ts : List Tombstone) (k : List ℕ) (limit : ℕ) (o : Option ℕ) → covers_at k limit t ≡ true → Covered ts k limit o → Covered (t ∷ ts) k limit (greater (Some t.seq) o)
covered_hit t ts k limit None hit c = (
  (t, inl refl, hit, refl),
  λ u h g. elim h [
    | inl e ↦ let same : t.seq ≡ u.seq = ap (λ x. x.seq) e in omega arith
    | inr q ↦ absurd (c u q g)
  ],
)
covered_hit t ts k limit (Some n) hit c = elim (cases_lt t.seq n) [
  | inl up ↦ subst (λ o. Covered (t ∷ ts) k limit o) (sym (greater-rises t.seq n up)) (
    (c.0.0, inr c.0.1, c.0.2, c.0.3),
    λ u h g. elim h [
      | inl e ↦ let same : t.seq ≡ u.seq = ap (λ x. x.seq) e in omega arith
      | inr q ↦ c.1 u q g
    ],
  )
  | inr down ↦ subst (λ o. Covered (t ∷ ts) k limit o) (sym (greater-stays t.seq n down)) (
    (t, inl refl, hit, refl),
    λ u h g. elim h [
      | inl e ↦ let same : t.seq ≡ u.seq = ap (λ x. x.seq) e in omega arith
      | inr q ↦ let low : u.seq ≤ n = c.1 u q g in omega arith
    ],
  )
]

cover_by-hit : (t : Tombstone) (k : List ℕ) (limit : ℕ) → covers_at k limit t ≡ true → cover_by t k limit ≡ Some t.seq
cover_by-hit t k limit h = ap (λ b. cond b (Some t.seq) None) h

cover_by-missed : (t : Tombstone) (k : List ℕ) (limit : ℕ) → covers_at k limit t ≡ false → cover_by t k limit ≡ None
cover_by-missed t k limit h = ap (λ b. cond b (Some t.seq) None) h

pub covered : (ts : List Tombstone) (k : List ℕ) (limit : ℕ) → Covered ts k limit (cover_of ts k limit)
covered [] k limit = λ t h g. h
covered (t ∷ ts) k limit = elim (cases_Bool (covers_at k limit t)) [
  | inl hit ↦ subst (λ o. Covered (t ∷ ts) k limit (greater o (cover_of ts k limit))) (sym (cover_by-hit t k limit hit)) (covered_hit t ts k limit (cover_of ts k limit) hit (covered ts k limit))
  | inr miss ↦ subst (λ o. Covered (t ∷ ts) k limit (greater o (cover_of ts k limit))) (sym (cover_by-missed t k limit miss)) (covered_missed t ts k limit (cover_of ts k limit) miss (covered ts k limit))
]

pub cover_of-None : (ts : List Tombstone) (k : List ℕ) (limit : ℕ) → cover_of ts k limit ≡ None → (t : Tombstone) → Has ts t → IsTrue (holds t.range k && ltb t.seq limit) → ⊥
cover_of-None ts k limit e = subst (λ o. Covered ts k limit o) e (covered ts k limit)

pub cover_of-Some : (ts : List Tombstone) (k : List ℕ) (limit n : ℕ) → cover_of ts k limit ≡ Some n → ((t : Tombstone) × Has ts t × IsTrue (holds t.range k && ltb t.seq limit) × (t.seq ≡ n)) × ((u : Tombstone) → Has ts u → IsTrue (holds u.range k && ltb u.seq limit) → u.seq ≤ n)
cover_of-Some ts k limit n e = subst (λ o. Covered ts k limit o) e (covered ts k limit)

cover_along : (xs ys : List Tombstone) (k : List ℕ) (limit : ℕ) (o p : Option ℕ) → SameMembers xs ys → Covered xs k limit o → Covered ys k limit p → o ≡ p
cover_along xs ys k limit None None same c d = refl
cover_along xs ys k limit None (Some n) same c d = absurd (c d.0.0 ((same d.0.0).1 d.0.1) d.0.2)
cover_along xs ys k limit (Some m) None same c d = absurd (d c.0.0 ((same c.0.0).0 c.0.1) c.0.2)
cover_along xs ys k limit (Some m) (Some n) same c d =
    let up = c.1 d.0.0 ((same d.0.0).1 d.0.1) d.0.2 in
    let down = d.1 c.0.0 ((same c.0.0).0 c.0.1) c.0.2 in
    let at_m : c.0.0.seq ≡ m = c.0.3 in
    let at_n : d.0.0.seq ≡ n = d.0.3 in
    let one : m ≡ n = omega arith in
    ap Some one

-- neither order nor repetition matters
pub cover_of_unordered : (xs ys : List Tombstone) → SameMembers xs ys → (k : List ℕ) (limit : ℕ) → cover_of xs k limit ≡ cover_of ys k limit
cover_of_unordered xs ys same k limit = cover_along xs ys k limit (cover_of xs k limit) (cover_of ys k limit) same (covered xs k limit) (covered ys k limit)

-- what is shown to cover is the cover
pub cover_of-covered : (ts : List Tombstone) (k : List ℕ) (limit : ℕ) (o : Option ℕ) → Covered ts k limit o → o ≡ cover_of ts k limit
cover_of-covered ts k limit o c = cover_along ts ts k limit o (cover_of ts k limit) (λ x. (λ h. h, λ h. h)) c (covered ts k limit)

-- parts of spans

-- a test that follows from another adds nothing to it
and_implied : (p q : Bool) → (p ≡ true → q ≡ true) → (q && p) ≡ p
and_implied true q h = ap (λ b. b && true) (h refl)
and_implied false true h = refl
and_implied false false h = refl

and_implied_right : (p q : Bool) → (p ≡ true → q ≡ true) → (p && q) ≡ p
and_implied_right true q h = h refl
and_implied_right false q h = refl

upto-from_not_below : (a b : List ℕ) → is_below a b ≡ false → is_upto b a ≡ true
upto-from_not_below a b h = upto-not_below b a ∙ ap not h

pub upto-later_of : (a b k : List ℕ) → is_upto (later_of a b) k ≡ (is_upto a k && is_upto b k)
upto-later_of a b k = elim (cases_Bool (is_below b a)) [
  | inl h ↦ ap (λ x. is_upto (cond x a b) k) h ∙ sym (and_implied_right (is_upto a k) (is_upto b k) (λ u. upto_trans b a k (upto_from_below b a h) u))
  | inr h ↦ ap (λ x. is_upto (cond x a b) k) h ∙ sym (and_implied (is_upto b k) (is_upto a k) (λ u. upto_trans a b k (upto-from_not_below b a h) u))
]

pub below-earlier_of : (a b k : List ℕ) → is_below k (earlier_of a b) ≡ (is_below k a && is_below k b)
below-earlier_of a b k = elim (cases_Bool (is_below a b)) [
  | inl h ↦ ap (λ x. is_below k (cond x a b)) h ∙ sym (and_implied_right (is_below k a) (is_below k b) (λ u. below_trans k a b u h))
  | inr h ↦ ap (λ x. is_below k (cond x a b)) h ∙ sym (and_implied (is_below k b) (is_below k a) (λ u. below_upto k b a u (upto-from_not_below a b h)))
]

and_pairs : (a b c d : Bool) → ((a && b) && (c && d)) ≡ ((a && c) && (b && d))
and_pairs true b true d = refl
and_pairs true true false d = refl
and_pairs true false false d = refl
and_pairs false b c d = refl

pub holds-part_in : (r : Bounds) (t : Tombstone) (k : List ℕ) → holds (starting_from r.lo (ending_by r.hi t)).range k ≡ (holds r k && holds t.range k)
holds-part_in r t k =
    ap (λ b. b && is_below k (earlier_of r.hi t.range.hi)) (upto-later_of r.lo t.range.lo k)
    ∙ ap (λ b. (is_upto r.lo k && is_upto t.range.lo k) && b) (below-earlier_of r.hi t.range.hi k)
    ∙ and_pairs (is_upto r.lo k) (is_upto t.range.lo k) (is_below k r.hi) (is_below k t.range.hi)

-- ranges that hold a key meet
pub meets-from_held : (r o : Bounds) (k : List ℕ) → holds r k ≡ true → holds o k ≡ true → meets r o ≡ true
meets-from_held r o k g h =
    let (a, b) = and_parts (is_upto r.lo k) (is_below k r.hi) g in
    let (c, d) = and_parts (is_upto o.lo k) (is_below k o.hi) h in
    and_from (is_below r.lo o.hi) (is_below o.lo r.hi) (upto_below r.lo k o.hi a d) (upto_below o.lo k r.hi c b)

abbrev pub cover_in : Option Tombstone → List ℕ → ℕ → Option ℕ
cover_in None k limit = None
cover_in (Some t) k limit = cover_by t k limit

-- a span that holds a key where both hold it
pub guarded : {B : Type 0} (h g b : Bool) (x : B) → cond ((h && g) && b) (Some x) None ≡ cond h (cond (g && b) (Some x) None) None
guarded true g b x = refl
guarded false g b x = refl

-- it holds no key that the range holds
pub guarded_none : {B : Type 0} (h g b : Bool) (x : B) → (h ≡ true → g ≡ true → ⊥) → ◌≡◌ {A = Option B} None (cond h (cond (g && b) (Some x) None) None)
guarded_none true true b x not_both = absurd (not_both refl refl)
guarded_none true false b x not_both = refl
guarded_none false g b x not_both = refl

cover_part_in : (r : Bounds) (t : Tombstone) (k : List ℕ) (limit : ℕ) → cover_in (part_in r t) k limit ≡ cond (holds r k) (cover_by t k limit) None
cover_part_in r t k limit = elim (cases_Bool (meets t.range r)) [
  | inl m ↦ ap (λ b. cover_in (cond b (Some (starting_from r.lo (ending_by r.hi t))) None) k limit) m
      ∙ ap (λ b. cond (b && ltb t.seq limit) (Some t.seq) None) (holds-part_in r t k) ∙ guarded (holds r k) (holds t.range k) (ltb t.seq limit) t.seq
  | inr n ↦ ap (λ b. cover_in (cond b (Some (starting_from r.lo (ending_by r.hi t))) None) k limit) n
      ∙ guarded_none (holds r k) (holds t.range k) (ltb t.seq limit) t.seq (λ g h. false≢true (sym n ∙ meets-from_held t.range r k h g))
]

cover_part_before : (at : List ℕ) (t : Tombstone) (k : List ℕ) (limit : ℕ) → cover_in (part_before at t) k limit ≡ cond (is_below k at) (cover_by t k limit) None
cover_part_before at t k limit = elim (cases_Bool (is_below t.range.lo at)) [
  | inl m ↦ ap (λ b. cover_in (cond b (Some (ending_by at t)) None) k limit) m
      ∙ ap (λ b. cond (b && ltb t.seq limit) (Some t.seq) None) (ap (λ b. is_upto t.range.lo k && b) (below-earlier_of at t.range.hi k) ∙ sym (and_assoc (is_upto t.range.lo k) (is_below k at) (is_below k t.range.hi)) ∙ ap (λ b. b && is_below k t.range.hi) (and_comm (is_upto t.range.lo k) (is_below k at)) ∙ and_assoc (is_below k at) (is_upto t.range.lo k) (is_below k t.range.hi))
      ∙ guarded (is_below k at) (holds t.range k) (ltb t.seq limit) t.seq
  | inr n ↦ ap (λ b. cover_in (cond b (Some (ending_by at t)) None) k limit) n
      ∙ guarded_none (is_below k at) (holds t.range k) (ltb t.seq limit) t.seq (λ g h. false≢true (sym n ∙ upto_below t.range.lo k at (and_parts (is_upto t.range.lo k) (is_below k t.range.hi) h).0 g))
]

cover_part_from : (at : List ℕ) (t : Tombstone) (k : List ℕ) (limit : ℕ) → cover_in (part_from at t) k limit ≡ cond (is_upto at k) (cover_by t k limit) None
cover_part_from at t k limit = elim (cases_Bool (is_below at t.range.hi)) [
  | inl m ↦ ap (λ b. cover_in (cond b (Some (starting_from at t)) None) k limit) m
      ∙ ap (λ b. cond (b && ltb t.seq limit) (Some t.seq) None) (ap (λ b. b && is_below k t.range.hi) (upto-later_of at t.range.lo k) ∙ and_assoc (is_upto at k) (is_upto t.range.lo k) (is_below k t.range.hi))
      ∙ guarded (is_upto at k) (holds t.range k) (ltb t.seq limit) t.seq
  | inr n ↦ ap (λ b. cover_in (cond b (Some (starting_from at t)) None) k limit) n
      ∙ guarded_none (is_upto at k) (holds t.range k) (ltb t.seq limit) t.seq (λ g h. false≢true (sym n ∙ upto_below at k t.range.hi g (and_parts (is_upto t.range.lo k) (is_below k t.range.hi) h).1))
]

cover_of-cons_option : (o : Option Tombstone) (ts : List Tombstone) (k : List ℕ) (limit : ℕ) → cover_of (cons_option o ts) k limit ≡ greater (cover_in o k limit) (cover_of ts k limit)
cover_of-cons_option None ts k limit = refl
cover_of-cons_option (Some t) ts k limit = refl

greater-cond : (h : Bool) (a b : Option ℕ) → greater (cond h a None) (cond h b None) ≡ cond h (greater a b) None
greater-cond true a b = refl
greater-cond false a b = refl

pub none-cond : {B : Type 0} (h : Bool) → ◌≡◌ {A = Option B} None (cond h None None)
none-cond true = refl
none-cond false = refl

cover_of-filter_map : (f : Tombstone → Option Tombstone) (h : Bool) (k : List ℕ) (limit : ℕ) → ((t : Tombstone) → cover_in (f t) k limit ≡ cond h (cover_by t k limit) None) → (ts : List Tombstone) → cover_of (filter_map f ts) k limit ≡ cond h (cover_of ts k limit) None
cover_of-filter_map f h k limit each [] = none-cond h
cover_of-filter_map f h k limit each (t ∷ ts) =
    cover_of-cons_option (f t) (filter_map f ts) k limit
    ∙ ap (λ o. greater o (cover_of (filter_map f ts) k limit)) (each t)
    ∙ ap (λ o. greater (cond h (cover_by t k limit) None) o) (cover_of-filter_map f h k limit each ts)
    ∙ greater-cond h (cover_by t k limit) (cover_of ts k limit)

pub cover_of-parts_in : (r : Bounds) (ts : List Tombstone) (k : List ℕ) (limit : ℕ) → cover_of (parts_in r ts) k limit ≡ cond (holds r k) (cover_of ts k limit) None
cover_of-parts_in r ts k limit = cover_of-filter_map (part_in r) (holds r k) k limit (λ t. cover_part_in r t k limit) ts

pub cover_of-parts_before : (at : List ℕ) (ts : List Tombstone) (k : List ℕ) (limit : ℕ) → cover_of (parts_before at ts) k limit ≡ cond (is_below k at) (cover_of ts k limit) None
cover_of-parts_before at ts k limit = cover_of-filter_map (part_before at) (is_below k at) k limit (λ t. cover_part_before at t k limit) ts

pub cover_of-parts_from : (at : List ℕ) (ts : List Tombstone) (k : List ℕ) (limit : ℕ) → cover_of (parts_from at ts) k limit ≡ cond (is_upto at k) (cover_of ts k limit) None
cover_of-parts_from at ts k limit = cover_of-filter_map (part_from at) (is_upto at k) k limit (λ t. cover_part_from at t k limit) ts

-- pieces

-- one of two pieces holds what the span holds
cut_held : (lo below_at upto_at below_hi b : Bool) (n : ℕ) → (below_at ≡ true → below_hi ≡ true) → (upto_at ≡ true → lo ≡ true) → upto_at ≡ not below_at
    → greater (cond ((lo && below_at) && b) (Some n) None) (greater (cond ((upto_at && below_hi) && b) (Some n) None) None) ≡ cond ((lo && below_hi) && b) (Some n) None
cut_held lo true upto_at below_hi b n h g e =
    ap (λ u. greater (cond ((lo && true) && b) (Some n) None) (greater (cond ((u && below_hi) && b) (Some n) None) None)) e
    ∙ greater-none (cond ((lo && true) && b) (Some n) None) ∙ ap (λ u. cond ((lo && u) && b) (Some n) None) (sym (h refl))
cut_held lo false upto_at below_hi b n h g e =
    ap (λ l. greater (cond ((l && false) && b) (Some n) None) (greater (cond ((upto_at && below_hi) && b) (Some n) None) None)) (g e)
    ∙ greater-none (cond ((upto_at && below_hi) && b) (Some n) None) ∙ ap (λ u. cond ((u && below_hi) && b) (Some n) None) (e ∙ sym (g e))

cover_of-cut_span : (at : List ℕ) (t : Tombstone) (k : List ℕ) (limit : ℕ) → cover_of (cut_span at t) k limit ≡ cover_by t k limit
cover_of-cut_span at t k limit = elim (cases_Bool (splits at t)) [
  | inl s ↦
      let (after, before) = and_parts (is_below t.range.lo at) (is_below at t.range.hi) s in
      ap (λ b. cover_of (cond b (tombstone (bounds t.range.lo at) t.seq ∷ tombstone (bounds at t.range.hi) t.seq ∷ []) (t ∷ [])) k limit) s
      ∙ cut_held (is_upto t.range.lo k) (is_below k at) (is_upto at k) (is_below k t.range.hi) (ltb t.seq limit) t.seq (λ h. below_trans k at t.range.hi h before)
      (λ h. upto_trans t.range.lo at k (upto_from_below t.range.lo at after) h) (upto-not_below at k)
  | inr n ↦ ap (λ b. cover_of (cond b (tombstone (bounds t.range.lo at) t.seq ∷ tombstone (bounds at t.range.hi) t.seq ∷ []) (t ∷ [])) k limit) n ∙ greater-none (cover_by t k limit)
]

cover_of-cut_spans : (at : List ℕ) (ts : List Tombstone) (k : List ℕ) (limit : ℕ) → cover_of (cut_spans at ts) k limit ≡ cover_of ts k limit
cover_of-cut_spans at [] k limit = refl
cover_of-cut_spans at (t ∷ ts) k limit =
    cover_of-append (cut_span at t) (cut_spans at ts) k limit
    ∙ ap (λ o. greater o (cover_of (cut_spans at ts) k limit)) (cover_of-cut_span at t k limit)
    ∙ ap (λ o. greater (cover_by t k limit) o) (cover_of-cut_spans at ts k limit)

cover_of-cut_all : (ats : List (List ℕ)) (ts : List Tombstone) (k : List ℕ) (limit : ℕ) → cover_of (cut_all ats ts) k limit ≡ cover_of ts k limit
cover_of-cut_all [] ts k limit = refl
cover_of-cut_all (at ∷ ats) ts k limit = cover_of-cut_all ats (cut_spans at ts) k limit ∙ cover_of-cut_spans at ts k limit

pub cover_of-pieces : (ts : List Tombstone) (k : List ℕ) (limit : ℕ) → cover_of (pieces ts) k limit ≡ cover_of ts k limit
cover_of-pieces ts k limit = cover_of-cut_all (ends ts) ts k limit
