-- A map's pairs of the keys that are asked for, and what lies outside.
use Rattle.std.proofs.Common.{◌≡◌, ℕ, Bool, true, false, ◌&&◌, cond, List, [], ◌∷◌, take, Option, Some, None, inl, inr, refl, sym, ap, ◌∙◌, subst, arith}
use Rattle.std.proofs.lemmas.Bool.{cases_Bool, and_parts, and_from, false≢true}
use Rattle.std.proofs.lemmas.List.{take_all}
use Rattle.std.specs.Cmp.{tied_itself}
use Rattle.std.specs.FinMap as map
use Rattle.std.specs.FinMap.Entries.{is_sorted, is_sorted-where_key, same_entries}
use Rattle.std.specs.List.{filter}
use Rattle.std.specs.Option.{option_map}
use Rattle.std.specs.Ordering.{is_eq}
use Rattle.std.specs.Prelude.{T}
use Rattle.std.specs.declared.cmp.Ordering.TheVariants.{Equal}
use Rattle.xdb_key.specs.Bounds.{Bounds, bounds, holds, meets, covers, lesser, greater, successor, key_hull}
use Rattle.xdb_key.specs.Entries.{Point}
use Rattle.xdb_key.specs.Order.{key_cmp, is_below, is_upto}
use Rattle.xdb_key.proofs.OrderLaws.{key_total, key_exact, upto-itself, upto_trans, below_upto, upto_below, upto_antisymm, below-successor, key-below-successor, meets-key_hull, meets-symmetric, first_upto_greater, second_upto_greater, greater_upto, lesser_upto_first, lesser_upto_second}
use Rattle.xdb_laws.specs.Image.{inside, AreAlikeIn}
use Rattle.xdb_laws.proofs.AnswerLaws.{covers-itself, found-inside, holds-itself, same-pairs}
use Rattle.xdb_laws.proofs.ImageLaws.{get-inside, alike-inside}
use Rattle.xdb_merge.specs.Steps.{answer_of}
use Rattle.xdb_plain.specs.Answers.{landing, at_or_after, pairs_in, first_of, moved}
use Rattle.xdb_plain.specs.PlainMap.{PlainMap}
use Rattle.xdb_plain.specs.declared.answer.Answer.TheVariants.{Pair, End}
use Rattle.xdb_plain.specs.declared.question.Place.{Place}
use Rattle.xdb_plain.specs.declared.question.Step.{Step}
use Rattle.xdb_plain.specs.declared.question.Step.TheVariants.{First, Last, Next, Prev, Seek, SeekLt}
use Rattle.xdb_read.specs.Asked.{common}
use Rattle.xdb_read.specs.Pairs.{start_of, step_from, along}
use Rattle.xdb_read.specs.declared.pairs.Way.{Way}
use Rattle.xdb_read.specs.declared.pairs.Way.TheVariants.{Up, Down}

-- ---- what two ranges have in common

meet-where_both : (r o : Bounds) (k : List ℕ) → holds r k ≡ true → holds o k ≡ true → meets r o ≡ true
meet-where_both r o k one two =
    let a = and_parts (is_upto r.lo k) (is_below k r.hi) one in
    let b = and_parts (is_upto o.lo k) (is_below k o.hi) two in
    and_from (is_below r.lo o.hi) (is_below o.lo r.hi) (upto_below r.lo k o.hi a.0 b.1) (upto_below o.lo k r.hi b.0 a.1)

none-in_both : (r o : Bounds) (k : List ℕ) → common r o ≡ None → holds o k ≡ true → holds r k ≡ false
none-in_both r o k none at_k = elim (cases_Bool (holds r k)) [
  | inr e ↦ e
  | inl e ↦
      let some : common r o ≡ Some (bounds (greater r.lo o.lo) (lesser r.hi o.hi)) = ap (λ b. cond b (Some (bounds (greater r.lo o.lo) (lesser r.hi o.hi))) None) (meet-where_both r o k e at_k) in
      let never : ◌≡◌ {A = Option Bounds} None (Some (bounds (greater r.lo o.lo) (lesser r.hi o.hi))) = sym none ∙ some in
      absurd (cc)
]

common-is : (r o keys : Bounds) (b : Bool) → cond b (Some (bounds (greater r.lo o.lo) (lesser r.hi o.hi))) None ≡ Some keys → bounds (greater r.lo o.lo) (lesser r.hi o.hi) ≡ keys
common-is r o keys true e = cc
common-is r o keys false e = absurd (cc)

common-meets : {A : Type 0} (b : Bool) (x y : A) → cond b (Some x) None ≡ Some y → b ≡ true
common-meets true x y e = refl
common-meets false x y e = absurd (cc)

below_lesser : (k a b : List ℕ) → is_below k a ≡ true → is_below k b ≡ true → is_below k (lesser a b) ≡ true
below_lesser k a b one two = elim (cases_Bool (is_below b a)) [
  | inl e ↦ rw e two
  | inr e ↦ rw e one
]

into-both : (r o : Bounds) (k : List ℕ) → holds r k ≡ true → holds o k ≡ true → holds (bounds (greater r.lo o.lo) (lesser r.hi o.hi)) k ≡ true
into-both r o k one two =
    let a = and_parts (is_upto r.lo k) (is_below k r.hi) one in
    let b = and_parts (is_upto o.lo k) (is_below k o.hi) two in
    and_from (is_upto (greater r.lo o.lo) k) (is_below k (lesser r.hi o.hi)) (greater_upto k r.lo o.lo a.0 b.0) (below_lesser k r.hi o.hi a.1 b.1)

from-both : (r o : Bounds) (k : List ℕ) → holds (bounds (greater r.lo o.lo) (lesser r.hi o.hi)) k ≡ true → (holds r k ≡ true) × (holds o k ≡ true)
from-both r o k h =
    let p = and_parts (is_upto (greater r.lo o.lo) k) (is_below k (lesser r.hi o.hi)) h in (
      and_from (is_upto r.lo k) (is_below k r.hi) (upto_trans r.lo (greater r.lo o.lo) k (first_upto_greater r.lo o.lo) p.0) (below_upto k (lesser r.hi o.hi) r.hi p.1 (lesser_upto_first r.hi o.hi)),
      and_from (is_upto o.lo k) (is_below k o.hi) (upto_trans o.lo (greater r.lo o.lo) k (second_upto_greater r.lo o.lo) p.0) (below_upto k (lesser r.hi o.hi) o.hi p.1 (lesser_upto_second r.hi o.hi)),
    )

in-common : (r o keys : Bounds) (k : List ℕ) → common r o ≡ Some keys → holds r k ≡ true → holds o k ≡ true → holds keys k ≡ true
in-common r o keys k e one two = subst (λ x. holds x k ≡ true) (common-is r o keys (meets r o) e) (into-both r o k one two)

of-common : (r o keys : Bounds) (k : List ℕ) → common r o ≡ Some keys → holds keys k ≡ true → (holds r k ≡ true) × (holds o k ≡ true)
of-common r o keys k e h = from-both r o k (subst (λ x. holds x k ≡ true) (sym (common-is r o keys (meets r o) e)) h)

-- ---- the pairs of a range, inside bounds

none-either : {A : Type 0} (b : Bool) → ◌≡◌ {A = Option A} (cond b None None) None
none-either true = refl
none-either false = refl

agree : (r range keys : Bounds) (k : List ℕ) (v : Option (List ℕ)) → common r range ≡ Some keys → cond (holds keys k) v None ≡ cond (holds range k) (cond (holds r k) v None) None
agree r range keys k v e = elim (cases_Bool (holds keys k)) [
  | inl h ↦
      let both = of-common r range keys k e h in
      ap (λ b. cond b v None) h ∙ sym (ap (λ b. cond b (cond (holds r k) v None) None) both.1 ∙ ap (λ b. cond b v None) both.0)
  | inr h ↦ ap (λ b. cond b v None) h ∙ sym (elim (cases_Bool (holds range k)) [
    | inr out ↦ ap (λ b. cond b (cond (holds r k) v None) None) out
    | inl two ↦ elim (cases_Bool (holds r k)) [
      | inr out ↦ ap (λ b. cond (holds range k) (cond b v None) None) out ∙ none-either (holds range k)
      | inl one ↦ absurd (false≢true (sym h ∙ in-common r range keys k e one two))
    ]
  ])
]

found-between : (r range : Bounds) (m : PlainMap) (k : List ℕ) → map.find key_cmp k (pairs_in range (inside r m)) ≡ cond (holds range k) (cond (holds r k) (map.get m k) None) None
found-between r range m k = found-inside range (inside r m) k ∙ ap (λ v. cond (holds range k) v None) (get-inside r m k)

pub pairs-common : (r range keys : Bounds) (m : PlainMap) → common r range ≡ Some keys → pairs_in keys m ≡ pairs_in range (inside r m)
pairs-common r range keys m e = same_entries key_cmp key_total key_exact (pairs_in keys m) (pairs_in range (inside r m))
    (is_sorted-where_key key_cmp (holds keys) (map.entries m) (map.entries_sorted m))
    (is_sorted-where_key key_cmp (holds range) (map.entries (inside r m)) (map.entries_sorted (inside r m)))
    (λ k. found-inside keys m k ∙ agree r range keys k (map.get m k) e ∙ sym (found-between r range m k))

pub pairs-apart : (r range : Bounds) (m : PlainMap) → common r range ≡ None → pairs_in range (inside r m) ≡ []
pairs-apart r range m e = same_entries key_cmp key_total key_exact (pairs_in range (inside r m)) []
    (is_sorted-where_key key_cmp (holds range) (map.entries (inside r m)) (map.entries_sorted (inside r m)))
    tt
    (λ k. found-between r range m k ∙ elim (cases_Bool (holds range k)) [
      | inr out ↦ ap (λ b. cond b (cond (holds r k) (map.get m k) None) None) out
      | inl there ↦ ap (λ b. cond (holds range k) (cond b (map.get m k) None) None) (none-in_both r range k e there) ∙ none-either (holds range k)
    ])

pub pairs-alike : (r : Bounds) (m n : PlainMap) → AreAlikeIn r m n → pairs_in r m ≡ pairs_in r n
pairs-alike r m n alike = same-pairs r r m n (covers-itself r) alike

pub pairs-inside : (r : Bounds) (m : PlainMap) → pairs_in r m ≡ pairs_in r (inside r m)
pairs-inside r m = sym (pairs-alike r (inside r m) m (alike-inside r m))

pub pairs-sorted : (r : Bounds) (m : PlainMap) → T (is_sorted key_cmp (pairs_in r m))
pairs-sorted r m = is_sorted-where_key key_cmp (holds r) (map.entries m) (map.entries_sorted m)

pub none-along : (way : Way) (most : ℕ) → take most (along way []) ≡ []
none-along Up most = take_all most [] (omega arith)
none-along Down most = take_all most [] (omega arith)

-- ---- the value of one key

only-key : (key k : List ℕ) → holds (key_hull key) k ≡ true → k ≡ key
only-key key k h =
    let p = and_parts (is_upto key k) (is_below k (successor key)) h in
    upto_antisymm k key (sym (below-successor k key) ∙ p.1) p.0

first-single : (key : List ℕ) (t : List ℕ → Bool) (xs : List (List ℕ × List ℕ)) → ((k : List ℕ) → t k ≡ true → k ≡ key) → first_of (filter (λ p. t p.0) xs) ≡ option_map (λ v. (key, v)) (map.find key_cmp key (filter (λ p. t p.0) xs))
first-single key t [] only = refl
first-single key t (x ∷ xs) only = elim (cases_Bool (t x.0)) [
  | inl e ↦
      let same : x.0 ≡ key = only x.0 e in
      let tied : key_cmp key x.0 ≡ Equal = ap (key_cmp key) same ∙ tied_itself key_total key in
      ap (λ b. first_of (cond b (x ∷ filter (λ p. t p.0) xs) (filter (λ p. t p.0) xs))) e
      ∙ ap (λ k. Some (k, x.1)) same
      ∙ sym (ap (λ b. option_map (λ v. (key, v)) (map.find key_cmp key (cond b (x ∷ filter (λ p. t p.0) xs) (filter (λ p. t p.0) xs)))) e
      ∙ ap (λ r. option_map (λ v. (key, v)) (cond (is_eq r) (Some x.1) (map.find key_cmp key (filter (λ p. t p.0) xs)))) tied)
  | inr e ↦
      ap (λ b. first_of (cond b (x ∷ filter (λ p. t p.0) xs) (filter (λ p. t p.0) xs))) e
      ∙ first-single key t xs only
      ∙ sym (ap (λ b. option_map (λ v. (key, v)) (map.find key_cmp key (cond b (x ∷ filter (λ p. t p.0) xs) (filter (λ p. t p.0) xs)))) e)
]

first-value : (r keys : Bounds) (key : List ℕ) (m : PlainMap) → common r (key_hull key) ≡ Some keys → first_of (pairs_in keys m) ≡ option_map (λ v. (key, v)) (map.get (inside r m) key)
first-value r keys key m e =
    let meet : meets r (key_hull key) ≡ true = common-meets (meets r (key_hull key)) _ keys e in
    let own : holds r key ≡ true = sym (meets-symmetric r (key_hull key) ∙ meets-key_hull key r) ∙ meet in
    let there : holds keys key ≡ true = in-common r (key_hull key) keys key e own (holds-itself key) in
    first-single key (holds keys) (map.entries m) (λ k h. only-key key k (of-common r (key_hull key) keys k e h).1)
    ∙ ap (option_map (λ v. (key, v))) (found-inside keys m key ∙ ap (λ b. cond b (map.get m key) None) there
    ∙ sym (get-inside r m key ∙ ap (λ b. cond b (map.get m key) None) own))

value-by : (entry : Option Point) (new : Place) (key : List ℕ) (o : Option (List ℕ)) → landing (answer_of entry) new ≡ at_or_after (option_map (λ v. (key, v)) o) → option_map (λ p. p.value) entry ≡ o
value-by None new key None e = refl
value-by None new key (Some v) e = let same : End ≡ Pair key v = ap (λ l. l.answer) e in absurd (cc)
value-by (Some p) new key None e = let same : Pair p.key p.value ≡ End = ap (λ l. l.answer) e in absurd (cc)
value-by (Some p) new key (Some v) e = let same : Pair p.key p.value ≡ Pair key v = ap (λ l. l.answer) e in let value : p.value ≡ v = cc in ap Some value

-- the first pair of a key's hull has its value
pub value-first : (r keys : Bounds) (key : List ℕ) (m : PlainMap) (entry : Option Point) (new : Place) → common r (key_hull key) ≡ Some keys → landing (answer_of entry) new ≡ at_or_after (first_of (pairs_in keys m)) → option_map (λ p. p.value) entry ≡ map.get (inside r m) key
value-first r keys key m entry new e lands = value-by entry new key (map.get (inside r m) key) (lands ∙ ap at_or_after (first-value r keys key m e))

pub value-apart : (r : Bounds) (key : List ℕ) (m : PlainMap) → common r (key_hull key) ≡ None → map.get (inside r m) key ≡ None
value-apart r key m e = get-inside r m key ∙ ap (λ b. cond b (map.get m key) None) (none-in_both r (key_hull key) key e (holds-itself key))

-- a step goes from where it begins
pub step-begins : (pairs : List (List ℕ × List ℕ)) (place : Place) (step : Step) → moved pairs (start_of place step) (step_from step) ≡ moved pairs place step
step-begins pairs place First = refl
step-begins pairs place Last = refl
step-begins pairs place Next = refl
step-begins pairs place Prev = refl
step-begins pairs place (Seek key) = refl
step-begins pairs place (SeekLt key) = refl
