-- Answers see no more of a map than what it has inside their bounds.
use Rattle.std.proofs.Common.{◌≡◌, ℕ, Bool, true, ◌&&◌, cond, List, take, reverse, Some, None, refl, sym, ap, ◌∙◌, subst, inl, inr}
use Rattle.std.proofs.lemmas.Bool.{cases_Bool, and_parts, false≢true}
use Rattle.std.specs.FinMap as map
use Rattle.std.specs.FinMap.Entries.{find-where_key, is_sorted-where_key, same_entries}
use Rattle.xdb_key.specs.Bounds.{Bounds, holds, covers, successor, key_hull}
use Rattle.xdb_key.specs.Order.{key_cmp, is_below, is_upto}
use Rattle.xdb_key.proofs.OrderLaws.{key_total, key_exact, upto_trans, below_upto, upto-itself, key-below-successor}
use Rattle.xdb_plain.specs.Answers.{landing, value_or_absent, pairs_in, moved, answer_now}
use Rattle.xdb_plain.specs.State.{Plain}
use Rattle.xdb_plain.specs.PlainMap.{PlainMap}
use Rattle.xdb_plain.specs.declared.answer.Answer.TheVariants.{Found}
use Rattle.xdb_plain.specs.declared.question.Place.{Place}
use Rattle.xdb_plain.specs.declared.question.Place.TheVariants.{Before}
use Rattle.xdb_plain.specs.declared.question.Question.{Question}
use Rattle.xdb_plain.specs.declared.question.Question.TheVariants.{Get, Scan, RScan, Move}
use Rattle.xdb_laws.specs.Image.{AreAlikeIn}
use Rattle.xdb_laws.specs.Answered.{answered, is_inside, question_bounds, is_of_now}

both-true : (a b : Bool) → a ≡ true → b ≡ true → (a && b) ≡ true
both-true a b e f = ap (λ t. t && b) e ∙ f

-- what a range holds, one that covers it holds
pub holds-covered : (r range : Bounds) (k : List ℕ) → covers r range ≡ true → holds range k ≡ true → holds r k ≡ true
holds-covered r range k over at_k =
    let outer = and_parts (is_upto r.lo range.lo) (is_upto range.hi r.hi) over in
    let inner = and_parts (is_upto range.lo k) (is_below k range.hi) at_k in
    both-true (is_upto r.lo k) (is_below k r.hi) (upto_trans r.lo range.lo k outer.0 inner.0) (below_upto k range.hi r.hi inner.1 outer.1)

pub found-inside : (range : Bounds) (m : PlainMap) (k : List ℕ) → map.find key_cmp k (pairs_in range m) ≡ cond (holds range k) (map.get m k) None
found-inside range m k =
    find-where_key key_cmp (holds range) k (λ x e. ap (holds range) (sym (key_exact k x e))) (map.entries m)
    ∙ ap (λ o. cond (holds range k) o None) (sym (map.get-entries m k))

pub same-pairs : (r range : Bounds) (m n : PlainMap) → covers r range ≡ true → AreAlikeIn r m n → pairs_in range m ≡ pairs_in range n
same-pairs r range m n over alike = same_entries key_cmp key_total key_exact (pairs_in range m) (pairs_in range n)
    (is_sorted-where_key key_cmp (holds range) (map.entries m) (map.entries_sorted m))
    (is_sorted-where_key key_cmp (holds range) (map.entries n) (map.entries_sorted n))
    (λ k. elim (cases_Bool (holds range k)) [
      | inl e ↦ found-inside range m k ∙ ap (λ t. cond t (map.get m k) None) e ∙ alike k (holds-covered r range k over e) ∙ ap (λ t. cond t (map.get n k) None) (sym e) ∙ sym (found-inside range n k)
      | inr e ↦ found-inside range m k ∙ ap (λ t. cond t (map.get m k) None) e ∙ ap (λ t. cond t (map.get n k) None) (sym e) ∙ sym (found-inside range n k)
    ])

pub covers-itself : (r : Bounds) → covers r r ≡ true
covers-itself r = both-true (is_upto r.lo r.lo) (is_upto r.hi r.hi) (upto-itself r.lo) (upto-itself r.hi)

pub answered-alike : (r : Bounds) (m n : PlainMap) (place : Place) (question : Question) → AreAlikeIn r m n → is_inside r question ≡ true → answered m r place question ≡ answered n r place question
answered-alike r m n place (Get key at) alike within = ap (λ v. landing (value_or_absent v) Before) (alike key within)
answered-alike r m n place (Scan range most at) alike within = ap (λ ps. landing (Found (take most ps)) Before) (same-pairs r range m n within alike)
answered-alike r m n place (RScan range most at) alike within = ap (λ ps. landing (Found (take most (reverse ps))) Before) (same-pairs r range m n within alike)
answered-alike r m n place (Move cursor step) alike within = ap (λ ps. moved ps place step) (same-pairs r r m n (covers-itself r) alike)

pub holds-itself : (key : List ℕ) → holds (key_hull key) key ≡ true
holds-itself key = both-true (is_upto key key) (is_below key (successor key)) (upto-itself key) (key-below-successor key)

-- what a question speaks of lies inside its bounds
pub inside-bounds : (r : Bounds) (question : Question) → question_bounds question ≡ Some r → is_inside r question ≡ true
inside-bounds r (Get key at) e = let same : key_hull key ≡ r = cc in subst (λ x. holds x key ≡ true) same (holds-itself key)
inside-bounds r (Scan range most at) e = let same : range ≡ r = cc in subst (λ x. covers x range ≡ true) same (covers-itself range)
inside-bounds r (RScan range most at) e = let same : range ≡ r = cc in subst (λ x. covers x range ≡ true) same (covers-itself range)
inside-bounds r (Move cursor step) e = absurd (cc)

-- a question about what stands now is answered over the map
pub answered-now : (p : Plain) (r : Bounds) (question : Question) → is_of_now question ≡ true → answer_now p question ≡ answered p.map r Before question
answered-now p r (Get key None) e = refl
answered-now p r (Get key (Some at)) e = absurd (false≢true e)
answered-now p r (Scan range most None) e = refl
answered-now p r (Scan range most (Some at)) e = absurd (false≢true e)
answered-now p r (RScan range most None) e = refl
answered-now p r (RScan range most (Some at)) e = absurd (false≢true e)
answered-now p r (Move cursor step) e = absurd (false≢true e)
