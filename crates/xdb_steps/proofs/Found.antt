-- The plain questions that a number finds, by those of the parts.
use Rattle.std.proofs.Common.{◌≡◌, ℕ, Bool, true, false, not, cond, eqb, List, [], ◌∷◌, map, length, Option, Some, None, refl, sym, ap, ◌∙◌}
use Rattle.std.proofs.lemmas.List.{length-map}
use Rattle.std.specs.List.{find, filter}
use Rattle.std.specs.Option.{option_map}
use Rattle.xdb_lists.proofs.PlaceLaws.{under-none, under-all}
use Rattle.xdb_plain.specs.State.{Plain, OpenQuestion, found_question, without_question}
use Rattle.xdb_steps.specs.Core.{Core}
use Rattle.xdb_steps.specs.Keeps.{Agrees}
use Rattle.xdb_steps.specs.Parts.Asks.{unanswered, IsNumbered}

-- ---- questions by what another list has

module _ {X : Type 0} (f : X → OpenQuestion) where
  choice : (b : Bool) (x : X) (o : Option X) → cond b (Some (f x)) (option_map f o) ≡ option_map f (cond b (Some x) o)
  choice true x o = refl
  choice false x o = refl

  pub found-mapped : (ask : ℕ) (xs : List X) → found_question ask (map f xs) ≡ option_map f (find (λ x. eqb (f x).ask ask) xs)
  found-mapped ask [] = refl
  found-mapped ask (x ∷ xs) =
      ap (λ o. cond (eqb (f x).ask ask) (Some (f x)) o) (found-mapped ask xs) ∙ choice (eqb (f x).ask ask) x (find (λ y. eqb (f y).ask ask) xs)

  kept : (b : Bool) (x : X) (xs : List X) → cond b (f x ∷ map f xs) (map f xs) ≡ map f (cond b (x ∷ xs) xs)
  kept true x xs = refl
  kept false x xs = refl

  pub without-mapped : (ask : ℕ) (xs : List X) → without_question ask (map f xs) ≡ map f (filter (λ x. not (eqb (f x).ask ask)) xs)
  without-mapped ask [] = refl
  without-mapped ask (x ∷ xs) =
      ap (λ os. cond (not (eqb (f x).ask ask)) (f x ∷ os) os) (without-mapped ask xs)
      ∙ kept (not (eqb (f x).ask ask)) x (filter (λ y. not (eqb (f y).ask ask)) xs)

-- a plain question that is the same but for its answer and place
pub record IsTold (q : OpenQuestion) (found : Option OpenQuestion) : Type 0 where
  pub told : OpenQuestion
  pub there : found ≡ Some told
  pub same : unanswered told ≡ unanswered q

none-of : (o : Option OpenQuestion) → option_map unanswered o ≡ None → o ≡ None
none-of None e = refl
none-of (Some q) e = absurd (cc)

some-of : (q : OpenQuestion) (o : Option OpenQuestion) → option_map unanswered o ≡ Some (unanswered q) → IsTold q o
some-of q None e = absurd (cc)
some-of q (Some told) e = record { told = told; there = refl; same = cc }

module _ (c : Core) (p : Plain) (a : Agrees c p) where
  pub plain-found : (ask : ℕ) → option_map unanswered (found_question ask p.questions) ≡ option_map unanswered (found_question ask c.asks)
  plain-found ask = sym (found-mapped unanswered ask p.questions) ∙ ap (found_question ask) (sym a.asks.same) ∙ found-mapped unanswered ask c.asks

  pub plain-none : (ask : ℕ) → found_question ask c.asks ≡ None → found_question ask p.questions ≡ None
  plain-none ask none = none-of (found_question ask p.questions) (plain-found ask ∙ ap (option_map unanswered) none)

  pub plain-some : (ask : ℕ) (q : OpenQuestion) → found_question ask c.asks ≡ Some q → IsTold q (found_question ask p.questions)
  plain-some ask q there = some-of q (found_question ask p.questions) (plain-found ask ∙ ap (option_map unanswered) there)

  pub none-at : (ask : ℕ) → ((q : OpenQuestion) → IsNumbered c.numbers.asked q → q.ask ≡ ask → ⊥) → found_question ask c.asks ≡ None
  none-at ask off = under-none (λ (q : OpenQuestion). q.ask) (IsNumbered c.numbers.asked) ask c.asks a.asks.numbered off

  pub count-is : length p.questions ≡ length c.asks
  count-is = sym (length-map p.questions unanswered) ∙ ap length (sym a.asks.same) ∙ length-map c.asks unanswered

  pub numbered-at : (ask : ℕ) (q : OpenQuestion) → found_question ask c.asks ≡ Some q → IsNumbered c.numbers.asked q
  numbered-at ask q there = under-all (λ (x : OpenQuestion). x.ask) (IsNumbered c.numbers.asked) ask q c.asks a.asks.numbered there
