-- What a search finds is what the step of a cursor leads to.
use Rattle.std.proofs.Common.{◌≡◌, ℕ, Bool, true, List, [], ◌∷◌, Option, Some, None, IfSome, Result, Ok, Err, IfOk, inl, inr, refl, sym, ap, ◌∙◌, subst}
use Rattle.std.proofs.lemmas.Bool.{cases_Bool, and_parts}
use Rattle.std.specs.Borrow.{Bor}
use Rattle.std.specs.FinMap as finite
use Rattle.std.specs.List.{filter}
use Rattle.xdb_key.specs.Bounds.{Bounds, holds}
use Rattle.xdb_key.specs.Entries.{Point}
use Rattle.xdb_key.specs.Order.{is_below, is_upto}
use Rattle.xdb_laws.specs.Image.{image}
use Rattle.xdb_mem.specs.Parts.{Parts}
use Rattle.xdb_plain.specs.Answers.{Landing, landing, first_of, last_of, at_or_after, at_or_before, next_from, prev_from, moved}
use Rattle.xdb_plain.specs.declared.question.Place.{Place}
use Rattle.xdb_plain.specs.declared.question.Place.TheVariants.{Before, On, After}
use Rattle.xdb_plain.specs.declared.question.Step.{Step}
use Rattle.xdb_merge.specs.Layers.{content_of_layers}
use Rattle.xdb_merge.specs.Merge.{pairs_of}
use Rattle.xdb_merge.specs.Moves.{IsLanded}
use Rattle.xdb_merge.specs.Search.{is_from, is_before}
use Rattle.xdb_merge.specs.Sources.{AreAlike}
use Rattle.xdb_merge.specs.Steps.{answer_of, Decides}
use Rattle.xdb_merge.specs.declared.edge.Edge.TheVariants.{At, Behind}
use Rattle.xdb_merge.proofs.SourceLaws.{alike_pairs, alike_decides}

-- a test that all of the list pass changes nothing
filter_idle : {A : Type 0} (t h : A → Bool) (xs : List A) → ((x : A) → h x ≡ true → t x ≡ true) → filter t (filter h xs) ≡ filter h xs
filter_idle t h [] pass = refl
filter_idle t h (x ∷ xs) pass = elim (cases_Bool (h x)) [
  | inl e ↦ rw (e, pass x e) (ap (λ ys. x ∷ ys) (filter_idle t h xs pass))
  | inr e ↦ rw e (filter_idle t h xs pass)
]

module _ (ls : List Parts) (r : Bounds) (at : ℕ) where
  from_start : filter (λ pair. is_upto r.lo pair.0) (pairs_of ls r at) ≡ pairs_of ls r at
  from_start = filter_idle (λ pair. is_upto r.lo pair.0) (λ pair. holds r pair.0) (finite.entries (image (content_of_layers ls) at))
      (λ pair h. (and_parts (is_upto r.lo pair.0) (is_below pair.0 r.hi) h).0)

  to_end : filter (λ pair. is_below pair.0 r.hi) (pairs_of ls r at) ≡ pairs_of ls r at
  to_end = filter_idle (λ pair. is_below pair.0 r.hi) (λ pair. holds r pair.0) (finite.entries (image (content_of_layers ls) at))
      (λ pair h. (and_parts (is_upto r.lo pair.0) (is_below pair.0 r.hi) h).1)

  pub next-before : (place : Place) (lo : Bor (List ℕ)) (o : Option (List ℕ × List ℕ)) → place ≡ Before → lo.now ≡ r.lo → o ≡ first_of (filter (λ pair. is_from (At lo) pair.0) (pairs_of ls r at)) → at_or_after o ≡ next_from (pairs_of ls r at) place
  next-before place lo o is start found =
      ap at_or_after (found ∙ ap (λ k. first_of (filter (λ pair. is_upto k pair.0) (pairs_of ls r at))) start ∙ ap first_of from_start)
      ∙ ap (next_from (pairs_of ls r at)) (sym is)

  pub next-on : (place : Place) (key : List ℕ) (b : Bor (List ℕ)) (o : Option (List ℕ × List ℕ)) → place ≡ On key → b.now ≡ key → o ≡ first_of (filter (λ pair. is_from (Behind b) pair.0) (pairs_of ls r at)) → at_or_after o ≡ next_from (pairs_of ls r at) place
  next-on place key b o is start found =
      ap at_or_after (found ∙ ap (λ k. first_of (filter (λ pair. is_below k pair.0) (pairs_of ls r at))) start)
      ∙ ap (next_from (pairs_of ls r at)) (sym is)

  pub prev-after : (place : Place) (hi : List ℕ) (o : Option (List ℕ × List ℕ)) → place ≡ After → hi ≡ r.hi → o ≡ last_of (filter (λ pair. is_before hi pair.0) (pairs_of ls r at)) → at_or_before o ≡ prev_from (pairs_of ls r at) place
  prev-after place hi o is end found =
      ap at_or_before (found ∙ ap (λ k. last_of (filter (λ pair. is_below pair.0 k) (pairs_of ls r at))) end ∙ ap last_of to_end)
      ∙ ap (prev_from (pairs_of ls r at)) (sym is)

  -- the entry that was found, and the place that goes with it
  pub landed_by : {E : Type 0} (res : Result (Option Point × Place) E) (old : Place) (step : Step) (o : Option Point) (l : Landing) → l ≡ moved (pairs_of ls r at) old step → IfSome o (Decides (content_of_layers ls) at) → IfOk res (λ x. x.0 ≡ o) → IfOk res (λ x. landing (answer_of x.0) x.1 ≡ l) → IfOk res (λ x. IsLanded ls r at old step x.0 x.1)
  landed_by (Ok x) old step o l is decides same lands = record {
    moves = lands ∙ is;
    decides = subst (λ y. IfSome y (Decides (content_of_layers ls) at)) (sym same) decides;
  }
  landed_by (Err e) old step o l is decides same lands = tt

some-decides : (ls ms : List Parts) (at : ℕ) (o : Option Point) → AreAlike ls ms → IfSome o (Decides (content_of_layers ls) at) → IfSome o (Decides (content_of_layers ms) at)
some-decides ls ms at None alike h = tt
some-decides ls ms at (Some p) alike h = alike_decides ls ms at p alike h

pub landed_alike : {E : Type 0} (res : Result (Option Point × Place) E) (ls ms : List Parts) (r : Bounds) (at : ℕ) (old : Place) (step : Step) → AreAlike ls ms → IfOk res (λ x. IsLanded ls r at old step x.0 x.1) → IfOk res (λ x. IsLanded ms r at old step x.0 x.1)
landed_alike (Ok x) ls ms r at old step alike h = record {
  moves = h.moves ∙ ap (λ ps. moved ps old step) (alike_pairs ls ms r at alike);
  decides = some-decides ls ms at x.0 alike h.decides;
}
landed_alike (Err e) ls ms r at old step alike h = tt
