-- What is left to answer of `are_in_order`.
use Rattle.std.proofs.Common.{◌≡◌, ℕ, zero, suc, ◌+◌, ◌-◌, ◌<◌, ◌≤◌, true, List, length, get_or, inl, inr, sym, ap, ◌∙◌, subst, arith}
use Rattle.std.proofs.lemmas.Bool.{cases_lt}
use Rattle.std.proofs.lemmas.List.{get_or_default}
use Rattle.xdb_key.specs.Entries.{Point}
use Rattle.xdb_key.specs.InOrder.{comes_before}
use Rattle.xdb_key.proofs.InOrderLaws.{before_trans}
use Rattle.xdb_stripes.proofs.tests.are_in_order.Goals as goal

-- each entry before a place stands before the next
abbrev Steps : List Point → ℕ → Type 0
Steps ps n = (k : ℕ) (d : Point) → k + 1 < n → comes_before (get_or ps k d) (get_or ps (k + 1) d) ≡ true

step_more : (ps : List Point) (at : ℕ) (p q : Point) → 1 ≤ at → at < length ps → p ≡ get_or ps (at - 1) p → q ≡ get_or ps at q → comes_before p q ≡ true → Steps ps at → Steps ps (at + 1)
step_more ps at p q some inside at_p at_q before steps = λ k d less. elim (cases_lt (k + 1) at) [
  | inl earlier ↦ steps k d earlier
  | inr last ↦
      let here : at - 1 ≡ k = omega arith in
      let next : at ≡ k + 1 = omega arith in
      let first : p ≡ get_or ps k d = at_p ∙ get_or_default ps (at - 1) p d (omega arith) ∙ ap (λ n. get_or ps n d) here in
      let second : q ≡ get_or ps (k + 1) d = at_q ∙ get_or_default ps at q d inside ∙ ap (λ n. get_or ps n d) next in
      sym (λ i. comes_before (first i) (second i)) ∙ before
]

far : (ps : List Point) (n : ℕ) (d : Point) → Steps ps n → (m i j : ℕ) → j ≡ i + 1 + m → j < n → comes_before (get_or ps i d) (get_or ps j d) ≡ true
far ps n d steps zero i j e inside =
    let next : i + 1 ≡ j = omega arith in
    subst (λ k. comes_before (get_or ps i d) (get_or ps k d) ≡ true) next (steps i d (omega arith))
far ps n d steps (suc m) i j e inside =
    let last : j - 1 + 1 ≡ j = omega arith in
    before_trans (get_or ps i d) (get_or ps (j - 1) d) (get_or ps j d) (far ps n d steps m i (j - 1) (omega arith) (omega arith))
    (subst (λ k. comes_before (get_or ps (j - 1) d) (get_or ps k d) ≡ true) last (steps (j - 1) d (omega arith)))

pub loop-at-preserved : goal.loop-at-preserved
loop-at-preserved c =
    step_more c.args.entries.now c.loop-at.at c.index-entries-at.result c.index-entries-at-in-loop-at.result c.loop-at.auto.at c.loop-at-test.true c.index-entries-at.is c.index-entries-at-in-loop-at.is (sym c.comes_before.ensures ∙ c.if-not-comes_before.false) c.loop-at.invariant

pub returns : goal.returns
returns c = λ yes i j d less inside.
    far c.args.entries.now (length c.args.entries.now) d (λ k e h. c.loop-at.invariant k e (let past = c.loop-at-test.false in omega arith)) (j - i - 1) i j (omega arith) inside
