-- What is left to answer of `add_places`.
use Rattle.std.proofs.Common.{[], ◌∷◌, ◌<◌, ltb, inl, inr, subst, sym, arith}
use Rattle.std.proofs.lemmas.Bool.{cases_Bool, ltb-true, ltb-false}
use Rattle.std.proofs.lemmas.List.Elements.{All-push}
use Rattle.std.specs.List.{All}
use Rattle.xdb_rangedel.specs.Members.{Has}
use Rattle.xdb_rangedel.proofs.MemberLaws.{Has-append_left, Has-append_right}
use Rattle.xdb_mem.proofs.index.add_places.Goals as goal

pub loop-place-preserved : goal.loop-place-preserved
loop-place-preserved c =
    let out = c.loop-place.out.items in
    let place = c.loop-place.place in
    let made = c.in_ok-push.ensures.items in
    record {
      kept = λ p h. subst (λ xs. Has xs p) (sym made) (Has-append_left out (place ∷ []) p (c.loop-place.invariant.kept p h));
      added = λ p from below. subst (λ xs. Has xs p) (sym made) (elim (cases_Bool (ltb p place)) [
        | inl less ↦ Has-append_left out (place ∷ []) p (c.loop-place.invariant.added p from (ltb-true p place less))
        | inr more ↦ Has-append_right out (place ∷ []) p (inl (omega (arith, ltb-false p place more, below)))
      ]);
      inside = λ h. subst (All (λ p. p < c.args.to)) (sym made) (All-push (λ p. p < c.args.to) out place (c.loop-place.invariant.inside h) (omega (arith, c.loop-place-test.true)));
    }
