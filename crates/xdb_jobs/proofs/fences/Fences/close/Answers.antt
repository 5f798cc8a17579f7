-- What is kept is what is left without the load's fence.
use Rattle.std.proofs.Common.{rules, ◌≡◌, false, not, sym, ap, ◌∙◌, subst}
use Rattle.std.proofs.lemmas.Fn.{filter_same}
use Rattle.std.proofs.lemmas.List.Kept.{AllPairs-filter}
use Rattle.xdb_plain.specs.State.{same_name}
use Rattle.xdb_jobs.specs.Fencing.{LoadsDiffer, without_fence}
use Rattle.xdb_jobs.proofs.fences.Fences.close.Goals as goal

pub invariant_of-self : goal.invariant_of-self
invariant_of-self c =
    let kept = filter_same _ (λ f. not (same_name f.load c.args.load)) _ (λ x b f' k. search rules) _ _ c.retain.ensures.filtered in
    subst LoadsDiffer (sym kept) (AllPairs-filter (λ f g. same_name f.load g.load ≡ false) (λ f. not (same_name f.load c.args.load)) c.self.inside.fences.items c.self.invariant)

pub returns : goal.returns
returns c =
    filter_same _ (λ f. not (same_name f.load c.args.load)) _ (λ x b f' k. search rules) _ _ c.retain.ensures.filtered
    ∙ ap (without_fence c.args.load) c.self.view_is
