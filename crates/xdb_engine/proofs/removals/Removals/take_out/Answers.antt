-- The others stay.
use Rattle.std.proofs.Common.{rules, not, eqb, ap, ◌∙◌}
use Rattle.std.proofs.lemmas.Fn.{filter_same}
use Rattle.xdb_engine.specs.Removals.{without_number}
use Rattle.xdb_engine.proofs.removals.Removals.take_out.Goals as goal

pub returns-clause-numbers : goal.returns-clause-numbers
returns-clause-numbers c =
    filter_same _ (λ n. not (eqb n c.args.num)) _ (λ x b f' k. search rules) _ _ c.retain.ensures.filtered
    ∙ ap (λ v. without_number c.args.num v.numbers) c.self.view_is
