-- The inputs are named in their order.
use Rattle.std.proofs.Common.{◌≡◌, ◌++◌, ℕ, List, map, OnOk, ap, subst, ◌∙◌}
use Rattle.xdb_pick.specs.Hulls.{lent_name}
use Rattle.xdb_pick.proofs.WalkLaws.{name, names-lent}
use Rattle.xdb_pick.proofs.planning.put_inputs.Goals as goal

pub returns : goal.returns
returns c =
    let level = c.args.level in
    let same = ap (map (lent_name level)) c.deref.ensures.value ∙ names-lent level c.in_ok-inputs.field-0.items ∙ ap (map (name level)) c.in_ok-inputs.ensures in
    subst (λ (xs : List (ℕ × ℕ)). OnOk c.put_names.result (c.put_names.new.out.items ≡ c.args.out.now.items ++ xs)) same c.put_names.ensures
