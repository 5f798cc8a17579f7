-- What the edit leaves are levels, where it leaves no overlap.
use Rattle.std.proofs.Common.{sym, ap, ◌∙◌}
use Rattle.std.specs.List.{list_all}
use Rattle.xdb_edit.specs.Versions.{has_range}
use Rattle.xdb_levels.proofs.EditLaws.{edited_levels}
use Rattle.xdb_levels.proofs.levels.Levels.apply.Goals as goal

pub invariant_of-result : goal.invariant_of-result
invariant_of-result g c =
    let ranges = ap (list_all (λ a. has_range a.1)) (sym c.added.ensures) ∙ c.have_ranges.ensures.ranges in
    edited_levels g.row.N c.self.inside.levels c.args.edit.now c.in_ok-levels.levels c.self.invariant ranges c.in_ok-levels.ensures (sym c.in_default-overlap.is ∙ c.overlap.ensures)

pub returns-clause-levels : goal.returns-clause-levels
returns-clause-levels g c =
    let ranges = ap (list_all (λ a. has_range a.1)) (sym c.added.ensures) ∙ c.have_ranges.ensures.ranges in
    edited_levels g.row.N c.self.inside.levels c.args.edit.now c.in_ok-levels.levels c.self.invariant ranges c.in_ok-levels.ensures (sym c.in_default-overlap.is ∙ c.overlap.ensures)
