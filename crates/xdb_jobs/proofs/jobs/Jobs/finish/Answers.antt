-- The only job of the number is taken out at its place.
use Rattle.std.proofs.Common.{◌∙◌}
use Rattle.xdb_jobs.proofs.JobLaws.{place_read, running_ended, ended_job, ended_others, none_ended, all_run_on}
use Rattle.xdb_jobs.proofs.jobs.Jobs.finish.Goals as goal

pub returns-in_err-at-clause-job : goal.returns-in_err-at-clause-job
returns-in_err-at-clause-job g c =
    let place = place_read c.args.num c.self.inside.jobs.items c.deref.result.now c.place_of.result _ c.deref.ensures.value c.place_of.ensures c.in_err-at.was in
    c.from_residual.ensures ∙ none_ended c.args.num c.self.inside.jobs.items c.args.self.now c.self.view_is place

pub returns-in_err-at-clause-others : goal.returns-in_err-at-clause-others
returns-in_err-at-clause-others g c =
    let place = place_read c.args.num c.self.inside.jobs.items c.deref.result.now c.place_of.result _ c.deref.ensures.value c.place_of.ensures c.in_err-at.was in
    all_run_on c.args.num c.self.inside.jobs.items c.args.self.now c.self.view_is place

pub invariant_of-self : goal.invariant_of-self
invariant_of-self g c =
    let place = place_read c.args.num c.self.inside.jobs.items c.deref.result.now c.place_of.result _ c.deref.ensures.value c.place_of.ensures c.in_ok-at.was in
    running_ended c.args.num c.self.inside.jobs.items c.self.inside.hulls.items c.in_ok-at.at c.remove-7.result _ _ c.self.invariant place c.remove-7.ensures.items c.remove.ensures.items

pub returns-clause-job : goal.returns-clause-job
returns-clause-job g c =
    let place = place_read c.args.num c.self.inside.jobs.items c.deref.result.now c.place_of.result _ c.deref.ensures.value c.place_of.ensures c.in_ok-at.was in
    ended_job c.args.num c.self.inside.jobs.items c.args.self.now c.in_ok-at.at c.remove-7.result c.self.view_is c.self.invariant.numbers place c.remove-7.ensures.value

pub returns-clause-others : goal.returns-clause-others
returns-clause-others g c =
    let place = place_read c.args.num c.self.inside.jobs.items c.deref.result.now c.place_of.result _ c.deref.ensures.value c.place_of.ensures c.in_ok-at.was in
    ended_others c.args.num c.self.inside.jobs.items c.args.self.now c.in_ok-at.at c.remove-7.result _ c.self.view_is c.self.invariant.numbers place c.remove-7.ensures.items
