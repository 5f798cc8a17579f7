use Rattle.xdb_model.proofs.RemovalLaws.{removed-stays, removed-takes, removed-leaves, removed-leaves_later}
use Rattle.xdb_model.proofs.files.removals_go_on.Goals as goal

pub returns-clause-stays : goal.returns-clause-stays
returns-clause-stays c = removed-stays

pub returns-clause-takes : goal.returns-clause-takes
returns-clause-takes c = removed-takes

pub returns-clause-leaves : goal.returns-clause-leaves
returns-clause-leaves c = removed-leaves

pub returns-clause-leaves_later : goal.returns-clause-leaves_later
returns-clause-leaves_later c = removed-leaves_later
