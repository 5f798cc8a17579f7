-- What is lent has no tables.
use Rattle.std.proofs.Common.{ap, ◌∙◌}
use Rattle.xdb_read.specs.declared.parts.ReadParts.{ReadParts}
use Rattle.xdb_engine.proofs.AskLaws.{bare-by}
use Rattle.xdb_engine.proofs.engine.Engine.given.Goals as goal

pub returns-clause-bare : goal.returns-clause-bare
returns-clause-bare g c =
    ap (λ (parts : ReadParts g.row.F.Denot). parts.tables) c.given.ensures
    ∙ bare-by c.args.id.now c.self.inside.state.asks c.in_ok-question.question.now c.in_ok-question.ensures.found c.in_ok-question.ensures.asks.bare
