use Rattle.std.proofs.Common.{◌∙◌}
use Rattle.xdb_run.proofs.BuiltLaws.{accepted}
use Rattle.xdb_run.proofs.LineLaws.{commit-takes}
use Rattle.xdb_run.proofs.commits.commit.Goals as goal

pub unreachable-requires : goal.unreachable-requires
unreachable-requires g c = accepted c.args.ops c.into_list.result.items c.from_ops.result c.in_default.field-0 c.into_list.ensures c.requires.batch c.from_ops.ensures.succeeds c.in_default.is

pub returns : goal.returns
returns g c = commit-takes (c.in-Ok.ensures.made ∙ c.into_list.ensures) c.commit.ensures.note c.commit.ensures.questions
