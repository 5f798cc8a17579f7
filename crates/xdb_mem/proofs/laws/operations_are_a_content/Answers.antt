use Rattle.xdb_mem.proofs.ContentLaws.{group-content, parts-content}
use Rattle.xdb_mem.proofs.laws.operations_are_a_content.Goals as goal

pub returns : goal.returns
returns c = record { group = group-content; parts = parts-content }
