-- The map of the small state is the image of its content.
use Rattle.std.proofs.Common.{◌++◌}
use Rattle.xdb_mem.specs.Parts.{items}
use Rattle.xdb_mem.specs.Queue.{all_ops}
use Rattle.xdb_laws.specs.SmallLoad.{small_file, small_groups, small_other}
use Rattle.xdb_laws.proofs.ImageLaws.{image-is}
use Rattle.xdb_laws.proofs.load_instances.a_snapshot_is_one.Goals as goal

pub returns-clause-map : goal.returns-clause-map
returns-clause-map c = image-is (items (all_ops small_groups) ++ (small_file ++ small_other)) 10
