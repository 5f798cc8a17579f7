-- The small load's install: its contents are its operations themselves.
use Rattle.std.proofs.Common.{rules, [], ◌∷◌, ◌++◌}
use Rattle.xdb_rangedel.specs.Content.{IsClear}
use Rattle.xdb_rangedel.specs.Layers.{IsAllBelow}
use Rattle.xdb_rangedel.specs.Members.{SameMembers}
use Rattle.xdb_laws.specs.Loads.{AreLoadsOf, AreLoadable}
use Rattle.xdb_laws.specs.Ordered.{joined}
use Rattle.xdb_laws.specs.SmallLoad.{small_tables, small_before, small_rest, small_after, first_load, second_load}
use Rattle.xdb_laws.proofs.RewriteLaws.{rewrite-same}
use Rattle.xdb_laws.proofs.SmallLaws.{excised}
use Rattle.xdb_laws.proofs.load_instances.a_load_is_one.Goals as goal

below : IsAllBelow 10 small_before
below = search rules

clear : IsClear small_before
clear = search rules

loadable : AreLoadable small_tables
loadable = search rules

loaded : AreLoadsOf 10 small_tables (first_load ∷ second_load ∷ [])
loaded = (rewrite-same first_load first_load (λ i. (λ h. h, λ h. h)), (rewrite-same second_load second_load (λ i. (λ h. h, λ h. h)), tt))

members : SameMembers small_after (joined (first_load ∷ second_load ∷ []) ++ small_rest)
members = search rules

pub returns-clause-install : goal.returns-clause-install
returns-clause-install c = record {
  below = below;
  clear = clear;
  excised = excised;
  loadable = loadable;
  loaded = loaded;
  members = members;
}
