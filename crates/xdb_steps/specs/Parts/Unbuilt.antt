-- Snapshots, cursors and loads aren't built yet: there are none.
use Rattle.std.specs.Prelude.{◌≡◌, List, []}
use Rattle.xdb_plain.specs.State.{Snapshot, Cursor, Load}

pub record SnapsAgree (snaps : List Snapshot) : Type 0 where
  pub none : snaps ≡ []

pub record CursorsAgree (cursors : List Cursor) : Type 0 where
  pub none : cursors ≡ []

pub record LoadsAgree (loads : List Load) : Type 0 where
  pub none : loads ≡ []
