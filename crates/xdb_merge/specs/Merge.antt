-- What is seen of a merged cursor: what it goes over, and its place among the pairs.
use Rattle.std.specs.Prelude.{ℕ, List, ◌∷◌, map}
use Rattle.xdb_key.specs.Bounds.{Bounds}
use Rattle.xdb_laws.specs.Image.{image}
use Rattle.xdb_mem.specs.Parts.{Parts}
use Rattle.xdb_plain.specs.Answers.{pairs_in}
use Rattle.xdb_plain.specs.declared.question.Place.{Place}
use Rattle.xdb_rangedel.specs.Content.{Item}
use Rattle.xdb_table_r.specs.Cursors.{Walk}
use Rattle.xdb_table_r.specs.Views.{keys_of, spans_in}
use Rattle.xdb_merge.specs.Layers.{layer, content_of_layers}

-- what memtables have, cursors of views, and the bounds and the number that the content is seen with
pub record Merge (F : Type 0) : Type 0 where
  pub mem : Parts
  pub walks : List (Walk F)
  pub bounds : Bounds
  pub at : ℕ
  pub place : Place

abbrev pub merge : {F : Type 0} → Parts → List (Walk F) → Bounds → ℕ → Place → Merge F
merge mem walks bounds at place = record { mem = mem; walks = walks; bounds = bounds; at = at; place = place }

-- what is read of a view: its points, and its spans
abbrev pub layer_of : {F : Type 0} → Walk F → Parts
layer_of w = layer w.points (spans_in (keys_of w.view) w.view.synthetic w.view.table.spans)

abbrev pub layers : {F : Type 0} → Parts → List (Walk F) → List Parts
layers mem walks = mem ∷ map layer_of walks

-- all that the memtables and the views hold
abbrev pub content : {F : Type 0} → Merge F → List Item
content m = content_of_layers (layers m.mem m.walks)

-- the pairs of the content's image at the number, inside the bounds, by rising keys
abbrev pub pairs_of : List Parts → Bounds → ℕ → List (List ℕ × List ℕ)
pairs_of ls bounds at = pairs_in bounds (image (content_of_layers ls) at)

abbrev pub pairs : {F : Type 0} → Merge F → List (List ℕ × List ℕ)
pairs m = pairs_of (layers m.mem m.walks) m.bounds m.at
