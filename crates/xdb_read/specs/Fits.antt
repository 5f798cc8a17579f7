-- What a question's parts mean, and what answers them.
use Rattle.std.specs.Prelude.{◌≡◌, ℕ, List, ◌++◌, Option}
use Rattle.xdb_laws.specs.Answered.{answered}
use Rattle.xdb_laws.specs.Image.{image, inside}
use Rattle.xdb_merge.specs.Tables.{AreTold, content_of_tables}
use Rattle.xdb_plain.specs.Answers.{Landing, landing}
use Rattle.xdb_plain.specs.PlainMap.{PlainMap}
use Rattle.xdb_rangedel.specs.Content.{Item, content_of}
use Rattle.xdb_read.specs.declared.parts.ReadDone.{ReadDone}
use Rattle.xdb_read.specs.declared.parts.ReadParts.{ReadParts}

-- what the memtables of the parts hold
abbrev pub mem_content : {F : Type 0} → ReadParts F → List Item
mem_content parts = content_of parts.mem.entries parts.mem.spans

-- `bytes` is what files tell
module _ {F : Type 0} (bytes : F → Option (List ℕ)) where
  -- all that the parts hold
  abbrev pub content : ReadParts F → List Item
  content parts = mem_content parts ++ content_of_tables bytes parts.tables

  -- the image at the parts' number, inside their bounds
  abbrev pub parts_map : ReadParts F → PlainMap
  parts_map parts = inside parts.bounds (image (content parts) parts.at)

  -- the answer, and the place that a move leads to
  abbrev pub meant : ReadParts F → Landing
  meant parts = answered (parts_map parts) parts.bounds parts.place parts.question

  -- Both answers and the place are those of the parts, where the files of their tables tell their bytes.
  pub record ReadFits (parts : ReadParts F) (done : ReadDone) : Type 0 where
    pub right : AreTold bytes parts.tables → landing done.answer done.place ≡ meant parts
    pub again : done.again ≡ done.answer
