-- How often the tables of versions name a file.
use Rattle.std.specs.Prelude.{ℕ, ◌==◌, List, length, sum_by, count_by}
use Rattle.xdb_meta.specs.Table.{Table}
use Rattle.xdb_edit.specs.Versions.{LevelLists}

-- how many of the tables lie in the file of this number
abbrev pub named_in : ℕ → List Table → ℕ
named_in b ts = count_by (λ t. b == t.backing) ts

-- how many tables of the levels do
abbrev pub named_by : ℕ → LevelLists → ℕ
named_by b levels = sum_by (named_in b) levels

-- how many pairs of a version and a table in it do
abbrev pub count : ℕ → List LevelLists → ℕ
count b versions = sum_by (named_by b) versions

-- how many tables the levels have
abbrev pub table_count : LevelLists → ℕ
table_count levels = sum_by length levels
