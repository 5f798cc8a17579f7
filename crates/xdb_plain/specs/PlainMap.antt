-- The map that every reply is about, and how operations and loads change it.
use Rattle.std.specs.Prelude.{ℕ, List, [], ◌∷◌, Option, Some, None, not}
use Rattle.std.specs.FinMap as map
use Rattle.std.specs.FinMap.{FinMap}
use Rattle.xdb_key.specs.Order.{key_cmp}
use Rattle.xdb_key.specs.Bounds.{Bounds, holds}
use Rattle.xdb_key.specs.declared.op.Op.{Op}
use Rattle.xdb_key.specs.declared.op.Op.TheVariants.{Set, Del, DelSpan}
use Rattle.xdb_plain.specs.Tables.{TableOps, spans_first}

-- from keys to values
abbrev pub PlainMap : Type 0
PlainMap = FinMap key_cmp (List ℕ)

-- without the keys that the range holds
abbrev pub without_keys : PlainMap → Bounds → PlainMap
without_keys m range = map.retain_keys m (λ k. not (holds range k))

-- a set puts the pair, a delete takes the key away, and a range delete every key that the range holds
abbrev pub acted : PlainMap → Op → PlainMap
acted m (Set key value) = map.insert m key value
acted m (Del key) = map.remove m key
acted m (DelSpan range) = without_keys m range

-- operations act from left to right
abbrev pub acted_all : PlainMap → List Op → PlainMap
acted_all m [] = m
acted_all m (op ∷ ops) = acted_all (acted m op) ops

-- table after table, in each the range deletes first
abbrev pub with_tables : PlainMap → List TableOps → PlainMap
with_tables m [] = m
with_tables m (t ∷ ts) = with_tables (acted_all m (spans_first t.ops)) ts

-- where there is a span, its keys go first
abbrev pub loaded : PlainMap → List TableOps → Option Bounds → PlainMap
loaded m tables None = with_tables m tables
loaded m tables (Some span) = with_tables (without_keys m span) tables
