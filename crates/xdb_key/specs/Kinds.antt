-- Internal keys: a user key and a trailer of number and kind.
use Rattle.std.specs.Prelude.{ℕ, ◌+◌, ◌*◌, List}
use Rattle.std.specs.declared.cmp.Ordering.{Ordering}
use Rattle.std.specs.Ordering.{nat_cmp, ordering_then}
use Rattle.xdb_key.specs.Order.{key_cmp}
use Rattle.xdb_key.specs.declared.op.Kind.{Kind}
use Rattle.xdb_key.specs.declared.op.Kind.TheVariants.{Del, Set, SpanDel}

abbrev pub kind_code : Kind → ℕ
kind_code Del = 0
kind_code Set = 1
kind_code SpanDel = 15

abbrev pub trailer : ℕ → Kind → ℕ
trailer seq kind = seq * 256 + kind_code kind

-- by user key, and at one user key the greatest trailer first
abbrev pub internal_cmp : List ℕ → ℕ → List ℕ → ℕ → Ordering
internal_cmp a s b t = ordering_then (key_cmp a b) (nat_cmp t s)
