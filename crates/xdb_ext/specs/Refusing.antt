-- Why operations make no external table.
use Rattle.std.specs.Prelude.{List, length, Option, Some, nat_lt, ◌==◌, if◌then◌else◌}
use Rattle.std.specs.Option.{option_map}
use Rattle.xdb_key.specs.Ops.{disorder}
use Rattle.xdb_key.specs.declared.op.Op.{Op}
use Rattle.xdb_ext.specs.declared.error.ExtNo.{ExtNo}
use Rattle.xdb_ext.specs.declared.error.ExtNo.TheVariants.{EmptyTable, TooMany, OutOfOrder}

-- none is there; or more than 4,096 are; or a point's key isn't greater than that of the point before it
abbrev pub refusal_of : List Op → Option ExtNo
refusal_of ops =
    if length ops == 0 then Some EmptyTable else (
    if nat_lt 4096 (length ops) then Some TooMany else option_map OutOfOrder (disorder ops))
