use Rattle.std.proofs.Common.{◌<◌, ◌^◌, sym, ap, ◌∙◌, arith}
use Rattle.std.proofs.lemmas.Bool.{false≢true}
use Rattle.xdb_key.specs.Name.{is_name}
use Rattle.xdb_gen.proofs.NameLaws.{snap_name-is_name}
use Rattle.xdb_gen.proofs.words.snap_name.Goals as goal

-- src/words.rt
pub unreachable-requires : goal.unreachable-requires
unreachable-requires c =
    let small : c.args.operation < 2 ^ 32 = omega arith in
    false≢true (sym c.in_default.ensures ∙ ap is_name (c.deref.ensures.value ∙ c.in_ok-bytes.ensures) ∙ snap_name-is_name c.args.operation small)
