-- One level more, and the last one; and too many tables.
use Rattle.std.proofs.Common.{ℕ, ◌^◌, ◌∙◌, length, Some, None, ltb, sym, ap, arith}
use Rattle.std.proofs.lemmas.Bool.{cond-true, cond-false, le-ltb, lt-ltb}
use Rattle.xdb_vset.specs.Counts.{table_count}
use Rattle.xdb_vset.proofs.VersionLaws.{tables_more, tables_more_le, tables_whole}
use Rattle.xdb_vset.proofs.files.table_count.Goals as goal

pub loop-level-preserved : goal.loop-level-preserved
loop-level-preserved c =
    let here = ap length c.tables.ensures.tables in
    let more = tables_more c.args.version.now c.loop-level.level (omega arith) in
    let before = c.loop-level.invariant.total in
    let sum = c.in_ok-total.ensures.1 in
    record { total = omega arith; fits = omega arith }

pub returns-in_err-total : goal.returns-in_err-total
returns-in_err-total c =
    let here = ap length c.tables.ensures.tables in
    let more = tables_more_le c.args.version.now c.loop-level.level (omega arith) in
    let before = c.loop-level.invariant.total in
    let much = c.in_err-total.ensures in
    let all = table_count c.args.version.now in
    c.from_residual.ensures ∙ sym (cond-false (ltb all (2 ^ 64)) (Some all) None (le-ltb all (2 ^ 64) (omega arith)))

pub returns : goal.returns
returns c =
    let whole = tables_whole c.args.version.now c.loop-level.level (omega arith) in
    let all = c.loop-level.invariant.total ∙ whole in
    let fits' = c.loop-level.invariant.fits in
    let count = table_count c.args.version.now in
    ap (λ (n : ℕ). Some n) all ∙ sym (cond-true (ltb count (2 ^ 64)) (Some count) None (lt-ltb count (2 ^ 64) (omega arith)))
