use Rattle.std.proofs.Common.{◌≡◌, ℕ, ◌*◌, ◌≤◌, ◌∙◌, List, length, ap, sym, subst, Ok, arith}
use Rattle.std.proofs.lemmas.Result.{err_from_is_err_and}
use Rattle.xdb_block.specs.Kept.{IsKept, rows_of}
use Rattle.xdb_block.specs.Reading.{IsDefect, block_at}
use Rattle.xdb_block.specs.Rows.{keys_len}
use Rattle.xdb_block.specs.Spelling.{IsBlock, block_bytes}
use Rattle.xdb_block.proofs.BlockLaws.{block_again}
use Rattle.xdb_block.proofs.KeysLaws.{keys_in_block}
use Rattle.xdb_block.proofs.block.Block.parse.Goals as goal

pub returns-in_err-rows-clause-only : goal.returns-in_err-rows-clause-only
returns-in_err-rows-clause-only c = λ rows block e.
    let p = err_from_is_err_and c.from_residual.result c.from_residual.ensures.1 in
    let read = ap (block_at 16 c.args.kind) (c.deref.ensures.value ∙ e) ∙ block_again 16 c.args.kind rows (omega arith) block in
    rw (p.1, p.2) (subst (λ r. IsDefect c.in_err-rows.field-0.0 r) read c.in_err-rows.ensures.answers)

pub invariant_of-result : goal.invariant_of-result
invariant_of-result c =
    let x = c.in_ok-rows.rows in
    subst (λ bytes. IsKept x.keys.items bytes x.places.items) c.deref.ensures.value c.in_ok-rows.ensures.kept

pub returns-clause-found : goal.returns-clause-found
returns-clause-found c =
    let x = c.in_ok-rows.rows in
    subst (λ bytes. IsBlock 16 c.args.kind (rows_of x.keys.items bytes x.places.items) × (bytes ≡ block_bytes 16 (rows_of x.keys.items bytes x.places.items))) c.deref.ensures.value c.in_ok-rows.ensures.found

pub returns-clause-only : goal.returns-clause-only
returns-clause-only c = λ rows block e.
    let x = c.in_ok-rows.rows in
    let read = ap (block_at 16 c.args.kind) (c.deref.ensures.value ∙ e) ∙ block_again 16 c.args.kind rows (omega arith) block in
    sym read ∙ c.in_ok-rows.ensures.answers ∙ ap (λ bytes. Ok (rows_of x.keys.items bytes x.places.items)) c.deref.ensures.value

pub returns-clause-keys : goal.returns-clause-keys
returns-clause-keys c =
    let found = returns-clause-found c in
    let rows = rows_of c.in_ok-rows.rows.keys.items c.args.bytes.items c.in_ok-rows.rows.places.items in
    subst (λ (bytes : List ℕ). keys_len rows ≤ 16 * length bytes) (sym found.1) (keys_in_block rows)
