-- The lines of a script whose verbs are built can be run.
use Rattle.std.proofs.Common.{◌≡◌, ℕ, ◌+◌, ◌≤◌, Bool, true, false, cond, not, ltb, leb, ◌&&◌, List, [], ◌∷◌, length, map, sum, Option, Some, None, Result, Err, IfNone, IsOk, refl, sym, ap, ◌∙◌, subst, arith}
use Rattle.std.proofs.lemmas.Bool.{and_parts, and_from, false≢true, lt-leb, le-ltb, leb-true}
use Rattle.std.proofs.lemmas.List.Sums.{sum_by-cons, sum-map}
use Rattle.std.specs.List.{find, list_all}
use Rattle.std.specs.Option.{option_map, option_or}
use Rattle.xdb_batch.specs.Adding.{value_len, first_refusal, refusal_of}
use Rattle.xdb_batch.specs.declared.error.BatchNo.{BatchNo}
use Rattle.xdb_batch.specs.declared.error.BatchNo.TheVariants.{ValueTooLong, TooMany, TooLong}
use Rattle.xdb_key.specs.Ops.{op_len, batch_len}
use Rattle.xdb_key.specs.declared.TheConstants.{MAX_VALUE}
use Rattle.xdb_key.specs.declared.op.Op.{Op}
use Rattle.xdb_key.specs.declared.op.Op.TheVariants as op
use Rattle.xdb_plain.specs.Scripts.{is_value_of, are_batch, is_set, is_del, is_del_span, suits_form, suits, tables_below, are_lines}
use Rattle.xdb_plain.specs.Steps.{is_client, is_db}
use Rattle.xdb_plain.specs.Tables.{TableOps}
use Rattle.xdb_plain.specs.declared.act.By.{By}
use Rattle.xdb_plain.specs.declared.act.CommitForm.{CommitForm}
use Rattle.xdb_plain.specs.declared.act.CommitForm.TheVariants as form
use Rattle.xdb_plain.specs.declared.script.Cmd.{Cmd}
use Rattle.xdb_plain.specs.declared.script.Cmd.TheVariants as cmd
use Rattle.xdb_plain.specs.declared.script.Line.{Line}
use Rattle.xdb_run.specs.Built.{is_read, is_built, first_unbuilt, may_run, is_run}

formed : (form : CommitForm) (ops : List Op) → suits_form form ops ≡ true → are_batch ops ≡ true
formed form.Put ops h = (and_parts (is_set ops) (are_batch ops) h).1
formed form.Del ops h = (and_parts (is_del ops) (are_batch ops) h).1
formed form.DelSpan ops h = (and_parts (is_del_span ops) (are_batch ops) h).1
formed form.Batch ops h = h

run-by : (tables : List TableOps) (by : Option By) (c : Cmd) → suits tables by c ≡ true → is_built c ≡ true → may_run by c ≡ true
run-by tables None (cmd.Table table) s built = refl
run-by tables (Some by) (cmd.Table table) s built = absurd (false≢true s)
run-by tables None (cmd.Commit form ops) s built = absurd (false≢true s)
run-by tables (Some by) (cmd.Commit form ops) s built =
    let parts = and_parts (is_client by) (suits_form form ops) s in
    and_from (is_client by) (are_batch ops) parts.0 (formed form ops parts.1)
run-by tables None (cmd.Ask question parted) s built = absurd (false≢true s)
run-by tables (Some by) (cmd.Ask question parted) s built = and_from (is_client by) (is_read question) (and_parts (is_client by) _ s).0 built
run-by tables None (cmd.Settle ask) s built = absurd (false≢true s)
run-by tables (Some by) (cmd.Settle ask) s built = (and_parts (is_client by) _ s).0
run-by tables None cmd.Seal s built = absurd (false≢true s)
run-by tables (Some by) cmd.Seal s built = s
run-by tables None (cmd.Work ask) s built = absurd (false≢true s)
run-by tables (Some by) (cmd.Work ask) s built = (and_parts (is_db by) _ s).0
run-by tables by _ s built = absurd (false≢true built)

-- the lines of a script can be run where each is built
pub lines-run : (last : ℕ) (tables : List TableOps) (lines : List Line) → are_lines last tables lines ≡ true → first_unbuilt lines ≡ None → list_all is_run lines ≡ true
lines-run last tables [] h none = refl
lines-run last tables (line ∷ lines) h none =
    let parts = and_parts (ltb last line.number && suits tables line.by line.cmd) (are_lines line.number (tables_below tables line.cmd) lines) h in
    let suited = (and_parts (ltb last line.number) (suits tables line.by line.cmd) parts.0).1 in
    by (is_built line.cmd) refl suited none (lines-run line.number (tables_below tables line.cmd) lines parts.1)
  where
    by : (t : Bool) → is_built line.cmd ≡ t → suits tables line.by line.cmd ≡ true → option_map (λ (l : Line). l.number) (cond (not t) (Some line) (find (λ l. not (is_built l.cmd)) lines)) ≡ None → (first_unbuilt lines ≡ None → list_all is_run lines ≡ true) → (may_run line.by line.cmd && list_all is_run lines) ≡ true
    by true built suited none others = and_from _ _ (run-by tables line.by line.cmd suited built) (others none)
    by false built suited none others = absurd (cc)

-- ---- a commit keeps the limits of a batch

short-value : (op : Op) → is_value_of op ≡ true → value_len op ≤ MAX_VALUE
short-value (op.Set key value) h = leb-true (length value) MAX_VALUE h
short-value (op.Del key) h = omega arith
short-value (op.DelSpan range) h = omega arith

sum-cons : (op : Op) (ops : List Op) → sum (map op_len (op ∷ ops)) ≡ op_len op + sum (map op_len ops)
sum-cons op ops = sum-map op_len (op ∷ ops) ∙ sum_by-cons op_len op ops ∙ sym (ap (λ n. op_len op + n) (sum-map op_len ops))

none-of-three : {A : Type 0} (x y z : A) (p q r : Bool) → p ≡ false → q ≡ false → r ≡ false → cond p (Some x) (cond q (Some y) (cond r (Some z) None)) ≡ None
none-of-three x y z false false false e f g = refl
none-of-three x y z true q r e f g = absurd (false≢true (sym e))
none-of-three x y z false true r e f g = absurd (false≢true (sym f))
none-of-three x y z false false true e f g = absurd (false≢true (sym g))

none-refused : (count len : ℕ) (ops : List Op) → count + length ops ≤ 4096 → len + sum (map op_len ops) ≤ 1048576 → list_all is_value_of ops ≡ true → first_refusal count len ops ≡ None
none-refused count len [] few short values = refl
none-refused count len (op ∷ ops) few short values =
    let parts = and_parts (is_value_of op) (list_all is_value_of ops) values in
    let value : value_len op ≤ MAX_VALUE = short-value op parts.0 in
    let fits : ltb MAX_VALUE (value_len op) ≡ false = le-ltb MAX_VALUE (value_len op) value in
    let bytes_of : sum (map op_len (op ∷ ops)) ≡ op_len op + sum (map op_len ops) = sum-cons op ops in
    let room : leb 4096 count ≡ false = lt-leb 4096 count (omega arith) in
    let bytes : ltb 1048576 (len + op_len op) ≡ false = le-ltb 1048576 (len + op_len op) (omega arith) in
    ap (λ o. option_or o (first_refusal (count + 1) (len + op_len op) ops)) (none-of-three (ValueTooLong (value_len op)) TooMany TooLong (ltb MAX_VALUE (value_len op)) (leb 4096 count) (ltb 1048576 (len + op_len op)) fits room bytes)
    ∙ none-refused (count + 1) (len + op_len op) ops (omega arith) (omega arith) parts.1

pub batch-fits : (ops : List Op) → are_batch ops ≡ true → refusal_of ops ≡ None
batch-fits ops h =
    let all = and_parts (leb 1 (length ops) && leb (length ops) 4096 && leb (batch_len ops) 1048576) (list_all is_value_of ops) h in
    let most = and_parts (leb 1 (length ops) && leb (length ops) 4096) (leb (batch_len ops) 1048576) all.0 in
    let count = and_parts (leb 1 (length ops)) (leb (length ops) 4096) most.0 in
    let few : length ops ≤ 4096 = leb-true (length ops) 4096 count.1 in
    let short : batch_len ops ≤ 1048576 = leb-true (batch_len ops) 1048576 most.1 in
    none-refused 0 (batch_len []) ops (omega arith) (omega arith) all.1

-- operations of a script are never refused
pub accepted : {A : Type 0} (ops given : List Op) (made : Result A BatchNo) (cause : BatchNo) → given ≡ ops → are_batch ops ≡ true → IfNone (refusal_of given) (IsOk made) → made ≡ Err cause → ⊥
accepted ops given made cause is fits ok e =
    let is_ok : IsOk made = subst (λ o. IfNone o (IsOk made)) (ap refusal_of is ∙ batch-fits ops fits) ok in
    false≢true (subst IsOk e is_ok)
