-- What is generated is a script: each line suits, and none defines a table.
use Rattle.std.proofs.Common.{◌≡◌, ℕ, zero, suc, ◌+◌, ◌-◌, ◌^◌, ◌<◌, ◌≤◌, Bool, true, false, cond, eqb, leb, ltb, List, [], ◌∷◌, ◌++◌, length, map, refl, sym, ap, subst, ◌∙◌, add-one, add-zero, add-suc, append_assoc, arith}
use Rattle.std.specs.List.{AllByRecursion, list_all}
use Rattle.std.specs.Prelude.{sum}
use Rattle.std.proofs.lemmas.Bool.{and_from, le-leb, lt-ltb, cond-true}
use Rattle.std.proofs.lemmas.Fmt.{length-decimal-le}
use Rattle.std.proofs.lemmas.List.{append-nil}
use Rattle.std.proofs.lemmas.List.Sums.{sum_by-cons}
use Rattle.xdb_key.specs.Ops.{op_len, batch_len}
use Rattle.xdb_key.specs.Varint.{varint_len}
use Rattle.xdb_key.specs.declared.op.Op.{Op}
use Rattle.xdb_key.specs.declared.op.Op.TheVariants as op
use Rattle.xdb_plain.specs.Scripts.{is_value_of, are_batch, suits, tables_below, are_lines, is_script}
use Rattle.xdb_plain.specs.declared.script.Cmd.{Cmd}
use Rattle.xdb_plain.specs.declared.script.Cmd.TheVariants as cmd
use Rattle.xdb_plain.specs.declared.script.Line.{Line}
use Rattle.xdb_gen.proofs.NumberLaws.{numbered-append}
use Rattle.xdb_gen.specs.Commands.{key_of, key_range, put_value, snap_name, put, del, del_span, get, scan, command_by}
use Rattle.xdb_gen.specs.Draws.{drawn, next_state}
use Rattle.xdb_gen.specs.Generated.{progress, generated}
use Rattle.xdb_gen.specs.Rules.{Progress, by_rule, rule_of, upkeep, loads, snapshots}
use Rattle.xdb_gen.specs.Said.{Said, client, numbered_from}
use Rattle.xdb_gen.specs.declared.rule.Rule.{Rule}
use Rattle.xdb_gen.specs.declared.rule.Rule.TheVariants.{Upkeep, Load, Snapshot, Command}

-- it may be said where no table is defined, and defines none
record Fits (s : Said) : Type 0 where
  suits : suits [] s.by s.cmd ≡ true
  tables : tables_below [] s.cmd ≡ []

fits-lines : (last : ℕ) (ss : List Said) → AllByRecursion Fits ss → are_lines last [] (numbered_from (last + 1) ss) ≡ true
fits-lines last [] h = refl
fits-lines last (s ∷ ss) h =
    and_from _ _ (and_from (ltb last (last + 1)) (suits [] s.by s.cmd) (lt-ltb last (last + 1) (omega arith)) h.0.suits)
    (ap (λ tables. are_lines (last + 1) tables (numbered_from (last + 1 + 1) ss)) h.0.tables ∙ fits-lines (last + 1) ss h.1)

all-append : {A : Type 0} (P : A → Type 0) (xs ys : List A) → AllByRecursion P xs → AllByRecursion P ys → AllByRecursion P (xs ++ ys)
all-append P [] ys h g = g
all-append P (x ∷ xs) ys h g = (h.0, all-append P xs ys h.1 g)

-- ---- what a command says

one-batch : (o : Op) → op_len o ≤ 1000 → is_value_of o ≡ true → are_batch (o ∷ []) ≡ true
one-batch o short value =
    let all : sum (map op_len (o ∷ [])) ≡ op_len o + sum [] = sum_by-cons (λ x. x) (op_len o) [] in
    and_from (leb (batch_len (o ∷ [])) 1048576) (list_all is_value_of (o ∷ [])) (le-leb (batch_len (o ∷ [])) 1048576 (omega arith)) (and_from (is_value_of o) true value refl)

short-value : (i : ℕ) → i < 2 ^ 32 → length (put_value i) ≤ 11
short-value i h = let short = length-decimal-le 10 i (omega arith) (omega arith) (omega arith) in omega arith

value-len : (i : ℕ) → i < 2 ^ 32 → varint_len (length (put_value i)) ≡ 1
value-len i h = let short = short-value i h in cond-true (ltb (length (put_value i)) (2 ^ 7)) 1 _ (lt-ltb (length (put_value i)) (2 ^ 7) (omega arith))

fits-put : (i a : ℕ) → i < 2 ^ 32 → Fits (client (put i a))
fits-put i a h =
    let short = short-value i h in
    let one = value-len i h in
    record {
      suits = one-batch (op.Set (key_of a) (put_value i)) (omega arith) (le-leb (length (put_value i)) 65536 (omega arith));
      tables = refl;
    }

fits-del : (a : ℕ) → Fits (client (del a))
fits-del a = record { suits = one-batch (op.Del (key_of a)) (omega arith) refl; tables = refl }

fits-del_span : (a : ℕ) → Fits (client (del_span a))
fits-del_span a = record { suits = one-batch (op.DelSpan (key_range a (a + 5))) (omega arith) refl; tables = refl }

fits-get : (a : ℕ) → Fits (client (get a))
fits-get a = record { suits = refl; tables = refl }

fits-scan : (a : ℕ) → Fits (client (scan a))
fits-scan a = record { suits = refl; tables = refl }

fits-cond : (b : Bool) (x y : Cmd) → Fits (client x) → Fits (client y) → Fits (client (cond b x y))
fits-cond true x y h g = h
fits-cond false x y h g = g

fits-command : (c i a : ℕ) → i < 2 ^ 32 → Fits (client (command_by c i a))
fits-command c i a h =
    fits-cond (ltb c 5) (put i a) _ (fits-put i a h) (
    fits-cond (eqb c 5) (del a) _ (fits-del a) (
    fits-cond (eqb c 6) (del_span a) _ (fits-del_span a) (
    fits-cond (ltb c 9) (get a) (scan a) (fits-get a) (fits-scan a))))

-- ---- what an operation says

fits-upkeep : AllByRecursion Fits upkeep
fits-upkeep = (record { suits = refl; tables = refl }, (record { suits = refl; tables = refl }, (record { suits = refl; tables = refl }, tt)))

fits-loads : (i a : ℕ) → AllByRecursion Fits (loads i a)
fits-loads i a =
    (record { suits = refl; tables = refl }, (record { suits = refl; tables = refl }, (record { suits = refl; tables = refl }, (record { suits = refl; tables = refl }, tt))))

fits-dropped : (b : Bool) (i : ℕ) (ss : List Said) → AllByRecursion Fits ss → AllByRecursion Fits (cond b [] (client (cmd.Drop (snap_name i)) ∷ []) ++ ss)
fits-dropped true i ss h = h
fits-dropped false i ss h = (record { suits = refl; tables = refl }, h)

fits-snapshots : (i : ℕ) → AllByRecursion Fits (snapshots i)
fits-snapshots i = fits-dropped (ltb i 1800) (i - 900) _ (record { suits = refl; tables = refl }, tt)

fits-rule : (r : Rule) (i : ℕ) (p : Progress) → i < 2 ^ 32 → AllByRecursion Fits p.said → AllByRecursion Fits (by_rule r i p).said
fits-rule Upkeep i p small h = all-append Fits p.said upkeep h fits-upkeep
fits-rule Load i p small h = all-append Fits p.said _ h (fits-loads i (drawn 1000 (next_state p.state)))
fits-rule Snapshot i p small h = all-append Fits p.said (snapshots i) h (fits-snapshots i)
fits-rule Command i p small h = all-append Fits p.said _ h (fits-command (drawn 10 (next_state p.state)) i (drawn 1000 (next_state (next_state p.state))) small, tt)

fits-progress : (n seed : ℕ) → n < 2 ^ 32 → AllByRecursion Fits (progress n seed).said
fits-progress zero seed h = tt
fits-progress (suc n) seed h = fits-rule (rule_of (suc n)) (suc n) (progress n seed) h (fits-progress n seed (omega arith))

pub generated-is_script : (ops seed : ℕ) → ops < 2 ^ 32 → is_script (generated ops seed) ≡ true
generated-is_script ops seed h = fits-lines 0 (progress ops seed).said (fits-progress ops seed h)

-- ---- one operation more

pub progress-next : (n seed : ℕ) → progress (n + 1) seed ≡ by_rule (rule_of (n + 1)) (n + 1) (progress n seed)
progress-next n seed = subst (λ m. progress m seed ≡ by_rule (rule_of m) m (progress n seed)) (sym (add-one n)) refl

pub progress-ended : (p : Progress) (n ops seed : ℕ) → p ≡ progress n seed → n ≡ ops → ops < 2 ^ 32 → is_script (numbered_from 1 p.said) ≡ true
progress-ended p n ops seed h same small =
    ap (λ (q : Progress). is_script (numbered_from 1 q.said)) (h ∙ ap (λ m. progress m seed) same) ∙ generated-is_script ops seed small

-- ---- more operations

added : (r : Rule) (i : ℕ) (p : Progress) → (more : List Said) × ((by_rule r i p).said ≡ p.said ++ more)
added Upkeep i p = (upkeep, refl)
added Load i p = (loads i (drawn 1000 (next_state p.state)), refl)
added Snapshot i p = (snapshots i, refl)
added Command i p = (client (command_by (drawn 10 (next_state p.state)) i (drawn 1000 (next_state (next_state p.state)))) ∷ [], refl)

progress-more : (more ops seed : ℕ) → (ss : List Said) × ((progress (ops + more) seed).said ≡ (progress ops seed).said ++ ss)
progress-more zero ops seed = ([], ap (λ n. (progress n seed).said) (add-zero ops) ∙ sym (append-nil (progress ops seed).said))
progress-more (suc more) ops seed =
    let before = progress-more more ops seed in
    let last = added (rule_of (suc (ops + more))) (suc (ops + more)) (progress (ops + more) seed) in (
      before.0 ++ last.0,
      ap (λ n. (progress n seed).said) (add-suc ops more) ∙ last.1 ∙ ap (λ ss. ss ++ last.0) before.1
          ∙ append_assoc (progress ops seed).said before.0 last.0,
    )

pub generated-more : (ops more seed : ℕ) → (lines : List Line) × (generated (ops + more) seed ≡ generated ops seed ++ lines)
generated-more ops more seed =
    let said = progress-more more ops seed in (
      numbered_from (1 + length (progress ops seed).said) said.0,
      ap (numbered_from 1) said.1 ∙ numbered-append 1 (progress ops seed).said said.0,
    )
