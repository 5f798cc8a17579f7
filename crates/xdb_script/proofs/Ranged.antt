-- What is read in parts, and tested at its end.
use Rattle.std.proofs.Common.{◌≡◌, ℕ, ◌<◌, Bool, true, false, cond, not, List, [], ◌∷◌, length, Option, Result, Ok, Err, refl, arith}
use Rattle.std.specs.List.{list_all, flat_map}
use Rattle.xdb_key.specs.Bounds.{Bounds}
use Rattle.xdb_key.specs.Reading.{◌>>=◌}
use Rattle.xdb_key.specs.declared.op.Op.{Op}
use Rattle.xdb_plain.specs.declared.act.CommitForm.{CommitForm}
use Rattle.xdb_plain.specs.declared.question.Question.{Question}
use Rattle.xdb_plain.specs.declared.script.Cmd.TheVariants as cmd
use Rattle.xdb_script.specs.Answers.{ranged, rises}
use Rattle.xdb_script.specs.Reading.{ask_read, scan_read}
use Rattle.xdb_script.specs.Rules.{ranges, question_ranges, op_ranges}
use Rattle.xdb_script.specs.declared.error.Why.{Why}
use Rattle.xdb_script.specs.declared.error.Why.TheVariants as why

asked-by : (q : Question) (parted : Bool) (t : Bool) → cond (not t) (Err why.Range) (Ok (cmd.Ask q parted)) ≡ (cond (not t) (Err why.Range) (Ok q) >>= λ x. Ok (cmd.Ask x parted))
asked-by q parted true = refl
asked-by q parted false = refl

-- the ranges of a command that asks are those of its question
pub asked : (read : Result Question Why) (parted : Bool) → ranged ranges (ask_read read parted) ≡ ask_read (ranged question_ranges read) parted
asked (Err d) parted = refl
asked (Ok q) parted = asked-by q parted (list_all rises (question_ranges q))

-- a scan has a range and a number
pub scan_short : (make : Bounds → ℕ → Option (List ℕ) → Question) (words : List (List ℕ)) → length words < 3 → scan_read make words ≡ Err why.Shape
scan_short make [] h = refl
scan_short make (lo ∷ []) h = refl
scan_short make (lo ∷ hi ∷ []) h = refl
scan_short make (lo ∷ hi ∷ most ∷ words) h = absurd (omega arith)

made-by : {A B : Type 0} (make : A → B) (a : A) (t : Bool) → cond (not t) (Err why.Range) (Ok (make a)) ≡ (cond (not t) (Err why.Range) (Ok a) >>= λ x. Ok (make x))
made-by make a true = refl
made-by make a false = refl

-- the ranges of a commit are those of its operations
pub committed : (read : Result (List Op) Why) (form : CommitForm) → ranged ranges (read >>= λ ops. Ok (cmd.Commit form ops)) ≡ (ranged (λ ops. flat_map op_ranges ops) read >>= λ ops. Ok (cmd.Commit form ops))
committed (Err d) form = refl
committed (Ok ops) form = made-by (λ x. cmd.Commit form x) ops (list_all rises (flat_map op_ranges ops))

-- the ranges of a snapshot
pub snapped : (read : Result (List Bounds) Why) (name : List ℕ) → ranged ranges (read >>= λ rs. Ok (cmd.Snap name rs)) ≡ (ranged (λ rs. rs) read >>= λ rs. Ok (cmd.Snap name rs))
snapped (Err d) name = refl
snapped (Ok rs) name = made-by (λ x. cmd.Snap name x) rs (list_all rises rs)
