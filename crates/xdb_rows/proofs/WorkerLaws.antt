-- Runs by workers of closed lines and notes, from facts that compute.
use Rattle.std.proofs.Common.{◌≡◌, ℕ, zero, suc, ◌-◌, ◌≤◌, Bool, true, false, List, [], ◌∷◌, ◌++◌, length, take, drop, filter, IsTrue, refl, sym, ap, ◌∙◌, subst, arith, inl, inr, le_of_suc-le-suc, eq-or-lt_of_le, length-append, add-sub_cancel}
use Rattle.std.proofs.lemmas.Bool.{false≢true}
use Rattle.std.proofs.Math.Seq.{take-append_seam}
use Rattle.std.specs.List.{list_all}
use Rattle.xdb_plain.specs.Answers.{first_of}
use Rattle.xdb_plain.specs.Counts.{dead}
use Rattle.xdb_plain.specs.Legal.{after_all}
use Rattle.xdb_plain.specs.State.{Plain, opening}
use Rattle.xdb_plain.specs.Workers.{AreClientBlocks, lines_by, notes_by, is_due_reply, IsQuiet, ends_failed, is_wait, is_failure, IsThreadsOf, tables_over, IsUnderWay, HasCome}
use Rattle.xdb_plain.specs.declared.act.By.TheVariants.{Client}
use Rattle.xdb_plain.specs.declared.note.Note.{Note}
use Rattle.xdb_plain.specs.declared.script.Line.{Line}
use Rattle.xdb_rows.specs.Judged.{RunCase, run, no_run, IsHistoryOf, IsThreadsCase, AreThreadsCases}
use Rattle.xdb_rows.specs.Tables.Workers.{Come, come, not_come, IsCome, AreCome}

-- it is so of the numbers from a limit down to 1
abbrev pub DownFrom : ℕ → (ℕ → Type 0) → Type 0
DownFrom zero P = Unit {0}
DownFrom (suc n) P = P (suc n) × DownFrom n P

each-down : (limit : ℕ) (P : ℕ → Type 0) → DownFrom limit P → (n : ℕ) → 1 ≤ n → n ≤ limit → P n
each-down zero P all n low high = absurd (omega arith)
each-down (suc limit) P all n low high = elim (eq-or-lt_of_le high) [
  | inl e ↦ subst P (sym e) all.0
  | inr less ↦ each-down limit P all.1 n low (le_of_suc-le-suc less)
]

down-each : (limit : ℕ) (P : ℕ → Type 0) → ((n : ℕ) → 1 ≤ n → n ≤ limit → P n) → DownFrom limit P
down-each zero P each = tt
down-each (suc limit) P each = (each (suc limit) (omega arith) (omega arith), down-each limit P (λ n low high. each n low (omega arith)))

abbrev pub QuietUnless : Bool → Plain → Type 0
QuietUnless true p = Unit {0}
QuietUnless false p = IsQuiet p

to-quiet : (failed : Bool) (p : Plain) → QuietUnless failed p → failed ≡ false → IsQuiet p
to-quiet true p q e = absurd (false≢true (sym e))
to-quiet false p q e = q

from-quiet : (failed : Bool) (p : Plain) → (failed ≡ false → IsQuiet p) → QuietUnless failed p
from-quiet true p q = tt
from-quiet false p q = q refl

abbrev pub Blocks : List Line → List Note → ℕ → Type 0
Blocks lines notes client = AreClientBlocks [] (lines_by (Client client) lines) (notes_by (Client client) notes)

-- a run by workers, client by client, and quiet or not
pub record IsClosedThreads (first_seq first_file : ℕ) (lines : List Line) (notes : List Note) : Type 0 where
  pub clients : DownFrom 16 (Blocks lines notes)
  pub clean : dead (after_all (opening first_seq first_file) notes) ≡ []
  pub due_replies : IsTrue (list_all is_due_reply notes)
  pub quiet : QuietUnless (ends_failed notes) (after_all (opening first_seq first_file) notes)
  pub few_waits : length (filter (λ note. is_wait note.act note.reply) notes) ≤ length (filter (λ note. is_failure note.reply) notes)

pub to-threads : (first_seq first_file : ℕ) (lines : List Line) (notes : List Note)
    → IsClosedThreads first_seq first_file lines notes → IsThreadsOf first_seq first_file lines notes
to-threads first_seq first_file lines notes h = record {
  clients = each-down 16 (Blocks lines notes) h.clients;
  clean = h.clean;
  due_replies = h.due_replies;
  quiet = to-quiet (ends_failed notes) (after_all (opening first_seq first_file) notes) h.quiet;
  few_waits = h.few_waits;
}

pub from-threads : (first_seq first_file : ℕ) (lines : List Line) (notes : List Note)
    → IsThreadsOf first_seq first_file lines notes → IsClosedThreads first_seq first_file lines notes
from-threads first_seq first_file lines notes h = record {
  clients = down-each 16 (Blocks lines notes) h.clients;
  clean = h.clean;
  due_replies = h.due_replies;
  quiet = from-quiet (ends_failed notes) (after_all (opening first_seq first_file) notes) h.quiet;
  few_waits = h.few_waits;
}

abbrev pub IsClosedCase : RunCase → Type 0
IsClosedCase (run lines notes) = IsHistoryOf lines notes × IsClosedThreads 1 1 lines notes
IsClosedCase (no_run lines notes) = IsHistoryOf lines notes × (IsClosedThreads 1 1 lines notes → ⊥)

abbrev pub AreClosedCases : List RunCase → Type 0
AreClosedCases [] = Unit {0}
AreClosedCases (c ∷ cs) = IsClosedCase c × AreClosedCases cs

threads-case : (c : RunCase) → IsClosedCase c → IsThreadsCase c
threads-case (run lines notes) h = (h.0, to-threads 1 1 lines notes h.1)
threads-case (no_run lines notes) h = (h.0, λ t. h.1 (from-threads 1 1 lines notes t))

pub threads-cases : (cs : List RunCase) → AreClosedCases cs → AreThreadsCases cs
threads-cases [] h = tt
threads-cases (c ∷ cs) h = (threads-case c h.0, threads-cases cs h.1)

-- what stands before what is under way
abbrev pub done_of : List Note → List Note → List Note
done_of begun notes = take (length notes - length begun) notes

done-of : (blocks begun notes : List Note) → notes ≡ blocks ++ begun → blocks ≡ done_of begun notes
done-of blocks begun notes e =
    let len : length notes - length begun ≡ length blocks = ap (λ ns. length ns - length begun) e ∙ ap (λ n. n - length begun) (length-append blocks begun) ∙ add-sub_cancel (length blocks) (length begun) in
    sym (ap (λ n. take n notes) len ∙ ap (take (length blocks)) e ∙ take-append_seam blocks begun)

-- how far a client has come, from facts that compute
pub record HasComeClosed (lines : List Line) (done : ℕ) (begun notes : List Note) : Type 0 where
  pub whole : notes ≡ done_of begun notes ++ begun
  pub within : done ≤ length lines
  pub are_done : AreClientBlocks [] (take done lines) (done_of begun notes)
  pub under_way : IsUnderWay (tables_over [] (take done lines)) (first_of (drop done lines)) begun

to-come : (lines : List Line) (done : ℕ) (begun notes : List Note) → HasComeClosed lines done begun notes → HasCome lines done begun notes
to-come lines done begun notes h =
    record { blocks = done_of begun notes; whole = h.whole; within = h.within; are_done = h.are_done; under_way = h.under_way }

from-come : (lines : List Line) (done : ℕ) (begun notes : List Note) → HasCome lines done begun notes → HasComeClosed lines done begun notes
from-come lines done begun notes h = record {
  whole = subst (λ blocks. notes ≡ blocks ++ begun) (done-of h.blocks begun notes h.whole) h.whole;
  within = h.within;
  are_done = subst (AreClientBlocks [] (take done lines)) (done-of h.blocks begun notes h.whole) h.are_done;
  under_way = h.under_way;
}

abbrev pub IsComeClosed : Come → Type 0
IsComeClosed (come p) = HasComeClosed p.lines p.done p.begun p.notes
IsComeClosed (not_come p) = HasComeClosed p.lines p.done p.begun p.notes → ⊥

abbrev pub AreComeClosed : List Come → Type 0
AreComeClosed [] = Unit {0}
AreComeClosed (c ∷ cs) = IsComeClosed c × AreComeClosed cs

come-case : (c : Come) → IsComeClosed c → IsCome c
come-case (come p) h = to-come p.lines p.done p.begun p.notes h
come-case (not_come p) h = λ t. h (from-come p.lines p.done p.begun p.notes t)

pub come-cases : (cs : List Come) → AreComeClosed cs → AreCome cs
come-cases [] h = tt
come-cases (c ∷ cs) h = (come-case c h.0, come-cases cs h.1)
