-- A run longer by one line, and its end.
use Rattle.std.proofs.Common.{◌≡◌, ℕ, ◌+◌, ◌≤◌, Bool, true, false, not, ◌&&◌, ◌||◌, cond, suc, List, [], ◌∷◌, ◌++◌, length, take, drop, Option, Some, None, is_some, refl, sym, ap, subst, ◌∙◌, arith, inl, inr, eqb, zero}
use Rattle.std.proofs.lemmas.Bool.{false≢true, true≢false, and_parts, not-true, not-false, eqb-true, eq-eqb, cond-true, cond-false}
use Rattle.std.proofs.lemmas.List.{take-append-le, drop-append-le, length-drop}
use Rattle.std.proofs.lemmas.List.Folds.{list_any-append}
use Rattle.std.proofs.Math.Seq.{take-length, drop-length, take-append_seam, drop-append_seam}
use Rattle.xdb_plain.specs.Changes.{after}
use Rattle.xdb_plain.specs.Counts.{dead, is_among}
use Rattle.xdb_plain.specs.Edits.{is_empty}
use Rattle.xdb_plain.specs.Legal.{after_all}
use Rattle.xdb_plain.specs.Printed.{is_asked, is_opening}
use Rattle.xdb_plain.specs.State.{Plain, opening, found_question, found_job}
use Rattle.xdb_plain.specs.Removals.{took}
use Rattle.xdb_plain.specs.Runs.{Run, first_run, job_waits, question_waits, is_no_such, IsOne, IsWaited, IsRead, IsParted, IsLoading, IsWork, is_started, IsWhole, is_remove, IsRemoval, IsDrainBehind, IsDrain, IsReaped, named, IsBlock, one_or_two, is_build_of, is_work_of, work_len, drain_len, block_len, built_by, worked_by, run_after, AreBlocks, run_over, blocks_len, IsRunOf}
use Rattle.xdb_plain.specs.declared.act.By.{By}
use Rattle.xdb_plain.specs.declared.act.Act.{Act}
use Rattle.xdb_plain.specs.declared.act.Act.TheVariants as act
use Rattle.xdb_plain.specs.declared.question.Question.{Question}
use Rattle.xdb_plain.specs.declared.note.Note.{Note}
use Rattle.xdb_plain.specs.declared.script.Cmd.{Cmd}
use Rattle.xdb_plain.specs.declared.script.Cmd.TheVariants as cmd
use Rattle.xdb_plain.specs.declared.script.Line.{Line}

-- a note that may begin what comes behind a run: no removal, and no failure of work that was delivered
record MayBegin (r : Run) (n : Note) : Type 0 where
  no_remove : is_remove n.act ≡ false
  built : (job : ℕ) → (is_build_of job n.act && not (is_no_such n.reply)) ≡ true → is_among job r.built ≡ false
  worked : (ask : ℕ) → (is_work_of ask n.act && not (is_no_such n.reply)) ≡ true → is_among ask r.worked ≡ false

abbrev Begins : Run → List Note → Type 0
Begins r [] = Unit {0}
Begins r (n ∷ ns) = MayBegin r n

plainly : (r : Run) (n : Note) (a : Act) → n.act ≡ a → is_remove a ≡ false → ((job : ℕ) → is_build_of job a ≡ false) → ((ask : ℕ) → is_work_of ask a ≡ false) → MayBegin r n
plainly r n a e f g h = record {
  no_remove = ap is_remove e ∙ f;
  built = λ job t. absurd (false≢true (sym (ap (is_build_of job) e ∙ g job) ∙ (and_parts (is_build_of job n.act) (not (is_no_such n.reply)) t).0));
  worked = λ ask t. absurd (false≢true (sym (ap (is_work_of ask) e ∙ h ask) ∙ (and_parts (is_work_of ask n.act) (not (is_no_such n.reply)) t).0));
}

-- work that is waited for wasn't delivered
undelivered : (found among no_such : Bool) → no_such ≡ not (found && not among) → not no_such ≡ true → among ≡ false
undelivered found among no_such e t =
    let waits : (found && not among) ≡ true = not-false (found && not among) (sym e ∙ not-true no_such t) in
    not-true among (and_parts found (not among) waits).1

build-begins : (r : Run) (n : Note) (job : ℕ) → n.act ≡ act.Build job → is_no_such n.reply ≡ not (job_waits r job) → MayBegin r n
build-begins r n job e w = record {
  no_remove = ap is_remove e;
  built = λ j t.
      let parts = and_parts (is_build_of j n.act) (not (is_no_such n.reply)) t in
      let same : job ≡ j = eqb-true job j (sym (ap (is_build_of j) e) ∙ parts.0) in
      subst (λ (i : ℕ). is_among i r.built ≡ false) same (undelivered (is_some (found_job job r.plain.jobs)) (is_among job r.built) (is_no_such n.reply) w parts.1);
  worked = λ ask t. absurd (false≢true (sym (ap (is_work_of ask) e) ∙ (and_parts (is_work_of ask n.act) (not (is_no_such n.reply)) t).0));
}

work-begins : (r : Run) (n : Note) (ask : ℕ) → n.act ≡ act.Work ask → is_no_such n.reply ≡ not (question_waits r ask) → MayBegin r n
work-begins r n ask e w = record {
  no_remove = ap is_remove e;
  built = λ job t. absurd (false≢true (sym (ap (is_build_of job) e) ∙ (and_parts (is_build_of job n.act) (not (is_no_such n.reply)) t).0));
  worked = λ j t.
      let parts = and_parts (is_work_of j n.act) (not (is_no_such n.reply)) t in
      let same : ask ≡ j = eqb-true ask j (sym (ap (is_work_of j) e) ∙ parts.0) in
      subst (λ (i : ℕ). is_among i r.worked ≡ false) same (undelivered (is_some (found_question ask r.plain.questions)) (is_among ask r.worked) (is_no_such n.reply) w parts.1);
}

-- the act of a block's first note
one-first : (by : By) (a : Act) (n : Note) (ns : List Note) → IsOne by a (n ∷ ns) → n.act ≡ a
one-first by a n [] b = b.same_act
one-first by a n (m ∷ ns) b = absurd b

waited-first : (by : By) (a : Act) (waits : Bool) (n : Note) (ns : List Note) → IsWaited by a waits (n ∷ ns) → n.act ≡ a
waited-first by a waits n [] b = b.0.same_act
waited-first by a waits n (m ∷ ns) b = absurd b

loading-first : (by : By) (a : Act) (n : Note) (ns : List Note) → IsLoading by a (n ∷ ns) → n.act ≡ a
loading-first by a n [] b = b.0.same_act
loading-first by a n (m ∷ []) b = b.0.same_act
loading-first by a n (m ∷ k ∷ ns) b = absurd b

whole-first : (by : By) (a : Act) (n : Note) (ns : List Note) → IsWhole by a (n ∷ ns) → n.act ≡ a
whole-first by a n [] b = b.0.same_act
whole-first by a n (m ∷ []) b = b.0.same_act
whole-first by a n (m ∷ k ∷ ns) b = absurd b

read-begins : (r : Run) (by : By) (question : Question) (n : Note) (ns : List Note) → IsRead by question (n ∷ ns) → MayBegin r n
read-begins r by question n [] b = plainly r n (act.Ask b.0 question false) b.1.same_act refl (λ job. refl) (λ ask. refl)
read-begins r by question n (m ∷ []) b = plainly r n (act.Ask b.0 question false) b.1.same_act refl (λ job. refl) (λ ask. refl)
read-begins r by question n (m ∷ k ∷ ns) b = absurd b

parted-begins : (r : Run) (by : By) (question : Question) (n : Note) (ns : List Note) → IsParted by question (n ∷ ns) → MayBegin r n
parted-begins r by question n [] b = plainly r n (act.Ask b.0 question true) b.1.same_act refl (λ job. refl) (λ ask. refl)
parted-begins r by question n (m ∷ ns) b = absurd b

reap-act-begins : (r : Run) (n : Note) → n.act ≡ act.Reap → MayBegin r n
reap-act-begins r n e = plainly r n act.Reap e refl (λ job. refl) (λ ask. refl)

drain-begins : (r : Run) (p : Plain) (n : Note) (ns : List Note) → IsDrain p (n ∷ ns) → MayBegin r n
drain-begins r p n ns (inl b) = absurd b.0
drain-begins r p n ns (inr b) = reap-act-begins r n b.0.0.same_act

reap-begins : (r : Run) (p : Plain) (ds : List ℕ) (by : By) (n : Note) (ns : List Note) → IsReaped p ds (n ∷ ns) → MayBegin r n
reap-begins r p [] by n [] b = reap-act-begins r n b.same_act
reap-begins r p [] by n (m ∷ ns) b = absurd b
reap-begins r p (d ∷ ds) by n ns b = drain-begins r p n ns b

build-block-begins : (r : Run) (by : By) (job : ℕ) (n : Note) (ns : List Note) → IsWork by (act.Build job) (job_waits r job) (n ∷ ns) → MayBegin r n
build-block-begins r by job n [] b = build-begins r n job b.0.same_act b.1
build-block-begins r by job n (m ∷ ns) b = absurd b

work-block-begins : (r : Run) (by : By) (ask : ℕ) (n : Note) (ns : List Note) → IsWork by (act.Work ask) (question_waits r ask) (n ∷ ns) → MayBegin r n
work-block-begins r by ask n [] b = work-begins r n ask b.0.same_act b.1
work-block-begins r by ask n (m ∷ ns) b = absurd b

no-note : (n : Note) (ns : List Note) → (n ∷ ns) ≡ [] → ⊥
no-note n ns e = cc

-- the first note of a block may begin
note-begins : (r : Run) (by : Option By) (c : Cmd) (n : Note) (ns : List Note) → IsBlock r by c (n ∷ ns) → MayBegin r n
note-begins r None c n ns b = absurd (no-note n ns b)
note-begins r (Some by) (cmd.Table table) n ns b = absurd (no-note n ns b)
note-begins r (Some by) (cmd.Commit form ops) n ns b = plainly r n (act.Commit form ops) (one-first by (act.Commit form ops) n ns b) refl (λ job. refl) (λ ask. refl)
note-begins r (Some by) (cmd.Ask question true) n ns b = parted-begins r by question n ns b
note-begins r (Some by) (cmd.Ask question false) n ns b = read-begins r by question n ns b
note-begins r (Some by) (cmd.Settle ask) n ns b = plainly r n (act.Settle ask) (waited-first by (act.Settle ask) (question_waits r ask) n ns b) refl (λ job. refl) (λ ask. refl)
note-begins r (Some by) (cmd.Snap name ranges) n ns b = plainly r n (act.Snap name ranges) (one-first by (act.Snap name ranges) n ns b) refl (λ job. refl) (λ ask. refl)
note-begins r (Some by) (cmd.Drop name) n ns b = plainly r n (act.Drop name) (one-first by (act.Drop name) n ns b) refl (λ job. refl) (λ ask. refl)
note-begins r (Some by) (cmd.Status name form) n ns b = plainly r n (act.Status name form) (one-first by (act.Status name form) n ns b) refl (λ job. refl) (λ ask. refl)
note-begins r (Some by) (cmd.Cursor name range at) n ns b = plainly r n (act.Cursor name range at) (one-first by (act.Cursor name range at) n ns b) refl (λ job. refl) (λ ask. refl)
note-begins r (Some by) (cmd.Shut name) n ns b = plainly r n (act.Shut name) (one-first by (act.Shut name) n ns b) refl (λ job. refl) (λ ask. refl)
note-begins r (Some by) (cmd.Load load names span) n ns b = plainly r n (act.LoadOpen load (named names r.tables) span) (loading-first by (act.LoadOpen load (named names r.tables) span) n ns b) refl (λ job. refl) (λ ask. refl)
note-begins r (Some by) (cmd.Install load) n ns b = plainly r n (act.Install load) (one-first by (act.Install load) n ns b) refl (λ job. refl) (λ ask. refl)
note-begins r (Some by) cmd.Seal n ns b = plainly r n act.Seal (one-first by act.Seal n ns b) refl (λ job. refl) (λ ask. refl)
note-begins r (Some by) cmd.FlushTake n ns b = plainly r n act.FlushTake (one-first by act.FlushTake n ns b) refl (λ job. refl) (λ ask. refl)
note-begins r (Some by) (cmd.Put job) n ns b = plainly r n (act.Put job) (waited-first by (act.Put job) (job_waits r job) n ns b) refl (λ job. refl) (λ ask. refl)
note-begins r (Some by) (cmd.CompactTake which) n ns b = plainly r n (act.CompactTake which) (one-first by (act.CompactTake which) n ns b) refl (λ job. refl) (λ ask. refl)
note-begins r (Some by) (cmd.Build job) n ns b = build-block-begins r by job n ns b
note-begins r (Some by) (cmd.Work ask) n ns b = work-block-begins r by ask n ns b
note-begins r (Some by) cmd.Flush n ns b = plainly r n act.FlushTake (whole-first by act.FlushTake n ns b) refl (λ job. refl) (λ ask. refl)
note-begins r (Some by) (cmd.Compact which) n ns b = plainly r n (act.CompactTake which) (whole-first by (act.CompactTake which) n ns b) refl (λ job. refl) (λ ask. refl)
note-begins r (Some by) cmd.Reap n ns b = reap-begins r r.plain (dead r.plain) by n ns b
note-begins r (Some by) (cmd.Show what) n ns b = plainly r n (act.Show what) (one-first by (act.Show what) n ns b) refl (λ job. refl) (λ ask. refl)

block-begins : (r : Run) (by : Option By) (c : Cmd) (notes : List Note) → IsBlock r by c notes → Begins r notes
block-begins r by c [] b = tt
block-begins r by c (n ∷ ns) b = note-begins r by c n ns b

-- what was delivered stays delivered
or-left : (x y : Bool) → (x || y) ≡ false → x ≡ false
or-left true y e = e
or-left false y e = refl

or-right : (x y : Bool) → y ≡ true → (x || y) ≡ true
or-right true y e = refl
or-right false y e = e

among-less : (n : ℕ) (xs ys : List ℕ) → is_among n (xs ++ ys) ≡ false → is_among n xs ≡ false
among-less n xs ys e = or-left (is_among n xs) (is_among n ys) (sym (list_any-append (λ m. eqb m n) xs ys) ∙ e)

among-last : (n : ℕ) (xs : List ℕ) → is_among n (xs ++ n ∷ []) ≡ true
among-last n [] = ap (λ t. t || false) (eq-eqb n n refl)
among-last n (x ∷ xs) = or-right (eqb x n) (is_among n (xs ++ n ∷ [])) (among-last n xs)

begins-back : (r : Run) (c : Cmd) (block more : List Note) → Begins (run_after r c block) more → Begins r more
begins-back r c block [] m = tt
begins-back r c block (n ∷ ns) m = record {
  no_remove = m.no_remove;
  built = λ job t. among-less job r.built (built_by c block) (m.built job t);
  worked = λ ask t. among-less ask r.worked (worked_by c block) (m.worked ask t);
}

begins-back_all : (r : Run) (lines : List Line) (notes more : List Note) → Begins (run_over r lines notes) more → Begins r more
begins-back_all r [] notes more m = m
begins-back_all r (line ∷ lines) notes more m =
    let len = block_len r line.by line.cmd notes in
    begins-back r line.cmd (take len notes) more (begins-back_all (run_after r line.cmd (take len notes)) lines (drop len notes) more m)

-- a block is as long as it looks
one-whole : (by : By) (a : Act) (notes : List Note) → IsOne by a notes → 1 ≡ length notes
one-whole by a [] b = absurd b
one-whole by a (n ∷ []) b = refl
one-whole by a (n ∷ m ∷ notes) b = absurd b

waited-whole : (by : By) (a : Act) (waits : Bool) (notes : List Note) → IsWaited by a waits notes → 1 ≡ length notes
waited-whole by a waits [] b = absurd b
waited-whole by a waits (n ∷ []) b = refl
waited-whole by a waits (n ∷ m ∷ notes) b = absurd b

parted-whole : (by : By) (question : Question) (notes : List Note) → IsParted by question notes → 1 ≡ length notes
parted-whole by question [] b = absurd b
parted-whole by question (n ∷ []) b = refl
parted-whole by question (n ∷ m ∷ notes) b = absurd b

read-whole : (by : By) (question : Question) (notes : List Note) → IsRead by question notes → one_or_two is_asked notes ≡ length notes
read-whole by question [] b = absurd b
read-whole by question (n ∷ []) b = ap (λ t. cond t 2 1) b.2
read-whole by question (n ∷ m ∷ []) b = ap (λ t. cond (is_asked t) 2 1) b.2
read-whole by question (n ∷ m ∷ k ∷ notes) b = absurd b

loading-whole : (by : By) (a : Act) (notes : List Note) → IsLoading by a notes → one_or_two is_opening notes ≡ length notes
loading-whole by a [] b = absurd b
loading-whole by a (n ∷ []) b = ap (λ t. cond t 2 1) b.1
loading-whole by a (n ∷ m ∷ []) b = ap (λ t. cond (is_opening t) 2 1) b.1
loading-whole by a (n ∷ m ∷ k ∷ notes) b = absurd b

whole-whole : (by : By) (a : Act) (notes : List Note) → IsWhole by a notes → one_or_two is_started notes ≡ length notes
whole-whole by a [] b = absurd b
whole-whole by a (n ∷ []) b = ap (λ t. cond t 2 1) b.1
whole-whole by a (n ∷ m ∷ []) b = ap (λ t. cond (is_started t) 2 1) b.1.1
whole-whole by a (n ∷ m ∷ k ∷ notes) b = absurd b

abbrev none_or_one : Bool → ℕ
none_or_one t = cond t 0 1

work-one : (waits of_work no_such : Bool) → of_work ≡ true → no_such ≡ not waits → none_or_one (waits && not (of_work && not no_such)) ≡ 1
work-one false of_work no_such e w = refl
work-one true of_work no_such e w = ap (λ t. none_or_one (not (t && not no_such))) e ∙ ap (λ t. none_or_one (not (not t))) w

work-whole : (by : By) (a : Act) (is_work : Act → Bool) (waits : Bool) (notes : List Note) → is_work a ≡ true → IsWork by a waits notes → work_len is_work waits notes ≡ length notes
work-whole by a is_work waits [] own b = ap (λ t. cond t 0 1) b
work-whole by a is_work waits (n ∷ []) own b = work-one waits (is_work n.act) (is_no_such n.reply) (ap is_work b.0.same_act ∙ own) b.1
work-whole by a is_work waits (n ∷ m ∷ notes) own b = absurd b

removal-act : (last : Option ℕ) (n : Note) → IsRemoval last n → is_remove n.act ≡ true
removal-act None n b = absurd b
removal-act (Some num) n b = ap is_remove b.same_act

one-add : (n : ℕ) → 1 + n ≡ suc n
one-add n = omega arith

drain-whole : (last : Option ℕ) (p : Plain) (notes : List Note) → IsDrainBehind last p notes → drain_len p notes ≡ length notes
drain-whole last p [] b = refl
drain-whole last p (n ∷ notes) (inl b) =
    cond-true (is_remove n.act) (1 + drain_len (after p n) notes) (cond (is_empty (dead p)) 0 (1 + drain_len (after p n) notes)) (removal-act last n b.0)
    ∙ one-add (drain_len (after p n) notes) ∙ ap suc (drain-whole None (after p n) notes b.1)
drain-whole last p (n ∷ notes) (inr b) =
    cond-false (is_remove n.act) (1 + drain_len (after p n) notes) (cond (is_empty (dead p)) 0 (1 + drain_len (after p n) notes)) (ap is_remove b.0.0.same_act)
    ∙ cond-false (is_empty (dead p)) 0 (1 + drain_len (after p n) notes) b.1
    ∙ one-add (drain_len (after p n) notes) ∙ ap suc (drain-whole (took n.reply) (after p n) notes b.2)

reap-whole : (by : By) (p : Plain) (ds : List ℕ) (notes : List Note) → IsReaped p ds notes → cond (is_empty ds) 1 (drain_len p notes) ≡ length notes
reap-whole by p [] [] b = absurd b
reap-whole by p [] (n ∷ []) b = refl
reap-whole by p [] (n ∷ m ∷ notes) b = absurd b
reap-whole by p (d ∷ ds) notes b = drain-whole None p notes b

nothing-whole : (notes : List Note) → notes ≡ [] → 0 ≡ length notes
nothing-whole notes e = sym (ap length e)

pub block-whole : (r : Run) (by : Option By) (c : Cmd) (notes : List Note) → IsBlock r by c notes → block_len r by c notes ≡ length notes
block-whole r None c notes b = nothing-whole notes b
block-whole r (Some by) (cmd.Table table) notes b = nothing-whole notes b
block-whole r (Some by) (cmd.Commit form ops) notes b = one-whole by (act.Commit form ops) notes b
block-whole r (Some by) (cmd.Ask question true) notes b = parted-whole by question notes b
block-whole r (Some by) (cmd.Ask question false) notes b = read-whole by question notes b
block-whole r (Some by) (cmd.Settle ask) notes b = waited-whole by (act.Settle ask) (question_waits r ask) notes b
block-whole r (Some by) (cmd.Snap name ranges) notes b = one-whole by (act.Snap name ranges) notes b
block-whole r (Some by) (cmd.Drop name) notes b = one-whole by (act.Drop name) notes b
block-whole r (Some by) (cmd.Status name form) notes b = one-whole by (act.Status name form) notes b
block-whole r (Some by) (cmd.Cursor name range at) notes b = one-whole by (act.Cursor name range at) notes b
block-whole r (Some by) (cmd.Shut name) notes b = one-whole by (act.Shut name) notes b
block-whole r (Some by) (cmd.Load load names span) notes b = loading-whole by (act.LoadOpen load (named names r.tables) span) notes b
block-whole r (Some by) (cmd.Install load) notes b = one-whole by (act.Install load) notes b
block-whole r (Some by) cmd.Seal notes b = one-whole by act.Seal notes b
block-whole r (Some by) cmd.FlushTake notes b = one-whole by act.FlushTake notes b
block-whole r (Some by) (cmd.Put job) notes b = waited-whole by (act.Put job) (job_waits r job) notes b
block-whole r (Some by) (cmd.CompactTake which) notes b = one-whole by (act.CompactTake which) notes b
block-whole r (Some by) (cmd.Build job) notes b = work-whole by (act.Build job) (is_build_of job) (job_waits r job) notes (eq-eqb job job refl) b
block-whole r (Some by) (cmd.Work ask) notes b = work-whole by (act.Work ask) (is_work_of ask) (question_waits r ask) notes (eq-eqb ask ask refl) b
block-whole r (Some by) cmd.Flush notes b = whole-whole by act.FlushTake notes b
block-whole r (Some by) (cmd.Compact which) notes b = whole-whole by (act.CompactTake which) notes b
block-whole r (Some by) cmd.Reap notes b = reap-whole by r.plain (dead r.plain) notes b
block-whole r (Some by) (cmd.Show what) notes b = one-whole by (act.Show what) notes b

-- a block's length, seen with more notes behind it
record Stays (len more whole : ℕ) : Type 0 where
  within : len ≤ whole
  same : more ≡ len

one-stays : (by : By) (a : Act) (notes : List Note) → IsOne by a (take 1 notes) → Stays 1 1 (length notes)
one-stays by a [] b = absurd b
one-stays by a (n ∷ notes) b = record { within = omega arith; same = refl }

waited-stays : (by : By) (a : Act) (waits : Bool) (notes : List Note) → IsWaited by a waits (take 1 notes) → Stays 1 1 (length notes)
waited-stays by a waits [] b = absurd b
waited-stays by a waits (n ∷ notes) b = record { within = omega arith; same = refl }

parted-stays : (by : By) (question : Question) (notes : List Note) → IsParted by question (take 1 notes) → Stays 1 1 (length notes)
parted-stays by question [] b = absurd b
parted-stays by question (n ∷ notes) b = record { within = omega arith; same = refl }

nothing-stays : (whole : ℕ) → Stays 0 0 whole
nothing-stays whole = record { within = omega arith; same = refl }

two-within : (t : Bool) (n : ℕ) → cond t 2 1 ≤ suc (suc n)
two-within true n = omega arith
two-within false n = omega arith

-- a single note that begins nothing
single-stays : (t : Bool) → t ≡ false → Stays (cond t 2 1) (cond t 2 1) 1
single-stays true e = absurd (true≢false e)
single-stays false e = record { within = omega arith; same = refl }

read-single : (by : By) (question : Question) (n : Note) (t : Bool) → IsRead by question (take (cond t 2 1) (n ∷ [])) → is_asked n.reply ≡ false
read-single by question n true b = b.2
read-single by question n false b = b.2

read-stays : (by : By) (question : Question) (notes more : List Note) → IsRead by question (take (one_or_two is_asked notes) notes) → Stays (one_or_two is_asked notes) (one_or_two is_asked (notes ++ more)) (length notes)
read-stays by question [] more b = absurd b
read-stays by question (n ∷ []) more b = single-stays (is_asked n.reply) (read-single by question n (is_asked n.reply) b)
read-stays by question (n ∷ m ∷ notes) more b = record { within = two-within (is_asked n.reply) (length notes); same = refl }

loading-single : (by : By) (a : Act) (n : Note) (t : Bool) → IsLoading by a (take (cond t 2 1) (n ∷ [])) → is_opening n.reply ≡ false
loading-single by a n true b = b.1
loading-single by a n false b = b.1

loading-stays : (by : By) (a : Act) (notes more : List Note) → IsLoading by a (take (one_or_two is_opening notes) notes) → Stays (one_or_two is_opening notes) (one_or_two is_opening (notes ++ more)) (length notes)
loading-stays by a [] more b = absurd b
loading-stays by a (n ∷ []) more b = single-stays (is_opening n.reply) (loading-single by a n (is_opening n.reply) b)
loading-stays by a (n ∷ m ∷ notes) more b = record { within = two-within (is_opening n.reply) (length notes); same = refl }

whole-single : (by : By) (a : Act) (n : Note) (t : Bool) → IsWhole by a (take (cond t 2 1) (n ∷ [])) → is_started n.reply ≡ false
whole-single by a n true b = b.1
whole-single by a n false b = b.1

whole-stays : (by : By) (a : Act) (notes more : List Note) → IsWhole by a (take (one_or_two is_started notes) notes) → Stays (one_or_two is_started notes) (one_or_two is_started (notes ++ more)) (length notes)
whole-stays by a [] more b = absurd b
whole-stays by a (n ∷ []) more b = single-stays (is_started n.reply) (whole-single by a n (is_started n.reply) b)
whole-stays by a (n ∷ m ∷ notes) more b = record { within = two-within (is_started n.reply) (length notes); same = refl }

-- the note behind isn't the failure of this work
abbrev Unworked : (Act → Bool) → List Note → Type 0
Unworked is_work [] = Unit {0}
Unworked is_work (n ∷ ns) = (is_work n.act && not (is_no_such n.reply)) ≡ false

neither : (t u : Bool) → (t ≡ true → u ≡ false) → u ≡ true → t ≡ false
neither true u f e = absurd (true≢false (sym e ∙ f refl))
neither false u f e = refl

unbuilt : (r : Run) (job : ℕ) (block more : List Note) → block ≡ [] → Begins (run_after r (cmd.Build job) block) more → Unworked (is_build_of job) more
unbuilt r job (k ∷ block) more e m = absurd (no-note k block e)
unbuilt r job [] [] e m = tt
unbuilt r job [] (n ∷ ns) e m = neither (is_build_of job n.act && not (is_no_such n.reply)) (is_among job (r.built ++ job ∷ [])) (m.built job) (among-last job r.built)

unworked : (r : Run) (ask : ℕ) (block more : List Note) → block ≡ [] → Begins (run_after r (cmd.Work ask) block) more → Unworked (is_work_of ask) more
unworked r ask (k ∷ block) more e m = absurd (no-note k block e)
unworked r ask [] [] e m = tt
unworked r ask [] (n ∷ ns) e m = neither (is_work_of ask n.act && not (is_no_such n.reply)) (is_among ask (r.worked ++ ask ∷ [])) (m.worked ask) (among-last ask r.worked)

take-none : (n : ℕ) → take {A = Note} n [] ≡ []
take-none zero = refl
take-none (suc n) = refl

work-at_end : (by : By) (a : Act) (is_work : Act → Bool) (waits : Bool) (more : List Note) → IsWork by a waits (take (cond waits 0 1) []) → Unworked is_work more → Stays (cond waits 0 1) (work_len is_work waits more) 0
work-at_end by a is_work false more b u = absurd (false≢true b)
work-at_end by a is_work true [] b u = nothing-stays 0
work-at_end by a is_work true (n ∷ ns) b u = record { within = omega arith; same = ap (λ t. cond (not t) 0 1) u }

one-within : (t : Bool) (n : ℕ) → cond t 0 1 ≤ suc n
one-within true n = omega arith
one-within false n = omega arith

-- what is behind begins with no removal
abbrev NoRemoval : List Note → Type 0
NoRemoval [] = Unit {0}
NoRemoval (n ∷ ns) = is_remove n.act ≡ false

no-removal : (r : Run) (more : List Note) → Begins r more → NoRemoval more
no-removal r [] m = tt
no-removal r (n ∷ ns) m = m.no_remove

-- the drain behind a note
drain-next : (last : Option ℕ) (p : Plain) (n : Note) (notes : List Note) → IsDrainBehind last p (n ∷ notes) → (next : Option ℕ) × IsDrainBehind next (after p n) notes
drain-next last p n notes (inl b) = (None, b.1)
drain-next last p n notes (inr b) = (took n.reply, b.2)

drain-more : (last : Option ℕ) (p : Plain) (n : Note) (notes : List Note) (len more whole : ℕ) → IsDrainBehind last p (take (1 + len) (n ∷ notes)) → ((next : Option ℕ) → IsDrainBehind next (after p n) (take len notes) → Stays len more whole) → Stays (1 + len) (1 + more) (suc whole)
drain-more last p n notes len more whole b rest =
    let next = drain-next last p n (take len notes) (subst (λ (k : ℕ). IsDrainBehind last p (take k (n ∷ notes))) (one-add len) b) in
    let stays = rest next.0 next.1 in
    let within : len ≤ whole = stays.within in
    record { within = omega arith; same = ap (λ (k : ℕ). 1 + k) stays.same }

drain-step : (last : Option ℕ) (p : Plain) (n : Note) (notes : List Note) (len more whole : ℕ) (t u : Bool) → IsDrainBehind last p (take (cond t (1 + len) (cond u 0 (1 + len))) (n ∷ notes)) → ((next : Option ℕ) → IsDrainBehind next (after p n) (take len notes) → Stays len more whole) → Stays (cond t (1 + len) (cond u 0 (1 + len))) (cond t (1 + more) (cond u 0 (1 + more))) (suc whole)
drain-step last p n notes len more whole true u b rest = drain-more last p n notes len more whole b rest
drain-step last p n notes len more whole false true b rest = nothing-stays (suc whole)
drain-step last p n notes len more whole false false b rest = drain-more last p n notes len more whole b rest

drain-at_end : (p : Plain) (more : List Note) → dead p ≡ [] → NoRemoval more → Stays 0 (drain_len p more) 0
drain-at_end p [] e no_remove = nothing-stays 0
drain-at_end p (n ∷ ns) e no_remove = record {
  within = omega arith;
  same = cond-false (is_remove n.act) (1 + drain_len (after p n) ns) (cond (is_empty (dead p)) 0 (1 + drain_len (after p n) ns)) no_remove ∙ ap (λ ds. cond (is_empty ds) 0 (1 + drain_len (after p n) ns)) e;
}

drain-stays : (last : Option ℕ) (p : Plain) (notes more : List Note) → IsDrainBehind last p (take (drain_len p notes) notes) → NoRemoval more → Stays (drain_len p notes) (drain_len p (notes ++ more)) (length notes)
drain-stays last p [] more b no_remove = drain-at_end p more b no_remove
drain-stays last p (n ∷ notes) more b no_remove =
    drain-step last p n notes (drain_len (after p n) notes) (drain_len (after p n) (notes ++ more)) (length notes) (is_remove n.act) (is_empty (dead p)) b (λ next rest. drain-stays next (after p n) notes more rest no_remove)

reap-stays : (p : Plain) (ds : List ℕ) (notes more : List Note) → IsReaped p ds (take (cond (is_empty ds) 1 (drain_len p notes)) notes) → NoRemoval more → Stays (cond (is_empty ds) 1 (drain_len p notes)) (cond (is_empty ds) 1 (drain_len p (notes ++ more))) (length notes)
reap-stays p [] [] more b no_remove = absurd b
reap-stays p [] (n ∷ notes) more b no_remove = record { within = omega arith; same = refl }
reap-stays p (d ∷ ds) notes more b no_remove = drain-stays None p notes more b no_remove

-- a block's length is seen from its own notes, where what is behind may begin there
block-stays : (r : Run) (by : Option By) (c : Cmd) (notes more : List Note) → IsBlock r by c (take (block_len r by c notes) notes) → Begins (run_after r c (take (block_len r by c notes) notes)) more → Stays (block_len r by c notes) (block_len r by c (notes ++ more)) (length notes)
block-stays r None c notes more b m = nothing-stays (length notes)
block-stays r (Some by) (cmd.Table table) notes more b m = nothing-stays (length notes)
block-stays r (Some by) (cmd.Commit form ops) notes more b m = one-stays by (act.Commit form ops) notes b
block-stays r (Some by) (cmd.Ask question true) notes more b m = parted-stays by question notes b
block-stays r (Some by) (cmd.Ask question false) notes more b m = read-stays by question notes more b
block-stays r (Some by) (cmd.Settle ask) notes more b m = waited-stays by (act.Settle ask) (question_waits r ask) notes b
block-stays r (Some by) (cmd.Snap name ranges) notes more b m = one-stays by (act.Snap name ranges) notes b
block-stays r (Some by) (cmd.Drop name) notes more b m = one-stays by (act.Drop name) notes b
block-stays r (Some by) (cmd.Status name form) notes more b m = one-stays by (act.Status name form) notes b
block-stays r (Some by) (cmd.Cursor name range at) notes more b m = one-stays by (act.Cursor name range at) notes b
block-stays r (Some by) (cmd.Shut name) notes more b m = one-stays by (act.Shut name) notes b
block-stays r (Some by) (cmd.Load load names span) notes more b m = loading-stays by (act.LoadOpen load (named names r.tables) span) notes more b
block-stays r (Some by) (cmd.Install load) notes more b m = one-stays by (act.Install load) notes b
block-stays r (Some by) cmd.Seal notes more b m = one-stays by act.Seal notes b
block-stays r (Some by) cmd.FlushTake notes more b m = one-stays by act.FlushTake notes b
block-stays r (Some by) (cmd.Put job) notes more b m = waited-stays by (act.Put job) (job_waits r job) notes b
block-stays r (Some by) (cmd.CompactTake which) notes more b m = one-stays by (act.CompactTake which) notes b
block-stays r (Some by) (cmd.Build job) [] more b m =
    work-at_end by (act.Build job) (is_build_of job) (job_waits r job) more b (unbuilt r job (take (cond (job_waits r job) 0 1) []) more (take-none (cond (job_waits r job) 0 1)) m)
block-stays r (Some by) (cmd.Build job) (n ∷ notes) more b m =
    record { within = one-within (job_waits r job && not (is_build_of job n.act && not (is_no_such n.reply))) (length notes); same = refl }
block-stays r (Some by) (cmd.Work ask) [] more b m =
    work-at_end by (act.Work ask) (is_work_of ask) (question_waits r ask) more b (unworked r ask (take (cond (question_waits r ask) 0 1) []) more (take-none (cond (question_waits r ask) 0 1)) m)
block-stays r (Some by) (cmd.Work ask) (n ∷ notes) more b m =
    record { within = one-within (question_waits r ask && not (is_work_of ask n.act && not (is_no_such n.reply))) (length notes); same = refl }
block-stays r (Some by) cmd.Flush notes more b m = whole-stays by act.FlushTake notes more b
block-stays r (Some by) (cmd.Compact which) notes more b m = whole-stays by (act.CompactTake which) notes more b
block-stays r (Some by) cmd.Reap notes more b m = reap-stays r.plain (dead r.plain) notes more b (no-removal (run_after r cmd.Reap (take (block_len r (Some by) cmd.Reap notes) notes)) more m)
block-stays r (Some by) (cmd.Show what) notes more b m = one-stays by (act.Show what) notes b

-- the first block, and what is behind it, with more notes at the end
record Front (r : Run) (line : Line) (notes more : List Note) : Type 0 where
  within : block_len r line.by line.cmd notes ≤ length notes
  len : block_len r line.by line.cmd (notes ++ more) ≡ block_len r line.by line.cmd notes
  block : take (block_len r line.by line.cmd (notes ++ more)) (notes ++ more) ≡ take (block_len r line.by line.cmd notes) notes
  rest : drop (block_len r line.by line.cmd (notes ++ more)) (notes ++ more) ≡ drop (block_len r line.by line.cmd notes) notes ++ more

front : (r : Run) (line : Line) (notes more : List Note) → IsBlock r line.by line.cmd (take (block_len r line.by line.cmd notes) notes) → Begins (run_after r line.cmd (take (block_len r line.by line.cmd notes) notes)) more → Front r line notes more
front r line notes more b m =
    let stays = block-stays r line.by line.cmd notes more b m in
    record {
      within = stays.within;
      len = stays.same;
      block = ap (λ (n : ℕ). take n (notes ++ more)) stays.same ∙ take-append-le (block_len r line.by line.cmd notes) notes more stays.within;
      rest = ap (λ (n : ℕ). drop n (notes ++ more)) stays.same ∙ drop-append-le (block_len r line.by line.cmd notes) notes more stays.within;
    }

pub blocks-push : (r : Run) (lines : List Line) (notes : List Note) (line : Line) (block : List Note) → AreBlocks r lines notes → IsBlock (run_over r lines notes) line.by line.cmd block → AreBlocks r (lines ++ line ∷ []) (notes ++ block)
blocks-push r [] notes line block a b =
    let whole = block-whole r line.by line.cmd block b in
    let all : notes ++ block ≡ block = ap (λ (ns : List Note). ns ++ block) a in
    let same : take (block_len r line.by line.cmd block) block ≡ block = ap (λ (n : ℕ). take n block) whole ∙ take-length block in
    let rest : drop (block_len r line.by line.cmd block) block ≡ [] = ap (λ (n : ℕ). drop n block) whole ∙ drop-length block in
    subst (λ (ns : List Note). AreBlocks r (line ∷ []) ns) (sym all) (subst (λ (ns : List Note). IsBlock r line.by line.cmd ns) (sym same) b, rest)
blocks-push r (l ∷ lines) notes line block a b =
    let len = block_len r l.by l.cmd notes in
    let next = run_after r l.cmd (take len notes) in
    let begins : Begins next block = begins-back_all next lines (drop len notes) block (block-begins (run_over r (l ∷ lines) notes) line.by line.cmd block b) in
    let f : Front r l notes block = front r l notes block a.0 begins in
    let more : AreBlocks next (lines ++ line ∷ []) (drop len notes ++ block) = blocks-push next lines (drop len notes) line block a.1 b in (
      subst (λ (ns : List Note). IsBlock r l.by l.cmd ns) (sym f.block) a.0,
      subst (λ (ns : List Note). AreBlocks (run_after r l.cmd ns) (lines ++ line ∷ []) (drop (block_len r l.by l.cmd (notes ++ block)) (notes ++ block))) (sym f.block)
          (subst (λ (ns : List Note). AreBlocks next (lines ++ line ∷ []) ns) (sym f.rest) more),
    )

pub behind-push : (r : Run) (lines : List Line) (notes : List Note) (line : Line) (block : List Note) → AreBlocks r lines notes → IsBlock (run_over r lines notes) line.by line.cmd block → run_over r (lines ++ line ∷ []) (notes ++ block) ≡ run_after (run_over r lines notes) line.cmd block
behind-push r [] notes line block a b =
    let whole = block-whole r line.by line.cmd block b in
    let all : notes ++ block ≡ block = ap (λ (ns : List Note). ns ++ block) a in
    ap (λ (ns : List Note). run_over r (line ∷ []) ns) all ∙ ap (λ (ns : List Note). run_after r line.cmd ns) (ap (λ (n : ℕ). take n block) whole ∙ take-length block)
behind-push r (l ∷ lines) notes line block a b =
    let len = block_len r l.by l.cmd notes in
    let next = run_after r l.cmd (take len notes) in
    let begins : Begins next block = begins-back_all next lines (drop len notes) block (block-begins (run_over r (l ∷ lines) notes) line.by line.cmd block b) in
    let f : Front r l notes block = front r l notes block a.0 begins in
    ap (λ (ns : List Note). run_over (run_after r l.cmd ns) (lines ++ line ∷ []) (drop (block_len r l.by l.cmd (notes ++ block)) (notes ++ block))) f.block
    ∙ ap (λ (ns : List Note). run_over next (lines ++ line ∷ []) ns) f.rest
    ∙ behind-push next lines (drop len notes) line block a.1 b

after_all-split : (n : ℕ) (p : Plain) (notes : List Note) → after_all (after_all p (take n notes)) (drop n notes) ≡ after_all p notes
after_all-split zero p notes = refl
after_all-split (suc n) p [] = refl
after_all-split (suc n) p (note ∷ notes) = after_all-split n (after p note) notes

pub state-over : (r : Run) (lines : List Line) (notes : List Note) → AreBlocks r lines notes → (run_over r lines notes).plain ≡ after_all r.plain notes
state-over r [] notes a = sym (ap (λ (ns : List Note). after_all r.plain ns) a)
state-over r (l ∷ lines) notes a =
    let len = block_len r l.by l.cmd notes in
    state-over (run_after r l.cmd (take len notes)) lines (drop len notes) a.1 ∙ after_all-split len r.plain notes

split-length : (n : ℕ) (ns : List Note) → n ≤ length ns → n + length (drop n ns) ≡ length ns
split-length n ns h = omega (arith, length-drop n ns)

-- the blocks end where what is behind may begin
blocks-end : (r : Run) (lines : List Line) (notes more : List Note) → AreBlocks r lines notes → Begins (run_over r lines notes) more → blocks_len r lines (notes ++ more) ≡ length notes
blocks-end r [] notes more a m = sym (ap length a)
blocks-end r (l ∷ lines) notes more a m =
    let len = block_len r l.by l.cmd notes in
    let next = run_after r l.cmd (take len notes) in
    let f : Front r l notes more = front r l notes more a.0 (begins-back_all next lines (drop len notes) more m) in
    let tail : blocks_len next lines (drop len notes ++ more) ≡ length (drop len notes) = blocks-end next lines (drop len notes) more a.1 m in
    ap (λ (n : ℕ). n + blocks_len (run_after r l.cmd (take (block_len r l.by l.cmd (notes ++ more)) (notes ++ more))) lines (drop (block_len r l.by l.cmd (notes ++ more)) (notes ++ more))) f.len
    ∙ ap (λ (ns : List Note). len + blocks_len (run_after r l.cmd ns) lines (drop (block_len r l.by l.cmd (notes ++ more)) (notes ++ more))) f.block
    ∙ ap (λ (ns : List Note). len + blocks_len next lines ns) f.rest
    ∙ ap (λ (n : ℕ). len + n) tail
    ∙ split-length len notes f.within

drained-begins : (r : Run) (p : Plain) (drained : List Note) → IsDrain p drained → Begins r drained
drained-begins r p [] d = tt
drained-begins r p (n ∷ ns) d = drain-begins r p n ns d

pub run-ends : (first_seq first_file : ℕ) (lines : List Line) (notes drained : List Note) → AreBlocks (first_run (opening first_seq first_file)) lines notes → IsDrain (after_all (opening first_seq first_file) notes) drained → IsRunOf first_seq first_file lines (notes ++ drained)
run-ends first_seq first_file lines notes drained a d =
    let p = opening first_seq first_file in
    let r = first_run p in
    let end = blocks-end r lines notes drained a (drained-begins (run_over r lines notes) (after_all p notes) drained d) in
    let block : take (blocks_len r lines (notes ++ drained)) (notes ++ drained) ≡ notes = ap (λ (n : ℕ). take n (notes ++ drained)) end ∙ take-append_seam notes drained in
    let rest : drop (blocks_len r lines (notes ++ drained)) (notes ++ drained) ≡ drained = ap (λ (n : ℕ). drop n (notes ++ drained)) end ∙ drop-append_seam notes drained in (
      subst (λ (ns : List Note). AreBlocks r lines ns) (sym block) a,
      subst (λ (ns : List Note). IsDrain (after_all p ns) (drop (blocks_len r lines (notes ++ drained)) (notes ++ drained))) (sym block)
          (subst (λ (ns : List Note). IsDrain (after_all p notes) ns) (sym rest) d),
    )
