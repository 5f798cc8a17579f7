-- The state that a run and an engine have come to, and how a block takes both on.
use Rattle.std.proofs.Common.{◌≡◌, ◌≤◌, List, [], ◌∷◌, ◌++◌, append-nil, append_assoc, get_or, Option, refl, sym, ap, ◌∙◌, subst, arith}
use Rattle.std.specs.List.{All}
use Rattle.xdb_engine.specs.View.{EngineView, plain_of, Adds}
use Rattle.xdb_plain.specs.Changes.{after, asked_after}
use Rattle.xdb_plain.specs.Legal.{after_all}
use Rattle.xdb_plain.specs.Outcomes.{Outcome, begins, outcome}
use Rattle.xdb_plain.specs.Runs.{Run, worked_by, IsBlock}
use Rattle.xdb_plain.specs.State.{Plain, opening}
use Rattle.xdb_plain.specs.declared.act.Act.{Act}
use Rattle.xdb_plain.specs.declared.act.Act.TheVariants as act
use Rattle.xdb_plain.specs.declared.act.By.{By}
use Rattle.xdb_plain.specs.declared.note.Note.{Note}
use Rattle.xdb_plain.specs.declared.script.Cmd.{Cmd}
use Rattle.xdb_run.specs.Running.{Awaits, IsAt, Grows, TakesLine}

-- ---- the plain state

asked-by : (p : Plain) (a : Act) (o : Outcome) → p.asked ≤ asked_after p a o
asked-by p (act.Ask ask question parted) begins = omega arith
asked-by p _ _ = omega arith

-- questions are only ever asked more
asked-grows : (p : Plain) (notes : List Note) → p.asked ≤ (after_all p notes).asked
asked-grows p [] = omega arith
asked-grows p (note ∷ notes) =
    let one : p.asked ≤ asked_after p note.act (outcome note.reply) = asked-by p note.act (outcome note.reply) in
    let others : asked_after p note.act (outcome note.reply) ≤ (after_all (after p note) notes).asked = asked-grows (after p note) notes in
    omega arith

after_all-append : (p : Plain) (notes more : List Note) → after_all p (notes ++ more) ≡ after_all (after_all p notes) more
after_all-append p [] more = refl
after_all-append p (note ∷ notes) more = after_all-append (after p note) notes more

module _ {F : Type 0} where
  -- ---- notes more

  pub grows-none : {old new : EngineView F} → new.notes ≡ old.notes → new.first_seq ≡ old.first_seq → new.first_file ≡ old.first_file → Grows old new []
  grows-none {old} notes seq file = record { notes = notes ∙ sym (append-nil old.notes); first_seq = seq; first_file = file }

  pub grows-one : {old new : EngineView F} {note : Note} → Adds old new note → Grows old new (note ∷ [])
  grows-one adds = record { notes = adds.notes; first_seq = adds.first_seq; first_file = adds.first_file }

  pub grows-more : {old mid new : EngineView F} {xs ys : List Note} → Grows old mid xs → Grows mid new ys → Grows old new (xs ++ ys)
  grows-more {old} {mid} {new} {xs} {ys} first second = record {
    notes = second.notes ∙ ap (λ ns. ns ++ ys) first.notes ∙ append_assoc old.notes xs ys;
    first_seq = second.first_seq ∙ first.first_seq;
    first_file = second.first_file ∙ first.first_file;
  }

  pub plain-grows : {old new : EngineView F} {block : List Note} → Grows old new block → plain_of new ≡ after_all (plain_of old) block
  plain-grows {old} {new} {block} g =
      (λ i. after_all (opening (g.first_seq i) (g.first_file i)) (g.notes i)) ∙ after_all-append (opening old.first_seq old.first_file) old.notes block

  -- ---- lines

  -- a line that delivers no work
  pub takes : {old new : EngineView F} {by : Option By} {c : Cmd} {block : List Note} → Grows old new block → worked_by c block ≡ [] → ((r : Run) → IsAt r old → IsBlock r by c block) → ((r : Run) → IsAt r old → All (Awaits r.worked) new.questions) → TakesLine old new by c
  takes {old} {new} {by} {c} {block} grows none is_block questions = record {
    block = block;
    grows = grows;
    is_block = is_block;
    goes_on = λ r at.
        let same : r.worked ++ worked_by c block ≡ r.worked = ap (λ ws. r.worked ++ ws) none ∙ append-nil r.worked in
        let more : r.plain.asked ≤ (after_all r.plain block).asked = asked-grows r.plain block in
        record {
          plain = ap (λ p. after_all p block) at.plain ∙ sym (plain-grows grows);
          questions = subst (λ ws. All (Awaits ws) new.questions) (sym same) (questions r at);
          given = subst (λ ws. All (λ n. n ≤ (after_all r.plain block).asked) ws) (sym same) (λ k d less. let low : get_or r.worked k d ≤ r.plain.asked = at.given k d less in omega arith);
        };
  }

  -- a line behind which the questions are as before
  pub takes-alike : {old new : EngineView F} {by : Option By} {c : Cmd} {block : List Note} → Grows old new block → worked_by c block ≡ [] → ((r : Run) → IsAt r old → IsBlock r by c block) → new.questions ≡ old.questions → TakesLine old new by c
  takes-alike grows none is_block same = takes grows none is_block (λ r at. subst (λ qs. All (Awaits r.worked) qs) (sym same) at.questions)
