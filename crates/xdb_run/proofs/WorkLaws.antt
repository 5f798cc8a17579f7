-- What the line of work on a question adds.
use Rattle.std.proofs.Common.{◌≡◌, ℕ, ◌≤◌, Bool, true, false, not, ◌||◌, cond, eqb, List, [], ◌∷◌, ◌++◌, append-nil, Option, Some, None, is_some, refl, sym, ap, ◌∙◌, subst, inl, inr, arith}
use Rattle.std.specs.List.{All}
use Rattle.std.proofs.lemmas.Bool.{cases_Bool, eqb-true, eq-eqb, or_left, or_right, false≢true}
use Rattle.std.proofs.lemmas.List.Elements.{All-filter, All-push}
use Rattle.std.proofs.lemmas.List.Folds.{list_any-append}
use Rattle.xdb_lists.proofs.PlaceLaws.{under-number, under-all, all-placed}
use Rattle.xdb_steps.specs.Notes.{plain_note}
use Rattle.xdb_engine.specs.Questions.{Asking, HasNumber, question_of, with_story}
use Rattle.xdb_engine.specs.View.{EngineView, plain_of, Adds}
use Rattle.xdb_plain.specs.Counts.{is_among}
use Rattle.xdb_plain.specs.Runs.{is_no_such}
use Rattle.xdb_plain.specs.declared.act.Act.TheVariants as act
use Rattle.xdb_plain.specs.declared.act.By.TheVariants.{Db}
use Rattle.xdb_plain.specs.declared.reply.Reply.{Reply}
use Rattle.xdb_plain.specs.declared.reply.Reply.TheVariants as reply
use Rattle.xdb_plain.specs.declared.script.Cmd.TheVariants as cmd
use Rattle.xdb_read.specs.declared.parts.ReadDone.{ReadDone}
use Rattle.xdb_run.specs.Running.{Awaits, KnowsQuestions, TakesLine}
use Rattle.xdb_run.specs.Working.{EndsWork}
use Rattle.xdb_run.specs.declared.works.WorkEnd.{WorkEnd}
use Rattle.xdb_run.specs.declared.works.WorkEnd.TheVariants.{NoSuch, Kept, Failed}
use Rattle.xdb_run.proofs.StateLaws.{grows-one, takes, takes-alike}
use Rattle.xdb_run.proofs.QuestionLaws.{waits_for_work, awaits, waits-by}

-- ---- numbers of questions that were worked on

among-pushed : (n m : ℕ) (ns : List ℕ) → is_among n (ns ++ m ∷ []) ≡ (is_among n ns || (eqb m n || false))
among-pushed n m ns = list_any-append (λ k. eqb k n) ns (m ∷ [])

among-itself : (ws : List ℕ) (ask : ℕ) → is_among ask (ws ++ ask ∷ []) ≡ true
among-itself ws ask = among-pushed ask ask ws ∙ or_right (is_among ask ws) (eqb ask ask || false) (or_left (eqb ask ask) false (eq-eqb ask ask refl))

among-others : (ws : List ℕ) (ask n : ℕ) → eqb n ask ≡ false → is_among n (ws ++ ask ∷ []) ≡ is_among n ws
among-others ws ask n other = among-pushed n ask ws ∙ ap (λ t. is_among n ws || (t || false)) flipped ∙ plus-none (is_among n ws)
  where
    flipped : eqb ask n ≡ false
    flipped = elim (cases_Bool (eqb ask n)) [ inl t ↦ absurd (false≢true (sym other ∙ eq-eqb n ask (sym (eqb-true ask n t)))) | inr f ↦ f ]

    plus-none : (t : Bool) → (t || false) ≡ t
    plus-none true = refl
    plus-none false = refl

module _ {F : Type 0} where
  -- The result is kept, and the line has no note.
  work-keeps : {old new : EngineView F} (bytes : F → Option (List ℕ)) (ask : ℕ) (o : Option (Asking F)) → KnowsQuestions old → question_of ask old.questions ≡ o → EndsWork bytes o Kept old new → TakesLine old new (Some Db) (cmd.Work ask)
  work-keeps bytes ask None knows there k = absurd k
  work-keeps {old} {new} bytes ask (Some q) knows there k =
      let r : Asking F = with_story q q.story (Some k.done) in
      let same : q.ask ≡ ask = under-number (λ (x : Asking F). x.ask) ask q old.questions there in
      let numbered : HasNumber (plain_of old).asked q = under-all (λ (x : Asking F). x.ask) (HasNumber (plain_of old).asked) ask q old.questions knows.numbers there in
      subst (λ e. TakesLine old e (Some Db) (cmd.Work ask)) (sym k.keeps) (record {
        block = [];
        grows = record { notes = sym (append-nil old.notes); first_seq = refl; first_file = refl };
        is_block = λ run at. waits-by run old ask (Some q) at knows there ∙ ap (λ (x : Option ReadDone). not (is_some x)) k.waits;
        goes_on = λ run at. record {
          plain = at.plain;
          questions = all-placed (λ (x : Asking F). x.ask) (Awaits run.worked) (Awaits (run.worked ++ ask ∷ [])) q.ask r old.questions
              (record { parted = (awaits run old ask q at there).parted; kept = sym (ap (λ n. is_among n (run.worked ++ ask ∷ [])) same ∙ among-itself run.worked ask) })
              (λ x a other. record { parted = a.parted; kept = a.kept ∙ sym (among-others run.worked ask x.ask (ap (eqb x.ask) (sym same) ∙ other)) })
              at.questions;
          given = All-push (λ n. n ≤ run.plain.asked) run.worked ask at.given
              (let low : q.ask ≤ (plain_of old).asked = numbered.given in let most : run.plain.asked ≡ (plain_of old).asked = ap (λ p. p.asked) at.plain in omega arith);
        };
      })

  -- An allocation failed.
  work-lacks : {old new : EngineView F} (bytes : F → Option (List ℕ)) (ask : ℕ) (o : Option (Asking F)) → KnowsQuestions old → question_of ask old.questions ≡ o → EndsWork bytes o Failed old new → TakesLine old new (Some Db) (cmd.Work ask)
  work-lacks bytes ask None knows there l = absurd l
  work-lacks {old} {new} bytes ask (Some q) knows there l =
      let same : q.ask ≡ ask = under-number (λ (x : Asking F). x.ask) ask q old.questions there in
      takes (grows-one l.note) refl
      (λ r at.
      let parted = (awaits r old ask q at there).parted in (
        record {
          same_by = ap (λ t. cond t Db q.by) parted;
          same_act = ap (λ t. cond t (act.Work q.ask) (act.Ask q.ask q.given.question false)) parted ∙ ap act.Work same;
        },
        sym (ap not (waits-by r old ask (Some q) at knows there ∙ ap (λ (x : Option ReadDone). not (is_some x)) l.waits)),
      ))
      (λ r at. subst (λ qs. All (Awaits r.worked) qs) (sym l.leaves) (All-filter (λ x. not (eqb x.ask q.ask)) (Awaits r.worked) old.questions at.questions))

  -- There was work to do.
  pub work-ends : {old new : EngineView F} (bytes : F → Option (List ℕ)) (ask : ℕ) (end : WorkEnd) → KnowsQuestions old → EndsWork bytes (question_of ask old.questions) end old new → (end ≡ NoSuch → ⊥) → TakesLine old new (Some Db) (cmd.Work ask)
  work-ends bytes ask NoSuch knows ends off = absurd (off refl)
  work-ends {old} bytes ask Kept knows ends off = work-keeps bytes ask (question_of ask old.questions) knows refl ends
  work-ends {old} bytes ask Failed knows ends off = work-lacks bytes ask (question_of ask old.questions) knows refl ends

  -- There is no such work to do.
  none-ends : (bytes : F → Option (List ℕ)) (o : Option (Asking F)) (old new : EngineView F) → EndsWork bytes o NoSuch old new → (new ≡ old) × (waits_for_work o ≡ false)
  none-ends bytes None old new is = (is, refl)
  none-ends bytes (Some q) old new is = (is.1, ap not is.0)

  pub work-none : {old mid new : EngineView F} {ask : ℕ} {told : Reply} (bytes : F → Option (List ℕ)) → KnowsQuestions old → EndsWork bytes (question_of ask old.questions) NoSuch old mid → Adds mid new (plain_note Db (act.Work ask) told) → told ≡ reply.NoSuch → new.questions ≡ mid.questions → TakesLine old new (Some Db) (cmd.Work ask)
  work-none {old} {mid} {new} {ask} {told} bytes knows ends adds says same =
      let none = none-ends bytes (question_of ask old.questions) old mid ends in
      let adds_old : Adds old new (plain_note Db (act.Work ask) told) = subst (λ e. Adds e new (plain_note Db (act.Work ask) told)) none.0 adds in
      takes-alike (grows-one adds_old) refl
      (λ r at. (record { same_by = refl; same_act = refl }, ap is_no_such says ∙ sym (ap not (waits-by r old ask (question_of ask old.questions) at knows refl ∙ none.1))))
      (same ∙ ap (λ e. e.questions) none.0)
