-- What a run says of open questions, and what a settle and a question in parts add.
use Rattle.std.proofs.Common.{◌≡◌, ℕ, ◌+◌, ◌≤◌, Bool, true, false, not, ◌&&◌, cond, eqb, List, [], ◌∷◌, get_or, Option, Some, None, is_some, refl, sym, ap, ◌∙◌, subst, arith}
use Rattle.std.specs.List.{All}
use Rattle.std.specs.Option.{option_map}
use Rattle.std.proofs.lemmas.Bool.{ne_eqb}
use Rattle.std.proofs.lemmas.List.Elements.{All-filter, All-push}
use Rattle.std.proofs.lemmas.List.Folds.{list_any_none}
use Rattle.xdb_lists.proofs.PlaceLaws.{under-number, under-all}
use Rattle.xdb_engine.specs.Asks.{Grounds, IsAsked, IsAskedOf, plain_grounds}
use Rattle.xdb_engine.specs.Notes.{ask_note}
use Rattle.xdb_steps.specs.Notes.{held_note}
use Rattle.xdb_steps.proofs.Found.{found-mapped}
use Rattle.xdb_engine.specs.Ends.{after_settle, answer_of, answer_act, settle_act, settle_hold, settle_leaves, settle_note, settle_reply}
use Rattle.xdb_engine.specs.Holds.{release_notes}
use Rattle.xdb_engine.specs.Questions.{Asking, asking, plain_question, question_of, without}
use Rattle.xdb_engine.specs.View.{EngineView, Adds}
use Rattle.xdb_order.specs.Desk.{fresh_story}
use Rattle.xdb_plain.specs.Counts.{is_among}
use Rattle.xdb_plain.specs.Runs.{Run, question_waits, is_not_yet, IsWaited}
use Rattle.xdb_plain.specs.State.{found_question}
use Rattle.xdb_plain.specs.Steps.{asked_number}
use Rattle.xdb_plain.specs.declared.act.Act.TheVariants as act
use Rattle.xdb_plain.specs.declared.act.By.{By}
use Rattle.xdb_plain.specs.declared.note.HoldNote.{HoldNote}
use Rattle.xdb_plain.specs.declared.question.Question.{Question}
use Rattle.xdb_plain.specs.declared.reply.Reply.{Reply}
use Rattle.xdb_plain.specs.declared.reply.Reply.TheVariants as reply
use Rattle.xdb_plain.specs.declared.script.Cmd.TheVariants as cmd
use Rattle.xdb_read.specs.declared.parts.ReadDone.{ReadDone}
use Rattle.xdb_read.specs.declared.parts.ReadParts.{ReadParts}
use Rattle.xdb_run.specs.Running.{Awaits, IsAt, TakesLine, KnowsQuestions}
use Rattle.xdb_run.proofs.StateLaws.{grows-one, takes}

-- a number above all that were given isn't among those worked on
not-among : (ask most : ℕ) (ws : List ℕ) → All (λ n. n ≤ most) ws → ask ≡ most + 1 → is_among ask ws ≡ false
not-among ask most ws given is = list_any_none (λ n. eqb n ask) ws (λ k d less. let low : get_or ws k d ≤ most = given k d less in ne_eqb (get_or ws k d) ask (λ e. omega arith))

module _ {F : Type 0} where
  -- the work of a question is waited for where it is open and has no result
  abbrev pub waits_for_work : Option (Asking F) → Bool
  waits_for_work None = false
  waits_for_work (Some q) = not (is_some q.kept)

  -- what the run says of the question that is question_of
  pub awaits : (r : Run) (e : EngineView F) (ask : ℕ) (q : Asking F) → IsAt r e → question_of ask e.questions ≡ Some q → Awaits r.worked q
  awaits r e ask q at there = under-all (λ (x : Asking F). x.ask) (Awaits r.worked) ask q e.questions at.questions there

  pub waits-by : (r : Run) (e : EngineView F) (ask : ℕ) (o : Option (Asking F)) → IsAt r e → KnowsQuestions e → question_of ask e.questions ≡ o → question_waits r ask ≡ waits_for_work o
  waits-by r e ask o at knows there =
      ap (λ x. is_some x && not (is_among ask r.worked)) (ap (λ p. found_question ask p.questions) at.plain ∙ ap (found_question ask) (sym knows.questions) ∙ found-mapped plain_question ask e.questions ∙ ap (option_map plain_question) there)
      ∙ by o there
    where
      by : (o : Option (Asking F)) → question_of ask e.questions ≡ o → (is_some (option_map plain_question o) && not (is_among ask r.worked)) ≡ waits_for_work o
      by None there = refl
      by (Some q) there =
          ap (λ n. not (is_among n r.worked)) (sym (under-number (λ (x : Asking F). x.ask) ask q e.questions there)) ∙ ap not (sym (awaits r e ask q at there).kept)

  -- ---- a settle

  -- the note of a settle, by the question's result
  settle-kept : (by : By) (ask : ℕ) (q : Asking F) (waits : Bool) (holds : List HoldNote) (kept : Option ReadDone) → q.kept ≡ kept → q.parted ≡ true → q.ask ≡ ask → waits ≡ waits_for_work (Some q) → IsWaited by (act.Settle ask) waits (held_note by (settle_act ask (Some q)) (settle_reply (Some q)) holds ∷ [])
  settle-kept by ask q waits holds None e parted is w = (
    record { same_by = refl; same_act = ap (λ k. cond (is_some k) (answer_act q) (act.Settle ask)) e },
    ap (λ k. is_not_yet (answer_of k)) e ∙ sym (w ∙ ap (λ (k : Option ReadDone). not (is_some k)) e),
  )
  settle-kept by ask q waits holds (Some done) e parted is w = (
    record {
      same_by = refl;
      same_act = ap (λ k. cond (is_some k) (answer_act q) (act.Settle ask)) e ∙ ap (λ t. cond t (act.Settle q.ask) (act.Ask q.ask q.given.question false)) parted ∙ ap act.Settle is;
    },
    ap (λ k. is_not_yet (answer_of k)) e ∙ sym (w ∙ ap (λ (k : Option ReadDone). not (is_some k)) e),
  )

  settle-block : (r : Run) (e : EngineView F) (by : By) (ask : ℕ) (holds : List HoldNote) (o : Option (Asking F)) → IsAt r e → KnowsQuestions e → question_of ask e.questions ≡ o → IsWaited by (act.Settle ask) (question_waits r ask) (held_note by (settle_act ask o) (settle_reply o) holds ∷ [])
  settle-block r e by ask holds None at knows there = (record { same_by = refl; same_act = refl }, sym (waits-by r e ask None at knows there))
  settle-block r e by ask holds (Some q) at knows there =
      settle-kept by ask q (question_waits r ask) holds q.kept refl (awaits r e ask q at there).parted
      (under-number (λ (x : Asking F). x.ask) ask q e.questions there) (waits-by r e ask (Some q) at knows there)

  all-left : (P : Asking F → Type 0) (ask : ℕ) (o : Option (Asking F)) (qs : List (Asking F)) → All P qs → All P (settle_leaves ask o qs)
  all-left P ask None qs all = all
  all-left P ask (Some q) qs all = by (is_some q.kept)
    where
      by : (t : Bool) → All P (cond t (without ask qs) qs)
      by true = All-filter (λ q. not (eqb q.ask ask)) P qs all
      by false = all

  pub settle-takes : {old new : EngineView F} {by : By} {ask : ℕ} {told : Reply} → KnowsQuestions old → Adds old new (settle_note by ask old.questions told) → told ≡ settle_reply (question_of ask old.questions) → new.questions ≡ after_settle ask old.questions → TakesLine old new (Some by) (cmd.Settle ask)
  settle-takes {old} {new} {by} {ask} {told} knows adds is left =
      let o = question_of ask old.questions in
      let holds = release_notes (settle_hold o) in
      takes (grows-one adds) refl
      (λ r at. subst (λ x. IsWaited by (act.Settle ask) (question_waits r ask) (held_note by (settle_act ask o) x holds ∷ [])) (sym is) (settle-block r old by ask holds o at knows refl))
      (λ r at. subst (λ qs. All (Awaits r.worked) qs) (sym left) (all-left (Awaits r.worked) ask o old.questions at.questions))

  -- ---- a question in parts

  -- the questions behind the ask
  asked-await : (g : Grounds F) (new : List (Asking F)) (by : By) (question : Question) (told : Reply) (hand : Option (ReadParts F)) (ws : List ℕ) → IsAsked g new by question true told hand → All (Awaits ws) g.questions → All (λ n. n ≤ g.asked) ws → All (Awaits ws) new
  asked-await g new by question (reply.Asked ask) (Some given) ws is all low =
      subst (λ qs. All (Awaits ws) qs) (sym is.opened)
      (All-push (Awaits ws) g.questions (asking ask by true given is.hold fresh_story None) all (record { parted = refl; kept = sym (not-among ask g.asked ws low is.number) }))
  asked-await g new by question reply.NoSuch None ws is all low = subst (λ qs. All (Awaits ws) qs) (sym is.0) all
  asked-await g new by question reply.TooMany None ws is all low = subst (λ qs. All (Awaits ws) qs) (sym is.0) all
  asked-await g new by question reply.Memory None ws is all low = subst (λ qs. All (Awaits ws) qs) (sym is.0) all
  asked-await g new by question _ _ ws is all low = absurd is

  pub ask-takes : {old new : EngineView F} {by : By} {question : Question} {told : Reply} {holds : List HoldNote} (hand : Option (ReadParts F)) → Adds old new (ask_note by question true told holds) → IsAskedOf old new by question true told hand → TakesLine old new (Some by) (cmd.Ask question true)
  ask-takes {old} {new} {by} {question} {told} hand adds is =
      takes (grows-one adds) refl
      (λ r at. (asked_number told, record { same_by = refl; same_act = refl }))
      (λ r at. asked-await (plain_grounds old) new.questions by question told hand r.worked is at.questions
      (subst (λ p. All (λ n. n ≤ p.asked) r.worked) at.plain at.given))
