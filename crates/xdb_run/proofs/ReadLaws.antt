-- What the line of a question adds that is answered at once.
use Rattle.std.proofs.Common.{◌≡◌, ℕ, ◌+◌, ◌≤◌, Bool, true, false, not, cond, eqb, List, [], ◌∷◌, ◌++◌, append-nil, Option, Some, None, refl, ap, ◌∙◌, subst, arith}
use Rattle.std.proofs.lemmas.Bool.{eq-eqb, false≢true}
use Rattle.std.proofs.lemmas.List.Elements.{filter-append}
use Rattle.xdb_lists.specs.Keyed.{without as others, replaced as placed}
use Rattle.xdb_lists.proofs.PlaceLaws.{under-none, under-pushed, under-placed, others-none}
use Rattle.xdb_engine.specs.Asks.{Grounds, IsAsked, IsAskedOf, plain_grounds}
use Rattle.xdb_engine.specs.Notes.{ask_note}
use Rattle.xdb_steps.specs.Notes.{held_note}
use Rattle.xdb_vset.specs.Hold.{Hold}
use Rattle.xdb_engine.specs.Ends.{after_settle, settle_act, settle_leaves, settle_note, settle_reply}
use Rattle.xdb_engine.specs.Questions.{Asking, HasNumber, asking, question_of, without, with_story}
use Rattle.xdb_engine.specs.View.{EngineView, plain_of, Adds}
use Rattle.xdb_order.specs.Desk.{fresh_story}
use Rattle.xdb_plain.specs.Printed.{is_asked}
use Rattle.xdb_plain.specs.Steps.{asked_number}
use Rattle.xdb_plain.specs.declared.act.Act.TheVariants as act
use Rattle.xdb_plain.specs.declared.act.By.{By}
use Rattle.xdb_plain.specs.declared.note.HoldNote.{HoldNote}
use Rattle.xdb_plain.specs.declared.note.Note.{Note}
use Rattle.xdb_plain.specs.declared.question.Question.{Question}
use Rattle.xdb_plain.specs.declared.reply.Reply.{Reply}
use Rattle.xdb_plain.specs.declared.reply.Reply.TheVariants as reply
use Rattle.xdb_plain.specs.declared.script.Cmd.TheVariants as cmd
use Rattle.xdb_read.specs.declared.parts.ReadParts.{ReadParts}
use Rattle.xdb_run.specs.Running.{Grows, KnowsQuestions, TakesLine}
use Rattle.xdb_run.specs.Working.{Keeps, Lacks, EndsWork}
use Rattle.xdb_run.specs.declared.works.WorkEnd.{WorkEnd}
use Rattle.xdb_run.specs.declared.works.WorkEnd.TheVariants.{NoSuch, Kept, Failed}
use Rattle.xdb_run.proofs.StateLaws.{grows-none, grows-one, grows-more, takes-alike}

-- the others are the same where one is put in the place of its number
others-placed : {X : Type 0} (key : X → ℕ) (n : ℕ) (r : X) (xs : List X) → key r ≡ n → others key n (placed key r n xs) ≡ others key n xs
others-placed key n r [] is = refl
others-placed key n r (x ∷ xs) is = by (eqb (key x) n) refl (others-placed key n r xs is)
  where
    by : (t : Bool) → eqb (key x) n ≡ t → others key n (placed key r n xs) ≡ others key n xs → cond (not (eqb (key (cond t r x)) n)) (cond t r x ∷ others key n (placed key r n xs)) (others key n (placed key r n xs)) ≡ cond (not t) (x ∷ others key n xs) (others key n xs)
    by true e rest = ap (λ t. cond (not t) (r ∷ others key n (placed key r n xs)) (others key n (placed key r n xs))) (eq-eqb (key r) n is) ∙ rest
    by false e rest = ap (λ t. cond (not t) (x ∷ others key n (placed key r n xs)) (others key n (placed key r n xs))) e ∙ ap (λ ys. x ∷ ys) rest

-- a reply that isn't `Asked`
off-asked : (told : Reply) → ((n : ℕ) → told ≡ reply.Asked n → ⊥) → is_asked told ≡ false
off-asked (reply.Asked n) off = absurd (off n refl)
off-asked _ off = refl

module _ {F : Type 0} where
  -- The question of a read is open under this number, and without it the questions are those before.
  pub record OpensRead (old one : EngineView F) (by : By) (question : Question) (ask : ℕ) : Type 0 where
    pub given : ReadParts F
    pub same_question : given.question ≡ question
    pub hold : Hold
    pub holds : List HoldNote
    pub note : Adds old one (held_note by (act.Ask ask question false) (reply.Asked ask) holds)
    pub there : question_of ask one.questions ≡ Some (asking ask by false given hold fresh_story None)
    pub apart : without ask one.questions ≡ old.questions

  asked-opens : (old one : EngineView F) (by : By) (question : Question) (ask : ℕ) (holds : List HoldNote) (hand : Option (ReadParts F)) → KnowsQuestions old → Adds old one (held_note by (act.Ask ask question false) (reply.Asked ask) holds) → IsAskedOf old one by question false (reply.Asked ask) hand → OpensRead old one by question ask
  asked-opens old one by question ask holds None knows adds is = absurd is
  asked-opens old one by question ask holds (Some given) knows adds is =
      let q : Asking F = asking ask by false given is.hold fresh_story None in
      let number : ask ≡ (plain_of old).asked + 1 = is.number in
      let none : question_of ask old.questions ≡ None = under-none (λ (x : Asking F). x.ask) (HasNumber (plain_of old).asked) ask old.questions knows.numbers (λ x n e. let low : x.ask ≤ (plain_of old).asked = n.given in omega arith) in
      let same : without ask old.questions ≡ old.questions = others-none (λ (x : Asking F). x.ask) (HasNumber (plain_of old).asked) ask old.questions knows.numbers (λ x n e. let low : x.ask ≤ (plain_of old).asked = n.given in omega arith) in
      record {
        given = given;
        same_question = is.parts.same_question;
        hold = is.hold;
        holds = holds;
        note = adds;
        there = ap (question_of ask) is.opened ∙ under-pushed (λ (x : Asking F). x.ask) ask q old.questions none refl;
        apart = ap (without ask) is.opened ∙ filter-append (λ (x : Asking F). not (eqb x.ask ask)) old.questions (q ∷ [])
            ∙ ap (λ t. without ask old.questions ++ cond (not t) (q ∷ []) []) (eq-eqb ask ask refl) ∙ append-nil (without ask old.questions) ∙ same;
      }

  pub opens-read : {old one : EngineView F} {by : By} {question : Question} {told : Reply} {ask : ℕ} {holds : List HoldNote} (hand : Option (ReadParts F)) → told ≡ reply.Asked ask → KnowsQuestions old → Adds old one (ask_note by question false told holds) → IsAskedOf old one by question false told hand → OpensRead old one by question ask
  opens-read {old} {one} {by} {question} {told} {ask} {holds} hand is knows adds asked =
      asked-opens old one by question ask holds hand knows (subst (λ t. Adds old one (ask_note by question false t holds)) is adds) (subst (λ t. IsAskedOf old one by question false t hand) is asked)

  -- The question isn't opened.
  off-questions : (g : Grounds F) (new : List (Asking F)) (by : By) (question : Question) (told : Reply) (hand : Option (ReadParts F)) → IsAsked g new by question false told hand → ((n : ℕ) → told ≡ reply.Asked n → ⊥) → new ≡ g.questions
  off-questions g new by question reply.NoSuch None is off = is.0
  off-questions g new by question reply.TooMany None is off = is.0
  off-questions g new by question reply.Memory None is off = is.0
  off-questions g new by question (reply.Asked ask) hand is off = absurd (off ask refl)
  off-questions g new by question _ _ is off = absurd is

  pub refused-takes : {old new : EngineView F} {by : By} {question : Question} {told : Reply} {holds : List HoldNote} (hand : Option (ReadParts F)) → ((n : ℕ) → told ≡ reply.Asked n → ⊥) → Adds old new (ask_note by question false told holds) → IsAskedOf old new by question false told hand → TakesLine old new (Some by) (cmd.Ask question false)
  refused-takes {old} {new} {by} {question} {told} hand off adds is =
      takes-alike (grows-one adds) refl
      (λ r at. (asked_number told, record { same_by = refl; same_act = refl }, off-asked told off))
      (off-questions (plain_grounds old) new.questions by question told hand is off)

  -- The second note of a read ends its question.
  ends-read : {old one two new : EngineView F} {by : By} {question : Question} {ask : ℕ} {note : Note} → OpensRead old one by question ask → Grows one two [] → Adds two new note → note.by ≡ by → note.act ≡ act.Ask ask question false → is_asked note.reply ≡ false → new.questions ≡ old.questions → TakesLine old new (Some by) (cmd.Ask question false)
  ends-read {ask = ask} opens grows adds same_by same_act off same =
      takes-alike (grows-more (grows-one opens.note) (grows-more grows (grows-one adds))) refl
      (λ r at. (ask, record { same_by = refl; same_act = refl }, refl, record { same_by = same_by; same_act = same_act }, off))
      same

  -- The result is kept, and a settle answers it.
  pub answered-takes : {old one two new : EngineView F} {by : By} {question : Question} {ask : ℕ} {told : Reply} (bytes : F → Option (List ℕ)) → OpensRead old one by question ask → EndsWork bytes (question_of ask one.questions) Kept one two → Adds two new (settle_note by ask two.questions told) → told ≡ settle_reply (question_of ask two.questions) → new.questions ≡ after_settle ask two.questions → TakesLine old new (Some by) (cmd.Ask question false)
  answered-takes {old} {one} {two} {new} {by} {question} {ask} bytes opens ends adds says left =
      let q : Asking F = asking ask by false opens.given opens.hold fresh_story None in
      let k : Keeps bytes q one two = subst (λ o. EndsWork bytes o Kept one two) opens.there ends in
      let r : Asking F = with_story q fresh_story (Some k.done) in
      let there : question_of ask two.questions ≡ Some r = ap (λ e. question_of ask e.questions) k.keeps ∙ under-placed (λ (x : Asking F). x.ask) ask q r one.questions refl opens.there in
      ends-read opens (grows-none (ap (λ e. e.notes) k.keeps) (ap (λ e. e.first_seq) k.keeps) (ap (λ e. e.first_file) k.keeps)) adds refl
      (ap (settle_act ask) there ∙ ap (λ x. act.Ask ask x false) opens.same_question)
      (ap is_asked (says ∙ ap settle_reply there))
      (left ∙ ap (λ o. settle_leaves ask o two.questions) there ∙ ap (λ e. without ask e.questions) k.keeps ∙ others-placed (λ (x : Asking F). x.ask) ask r one.questions refl ∙ opens.apart)

  -- No result is kept: an allocation failed.
  pub unanswered-takes : {old one new : EngineView F} {by : By} {question : Question} {ask : ℕ} (bytes : F → Option (List ℕ)) → OpensRead old one by question ask → (end : WorkEnd) → EndsWork bytes (question_of ask one.questions) end one new → (end ≡ Kept → ⊥) → TakesLine old new (Some by) (cmd.Ask question false)
  unanswered-takes {old} {one} {new} {by} {question} {ask} bytes opens Failed ends off =
      let l : Lacks bytes (asking ask by false opens.given opens.hold fresh_story None) one new = subst (λ o. EndsWork bytes o Failed one new) opens.there ends in
      ends-read opens (grows-none refl refl refl) l.note refl (ap (λ x. act.Ask ask x false) opens.same_question) refl (l.leaves ∙ opens.apart)
  unanswered-takes {old} {one} {new} {by} {question} {ask} bytes opens NoSuch ends off =
      let e : EndsWork bytes (Some (asking ask by false opens.given opens.hold fresh_story None)) NoSuch one new = subst (λ o. EndsWork bytes o NoSuch one new) opens.there ends in
      absurd (false≢true e.0)
  unanswered-takes bytes opens Kept ends off = absurd (off refl)
