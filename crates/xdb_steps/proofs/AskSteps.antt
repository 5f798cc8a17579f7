-- A question that is asked.
use Rattle.std.proofs.Common.{◌≡◌, ℕ, ◌+◌, ◌<◌, ◌≤◌, Bool, true, false, cond, eqb, leb, ◌||◌, [], ◌∷◌, ◌++◌, length, Some, None, is_none, refl, sym, ap, ◌∙◌, subst, IsTrue, arith}
use Rattle.std.proofs.lemmas.Bool.{false≢true, eq-eqb, lt-leb, le-leb}
use Rattle.std.proofs.lemmas.List.{map-append}
use Rattle.std.proofs.lemmas.List.Elements.{All-push}
use Rattle.std.specs.List.{list_any}
use Rattle.xdb_key.specs.Bounds.{holds, covers}
use Rattle.xdb_laws.specs.Answered.{is_of_now}
use Rattle.xdb_plain.proofs.RefusalLaws.{refused-after}
use Rattle.xdb_plain.specs.Answers.{Landing, answer_now}
use Rattle.xdb_plain.specs.Changes.{new_question}
use Rattle.xdb_plain.specs.Legal.{AnswersRight}
use Rattle.xdb_plain.specs.Failures.{is_failure_outside}
use Rattle.xdb_plain.specs.Outcomes.{outcome, is_refused}
use Rattle.xdb_plain.specs.Replies.{same_reply, ask_replies, new_ask_replies, room_replies, through_replies, on_cursor_replies}
use Rattle.xdb_plain.specs.State.{Plain, OpenQuestion, found_snap, found_cursor, found_question}
use Rattle.xdb_plain.specs.Steps.{MayStand, FitsAsk, FitsEdit, FitsTried, IsShown, is_client, asked_number}
use Rattle.xdb_plain.specs.declared.act.Act.TheVariants as act
use Rattle.xdb_plain.specs.declared.act.By.{By}
use Rattle.xdb_plain.specs.declared.note.Note.{Note}
use Rattle.xdb_plain.specs.declared.question.Question.{Question}
use Rattle.xdb_plain.specs.declared.question.Question.TheVariants.{Get, Scan, RScan, Move}
use Rattle.xdb_plain.specs.declared.reply.Reply.{Reply}
use Rattle.xdb_plain.specs.declared.reply.Reply.TheVariants.{Asked, NoSuch, TooMany, Memory}
use Rattle.xdb_steps.specs.Core.{Core, open_question, asked_core}
use Rattle.xdb_steps.specs.Keeps.{Agrees, Means}
use Rattle.xdb_steps.specs.Notes.{plain_note}
use Rattle.xdb_steps.specs.Parts.Asks.{unanswered, IsNumbered}
use Rattle.xdb_steps.specs.Step.{Step}
use Rattle.xdb_steps.proofs.Found.{plain-none, none-at, count-is}
use Rattle.xdb_steps.proofs.Frame.{still}

-- ---- replies

replies-now : (p : Plain) (question : Question) → is_of_now question ≡ true → new_ask_replies p question ≡ room_replies p
replies-now p (Get key None) e = refl
replies-now p (Get key (Some at)) e = absurd (false≢true e)
replies-now p (Scan range most None) e = refl
replies-now p (Scan range most (Some at)) e = absurd (false≢true e)
replies-now p (RScan range most None) e = refl
replies-now p (RScan range most (Some at)) e = absurd (false≢true e)
replies-now p (Move cursor step) e = absurd (false≢true e)

module _ (c : Core) (p : Plain) (a : Agrees c p) where
  replies-then : (question : Question) → is_of_now question ≡ false → new_ask_replies p question ≡ NoSuch ∷ []
  replies-then (Get key None) e = absurd (false≢true (sym e))
  replies-then (Get key (Some at)) e = ap (λ ss. through_replies (λ r. holds r key) (found_snap at ss) (room_replies p)) a.snaps.none
  replies-then (Scan range most None) e = absurd (false≢true (sym e))
  replies-then (Scan range most (Some at)) e = ap (λ ss. through_replies (λ r. covers r range) (found_snap at ss) (room_replies p)) a.snaps.none
  replies-then (RScan range most None) e = absurd (false≢true (sym e))
  replies-then (RScan range most (Some at)) e = ap (λ ss. through_replies (λ r. covers r range) (found_snap at ss) (room_replies p)) a.snaps.none
  replies-then (Move cursor step) e = ap (λ cs. on_cursor_replies p (found_cursor cursor cs) (room_replies p)) a.cursors.none

any-one : (t : Bool) → t ≡ true → (t || false) ≡ true
any-one true e = refl
any-one false e = e

asked-listed : (n k : ℕ) → n ≡ k → list_any (same_reply (Asked n)) (Memory ∷ Asked k ∷ []) ≡ true
asked-listed n k e = any-one (eqb n k) (eq-eqb n k e)

module _ (c : Core) (p : Plain) (by : By) (question : Question) (parted : Bool) (a : Agrees c p) (client : IsTrue (is_client by)) where
  room : (full : Bool) → leb 64 (length c.asks) ≡ full → room_replies p ≡ cond full (TooMany ∷ []) (Memory ∷ Asked (p.asked + 1) ∷ [])
  room full e = ap (λ n. cond (leb 64 n) (TooMany ∷ []) (Memory ∷ Asked (p.asked + 1) ∷ [])) (count-is c p a) ∙ ap (λ t. cond t (TooMany ∷ []) (Memory ∷ Asked (p.asked + 1) ∷ [])) e

  pub none-zero : found_question 0 c.asks ≡ None
  none-zero = none-at c p a 0 (λ q n e. let from = n.from in omega arith)

  none-next : found_question (c.numbers.asked + 1) c.asks ≡ None
  none-next = none-at c p a (c.numbers.asked + 1) (λ q n e. let given = n.given in omega arith)

  abbrev note : ℕ → Reply → Note
  note ask reply = plain_note by (act.Ask ask question parted) reply

  -- the note of an ask may stand where its reply is one of those of a new question
  stands : (ask : ℕ) (reply : Reply) → found_question ask c.asks ≡ None → ask ≡ asked_number reply → list_any (same_reply reply) (new_ask_replies p question) ≡ true → IsShown p reply → FitsEdit p (act.Ask ask question parted) reply None → FitsTried p (act.Ask ask question parted) (outcome reply) [] → MayStand p (note ask reply)
  stands ask reply none number may shown edit tried = record {
    by = client;
    reply = ap (λ o. list_any (same_reply reply) (ask_replies p question o)) (plain-none c p a ask none) ∙ may;
    act = subst (λ o. FitsAsk o by ask question parted reply) (sym (plain-none c p a ask none)) number;
    edit = edit;
    tried = tried;
    shown = shown;
  }

  -- a question that isn't opened leaves the state: none has the number 0
  refused : {told : Type 0} (reply : Reply) → is_refused p (act.Ask 0 question parted) (outcome reply) ≡ true → MayStand p (note 0 reply) → AnswersRight p (act.Ask 0 question parted) reply → is_failure_outside reply ≡ false → Step told 0 c c p (note 0 reply)
  refused reply is may answers calm = still c p (note 0 reply) a may answers calm (refused-after p (note 0 reply) may refl is)

  pub no_such : {told : Type 0} → is_of_now question ≡ false → Step told 0 c c p (note 0 NoSuch)
  no_such then = refused NoSuch refl (stands 0 NoSuch none-zero refl (ap (list_any (same_reply NoSuch)) (replies-then c p a question then)) tt refl refl) tt refl

  pub too_many : {told : Type 0} → is_of_now question ≡ true → 64 ≤ length c.asks → Step told 0 c c p (note 0 TooMany)
  too_many now many = refused TooMany refl (stands 0 TooMany none-zero refl (ap (list_any (same_reply TooMany)) (replies-now p question now ∙ room true (le-leb 64 (length c.asks) many))) tt refl refl) tt refl

  pub lacking : {told : Type 0} → is_of_now question ≡ true → length c.asks < 64 → Step told 0 c c p (note 0 Memory)
  lacking now few =
      refused Memory (ap is_none (plain-none c p a 0 none-zero))
      (stands 0 Memory none-zero refl (ap (list_any (same_reply Memory)) (replies-now p question now ∙ room false (lt-leb 64 (length c.asks) few))) tt refl refl) tt refl

module _ {told : Type 0} (c : Core) (p : Plain) (by : By) (question : Question) (parted : Bool) (l : Landing) (a : Agrees c p) (client : IsTrue (is_client by)) (now : is_of_now question ≡ true) (few : length c.asks < 64) (right : told → Means c p → l ≡ answer_now p question) where
  abbrev next : ℕ
  next = c.numbers.asked + 1

  abbrev more : OpenQuestion
  more = open_question next by question parted l

  pub opened : Step told 0 c (asked_core c by question parted l) p (plain_note by (act.Ask next question parted) (Asked next))
  opened = record {
    stands = stands c p by question parted a client next (Asked next) (none-next c p by question parted a client) refl
        (ap (list_any (same_reply (Asked next))) (replies-now p question now ∙ room c p by question parted a client false (lt-leb 64 (length c.asks) few)) ∙ asked-listed next (p.asked + 1) (ap (λ n. n + 1) (sym a.numbers.asked)))
        tt refl refl;
    agrees = record {
      mem = a.mem;
      numbers = record { next = a.numbers.next; file = a.numbers.file; asked = ap (λ n. n + 1) a.numbers.asked; started = a.numbers.started; upto = a.numbers.upto; files_upto = a.numbers.files_upto };
      asks = record {
        same = map-append unanswered c.asks (more ∷ []) ∙ (λ i. a.asks.same i ++ unanswered more ∷ []) ∙ sym (map-append unanswered p.questions (new_question p by next question parted ∷ []));
        numbered = All-push (IsNumbered next) c.asks more
            (λ k d l. let n = a.asks.numbered k d l in record { from = n.from; given = (let g = n.given in omega arith); client = n.client })
            (record { from = omega arith; given = omega arith; client = client });
      };
      files = a.files;
      jobs = a.jobs;
      snaps = a.snaps;
      cursors = a.cursors;
      loads = a.loads;
      owned = a.owned;
      under_way = a.under_way;
    };
    answers = λ t m. tt;
    means = λ t m. record { image = m.image; order = m.order; numbers = m.numbers; tables = m.tables; striped = m.striped; asks = λ i. m.asks i ++ open_question next by question parted (right t m i) ∷ [] };
    booked = refl;
    undamaged = λ t. refl;
  }
