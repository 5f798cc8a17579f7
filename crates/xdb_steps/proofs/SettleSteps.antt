-- A question that is settled.
use Rattle.std.proofs.Common.{◌≡◌, ℕ, true, false, not, cond, eqb, List, [], ◌∷◌, Option, Some, None, refl, sym, ap, ◌∙◌, subst, IsTrue}
use Rattle.std.proofs.lemmas.List.Elements.{All-filter}
use Rattle.std.specs.List.{list_any}
use Rattle.std.specs.Option.{option_map}
use Rattle.xdb_plain.specs.Changes.{settled}
use Rattle.xdb_plain.specs.Replies.{same_reply, ask_replies, settle_replies}
use Rattle.xdb_plain.specs.State.{Plain, Cursor, OpenQuestion, found_question, without_question}
use Rattle.xdb_plain.specs.Steps.{FitsAsk, is_client}
use Rattle.xdb_plain.specs.declared.act.Act.TheVariants as act
use Rattle.xdb_plain.specs.declared.act.By.{By}
use Rattle.xdb_plain.specs.declared.answer.Answer.{Answer}
use Rattle.xdb_plain.specs.declared.answer.Answer.TheVariants.{Absent}
use Rattle.xdb_plain.specs.declared.reply.Reply.TheVariants.{Answered, NoSuch, NotYet, Memory, Fault, Damaged}
use Rattle.xdb_steps.specs.Core.{Core, ended_core}
use Rattle.xdb_steps.specs.Keeps.{Agrees, Means}
use Rattle.xdb_steps.specs.Notes.{plain_note}
use Rattle.xdb_steps.specs.Parts.Asks.{AsksAgree, IsNumbered, unanswered}
use Rattle.xdb_steps.specs.Parts.Unbuilt.{CursorsAgree}
use Rattle.xdb_steps.specs.Step.{Step}
use Rattle.xdb_steps.proofs.Found.{plain-none, plain-some, without-mapped, IsTold}
use Rattle.xdb_steps.proofs.Frame.{still}

-- ---- what the end of a question leaves

pub asks-left : (count ask : ℕ) (asks questions : List OpenQuestion) → AsksAgree count asks questions → AsksAgree count (without_question ask asks) (without_question ask questions)
asks-left count ask asks questions a = record {
  same = sym (without-mapped unanswered ask asks) ∙ ap (without_question ask) a.same ∙ without-mapped unanswered ask questions;
  numbered = All-filter (λ q. not (eqb q.ask ask)) (IsNumbered count) asks a.numbered;
}

cursors-left : (o : Option OpenQuestion) (cursors : List Cursor) → CursorsAgree cursors → CursorsAgree (settled o cursors)
cursors-left None cursors a = a
cursors-left (Some q) cursors a = record { none = ap (λ cs. settled (Some q) cs) a.none }

-- ---- a settle

module _ (c : Core) (p : Plain) (by : By) (ask : ℕ) (a : Agrees c p) (client : IsTrue (is_client by)) where
  pub none : {told : Type 0} → found_question ask c.asks ≡ None → Step told 0 c c p (plain_note by (act.Settle ask) NoSuch)
  none there =
      still c p (plain_note by (act.Settle ask) NoSuch) a
      (record { by = client; reply = ap (λ o. list_any (same_reply NoSuch) (settle_replies o)) (plain-none c p a ask there); act = tt; edit = refl; tried = refl; shown = tt }) tt refl refl

  module _ (q : OpenQuestion) (there : found_question ask c.asks ≡ Some q) where
    plain : IsTold q (found_question ask p.questions)
    plain = plain-some c p a ask q there

    parted-is : plain.told.parted ≡ q.parted
    parted-is = ap (λ x. x.parted) plain.same

    pub early : {told : Type 0} → Step told 0 c c p (plain_note by (act.Settle ask) NotYet)
    early =
        still c p (plain_note by (act.Settle ask) NotYet) a
        (record { by = client; reply = ap (λ o. list_any (same_reply NotYet) (settle_replies o)) plain.there; act = tt; edit = refl; tried = refl; shown = tt }) tt refl refl

    module _ {told : Type 0} (answer : Answer) (right : told → Means c p → q.answer ≡ answer) where
      kept : told → Means c p → option_map (λ x. x.answer) (found_question ask p.questions) ≡ Some answer
      kept t m = ap (λ qs. option_map (λ x. x.answer) (found_question ask qs)) (sym m.asks) ∙ ap (option_map (λ x. x.answer)) there ∙ ap Some (right t m)

      pub in_parts : q.parted ≡ true → Step told 0 c (ended_core c ask) p (plain_note by (act.Settle ask) (Answered answer))
      in_parts parted = record {
        stands = record {
          by = client;
          reply = ap (λ o. list_any (same_reply (Answered answer)) (settle_replies o)) plain.there
              ∙ ap (λ b. list_any (same_reply (Answered answer)) (NotYet ∷ cond b (Answered Absent ∷ []) [])) (parted-is ∙ parted);
          act = tt;
          edit = refl;
          tried = refl;
          shown = tt;
        };
        agrees = record {
          mem = a.mem;
          numbers = a.numbers;
          asks = asks-left c.numbers.asked ask c.asks p.questions a.asks;
          files = a.files;
          jobs = a.jobs;
          snaps = a.snaps;
          cursors = cursors-left (found_question ask p.questions) p.cursors a.cursors;
          loads = a.loads;
          owned = a.owned;
          under_way = a.under_way;
        };
        answers = kept;
        means = λ t m. record { image = m.image; order = m.order; numbers = m.numbers; tables = m.tables; striped = m.striped; asks = ap (without_question ask) m.asks };
        booked = refl;
        undamaged = λ t. refl;
      }

      pub whole : q.parted ≡ false → Step told 0 c (ended_core c ask) p (plain_note by (act.Ask ask q.question false) (Answered answer))
      whole parted = record {
        stands = record {
          by = client;
          reply = ap (λ o. list_any (same_reply (Answered answer)) (ask_replies p q.question o)) plain.there
              ∙ ap (λ b. list_any (same_reply (Answered answer)) (cond b [] (Answered Absent ∷ Fault ∷ Damaged 0 0 ∷ Memory ∷ []))) (parted-is ∙ parted);
          act = subst (λ o. FitsAsk o by ask q.question false (Answered answer)) (sym plain.there)
              (record { same_question = ap (λ x. x.question) plain.same; same_parted = parted-is ∙ parted; told_by = tt });
          edit = refl;
          tried = refl;
          shown = tt;
        };
        agrees = record {
          mem = a.mem;
          numbers = a.numbers;
          asks = asks-left c.numbers.asked ask c.asks p.questions a.asks;
          files = a.files;
          jobs = a.jobs;
          snaps = a.snaps;
          cursors = cursors-left (found_question ask p.questions) p.cursors a.cursors;
          loads = a.loads;
          owned = a.owned;
          under_way = a.under_way;
        };
        answers = kept;
        means = λ t m. record { image = m.image; order = m.order; numbers = m.numbers; tables = m.tables; striped = m.striped; asks = ap (without_question ask) m.asks };
        booked = refl;
        undamaged = λ t. refl;
      }
