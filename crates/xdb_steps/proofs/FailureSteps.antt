-- A question that ends in vain, and work that there is none of.
use Rattle.std.proofs.Common.{◌≡◌, ℕ, true, false, cond, [], ◌∷◌, Option, Some, None, refl, sym, ap, ◌∙◌, subst, IsTrue}
use Rattle.std.proofs.lemmas.Bool.{false≢true}
use Rattle.std.specs.List.{list_any}
use Rattle.xdb_plain.specs.Failures.{faults, is_damage}
use Rattle.xdb_plain.specs.Outcomes.{outcome, fails}
use Rattle.xdb_plain.specs.Replies.{same_reply, ask_replies, work_replies, build_replies}
use Rattle.xdb_plain.specs.State.{Plain, OpenQuestion, Job, found_job, found_question, without_question}
use Rattle.xdb_plain.specs.Steps.{FitsAsk}
use Rattle.xdb_plain.specs.declared.act.Act.{Act}
use Rattle.xdb_plain.specs.declared.act.Act.TheVariants as act
use Rattle.xdb_plain.specs.declared.act.By.TheVariants.{Db}
use Rattle.xdb_plain.specs.declared.answer.Answer.TheVariants.{Absent}
use Rattle.xdb_plain.specs.declared.reply.Reply.{Reply}
use Rattle.xdb_plain.specs.declared.reply.Reply.TheVariants.{Answered, NoSuch, Memory, Fault, Damaged}
use Rattle.xdb_steps.specs.Core.{Core, ended_core}
use Rattle.xdb_steps.specs.Keeps.{Agrees, Means}
use Rattle.xdb_steps.specs.Notes.{plain_note, is_work}
use Rattle.xdb_steps.specs.Step.{Step}
use Rattle.xdb_steps.proofs.Found.{plain-some, numbered-at, IsTold}
use Rattle.xdb_steps.proofs.Frame.{still}
use Rattle.xdb_steps.proofs.SettleSteps.{asks-left}
use Rattle.xdb_steps.proofs.Vain.{InVain, in-vain}

module _ (c : Core) (p : Plain) (ask : ℕ) (q : OpenQuestion) (r : Reply) (rise : ℕ) (a : Agrees c p) (there : found_question ask c.asks ≡ Some q) (ends : outcome r ≡ fails) where
  plain : IsTold q (found_question ask p.questions)
  plain = plain-some c p a ask q there

  parted-is : plain.told.parted ≡ q.parted
  parted-is = ap (λ x. x.parted) plain.same

  vain : InVain r
  vain = in-vain r ends

  pub in_parts : {told : Type 0} → rise ≡ faults (plain_note Db (act.Work ask) r ∷ []) → (told → is_damage r ≡ false) → q.parted ≡ true → Step told rise c (ended_core c ask) p (plain_note Db (act.Work ask) r)
  in_parts booked undamaged parted =
      let same = sym (vain.same p Db (act.Work ask) None [] []) in
      record {
        stands = record {
          by = refl;
          reply = ap (λ o. list_any (same_reply r) (work_replies o)) plain.there
              ∙ ap (λ b. list_any (same_reply r) (NoSuch ∷ cond b (Fault ∷ Damaged 0 0 ∷ Memory ∷ []) [])) (parted-is ∙ parted) ∙ vain.of_work;
          act = tt;
          edit = vain.edit p (act.Work ask);
          tried = refl;
          shown = vain.shown p;
        };
        agrees = subst (Agrees (ended_core c ask)) same (record {
          mem = a.mem;
          numbers = a.numbers;
          asks = asks-left c.numbers.asked ask c.asks p.questions a.asks;
          files = a.files;
          jobs = a.jobs;
          snaps = a.snaps;
          cursors = a.cursors;
          loads = a.loads;
          owned = a.owned;
          under_way = a.under_way;
        });
        answers = λ t m. vain.answers p (act.Work ask);
        means = λ t m. subst (Means (ended_core c ask)) same (record { image = m.image; order = m.order; numbers = m.numbers; tables = m.tables; striped = m.striped; asks = ap (without_question ask) m.asks });
        booked = booked;
        undamaged = undamaged;
      }

  pub whole : {told : Type 0} → rise ≡ faults (plain_note q.by (act.Ask ask q.question false) r ∷ []) → (told → is_damage r ≡ false) → q.parted ≡ false → Step told rise c (ended_core c ask) p (plain_note q.by (act.Ask ask q.question false) r)
  whole booked undamaged parted =
      let same = sym (vain.same p q.by (act.Ask ask q.question false) None [] []) in
      record {
        stands = record {
          by = (numbered-at c p a ask q there).client;
          reply = ap (λ o. list_any (same_reply r) (ask_replies p q.question o)) plain.there
              ∙ ap (λ b. list_any (same_reply r) (cond b [] (Answered Absent ∷ Fault ∷ Damaged 0 0 ∷ Memory ∷ []))) (parted-is ∙ parted) ∙ vain.of_ask;
          act = subst (λ o. FitsAsk o q.by ask q.question false r) (sym plain.there)
              (record { same_question = ap (λ x. x.question) plain.same; same_parted = parted-is ∙ parted; told_by = vain.told_by plain.told.by q.by (ap (λ x. x.by) plain.same) });
          edit = vain.edit p (act.Ask ask q.question false);
          tried = refl;
          shown = vain.shown p;
        };
        agrees = subst (Agrees (ended_core c ask)) same (record {
          mem = a.mem;
          numbers = a.numbers;
          asks = asks-left c.numbers.asked ask c.asks p.questions a.asks;
          files = a.files;
          jobs = a.jobs;
          snaps = a.snaps;
          cursors = a.cursors;
          loads = a.loads;
          owned = a.owned;
          under_way = a.under_way;
        });
        answers = λ t m. vain.answers p (act.Ask ask q.question false);
        means = λ t m. subst (Means (ended_core c ask)) same (record { image = m.image; order = m.order; numbers = m.numbers; tables = m.tables; striped = m.striped; asks = ap (without_question ask) m.asks });
        booked = booked;
        undamaged = undamaged;
      }

build-listed : (o : Option Job) → list_any (same_reply NoSuch) (build_replies o) ≡ true
build-listed None = refl
build-listed (Some job) = refl

work-listed : (o : Option OpenQuestion) → list_any (same_reply NoSuch) (work_replies o) ≡ true
work-listed None = refl
work-listed (Some q) = refl

pub no_such : {told : Type 0} (c : Core) (p : Plain) (work : Act) → Agrees c p → IsTrue (is_work work) → Step told 0 c c p (plain_note Db work NoSuch)
no_such c p (act.Build job) a h =
    still c p (plain_note Db (act.Build job) NoSuch) a (record { by = refl; reply = build-listed (found_job job p.jobs); act = tt; edit = refl; tried = refl; shown = tt }) tt refl refl
no_such c p (act.Work ask) a h =
    still c p (plain_note Db (act.Work ask) NoSuch) a (record { by = refl; reply = work-listed (found_question ask p.questions); act = tt; edit = refl; tried = refl; shown = tt }) tt refl refl
no_such c p _ a h = absurd (false≢true h)
