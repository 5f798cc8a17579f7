-- Each step of the story, by its law.
use Rattle.std.proofs.Common.{◌≡◌, true, eqb, ◌||◌, List, [], ◌∷◌, map, Some, inl, inr, refl, sym, ap, subst, IsTrue, arith}
use Rattle.std.proofs.lemmas.List.Elements.{All-nil}
use Rattle.std.specs.FinMap.{empty, get-insert}
use Rattle.xdb_edit.specs.Records.{IsEdit}
use Rattle.xdb_key.proofs.OrderLaws.{key_total}
use Rattle.xdb_key.specs.Bounds.{covers, key_hull}
use Rattle.xdb_key.specs.Entries.{tombstone}
use Rattle.xdb_laws.specs.Excises.{item_hull}
use Rattle.xdb_lists.specs.Numbers.{is_among}
use Rattle.xdb_meta.specs.Table.{Table, bounds_of}
use Rattle.xdb_plain.specs.Answers.{answer_now, landing, value_or_absent}
use Rattle.xdb_plain.specs.Changes.{after}
use Rattle.xdb_plain.specs.Legal.{after_all}
use Rattle.xdb_plain.specs.State.{Plain, opening}
use Rattle.xdb_plain.specs.declared.act.Act.TheVariants as act
use Rattle.xdb_plain.specs.declared.act.By.TheVariants.{Client, Db}
use Rattle.xdb_plain.specs.declared.act.CommitForm.TheVariants as form
use Rattle.xdb_plain.specs.declared.answer.Answer.TheVariants.{Value}
use Rattle.xdb_plain.specs.declared.note.HoldNote.TheVariants.{Hold as Taken, Release}
use Rattle.xdb_plain.specs.declared.question.Place.TheVariants.{Before}
use Rattle.xdb_plain.specs.declared.reply.Reply.TheVariants as reply
use Rattle.xdb_rangedel.specs.Content.{Item, entry, span, seq_of}
use Rattle.xdb_rangedel.specs.Members.{Has, SameMembers}
use Rattle.xdb_steps.specs.Between.{Held}
use Rattle.xdb_plain.specs.declared.note.Note.{Note}
use Rattle.xdb_steps.specs.Core.{Core, RunningJob, holders, next_hold}
use Rattle.xdb_steps.specs.Flush.{IsFlushed, flush_content}
use Rattle.xdb_steps.specs.Handouts.{IsHandoutOf}
use Rattle.xdb_steps.specs.Keeps.{Agrees, Means}
use Rattle.xdb_steps.specs.Notes.{plain_note, held_note, put_note}
use Rattle.xdb_steps.specs.Parts.Asks.{IsNumbered}
use Rattle.xdb_steps.specs.Step.{HeldStep}
use Rattle.xdb_steps.specs.Tables.{IsTableOf}
use Rattle.xdb_steps.specs.Story.{AreSteps, first_core, story, ops, question, answer, content, edit, flushed_table, content_of, a, one, range, range_ops, range_content, range_table, range_edit, after_commit, after_seal, after_ask, after_take, after_put, after_settle, after_range, after_second_seal, after_second_take, after_second_put, last_core, last_state, last_part, last_handed}
use Rattle.xdb_steps.proofs.CommitSteps.{done}
use Rattle.xdb_steps.proofs.FlushSteps.{taken, put-installed}
use Rattle.xdb_steps.proofs.HoldSteps.{opened-held, ended-held}
use Rattle.xdb_steps.proofs.Holding.{step-free}
use Rattle.xdb_steps.proofs.KnownNumbers.{or_nothing}
use Rattle.xdb_steps.proofs.OpeningLaws.{opening-means}
use Rattle.xdb_steps.proofs.SealSteps.{sealed}
use Rattle.xdb_steps.proofs.SettleSteps as settles

pub first-agrees : Agrees first_core (opening 1 1)
first-agrees = record {
  mem = record { sealed = refl; active = refl; rising = omega arith; above = omega arith };
  numbers = record { next = refl; file = refl; asked = refl; started = refl; upto = omega arith; files_upto = omega arith };
  asks = record { same = refl; numbered = All-nil (IsNumbered 0) };
  files = record { current = refl; holds = λ x. (λ h. h, λ h. h); known = λ n. refl; taken = λ n. refl; rising = omega arith };
  jobs = record { same = refl };
  snaps = record { none = refl };
  cursors = record { none = refl };
  loads = record { none = refl };
  owned = record { below = tt; unknown = tt; apart = tt };
  under_way = tt;
}

first-held : Held first_core.files.holds (holders first_core)
first-held = record { whose = λ x. (λ h. h, λ h. h); one_each = λ h k has. absurd has; one_number = λ h k has. absurd has }

abbrev p0 : Plain
p0 = opening 1 1

abbrev p1 : Plain
p1 = after p0 (plain_note (Client 1) (act.Commit form.Put ops) reply.Done)

abbrev p2 : Plain
p2 = after p1 (plain_note Db act.Seal (reply.Group 1))

abbrev p3 : Plain
p3 = after p2 (held_note (Client 1) (act.Ask 1 question true) (reply.Asked 1) (Taken 0 0 ∷ []))

abbrev p4 : Plain
p4 = after p3 (plain_note Db act.FlushTake (reply.Job 1))

abbrev p5 : Plain
p5 = after p4 (put_note 1 edit [])

commits : HeldStep (IsTrue true) 0 first_core after_commit p0 (plain_note (Client 1) (act.Commit form.Put ops) reply.Done)
commits = step-free (done first_core p0 (Client 1) form.Put ops first-agrees refl (omega arith)) refl refl first-held

seals : HeldStep (IsTrue true) 0 after_commit after_seal p1 (plain_note Db act.Seal (reply.Group 1))
seals = step-free (sealed after_commit p1 commits.step.agrees refl) refl refl commits.held

-- what was put is there
its-answer : answer ≡ answer_now p2 question
its-answer = ap (λ o. landing (value_or_absent o) Before) (sym (get-insert key_total empty a one a))

asks : HeldStep (IsTrue true) 0 after_seal after_ask p2 (held_note (Client 1) (act.Ask 1 question true) (reply.Asked 1) (Taken 0 0 ∷ []))
asks = opened-held after_seal p2 (Client 1) question true answer 0 (next_hold after_seal 0 ∷ []) seals.step.agrees seals.held refl refl (omega arith) (λ t m. its-answer) (λ h has. absurd has) (λ x. (λ h. h, λ h. h))

takes : HeldStep (IsTrue true) 0 after_ask after_take p3 (plain_note Db act.FlushTake (reply.Job 1))
takes = taken after_ask p3 asks.step.agrees asks.held 1 content [] (record { first = _; behind = []; oldest = refl; num = refl; whole = λ x. (λ h. h, λ h. h) }) refl (omega arith)

fits-edit : IsEdit edit
fits-edit = record {
  order = refl;
  ranges = refl;
  tables = (record { num = refl; backing = refl; lo = (omega arith, omega arith); hi = (omega arith, omega arith); range = refl; seqs = omega arith; small = omega arith; synthetic = refl; size = refl; virt = refl }, tt);
}

one-of : (x i : Item) → Has (x ∷ []) i → x ≡ i
one-of x i (inl e) = e
one-of x i (inr nil) = absurd nil

-- a content of one item, which thinning leaves, and a table around it
flushed-one : (r : RunningJob) (x : Item) (t : Table) → r.content ≡ x ∷ [] → flush_content r ≡ x ∷ [] → covers (bounds_of t) (item_hull x) ≡ true → (item_hull x).lo ≡ t.lo → (item_hull x).hi ≡ t.hi → t.seq_lo ≡ seq_of x → seq_of x ≡ t.seq_hi → IsFlushed r t (x ∷ [])
flushed-one r x t given left inside lo hi least greatest = record {
  content = subst (SameMembers (x ∷ [])) (sym left) (λ i. (λ h. h, λ h. h));
  table = subst (IsTableOf t) (sym left) (record {
    inside = λ i h. subst (λ y. covers (bounds_of t) (item_hull y) ≡ true) (one-of x i h) inside;
    lo = (x, inl refl, lo);
    hi = (x, inl refl, hi);
    numbers = λ i h. let same = ap seq_of (one-of x i h) in (omega (arith, same, least), omega (arith, same, greatest));
  });
  greatest = subst (λ c. (i : Item) × Has c i × (seq_of i ≡ t.seq_hi)) (sym left) (x, inl refl, greatest);
}

puts : HeldStep (IsTrue true) 0 after_take after_put p4 (put_note 1 edit [])
puts = put-installed after_take p4 1 takes.step.agrees takes.held _ 1 refl refl (omega arith, omega arith) (record { oldest = (refl, tt); one = (tt, tt) }) (record { seven = refl; sorted = refl }) edit flushed_table content_of (1 ∷ []) fits-edit (record { removed = refl; new_backings = refl; added = refl }) (λ n. sym (or_nothing (is_among n (1 ∷ [])))) refl refl
    (λ t. flushed-one _ (entry a 1 (Some one)) flushed_table refl refl refl refl refl refl refl)

settles-it : HeldStep (IsTrue true) 0 after_put after_settle p5 (held_note (Client 1) (act.Settle 1) (reply.Answered (Value one)) (Release 0 ∷ []))
settles-it = ended-held after_put p5 (Client 1) (act.Settle 1) (reply.Answered (Value one)) 1 (next_hold after_seal 0) [] puts.step.agrees puts.held (inl refl) refl (λ x. (λ h. h, λ h. h))
    (settles.in_parts after_put p5 (Client 1) 1 puts.step.agrees refl _ refl (Value one) (λ t m. refl) refl) refl refl

-- ---- a range delete

abbrev p6 : Plain
p6 = after p5 (held_note (Client 1) (act.Settle 1) (reply.Answered (Value one)) (Release 0 ∷ []))

abbrev p7 : Plain
p7 = after p6 (plain_note (Client 1) (act.Commit form.Put range_ops) reply.Done)

abbrev p8 : Plain
p8 = after p7 (plain_note Db act.Seal (reply.Group 2))

abbrev p9 : Plain
p9 = after p8 (plain_note Db act.FlushTake (reply.Job 2))

abbrev p10 : Plain
p10 = after p9 (put_note 2 range_edit [])

deletes : HeldStep (IsTrue true) 0 after_settle after_range p6 (plain_note (Client 1) (act.Commit form.Put range_ops) reply.Done)
deletes = step-free (done after_settle p6 (Client 1) form.Put range_ops settles-it.step.agrees refl (omega arith)) refl refl settles-it.held

seals-again : HeldStep (IsTrue true) 0 after_range after_second_seal p7 (plain_note Db act.Seal (reply.Group 2))
seals-again = step-free (sealed after_range p7 deletes.step.agrees refl) refl refl deletes.held

takes-again : HeldStep (IsTrue true) 0 after_second_seal after_second_take p8 (plain_note Db act.FlushTake (reply.Job 2))
takes-again = taken after_second_seal p8 seals-again.step.agrees seals-again.held 2 range_content [] (record { first = _; behind = []; oldest = refl; num = refl; whole = λ x. (λ h. h, λ h. h) }) refl (omega arith)

fits-range_edit : IsEdit range_edit
fits-range_edit = record {
  order = refl;
  ranges = refl;
  tables = (record { num = refl; backing = refl; lo = (omega arith, omega arith); hi = (omega arith, omega arith); range = refl; seqs = omega arith; small = omega arith; synthetic = refl; size = refl; virt = refl }, tt);
}

puts-again : HeldStep (IsTrue true) 0 after_second_take after_second_put p9 (put_note 2 range_edit [])
puts-again = put-installed after_second_take p9 2 takes-again.step.agrees takes-again.held _ 2 refl refl (omega arith, omega arith) (record { oldest = (refl, tt); one = (tt, tt) }) (record { seven = refl; sorted = refl }) range_edit range_table content_of (2 ∷ 1 ∷ []) fits-range_edit (record { removed = refl; new_backings = refl; added = refl }) (λ n. ap (λ b. b || is_among n (1 ∷ [])) (sym (or_nothing (eqb 2 n)))) refl refl
    (λ t. flushed-one _ (span (tombstone range 2)) range_table refl refl refl refl refl refl refl)

commits-again : HeldStep (IsTrue true) 0 after_second_put last_core p10 (plain_note (Client 1) (act.Commit form.Put ops) reply.Done)
commits-again = step-free (done after_second_put p10 (Client 1) form.Put ops puts-again.step.agrees refl (omega arith)) refl refl puts-again.held

pub whole-story : AreSteps first_core (opening 1 1) story
whole-story = (commits, (seals, (asks, (takes, (puts, (settles-it, (deletes, (seals-again, (takes-again, (puts-again, (commits-again, tt)))))))))))

abbrev last-of : Core → List (Note × Core) → Core
last-of c [] = c
last-of c (s ∷ ss) = last-of s.1 ss

-- what the first parts mean, those behind each step mean
pub still-mean : (c : Core) (p : Plain) (ss : List (Note × Core)) → Means c p → AreSteps c p ss → Means (last-of c ss) (after_all p (map (λ s. s.0) ss))
still-mean c p [] m steps = m
still-mean c p (s ∷ ss) m steps = still-mean s.1 (after p s.0) ss (steps.0.step.means refl m) steps.1

pub last-means : Means last_core last_state
last-means = still-mean first_core (opening 1 1) story (opening-means 1 1) whole-story

pub last-handout : IsHandoutOf last_core (key_hull a) last_part last_handed
last-handout = record { mem = λ x. (λ h. h, λ h. h); tables = λ x. (λ h. h, λ h. h) }
