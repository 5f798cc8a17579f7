-- Questions are numbered in order.
use Rattle.std.proofs.Common.{◌≡◌, ℕ, ◌+◌, ◌<◌, ◌≤◌, Bool, true, false, cond, not, eqb, leb, List, [], ◌∷◌, ◌++◌, length, map, Option, Some, None, refl, ap, ◌∙◌, arith}
use Rattle.std.proofs.lemmas.Bool.{false≢true}
use Rattle.std.specs.List.{list_any}
use Rattle.xdb_key.specs.Bounds.{Bounds, holds, covers}
use Rattle.xdb_key.specs.declared.state.SnapState.{SnapState}
use Rattle.xdb_key.specs.declared.state.SnapState.TheVariants as state
use Rattle.xdb_plain.specs.Changes.{after, questions_after, asked_after, new_question}
use Rattle.xdb_plain.specs.Legal.{Legal, after_all}
use Rattle.xdb_plain.specs.Outcomes.{Outcome, succeeds, begins, fails, stays, outcome}
use Rattle.xdb_plain.specs.Replies.{may_reply, same_reply, ask_replies, new_ask_replies, room_replies, excised_or, through_replies, at_replies, on_cursor_replies, or_reply, busy_reply, busy_on}
use Rattle.xdb_plain.specs.State.{Plain, Snapshot, Cursor, OpenQuestion, opening, found_snap, found_cursor, found_question, without_question}
use Rattle.xdb_plain.specs.Steps.{MayStand, FitsAct, FitsAsk, asked_number}
use Rattle.xdb_plain.specs.declared.act.Act.{Act}
use Rattle.xdb_plain.specs.declared.act.Act.TheVariants as act
use Rattle.xdb_plain.specs.declared.act.By.{By}
use Rattle.xdb_plain.specs.declared.answer.Answer.TheVariants.{Absent}
use Rattle.xdb_plain.specs.declared.note.Note.{Note}
use Rattle.xdb_plain.specs.declared.question.Question.{Question}
use Rattle.xdb_plain.specs.declared.question.Question.TheVariants.{Get, Scan, RScan, Move}
use Rattle.xdb_plain.specs.declared.reply.Reply.{Reply}
use Rattle.xdb_plain.specs.declared.reply.Reply.TheVariants as reply
use Rattle.xdb_model.proofs.LegalLaws.{over-legal}
use Rattle.xdb_model.proofs.CauseLaws.{same-number}
use Rattle.xdb_model.specs.Numbered.{RiseTo, QuestionsFit}

-- ---- a question that is opened has the next number

abbrev pub Opens : Plain → Reply → Type 0
Opens p r = r ≡ reply.Asked (p.asked + 1)

begins-not : {A : Type 0} → stays ≡ begins → A
begins-not e = absurd (cc)

fails-not : {A : Type 0} → fails ≡ begins → A
fails-not e = absurd (cc)

succeeds-not : {A : Type 0} → succeeds ≡ begins → A
succeeds-not e = absurd (cc)

not-there : {A : Type 0} → false ≡ true → A
not-there e = absurd (false≢true e)

none-such : (p : Plain) (r : Reply) → outcome r ≡ begins → list_any (same_reply r) (reply.NoSuch ∷ []) ≡ true → Opens p r
none-such p reply.NoSuch o e = begins-not o
none-such p _ o e = not-there e

outside : (p : Plain) (r : Reply) → outcome r ≡ begins → list_any (same_reply r) (reply.Outside ∷ []) ≡ true → Opens p r
outside p reply.Outside o e = begins-not o
outside p _ o e = not-there e

excised-now : (p : Plain) (load : List ℕ) (r : Reply) → outcome r ≡ begins → list_any (same_reply r) (reply.Excised load ∷ []) ≡ true → Opens p r
excised-now p load (reply.Excised l) o e = begins-not o
excised-now p load _ o e = not-there e

busy : (p : Plain) (ask : ℕ) (r : Reply) → outcome r ≡ begins → list_any (same_reply r) (reply.Busy ask ∷ []) ≡ true → Opens p r
busy p ask (reply.Busy n) o e = begins-not o
busy p ask _ o e = not-there e

in-room : (p : Plain) (full : Bool) (r : Reply) → outcome r ≡ begins → list_any (same_reply r) (cond full (reply.TooMany ∷ []) (reply.Memory ∷ reply.Asked (p.asked + 1) ∷ [])) ≡ true → Opens p r
in-room p true reply.TooMany o e = begins-not o
in-room p false reply.Memory o e = fails-not o
in-room p false (reply.Asked n) o e = ap reply.Asked (same-number n (p.asked + 1) e)
in-room p true _ o e = not-there e
in-room p false _ o e = not-there e

with-room : (p : Plain) (r : Reply) → outcome r ≡ begins → list_any (same_reply r) (room_replies p) ≡ true → Opens p r
with-room p r o e = in-room p (leb 64 (length p.questions)) r o e

by-state : (p : Plain) (s : SnapState) (r : Reply) → outcome r ≡ begins → list_any (same_reply r) (excised_or s (room_replies p)) ≡ true → Opens p r
by-state p (state.Pinned group) r o e = with-room p r o e
by-state p state.FileOnly r o e = with-room p r o e
by-state p (state.Excised load) r o e = excised-now p load r o e

inside-or : (p : Plain) (t : Bool) (s : SnapState) (r : Reply) → outcome r ≡ begins → list_any (same_reply r) (cond t (excised_or s (room_replies p)) (reply.Outside ∷ [])) ≡ true → Opens p r
inside-or p true s r o e = by-state p s r o e
inside-or p false s r o e = outside p r o e

through : (p : Plain) (is_inside : Bounds → Bool) (s : Option Snapshot) (r : Reply) → outcome r ≡ begins → list_any (same_reply r) (through_replies is_inside s (room_replies p)) ≡ true → Opens p r
through p is_inside None r o e = none-such p r o e
through p is_inside (Some s) r o e = inside-or p (list_any is_inside s.ranges) s.state r o e

at-snap : (p : Plain) (is_inside : Bounds → Bool) (at : Option (List ℕ)) (r : Reply) → outcome r ≡ begins → list_any (same_reply r) (at_replies p is_inside at (room_replies p)) ≡ true → Opens p r
at-snap p is_inside None r o e = with-room p r o e
at-snap p is_inside (Some name) r o e = through p is_inside (found_snap name p.snaps) r o e

unless-busy : (p : Plain) (q : Option OpenQuestion) (r : Reply) → outcome r ≡ begins → list_any (same_reply r) (or_reply busy_reply q (room_replies p)) ≡ true → Opens p r
unless-busy p None r o e = with-room p r o e
unless-busy p (Some q) r o e = busy p q.ask r o e

on-cursor : (p : Plain) (c : Option Cursor) (r : Reply) → outcome r ≡ begins → list_any (same_reply r) (on_cursor_replies p c (room_replies p)) ≡ true → Opens p r
on-cursor p None r o e = none-such p r o e
on-cursor p (Some c) r o e = unless-busy p (busy_on c.name p.questions) r o e

opens-new : (p : Plain) (question : Question) (r : Reply) → outcome r ≡ begins → list_any (same_reply r) (new_ask_replies p question) ≡ true → Opens p r
opens-new p (Get key at) r o e = at-snap p (λ b. holds b key) at r o e
opens-new p (Scan range most at) r o e = at-snap p (λ b. covers b range) at r o e
opens-new p (RScan range most at) r o e = at-snap p (λ b. covers b range) at r o e
opens-new p (Move cursor step) r o e = on-cursor p (found_cursor cursor p.cursors) r o e

answers-old : {A : Type 0} (t : Bool) (r : Reply) → outcome r ≡ begins → list_any (same_reply r) (cond t [] (reply.Answered Absent ∷ reply.Fault ∷ reply.Damaged 0 0 ∷ reply.Memory ∷ [])) ≡ true → A
answers-old true r o e = not-there e
answers-old false (reply.Answered a) o e = succeeds-not o
answers-old false reply.Fault o e = fails-not o
answers-old false (reply.Damaged a b) o e = fails-not o
answers-old false reply.Memory o e = fails-not o
answers-old false _ o e = not-there e

next-number : (p : Plain) (by : By) (ask : ℕ) (question : Question) (parted : Bool) (q : Option OpenQuestion) (r : Reply) → outcome r ≡ begins → list_any (same_reply r) (ask_replies p question q) ≡ true → FitsAsk q by ask question parted r → ask ≡ p.asked + 1
next-number p by ask question parted None r o e fits = fits ∙ ap asked_number (opens-new p question r o e)
next-number p by ask question parted (Some q) r o e fits = answers-old q.parted r o e

-- ---- rising numbers

abbrev pub asks : List OpenQuestion → List ℕ
asks questions = map (λ q. q.ask) questions

rise-push : (last most : ℕ) (qs : List OpenQuestion) (q : OpenQuestion) → q.ask ≡ most + 1 → RiseTo last most (asks qs) → RiseTo last (most + 1) (asks (qs ++ q ∷ []))
rise-push last most [] q is h = (omega arith, omega arith)
rise-push last most (x ∷ qs) q is h = (h.0, rise-push x.ask most qs q is h.1)

rise-from : (low last most : ℕ) (ns : List ℕ) → low ≤ last → RiseTo last most ns → RiseTo low most ns
rise-from low last most [] le h = omega arith
rise-from low last most (n ∷ ns) le h =
    let first = h.0 in
    (omega arith, h.1)

rise-kept : (last most : ℕ) (x : OpenQuestion) (rest : List OpenQuestion) (t : Bool) → last < x.ask → RiseTo x.ask most (asks rest) → RiseTo last most (asks (cond t (x ∷ rest) rest))
rise-kept last most x rest true above h = (above, h)
rise-kept last most x rest false above h = rise-from last x.ask most (asks rest) (omega arith) h

rise-without : (last most ask : ℕ) (qs : List OpenQuestion) → RiseTo last most (asks qs) → RiseTo last most (asks (without_question ask qs))
rise-without last most ask [] h = h
rise-without last most ask (x ∷ qs) h = rise-kept last most x (without_question ask qs) (not (eqb x.ask ask)) h.0 (rise-without x.ask most ask qs h.1)

questions-by : (p : Plain) (by : By) (a : Act) (o : Outcome) (r : Reply) → outcome r ≡ o → list_any (same_reply r) (may_reply p by a) ≡ true → FitsAct p by a r → RiseTo 0 p.asked (asks p.questions) → RiseTo 0 (asked_after p a o) (asks (questions_after p by a o))
questions-by p by (act.Ask ask question parted) begins r is may fits h =
    rise-push 0 p.asked p.questions (new_question p by ask question parted) (next-number p by ask question parted (found_question ask p.questions) r is may fits) h
questions-by p by (act.Ask ask question parted) succeeds r is may fits h = rise-without 0 p.asked ask p.questions h
questions-by p by (act.Ask ask question parted) fails r is may fits h = rise-without 0 p.asked ask p.questions h
questions-by p by (act.Settle ask) succeeds r is may fits h = rise-without 0 p.asked ask p.questions h
questions-by p by (act.Work ask) fails r is may fits h = rise-without 0 p.asked ask p.questions h
questions-by p by _ _ r is may fits h = h

questions-step : (p : Plain) (note : Note) → MayStand p note → QuestionsFit p → QuestionsFit (after p note)
questions-step p note may fit = questions-by p note.by note.act (outcome note.reply) note.reply refl may.reply may.act fit

pub questions-fit : (first_seq first_file : ℕ) (notes : List Note) → Legal (opening first_seq first_file) notes → QuestionsFit (after_all (opening first_seq first_file) notes)
questions-fit first_seq first_file notes legal = over-legal QuestionsFit questions-step (opening first_seq first_file) notes legal (omega arith)
