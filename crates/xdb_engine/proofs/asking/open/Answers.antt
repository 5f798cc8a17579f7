-- The next number is above those that were given, and what the question is handed is clear.
use Rattle.std.proofs.Common.{rules, ◌≡◌, ◌+◌, refl, sym, ap, ◌∙◌, subst, arith}
use Rattle.xdb_mem.specs.Queue.{groups}
use Rattle.xdb_rangedel.specs.Content.{IsClear}
use Rattle.xdb_read.specs.Fits.{mem_content}
use Rattle.xdb_engine.specs.Asks.{ArePartsOf}
use Rattle.xdb_engine.specs.declared.questions.AskedRead.{AskedRead}
use Rattle.xdb_engine.specs.declared.state.State.{State}
use Rattle.xdb_engine.proofs.AskLaws.{numbered-asks}
use Rattle.xdb_engine.proofs.StepLaws.{parts-are-clear, question-opened}
use Rattle.xdb_engine.proofs.asking.open.Goals as goal

pub open-requires-clause-last : goal.open-requires-clause-last
open-requires-clause-last g c κs within = λ k d l.
    let s = c.args.state.now in
    let number : c.in-Some.ask ≡ s.numbers.asked + 1 = search rules in
    let given = (numbered-asks s.numbers.asked s.asks c.requires.numbered k d l).given in
    omega arith

pub open-requires-clause-clear : goal.open-requires-clause-clear
open-requires-clause-clear g c κs within =
    let given = ap (λ w. w.given) c.new.ensures ∙ ap (λ d. d.given) c.in_ok-desk.ensures.0 in
    subst (λ parts. IsClear (mem_content parts)) (sym given) (parts-are-clear c.args.state.now c.args.question.now c.in_ok-parts.parts c.requires.rising c.in_ok-parts.ensures)

pub returns-clause-opened : goal.returns-clause-opened
returns-clause-opened g c =
    let s = c.args.state.now in
    let asked : AskedRead g.row.F.Denot = record { number = c.in-Some.ask; by = c.args.by; parted = c.args.parted; question = c.in_ok-again.again; work = c.new.result } in
    let new : State g.row.F.Denot = record { mem = s.mem; numbers = record s.numbers { asked = c.in-Some.ask }; asks = c.open.new.self; files = c.open.new.files } in
    let number : c.in-Some.ask ≡ s.numbers.asked + 1 = search rules in
    let hand = c.in_ok-desk.ensures.1 in
    question-opened s new c.args.question.now asked c.in_ok-desk.hand c.in_ok-holds.holds c.in_ok-holds.ensures.opened number
    (ap (λ w. w.given) c.new.ensures ∙ ap (λ d. d.given) c.in_ok-desk.ensures.0 ∙ sym hand) (ap (λ w. w.story) c.new.ensures ∙ ap (λ d. d.story) c.in_ok-desk.ensures.0) (ap (λ w. w.kept) c.new.ensures)
    (subst (ArePartsOf (groups s.mem) s.numbers.next c.args.question.now) (sym hand) c.in_ok-parts.ensures) c.requires.now c.requires.few refl refl
