-- A question takes a hold of its version as it is asked, and lets go of it at its end.
use Rattle.std.proofs.Common.{◌≡◌, ℕ, ◌+◌, ◌<◌, Bool, true, false, not, eqb, List, [], ◌∷◌, ◌++◌, length, Some, None, inl, inr, ◌⊎◌, refl, sym, ap, ◌∙◌, subst, IsTrue, arith}
use Rattle.std.proofs.lemmas.Bool.{false≢true, cases_eq, eq-eqb, ne_eqb}
use Rattle.std.proofs.lemmas.List.{map-append}
use Rattle.std.specs.List.{All, cons_option, filter_map}
use Rattle.std.specs.Option.{option_map}
use Rattle.xdb_laws.specs.Answered.{is_of_now}
use Rattle.xdb_mem.proofs.HeldLaws.{same_front, same_then}
use Rattle.xdb_mem.proofs.PickLaws.{Has-filter, Has-from_filter}
use Rattle.xdb_plain.specs.Answers.{Landing, answer_now}
use Rattle.xdb_plain.specs.Counts.{found_hold, same_holder}
use Rattle.xdb_plain.specs.Holds.{due, holds_due, releasing, question_version}
use Rattle.xdb_plain.specs.Outcomes.{outcome, begins}
use Rattle.xdb_plain.specs.State.{Plain, Hold, Holder, for_ask, for_job, JobKind, flush_of, compaction_of, OpenQuestion, found_question, without_question}
use Rattle.xdb_plain.specs.Steps.{is_client}
use Rattle.xdb_plain.specs.declared.act.Act.{Act}
use Rattle.xdb_plain.specs.declared.act.Act.TheVariants as act
use Rattle.xdb_plain.specs.declared.act.By.{By}
use Rattle.xdb_plain.specs.declared.note.HoldNote.TheVariants.{Hold as Taken, Release}
use Rattle.xdb_plain.specs.declared.question.Question.{Question}
use Rattle.xdb_plain.specs.declared.question.Question.TheVariants.{Get, Scan, RScan, Move}
use Rattle.xdb_plain.specs.declared.reply.Reply.{Reply}
use Rattle.xdb_plain.specs.declared.reply.Reply.TheVariants.{Asked, Memory}
use Rattle.xdb_rangedel.proofs.MemberLaws.{Has-append_left, Has-append_right, Has-append_cases, Has-map, Has-from_map, Has-from_filter_map, Contains-from_Has}
use Rattle.xdb_rangedel.specs.Members.{Has, SameMembers}
use Rattle.xdb_steps.specs.Between.{Held}
use Rattle.xdb_steps.specs.Core.{Core, RunningJob, ask_holders, job_holder, job_holders, holders, open_question, next_hold, asked_core, ended_core, holding_core, without_hold}
use Rattle.xdb_steps.specs.Keeps.{Agrees, Means}
use Rattle.xdb_steps.specs.Notes.{plain_note, held_note}
use Rattle.xdb_steps.specs.Parts.Asks.{IsNumbered}
use Rattle.xdb_steps.specs.Step.{Step, HeldStep}
use Rattle.xdb_steps.proofs.AskSteps.{none-zero, opened, lacking}
use Rattle.xdb_steps.proofs.Finding.{none-found}
use Rattle.xdb_steps.proofs.Holding.{same-turned, none-held, one-found, tells-taken, tells-released, taken-behind, released-behind, step-holding, step-free, held-more, held-less}

-- ---- holders

-- what holds of each element by its place holds of each that there is
numbered-has : {A : Type 0} (P : A → Type 0) (xs : List A) (x : A) → All P xs → Has xs x → P x
numbered-has P xs x all has = let at = Contains-from_Has xs x has in subst P at.2 (all at.0 x at.1)

-- a holder is an open question, or a job
pub job-tells : (num : ℕ) (kind : JobKind) (k : Holder) → job_holder num kind ≡ Some k → k ≡ for_job num
job-tells num (flush_of group) k e = absurd (cc)
job-tells num (compaction_of c) k e = cc

holder-cases : (asks : List OpenQuestion) (jobs : List RunningJob) (k : Holder) → Has (ask_holders asks ++ job_holders jobs) k → ((q : OpenQuestion) × Has asks q × (k ≡ for_ask q.ask)) ⊎ ((n : ℕ) × Has (job_holders jobs) k × (k ≡ for_job n))
holder-cases asks jobs k has = elim (Has-append_cases (ask_holders asks) (job_holders jobs) k has) [
  | inl f ↦ let from = Has-from_map (λ (q : OpenQuestion). for_ask q.ask) asks k f in inl (from.0, from.1, sym from.2)
  | inr b ↦ let from = Has-from_filter_map (λ (r : RunningJob). job_holder r.job.num r.job.kind) jobs k b in inr (from.0.job.num, b, job-tells from.0.job.num from.0.job.kind k from.2)
]

-- a new question's holder comes behind the others
pub moved-last : {A : Type 0} (xs zs : List A) (y : A) → SameMembers ((xs ++ y ∷ []) ++ zs) ((xs ++ zs) ++ y ∷ [])
moved-last xs zs y = λ x. (
  λ h. elim (Has-append_cases (xs ++ y ∷ []) zs x h) [
    | inl f ↦ elim (Has-append_cases xs (y ∷ []) x f) [
      | inl a ↦ Has-append_left (xs ++ zs) (y ∷ []) x (Has-append_left xs zs x a)
      | inr b ↦ Has-append_right (xs ++ zs) (y ∷ []) x b
    ]
    | inr b ↦ Has-append_left (xs ++ zs) (y ∷ []) x (Has-append_right xs zs x b)
  ],
  λ h. elim (Has-append_cases (xs ++ zs) (y ∷ []) x h) [
    | inl f ↦ elim (Has-append_cases xs zs x f) [
      | inl a ↦ Has-append_left (xs ++ y ∷ []) zs x (Has-append_left xs (y ∷ []) x a)
      | inr b ↦ Has-append_right (xs ++ y ∷ []) zs x b
    ]
    | inr b ↦ Has-append_left (xs ++ y ∷ []) zs x (Has-append_right xs (y ∷ []) x b)
  ],
)

-- no question has the number, so none holds under it
pub ask-unheld : (c : Core) (p : Plain) (ask : ℕ) → Agrees c p → Held c.files.holds (holders c) → found_question ask c.asks ≡ None → found_hold (for_ask ask) p.holds ≡ None
ask-unheld c p ask a held none = none-held (for_ask ask) c.files.holds p.holds (holders c) a.files.holds held (λ k has. elim (holder-cases c.asks c.jobs k has) [
  | inl one ↦ ap (λ x. same_holder x (for_ask ask)) one.2 ∙ none-found (λ (q : OpenQuestion). eqb q.ask ask) one.0 c.asks none one.1
  | inr job ↦ ap (λ x. same_holder x (for_ask ask)) job.2
])

-- ---- an ask

version-now : (p : Plain) (question : Question) → is_of_now question ≡ true → question_version p question ≡ p.current
version-now p (Get key None) e = refl
version-now p (Get key (Some at)) e = absurd (false≢true e)
version-now p (Scan range most None) e = refl
version-now p (Scan range most (Some at)) e = absurd (false≢true e)
version-now p (RScan range most None) e = refl
version-now p (RScan range most (Some at)) e = absurd (false≢true e)
version-now p (Move cursor step) e = absurd (false≢true e)

module _ {told : Type 0} (c : Core) (p : Plain) (by : By) (question : Question) (parted : Bool) (l : Landing) (id : ℕ) (holds : List Hold) (a : Agrees c p) (held : Held c.files.holds (holders c)) (client : IsTrue (is_client by)) (now : is_of_now question ≡ true) (few : length c.asks < 64) (right : told → Means c p → l ≡ answer_now p question) where
  abbrev next : ℕ
  next = c.numbers.asked + 1

  abbrev one : Hold
  one = next_hold c id

  module _ (new : (h : Hold) → Has c.files.holds h → h.id ≡ id → ⊥) (same : SameMembers holds (c.files.holds ++ one ∷ [])) where
    dues : holds_due p (act.Ask next question parted) begins None ≡ due (for_ask next) c.files.current ∷ []
    dues = ap (λ v. due (for_ask next) v ∷ []) (version-now p question now ∙ a.files.current)

    -- those who hold already are no new question
    apart : (k : Holder) → Has (holders c) k → (same_holder k (for_ask next) ≡ false) × (same_holder (for_ask next) k ≡ false)
    apart k has = elim (holder-cases c.asks c.jobs k has) [
      | inl q ↦
          let given = (numbered-has (IsNumbered c.numbers.asked) c.asks q.0 a.asks.numbered q.1).given in
          (ap (λ x. same_holder x (for_ask next)) q.2 ∙ ne_eqb q.0.ask next (λ e. omega arith), ap (same_holder (for_ask next)) q.2 ∙ ne_eqb next q.0.ask (λ e. omega arith))
      | inr job ↦ (ap (λ x. same_holder x (for_ask next)) job.2, ap (same_holder (for_ask next)) job.2)
    ]

    abbrev more : OpenQuestion
    more = open_question next by question parted l

    one-holder-more : SameMembers (ask_holders (c.asks ++ more ∷ []) ++ job_holders c.jobs) (holders c ++ for_ask next ∷ [])
    one-holder-more = subst (λ hs. SameMembers (hs ++ job_holders c.jobs) (holders c ++ for_ask next ∷ []))
        (sym (map-append (λ (q : OpenQuestion). for_ask q.ask) c.asks (more ∷ []))) (moved-last (ask_holders c.asks) (job_holders c.jobs) (for_ask next))

    pub opened-held : HeldStep told 0 c (holding_core (asked_core c by question parted l) holds) p (held_note by (act.Ask next question parted) (Asked next) (Taken id c.files.current.num ∷ []))
    opened-held = record {
      step = step-holding (opened c p by question parted l a client now few right) (Taken id c.files.current.num ∷ []) holds
          (subst (λ hs. SameMembers hs holds) (sym (taken-behind p by (act.Ask next question parted) (Asked next) None [] id (for_ask next) c.files.current dues))
          (same_then (p.holds ++ one ∷ []) (c.files.holds ++ one ∷ []) holds (same_front p.holds c.files.holds (one ∷ []) a.files.holds) (same-turned holds (c.files.holds ++ one ∷ []) same)));
      holds = tells-taken p by (act.Ask next question parted) (Asked next) None [] id (for_ask next) c.files.current refl dues (λ h has. new h ((a.files.holds h).0 has));
      held = held-more c.files.holds holds (holders c) (ask_holders (c.asks ++ more ∷ []) ++ job_holders c.jobs) one held same one-holder-more apart new;
    }

pub lacking-held : {told : Type 0} (c : Core) (p : Plain) (by : By) (question : Question) (parted : Bool) → Agrees c p → Held c.files.holds (holders c) → IsTrue (is_client by) → is_of_now question ≡ true → length c.asks < 64 → HeldStep told 0 c c p (plain_note by (act.Ask 0 question parted) Memory)
lacking-held c p by question parted a held client now few =
    step-free (lacking c p by question parted a client now few) (ap (λ o. cons_option (option_map (λ (h : Hold). h.id) o) []) (ask-unheld c p 0 a held (none-zero c p by question parted a client))) refl held

-- ---- the end of a question

module _ (c : Core) (p : Plain) (by : By) (does : Act) (r : Reply) (ask : ℕ) (h : Hold) (holds : List Hold) (a : Agrees c p) (held : Held c.files.holds (holders c)) (there : Has c.files.holds h) (whose : h.holder ≡ for_ask ask) (same : SameMembers holds (without_hold h.id c.files.holds)) where
  itself : same_holder h.holder h.holder ≡ true
  itself = subst (λ x. same_holder x x ≡ true) (sym whose) (eq-eqb ask ask refl)

  found : found_hold (for_ask ask) p.holds ≡ Some h
  found = ap (λ x. found_hold x p.holds) (sym whose) ∙ one-found h c.files.holds p.holds (holders c) a.files.holds held there itself

  abbrev others : List Holder
  others = ask_holders (without_question ask c.asks) ++ job_holders c.jobs

  not-ask : (n m : ℕ) → for_ask n ≡ for_ask m → n ≡ m
  not-ask n m e = cc

  not-job : (n m : ℕ) → for_job n ≡ for_ask m → ⊥
  not-job n m e = absurd (cc)

  fewer : (k : Holder) → Has others k → Has (holders c) k × (k ≡ h.holder → ⊥)
  fewer k has = elim (holder-cases (without_question ask c.asks) c.jobs k has) [
    | inl q ↦
        let from = Has-from_filter (λ (x : OpenQuestion). not (eqb x.ask ask)) c.asks q.0 q.1 in (
          Has-append_left (ask_holders c.asks) (job_holders c.jobs) k (subst (Has (ask_holders c.asks)) (sym q.2) (Has-map (λ (x : OpenQuestion). for_ask x.ask) c.asks q.0 from.0)),
          λ e. false≢true (sym (ap not (eq-eqb q.0.ask ask (not-ask q.0.ask ask (sym q.2 ∙ e ∙ whose)))) ∙ from.1),
        )
    | inr job ↦ (Has-append_right (ask_holders c.asks) (job_holders c.jobs) k job.1, λ e. not-job job.0 ask (sym job.2 ∙ e ∙ whose))
  ]

  split : (k : Holder) → Has (holders c) k → (k ≡ h.holder) ⊎ Has others k
  split k has = elim (holder-cases c.asks c.jobs k has) [
    | inl q ↦ elim (cases_eq q.0.ask ask) [
      | inl e ↦ inl (q.2 ∙ ap for_ask e ∙ sym whose)
      | inr ne ↦ inr (Has-append_left (ask_holders (without_question ask c.asks)) (job_holders c.jobs) k (subst (Has (ask_holders (without_question ask c.asks))) (sym q.2)
          (Has-map (λ (x : OpenQuestion). for_ask x.ask) (without_question ask c.asks) q.0 (Has-filter (λ (x : OpenQuestion). not (eqb x.ask ask)) c.asks q.0 q.1 (ap not (ne_eqb q.0.ask ask ne))))))
    ]
    | inr job ↦ inr (Has-append_right (ask_holders (without_question ask c.asks)) (job_holders c.jobs) k job.1)
  ]

  pub ended-held : {told : Type 0} {rise : ℕ} → Step told rise c (ended_core c ask) p (plain_note by does r) → releasing does (outcome r) ≡ for_ask ask ∷ [] → holds_due p does (outcome r) None ≡ [] → HeldStep told rise c (holding_core (ended_core c ask) holds) p (held_note by does r (Release h.id ∷ []))
  ended-held s lets nobody = record {
    step = step-holding s (Release h.id ∷ []) holds
        (same_then _ (without_hold h.id c.files.holds) holds (released-behind p by does r None [] h.id c.files.holds a.files.holds) (same-turned holds (without_hold h.id c.files.holds) same));
    holds = tells-released p by does r None [] h.id
        (ap (λ hs. filter_map (λ holder. option_map (λ (x : Hold). x.id) (found_hold holder p.holds)) hs) lets ∙ ap (λ o. cons_option (option_map (λ (x : Hold). x.id) o) []) found) nobody;
    held = held-less c.files.holds holds (holders c) others h held there same fewer split itself;
  }
