-- A step that was refused changes nothing.
use Rattle.std.proofs.Common.{◌≡◌, ℕ, Bool, true, cond, not, eqb, is_none, List, [], ◌∷◌, ◌++◌, map, filter, Option, Some, None, refl, sym, ap, ◌∙◌, inl, inr}
use Rattle.std.proofs.lemmas.Bool.{false≢true, cases_Bool}
use Rattle.std.specs.List.{find}
use Rattle.xdb_edit.specs.Changes.{Changes}
use Rattle.xdb_plain.specs.Changes.{after, map_after, next_after, file_after, sealed_after, active_after, snaps_after, cursors_after, loads_after, asked_after, questions_after, started_after, jobs_after, taken_after}
use Rattle.xdb_plain.specs.Holds.{HoldsFit, holds_due, releases, numbered, taken_ids, hold_told}
use Rattle.xdb_plain.specs.Outcomes.{Outcome, fails, cancels, stays, outcome, ends_nothing, is_refused}
use Rattle.xdb_plain.specs.State.{Plain, Load, OpenQuestion, Job, same_name, found_load, found_job}
use Rattle.xdb_plain.specs.Steps.{MayStand, FitsEdit, FitsTried, FitsJobTried, FitsLoadTried}
use Rattle.xdb_plain.specs.declared.act.Act.{Act}
use Rattle.xdb_plain.specs.declared.act.Act.TheVariants as act
use Rattle.xdb_plain.specs.declared.act.By.{By}
use Rattle.xdb_plain.specs.declared.note.HoldNote.TheVariants as hold_note
use Rattle.xdb_plain.specs.declared.note.Note.{Note}
use Rattle.xdb_plain.specs.declared.reply.Reply.{Reply}
use Rattle.xdb_plain.specs.declared.reply.Reply.TheVariants as reply

-- ---- what isn't there is without nothing

module _ {A : Type 0} (test : A → Bool) where
  none-left-out : (xs : List A) → is_none (find test xs) ≡ true → filter (λ x. not (test x)) xs ≡ xs
  none-left-out [] none = refl
  none-left-out (x ∷ xs) none = elim (cases_Bool (test x)) [
    | inl is ↦ absurd (false≢true (sym (ap (λ t. is_none (cond t (Some x) (find test xs))) is) ∙ none))
    | inr off ↦
        ap (λ t. cond (not t) (x ∷ filter (λ y. not (test y)) xs) (filter (λ y. not (test y)) xs)) off
        ∙ ap (λ ys. x ∷ ys) (none-left-out xs (sym (ap (λ t. is_none (cond t (Some x) (find test xs))) off) ∙ none))
  ]

-- ---- the parts of the state, by the act

-- what the act and its outcome make of a state, where nothing is edited
abbrev moved : Plain → By → Act → Outcome → Plain
moved p by a o = record p {
  map = map_after p a o;
  next = next_after p a o;
  file = file_after p a o None;
  sealed = sealed_after p a o;
  active = active_after p a o;
  snaps = snaps_after p a o;
  cursors = cursors_after p a o;
  loads = loads_after p by a o;
  asked = asked_after p a o;
  questions = questions_after p by a o;
  started = started_after p a o;
  jobs = jobs_after p a o;
}

stays-same : (p : Plain) (by : By) (a : Act) → moved p by a stays ≡ p
stays-same p by act.Seal = refl
stays-same p by _ = refl

fails-same : (p : Plain) (by : By) (a : Act) → ends_nothing p a ≡ true → moved p by a fails ≡ p
fails-same p by (act.Ask ask question parted) none = λ i. record p { questions = none-left-out (λ (q : OpenQuestion). eqb q.ask ask) p.questions none i }
fails-same p by (act.Work ask) none = λ i. record p { questions = none-left-out (λ (q : OpenQuestion). eqb q.ask ask) p.questions none i }
fails-same p by (act.Build job) none = λ i. record p { jobs = none-left-out (λ (j : Job). eqb j.num job) p.jobs none i }
fails-same p by (act.LoadOpen load tables span) none = λ i. record p { loads = none-left-out (λ (l : Load). same_name l.name load) p.loads none i }
fails-same p by _ none = refl

refused-same : (p : Plain) (by : By) (a : Act) (o : Outcome) → is_refused p a o ≡ true → moved p by a o ≡ p
refused-same p by a stays is = stays-same p by a
refused-same p by a fails is = fails-same p by a is
refused-same p by a _ is = absurd (false≢true is)

-- ---- no edit, no tried number, nothing taken

no-edit : (p : Plain) (a : Act) (r : Reply) (edit : Option Changes) → is_refused p a (outcome r) ≡ true → FitsEdit p a r edit → edit ≡ None
no-edit p a reply.Installed edit is fits = absurd (false≢true is)
no-edit p a _ edit is fits = fits

no-job : (j : Option Job) (tried : List ℕ) → is_none j ≡ true → FitsJobTried j tried → tried ≡ []
no-job None tried none fits = fits
no-job (Some j) tried none fits = absurd (false≢true none)

no-load : (l : Option Load) (tried : List ℕ) → is_none l ≡ true → FitsLoadTried l tried → tried ≡ []
no-load None tried none fits = fits
no-load (Some l) tried none fits = absurd (false≢true none)

no-tried : (p : Plain) (a : Act) (o : Outcome) (tried : List ℕ) → is_refused p a o ≡ true → FitsTried p a o tried → tried ≡ []
no-tried p (act.Build job) fails tried is fits = no-job (found_job job p.jobs) tried is fits
no-tried p (act.Put job) cancels tried is fits = absurd (false≢true is)
no-tried p (act.LoadOpen load tables span) fails tried is fits = no-load (found_load load p.loads) tried is fits
no-tried p _ _ tried is fits = fits

none-taken : (p : Plain) (a : Act) (r : Reply) (taken : List ℕ) → is_refused p a (outcome r) ≡ true → taken_after taken r ≡ taken
none-taken p a (reply.Took num) taken is = absurd (false≢true is)
none-taken p a _ taken is = refl

-- ---- the whole state

pub refused-after : (p : Plain) (note : Note) → MayStand p note → note.holds ≡ [] → is_refused p note.act (outcome note.reply) ≡ true → after p note ≡ p
refused-after p note may none is =
    let edit = no-edit p note.act note.reply note.edit is may.edit in
    let tried = no-tried p note.act (outcome note.reply) note.tried is may.tried in
    let bare : after p note ≡ after p (record note { edit = None; holds = []; tried = [] }) = λ i. after p (record note { edit = edit i; holds = none i; tried = tried i }) in
    bare
    ∙ (λ i. record (moved p note.by note.act (outcome note.reply)) { taken = none-taken p note.act note.reply p.taken is i })
    ∙ refused-same p note.by note.act (outcome note.reply) is

-- ---- a step that stays tells no holds

none-numbered : (ids : List ℕ) → numbered ids [] ≡ []
none-numbered [] = refl
none-numbered (id ∷ ids) = refl

stays-tells : (p : Plain) (a : Act) (edit : Option Changes) (ids : List ℕ) → map hold_note.Release (releases p a stays) ++ map hold_told (numbered ids (holds_due p a stays edit)) ≡ []
stays-tells p act.Seal edit ids = ap (map hold_told) (none-numbered ids)
stays-tells p _ edit ids = ap (map hold_told) (none-numbered ids)

pub stays-no_holds : (p : Plain) (note : Note) → HoldsFit p note → outcome note.reply ≡ stays → note.holds ≡ []
stays-no_holds p note fits is =
    fits.told
    ∙ ap (λ o. map hold_note.Release (releases p note.act o) ++ map hold_told (numbered (taken_ids note.holds) (holds_due p note.act o note.edit))) is
    ∙ stays-tells p note.act note.edit (taken_ids note.holds)
