-- A step that leaves the state, and what a step leaves.
use Rattle.std.proofs.Common.{◌≡◌, ℕ, ◌+◌, false, cond, [], ◌∷◌, sym, ap, subst}
use Rattle.std.proofs.lemmas.Bool.{or_parts}
use Rattle.xdb_plain.specs.Changes.{after}
use Rattle.xdb_plain.specs.Failures.{faults, is_fault, is_damage, is_failure_outside}
use Rattle.xdb_plain.specs.Legal.{AnswersRight}
use Rattle.xdb_plain.specs.State.{Plain}
use Rattle.xdb_plain.specs.Steps.{MayStand}
use Rattle.xdb_plain.specs.declared.note.Note.{Note}
use Rattle.xdb_steps.specs.Core.{Core}
use Rattle.xdb_steps.specs.Keeps.{Agrees, Means}
use Rattle.xdb_steps.specs.Step.{Step}

module _ {told : Type 0} (c : Core) (p : Plain) (note : Note) (a : Agrees c p) (stands : MayStand p note) (answers : AnswersRight p note.act note.reply) where
  -- the state stays
  pub stays : (rise : ℕ) → rise ≡ faults (note ∷ []) → (told → is_damage note.reply ≡ false) → after p note ≡ p → Step told rise c c p note
  stays rise booked undamaged same = record {
    stands = stands;
    agrees = subst (Agrees c) (sym same) a;
    answers = λ t m. answers;
    means = λ t m. subst (Means c) (sym same) m;
    booked = booked;
    undamaged = undamaged;
  }

  -- and nothing outside failed
  pub still : is_failure_outside note.reply ≡ false → after p note ≡ p → Step told 0 c c p note
  still calm same =
      let parts = or_parts (is_fault note.reply) (is_damage note.reply) calm in
      stays 0 (sym (ap (λ b. cond b 1 0 + 0) parts.0)) (λ t. parts.1) same
