-- Groups are numbered one after the other, and sealed ones hold operations.
use Rattle.std.proofs.Common.{◌≡◌, ℕ, ◌+◌, ◌≤◌, Bool, true, false, cond, ◌||◌, List, [], ◌∷◌, ◌++◌, drop, Option, is_none, refl, sym, ap, ◌∙◌, arith}
use Rattle.std.proofs.lemmas.Bool.{false≢true, and_parts}
use Rattle.std.specs.List.{list_any, AllByRecursion}
use Rattle.xdb_key.specs.Groups.{Group, group_touches}
use Rattle.xdb_key.specs.declared.op.Op.{Op}
use Rattle.xdb_key.specs.Bounds.{Bounds}
use Rattle.xdb_plain.specs.Changes.{after, is_sealed, is_flushed, active_ops_after, seals_for}
use Rattle.xdb_plain.specs.Edits.{is_empty}
use Rattle.xdb_plain.specs.Fences.{fence}
use Rattle.xdb_plain.specs.Legal.{Legal, after_all}
use Rattle.xdb_plain.specs.Outcomes.{Outcome, succeeds, begins, fails, cancels, stays, outcome}
use Rattle.xdb_plain.specs.Replies.{may_reply, same_reply}
use Rattle.xdb_plain.specs.State.{Plain, opening, groups, group_of, found_load}
use Rattle.xdb_plain.specs.Steps.{MayStand}
use Rattle.xdb_plain.specs.Tables.{TableOps}
use Rattle.xdb_plain.specs.declared.act.Act.{Act}
use Rattle.xdb_plain.specs.declared.act.Act.TheVariants as act
use Rattle.xdb_plain.specs.declared.act.By.{By}
use Rattle.xdb_plain.specs.declared.note.Note.{Note}
use Rattle.xdb_plain.specs.declared.reply.Reply.{Reply}
use Rattle.xdb_plain.specs.declared.reply.Reply.TheVariants as reply
use Rattle.xdb_model.proofs.LegalLaws.{over-legal}
use Rattle.xdb_model.specs.Numbered.{AreCounted, HoldsOperations, GroupsFit}

-- ---- counting

counted-same : (num : ℕ) (gs : List Group) (a b : Group) → b.num ≡ a.num → AreCounted num (gs ++ a ∷ []) → AreCounted num (gs ++ b ∷ [])
counted-same num [] a b same h = (same ∙ h.0, tt)
counted-same num (g ∷ gs) a b same h = (h.0, counted-same (num + 1) gs a b same h.1)

counted-more : (num : ℕ) (gs : List Group) (a : Group) → AreCounted num (gs ++ a ∷ []) → AreCounted num ((gs ++ a ∷ []) ++ group_of (a.num + 1) [] ∷ [])
counted-more num [] a h = (h.0, (ap (λ n. n + 1) h.0, tt))
counted-more num (g ∷ gs) a h = (h.0, counted-more (num + 1) gs a h.1)

record Counted (gs : List Group) : Type 0 where
  first : ℕ
  from : 1 ≤ first
  counted : AreCounted first gs

counted-less : (first : ℕ) (gs : List Group) (a : Group) → 1 ≤ first → AreCounted first (gs ++ a ∷ []) → Counted (drop 1 gs ++ a ∷ [])
counted-less first [] a from h = record { first = first; from = from; counted = h }
counted-less first (g ∷ gs) a from h = record { first = first + 1; from = omega arith; counted = h.1 }

-- ---- filled groups

all-push : {X : Type 0} (P : X → Type 0) (xs : List X) (x : X) → AllByRecursion P xs → P x → AllByRecursion P (xs ++ x ∷ [])
all-push P [] x h is = (is, tt)
all-push P (y ∷ ys) x h is = (h.0, all-push P ys x h.1 is)

all-less : {X : Type 0} (P : X → Type 0) (xs : List X) → AllByRecursion P xs → AllByRecursion P (drop 1 xs)
all-less P [] h = tt
all-less P (x ∷ xs) h = h.1

-- ---- what is sealed holds operations

nothing-stays : (r : Reply) → same_reply r reply.Nothing ≡ true → outcome r ≡ stays
nothing-stays reply.Nothing e = refl
nothing-stays _ e = absurd (false≢true e)

one-of-one : (t : Bool) → (t || false) ≡ true → t ≡ true
one-of-one true e = refl
one-of-one false e = e

sealed-by_hand : (p : Plain) (r : Reply) (t : Bool) → is_empty p.active.ops ≡ t → list_any (same_reply r) (cond t (reply.Nothing ∷ []) (reply.Group p.active.num ∷ [])) ≡ true → is_sealed p act.Seal (outcome r) ≡ true → is_empty p.active.ops ≡ false
sealed-by_hand p r false empty may sealed = empty
sealed-by_hand p r true empty may sealed =
    absurd (false≢true (sym (ap (is_sealed p act.Seal) (nothing-stays r (one-of-one (same_reply r reply.Nothing) may))) ∙ sealed))

touched-filled : (ranges : List Bounds) (num : ℕ) (ops : List (ℕ × Op)) → group_touches ranges (group_of num ops) ≡ true → is_empty ops ≡ false
touched-filled ranges num [] e = absurd (false≢true e)
touched-filled ranges num (o ∷ ops) e = refl

sealed-for_load : (p : Plain) (load : List ℕ) (tables : List TableOps) (span : Option Bounds) → seals_for p load tables span ≡ true → is_empty p.active.ops ≡ false
sealed-for_load p load tables span e =
    touched-filled (fence tables span) p.active.num p.active.ops (and_parts (is_none (found_load load p.loads)) (group_touches (fence tables span) p.active) e).1

sealed-at : (p : Plain) (load : List ℕ) (tables : List TableOps) (span : Option Bounds) (o : Outcome) → is_sealed p (act.LoadOpen load tables span) o ≡ true → is_empty p.active.ops ≡ false
sealed-at p load tables span succeeds e = sealed-for_load p load tables span e
sealed-at p load tables span begins e = sealed-for_load p load tables span e
sealed-at p load tables span fails e = absurd (false≢true e)
sealed-at p load tables span cancels e = absurd (false≢true e)
sealed-at p load tables span stays e = absurd (false≢true e)

sealed-filled : (p : Plain) (by : By) (a : Act) (r : Reply) → list_any (same_reply r) (may_reply p by a) ≡ true → is_sealed p a (outcome r) ≡ true → is_empty p.active.ops ≡ false
sealed-filled p by act.Seal r may sealed = sealed-by_hand p r (is_empty p.active.ops) refl may sealed
sealed-filled p by (act.LoadOpen load tables span) r may sealed = sealed-at p load tables span (outcome r) sealed
sealed-filled p by _ r may sealed = absurd (false≢true sealed)

-- ---- the step

step-at : (gs : List Group) (active : Group) (ops : List (ℕ × Op)) (sealed : Bool) → Counted (gs ++ active ∷ []) → Counted (cond sealed (gs ++ active ∷ []) gs ++ cond sealed (group_of (active.num + 1) []) (group_of active.num ops) ∷ [])
step-at gs active ops true h = record { first = h.first; from = h.from; counted = counted-more h.first gs active h.counted }
step-at gs active ops false h = record { first = h.first; from = h.from; counted = counted-same h.first gs active (group_of active.num ops) refl h.counted }

flush-at : (gs : List Group) (active : Group) (flushed : Bool) → Counted (gs ++ active ∷ []) → Counted (cond flushed (drop 1 gs) gs ++ active ∷ [])
flush-at gs active true h = counted-less h.first gs active h.from h.counted
flush-at gs active false h = h

filled-at : (gs : List Group) (active : Group) (flushed sealed : Bool) → AllByRecursion HoldsOperations gs → (sealed ≡ true → HoldsOperations active)
    → AllByRecursion HoldsOperations (cond sealed (cond flushed (drop 1 gs) gs ++ active ∷ []) (cond flushed (drop 1 gs) gs))
filled-at gs active true true h is = all-push HoldsOperations (drop 1 gs) active (all-less HoldsOperations gs h) (is refl)
filled-at gs active false true h is = all-push HoldsOperations gs active h (is refl)
filled-at gs active true false h is = all-less HoldsOperations gs h
filled-at gs active false false h is = h

groups-step : (p : Plain) (note : Note) → MayStand p note → GroupsFit p → GroupsFit (after p note)
groups-step p note may fit =
    let o = outcome note.reply in
    let flushed = is_flushed p note.act o in
    let sealed = is_sealed p note.act o in
    let before : Counted (groups p) = record { first = fit.first; from = fit.from; counted = fit.counted } in
    let counted = step-at (cond flushed (drop 1 p.sealed) p.sealed) p.active (active_ops_after p note.act o) sealed (flush-at p.sealed p.active flushed before) in
    record {
      first = counted.first;
      from = counted.from;
      counted = counted.counted;
      filled = filled-at p.sealed p.active flushed sealed fit.filled (λ is. sealed-filled p note.by note.act note.reply may.reply is);
    }

pub groups-fit : (first_seq first_file : ℕ) (notes : List Note) → Legal (opening first_seq first_file) notes → GroupsFit (after_all (opening first_seq first_file) notes)
groups-fit first_seq first_file notes legal =
    over-legal GroupsFit groups-step (opening first_seq first_file) notes legal (record { first = 1; from = omega arith; counted = (refl, tt); filled = tt })
