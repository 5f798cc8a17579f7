-- Each version that is held was the current one.
use Rattle.std.proofs.Common.{◌≡◌, ℕ, Bool, true, false, cond, not, List, [], ◌∷◌, ◌++◌, filter, Option, Some, None, refl, ap}
use Rattle.std.specs.List.{AllByRecursion, filter_map, cons_option}
use Rattle.xdb_edit.specs.Changes.{Changes}
use Rattle.xdb_plain.specs.Changes.{after}
use Rattle.xdb_plain.specs.Counts.{is_among, same_holder, found_hold}
use Rattle.xdb_plain.specs.Holds.{version_after, held_by, snap_version, version_at, question_version, Due, due, turning, holds_due, numbered, holds_told, holds_after, taken_ids, released_ids}
use Rattle.xdb_plain.specs.Legal.{after_all}
use Rattle.xdb_plain.specs.Outcomes.{Outcome, succeeds, begins, outcome, groups_after, is_put_of_flush}
use Rattle.xdb_plain.specs.Snapshots.{is_file_only, turns, first_state}
use Rattle.xdb_plain.specs.State.{Plain, Snapshot, Version, Hold, Holder, for_snap, for_cursor, opening, found_snap, groups}
use Rattle.xdb_plain.specs.declared.act.Act.{Act}
use Rattle.xdb_plain.specs.declared.act.Act.TheVariants as act
use Rattle.xdb_plain.specs.declared.note.HoldNote.{HoldNote}
use Rattle.xdb_plain.specs.declared.note.Note.{Note}
use Rattle.xdb_plain.specs.declared.question.Question.{Question}
use Rattle.xdb_plain.specs.declared.question.Question.TheVariants.{Get, Scan, RScan, Move}
use Rattle.xdb_model.proofs.ListLaws.{all-append, all-filtered, all-has, found-all}
use Rattle.xdb_model.specs.Counted.{WasCurrent}

-- ---- one step, where something holds of the versions before and behind it

module _ (P : Version → Type 0) (p : Plain) (current : P p.current) (holds : AllByRecursion (λ h. P h.version) p.holds) where
  abbrev Dues : List Due → Type 0
  Dues dues = AllByRecursion (λ (d : Due). P d.version) dues

  abbrev version_of : Option Hold → Version
  version_of None = p.current
  version_of (Some h) = h.version

  of-held : (o : Option Hold) → ((h : Hold) → o ≡ Some h → P h.version) → P (version_of o)
  of-held None is = current
  of-held (Some h) is = is h refl

  of-holder : (holder : Holder) → P (held_by p holder)
  of-holder holder = of-held (found_hold holder p.holds) (λ h found. found-all (λ (x : Hold). P x.version) (λ (x : Hold). same_holder x.holder holder) p.holds h found holds)

  of-either : (t : Bool) (v : Version) → P v → P (cond t v p.current)
  of-either true v is = is
  of-either false v is = current

  of-snap : (o : Option Snapshot) → P (snap_version p o)
  of-snap None = current
  of-snap (Some s) = of-either (is_file_only s.state) (held_by p (for_snap s.name)) (of-holder (for_snap s.name))

  of-at : (at : Option (List ℕ)) → P (version_at p at)
  of-at None = current
  of-at (Some name) = of-snap (found_snap name p.snaps)

  of-question : (question : Question) → P (question_version p question)
  of-question (Get key at) = of-at at
  of-question (Scan range most at) = of-at at
  of-question (RScan range most at) = of-at at
  of-question (Move cursor step) = of-holder (for_cursor cursor)

  dues-snap : (name : List ℕ) (t : Bool) → Dues (cond t (due (for_snap name) p.current ∷ []) [])
  dues-snap name true = (current, tt)
  dues-snap name false = tt

  turning-one : (v : Version) → P v → (s : Snapshot) (t : Bool) (others : List Due) → Dues others → Dues (cons_option (cond t (Some (due (for_snap s.name) v)) None) others)
  turning-one v is s true others all = (is, all)
  turning-one v is s false others all = all

  turning-all : (v : Version) → P v → (snaps : List Snapshot) → Dues (filter_map (λ s. cond (turns (groups_after p) s) (Some (due (for_snap s.name) v)) None) snaps)
  turning-all v is [] = tt
  turning-all v is (s ∷ snaps) = turning-one v is s (turns (groups_after p) s) _ (turning-all v is snaps)

  dues-put : (t : Bool) (dues : List Due) → Dues dues → Dues (cond t dues [])
  dues-put true dues all = all
  dues-put false dues all = tt

  dues-all : (a : Act) (o : Outcome) (edit : Option Changes) → P (version_after p.current edit) → Dues (holds_due p a o edit)
  dues-all (act.CompactTake which) succeeds edit next = (current, tt)
  dues-all (act.Put job) succeeds edit next = dues-put (is_put_of_flush p job) (turning p edit) (turning-all (version_after p.current edit) next p.snaps)
  dues-all (act.Snap name ranges) succeeds edit next = dues-snap name (is_file_only (first_state ranges p.next (groups p)))
  dues-all (act.Cursor name range at) succeeds edit next = (of-at at, tt)
  dues-all (act.Ask ask question parted) begins edit next = (of-question question, tt)
  dues-all _ _ edit next = tt

  numbered-all : (ids : List ℕ) (dues : List Due) → Dues dues → AllByRecursion (λ (h : Hold). P h.version) (numbered ids dues)
  numbered-all [] dues all = tt
  numbered-all (id ∷ ids) [] all = tt
  numbered-all (id ∷ ids) (d ∷ dues) all = (all.0, numbered-all ids dues all.1)

  told-all : (told : List HoldNote) (dues : List Due) → Dues dues → AllByRecursion (λ (h : Hold). P h.version) (holds_told p.holds told dues)
  told-all [] dues all = holds
  told-all (n ∷ ns) dues all =
      all-append (λ (h : Hold). P h.version) (filter (λ (h : Hold). not (is_among h.id (released_ids (n ∷ ns)))) p.holds) _
      (all-filtered (λ (h : Hold). P h.version) (λ (h : Hold). not (is_among h.id (released_ids (n ∷ ns)))) p.holds (λ h has left. all-has (λ (x : Hold). P x.version) p.holds h has holds))
      (numbered-all (taken_ids (n ∷ ns)) dues all)

  pub holds-step : (note : Note) → P (version_after p.current note.edit) → AllByRecursion (λ (h : Hold). P h.version) (holds_after p note)
  holds-step note next =
      told-all note.holds (holds_due p note.act (outcome note.reply) note.edit) (dues-all note.act (outcome note.reply) note.edit next)

-- ---- over a whole history

-- what holds of each current version holds of the held ones
pub held-all : (P : Version → Type 0) (p : Plain) (notes : List Note) → ((before behind : List Note) → notes ≡ before ++ behind → P (after_all p before).current) → AllByRecursion (λ h. P h.version) p.holds
    → AllByRecursion (λ h. P h.version) (after_all p notes).holds
held-all P p [] is holds = holds
held-all P p (note ∷ notes) is holds =
    held-all P (after p note) notes (λ before behind split. is (note ∷ before) behind (ap (λ rest. note ∷ rest) split))
    (holds-step P p (is [] (note ∷ notes) refl) holds note (is (note ∷ []) notes refl))

pub were-current : (first_seq first_file : ℕ) (notes : List Note) → AllByRecursion (λ h. WasCurrent (opening first_seq first_file) notes h.version) (after_all (opening first_seq first_file) notes).holds
were-current first_seq first_file notes =
    held-all (WasCurrent (opening first_seq first_file) notes) (opening first_seq first_file) notes (λ before behind split. record { before = before; behind = behind; split = split; same = refl }) tt
