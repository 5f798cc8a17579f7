-- A snapshot is dropped, or goes on one way.
use Rattle.std.proofs.Common.{◌≡◌, ℕ, Bool, true, false, cond, not, ◌&&◌, List, [], ◌∷◌, ◌++◌, map, Option, refl, sym, ap, subst, inl, inr, ◌⊎◌}
use Rattle.std.proofs.lemmas.Bool.{false≢true, and_parts}
use Rattle.xdb_key.specs.Bounds.{Bounds}
use Rattle.xdb_key.specs.Groups.{Group, last_touching}
use Rattle.std.specs.Prelude.{is_none}
use Rattle.xdb_key.specs.declared.state.SnapState.{SnapState}
use Rattle.xdb_key.specs.declared.state.SnapState.TheVariants.{Pinned, FileOnly, Excised}
use Rattle.xdb_rangedel.specs.Members.{Has}
use Rattle.xdb_plain.specs.Changes.{after, snaps_after, span_of_load, new_snap}
use Rattle.xdb_plain.specs.Fences.{any_meet, span_list}
use Rattle.xdb_plain.specs.Outcomes.{Outcome, succeeds, outcome, groups_after, is_put_of_flush}
use Rattle.xdb_plain.specs.Snapshots.{is_pinned, turns, turned, excised}
use Rattle.xdb_plain.specs.State.{Plain, Snapshot, same_name, without_snap}
use Rattle.xdb_plain.specs.declared.act.Act.{Act}
use Rattle.xdb_plain.specs.declared.act.Act.TheVariants as act
use Rattle.xdb_plain.specs.declared.note.Note.{Note}
use Rattle.xdb_model.specs.Progress.{GoesTo, GoesOn}
use Rattle.xdb_model.specs.Refusals.{drops}

goes-nowhere : (s : SnapState) → GoesTo s s
goes-nowhere (Pinned group) = refl
goes-nowhere FileOnly = refl
goes-nowhere (Excised load) = refl

stays-open : (s : Snapshot) (snaps : List Snapshot) → Has snaps s → GoesOn s snaps
stays-open s snaps has = record { later = s; still_open = has; same_name = refl; same_ranges = refl; same_mark = refl; goes_to = goes-nowhere s.state }

-- ---- with one more

has-front : {A : Type 0} (xs ys : List A) (x : A) → Has xs x → Has (xs ++ ys) x
has-front [] ys x has = absurd has
has-front (y ∷ xs) ys x (inl same) = inl same
has-front (y ∷ xs) ys x (inr behind) = inr (has-front xs ys x behind)

-- ---- without those of a name

kept-at : (s x : Snapshot) (rest : List Snapshot) (t : Bool) → Has rest s → Has (cond t (x ∷ rest) rest) s
kept-at s x rest true has = inr has
kept-at s x rest false has = has

first-at : (s : Snapshot) (rest : List Snapshot) (t : Bool) → t ≡ false → Has (cond (not t) (s ∷ rest) rest) s
first-at s rest true e = absurd (false≢true (sym e))
first-at s rest false e = inl refl

left-in : (name : List ℕ) (snaps : List Snapshot) (s : Snapshot) → same_name s.name name ≡ false → Has snaps s → Has (without_snap name snaps) s
left-in name [] s other has = absurd has
left-in name (x ∷ snaps) s other (inl same) =
    subst (λ (y : Snapshot). Has (cond (not (same_name y.name name)) (y ∷ without_snap name snaps) (without_snap name snaps)) s) (sym same) (first-at s (without_snap name snaps) (same_name s.name name) other)
left-in name (x ∷ snaps) s other (inr behind) = kept-at s x (without_snap name snaps) (not (same_name x.name name)) (left-in name snaps s other behind)

dropped-or : (p : Plain) (name : List ℕ) (s : Snapshot) (t : Bool) → same_name s.name name ≡ t → Has p.snaps s → (t ≡ true) ⊎ GoesOn s (without_snap name p.snaps)
dropped-or p name s true is has = inl refl
dropped-or p name s false is has = inr (stays-open s (without_snap name p.snaps) (left-in name p.snaps s is has))

-- ---- mapped

has-map : {A B : Type 0} (f : A → B) (xs : List A) (x : A) → Has xs x → Has (map f xs) (f x)
has-map f [] x has = absurd has
has-map f (y ∷ ys) x (inl same) = inl (ap f same)
has-map f (y ∷ ys) x (inr behind) = inr (has-map f ys x behind)

pinned-goes : (s t : SnapState) → is_pinned s ≡ true → is_pinned t ≡ false → GoesTo s t
pinned-goes (Pinned group) (Pinned other) is no_more = absurd (false≢true (sym no_more))
pinned-goes (Pinned group) FileOnly is no_more = tt
pinned-goes (Pinned group) (Excised load) is no_more = tt
pinned-goes FileOnly t is no_more = absurd (false≢true is)
pinned-goes (Excised load) t is no_more = absurd (false≢true is)

-- a state that changes only where it was pinned
changed-goes : (s new : SnapState) (test : Bool) → is_pinned new ≡ false → (test ≡ true → is_pinned s ≡ true) → GoesTo s (cond test new s)
changed-goes s new true no_more was = pinned-goes s new (was refl) no_more
changed-goes s new false no_more was = goes-nowhere s

turned-goes : (gs : List Group) (s : Snapshot) (snaps : List Snapshot) → Has snaps s → GoesOn s (map (turned gs) snaps)
turned-goes gs s snaps has = record {
  later = turned gs s;
  still_open = has-map (turned gs) snaps s has;
  same_name = refl;
  same_ranges = refl;
  same_mark = refl;
  goes_to = changed-goes s.state FileOnly (turns gs s) refl (λ e. (and_parts (is_pinned s.state) (is_none (last_touching s.ranges s.mark gs)) e).0);
}

excised-goes : (load : List ℕ) (span : Option Bounds) (s : Snapshot) (snaps : List Snapshot) → Has snaps s → GoesOn s (map (excised load span) snaps)
excised-goes load span s snaps has = record {
  later = excised load span s;
  still_open = has-map (excised load span) snaps s has;
  same_name = refl;
  same_ranges = refl;
  same_mark = refl;
  goes_to = changed-goes s.state (Excised load) (is_pinned s.state && any_meet (span_list span) s.ranges) refl (λ e. (and_parts (is_pinned s.state) (any_meet (span_list span) s.ranges) e).0);
}

put-goes : (gs : List Group) (s : Snapshot) (snaps : List Snapshot) (t : Bool) → Has snaps s → GoesOn s (cond t (map (turned gs) snaps) snaps)
put-goes gs s snaps true has = turned-goes gs s snaps has
put-goes gs s snaps false has = stays-open s snaps has

goes-by : (p : Plain) (a : Act) (o : Outcome) (s : Snapshot) → Has p.snaps s → (drops s.name a o ≡ true) ⊎ GoesOn s (snaps_after p a o)
goes-by p (act.Snap name ranges) succeeds s has = inr (stays-open s (p.snaps ++ new_snap p name ranges ∷ []) (has-front p.snaps (new_snap p name ranges ∷ []) s has))
goes-by p (act.Drop name) succeeds s has = dropped-or p name s (same_name s.name name) refl has
goes-by p (act.Put job) succeeds s has = inr (put-goes (groups_after p) s p.snaps (is_put_of_flush p job) has)
goes-by p (act.Install load) succeeds s has = inr (excised-goes load (span_of_load p load) s p.snaps has)
goes-by p _ _ s has = inr (stays-open s p.snaps has)

pub goes-on : (p : Plain) (note : Note) (s : Snapshot) → Has p.snaps s → (drops s.name note.act (outcome note.reply) ≡ true) ⊎ GoesOn s (after p note).snaps
goes-on p note s has = goes-by p note.act (outcome note.reply) s has
