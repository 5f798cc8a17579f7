-- Snapshots and those of the plain model, changed alike.
use Rattle.std.proofs.Common.{◌≡◌, ℕ, Bool, true, false, not, cond, List, [], ◌∷◌, ◌++◌, length, map, filter, Option, Some, None, refl, sym, ap, ap₂, ◌∙◌}
use Rattle.std.specs.FinMap as fin
use Rattle.std.specs.List.{find}
use Rattle.std.specs.Option.{option_map}
use Rattle.std.specs.Prelude.{nat_le, is_some}
use Rattle.std.proofs.lemmas.List.{length-map, map-append}
use Rattle.xdb_key.specs.Bounds.{Bounds}
use Rattle.xdb_key.specs.declared.state.SnapState.TheVariants.{FileOnly}
use Rattle.xdb_plain.specs.Snapshots as plain
use Rattle.xdb_plain.specs.State.{Plain, Snapshot, groups, same_name, found_snap, without_snap}
use Rattle.xdb_snap.specs.declared.snap.Snap.{Snap}
use Rattle.xdb_snap.specs.Bare.{with_copy, bare, ArePlain, file_only_at}
use Rattle.xdb_snap.specs.Changes.{refusal, without_ticket, turned, excised}
use Rattle.xdb_plain.specs.Replies.{snap_replies, state_reply}
use Rattle.xdb_plain.specs.declared.reply.Reply.{Reply}
use Rattle.xdb_plain.specs.declared.reply.Reply.TheVariants as reply
use Rattle.xdb_snap.specs.declared.error.SnapNo.TheVariants.{NameInUse, BadRanges, TooMany}
use Rattle.xdb_snap.specs.Replies.{replies_by}
use Rattle.xdb_snap.specs.Listed.{has_name, named, without, changed}

-- ---- what a map makes of a search, of a selection and of a change

module _ {X Y : Type 0} (u : X → Y) where
  map-find : (p : Y → Bool) (xs : List X) → option_map u (find (λ x. p (u x)) xs) ≡ find p (map u xs)
  map-find p [] = refl
  map-find p (x ∷ xs) = by (p (u x)) (map-find p xs)
    where
      by : (t : Bool) → option_map u (find (λ x. p (u x)) xs) ≡ find p (map u xs) → option_map u (cond t (Some x) (find (λ x. p (u x)) xs)) ≡ cond t (Some (u x)) (find p (map u xs))
      by true rest = refl
      by false rest = rest

  map-filter : (p : Y → Bool) (xs : List X) → map u (filter (λ x. p (u x)) xs) ≡ filter p (map u xs)
  map-filter p [] = refl
  map-filter p (x ∷ xs) = by (p (u x)) (map-filter p xs)
    where
      by : (t : Bool) → map u (filter (λ x. p (u x)) xs) ≡ filter p (map u xs) → map u (cond t (x ∷ filter (λ x. p (u x)) xs) (filter (λ x. p (u x)) xs)) ≡ cond t (u x ∷ filter p (map u xs)) (filter p (map u xs))
      by true rest = ap (λ ys. u x ∷ ys) rest
      by false rest = rest

  map-through : (f : X → X) (g : Y → Y) → ((x : X) → u (f x) ≡ g (u x)) → (xs : List X) → map u (map f xs) ≡ map g (map u xs)
  map-through f g same [] = refl
  map-through f g same (x ∷ xs) = ap₂ (λ y ys. y ∷ ys) (same x) (map-through f g same xs)

  map-kept : (f : X → X) → ((x : X) → u (f x) ≡ u x) → (xs : List X) → map u (map f xs) ≡ map u xs
  map-kept f same [] = refl
  map-kept f same (x ∷ xs) = ap₂ (λ y ys. y ∷ ys) (same x) (map-kept f same xs)

-- ---- snapshots

module _ {H T : Type 0} (snaps : List (Snap H T)) (plains : List Snapshot) (alike : ArePlain snaps plains) where
  pub plain-made : (s : Snap H T) (p : Snapshot) → with_copy fin.empty s ≡ bare p → ArePlain (snaps ++ s ∷ []) (plains ++ p ∷ [])
  plain-made s p same = map-append (with_copy fin.empty) snaps (s ∷ []) ∙ ap₂ (λ xs y. xs ++ y ∷ []) alike same ∙ sym (map-append bare plains (p ∷ []))

  pub plain-dropped : (name : List ℕ) → ArePlain (without name snaps) (without_snap name plains)
  plain-dropped name =
      map-filter (with_copy fin.empty) (λ p. not (same_name p.name name)) snaps
      ∙ ap (filter (λ p. not (same_name p.name name))) alike
      ∙ sym (map-filter bare (λ p. not (same_name p.name name)) plains)

  pub plain-ticket : (name : List ℕ) → ArePlain (changed name without_ticket snaps) plains
  plain-ticket name = map-kept (with_copy fin.empty) (λ s. cond (has_name name s) (without_ticket s) s) (λ s. one (has_name name s) s) snaps ∙ alike
    where
      one : (t : Bool) (s : Snap H T) → with_copy fin.empty (cond t (without_ticket s) s) ≡ with_copy fin.empty s
      one true s = refl
      one false s = refl

  -- a change of the plain snapshots that doesn't look at their copies
  plain-mapped : (f : Snap H T → Snap H T) (g : Snapshot → Snapshot) → ((s : Snap H T) → with_copy fin.empty (f s) ≡ g (with_copy fin.empty s)) → ((p : Snapshot) → bare (g p) ≡ g (bare p)) → ArePlain (map f snaps) (map g plains)
  plain-mapped f g same bared =
      map-through (with_copy fin.empty) f g same snaps ∙ ap (map g) alike ∙ sym (map-through bare g g bared plains)

  pub plain-turned : (name : List ℕ) (hold : H) → ArePlain (changed name (turned hold) snaps) (map (file_only_at name) plains)
  plain-turned name hold =
      plain-mapped (λ s. cond (has_name name s) (turned hold s) s) (file_only_at name) (λ s. one (has_name name s) s) (λ p. two (same_name p.name name) p)
    where
      one : (t : Bool) (s : Snap H T) → with_copy fin.empty (cond t (turned hold s) s) ≡ cond t (record (with_copy fin.empty s) { state = FileOnly }) (with_copy fin.empty s)
      one true s = refl
      one false s = refl

      two : (t : Bool) (p : Snapshot) → bare (cond t (record p { state = FileOnly }) p) ≡ cond t (record (bare p) { state = FileOnly }) (bare p)
      two true p = refl
      two false p = refl

  pub plain-excised : (load : List ℕ) (span : Bounds) → ArePlain (map (excised load span) snaps) (map (plain.excised load (Some span)) plains)
  plain-excised load span = plain-mapped (excised load span) (plain.excised load (Some span)) (λ s. refl) (λ p. refl)

  pub plain-found : (name : List ℕ) → option_map (with_copy fin.empty) (named name snaps) ≡ option_map bare (found_snap name plains)
  plain-found name =
      map-find (with_copy fin.empty) (λ p. same_name p.name name) snaps
      ∙ ap (find (λ p. same_name p.name name)) alike
      ∙ sym (map-find bare (λ p. same_name p.name name) plains)

  pub plain-count : length snaps ≡ length plains
  plain-count = sym (length-map snaps (with_copy fin.empty)) ∙ ap length alike ∙ length-map plains bare

-- ---- refusals

some-mapped : {X Y : Type 0} (u : X → Y) (o : Option X) → is_some (option_map u o) ≡ is_some o
some-mapped u None = refl
some-mapped u (Some x) = refl

module _ {H T : Type 0} (snaps : List (Snap H T)) (p : Plain) (alike : ArePlain snaps p.snaps) where
  free-alike : (name : List ℕ) → is_some (found_snap name p.snaps) ≡ is_some (named name snaps)
  free-alike name =
      sym (some-mapped bare (found_snap name p.snaps))
      ∙ sym (ap is_some (plain-found snaps p.snaps alike name))
      ∙ some-mapped (with_copy fin.empty) (named name snaps)

  by-tests : (used rise full : Bool) (granted : List Reply) → cond used (reply.NameInUse ∷ []) (cond (not rise) (reply.BadRanges ∷ []) (cond full (reply.TooMany ∷ []) granted))
      ≡ replies_by (cond used (Some NameInUse) (cond (not rise) (Some BadRanges) (cond full (Some TooMany) None))) granted
  by-tests true rise full granted = refl
  by-tests false false full granted = refl
  by-tests false true true granted = refl
  by-tests false true false granted = refl

  pub refused-alike : (name : List ℕ) (ranges : List Bounds) → snap_replies p name ranges ≡ replies_by (refusal name ranges snaps) (reply.Memory ∷ state_reply (plain.first_state ranges p.next (groups p)) ∷ [])
  refused-alike name ranges =
      let granted = reply.Memory ∷ state_reply (plain.first_state ranges p.next (groups p)) ∷ [] in
      ap₂ (λ used count. cond used (reply.NameInUse ∷ []) (cond (not (plain.are_rising ranges)) (reply.BadRanges ∷ []) (cond (nat_le 64 count) (reply.TooMany ∷ []) granted)))
      (free-alike name) (sym (plain-count snaps p.snaps alike))
      ∙ by-tests (is_some (named name snaps)) (plain.are_rising ranges) (nat_le 64 (length snaps)) granted
