-- One turn of the loop that writes outputs, and its end.
use Rattle.std.proofs.Common.{◌≡◌, ℕ, ◌+◌, ◌-◌, ◌<◌, ◌≤◌, Bool, true, List, [], ◌∷◌, ◌++◌, length, take, drop, map, Option, Some, refl, sym, ap, ◌∙◌, subst, arith}
use Rattle.std.proofs.lemmas.List.{take_all, take_more, length-drop, map-append}
use Rattle.std.specs.List.{slice_get}
use Rattle.xdb_device.specs.Told.{Told}
use Rattle.xdb_key.specs.Entries.{Point, Tombstone}
use Rattle.xdb_rangedel.specs.Clip.{parts_before, parts_from}
use Rattle.xdb_rangedel.specs.Content.{entry_of, content_of}
use Rattle.xdb_work.proofs.WorkLaws.{held_none}
use Rattle.xdb_work.specs.Work.{nums_of, IsNext, AreHeld}
use Rattle.xdb_build.proofs.PlaceLaws.{left_next, entry_at}
use Rattle.xdb_build.proofs.StepLaws.{rest_none, rest_last}
use Rattle.xdb_build.proofs.TryLaws.{tries_none, tries_stand}
use Rattle.xdb_build.proofs.WayLaws.{next_number, fresh_number, under_way_more}
use Rattle.xdb_build.specs.Cuts.{IsOpen}
use Rattle.xdb_build.specs.Given.{Given, IsGiven, reserved}
use Rattle.xdb_build.specs.Series.{EndsFrom, IsOutput, IsOneMore, Tries, Stops, spans_left, BeginsAt, IsUnderWay, AreOutputs, AreWritten}
use Rattle.xdb_build.specs.declared.series.Progress.{Progress}

module _ {F : Type 0} (size : F → ℕ) (bytes : F → Option (List ℕ)) (g : Given F) (ps : List Point) (ss : List Tombstone) where
  -- nothing is written yet
  pub begins : (made : Progress F) (now : Told) → IsGiven g → 1 ≤ length ps + length ss → made.tables.items ≡ [] → made.files.items ≡ [] → made.tried.items ≡ [] → BeginsAt size bytes g ps ss 0 g.first made now now
  begins made now given some no_tables no_files none_tried =
      let none : g.first - g.first ≡ 0 = omega arith in
      let all : g.count - (g.first - g.first) ≡ g.count = omega arith in
      subst (λ ts. IsUnderWay size bytes g ps ss 0 g.first ss ts made.files.items made.tried.items now now) (sym no_tables)
      (subst (λ fs. IsUnderWay size bytes g ps ss 0 g.first ss [] fs made.tried.items now now) (sym no_files)
      (record {
        behind = omega arith;
        below = omega (arith, given.count);
        something = some;
        rest = rw all (rest_none size bytes g.count g.first ps ss);
        nums = sym none_tried;
        tries = rw none (tries_none (reserved g) made.tried.items now none_tried);
        held = held_none size bytes now.holds;
      }))

  -- one more output, that ends where another begins
  pub turn_goes : (from to num : ℕ) (part : List Tombstone) (old new : Progress F) (start before after : Told) → EndsFrom ps from true to → to < length ps → ((p : Point) → slice_get ps to ≡ Some p → part ≡ parts_before p.key (spans_left ps from ss))
      → IsOneMore size bytes num (content_of (take (to - from) (drop from ps)) part) old new before after → num + 1 < g.first + g.count
      → BeginsAt size bytes g ps ss from num old start before → BeginsAt size bytes g ps ss to (num + 1) new start after
  turn_goes from to num part old new start before after e less part_at one room u =
      let over = spans_left ps from ss in
      let next = entry_at ps to less in
      let p = next.0 in
      let is = next.1 in
      let part_is = part_at p next.2 in
      let more = under_way_more size bytes g ps ss from to num (g.first + (g.count - 1)) true p over old.tables.items old.files.items old.tried.items new.tried.items one.table one.file start before after refl
      u e (λ _. omega (arith, room)) less is
      (subst (λ x. IsOutput size bytes num (content_of (take (to - from) (drop from ps)) x) one.table (num, one.file)) part_is one.output)
      (one.goes (reserved g) (num - g.first) start (next_number size bytes g ps ss from num over old.tables.items old.files.items old.tried.items start before u) u.tries)
      (subst (AreHeld size bytes after.holds) one.files (one.held (fresh_number size bytes g ps ss from num over old.tables.items old.files.items old.tried.items start before u) u.held)) in
      subst (λ x. IsUnderWay size bytes g ps ss to (num + 1) x new.tables.items new.files.items new.tried.items start after) (left_next ps from to p ss e less is)
      (subst (λ ts. IsUnderWay size bytes g ps ss to (num + 1) (parts_from p.key over) ts new.files.items new.tried.items start after) (sym one.tables)
      (subst (λ fs. IsUnderWay size bytes g ps ss to (num + 1) (parts_from p.key over) (old.tables.items ++ one.table ∷ []) fs new.tried.items start after) (sym one.files) more))

  -- the output that has all that is left
  pub turn_ends : (from num : ℕ) (rest : List Point) (over : List Tombstone) (old new : Progress F) (start before after : Told) → rest ≡ drop from ps → over ≡ spans_left ps from ss
      → IsOneMore size bytes num (content_of rest over) old new before after → (2 ≤ g.count - (num - g.first) → IsOpen (map entry_of (drop from ps)))
      → BeginsAt size bytes g ps ss from num old start before → AreWritten size bytes g ps ss new start after
  turn_ends from num rest over old new start before after rest_is over_is one light u =
      let left = spans_left ps from ss in
      let at = next_number size bytes g ps ss from num left old.tables.items old.files.items old.tried.items start before u in
      let tries = one.goes (reserved g) (num - g.first) start at u.tries in
      record {
        outputs = subst (λ ts. AreOutputs size bytes g.count g.first ps ss ts new.files.items) (sym one.tables)
            (subst (λ fs. AreOutputs size bytes g.count g.first ps ss (old.tables.items ++ one.table ∷ []) fs) (sym one.files)
            (rest_last size bytes g.count g.first (g.count - (num - g.first)) num ps ss (drop from ps) left old.tables.items old.files.items one.table (num, one.file) u.rest (omega (arith, u.behind, u.below)) light
            (subst (λ c. IsOutput size bytes num c one.table (num, one.file)) (λ i. content_of (rest_is i) (over_is i)) one.output)));
        nums = ap nums_of one.files ∙ map-append (λ (f : ℕ × F). f.0) old.files.items ((num, one.file) ∷ []) ∙ ap (λ ns. ns ++ num ∷ []) (u.nums ∙ u.tries.first)
            ∙ ap (λ n. take (num - g.first) (reserved g) ++ n ∷ []) at.is ∙ sym (take_more (reserved g) (num - g.first) num at.inside) ∙ sym tries.first;
        tried = tries_stand (reserved g) (num - g.first + 1) new.tried.items ⊥ start after tries;
        held = one.held (fresh_number size bytes g ps ss from num left old.tables.items old.files.items old.tried.items start before u) u.held;
      }

  -- the work stops before the output is tried, or while it is
  pub turn_stands : (from num : ℕ) (old : Progress F) (lacks : Type 0) (start now : Told) → BeginsAt size bytes g ps ss from num old start now → Stops (reserved g) old.tried.items lacks start now
  turn_stands from num old lacks start now u = tries_stand (reserved g) (num - g.first) old.tried.items lacks start now u.tries

  pub turn_stops : (from num : ℕ) (old : Progress F) (tried : List ℕ) (lacks : Type 0) (start before after : Told)
      → ((reserved : List ℕ) (i : ℕ) (start : Told) → IsNext reserved i num → Tries reserved i old.tried.items start before → Stops reserved tried lacks start after)
      → BeginsAt size bytes g ps ss from num old start before → Stops (reserved g) tried lacks start after
  turn_stops from num old tried lacks start before after stops u =
      stops (reserved g) (num - g.first) start (next_number size bytes g ps ss from num (spans_left ps from ss) old.tables.items old.files.items old.tried.items start before u) u.tries

-- the rest isn't full before its last key, where another output might follow
pub light_rest : (ps : List Point) (from to : ℕ) (more : Bool) (most : ℕ) → EndsFrom ps from more to → length ps ≤ to → (2 ≤ most → more ≡ true) → 2 ≤ most → IsOpen (map entry_of (drop from ps))
light_rest ps from to more most e all means some =
    subst (λ xs. IsOpen (map entry_of xs)) (take_all (to - from) (drop from ps) (omega (arith, length-drop from ps, all))) (e.ends (means some)).open_
