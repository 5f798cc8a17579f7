-- The loop that writes one output after another.
use Rattle.std.proofs.Common.{◌≡◌, ℕ, ◌+◌, ◌-◌, ◌<◌, Bool, true, List, [], ◌∷◌, ◌++◌, length, get_or, take, drop, Option, sym, ap, ◌∙◌, subst, arith}
use Rattle.std.proofs.lemmas.List.{take_more, drop_more, map-append}
use Rattle.xdb_device.specs.Told.{Told}
use Rattle.xdb_key.specs.Entries.{Point, Tombstone}
use Rattle.xdb_meta.specs.Table.{Table}
use Rattle.xdb_rangedel.specs.Clip.{parts_before, parts_from}
use Rattle.xdb_rangedel.specs.Content.{content_of}
use Rattle.xdb_rangedel.specs.Members.{Has}
use Rattle.xdb_work.specs.Work.{nums_of, IsNext, AreHeld}
use Rattle.xdb_build.proofs.FlushLaws.{next}
use Rattle.xdb_build.proofs.StepLaws.{rest_more, more_follow, next_cut}
use Rattle.xdb_build.proofs.TryLaws.{not_tried}
use Rattle.xdb_build.specs.Given.{Given, reserved}
use Rattle.xdb_build.specs.Series.{EndsFrom, IsOutput, AreWithRest, Tries, IsUnderWay}

module _ {F : Type 0} (size : F → ℕ) (bytes : F → Option (List ℕ)) (g : Given F) (ps : List Point) (ss : List Tombstone) where
  pub next_number : (from num : ℕ) (over : List Tombstone) (ts : List Table) (fs : List (ℕ × F)) (tried : List ℕ) (start now : Told) → IsUnderWay size bytes g ps ss from num over ts fs tried start now → IsNext (reserved g) (num - g.first) num
  next_number from num over ts fs tried start now u = next g (num - g.first) num (omega (arith, u.behind, u.below)) (omega (arith, u.behind))

  pub fresh_number : (from num : ℕ) (over : List Tombstone) (ts : List Table) (fs : List (ℕ × F)) (tried : List ℕ) (start now : Told) → IsUnderWay size bytes g ps ss from num over ts fs tried start now → Has (nums_of fs) num → ⊥
  fresh_number from num over ts fs tried start now u has =
      not_tried g.first g.count (num - g.first) num tried (omega (arith, u.behind, u.below)) (omega (arith, u.behind)) u.tries.first (subst (λ ns. Has ns num) u.nums has)

  pub under_way_more : (from to num last : ℕ) (more : Bool) (p : Point) (over : List Tombstone) (ts : List Table) (fs : List (ℕ × F)) (tried now_tried : List ℕ) (t : Table) (file : F) (start mid now : Told) → last ≡ g.first + (g.count - 1)
      → IsUnderWay size bytes g ps ss from num over ts fs tried start mid → EndsFrom ps from more to → (more ≡ true → num < last) → to < length ps → p ≡ get_or ps to p
      → IsOutput size bytes num (content_of (take (to - from) (drop from ps)) (parts_before p.key over)) t (num, file)
      → Tries (reserved g) (num - g.first + 1) now_tried start now → AreHeld size bytes now.holds (fs ++ (num, file) ∷ [])
      → IsUnderWay size bytes g ps ss to (num + 1) (parts_from p.key over) (ts ++ t ∷ []) (fs ++ (num, file) ∷ []) now_tried start now
  under_way_more from to num last more p over ts fs tried now_tried t file start mid now end u e means less is one tries held =
      let follows : num < last = means (more_follow ps from to more e less) in
      let at = next_number from num over ts fs tried start mid u in
      let rest_is : p ∷ drop (to + 1) ps ≡ drop to ps = ap (λ q. q ∷ drop (to + 1) ps) is ∙ sym (drop_more ps to p less) in
      let left : g.count - (num - g.first) - 1 ≡ g.count - (num + 1 - g.first) = omega (arith, u.behind, u.below) in
      let place : num - g.first + 1 ≡ num + 1 - g.first = omega (arith, u.behind) in
      record {
        behind = omega (arith, u.behind);
        below = omega (arith, follows, end, u.behind, u.below);
        something = omega (arith, ap length rest_is);
        rest = subst (λ n. AreWithRest size bytes g.count g.first ps ss n (num + 1) (drop to ps) (parts_from p.key over) (ts ++ t ∷ []) (fs ++ (num, file) ∷ [])) left
            (subst (λ xs. AreWithRest size bytes g.count g.first ps ss (g.count - (num - g.first) - 1) (num + 1) xs (parts_from p.key over) (ts ++ t ∷ []) (fs ++ (num, file) ∷ [])) rest_is
            (rest_more size bytes g.count g.first (g.count - (num - g.first)) num ps ss (drop from ps) (take (to - from) (drop from ps)) p (drop (to + 1) ps) over ts fs t (num, file) u.rest
            (next_cut (g.count - (num - g.first)) ps from to more p e less is (omega (arith, follows, end, u.behind, u.below))) one));
        nums = map-append (λ (f : ℕ × F). f.0) fs ((num, file) ∷ []) ∙ ap (λ ns. ns ++ num ∷ []) (u.nums ∙ u.tries.first)
            ∙ ap (λ n. take (num - g.first) (reserved g) ++ n ∷ []) at.is ∙ sym (take_more (reserved g) (num - g.first) num at.inside) ∙ sym tries.first;
        tries = subst (λ n. Tries (reserved g) n now_tried start now) place tries;
        held = held;
      }
