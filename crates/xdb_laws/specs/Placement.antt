-- Where tables stand: what a span leaves of the levels in order, and what comes to stand among them.
use Rattle.std.specs.Prelude.{◌≡◌, ℕ, zero, suc, ◌+◌, ◌≤◌, ◌==◌, List, [], ◌∷◌, ◌++◌, map, filter}
use Rattle.xdb_rangedel.specs.Content.{Item, seq_of, IsClear}
use Rattle.xdb_rangedel.specs.Layers.{IsAllBelow, IsDrawn}
use Rattle.xdb_rangedel.specs.Members.{Has, SameMembers}
use Rattle.xdb_laws.specs.Compaction.{ShareNoKey}
use Rattle.xdb_laws.specs.Ordered.{joined, whole}

-- Tables of L0, each beside the greatest number that is kept with it. They stand in the order of these numbers, and
-- tables that have one number, as those of one load and halves of one table, share no key.
abbrev pub RiseByNumber : List (ℕ × List Item) → Type 0
RiseByNumber [] = Unit {0}
RiseByNumber (t ∷ ts) =
    ((u : ℕ × List Item) → Has ts u → (t.0 ≤ u.0) × (t.0 ≡ u.0 → ShareNoKey t.1 u.1)) × RiseByNumber ts

abbrev pub without_numbers : List (ℕ × List Item) → List (List Item)
without_numbers ts = map (λ t. t.1) ts

-- level by level, what it has is drawn from what it had
abbrev pub AreDrawn : List (List (List Item)) → List (List (List Item)) → Type 0
AreDrawn [] [] = Unit {0}
AreDrawn (l ∷ ls) (m ∷ ms) = IsDrawn (joined l) (joined m) × AreDrawn ls ms
AreDrawn _ _ = ⊥

-- what a span leaves of L0, table by table under the number of the one that it was cut from, and of the levels below it
pub record IsCut (l0 cut : List (ℕ × List Item)) (lower left : List (List (List Item))) : Type 0 where
  pub before : RiseByNumber l0
  pub after : RiseByNumber cut
  pub from : (u : ℕ × List Item) → Has cut u → (t : ℕ × List Item) × Has l0 t × (t.0 ≡ u.0) × IsDrawn t.1 u.1
  pub below : AreDrawn lower left

-- each is clear, and no two share a key
abbrev pub AreApart : List (List Item) → Type 0
AreApart [] = Unit {0}
AreApart (c ∷ cs) = IsClear c × ShareNoKey c (joined cs) × AreApart cs

-- those of them that come to a level, each beside its level; and those that come to so many levels, from one on
abbrev pub at_level : ℕ → List (ℕ × List Item) → List (List Item)
at_level level cs = without_numbers (filter (λ c. c.0 == level) cs)

abbrev pub levels_from : ℕ → ℕ → List (ℕ × List Item) → List (List (List Item))
levels_from level zero cs = []
levels_from level (suc n) cs = at_level level cs ∷ levels_from (level + 1) n cs

-- each beside one number
abbrev pub beside_number : ℕ → List (List Item) → List (ℕ × List Item)
beside_number n cs = map (λ c. (n, c)) cs

-- Level by level below what stands above: nothing that comes to a level shares a key with what is there or above, and
-- the level has both then.
abbrev pub AreFilled : List Item → List (List (List Item)) → List (List (List Item)) → List (List (List Item)) → Type 0
AreFilled above [] [] [] = Unit {0}
AreFilled above (l ∷ ls) (c ∷ cs) (f ∷ fs) =
    ShareNoKey (above ++ joined l) (joined c) × SameMembers (joined f) (joined l ++ joined c) × AreFilled (above ++ joined l) ls cs fs
AreFilled above _ _ _ = ⊥

-- Tables with the next number come to L0, and to the levels below it, among content whose numbers lie below it.
pub record Joins (next : ℕ) (groups l0 fresh : List (List Item)) (lower coming filled : List (List (List Item))) : Type 0 where
  pub older : IsAllBelow next (whole groups (l0 ∷ lower))
  pub number : (i : Item) → Has (joined (fresh ++ map joined coming)) i → seq_of i ≡ next
  pub apart : AreApart (fresh ++ map joined coming)
  pub free : ShareNoKey (joined groups) (joined fresh)
  pub levels : AreFilled (joined groups ++ joined l0) lower coming filled
