-- The small excise, and what it leaves of L0.
use Rattle.std.proofs.Common.{◌≡◌, ℕ, ◌≤◌, List, [], ◌∷◌, ◌++◌, Some, inl, inr, refl, ap, subst, arith}
use Rattle.xdb_rangedel.specs.Content.{Item}
use Rattle.xdb_rangedel.specs.Layers.{IsDrawn}
use Rattle.xdb_rangedel.specs.Members.{Has}
use Rattle.xdb_laws.specs.Compaction.{ShareNoKey}
use Rattle.xdb_laws.specs.Excises.{keys_before, keys_behind}
use Rattle.xdb_laws.specs.SmallLoad.{small_span, small_file, small_shown, small_left, small_right, left_half, right_half, small_other}
use Rattle.xdb_laws.proofs.ExciseLaws.{half-drawn, halves-apart}
use Rattle.xdb_laws.proofs.OrderLaws.{drawn-itself}
use Rattle.xdb_laws.proofs.SmallLaws.{is_left, is_right, excised}
use Rattle.xdb_laws.proofs.load_instances.an_excise_is_one.Goals as goal

pub returns-clause-excised : goal.returns-clause-excised
returns-clause-excised c = excised

drawn_left : IsDrawn small_file left_half
drawn_left = half-drawn small_file (keys_before small_shown small_span) 0 small_shown (Some small_left) refl is_left

drawn_right : IsDrawn small_file right_half
drawn_right = half-drawn small_file (keys_behind small_shown small_span) 0 small_shown (Some small_right) refl is_right

apart : ShareNoKey left_half right_half
apart = halves-apart small_file small_shown small_span 0 (Some small_left) (Some small_right) refl is_left is_right

-- both are cut from the one table, whose number is 7
behind : (u : ℕ × List Item) → (7, right_half) ≡ u → (7 ≤ u.0) × (7 ≡ u.0 → ShareNoKey left_half u.1)
behind u e = subst (λ x. (7 ≤ x.0) × (7 ≡ x.0 → ShareNoKey left_half x.1)) e (omega arith, λ tie. apart)

from_file : (c : List Item) (u : ℕ × List Item) → IsDrawn small_file c → (7, c) ≡ u → (t : ℕ × List Item) × Has ((7, small_file) ∷ []) t × (t.0 ≡ u.0) × IsDrawn t.1 u.1
from_file c u d e = ((7, small_file), inl refl, ap (λ x. x.0) e, subst (λ x. IsDrawn small_file x.1) e d)

pub returns-clause-cut : goal.returns-clause-cut
returns-clause-cut c = record {
  before = ((λ u h. absurd h), tt);
  after = (
    λ u h. elim h [
      | inl e ↦ behind u e
      | inr never ↦ absurd never
    ],
    ((λ u h. absurd h), tt),
  );
  from = λ u h. elim h [
    | inl e ↦ from_file left_half u drawn_left e
    | inr g ↦ elim g [
      | inl e ↦ from_file right_half u drawn_right e
      | inr never ↦ absurd never
    ]
  ];
  below = (drawn-itself (small_other ++ []), tt);
}
