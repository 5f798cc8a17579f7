-- The bounds that small contents lie within, item by item.
use Rattle.std.proofs.Common.{◌≡◌, inl, inr, IsTrue, refl, subst}
use Rattle.xdb_key.specs.Bounds.{Bounds}
use Rattle.xdb_rangedel.specs.Content.{Item}
use Rattle.xdb_rangedel.specs.View.{lies_in}
use Rattle.xdb_laws.specs.Small.{letters, put, deleted, range_deleted}
use Rattle.xdb_laws.proofs.instances.a_compaction_is_one.Goals as goal

inside : (r : Bounds) (i j : Item) → i ≡ j → IsTrue (lies_in r i) → IsTrue (lies_in r j)
inside r i j e h = subst (λ x. IsTrue (lies_in r x)) e h

pub returns-clause-others : goal.returns-clause-others
returns-clause-others c = λ i h. elim h [
  | inl e ↦ (letters 100 101, inl refl, inside (letters 100 101) (put 100 3) i e refl)
  | inr never ↦ absurd never
]

pub returns-clause-bounds : goal.returns-clause-bounds
returns-clause-bounds c = λ i h. elim h [
  | inl e ↦ (letters 97 98, inl refl, inside (letters 97 98) (deleted 97 5) i e refl)
  | inr g ↦ elim g [
    | inl e ↦ (letters 98 99, inr (inl refl), inside (letters 98 99) (range_deleted 98 99 4) i e refl)
    | inr k ↦ elim k [
      | inl e ↦ (letters 97 98, inl refl, inside (letters 97 98) (put 97 2) i e refl)
      | inr never ↦ absurd never
    ]
  ]
]

pub returns-clause-floor : goal.returns-clause-floor
returns-clause-floor c = λ i h. elim h [
  | inl e ↦ (letters 98 99, inl refl, inside (letters 98 99) (put 98 1) i e refl)
  | inr never ↦ absurd never
]
