-- The small flush, part by part.
use Rattle.std.proofs.Common.{ℕ, ◌<◌, ◌≤◌, [], ◌∷◌, List, inl, inr, refl, subst, arith}
use Rattle.xdb_meta.specs.Table.{Table}
use Rattle.xdb_rangedel.specs.Content.{Item, seq_of}
use Rattle.xdb_rangedel.specs.Layers.{IsAllBelow, IsAllFrom}
use Rattle.xdb_rangedel.specs.Members.{Has}
use Rattle.xdb_edit.specs.Samples.{small_table}
use Rattle.xdb_laws.specs.Ordered.{StandsByNumber}
use Rattle.xdb_laws.specs.Small.{flushed_content, put, deleted, range_deleted}
use Rattle.xdb_laws.proofs.RewriteLaws.{rewrite-same}
use Rattle.xdb_laws.proofs.instances.an_edit_puts_a_flush.Goals as goal

abbrev unflushed : List Item
unflushed = put 98 9 ∷ put 98 10 ∷ []

unflushed-from : IsAllFrom 9 unflushed
unflushed-from i (inl e) = subst (λ x. 9 ≤ seq_of x) e (omega arith)
unflushed-from i (inr (inl e)) = subst (λ x. 9 ≤ seq_of x) e (omega arith)
unflushed-from i (inr (inr never)) = absurd never

older-below : IsAllBelow 6 (deleted 97 5 ∷ range_deleted 98 99 4 ∷ [])
older-below i (inl e) = subst (λ x. seq_of x < 6) e (omega arith)
older-below i (inr (inl e)) = subst (λ x. seq_of x < 6) e (omega arith)
older-below i (inr (inr never)) = absurd never

newer-below : IsAllBelow 9 (put 97 8 ∷ [])
newer-below i (inl e) = subst (λ x. seq_of x < 9) e (omega arith)
newer-below i (inr never) = absurd never

new-below : (limit : ℕ) → 9 < limit → IsAllBelow limit (put 98 9 ∷ [])
new-below limit less i (inl e) = subst (λ x. seq_of x < limit) e (omega (arith, less))
new-below limit less i (inr never) = absurd never

rising : (i j : Item) → Has (put 98 9 ∷ []) i → Has (put 98 10 ∷ []) j → seq_of i < seq_of j
rising i j (inl e) (inl f) = subst (λ x. seq_of x < seq_of j) e (subst (λ x. 9 < seq_of x) f (omega arith))
rising i j (inl e) (inr never) = absurd never
rising i j (inr never) q = absurd never

standing : (t : Table) → Has (small_table 1 97 99 5 100 ∷ small_table 3 97 98 8 100 ∷ []) t → StandsByNumber unflushed 11 t.seq_hi (flushed_content t)
standing t (inl e) = subst (λ x. StandsByNumber unflushed 11 x.seq_hi (flushed_content x)) e
    (record { below = omega arith; within = older-below; apart = inl (λ i h. let from : 9 ≤ seq_of i = unflushed-from i h in omega arith) })
standing t (inr (inl e)) = subst (λ x. StandsByNumber unflushed 11 x.seq_hi (flushed_content x)) e
    (record { below = omega arith; within = newer-below; apart = inl unflushed-from })
standing t (inr (inr never)) = absurd never

pub returns-clause-put : goal.returns-clause-put
returns-clause-put c = record {
  sorted = refl;
  stand = standing;
  below = new-below 11 (omega arith);
  rising = rising;
  made = rewrite-same (put 98 9 ∷ []) (put 98 9 ∷ []) (λ i. (λ h. h, λ h. h));
  within = new-below 10 (omega arith);
  greatest = (put 98 9, inl refl, refl);
}
