-- Pieces of the same spans in another order are the same.
use Rattle.std.proofs.Common.{◌≡◌, ℕ, true, IsTrue, List, [], ◌∷◌, ◌++◌, ◌⊎◌, inl, inr, refl, subst, sym}
use Rattle.std.specs.List.{All}
use Rattle.xdb_key.specs.Bounds.{Bounds}
use Rattle.xdb_key.specs.Entries.{Tombstone}
use Rattle.xdb_key.specs.declared.op.Op.{Op}
use Rattle.xdb_rangedel.specs.Members.{Has, SameMembers}
use Rattle.xdb_rangedel.specs.Pieces.{ends, pieces, is_ordered, IsPiece}
use Rattle.xdb_rangedel.proofs.FragmentLaws.{All-at_Has}
use Rattle.xdb_rangedel.proofs.PieceLaws.{ends-has_lo, ends-has_hi, pieces-tell, pieces-has}
use Rattle.xdb_mem.specs.Parts.{clipped}
use Rattle.xdb_mem.proofs.HeldLaws.{same_then, same_front}
use Rattle.xdb_mem.proofs.PickLaws.{clipped-append}

ends_from : (ts : List Tombstone) (b : List ℕ) → Has (ends ts) b → (s : Tombstone) × Has ts s × ((s.range.lo ≡ b) ⊎ (s.range.hi ≡ b))
ends_from [] b h = absurd h
ends_from (t ∷ ts) b (inl e) = (t, inl refl, inl e)
ends_from (t ∷ ts) b (inr (inl e)) = (t, inl refl, inr e)
ends_from (t ∷ ts) b (inr (inr h)) = let more = ends_from ts b h in (more.0, inr more.1, more.2)

ends_within : (xs ys : List Tombstone) → ((s : Tombstone) → Has xs s → Has ys s) → (b : List ℕ) → Has (ends xs) b → Has (ends ys) b
ends_within xs ys within b h =
    let from = ends_from xs b h in
    elim from.2 [
      | inl e ↦ subst (Has (ends ys)) e (ends-has_lo ys from.0 (within from.0 from.1))
      | inr e ↦ subst (Has (ends ys)) e (ends-has_hi ys from.0 (within from.0 from.1))
    ]

piece_same : (xs ys : List Tombstone) (t : Tombstone) → ((s : Tombstone) → Has xs s → Has ys s) → ((s : Tombstone) → Has ys s → Has xs s) → IsPiece xs t → IsPiece ys t
piece_same xs ys t to from p =
    let (s, has, cover, seqs) = p.source in
    record {
      source = (s, to s has, cover, seqs);
      ordered = p.ordered;
      start = ends_within xs ys to t.range.lo p.start;
      end = ends_within xs ys to t.range.hi p.end;
      whole = λ at h. p.whole at (ends_within ys xs from at h);
    }

pub pieces_same : (xs ys : List Tombstone) → SameMembers xs ys → All (λ t. IsTrue (is_ordered t)) xs → SameMembers (pieces xs) (pieces ys)
pieces_same xs ys same ordered =
    let to : (s : Tombstone) → Has xs s → Has ys s = λ s. (same s).0 in
    let from : (s : Tombstone) → Has ys s → Has xs s = λ s. (same s).1 in
    let straight : (s : Tombstone) → Has xs s → is_ordered s ≡ true = λ s h. All-at_Has (λ t. IsTrue (is_ordered t)) xs s ordered h in
    λ t. (
      λ h. pieces-has ys t (piece_same xs ys t to from (pieces-tell xs t straight h)),
      λ h. pieces-has xs t (piece_same ys xs t from to (pieces-tell ys t (λ s g. straight s (from s g)) h)),
    )

-- what the next memtable has is clipped too
pub clipped_then : (range : Bounds) (limit : ℕ) (done next : List (ℕ × Op)) (out now : List Tombstone) → SameMembers out (clipped range limit done) → SameMembers now (out ++ clipped range limit next) → SameMembers now (clipped range limit (done ++ next))
clipped_then range limit done next out now before step =
    subst (SameMembers now) (sym (clipped-append range limit done next)) (same_then now (out ++ clipped range limit next) (clipped range limit done ++ clipped range limit next) step (same_front out (clipped range limit done) (clipped range limit next) before))
