-- The files so far are brought.
use Rattle.std.proofs.Common.{◌≡◌, ◌+◌, ◌||◌, ℕ, length, map}
use Rattle.xdb_lists.specs.Numbers.{is_among}
use Rattle.xdb_vset.specs.Backings.{count_in, file_in, file_from}
use Rattle.xdb_vset.proofs.files.Files.add_all.Given as goal

abbrev pub invariant-loop-num : goal.invariant-loop-num
invariant-loop-num g l = record {
  known : (n : ℕ) → is_among n l.self.known ≡ (is_among n (map (λ f. f.0) l.yielded) || is_among n l.initial.self.known);
  count : (b : ℕ) → count_in b l.self.named ≡ count_in b l.initial.self.named;
  file : (b : ℕ) → file_in b l.self.named ≡ file_from l.yielded b (file_in b l.initial.self.named);
  spare : l.self.spare + length l.yielded ≡ l.initial.self.spare;
  rest : l.self ≡ record l.initial.self { named = l.self.named; known = l.self.known; dead = l.self.dead; spare = l.self.spare };
}
