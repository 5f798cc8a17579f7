-- Pieces that are read one after another.
use Rattle.std.proofs.Common.{◌≡◌, ℕ, ◌+◌, ◌≤◌, List, ◌++◌, length, take, drop, Option, Some, None, sym, ap, ◌∙◌, arith, append_assoc}
use Rattle.std.proofs.lemmas.List.{take-append-le, take-append-drop, drop-drop}
use Rattle.std.proofs.Math.Seq.{take-add}
use Rattle.xdb_device.specs.Files.{AddsFrom}
use Rattle.xdb_device.specs.Streams.{Grew}

pub Grew-then : (m n : ℕ) (a b c : List ℕ) → Grew m a b → Grew n b c → Grew (m + n) a c
Grew-then m n a b c first second =
    let rest : List ℕ = drop (length b) c in
    let split : c ≡ b ++ rest = sym (take-append-drop (length b) c) ∙ ap (λ (l : List ℕ). l ++ rest) second.front in
    let within : length a ≤ length b = omega (arith, first.by) in
    record {
      front = ap (take (length a)) split ∙ take-append-le (length a) b rest within ∙ first.front;
      by = omega (arith, first.by, second.by);
    }

-- m bytes from `off` on, and then n bytes from where these end
pub AddsFrom-then : (known : Option (List ℕ)) (off m at n : ℕ) (a b c : List ℕ) → at ≡ off + m
    → AddsFrom known off m a b → AddsFrom known at n b c → AddsFrom known off (m + n) a c
AddsFrom-then None off m at n a b c next first second = tt
AddsFrom-then (Some bytes) off m at n a b c next first second =
    let rest : drop at bytes ≡ drop m (drop off bytes) = ap (λ (k : ℕ). drop k bytes) next ∙ sym (drop-drop m off bytes) in
    second
    ∙ ap (λ (l : List ℕ). l ++ take n (drop at bytes)) first
    ∙ append_assoc a (take m (drop off bytes)) (take n (drop at bytes))
    ∙ ap (λ (l : List ℕ). a ++ (take m (drop off bytes) ++ take n l)) rest
    ∙ ap (λ (l : List ℕ). a ++ l) (sym (take-add m n (drop off bytes)))
