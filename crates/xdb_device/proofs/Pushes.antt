-- Pushes one after another.
use Rattle.std.proofs.Common.{◌≡◌, ℕ, ◌+◌, ◌-◌, List, ◌++◌, length, take, drop, Option, Some, None, refl, sym, ap, ◌∙◌, append_assoc, append-nil, length-drop}
use Rattle.std.proofs.Math.Seq.{take-add, take-length}
use Rattle.std.specs.Io.KnownBytes.{append_known}

pub append_known-nil : (bs : List ℕ) (a : Option (List ℕ)) → a ≡ append_known a (take 0 bs)
append_known-nil bs None = refl
append_known-nil bs (Some xs) = ap (λ (l : List ℕ). Some l) (sym (append-nil xs))

append_known-then : (bs : List ℕ) (m n : ℕ) (a : Option (List ℕ)) → append_known (append_known a (take m bs)) (take n (drop m bs)) ≡ append_known a (take (m + n) bs)
append_known-then bs m n None = refl
append_known-then bs m n (Some xs) =
    ap (λ (l : List ℕ). Some l) (append_assoc xs (take m bs) (take n (drop m bs)) ∙ ap (λ (l : List ℕ). xs ++ l) (sym (take-add m n bs)))

the_rest : (m : ℕ) (bs : List ℕ) → take (length bs - m) (drop m bs) ≡ drop m bs
the_rest m bs = ap (λ (n : ℕ). take n (drop m bs)) (sym (length-drop m bs)) ∙ take-length (drop m bs)

-- m bytes were written, and then n of the rest
pub written-then : (bs : List ℕ) (m n : ℕ) (a b c : Option (List ℕ)) → b ≡ append_known a (take m bs)
    → c ≡ append_known b (take n (take (length bs - m) (drop m bs))) → c ≡ append_known a (take (m + n) bs)
written-then bs m n a b c first second =
    second ∙ ap (λ (rest : List ℕ). append_known b (take n rest)) (the_rest m bs)
    ∙ ap (λ (x : Option (List ℕ)). append_known x (take n (drop m bs))) first ∙ append_known-then bs m n a
