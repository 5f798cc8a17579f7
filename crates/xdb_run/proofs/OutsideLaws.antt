-- What a history tells of faults, by the book and its shares.
use Rattle.std.proofs.Common.{◌≡◌, ℕ, List, [], ◌∷◌, length, All, sum, refl, ap, arith}
use Rattle.xdb_run.specs.Outside.{RoseBy}

-- one share, on which nothing was booked
pub none-booked : (shares : List ℕ) → length shares ≡ 1 → All (λ s. s ≡ 0) shares → sum shares ≡ 0
none-booked [] one none = refl
none-booked (s ∷ []) one none = ap (λ n. sum (n ∷ [])) (none 0 s (omega arith))
none-booked (s ∷ t ∷ more) one none = absurd (omega arith)

-- No fault is told where none was booked, which any count bears out.
pub rose-none : (told book booked before now : ℕ) → book ≡ told → book ≡ booked → booked ≡ 0 → now ≡ before → RoseBy told before now
rose-none told book booked before now tells sums none same = omega arith
