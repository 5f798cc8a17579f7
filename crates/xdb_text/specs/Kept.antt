-- What a printer leaves behind where memory was wanting.
use Rattle.std.specs.Prelude.{◌≡◌, ℕ, List, ◌++◌}

-- the old bytes, and some others behind them
abbrev pub Kept : List ℕ → List ℕ → Type 0
Kept old new = (rest : List ℕ) × (new ≡ old ++ rest)
