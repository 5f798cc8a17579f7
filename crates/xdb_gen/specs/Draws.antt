-- Draws of a linear congruential generator modulo 2^32. A draw takes the upper 16 bits of a state.
use Rattle.std.specs.Prelude.{ℕ, ◌+◌, ◌*◌, ◌/◌, ◌%◌, ◌^◌}

-- the state behind a state, with the multiplier and the increment of "Numerical Recipes"
abbrev pub next_state : ℕ → ℕ
next_state state = (state * 1664525 + 1013904223) % 2 ^ 32

-- the number below `most` that is drawn as the generator comes to a state
abbrev pub drawn : ℕ → ℕ → ℕ
drawn most state = state / 65536 % most
