-- An open hold: its number, which is that of its ticket, and the number of the version that it holds.
use Rattle.std.specs.Prelude.{ℕ}

pub record Hold : Type 0 where
  pub id : ℕ
  pub version : ℕ

abbrev pub hold : ℕ → ℕ → Hold
hold id version = record { id = id; version = version }
