-- What an engine knows of a table without reading it.
use Rattle.std.specs.Prelude.{◌≡◌, ℕ, ◌<◌, ◌≤◌, ◌^◌, Bool, true, false, ◌&&◌, ◌||◌, not, List, nat_le, nat_lt, ◌==◌, IsTrue}
use Rattle.xdb_key.specs.Bounds.{Bounds, bounds}
use Rattle.xdb_key.specs.Entries.{Reach}
use Rattle.xdb_key.specs.Limits.{IsBound}
use Rattle.xdb_key.specs.Order.{is_below}

-- a table: its number, the file that it is kept in, its bounds, the numbers of what it holds, the number
-- that stands for all of them (0: none does), its size, and whether it is a view of another table's file
pub record Table : Type 0 where
  pub num : ℕ
  pub backing : ℕ
  pub lo : List ℕ
  pub hi : List ℕ
  pub seq_lo : ℕ
  pub seq_hi : ℕ
  pub synthetic : ℕ
  pub size : ℕ
  pub virt : Bool

abbrev pub table : ℕ → ℕ → Reach → ℕ → ℕ → Bool → Table
table num backing reach synthetic size virt =
    record { num = num; backing = backing; lo = reach.lo; hi = reach.hi; seq_lo = reach.seq_lo; seq_hi = reach.seq_hi; synthetic = synthetic; size = size; virt = virt }

-- a table in a file of its own
abbrev pub physical : ℕ → Reach → ℕ → ℕ → Table
physical num reach synthetic size = table num num reach synthetic size false

-- a part of another table's file, under a number of its own
abbrev pub virtual : ℕ → ℕ → Reach → ℕ → ℕ → Table
virtual num backing reach synthetic size = table num backing reach synthetic size true

-- the keys from its first bound on and below its last
abbrev pub bounds_of : Table → Bounds
bounds_of t = bounds t.lo t.hi

-- file numbers and sizes are 1 to 2^56 - 1
abbrev pub is_number : ℕ → Bool
is_number n = nat_le 1 n && nat_lt n (2 ^ 56)

-- sequence numbers are below 2^56
abbrev pub is_seq : ℕ → Bool
is_seq n = nat_lt n (2 ^ 56)

-- no synthetic number, or the one number that everything in the table has
abbrev pub is_synthetic : ℕ → ℕ → ℕ → Bool
is_synthetic seq_lo seq_hi n = n == 0 || (n == seq_lo && n == seq_hi)

-- what holds of each table; a table is virtual just where it lies in another table's file
pub record IsTable (t : Table) : Type 0 where
  pub num : IsTrue (is_number t.num)
  pub backing : IsTrue (is_number t.backing)
  pub lo : IsBound t.lo
  pub hi : IsBound t.hi
  pub range : IsTrue (is_below t.lo t.hi)
  pub seqs : t.seq_lo ≤ t.seq_hi
  pub small : t.seq_hi < 2 ^ 56
  pub synthetic : IsTrue (is_synthetic t.seq_lo t.seq_hi t.synthetic)
  pub size : IsTrue (is_number t.size)
  pub virt : t.virt ≡ not (t.backing == t.num)
