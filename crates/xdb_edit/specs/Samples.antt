-- Three small versions, over which the definitions of plans compute.
use Rattle.std.specs.Prelude.{ℕ, false, [], ◌∷◌}
use Rattle.xdb_key.specs.Bounds.{Bounds, bounds}
use Rattle.xdb_meta.specs.Table.{Table}
use Rattle.xdb_edit.specs.Versions.{LevelLists}

-- the keys of one letter each: a is 97
abbrev pub letters : ℕ → ℕ → Bounds
letters lo hi = bounds (lo ∷ []) (hi ∷ [])

-- a table in a file of its own, with the numbers 1 to its greatest
abbrev pub small_table : ℕ → ℕ → ℕ → ℕ → ℕ → Table
small_table num lo hi seq_hi size =
    record { num = num; backing = num; lo = lo ∷ []; hi = hi ∷ []; seq_lo = 1; seq_hi = seq_hi; synthetic = 0; size = size; virt = false }

-- Four tables in L0, of which 1 meets 2 and 2 meets 3; 4 stands apart. 5 and 6 are in L1, and 7 in L3.
--   L0  1 [a,d)  2 [c,g)  3 [f,i)  4 [x,z)     L1  6 [a,b)  5 [h,p)     L3  7 [k,q)
abbrev pub crowded : LevelLists
crowded =
    (small_table 1 97 100 2 100 ∷ small_table 2 99 103 3 100 ∷ small_table 3 102 105 4 100 ∷ small_table 4 120 122 5 100 ∷ [])
    ∷ (small_table 6 97 98 1 100 ∷ small_table 5 104 112 1 100 ∷ []) ∷ [] ∷ (small_table 7 107 113 1 100 ∷ []) ∷ [] ∷ [] ∷ [] ∷ []

-- L1 has more than 65,536 bytes in two tables, of which 9 stands before 8. L2 has 3 below 9, and L6 has 2.
--   L1  9 [a,f)  8 [m,p)     L2  3 [e,h)     L6  2 [a,z)
abbrev pub heavy : LevelLists
heavy =
    [] ∷ (small_table 9 97 102 7 40000 ∷ small_table 8 109 112 6 40000 ∷ []) ∷ (small_table 3 101 104 5 500 ∷ []) ∷ [] ∷ [] ∷ [] ∷ (small_table 2 97 122 1 500 ∷ []) ∷ []

-- one table each in L0, L2 and L5, none of them due
--   L0  4 [m,n)     L2  3 [a,c)     L5  1 [c,e)
abbrev pub sparse : LevelLists
sparse = (small_table 4 109 110 9 100 ∷ []) ∷ [] ∷ (small_table 3 97 99 3 100 ∷ []) ∷ [] ∷ [] ∷ (small_table 1 99 101 1 100 ∷ []) ∷ [] ∷ []
