-- Ranges of keys: the start belongs to the range, and the end does not.
use Rattle.std.specs.Prelude.{ℕ, Bool, ◌&&◌, List, [], ◌∷◌, ◌++◌, if◌then◌else◌}
use Rattle.xdb_key.specs.Order.{is_below, is_upto}

pub record Bounds : Type 0 where
  pub lo : List ℕ
  pub hi : List ℕ

abbrev pub bounds : List ℕ → List ℕ → Bounds
bounds lo hi = record { lo = lo; hi = hi }

-- the key lies in the range
abbrev pub holds : Bounds → List ℕ → Bool
holds r k = is_upto r.lo k && is_below k r.hi

-- some byte string lies in both ranges
abbrev pub meets : Bounds → Bounds → Bool
meets r o = is_below r.lo o.hi && is_below o.lo r.hi

-- the first contains the second
abbrev pub covers : Bounds → Bounds → Bool
covers r o = is_upto r.lo o.lo && is_upto o.hi r.hi

-- the least byte string after a key: the key and one zero byte
abbrev pub successor : List ℕ → List ℕ
successor k = k ++ 0 ∷ []

-- the range of one key alone
abbrev pub key_hull : List ℕ → Bounds
key_hull k = bounds k (successor k)

-- the lesser of two bounds
abbrev pub lesser : List ℕ → List ℕ → List ℕ
lesser a b = if is_below b a then b else a

-- the greater of two bounds
abbrev pub greater : List ℕ → List ℕ → List ℕ
greater a b = if is_below a b then b else a
