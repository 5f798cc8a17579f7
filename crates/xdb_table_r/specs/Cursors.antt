-- What is seen of a cursor of a view: the points that it goes over, and its place among them.
use Rattle.std.specs.Prelude.{◌≡◌, ℕ, ◌+◌, ◌-◌, ◌≤◌, Bool, true, false, List, [], length, min, Option, None, IfSome, Ok, slice_get, ◌==◌, if◌then◌else◌}
use Rattle.std.specs.List.{prefix_len}
use Rattle.xdb_key.specs.Entries.{Point}
use Rattle.xdb_key.specs.Order.{is_below}
use Rattle.xdb_table_r.specs.Views.{Shown, keys_of, view_at, AreSeen}

-- The place is counted from 0, before the first point: it is i + 1 on point i, and n + 1 behind the last of n points.
-- Until the points are read, none are known and the place is 0.
pub record Walk (F : Type 0) : Type 0 where
  pub view : Shown F
  pub read : Bool
  pub points : List Point
  pub place : ℕ

abbrev pub walk : {F : Type 0} → Shown F → Bool → List Point → ℕ → Walk F
walk view read points place = record { view = view; read = read; points = points; place = place }

-- the points of the view; where its file tells its bytes, those that these read as
pub record ArePointsOf {F : Type 0} (bytes : F → Option (List ℕ)) (v : Shown F) (ps : List Point) : Type 0 where
  pub seen : AreSeen (keys_of v) v.synthetic ps
  pub told : IfSome (bytes v.table.file) (λ b. view_at v b ≡ Ok ps)

pub record IsWalk {F : Type 0} (bytes : F → Option (List ℕ)) (w : Walk F) : Type 0 where
  pub unread : w.read ≡ false → w.points ≡ []
  pub before : w.read ≡ false → w.place ≡ 0
  pub points : w.read ≡ true → ArePointsOf bytes w.view w.points
  pub within : w.place ≤ length w.points + 1

-- the point at a place; none before the first and behind the last
abbrev pub at_place : List Point → ℕ → Option Point
at_place ps place = if place == 0 then None else slice_get ps (place - 1)

-- how many points have keys below this one
abbrev pub below : List ℕ → List Point → ℕ
below key ps = prefix_len (λ p. is_below p.key key) ps

-- ---- the places that calls go to

-- one further, up to the place behind the last point
abbrev pub next_place : ℕ → ℕ → ℕ
next_place n place = min (place + 1) (n + 1)

-- one back, down to the place before the first point
abbrev pub prev_place : ℕ → ℕ
prev_place place = place - 1

-- the first point whose key isn't below this one
abbrev pub ge_place : List ℕ → List Point → ℕ
ge_place key ps = below key ps + 1

-- the last point whose key is below this one
abbrev pub lt_place : List ℕ → List Point → ℕ
lt_place key ps = below key ps
