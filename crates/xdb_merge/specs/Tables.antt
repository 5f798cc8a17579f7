-- What tables have, as the bytes of their files have it, and the views that show it.
use Rattle.std.specs.Prelude.{◌≡◌, ℕ, List, [], ◌∷◌, Option, Some, None, Result, Ok, Err, IsSome, IfSome}
use Rattle.std.specs.List.{AllByRecursion, filter, flat_map}
use Rattle.xdb_key.specs.Bounds.{Bounds, meets}
use Rattle.xdb_key.specs.Reading.{◌>>=◌}
use Rattle.xdb_meta.specs.Table.{Table, bounds_of}
use Rattle.xdb_rangedel.specs.Content.{Item}
use Rattle.xdb_rangedel.specs.Members.{Has}
use Rattle.xdb_rangedel.specs.View.{view}
use Rattle.xdb_table_r.specs.Contents.{content_in}
use Rattle.xdb_table_r.specs.Opening.{opened, opened_at}
use Rattle.xdb_table_r.specs.Points.{points_at}
use Rattle.xdb_table_r.specs.Views.{Shown}
use Rattle.xdb_table_r.specs.declared.error.TableNo.{TableNo}
use Rattle.xdb_table_r.specs.declared.error.TableNo.TheVariants.{ReadFault, Damaged, Memory}

-- what a file shows in a range, with a synthetic number or none, or the place of its first defect
abbrev pub table_at : List ℕ → Bounds → ℕ → Result (List Item) ℕ
table_at file r synthetic =
    opened_at file >>= λ o. points_at o.index file >>= λ rows. Ok (view (content_in rows o.spans) r synthetic)

-- nothing, where there is a defect
abbrev pub shown : Result (List Item) ℕ → List Item
shown (Ok c) = c
shown (Err at) = []

-- what a table has, where its file tells its bytes
abbrev pub content_told : Option (List ℕ) → Table → List Item
content_told None t = []
content_told (Some file) t = shown (table_at file (bounds_of t) t.synthetic)

-- the tables that may have keys of the range
abbrev pub tables_in : {F : Type 0} → Bounds → List (Table × F) → List (Table × F)
tables_in r ts = filter (λ t. meets (bounds_of t.0) r) ts

module _ {F : Type 0} (bytes : F → Option (List ℕ)) where
  abbrev pub content_of_tables : List (Table × F) → List Item
  content_of_tables ts = flat_map (λ t. content_told (bytes t.1) t.0) ts

  abbrev pub AreTold : List (Table × F) → Type 0
  AreTold ts = AllByRecursion (λ t. IsSome (bytes t.1)) ts

  -- the view of the table, over its file
  pub record IsViewOf (t : Table × F) (v : Shown F) : Type 0 where
    pub lo : v.lo ≡ t.0.lo
    pub hi : v.hi ≡ t.0.hi
    pub synthetic : v.synthetic ≡ t.0.synthetic
    pub backing : v.table.backing ≡ t.0.backing
    pub file : bytes v.table.file ≡ bytes t.1
    pub opens : IfSome (bytes t.1) (λ b. opened_at b ≡ Ok (opened v.table.spans v.table.index v.table.end))

  abbrev pub AreViewsOf : List (Table × F) → List (Shown F) → Type 0
  AreViewsOf [] [] = Unit {0}
  AreViewsOf [] (v ∷ vs) = ⊥
  AreViewsOf (t ∷ ts) [] = ⊥
  AreViewsOf (t ∷ ts) (v ∷ vs) = IsViewOf t v × AreViewsOf ts vs

  -- one of the tables has its first defect at this place of this file, if the file tells its bytes
  abbrev pub IsDamage : List (Table × F) → ℕ → ℕ → Type 0
  IsDamage ts backing at = (t : Table × F) × Has ts t
      × IfSome (bytes t.1) (λ b. (backing ≡ t.0.backing) × (table_at b (bounds_of t.0) t.0.synthetic ≡ Err at))

  -- a fault and want of memory may come at any place
  abbrev pub NamesDamage : List (Table × F) → TableNo → Type 0
  NamesDamage ts (Damaged backing at) = IsDamage ts backing at
  NamesDamage ts ReadFault = Unit {0}
  NamesDamage ts Memory = Unit {0}
