-- Outputs: the tables that a build writes, each in a file of its own, and what their files hold.
use Rattle.std.specs.Prelude.{◌≡◌, ℕ, List, [], ◌∷◌, ◌++◌, drop, map, Option, Some, None, Ok, IsSome, IsTrue}
use Rattle.std.specs.List.{AllByRecursion, AllPairs}
use Rattle.xdb_halves.specs.Beside.{IsExtent}
use Rattle.xdb_key.specs.Entries.{Reach, reach}
use Rattle.xdb_key.specs.Order.{is_upto}
use Rattle.xdb_key.specs.Reading.{◌>>=◌}
use Rattle.xdb_merge.specs.Tables.{shown}
use Rattle.xdb_meta.specs.Table.{Table, bounds_of, physical}
use Rattle.xdb_rangedel.specs.Content.{Item, entry, span, entries_in, spans_in}
use Rattle.xdb_rangedel.specs.Members.{Has}
use Rattle.xdb_rangedel.specs.Pieces.{AreFragments, cut_all}
use Rattle.xdb_table_r.specs.Contents.{content_in}
use Rattle.xdb_table_r.specs.Opening.{opened_at}
use Rattle.xdb_table_r.specs.Points.{points_at}

-- all that a table file has, as its bytes read; nothing, where they have a defect
abbrev pub file_content : List ℕ → List Item
file_content file = shown (opened_at file >>= λ o. points_at o.index file >>= λ rows. Ok (content_in rows o.spans))

-- and where the file tells its bytes
abbrev pub content_told : Option (List ℕ) → List Item
content_told None = []
content_told (Some file) = file_content file

-- the spans of a content are fragments
abbrev pub HasFragments : List Item → Type 0
HasFragments c = AreFragments (spans_in c)

-- what a table's content lies within
abbrev pub reach_of : Table → Reach
reach_of t = reach (bounds_of t) t.seq_lo t.seq_hi

-- the table's bounds and numbers are the least around the content
abbrev pub IsReachOf : Table → List Item → Type 0
IsReachOf t c = IsExtent c (Some (reach_of t))

-- a table in a file of its own: under its number, of the file's size, and without a synthetic number
pub record IsInFile {F : Type 0} (size : F → ℕ) (t : Table) (file : ℕ × F) : Type 0 where
  pub num : file.0 ≡ t.num
  pub own : t ≡ physical t.num (reach_of t) 0 (size file.1)

-- the lists are equally long, and the relation holds at each place
abbrev pub Pairwise : {A B : Type 0} → (A → B → Type 0) → List A → List B → Type 0
Pairwise R [] [] = Unit {0}
Pairwise R [] (y ∷ ys) = ⊥
Pairwise R (x ∷ xs) [] = ⊥
Pairwise R (x ∷ xs) (y ∷ ys) = R x y × Pairwise R xs ys

-- each list has one element, and the relation holds of them
abbrev pub IsPair : {A B : Type 0} → (A → B → Type 0) → List A → List B → Type 0
IsPair R (x ∷ []) (y ∷ []) = R x y
IsPair R _ _ = ⊥

-- each table begins where the one before it ends, or behind
abbrev pub AreApart : List Table → Type 0
AreApart ts = AllPairs (λ s t. IsTrue (is_upto s.hi t.lo)) ts

-- the table lies within the least range with the bounds of the others
pub record LiesInHull (ts : List Table) (t : Table) : Type 0 where
  pub lo : (s : Table) × Has ts s × IsTrue (is_upto s.lo t.lo)
  pub hi : (s : Table) × Has ts s × IsTrue (is_upto t.hi s.hi)

-- where all tables but the first begin
abbrev pub cuts : List Table → List (List ℕ)
cuts ts = map (λ t. t.lo) (drop 1 ts)

-- the content with its spans cut at the bounds
abbrev pub cut_at : List (List ℕ) → List Item → List Item
cut_at ats c = entries_in c ++ map span (cut_all ats (spans_in c))

abbrev pub AreTold : {F : Type 0} → (F → Option (List ℕ)) → List (ℕ × F) → Type 0
AreTold bytes files = AllByRecursion (λ f. IsSome (bytes f.1)) files

-- the tables with their files
abbrev pub with_files : {F : Type 0} → List Table → List (ℕ × F) → List (Table × F)
with_files [] files = []
with_files (t ∷ ts) [] = []
with_files (t ∷ ts) (f ∷ fs) = (t, f.1) ∷ with_files ts fs

-- the contents of the files, in their order
abbrev pub contents : {F : Type 0} → (F → Option (List ℕ)) → List (ℕ × F) → List (List Item)
contents bytes files = map (λ f. content_told (bytes f.1)) files

-- the content has an entry at the key where the table begins
abbrev pub BeginsWithEntry : Table → List Item → Type 0
BeginsWithEntry t c = (seq : ℕ) × (value : Option (List ℕ)) × Has c (entry t.lo seq value)
