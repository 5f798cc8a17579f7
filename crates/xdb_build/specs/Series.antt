-- Entries and spans as the tables that are written of them one after another, and where an output ends among entries.
use Rattle.std.specs.Prelude.{◌≡◌, ◌⊎◌, ℕ, ◌+◌, ◌-◌, ◌<◌, ◌≤◌, ◌==◌, Bool, true, false, List, [], ◌∷◌, ◌++◌, length, map, take, drop, Option, Some, None, IfSome, if◌then◌else◌}
use Rattle.std.specs.List.{slice_get}
use Rattle.xdb_key.specs.Entries.{Point, Tombstone}
use Rattle.xdb_key.specs.Order.{is_below}
use Rattle.xdb_meta.specs.Table.{Table}
use Rattle.xdb_device.specs.Told.{Told}
use Rattle.xdb_device.specs.declared.fault.WorkCause.{WorkCause}
use Rattle.xdb_device.specs.declared.fault.WorkCause.TheVariants as causes
use Rattle.xdb_table_r.specs.declared.error.TableNo.{TableNo}
use Rattle.xdb_table_r.specs.declared.error.TableNo.TheVariants as no
use Rattle.xdb_work.specs.Work.{nums_of, IsNext, AreFirst, AreHeld, Tried}
use Rattle.xdb_rangedel.specs.Clip.{parts_before, parts_from}
use Rattle.xdb_rangedel.specs.Content.{Item, entry_of, content_of}
use Rattle.xdb_rangedel.specs.Members.{Has}
use Rattle.xdb_build.specs.Cuts.{IsFull, IsOpen, weight_of}
use Rattle.xdb_build.specs.Given.{Given, reserved}
use Rattle.xdb_build.specs.Outputs.{IsInFile, IsReachOf, file_content}
use Rattle.xdb_build.specs.declared.series.Progress.{Progress}

-- what the spans have from the key of an entry on; all of it, where there is none
abbrev pub parts_behind : Option Point → List Tombstone → List Tombstone
parts_behind None ss = ss
parts_behind (Some p) ss = parts_from p.key ss

-- the spans that are left where an output begins; the first has all
abbrev pub spans_left : List Point → ℕ → List Tombstone → List Tombstone
spans_left ps from ss = if from == 0 then ss else parts_behind (slice_get ps from) ss

-- each key of the entries stands before this one
abbrev pub AreBefore : List Point → List ℕ → Type 0
AreBefore ps key = (q : Point) → Has ps q → is_below q.key key ≡ true

-- The output ends behind this many entries: it wasn't full before its last key, and before the next key it is.
pub record EndsAt (ps : List Point) (n : ℕ) : Type 0 where
  pub within : n ≤ length ps
  pub open_ : IsOpen (map entry_of (take n ps))
  pub full : n < length ps → IsFull (map entry_of (take n ps))
  pub fresh : (p : Point) → slice_get ps n ≡ Some p → AreBefore (take n ps) p.key

-- where the output ends that begins at a place; the last has all that is left
pub record EndsFrom (ps : List Point) (from : ℕ) (more : Bool) (to : ℕ) : Type 0 where
  pub after : from ≤ to
  pub within : to ≤ length ps
  pub some : from < length ps → from < to
  pub ends : more ≡ true → EndsAt (drop from ps) (to - from)
  pub rest : more ≡ false → to ≡ length ps

-- what is known of the weight so far: it is the weight, or both are full
abbrev pub Weighs : ℕ → List Point → Type 0
Weighs weight ps = (weight ≡ weight_of (map entry_of ps)) ⊎ ((65536 ≤ weight) × (65536 ≤ weight_of (map entry_of ps)))

-- the first entries may stand in one output
pub record FillsTo (ps : List Point) (n weight : ℕ) : Type 0 where
  pub within : n ≤ length ps
  pub open_ : IsOpen (map entry_of (take n ps))
  pub weighs : Weighs weight (take n ps)

-- of at least two outputs that there may be, one ends here, before the entry
pub record IsCut (most : ℕ) (ps here : List Point) (p : Point) (behind : List Point) : Type 0 where
  pub whole : ps ≡ here ++ p ∷ behind
  pub room : 2 ≤ most
  pub full : IsFull (map entry_of here)
  pub open_ : IsOpen (map entry_of here)
  pub fresh : AreBefore here p.key

module _ {F : Type 0} (size : F → ℕ) (bytes : F → Option (List ℕ)) where
  -- the table and its file hold this content
  pub record IsOutput (number : ℕ) (c : List Item) (t : Table) (file : ℕ × F) : Type 0 where
    pub num : t.num ≡ number
    pub own : IsInFile size t file
    pub reach : IsReachOf t c
    pub told : IfSome (bytes file.1) (λ b. file_content b ≡ c)

  -- The tables, under numbers from this one on, hold the entries and the spans, at most so many tables.
  abbrev pub AreOutputs : ℕ → ℕ → List Point → List Tombstone → List Table → List (ℕ × F) → Type 0
  AreOutputs most num ps ss [] fs = ⊥
  AreOutputs most num ps ss (t ∷ ts) [] = ⊥
  AreOutputs most num ps ss (t ∷ []) (f ∷ []) = (1 ≤ most) × (2 ≤ most → IsOpen (map entry_of ps)) × IsOutput num (content_of ps ss) t f
  AreOutputs most num ps ss (t ∷ []) (f ∷ g ∷ fs) = ⊥
  AreOutputs most num ps ss (t ∷ u ∷ ts) (f ∷ fs) =
      (here : List Point) × (p : Point) × (behind : List Point) × IsCut most ps here p behind
      × IsOutput num (content_of here (parts_before p.key ss)) t f
      × AreOutputs (most - 1) (num + 1) (p ∷ behind) (parts_from p.key ss) (u ∷ ts) fs

  -- What was written so far: whatever tables hold the rest, with them all is held.
  abbrev pub AreWithRest : ℕ → ℕ → List Point → List Tombstone → ℕ → ℕ → List Point → List Tombstone → List Table → List (ℕ × F) → Type 0
  AreWithRest most num ps ss most' num' rest over ts fs =
      (us : List Table) (gs : List (ℕ × F)) → AreOutputs most' num' rest over us gs → AreOutputs most num ps ss (ts ++ us) (fs ++ gs)

-- the first of the reserved numbers were tried, and a file was created under each
pub record Tries (reserved : List ℕ) (i : ℕ) (nums : List ℕ) (start now : Told) : Type 0 where
  pub within : i ≤ length reserved
  pub first : nums ≡ take i reserved
  pub told : Tried reserved (take i reserved) ⊥ start now

-- the first of the reserved numbers were tried; the file of the last may lack
pub record Stops (reserved tried : List ℕ) (lacks : Type 0) (start now : Told) : Type 0 where
  pub first : AreFirst reserved tried
  pub told : Tried reserved tried lacks start now

-- what stops the work where a table can't be read
abbrev pub cause_of_table : TableNo → WorkCause
cause_of_table no.ReadFault = causes.Fault
cause_of_table (no.Damaged backing at) = causes.Damaged backing at
cause_of_table no.Memory = causes.Memory

-- An output begins at a place among the entries. Those before it hold what stands before the place; they stand in files
-- under the first of the numbers.
pub record IsUnderWay {F : Type 0} (size : F → ℕ) (bytes : F → Option (List ℕ)) (g : Given F) (ps : List Point) (ss : List Tombstone) (from num : ℕ) (over : List Tombstone) (tables : List Table) (files : List (ℕ × F)) (tried : List ℕ) (start now : Told) : Type 0 where
  pub behind : g.first ≤ num
  pub below : num < g.first + g.count
  pub something : 1 ≤ length (drop from ps) + length over
  pub rest : AreWithRest size bytes g.count g.first ps ss (g.count - (num - g.first)) num (drop from ps) over tables files
  pub nums : nums_of files ≡ tried
  pub tries : Tries (reserved g) (num - g.first) tried start now
  pub held : AreHeld size bytes now.holds files

module _ {F : Type 0} (size : F → ℕ) (bytes : F → Option (List ℕ)) where
  -- The table of one more output, and its file under the number, stand behind the others.
  pub record IsOneMore (num : ℕ) (c : List Item) (old new : Progress F) (before after : Told) : Type 0 where
    pub table : Table
    pub file : F
    pub output : IsOutput size bytes num c table (num, file)
    pub tables : new.tables.items ≡ old.tables.items ++ table ∷ []
    pub files : new.files.items ≡ old.files.items ++ (num, file) ∷ []
    pub goes : (reserved : List ℕ) (i : ℕ) (start : Told) → IsNext reserved i num
        → Tries reserved i old.tried.items start before → Tries reserved (i + 1) new.tried.items start after
    pub held : (Has (nums_of old.files.items) num → ⊥) → AreHeld size bytes before.holds old.files.items
        → AreHeld size bytes after.holds new.files.items

  -- an output begins at a place among the entries, with the spans that are left there
  abbrev pub BeginsAt : Given F → List Point → List Tombstone → ℕ → ℕ → Progress F → Told → Told → Type 0
  BeginsAt g ps ss from num made start now =
      IsUnderWay size bytes g ps ss from num (spans_left ps from ss) made.tables.items made.files.items made.tried.items start now

  -- All outputs are written.
  pub record AreWritten (g : Given F) (ps : List Point) (ss : List Tombstone) (made : Progress F) (start now : Told) : Type 0 where
    pub outputs : AreOutputs size bytes g.count g.first ps ss made.tables.items made.files.items
    pub nums : nums_of made.files.items ≡ made.tried.items
    pub tried : Stops (reserved g) made.tried.items ⊥ start now
    pub held : AreHeld size bytes now.holds made.files.items
