-- A cursor over what the parts of a question have, and the pairs that it comes to.
use Rattle.std.specs.Prelude.{◌≡◌, ℕ, Bool, true, false, List, [], ◌∷◌, ◌++◌, reverse, Option, Result, IfOk, IfErr}
use Rattle.xdb_key.specs.Bounds.{Bounds}
use Rattle.xdb_key.specs.Entries.{Point}
use Rattle.xdb_laws.specs.Image.{image}
use Rattle.xdb_merge.specs.Merge.{Merge}
use Rattle.xdb_merge.specs.Steps.{answer_of, views}
use Rattle.xdb_merge.specs.Tables.{tables_in, AreTold, AreViewsOf, NamesDamage}
use Rattle.xdb_plain.specs.Answers.{landing, moved, pairs_in}
use Rattle.xdb_plain.specs.declared.answer.Answer.TheVariants.{Pair, End}
use Rattle.xdb_plain.specs.declared.question.Place.{Place}
use Rattle.xdb_plain.specs.declared.question.Place.TheVariants.{Before, After}
use Rattle.xdb_plain.specs.declared.question.Step.{Step}
use Rattle.xdb_plain.specs.declared.question.Step.TheVariants.{First, Last, Next, Prev, Seek, SeekLt}
use Rattle.xdb_table_r.specs.declared.error.TableNo.{TableNo}
use Rattle.xdb_read.specs.Fits.{content}
use Rattle.xdb_read.specs.declared.pairs.Way.{Way}
use Rattle.xdb_read.specs.declared.pairs.Way.TheVariants.{Up, Down}
use Rattle.xdb_read.specs.declared.parts.ReadParts.{ReadParts}

module _ {F : Type 0} (bytes : F → Option (List ℕ)) (parts : ReadParts F) where
  -- It goes over the memtables of the parts, and over the tables that may have keys of its bounds.
  pub record IsCursor (m : Merge F) : Type 0 where
    pub mem : m.mem ≡ parts.mem
    pub at : m.at ≡ parts.at
    pub views : AreViewsOf bytes (tables_in m.bounds parts.tables) (views m.walks)

  -- the pairs that the parts have of some keys, by rising keys
  abbrev pub pairs_of : Bounds → List (List ℕ × List ℕ)
  pairs_of keys = pairs_in keys (image (content bytes parts) parts.at)

  -- The entry and the place are those that the step leads to among the pairs of the cursor's keys. An error of a
  -- table is one of those that may have such keys.
  pub record Leads (step : Step) (old new : Merge F) (result : Result (Option Point) TableNo) : Type 0 where
    pub cursor : IsCursor new
    pub keys : new.bounds ≡ old.bounds
    pub lands : AreTold bytes parts.tables
        → IfOk result (λ e. landing (answer_of e) new.place ≡ moved (pairs_of old.bounds) old.place step)
    pub damage : IfErr result (NamesDamage bytes (tables_in old.bounds parts.tables))

  -- what is found is longer by the pair that the step leads to, where there is one
  abbrev pub Adds : Step → Merge F → Merge F → List (List ℕ × List ℕ) → List (List ℕ × List ℕ) → Bool → Type 0
  Adds step old new found more true = (p : List ℕ × List ℕ) × (more ≡ found ++ p ∷ [])
      × (AreTold bytes parts.tables → landing (Pair p.0 p.1) new.place ≡ moved (pairs_of old.bounds) old.place step)
  Adds step old new found more false = (more ≡ found)
      × (AreTold bytes parts.tables → landing End new.place ≡ moved (pairs_of old.bounds) old.place step)

-- ---- a step

-- the place where a step begins: only to a neighbour it matters
abbrev pub start_of : Place → Step → Place
start_of place First = Before
start_of place Last = After
start_of place Next = place
start_of place Prev = place
start_of place (Seek key) = Before
start_of place (SeekLt key) = Before

-- the step from there
abbrev pub step_from : Step → Step
step_from First = Next
step_from Last = Prev
step_from Next = Next
step_from Prev = Prev
step_from (Seek key) = Seek key
step_from (SeekLt key) = SeekLt key

-- ---- a way over all pairs

-- the place where it begins
abbrev pub start_along : Way → Place
start_along Up = Before
start_along Down = After

-- the step to the next pair on it
abbrev pub step_along : Way → Step
step_along Up = Next
step_along Down = Prev

-- the pairs in its order
abbrev pub along : Way → List (List ℕ × List ℕ) → List (List ℕ × List ℕ)
along Up pairs = pairs
along Down pairs = reverse pairs
