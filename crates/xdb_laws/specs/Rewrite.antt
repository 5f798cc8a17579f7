-- Content that was written anew, and what a flush or a compaction makes of the content that it is given.
use Rattle.std.specs.Prelude.{◌≡◌, ℕ, List, [], ◌∷◌}
use Rattle.xdb_rangedel.specs.Content.{Item, seq_of}
use Rattle.xdb_rangedel.specs.Layers.{IsDrawn}
use Rattle.xdb_rangedel.specs.Members.{Has}
use Rattle.xdb_stripes.specs.Keeps.{IsLimit}
use Rattle.xdb_stripes.specs.Thinned.{thinned}
use Rattle.xdb_stripes.specs.declared.floor.Floor.{Floor}

-- At each key the new content has the items of the old one, though a span may be in more pieces; and it has no number
-- that the old one hasn't.
pub record IsRewrite (old new : List Item) : Type 0 where
  pub drawn : IsDrawn old new
  pub kept : IsDrawn new old
  pub numbers : (i : Item) → Has new i → (j : Item) × Has old j × (seq_of j ≡ seq_of i)

-- the content is what thinning leaves of the given one
abbrev pub IsMade : List Item → List ℕ → Floor → List Item → Type 0
IsMade given stripes floor made = IsRewrite (thinned given stripes floor) made

-- each of the contents is written anew
abbrev pub AreRewrites : List (List Item) → List (List Item) → Type 0
AreRewrites [] [] = Unit {0}
AreRewrites [] (new ∷ news) = ⊥
AreRewrites (old ∷ olds) [] = ⊥
AreRewrites (old ∷ olds) (new ∷ news) = IsRewrite old new × AreRewrites olds news

-- each mark is a stripe, or lies above all numbers of the given content
abbrev pub AreLimits : List Item → List ℕ → List ℕ → Type 0
AreLimits given stripes marks = (m : ℕ) → Has marks m → IsLimit given stripes m
