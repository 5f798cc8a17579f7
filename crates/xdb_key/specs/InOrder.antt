-- Internal order: by user key, and at one user key the greatest number first.
use Rattle.std.specs.Prelude.{Bool, List, IsTrue}
use Rattle.std.specs.List.{AllPairs}
use Rattle.std.specs.Ordering.{is_lt}
use Rattle.std.specs.declared.cmp.Ordering.{Ordering}
use Rattle.xdb_key.specs.Entries.{Point}
use Rattle.xdb_key.specs.Kinds.{trailer, internal_cmp}

abbrev pub internal_order : Point → Point → Ordering
internal_order p q = internal_cmp p.key (trailer p.seq p.kind) q.key (trailer q.seq q.kind)

-- the first stands before the second
abbrev pub comes_before : Point → Point → Bool
comes_before p q = is_lt (internal_order p q)

-- each entry stands before each later one, so none stands twice
abbrev pub AreInOrder : List Point → Type 0
AreInOrder ps = AllPairs (λ p q. IsTrue (comes_before p q)) ps
