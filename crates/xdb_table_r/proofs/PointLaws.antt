-- What point blocks read as, block by block.
use Rattle.std.proofs.Common.{◌≡◌, ℕ, Bool, cond, List, Option, Some, None, IfSome, Result, Ok, Err, sym, ap, ◌∙◌}
use Rattle.xdb_key.specs.Reading.{◌>>=◌}
use Rattle.xdb_block.specs.declared.kind.BlockKind.TheVariants as kinds
use Rattle.xdb_block.specs.Rows.{Row}
use Rattle.xdb_table_r.specs.declared.error.TableNo.{TableNo}
use Rattle.xdb_table_r.specs.declared.part.Part.{Part}
use Rattle.xdb_table_r.specs.Opening.{IsNo}
use Rattle.xdb_table_r.specs.Parts.{part_at, handle}
use Rattle.xdb_table_r.specs.Points.{stands, standing, block_of}
use Rattle.xdb_table_r.proofs.TellLaws.{no_then}

pub block_is : (file : List ℕ) (last : Option Row) (more : Bool) (i : Row) (p : Part) (r : Result (List Row) ℕ) → p ≡ handle i → part_at kinds.Point p file ≡ r → block_of last more i file ≡ (r >>= standing last more i)
unfolding block_of
block_is file last more i p r is e = ap (λ x. part_at kinds.Point x file >>= standing last more i) (sym is) ∙ ap (λ x. x >>= standing last more i) e

pub told_bad_block : (known : Option (List ℕ)) (backing : ℕ) (e : TableNo) (last : Option Row) (more : Bool) (i : Row) (p : Part) → p ≡ handle i → IfSome known (λ b. IsNo backing e (part_at kinds.Point p b)) → IfSome known (λ b. IsNo backing e (block_of last more i b))
told_bad_block None backing e last more i p is h = tt
told_bad_block (Some b) backing e last more i p is h = no_then backing e (part_at kinds.Point p b) (block_of last more i b) (λ at f. block_is b last more i p (Err at) is f) h

pub told_block : (known : Option (List ℕ)) (last : Option Row) (more : Bool) (i : Row) (p : Part) (rows : List Row) (t : Bool) → p ≡ handle i → IfSome known (λ b. part_at kinds.Point p b ≡ Ok rows) → stands last more i rows ≡ t
    → IfSome known (λ b. block_of last more i b ≡ cond t (Ok rows) (Err (handle i).at))
told_block None last more i p rows t is h s = tt
told_block (Some b) last more i p rows t is h s = block_is b last more i p (Ok rows) is h ∙ ap (λ x. cond x (Ok rows) (Err (handle i).at)) s
