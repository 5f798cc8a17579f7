use Rattle.std.proofs.Common.{drop}
use Rattle.xdb_script.proofs.Each.{GoesOn}
use Rattle.xdb_script.specs.Drafts.{pair_texts}
use Rattle.xdb_script.specs.Fields.{all_read}
use Rattle.xdb_script.specs.Reading.{pair_read}
use Rattle.xdb_script.proofs.client.read_pairs.Given as goal

-- the pairs so far are read, and the others are left
abbrev pub invariant-loop-pair : goal.invariant-loop-pair
invariant-loop-pair l = GoesOn l.read.items (all_read (λ pair. pair_read (pair_texts pair)) (drop l.pair-index l.pairs)) (all_read (λ pair. pair_read (pair_texts pair)) l.pairs)
