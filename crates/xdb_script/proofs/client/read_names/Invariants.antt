use Rattle.std.proofs.Common.{drop}
use Rattle.xdb_script.proofs.Each.{GoesOn}
use Rattle.xdb_script.specs.Fields.{all_read, name_read}
use Rattle.xdb_script.proofs.client.read_names.Given as goal

-- the names so far are read, and the others are left
abbrev pub invariant-loop-word : goal.invariant-loop-word
invariant-loop-word l = GoesOn l.names.items (all_read (λ word. name_read word.now) (drop l.word-index l.words)) (all_read (λ word. name_read word.now) l.words)
