use Rattle.std.proofs.Common.{map, drop}
use Rattle.xdb_script.proofs.Each.{GoesOn}
use Rattle.xdb_script.specs.Answers.{texts}
use Rattle.xdb_script.specs.Drafts.{drafted}
use Rattle.xdb_script.specs.Fields.{all_read}
use Rattle.xdb_script.specs.Reading.{op_read}
use Rattle.xdb_script.proofs.operations.read_ops.Given as goal

-- the parts so far are read, and the others are left
abbrev pub invariant-loop-part : goal.invariant-loop-part
invariant-loop-part l = GoesOn (map drafted l.drafts.items) (all_read (λ part. op_read (texts part.now)) (drop l.part-index l.parts)) (all_read (λ part. op_read (texts part.now)) l.parts)
