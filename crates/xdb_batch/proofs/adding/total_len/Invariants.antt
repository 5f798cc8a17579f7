use Rattle.std.proofs.Common.{◌≡◌, take, drop}
use Rattle.xdb_batch.specs.Adding.{first_refusal, refusal_of}
use Rattle.xdb_batch.specs.Spelling.{IsKept}
use Rattle.xdb_batch.proofs.adding.total_len.Given as goal

-- the operations so far are kept, and the first refusal of the others is the first one of all
abbrev pub invariant-loop-count : goal.invariant-loop-count
invariant-loop-count l = record {
  kept : IsKept (take l.count l.ops) l.len;
  others : first_refusal l.count l.len (drop l.count l.ops) ≡ refusal_of l.ops;
}
