-- The number is known, has the file, and isn't dead.
use Rattle.std.proofs.Common.{ap, arith}
use Rattle.xdb_vset.proofs.FileLaws.{files_added}
use Rattle.xdb_vset.proofs.files.Files.add.Goals as goal

pub invariant_of-self : goal.invariant_of-self
invariant_of-self g c =
    let room = c.self.invariant.1 in
    let spare = ap (λ f. f.spare) c.self.view_is in
    let some = c.requires in
    let len = c.put.ensures.len in
    let capacity = c.put.ensures.capacity in
    let len' = c.take_out.ensures.len in
    let capacity' = c.take_out.ensures.capacity in
    let len'' = c.bring.ensures.len in
    let capacity'' = c.bring.ensures.capacity in (
      files_added c.self.inside.named.items c.self.inside.known.items c.self.inside.dead.items c.self.inside.taken.items c.self.invariant.0 c.bring.new.named.items c.put.new.nums.items c.take_out.new.nums.items c.args.num c.args.file
          c.bring.ensures.rising c.put.ensures.rising c.take_out.ensures.rising c.put.ensures.among c.take_out.ensures.among c.bring.ensures.file,
      record { to_be_named = omega arith; to_be_known = omega arith; to_die = omega arith; to_be_taken = omega arith },
      λ b. let same = c.bring.ensures.count b in let low = c.self.invariant.2 b in omega arith,
    )
