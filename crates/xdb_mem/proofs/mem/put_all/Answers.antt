-- What is left to answer of `put_all`.
use Rattle.std.proofs.Common.{◌≡◌, ◌++◌, [], ◌∷◌, arith}
use Rattle.xdb_rangedel.proofs.StripLaws.{same_after_sort}
use Rattle.xdb_mem.proofs.PutLaws.{moved-members, moved-numbered, same_behind}
use Rattle.xdb_mem.proofs.mem.put_all.Goals as goal

pub loop-entry-init : goal.loop-entry-init
loop-entry-init c = record {
  order = c.requires.order;
  members = same_behind c.args.entries.now.items c.reverse.new.self.items c.args.new.items (same_after_sort c.args.new.items c.reverse.new.self.items c.reverse.ensures.permutation);
  room = omega (arith, c.requires.room, c.reverse.ensures.len, c.reverse.ensures.capacity);
}

pub loop-entry-preserved : goal.loop-entry-preserved
loop-entry-preserved c =
    let split : c.loop-entry.new.items ≡ c.pop.new.self.items ++ c.in-Some.entry ∷ [] = c.in-Some.ensures.items in
    let numbered = moved-numbered (c.args.entries.now.items ++ c.args.new.items) c.loop-entry.entries.items c.loop-entry.new.items c.pop.new.self.items c.in-Some.entry split c.loop-entry.invariant.members c.requires.numbers in
    let put = c.in-Ok.ensures.members numbered in
    record {
      order = c.put.ensures.order;
      members = moved-members (c.args.entries.now.items ++ c.args.new.items) c.loop-entry.entries.items c.put.new.entries.items c.loop-entry.new.items c.pop.new.self.items c.in-Some.entry split put c.loop-entry.invariant.members;
      room = omega (arith, c.loop-entry.invariant.room, c.put.ensures.longer, c.put.ensures.capacity, c.in-Some.ensures.len);
    }
