-- A new engine stands for the opening state.
use Rattle.xdb_engine.proofs.StateLaws.{new-stands}
use Rattle.xdb_engine.proofs.engine.Engine.new.Goals as goal

pub invariant_of-result : goal.invariant_of-result
invariant_of-result g c =
    let s = c.new.ensures in
    let h = c.new-2.ensures in
    new-stands g.F.FileRef.bytes c.new.result s.asks s.files c.args.first_seq c.args.first_file c.new-2.result c.new-3.result c.args.book h.spare c.new-3.ensures s.mem s.next s.file s.asked h.seq h.file h.notes c.requires.book c.requires.seq c.requires.seq_end c.requires.file_end
