-- The result lies in the slot when the word says so.
use Rattle.std.proofs.Common.{rules}
use Rattle.xdb_order.proofs.Moves.{puts}
use Rattle.xdb_order.proofs.tray.Tray.put.Goals as goal

pub store-requires : goal.store-requires
store-requires g c = (search rules, search rules, puts g.W.Work.fits _ c.args.seat.now.me c.exchange.new.seat.me c.args.self.now.given c.args.out _ _ c.requires.hand.holds c.exchange.ensures.3 c.requires.fits)
