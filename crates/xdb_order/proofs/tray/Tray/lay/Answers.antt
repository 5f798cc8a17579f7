-- The table is made, the maker takes the slot, and its seat is split.
use Rattle.std.proofs.Common.{rules, ap}
use Rattle.xdb_order.specs.Slot.{made}
use Rattle.xdb_order.proofs.Moves.{takes_slot, parts}
use Rattle.xdb_order.proofs.tray.Tray.lay.Goals as goal

pub vacant-requires : goal.vacant-requires
vacant-requires g c = made

pub load-requires : goal.load-requires
load-requires g c = (search rules, search rules, takes_slot g.W.Work.fits _ c.in_ok-table.seat.me c.args.given _ _ (ap (λ m. m.0) c.in_ok-table.ensures.4))

pub split_seat-desk-requires : goal.split_seat-desk-requires
split_seat-desk-requires g c = (search rules, search rules, parts g.W.Work.fits _ c.load.new.seat.me.0 c.in_ok-table.seat.me.0.given _ (ap (λ m. m.0) c.load.ensures.2))
