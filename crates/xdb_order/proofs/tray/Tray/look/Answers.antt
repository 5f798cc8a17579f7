-- The desk takes the slot where a result is at home there, and that is what it reads.
use Rattle.std.proofs.Common.{rules, ◌∷◌, sym, ap, ◌∙◌, Some}
use Rattle.atomic_table.specs.Table.{rest}
use Rattle.xdb_order.proofs.Moves.{looks_once}
use Rattle.xdb_order.proofs.tray.Tray.look.Goals as goal

pub compare_exchange-found-requires : goal.compare_exchange-found-requires
compare_exchange-found-requires g c = (search rules, search rules, looks_once g.W.Work.fits _ c.args.seat.now.me c.args.self.now.given _ _ _ c.requires.knows)

pub exchange-requires : goal.exchange-requires
exchange-requires g c =
    let told = c.compare_exchange-found.ensures.2.1 c.if-found-ne-FULL.false in
    (search rules, (Some told.0, told.1 ∙ ap (λ l. (0, Some told.0) ∷ rest l) (sym told.1)))
