-- What is left to answer of `left_of_tables`.
use Rattle.std.proofs.Common.{sym, subst}
use Rattle.xdb_merge.specs.Tables.{NamesDamage}
use Rattle.xdb_build.proofs.CompactLaws.{left_from, damage_is}
use Rattle.xdb_build.specs.Fits.{NamesInput}
use Rattle.xdb_build.proofs.compact.left_of_tables.Goals as goal

pub returns-in_ok-left-in-Ok-clause-left : goal.returns-in_ok-left-in-Ok-clause-left
returns-in_ok-left-in-Ok-clause-left g c =
    left_from g.D.File.FileRef.bytes c.args.given.now c.tables.result.now c.in-Ok.entries.items c.deref.result.now c.in_ok-left-in-Ok.left.0.items c.in-Ok.spans c.in_ok-left-in-Ok.left.1 c.stripes.result.now c.floor.result.now
    c.tables.ensures c.deref.ensures.value c.stripes.ensures.stripes c.floor.ensures c.in-Ok.ensures.gathered
    c.in_ok-left-in-Ok.ensures.entries c.in_ok-left-in-Ok.ensures.spans c.in_ok-left-in-Ok.ensures.content c.in_ok-left-in-Ok.ensures.order c.in_ok-left-in-Ok.ensures.fragments

pub returns-in-Err-clause-damage : goal.returns-in-Err-clause-damage
returns-in-Err-clause-damage g c =
    subst (NamesInput g.D.File.FileRef.bytes c.args.given.now.tables) (sym c.cause_of_table.ensures)
    (damage_is g.D.File.FileRef.bytes c.args.given.now c.in-Err.no (subst (λ ts. NamesDamage g.D.File.FileRef.bytes ts c.in-Err.no) c.tables.ensures c.in-Err.ensures.damage))
