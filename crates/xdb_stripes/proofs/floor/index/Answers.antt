-- What is left to answer of `index`.
use Rattle.std.proofs.Common.{IsTrue, sym, ap, ◌∙◌, subst}
use Rattle.std.specs.List.{All}
use Rattle.xdb_key.specs.Bounds.{Bounds}
use Rattle.xdb_key.specs.Order.{is_below}
use Rattle.xdb_rangedel.specs.Members.{SameMembers}
use Rattle.xdb_rangedel.specs.Cover.{cover_of}
use Rattle.xdb_rangedel.specs.Pieces.{pieces}
use Rattle.xdb_rangedel.proofs.FragmentLaws.{All-at_Has}
use Rattle.xdb_stripes.specs.declared.floor.FloorIndex.TheVariants as indexes
use Rattle.xdb_stripes.specs.Steps.{IsIndex, at_zero}
use Rattle.xdb_stripes.proofs.FloorLaws.{Cuts, index_within}
use Rattle.xdb_stripes.proofs.floor.index.Goals as goal

pub returns-in_ok-pieces-in-Ranges : goal.returns-in_ok-pieces-in-Ranges
returns-in_ok-pieces-in-Ranges c =
    let rs = c.in-Ranges.ranges in
    let ts = c.in_ok-pieces-in-Ranges.pieces in
    let made = c.deref.ensures.value ∙ c.in_ok-spans-in-Ranges.ensures.spans ∙ ap at_zero c.list.ensures in
    let cuts : Cuts rs ts = record {
      members = subst (λ ss. SameMembers ts (pieces ss)) made c.in_ok-pieces-in-Ranges.ensures.pieces;
      cover = λ k limit. c.in_ok-pieces-in-Ranges.ensures.cover k limit ∙ ap (λ ss. cover_of ss k limit) made;
      sane = λ r h. All-at_Has (λ (x : Bounds). IsTrue (is_below x.lo x.hi)) rs r (subst (λ xs. All (λ (x : Bounds). IsTrue (is_below x.lo x.hi)) xs) c.list.ensures c.in_ok-spans-in-Ranges.ensures.ordered) h;
    } in
    subst (λ f. IsIndex f (indexes.Within ts)) (sym c.in-Ranges.is) (index_within rs ts cuts)
