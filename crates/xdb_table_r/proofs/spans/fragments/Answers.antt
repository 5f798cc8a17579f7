use Rattle.std.proofs.Common.{◌∙◌, subst}
use Rattle.xdb_rangedel.specs.Members.{SameMembers}
use Rattle.xdb_rangedel.specs.Pieces.{pieces}
use Rattle.xdb_table_r.specs.Opening.{tombstones}
use Rattle.xdb_table_r.proofs.SpanLaws.{rows_are_fragments, made_again}
use Rattle.xdb_table_r.proofs.spans.fragments.Goals as goal

pub returns : goal.returns
returns c =
    let e = c.in_ok-made.ensures in
    made_again c.in_ok-made.made (tombstones c.args.block.now) (rows_are_fragments c.args.block.now c.requires) e.fragments
    (subst (λ ts. SameMembers c.in_ok-made.made (pieces ts)) (c.deref.ensures.value ∙ c.in_ok-spans.ensures) e.pieces)
