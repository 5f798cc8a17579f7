use Rattle.std.proofs.Common.{◌∙◌, [], subst}
use Rattle.xdb_rangedel.specs.Members.{SameMembers}
use Rattle.xdb_rangedel.specs.Pieces.{pieces}
use Rattle.xdb_rangedel.proofs.FragmentLaws.{AreFragments-nil}
use Rattle.xdb_table_r.proofs.SpanLaws.{made_again}
use Rattle.xdb_table_r.proofs.spans.no_fragments.Goals as goal

pub returns : goal.returns
returns c =
    let e = c.in_ok-made.ensures in
    made_again c.in_ok-made.made [] AreFragments-nil e.fragments (subst (λ ts. SameMembers c.in_ok-made.made (pieces ts)) (c.deref.ensures.value ∙ c.new-spans.ensures.items) e.pieces)
