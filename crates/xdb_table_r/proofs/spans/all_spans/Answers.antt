use Rattle.std.proofs.Common.{◌∙◌, arith}
use Rattle.xdb_block.specs.declared.kind.BlockKind.TheVariants.{Spans}
use Rattle.xdb_block.specs.Rows.{row, suits}
use Rattle.xdb_table_r.proofs.RowLaws.{nth_suits}
use Rattle.xdb_table_r.proofs.spans.all_spans.Goals as goal

pub span-requires : goal.span-requires
span-requires c = (λ i. suits Spans (row (c.key.ensures i) (c.value.ensures i))) ∙ nth_suits Spans c.args.block.now c.loop-i.i c.requires (omega arith)
