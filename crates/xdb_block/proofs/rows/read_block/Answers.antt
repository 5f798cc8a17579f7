use Rattle.std.proofs.Common.{arith}
use Rattle.xdb_key.specs.Reading.{AreBytes}
use Rattle.xdb_block.proofs.FoundLaws.{block_found, block_kept}
use Rattle.xdb_block.proofs.Loop.{block_answers}
use Rattle.xdb_block.proofs.rows.read_block.Goals as goal

pub returns-clause-answers : goal.returns-clause-answers
returns-clause-answers c =
    block_answers c.args.interval c.args.kind c.args.bytes.now c.in_ok-end.end _ c.read_rows.result c.in_ok-end.ensures.answers c.in_ok-end.ensures.within c.read_rows.ensures.lie c.read_rows.ensures.answers

pub returns-clause-found : goal.returns-clause-found
returns-clause-found c =
    let bytes = c.args.bytes.now in
    let fits : AreBytes bytes = λ i. omega (arith, c.type_inv.bytes i) in
    let answers = block_answers c.args.interval c.args.kind bytes c.in_ok-end.end _ c.read_rows.result c.in_ok-end.ensures.answers c.in_ok-end.ensures.within c.read_rows.ensures.lie c.read_rows.ensures.answers in
    block_found c.args.interval c.args.kind bytes c.read_rows.result fits answers

pub returns-clause-kept : goal.returns-clause-kept
returns-clause-kept c =
    let bytes = c.args.bytes.now in
    let fits : AreBytes bytes = λ i. omega (arith, c.type_inv.bytes i) in
    let answers = block_answers c.args.interval c.args.kind bytes c.in_ok-end.end _ c.read_rows.result c.in_ok-end.ensures.answers c.in_ok-end.ensures.within c.read_rows.ensures.lie c.read_rows.ensures.answers in
    block_kept c.args.interval c.args.kind bytes c.in_ok-end.end c.read_rows.result fits c.in_ok-end.ensures.within c.read_rows.ensures.lie c.read_rows.ensures.whole answers
