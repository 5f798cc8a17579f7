use Rattle.std.proofs.Common.{◌≡◌, ◌∙◌, ap, sym, length}
use Rattle.std.specs.Option.{option_map}
use Rattle.xdb_block.specs.Kept.{row_of}
use Rattle.xdb_block.specs.Rows.{follows}
use Rattle.xdb_block.proofs.Ranges.{last_kept}
use Rattle.xdb_block.proofs.RowLaws.{next-fits, next-refused}
use Rattle.xdb_block.proofs.row.read_row.Goals as goal

pub returns-then-not-follows-clause-answers : goal.returns-then-not-follows-clause-answers
returns-then-not-follows-clause-answers c =
    let bytes = c.args.entries.now in
    let place = c.in_ok-place.place in
    let kept = last_kept c.args.keys.now.items c.put_key.new.keys.items bytes (length bytes) c.args.last c.requires.lies c.in_ok-place.ensures.grows in
    let seen : follows c.args.kind (option_map (row_of c.put_key.new.keys.items bytes) c.args.last) (row_of c.put_key.new.keys.items bytes place) ≡ c.follows.result =
    (λ i. follows c.args.kind (option_map (row_of (sym c.deref.ensures.value i) bytes) c.args.last) (row_of (sym c.deref.ensures.value i) bytes place)) ∙ sym c.follows.ensures in
    let out = ap (λ l. follows c.args.kind l (row_of c.put_key.new.keys.items bytes place)) (sym kept) ∙ seen ∙ c.if-not-follows.true in
    next-refused c.args.at c.args.kind c.args.restart _ _ _ _ c.in_ok-place.ensures.answers out

pub returns-clause-answers : goal.returns-clause-answers
returns-clause-answers c =
    let bytes = c.args.entries.now in
    let place = c.in_ok-place.place in
    let kept = last_kept c.args.keys.now.items c.put_key.new.keys.items bytes (length bytes) c.args.last c.requires.lies c.in_ok-place.ensures.grows in
    let seen : follows c.args.kind (option_map (row_of c.put_key.new.keys.items bytes) c.args.last) (row_of c.put_key.new.keys.items bytes place) ≡ c.follows.result =
    (λ i. follows c.args.kind (option_map (row_of (sym c.deref.ensures.value i) bytes) c.args.last) (row_of (sym c.deref.ensures.value i) bytes place)) ∙ sym c.follows.ensures in
    let out = ap (λ l. follows c.args.kind l (row_of c.put_key.new.keys.items bytes place)) (sym kept) ∙ seen ∙ c.if-not-follows.false in
    next-fits c.args.at c.args.kind c.args.restart _ _ _ _ c.in_ok-place.ensures.answers out
