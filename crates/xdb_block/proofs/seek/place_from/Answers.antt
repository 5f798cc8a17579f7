use Rattle.std.proofs.Common.{◌∙◌, ◌<◌, ◌+◌, ◌-◌, ◌/◌, ap, sym, arith, length, None}
use Rattle.std.proofs.lemmas.List.Sums.{prefix_len-le-length}
use Rattle.xdb_block.specs.Kept.{keys_of}
use Rattle.xdb_block.specs.Rows.{is_before}
use Rattle.xdb_block.proofs.SeekLaws.{counted, stops, length-keys_of, key_at}
use Rattle.xdb_block.proofs.seek.place_from.Goals as goal

pub loop-low-init : goal.loop-low-init
loop-low-init c =
    let upto = prefix_len-le-length (is_before c.args.user.now c.args.trailer) (keys_of c.args.keys.now c.args.places.now) in
    record { from = omega arith; upto = omega (arith, length-keys_of c.args.keys.now c.args.places.now); within = omega arith }

pub loop-low-preserved-then-is_before : goal.loop-low-preserved-then-is_before
loop-low-preserved-then-is_before c =
    let places = c.args.places.now in
    let ks = keys_of c.args.keys.now places in
    let middle = c.loop-low.low + (c.loop-low.high - c.loop-low.low) / 2 in
    let len = length-keys_of c.args.keys.now places in
    let within : middle < length places = omega arith in
    let before = ap (is_before c.args.user.now c.args.trailer) (key_at c.args.keys.now places middle _ within) ∙ sym c.is_before.ensures ∙ c.if-is_before.true in
    let more = counted c.args.user.now c.args.trailer None ks middle c.requires.rise (omega arith) before in
    let kept = c.loop-low.invariant in
    record { from = omega arith; upto = kept.upto; within = kept.within }

pub loop-low-preserved : goal.loop-low-preserved
loop-low-preserved c =
    let places = c.args.places.now in
    let ks = keys_of c.args.keys.now places in
    let middle = c.loop-low.low + (c.loop-low.high - c.loop-low.low) / 2 in
    let len = length-keys_of c.args.keys.now places in
    let within : middle < length places = omega arith in
    let behind = ap (is_before c.args.user.now c.args.trailer) (key_at c.args.keys.now places middle _ within) ∙ sym c.is_before.ensures ∙ c.if-is_before.false in
    let less = stops (is_before c.args.user.now c.args.trailer) ks middle (omega arith) behind in
    let kept = c.loop-low.invariant in
    record { from = kept.from; upto = less; within = omega arith }
