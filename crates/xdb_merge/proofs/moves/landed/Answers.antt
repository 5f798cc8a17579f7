-- What is left to answer of `landed`.
use Rattle.std.proofs.Common.{◌≡◌, sym, ap, ◌∙◌}
use Rattle.std.specs.List.{filter}
use Rattle.std.specs.Option.{option_copied, option_map}
use Rattle.xdb_key.specs.Order.{is_below, is_upto}
use Rattle.xdb_plain.specs.Answers.{first_of, last_of, at_or_after, at_or_before, moved}
use Rattle.xdb_merge.specs.Merge.{pairs_of}
use Rattle.xdb_merge.specs.Moves.{step_of}
use Rattle.xdb_merge.specs.Search.{pair_of}
use Rattle.xdb_merge.proofs.MoveLaws.{landed_by}
use Rattle.xdb_merge.proofs.moves.landed.Goals as goal

pub returns-in-Ge : goal.returns-in-Ge
returns-in-Ge c =
    let pairs = pairs_of c.args.layers.now c.args.bounds.now c.args.at in
    let lands : at_or_after (option_map pair_of (option_copied c.first_pair.result)) ≡ moved pairs c.args.place.now (step_of c.args.to) =
    ap at_or_after (c.first_pair.ensures.pair ∙ ap (λ k. first_of (filter (λ pair. is_upto k pair.0) pairs)) c.bytes.ensures.bytes)
    ∙ ap (λ to. moved pairs c.args.place.now (step_of to)) (sym c.in-Ge.is) in
    landed_by c.args.layers.now c.args.bounds.now c.args.at c.at_or_after-in-Ge.result c.args.place.now (step_of c.args.to) _ _ lands c.first_pair.ensures.decides c.at_or_after-in-Ge.ensures.same c.at_or_after-in-Ge.ensures.place

pub returns-in-Lt : goal.returns-in-Lt
returns-in-Lt c =
    let pairs = pairs_of c.args.layers.now c.args.bounds.now c.args.at in
    let lands : at_or_before (option_map pair_of (option_copied c.last_pair.result)) ≡ moved pairs c.args.place.now (step_of c.args.to) =
    ap at_or_before (c.last_pair.ensures.pair ∙ ap (λ k. last_of (filter (λ pair. is_below pair.0 k) pairs)) c.bytes-in-Lt.ensures.bytes)
    ∙ ap (λ to. moved pairs c.args.place.now (step_of to)) (sym c.in-Lt.is) in
    landed_by c.args.layers.now c.args.bounds.now c.args.at c.at_or_before-in-Lt.result c.args.place.now (step_of c.args.to) _ _ lands c.last_pair.ensures.decides c.at_or_before-in-Lt.ensures.same c.at_or_before-in-Lt.ensures.place
