use Rattle.std.proofs.Common.{◌≡◌, length, refl}
use Rattle.std.proofs.lemmas.Iterator.Adapters.{YieldsList-from_vec, YieldsList-from_skip, fact_from_collect}
use Rattle.std.proofs.lemmas.Iterator.Consumers.{YieldsList-at}
use Rattle.std.proofs.lemmas.Result.{IfOk-weaker}
use Rattle.std.specs.Vec.Iter.{into_iter_items}
use Rattle.excisedb.proofs.words.behind_name.Goals as goal

-- all but the first of what is left
pub returns : goal.returns
returns c =
    let all = YieldsList-from_vec {s = c.args.args} (into_iter_items c.args.args) refl c.args.args.rest.ok.0 in
    let road = YieldsList-from_skip {s = c.skip.result} 1 (YieldsList-at c.skip.ensures.source all) c.skip.ensures.count in
    record { words = IfOk-weaker c.collect.result _ _ (λ v h. h.0) (fact_from_collect (λ xs v. (v.items ≡ xs) × (v.len ≡ length xs)) c.collect.result c.collect.ensures.ran road) }
