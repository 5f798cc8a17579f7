-- What fences keep where one more is opened.
use Rattle.std.proofs.Common.{◌≡◌, false, List, [], ◌∷◌, ◌++◌, None}
use Rattle.std.proofs.lemmas.List.Quantifiers.{all_pairs_push}
use Rattle.xdb_plain.specs.State.{same_name}
use Rattle.xdb_jobs.specs.Fencing.{found_fence, LoadsDiffer}
use Rattle.xdb_jobs.specs.declared.fences.Fence.{Fence}
use Rattle.xdb_jobs.proofs.TakenOut.{none_found}

pub loads_differ_pushed : (fences : List Fence) (f : Fence) → LoadsDiffer fences → found_fence f.load fences ≡ None → LoadsDiffer (fences ++ f ∷ [])
loads_differ_pushed fences f differ new =
    all_pairs_push (λ f g. same_name f.load g.load ≡ false) fences f differ (none_found (λ g. same_name g.load f.load) fences new)
