-- Drafts that rise: a draft that doesn't is seen in the whole list.
use Rattle.std.proofs.Common.{◌≡◌, ℕ, ◌<◌, Bool, true, false, cond, not, ◌&&◌, List, [], ◌∷◌, length, get_or, map, Result, Ok, Err, refl, sym, ap, ◌∙◌}
use Rattle.std.specs.List.{flat_map, list_all}
use Rattle.std.proofs.lemmas.List.Folds.{list_all-append, list_all_at}
use Rattle.xdb_key.specs.declared.op.Op.{Op}
use Rattle.xdb_script.specs.Answers.{IsDefect, ranged, rises}
use Rattle.xdb_script.specs.Drafts.{drafted}
use Rattle.xdb_script.specs.Rules.{op_ranges}
use Rattle.xdb_script.specs.declared.error.LineNo.{LineNo}
use Rattle.xdb_script.specs.declared.error.LineNo.TheVariants.{Bad, Memory}
use Rattle.xdb_script.specs.declared.error.Why.{Why}
use Rattle.xdb_script.specs.declared.error.Why.TheVariants as why
use Rattle.xdb_script.specs.declared.operations.Draft.{Draft}

abbrev draft_rises : Draft → Bool
draft_rises d = list_all rises (op_ranges (drafted d))

drafts-rise : (ds : List Draft) → list_all rises (flat_map op_ranges (map drafted ds)) ≡ list_all draft_rises ds
drafts-rise [] = refl
drafts-rise (d ∷ ds) =
    list_all-append rises (op_ranges (drafted d)) (flat_map op_ranges (map drafted ds))
    ∙ ap (λ t. list_all rises (op_ranges (drafted d)) && t) (drafts-rise ds)

err-is : {A : Type 0} (x y : Why) → ◌≡◌ {A = Result A Why} (Err x) (Err y) → x ≡ y
err-is x y e = cc

failed-by : (ds : List Draft) (d : Draft) (w : Why) (t : Bool) → draft_rises d ≡ t → (t ≡ false → list_all draft_rises ds ≡ false) → cond (not t) (Err why.Range) (Ok (drafted d)) ≡ Err w → ranged (λ ops. flat_map op_ranges ops) (Ok (map drafted ds)) ≡ Err w
failed-by ds d w true is falls e = cc
failed-by ds d w false is falls e =
    ap (λ t. cond (not t) (Err why.Range) (Ok (map drafted ds))) (drafts-rise ds ∙ falls refl) ∙ ap (λ x. Err x) (err-is {A = Op} why.Range w e)

-- the draft at a place doesn't become an operation
pub draft_failed : (ds : List Draft) (i : ℕ) (d : Draft) (refusal : LineNo) → i < length ds → d ≡ get_or ds i d → IsDefect refusal (ranged op_ranges (Ok (drafted d))) → IsDefect refusal (ranged (λ ops. flat_map op_ranges ops) (Ok (map drafted ds)))
draft_failed ds i d Memory within is e = tt
draft_failed ds i d (Bad w) within is e = failed-by ds d w (draft_rises d) refl (λ falls. list_all_at draft_rises ds i d within (ap draft_rises (sym is) ∙ falls)) e
