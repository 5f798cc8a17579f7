-- What a call tells of a file that may tell its bytes.
use Rattle.std.proofs.Common.{◌≡◌, ℕ, List, Option, Some, None, IfSome, Result, Ok, Err, IsErr, IsErrAnd, sym, subst}
use Rattle.std.proofs.lemmas.Bool.{false≢true}
use Rattle.xdb_table_r.specs.declared.error.TableNo.{TableNo}
use Rattle.xdb_table_r.specs.declared.error.TableNo.TheVariants.{ReadFault, Damaged, Memory}
use Rattle.xdb_table_r.specs.Opening.{IsNo, Tells}

-- a defect of a part is one of the whole
pub no_then : {Y Z : Type 0} (backing : ℕ) (e : TableNo) (read : Result Y ℕ) (whole : Result Z ℕ) → ((at : ℕ) → read ≡ Err at → whole ≡ Err at) → IsNo backing e read → IsNo backing e whole
no_then backing (Damaged b at) read whole f h = (h.0, f at h.1)
no_then backing ReadFault read whole f h = tt
no_then backing Memory read whole f h = tt

-- an error that `?` passes on
pub passed : {X Y : Type 0} (known : Option (List ℕ)) (backing : ℕ) (view : X → Y) (r : Result X TableNo) (e : TableNo) (read : List ℕ → Result Y ℕ) → IsErr r × IsErrAnd r (λ y. y ≡ e)
    → IfSome known (λ b. IsNo backing e (read b)) → IfSome known (λ b. Tells backing view r (read b))
passed None backing view r e read f h = tt
passed (Some b) backing view (Ok x) e read f h = absurd (false≢true f.0)
passed (Some b) backing view (Err y) e read f h = subst (λ z. IsNo backing z (read b)) (sym f.1) h
