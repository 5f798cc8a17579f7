-- What is kept of a name.
use Rattle.std.proofs.Common.{◌≡◌, ℕ, ◌+◌, ◌-◌, ◌≤◌, List, ◌++◌, length, take, drop, replicate, sym, ap, ◌∙◌, IsTrue, arith}
use Rattle.std.proofs.lemmas.Bool.{and_parts, leb-true}
use Rattle.std.proofs.lemmas.List.{drop-replicate, length-append, length-replicate, take-append-le}
use Rattle.std.proofs.Math.Seq.{take-length}
use Rattle.xdb_key.specs.Name.{is_name}
use Rattle.xdb_key.specs.NameKept.{IsKept}

pub is_name-short : (name : List ℕ) → IsTrue (is_name name) → length name ≤ 16
is_name-short name h = leb-true (length name) 16 (and_parts _ _ (and_parts _ _ h).0).1

pub IsKept-filled : (name : List ℕ) → IsTrue (is_name name) → IsKept (name ++ drop (length name) (replicate 16 0)) (length name)
IsKept-filled name h =
    let short = is_name-short name h in
    let front : take (length name) (name ++ drop (length name) (replicate 16 0)) ≡ name = take-append-le (length name) name _ (omega arith) ∙ take-length name in
    record {
      padded = ap (λ x. name ++ x) (drop-replicate (length name) 16 0) ∙ ap (λ x. x ++ replicate (16 - length name) 0) (sym front);
      short = short;
      full = length-append name _ ∙ ap (λ x. length name + x) (ap length (drop-replicate (length name) 16 0) ∙ length-replicate (16 - length name) 0) ∙ omega arith;
      name = ap is_name front ∙ h;
    }
