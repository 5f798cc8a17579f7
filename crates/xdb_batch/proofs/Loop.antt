-- Reading operations one after the other, as a loop does.
use Rattle.std.proofs.Common.{◌≡◌, ℕ, suc, ◌-◌, ◌+◌, ◌≤◌, ◌<◌, List, [], ◌∷◌, ◌++◌, length, get_or, take, drop, append_assoc, Result, Ok, Err, refl, sym, ap, ◌∙◌, arith}
use Rattle.std.proofs.lemmas.List.{append-nil, nil_from_length, length-take, length-drop}
use Rattle.std.proofs.lemmas.Slice.{first_rest}
use Rattle.xdb_key.specs.Reading.{◌>>=◌}
use Rattle.xdb_key.specs.declared.op.Op.{Op}
use Rattle.xdb_batch.specs.Reading.{IsDefect, op_at, ops_at}
use Rattle.xdb_batch.specs.declared.error.BatchBad.{BatchBad}
use Rattle.xdb_batch.specs.declared.error.BatchBad.TheVariants.{BadCount, Memory}

-- what was read before, and what is still read
abbrev pub with_front : List Op → Result (List Op × List ℕ) BatchBad → Result (List Op × List ℕ) BatchBad
with_front front read = read >>= λ x. Ok (front ++ x.0, x.1)

-- a loop's state: what is still read goes on with what was read, and makes the whole
pub record GoesOn (stated end found : ℕ) (front : List Op) (rest : List ℕ) (total : Result (List Op × List ℕ) BatchBad) : Type 0 where
  pub makes : with_front front (ops_at stated end (stated - found) rest) ≡ total

regrouped : (front : List Op) (op : Op) (read : Result (List Op × List ℕ) BatchBad) → with_front front (read >>= λ x. Ok (op ∷ x.0, x.1)) ≡ with_front (front ++ op ∷ []) read
regrouped front op (Ok x) = ap (λ (ops : List Op). Ok (ops, x.1)) (simp append_assoc)
regrouped front op (Err bad) = refl

-- what is left behind its first byte
abbrev pub behind : List ℕ → List ℕ
behind rest = take (length rest - 1) (drop 1 rest)

pub length-behind : (rest : List ℕ) → 1 ≤ length rest → length (behind rest) + 1 ≡ length rest
length-behind rest some = omega (arith, length-take (length rest - 1) (drop 1 rest), length-drop 1 rest)

pub goes_on : (stated end found : ℕ) (front : List Op) (rest : List ℕ) (op : Op) (after : List ℕ) (total : Result (List Op × List ℕ) BatchBad) → found < stated → 1 ≤ length rest
    → op_at end (get_or rest 0 0) (behind rest) ≡ Ok (op, after) → GoesOn stated end found front rest total → GoesOn stated end (found + 1) (front ++ op ∷ []) after total
unfolding ops_at
goes_on stated end found front rest op after total less some read g =
    let k : stated - found ≡ suc (stated - (found + 1)) = omega arith in
    let next : with_front front (ops_at stated end (suc (stated - (found + 1))) (get_or rest 0 0 ∷ behind rest)) ≡ with_front (front ++ op ∷ []) (ops_at stated end (stated - (found + 1)) after) =
    rw read (regrouped front op (ops_at stated end (stated - (found + 1)) after)) in
    let here : with_front front (ops_at stated end (stated - found) rest) ≡ with_front front (ops_at stated end (suc (stated - (found + 1))) (get_or rest 0 0 ∷ behind rest)) =
    λ i. with_front front (ops_at stated end (k i) (first_rest rest 0 some i)) in
    record { makes = sym (here ∙ next) ∙ g.makes }

passed_on : {X Y : Type 0} (bad : BatchBad) (r : Result X BatchBad) (total : Result Y BatchBad) → ((e : BatchBad) → r ≡ Err e → total ≡ Err e) → IsDefect bad r → IsDefect bad total
passed_on Memory r total step e = tt
passed_on bad r total step e = step bad e

-- an operation's defect is the whole's
pub fails : (bad : BatchBad) (stated end found : ℕ) (front : List Op) (rest : List ℕ) (total : Result (List Op × List ℕ) BatchBad) → found < stated → 1 ≤ length rest
    → IsDefect bad (op_at end (get_or rest 0 0) (behind rest)) → GoesOn stated end found front rest total → IsDefect bad total
unfolding ops_at
fails bad stated end found front rest total less some defect g =
    let k : stated - found ≡ suc (stated - (found + 1)) = omega arith in
    let here : with_front front (ops_at stated end (stated - found) rest) ≡ with_front front (ops_at stated end (suc (stated - (found + 1))) (get_or rest 0 0 ∷ behind rest)) =
    λ i. with_front front (ops_at stated end (k i) (first_rest rest 0 some i)) in
    let step = λ (e : BatchBad) (is : op_at end (get_or rest 0 0) (behind rest) ≡ Err e).
    let next : with_front front (ops_at stated end (suc (stated - (found + 1))) (get_or rest 0 0 ∷ behind rest)) ≡ Err e = rw is refl in
    sym g.makes ∙ here ∙ next in
    passed_on bad (op_at end (get_or rest 0 0) (behind rest)) total step defect

-- the input ended before the count was reached
pub runs_out : (stated end found : ℕ) (front : List Op) (rest : List ℕ) (total : Result (List Op × List ℕ) BatchBad) → found < stated → length rest < 1 → GoesOn stated end found front rest total → total ≡ Err (BadCount stated found)
unfolding ops_at
runs_out stated end found front rest total less none g =
    let k : stated - found ≡ suc (stated - (found + 1)) = omega arith in
    let place : stated - suc (stated - (found + 1)) ≡ found = omega arith in
    let nothing : rest ≡ [] = nil_from_length rest (omega arith) in
    let here : with_front front (ops_at stated end (stated - found) rest) ≡ with_front front (ops_at stated end (suc (stated - (found + 1))) []) =
    λ i. with_front front (ops_at stated end (k i) (nothing i)) in
    sym g.makes ∙ here ∙ ap (λ n. Err (BadCount stated n)) place

pub is_done : (stated end found : ℕ) (front : List Op) (rest : List ℕ) (total : Result (List Op × List ℕ) BatchBad) → stated ≤ found → GoesOn stated end found front rest total → total ≡ Ok (front, rest)
unfolding ops_at
is_done stated end found front rest total all g =
    let k : stated - found ≡ 0 = omega arith in
    let one : with_front front (ops_at stated end (stated - found) rest) ≡ Ok (front, rest) = rw k (ap (λ (ops : List Op). Ok (ops, rest)) (append-nil front)) in
    sym g.makes ∙ one
