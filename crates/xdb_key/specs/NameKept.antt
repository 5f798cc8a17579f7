-- A name as it is kept: 16 bytes, of which the first are the name's and the others zeros.
use Rattle.std.specs.Prelude.{◌≡◌, ℕ, ◌-◌, ◌≤◌, List, ◌++◌, length, take, replicate, IsTrue}
use Rattle.std.proofs.Common.{sym, ap, ◌∙◌, arith}
use Rattle.std.proofs.lemmas.List.{length-take}
use Rattle.xdb_key.specs.Name.{is_name}

abbrev pub kept : List ℕ → List ℕ
kept name = name ++ replicate (16 - length name) 0

pub record IsKept (bytes : List ℕ) (len : ℕ) : Type 0 where
  pub padded : bytes ≡ take len bytes ++ replicate (16 - len) 0
  pub short : len ≤ 16
  pub full : length bytes ≡ 16
  pub name : IsTrue (is_name (take len bytes))

-- what is kept of a name tells what is kept
pub kept-taken : (bytes : List ℕ) (len : ℕ) → IsKept bytes len → (kept (take len bytes) ≡ bytes) × (length (take len bytes) ≡ len)
kept-taken bytes len h =
    let short = h.short in
    let full = h.full in
    let taken : length (take len bytes) ≡ len = omega (arith, length-take len bytes) in
    (ap (λ n. take len bytes ++ replicate (16 - n) 0) taken ∙ sym h.padded, taken)
