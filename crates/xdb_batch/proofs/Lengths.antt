-- How long spellings are.
use Rattle.std.proofs.Common.{◌≡◌, ℕ, zero, suc, ◌+◌, ◌*◌, ◌/◌, ◌^◌, ◌<◌, ◌≤◌, Bool, true, false, cond, ltb, List, [], ◌∷◌, ◌++◌, length, refl, sym, ap, ◌∙◌, arith, inl, inr}
use Rattle.std.proofs.Math.Nat.{pow-succ'}
use Rattle.std.proofs.lemmas.Bool.{cases_lt, lt-ltb, le-ltb}
use Rattle.std.proofs.lemmas.List.{length-append}
use Rattle.std.proofs.lemmas.List.Concat.{flat_map-cons}
use Rattle.std.proofs.lemmas.List.Sums.{sum_by-cons, sum-map}
use Rattle.std.specs.List.{flat_map, sum_by, AllByRecursion}
use Rattle.xdb_key.proofs.VarintLaws.{groups_of-last, groups_of-more}
use Rattle.xdb_key.specs.Ops.{string_len, op_len, batch_len}
use Rattle.xdb_key.specs.Varint.{groups_of, varint, varint_len}
use Rattle.xdb_key.specs.declared.op.Op.{Op}
use Rattle.xdb_key.specs.declared.op.Op.TheVariants.{Set, Del, DelSpan}
use Rattle.xdb_batch.specs.Spelling.{string, op_bytes, batch_bytes, IsOp}

-- the number of the first test that holds, of nine of which the last always does
abbrev first_of_nine : Bool → Bool → Bool → Bool → Bool → Bool → Bool → Bool → ℕ
first_of_nine a b c d e f g h =
    cond a 1 (cond b 2 (cond c 3 (cond d 4 (cond e 5 (cond f 6 (cond g 7 (cond h 8 9)))))))

-- one test more in front
moved_on : (a b c d e f g : Bool) → first_of_nine false a b c d e f g ≡ suc (first_of_nine a b c d e f g true)
moved_on true b c d e f g = refl
moved_on false true c d e f g = refl
moved_on false false true d e f g = refl
moved_on false false false true e f g = refl
moved_on false false false false true f g = refl
moved_on false false false false false true g = refl
moved_on false false false false false false true = refl
moved_on false false false false false false false = refl

same_test : (n m k : ℕ) → k ≡ 128 * m → ltb n k ≡ ltb (n / 128) m
same_test n m k is = elim (cases_lt (n / 128) m) [
  | inl low ↦ lt-ltb n k (omega arith) ∙ sym (lt-ltb (n / 128) m low)
  | inr high ↦ le-ltb n k (omega arith) ∙ sym (le-ltb (n / 128) m high)
]

varint_len-more : (n : ℕ) → 128 ≤ n → n < 2 ^ 63 → varint_len n ≡ suc (varint_len (n / 128))
varint_len-more n high small =
    let m = n / 128 in
    let tests : varint_len n ≡ first_of_nine false (ltb m (2 ^ 7)) (ltb m (2 ^ 14)) (ltb m (2 ^ 21)) (ltb m (2 ^ 28)) (ltb m (2 ^ 35)) (ltb m (2 ^ 42)) (ltb m (2 ^ 49)) =
    λ i. first_of_nine (le-ltb n (2 ^ 7) high i) (same_test n (2 ^ 7) (2 ^ 14) refl i) (same_test n (2 ^ 14) (2 ^ 21) refl i) (same_test n (2 ^ 21) (2 ^ 28) refl i)
    (same_test n (2 ^ 28) (2 ^ 35) refl i) (same_test n (2 ^ 35) (2 ^ 42) refl i) (same_test n (2 ^ 42) (2 ^ 49) refl i) (same_test n (2 ^ 49) (2 ^ 56) refl i) in
    tests ∙ moved_on _ _ _ _ _ _ _
    ∙ ap (λ t. suc (first_of_nine (ltb m (2 ^ 7)) (ltb m (2 ^ 14)) (ltb m (2 ^ 21)) (ltb m (2 ^ 28)) (ltb m (2 ^ 35)) (ltb m (2 ^ 42)) (ltb m (2 ^ 49)) t)) (sym (lt-ltb m (2 ^ 56) (omega arith)))

varint_len-last : (n : ℕ) → n < 128 → varint_len n ≡ 1
varint_len-last n low =
    ap (λ t. first_of_nine t (ltb n (2 ^ 14)) (ltb n (2 ^ 21)) (ltb n (2 ^ 28)) (ltb n (2 ^ 35)) (ltb n (2 ^ 42)) (ltb n (2 ^ 49)) (ltb n (2 ^ 56))) (lt-ltb n (2 ^ 7) low)

length-last : (most n : ℕ) → n < 128 → length (groups_of (suc most) n) ≡ varint_len n
length-last most n low = ap length (groups_of-last most n low) ∙ sym (varint_len-last n low)

length-groups_of : (most n : ℕ) → n < 128 ^ suc most → n < 2 ^ 63 → length (groups_of (suc most) n) ≡ varint_len n
length-groups_of zero n within small = length-last zero n (omega arith)
length-groups_of (suc most) n within small = elim (cases_lt n 128) [
  | inl low ↦ length-last (suc most) n low
  | inr high ↦
      let step : 128 ^ suc (suc most) ≡ 128 * 128 ^ suc most = pow-succ' 128 (suc most) in
      ap length (groups_of-more (suc most) n high) ∙ ap suc (length-groups_of most (n / 128) (omega arith) (omega arith)) ∙ sym (varint_len-more n high small)
]

-- a number takes as many bytes as are counted
pub length-varint : (n : ℕ) → n < 2 ^ 63 → length (varint n) ≡ varint_len n
unfolding varint
length-varint n small = length-groups_of 8 n (omega arith) small

pub length-string : (bytes : List ℕ) → length bytes < 2 ^ 63 → length (string bytes) ≡ string_len bytes
length-string bytes small = length-append (varint (length bytes)) bytes ∙ ap (λ n. n + length bytes) (length-varint (length bytes) small)

length-two : (a b : List ℕ) → length a < 2 ^ 63 → length b < 2 ^ 63 → suc (length (string a ++ string b)) ≡ 1 + string_len a + string_len b
length-two a b small less = omega (arith, length-append (string a) (string b), length-string a small, length-string b less)

pub length-op_bytes : (op : Op) → IsOp op → length (op_bytes op) ≡ op_len op
length-op_bytes (Set key value) fits =
    let short = fits.0 in
    let small = fits.1 in
    length-two key value (omega arith) (omega arith)
length-op_bytes (Del key) fits =
    let short = fits in
    omega (arith, length-string key (omega arith))
length-op_bytes (DelSpan range) fits =
    let lo = fits.0 in
    let hi = fits.1 in
    length-two range.lo range.hi (omega arith) (omega arith)

length-ops_by : (ops : List Op) → AllByRecursion IsOp ops → length (flat_map op_bytes ops) ≡ sum_by op_len ops
length-ops_by [] fits = refl
length-ops_by (op ∷ ops) fits =
    ap length (flat_map-cons op_bytes op ops) ∙ length-append (op_bytes op) (flat_map op_bytes ops)
    ∙ (λ i. length-op_bytes op fits.0 i + length-ops_by ops fits.1 i) ∙ sym (sum_by-cons op_len op ops)

-- a batch takes as many bytes as are counted
pub length-batch_bytes : (first : ℕ) (ops : List Op) → AllByRecursion IsOp ops → length (batch_bytes first ops) ≡ batch_len ops
length-batch_bytes first ops fits = omega (arith, length-ops_by ops fits, sum-map op_len ops)
