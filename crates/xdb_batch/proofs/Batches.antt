-- The two laws: what is read is spelled so, and what is spelled so is read.
use Rattle.std.proofs.Common.{◌≡◌, ℕ, zero, suc, ◌+◌, ◌-◌, ◌^◌, ◌≤◌, false, ◌||◌, cond, eqb, ltb, List, [], ◌∷◌, ◌++◌, length, take, drop, append_assoc, subst, Ok, Err, refl, sym, ap, ◌∙◌, arith}
use Rattle.std.specs.List.{flat_map, AllByRecursion}
use Rattle.std.proofs.lemmas.Bool.{le-ltb, ltb-false, eqb-true, eqb-false, ne_eqb, or_parts, or_from}
use Rattle.std.proofs.lemmas.List.{append-nil, nil_from_length, length-drop, drop-drop, take-append-drop}
use Rattle.std.proofs.lemmas.List.Concat.{flat_map-cons}
use Rattle.byteorder.specs.Endian.{little_bytes, little_number}
use Rattle.byteorder.specs.Numbers.{little_number-reads_back}
use Rattle.xdb_key.proofs.ReadingLaws.{bind_ok, guard_ok, AreBytes-drop, AreBytes-tail}
use Rattle.xdb_key.specs.Ops.{batch_len}
use Rattle.xdb_key.specs.Reading.{◌>>=◌, AreBytes}
use Rattle.xdb_key.specs.declared.op.Op.{Op}
use Rattle.xdb_key.specs.declared.op.Op.TheVariants.{Set, Del, DelSpan}
use Rattle.xdb_batch.specs.Reading.{op_at, ops_at, header_at, batch_at}
use Rattle.xdb_batch.specs.Spelling.{op_bytes, batch_bytes, IsOp, IsBatch, IsKept}
use Rattle.xdb_batch.specs.declared.error.BatchBad.TheVariants.{TooLong, Short, TooMany, BadNumbers, BadCount, Trailing}
use Rattle.xdb_batch.proofs.Lengths.{length-batch_bytes}
use Rattle.xdb_batch.proofs.Parts.{Takes, Takes-then, ok_is, op_takes, set_again, del_again, span_again, little_takes_4, little_takes_8, test_ok}

-- ---- operations one after the other

-- operations were read from their spellings, and keep their limits
record ReadsOps (bytes : List ℕ) (left : ℕ) (ops : List Op) (rest : List ℕ) : Type 0 where
  taken : Takes bytes (flat_map op_bytes ops) rest
  counted : length ops ≡ left
  within : AllByRecursion IsOp ops

ops_take : (stated end left : ℕ) (bytes : List ℕ) (x : List Op × List ℕ) → AreBytes bytes → ops_at stated end left bytes ≡ Ok x → ReadsOps bytes left x.0 x.1
unfolding ops_at
ops_take stated end zero bytes x fits e =
    subst (λ (y : List Op × List ℕ). ReadsOps bytes 0 y.0 y.1) (ok_is ([], bytes) x e) (record { taken = record { parts = refl; bytes_left = fits }; counted = refl; within = tt })
ops_take stated end (suc left) [] x fits e = absurd cc
ops_take stated end (suc left) (byte ∷ bytes) x fits e =
    let a = bind_ok (op_at end byte bytes) (λ op. ops_at stated end left op.1 >>= λ ops. Ok (op.0 ∷ ops.0, ops.1)) e in
    let b = bind_ok (ops_at stated end left a.0.1) (λ ops. Ok (a.0.0 ∷ ops.0, ops.1)) a.2 in
    let first = op_takes end byte bytes a.0 (AreBytes-tail byte bytes fits) a.1 in
    let others = ops_take stated end left a.0.1 b.0 first.taken.bytes_left b.1 in
    let both = Takes-then (byte ∷ bytes) (op_bytes a.0.0) a.0.1 (flat_map op_bytes b.0.0) b.0.1 first.taken others.taken in
    let made : List Op × List ℕ = (a.0.0 ∷ b.0.0, b.0.1) in
    subst (λ (y : List Op × List ℕ). ReadsOps (byte ∷ bytes) (suc left) y.0 y.1) (ok_is made x b.2)
    (record { taken = rw flat_map-cons both; counted = ap suc others.counted; within = (first.within, others.within) })

-- an operation before others
op_again : (stated end left : ℕ) (op : Op) (rest : List ℕ) → IsOp op → ops_at stated end (suc left) (op_bytes op ++ rest) ≡ (ops_at stated end left rest >>= λ ops. Ok (op ∷ ops.0, ops.1))
unfolding ops_at
op_again stated end left (Set key value) rest fits = rw (set_again end key value rest fits) refl
op_again stated end left (Del key) rest fits = rw (del_again end key rest fits) refl
op_again stated end left (DelSpan range) rest fits = rw (span_again end range.lo range.hi rest fits) refl

ops_again : (stated end : ℕ) (ops : List Op) (rest : List ℕ) → AllByRecursion IsOp ops → ops_at stated end (length ops) (flat_map op_bytes ops ++ rest) ≡ Ok (ops, rest)
unfolding ops_at
ops_again stated end [] rest fits = refl
ops_again stated end (op ∷ ops) rest fits =
    let regrouped : flat_map op_bytes (op ∷ ops) ++ rest ≡ op_bytes op ++ (flat_map op_bytes ops ++ rest) = ap (λ x. x ++ rest) (flat_map-cons op_bytes op ops) ∙ append_assoc (op_bytes op) (flat_map op_bytes ops) rest in
    ap (ops_at stated end (suc (length ops))) regrouped ∙ op_again stated end (length ops) op (flat_map op_bytes ops ++ rest) fits.0
    ∙ ap (λ r. r >>= λ x. Ok (op ∷ x.0, x.1)) (ops_again stated end ops rest fits.1)

-- ---- the first number and the count

record IsHeader (bytes : List ℕ) (first count : ℕ) : Type 0 where
  short : length bytes ≤ 1048576
  long : 12 ≤ length bytes
  few : count ≤ 4096
  from : 1 ≤ first
  upto : first + count ≤ 2 ^ 56
  some : 1 ≤ count
  first_is : little_number 8 bytes ≡ first
  count_is : little_number 4 (drop 8 bytes) ≡ count

header_takes : (bytes : List ℕ) (x : ℕ × ℕ) → header_at bytes ≡ Ok x → IsHeader bytes x.0 x.1
unfolding header_at
header_takes bytes x e =
    let end = length bytes in
    let first = little_number 8 bytes in
    let count = little_number 4 (drop 8 bytes) in
    let a = guard_ok (ltb 1048576 end) TooLong _ e in
    let b = guard_ok (ltb end 12) (Short end) _ a.1 in
    let c = guard_ok (ltb 4096 count) TooMany _ b.1 in
    let d = guard_ok (eqb first 0 || ltb (2 ^ 56) (first + count)) BadNumbers _ c.1 in
    let f = guard_ok (eqb count 0) (BadCount 0 0) _ d.1 in
    let numbers = or_parts (eqb first 0) (ltb (2 ^ 56) (first + count)) d.0 in
    let short : end ≤ 1048576 = ltb-false 1048576 end a.0 in
    let long : 12 ≤ end = ltb-false end 12 b.0 in
    let few : count ≤ 4096 = ltb-false 4096 count c.0 in
    let nonzero : first ≡ 0 → ⊥ = eqb-false first 0 numbers.0 in
    let upto : first + count ≤ 2 ^ 56 = ltb-false (2 ^ 56) (first + count) numbers.1 in
    let stated : count ≡ 0 → ⊥ = eqb-false count 0 f.0 in
    let made : IsHeader bytes first count = record { short = short; long = long; few = few; from = omega arith; upto = upto; some = omega arith; first_is = refl; count_is = refl } in
    subst (λ (y : ℕ × ℕ). IsHeader bytes y.0 y.1) (ok_is (first, count) x f.1) made

header_again : (bytes : List ℕ) (first count : ℕ) → IsHeader bytes first count → header_at bytes ≡ Ok (first, count)
unfolding header_at
header_again bytes first count h =
    let some = h.some in
    let from = h.from in
    let numbers : (eqb first 0 || ltb (2 ^ 56) (first + count)) ≡ false = or_from (eqb first 0) (ltb (2 ^ 56) (first + count)) (ne_eqb first 0 (λ e. omega arith)) (le-ltb (2 ^ 56) (first + count) h.upto) in
    let stated : eqb count 0 ≡ false = ne_eqb count 0 (λ e. omega arith) in
    rw (h.first_is, h.count_is, le-ltb 1048576 (length bytes) h.short, le-ltb (length bytes) 12 h.long, le-ltb 4096 count h.few, numbers, stated) refl

-- the bytes of the first number and of the count, and those behind them
header_parts : (bytes : List ℕ) (first count : ℕ) → AreBytes bytes → IsHeader bytes first count → bytes ≡ (little_bytes 8 first ++ little_bytes 4 count) ++ drop 12 bytes
header_parts bytes first count fits h =
    let long = h.long in
    let front : little_bytes 8 first ≡ take 8 bytes = ap (little_bytes 8) (sym h.first_is) ∙ little_takes_8 bytes (omega arith) fits in
    let middle : little_bytes 4 count ≡ take 4 (drop 8 bytes) = ap (little_bytes 4) (sym h.count_is) ∙ little_takes_4 (drop 8 bytes) (omega (arith, length-drop 8 bytes)) (AreBytes-drop 8 bytes fits) in
    let back : drop 8 bytes ≡ take 4 (drop 8 bytes) ++ drop 12 bytes = sym (take-append-drop 4 (drop 8 bytes)) ∙ ap (λ r. take 4 (drop 8 bytes) ++ r) (drop-drop 4 8 bytes) in
    sym (take-append-drop 8 bytes) ∙ (λ i. sym front i ++ back i) ∙ ap (λ m. little_bytes 8 first ++ (m ++ drop 12 bytes)) (sym middle)
    ∙ sym (append_assoc (little_bytes 8 first) (little_bytes 4 count) (drop 12 bytes))

-- ---- a whole batch

-- a batch was read from its spelling
pub record ReadsBatch (bytes : List ℕ) (first : ℕ) (ops : List Op) : Type 0 where
  pub is : bytes ≡ batch_bytes first ops
  pub within : IsBatch first ops

reads_batch : (bytes : List ℕ) (first count : ℕ) (ops : List Op) (rest : List ℕ) → AreBytes bytes → IsHeader bytes first count → ReadsOps (drop 12 bytes) count ops rest → length rest ≡ 0 → ReadsBatch bytes first ops
reads_batch bytes first count ops rest fits h r ended =
    let nothing : rest ≡ [] = nil_from_length rest ended in
    let back : drop 12 bytes ≡ flat_map op_bytes ops = r.taken.parts ∙ ap (λ x. flat_map op_bytes ops ++ x) nothing ∙ append-nil (flat_map op_bytes ops) in
    let counted = r.counted in
    let is : bytes ≡ batch_bytes first ops = header_parts bytes first count fits h ∙ (λ i. (little_bytes 8 first ++ little_bytes 4 (sym counted i)) ++ back i) in
    let len : length bytes ≡ batch_len ops = ap length is ∙ length-batch_bytes first ops r.within in
    let short = h.short in
    let few = h.few in
    let some = h.some in
    let upto = h.upto in
    record {
      is = is;
      within = record { limits = record { few = omega arith; each = r.within; short = omega arith }; some = omega arith; from = h.from; upto = omega arith };
    }

pub batch_takes : (bytes : List ℕ) (x : ℕ × List Op) → AreBytes bytes → batch_at bytes ≡ Ok x → ReadsBatch bytes x.0 x.1
unfolding batch_at
batch_takes bytes x fits e =
    let end = length bytes in
    let a = bind_ok (header_at bytes) (λ header. ops_at header.1 end header.1 (drop 12 bytes) >>= λ ops. cond (eqb (length ops.1) 0) (Ok (header.0, ops.0)) (Err (Trailing (end - length ops.1)))) e in
    let b = bind_ok (ops_at a.0.1 end a.0.1 (drop 12 bytes)) (λ ops. cond (eqb (length ops.1) 0) (Ok (a.0.0, ops.0)) (Err (Trailing (end - length ops.1)))) a.2 in
    let g = test_ok (eqb (length b.0.1) 0) (Trailing (end - length b.0.1)) (a.0.0, b.0.0) x b.2 in
    let header = header_takes bytes a.0 a.1 in
    let ops = ops_take a.0.1 end a.0.1 (drop 12 bytes) b.0 (AreBytes-drop 12 bytes fits) b.1 in
    subst (λ (y : ℕ × List Op). ReadsBatch bytes y.0 y.1) (ok_is (a.0.0, b.0.0) x g.1) (reads_batch bytes a.0.0 a.0.1 b.0.0 b.0.1 fits header ops (eqb-true (length b.0.1) 0 g.0))

spelled_header : (first : ℕ) (ops : List Op) → IsBatch first ops → IsHeader (batch_bytes first ops) first (length ops)
spelled_header first ops h =
    let few = h.limits.few in
    let upto = h.upto in
    let len = length-batch_bytes first ops h.limits.each in
    let short = h.limits.short in
    record {
      short = omega arith;
      long = omega arith;
      few = few;
      from = h.from;
      upto = upto;
      some = h.some;
      first_is = little_number-reads_back 8 first (little_bytes 4 (length ops) ++ flat_map op_bytes ops) (omega arith);
      count_is = little_number-reads_back 4 (length ops) (flat_map op_bytes ops) (omega arith);
    }

pub batch_again : (first : ℕ) (ops : List Op) → IsBatch first ops → batch_at (batch_bytes first ops) ≡ Ok (first, ops)
unfolding batch_at
batch_again first ops h =
    let bytes = batch_bytes first ops in
    let header = header_again bytes first (length ops) (spelled_header first ops h) in
    let rest : ops_at (length ops) (length bytes) (length ops) (flat_map op_bytes ops) ≡ Ok (ops, []) =
    ap (ops_at (length ops) (length bytes) (length ops)) (sym (append-nil (flat_map op_bytes ops))) ∙ ops_again (length ops) (length bytes) ops [] h.limits.each in
    ap (λ r. r >>= λ header. ops_at header.1 (length bytes) header.1 (drop 12 bytes) >>= λ x. cond (eqb (length x.1) 0) (Ok (header.0, x.0)) (Err (Trailing (length bytes - length x.1)))) header
    ∙ ap (λ r. r >>= λ x. cond (eqb (length x.1) 0) (Ok (first, x.0)) (Err (Trailing (length bytes - length x.1)))) rest

-- what was read is a batch that may be kept, as long as the bytes are
pub ReadsBatch-kept : (bytes : List ℕ) (first : ℕ) (ops : List Op) → ReadsBatch bytes first ops → IsKept ops (length bytes)
ReadsBatch-kept bytes first ops r = record {
  limits = r.within.limits;
  counted = ap length r.is ∙ length-batch_bytes first ops r.within.limits.each;
}
