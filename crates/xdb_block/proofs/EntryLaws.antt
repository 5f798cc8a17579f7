-- An entry that is read is the one that was spelled, and one that is spelled is read again.
use Rattle.std.proofs.Common.{◌≡◌, ℕ, suc, ◌+◌, ◌-◌, ◌^◌, ◌<◌, ◌≤◌, Bool, true, false, ◌||◌, cond, eqb, ltb, List, [], ◌∷◌, ◌++◌, length, take, drop, append_assoc, subst, Result, Ok, Err, refl, sym, ap, ◌∙◌, arith, inl, inr}
use Rattle.std.specs.Prelude.{nat_eq}
use Rattle.std.specs.List.{common_prefix_len}
use Rattle.std.proofs.lemmas.Bool.{ltb-false, eqb-true, eq-eqb, or_parts, cases_lt}
use Rattle.std.proofs.lemmas.List.{length-append, length-drop, length-take-le, take_at, drop_at, take-append-drop, drop-drop}
use Rattle.std.proofs.lemmas.List.Sums.{common_prefix_len-le}
use Rattle.std.proofs.Math.Seq.{take-append_seam, drop-append_seam}
use Rattle.xdb_key.proofs.ReadingLaws.{bind_ok, guard_ok, AreBytes-tail, AreBytes-drop}
use Rattle.xdb_key.proofs.VarintLaws.{varint_at-again, varint_at-takes, varint-last, varint-more}
use Rattle.xdb_key.specs.Reading.{◌>>=◌, AreBytes}
use Rattle.xdb_key.specs.Varint.{varint, varint_at}
use Rattle.xdb_key.specs.declared.error.VarintNo.{VarintNo}
use Rattle.xdb_block.specs.declared.kind.BlockNo.{BlockNo}
use Rattle.xdb_block.specs.declared.kind.BlockNo.TheVariants.{Damaged}
use Rattle.xdb_block.specs.Reading.{in_entry, number_at, lengths_at, row_at}
use Rattle.xdb_block.specs.Rows.{Row, row}
use Rattle.xdb_block.specs.Spelling.{left_out, entry_bytes}
use Rattle.xdb_block.proofs.RowLaws.{row_at-made, made}

-- ---- what two keys share

take-more : (n x : ℕ) (xs : List ℕ) → take (1 + n) (x ∷ xs) ≡ x ∷ take n xs
take-more n x xs = let one : 1 + n ≡ suc n = omega arith in ap (λ k. take k (x ∷ xs)) one

common_step : (x y n : ℕ) (a b : List ℕ) (same : Bool) → eqb x y ≡ same → take n a ≡ take n b → take (cond same (1 + n) 0) (x ∷ a) ≡ take (cond same (1 + n) 0) (y ∷ b)
common_step x y n a b true e rest = take-more n x a ∙ (λ i. eqb-true x y e i ∷ rest i) ∙ sym (take-more n y b)
common_step x y n a b false e rest = refl

common-take : (a b : List ℕ) → take (common_prefix_len nat_eq a b) a ≡ take (common_prefix_len nat_eq a b) b
common-take [] b = refl
common-take (x ∷ a) [] = refl
common-take (x ∷ a) (y ∷ b) = common_step x y (common_prefix_len nat_eq a b) a b (eqb x y) refl (common-take a b)

-- what an entry leaves out is in both keys
pub record Leaves (n : ℕ) (last key : List ℕ) : Type 0 where
  pub of_last : n ≤ length last
  pub of_key : n ≤ length key
  pub same : take n last ≡ take n key

pub leaves : (restart : Bool) (last key : List ℕ) → Leaves (left_out restart last key) last key
leaves true last key = record { of_last = omega arith; of_key = omega arith; same = refl }
leaves false last key =
    let less = common_prefix_len-le nat_eq last key in
    record { of_last = less.0; of_key = less.1; same = common-take last key }

-- ---- readers and spellings

pub record Takes (bytes text rest : List ℕ) : Type 0 where
  pub parts : bytes ≡ text ++ rest
  pub bytes_left : AreBytes rest

Takes-then : (a x b y c : List ℕ) → Takes a x b → Takes b y c → Takes a (x ++ y) c
Takes-then a x b y c p q = record {
  parts = p.parts ∙ ap (λ t. x ++ t) q.parts ∙ sym (append_assoc x y c);
  bytes_left = q.bytes_left;
}

AreBytes-behind : (front rest : List ℕ) → AreBytes (front ++ rest) → AreBytes rest
AreBytes-behind [] rest fits = fits
AreBytes-behind (b ∷ front) rest fits = AreBytes-behind front rest (AreBytes-tail b (front ++ rest) fits)

abbrev done : {A : Type 0} → A → Result A BlockNo
done x = Ok x

pub ok_is : {A : Type 0} (x y : A) → done x ≡ done y → x ≡ y
ok_is x y e = cc

in_entry-ok : {A : Type 0} {x : A} (at : ℕ) (r : Result A VarintNo) → in_entry at r ≡ Ok x → r ≡ Ok x
in_entry-ok at (Ok y) e = ap Ok (ok_is y _ e)
in_entry-ok at (Err x) e = absurd cc

number_takes : (at : ℕ) (bytes : List ℕ) (n : ℕ) (rest : List ℕ) → AreBytes bytes → number_at at bytes ≡ Ok (n, rest) → Takes bytes (varint n) rest × (n < 2 ^ 63)
unfolding number_at
number_takes at bytes n rest fits e =
    let read = varint_at-takes bytes rest n fits (in_entry-ok at (varint_at bytes) e) in
    (record { parts = read.1; bytes_left = AreBytes-behind (varint n) rest (subst AreBytes read.1 fits) }, read.0)

number_again : (at n : ℕ) (rest : List ℕ) → n < 2 ^ 63 → number_at at (varint n ++ rest) ≡ Ok (n, rest)
unfolding number_at
number_again at n rest small = ap (in_entry at) (varint_at-again n rest small)

abbrev lengths : ℕ → ℕ → ℕ → List ℕ
lengths s u v = (varint s ++ varint u) ++ varint v

record ReadsLengths (bytes : List ℕ) (n : ℕ × ℕ × ℕ) (rest : List ℕ) : Type 0 where
  taken : Takes bytes (lengths n.0 n.1 n.2) rest
  small : n.2 < 2 ^ 63

lengths_take : (at : ℕ) (bytes : List ℕ) (x : (ℕ × ℕ × ℕ) × List ℕ) → AreBytes bytes → lengths_at at bytes ≡ Ok x → ReadsLengths bytes x.0 x.1
unfolding lengths_at
lengths_take at bytes x fits e =
    let a = bind_ok (number_at at bytes) (λ shared. number_at at shared.1 >>= λ unshared. number_at at unshared.1 >>= λ value. Ok ((shared.0, unshared.0, value.0), value.1)) e in
    let b = bind_ok (number_at at a.0.1) (λ unshared. number_at at unshared.1 >>= λ value. Ok ((a.0.0, unshared.0, value.0), value.1)) a.2 in
    let c = bind_ok (number_at at b.0.1) (λ value. Ok ((a.0.0, b.0.0, value.0), value.1)) b.2 in
    let s = number_takes at bytes a.0.0 a.0.1 fits a.1 in
    let u = number_takes at a.0.1 b.0.0 b.0.1 s.0.bytes_left b.1 in
    let v = number_takes at b.0.1 c.0.0 c.0.1 u.0.bytes_left c.1 in
    let both = Takes-then bytes (varint a.0.0) a.0.1 (varint b.0.0) b.0.1 s.0 u.0 in
    let all = Takes-then bytes (varint a.0.0 ++ varint b.0.0) b.0.1 (varint c.0.0) c.0.1 both v.0 in
    let found : (ℕ × ℕ × ℕ) × List ℕ = ((a.0.0, b.0.0, c.0.0), c.0.1) in
    subst (λ (y : (ℕ × ℕ × ℕ) × List ℕ). ReadsLengths bytes y.0 y.1) (ok_is found x c.2) (record { taken = all; small = v.1 })

lengths_again : (at s u v : ℕ) (rest : List ℕ) → s < 2 ^ 63 → u < 2 ^ 63 → v < 2 ^ 63 → lengths_at at (varint s ++ (varint u ++ (varint v ++ rest))) ≡ Ok ((s, u, v), rest)
unfolding lengths_at
lengths_again at s u v rest small_s small_u small_v =
    rw (number_again at s (varint u ++ (varint v ++ rest)) small_s, number_again at u (varint v ++ rest) small_u, number_again at v rest small_v) refl

-- ---- entries

-- a row was read from its entry
pub record ReadsRow (restart : Bool) (last bytes : List ℕ) (r : Row) (rest : List ℕ) : Type 0 where
  pub taken : Takes bytes (entry_bytes (left_out restart last r.key) r) rest
  pub short : length r.value < 2 ^ 63

ended : {A : Type 0} (b : Bool) (d : BlockNo) (x y : A) → cond b (Ok x) (Err d) ≡ Ok y → (b ≡ true) × (x ≡ y)
ended true d x y e = (refl, cc)
ended false d x y e = absurd cc

reads_row : (restart : Bool) (last bytes : List ℕ) (s u v : ℕ) (after : List ℕ) → Takes bytes (lengths s u v) after → v < 2 ^ 63 → u + v ≤ length after → s ≤ length last
    → s ≡ left_out restart last (take s last ++ take u after) → ReadsRow restart last bytes (row (take s last ++ take u after) (take v (drop u after))) (drop (u + v) after)
reads_row restart last bytes s u v after taken small there shares longest =
    let key = take s last ++ take u after in
    let value = take v (drop u after) in
    let rest = drop (u + v) after in
    let len_front : length (take s last) ≡ s = length-take-le s last shares in
    let len_u : length (take u after) ≡ u = length-take-le u after (omega arith) in
    let len_v : length value ≡ v = length-take-le v (drop u after) (omega (arith, length-drop u after)) in
    let unshared : length key - s ≡ u = omega (arith, length-append (take s last) (take u after)) in
    let back : drop s key ≡ take u after = drop_at (take s last) (take u after) s len_front in
    let value_rest : drop u after ≡ value ++ rest = sym (take-append-drop v (drop u after)) ∙ ap (λ x. value ++ x) (drop-drop v u after) in
    let parts : after ≡ (take u after ++ value) ++ rest = sym (take-append-drop u after) ∙ ap (λ x. take u after ++ x) value_rest ∙ sym (append_assoc (take u after) value rest) in
    let text : entry_bytes (left_out restart last key) (row key value) ≡ (lengths s u v ++ take u after) ++ value =
    (λ i. (((varint (sym longest i) ++ varint (length key - sym longest i)) ++ varint (len_v i)) ++ drop (sym longest i) key) ++ value)
    ∙ (λ i. (((varint s ++ varint (unshared i)) ++ varint v) ++ back i) ++ value) in
    let whole : bytes ≡ ((lengths s u v ++ take u after) ++ value) ++ rest =
    taken.parts ∙ ap (λ x. lengths s u v ++ x) parts ∙ sym (append_assoc (lengths s u v) (take u after ++ value) rest) ∙ ap (λ x. x ++ rest) (sym (append_assoc (lengths s u v) (take u after) value)) in
    record {
      taken = record { parts = whole ∙ ap (λ x. x ++ rest) (sym text); bytes_left = AreBytes-drop (u + v) after taken.bytes_left };
      short = omega arith;
    }

pub row_takes : (at : ℕ) (restart : Bool) (last bytes : List ℕ) (x : Row × List ℕ) → AreBytes bytes → row_at at restart last bytes ≡ Ok x → ReadsRow restart last bytes x.0 x.1
unfolding row_at
row_takes at restart last bytes x fits e =
    let a = bind_ok (lengths_at at bytes) (λ n. cond (ltb (length n.1) (n.0.1 + n.0.2) || ltb (length last) n.0.0) (Err (Damaged at))
    (cond (eqb n.0.0 (left_out restart last (take n.0.0 last ++ take n.0.1 n.1))) (Ok (row (take n.0.0 last ++ take n.0.1 n.1) (take n.0.2 (drop n.0.1 n.1)), drop (n.0.1 + n.0.2) n.1)) (Err (Damaged at)))) e in
    let s = a.0.0.0 in
    let u = a.0.0.1 in
    let v = a.0.0.2 in
    let after = a.0.1 in
    let read = lengths_take at bytes a.0 fits a.1 in
    let g = guard_ok (ltb (length after) (u + v) || ltb (length last) s) (Damaged at) _ a.2 in
    let tests = or_parts (ltb (length after) (u + v)) (ltb (length last) s) g.0 in
    let key = take s last ++ take u after in
    let found : Row × List ℕ = (row key (take v (drop u after)), drop (u + v) after) in
    let h = ended (eqb s (left_out restart last key)) (Damaged at) found x g.1 in
    subst (λ (y : Row × List ℕ). ReadsRow restart last bytes y.0 y.1) h.1
    (reads_row restart last bytes s u v after read.taken read.small (ltb-false (length after) (u + v) tests.0) (ltb-false (length last) s tests.1) (eqb-true s (left_out restart last key) h.0))

pub row_again : (at : ℕ) (restart : Bool) (last : List ℕ) (r : Row) (rest : List ℕ) → length r.key < 2 ^ 63 → length r.value < 2 ^ 63 → row_at at restart last (entry_bytes (left_out restart last r.key) r ++ rest) ≡ Ok (r, rest)
row_again at restart last r rest small_key small_value =
    let n = left_out restart last r.key in
    let u = length r.key - n in
    let v = length r.value in
    let l = leaves restart last r.key in
    let in_key = l.of_key in
    let text = drop n r.key in
    let after = text ++ (r.value ++ rest) in
    let len_text : length text ≡ u = length-drop n r.key in
    let regrouped : entry_bytes n r ++ rest ≡ varint n ++ (varint u ++ (varint v ++ after)) = simp append_assoc in
    let read : lengths_at at (entry_bytes n r ++ rest) ≡ Ok ((n, u, v), after) = ap (lengths_at at) regrouped ∙ lengths_again at n u v after (omega arith) (omega arith) small_value in
    let taken : take u after ≡ text = take_at text (r.value ++ rest) u len_text in
    let dropped : drop u after ≡ r.value ++ rest = drop_at text (r.value ++ rest) u len_text in
    let key : take n last ++ take u after ≡ r.key = (λ i. l.same i ++ taken i) ∙ take-append-drop n r.key in
    let value : take v (drop u after) ≡ r.value = ap (take v) dropped ∙ take-append_seam r.value rest in
    let left : drop (u + v) after ≡ rest = ap (λ k. drop k after) (omega arith) ∙ sym (drop-drop v u after) ∙ ap (drop v) dropped ∙ drop-append_seam r.value rest in
    let there : u + v ≤ length after = omega (arith, length-append text (r.value ++ rest), length-append r.value rest) in
    let longest : eqb n (left_out restart last (take n last ++ take u after)) ≡ true = eq-eqb n _ (ap (left_out restart last) (sym key)) in
    row_at-made at restart last (entry_bytes n r ++ rest) n u v after read there l.of_last
    ∙ (λ i. made at (longest i) (row (key i) (value i)) (left i))

-- an entry has bytes
varint-some : (n : ℕ) → 1 ≤ length (varint n)
varint-some n = elim (cases_lt n 128) [
  | inl low ↦ omega (arith, ap length (varint-last n low))
  | inr high ↦ omega (arith, ap length (varint-more n high))
]

pub entry-some : (n : ℕ) (r : Row) → 1 ≤ length (entry_bytes n r)
entry-some n r =
    let u = varint (length r.key - n) in
    let v = varint (length r.value) in
    omega (arith, varint-some n, length-append (((varint n ++ u) ++ v) ++ drop n r.key) r.value, length-append ((varint n ++ u) ++ v) (drop n r.key), length-append (varint n ++ u) v, length-append (varint n) u)

-- it is at least as long as the value
pub entry-value : (n : ℕ) (r : Row) → length r.value ≤ length (entry_bytes n r)
entry-value n r =
    let front = ((varint n ++ varint (length r.key - n)) ++ varint (length r.value)) ++ drop n r.key in
    omega (arith, length-append front r.value)
