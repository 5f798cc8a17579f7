-- A field that is read is the field that was written, and what was written is read again.
use Rattle.std.proofs.Common.{◌≡◌, ℕ, ◌-◌, ◌^◌, ◌<◌, ◌≤◌, Bool, true, false, cond, leb, ltb, List, ◌++◌, length, take, drop, Result, Ok, Err, refl, sym, ap, subst, ◌∙◌, append_assoc, arith}
use Rattle.std.proofs.lemmas.Bool.{and_parts, and_from, leb-true, ltb-false, le-leb, le-ltb}
use Rattle.std.proofs.lemmas.List.{take_at, drop_at, take-append-drop, length-append, length-take}
use Rattle.xdb_key.specs.declared.error.VarintNo.{VarintNo}
use Rattle.xdb_key.specs.declared.error.VarintNo.TheVariants as varint_no
use Rattle.xdb_key.specs.Bounds.{Bounds, bounds}
use Rattle.xdb_key.specs.Limits.{IsBound}
use Rattle.xdb_key.specs.Order.{is_below}
use Rattle.xdb_key.specs.Reading.{◌>>=◌, AreBytes}
use Rattle.xdb_key.specs.Varint.{varint, varint_at}
use Rattle.xdb_key.proofs.ReadingLaws.{bind_ok, AreBytes-drop}
use Rattle.xdb_key.proofs.VarintLaws.{varint_at-again, varint_at-takes}
use Rattle.xdb_edit.specs.declared.error.EditBad.{EditBad}
use Rattle.xdb_edit.specs.declared.error.EditBad.TheVariants.{Short, BadField}
use Rattle.xdb_edit.specs.Spelling.{string, range_bytes}
use Rattle.xdb_edit.specs.Reading.{as_field, number_at, is_bound_len, bound_at, range_at}

-- what a reader took from the front
pub record Takes (bytes text rest : List ℕ) : Type 0 where
  pub parts : bytes ≡ text ++ rest
  pub fits : AreBytes rest

AreBytes-behind : (bytes text rest : List ℕ) → AreBytes bytes → bytes ≡ text ++ rest → AreBytes rest
AreBytes-behind bytes text rest fits is =
    let dropped : drop (length text) bytes ≡ rest = ap (drop (length text)) is ∙ drop_at text rest (length text) refl in
    subst AreBytes dropped (AreBytes-drop (length text) bytes fits)

pub takes : (bytes text rest : List ℕ) → AreBytes bytes → bytes ≡ text ++ rest → Takes bytes text rest
takes bytes text rest fits is = record { parts = is; fits = AreBytes-behind bytes text rest fits is }

pub Takes-then : (a x b y c : List ℕ) → Takes a x b → Takes b y c → Takes a (x ++ y) c
Takes-then a x b y c p q = record { parts = p.parts ∙ ap (λ (t : List ℕ). x ++ t) q.parts ∙ sym (append_assoc x y c); fits = q.fits }

-- a test that held
pub test_ok : {A : Type 0} (b : Bool) (d : EditBad) (x y : A) → cond b (Ok x) (Err d) ≡ Ok y → (b ≡ true) × (x ≡ y)
test_ok true d x y e = (refl, cc)
test_ok false d x y e = absurd cc

-- a test for a defect that failed
pub defect_ok : {A : Type 0} {y : A} (b : Bool) (d : EditBad) (r : Result A EditBad) → cond b (Err d) r ≡ Ok y → (b ≡ false) × (r ≡ Ok y)
defect_ok true d r e = absurd cc
defect_ok false d r e = (refl, e)

abbrev pub read_as : {A : Type 0} → A → Result A EditBad
read_as x = Ok x

pub ok_is : {A : Type 0} (x y : A) → read_as x ≡ read_as y → x ≡ y
ok_is x y e = cc

as_field-ok : {A : Type 0} {x : A} (len at : ℕ) (r : Result A VarintNo) → as_field len at r ≡ Ok x → r ≡ Ok x
as_field-ok len at (Ok y) e = ap Ok (ok_is y _ e)
as_field-ok len at (Err varint_no.Short) e = absurd cc
as_field-ok len at (Err varint_no.Overlong) e = absurd cc
as_field-ok len at (Err varint_no.TooLarge) e = absurd cc

-- ---- numbers

pub number_takes : (t : ℕ → Bool) (len : ℕ) (bytes : List ℕ) (x : ℕ × List ℕ) → AreBytes bytes → number_at t len bytes ≡ Ok x → Takes bytes (varint x.0) x.1 × (t x.0 ≡ true)
unfolding number_at
number_takes t len bytes x fits e =
    let a = bind_ok (as_field len (len - length bytes) (varint_at bytes)) (λ n. cond (t n.0) (Ok n) (Err (BadField (len - length bytes)))) e in
    let g = test_ok (t a.0.0) (BadField (len - length bytes)) a.0 x a.2 in
    let read = varint_at-takes bytes a.0.1 a.0.0 fits (as_field-ok len (len - length bytes) (varint_at bytes) a.1) in
    subst (λ (y : ℕ × List ℕ). Takes bytes (varint y.0) y.1 × (t y.0 ≡ true)) g.1 (takes bytes (varint a.0.0) a.0.1 fits read.1, g.0)

pub number_again : (t : ℕ → Bool) (len n : ℕ) (rest : List ℕ) → t n ≡ true → n < 2 ^ 63 → number_at t len (varint n ++ rest) ≡ Ok (n, rest)
unfolding number_at
number_again t len n rest h small =
    let at : ℕ = len - length (varint n ++ rest) in
    let rule : (ℕ × List ℕ) → Result (ℕ × List ℕ) EditBad = λ x. cond (t x.0) (Ok x) (Err (BadField at)) in
    ap (λ r. as_field len at r >>= rule) (varint_at-again n rest small) ∙ ap (λ b. cond b (Ok (n, rest)) (Err (BadField at))) h

-- ---- bounds

is_bound_len-tells : (n : ℕ) → is_bound_len n ≡ true → (1 ≤ n) × (n ≤ 1025)
is_bound_len-tells n h =
    let p = and_parts (leb 1 n) (leb n 1025) h in
    (leb-true 1 n p.0, leb-true n 1025 p.1)

pub bound_takes : (len : ℕ) (bytes : List ℕ) (x : List ℕ × List ℕ) → AreBytes bytes → bound_at len bytes ≡ Ok x → Takes bytes (string x.0) x.1 × IsBound x.0
unfolding bound_at
bound_takes len bytes x fits e =
    let a = bind_ok (number_at is_bound_len len bytes) (λ n. cond (ltb (length n.1) n.0) (Err (Short len)) (Ok (take n.0 n.1, drop n.0 n.1))) e in
    let n = a.0.0 in
    let rest = a.0.1 in
    let t = number_takes is_bound_len len bytes a.0 fits a.1 in
    let g = defect_ok (ltb (length rest) n) (Short len) (Ok (take n rest, drop n rest)) a.2 in
    let long : n ≤ length rest = ltb-false _ _ g.0 in
    let is : length (take n rest) ≡ n = omega (arith, length-take n rest) in
    let range = is_bound_len-tells n t.1 in
    let text : Takes rest (take n rest) (drop n rest) = takes rest (take n rest) (drop n rest) t.0.fits (sym (take-append-drop n rest)) in
    let both = Takes-then bytes (varint n) rest (take n rest) (drop n rest) t.0 text in
    let whole : Takes bytes (string (take n rest)) (drop n rest) = subst (λ (k : ℕ). Takes bytes (varint k ++ take n rest) (drop n rest)) (sym is) both in
    let bound : IsBound (take n rest) = (omega (arith, is, range), omega (arith, is, range)) in
    subst (λ (y : List ℕ × List ℕ). Takes bytes (string y.0) y.1 × IsBound y.0) (ok_is (take n rest, drop n rest) x g.1) (whole, bound)

pub bound_again : (len : ℕ) (text rest : List ℕ) → IsBound text → bound_at len (string text ++ rest) ≡ Ok (text, rest)
unfolding bound_at
bound_again len text rest h =
    let few : 1 ≤ length text = h.0 in
    let many : length text ≤ 1025 = h.1 in
    let n : is_bound_len (length text) ≡ true = and_from _ _ (le-leb 1 (length text) few) (le-leb (length text) 1025 many) in
    let read = number_again is_bound_len len (length text) (text ++ rest) n (omega arith) in
    let long : ltb (length (text ++ rest)) (length text) ≡ false = le-ltb _ _ (omega (arith, length-append text rest)) in
    let rule : (ℕ × List ℕ) → Result (List ℕ × List ℕ) EditBad = λ x. cond (ltb (length x.1) x.0) (Err (Short len)) (Ok (take x.0 x.1, drop x.0 x.1)) in
    ap (λ bs. number_at is_bound_len len bs >>= rule) (append_assoc (varint (length text)) text rest) ∙ ap (λ r. r >>= rule) read
    ∙ ap (λ b. cond b (Err (Short len)) (Ok (take (length text) (text ++ rest), drop (length text) (text ++ rest)))) long
    ∙ (λ i. Ok (take_at text rest (length text) refl i, drop_at text rest (length text) refl i))

-- ---- ranges

pub record IsRange (r : Bounds) : Type 0 where
  pub lo : IsBound r.lo
  pub hi : IsBound r.hi
  pub below : is_below r.lo r.hi ≡ true

pub range_takes : (len : ℕ) (bytes : List ℕ) (x : Bounds × List ℕ) → AreBytes bytes → range_at len bytes ≡ Ok x → Takes bytes (range_bytes x.0) x.1 × IsRange x.0
unfolding range_at
range_takes len bytes x fits e =
    let a = bind_ok (bound_at len bytes) (λ lo. bound_at len lo.1 >>= λ hi. cond (is_below lo.0 hi.0) (Ok (bounds lo.0 hi.0, hi.1)) (Err (BadField (len - length lo.1)))) e in
    let b = bind_ok (bound_at len a.0.1) (λ hi. cond (is_below a.0.0 hi.0) (Ok (bounds a.0.0 hi.0, hi.1)) (Err (BadField (len - length a.0.1)))) a.2 in
    let lo = bound_takes len bytes a.0 fits a.1 in
    let hi = bound_takes len a.0.1 b.0 lo.0.fits b.1 in
    let g = test_ok (is_below a.0.0 b.0.0) (BadField (len - length a.0.1)) (bounds a.0.0 b.0.0, b.0.1) x b.2 in
    let both = Takes-then bytes (string a.0.0) a.0.1 (string b.0.0) b.0.1 lo.0 hi.0 in
    subst (λ (y : Bounds × List ℕ). Takes bytes (range_bytes y.0) y.1 × IsRange y.0) g.1 (both, record { lo = lo.1; hi = hi.1; below = g.0 })

pub range_again : (len : ℕ) (r : Bounds) (rest : List ℕ) → IsRange r → range_at len (range_bytes r ++ rest) ≡ Ok (r, rest)
unfolding range_at
range_again len r rest h =
    let second : (List ℕ × List ℕ) → Result (Bounds × List ℕ) EditBad = λ lo. bound_at len lo.1 >>= λ hi. cond (is_below lo.0 hi.0) (Ok (bounds lo.0 hi.0, hi.1)) (Err (BadField (len - length lo.1))) in
    let at : ℕ = len - length (string r.hi ++ rest) in
    let rule : (List ℕ × List ℕ) → Result (Bounds × List ℕ) EditBad = λ hi. cond (is_below r.lo hi.0) (Ok (bounds r.lo hi.0, hi.1)) (Err (BadField at)) in
    ap (λ bs. bound_at len bs >>= second) (append_assoc (string r.lo) (string r.hi) rest) ∙ ap (λ x. x >>= second) (bound_again len r.lo (string r.hi ++ rest) h.lo)
    ∙ ap (λ x. x >>= rule) (bound_again len r.hi rest h.hi) ∙ ap (λ b. cond b (Ok (r, rest)) (Err (BadField at))) h.below
