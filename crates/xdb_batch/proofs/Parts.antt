-- A part that is read is the part that was spelled, and a part that is spelled is read again.
use Rattle.std.proofs.Common.{◌≡◌, ℕ, suc, ◌-◌, ◌^◌, ◌<◌, ◌≤◌, Bool, true, false, ◌||◌, cond, eqb, ltb, List, [], ◌∷◌, ◌++◌, length, take, drop, append_assoc, subst, Result, Ok, Err, refl, sym, ap, ◌∙◌, arith, inl, inr}
use Rattle.std.specs.Int.{w32, w64, from_le_bytes}
use Rattle.std.proofs.lemmas.Bool.{le-ltb, ltb-false, eqb-true, or_parts, or_from}
use Rattle.std.proofs.lemmas.List.{length-append, length-take, length-take-le, take_at, drop_at, take-append-drop, get_or-take, get_or_past}
use Rattle.std.proofs.lemmas.Nat.{le_bytes_4, le_bytes_8}
use Rattle.std.proofs.lemmas.Bool.{cases_lt}
use Rattle.byteorder.specs.Endian.{little_bytes, little_number}
use Rattle.byteorder.specs.Numbers.{little_from-take}
use Rattle.xdb_key.proofs.ReadingLaws.{bind_ok, chosen, guard_ok, ok_parts, AreBytes-tail, AreBytes-drop}
use Rattle.xdb_key.proofs.VarintLaws.{varint_at-again, varint_at-takes}
use Rattle.xdb_key.specs.Bounds.{bounds}
use Rattle.xdb_key.specs.Kinds.{kind_code}
use Rattle.xdb_key.specs.Order.{is_below}
use Rattle.xdb_key.specs.Reading.{◌>>=◌, AreBytes}
use Rattle.xdb_key.specs.Varint.{varint, varint_at}
use Rattle.xdb_key.specs.declared.TheConstants.{MAX_KEY, MAX_BOUND, MAX_VALUE}
use Rattle.xdb_key.specs.declared.error.VarintNo.{VarintNo}
use Rattle.xdb_key.specs.declared.error.VarintNo.TheVariants as numbers
use Rattle.xdb_key.specs.declared.op.Kind.{Kind}
use Rattle.xdb_key.specs.declared.op.Kind.TheVariants as kinds
use Rattle.xdb_key.specs.declared.op.Op.{Op}
use Rattle.xdb_key.specs.declared.op.Op.TheVariants.{Set, Del, DelSpan}
use Rattle.xdb_batch.specs.Reading.{len_or, len_at, string_at, kind_at, body_at, op_at}
use Rattle.xdb_batch.specs.Spelling.{string, op_bytes, IsOp}
use Rattle.xdb_batch.specs.declared.error.BatchBad.{BatchBad}
use Rattle.xdb_batch.specs.declared.error.BatchBad.TheVariants.{Short, BadKey}

-- what a reader took from the front
pub record Takes (bytes text rest : List ℕ) : Type 0 where
  pub parts : bytes ≡ text ++ rest
  pub bytes_left : AreBytes rest

pub Takes-then : (a x b y c : List ℕ) → Takes a x b → Takes b y c → Takes a (x ++ y) c
Takes-then a x b y c p q = record {
  parts = p.parts ∙ ap (λ t. x ++ t) q.parts ∙ sym (append_assoc x y c);
  bytes_left = q.bytes_left;
}

Takes-behind : (byte : ℕ) (a x b : List ℕ) → Takes a x b → Takes (byte ∷ a) (byte ∷ x) b
Takes-behind byte a x b p = record { parts = ap (λ t. byte ∷ t) p.parts; bytes_left = p.bytes_left }

AreBytes-behind : (front rest : List ℕ) → AreBytes (front ++ rest) → AreBytes rest
AreBytes-behind [] rest fits = fits
AreBytes-behind (b ∷ front) rest fits = AreBytes-behind front rest (AreBytes-tail b (front ++ rest) fits)

abbrev done : {A : Type 0} → A → Result A BatchBad
done x = Ok x

pub ok_is : {A : Type 0} (x y : A) → done x ≡ done y → x ≡ y
ok_is x y e = cc

-- ---- lengths and strings

len_or-ok : {A : Type 0} {x : A} (place end : ℕ) (r : Result A VarintNo) → len_or place end r ≡ Ok x → r ≡ Ok x
len_or-ok place end (Ok y) e = ap Ok (ok_is y _ e)
len_or-ok place end (Err numbers.Short) e = absurd cc
len_or-ok place end (Err numbers.Overlong) e = absurd cc
len_or-ok place end (Err numbers.TooLarge) e = absurd cc

len_takes : (end : ℕ) (bytes : List ℕ) (n : ℕ) (rest : List ℕ) → AreBytes bytes → len_at end bytes ≡ Ok (n, rest) → Takes bytes (varint n) rest × (n < 2 ^ 63)
unfolding len_at
len_takes end bytes n rest fits e =
    let read = varint_at-takes bytes rest n fits (len_or-ok (end - length bytes) end (varint_at bytes) e) in
    (record { parts = read.1; bytes_left = AreBytes-behind (varint n) rest (subst AreBytes read.1 fits) }, read.0)

len_again : (end n : ℕ) (rest : List ℕ) → n < 2 ^ 63 → len_at end (varint n ++ rest) ≡ Ok (n, rest)
unfolding len_at
len_again end n rest small = ap (len_or (end - length (varint n ++ rest)) end) (varint_at-again n rest small)

-- a string was read from its spelling, and keeps its limits
pub record Reads (least most : ℕ) (bytes text rest : List ℕ) : Type 0 where
  pub taken : Takes bytes (string text) rest
  pub least_kept : least ≤ length text
  pub most_kept : length text ≤ most

pub string_takes : (least most at end : ℕ) (bytes text rest : List ℕ) → AreBytes bytes → string_at least most at end bytes ≡ Ok (text, rest) → Reads least most bytes text rest
unfolding string_at
string_takes least most at end bytes text rest fits e =
    let b = bind_ok (len_at end bytes) (λ len. cond (ltb len.0 least || ltb most len.0) (Err (BadKey at)) (cond (ltb (length len.1) len.0) (Err (Short end)) (Ok (take len.0 len.1, drop len.0 len.1)))) e in
    let n = b.0.0 in
    let after = b.0.1 in
    let taken = len_takes end bytes n after fits b.1 in
    let limits = guard_ok (ltb n least || ltb most n) (BadKey at) _ b.2 in
    let tests = or_parts (ltb n least) (ltb most n) limits.0 in
    let above : least ≤ n = ltb-false n least tests.0 in
    let below : n ≤ most = ltb-false most n tests.1 in
    let there = guard_ok (ltb (length after) n) (Short end) _ limits.1 in
    let long : n ≤ length after = ltb-false (length after) n there.0 in
    let parts = ok_parts there.1 in
    let len : length (take n after) ≡ n = length-take-le n after long in
    let second : Takes after (take n after) (drop n after) = record { parts = sym (take-append-drop n after); bytes_left = AreBytes-drop n after taken.0.bytes_left } in
    let both = Takes-then bytes (varint n) after (take n after) (drop n after) taken.0 second in
    let whole : Takes bytes (string (take n after)) (drop n after) = subst (λ k. Takes bytes (varint k ++ take n after) (drop n after)) (sym len) both in
    let made : Reads least most bytes (take n after) (drop n after) = record { taken = whole; least_kept = omega arith; most_kept = omega arith } in
    subst (λ t. Reads least most bytes t rest) parts.0 (subst (λ r. Reads least most bytes (take n after) r) parts.1 made)

pub string_again : (least most at end : ℕ) (text rest : List ℕ) → least ≤ length text → length text ≤ most → length text < 2 ^ 63 → string_at least most at end (string text ++ rest) ≡ Ok (text, rest)
unfolding string_at
string_again least most at end text rest above below small =
    let n = length text in
    let tested : (ltb n least || ltb most n) ≡ false = or_from (ltb n least) (ltb most n) (le-ltb n least above) (le-ltb most n below) in
    let long : ltb (length (text ++ rest)) n ≡ false = le-ltb _ _ (omega (arith, length-append text rest)) in
    ap (string_at least most at end) (append_assoc (varint n) text rest) ∙ rw (len_again end n (text ++ rest) small, tested, long, take_at text rest n refl, drop_at text rest n refl) refl

-- ---- operations

kind_takes : (at byte : ℕ) (kind : Kind) → kind_at at byte ≡ Ok kind → byte ≡ kind_code kind
kind_takes at byte kind e = elim (chosen (eqb byte 0) _ _ e) [
  | inl p ↦ eqb-true byte 0 p.0 ∙ ap kind_code (ok_is kinds.Del kind p.1)
  | inr p ↦ elim (chosen (eqb byte 1) _ _ p.1) [
    | inl q ↦ eqb-true byte 1 q.0 ∙ ap kind_code (ok_is kinds.Set kind q.1)
    | inr q ↦ elim (chosen (eqb byte 15) _ _ q.1) [
      | inl r ↦ eqb-true byte 15 r.0 ∙ ap kind_code (ok_is kinds.SpanDel kind r.1)
      | inr r ↦ absurd (cc (r.1))
    ]
  ]
]

-- an operation was read from its spelling, and keeps its limits
pub record ReadsOp (bytes : List ℕ) (op : Op) (rest : List ℕ) : Type 0 where
  pub taken : Takes bytes (op_bytes op) rest
  pub within : IsOp op

is_read : (bytes : List ℕ) (op : Op) (rest : List ℕ) (x : Op × List ℕ) → done (op, rest) ≡ done x → ReadsOp bytes op rest → ReadsOp bytes x.0 x.1
is_read bytes op rest x e r = subst (λ (y : Op × List ℕ). ReadsOp bytes y.0 y.1) (ok_is (op, rest) x e) r

-- a test passed, so what stands behind it is the answer
pub test_ok : {A : Type 0} (b : Bool) (d : BatchBad) (x y : A) → cond b (Ok x) (Err d) ≡ Ok y → (b ≡ true) × (done x ≡ done y)
test_ok true d x y e = (refl, e)
test_ok false d x y e = absurd cc

body_takes : (at end : ℕ) (kind : Kind) (bytes : List ℕ) (x : Op × List ℕ) → AreBytes bytes → body_at at end kind bytes ≡ Ok x → ReadsOp (kind_code kind ∷ bytes) x.0 x.1
unfolding body_at
body_takes at end kinds.Del bytes x fits e =
    let k = bind_ok (string_at 1 MAX_KEY at end bytes) (λ key. Ok (Del key.0, key.1)) e in
    let key = string_takes 1 MAX_KEY at end bytes k.0.0 k.0.1 fits k.1 in
    is_read _ (Del k.0.0) k.0.1 x k.2 (record { taken = Takes-behind 0 _ _ _ key.taken; within = (key.least_kept, key.most_kept) })
body_takes at end kinds.Set bytes x fits e =
    let k = bind_ok (string_at 1 MAX_KEY at end bytes) (λ key. string_at 0 MAX_VALUE at end key.1 >>= λ value. Ok (Set key.0 value.0, value.1)) e in
    let v = bind_ok (string_at 0 MAX_VALUE at end k.0.1) (λ value. Ok (Set k.0.0 value.0, value.1)) k.2 in
    let key = string_takes 1 MAX_KEY at end bytes k.0.0 k.0.1 fits k.1 in
    let value = string_takes 0 MAX_VALUE at end k.0.1 v.0.0 v.0.1 key.taken.bytes_left v.1 in
    is_read _ (Set k.0.0 v.0.0) v.0.1 x v.2 (record {
      taken = Takes-behind 1 _ _ _ (Takes-then bytes (string k.0.0) k.0.1 (string v.0.0) v.0.1 key.taken value.taken);
      within = ((key.least_kept, key.most_kept), value.most_kept);
    })
body_takes at end kinds.SpanDel bytes x fits e =
    let l = bind_ok (string_at 1 MAX_BOUND at end bytes) (λ lo. string_at 1 MAX_BOUND at end lo.1 >>= λ hi. cond (is_below lo.0 hi.0) (Ok (DelSpan (bounds lo.0 hi.0), hi.1)) (Err (BadKey at))) e in
    let h = bind_ok (string_at 1 MAX_BOUND at end l.0.1) (λ hi. cond (is_below l.0.0 hi.0) (Ok (DelSpan (bounds l.0.0 hi.0), hi.1)) (Err (BadKey at))) l.2 in
    let lo = string_takes 1 MAX_BOUND at end bytes l.0.0 l.0.1 fits l.1 in
    let hi = string_takes 1 MAX_BOUND at end l.0.1 h.0.0 h.0.1 lo.taken.bytes_left h.1 in
    let ordered = test_ok (is_below l.0.0 h.0.0) (BadKey at) (DelSpan (bounds l.0.0 h.0.0), h.0.1) x h.2 in
    is_read _ (DelSpan (bounds l.0.0 h.0.0)) h.0.1 x ordered.1 (record {
      taken = Takes-behind 15 _ _ _ (Takes-then bytes (string l.0.0) l.0.1 (string h.0.0) h.0.1 lo.taken hi.taken);
      within = ((lo.least_kept, lo.most_kept), (hi.least_kept, hi.most_kept), ordered.0);
    })

pub op_takes : (end byte : ℕ) (bytes : List ℕ) (x : Op × List ℕ) → AreBytes bytes → op_at end byte bytes ≡ Ok x → ReadsOp (byte ∷ bytes) x.0 x.1
unfolding op_at
op_takes end byte bytes x fits e =
    let at = end - suc (length bytes) in
    let k = bind_ok (kind_at at byte) (λ kind. body_at at end kind bytes) e in
    subst (λ b. ReadsOp (b ∷ bytes) x.0 x.1) (sym (kind_takes at byte k.0 k.1)) (body_takes at end k.0 bytes x fits k.2)

pub set_again : (end : ℕ) (key value rest : List ℕ) → IsOp (Set key value) → op_at end 1 ((string key ++ string value) ++ rest) ≡ Ok (Set key value, rest)
unfolding op_at body_at
set_again end key value rest fits =
    let k = fits.0 in
    let v = fits.1 in
    let bytes = (string key ++ string value) ++ rest in
    let at = end - suc (length bytes) in
    ap (body_at at end kinds.Set) (append_assoc (string key) (string value) rest)
    ∙ rw (string_again 1 MAX_KEY at end key (string value ++ rest) k.0 k.1 (omega arith), string_again 0 MAX_VALUE at end value rest (omega arith) v (omega arith)) refl

pub del_again : (end : ℕ) (key rest : List ℕ) → IsOp (Del key) → op_at end 0 (string key ++ rest) ≡ Ok (Del key, rest)
unfolding op_at body_at
del_again end key rest fits =
    let k = fits.1 in
    rw (string_again 1 MAX_KEY (end - suc (length (string key ++ rest))) end key rest fits.0 fits.1 (omega arith)) refl

pub span_again : (end : ℕ) (lo hi rest : List ℕ) → IsOp (DelSpan (bounds lo hi)) → op_at end 15 ((string lo ++ string hi) ++ rest) ≡ Ok (DelSpan (bounds lo hi), rest)
unfolding op_at body_at
span_again end lo hi rest fits =
    let l = fits.0 in
    let h = fits.1 in
    let ordered : is_below lo hi ≡ true = fits.2 in
    let bytes = (string lo ++ string hi) ++ rest in
    let at = end - suc (length bytes) in
    ap (body_at at end kinds.SpanDel) (append_assoc (string lo) (string hi) rest)
    ∙ rw (string_again 1 MAX_BOUND at end lo (string hi ++ rest) l.0 l.1 (omega arith), string_again 1 MAX_BOUND at end hi rest h.0 h.1 (omega arith), ordered) refl

-- ---- numbers of fixed width

same_number_4 : (bytes : List ℕ) → little_number 4 bytes ≡ from_le_bytes w32 bytes
same_number_4 bytes = omega arith

same_number_8 : (bytes : List ℕ) → little_number 8 bytes ≡ from_le_bytes w64 bytes
same_number_8 bytes = omega arith

AreBytes-take : (n : ℕ) (bytes : List ℕ) → AreBytes bytes → AreBytes (take n bytes)
AreBytes-take n bytes fits i = elim (cases_lt i n) [
  | inl low ↦ rw (get_or-take n bytes i 0 low) (fits i)
  | inr high ↦ rw (get_or_past (take n bytes) i 0 (omega (arith, length-take n bytes))) (omega arith)
]

pub little_takes_4 : (bytes : List ℕ) → 4 ≤ length bytes → AreBytes bytes → little_bytes 4 (little_number 4 bytes) ≡ take 4 bytes
little_takes_4 bytes long fits =
    le_bytes_4 (take 4 bytes) (little_number 4 bytes) (length-take-le 4 bytes long) (AreBytes-take 4 bytes fits)
    (sym (little_from-take 0 4 4 bytes (omega arith)) ∙ same_number_4 (take 4 bytes))

pub little_takes_8 : (bytes : List ℕ) → 8 ≤ length bytes → AreBytes bytes → little_bytes 8 (little_number 8 bytes) ≡ take 8 bytes
little_takes_8 bytes long fits =
    le_bytes_8 (take 8 bytes) (little_number 8 bytes) (length-take-le 8 bytes long) (AreBytes-take 8 bytes fits)
    (sym (little_from-take 0 8 8 bytes (omega arith)) ∙ same_number_8 (take 8 bytes))
