-- A record that is read is the record that was written, and what was written is read again.
use Rattle.std.proofs.Common.{◌≡◌, ℕ, ◌-◌, ◌^◌, ◌<◌, ◌≤◌, Bool, true, false, not, ◌&&◌, cond, eqb, leb, ltb, List, ◌++◌, length, Result, Ok, Err, refl, sym, ap, subst, ◌∙◌, append_assoc, arith, inl, inr}
use Rattle.std.proofs.lemmas.Bool.{and_parts, and_from, or_cases, leb-true, ltb-true, lt-ltb, le-leb, eqb-true, eq-eqb, not-true}
use Rattle.std.proofs.lemmas.List.{length-append}
use Rattle.xdb_key.specs.declared.error.VarintNo.{VarintNo}
use Rattle.xdb_key.specs.declared.error.VarintNo.TheVariants as varint_no
use Rattle.xdb_key.specs.Bounds.{Bounds}
use Rattle.xdb_key.specs.Entries.{reach}
use Rattle.xdb_key.specs.Reading.{◌>>=◌, AreBytes}
use Rattle.xdb_key.specs.Varint.{varint, varint_at}
use Rattle.xdb_key.proofs.ReadingLaws.{bind_ok, chosen}
use Rattle.xdb_key.proofs.VarintLaws.{varint_at-again, varint_at-takes}
use Rattle.xdb_meta.specs.Table.{Table, IsTable, table, is_number, is_seq, is_synthetic, bounds_of}
use Rattle.xdb_edit.specs.declared.error.EditBad.{EditBad}
use Rattle.xdb_edit.specs.declared.error.EditBad.TheVariants.{BadTag}
use Rattle.xdb_edit.specs.declared.record.Record.{Record}
use Rattle.xdb_edit.specs.declared.record.Record.TheVariants.{Removed, NewBacking, Added}
use Rattle.xdb_edit.specs.Records.{is_level, fits}
use Rattle.xdb_edit.specs.Spelling.{range_bytes, table_bytes, physical_bytes, virtual_bytes, record_bytes}
use Rattle.xdb_edit.specs.Reading.{as_tag, number_at, range_at, is_seq_from, table_at, removed_at, new_backing_at, physical_at, is_other, virtual_at, fields_at, record_at}
use Rattle.xdb_edit.proofs.FieldLaws.{Takes, takes, Takes-then, ok_is, number_takes, number_again, IsRange, range_takes, range_again}

is_number-small : (n : ℕ) → is_number n ≡ true → n < 2 ^ 63
is_number-small n h =
    let below = ltb-true n (2 ^ 56) (and_parts (leb 1 n) (ltb n (2 ^ 56)) h).1 in
    omega arith

is_level-small : (n : ℕ) → is_level n ≡ true → n < 2 ^ 63
is_level-small n h =
    let below = ltb-true n 7 h in
    omega arith

-- ---- what the record of a table ends with

-- a table of this number in this file
pub record IsOf (num backing : ℕ) (t : Table) : Type 0 where
  pub table : IsTable t
  pub num_is : t.num ≡ num
  pub backing_is : t.backing ≡ backing

made : (num backing : ℕ) (r : Bounds) (seq_lo seq_hi synthetic size : ℕ) → is_number num ≡ true → is_number backing ≡ true → IsRange r → is_seq_from seq_lo seq_hi ≡ true → is_synthetic seq_lo seq_hi synthetic ≡ true → is_number size ≡ true
    → IsOf num backing (table num backing (reach r seq_lo seq_hi) synthetic size (not (eqb backing num)))
made num backing r seq_lo seq_hi synthetic size n b range seq syn sz =
    let parts = and_parts (ltb seq_hi (2 ^ 56)) (leb seq_lo seq_hi) seq in
    record {
      table = record {
        num = n;
        backing = b;
        lo = range.lo;
        hi = range.hi;
        range = range.below;
        seqs = leb-true _ _ parts.1;
        small = ltb-true _ _ parts.0;
        synthetic = syn;
        size = sz;
        virt = refl;
      };
      num_is = refl;
      backing_is = refl;
    }

pub table_takes : (num backing len : ℕ) (bytes : List ℕ) (x : Table × List ℕ) → is_number num ≡ true → is_number backing ≡ true → AreBytes bytes → table_at num backing len bytes ≡ Ok x → Takes bytes (table_bytes x.0) x.1 × IsOf num backing x.0
unfolding table_at
table_takes num backing len bytes x n b fits e =
    let r = bind_ok (range_at len bytes) (λ range. number_at is_seq len range.1 >>= λ seq_lo. number_at (is_seq_from seq_lo.0) len seq_lo.1 >>= λ seq_hi. number_at (is_synthetic seq_lo.0 seq_hi.0) len seq_hi.1 >>= λ synthetic. number_at is_number len synthetic.1 >>= λ size. Ok (table num backing (reach range.0 seq_lo.0 seq_hi.0) synthetic.0 size.0 (not (eqb backing num)), size.1)) e in
    let lo = bind_ok (number_at is_seq len r.0.1) (λ seq_lo. number_at (is_seq_from seq_lo.0) len seq_lo.1 >>= λ seq_hi. number_at (is_synthetic seq_lo.0 seq_hi.0) len seq_hi.1 >>= λ synthetic. number_at is_number len synthetic.1 >>= λ size. Ok (table num backing (reach r.0.0 seq_lo.0 seq_hi.0) synthetic.0 size.0 (not (eqb backing num)), size.1)) r.2 in
    let hi = bind_ok (number_at (is_seq_from lo.0.0) len lo.0.1) (λ seq_hi. number_at (is_synthetic lo.0.0 seq_hi.0) len seq_hi.1 >>= λ synthetic. number_at is_number len synthetic.1 >>= λ size. Ok (table num backing (reach r.0.0 lo.0.0 seq_hi.0) synthetic.0 size.0 (not (eqb backing num)), size.1)) lo.2 in
    let sy = bind_ok (number_at (is_synthetic lo.0.0 hi.0.0) len hi.0.1) (λ synthetic. number_at is_number len synthetic.1 >>= λ size. Ok (table num backing (reach r.0.0 lo.0.0 hi.0.0) synthetic.0 size.0 (not (eqb backing num)), size.1)) hi.2 in
    let sz = bind_ok (number_at is_number len sy.0.1) (λ size. Ok (table num backing (reach r.0.0 lo.0.0 hi.0.0) sy.0.0 size.0 (not (eqb backing num)), size.1)) sy.2 in
    let t0 = range_takes len bytes r.0 fits r.1 in
    let t1 = number_takes is_seq len r.0.1 lo.0 t0.0.fits lo.1 in
    let t2 = number_takes (is_seq_from lo.0.0) len lo.0.1 hi.0 t1.0.fits hi.1 in
    let t3 = number_takes (is_synthetic lo.0.0 hi.0.0) len hi.0.1 sy.0 t2.0.fits sy.1 in
    let t4 = number_takes is_number len sy.0.1 sz.0 t3.0.fits sz.1 in
    let u1 = Takes-then bytes (range_bytes r.0.0) r.0.1 (varint lo.0.0) lo.0.1 t0.0 t1.0 in
    let u2 = Takes-then bytes _ lo.0.1 (varint hi.0.0) hi.0.1 u1 t2.0 in
    let u3 = Takes-then bytes _ hi.0.1 (varint sy.0.0) sy.0.1 u2 t3.0 in
    let u4 = Takes-then bytes _ sy.0.1 (varint sz.0.0) sz.0.1 u3 t4.0 in
    let is = made num backing r.0.0 lo.0.0 hi.0.0 sy.0.0 sz.0.0 n b t0.1 t2.1 t3.1 t4.1 in
    subst (λ (y : Table × List ℕ). Takes bytes (table_bytes y.0) y.1 × IsOf num backing y.0) (ok_is (table num backing (reach r.0.0 lo.0.0 hi.0.0) sy.0.0 sz.0.0 (not (eqb backing num)), sz.0.1) x sz.2) (u4, is)

table_regrouped : (a b c d e rest : List ℕ) → (a ++ b ++ c ++ d ++ e) ++ rest ≡ a ++ (b ++ (c ++ (d ++ (e ++ rest))))
table_regrouped a b c d e rest = simp append_assoc

pub table_again : (len : ℕ) (t : Table) (rest : List ℕ) → IsTable t → table_at t.num t.backing len (table_bytes t ++ rest) ≡ Ok (t, rest)
unfolding table_at
table_again len t rest h =
    let seqs = h.seqs in
    let small = h.small in
    let range : IsRange (bounds_of t) = record { lo = h.lo; hi = h.hi; below = h.range } in
    let lo : is_seq t.seq_lo ≡ true = lt-ltb _ _ (omega arith) in
    let hi : is_seq_from t.seq_lo t.seq_hi ≡ true = and_from _ _ (lt-ltb _ _ small) (le-leb _ _ seqs) in
    let syn : t.synthetic < 2 ^ 63 = elim (or_cases (eqb t.synthetic 0) (eqb t.synthetic t.seq_lo && eqb t.synthetic t.seq_hi) h.synthetic) [
      | inl z ↦ let zero_is = eqb-true t.synthetic 0 z in omega arith
      | inr s ↦ let same = eqb-true t.synthetic t.seq_hi (and_parts (eqb t.synthetic t.seq_lo) (eqb t.synthetic t.seq_hi) s).1 in omega arith
    ] in
    let grouped = table_regrouped (range_bytes (bounds_of t)) (varint t.seq_lo) (varint t.seq_hi) (varint t.synthetic) (varint t.size) rest in
    ap (table_at t.num t.backing len) grouped
    ∙ rw (
      range_again len (bounds_of t) (varint t.seq_lo ++ (varint t.seq_hi ++ (varint t.synthetic ++ (varint t.size ++ rest)))) range,
      number_again is_seq len t.seq_lo (varint t.seq_hi ++ (varint t.synthetic ++ (varint t.size ++ rest))) lo (omega arith),
      number_again (is_seq_from t.seq_lo) len t.seq_hi (varint t.synthetic ++ (varint t.size ++ rest)) hi (omega arith),
      number_again (is_synthetic t.seq_lo t.seq_hi) len t.synthetic (varint t.size ++ rest) h.synthetic syn,
      number_again is_number len t.size rest h.size (is_number-small t.size h.size),
    ) (ap (λ v. Ok (table t.num t.backing (reach (bounds_of t) t.seq_lo t.seq_hi) t.synthetic t.size v, rest)) (sym h.virt))

-- ---- records

abbrev pub HasTable : Record → Type 0
HasTable (Removed level num) = Unit {0}
HasTable (NewBacking num) = Unit {0}
HasTable (Added level t) = IsTable t

-- what a record was read as
pub record Reads (all rest : List ℕ) (r : Record) : Type 0 where
  pub taken : Takes all (record_bytes r) rest
  pub in_range : fits r ≡ true
  pub has : HasTable r

removed_takes : (all : List ℕ) (len : ℕ) (bytes : List ℕ) (x : Record × List ℕ) → Takes all (varint 1) bytes → removed_at len bytes ≡ Ok x → Reads all x.1 x.0
unfolding removed_at
removed_takes all len bytes x tag e =
    let a = bind_ok (number_at is_level len bytes) (λ level. number_at is_number len level.1 >>= λ num. Ok (Removed level.0 num.0, num.1)) e in
    let b = bind_ok (number_at is_number len a.0.1) (λ num. Ok (Removed a.0.0 num.0, num.1)) a.2 in
    let t1 = number_takes is_level len bytes a.0 tag.fits a.1 in
    let t2 = number_takes is_number len a.0.1 b.0 t1.0.fits b.1 in
    let u1 = Takes-then all (varint 1) bytes (varint a.0.0) a.0.1 tag t1.0 in
    let u2 = Takes-then all _ a.0.1 (varint b.0.0) b.0.1 u1 t2.0 in
    subst (λ (y : Record × List ℕ). Reads all y.1 y.0) (ok_is (Removed a.0.0 b.0.0, b.0.1) x b.2) (record { taken = u2; in_range = and_from _ _ t1.1 t2.1; has = tt })

new_backing_takes : (all : List ℕ) (len : ℕ) (bytes : List ℕ) (x : Record × List ℕ) → Takes all (varint 2) bytes → new_backing_at len bytes ≡ Ok x → Reads all x.1 x.0
unfolding new_backing_at
new_backing_takes all len bytes x tag e =
    let a = bind_ok (number_at is_number len bytes) (λ num. Ok (NewBacking num.0, num.1)) e in
    let t1 = number_takes is_number len bytes a.0 tag.fits a.1 in
    let u1 = Takes-then all (varint 2) bytes (varint a.0.0) a.0.1 tag t1.0 in
    subst (λ (y : Record × List ℕ). Reads all y.1 y.0) (ok_is (NewBacking a.0.0, a.0.1) x a.2) (record { taken = u1; in_range = t1.1; has = tt })

reads_physical : (all rest : List ℕ) (level num : ℕ) (t : Table) → is_level level ≡ true → IsOf num num t → Takes all (varint 3 ++ varint level ++ varint num ++ table_bytes t) rest → Reads all rest (Added level t)
reads_physical all rest level num t lev of taken =
    let plain : t.virt ≡ false = of.table.virt ∙ ap not (eq-eqb t.backing t.num (of.backing_is ∙ sym of.num_is)) in
    let bytes : record_bytes (Added level t) ≡ varint 3 ++ varint level ++ varint num ++ table_bytes t =
    ap (λ v. cond v (virtual_bytes level t) (physical_bytes level t)) plain ∙ ap (λ n. varint 3 ++ varint level ++ varint n ++ table_bytes t) of.num_is in
    record { taken = subst (λ (b : List ℕ). Takes all b rest) (sym bytes) taken; in_range = lev; has = of.table }

physical_takes : (all : List ℕ) (len : ℕ) (bytes : List ℕ) (x : Record × List ℕ) → Takes all (varint 3) bytes → physical_at len bytes ≡ Ok x → Reads all x.1 x.0
unfolding physical_at
physical_takes all len bytes x tag e =
    let a = bind_ok (number_at is_level len bytes) (λ level. number_at is_number len level.1 >>= λ num. table_at num.0 num.0 len num.1 >>= λ t. Ok (Added level.0 t.0, t.1)) e in
    let b = bind_ok (number_at is_number len a.0.1) (λ num. table_at num.0 num.0 len num.1 >>= λ t. Ok (Added a.0.0 t.0, t.1)) a.2 in
    let c = bind_ok (table_at b.0.0 b.0.0 len b.0.1) (λ t. Ok (Added a.0.0 t.0, t.1)) b.2 in
    let t1 = number_takes is_level len bytes a.0 tag.fits a.1 in
    let t2 = number_takes is_number len a.0.1 b.0 t1.0.fits b.1 in
    let t3 = table_takes b.0.0 b.0.0 len b.0.1 c.0 t2.1 t2.1 t2.0.fits c.1 in
    let u1 = Takes-then all (varint 3) bytes (varint a.0.0) a.0.1 tag t1.0 in
    let u2 = Takes-then all _ a.0.1 (varint b.0.0) b.0.1 u1 t2.0 in
    let u3 = Takes-then all _ b.0.1 (table_bytes c.0.0) c.0.1 u2 t3.0 in
    subst (λ (y : Record × List ℕ). Reads all y.1 y.0) (ok_is (Added a.0.0 c.0.0, c.0.1) x c.2) (reads_physical all c.0.1 a.0.0 b.0.0 c.0.0 t1.1 t3.1 u3)

reads_virtual : (all rest : List ℕ) (level num backing : ℕ) (t : Table) → is_level level ≡ true → is_other num backing ≡ true → IsOf num backing t → Takes all (varint 4 ++ varint level ++ varint num ++ varint backing ++ table_bytes t) rest → Reads all rest (Added level t)
reads_virtual all rest level num backing t lev other of taken =
    let same : eqb t.backing t.num ≡ eqb backing num = λ i. eqb (of.backing_is i) (of.num_is i) in
    let part : t.virt ≡ true = of.table.virt ∙ ap not same ∙ (and_parts (is_number backing) (not (eqb backing num)) other).1 in
    let bytes : record_bytes (Added level t) ≡ varint 4 ++ varint level ++ varint num ++ varint backing ++ table_bytes t =
    ap (λ v. cond v (virtual_bytes level t) (physical_bytes level t)) part ∙ (λ i. varint 4 ++ varint level ++ varint (of.num_is i) ++ varint (of.backing_is i) ++ table_bytes t) in
    record { taken = subst (λ (b : List ℕ). Takes all b rest) (sym bytes) taken; in_range = lev; has = of.table }

virtual_takes : (all : List ℕ) (len : ℕ) (bytes : List ℕ) (x : Record × List ℕ) → Takes all (varint 4) bytes → virtual_at len bytes ≡ Ok x → Reads all x.1 x.0
unfolding virtual_at
virtual_takes all len bytes x tag e =
    let a = bind_ok (number_at is_level len bytes) (λ level. number_at is_number len level.1 >>= λ num. number_at (is_other num.0) len num.1 >>= λ backing. table_at num.0 backing.0 len backing.1 >>= λ t. Ok (Added level.0 t.0, t.1)) e in
    let b = bind_ok (number_at is_number len a.0.1) (λ num. number_at (is_other num.0) len num.1 >>= λ backing. table_at num.0 backing.0 len backing.1 >>= λ t. Ok (Added a.0.0 t.0, t.1)) a.2 in
    let k = bind_ok (number_at (is_other b.0.0) len b.0.1) (λ backing. table_at b.0.0 backing.0 len backing.1 >>= λ t. Ok (Added a.0.0 t.0, t.1)) b.2 in
    let c = bind_ok (table_at b.0.0 k.0.0 len k.0.1) (λ t. Ok (Added a.0.0 t.0, t.1)) k.2 in
    let t1 = number_takes is_level len bytes a.0 tag.fits a.1 in
    let t2 = number_takes is_number len a.0.1 b.0 t1.0.fits b.1 in
    let t3 = number_takes (is_other b.0.0) len b.0.1 k.0 t2.0.fits k.1 in
    let other = and_parts (is_number k.0.0) (not (eqb k.0.0 b.0.0)) t3.1 in
    let t4 = table_takes b.0.0 k.0.0 len k.0.1 c.0 t2.1 other.0 t3.0.fits c.1 in
    let u1 = Takes-then all (varint 4) bytes (varint a.0.0) a.0.1 tag t1.0 in
    let u2 = Takes-then all _ a.0.1 (varint b.0.0) b.0.1 u1 t2.0 in
    let u3 = Takes-then all _ b.0.1 (varint k.0.0) k.0.1 u2 t3.0 in
    let u4 = Takes-then all _ k.0.1 (table_bytes c.0.0) c.0.1 u3 t4.0 in
    subst (λ (y : Record × List ℕ). Reads all y.1 y.0) (ok_is (Added a.0.0 c.0.0, c.0.1) x c.2) (reads_virtual all c.0.1 a.0.0 b.0.0 k.0.0 c.0.0 t1.1 t3.1 t4.1 u4)

-- the tag is the one that was tested for
tagged : (all bytes : List ℕ) (tag n : ℕ) → eqb tag n ≡ true → Takes all (varint tag) bytes → Takes all (varint n) bytes
tagged all bytes tag n h t = subst (λ (k : ℕ). Takes all (varint k) bytes) (eqb-true tag n h) t

fields_take : (all : List ℕ) (tag at len : ℕ) (bytes : List ℕ) (x : Record × List ℕ) → Takes all (varint tag) bytes → fields_at tag at len bytes ≡ Ok x → Reads all x.1 x.0
unfolding fields_at
fields_take all tag at len bytes x t e = elim (chosen (eqb tag 1) _ _ e) [
  | inl p ↦ removed_takes all len bytes x (tagged all bytes tag 1 p.0 t) p.1
  | inr q ↦ elim (chosen (eqb tag 2) _ _ q.1) [
    | inl p ↦ new_backing_takes all len bytes x (tagged all bytes tag 2 p.0 t) p.1
    | inr r ↦ elim (chosen (eqb tag 3) _ _ r.1) [
      | inl p ↦ physical_takes all len bytes x (tagged all bytes tag 3 p.0 t) p.1
      | inr s ↦ elim (chosen (eqb tag 4) _ _ s.1) [
        | inl p ↦ virtual_takes all len bytes x (tagged all bytes tag 4 p.0 t) p.1
        | inr u ↦ absurd (no_record (BadTag tag at) x u.1)
      ]
    ]
  ]
]
  where
    no_record : (d : EditBad) (y : Record × List ℕ) → ◌≡◌ {A = Result (Record × List ℕ) EditBad} (Err d) (Ok y) → ⊥
    no_record d y f = cc

as_tag-ok : {A : Type 0} {x : A} (len at : ℕ) (r : Result A VarintNo) → as_tag len at r ≡ Ok x → r ≡ Ok x
as_tag-ok len at (Ok y) e = ap Ok (ok_is y _ e)
as_tag-ok len at (Err varint_no.Short) e = absurd cc
as_tag-ok len at (Err varint_no.Overlong) e = absurd cc
as_tag-ok len at (Err varint_no.TooLarge) e = absurd cc

pub record_takes : (len : ℕ) (bytes : List ℕ) (x : Record × List ℕ) → AreBytes bytes → record_at len bytes ≡ Ok x → Reads bytes x.1 x.0
unfolding record_at
record_takes len bytes x fits e =
    let at : ℕ = len - length bytes in
    let a = bind_ok (as_tag len at (varint_at bytes)) (λ tag. fields_at tag.0 at len tag.1) e in
    let read = varint_at-takes bytes a.0.1 a.0.0 fits (as_tag-ok len at (varint_at bytes) a.1) in
    fields_take bytes a.0.0 at len a.0.1 x (takes bytes (varint a.0.0) a.0.1 fits read.1) a.2

-- a record that begins with a tag is read as its fields
record_front : (len tag : ℕ) (bytes : List ℕ) → tag < 2 ^ 63 → record_at len (varint tag ++ bytes) ≡ fields_at tag (len - length (varint tag ++ bytes)) len bytes
unfolding record_at
record_front len tag bytes small =
    let at : ℕ = len - length (varint tag ++ bytes) in
    let rule : (ℕ × List ℕ) → Result (Record × List ℕ) EditBad = λ x. fields_at x.0 at len x.1 in
    ap (λ r. as_tag len at r >>= rule) (varint_at-again tag bytes small)

removed_again : (at len level num : ℕ) (rest : List ℕ) → is_level level ≡ true → is_number num ≡ true → fields_at 1 at len (varint level ++ (varint num ++ rest)) ≡ Ok (Removed level num, rest)
unfolding fields_at removed_at
removed_again at len level num rest l n = rw (number_again is_level len level (varint num ++ rest) l (is_level-small level l), number_again is_number len num rest n (is_number-small num n)) refl

new_backing_again : (at len num : ℕ) (rest : List ℕ) → is_number num ≡ true → fields_at 2 at len (varint num ++ rest) ≡ Ok (NewBacking num, rest)
unfolding fields_at new_backing_at
new_backing_again at len num rest n = rw (number_again is_number len num rest n (is_number-small num n)) refl

physical_again : (at len level : ℕ) (t : Table) (rest : List ℕ) → is_level level ≡ true → IsTable t → t.backing ≡ t.num → fields_at 3 at len (varint level ++ (varint t.num ++ (table_bytes t ++ rest))) ≡ Ok (Added level t, rest)
unfolding fields_at physical_at
physical_again at len level t rest l h own =
    let read : table_at t.num t.num len (table_bytes t ++ rest) ≡ Ok (t, rest) = ap (λ b. table_at t.num b len (table_bytes t ++ rest)) (sym own) ∙ table_again len t rest h in
    rw (
      number_again is_level len level (varint t.num ++ (table_bytes t ++ rest)) l (is_level-small level l),
      number_again is_number len t.num (table_bytes t ++ rest) h.num (is_number-small t.num h.num),
      read,
    ) refl

virtual_again : (at len level : ℕ) (t : Table) (rest : List ℕ) → is_level level ≡ true → IsTable t → eqb t.backing t.num ≡ false → fields_at 4 at len (varint level ++ (varint t.num ++ (varint t.backing ++ (table_bytes t ++ rest)))) ≡ Ok (Added level t, rest)
unfolding fields_at virtual_at
virtual_again at len level t rest l h other =
    let backing : is_other t.num t.backing ≡ true = and_from _ _ h.backing (ap not other) in
    rw (
      number_again is_level len level (varint t.num ++ (varint t.backing ++ (table_bytes t ++ rest))) l (is_level-small level l),
      number_again is_number len t.num (varint t.backing ++ (table_bytes t ++ rest)) h.num (is_number-small t.num h.num),
      number_again (is_other t.num) len t.backing (table_bytes t ++ rest) backing (is_number-small t.backing h.backing),
      table_again len t rest h,
    ) refl

regrouped3 : (a b c rest : List ℕ) → (a ++ b ++ c) ++ rest ≡ a ++ (b ++ (c ++ rest))
regrouped3 a b c rest = simp append_assoc

regrouped4 : (a b c d rest : List ℕ) → (a ++ b ++ c ++ d) ++ rest ≡ a ++ (b ++ (c ++ (d ++ rest)))
regrouped4 a b c d rest = simp append_assoc

regrouped5 : (a b c d e rest : List ℕ) → (a ++ b ++ c ++ d ++ e) ++ rest ≡ a ++ (b ++ (c ++ (d ++ (e ++ rest))))
regrouped5 a b c d e rest = simp append_assoc

added_again : (len level : ℕ) (t : Table) (rest : List ℕ) (v : Bool) → t.virt ≡ v → is_level level ≡ true → IsTable t → record_at len (cond v (virtual_bytes level t) (physical_bytes level t) ++ rest) ≡ Ok (Added level t, rest)
added_again len level t rest true is l h =
    let other : eqb t.backing t.num ≡ false = not-true _ (sym h.virt ∙ is) in
    ap (record_at len) (regrouped5 (varint 4) (varint level) (varint t.num) (varint t.backing) (table_bytes t) rest) ∙ record_front len 4 _ (omega arith) ∙ virtual_again _ len level t rest l h other
added_again len level t rest false is l h =
    let own : eqb t.backing t.num ≡ true = not_not (eqb t.backing t.num) (sym h.virt ∙ is) in
    ap (record_at len) (regrouped4 (varint 3) (varint level) (varint t.num) (table_bytes t) rest) ∙ record_front len 3 _ (omega arith) ∙ physical_again _ len level t rest l h (eqb-true t.backing t.num own)
  where
    not_not : (b : Bool) → not b ≡ false → b ≡ true
    not_not true e = refl
    not_not false e = sym e

pub record_again : (len : ℕ) (r : Record) (rest : List ℕ) → fits r ≡ true → HasTable r → record_at len (record_bytes r ++ rest) ≡ Ok (r, rest)
record_again len (Removed level num) rest f h =
    let p = and_parts (is_level level) (is_number num) f in
    ap (record_at len) (regrouped3 (varint 1) (varint level) (varint num) rest) ∙ record_front len 1 _ (omega arith) ∙ removed_again _ len level num rest p.0 p.1
record_again len (NewBacking num) rest f h =
    ap (record_at len) (append_assoc (varint 2) (varint num) rest) ∙ record_front len 2 _ (omega arith) ∙ new_backing_again _ len num rest f
record_again len (Added level t) rest f h = added_again len level t rest t.virt refl f h

-- a record has a byte at least
pub record_bytes-some : (r : Record) → 1 ≤ length (record_bytes r)
unfolding varint
record_bytes-some (Removed level num) = omega (arith, length-append (varint 1 ++ varint level) (varint num), length-append (varint 1) (varint level))
record_bytes-some (NewBacking num) = omega (arith, length-append (varint 2) (varint num))
record_bytes-some (Added level t) = some_added level t t.virt
  where
    some_added : (level : ℕ) (t : Table) (v : Bool) → 1 ≤ length (cond v (virtual_bytes level t) (physical_bytes level t))
    some_added level t true = omega arith
    some_added level t false = omega arith
