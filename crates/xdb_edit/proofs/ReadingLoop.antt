-- Reading record after record, as a loop does.
use Rattle.std.proofs.Common.{◌≡◌, ℕ, suc, ◌-◌, ◌≤◌, true, false, cond, List, [], ◌∷◌, length, Result, Ok, Err, refl, sym, ap, ◌∙◌, append_assoc, arith}
use Rattle.std.specs.List.{filter_map}
use Rattle.std.proofs.lemmas.List.{append-nil, nil_from_length}
use Rattle.xdb_key.specs.Reading.{◌>>=◌, AreBytes}
use Rattle.xdb_edit.specs.declared.error.EditBad.{EditBad}
use Rattle.xdb_edit.specs.declared.error.EditBad.TheVariants.{Short, BadTag, BadField, BadOrder, Memory}
use Rattle.xdb_edit.specs.declared.record.Rank.{Rank}
use Rattle.xdb_edit.specs.declared.record.Record.{Record}
use Rattle.xdb_edit.specs.declared.record.Record.TheVariants.{Removed, NewBacking, Added}
use Rattle.xdb_edit.specs.Changes.{Changes, changes, no_changes, joined}
use Rattle.xdb_edit.specs.Records.{changes_of, removed_in, new_backing_in, added_in, rank_of, is_before, front}
use Rattle.xdb_edit.specs.Reading.{Fails, record_at, records_at, edit_at}
use Rattle.xdb_edit.proofs.EditLaws.{next_at, step_at, records_at-nil, records_at-step, record-shorter, enough}
use Rattle.xdb_edit.proofs.RecordLaws.{record_takes}

-- what was read before, and what is still read
abbrev pub then_read : Changes → Result (List Record) EditBad → Result Changes EditBad
then_read e read = read >>= λ rs. Ok (joined e (changes_of rs))

-- what is left goes on with what was read to the whole
pub record IsHalfway (bytes rest : List ℕ) (len : ℕ) (last : Rank) (e : Changes) : Type 0 where
  pub within : length rest ≤ len
  pub are : AreBytes rest
  pub goes : then_read e (records_at (length rest) last len rest) ≡ edit_at bytes

first : (r : Result (List Record) EditBad) → then_read no_changes r ≡ (r >>= λ rs. Ok (changes_of rs))
first (Ok rs) = refl
first (Err e) = refl

pub starts : (bytes : List ℕ) → AreBytes bytes → IsHalfway bytes bytes (length bytes) front no_changes
unfolding edit_at
starts bytes are = record { within = omega arith; are = are; goes = first (records_at (length bytes) front (length bytes) bytes) }

one_more : (e : Changes) (r : Record) (rs : List Record) → joined e (changes_of (r ∷ rs)) ≡ joined (joined e (changes_of (r ∷ []))) (changes_of rs)
one_more e (Removed level num) rs = λ i. changes (sym (append_assoc e.removed ((level, num) ∷ []) (filter_map removed_in rs)) i) (sym (append_assoc e.new_backings [] (filter_map new_backing_in rs)) i) (sym (append_assoc e.added [] (filter_map added_in rs)) i)
one_more e (NewBacking num) rs = λ i. changes (sym (append_assoc e.removed [] (filter_map removed_in rs)) i) (sym (append_assoc e.new_backings (num ∷ []) (filter_map new_backing_in rs)) i) (sym (append_assoc e.added [] (filter_map added_in rs)) i)
one_more e (Added level t) rs = λ i. changes (sym (append_assoc e.removed [] (filter_map removed_in rs)) i) (sym (append_assoc e.new_backings [] (filter_map new_backing_in rs)) i) (sym (append_assoc e.added ((level, t) ∷ []) (filter_map added_in rs)) i)

regroup : (e : Changes) (r : Record) (read : Result (List Record) EditBad) → then_read e (read >>= λ rs. Ok (r ∷ rs)) ≡ then_read (joined e (changes_of (r ∷ []))) read
regroup e r (Ok rs) = ap Ok (one_more e r rs)
regroup e r (Err x) = refl

-- what the bytes that are left give, once one more record is read
step : (e : Changes) (last : Rank) (len : ℕ) (bytes : List ℕ) (total : Result Changes EditBad) (most : ℕ) → length bytes ≡ suc most → then_read e (records_at (length bytes) last len bytes) ≡ total → then_read e (step_at most last len bytes) ≡ total
step e last len bytes total most is goes =
    ap (then_read e) (sym (records_at-step most last len bytes (omega (arith, is)))) ∙ ap (λ n. then_read e (records_at n last len bytes)) (sym is) ∙ goes

pred : (bytes : List ℕ) → 1 ≤ length bytes → (most : ℕ) × (length bytes ≡ suc most)
pred [] some = absurd (omega arith)
pred (b ∷ bs) some = (length bs, refl)

pub goes_on : (bytes rest after : List ℕ) (len : ℕ) (last : Rank) (e : Changes) (r : Record) → 1 ≤ length rest → record_at len rest ≡ Ok (r, after) → is_before last (rank_of r) ≡ true
    → IsHalfway bytes rest len last e → IsHalfway bytes after len (rank_of r) (joined e (changes_of (r ∷ [])))
goes_on bytes rest after len last e r some read order h =
    let within = h.within in
    let are = h.are in
    let p = pred rest some in
    let shorter = record-shorter len rest (r, after) are read in
    let one = record_takes len rest (r, after) are read in
    let same = enough p.0 (length after) (rank_of r) len after one.taken.fits (omega (arith, p.1)) (omega arith) in
    let go : (Record × List ℕ) → Result (List Record) EditBad = λ x. next_at p.0 last len rest x >>= λ rs. Ok (x.0 ∷ rs) in
    let stepped : step_at p.0 last len rest ≡ (records_at (length after) (rank_of r) len after >>= λ rs. Ok (r ∷ rs)) =
    ap (λ x. x >>= go) read ∙ ap (λ b. cond b (records_at p.0 (rank_of r) len after) (Err (BadOrder (len - length rest))) >>= λ rs. Ok (r ∷ rs)) order ∙ ap (λ x. x >>= λ rs. Ok (r ∷ rs)) same in
    record {
      within = omega arith;
      are = one.taken.fits;
      goes = sym (ap (then_read e) stepped ∙ regroup e r (records_at (length after) (rank_of r) len after)) ∙ step e last len rest (edit_at bytes) p.0 p.1 h.goes;
    }

pub disorder : (bytes rest after : List ℕ) (len : ℕ) (last : Rank) (e : Changes) (r : Record) → 1 ≤ length rest → record_at len rest ≡ Ok (r, after) → is_before last (rank_of r) ≡ false
    → IsHalfway bytes rest len last e → edit_at bytes ≡ Err (BadOrder (len - length rest))
disorder bytes rest after len last e r some read order h =
    let p = pred rest some in
    let go : (Record × List ℕ) → Result (List Record) EditBad = λ x. next_at p.0 last len rest x >>= λ rs. Ok (x.0 ∷ rs) in
    sym (step e last len rest (edit_at bytes) p.0 p.1 h.goes) ∙ ap (then_read e) (ap (λ x. x >>= go) read)
    ∙ ap (λ b. then_read e (cond b (records_at p.0 (rank_of r) len after) (Err (BadOrder (len - length rest))) >>= λ rs. Ok (r ∷ rs))) order

stops : (bytes rest : List ℕ) (len : ℕ) (last : Rank) (e : Changes) (x : EditBad) → 1 ≤ length rest → record_at len rest ≡ Err x → IsHalfway bytes rest len last e → edit_at bytes ≡ Err x
stops bytes rest len last e x some read h =
    let p = pred rest some in
    let go : (Record × List ℕ) → Result (List Record) EditBad = λ y. next_at p.0 last len rest y >>= λ rs. Ok (y.0 ∷ rs) in
    sym (step e last len rest (edit_at bytes) p.0 p.1 h.goes) ∙ ap (λ y. then_read e (y >>= go)) read

pub fails : (x : EditBad) (bytes rest : List ℕ) (len : ℕ) (last : Rank) (e : Changes) → 1 ≤ length rest → Fails x (record_at len rest) → IsHalfway bytes rest len last e → Fails x (edit_at bytes)
fails (Short at) bytes rest len last e some read h = stops bytes rest len last e (Short at) some read h
fails (BadTag tag at) bytes rest len last e some read h = stops bytes rest len last e (BadTag tag at) some read h
fails (BadField at) bytes rest len last e some read h = stops bytes rest len last e (BadField at) some read h
fails (BadOrder at) bytes rest len last e some read h = stops bytes rest len last e (BadOrder at) some read h
fails Memory bytes rest len last e some read h = tt

pub ends : (bytes rest : List ℕ) (len : ℕ) (last : Rank) (e : Changes) → length rest ≡ 0 → IsHalfway bytes rest len last e → edit_at bytes ≡ Ok e
ends bytes rest len last e none h =
    let nothing : records_at (length rest) last len rest ≡ Ok [] = ap (λ l. records_at (length rest) last len l) (nil_from_length rest none) ∙ records_at-nil (length rest) last len in
    let same : joined e no_changes ≡ e = λ i. changes (append-nil e.removed i) (append-nil e.new_backings i) (append-nil e.added i) in
    sym h.goes ∙ ap (then_read e) nothing ∙ ap Ok same
