-- Reading row after row, as a loop does.
use Rattle.std.proofs.Common.{◌≡◌, ℕ, suc, ◌+◌, ◌-◌, ◌≤◌, ◌<◌, Bool, List, [], ◌∷◌, ◌++◌, length, take, drop, slice_range, IfOk, get_or, append_assoc, Option, Some, None, IfSome, All, Result, Ok, Err, zero, cond, ◌==◌, refl, sym, ap, ◌∙◌, subst, arith}
use Rattle.std.specs.Option.{option_map}
use Rattle.std.proofs.lemmas.List.{append-nil, nil_from_length, length-drop, length-take, length-take-le, take-append-drop, length-append, map-append}
use Rattle.std.proofs.lemmas.Bool.{ne_eqb}
use Rattle.std.proofs.lemmas.List.Elements.{All-push, All-tail}
use Rattle.xdb_key.specs.Reading.{◌>>=◌}
use Rattle.xdb_block.specs.declared.kind.BlockKind.{BlockKind}
use Rattle.xdb_block.specs.declared.kind.BlockNo.{BlockNo}
use Rattle.xdb_block.specs.declared.kind.BlockNo.TheVariants.{Damaged, Memory}
use Rattle.xdb_block.specs.declared.place.Place.{Place}
use Rattle.xdb_block.specs.declared.rows.Rows.{Rows}
use Rattle.xdb_block.specs.Kept.{row_of, rows_of, keys_size, Lies}
use Rattle.xdb_block.specs.Reading.{IsDefect, Answers, next_at, offsets_at, rows_at, restarts_at, block_at}
use Rattle.xdb_block.proofs.KeysLaws.{size-more}
use Rattle.xdb_block.proofs.Ranges.{row_kept, range_front}
use Rattle.xdb_block.specs.Rows.{Row, row}
use Rattle.xdb_block.specs.Spelling.{is_restart}

-- what was read before, and what is still read
abbrev pub with_front : List Row → Result (List Row) BlockNo → Result (List Row) BlockNo
with_front front read = read >>= λ rs. Ok (front ++ rs)

-- what is left goes on with what was read, and makes the whole
pub record GoesOn (interval : ℕ) (kind : BlockKind) (end count : ℕ) (last : Option Row) (os : List ℕ) (front : List Row) (rest : List ℕ) (total : Result (List Row) BlockNo) : Type 0 where
  pub most : ℕ
  pub enough : length rest ≤ most
  pub makes : with_front front (rows_at most interval kind end count last os rest) ≡ total

pub starts : (interval : ℕ) (kind : BlockKind) (os bytes : List ℕ) → GoesOn interval kind (length bytes) 0 None os [] bytes (rows_at (length bytes) interval kind (length bytes) 0 None os bytes)
starts interval kind os bytes = record { most = length bytes; enough = omega arith; makes = same (rows_at (length bytes) interval kind (length bytes) 0 None os bytes) } where
  same : (r : Result (List Row) BlockNo) → with_front [] r ≡ r
  same (Ok rs) = refl
  same (Err e) = refl

regrouped : (front : List Row) (r : Row) (read : Result (List Row) BlockNo) → with_front front (read >>= λ rs. Ok (r ∷ rs)) ≡ with_front (front ++ r ∷ []) read
regrouped front r (Ok rs) = ap Ok (sym (append_assoc front (r ∷ []) rs))
regrouped front r (Err e) = refl

pub opened : (rest : List ℕ) → 1 ≤ length rest → (b : ℕ) × (bs : List ℕ) × (rest ≡ b ∷ bs)
opened [] some = absurd (omega arith)
opened (b ∷ bs) some = (b, bs, refl)

fuelled : (most : ℕ) → 1 ≤ most → (m : ℕ) × (most ≡ suc m)
fuelled (suc m) h = (m, refl)
fuelled zero h = absurd (omega arith)

pub goes_on : (interval : ℕ) (kind : BlockKind) (end count : ℕ) (last : Option Row) (os left : List ℕ) (front : List Row) (rest after : List ℕ) (r : Row) (total : Result (List Row) BlockNo) → 1 ≤ length rest → length after < length rest
    → offsets_at (end - length rest) (is_restart interval count) os ≡ Ok left → next_at (end - length rest) kind (is_restart interval count) last rest ≡ Ok (r, after)
    → GoesOn interval kind end count last os front rest total → GoesOn interval kind end (count + 1) (Some r) left (front ++ r ∷ []) after total
unfolding rows_at
goes_on interval kind end count last os left front rest after r total some shorter offsets read g =
    let o = opened rest some in
    let enough = g.enough in
    let f = fuelled g.most (omega arith) in
    let here : with_front front (rows_at g.most interval kind end count last os rest) ≡ with_front front (rows_at (suc f.0) interval kind end count last os (o.0 ∷ o.1)) = λ i. with_front front (rows_at (f.1 i) interval kind end count last os (o.2 i)) in
    let offsets' : offsets_at (end - length (o.0 ∷ o.1)) (is_restart interval count) os ≡ Ok left = ap (λ l. offsets_at (end - length l) (is_restart interval count) os) (sym o.2) ∙ offsets in
    let read' : next_at (end - length (o.0 ∷ o.1)) kind (is_restart interval count) last (o.0 ∷ o.1) ≡ Ok (r, after) = ap (λ l. next_at (end - length l) kind (is_restart interval count) last l) (sym o.2) ∙ read in
    let next : with_front front (rows_at (suc f.0) interval kind end count last os (o.0 ∷ o.1)) ≡ with_front (front ++ r ∷ []) (rows_at f.0 interval kind end (count + 1) (Some r) left after) =
    rw (offsets', read') (regrouped front r (rows_at f.0 interval kind end (count + 1) (Some r) left after)) in
    let fuel = f.1 in
    record { most = f.0; enough = omega arith; makes = sym (here ∙ next) ∙ g.makes }

passed_on : {X Y : Type 0} (bad : BlockNo) (r : Result X BlockNo) (total : Result Y BlockNo) → ((e : BlockNo) → r ≡ Err e → total ≡ Err e) → IsDefect bad r → IsDefect bad total
passed_on Memory r total step e = tt
passed_on bad r total step e = step bad e

-- a defect of the next offset or of the row is the whole's
pub offset_fails : (bad : BlockNo) (interval : ℕ) (kind : BlockKind) (end count : ℕ) (last : Option Row) (os : List ℕ) (front : List Row) (rest : List ℕ) (total : Result (List Row) BlockNo) → 1 ≤ length rest
    → IsDefect bad (offsets_at (end - length rest) (is_restart interval count) os) → GoesOn interval kind end count last os front rest total → IsDefect bad total
unfolding rows_at
offset_fails bad interval kind end count last os front rest total some defect g =
    let o = opened rest some in
    let enough = g.enough in
    let f = fuelled g.most (omega arith) in
    let here : with_front front (rows_at g.most interval kind end count last os rest) ≡ with_front front (rows_at (suc f.0) interval kind end count last os (o.0 ∷ o.1)) = λ i. with_front front (rows_at (f.1 i) interval kind end count last os (o.2 i)) in
    let step = λ (e : BlockNo) (is : offsets_at (end - length rest) (is_restart interval count) os ≡ Err e).
    let is' : offsets_at (end - length (o.0 ∷ o.1)) (is_restart interval count) os ≡ Err e = ap (λ l. offsets_at (end - length l) (is_restart interval count) os) (sym o.2) ∙ is in
    let next : with_front front (rows_at (suc f.0) interval kind end count last os (o.0 ∷ o.1)) ≡ Err e = rw is' refl in
    sym g.makes ∙ here ∙ next in
    passed_on bad _ total step defect

pub row_fails : (bad : BlockNo) (interval : ℕ) (kind : BlockKind) (end count : ℕ) (last : Option Row) (os left : List ℕ) (front : List Row) (rest : List ℕ) (total : Result (List Row) BlockNo) → 1 ≤ length rest
    → offsets_at (end - length rest) (is_restart interval count) os ≡ Ok left → IsDefect bad (next_at (end - length rest) kind (is_restart interval count) last rest) → GoesOn interval kind end count last os front rest total → IsDefect bad total
unfolding rows_at
row_fails bad interval kind end count last os left front rest total some offsets defect g =
    let o = opened rest some in
    let enough = g.enough in
    let f = fuelled g.most (omega arith) in
    let here : with_front front (rows_at g.most interval kind end count last os rest) ≡ with_front front (rows_at (suc f.0) interval kind end count last os (o.0 ∷ o.1)) = λ i. with_front front (rows_at (f.1 i) interval kind end count last os (o.2 i)) in
    let offsets' : offsets_at (end - length (o.0 ∷ o.1)) (is_restart interval count) os ≡ Ok left = ap (λ l. offsets_at (end - length l) (is_restart interval count) os) (sym o.2) ∙ offsets in
    let step = λ (e : BlockNo) (is : next_at (end - length rest) kind (is_restart interval count) last rest ≡ Err e).
    let is' : next_at (end - length (o.0 ∷ o.1)) kind (is_restart interval count) last (o.0 ∷ o.1) ≡ Err e = ap (λ l. next_at (end - length l) kind (is_restart interval count) last l) (sym o.2) ∙ is in
    let next : with_front front (rows_at (suc f.0) interval kind end count last os (o.0 ∷ o.1)) ≡ Err e = rw (offsets', is') refl in
    sym g.makes ∙ here ∙ next in
    passed_on bad _ total step defect

pub nothing_left : (most interval : ℕ) (kind : BlockKind) (end count : ℕ) (last : Option Row) (os : List ℕ) → rows_at most interval kind end count last os [] ≡ cond (length os == 0) (Ok []) (Err (Damaged end))
unfolding rows_at
nothing_left zero interval kind end count last os = refl
nothing_left (suc most) interval kind end count last os = refl

-- nothing is left: the rows are read where no offset is left either
pub ends : (interval : ℕ) (kind : BlockKind) (end count : ℕ) (last : Option Row) (front : List Row) (rest : List ℕ) (total : Result (List Row) BlockNo) → length rest ≡ 0 → GoesOn interval kind end count last [] front rest total → total ≡ Ok front
ends interval kind end count last front rest total none g =
    sym g.makes ∙ ap (λ l. with_front front (rows_at g.most interval kind end count last [] l)) (nil_from_length rest none) ∙ ap (with_front front) (nothing_left g.most interval kind end count last []) ∙ ap Ok (append-nil front)

pub left_over : (interval : ℕ) (kind : BlockKind) (end count : ℕ) (last : Option Row) (o : ℕ) (os : List ℕ) (front : List Row) (rest : List ℕ) (total : Result (List Row) BlockNo) → length rest ≡ 0 → GoesOn interval kind end count last (o ∷ os) front rest total → total ≡ Err (Damaged end)
left_over interval kind end count last o os front rest total none g =
    sym g.makes ∙ ap (λ l. with_front front (rows_at g.most interval kind end count last (o ∷ os) l)) (nil_from_length rest none) ∙ ap (with_front front) (nothing_left g.most interval kind end count last (o ∷ os))
    ∙ ap (λ b. with_front front (cond b (Ok []) (Err (Damaged end)))) (ne_eqb (suc (length os)) 0 (λ e. omega arith))

-- ---- the same over places

pub rows_kept : (old new bytes : List ℕ) (n : ℕ) (places : List Place) → All (Lies (length old) n) places → take (length old) new ≡ old → rows_of new bytes places ≡ rows_of old bytes places
rows_kept old new bytes n [] lie grows = refl
rows_kept old new bytes n (p ∷ places) lie grows = λ i. row_kept old new bytes n p (lie 0 p (omega arith)) grows i ∷ rows_kept old new bytes n places (All-tail (Lies (length old) n) p places lie) grows i

grown : (old new : List ℕ) → take (length old) new ≡ old → length old ≤ length new
grown old new grows = omega (arith, length-take (length old) new, ap length grows)

wider : (m n bytes : ℕ) (p : Place) → m ≤ n → Lies m bytes p → Lies n bytes p
wider m n bytes p more lies =
    let within = lies.in_keys in
    record { key_order = lies.key_order; in_keys = omega arith; value_order = lies.value_order; in_bytes = lies.in_bytes }

pub record Halfway (interval : ℕ) (kind : BlockKind) (bytes keys : List ℕ) (places : List Place) (last : Option Place) (os : List ℕ) (at : ℕ) (total : Result (List Row) BlockNo) : Type 0 where
  pub within : at ≤ length bytes
  pub last_lies : IfSome last (Lies (length keys) (length bytes))
  pub lie : All (Lies (length keys) (length bytes)) places
  pub whole : length keys ≡ keys_size places
  pub so_far : GoesOn interval kind (length bytes) (length places) (option_map (row_of keys bytes) last) os (rows_of keys bytes places) (drop at bytes) total

pub begins : (interval : ℕ) (kind : BlockKind) (bytes keys : List ℕ) (places : List Place) (os : List ℕ) → keys ≡ [] → places ≡ [] → Halfway interval kind bytes keys places None os 0 (rows_at (length bytes) interval kind (length bytes) 0 None os bytes)
begins interval kind bytes keys places os no_keys no_places =
    rw (no_keys, no_places) (record { within = omega arith; last_lies = tt; lie = λ k d less. absurd (omega arith); whole = refl; so_far = starts interval kind os bytes })

-- the place of what is left
place_is : (bytes : List ℕ) (at : ℕ) → at ≤ length bytes → length bytes - length (drop at bytes) ≡ at
place_is bytes at within = omega (arith, length-drop at bytes)

pub halfway_on : (interval : ℕ) (kind : BlockKind) (bytes keys new : List ℕ) (places : List Place) (last : Option Place) (os left : List ℕ) (at : ℕ) (p : Place) (restart : Bool) (total : Result (List Row) BlockNo) → at < length bytes
    → restart ≡ is_restart interval (length places) → offsets_at at restart os ≡ Ok left → next_at at kind restart (option_map (row_of keys bytes) last) (drop at bytes) ≡ Ok (row_of new bytes p, drop p.end bytes)
    → Lies (length new) (length bytes) p → take (length keys) new ≡ keys → at < p.end → (p.key ≡ length keys) × (p.key_end ≡ length new)
    → Halfway interval kind bytes keys places last os at total → Halfway interval kind bytes new (places ++ p ∷ []) (Some p) left p.end total
halfway_on interval kind bytes keys new places last os left at p restart total more same offsets read lies grows behind is_last h =
    let n = length bytes in
    let in_bytes = lies.in_bytes in
    let here : length bytes - length (drop at bytes) ≡ at = place_is bytes at (omega arith) in
    let size = length-drop at bytes in
    let size_after = length-drop p.end bytes in
    let offsets' : offsets_at (n - length (drop at bytes)) (is_restart interval (length places)) os ≡ Ok left = (λ i. offsets_at (here i) (sym same i) os) ∙ offsets in
    let read' : next_at (n - length (drop at bytes)) kind (is_restart interval (length places)) (option_map (row_of keys bytes) last) (drop at bytes) ≡ Ok (row_of new bytes p, drop p.end bytes) =
    (λ i. next_at (here i) kind (sym same i) (option_map (row_of keys bytes) last) (drop at bytes)) ∙ read in
    let next = goes_on interval kind n (length places) (option_map (row_of keys bytes) last) os left (rows_of keys bytes places) (drop at bytes) (drop p.end bytes) (row_of new bytes p) total (omega arith) (omega arith) offsets' read' h.so_far in
    let count : length places + 1 ≡ length (places ++ p ∷ []) = omega (arith, length-append places (p ∷ [])) in
    let rows : rows_of keys bytes places ++ row_of new bytes p ∷ [] ≡ rows_of new bytes (places ++ p ∷ []) =
    ap (λ rs. rs ++ row_of new bytes p ∷ []) (sym (rows_kept keys new bytes n places h.lie grows)) ∙ sym (map-append (row_of new bytes) places (p ∷ [])) in
    let wide : All (Lies (length new) n) places = λ k d less. wider (length keys) (length new) n (get_or places k d) (grown keys new grows) (h.lie k d less) in
    record {
      within = in_bytes;
      last_lies = lies;
      lie = All-push (Lies (length new) n) places p wide lies;
      whole = omega (arith, is_last.0, is_last.1, h.whole, size-more places p, grown keys new grows);
      so_far = subst (λ c. GoesOn interval kind n c (Some (row_of new bytes p)) left (rows_of new bytes (places ++ p ∷ [])) (drop p.end bytes) total) count
          (subst (λ rs. GoesOn interval kind n (length places + 1) (Some (row_of new bytes p)) left rs (drop p.end bytes) total) rows next);
    }

pub halfway_offset : (bad : BlockNo) (interval : ℕ) (kind : BlockKind) (bytes keys : List ℕ) (places : List Place) (last : Option Place) (os : List ℕ) (at : ℕ) (restart : Bool) (total : Result (List Row) BlockNo) → at < length bytes
    → restart ≡ is_restart interval (length places) → IsDefect bad (offsets_at at restart os) → Halfway interval kind bytes keys places last os at total → IsDefect bad total
halfway_offset bad interval kind bytes keys places last os at restart total more same defect h =
    let here : length bytes - length (drop at bytes) ≡ at = place_is bytes at (omega arith) in
    let size = length-drop at bytes in
    let defect' = subst (λ r. IsDefect bad r) (λ i. offsets_at (sym here i) (same i) os) defect in
    offset_fails bad interval kind (length bytes) (length places) _ os (rows_of keys bytes places) (drop at bytes) total (omega arith) defect' h.so_far

pub halfway_row : (bad : BlockNo) (interval : ℕ) (kind : BlockKind) (bytes keys : List ℕ) (places : List Place) (last : Option Place) (os left : List ℕ) (at : ℕ) (restart : Bool) (total : Result (List Row) BlockNo) → at < length bytes
    → restart ≡ is_restart interval (length places) → offsets_at at restart os ≡ Ok left → IsDefect bad (next_at at kind restart (option_map (row_of keys bytes) last) (drop at bytes)) → Halfway interval kind bytes keys places last os at total → IsDefect bad total
halfway_row bad interval kind bytes keys places last os left at restart total more same offsets defect h =
    let here : length bytes - length (drop at bytes) ≡ at = place_is bytes at (omega arith) in
    let size = length-drop at bytes in
    let offsets' : offsets_at (length bytes - length (drop at bytes)) (is_restart interval (length places)) os ≡ Ok left = (λ i. offsets_at (here i) (sym same i) os) ∙ offsets in
    let defect' = subst (λ r. IsDefect bad r) (λ i. next_at (sym here i) kind (same i) (option_map (row_of keys bytes) last) (drop at bytes)) defect in
    row_fails bad interval kind (length bytes) (length places) _ os left (rows_of keys bytes places) (drop at bytes) total (omega arith) offsets' defect' h.so_far

pub halfway_whole : (interval : ℕ) (kind : BlockKind) (bytes keys : List ℕ) (places : List Place) (last : Option Place) (os : List ℕ) (at : ℕ) (total : Result (List Row) BlockNo) → Halfway interval kind bytes keys places last os at total → length keys ≡ keys_size places
halfway_whole interval kind bytes keys places last os at total h = h.whole

-- the entries are at their end
pub halfway_ends : (interval : ℕ) (kind : BlockKind) (bytes keys : List ℕ) (places : List Place) (last : Option Place) (os : List ℕ) (at : ℕ) (total : Result (List Row) BlockNo) → length bytes ≤ at → os ≡ [] → Halfway interval kind bytes keys places last os at total → total ≡ Ok (rows_of keys bytes places)
halfway_ends interval kind bytes keys places last os at total done none h =
    let left : length (drop at bytes) ≡ 0 = omega (arith, length-drop at bytes) in
    ends interval kind (length bytes) (length places) (option_map (row_of keys bytes) last) (rows_of keys bytes places) (drop at bytes) total left
    (subst (λ x. GoesOn interval kind (length bytes) (length places) (option_map (row_of keys bytes) last) x (rows_of keys bytes places) (drop at bytes) total) none h.so_far)

pub halfway_left_over : (interval : ℕ) (kind : BlockKind) (bytes keys : List ℕ) (places : List Place) (last : Option Place) (os : List ℕ) (at o : ℕ) (left : List ℕ) (total : Result (List Row) BlockNo) → length bytes ≤ at → os ≡ o ∷ left → Halfway interval kind bytes keys places last os at total → total ≡ Err (Damaged at)
halfway_left_over interval kind bytes keys places last os at o left total done some h =
    let within = h.within in
    let nothing : length (drop at bytes) ≡ 0 = omega (arith, length-drop at bytes) in
    left_over interval kind (length bytes) (length places) (option_map (row_of keys bytes) last) o left (rows_of keys bytes places) (drop at bytes) total nothing
    (subst (λ x. GoesOn interval kind (length bytes) (length places) (option_map (row_of keys bytes) last) x (rows_of keys bytes places) (drop at bytes) total) some h.so_far)
    ∙ ap (λ n. Err (Damaged n)) (omega arith)

-- ---- the entries and the whole block

row_in_front : (keys bytes : List ℕ) (end : ℕ) (p : Place) → p.value ≤ p.end → p.end ≤ length (take end bytes) → row_of keys (take end bytes) p ≡ row_of keys bytes p
row_in_front keys bytes end p order within =
    ap (λ v. row (slice_range keys p.key p.key_end) v) (sym (range_front (take end bytes) (drop end bytes) p.value p.end order within) ∙ ap (λ x. slice_range x p.value p.end) (take-append-drop end bytes))

rows_in_front : (keys bytes : List ℕ) (end : ℕ) (places : List Place) → All (Lies (length keys) (length (take end bytes))) places → rows_of keys (take end bytes) places ≡ rows_of keys bytes places
rows_in_front keys bytes end [] lie = refl
rows_in_front keys bytes end (p ∷ places) lie =
    let lies = lie 0 p (omega arith) in
    λ i. row_in_front keys bytes end p lies.value_order lies.in_bytes i ∷ rows_in_front keys bytes end places (All-tail (Lies (length keys) (length (take end bytes))) p places lie) i

-- what the entries answer is what the block does
pub block_answers : (interval : ℕ) (kind : BlockKind) (bytes : List ℕ) (end : ℕ) (os : List ℕ) (result : Result Rows BlockNo) → restarts_at bytes ≡ Ok (end, os) → end ≤ length bytes
    → IfOk result (λ x. All (Lies (length x.keys.items) (length (take end bytes))) x.places.items)
    → Answers (λ x. rows_of x.keys.items (take end bytes) x.places.items) result (rows_at (length (take end bytes)) interval kind (length (take end bytes)) 0 None os (take end bytes))
    → Answers (λ x. rows_of x.keys.items bytes x.places.items) result (block_at interval kind bytes)
unfolding block_at
block_answers interval kind bytes end os (Ok x) part within lie e =
    let len = length-take-le end bytes within in
    let read : block_at interval kind bytes ≡ rows_at end interval kind end 0 None os (take end bytes) = rw part refl in
    read ∙ (λ i. rows_at (sym len i) interval kind (sym len i) 0 None os (take end bytes)) ∙ e ∙ ap Ok (rows_in_front x.keys.items bytes end x.places.items lie)
block_answers interval kind bytes end os (Err bad) part within lie e =
    let len = length-take-le end bytes within in
    let read : block_at interval kind bytes ≡ rows_at end interval kind end 0 None os (take end bytes) = rw part refl in
    subst (λ r. IsDefect bad r) (sym (read ∙ (λ i. rows_at (sym len i) interval kind (sym len i) 0 None os (take end bytes)))) e
