-- The index of a floor answers as the floor does.
use Rattle.std.proofs.Common.{◌≡◌, ℕ, ◌<◌, ◌≤◌, true, false, not, ◌&&◌, ltb, List, length, get_or, Option, Some, None, inl, inr, refl, sym, ap, ◌∙◌, subst, arith}
use Rattle.std.proofs.lemmas.Bool.{cases_Bool, and_parts, and_from, and_right, false≢true, lt-ltb, ltb-true, not-true, not-false, cases_order, false_from_ne_true}
use Rattle.std.proofs.lemmas.List.{get_or_default}
use Rattle.std.specs.List.{list_any}
use Rattle.std.specs.List.Sorted.{IsPartitionPoint}
use Rattle.std.specs.Option.{is_some}
use Rattle.xdb_key.specs.Order.{is_below, is_upto}
use Rattle.xdb_key.specs.Bounds.{Bounds, holds, meets}
use Rattle.xdb_key.specs.Entries.{Tombstone, tombstone}
use Rattle.xdb_key.proofs.OrderLaws.{upto-itself, upto-not_below, upto_from_below, below_upto, upto_below, upto_trans}
use Rattle.xdb_rangedel.specs.Members.{Has, SameMembers}
use Rattle.xdb_rangedel.specs.Cover.{cover_of}
use Rattle.xdb_rangedel.specs.Pieces.{AreFragments, pieces, is_ordered, precedes}
use Rattle.xdb_rangedel.specs.Sweep.{ends_by}
use Rattle.xdb_rangedel.proofs.MemberLaws.{Contains-from_Has, Has-get_or, Has-map, Has-from_map}
use Rattle.xdb_rangedel.proofs.CoverLaws.{cover_of-None, cover_of-Some, meets-from_held}
use Rattle.xdb_rangedel.proofs.PartLaws.{precedes_tells}
use Rattle.xdb_rangedel.proofs.PieceLaws.{piece_inside}
use Rattle.xdb_stripes.specs.declared.floor.Floor.TheVariants as floors
use Rattle.xdb_stripes.specs.declared.floor.FloorIndex.TheVariants as indexes
use Rattle.xdb_stripes.specs.Steps.{IsIndex, at_zero}
use Rattle.xdb_stripes.proofs.AnyLaws.{both_ways, any-has, any-from}

-- some span holds the key where one covers it below a limit that is above all numbers
covered_by : (ts : List Tombstone) (k : List ℕ) (limit : ℕ) (o : Option ℕ) → ((t : Tombstone) → Has ts t → t.seq < limit) → cover_of ts k limit ≡ o → is_some o ≡ list_any (λ t. holds t.range k) ts
covered_by ts k limit None below e = sym (false_from_ne_true (list_any (λ t. holds t.range k) ts) (λ h.
    let from = any-has (λ t. holds t.range k) ts h in
    cover_of-None ts k limit e from.0 from.1 (and_from (holds from.0.range k) (ltb from.0.seq limit) from.2 (lt-ltb from.0.seq limit (below from.0 from.1)))))
covered_by ts k limit (Some n) below e =
    let from = (cover_of-Some ts k limit n e).0 in
    sym (any-from (λ t. holds t.range k) ts from.0 from.1 (and_parts (holds from.0.range k) (ltb from.0.seq limit) from.2).0)

some_holds : (ts : List Tombstone) (k : List ℕ) (limit : ℕ) → ((t : Tombstone) → Has ts t → t.seq < limit) → is_some (cover_of ts k limit) ≡ list_any (λ t. holds t.range k) ts
some_holds ts k limit below = covered_by ts k limit (cover_of ts k limit) below refl

-- spans over ranges hold what the ranges hold
zero_holds : (rs : List Bounds) (k : List ℕ) → list_any (λ t. holds t.range k) (at_zero rs) ≡ list_any (λ r. holds r k) rs
zero_holds rs k = both_ways (list_any (λ t. holds t.range k) (at_zero rs)) (list_any (λ r. holds r k) rs)
    (λ h.
    let from = any-has (λ (t : Tombstone). holds t.range k) (at_zero rs) h in
    let range = Has-from_map (λ r. tombstone r 0) rs from.0 from.1 in
    any-from (λ r. holds r k) rs range.0 range.1 (ap (λ (t : Tombstone). holds t.range k) range.2 ∙ from.2))
    (λ h.
    let from = any-has (λ r. holds r k) rs h in
    any-from (λ (t : Tombstone). holds t.range k) (at_zero rs) (tombstone from.0 0) (Has-map (λ r. tombstone r 0) rs from.0 from.1) from.2)

zero_number : (rs : List Bounds) (t : Tombstone) → Has (at_zero rs) t → t.seq < 1
zero_number rs t h =
    let range = Has-from_map (λ r. tombstone r 0) rs t h in
    let e : 0 ≡ t.seq = ap (λ (x : Tombstone). x.seq) range.2 in
    omega arith

-- two ranges that meet have a key in common: the greater of their starts
common : (r o : Bounds) → is_below r.lo r.hi ≡ true → is_below o.lo o.hi ≡ true → meets r o ≡ true → (k : List ℕ) × (holds r k ≡ true) × (holds o k ≡ true)
common r o sane_r sane_o m =
    let (a, b) = and_parts (is_below r.lo o.hi) (is_below o.lo r.hi) m in
    elim (cases_Bool (is_below r.lo o.lo)) [
      | inl less ↦ (o.lo, and_from (is_upto r.lo o.lo) (is_below o.lo r.hi) (upto_from_below r.lo o.lo less) b, and_from (is_upto o.lo o.lo) (is_below o.lo o.hi) (upto-itself o.lo) sane_o)
      | inr more ↦ (r.lo, and_from (is_upto r.lo r.lo) (is_below r.lo r.hi) (upto-itself r.lo) sane_r, and_from (is_upto o.lo r.lo) (is_below r.lo o.hi) (upto-not_below o.lo r.lo ∙ ap not more) a)
    ]

-- what is known of the pieces of a floor's ranges
pub record Cuts (rs : List Bounds) (ts : List Tombstone) : Type 0 where
  pub members : SameMembers ts (pieces (at_zero rs))
  pub cover : (k : List ℕ) (limit : ℕ) → cover_of ts k limit ≡ cover_of (at_zero rs) k limit
  pub sane : (r : Bounds) → Has rs r → is_below r.lo r.hi ≡ true

piece_zero : (rs : List Bounds) (ts : List Tombstone) → Cuts rs ts → (t : Tombstone) → Has ts t → t.seq < 1
piece_zero rs ts cuts t h =
    let from = piece_inside (at_zero rs) t ((cuts.members t).0 h) in
    let low = zero_number rs from.0 from.1 in
    let e = from.4 in
    omega arith

pieces_hold : (rs : List Bounds) (ts : List Tombstone) → Cuts rs ts → (k : List ℕ) → is_some (cover_of ts k 1) ≡ list_any (λ r. holds r k) rs
pieces_hold rs ts cuts k = ap is_some (cuts.cover k 1) ∙ some_holds (at_zero rs) k 1 (zero_number rs) ∙ zero_holds rs k

pieces_meet : (rs : List Bounds) (ts : List Tombstone) → Cuts rs ts → (r : Bounds) → is_below r.lo r.hi ≡ true → list_any (λ t. meets t.range r) ts ≡ list_any (λ o. meets o r) rs
pieces_meet rs ts cuts r sane = both_ways (list_any (λ t. meets t.range r) ts) (list_any (λ o. meets o r) rs)
    (λ h.
    let from = any-has (λ (t : Tombstone). meets t.range r) ts h in
    let t = from.0 in
    let (a, b) = and_parts (is_below t.range.lo r.hi) (is_below r.lo t.range.hi) from.2 in
    let source = piece_inside (at_zero rs) t ((cuts.members t).0 from.1) in
    let s = source.0 in
    let range = Has-from_map (λ o. tombstone o 0) rs s source.1 in
    let met : meets s.range r ≡ true = and_from (is_below s.range.lo r.hi) (is_below r.lo s.range.hi) (upto_below s.range.lo t.range.lo r.hi source.2 a) (below_upto r.lo t.range.hi s.range.hi b source.3) in
    any-from (λ o. meets o r) rs range.0 range.1 (ap (λ (x : Tombstone). meets x.range r) range.2 ∙ met))
    (λ h.
    let from = any-has (λ o. meets o r) rs h in
    let key = common from.0 r (cuts.sane from.0 from.1) sane from.2 in
    let k = key.0 in
    let held = any-has (λ (t : Tombstone). holds t.range k) ts (sym (some_holds ts k 1 (piece_zero rs ts cuts)) ∙ pieces_hold rs ts cuts k ∙ any-from (λ o. holds o k) rs from.0 from.1 key.1) in
    any-from (λ (t : Tombstone). meets t.range r) ts held.0 held.1 (meets-from_held held.0.range r k held.2 key.2))

pub index_all : IsIndex floors.All indexes.Everywhere
index_all = record { keys = λ k. refl; ranges = λ r sane. refl }

pub index_within : (rs : List Bounds) (ts : List Tombstone) → Cuts rs ts → IsIndex (floors.Ranges rs) (indexes.Within ts)
index_within rs ts cuts = record { keys = λ k. pieces_hold rs ts cuts k; ranges = λ r sane. pieces_meet rs ts cuts r sane }

-- the first fragment that ends behind the start of a range decides whether one meets it

meets_not_by : (t : Tombstone) (r : Bounds) → is_upto t.range.hi r.lo ≡ true → meets t.range r ≡ false
meets_not_by t r h = and_right (is_below t.range.lo r.hi) (is_below r.lo t.range.hi) (not-true (is_below r.lo t.range.hi) (sym (upto-not_below t.range.hi r.lo) ∙ h))

-- what the search splits
pub record Split (r : Bounds) (ts : List Tombstone) (at : ℕ) : Type 0 where
  pub fragments : AreFragments ts
  pub split : IsPartitionPoint (λ t. ends_by r.lo t ≡ true) (λ t. ends_by r.lo t ≡ false) ts at

pub met_none : (r : Bounds) (ts : List Tombstone) (at : ℕ) → Split r ts at → length ts ≤ at → false ≡ list_any (λ t. meets t.range r) ts
met_none r ts at s past = sym (false_from_ne_true (list_any (λ t. meets t.range r) ts) (λ h.
    let from = any-has (λ (t : Tombstone). meets t.range r) ts h in
    let (j, at_j, e) = Contains-from_Has ts from.0 from.1 in
    false≢true (sym (meets_not_by from.0 r (ap (ends_by r.lo) (sym e) ∙ s.split.0 j from.0 (omega arith) (omega arith))) ∙ from.2)))

-- a fragment starts no later than one behind it
starts_first : (ts : List Tombstone) (i j : ℕ) (t u : Tombstone) → AreFragments ts → i < j → j < length ts → t ≡ get_or ts i t → get_or ts j u ≡ u → is_upto t.range.lo u.range.lo ≡ true
starts_first ts i j t u f less inside at_t at_u =
    let here : get_or ts i u ≡ t = get_or_default ts i u t (omega arith) ∙ sym at_t in
    let before = sym (λ x. precedes (here x) (at_u x)) ∙ f.apart i j u less inside in
    elim (precedes_tells t u before) [
      | inl (same, number) ↦ ap (λ (x : Bounds). is_upto t.range.lo x.lo) (sym same) ∙ upto-itself t.range.lo
      | inr apart ↦ upto_trans t.range.lo t.range.hi u.range.lo (upto_from_below t.range.lo t.range.hi (ap is_ordered at_t ∙ f.ordered i t (omega arith))) apart
    ]

pub met_there : (r : Bounds) (ts : List Tombstone) (at : ℕ) (t : Tombstone) → Split r ts at → at < length ts → t ≡ get_or ts at t → is_below t.range.lo r.hi ≡ list_any (λ u. meets u.range r) ts
met_there r ts at t s inside there = both_ways (is_below t.range.lo r.hi) (list_any (λ u. meets u.range r) ts)
    (λ h.
    let behind : is_upto t.range.hi r.lo ≡ false = ap (ends_by r.lo) there ∙ s.split.1 at t (omega arith) inside in
    let has : Has ts t = subst (λ x. Has ts x) (sym there) (Has-get_or ts at t inside) in
    any-from (λ (u : Tombstone). meets u.range r) ts t has (and_from (is_below t.range.lo r.hi) (is_below r.lo t.range.hi) h (not-false (is_below r.lo t.range.hi) (sym (upto-not_below t.range.hi r.lo) ∙ behind))))
    (λ h.
    let from = any-has (λ (u : Tombstone). meets u.range r) ts h in
    let u = from.0 in
    let (a, b) = and_parts (is_below u.range.lo r.hi) (is_below r.lo u.range.hi) from.2 in
    let (j, at_j, e) = Contains-from_Has ts u from.1 in
    elim (cases_order at j) [
      | inl same ↦ let one : t ≡ u = there ∙ get_or_default ts at t u inside ∙ ap (λ n. get_or ts n u) same ∙ e in ap (λ (x : Tombstone). is_below x.range.lo r.hi) one ∙ a
      | inr (inl less) ↦ upto_below t.range.lo u.range.lo r.hi (starts_first ts at j t u s.fragments less at_j there e) a
      | inr (inr more) ↦ absurd (false≢true (sym (meets_not_by u r (ap (ends_by r.lo) (sym e) ∙ s.split.0 j u (omega arith) more)) ∙ from.2))
    ])

-- what buries an entry, by what covers its key below a limit

pub buried_some : (ts : List Tombstone) (k : List ℕ) (limit n s : ℕ) → cover_of ts k limit ≡ Some n → ltb s n ≡ list_any (λ t. holds t.range k && (ltb s t.seq && ltb t.seq limit)) ts
buried_some ts k limit n s e =
    let test = λ (t : Tombstone). holds t.range k && (ltb s t.seq && ltb t.seq limit) in
    let tells = cover_of-Some ts k limit n e in
    both_ways (ltb s n) (list_any test ts)
    (λ h.
    let t = tells.0.0 in
    let (held, less) = and_parts (holds t.range k) (ltb t.seq limit) tells.0.2 in
    any-from test ts t tells.0.1 (and_from (holds t.range k) (ltb s t.seq && ltb t.seq limit) held (and_from (ltb s t.seq) (ltb t.seq limit) (ap (ltb s) tells.0.3 ∙ h) less)))
    (λ h.
    let from = any-has test ts h in
    let u = from.0 in
    let (held, both) = and_parts (holds u.range k) (ltb s u.seq && ltb u.seq limit) from.2 in
    let (more, less) = and_parts (ltb s u.seq) (ltb u.seq limit) both in
    let up : u.seq ≤ n = tells.1 u from.1 (and_from (holds u.range k) (ltb u.seq limit) held less) in
    let low : s < u.seq = ltb-true s u.seq more in
    lt-ltb s n (omega arith))

pub buried_none : (ts : List Tombstone) (k : List ℕ) (limit s : ℕ) → cover_of ts k limit ≡ None → false ≡ list_any (λ t. holds t.range k && (ltb s t.seq && ltb t.seq limit)) ts
buried_none ts k limit s e =
    let test = λ (t : Tombstone). holds t.range k && (ltb s t.seq && ltb t.seq limit) in
    sym (false_from_ne_true (list_any test ts) (λ h.
    let from = any-has test ts h in
    let u = from.0 in
    let (held, both) = and_parts (holds u.range k) (ltb s u.seq && ltb u.seq limit) from.2 in
    cover_of-None ts k limit e u from.1 (and_from (holds u.range k) (ltb u.seq limit) held (and_parts (ltb s u.seq) (ltb u.seq limit) both).1)))
