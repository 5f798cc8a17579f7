-- Fragments: the one before tells whether another is left over the piece.
use Rattle.std.proofs.Common.{◌≡◌, ℕ, ◌+◌, ◌-◌, ◌<◌, ◌≤◌, Bool, true, false, ◌&&◌, ◌^◌, ltb, List, length, get_or, inl, inr, IsTrue, sym, ap, ◌∙◌, subst, arith}
use Rattle.std.proofs.lemmas.Bool.{cases_order, and_parts, and_from, false≢true, false_from_ne_true}
use Rattle.std.proofs.lemmas.List.{get_or_default}
use Rattle.std.specs.List.{All, list_any, filter}
use Rattle.xdb_key.specs.Order.{is_below, is_upto}
use Rattle.xdb_key.specs.Bounds.{Bounds}
use Rattle.xdb_key.specs.Entries.{Tombstone}
use Rattle.xdb_key.proofs.OrderLaws.{below-itself, upto_from_below, below_upto}
use Rattle.xdb_rangedel.specs.Members.{Has, SameMembers}
use Rattle.xdb_rangedel.specs.Pieces.{AreFragments, precedes, is_ordered, pieces}
use Rattle.xdb_rangedel.specs.Content.{same_key}
use Rattle.xdb_rangedel.proofs.MemberLaws.{Contains-from_Has, Has-get_or}
use Rattle.xdb_rangedel.proofs.PartLaws.{precedes_tells}
use Rattle.xdb_rangedel.proofs.OnlyLaws.{fragments_themselves, fragments_are_one}
use Rattle.std.proofs.lemmas.List.Elements.{All-filter}
use Rattle.std.proofs.lemmas.List.Kept.{AllPairs-filter}
use Rattle.std.proofs.Common.{Result, Ok, Err, IfOk}
use Rattle.xdb_stripes.specs.Stripes.{outranks}
use Rattle.xdb_stripes.specs.Thinned.{same_bounds}
use Rattle.xdb_stripes.specs.Steps.{IsEnd, repeats_span}
use Rattle.xdb_stripes.proofs.AnyLaws.{both_ways, any-has, any-from}
use Rattle.xdb_stripes.proofs.StripeLaws.{outranks-tells, outranks-from, ended, within, stripe_rises}
use Rattle.xdb_stripes.proofs.KeepLaws.{same_bounds-tells}
use Rattle.xdb_stripes.proofs.EntryLaws.{same_key-from}

same_bounds-from : (r o : Bounds) → r ≡ o → same_bounds r o ≡ true
same_bounds-from r o e = and_from (same_key r.lo o.lo) (same_key r.hi o.hi) (same_key-from r.lo o.lo (ap (λ x. x.lo) e)) (same_key-from r.hi o.hi (ap (λ x. x.hi) e))

pub same_bounds-is : (r o : Bounds) (b : Bool) → (b ≡ true → r ≡ o) → (r ≡ o → b ≡ true) → b ≡ same_bounds r o
same_bounds-is r o b to from = both_ways b (same_bounds r o) (λ h. same_bounds-from r o (to h)) (λ h. from (same_bounds-tells r o h))

no_less_itself : (a b : List ℕ) → is_below a b ≡ true → is_upto b a ≡ true → ⊥
no_less_itself a b less back = false≢true (sym (below-itself a) ∙ below_upto a b a less back)

-- two neighbours among fragments
record Beside (ts : List Tombstone) (i : ℕ) (s t : Tombstone) : Type 0 where
  fragments : AreFragments ts
  inside : i + 1 < length ts
  first : (d : Tombstone) → get_or ts i d ≡ s
  second : (d : Tombstone) → get_or ts (i + 1) d ≡ t

ordered_in : (ts : List Tombstone) (i : ℕ) (t : Tombstone) → AreFragments ts → i < length ts → get_or ts i t ≡ t → is_below t.range.lo t.range.hi ≡ true
ordered_in ts i t f inside at = sym (ap is_ordered at) ∙ f.ordered i t inside

-- of two fragments with equal bounds the first has the greater number
same_falls : (ts : List Tombstone) (i j : ℕ) (s t : Tombstone) → AreFragments ts → i < j → j < length ts → get_or ts i s ≡ s → get_or ts j t ≡ t → s.range ≡ t.range → t.seq < s.seq
same_falls ts i j s t f less inside at_s at_t same =
    let at : get_or ts i t ≡ s = get_or_default ts i t s (omega arith) ∙ at_s in
    elim (precedes_tells s t (sym (λ x. precedes (at x) (at_t x)) ∙ f.apart i j t less inside)) [
      | inl (ranges, number) ↦ number
      | inr apart ↦ absurd (no_less_itself t.range.lo t.range.hi (ordered_in ts j t f inside at_t) (sym (ap (λ (r : Bounds). is_upto r.hi t.range.lo) same) ∙ apart))
    ]

-- a fragment between two with equal bounds has them too
same_between : (ts : List Tombstone) (i j n : ℕ) (s m t : Tombstone) → AreFragments ts → i < j → j < n → n < length ts → get_or ts i s ≡ s → get_or ts j m ≡ m → get_or ts n t ≡ t → s.range ≡ t.range → s.range ≡ m.range
same_between ts i j n s m t f a b inside at_s at_m at_t same =
    let os = ordered_in ts i s f (omega arith) at_s in
    let om = ordered_in ts j m f (omega arith) at_m in
    let s_at : get_or ts i m ≡ s = get_or_default ts i m s (omega arith) ∙ at_s in
    let m_at : get_or ts j t ≡ m = get_or_default ts j t m (omega arith) ∙ at_m in
    elim (precedes_tells s m (sym (λ x. precedes (s_at x) (at_m x)) ∙ f.apart i j m a (omega arith))) [
      | inl (ranges, number) ↦ ranges
      | inr apart ↦
          let less : is_below s.range.lo m.range.hi ≡ true = below_upto s.range.lo m.range.lo m.range.hi (below_upto s.range.lo s.range.hi m.range.lo os apart) (upto_from_below m.range.lo m.range.hi om) in
          elim (precedes_tells m t (sym (λ x. precedes (m_at x) (at_t x)) ∙ f.apart j n t b inside)) [
            | inl (ranges, number) ↦ absurd (no_less_itself s.range.lo s.range.hi os (subst (λ (r : Bounds). is_upto s.range.hi r.lo ≡ true) (ranges ∙ sym same) apart))
            | inr later ↦ absurd (no_less_itself s.range.lo m.range.hi less (subst (λ (r : Bounds). is_upto m.range.hi r.lo ≡ true) (sym same) later))
          ]
    ]

repeats_first : (ss : List ℕ) (ts : List Tombstone) (i j : ℕ) (t u : Tombstone) → AreFragments ts → i < length ts → get_or ts i t ≡ t → j < length ts → get_or ts j u ≡ u → repeats_span ss t u ≡ true → j < i
repeats_first ss ts i j t u f at_i is_t at_j is_u h =
    let (bounds, over) = and_parts (same_bounds u.range t.range) (outranks ss u.seq t.seq) h in
    let more : t.seq < u.seq = (outranks-tells ss u.seq t.seq over).0 in
    elim (cases_order i j) [
      | inl same ↦
          let one : t ≡ u = sym is_t ∙ get_or_default ts i t u at_i ∙ ap (λ n. get_or ts n u) same ∙ is_u in
          let seqs : t.seq ≡ u.seq = ap (λ (x : Tombstone). x.seq) one in
          absurd (omega arith)
      | inr (inl less) ↦
          let low : u.seq < t.seq = same_falls ts i j t u f less at_j is_t is_u (sym (same_bounds-tells u.range t.range bounds)) in
          absurd (omega arith)
      | inr (inr earlier) ↦ earlier
    ]

pub repeated_none : (ss : List ℕ) (ts : List Tombstone) (t : Tombstone) → AreFragments ts → 0 < length ts → get_or ts 0 t ≡ t → list_any (repeats_span ss t) ts ≡ false
repeated_none ss ts t f inside is_t = false_from_ne_true (list_any (repeats_span ss t) ts) (λ h.
    let from = any-has (repeats_span ss t) ts h in
    let (j, at_j, is_u) = Contains-from_Has ts from.0 from.1 in
    let low : j < 0 = repeats_first ss ts 0 j t from.0 f inside is_t at_j is_u from.2 in
    omega arith)

repeat_to : (ss : List ℕ) (ts : List Tombstone) (i : ℕ) (s t : Tombstone) (limit : ℕ) → Beside ts i s t → IsEnd ss t.seq limit → s.seq < 2 ^ 56 → (same_bounds s.range t.range && ltb s.seq limit) ≡ true → list_any (repeats_span ss t) ts ≡ true
repeat_to ss ts i s t limit b end small h =
    let (bounds, less) = and_parts (same_bounds s.range t.range) (ltb s.seq limit) h in
    let more : t.seq < s.seq = same_falls ts i (i + 1) s t b.fragments (omega arith) b.inside (b.first s) (b.second t) (same_bounds-tells s.range t.range bounds) in
    let has : Has ts s = subst (λ x. Has ts x) (b.first s) (Has-get_or ts i s (let g = b.inside in omega arith)) in
    any-from (repeats_span ss t) ts s has (and_from (same_bounds s.range t.range) (outranks ss s.seq t.seq) bounds (within ss s.seq t.seq limit end small more less))

repeat_from : (ss : List ℕ) (ts : List Tombstone) (i : ℕ) (s t : Tombstone) (limit : ℕ) → Beside ts i s t → IsEnd ss t.seq limit → s.seq < 2 ^ 56 → list_any (repeats_span ss t) ts ≡ true → (same_bounds s.range t.range && ltb s.seq limit) ≡ true
repeat_from ss ts i s t limit b end small h =
    let from = any-has (repeats_span ss t) ts h in
    let u = from.0 in
    let (bounds, over) = and_parts (same_bounds u.range t.range) (outranks ss u.seq t.seq) from.2 in
    let tells = outranks-tells ss u.seq t.seq over in
    let (j, at_j, is_u) = Contains-from_Has ts u from.1 in
    let earlier : j < i + 1 = repeats_first ss ts (i + 1) j t u b.fragments b.inside (b.second t) at_j is_u from.2 in
    elim (cases_order j i) [
      | inl same ↦
          let one : u ≡ s = sym is_u ∙ ap (λ n. get_or ts n u) same ∙ b.first u in
          and_from (same_bounds s.range t.range) (ltb s.seq limit) (sym (ap (λ (x : Tombstone). same_bounds x.range t.range) one) ∙ bounds)
          (ended ss s.seq t.seq limit end small (sym (ap (λ (x : Tombstone). outranks ss x.seq t.seq) one) ∙ over))
      | inr (inl less) ↦
          let ranges = same_bounds-tells u.range t.range bounds in
          let mid : u.range ≡ s.range = same_between ts j i (i + 1) u s t b.fragments less (omega arith) b.inside is_u (b.first s) (b.second t) ranges in
          let same : s.range ≡ t.range = sym mid ∙ ranges in
          let low : t.seq < s.seq = same_falls ts i (i + 1) s t b.fragments (omega arith) b.inside (b.first s) (b.second t) same in
          let high : s.seq < u.seq = same_falls ts j i u s b.fragments less (let g = b.inside in omega arith) is_u (b.first s) mid in
          let up = stripe_rises ss s.seq u.seq (omega arith) in
          let down = stripe_rises ss t.seq s.seq (omega arith) in
          let level = tells.1 in
          and_from (same_bounds s.range t.range) (ltb s.seq limit) (same_bounds-from s.range t.range same) (ended ss s.seq t.seq limit end small (outranks-from ss s.seq t.seq low (omega arith)))
      | inr (inr behind) ↦ absurd (omega arith)
    ]

-- the fragment before one tells whether another is left over the piece
pub repeated_next : (ss : List ℕ) (ts : List Tombstone) (i : ℕ) (s t : Tombstone) (limit : ℕ) → AreFragments ts → i + 1 < length ts → s ≡ get_or ts i s → t ≡ get_or ts (i + 1) t → IsEnd ss t.seq limit → s.seq < 2 ^ 56 → (same_bounds s.range t.range && ltb s.seq limit) ≡ list_any (repeats_span ss t) ts
repeated_next ss ts i s t limit f inside at_s at_t end small =
    let b : Beside ts i s t = record { fragments = f; inside = inside; first = λ d. get_or_default ts i d s (omega arith) ∙ sym at_s; second = λ d. get_or_default ts (i + 1) d t inside ∙ sym at_t } in
    both_ways (same_bounds s.range t.range && ltb s.seq limit) (list_any (repeats_span ss t) ts) (repeat_to ss ts i s t limit b end small) (repeat_from ss ts i s t limit b end small)

pub repeat_told : (ss : List ℕ) (ts : List Tombstone) (at : ℕ) (s t : Tombstone) (n limit : ℕ) → AreFragments ts → All (λ x. x.seq < 2 ^ 56) ts → 0 < at → at < length ts → s ≡ get_or ts (at - 1) s → t ≡ get_or ts at t → IsEnd ss n limit → n ≡ t.seq → (same_bounds s.range t.range && ltb s.seq limit) ≡ list_any (repeats_span ss t) ts
repeat_told ss ts at s t n limit f small some inside at_s at_t end seqs =
    let place : at ≡ (at - 1) + 1 = omega arith in
    repeated_next ss ts (at - 1) s t limit f (omega arith) at_s (at_t ∙ ap (λ m. get_or ts m t) place) (subst (λ m. IsEnd ss m limit) seqs end) (subst (λ (x : Tombstone). x.seq < 2 ^ 56) (sym at_s) (small (at - 1) s (omega arith)))

pub repeat_first : (ss : List ℕ) (ts : List Tombstone) (at : ℕ) (t : Tombstone) → AreFragments ts → at ≤ 0 → at < length ts → t ≡ get_or ts at t → false ≡ list_any (repeats_span ss t) ts
repeat_first ss ts at t f none inside at_t =
    let place : at ≡ 0 = omega arith in
    sym (repeated_none ss ts t f (omega arith) (ap (λ m. get_or ts m t) (sym place) ∙ sym at_t))

-- what is left of fragments are fragments, which are made again as they are

pub fragments_left : (p : Tombstone → Bool) (ts : List Tombstone) → AreFragments ts → AreFragments (filter p ts)
fragments_left p ts f = record {
  ordered = All-filter p (λ t. IsTrue (is_ordered t)) ts f.ordered;
  apart = AllPairs-filter (λ s t. IsTrue (precedes s t)) p ts f.apart;
}

made_again : {E : Type 0} (r : Result (List Tombstone) E) (xs : List Tombstone) → AreFragments xs → IfOk r (λ made. SameMembers made (pieces xs)) → IfOk r AreFragments → IfOk r (λ made. made ≡ xs)
made_again (Err e) xs f members fragments = tt
made_again (Ok made) xs f members fragments =
    let whole = fragments_themselves xs f in
    fragments_are_one made xs fragments f (λ t. ((λ h. (whole t).0 ((members t).0 h)), (λ h. (members t).1 ((whole t).1 h))))

pub left_again : {E : Type 0} (r : Result (List Tombstone) E) (p : Tombstone → Bool) (ts items : List Tombstone) → AreFragments ts → items ≡ filter p ts → IfOk r (λ made. SameMembers made (pieces items)) → IfOk r AreFragments → IfOk r (λ made. made ≡ filter p ts)
left_again r p ts items f e members fragments =
    made_again r (filter p ts) (fragments_left p ts f) (subst (λ xs. IfOk r (λ made. SameMembers made (pieces xs))) e members) fragments
