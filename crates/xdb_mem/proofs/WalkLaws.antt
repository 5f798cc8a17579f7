-- Walks over the index of range deletes: what is skipped, and what comes of each step.
use Rattle.std.proofs.Common.{◌≡◌, ℕ, zero, suc, ◌+◌, ◌-◌, ◌<◌, ◌≤◌, Bool, true, false, ltb, ◌&&◌, ◌||◌, List, [], ◌∷◌, ◌++◌, length, get_or, drop, Option, Some, None, inl, inr, refl, sym, ap, ◌∙◌, subst, arith}
use Rattle.std.proofs.lemmas.Bool.{cases_Bool}
use Rattle.std.proofs.lemmas.List.{drop_more, drop_all, append-nil}
use Rattle.std.specs.List.{filter_map, list_any, cons_option}
use Rattle.std.specs.Option.{option_to_list}
use Rattle.xdb_key.specs.Bounds.{Bounds, meets}
use Rattle.xdb_key.specs.Entries.{Tombstone}
use Rattle.xdb_rangedel.specs.Members.{Has, SameMembers}
use Rattle.xdb_rangedel.proofs.MemberLaws.{Has-append_left, Has-append_right, Has-append_cases, Has-map, Has-get_or}
use Rattle.xdb_mem.specs.Blocks.{span_at, spans_of, AreApart}
use Rattle.xdb_mem.specs.declared.index.Block.{Block}
use Rattle.xdb_mem.specs.Parts.{part_below}
use Rattle.xdb_mem.proofs.TouchLaws.{any-from}

no_block : Block
no_block = record { place = 0; from = 0; first = 0; last = 0 }

skipped-by : {Y : Type 0} (F : List Tombstone → Y) (ts : List Tombstone) (bs : List Block) (range : Bounds) (n from end : ℕ) → ((t : Tombstone) (rest : List Tombstone) → meets t.range range ≡ false → F (t ∷ rest) ≡ F rest) → from + n ≡ end → end ≤ length bs → AreApart ts bs range from end → F (spans_of ts (drop from bs)) ≡ F (spans_of ts (drop end bs))
skipped-by F ts bs range zero from end step sum bound apart = ap (λ k. F (spans_of ts (drop k bs))) (omega (arith, sum))
skipped-by F ts bs range (suc n) from end step sum bound apart =
    let x = get_or bs from no_block in
    ap (λ xs. F (spans_of ts xs)) (drop_more bs from no_block (omega (arith, sum, bound)))
    ∙ step (span_at ts x.place) (spans_of ts (drop (from + 1) bs)) (apart from no_block (omega arith) (omega (arith, sum)))
    ∙ skipped-by F ts bs range n (from + 1) end step (omega (arith, sum)) bound (λ j d low high. apart j d (omega (arith, low)) high)

-- what passes by all that lies apart from the range passes by the blocks that are skipped
pub skipped : {Y : Type 0} (F : List Tombstone → Y) (ts : List Tombstone) (bs : List Block) (range : Bounds) (from end : ℕ) → ((t : Tombstone) (rest : List Tombstone) → meets t.range range ≡ false → F (t ∷ rest) ≡ F rest) → from ≤ end → end ≤ length bs → AreApart ts bs range from end → F (spans_of ts (drop from bs)) ≡ F (spans_of ts (drop end bs))
skipped F ts bs range from end step low bound apart = skipped-by F ts bs range (end - from) from end step (omega (arith, low)) bound apart

pub clips_apart : (range : Bounds) (limit : ℕ) (t : Tombstone) (rest : List Tombstone) → meets t.range range ≡ false → filter_map (part_below range limit) (t ∷ rest) ≡ filter_map (part_below range limit) rest
clips_apart range limit t rest none = elim (cases_Bool (ltb t.seq limit)) [ inl e ↦ rw (e, none) refl | inr e ↦ rw e refl ]

-- a range delete numbered below the limit meets the range
abbrev pub is_met : Bounds → ℕ → Tombstone → Bool
is_met range limit t = ltb t.seq limit && meets t.range range

pub meets_apart : (range : Bounds) (limit : ℕ) (t : Tombstone) (rest : List Tombstone) → meets t.range range ≡ false → list_any (is_met range limit) (t ∷ rest) ≡ list_any (is_met range limit) rest
meets_apart range limit t rest none = elim (cases_Bool (ltb t.seq limit)) [ inl e ↦ rw (e, none) refl | inr e ↦ rw e refl ]

-- ---- one step of a walk

-- the span at the end of what is left, and what comes of it
pub next_span : (ts : List Tombstone) (bs : List Block) (at : ℕ) (t : Tombstone) → at < length bs → ((d : Block) → t ≡ span_at ts (get_or bs at d).place) → spans_of ts (drop at bs) ≡ t ∷ spans_of ts (drop (at + 1) bs)
next_span ts bs at t inside is =
    ap (spans_of ts) (drop_more bs at no_block inside) ∙ ap (λ x. x ∷ spans_of ts (drop (at + 1) bs)) (sym (is no_block))

turned : {A : Type 0} (old xs out : List A) (o : Option A) → SameMembers out (old ++ xs) → SameMembers (out ++ option_to_list o) (old ++ cons_option o xs)
turned old xs out None same = λ z. (
  λ h. elim (Has-append_cases out [] z h) [ inl g ↦ (same z).0 g | inr g ↦ absurd g ],
  λ h. Has-append_left out [] z ((same z).1 h),
)
turned old xs out (Some x) same = λ z. (
  λ h. elim (Has-append_cases out (x ∷ []) z h) [
    | inl g ↦ elim (Has-append_cases old xs z ((same z).0 g)) [
      | inl a ↦ Has-append_left old (x ∷ xs) z a
      | inr b ↦ Has-append_right old (x ∷ xs) z (inr b)
    ]
    | inr (inl e) ↦ Has-append_right old (x ∷ xs) z (inl e)
    | inr (inr nothing) ↦ absurd nothing
  ],
  λ h. elim (Has-append_cases old (x ∷ xs) z h) [
    | inl a ↦ Has-append_left out (x ∷ []) z ((same z).1 (Has-append_left old xs z a))
    | inr (inl e) ↦ Has-append_right out (x ∷ []) z (inl e)
    | inr (inr b) ↦ Has-append_left out (x ∷ []) z ((same z).1 (Has-append_right old xs z b))
  ],
)

-- what a walk that clips has so far: the parts of the spans from `left` on
abbrev pub Clips : List Tombstone → List Block → Bounds → ℕ → List Tombstone → ℕ → List Tombstone → Type 0
Clips ts bs range limit old left out = SameMembers out (old ++ filter_map (part_below range limit) (spans_of ts (drop left bs)))

pub clips_skip : (ts : List Tombstone) (bs : List Block) (range : Bounds) (limit : ℕ) (old : List Tombstone) (from end : ℕ) (out : List Tombstone) → from ≤ end → end ≤ length bs → AreApart ts bs range from end → Clips ts bs range limit old end out → Clips ts bs range limit old from out
clips_skip ts bs range limit old from end out low bound apart clips =
    subst (λ xs. SameMembers out (old ++ xs)) (sym (skipped (filter_map (part_below range limit)) ts bs range from end (clips_apart range limit) low bound apart)) clips

pub clips_one : (ts : List Tombstone) (bs : List Block) (range : Bounds) (limit : ℕ) (old : List Tombstone) (at : ℕ) (out now : List Tombstone) (t : Tombstone) → at < length bs → ((d : Block) → t ≡ span_at ts (get_or bs at d).place) → now ≡ out ++ option_to_list (part_below range limit t) → Clips ts bs range limit old (at + 1) out → Clips ts bs range limit old at now
clips_one ts bs range limit old at out now t inside is made clips =
    let f = part_below range limit in
    subst (λ xs. SameMembers xs (old ++ filter_map f (spans_of ts (drop at bs)))) (sym made)
    (subst (λ xs. SameMembers (out ++ option_to_list (f t)) (old ++ filter_map f xs)) (sym (next_span ts bs at t inside is))
    (turned old (filter_map f (spans_of ts (drop (at + 1) bs))) out (f t) clips))

pub clips_none : (ts : List Tombstone) (bs : List Block) (range : Bounds) (limit : ℕ) (old : List Tombstone) (end : ℕ) → length bs ≤ end → Clips ts bs range limit old end old
clips_none ts bs range limit old end all =
    subst (λ xs. SameMembers old (old ++ filter_map (part_below range limit) (spans_of ts xs))) (sym (drop_all end bs all)) (subst (SameMembers old) (sym (append-nil old)) (λ z. (λ h. h, λ h. h)))

pub clips_turn : (ts : List Tombstone) (bs : List Block) (range : Bounds) (limit : ℕ) (old : List Tombstone) (left from : ℕ) (out now : List Tombstone) (t : Tombstone) → 0 < left → left ≤ length bs → ((d : Block) → t ≡ span_at ts (get_or bs (left - 1) d).place) → now ≡ out ++ option_to_list (part_below range limit t) → from ≤ left - 1 → AreApart ts bs range from (left - 1) → Clips ts bs range limit old left out → Clips ts bs range limit old from now
clips_turn ts bs range limit old left from out now t some bound is made low apart clips =
    let at = left - 1 in
    let next : left ≡ at + 1 = omega (arith, some) in
    clips_skip ts bs range limit old from at now low (omega (arith, bound)) apart
    (clips_one ts bs range limit old at out now t (omega (arith, some, bound)) is made (subst (λ n. Clips ts bs range limit old n out) next clips))

-- ---- a walk that looks for one

-- none of the spans from `left` on
abbrev pub NoneFrom : List Tombstone → List Block → Bounds → ℕ → ℕ → Type 0
NoneFrom ts bs range limit left = list_any (is_met range limit) (spans_of ts (drop left bs)) ≡ false

pub none_skip : (ts : List Tombstone) (bs : List Block) (range : Bounds) (limit from end : ℕ) → from ≤ end → end ≤ length bs → AreApart ts bs range from end → NoneFrom ts bs range limit end → NoneFrom ts bs range limit from
none_skip ts bs range limit from end low bound apart none = skipped (list_any (is_met range limit)) ts bs range from end (meets_apart range limit) low bound apart ∙ none

pub none_behind : (ts : List Tombstone) (bs : List Block) (range : Bounds) (limit end : ℕ) → length bs ≤ end → NoneFrom ts bs range limit end
none_behind ts bs range limit end all = ap (λ xs. list_any (is_met range limit) (spans_of ts xs)) (drop_all end bs all)

pub none_turn : (ts : List Tombstone) (bs : List Block) (range : Bounds) (limit left from : ℕ) (t : Tombstone) → 0 < left → left ≤ length bs → ((d : Block) → t ≡ span_at ts (get_or bs (left - 1) d).place) → is_met range limit t ≡ false → from ≤ left - 1 → AreApart ts bs range from (left - 1) → NoneFrom ts bs range limit left → NoneFrom ts bs range limit from
none_turn ts bs range limit left from t some bound is not_met low apart none =
    let at = left - 1 in
    let next : left ≡ at + 1 = omega (arith, some) in
    let rest : NoneFrom ts bs range limit (at + 1) = subst (NoneFrom ts bs range limit) next none in
    none_skip ts bs range limit from at low (omega (arith, bound)) apart
    (ap (list_any (is_met range limit)) (next_span ts bs at t (omega (arith, some, bound)) is) ∙ ap (λ b. b || list_any (is_met range limit) (spans_of ts (drop (at + 1) bs))) not_met ∙ rest)

pub met_here : (ts : List Tombstone) (bs : List Block) (range : Bounds) (limit at : ℕ) (t : Tombstone) → at < length bs → ((d : Block) → t ≡ span_at ts (get_or bs at d).place) → is_met range limit t ≡ true → list_any (is_met range limit) (spans_of ts bs) ≡ true
met_here ts bs range limit at t inside is met =
    let b = get_or bs at no_block in
    any-from (is_met range limit) (spans_of ts bs) t (subst (Has (spans_of ts bs)) (sym (is no_block)) (Has-map (λ (x : Block). span_at ts x.place) bs b (Has-get_or bs at no_block inside))) met
