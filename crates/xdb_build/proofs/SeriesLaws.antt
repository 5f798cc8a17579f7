-- Tables that hold entries and spans one after another: what follows for all of them.
use Rattle.std.proofs.Common.{◌≡◌, ℕ, zero, suc, ◌+◌, ◌-◌, ◌<◌, ◌≤◌, true, false, cond, List, [], ◌∷◌, ◌++◌, length, take, drop, map, Option, Some, None, IfSome, IsSome, IsTrue, inl, inr, ◌⊎◌, refl, sym, ap, ◌∙◌, subst, arith, append_assoc, append-nil, not}
use Rattle.std.proofs.lemmas.Bool.{cases_Bool, and_from, and_parts, and_left, and_right, false≢true}
use Rattle.std.proofs.lemmas.List.{map-append}
use Rattle.std.proofs.lemmas.List.Elements.{All-nil, filter-append}
use Rattle.std.proofs.lemmas.List.Kept.{AllPairs-cons}
use Rattle.std.proofs.lemmas.Option.{cond_some}
use Rattle.std.specs.List.{AllByRecursion, flat_map, filter, range_with_len}
use Rattle.xdb_halves.specs.Beside.{item_reach}
use Rattle.xdb_key.proofs.InOrderLaws.{before_keys}
use Rattle.xdb_key.proofs.OrderLaws.{below-itself, upto-itself, upto-not_below, upto_from_below, upto_trans, upto_antisymm, below_upto, upto_below, below-successor}
use Rattle.xdb_key.specs.Bounds.{Bounds, bounds, key_hull, successor}
use Rattle.xdb_key.specs.Entries.{Point, Tombstone, tombstone, Reach, reach}
use Rattle.xdb_key.specs.InOrder.{comes_before, AreInOrder}
use Rattle.xdb_key.specs.Order.{is_below, is_upto}
use Rattle.xdb_meta.specs.Table.{Table}
use Rattle.xdb_rangedel.proofs.FragmentLaws.{All-at_Has, All-from_Has, AllPairs-head, AllPairs-tail, AreFragments-parts_from}
use Rattle.xdb_rangedel.proofs.MemberLaws.{Has-append_cases, Has-append_left, Has-append_right, Has-map, Has-from_map, Has-filter_map, Has-from_filter_map}
use Rattle.xdb_rangedel.specs.Clip.{later_of, earlier_of, starting_from, ending_by, part_before, part_from, parts_before, parts_from}
use Rattle.xdb_rangedel.specs.Content.{Item, entry, span, entry_of, value_at, content_of}
use Rattle.xdb_rangedel.specs.Members.{Has, SameMembers}
use Rattle.xdb_rangedel.specs.Pieces.{splits, cut_span, cut_spans, cut_all, is_ordered, AreFragments}
use Rattle.xdb_build.proofs.CutLaws.{weight-append, weight-cons}
use Rattle.xdb_build.specs.Cuts.{weight_of, is_before, IsFull, IsOpen}
use Rattle.xdb_build.specs.Outputs.{IsInFile, IsReachOf, Pairwise, AreApart, file_content, content_told, contents, AreTold, cuts, BeginsWithEntry}
use Rattle.xdb_build.specs.Series.{AreBefore, IsCut, AreOutputs}

-- ---- cutting spans at bounds

-- each of the spans starts before it ends
abbrev pub AreOrdered : List Tombstone → Type 0
AreOrdered ts = (t : Tombstone) → Has ts t → is_ordered t ≡ true

cut_spans-append : (at : List ℕ) (xs ys : List Tombstone) → cut_spans at (xs ++ ys) ≡ cut_spans at xs ++ cut_spans at ys
cut_spans-append at [] ys = refl
cut_spans-append at (x ∷ xs) ys = ap (λ zs. cut_span at x ++ zs) (cut_spans-append at xs ys) ∙ sym (append_assoc (cut_span at x) (cut_spans at xs) (cut_spans at ys))

cut_all-append : (ats : List (List ℕ)) (xs ys : List Tombstone) → cut_all ats (xs ++ ys) ≡ cut_all ats xs ++ cut_all ats ys
cut_all-append [] xs ys = refl
cut_all-append (at ∷ ats) xs ys = ap (cut_all ats) (cut_spans-append at xs ys) ∙ cut_all-append ats (cut_spans at xs) (cut_spans at ys)

cut_spans-from : (at : List ℕ) (ts : List Tombstone) (u : Tombstone) → Has (cut_spans at ts) u → (s : Tombstone) × Has ts s × Has (cut_span at s) u
cut_spans-from at [] u h = absurd h
cut_spans-from at (t ∷ ts) u h = elim (Has-append_cases (cut_span at t) (cut_spans at ts) u h) [
  | inl g ↦ (t, inl refl, g)
  | inr g ↦ let from = cut_spans-from at ts u g in (from.0, inr from.1, from.2)
]

cut_spans-has : (at : List ℕ) (ts : List Tombstone) (s u : Tombstone) → Has ts s → Has (cut_span at s) u → Has (cut_spans at ts) u
cut_spans-has at [] s u h g = absurd h
cut_spans-has at (t ∷ ts) s u (inl e) g = Has-append_left (cut_span at t) (cut_spans at ts) u (subst (λ x. Has (cut_span at x) u) (sym e) g)
cut_spans-has at (t ∷ ts) s u (inr h) g = Has-append_right (cut_span at t) (cut_spans at ts) u (cut_spans-has at ts s u h g)

pub cut_spans-same : (at : List ℕ) (xs ys : List Tombstone) → SameMembers xs ys → SameMembers (cut_spans at xs) (cut_spans at ys)
cut_spans-same at xs ys same = λ t. (
  (λ h. let from = cut_spans-from at xs t h in cut_spans-has at ys from.0 t ((same from.0).0 from.1) from.2),
  (λ h. let from = cut_spans-from at ys t h in cut_spans-has at xs from.0 t ((same from.0).1 from.1) from.2),
)

pub cut_all-same : (ats : List (List ℕ)) (xs ys : List Tombstone) → SameMembers xs ys → SameMembers (cut_all ats xs) (cut_all ats ys)
cut_all-same [] xs ys same = same
cut_all-same (at ∷ ats) xs ys same = cut_all-same ats (cut_spans at xs) (cut_spans at ys) (cut_spans-same at xs ys same)

-- spans that no bound lies inside
cut_spans-whole : (at : List ℕ) (ts : List Tombstone) → ((t : Tombstone) → Has ts t → splits at t ≡ false) → cut_spans at ts ≡ ts
cut_spans-whole at [] h = refl
cut_spans-whole at (t ∷ ts) h = rw (h t (inl refl)) (ap (λ xs. t ∷ xs) (cut_spans-whole at ts (λ u g. h u (inr g))))

cut_all-whole : (ats : List (List ℕ)) (ts : List Tombstone) → ((at : List ℕ) → Has ats at → (t : Tombstone) → Has ts t → splits at t ≡ false) → cut_all ats ts ≡ ts
cut_all-whole [] ts h = refl
cut_all-whole (at ∷ ats) ts h = ap (cut_all ats) (cut_spans-whole at ts (h at (inl refl))) ∙ cut_all-whole ats ts (λ a g. h a (inr g))

upto_unless : (a b : List ℕ) → is_below a b ≡ false → is_upto b a ≡ true
upto_unless a b h = upto-not_below b a ∙ ap not h

not_above : (a b : List ℕ) → is_upto a b ≡ true → is_below b a ≡ false
not_above a b h = elim (cases_Bool (is_below b a)) [
  | inl e ↦ absurd (false≢true (sym (below-itself b) ∙ below_upto b a b e h))
  | inr e ↦ e
]

earlier-at : (at hi : List ℕ) → is_below at hi ≡ true → earlier_of at hi ≡ at
earlier-at at hi h = ap (λ b. cond b at hi) h

earlier-hi : (at hi : List ℕ) → is_below at hi ≡ false → earlier_of at hi ≡ hi
earlier-hi at hi h = ap (λ b. cond b at hi) h

later-at : (at lo : List ℕ) → is_below lo at ≡ true → later_of at lo ≡ at
later-at at lo h = ap (λ b. cond b at lo) h

later-lo : (at lo : List ℕ) → is_below lo at ≡ false → later_of at lo ≡ lo
later-lo at lo h = ap (λ b. cond b at lo) h

-- the part before a bound: where the span starts before it
before_is : (at : List ℕ) (t : Tombstone) → is_below t.range.lo at ≡ true → part_before at t ≡ Some (ending_by at t)
before_is at t h = ap (λ b. cond b (Some (ending_by at t)) None) h

from_is : (at : List ℕ) (t : Tombstone) → is_below at t.range.hi ≡ true → part_from at t ≡ Some (starting_from at t)
from_is at t h = ap (λ b. cond b (Some (starting_from at t)) None) h

-- What a span has on either side of a bound is what it is cut into there.
one_cut : (at : List ℕ) (t u : Tombstone) → is_ordered t ≡ true → Has (cut_span at t) u → (part_before at t ≡ Some u) ⊎ (part_from at t ≡ Some u)
one_cut at t u o has = elim (cases_Bool (splits at t)) [
  | inl e ↦
      let (after, before) = and_parts (is_below t.range.lo at) (is_below at t.range.hi) e in
      elim (subst (λ b. Has (cond b (tombstone (bounds t.range.lo at) t.seq ∷ tombstone (bounds at t.range.hi) t.seq ∷ []) (t ∷ [])) u) e has) [
        | inl is ↦ inl (before_is at t after ∙ ap (λ hi. Some (tombstone (bounds t.range.lo hi) t.seq)) (earlier-at at t.range.hi before) ∙ ap Some is)
        | inr (inl is) ↦ inr (from_is at t before ∙ ap (λ lo. Some (tombstone (bounds lo t.range.hi) t.seq)) (later-at at t.range.lo after) ∙ ap Some is)
        | inr (inr h) ↦ absurd h
      ]
  | inr e ↦ elim (subst (λ b. Has (cond b (tombstone (bounds t.range.lo at) t.seq ∷ tombstone (bounds at t.range.hi) t.seq ∷ []) (t ∷ [])) u) e has) [
    | inl is ↦ elim (cases_Bool (is_below t.range.lo at)) [
      | inl after ↦
          let ended : is_below at t.range.hi ≡ false = elim (cases_Bool (is_below at t.range.hi)) [
            | inl k ↦ absurd (false≢true (sym e ∙ and_from (is_below t.range.lo at) (is_below at t.range.hi) after k))
            | inr k ↦ k
          ] in
          inl (before_is at t after ∙ ap (λ hi. Some (tombstone (bounds t.range.lo hi) t.seq)) (earlier-hi at t.range.hi ended) ∙ ap Some is)
      | inr late ↦ inr (from_is at t (upto_below at t.range.lo t.range.hi (upto_unless t.range.lo at late) o) ∙ ap (λ lo. Some (tombstone (bounds lo t.range.hi) t.seq)) (later-lo at t.range.lo late) ∙ ap Some is)
    ]
    | inr h ↦ absurd h
  ]
]

whole_piece : (at : List ℕ) (t : Tombstone) → splits at t ≡ false → Has (cut_span at t) t
whole_piece at t e = subst (λ b. Has (cond b (tombstone (bounds t.range.lo at) t.seq ∷ tombstone (bounds at t.range.hi) t.seq ∷ []) (t ∷ [])) t) (sym e) (inl refl)

left_piece : (at : List ℕ) (t : Tombstone) → splits at t ≡ true → Has (cut_span at t) (tombstone (bounds t.range.lo at) t.seq)
left_piece at t e = subst (λ b. Has (cond b (tombstone (bounds t.range.lo at) t.seq ∷ tombstone (bounds at t.range.hi) t.seq ∷ []) (t ∷ [])) (tombstone (bounds t.range.lo at) t.seq)) (sym e) (inl refl)

right_piece : (at : List ℕ) (t : Tombstone) → splits at t ≡ true → Has (cut_span at t) (tombstone (bounds at t.range.hi) t.seq)
right_piece at t e = subst (λ b. Has (cond b (tombstone (bounds t.range.lo at) t.seq ∷ tombstone (bounds at t.range.hi) t.seq ∷ []) (t ∷ [])) (tombstone (bounds at t.range.hi) t.seq)) (sym e) (inr (inl refl))

same_part : {t u v : Tombstone} → Some u ≡ Some t → v ≡ u → v ≡ t
same_part e g = cc

cut_of_before : (at : List ℕ) (t u : Tombstone) → part_before at t ≡ Some u → Has (cut_span at t) u
cut_of_before at t u e =
    let (after, is) = cond_some (is_below t.range.lo at) (ending_by at t) u e in
    elim (cases_Bool (is_below at t.range.hi)) [
      | inl k ↦ subst (Has (cut_span at t)) (ap (λ hi. tombstone (bounds t.range.lo hi) t.seq) (sym (earlier-at at t.range.hi k)) ∙ is) (left_piece at t (and_from (is_below t.range.lo at) (is_below at t.range.hi) after k))
      | inr k ↦ subst (Has (cut_span at t)) (ap (λ hi. tombstone (bounds t.range.lo hi) t.seq) (sym (earlier-hi at t.range.hi k)) ∙ is) (whole_piece at t (and_right (is_below t.range.lo at) (is_below at t.range.hi) k))
    ]

cut_of_from : (at : List ℕ) (t u : Tombstone) → part_from at t ≡ Some u → Has (cut_span at t) u
cut_of_from at t u e =
    let (before, is) = cond_some (is_below at t.range.hi) (starting_from at t) u e in
    elim (cases_Bool (is_below t.range.lo at)) [
      | inl k ↦ subst (Has (cut_span at t)) (ap (λ lo. tombstone (bounds lo t.range.hi) t.seq) (sym (later-at at t.range.lo k)) ∙ is) (right_piece at t (and_from (is_below t.range.lo at) (is_below at t.range.hi) k before))
      | inr k ↦ subst (Has (cut_span at t)) (ap (λ lo. tombstone (bounds lo t.range.hi) t.seq) (sym (later-lo at t.range.lo k)) ∙ is) (whole_piece at t (and_left (is_below t.range.lo at) (is_below at t.range.hi) k))
    ]

pub cut_in_two : (at : List ℕ) (ts : List Tombstone) → AreOrdered ts → SameMembers (cut_spans at ts) (parts_before at ts ++ parts_from at ts)
cut_in_two at ts ordered u = (
  (λ h.
      let from = cut_spans-from at ts u h in
      elim (one_cut at from.0 u (ordered from.0 from.1) from.2) [
        | inl e ↦ Has-append_left (parts_before at ts) (parts_from at ts) u (Has-filter_map (part_before at) ts from.0 u from.1 e)
        | inr e ↦ Has-append_right (parts_before at ts) (parts_from at ts) u (Has-filter_map (part_from at) ts from.0 u from.1 e)
      ]),
  (λ h. elim (Has-append_cases (parts_before at ts) (parts_from at ts) u h) [
    | inl g ↦ let from = Has-from_filter_map (part_before at) ts u g in cut_spans-has at ts from.0 u from.1 (cut_of_before at from.0 u from.2)
    | inr g ↦ let from = Has-from_filter_map (part_from at) ts u g in cut_spans-has at ts from.0 u from.1 (cut_of_from at from.0 u from.2)
  ]),
)

-- ---- what lies on either side of a bound

earlier-upto : (at hi : List ℕ) → is_upto (earlier_of at hi) at ≡ true
earlier-upto at hi = elim (cases_Bool (is_below at hi)) [
  | inl k ↦ ap (λ x. is_upto x at) (earlier-at at hi k) ∙ upto-itself at
  | inr k ↦ ap (λ x. is_upto x at) (earlier-hi at hi k) ∙ upto_unless at hi k
]

earlier-upto_hi : (at hi : List ℕ) → is_upto (earlier_of at hi) hi ≡ true
earlier-upto_hi at hi = elim (cases_Bool (is_below at hi)) [
  | inl k ↦ ap (λ x. is_upto x hi) (earlier-at at hi k) ∙ upto_from_below at hi k
  | inr k ↦ ap (λ x. is_upto x hi) (earlier-hi at hi k) ∙ upto-itself hi
]

later-upto : (at lo : List ℕ) → is_upto at (later_of at lo) ≡ true
later-upto at lo = elim (cases_Bool (is_below lo at)) [
  | inl k ↦ ap (is_upto at) (later-at at lo k) ∙ upto-itself at
  | inr k ↦ ap (is_upto at) (later-lo at lo k) ∙ upto_unless lo at k
]

later-upto_lo : (at lo : List ℕ) → is_upto lo (later_of at lo) ≡ true
later-upto_lo at lo = elim (cases_Bool (is_below lo at)) [
  | inl k ↦ ap (is_upto lo) (later-at at lo k) ∙ upto_from_below lo at k
  | inr k ↦ ap (is_upto lo) (later-lo at lo k) ∙ upto-itself lo
]

-- the keys of an item: those of a span, or the one of an entry
abbrev pub range_of : Item → Bounds
range_of i = bounds (item_reach i).lo (item_reach i).hi

-- a span's part lies within the span
record IsPart (t u : Tombstone) : Type 0 where
  pub lo : is_upto t.range.lo u.range.lo ≡ true
  pub hi : is_upto u.range.hi t.range.hi ≡ true

part_before-is : (at : List ℕ) (ts : List Tombstone) (u : Tombstone) → Has (parts_before at ts) u → (t : Tombstone) × Has ts t × IsPart t u × (is_upto u.range.hi at ≡ true)
part_before-is at ts u has =
    let from = Has-from_filter_map (part_before at) ts u has in
    let is = (cond_some (is_below from.0.range.lo at) (ending_by at from.0) u from.2).1 in
    (from.0, from.1, subst (IsPart from.0) is (record { lo = upto-itself from.0.range.lo; hi = earlier-upto_hi at from.0.range.hi }), subst (λ (x : Tombstone). is_upto x.range.hi at ≡ true) is (earlier-upto at from.0.range.hi))

part_from-is : (at : List ℕ) (ts : List Tombstone) (u : Tombstone) → Has (parts_from at ts) u → (t : Tombstone) × Has ts t × IsPart t u × (is_upto at u.range.lo ≡ true)
part_from-is at ts u has =
    let from = Has-from_filter_map (part_from at) ts u has in
    let is = (cond_some (is_below at from.0.range.hi) (starting_from at from.0) u from.2).1 in
    (from.0, from.1, subst (IsPart from.0) is (record { lo = later-upto_lo at from.0.range.lo; hi = upto-itself from.0.range.hi }), subst (λ (x : Tombstone). is_upto at x.range.lo ≡ true) is (later-upto at from.0.range.lo))

-- a property of keys that what lies within has too
abbrev pub IsKept : (Bounds → Type 0) → Type 0
IsKept Q = (r o : Bounds) → is_upto r.lo o.lo ≡ true → is_upto o.hi r.hi ≡ true → Q r → Q o

abbrev pub AllKeys : (Bounds → Type 0) → List Point → List Tombstone → Type 0
AllKeys Q ps ts = ((p : Point) → Has ps p → Q (key_hull p.key)) × ((t : Tombstone) → Has ts t → Q t.range)

of_items : (Q : Bounds → Type 0) (ps : List Point) (ts : List Tombstone) → AllKeys Q ps ts → (h : Reach) → Has (map item_reach (content_of ps ts)) h → Q (bounds h.lo h.hi)
of_items Q ps ts all h has =
    let i = Has-from_map item_reach (content_of ps ts) h has in
    elim (Has-append_cases (map entry_of ps) (map span ts) i.0 i.1) [
      | inl g ↦ let p = Has-from_map entry_of ps i.0 g in subst (λ (r : Reach). Q (bounds r.lo r.hi)) (ap item_reach p.2 ∙ i.2) (all.0 p.0 p.1)
      | inr g ↦ let t = Has-from_map span ts i.0 g in subst (λ (r : Reach). Q (bounds r.lo r.hi)) (ap item_reach t.2 ∙ i.2) (all.1 t.0 t.1)
    ]

-- the keys that a table's bounds are of
pub record HasKeys (Q : Bounds → Type 0) (t : Table) : Type 0 where
  pub lo : (r : Bounds) × Q r × (r.lo ≡ t.lo)
  pub hi : (r : Bounds) × Q r × (r.hi ≡ t.hi)

table_keys : (Q : Bounds → Type 0) (ps : List Point) (ts : List Tombstone) (t : Table) → AllKeys Q ps ts → IsReachOf t (content_of ps ts) → HasKeys Q t
table_keys Q ps ts t all reach = record {
  lo = (bounds reach.lo.0.lo reach.lo.0.hi, of_items Q ps ts all reach.lo.0 reach.lo.1, reach.lo.2);
  hi = (bounds reach.hi.0.lo reach.hi.0.hi, of_items Q ps ts all reach.hi.0 reach.hi.1, reach.hi.2);
}

keys_before : (Q : Bounds → Type 0) (most : ℕ) (ps here : List Point) (p : Point) (behind : List Point) (ts : List Tombstone) → IsKept Q → IsCut most ps here p behind → AllKeys Q ps ts → AllKeys Q here (parts_before p.key ts)
keys_before Q most ps here p behind ts kept c all = (
  (λ q h. all.0 q (subst (λ xs. Has xs q) (sym c.whole) (Has-append_left here (p ∷ behind) q h))),
  (λ u h. let from = part_before-is p.key ts u h in kept from.0.range u.range from.2.lo from.2.hi (all.1 from.0 from.1)),
)

keys_from : (Q : Bounds → Type 0) (most : ℕ) (ps here : List Point) (p : Point) (behind : List Point) (ts : List Tombstone) → IsKept Q → IsCut most ps here p behind → AllKeys Q ps ts → AllKeys Q (p ∷ behind) (parts_from p.key ts)
keys_from Q most ps here p behind ts kept c all = (
  (λ q h. all.0 q (subst (λ xs. Has xs q) (sym c.whole) (Has-append_right here (p ∷ behind) q h))),
  (λ u h. let from = part_from-is p.key ts u h in kept from.0.range u.range from.2.lo from.2.hi (all.1 from.0 from.1)),
)

module _ {F : Type 0} (size : F → ℕ) (bytes : F → Option (List ℕ)) where
  pub each_has_keys : (Q : Bounds → Type 0) (most num : ℕ) (ps : List Point) (ss : List Tombstone) (ts : List Table) (fs : List (ℕ × F)) → IsKept Q → AllKeys Q ps ss → AreOutputs size bytes most num ps ss ts fs → AllByRecursion (HasKeys Q) ts
  each_has_keys Q most num ps ss [] fs kept all o = absurd o
  each_has_keys Q most num ps ss (t ∷ ts) [] kept all o = absurd o
  each_has_keys Q most num ps ss (t ∷ []) (f ∷ []) kept all o = (table_keys Q ps ss t all o.2.reach, tt)
  each_has_keys Q most num ps ss (t ∷ []) (f ∷ g ∷ fs) kept all o = absurd o
  each_has_keys Q most num ps ss (t ∷ u ∷ ts) (f ∷ fs) kept all (here, p, behind, c, one, rest) = (
    table_keys Q here (parts_before p.key ss) t (keys_before Q most ps here p behind ss kept c all) one.reach,
    each_has_keys Q (most - 1) (num + 1) (p ∷ behind) (parts_from p.key ss) (u ∷ ts) fs kept (keys_from Q most ps here p behind ss kept c all) rest,
  )

  -- ---- numbers and files

  pub numbers_rise : (most num : ℕ) (ps : List Point) (ss : List Tombstone) (ts : List Table) (fs : List (ℕ × F)) → AreOutputs size bytes most num ps ss ts fs → map (λ t. t.num) ts ≡ range_with_len num (length ts)
  numbers_rise most num ps ss [] fs o = absurd o
  numbers_rise most num ps ss (t ∷ ts) [] o = absurd o
  numbers_rise most num ps ss (t ∷ []) (f ∷ []) o = ap (λ n. n ∷ []) o.2.num
  numbers_rise most num ps ss (t ∷ []) (f ∷ g ∷ fs) o = absurd o
  numbers_rise most num ps ss (t ∷ u ∷ ts) (f ∷ fs) (here, p, behind, c, one, rest) =
      λ i. one.num i ∷ numbers_rise (most - 1) (num + 1) (p ∷ behind) (parts_from p.key ss) (u ∷ ts) fs rest i

  pub few_tables : (most num : ℕ) (ps : List Point) (ss : List Tombstone) (ts : List Table) (fs : List (ℕ × F)) → AreOutputs size bytes most num ps ss ts fs → length ts ≤ most
  few_tables most num ps ss [] fs o = absurd o
  few_tables most num ps ss (t ∷ ts) [] o = absurd o
  few_tables most num ps ss (t ∷ []) (f ∷ []) o = o.0
  few_tables most num ps ss (t ∷ []) (f ∷ g ∷ fs) o = absurd o
  few_tables most num ps ss (t ∷ u ∷ ts) (f ∷ fs) (here, p, behind, c, one, rest) =
      let more = few_tables (most - 1) (num + 1) (p ∷ behind) (parts_from p.key ss) (u ∷ ts) fs rest in
      omega (arith, more, c.room)

  pub own_files : (most num : ℕ) (ps : List Point) (ss : List Tombstone) (ts : List Table) (fs : List (ℕ × F)) → AreOutputs size bytes most num ps ss ts fs → Pairwise (IsInFile size) ts fs
  own_files most num ps ss [] fs o = absurd o
  own_files most num ps ss (t ∷ ts) [] o = absurd o
  own_files most num ps ss (t ∷ []) (f ∷ []) o = (o.2.own, tt)
  own_files most num ps ss (t ∷ []) (f ∷ g ∷ fs) o = absurd o
  own_files most num ps ss (t ∷ u ∷ ts) (f ∷ fs) (here, p, behind, c, one, rest) =
      (one.own, own_files (most - 1) (num + 1) (p ∷ behind) (parts_from p.key ss) (u ∷ ts) fs rest)

  -- ---- contents that are told

  pub told_is : (known : Option (List ℕ)) (c : List Item) → IsSome known → IfSome known (λ b. file_content b ≡ c) → content_told known ≡ c
  told_is None c some is = absurd (false≢true some)
  told_is (Some b) c some is = is

  pub own_reaches : (most num : ℕ) (ps : List Point) (ss : List Tombstone) (ts : List Table) (fs : List (ℕ × F)) → AreTold bytes fs → AreOutputs size bytes most num ps ss ts fs → Pairwise IsReachOf ts (contents bytes fs)
  own_reaches most num ps ss [] fs told o = absurd o
  own_reaches most num ps ss (t ∷ ts) [] told o = absurd o
  own_reaches most num ps ss (t ∷ []) (f ∷ []) told o = (subst (IsReachOf t) (sym (told_is (bytes f.1) (content_of ps ss) told.0 o.2.told)) o.2.reach, tt)
  own_reaches most num ps ss (t ∷ []) (f ∷ g ∷ fs) told o = absurd o
  own_reaches most num ps ss (t ∷ u ∷ ts) (f ∷ fs) told (here, p, behind, c, one, rest) = (
    subst (IsReachOf t) (sym (told_is (bytes f.1) (content_of here (parts_before p.key ss)) told.0 one.told)) one.reach,
    own_reaches (most - 1) (num + 1) (p ∷ behind) (parts_from p.key ss) (u ∷ ts) fs told.1 rest,
  )

-- ---- where tables begin and end

kept_from : (at : List ℕ) → IsKept (λ r. is_upto at r.lo ≡ true)
kept_from at r o lo hi h = upto_trans at r.lo o.lo h lo

kept_by : (at : List ℕ) → IsKept (λ r. is_upto r.hi at ≡ true)
kept_by at r o lo hi h = upto_trans o.hi r.hi at hi h

-- in internal order each later key isn't before the first
later_keys : (p : Point) (ps : List Point) → AreInOrder (p ∷ ps) → (q : Point) → Has (p ∷ ps) q → is_upto p.key q.key ≡ true
later_keys p ps order q (inl e) = subst (λ (x : Point). is_upto p.key x.key ≡ true) e (upto-itself p.key)
later_keys p ps order q (inr h) = before_keys p q (All-at_Has (λ x. comes_before p x ≡ true) ps q (AllPairs-head (λ x y. comes_before x y ≡ true) p ps order) h)

behind_in_order : (here behind : List Point) → AreInOrder (here ++ behind) → AreInOrder behind
behind_in_order [] behind order = order
behind_in_order (p ∷ here) behind order = behind_in_order here behind (AllPairs-tail (λ x y. comes_before x y ≡ true) p (here ++ behind) order)

rest_in_order : {most : ℕ} {ps here : List Point} {p : Point} {behind : List Point} → IsCut most ps here p behind → AreInOrder ps → AreInOrder (p ∷ behind)
rest_in_order {here = here} {p = p} {behind = behind} c order = behind_in_order here (p ∷ behind) (subst AreInOrder c.whole order)

from_entry : (p : Point) (behind : List Point) (ts : List Tombstone) → AreInOrder (p ∷ behind) → AllKeys (λ r. is_upto p.key r.lo ≡ true) (p ∷ behind) (parts_from p.key ts)
from_entry p behind ts order = (
  (λ q h. later_keys p behind order q h),
  (λ u h. (part_from-is p.key ts u h).3),
)

by_entry : (here : List Point) (p : Point) (ts : List Tombstone) → AreBefore here p.key → AllKeys (λ r. is_upto r.hi p.key ≡ true) here (parts_before p.key ts)
by_entry here p ts before = (
  (λ q h. upto-not_below (successor q.key) p.key ∙ ap not (below-successor p.key q.key ∙ not_upto q.key p.key (before q h))),
  (λ u h. (part_before-is p.key ts u h).3),
)
  where
    not_upto : (a b : List ℕ) → is_below a b ≡ true → is_upto b a ≡ false
    not_upto a b h = upto-not_below b a ∙ ap not h

-- a table whose content begins with an entry begins there
begins_at : (p : Point) (ps : List Point) (ts : List Tombstone) (t : Table) → Has ps p → AllKeys (λ r. is_upto p.key r.lo ≡ true) ps ts → IsReachOf t (content_of ps ts) → t.lo ≡ p.key
begins_at p ps ts t has all reach =
    let keys = table_keys (λ r. is_upto p.key r.lo ≡ true) ps ts t all reach in
    upto_antisymm t.lo p.key
    ((reach.each (reach_of_entry p) (Has-map item_reach (content_of ps ts) (entry_of p) (Has-append_left (map entry_of ps) (map span ts) (entry_of p) (Has-map entry_of ps p has)))).lo)
    (subst (λ k. is_upto p.key k ≡ true) keys.lo.2 keys.lo.1)
  where
    reach_of_entry : Point → Reach
    reach_of_entry q = item_reach (entry_of q)

module _ {F : Type 0} (size : F → ℕ) (bytes : F → Option (List ℕ)) where
  -- the first of the tables begins with the first entry
  first_has : (most num : ℕ) (p : Point) (ps : List Point) (ss : List Tombstone) (t : Table) (ts : List Table) (fs : List (ℕ × F)) → AreInOrder (p ∷ ps) → AllKeys (λ r. is_upto p.key r.lo ≡ true) (p ∷ ps) ss → AreOutputs size bytes most num (p ∷ ps) ss (t ∷ ts) fs → t.lo ≡ p.key
  first_has most num p ps ss t ts [] order all o = absurd (never ts o)
    where
      never : (ts : List Table) → AreOutputs size bytes most num (p ∷ ps) ss (t ∷ ts) [] → ⊥
      never [] o = o
      never (u ∷ ts) o = o
  first_has most num p ps ss t [] (f ∷ []) order all o = begins_at p (p ∷ ps) ss t (inl refl) all o.2.reach
  first_has most num p ps ss t [] (f ∷ g ∷ fs) order all o = absurd o
  first_has most num p ps ss t (u ∷ ts) (f ∷ fs) order all (here, q, behind, c, one, rest) =
      begins_at p here (parts_before q.key ss) t (first_of here c.full c.whole) (keys_before (λ r. is_upto p.key r.lo ≡ true) most (p ∷ ps) here q behind ss (kept_from p.key) c all) one.reach
    where
      same_head : {a b : Point} {xs ys : List Point} → a ∷ xs ≡ b ∷ ys → a ≡ b
      same_head e = cc

      first_of : (xs : List Point) → IsFull (map entry_of xs) → p ∷ ps ≡ xs ++ q ∷ behind → Has xs p
      first_of [] full whole = absurd (omega (arith, full))
      first_of (x ∷ xs) full whole = inl (sym (same_head whole))

  apart_all : (at : List ℕ) (ts : List Table) → AllByRecursion (HasKeys (λ r. is_upto at r.lo ≡ true)) ts → (t : Table) → Has ts t → is_upto at t.lo ≡ true
  apart_all at [] all t has = absurd has
  apart_all at (u ∷ ts) all t (inl e) = subst (λ (x : Table). is_upto at x.lo ≡ true) e (subst (λ k. is_upto at k ≡ true) all.0.lo.2 all.0.lo.1)
  apart_all at (u ∷ ts) all t (inr h) = apart_all at ts all.1 t h

  pub tables_apart : (most num : ℕ) (ps : List Point) (ss : List Tombstone) (ts : List Table) (fs : List (ℕ × F)) → AreInOrder ps → AreOutputs size bytes most num ps ss ts fs → AreApart ts
  tables_apart most num ps ss [] fs order o = absurd o
  tables_apart most num ps ss (t ∷ ts) [] order o = absurd o
  tables_apart most num ps ss (t ∷ []) (f ∷ []) order o = AllPairs-cons (λ (s u : Table). IsTrue (is_upto s.hi u.lo)) t [] (All-nil (λ (u : Table). IsTrue (is_upto t.hi u.lo))) (λ i j d less inside. absurd (omega arith))
  tables_apart most num ps ss (t ∷ []) (f ∷ g ∷ fs) order o = absurd o
  tables_apart most num ps ss (t ∷ u ∷ ts) (f ∷ fs) order (here, p, behind, c, one, rest) =
      let later = rest_in_order c order in
      let ends = table_keys (λ r. is_upto r.hi p.key ≡ true) here (parts_before p.key ss) t (by_entry here p ss c.fresh) one.reach in
      let end : is_upto t.hi p.key ≡ true = subst (λ k. is_upto k p.key ≡ true) ends.hi.2 ends.hi.1 in
      let from = each_has_keys size bytes (λ r. is_upto p.key r.lo ≡ true) (most - 1) (num + 1) (p ∷ behind) (parts_from p.key ss) (u ∷ ts) fs (kept_from p.key) (from_entry p behind ss later) rest in
      AllPairs-cons (λ (s u : Table). IsTrue (is_upto s.hi u.lo)) t (u ∷ ts)
      (All-from_Has (λ (x : Table). IsTrue (is_upto t.hi x.lo)) (u ∷ ts) (λ x h. upto_trans t.hi p.key x.lo end (apart_all p.key (u ∷ ts) from x h)))
      (tables_apart (most - 1) (num + 1) (p ∷ behind) (parts_from p.key ss) (u ∷ ts) fs later rest)

  -- ---- what the tables hold together

  joined_same : {A : Type 0} (ws bs cs ds : List A) → SameMembers ws cs → SameMembers bs ds → SameMembers (ws ++ bs) (cs ++ ds)
  joined_same ws bs cs ds f g = λ x. (
    (λ h. elim (Has-append_cases ws bs x h) [ inl a ↦ Has-append_left cs ds x ((f x).0 a) | inr b ↦ Has-append_right cs ds x ((g x).0 b) ]),
    (λ h. elim (Has-append_cases cs ds x h) [ inl a ↦ Has-append_left ws bs x ((f x).1 a) | inr b ↦ Has-append_right ws bs x ((g x).1 b) ]),
  )

  same_itself : {A : Type 0} (xs : List A) → SameMembers xs xs
  same_itself xs x = ((λ h. h), (λ h. h))

  same_mapped : {A B : Type 0} (f : A → B) (xs ys : List A) → SameMembers xs ys → SameMembers (map f xs) (map f ys)
  same_mapped f xs ys same = λ z. (
    (λ h. let from = Has-from_map f xs z h in subst (λ x. Has (map f ys) x) from.2 (Has-map f ys from.0 ((same from.0).0 from.1))),
    (λ h. let from = Has-from_map f ys z h in subst (λ x. Has (map f xs) x) from.2 (Has-map f xs from.0 ((same from.0).1 from.1))),
  )

  same_then : {A : Type 0} (xs ys zs : List A) → SameMembers xs ys → SameMembers ys zs → SameMembers xs zs
  same_then xs ys zs f g x = ((λ h. (g x).0 ((f x).0 h)), (λ h. (f x).1 ((g x).1 h)))

  -- of two lists of entries and two of spans
  regrouped : (a b : List Item) (c d : List Item) → SameMembers ((a ++ c) ++ (b ++ d)) ((a ++ b) ++ (c ++ d))
  regrouped a b c d x = (
    (λ h. elim (Has-append_cases (a ++ c) (b ++ d) x h) [
      | inl g ↦ elim (Has-append_cases a c x g) [ inl k ↦ Has-append_left (a ++ b) (c ++ d) x (Has-append_left a b x k) | inr k ↦ Has-append_right (a ++ b) (c ++ d) x (Has-append_left c d x k) ]
      | inr g ↦ elim (Has-append_cases b d x g) [ inl k ↦ Has-append_left (a ++ b) (c ++ d) x (Has-append_right a b x k) | inr k ↦ Has-append_right (a ++ b) (c ++ d) x (Has-append_right c d x k) ]
    ]),
    (λ h. elim (Has-append_cases (a ++ b) (c ++ d) x h) [
      | inl g ↦ elim (Has-append_cases a b x g) [ inl k ↦ Has-append_left (a ++ c) (b ++ d) x (Has-append_left a c x k) | inr k ↦ Has-append_right (a ++ c) (b ++ d) x (Has-append_left b d x k) ]
      | inr g ↦ elim (Has-append_cases c d x g) [ inl k ↦ Has-append_left (a ++ c) (b ++ d) x (Has-append_right a c x k) | inr k ↦ Has-append_right (a ++ c) (b ++ d) x (Has-append_right b d x k) ]
    ]),
  )

  -- what is cut at the first of some bounds that stand in order, and then at the others
  cut_at_first : (at : List ℕ) (ats : List (List ℕ)) (ss : List Tombstone) → AreOrdered ss → ((a : List ℕ) → Has ats a → is_upto at a ≡ true) → SameMembers (cut_all ats (cut_spans at ss)) (parts_before at ss ++ cut_all ats (parts_from at ss))
  cut_at_first at ats ss ordered later =
      subst (SameMembers (cut_all ats (cut_spans at ss)))
      (cut_all-append ats (parts_before at ss) (parts_from at ss) ∙ ap (λ xs. xs ++ cut_all ats (parts_from at ss)) (cut_all-whole ats (parts_before at ss) (λ a g t h. and_right (is_below t.range.lo a) (is_below a t.range.hi) (not_above t.range.hi a (upto_trans t.range.hi at a (part_before-is at ss t h).3 (later a g))))))
      (cut_all-same ats (cut_spans at ss) (parts_before at ss ++ parts_from at ss) (cut_in_two at ss ordered))

  Has-los : (ts : List Table) (a : List ℕ) → Has (map (λ (t : Table). t.lo) ts) a → (t : Table) × Has ts t × (t.lo ≡ a)
  Has-los ts a h = Has-from_map (λ (t : Table). t.lo) ts a h

  ordered_of : (ss : List Tombstone) → AreFragments ss → AreOrdered ss
  ordered_of ss f t h = All-at_Has (λ x. is_ordered x ≡ true) ss t f.ordered h

  entry_parts : (ps here : List Point) (p : Point) (behind : List Point) → ps ≡ here ++ p ∷ behind → map entry_of ps ≡ map entry_of here ++ map entry_of (p ∷ behind)
  entry_parts ps here p behind whole = ap (map entry_of) whole ∙ map-append entry_of here (p ∷ behind)

  -- all that the entries and the spans are, with the spans cut where tables begin
  pub hold_all : (most num : ℕ) (ps : List Point) (ss : List Tombstone) (ts : List Table) (fs : List (ℕ × F)) → AreInOrder ps → AreFragments ss → AreTold bytes fs → AreOutputs size bytes most num ps ss ts fs
      → SameMembers (flat_map (λ o. o) (contents bytes fs)) (map entry_of ps ++ map span (cut_all (cuts ts) ss))
  hold_all most num ps ss [] fs order fragments told o = absurd o
  hold_all most num ps ss (t ∷ ts) [] order fragments told o = absurd o
  hold_all most num ps ss (t ∷ []) (f ∷ []) order fragments told o =
      subst (λ c. SameMembers c (content_of ps ss)) (sym (append-nil (content_told (bytes f.1)) ∙ told_is size bytes (bytes f.1) (content_of ps ss) told.0 o.2.told)) (same_itself (content_of ps ss))
  hold_all most num ps ss (t ∷ []) (f ∷ g ∷ fs) order fragments told o = absurd o
  hold_all most num ps ss (t ∷ u ∷ ts) (f ∷ fs) order fragments told (here, p, behind, c, one, rest) =
      let later = rest_in_order c order in
      let before = parts_before p.key ss in
      let after = parts_from p.key ss in
      let from = each_has_keys size bytes (λ r. is_upto p.key r.lo ≡ true) (most - 1) (num + 1) (p ∷ behind) after (u ∷ ts) fs (kept_from p.key) (from_entry p behind ss later) rest in
      let first : u.lo ≡ p.key = first_has (most - 1) (num + 1) p behind after u ts fs later (from_entry p behind ss later) rest in
      let more = hold_all (most - 1) (num + 1) (p ∷ behind) after (u ∷ ts) fs later (AreFragments-parts_from p.key ss fragments) told.1 rest in
      let rest_cuts = cuts (u ∷ ts) in
      let cut = cut_at_first p.key rest_cuts ss (ordered_of ss fragments) (λ a g. let x = Has-los ts a g in subst (λ k. is_upto p.key k ≡ true) x.2 (apart_all p.key (u ∷ ts) from x.0 (inr x.1))) in
      let spans : SameMembers (map span before ++ map span (cut_all rest_cuts after)) (map span (cut_all (u.lo ∷ rest_cuts) ss)) =
      subst (λ k. SameMembers (map span before ++ map span (cut_all rest_cuts after)) (map span (cut_all (k ∷ rest_cuts) ss))) (sym first)
      (λ x. let both = subst (λ c. SameMembers (map span (cut_all rest_cuts (cut_spans p.key ss))) c) (map-append span before (cut_all rest_cuts after)) (same_mapped span (cut_all rest_cuts (cut_spans p.key ss)) (before ++ cut_all rest_cuts after) cut) in ((both x).1, (both x).0)) in
      subst (λ c. SameMembers (c ++ flat_map (λ o. o) (contents bytes fs)) (map entry_of ps ++ map span (cut_all (u.lo ∷ rest_cuts) ss))) (sym (told_is size bytes (bytes f.1) (content_of here before) told.0 one.told))
      (subst (λ es. SameMembers (content_of here before ++ flat_map (λ o. o) (contents bytes fs)) (es ++ map span (cut_all (u.lo ∷ rest_cuts) ss))) (sym (entry_parts ps here p behind c.whole))
      (same_then _ _ _
      (joined_same (content_of here before) (flat_map (λ o. o) (contents bytes fs)) (content_of here before) (map entry_of (p ∷ behind) ++ map span (cut_all rest_cuts after)) (same_itself (content_of here before)) more)
      (same_then _ _ _
      (regrouped (map entry_of here) (map entry_of (p ∷ behind)) (map span before) (map span (cut_all rest_cuts after)))
      (joined_same (map entry_of here ++ map entry_of (p ∷ behind)) (map span before ++ map span (cut_all rest_cuts after)) (map entry_of here ++ map entry_of (p ∷ behind)) (map span (cut_all (u.lo ∷ rest_cuts) ss)) (same_itself (map entry_of here ++ map entry_of (p ∷ behind))) spans))))

  -- ---- where they are cut

  weight-spans : (ts : List Tombstone) → weight_of (map span ts) ≡ 0
  weight-spans [] = refl
  weight-spans (t ∷ ts) = omega (arith, weight-cons (span t) (map span ts), weight-spans ts)

  before-spans : (k : List ℕ) (ts : List Tombstone) → filter (is_before k) (map span ts) ≡ []
  before-spans k [] = refl
  before-spans k (t ∷ ts) = before-spans k ts

  full_content : (ps : List Point) (ss : List Tombstone) → IsFull (map entry_of ps) → IsFull (content_of ps ss)
  full_content ps ss full = omega (arith, weight-append (map entry_of ps) (map span ss), full)

  is_no_span : {key : List ℕ} {seq : ℕ} {v : Option (List ℕ)} {t : Tombstone} → span t ≡ entry key seq v → ⊥
  is_no_span e = cc

  open_content : (ps : List Point) (ss : List Tombstone) → IsOpen (map entry_of ps) → IsOpen (content_of ps ss)
  open_content ps ss light key seq value has = elim (Has-append_cases (map entry_of ps) (map span ss) (entry key seq value) has) [
    | inl h ↦ subst (λ c. weight_of c < 65536) (sym (filter-append (is_before key) (map entry_of ps) (map span ss) ∙ ap (λ c. filter (is_before key) (map entry_of ps) ++ c) (before-spans key ss) ∙ append-nil (filter (is_before key) (map entry_of ps)))) (light key seq value h)
    | inr h ↦ let from = Has-from_map span ss (entry key seq value) h in absurd (is_no_span from.2)
  ]

  pub all_full : (most num : ℕ) (ps : List Point) (ss : List Tombstone) (ts : List Table) (fs : List (ℕ × F)) → AreTold bytes fs → AreOutputs size bytes most num ps ss ts fs → AllByRecursion IsFull (take (length (contents bytes fs) - 1) (contents bytes fs))
  all_full most num ps ss [] fs told o = absurd o
  all_full most num ps ss (t ∷ ts) [] told o = tt
  all_full most num ps ss (t ∷ []) (f ∷ []) told o = tt
  all_full most num ps ss (t ∷ []) (f ∷ g ∷ fs) told o = absurd o
  all_full most num ps ss (t ∷ u ∷ ts) (f ∷ []) told (here, p, behind, c, one, rest) = tt
  all_full most num ps ss (t ∷ u ∷ ts) (f ∷ g ∷ fs) told (here, p, behind, c, one, rest) =
      let more = all_full (most - 1) (num + 1) (p ∷ behind) (parts_from p.key ss) (u ∷ ts) (g ∷ fs) told.1 rest in
      let first = subst IsFull (sym (told_is size bytes (bytes f.1) (content_of here (parts_before p.key ss)) told.0 one.told)) (full_content here (parts_before p.key ss) c.full) in
      one_more (content_told (bytes f.1)) (content_told (bytes g.1)) (contents bytes fs) first more
    where
      one_more : (a b : List Item) (cs : List (List Item)) → IsFull a → AllByRecursion IsFull (take (length (b ∷ cs) - 1) (b ∷ cs)) → AllByRecursion IsFull (take (length (a ∷ b ∷ cs) - 1) (a ∷ b ∷ cs))
      one_more a b cs full more =
          let longer : length (a ∷ b ∷ cs) - 1 ≡ suc (length (b ∷ cs) - 1) = omega arith in
          subst (λ n. AllByRecursion IsFull (take n (a ∷ b ∷ cs))) (sym longer) (full, more)

  pub all_open : (most num : ℕ) (ps : List Point) (ss : List Tombstone) (ts : List Table) (fs : List (ℕ × F)) → AreTold bytes fs → AreOutputs size bytes most num ps ss ts fs → AllByRecursion IsOpen (take (most - 1) (contents bytes fs))
  all_open most num ps ss [] fs told o = absurd o
  all_open most num ps ss (t ∷ ts) [] told o = take_nil (most - 1)
    where
      take_nil : (n : ℕ) → AllByRecursion IsOpen (take n [])
      take_nil zero = tt
      take_nil (suc n) = tt
  all_open most num ps ss (t ∷ []) (f ∷ []) told o = one_of (most - 1) (λ some. subst IsOpen (sym (told_is size bytes (bytes f.1) (content_of ps ss) told.0 o.2.told)) (open_content ps ss (o.1 (omega (arith, some)))))
    where
      one_of : (n : ℕ) → (1 ≤ n → IsOpen (content_told (bytes f.1))) → AllByRecursion IsOpen (take n (content_told (bytes f.1) ∷ []))
      one_of zero h = tt
      one_of (suc n) h = (h (omega arith), none_of n)
        where
          none_of : (m : ℕ) → AllByRecursion IsOpen (take m [])
          none_of zero = tt
          none_of (suc m) = tt
  all_open most num ps ss (t ∷ []) (f ∷ g ∷ fs) told o = absurd o
  all_open most num ps ss (t ∷ u ∷ ts) (f ∷ fs) told (here, p, behind, c, one, rest) =
      let more = all_open (most - 1) (num + 1) (p ∷ behind) (parts_from p.key ss) (u ∷ ts) fs told.1 rest in
      let first = subst IsOpen (sym (told_is size bytes (bytes f.1) (content_of here (parts_before p.key ss)) told.0 one.told)) (open_content here (parts_before p.key ss) c.open_) in
      let longer : most - 1 ≡ suc (most - 1 - 1) = omega (arith, c.room) in
      subst (λ n. AllByRecursion IsOpen (take n (content_told (bytes f.1) ∷ contents bytes fs))) (sym longer) (first, more)

  -- ---- each but the first begins with an entry

  entry_first : (p : Point) (ps : List Point) (ss : List Tombstone) (t : Table) → t.lo ≡ p.key → BeginsWithEntry t (content_of (p ∷ ps) ss)
  entry_first p ps ss t e = (p.seq, value_at p.kind p.value, inl (ap (λ k. entry k p.seq (value_at p.kind p.value)) (sym e)))

  pub begin_first : (most num : ℕ) (p : Point) (ps : List Point) (ss : List Tombstone) (ts : List Table) (fs : List (ℕ × F)) → AreInOrder (p ∷ ps) → AllKeys (λ r. is_upto p.key r.lo ≡ true) (p ∷ ps) ss → AreTold bytes fs → AreOutputs size bytes most num (p ∷ ps) ss ts fs → Pairwise BeginsWithEntry ts (contents bytes fs)
  begin_first most num p ps ss [] fs order all told o = absurd o
  begin_first most num p ps ss (t ∷ ts) [] order all told o = absurd o
  begin_first most num p ps ss (t ∷ []) (f ∷ []) order all told o =
      (subst (BeginsWithEntry t) (sym (told_is size bytes (bytes f.1) (content_of (p ∷ ps) ss) told.0 o.2.told)) (entry_first p ps ss t (first_has most num p ps ss t [] (f ∷ []) order all o)), tt)
  begin_first most num p ps ss (t ∷ []) (f ∷ g ∷ fs) order all told o = absurd o
  begin_first most num p ps ss (t ∷ u ∷ ts) (f ∷ fs) order all told (here, q, behind, c, one, rest) =
      let lo = first_has most num p ps ss t (u ∷ ts) (f ∷ fs) order all (here, q, behind, c, one, rest) in
      let later = rest_in_order c order in (
        subst (BeginsWithEntry t) (sym (told_is size bytes (bytes f.1) (content_of here (parts_before q.key ss)) told.0 one.told)) (first_of here c.full c.whole lo),
        begin_first (most - 1) (num + 1) q behind (parts_from q.key ss) (u ∷ ts) fs later (from_entry q behind ss later) told.1 rest,
      )
    where
      same_head : {a b : Point} {xs ys : List Point} → a ∷ xs ≡ b ∷ ys → a ≡ b
      same_head e = cc

      first_of : (xs : List Point) → IsFull (map entry_of xs) → p ∷ ps ≡ xs ++ q ∷ behind → t.lo ≡ p.key → BeginsWithEntry t (content_of xs (parts_before q.key ss))
      first_of [] full whole lo = absurd (omega (arith, full))
      first_of (x ∷ xs) full whole lo = entry_first x xs (parts_before q.key ss) t (lo ∙ ap (λ (v : Point). v.key) (same_head whole))

  pub begin_all : (most num : ℕ) (ps : List Point) (ss : List Tombstone) (ts : List Table) (fs : List (ℕ × F)) → AreInOrder ps → AreTold bytes fs → AreOutputs size bytes most num ps ss ts fs → Pairwise BeginsWithEntry (drop 1 ts) (drop 1 (contents bytes fs))
  begin_all most num ps ss [] fs order told o = absurd o
  begin_all most num ps ss (t ∷ ts) [] order told o = absurd o
  begin_all most num ps ss (t ∷ []) (f ∷ []) order told o = tt
  begin_all most num ps ss (t ∷ []) (f ∷ g ∷ fs) order told o = absurd o
  begin_all most num ps ss (t ∷ u ∷ ts) (f ∷ fs) order told (here, q, behind, c, one, rest) =
      let later = rest_in_order c order in
      begin_first (most - 1) (num + 1) q behind (parts_from q.key ss) (u ∷ ts) fs later (from_entry q behind ss later) told.1 rest
