-- Content that is written anew says the same, and which content is.
use Rattle.std.proofs.Common.{◌≡◌, ℕ, ◌*◌, ◌≤◌, Bool, true, false, not, cond, ltb, List, [], ◌∷◌, ◌++◌, map, Option, Some, None, inl, inr, IsTrue, refl, sym, ap, ◌∙◌, subst, arith}
use Rattle.std.proofs.lemmas.Bool.{cases_Bool, and_parts, and_from}
use Rattle.std.specs.Option.{option_map}
use Rattle.xdb_key.specs.Bounds.{Bounds, bounds, holds, covers, meets}
use Rattle.xdb_key.specs.Entries.{Tombstone, tombstone}
use Rattle.xdb_key.specs.Order.{is_below, is_upto}
use Rattle.xdb_key.proofs.OrderLaws.{below_trans, upto_trans, upto-not_below, upto_from_below}
use Rattle.xdb_rangedel.specs.Clip.{starting_from, ending_by}
use Rattle.xdb_rangedel.specs.Content.{Item, entry, span, Mark, seq_of, here, rank, said, mark, is_seen, newest, entries_in, spans_in, IsClear}
use Rattle.xdb_rangedel.specs.Layers.{IsDrawn}
use Rattle.xdb_rangedel.specs.Members.{Has, SameMembers}
use Rattle.xdb_rangedel.specs.Pieces.{splits, cut_span, cut_spans, cut_all}
use Rattle.xdb_rangedel.specs.View.{within, restricted, view, lies_in}
use Rattle.xdb_rangedel.proofs.MemberLaws.{Has-append_left, Has-append_right, Has-append_cases, Has-map, Has-from_map, Has-from_filter_map}
use Rattle.xdb_rangedel.proofs.NewestLaws.{newest-None, newest-Some, newest-greatest, seen-here, same_key-tells}
use Rattle.xdb_rangedel.proofs.LayerLaws.{drawn_clear, drawn_trans}
use Rattle.xdb_rangedel.proofs.SpanLaws.{Has-entries_in, Has-spans_in, entries_in-keeps, spans_in-keeps}
use Rattle.xdb_rangedel.proofs.RangeLaws.{drawn-view, kept-view}
use Rattle.xdb_laws.specs.Ordered.{HasSource, joined}
use Rattle.xdb_laws.specs.Rewrite.{IsRewrite, AreRewrites}
use Rattle.xdb_laws.proofs.AnswerLaws.{holds-covered}
use Rattle.xdb_laws.proofs.OrderLaws.{seq-of_rank, drawn-within, source-in}

-- what is drawn both ways says the same

seen-too : (limit : ℕ) (k : List ℕ) (i j : Item) → is_seen limit k i ≡ true → here k j ≡ true → rank j ≡ rank i → is_seen limit k j ≡ true
seen-too limit k i j seen at_j e =
    and_from (here k j) (ltb (seq_of j) limit) at_j
    (subst (λ n. ltb n limit ≡ true) (sym (seq-of_rank i j e)) (and_parts (here k i) (ltb (seq_of i) limit) seen).1)

source-seen : (old : List Item) (limit : ℕ) (k : List ℕ) (i : Item) → is_seen limit k i ≡ true → HasSource old k i → (j : Item) × Has old j × (is_seen limit k j ≡ true) × (rank j ≡ rank i) × (said j ≡ said i)
source-seen old limit k i seen s = (s.0, s.1, seen-too limit k i s.0 seen s.2 s.3, s.3, s.4)

mark-from : (i j : Item) (m : Mark) → rank j ≡ rank i → said j ≡ said i → mark i ≡ m → mark j ≡ m
mark-from i j m e f g = (λ x. record { place = e x; says = f x }) ∙ g

rewrite-by : (old new : List Item) (limit : ℕ) (k : List ℕ) (o p : Option Mark) → IsClear old → IsRewrite old new → newest old limit k ≡ o → newest new limit k ≡ p → p ≡ o
rewrite-by old new limit k None None clear w e f = refl
rewrite-by old new limit k None (Some m) clear w e f =
    let g = newest-Some new limit k m f in
    let s = source-seen old limit k g.0 g.1.seen (w.drawn k g.0 g.1.member (seen-here limit k g.0 g.1.seen)) in
    absurd (newest-None old limit k e s.0 s.1 s.2)
rewrite-by old new limit k (Some m) p clear w e f =
    let g = newest-Some old limit k m e in
    let i = g.0 in
    let s = source-seen new limit k i g.1.seen (w.kept k i g.1.member (seen-here limit k i g.1.seen)) in
    let highest = λ (x : Item) (h : Has new x) (t : IsTrue (is_seen limit k x)).
    let back = source-seen old limit k x t (w.drawn k x h (seen-here limit k x t)) in
    let top : rank back.0 ≤ rank i = g.1.highest back.0 back.1 back.2 in
    let first : rank back.0 ≡ rank x = back.3 in
    let last : rank s.0 ≡ rank i = s.3 in
    let goal : rank x ≤ rank s.0 = omega arith in
    goal in
    sym f
    ∙ newest-greatest new limit k s.0 (drawn_clear old new w.drawn clear) (record { member = s.1; seen = s.2; highest = highest })
    ∙ ap Some (mark-from i s.0 m s.3 s.4 g.2)

pub rewrite-says : (old new : List Item) (limit : ℕ) (k : List ℕ) → IsClear old → IsRewrite old new → newest new limit k ≡ newest old limit k
rewrite-says old new limit k clear w = rewrite-by old new limit k (newest old limit k) (newest new limit k) clear w refl refl

pub rewrite-again : (a b c : List Item) → IsRewrite a b → IsRewrite b c → IsRewrite a c
rewrite-again a b c v w = record {
  drawn = drawn_trans a b c v.drawn w.drawn;
  kept = drawn_trans c b a w.kept v.kept;
  numbers = λ i h.
      let from = w.numbers i h in
      let back = v.numbers from.0 from.1 in
      (back.0, back.1, back.2 ∙ from.2);
}

-- which content is written anew

pub rewrite-same : (c d : List Item) → SameMembers d c → IsRewrite c d
rewrite-same c d same = record {
  drawn = drawn-within c d (λ i. (same i).0);
  kept = drawn-within d c (λ i. (same i).1);
  numbers = λ i h. (i, (same i).0 h, refl);
}

pub drawn-joint : (a b c d : List Item) → IsDrawn a b → IsDrawn c d → IsDrawn (a ++ c) (b ++ d)
drawn-joint a b c d e f = λ k i h at_i. elim (Has-append_cases b d i h) [
  | inl g ↦ source-in a (a ++ c) k i (λ j. Has-append_left a c j) (e k i g at_i)
  | inr g ↦ source-in c (a ++ c) k i (λ j. Has-append_right a c j) (f k i g at_i)
]

rewrite-joint : (a b c d : List Item) → IsRewrite a b → IsRewrite c d → IsRewrite (a ++ c) (b ++ d)
rewrite-joint a b c d v w = record {
  drawn = drawn-joint a b c d v.drawn w.drawn;
  kept = drawn-joint b a d c v.kept w.kept;
  numbers = λ i h. elim (Has-append_cases b d i h) [
    | inl g ↦ let from = v.numbers i g in (from.0, Has-append_left a c from.0 from.1, from.2)
    | inr g ↦ let from = w.numbers i g in (from.0, Has-append_right a c from.0 from.1, from.2)
  ];
}

pub rewrite-parts : (olds news : List (List Item)) → AreRewrites olds news → IsRewrite (joined olds) (joined news)
rewrite-parts [] [] w = rewrite-same [] [] (λ i. (λ h. h, λ h. h))
rewrite-parts [] (new ∷ news) w = absurd w
rewrite-parts (old ∷ olds) [] w = absurd w
rewrite-parts (old ∷ olds) (new ∷ news) w = rewrite-joint old new (joined olds) (joined news) w.0 (rewrite-parts olds news w.1)

-- spans that are cut at some bounds

-- the second span has the number of the first one, and only keys that it has
record IsPart (s t : Tombstone) : Type 0 where
  seq : s.seq ≡ t.seq
  held : (k : List ℕ) → holds t.range k ≡ true → holds s.range k ≡ true

part-itself : (s t : Tombstone) → s ≡ t → IsPart s t
part-itself s t e = subst (λ x. IsPart s x) e (record { seq = refl; held = λ k h. h })

part-again : (s t u : Tombstone) → IsPart s t → IsPart t u → IsPart s u
part-again s t u a b = record { seq = a.seq ∙ b.seq; held = λ k h. a.held k (b.held k h) }

-- the two parts of a span at a bound inside it
part-left : (at : List ℕ) (s : Tombstone) → splits at s ≡ true → IsPart s (tombstone (bounds s.range.lo at) s.seq)
part-left at s e = record {
  seq = refl;
  held = λ k h.
      let (low, high) = and_parts (is_upto s.range.lo k) (is_below k at) h in
      and_from (is_upto s.range.lo k) (is_below k s.range.hi) low
      (below_trans k at s.range.hi high (and_parts (is_below s.range.lo at) (is_below at s.range.hi) e).1);
}

part-right : (at : List ℕ) (s : Tombstone) → splits at s ≡ true → IsPart s (tombstone (bounds at s.range.hi) s.seq)
part-right at s e = record {
  seq = refl;
  held = λ k h.
      let (low, high) = and_parts (is_upto at k) (is_below k s.range.hi) h in
      and_from (is_upto s.range.lo k) (is_below k s.range.hi)
      (upto_trans s.range.lo at k (upto_from_below s.range.lo at (and_parts (is_below s.range.lo at) (is_below at s.range.hi) e).0) low) high;
}

cut-part : (at : List ℕ) (s t : Tombstone) (b : Bool) → splits at s ≡ b → Has (cond b (tombstone (bounds s.range.lo at) s.seq ∷ tombstone (bounds at s.range.hi) s.seq ∷ []) (s ∷ [])) t → IsPart s t
cut-part at s t true e (inl h) = part-again s (tombstone (bounds s.range.lo at) s.seq) t (part-left at s e) (part-itself (tombstone (bounds s.range.lo at) s.seq) t h)
cut-part at s t true e (inr (inl h)) = part-again s (tombstone (bounds at s.range.hi) s.seq) t (part-right at s e) (part-itself (tombstone (bounds at s.range.hi) s.seq) t h)
cut-part at s t true e (inr (inr h)) = absurd h
cut-part at s t false e (inl h) = part-itself s t h
cut-part at s t false e (inr h) = absurd h

cut_spans-part : (at : List ℕ) (ts : List Tombstone) (u : Tombstone) → Has (cut_spans at ts) u → (s : Tombstone) × Has ts s × IsPart s u
cut_spans-part at [] u h = absurd h
cut_spans-part at (t ∷ ts) u h = elim (Has-append_cases (cut_span at t) (cut_spans at ts) u h) [
  | inl g ↦ (t, inl refl, cut-part at t u (splits at t) refl g)
  | inr g ↦ let from = cut_spans-part at ts u g in (from.0, inr from.1, from.2)
]

cut_all-part : (ats : List (List ℕ)) (ts : List Tombstone) (u : Tombstone) → Has (cut_all ats ts) u → (s : Tombstone) × Has ts s × IsPart s u
cut_all-part [] ts u h = (u, h, part-itself u u refl)
cut_all-part (at ∷ ats) ts u h =
    let later = cut_all-part ats (cut_spans at ts) u h in
    let from = cut_spans-part at ts later.0 later.1 in
    (from.0, from.1, part-again from.0 later.0 u from.2 later.2)

-- a key that a span has is in one of its parts
abbrev Keeps : List Tombstone → List ℕ → Tombstone → Type 0
Keeps ts k t = (u : Tombstone) × Has ts u × (holds u.range k ≡ true) × (u.seq ≡ t.seq)

cut-keeps : (at k : List ℕ) (t : Tombstone) (b : Bool) → splits at t ≡ b → holds t.range k ≡ true → Keeps (cond b (tombstone (bounds t.range.lo at) t.seq ∷ tombstone (bounds at t.range.hi) t.seq ∷ []) (t ∷ [])) k t
cut-keeps at k t false e h = (t, inl refl, h, refl)
cut-keeps at k t true e h =
    let (low, high) = and_parts (is_upto t.range.lo k) (is_below k t.range.hi) h in
    elim (cases_Bool (is_below k at)) [
      | inl less ↦ (tombstone (bounds t.range.lo at) t.seq, inl refl, and_from (is_upto t.range.lo k) (is_below k at) low less, refl)
      | inr more ↦ (tombstone (bounds at t.range.hi) t.seq, inr (inl refl), and_from (is_upto at k) (is_below k t.range.hi) (upto-not_below at k ∙ ap not more) high, refl)
    ]

cut_spans-keeps : (at k : List ℕ) (ts : List Tombstone) (t : Tombstone) → Has ts t → holds t.range k ≡ true → Keeps (cut_spans at ts) k t
cut_spans-keeps at k [] t h at_k = absurd h
cut_spans-keeps at k (s ∷ ts) t (inl e) at_k =
    let kept = cut-keeps at k s (splits at s) refl (subst (λ x. holds x.range k ≡ true) (sym e) at_k) in
    (kept.0, Has-append_left (cut_span at s) (cut_spans at ts) kept.0 kept.1, kept.2, kept.3 ∙ ap (λ x. x.seq) e)
cut_spans-keeps at k (s ∷ ts) t (inr h) at_k =
    let kept = cut_spans-keeps at k ts t h at_k in
    (kept.0, Has-append_right (cut_span at s) (cut_spans at ts) kept.0 kept.1, kept.2, kept.3)

cut_all-keeps : (ats : List (List ℕ)) (k : List ℕ) (ts : List Tombstone) (t : Tombstone) → Has ts t → holds t.range k ≡ true → Keeps (cut_all ats ts) k t
cut_all-keeps [] k ts t h at_k = (t, h, at_k, refl)
cut_all-keeps (at ∷ ats) k ts t h at_k =
    let first = cut_spans-keeps at k ts t h at_k in
    let rest = cut_all-keeps ats k (cut_spans at ts) first.0 first.1 first.2 in
    (rest.0, rest.1, rest.2, rest.3 ∙ first.3)

module _ (c : List Item) (ats : List (List ℕ)) where
  abbrev cut : List Item
  cut = entries_in c ++ map span (cut_all ats (spans_in c))

  cut-drawn : IsDrawn c cut
  cut-drawn k i h at_i = elim (Has-append_cases (entries_in c) (map span (cut_all ats (spans_in c))) i h) [
    | inl e ↦ (i, Has-entries_in c i e, at_i, refl, refl)
    | inr s ↦
        let (t, has, same) = Has-from_map span (cut_all ats (spans_in c)) i s in
        let (u, there, part) = cut_all-part ats (spans_in c) t has in
        (span u, Has-spans_in c u there, part.held k (ap (here k) same ∙ at_i), ap (λ n. 2 * n) part.seq ∙ ap rank same, ap said same)
  ]

  cut-kept : IsDrawn cut c
  cut-kept k (entry key seq v) h at_i =
      (entry key seq v, Has-append_left (entries_in c) (map span (cut_all ats (spans_in c))) (entry key seq v) (entries_in-keeps c key seq v h), at_i, refl, refl)
  cut-kept k (span t) h at_i =
      let kept = cut_all-keeps ats k (spans_in c) t (spans_in-keeps c t h) at_i in
      (span kept.0, Has-append_right (entries_in c) (map span (cut_all ats (spans_in c))) (span kept.0) (Has-map span (cut_all ats (spans_in c)) kept.0 kept.1), kept.2, ap (λ n. 2 * n) kept.3, refl)

  cut-numbers : (i : Item) → Has cut i → (j : Item) × Has c j × (seq_of j ≡ seq_of i)
  cut-numbers i h = elim (Has-append_cases (entries_in c) (map span (cut_all ats (spans_in c))) i h) [
    | inl e ↦ (i, Has-entries_in c i e, refl)
    | inr s ↦
        let (t, has, same) = Has-from_map span (cut_all ats (spans_in c)) i s in
        let (u, there, part) = cut_all-part ats (spans_in c) t has in
        (span u, Has-spans_in c u there, part.seq ∙ ap seq_of same)
  ]

  pub rewrite-cut : (d : List Item) → SameMembers d cut → IsRewrite c d
  rewrite-cut d same = rewrite-again c cut d (record { drawn = cut-drawn; kept = cut-kept; numbers = cut-numbers }) (rewrite-same cut d same)

-- bounds that content lies in

pub lies-held : (r : Bounds) (k : List ℕ) (i : Item) → lies_in r i ≡ true → here k i ≡ true → holds r k ≡ true
lies-held r k (entry key seq v) inside at_i = subst (λ x. holds r x ≡ true) (same_key-tells key k at_i) inside
lies-held r k (span t) inside at_i = holds-covered r t.range k (and_parts (is_below t.range.lo t.range.hi) (covers r t.range) inside).1 at_i

some-seq : (b : Bool) (i j : Item) → cond b (Some i) None ≡ Some j → seq_of i ≡ seq_of j
some-seq true i j e = let same : i ≡ j = cc in ap seq_of same
some-seq false i j e = absurd (cc)

span-seq : (b : Bool) (t : Tombstone) (j : Item) → option_map span (cond b (Some t) None) ≡ Some j → t.seq ≡ seq_of j
span-seq true t j e = let same : span t ≡ j = cc in ap seq_of same
span-seq false t j e = absurd (cc)

within-seq : (r : Bounds) (i j : Item) → within r i ≡ Some j → seq_of i ≡ seq_of j
within-seq r (entry key seq v) j e = some-seq (holds r key) (entry key seq v) j e
within-seq r (span t) j e = span-seq (meets t.range r) (starting_from r.lo (ending_by r.hi t)) j e

pub shown-numbers : (c : List Item) (r : Bounds) (b : Bool) (i : Item) → Has (cond b (restricted r c) []) i → (j : Item) × Has c j × (seq_of j ≡ seq_of i)
shown-numbers c r true i h =
    let (j, has, e) = Has-from_filter_map (within r) c i h in
    (j, has, within-seq r j i e)
shown-numbers c r false i h = absurd h

pub rewrite-shown : (c : List Item) (r : Bounds) → ((i : Item) → Has c i → IsTrue (lies_in r i)) → IsRewrite c (view c r 0)
rewrite-shown c r inside = record {
  drawn = drawn-view c r 0;
  kept = λ k i h at_i. kept-view c r 0 k i h (lies-held r k i (inside i h) at_i) at_i;
  numbers = λ i h. shown-numbers c r (is_below r.lo r.hi) i h;
}
