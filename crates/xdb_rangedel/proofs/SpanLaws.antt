-- Spans in a content: what they say of a key is what covers it, and entries and spans may be told apart.
use Rattle.std.proofs.Common.{◌≡◌, ℕ, ◌+◌, ◌*◌, Bool, true, false, ◌&&◌, cond, ltb, List, [], ◌∷◌, ◌++◌, map, Option, Some, None, inl, inr, IsTrue, refl, sym, ap, ◌∙◌, subst, arith}
use Rattle.std.proofs.lemmas.Bool.{lt-ltb, le-ltb, cases_lt, and_parts, and_from}
use Rattle.std.proofs.lemmas.List.{append-nil}
use Rattle.std.specs.Option.{option_map}
use Rattle.xdb_key.specs.Bounds.{holds}
use Rattle.xdb_key.specs.Order.{is_below, is_upto}
use Rattle.xdb_key.specs.Entries.{Point, Tombstone}
use Rattle.xdb_key.proofs.OrderLaws.{upto_trans, below_upto}
use Rattle.xdb_rangedel.specs.Members.{Has}
use Rattle.xdb_rangedel.specs.Cover.{greater, cover_by, cover_of}
use Rattle.xdb_rangedel.specs.Pieces.{pieces}
use Rattle.xdb_rangedel.specs.Content.{Item, deleted_at, entry, span, Mark, here, rank, said, mark, is_seen, mark_at, newer, newest, entries_in, spans_in, in_pieces, entry_of, content_of}
use Rattle.xdb_rangedel.specs.Layers.{IsDrawn}
use Rattle.xdb_rangedel.proofs.MemberLaws.{Has-append_cases, Has-from_map}
use Rattle.xdb_rangedel.proofs.NewestLaws.{newer-rises, newer-stays, newer_assoc, newest-append}
use Rattle.xdb_rangedel.proofs.CoverLaws.{cover_of-pieces}
use Rattle.xdb_rangedel.proofs.PieceLaws.{piece_inside}

mark_at-span : (limit : ℕ) (k : List ℕ) (t : Tombstone) (b : Bool) → cond b (Some (mark (span t))) None ≡ option_map deleted_at (cond b (Some t.seq) None)
mark_at-span limit k t true = refl
mark_at-span limit k t false = refl

deleted_at-greater : (a b : Option ℕ) → option_map deleted_at (greater a b) ≡ newer (option_map deleted_at a) (option_map deleted_at b)
deleted_at-greater None b = refl
deleted_at-greater (Some m) None = refl
deleted_at-greater (Some m) (Some n) = elim (cases_lt m n) [
  | inl up ↦ ap (λ b. option_map deleted_at (cond b (Some n) (Some m))) (lt-ltb m n up) ∙ sym (newer-rises (deleted_at m) (deleted_at n) (omega arith))
  | inr down ↦ ap (λ b. option_map deleted_at (cond b (Some n) (Some m))) (le-ltb m n down) ∙ sym (newer-stays (deleted_at m) (deleted_at n) (omega arith))
]

pub newest-spans : (ts : List Tombstone) (limit : ℕ) (k : List ℕ) → newest (map span ts) limit k ≡ option_map deleted_at (cover_of ts k limit)
newest-spans [] limit k = refl
newest-spans (t ∷ ts) limit k =
    ap (λ o. newer (mark_at limit k (span t)) o) (newest-spans ts limit k)
    ∙ ap (λ o. newer o (option_map deleted_at (cover_of ts k limit))) (mark_at-span limit k t (holds t.range k && ltb t.seq limit))
    ∙ sym (deleted_at-greater (cover_by t k limit) (cover_of ts k limit))

-- Entries stand at odd places, and spans at even ones.

abbrev IsOdd : Option Mark → Type 0
IsOdd None = Unit {0}
IsOdd (Some m) = (n : ℕ) × (m.place ≡ 2 * n + 1)

odd_newer : (a b : Option Mark) → IsOdd a → IsOdd b → IsOdd (newer a b)
odd_newer None b p q = q
odd_newer (Some m) None p q = p
odd_newer (Some m) (Some n) p q = elim (cases_lt m.place n.place) [
  | inl up ↦ subst IsOdd (sym (newer-rises m n up)) q
  | inr down ↦ subst IsOdd (sym (newer-stays m n down)) p
]

odd_at : (limit : ℕ) (k key : List ℕ) (seq : ℕ) (value : Option (List ℕ)) (b : Bool) → IsOdd (cond b (Some (mark (entry key seq value))) None)
odd_at limit k key seq value true = (seq, refl)
odd_at limit k key seq value false = tt

odd-entries_in : (c : List Item) (limit : ℕ) (k : List ℕ) → IsOdd (newest (entries_in c) limit k)
odd-entries_in [] limit k = tt
odd-entries_in (entry key seq value ∷ c) limit k =
    odd_newer (mark_at limit k (entry key seq value)) (newest (entries_in c) limit k) (odd_at limit k key seq value (is_seen limit k (entry key seq value))) (odd-entries_in c limit k)
odd-entries_in (span t ∷ c) limit k = odd-entries_in c limit k

span_swaps : (t : Tombstone) (o : Option Mark) (b : Bool) → IsOdd o → newer (cond b (Some (mark (span t))) None) o ≡ newer o (cond b (Some (mark (span t))) None)
span_swaps t None true p = refl
span_swaps t None false p = refl
span_swaps t (Some n) false p = refl
span_swaps t (Some n) true (h, e) = elim (cases_lt (2 * t.seq) n.place) [
  | inl up ↦ newer-rises (mark (span t)) n up ∙ sym (newer-stays n (mark (span t)) (omega arith))
  | inr down ↦ newer-stays (mark (span t)) n down ∙ sym (newer-rises n (mark (span t)) (omega arith))
]

-- entries and spans may be told apart
pub newest_apart : (c : List Item) (limit : ℕ) (k : List ℕ) → newest c limit k ≡ newer (newest (entries_in c) limit k) (newest (map span (spans_in c)) limit k)
newest_apart [] limit k = refl
newest_apart (entry key seq value ∷ c) limit k =
    ap (λ o. newer (mark_at limit k (entry key seq value)) o) (newest_apart c limit k)
    ∙ sym (newer_assoc (mark_at limit k (entry key seq value)) (newest (entries_in c) limit k) (newest (map span (spans_in c)) limit k))
newest_apart (span t ∷ c) limit k =
    let m = mark_at limit k (span t) in
    let es = newest (entries_in c) limit k in
    let ss = newest (map span (spans_in c)) limit k in
    ap (λ o. newer m o) (newest_apart c limit k) ∙ sym (newer_assoc m es ss)
    ∙ ap (λ o. newer o ss) (span_swaps t es (is_seen limit k (span t)) (odd-entries_in c limit k))
    ∙ newer_assoc es m ss

pub newest-in_pieces : (c : List Item) (limit : ℕ) (k : List ℕ) → newest (in_pieces c) limit k ≡ newest c limit k
newest-in_pieces c limit k =
    newest-append (entries_in c) (map span (pieces (spans_in c))) limit k
    ∙ ap (λ o. newer (newest (entries_in c) limit k) o) (newest-spans (pieces (spans_in c)) limit k ∙ ap (option_map deleted_at) (cover_of-pieces (spans_in c) k limit) ∙ sym (newest-spans (spans_in c) limit k))
    ∙ sym (newest_apart c limit k)

-- spans that cover alike say the same
pub newest_spans_along : (xs ys : List Tombstone) (limit : ℕ) (k : List ℕ) → cover_of xs k limit ≡ cover_of ys k limit → newest (map span xs) limit k ≡ newest (map span ys) limit k
newest_spans_along xs ys limit k e = newest-spans xs limit k ∙ ap (option_map deleted_at) e ∙ sym (newest-spans ys limit k)

-- members

pub Has-entries_in : (c : List Item) (i : Item) → Has (entries_in c) i → Has c i
Has-entries_in [] i h = h
Has-entries_in (entry key seq value ∷ c) i (inl e) = inl e
Has-entries_in (entry key seq value ∷ c) i (inr h) = inr (Has-entries_in c i h)
Has-entries_in (span t ∷ c) i h = inr (Has-entries_in c i h)

pub Has-spans_in : (c : List Item) (t : Tombstone) → Has (spans_in c) t → Has c (span t)
Has-spans_in [] t h = h
Has-spans_in (entry key seq value ∷ c) t h = inr (Has-spans_in c t h)
Has-spans_in (span u ∷ c) t (inl e) = inl (ap span e)
Has-spans_in (span u ∷ c) t (inr h) = inr (Has-spans_in c t h)

span_tells : (t u : Tombstone) → ◌≡◌ {A = Item} (span t) (span u) → t ≡ u
span_tells t u e = cc

pub entries_in-keeps : (c : List Item) (key : List ℕ) (seq : ℕ) (v : Option (List ℕ)) → Has c (entry key seq v) → Has (entries_in c) (entry key seq v)
entries_in-keeps [] key seq v h = h
entries_in-keeps (entry a s w ∷ c) key seq v (inl e) = inl e
entries_in-keeps (entry a s w ∷ c) key seq v (inr h) = inr (entries_in-keeps c key seq v h)
entries_in-keeps (span t ∷ c) key seq v (inl e) = absurd (cc)
entries_in-keeps (span t ∷ c) key seq v (inr h) = entries_in-keeps c key seq v h

pub spans_in-keeps : (c : List Item) (t : Tombstone) → Has c (span t) → Has (spans_in c) t
spans_in-keeps [] t h = h
spans_in-keeps (entry a s w ∷ c) t (inl e) = absurd (cc)
spans_in-keeps (entry a s w ∷ c) t (inr h) = spans_in-keeps c t h
spans_in-keeps (span u ∷ c) t (inl e) = inl (span_tells u t e)
spans_in-keeps (span u ∷ c) t (inr h) = inr (spans_in-keeps c t h)

-- drawn

-- what a piece holds, its span holds
held_inside : (s t : Tombstone) (k : List ℕ) → is_upto s.range.lo t.range.lo ≡ true → is_upto t.range.hi s.range.hi ≡ true → holds t.range k ≡ true → holds s.range k ≡ true
held_inside s t k lo hi h =
    let (a, b) = and_parts (is_upto t.range.lo k) (is_below k t.range.hi) h in
    and_from (is_upto s.range.lo k) (is_below k s.range.hi) (upto_trans s.range.lo t.range.lo k lo a) (below_upto k t.range.hi s.range.hi b hi)

drawn_piece : (c : List Item) (k : List ℕ) (i : Item) (t : Tombstone) → Has (pieces (spans_in c)) t → span t ≡ i → IsTrue (here k i) → (j : Item) × Has c j × IsTrue (here k j) × (rank j ≡ rank i) × (said j ≡ said i)
drawn_piece c k i t h e at_i =
    let from = piece_inside (spans_in c) t h in
    let s = from.0 in
    let at_t : holds t.range k ≡ true = ap (here k) e ∙ at_i in
    (span s, Has-spans_in c s from.1, held_inside s t k from.2 from.3 at_t, ap (λ n. 2 * n) from.4 ∙ ap rank e, ap said e)

pub drawn-in_pieces : (c : List Item) → IsDrawn c (in_pieces c)
drawn-in_pieces c = λ k i h at_i. elim (Has-append_cases (entries_in c) (map span (pieces (spans_in c))) i h) [
  | inl e ↦ (i, Has-entries_in c i e, at_i, refl, refl)
  | inr s ↦ let from = Has-from_map span (pieces (spans_in c)) i s in drawn_piece c k i from.0 from.1 from.2 at_i
]

-- the content that code keeps as two lists

entries_in-append : (c d : List Item) → entries_in (c ++ d) ≡ entries_in c ++ entries_in d
entries_in-append [] d = refl
entries_in-append (entry key seq value ∷ c) d = ap (λ x. entry key seq value ∷ x) (entries_in-append c d)
entries_in-append (span t ∷ c) d = entries_in-append c d

spans_in-append : (c d : List Item) → spans_in (c ++ d) ≡ spans_in c ++ spans_in d
spans_in-append [] d = refl
spans_in-append (entry key seq value ∷ c) d = spans_in-append c d
spans_in-append (span t ∷ c) d = ap (λ x. t ∷ x) (spans_in-append c d)

entries_in-entries : (ps : List Point) → entries_in (map entry_of ps) ≡ map entry_of ps
entries_in-entries [] = refl
entries_in-entries (p ∷ ps) = ap (λ x. entry_of p ∷ x) (entries_in-entries ps)

entries_in-spans : (ts : List Tombstone) → entries_in (map span ts) ≡ []
entries_in-spans [] = refl
entries_in-spans (t ∷ ts) = entries_in-spans ts

spans_in-entries : (ps : List Point) → spans_in (map entry_of ps) ≡ []
spans_in-entries [] = refl
spans_in-entries (p ∷ ps) = spans_in-entries ps

spans_in-spans : (ts : List Tombstone) → spans_in (map span ts) ≡ ts
spans_in-spans [] = refl
spans_in-spans (t ∷ ts) = ap (λ x. t ∷ x) (spans_in-spans ts)

pub entries_in-content_of : (ps : List Point) (ts : List Tombstone) → entries_in (content_of ps ts) ≡ map entry_of ps
entries_in-content_of ps ts =
    entries_in-append (map entry_of ps) (map span ts) ∙ (λ i. entries_in-entries ps i ++ entries_in-spans ts i) ∙ append-nil (map entry_of ps)

pub spans_in-content_of : (ps : List Point) (ts : List Tombstone) → spans_in (content_of ps ts) ≡ ts
spans_in-content_of ps ts = spans_in-append (map entry_of ps) (map span ts) ∙ (λ i. spans_in-entries ps i ++ spans_in-spans ts i)
