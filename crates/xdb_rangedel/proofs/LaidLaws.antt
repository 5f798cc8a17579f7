-- What is laid over the gaps is fragments, and they are the pieces of the spans.
use Rattle.std.proofs.Common.{◌≡◌, ℕ, zero, suc, ◌-◌, ◌<◌, ◌≤◌, true, List, [], ◌∷◌, ◌++◌, length, get_or, map, inl, inr, IsTrue, refl, sym, ap, ◌∙◌, subst, arith}
use Rattle.std.proofs.lemmas.Bool.{cases_order, and_parts, and_from, false≢true, false_from_ne_true}
use Rattle.std.proofs.lemmas.List.{get_or_default}
use Rattle.std.proofs.lemmas.List.Kept.{AllPairs-cons}
use Rattle.std.specs.List.{All, AllPairs}
use Rattle.xdb_key.specs.Order.{is_below, is_upto}
use Rattle.xdb_key.specs.Bounds.{Bounds, bounds, holds}
use Rattle.xdb_key.specs.Entries.{Tombstone, tombstone}
use Rattle.xdb_key.proofs.OrderLaws.{upto-itself, below-itself, upto_from_below, below_trans, below_upto}
use Rattle.xdb_rangedel.specs.Members.{Has, SameMembers}
use Rattle.xdb_rangedel.specs.Pieces.{ends, pieces, splits, is_ordered, precedes, AreFragments, IsPiece}
use Rattle.xdb_rangedel.specs.Sweep.{IsRising, strip_of, lies_over, AreColumns, over_gap, laid}
use Rattle.xdb_rangedel.specs.declared.sweep.Strip.{Strip}
use Rattle.xdb_rangedel.proofs.MemberLaws.{Has-append_left, Has-append_right, Has-append_cases, Has-map, Has-from_map, Has-get_or, Contains-from_Has}
use Rattle.xdb_rangedel.proofs.FragmentLaws.{All-from_Has, All-at_Has, AllPairs-head, AllPairs-tail, AreFragments-nil, precedes_same, precedes_apart}
use Rattle.xdb_rangedel.proofs.PieceLaws.{ends-has_hi, pieces-tell, pieces-has}
use Rattle.xdb_rangedel.proofs.StripLaws.{lies_over-strip_of}

-- places in a list that rises

-- where an element of the list stands
at_place : (bs : List (List ℕ)) (b : List ℕ) → Has bs b → (j : ℕ) × (j < length bs) × (get_or bs j [] ≡ b)
at_place bs b h =
    let (j, inside, e) = Contains-from_Has bs b h in
    (j, inside, get_or_default bs j [] b inside ∙ e)

rising_places : (bs : List (List ℕ)) (i j : ℕ) → IsRising bs → i < j → j < length bs → is_below (get_or bs i []) (get_or bs j []) ≡ true
rising_places bs i j rising less inside = rising i j [] less inside

-- what stands below stands at an earlier place
place_below : (bs : List (List ℕ)) (i j : ℕ) → IsRising bs → i < length bs → is_below (get_or bs i []) (get_or bs j []) ≡ true → i < j
place_below bs i j rising inside h = elim (cases_order i j) [
  | inl e ↦ absurd (false≢true (sym (below-itself (get_or bs j [])) ∙ ap (λ n. is_below (get_or bs n []) (get_or bs j [])) (sym e) ∙ h))
  | inr (inl less) ↦ less
  | inr (inr more) ↦ absurd (false≢true (sym (below-itself (get_or bs i [])) ∙ below_trans (get_or bs i []) (get_or bs j []) (get_or bs i []) h (rising j i [] more inside)))
]

upto_places : (bs : List (List ℕ)) (i j : ℕ) → IsRising bs → i ≤ j → j < length bs → is_upto (get_or bs i []) (get_or bs j []) ≡ true
upto_places bs i j rising le inside = elim (cases_order i j) [
  | inl e ↦ ap (λ n. is_upto (get_or bs n []) (get_or bs j [])) e ∙ upto-itself (get_or bs j [])
  | inr (inl less) ↦ upto_from_below (get_or bs i []) (get_or bs j []) (rising i j [] less inside)
  | inr (inr more) ↦ absurd (omega arith)
]

-- what is laid

abbrev gap_span : List (List ℕ) → ℕ → ℕ → Tombstone
gap_span bs j n = tombstone (bounds (get_or bs j []) (get_or bs (suc j) [])) n

laid_tells : (bs columns : List (List ℕ)) (m : ℕ) (t : Tombstone) → Has (laid bs columns m) t → (j : ℕ) × (j < m) × (n : ℕ) × Has (get_or columns j []) n × (gap_span bs j n ≡ t)
laid_tells bs columns zero t h = absurd h
laid_tells bs columns (suc m) t h = elim (Has-append_cases (laid bs columns m) (over_gap (get_or bs m []) (get_or bs (suc m) []) (get_or columns m [])) t h) [
  | inl g ↦ let (j, less, n, has, e) = laid_tells bs columns m t g in (j, omega arith, n, has, e)
  | inr g ↦ let (n, has, e) = Has-from_map (tombstone (bounds (get_or bs m []) (get_or bs (suc m) []))) (get_or columns m []) t g in (m, omega arith, n, has, e)
]

laid_has : (bs columns : List (List ℕ)) (m j n : ℕ) → j < m → Has (get_or columns j []) n → Has (laid bs columns m) (gap_span bs j n)
laid_has bs columns zero j n less has = absurd (omega arith)
laid_has bs columns (suc m) j n less has = elim (cases_order j m) [
  | inl e ↦ subst (λ i. Has (laid bs columns (suc m)) (gap_span bs i n)) (sym e)
      (Has-append_right (laid bs columns m) (over_gap (get_or bs m []) (get_or bs (suc m) []) (get_or columns m [])) (gap_span bs m n)
      (Has-map (tombstone (bounds (get_or bs m []) (get_or bs (suc m) []))) (get_or columns m []) n (subst (λ i. Has (get_or columns i []) n) e has)))
  | inr (inl below) ↦ Has-append_left (laid bs columns m) (over_gap (get_or bs m []) (get_or bs (suc m) []) (get_or columns m [])) (gap_span bs j n) (laid_has bs columns m j n below has)
  | inr (inr more) ↦ absurd (omega arith)
]

-- it is fragments

AllPairs-append : {A : Type 0} (R : A → A → Type 0) (xs ys : List A) → AllPairs R xs → AllPairs R ys → ((x y : A) → Has xs x → Has ys y → R x y) → AllPairs R (xs ++ ys)
AllPairs-append R [] ys p q h = q
AllPairs-append R (x ∷ xs) ys p q h =
    AllPairs-cons R x (xs ++ ys) (All-from_Has (R x) (xs ++ ys) (λ y g. elim (Has-append_cases xs ys y g) [
      | inl a ↦ All-at_Has (R x) xs y (AllPairs-head R x xs p) a
      | inr b ↦ h x y (inl refl) b
    ])) (AllPairs-append R xs ys (AllPairs-tail R x xs p) q (λ z y a b. h z y (inr a) b))

gap_apart : (r : Bounds) (ns : List ℕ) → AllPairs (λ m n. n < m) ns → AllPairs (λ s t. IsTrue (precedes s t)) (map (tombstone r) ns)
gap_apart r [] h = λ i j d less inside. absurd (omega arith)
gap_apart r (n ∷ ns) h =
    AllPairs-cons (λ s t. IsTrue (precedes s t)) (tombstone r n) (map (tombstone r) ns) (All-from_Has (λ t. IsTrue (precedes (tombstone r n) t)) (map (tombstone r) ns) (λ t g.
    let (m, has, e) = Has-from_map (tombstone r) ns t g in
    subst (λ x. IsTrue (precedes (tombstone r n) x)) e (precedes_same (tombstone r n) (tombstone r m) refl (All-at_Has (λ y. y < n) ns m (AllPairs-head (λ x y. y < x) n ns h) has))))
    (gap_apart r ns (AllPairs-tail (λ x y. y < x) n ns h))

pub laid_fragments : (bs columns : List (List ℕ)) (m : ℕ) → IsRising bs → m ≤ length bs - 1 → ((j : ℕ) → j < m → AllPairs (λ a b. b < a) (get_or columns j [])) → AreFragments (laid bs columns m)
laid_fragments bs columns zero rising inside falling = AreFragments-nil
laid_fragments bs columns (suc m) rising inside falling =
    let before = laid_fragments bs columns m rising (omega arith) (λ j h. falling j (omega arith)) in
    let gap = over_gap (get_or bs m []) (get_or bs (suc m) []) (get_or columns m []) in
    let step = rising_places bs m (suc m) rising (omega arith) (omega arith) in
    record {
      ordered = All-from_Has (λ t. IsTrue (is_ordered t)) (laid bs columns m ++ gap) (λ t h. elim (Has-append_cases (laid bs columns m) gap t h) [
        | inl g ↦ All-at_Has (λ x. IsTrue (is_ordered x)) (laid bs columns m) t before.ordered g
        | inr g ↦ let (n, has, e) = Has-from_map (tombstone (bounds (get_or bs m []) (get_or bs (suc m) []))) (get_or columns m []) t g in ap is_ordered (sym e) ∙ step
      ]);
      apart = AllPairs-append (λ s t. IsTrue (precedes s t)) (laid bs columns m) gap before.apart
          (gap_apart (bounds (get_or bs m []) (get_or bs (suc m) [])) (get_or columns m []) (falling m (omega arith)))
          (λ s t a b.
          let (j, less, n, has, e) = laid_tells bs columns m s a in
          let (k, there, f) = Has-from_map (tombstone (bounds (get_or bs m []) (get_or bs (suc m) []))) (get_or columns m []) t b in
          precedes_apart s t (sym (λ i. is_upto (e i).range.hi (f i).range.lo) ∙ upto_places bs (suc j) m rising (omega arith) (omega arith)));
    }

-- it is the pieces

module _ (spans : List Tombstone) (bs columns : List (List ℕ)) (strips : List Strip) (same_ends : SameMembers bs (ends spans)) (rising : IsRising bs) (ordered : All (λ t. IsTrue (is_ordered t)) spans) (same_strips : SameMembers strips (map (strip_of bs) spans)) (are : AreColumns strips (length bs) columns) where
  -- a number in a column is that of a span that holds the gap's first key
  column_tells : (j n : ℕ) → j < length bs → Has (get_or columns j []) n → (t : Tombstone) × Has spans t × (holds t.range (get_or bs j []) ≡ true) × (t.seq ≡ n)
  column_tells j n inside h =
      let (s, has, over, e) = (are.numbers j n inside).0 h in
      let (t, there, f) = Has-from_map (strip_of bs) spans s ((same_strips s).0 has) in
      (t, there, sym (lies_over-strip_of bs t j [] rising inside) ∙ ap (lies_over j) f ∙ over, ap (λ x. x.number.0) f ∙ e)

  column_has : (j : ℕ) (t : Tombstone) → j < length bs → Has spans t → holds t.range (get_or bs j []) ≡ true → Has (get_or columns j []) t.seq
  column_has j t inside h held =
      (are.numbers j t.seq inside).1 (strip_of bs t, (same_strips (strip_of bs t)).1 (Has-map (strip_of bs) spans t h), lies_over-strip_of bs t j [] rising inside ∙ held, refl)

  -- no bound lies between neighbours
  gap_whole : (j : ℕ) → suc j < length bs → (at : List ℕ) → Has (ends spans) at → is_below (get_or bs j []) at ≡ true → is_below at (get_or bs (suc j) []) ≡ true → ⊥
  gap_whole j inside at h after before =
      let (p, there, e) = at_place bs at ((same_ends at).1 h) in
      let later : j < p = place_below bs j p rising (omega arith) (ap (is_below (get_or bs j [])) e ∙ after) in
      let earlier : p < suc j = place_below bs p (suc j) rising there (ap (λ x. is_below x (get_or bs (suc j) [])) e ∙ before) in
      omega arith

  laid_piece : (j n : ℕ) → suc j < length bs → Has (get_or columns j []) n → IsPiece spans (gap_span bs j n)
  laid_piece j n inside h =
      let (t, has, held, e) = column_tells j n (omega arith) h in
      let lo = get_or bs j [] in
      let hi = get_or bs (suc j) [] in
      let (start, end) = and_parts (is_upto t.range.lo lo) (is_below lo t.range.hi) held in
      let (p, there, at_end) = at_place bs t.range.hi ((same_ends t.range.hi).1 (ends-has_hi spans t has)) in
      let later : j < p = place_below bs j p rising (omega arith) (ap (is_below lo) at_end ∙ end) in
      record {
        source = (t, has, and_from (is_upto t.range.lo lo) (is_upto hi t.range.hi) start (ap (is_upto hi) (sym at_end) ∙ upto_places bs (suc j) p rising (omega arith) there), e);
        ordered = rising_places bs j (suc j) rising (omega arith) inside;
        start = (same_ends lo).0 (Has-get_or bs j [] (omega arith));
        end = (same_ends hi).0 (Has-get_or bs (suc j) [] inside);
        whole = λ at g. false_from_ne_true (splits at (gap_span bs j n)) (λ s.
            let (after, before) = and_parts (is_below lo at) (is_below at hi) s in
            gap_whole j inside at g after before);
      }

  piece_laid : (m : ℕ) (t : Tombstone) → length bs ≤ suc m → IsPiece spans t → Has (laid bs columns m) t
  piece_laid m t long p =
      let (j, at_j, lo) = at_place bs t.range.lo ((same_ends t.range.lo).1 p.start) in
      let (q, at_q, hi) = at_place bs t.range.hi ((same_ends t.range.hi).1 p.end) in
      let step : is_below (get_or bs j []) (get_or bs q []) ≡ true = (λ i. is_below (lo i) (hi i)) ∙ p.ordered in
      let later : j < q = place_below bs j q rising at_j step in
      let next : q ≡ suc j = elim (cases_order q (suc j)) [
        | inl e ↦ e
        | inr (inl less) ↦ absurd (omega arith)
        | inr (inr more) ↦
            let free = p.whole (get_or bs (suc j) []) ((same_ends (get_or bs (suc j) [])).0 (Has-get_or bs (suc j) [] (omega arith))) in
            let after : is_below t.range.lo (get_or bs (suc j) []) ≡ true = ap (λ x. is_below x (get_or bs (suc j) [])) (sym lo) ∙ rising_places bs j (suc j) rising (omega arith) (omega arith) in
            let before : is_below (get_or bs (suc j) []) t.range.hi ≡ true = ap (is_below (get_or bs (suc j) [])) (sym hi) ∙ rising_places bs (suc j) q rising more at_q in
            absurd (false≢true (sym free ∙ and_from (is_below t.range.lo (get_or bs (suc j) [])) (is_below (get_or bs (suc j) []) t.range.hi) after before))
      ] in
      let (s, has, cover, seqs) = p.source in
      let (start, end) = and_parts (is_upto s.range.lo t.range.lo) (is_upto t.range.hi s.range.hi) cover in
      let held : holds s.range t.range.lo ≡ true = and_from (is_upto s.range.lo t.range.lo) (is_below t.range.lo s.range.hi) start (below_upto t.range.lo t.range.hi s.range.hi p.ordered end) in
      let there = column_has j s at_j has (ap (holds s.range) lo ∙ held) in
      let his : get_or bs (suc j) [] ≡ t.range.hi = ap (λ i. get_or bs i []) (sym next) ∙ hi in
      subst (λ x. Has (laid bs columns m) x) (λ i. tombstone (bounds (lo i) (his i)) (seqs i)) (laid_has bs columns m j s.seq (omega arith) there)

  pub laid_pieces : SameMembers (laid bs columns (length bs - 1)) (pieces spans)
  laid_pieces = λ t. (
    (λ h.
        let (j, less, n, has, e) = laid_tells bs columns (length bs - 1) t h in
        pieces-has spans t (subst (IsPiece spans) e (laid_piece j n (omega arith) has))),
    (λ h. piece_laid (length bs - 1) t (omega arith) (pieces-tell spans t (λ s g. All-at_Has (λ x. IsTrue (is_ordered x)) spans s ordered g) h)),
  )

  pub laid_over_all : AreFragments (laid bs columns (length bs - 1))
  laid_over_all = laid_fragments bs columns (length bs - 1) rising (omega arith) (λ j h. are.falling j (omega arith))
