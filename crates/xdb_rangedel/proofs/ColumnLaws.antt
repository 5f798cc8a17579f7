-- Columns: strips are trimmed where an earlier strip of the same number lies, and each then writes its number.
use Rattle.std.proofs.Common.{◌≡◌, ℕ, max, ◌<◌, ◌≤◌, Bool, true, false, cond, ltb, leb, eqb, List, [], ◌∷◌, ◌++◌, length, get_or, drop, Option, Some, None, inl, inr, ◌⊎◌, IsTrue, refl, sym, ap, ◌∙◌, subst, arith}
use Rattle.std.proofs.lemmas.Bool.{cases_eq, cases_lt, and_parts, and_from, ltb-true, leb-true, eq-eqb, ne_eqb, lt-ltb, le-leb}
use Rattle.std.proofs.lemmas.List.{append-nil, drop_all}
use Rattle.std.proofs.lemmas.List.Kept.{AllPairs-cons}
use Rattle.std.specs.List.{All, AllPairs, filter_map, cons_option}
use Rattle.xdb_rangedel.specs.Members.{Has}
use Rattle.xdb_rangedel.specs.Sweep.{is_between, comes_first, lies_over, IsOver, AreColumns}
use Rattle.xdb_rangedel.specs.declared.sweep.Strip.{Strip}
use Rattle.xdb_rangedel.proofs.MemberLaws.{Has-from_filter_map, Has-cons_option}
use Rattle.xdb_rangedel.proofs.StripLaws.{first_tells}
use Rattle.xdb_rangedel.proofs.FragmentLaws.{AllPairs-head, AllPairs-tail, All-at_Has, All-from_Has}

abbrev pub InOrder : List Strip → Type 0
InOrder ss = AllPairs (λ s t. IsTrue (comes_first s t)) ss

-- the strip's number, where it lies over the gap
abbrev pub number_over : ℕ → Strip → Option ℕ
number_over j s = cond (lies_over j s) (Some s.number.0) None

abbrev pub numbers_over : ℕ → List Strip → List ℕ
numbers_over j ss = filter_map (number_over j) ss

-- how far the columns have the number already
abbrev pub resumed : ℕ → ℕ → ℕ → ℕ
resumed seq number reached = cond (eqb seq number) reached 0

abbrev pub trim : ℕ → Strip → Strip
trim done s = record s { from = max s.from done }

-- the strips without what earlier ones of their number reach
abbrev pub trimmed : ℕ → ℕ → List Strip → List Strip
trimmed number reached [] = []
trimmed number reached (s ∷ ss) =
    trim (resumed s.number.0 number reached) s ∷ trimmed s.number.0 (max s.to (resumed s.number.0 number reached)) ss

resumed-same : (seq number reached : ℕ) → seq ≡ number → resumed seq number reached ≡ reached
resumed-same seq number reached e = ap (λ b. cond b reached 0) (eq-eqb seq number e)

resumed-other : (seq number reached : ℕ) → (seq ≡ number → ⊥) → resumed seq number reached ≡ 0
resumed-other seq number reached ne = ap (λ b. cond b reached 0) (ne_eqb seq number ne)

-- what isn't yet done
resumed_done : (seq number reached j : ℕ) → j < resumed seq number reached → (seq ≡ number) × (j < reached)
resumed_done seq number reached j h = elim (cases_eq seq number) [
  | inl e ↦ (e, subst (λ r. j < r) (resumed-same seq number reached e) h)
  | inr ne ↦ absurd (let e = resumed-other seq number reached ne in omega arith)
]

number_over-tells : (j n : ℕ) (s : Strip) (b : Bool) → lies_over j s ≡ b → cond b (Some s.number.0) None ≡ Some n → (lies_over j s ≡ true) × (s.number.0 ≡ n)
number_over-tells j n s true e h = (e, cc)
number_over-tells j n s false e h = absurd (cc)

-- what is over a gap is over it in the strips as they were

trimmed_source : (number reached : ℕ) (ss : List Strip) (s : Strip) → Has (trimmed number reached ss) s → (t : Strip) × Has ss t × (t.number.0 ≡ s.number.0) × (t.to ≡ s.to) × (t.from ≤ s.from)
trimmed_source number reached [] s h = absurd h
trimmed_source number reached (t ∷ ss) s (inl e) =
    let starts : max t.from (resumed t.number.0 number reached) ≡ s.from = ap (λ x. x.from) e in
    (t, inl refl, ap (λ x. x.number.0) e, ap (λ x. x.to) e, omega arith)
trimmed_source number reached (t ∷ ss) s (inr h) =
    let from = trimmed_source t.number.0 (max t.to (resumed t.number.0 number reached)) ss s h in
    (from.0, inr from.1, from.2, from.3, from.4)

over_from : (j from to from' to' : ℕ) → is_between from' to' j ≡ true → to ≡ to' → from ≤ from' → is_between from to j ≡ true
over_from j from to from' to' h e le =
    let (a, b) = and_parts (leb from' j) (ltb j to') h in
    let at_least : from' ≤ j = leb-true from' j a in
    let below : j < to' = ltb-true j to' b in
    and_from (leb from j) (ltb j to) (le-leb from j (omega arith)) (lt-ltb j to (omega arith))

over-tells : (ss : List Strip) (number reached j n : ℕ) → Has (numbers_over j (trimmed number reached ss)) n → IsOver ss j n
over-tells ss number reached j n h =
    let (s, has, e) = Has-from_filter_map (number_over j) (trimmed number reached ss) n h in
    let (over, same) = number_over-tells j n s (lies_over j s) refl e in
    let from = trimmed_source number reached ss s has in
    (from.0, from.1, over_from j from.0.from from.0.to s.from s.to over from.3 from.4, from.2 ∙ same)

-- and what was over a gap still is, or was reached before

cons_option-has : (o : Option ℕ) (ns : List ℕ) (n : ℕ) → o ≡ Some n → Has (cons_option o ns) n
cons_option-has None ns n e = absurd (cc)
cons_option-has (Some m) ns n e = inl (cc)

cons_option-has_rest : (o : Option ℕ) (ns : List ℕ) (n : ℕ) → Has ns n → Has (cons_option o ns) n
cons_option-has_rest None ns n h = h
cons_option-has_rest (Some m) ns n h = inr h

-- a strip trimmed where the gap isn't done yet
trim_over : (s : Strip) (done j n : ℕ) → done ≤ j → s.from ≤ j → j < s.to → s.number.0 ≡ n → number_over j (trim done s) ≡ Some n
trim_over s done j n a b c e =
    ap (λ x. cond x (Some s.number.0) None) (and_from (leb (max s.from done) j) (ltb j s.to) (le-leb (max s.from done) j (omega arith)) (lt-ltb j s.to c)) ∙ ap Some e

over-has : (ss : List Strip) (number reached j n : ℕ) (s : Strip) → InOrder ss → Has ss s → lies_over j s ≡ true → s.number.0 ≡ n → Has (numbers_over j (trimmed number reached ss)) n ⊎ ((n ≡ number) × (j < reached))
over-has [] number reached j n s order h over e = absurd h
over-has (t ∷ ss) number reached j n s order (inl same) over e =
    let done = resumed t.number.0 number reached in
    let (a, b) = and_parts (leb s.from j) (ltb j s.to) over in
    let start : t.from ≤ j = subst (λ x. x.from ≤ j) (sym same) (leb-true s.from j a) in
    let end : j < t.to = subst (λ x. j < x.to) (sym same) (ltb-true j s.to b) in
    let number_is : t.number.0 ≡ n = ap (λ x. x.number.0) same ∙ e in
    elim (cases_lt j done) [
      | inl less ↦ let (seqs, below) = resumed_done t.number.0 number reached j less in inr (sym number_is ∙ seqs, below)
      | inr more ↦ inl (cons_option-has (number_over j (trim done t)) (numbers_over j (trimmed t.number.0 (max t.to done) ss)) n (trim_over t done j n more start end number_is))
    ]
over-has (t ∷ ss) number reached j n s order (inr h) over e =
    let done = resumed t.number.0 number reached in
    elim (over-has ss t.number.0 (max t.to done) j n s (AllPairs-tail (λ x y. IsTrue (comes_first x y)) t ss order) h over e) [
      | inl there ↦ inl (cons_option-has_rest (number_over j (trim done t)) (numbers_over j (trimmed t.number.0 (max t.to done) ss)) n there)
      | inr (seqs, below) ↦ elim (cases_lt j done) [
        | inl less ↦ let (same, early) = resumed_done t.number.0 number reached j less in inr (seqs ∙ same, early)
        | inr more ↦
            let at_s : s.from ≤ j = leb-true s.from j (and_parts (leb s.from j) (ltb j s.to) over).0 in
            let starts : t.from ≤ s.from = elim (first_tells t s (All-at_Has (λ y. IsTrue (comes_first t y)) ss s (AllPairs-head (λ x y. IsTrue (comes_first x y)) t ss order) h)) [
              | inl less ↦ absurd (omega arith)
              | inr (same, from) ↦ from
            ] in
            inl (cons_option-has (number_over j (trim done t)) (numbers_over j (trimmed t.number.0 (max t.to done) ss)) n (trim_over t done j n more (omega arith) (omega arith) (sym seqs)))
      ]
    ]

-- the numbers over a gap fall

below_first : (t : Strip) (ss : List Strip) → InOrder (t ∷ ss) → All (λ s. s.number.0 ≤ t.number.0) ss
below_first t ss order = All-from_Has (λ s. s.number.0 ≤ t.number.0) ss (λ s h.
    elim (first_tells t s (All-at_Has (λ y. IsTrue (comes_first t y)) ss s (AllPairs-head (λ x y. IsTrue (comes_first x y)) t ss order) h)) [
      | inl less ↦ omega arith
      | inr (same, from) ↦ omega arith
    ])

-- no number is greater than the one before, and that one only comes again behind what it reached
over_bounded : (ss : List Strip) (number reached j n : ℕ) → InOrder ss → All (λ s. s.number.0 ≤ number) ss → Has (numbers_over j (trimmed number reached ss)) n → (n < number) ⊎ ((n ≡ number) × (reached ≤ j))
over_bounded [] number reached j n order bound h = absurd h
over_bounded (t ∷ ss) number reached j n order bound h =
    let done = resumed t.number.0 number reached in
    let top : t.number.0 ≤ number = bound 0 t (omega arith) in
    let back : t.number.0 ≡ number → done ≡ reached = resumed-same t.number.0 number reached in
    elim (Has-cons_option (number_over j (trim done t)) (numbers_over j (trimmed t.number.0 (max t.to done) ss)) n h) [
      | inl e ↦
          let (over, same) = number_over-tells j n (trim done t) (lies_over j (trim done t)) refl e in
          let start : max t.from done ≤ j = leb-true (max t.from done) j (and_parts (leb (max t.from done) j) (ltb j t.to) over).0 in
          elim (cases_lt t.number.0 number) [
            | inl less ↦ inl (omega arith)
            | inr more ↦ let d : done ≡ reached = back (omega arith) in inr (omega arith, omega arith)
          ]
      | inr g ↦
          let rest = over_bounded ss t.number.0 (max t.to done) j n (AllPairs-tail (λ x y. IsTrue (comes_first x y)) t ss order) (below_first t ss order) g in
          elim rest [
            | inl less ↦ inl (omega arith)
            | inr (same, behind) ↦ elim (cases_lt t.number.0 number) [
              | inl less ↦ inl (omega arith)
              | inr more ↦ let d : done ≡ reached = back (omega arith) in inr (omega arith, omega arith)
            ]
          ]
    ]

falling_with : (t : Strip) (done j : ℕ) (ss : List Strip) (o : Option ℕ) → number_over j (trim done t) ≡ o → InOrder (t ∷ ss) → AllPairs (λ m n. n < m) (numbers_over j (trimmed t.number.0 (max t.to done) ss)) → AllPairs (λ m n. n < m) (cons_option o (numbers_over j (trimmed t.number.0 (max t.to done) ss)))
falling_with t done j ss None e order rest = rest
falling_with t done j ss (Some m) e order rest =
    let (over, same) = number_over-tells j m (trim done t) (lies_over j (trim done t)) refl e in
    let end : j < t.to = ltb-true j t.to (and_parts (leb (max t.from done) j) (ltb j t.to) over).1 in
    AllPairs-cons (λ x y. y < x) m (numbers_over j (trimmed t.number.0 (max t.to done) ss)) (All-from_Has (λ n. n < m) (numbers_over j (trimmed t.number.0 (max t.to done) ss)) (λ n h.
    elim (over_bounded ss t.number.0 (max t.to done) j n (AllPairs-tail (λ x y. IsTrue (comes_first x y)) t ss order) (below_first t ss order) h) [
      | inl less ↦ omega arith
      | inr (equal, behind) ↦ absurd (omega arith)
    ])) rest

over_falls : (ss : List Strip) (number reached j : ℕ) → InOrder ss → AllPairs (λ m n. n < m) (numbers_over j (trimmed number reached ss))
over_falls [] number reached j order = λ a b d less inside. absurd (omega arith)
over_falls (t ∷ ss) number reached j order =
    let done = resumed t.number.0 number reached in
    falling_with t done j ss (number_over j (trim done t)) refl order (over_falls ss t.number.0 (max t.to done) j (AllPairs-tail (λ x y. IsTrue (comes_first x y)) t ss order))

-- how far the columns are written

-- what is written, and what the strips that are left will write, are all the numbers
pub record Written (strips : List Strip) (gaps i number reached : ℕ) (columns : List (List ℕ)) : Type 0 where
  pub count : length columns ≡ gaps
  pub rest : (j : ℕ) → j < gaps → get_or columns j [] ++ numbers_over j (trimmed number reached (drop i strips)) ≡ numbers_over j (trimmed 0 0 strips)

pub written_all : (strips : List Strip) (gaps i number reached : ℕ) (columns : List (List ℕ)) → InOrder strips → Written strips gaps i number reached columns → length strips ≤ i → AreColumns strips gaps columns
written_all strips gaps i number reached columns order w past =
    let all : (j : ℕ) → j < gaps → get_or columns j [] ≡ numbers_over j (trimmed 0 0 strips) = λ j h.
    sym (append-nil (get_or columns j [])) ∙ sym (ap (λ x. get_or columns j [] ++ numbers_over j (trimmed number reached x)) (drop_all i strips past)) ∙ w.rest j h in
    record {
      count = w.count;
      numbers = λ j n h. (
        (λ g. over-tells strips 0 0 j n (subst (λ c. Has c n) (all j h) g)),
        (λ o. elim (over-has strips 0 0 j n o.0 order o.1 o.2 o.3) [
          | inl g ↦ subst (λ c. Has c n) (sym (all j h)) g
          | inr (e, less) ↦ absurd (omega arith)
        ]),
      );
      falling = λ j h. subst (λ c. AllPairs (λ m n. n < m) c) (sym (all j h)) (over_falls strips 0 0 j order);
    }
