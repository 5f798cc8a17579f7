-- Over a floor of all keys thinning leaves something of what has something: the item of the greatest number.
use Rattle.std.proofs.Common.{◌≡◌, ℕ, ◌+◌, ◌≤◌, Bool, true, false, not, ◌&&◌, ◌||◌, ◌==◌, List, [], ◌∷◌, ◌++◌, length, map, Some, None, inl, inr, refl, sym, ap, subst, arith}
use Rattle.std.proofs.lemmas.Bool.{false≢true, cases_lt, cases_Bool, and_parts}
use Rattle.std.proofs.lemmas.List.{length-append, length-map}
use Rattle.std.specs.List.{list_any}
use Rattle.xdb_key.specs.Bounds.{holds}
use Rattle.xdb_key.specs.Entries.{Point, Tombstone}
use Rattle.xdb_rangedel.proofs.SpanLaws.{entries_in-content_of, spans_in-content_of}
use Rattle.xdb_rangedel.specs.Content.{Item, entry, span, seq_of, same_key, in_pieces, entry_of, content_of}
use Rattle.xdb_rangedel.specs.Members.{Has, SameMembers}
use Rattle.xdb_rangedel.specs.Pieces.{splits, cut_span, cut_spans, cut_all, ends, pieces}
use Rattle.xdb_stripes.proofs.AnyLaws.{any-has, Has-filter}
use Rattle.xdb_stripes.proofs.StripeLaws.{outranks-tells}
use Rattle.xdb_stripes.specs.declared.floor.Floor.TheVariants.{All}
use Rattle.xdb_stripes.specs.Stripes.{stripe, outranks}
use Rattle.xdb_stripes.specs.Thinned.{shadows, buries, repeats, same_bounds, stays, thinned}

-- ---- the greatest number

-- none of the list has a greater number
record IsTop (xs : List Item) (i : Item) : Type 0 where
  pub member : Has xs i
  pub top : (j : Item) → Has xs j → seq_of j ≤ seq_of i

top_of : (x : Item) (xs : List Item) → (i : Item) × IsTop (x ∷ xs) i
top_of x [] = (x, record { member = inl refl; top = λ j h. elim h [ inl e ↦ omega (arith, ap seq_of e) | inr g ↦ absurd g ] })
top_of x (y ∷ xs) =
    let best = top_of y xs in
    elim (cases_lt (seq_of best.0) (seq_of x)) [
      | inl less ↦ (
        x,
        record {
          member = inl refl;
          top = λ j h. elim h [ inl e ↦ omega (arith, ap seq_of e) | inr g ↦ let upto = best.1.top j g in omega (arith, upto, less) ];
        },
      )
      | inr more ↦ (
        best.0,
        record {
          member = inr best.1.member;
          top = λ j h. elim h [ inl e ↦ omega (arith, ap seq_of e, more) | inr g ↦ best.1.top j g ];
        },
      )
    ]

-- ---- it stays

none_of : {A : Type 0} (p : A → Bool) (xs : List A) → ((x : A) → Has xs x → p x ≡ true → ⊥) → list_any p xs ≡ false
none_of p xs never = elim (cases_Bool (list_any p xs)) [
  | inl some ↦ let from = any-has p xs some in absurd (never from.0 from.1 from.2)
  | inr none ↦ none
]

not_above : (stripes : List ℕ) (b : Bool) (m n : ℕ) → m ≤ n → (b && outranks stripes m n) ≡ true → ⊥
not_above stripes b m n upto h =
    let above = (outranks-tells stripes m n (and_parts b (outranks stripes m n) h).1).0 in
    absurd (omega (arith, above, upto))

no_shadow : (stripes key : List ℕ) (seq : ℕ) (j : Item) → seq_of j ≤ seq → shadows stripes key seq j ≡ true → ⊥
no_shadow stripes key seq (entry k s value) upto h = not_above stripes (same_key k key) s seq upto h
no_shadow stripes key seq (span t) upto h = false≢true h

no_burial : (stripes key : List ℕ) (seq : ℕ) (j : Item) → seq_of j ≤ seq → buries stripes key seq j ≡ true → ⊥
no_burial stripes key seq (entry k s value) upto h = false≢true h
no_burial stripes key seq (span t) upto h = not_above stripes (holds t.range key) t.seq seq upto h

no_repeat : (stripes : List ℕ) (t : Tombstone) (j : Item) → seq_of j ≤ t.seq → repeats stripes t.range t.seq j ≡ true → ⊥
no_repeat stripes t (entry k s value) upto h = false≢true h
no_repeat stripes t (span u) upto h = not_above stripes (same_bounds u.range t.range) u.seq t.seq upto h

and_false : (b : Bool) → (b && false) ≡ false
and_false true = refl
and_false false = refl

top_stays : (stripes : List ℕ) (all : List Item) (i : Item) → IsTop all i → stays stripes All all i ≡ true
top_stays stripes all (entry key seq None) h =
    let a = none_of (shadows stripes key seq) all (λ j g s. no_shadow stripes key seq j (h.top j g) s) in
    let b = none_of (buries stripes key seq) all (λ j g s. no_burial stripes key seq j (h.top j g) s) in
    λ i. not (a i || b i || false || and_false (stripe stripes seq == 0) i)
top_stays stripes all (entry key seq (Some value)) h =
    let a = none_of (shadows stripes key seq) all (λ j g s. no_shadow stripes key seq j (h.top j g) s) in
    let b = none_of (buries stripes key seq) all (λ j g s. no_burial stripes key seq j (h.top j g) s) in
    λ i. not (a i || b i || false || false)
top_stays stripes all (span t) h =
    let a = none_of (repeats stripes t.range t.seq) all (λ j g s. no_repeat stripes t j (h.top j g) s) in
    λ i. not (false || false || a i || and_false (stripe stripes t.seq == 0) i)

some_stays : (stripes : List ℕ) (all : List Item) → 1 ≤ length all → (j : Item) × Has all j × (stays stripes All all j ≡ true)
some_stays stripes [] some = absurd (omega (arith, some))
some_stays stripes (x ∷ all) some = let best = top_of x all in (best.0, best.1.member, top_stays stripes (x ∷ all) best.0 best.1)

-- ---- something has pieces

cut_span-some : (at : List ℕ) (t : Tombstone) → 1 ≤ length (cut_span at t)
cut_span-some at t = elim (cases_Bool (splits at t)) [
  | inl e ↦ rw e (omega arith)
  | inr e ↦ rw e (omega arith)
]

cut_spans-some : (at : List ℕ) (ts : List Tombstone) → 1 ≤ length ts → 1 ≤ length (cut_spans at ts)
cut_spans-some at [] some = absurd (omega (arith, some))
cut_spans-some at (t ∷ ts) some = omega (arith, length-append (cut_span at t) (cut_spans at ts), cut_span-some at t)

cut_all-some : (ats : List (List ℕ)) (ts : List Tombstone) → 1 ≤ length ts → 1 ≤ length (cut_all ats ts)
cut_all-some [] ts some = some
cut_all-some (at ∷ ats) ts some = cut_all-some ats (cut_spans at ts) (cut_spans-some at ts some)

spans_cut : (ts : List Tombstone) → 1 ≤ length ts → 1 ≤ length (pieces ts)
spans_cut ts some = cut_all-some (ends ts) ts some

has_pieces : (ps : List Point) (ts : List Tombstone) → 1 ≤ length ps + length ts → 1 ≤ length (map entry_of ps ++ map span (pieces ts))
has_pieces [] ts some = omega (arith, length-map (pieces ts) span, spans_cut ts (omega (arith, some)))
has_pieces (p ∷ ps) ts some = omega arith

some_there : {A : Type 0} (xs : List A) (x : A) → Has xs x → 1 ≤ length xs
some_there [] x has = absurd has
some_there (y ∷ ys) x has = omega arith

-- what is left of entries and spans, of which there were some
pub something_stays : (ps left : List Point) (ts over : List Tombstone) (stripes : List ℕ) → 1 ≤ length ps + length ts → SameMembers (content_of left over) (thinned (content_of ps ts) stripes All) → 1 ≤ length left + length over
something_stays ps left ts over stripes some same =
    let all = in_pieces (content_of ps ts) in
    let best = some_stays stripes all (subst (λ c. 1 ≤ length c) (sym (pieces_are ps ts)) (has_pieces ps ts some)) in
    let there = (same best.0).1 (Has-filter (stays stripes All all) all best.0 best.1 best.2) in
    omega (arith, some_there (content_of left over) best.0 there, length-append (map entry_of left) (map span over), length-map left entry_of, length-map over span)
  where
    pieces_are : (ps : List Point) (ts : List Tombstone) → in_pieces (content_of ps ts) ≡ map entry_of ps ++ map span (pieces ts)
    pieces_are ps ts = λ i. entries_in-content_of ps ts i ++ map span (pieces (spans_in-content_of ps ts i))
