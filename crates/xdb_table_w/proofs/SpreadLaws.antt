-- The least and the greatest of numbers.
use Rattle.std.proofs.Common.{◌≡◌, ℕ, ◌^◌, ◌<◌, ◌≤◌, min, max, List, [], ◌∷◌, ◌++◌, Option, Some, None, refl, sym, subst, arith, inl, inr}
use Rattle.std.specs.List.{AllByRecursion}
use Rattle.std.proofs.lemmas.Bool.{cases_lt}
use Rattle.std.proofs.lemmas.List.{append-nil}
use Rattle.xdb_rangedel.proofs.MemberLaws.{Has-append_left, Has-append_right}
use Rattle.xdb_rangedel.specs.Members.{Has}
use Rattle.xdb_table_w.specs.declared.seqs.Seqs.{Seqs}
use Rattle.xdb_table_w.specs.Extents.{seqs, widened, Spread, both}

abbrev Within : ℕ → ℕ → List ℕ → Type 0
Within lo hi ns = AllByRecursion (λ n. (lo ≤ n) × (n ≤ hi)) ns

wider : (a b c d : ℕ) (ns : List ℕ) → c ≤ a → b ≤ d → Within a b ns → Within c d ns
wider a b c d [] low high h = tt
wider a b c d (n ∷ ns) low high h =
    let lo = h.0.0 in
    let hi = h.0.1 in
    ((omega arith, omega arith), wider a b c d ns low high h.1)

within_both : (lo hi : ℕ) (xs ys : List ℕ) → Within lo hi xs → Within lo hi ys → Within lo hi (xs ++ ys)
within_both lo hi [] ys h g = g
within_both lo hi (x ∷ xs) ys h g = (h.0, within_both lo hi xs ys h.1 g)

-- the lesser of two members is one
has_min : (ns : List ℕ) (a b : ℕ) → Has ns a → Has ns b → Has ns (min a b)
has_min ns a b h g = elim (cases_lt a b) [
  | inl low ↦ let e : a ≡ min a b = omega arith in subst (Has ns) e h
  | inr high ↦ let e : b ≡ min a b = omega arith in subst (Has ns) e g
]

has_max : (ns : List ℕ) (a b : ℕ) → Has ns a → Has ns b → Has ns (max a b)
has_max ns a b h g = elim (cases_lt a b) [
  | inl low ↦ let e : b ≡ max a b = omega arith in subst (Has ns) e g
  | inr high ↦ let e : a ≡ max a b = omega arith in subst (Has ns) e h
]

joined_spread : (xs ys : List ℕ) (s t : Seqs) → Spread xs (Some s) → Spread ys (Some t) → Spread (xs ++ ys) (Some (seqs (min s.lo t.lo) (max s.hi t.hi)))
joined_spread xs ys s t h g =
    let lo = min s.lo t.lo in
    let hi = max s.hi t.hi in (
      within_both lo hi xs ys (wider s.lo s.hi lo hi xs (omega arith) (omega arith) h.0) (wider t.lo t.hi lo hi ys (omega arith) (omega arith) g.0),
      has_min (xs ++ ys) s.lo t.lo (Has-append_left xs ys s.lo h.1) (Has-append_right xs ys t.lo g.1),
      has_max (xs ++ ys) s.hi t.hi (Has-append_left xs ys s.hi h.2) (Has-append_right xs ys t.hi g.2),
      omega (arith, h.3, g.3),
    )

alone : (n : ℕ) → n < 2 ^ 56 → Spread (n ∷ []) (Some (seqs n n))
alone n small = (((omega arith, omega arith), tt), inl refl, inl refl, small)

pub spread_more : (ns : List ℕ) (o : Option Seqs) (n : ℕ) → n < 2 ^ 56 → Spread ns o → Spread (ns ++ n ∷ []) (Some (widened o n))
spread_more ns None n small h = subst (λ xs. Spread (xs ++ n ∷ []) (Some (seqs n n))) (sym h) (alone n small)
spread_more ns (Some s) n small h = joined_spread ns (n ∷ []) s (seqs n n) h (alone n small)

pub spread_both : (xs ys : List ℕ) (o p : Option Seqs) → Spread xs o → Spread ys p → Spread (xs ++ ys) (both o p)
spread_both xs ys None p h g = subst (λ zs. Spread (zs ++ ys) p) (sym h) g
spread_both xs ys (Some s) None h g = subst (λ zs. Spread (xs ++ zs) (Some s)) (sym g) (subst (λ zs. Spread zs (Some s)) (sym (append-nil xs)) h)
spread_both xs ys (Some s) (Some t) h g = joined_spread xs ys s t h g
