-- Tables of L0 that have one number don't meet: kept by the edit of a load, and what it gives of their order.
use Rattle.std.proofs.Common.{◌≡◌, ℕ, eqb, ◌<◌, ◌⊎◌, true, false, List, [], ◌∷◌, inl, inr, refl, sym, ap, ◌∙◌, subst, arith}
use Rattle.std.proofs.lemmas.Bool.{cases_Bool, and_parts, and_from, false≢true, eqb-true, eq-eqb}
use Rattle.std.specs.List.{list_all}
use Rattle.std.specs.Ordering.{is_le, nat_cmp}
use Rattle.xdb_key.specs.Bounds.{Bounds, meets, covers}
use Rattle.xdb_key.specs.Order.{is_upto}
use Rattle.xdb_key.proofs.OrderLaws.{meets-symmetric, upto-itself}
use Rattle.xdb_edit.specs.Versions.{tables_of, table_cmp, is_sorted}
use Rattle.xdb_meta.specs.Table.{Table, bounds_of}
use Rattle.xdb_rangedel.specs.Members.{Has}
use Rattle.xdb_laws.specs.LoadEdit.{LoadEdit, is_met, levels_after, StandInTurn, NumbersDiffer, TiesAreApart, IsEditOf, HalvesLieApart}
use Rattle.xdb_laws.proofs.EditLaws.{first-le, each-of}
use Rattle.xdb_laws.proofs.HalfLaws.{meets-wider}
use Rattle.xdb_laws.proofs.LoadEditLaws.{edited-from}

-- ---- in order, and apart

pub sorted-turn : (ts : List Table) → is_sorted (table_cmp 0) ts ≡ true → NumbersDiffer ts → TiesAreApart ts → StandInTurn ts
sorted-turn [] sorted differ apart = tt
sorted-turn (t ∷ ts) sorted differ apart =
    let (first, rest) = and_parts (list_all (λ u. is_le (table_cmp 0 t u)) ts) (is_sorted (table_cmp 0) ts) sorted in (
      λ u h. (
        first-le t.seq_hi u.seq_hi (nat_cmp t.num u.num) (each-of (λ y. is_le (table_cmp 0 t y)) ts u first h),
        apart t u (inl refl) (inr h) (differ.0 u h),
      ),
      sorted-turn ts rest differ.1 (λ a b p q. apart a b (inr p) (inr q)),
    )

-- ---- a load

-- what lies within bounds that don't meet doesn't meet
apart-within : (r o a b : Bounds) → covers r a ≡ true → covers o b ≡ true → meets r o ≡ false → meets a b ≡ false
apart-within r o a b p q off = elim (cases_Bool (meets a b)) [
  | inl e ↦
      let one = meets-wider a o b q e in
      let other = meets-wider o r a p (meets-symmetric o a ∙ one) in
      absurd (false≢true (sym off ∙ meets-symmetric r o ∙ other))
  | inr e ↦ e
]

covers-itself : (r : Bounds) → covers r r ≡ true
covers-itself r = and_from (is_upto r.lo r.lo) (is_upto r.hi r.hi) (upto-itself r.lo) (upto-itself r.hi)

module _ (x : LoadEdit) (is : IsEditOf x) (ties : TiesAreApart (tables_of x.levels 0)) (halves : HalvesLieApart x) where
  -- a table that was there and isn't met, or a half of one that is
  record Comes (t : Table) : Type 0 where
    source : Table
    there : Has (tables_of x.levels 0) source
    number : t.seq_hi ≡ source.seq_hi
    inside : covers (bounds_of source) (bounds_of t) ≡ true
    how : (Has (x.halves source) t × (is_met x.out (bounds_of source) ≡ true)) ⊎ ((source ≡ t) × (is_met x.out (bounds_of source) ≡ false))

  comes : (t : Table) → Has (tables_of (levels_after x) 0) t → Comes t ⊎ ((a : ℕ × Table) × Has x.loaded a × (a.1 ≡ t))
  comes t h = elim (edited-from x.edit x.levels 0 t h) [
    | inl adds ↦
        let (a, added, table, at) = adds in
        elim ((is.added a).0 added) [
          | inl half ↦
              let (s, there, met, has) = half in
              let in_l0 = subst (λ n. Has (tables_of x.levels n) s) at there in
              let one = subst (Has (x.halves s)) table has in
              inl (record { source = s; there = in_l0; number = is.halved_number 0 s t in_l0 one; inside = halves.inside s t in_l0 one; how = inl (one, met) })
          | inr loaded ↦ inr (a, loaded, table)
        ]
    | inr kept ↦ inl (record { source = t; there = kept.0; number = refl; inside = covers-itself (bounds_of t); how = inr (refl, sym (is.removed 0 t kept.0) ∙ kept.1) })
  ]

  one-source : (t u s : Table) → Has (tables_of x.levels 0) s → (t.num ≡ u.num → ⊥) → (Has (x.halves s) t × (is_met x.out (bounds_of s) ≡ true)) ⊎ ((s ≡ t) × (is_met x.out (bounds_of s) ≡ false)) → (Has (x.halves s) u × (is_met x.out (bounds_of s) ≡ true)) ⊎ ((s ≡ u) × (is_met x.out (bounds_of s) ≡ false)) → meets (bounds_of t) (bounds_of u) ≡ false
  one-source t u s there other (inl p) (inl q) = halves.apart s t u there p.0 q.0 other
  one-source t u s there other (inl p) (inr q) = absurd (false≢true (sym q.1 ∙ p.1))
  one-source t u s there other (inr p) (inl q) = absurd (false≢true (sym p.1 ∙ q.1))
  one-source t u s there other (inr p) (inr q) = absurd (other (ap (λ y. y.num) (sym p.0 ∙ q.0)))

  both-come : (t u : Table) → Comes t → Comes u → (t.num ≡ u.num → ⊥) → t.seq_hi ≡ u.seq_hi → meets (bounds_of t) (bounds_of u) ≡ false
  both-come t u c d other tie = elim (cases_Bool (eqb c.source.num d.source.num)) [
    | inl e ↦
        let same = halves.one c.source d.source c.there d.there (eqb-true c.source.num d.source.num e) in
        one-source t u d.source d.there other (subst (λ s. (Has (x.halves s) t × (is_met x.out (bounds_of s) ≡ true)) ⊎ ((s ≡ t) × (is_met x.out (bounds_of s) ≡ false))) same c.how) d.how
    | inr e ↦ apart-within (bounds_of c.source) (bounds_of d.source) (bounds_of t) (bounds_of u) c.inside d.inside
        (ties c.source d.source c.there d.there (λ same. false≢true (sym e ∙ eq-eqb c.source.num d.source.num same)) (sym c.number ∙ tie ∙ d.number))
  ]

  older-come : (t : Table) → Comes t → t.seq_hi < x.next
  older-come t c = let low = is.older c.source c.there in let same = c.number in omega arith

  loaded-top : (t : Table) → ((a : ℕ × Table) × Has x.loaded a × (a.1 ≡ t)) → t.seq_hi ≡ x.next
  loaded-top t (a, has, same) = sym (ap (λ y. y.seq_hi) same) ∙ is.number a has

  apart-by : (t u : Table) → Comes t ⊎ ((a : ℕ × Table) × Has x.loaded a × (a.1 ≡ t)) → Comes u ⊎ ((a : ℕ × Table) × Has x.loaded a × (a.1 ≡ u)) → (t.num ≡ u.num → ⊥) → t.seq_hi ≡ u.seq_hi → meets (bounds_of t) (bounds_of u) ≡ false
  apart-by t u (inl c) (inl d) other tie = both-come t u c d other tie
  apart-by t u (inl c) (inr b) other tie = let low = older-come t c in let top = loaded-top u b in absurd (omega arith)
  apart-by t u (inr a) (inl d) other tie = let low = older-come u d in let top = loaded-top t a in absurd (omega arith)
  apart-by t u (inr a) (inr b) other tie =
      let (l, has_l, is_t) = a in
      let (m, has_m, is_u) = b in
      subst (λ y. meets (bounds_of t) (bounds_of y) ≡ false) is_u (subst (λ y. meets (bounds_of y) (bounds_of m.1) ≡ false) is_t
      (halves.loaded l m has_l has_m (λ same. other (sym (ap (λ y. y.num) is_t) ∙ same ∙ ap (λ y. y.num) is_u))))

  pub loaded-ties : TiesAreApart (tables_of (levels_after x) 0)
  loaded-ties = λ t u p q other tie. apart-by t u (comes t p) (comes u q) other tie

-- ---- one table more, of a number that no other has

pub more-ties : (ts us : List Table) (t : Table) → TiesAreApart ts → ((u : Table) → Has ts u → u.seq_hi ≡ t.seq_hi → ⊥) → ((u : Table) → Has us u → Has ts u ⊎ (t ≡ u)) → TiesAreApart us
more-ties ts us t ties alone from = λ a b p q other tie. by a b (from a p) (from b q) other tie
  where
    by : (a b : Table) → Has ts a ⊎ (t ≡ a) → Has ts b ⊎ (t ≡ b) → (a.num ≡ b.num → ⊥) → a.seq_hi ≡ b.seq_hi → meets (bounds_of a) (bounds_of b) ≡ false
    by a b (inl p) (inl q) other tie = ties a b p q other tie
    by a b (inl p) (inr e) other tie = absurd (alone a p (tie ∙ sym (ap (λ x. x.seq_hi) e)))
    by a b (inr e) (inl q) other tie = absurd (alone b q (sym tie ∙ sym (ap (λ x. x.seq_hi) e)))
    by a b (inr e) (inr f) other tie = absurd (other (sym (ap (λ x. x.num) e) ∙ ap (λ x. x.num) f))
