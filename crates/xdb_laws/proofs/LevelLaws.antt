-- Loads at their levels share no key, tables of L0 rise by number, and running compactions keep their place.
use Rattle.std.proofs.Common.{◌≡◌, ℕ, zero, suc, ◌+◌, ◌<◌, ◌≤◌, Bool, true, cond, eqb, List, [], ◌∷◌, ◌++◌, map, filter, inl, inr, refl, sym, ap, ◌∙◌, subst, arith}
use Rattle.std.proofs.lemmas.Bool.{cases_Bool, eqb-true}
use Rattle.xdb_plain.specs.Tables.{TableOps}
use Rattle.xdb_rangedel.specs.Content.{Item, seq_of, IsClear}
use Rattle.xdb_rangedel.specs.Layers.{IsAllBelow, IsDrawn}
use Rattle.xdb_rangedel.specs.Members.{Has, SameMembers}
use Rattle.xdb_rangedel.proofs.LayerLaws.{drawn_clear}
use Rattle.xdb_rangedel.proofs.MemberLaws.{Has-append_left, Has-append_right, Has-append_cases, Has-from_map}
use Rattle.xdb_laws.specs.Compaction.{ShareNoKey, ChangesAround}
use Rattle.xdb_laws.specs.Loads.{items_at, AreLoadsOf, AreLoadable}
use Rattle.xdb_laws.specs.Ordered.{IsNewer, StandsByNumber, joined}
use Rattle.xdb_laws.specs.Placement.{RiseByNumber, without_numbers, AreApart, at_level, levels_from, beside_number}
use Rattle.xdb_laws.proofs.CutLaws.{in-contents, from-contents}
use Rattle.xdb_laws.proofs.JoinLaws.{strangers}
use Rattle.xdb_laws.proofs.LoadLaws.{clear-table, inside-load, off-key, loadable-off, loadable-rest}
use Rattle.xdb_laws.proofs.OrderLaws.{joined-append, clear-together, seq-of_rank}

-- ---- the tables of one load

pub loads-apart : (n : ℕ) (ts : List TableOps) (cs : List (List Item)) → AreLoadable ts → AreLoadsOf n ts cs → AreApart cs
loads-apart n [] [] able loads = tt
loads-apart n [] (c ∷ cs) able loads = absurd loads
loads-apart n (t ∷ ts) [] able loads = absurd loads
loads-apart n (t ∷ ts) (c ∷ cs) able loads = (
  drawn_clear (items_at n t.ops) c loads.0.drawn (clear-table n t.ops able.in_order.0),
  λ k i j p q at_i at_j. off-key n t ts cs k j (loadable-off t ts able) loads.1 (inside-load n t c k i loads.0 p at_i) q at_j,
  loads-apart n ts cs (loadable-rest t ts able) loads.1,
)

-- ---- by their levels

turned : (a b : List Item) → ShareNoKey a b → ShareNoKey b a
turned a b s = λ k i j p q at_i at_j. s k j i q p at_j at_i

-- two that come to different levels are two
pub levels-apart : (cs : List (ℕ × List Item)) (t u : ℕ × List Item) → AreApart (without_numbers cs) → Has cs t → Has cs u → (t.0 ≡ u.0 → ⊥) → ShareNoKey t.1 u.1
levels-apart [] t u apart p q other = absurd p
levels-apart (c ∷ cs) t u apart (inl e) (inl f) other = absurd (other (sym (ap (λ x. x.0) e) ∙ ap (λ x. x.0) f))
levels-apart (c ∷ cs) t u apart (inl e) (inr q) other = λ k i j h g at_i at_j. apart.1 k i j (subst (λ x. Has x.1 i) (sym e) h) (in-contents cs u j q g) at_i at_j
levels-apart (c ∷ cs) t u apart (inr p) (inl f) other = λ k i j h g at_i at_j. apart.1 k j i (subst (λ x. Has x.1 j) (sym f) g) (in-contents cs t i p h) at_j at_i
levels-apart (c ∷ cs) t u apart (inr p) (inr q) other = levels-apart cs t u apart.2 p q other

chosen : {A : Type 0} (p : A → Bool) (xs : List A) (x : A) → Has (filter p xs) x → Has xs x × (p x ≡ true)
chosen p [] x h = absurd h
chosen p (y ∷ xs) x h = elim (cases_Bool (p y)) [
  | inl e ↦ elim (subst (λ b. Has (cond b (y ∷ filter p xs) (filter p xs)) x) e h) [
    | inl is ↦ (inl is, subst (λ z. p z ≡ true) is e)
    | inr g ↦ let more = chosen p xs x g in (inr more.0, more.1)
  ]
  | inr e ↦ let more = chosen p xs x (subst (λ b. Has (cond b (y ∷ filter p xs) (filter p xs)) x) e h) in (inr more.0, more.1)
]

apart-filter : (p : ℕ × List Item → Bool) (cs : List (ℕ × List Item)) → AreApart (without_numbers cs) → AreApart (without_numbers (filter p cs))
apart-filter p [] apart = tt
apart-filter p (c ∷ cs) apart = elim (cases_Bool (p c)) [
  | inl e ↦ rw e (
    apart.0,
    λ k i j h g at_i at_j.
        let (u, has, at_u) = from-contents (filter p cs) j g in
        apart.1 k i j h (in-contents cs u j (chosen p cs u has).0 at_u) at_i at_j,
    apart-filter p cs apart.2,
  )
  | inr e ↦ rw e (apart-filter p cs apart.2)
]

clear-apart : (cs : List (List Item)) → AreApart cs → IsClear (joined cs)
clear-apart [] apart = λ key seq v w p q. absurd p
clear-apart (c ∷ cs) apart = clear-together c (joined cs) apart.0 (clear-apart cs apart.2) (strangers c (joined cs) apart.1)

-- what comes to a level comes to no lower one of these
level-from : (level : ℕ) (cs : List (ℕ × List Item)) (i : Item) → Has (joined (at_level level cs)) i → (t : ℕ × List Item) × Has cs t × (t.0 ≡ level) × Has t.1 i
level-from level cs i h =
    let (t, has, at_t) = from-contents (filter (λ c. eqb c.0 level) cs) i h in
    let (there, e) = chosen (λ c. eqb c.0 level) cs t has in
    (t, there, eqb-true t.0 level e, at_t)

levels-at : (level n : ℕ) (cs : List (ℕ × List Item)) (i : Item) → Has (joined (map joined (levels_from level n cs))) i → (t : ℕ × List Item) × Has cs t × (level ≤ t.0) × Has t.1 i
levels-at level zero cs i h = absurd h
levels-at level (suc n) cs i h = elim (Has-append_cases (joined (at_level level cs)) (joined (map joined (levels_from (level + 1) n cs))) i h) [
  | inl g ↦ let (t, has, e, at_t) = level-from level cs i g in (t, has, omega arith, at_t)
  | inr g ↦ let (t, has, low, at_t) = levels-at (level + 1) n cs i g in (t, has, omega arith, at_t)
]

above-levels : (level n : ℕ) (cs : List (ℕ × List Item)) → AreApart (without_numbers cs) → ShareNoKey (joined (at_level level cs)) (joined (map joined (levels_from (level + 1) n cs)))
above-levels level n cs apart = λ k i j p q at_i at_j.
    let (t, has_t, e, at_t) = level-from level cs i p in
    let (u, has_u, low, at_u) = levels-at (level + 1) n cs j q in
    levels-apart cs t u apart has_t has_u (λ same. absurd (omega arith)) k i j at_t at_u at_i at_j

apart-levels : (level n : ℕ) (cs : List (ℕ × List Item)) → AreApart (without_numbers cs) → AreApart (map joined (levels_from level n cs))
apart-levels level zero cs apart = tt
apart-levels level (suc n) cs apart = (
  clear-apart (at_level level cs) (apart-filter (λ c. eqb c.0 level) cs apart),
  above-levels level n cs apart,
  apart-levels (level + 1) n cs apart,
)

apart-together : (a b : List (List Item)) → AreApart a → AreApart b → ShareNoKey (joined a) (joined b) → AreApart (a ++ b)
apart-together [] b pa pb s = pb
apart-together (c ∷ a) b pa pb s = (
  pa.0,
  λ k i j h g at_i at_j. elim (Has-append_cases (joined a) (joined b) j (subst (λ x. Has x j) (joined-append a b) g)) [
    | inl q ↦ pa.1 k i j h q at_i at_j
    | inr q ↦ s k i j (Has-append_left c (joined a) i h) q at_i at_j
  ],
  apart-together a b pa.2 pb (λ k i j h g at_i at_j. s k i j (Has-append_right c (joined a) i h) g at_i at_j),
)

pub apart-by_level : (cs : List (ℕ × List Item)) (n : ℕ) → AreApart (without_numbers cs) → AreApart (at_level 0 cs ++ map joined (levels_from 1 n cs))
apart-by_level cs n apart =
    apart-together (at_level 0 cs) (map joined (levels_from 1 n cs)) (apart-filter (λ c. eqb c.0 0) cs apart) (apart-levels 1 n cs apart) (above-levels 0 n cs apart)

-- ---- L0

pub rise-filter : (p : ℕ × List Item → Bool) (ts : List (ℕ × List Item)) → RiseByNumber ts → RiseByNumber (filter p ts)
rise-filter p [] rise = tt
rise-filter p (t ∷ ts) rise = elim (cases_Bool (p t)) [
  | inl e ↦ rw e ((λ u h. rise.0 u (chosen p ts u h).0), rise-filter p ts rise.1)
  | inr e ↦ rw e (rise-filter p ts rise.1)
]

rise-fresh : (n : ℕ) (cs : List (List Item)) → AreApart cs → RiseByNumber (beside_number n cs)
rise-fresh n [] apart = tt
rise-fresh n (c ∷ cs) apart = (
  λ u h.
      let (d, has, e) = Has-from_map (λ x. (n, x)) cs u h in
      let same : n ≡ u.0 = ap (λ x. x.0) e in
      (omega arith, λ tie k i j p q at_i at_j. apart.1 k i j p (in-joined cs d j has (subst (λ x. Has x.1 j) (sym e) q)) at_i at_j),
  rise-fresh n cs apart.2,
) where
  in-joined : (cs : List (List Item)) (d : List Item) (j : Item) → Has cs d → Has d j → Has (joined cs) j
  in-joined [] d j h g = absurd h
  in-joined (c ∷ cs) d j (inl e) g = Has-append_left c (joined cs) j (subst (λ x. Has x j) (sym e) g)
  in-joined (c ∷ cs) d j (inr h) g = Has-append_right c (joined cs) j (in-joined cs d j h g)

pub rise-loaded : (next : ℕ) (l0 : List (ℕ × List Item)) (fresh : List (List Item)) → RiseByNumber l0 → ((t : ℕ × List Item) → Has l0 t → t.0 < next) → AreApart fresh → RiseByNumber (l0 ++ beside_number next fresh)
rise-loaded next [] fresh rise low apart = rise-fresh next fresh apart
rise-loaded next (t ∷ l0) fresh rise low apart = (
  λ u h. elim (Has-append_cases l0 (beside_number next fresh) u h) [
    | inl g ↦ rise.0 u g
    | inr g ↦
        let (d, has, e) = Has-from_map (λ x. (next, x)) fresh u g in
        let same : next ≡ u.0 = ap (λ x. x.0) e in
        let less = low t (inl refl) in
        (omega arith, λ tie. absurd (omega arith))
  ],
  rise-loaded next l0 fresh rise.1 (λ u h. low u (inr h)) apart,
)

pub rise-flushed : (older newer : List (ℕ × List Item)) (greatest : ℕ) (table : List Item) → RiseByNumber (older ++ newer) → ((t : ℕ × List Item) → Has older t → t.0 ≤ greatest) → ((t : ℕ × List Item) → Has newer t → greatest ≤ t.0)
    → ((t : ℕ × List Item) → Has (older ++ newer) t → t.0 ≡ greatest → ShareNoKey t.1 table) → RiseByNumber (older ++ ((greatest, table) ∷ newer))
rise-flushed [] newer greatest table rise low high apart = ((λ u h. (high u h, λ tie. turned u.1 table (apart u h (sym tie)))), rise)
rise-flushed (t ∷ older) newer greatest table rise low high apart = (
  λ u h. elim (Has-append_cases older ((greatest, table) ∷ newer) u h) [
    | inl g ↦ rise.0 u (Has-append_left older newer u g)
    | inr g ↦ elim g [
      | inl e ↦
          let same : greatest ≡ u.0 = ap (λ x. x.0) e in
          let less = low t (inl refl) in
          (omega arith, λ tie. subst (λ x. ShareNoKey t.1 x) (ap (λ x. x.1) e) (apart t (inl refl) (tie ∙ sym same)))
      | inr q ↦ rise.0 u (Has-append_right older newer u q)
    ]
  ],
  rise-flushed older newer greatest table rise.1 (λ u h. low u (inr h)) high (λ u h. apart u (inr h)),
)

-- a flushed table shares no key with a table that has its greatest number
pub group-apart : (unflushed group table other : List Item) (next greatest number : ℕ) → StandsByNumber unflushed next number other → ((i : Item) → Has group i → Has unflushed i) → IsNewer group other → IsDrawn group table → IsAllBelow (greatest + 1) table → number ≡ greatest → ShareNoKey other table
group-apart unflushed group table other next greatest number stands among newer drawn low same = λ k i j p q at_i at_j.
    let (x, has, at_x, ranks, says) = drawn k j q at_j in
    let seqs = seq-of_rank j x ranks in
    let upto = low j q in
    let above = newer k x i has p at_x at_i in
    elim stands.apart [
      | inl from ↦ let high = from x (among x has) in absurd (omega arith)
      | inr one ↦ let e = one i p in absurd (omega arith)
    ]

pub fresh-stands : (unflushed table : List Item) (next : ℕ) → ((i : Item) → Has table i → seq_of i ≡ next) → StandsByNumber unflushed (next + 1) next table
fresh-stands unflushed table next number = record {
  below = omega arith;
  within = λ i h. let e = number i h in omega arith;
  apart = inr number;
}

-- ---- a running compaction

pub loads-around : (next : ℕ) (given upper lower left_upper left_lower in_upper in_lower new_upper new_lower : List Item) → IsDrawn upper left_upper → IsDrawn lower left_lower → ((i : Item) → Has in_upper i → seq_of i ≡ next) → ShareNoKey given in_lower
    → SameMembers new_upper (left_upper ++ in_upper) → SameMembers new_lower (left_lower ++ in_lower) → ChangesAround next given upper lower new_upper new_lower
loads-around next given upper lower left_upper left_lower in_upper in_lower new_upper new_lower du dl number apart su sl = record {
  above = λ k i h at_i. elim (Has-append_cases left_upper in_upper i ((su i).0 h)) [
    | inl g ↦ inl (du k i g at_i)
    | inr g ↦ let e = number i g in inr (omega arith)
  ];
  below = λ k g i p h at_g at_i. elim (Has-append_cases left_lower in_lower i ((sl i).0 h)) [
    | inl q ↦ dl k i q at_i
    | inr q ↦ absurd (apart k g i p q at_g at_i)
  ];
}
