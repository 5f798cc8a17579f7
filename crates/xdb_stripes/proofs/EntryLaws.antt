-- Entries in internal order: the one before an entry tells whether a newer one shadows it.
use Rattle.std.proofs.Common.{◌≡◌, ℕ, ◌+◌, ◌-◌, ◌<◌, ◌≤◌, Bool, true, false, ◌&&◌, ◌||◌, ◌==◌, ◌^◌, cond, ltb, List, length, get_or, inl, inr, refl, sym, ap, ◌∙◌, subst, arith}
use Rattle.std.proofs.lemmas.Bool.{cases_lt, cases_order, and_parts, and_from, or_cases, or_left, or_right, lt-ltb, le-ltb, false≢true, false_from_ne_true}
use Rattle.std.proofs.lemmas.List.{get_or_default}
use Rattle.std.specs.List.{All, list_any}
use Rattle.std.specs.Cmp.{tied_itself}
use Rattle.std.specs.Ordering.{nat_cmp, is_lt, ordering_then}
use Rattle.std.specs.declared.cmp.Ordering.{Ordering}
use Rattle.std.specs.declared.cmp.Ordering.TheVariants.{Less, Equal, Greater}
use Rattle.xdb_key.specs.Order.{key_cmp, is_upto}
use Rattle.xdb_key.specs.Bounds.{holds}
use Rattle.xdb_key.specs.Entries.{Point, Tombstone}
use Rattle.xdb_key.specs.InOrder.{comes_before, AreInOrder}
use Rattle.xdb_key.specs.Kinds.{trailer, kind_code}
use Rattle.xdb_key.specs.declared.op.Kind.{Kind}
use Rattle.xdb_key.specs.declared.op.Kind.TheVariants as kinds
use Rattle.xdb_key.proofs.OrderLaws.{key_total, upto_antisymm}
use Rattle.xdb_key.proofs.InOrderLaws.{before_keys}
use Rattle.xdb_rangedel.specs.Members.{Has}
use Rattle.xdb_rangedel.specs.Content.{same_key}
use Rattle.xdb_rangedel.proofs.MemberLaws.{Contains-from_Has, Has-get_or}
use Rattle.xdb_rangedel.proofs.NewestLaws.{same_key-tells, same_key-itself}
use Rattle.xdb_rangedel.proofs.FragmentLaws.{All-at_Has}
use Rattle.xdb_stripes.specs.Stripes.{stripe, outranks}
use Rattle.xdb_stripes.specs.Steps.{IsEnd, shadows_entry, buries_entry}
use Rattle.xdb_stripes.proofs.AnyLaws.{both_ways, any-has, any-from, any_along}
use Rattle.xdb_stripes.proofs.StripeLaws.{outranks-tells, outranks-from, ended, within, stripe_rises}

-- internal order at one key

code_small : (k : Kind) → kind_code k < 256
code_small kinds.Del = omega arith
code_small kinds.Set = omega arith
code_small kinds.SpanDel = omega arith

then_second : (r s : Ordering) → is_lt (ordering_then r s) ≡ true → r ≡ Equal → is_lt s ≡ true
then_second Less s h e = absurd (cc)
then_second Equal s h e = h
then_second Greater s h e = absurd (cc)

equal-or-greater : (t : Bool) → is_lt (cond t Equal Greater) ≡ false
equal-or-greater true = refl
equal-or-greater false = refl

lt-number : (a b : ℕ) → is_lt (nat_cmp a b) ≡ true → a < b
lt-number a b h = elim (cases_lt a b) [
  | inl less ↦ less
  | inr more ↦ absurd (false≢true (sym (ap (λ t. is_lt (cond t Less (cond (a == b) Equal Greater))) (le-ltb a b more) ∙ equal-or-greater (a == b)) ∙ h))
]

-- of two entries of one key in order, the first has no lesser number
falls : (p q : Point) → p.key ≡ q.key → comes_before p q ≡ true → q.seq ≤ p.seq
falls p q same before =
    let tie : key_cmp p.key q.key ≡ Equal = ap (key_cmp p.key) (sym same) ∙ tied_itself key_total p.key in
    let less = lt-number (trailer q.seq q.kind) (trailer p.seq p.kind) (then_second (key_cmp p.key q.key) (nat_cmp (trailer q.seq q.kind) (trailer p.seq p.kind)) before tie) in
    let cp = code_small p.kind in
    let cq = code_small q.kind in
    omega arith

pub same_key-from : (a b : List ℕ) → a ≡ b → same_key a b ≡ true
same_key-from a b e = ap (same_key a) (sym e) ∙ same_key-itself a

-- an entry q, and p before it
record Neighbours (ps : List Point) (i : ℕ) (p q : Point) : Type 0 where
  order : AreInOrder ps
  inside : i + 1 < length ps
  first : get_or ps i q ≡ p
  second : get_or ps (i + 1) p ≡ q

pair : (ps : List Point) (i j : ℕ) (p q : Point) → AreInOrder ps → i < j → j < length ps → get_or ps i q ≡ p → get_or ps j q ≡ q → comes_before p q ≡ true
pair ps i j p q order less inside at_p at_q = sym (λ x. comes_before (at_p x) (at_q x)) ∙ order i j q less inside

there : (ps : List Point) (i : ℕ) (d p : Point) → i < length ps → get_or ps i d ≡ p → (e : Point) → get_or ps i e ≡ p
there ps i d p inside at e = get_or_default ps i e d inside ∙ at

-- nothing that stands behind an entry shadows it, nor does it itself
shadows_first : (ss : List ℕ) (ps : List Point) (i j : ℕ) (q r : Point) → AreInOrder ps → i < length ps → get_or ps i q ≡ q → j < length ps → get_or ps j r ≡ r → shadows_entry ss q r ≡ true → j < i
shadows_first ss ps i j q r order at_i is_q at_j is_r h =
    let (key, over) = and_parts (same_key r.key q.key) (outranks ss r.seq q.seq) h in
    let more : q.seq < r.seq = (outranks-tells ss r.seq q.seq over).0 in
    elim (cases_order i j) [
      | inl same ↦
          let one : q ≡ r = sym is_q ∙ get_or_default ps i q r at_i ∙ ap (λ n. get_or ps n r) same ∙ is_r in
          let seqs : q.seq ≡ r.seq = ap (λ (x : Point). x.seq) one in
          absurd (omega arith)
      | inr (inl less) ↦
          let low : r.seq ≤ q.seq = falls q r (sym (same_key-tells r.key q.key key)) (pair ps i j q r order less at_j (there ps i q q at_i is_q r) is_r) in
          absurd (omega arith)
      | inr (inr more_) ↦ more_
    ]

pub shadowed_none : (ss : List ℕ) (ps : List Point) (q : Point) → AreInOrder ps → 0 < length ps → get_or ps 0 q ≡ q → list_any (shadows_entry ss q) ps ≡ false
shadowed_none ss ps q order inside is_q = false_from_ne_true (list_any (shadows_entry ss q) ps) (λ h.
    let from = any-has (shadows_entry ss q) ps h in
    let (j, at_j, is_r) = Contains-from_Has ps from.0 from.1 in
    let low : j < 0 = shadows_first ss ps 0 j q from.0 order inside is_q at_j is_r from.2 in
    omega arith)

-- what is known of the end of a stripe, and of the entry before
record Ended (ss : List ℕ) (p q : Point) (limit : ℕ) : Type 0 where
  end : IsEnd ss q.seq limit
  small : p.seq < 2 ^ 56

shadow_code : Point → Point → ℕ → Bool → Bool
shadow_code p q limit before = same_key p.key q.key && ltb p.seq limit && (ltb q.seq p.seq || before)

has_first : (ps : List Point) (i : ℕ) (p q : Point) → Neighbours ps i p q → Has ps p
has_first ps i p q n = subst (λ x. Has ps x) n.first (Has-get_or ps i q (let h = n.inside in omega arith))

before_second : (ps : List Point) (i : ℕ) (p q : Point) → Neighbours ps i p q → comes_before p q ≡ true
before_second ps i p q n = pair ps i (i + 1) p q n.order (omega arith) n.inside n.first (there ps (i + 1) p q n.inside n.second q)

shadow_to : (ss : List ℕ) (ps : List Point) (i : ℕ) (p q : Point) (limit : ℕ) → Neighbours ps i p q → Ended ss p q limit → shadow_code p q limit (list_any (shadows_entry ss p) ps) ≡ true → list_any (shadows_entry ss q) ps ≡ true
unfolding shadow_code
shadow_to ss ps i p q limit n e h =
    let before = list_any (shadows_entry ss p) ps in
    let both = and_parts (same_key p.key q.key && ltb p.seq limit) (ltb q.seq p.seq || before) h in
    let (keys, less) = and_parts (same_key p.key q.key) (ltb p.seq limit) both.0 in
    let key : p.key ≡ q.key = same_key-tells p.key q.key keys in
    let low : q.seq ≤ p.seq = falls p q key (before_second ps i p q n) in
    elim (cases_lt q.seq p.seq) [
      | inl more ↦ any-from (shadows_entry ss q) ps p (has_first ps i p q n) (and_from (same_key p.key q.key) (outranks ss p.seq q.seq) keys (within ss p.seq q.seq limit e.end e.small more less))
      | inr not_more ↦
          let seqs : p.seq ≡ q.seq = omega arith in
          let was : before ≡ true = elim (or_cases (ltb q.seq p.seq) before both.1) [
            | inl g ↦ absurd (false≢true (sym (le-ltb q.seq p.seq not_more) ∙ g))
            | inr g ↦ g
          ] in
          let from = any-has (shadows_entry ss p) ps was in
          any-from (shadows_entry ss q) ps from.0 from.1 (sym (λ x. same_key from.0.key (key x) && outranks ss from.0.seq (seqs x)) ∙ from.2)
    ]

shadow_from : (ss : List ℕ) (ps : List Point) (i : ℕ) (p q : Point) (limit : ℕ) → Neighbours ps i p q → Ended ss p q limit → list_any (shadows_entry ss q) ps ≡ true → shadow_code p q limit (list_any (shadows_entry ss p) ps) ≡ true
unfolding shadow_code
shadow_from ss ps i p q limit n e h =
    let before = list_any (shadows_entry ss p) ps in
    let from = any-has (shadows_entry ss q) ps h in
    let r = from.0 in
    let (keys, over) = and_parts (same_key r.key q.key) (outranks ss r.seq q.seq) from.2 in
    let tells = outranks-tells ss r.seq q.seq over in
    let more : q.seq < r.seq = tells.0 in
    let (j, at_j, is_r) = Contains-from_Has ps r from.1 in
    let earlier : j < i + 1 = shadows_first ss ps (i + 1) j q r n.order n.inside (there ps (i + 1) p q n.inside n.second q) at_j is_r from.2 in
    elim (cases_order j i) [
      | inl same ↦
          let one : r ≡ p = sym is_r ∙ get_or_default ps j r q at_j ∙ ap (λ m. get_or ps m q) same ∙ n.first in
          let over_p : outranks ss p.seq q.seq ≡ true = sym (ap (λ (x : Point). outranks ss x.seq q.seq) one) ∙ over in
          and_from (same_key p.key q.key && ltb p.seq limit) (ltb q.seq p.seq || before)
          (and_from (same_key p.key q.key) (ltb p.seq limit) (sym (ap (λ (x : Point). same_key x.key q.key) one) ∙ keys) (ended ss p.seq q.seq limit e.end e.small over_p))
          (or_left (ltb q.seq p.seq) before (lt-ltb q.seq p.seq (outranks-tells ss p.seq q.seq over_p).0))
      | inr (inl less) ↦
          let into : comes_before r p ≡ true = pair ps j i r p n.order less (let g = n.inside in omega arith) (there ps j r r at_j is_r p) (there ps i q p (let g = n.inside in omega arith) n.first p) in
          let onto = before_second ps i p q n in
          let key_r : r.key ≡ q.key = same_key-tells r.key q.key keys in
          let key : p.key ≡ q.key = upto_antisymm p.key q.key (before_keys p q onto) (subst (λ x. is_upto x p.key ≡ true) key_r (before_keys r p into)) in
          let high : p.seq ≤ r.seq = falls r p (key_r ∙ sym key) into in
          let low : q.seq ≤ p.seq = falls p q key onto in
          let up = stripe_rises ss p.seq r.seq high in
          let down = stripe_rises ss q.seq p.seq low in
          let level = tells.1 in
          let equal : stripe ss p.seq ≡ stripe ss q.seq = omega arith in
          let same = same_key-from p.key q.key key in
          elim (cases_lt q.seq p.seq) [
            | inl between ↦
                and_from (same_key p.key q.key && ltb p.seq limit) (ltb q.seq p.seq || before)
                (and_from (same_key p.key q.key) (ltb p.seq limit) same (ended ss p.seq q.seq limit e.end e.small (outranks-from ss p.seq q.seq between equal)))
                (or_left (ltb q.seq p.seq) before (lt-ltb q.seq p.seq between))
            | inr not_between ↦
                let seqs : p.seq ≡ q.seq = omega arith in
                let below : q.seq < limit = e.end.above in
                and_from (same_key p.key q.key && ltb p.seq limit) (ltb q.seq p.seq || before)
                (and_from (same_key p.key q.key) (ltb p.seq limit) same (lt-ltb p.seq limit (omega arith)))
                (or_right (ltb q.seq p.seq) before (any-from (shadows_entry ss p) ps r from.1 ((λ x. same_key r.key (key x) && outranks ss r.seq (seqs x)) ∙ from.2)))
          ]
      | inr (inr behind) ↦ absurd (omega arith)
    ]

-- the entry before one tells whether it is shadowed
pub shadowed_next : (ss : List ℕ) (ps : List Point) (i : ℕ) (p q : Point) (limit : ℕ) (before : Bool) → AreInOrder ps → i + 1 < length ps → p ≡ get_or ps i p → q ≡ get_or ps (i + 1) q → IsEnd ss q.seq limit → p.seq < 2 ^ 56 → before ≡ list_any (shadows_entry ss p) ps → (same_key p.key q.key && ltb p.seq limit && (ltb q.seq p.seq || before)) ≡ list_any (shadows_entry ss q) ps
unfolding shadow_code
shadowed_next ss ps i p q limit before order inside at_p at_q end small was =
    let n : Neighbours ps i p q = record { order = order; inside = inside; first = there ps i p p (omega arith) (sym at_p) q; second = there ps (i + 1) q q inside (sym at_q) p } in
    let e : Ended ss p q limit = record { end = end; small = small } in
    ap (λ b. same_key p.key q.key && ltb p.seq limit && (ltb q.seq p.seq || b)) was
    ∙ both_ways (shadow_code p q limit (list_any (shadows_entry ss p) ps)) (list_any (shadows_entry ss q) ps) (shadow_to ss ps i p q limit n e) (shadow_from ss ps i p q limit n e)

pub same_key-is : (a b : List ℕ) (r : Bool) → (r ≡ true → a ≡ b) → (a ≡ b → r ≡ true) → r ≡ same_key a b
same_key-is a b r to from = both_ways r (same_key a b) (λ h. same_key-from a b (to h)) (λ h. from (same_key-tells a b h))

-- the spans that bury an entry, told by the end of its stripe
pub buries-ended : (ss : List ℕ) (p : Point) (limit : ℕ) (ts : List Tombstone) → IsEnd ss p.seq limit → All (λ t. t.seq < 2 ^ 56) ts → list_any (λ t. holds t.range p.key && (ltb p.seq t.seq && ltb t.seq limit)) ts ≡ list_any (buries_entry ss p) ts
buries-ended ss p limit ts end small = any_along (λ t. holds t.range p.key && (ltb p.seq t.seq && ltb t.seq limit)) (buries_entry ss p) ts (λ t h.
    ap (λ b. holds t.range p.key && b) (sym (end.same t.seq (All-at_Has (λ x. x.seq < 2 ^ 56) ts t small h))))

-- the same where the place of the entry is told
pub shadow_told : (ss : List ℕ) (ps : List Point) (at : ℕ) (p q : Point) (n limit : ℕ) (before : Bool) → AreInOrder ps → 0 < at → at < length ps → p ≡ get_or ps (at - 1) p → q ≡ get_or ps at q → IsEnd ss n limit → n ≡ q.seq → ((d : Point) → 0 < at → (get_or ps (at - 1) d).seq < 2 ^ 56) → ((d : Point) → 0 < at → before ≡ list_any (shadows_entry ss (get_or ps (at - 1) d)) ps) → (same_key p.key q.key && ltb p.seq limit && (ltb q.seq p.seq || before)) ≡ list_any (shadows_entry ss q) ps
shadow_told ss ps at p q n limit before order some inside at_p at_q end seqs small was =
    let place : at ≡ (at - 1) + 1 = omega arith in
    shadowed_next ss ps (at - 1) p q limit before order (omega arith) at_p (at_q ∙ ap (λ m. get_or ps m q) place) (subst (λ m. IsEnd ss m limit) seqs end) (subst (λ (x : Point). x.seq < 2 ^ 56) (sym at_p) (small p some)) (was p some ∙ ap (λ x. list_any (shadows_entry ss x) ps) (sym at_p))

pub shadow_first : (ss : List ℕ) (ps : List Point) (at : ℕ) (q : Point) → AreInOrder ps → at ≤ 0 → at < length ps → q ≡ get_or ps at q → false ≡ list_any (shadows_entry ss q) ps
shadow_first ss ps at q order none inside at_q =
    let place : at ≡ 0 = omega arith in
    sym (shadowed_none ss ps q order (omega arith) (ap (λ m. get_or ps m q) (sym place) ∙ sym at_q))

-- what is known of an entry, asked one step later
pub shadow_kept : (ss : List ℕ) (ps : List Point) (at : ℕ) (q : Point) (shadowed : Bool) → at < length ps → q ≡ get_or ps at q → shadowed ≡ list_any (shadows_entry ss q) ps → (d : Point) → 0 < at + 1 → shadowed ≡ list_any (shadows_entry ss (get_or ps (at + 1 - 1) d)) ps
shadow_kept ss ps at q shadowed inside at_q h d some =
    let place : at + 1 - 1 ≡ at = omega arith in
    h ∙ ap (λ x. list_any (shadows_entry ss x) ps) (sym (ap (λ m. get_or ps m d) place ∙ get_or_default ps at d q inside ∙ sym at_q))

pub small_kept : (ps : List Point) (at : ℕ) (q : Point) → at < length ps → q ≡ get_or ps at q → q.seq < 2 ^ 56 → (d : Point) → 0 < at + 1 → (get_or ps (at + 1 - 1) d).seq < 2 ^ 56
small_kept ps at q inside at_q small d some =
    let place : at + 1 - 1 ≡ at = omega arith in
    subst (λ (x : Point). x.seq < 2 ^ 56) (sym (ap (λ m. get_or ps m d) place ∙ get_or_default ps at d q inside ∙ sym at_q)) small
