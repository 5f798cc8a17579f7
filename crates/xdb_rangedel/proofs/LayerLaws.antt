-- Contents over one another: the verdict is the upper's, unless it says nothing.
use Rattle.std.proofs.Common.{◌≡◌, ℕ, ◌+◌, ◌*◌, ◌<◌, ◌≤◌, true, List, ◌++◌, Option, Some, None, inl, inr, refl, sym, ap, ◌∙◌, subst, arith}
use Rattle.std.proofs.lemmas.Bool.{cases_lt}
use Rattle.xdb_rangedel.specs.Members.{Has}
use Rattle.xdb_rangedel.specs.Content.{Item, entry, span, Verdict, found, deleted, nothing, Mark, seq_of, here, rank, said, verdict_by, newer, newest, said_by, verdict, IsClear}
use Rattle.xdb_rangedel.specs.Layers.{IsNewerAt, IsOverAt, over, IsDrawn, IsSilentAt}
use Rattle.xdb_rangedel.proofs.NewestLaws.{newer-none, newer-rises, newer-stays, newest-append, Decided, decided, newest_silent, seen-here, same_key-tells, same_key-itself, verdict_by-tells}

rank-near : (i : Item) → (2 * seq_of i ≤ rank i) × (rank i ≤ 2 * seq_of i + 1)
rank-near (entry key seq value) = (omega arith, omega arith)
rank-near (span t) = (omega arith, omega arith)

-- greater numbers stand higher
pub newer-over : (k : List ℕ) (upper lower : List Item) → IsNewerAt k upper lower → IsOverAt k upper lower
newer-over k upper lower h = record {
  not_below = λ i j p q a b.
      let low : seq_of j < seq_of i = h i j p q a b in
      omega (arith, (rank-near i).0, (rank-near j).1);
  tied = λ i j p q a b e.
      let low : seq_of j < seq_of i = h i j p q a b in
      absurd (omega (arith, (rank-near i).0, (rank-near j).1));
}

over-nothing : (v : Verdict) → over v nothing ≡ v
over-nothing (found value) = refl
over-nothing deleted = refl
over-nothing nothing = refl

over-said_by : (value : Option (List ℕ)) (v : Verdict) → over (verdict_by value) v ≡ verdict_by value
over-said_by None v = refl
over-said_by (Some value) v = refl

-- an item says something
over-said : (i : Item) (v : Verdict) → over (said i) v ≡ said i
over-said (entry key seq value) v = over-said_by value v
over-said (span t) v = refl

said-newer : (k : List ℕ) (upper lower : List Item) (limit : ℕ) (o p : Option Mark) → IsOverAt k upper lower → Decided upper limit k o → Decided lower limit k p → said_by (newer o p) ≡ over (said_by o) (said_by p)
said-newer k upper lower limit None p h d e = refl
said-newer k upper lower limit (Some m) None h d e = sym (over-nothing m.says)
said-newer k upper lower limit (Some m) (Some n) h (i, g, a) (j, f, b) =
    let ranks : rank j ≤ rank i = h.not_below i j g.member f.member (seen-here limit k i g.seen) (seen-here limit k j f.seen) in
    let places : rank i ≡ m.place = ap (λ x. x.place) a in
    let others : rank j ≡ n.place = ap (λ x. x.place) b in
    ap said_by (newer-stays m n (omega arith)) ∙ subst (λ v. v ≡ over v n.says) (ap (λ x. x.says) a) (sym (over-said i n.says))

pub verdict_layered : (k : List ℕ) (upper lower : List Item) (limit : ℕ) → IsOverAt k upper lower → verdict (upper ++ lower) limit k ≡ over (verdict upper limit k) (verdict lower limit k)
verdict_layered k upper lower limit h =
    ap said_by (newest-append upper lower limit k) ∙ said-newer k upper lower limit (newest upper limit k) (newest lower limit k) h (decided upper limit k) (decided lower limit k)

mark_parts : (m n : Mark) → m.place ≡ n.place → m.says ≡ n.says → m ≡ n
mark_parts m n e f = λ x. record { place = e x; says = f x }

newer-swapped : (k : List ℕ) (upper lower : List Item) (limit : ℕ) (o p : Option Mark) → IsOverAt k upper lower → Decided upper limit k o → Decided lower limit k p → newer p o ≡ newer o p
newer-swapped k upper lower limit None None h d e = refl
newer-swapped k upper lower limit None (Some n) h d e = refl
newer-swapped k upper lower limit (Some m) None h d e = refl
newer-swapped k upper lower limit (Some m) (Some n) h (i, g, a) (j, f, b) =
    let at_i = seen-here limit k i g.seen in
    let at_j = seen-here limit k j f.seen in
    let ranks : rank j ≤ rank i = h.not_below i j g.member f.member at_i at_j in
    let places : rank i ≡ m.place = ap (λ x. x.place) a in
    let others : rank j ≡ n.place = ap (λ x. x.place) b in
    elim (cases_lt n.place m.place) [
      | inl up ↦ newer-rises n m up ∙ sym (newer-stays m n (omega arith))
      | inr down ↦
          let tie : rank i ≡ rank j = omega arith in
          let says = h.tied i j g.member f.member at_i at_j tie in
          let one : n ≡ m = mark_parts n m (omega arith) (sym (ap (λ x. x.says) b) ∙ sym says ∙ ap (λ x. x.says) a) in
          newer-stays n m down ∙ ap Some one ∙ sym (newer-stays m n (omega arith))
    ]

-- which layer stands first in the list is nothing
pub newest_layers_swapped : (k : List ℕ) (upper lower : List Item) (limit : ℕ) → IsOverAt k upper lower → newest (lower ++ upper) limit k ≡ newest (upper ++ lower) limit k
newest_layers_swapped k upper lower limit h =
    newest-append lower upper limit k
    ∙ newer-swapped k upper lower limit (newest upper limit k) (newest lower limit k) h (decided upper limit k) (decided lower limit k)
    ∙ sym (newest-append upper lower limit k)

-- a part between layers gives way to one with the same verdict
pub verdict_replaced : (k : List ℕ) (limit : ℕ) (upper part new lower : List Item) → IsOverAt k upper (part ++ lower) → IsOverAt k part lower → IsOverAt k upper (new ++ lower) → IsOverAt k new lower → verdict part limit k ≡ verdict new limit k → verdict (upper ++ (part ++ lower)) limit k ≡ verdict (upper ++ (new ++ lower)) limit k
verdict_replaced k limit upper part new lower a b c d e =
    verdict_layered k upper (part ++ lower) limit a
    ∙ ap (λ v. over (verdict upper limit k) v) (verdict_layered k part lower limit b ∙ ap (λ v. over v (verdict lower limit k)) e ∙ sym (verdict_layered k new lower limit d))
    ∙ sym (verdict_layered k upper (new ++ lower) limit c)

-- an empty part

pub newest_silent_left : (a c : List Item) (limit : ℕ) (k : List ℕ) → IsSilentAt k c → newest (c ++ a) limit k ≡ newest a limit k
newest_silent_left a c limit k h = newest-append c a limit k ∙ ap (λ o. newer o (newest a limit k)) (newest_silent c limit k h)

pub newest_silent_right : (a c : List Item) (limit : ℕ) (k : List ℕ) → IsSilentAt k c → newest (a ++ c) limit k ≡ newest a limit k
newest_silent_right a c limit k h = newest-append a c limit k ∙ ap (λ o. newer (newest a limit k) o) (newest_silent c limit k h) ∙ newer-none (newest a limit k)

-- what is drawn

drawn_value : (old : List Item) (key : List ℕ) (seq : ℕ) (v : Option (List ℕ)) (j : Item) → Has old j → here key j ≡ true → rank j ≡ 2 * seq + 1 → said j ≡ verdict_by v → Has old (entry key seq v)
drawn_value old key seq v (entry b t w) h at_j e says =
    let keys : b ≡ key = same_key-tells b key at_j in
    let seqs : t ≡ seq = omega arith in
    let values : w ≡ v = verdict_by-tells w v says in
    subst (λ x. Has old (entry key seq x)) values (subst (λ y. Has old (entry key y w)) seqs (subst (λ x. Has old (entry x t w)) keys h))
drawn_value old key seq v (span t) h at_j e says = absurd (omega arith)

-- an entry of the new content is one of the old
pub drawn_entry : (old new : List Item) (key : List ℕ) (seq : ℕ) (v : Option (List ℕ)) → IsDrawn old new → Has new (entry key seq v) → Has old (entry key seq v)
drawn_entry old new key seq v d h =
    let from = d key (entry key seq v) h (same_key-itself key) in
    drawn_value old key seq v from.0 from.1 from.2 from.3 from.4

pub drawn_clear : (old new : List Item) → IsDrawn old new → IsClear old → IsClear new
drawn_clear old new d clear = λ key seq v w hv hw. clear key seq v w (drawn_entry old new key seq v d hv) (drawn_entry old new key seq w d hw)

seq-from_rank : (i j : Item) → rank i ≡ rank j → seq_of i ≡ seq_of j
seq-from_rank i j e = omega (arith, (rank-near i).0, (rank-near i).1, (rank-near j).0, (rank-near j).1)

-- what is drawn from newer content is newer, and what is drawn from older content is older
pub drawn_newer : (k : List ℕ) (upper lower new_upper new_lower : List Item) → IsDrawn upper new_upper → IsDrawn lower new_lower → IsNewerAt k upper lower → IsNewerAt k new_upper new_lower
drawn_newer k upper lower new_upper new_lower d e h = λ i j p q a b.
    let u = d k i p a in
    let l = e k j q b in
    let low : seq_of l.0 < seq_of u.0 = h u.0 l.0 u.1 l.1 u.2 l.2 in
    let su : seq_of u.0 ≡ seq_of i = seq-from_rank u.0 i u.3 in
    let sl : seq_of l.0 ≡ seq_of j = seq-from_rank l.0 j l.3 in
    omega arith

pub drawn_trans : (a b c : List Item) → IsDrawn a b → IsDrawn b c → IsDrawn a c
drawn_trans a b c d e = λ k i h at_i.
    let from = e k i h at_i in
    let back = d k from.0 from.1 from.2 in
    (back.0, back.1, back.2, back.3 ∙ from.3, back.4 ∙ from.4)
