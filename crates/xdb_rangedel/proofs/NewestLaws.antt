-- The newest mark: joined contents, the greatest item, and contents whose order is nothing.
use Rattle.std.proofs.Common.{◌≡◌, ℕ, ◌<◌, ◌≤◌, true, false, ◌&&◌, cond, ltb, List, [], ◌∷◌, ◌++◌, Option, Some, None, inl, inr, IsTrue, refl, sym, ap, ◌∙◌, subst, arith}
use Rattle.std.proofs.lemmas.Bool.{lt-ltb, le-ltb, cases_lt, false≢true, and_parts, and_left, and_right, false_from_ne_true, cases_Bool}
use Rattle.std.specs.FinMap.{FinMap, same_map}
use Rattle.xdb_key.specs.Order.{key_cmp}
use Rattle.xdb_key.proofs.OrderLaws.{key_exact, key_total}
use Rattle.std.specs.Ordering.{is_eq}
use Rattle.std.specs.Cmp.{tied_itself, Equal-is}
use Rattle.xdb_rangedel.specs.Members.{Has, SameMembers}
use Rattle.xdb_rangedel.specs.Content.{Item, entry, span, Mark, seq_of, same_key, here, rank, said, verdict_by, mark, is_seen, mark_at, newer, newest, IsImage, IsClear}
use Rattle.xdb_rangedel.specs.Layers.{IsGreatest, IsAllBelow, IsAllFrom, IsSilentAt}

-- two marks

pub newer-none : (a : Option Mark) → newer a None ≡ a
newer-none None = refl
newer-none (Some m) = refl

pub newer-rises : (m n : Mark) → m.place < n.place → newer (Some m) (Some n) ≡ Some n
newer-rises m n h = ap (λ b. cond b (Some n) (Some m)) (lt-ltb m.place n.place h)

pub newer-stays : (m n : Mark) → n.place ≤ m.place → newer (Some m) (Some n) ≡ Some m
newer-stays m n h = ap (λ b. cond b (Some n) (Some m)) (le-ltb m.place n.place h)

pub newer_assoc : (a b c : Option Mark) → newer (newer a b) c ≡ newer a (newer b c)
newer_assoc None b c = refl
newer_assoc (Some l) None c = refl
newer_assoc (Some l) (Some m) None = newer-none (newer (Some l) (Some m))
newer_assoc (Some l) (Some m) (Some n) = elim (cases_lt l.place m.place) [
  | inl up ↦ elim (cases_lt m.place n.place) [
    | inl more ↦ ap (λ o. newer o (Some n)) (newer-rises l m up) ∙ newer-rises m n more
        ∙ sym (ap (λ o. newer (Some l) o) (newer-rises m n more) ∙ newer-rises l n (omega arith))
    | inr less ↦ ap (λ o. newer o (Some n)) (newer-rises l m up) ∙ newer-stays m n less
        ∙ sym (ap (λ o. newer (Some l) o) (newer-stays m n less) ∙ newer-rises l m up)
  ]
  | inr down ↦ elim (cases_lt m.place n.place) [
    | inl more ↦ ap (λ o. newer o (Some n)) (newer-stays l m down) ∙ sym (ap (λ o. newer (Some l) o) (newer-rises m n more))
    | inr less ↦ ap (λ o. newer o (Some n)) (newer-stays l m down) ∙ newer-stays l n (omega arith)
        ∙ sym (ap (λ o. newer (Some l) o) (newer-stays m n less) ∙ newer-stays l m down)
  ]
]

-- joined contents

pub newest-append : (a b : List Item) (limit : ℕ) (k : List ℕ) → newest (a ++ b) limit k ≡ newer (newest a limit k) (newest b limit k)
newest-append [] b limit k = refl
newest-append (i ∷ a) b limit k =
    ap (λ o. newer (mark_at limit k i) o) (newest-append a b limit k) ∙ sym (newer_assoc (mark_at limit k i) (newest a limit k) (newest b limit k))

-- a part gives way to one with the same newest marks
pub newest_replaced : (a b d c : List Item) (limit : ℕ) (k : List ℕ) → newest b limit k ≡ newest d limit k → newest (a ++ (b ++ c)) limit k ≡ newest (a ++ (d ++ c)) limit k
newest_replaced a b d c limit k e =
    newest-append a (b ++ c) limit k ∙ ap (λ o. newer (newest a limit k) o) (newest-append b c limit k ∙ ap (λ o. newer o (newest c limit k)) e ∙ sym (newest-append d c limit k))
    ∙ sym (newest-append a (d ++ c) limit k)

-- one item

pub mark_at-seen : (limit : ℕ) (k : List ℕ) (i : Item) → is_seen limit k i ≡ true → mark_at limit k i ≡ Some (mark i)
mark_at-seen limit k i h = ap (λ b. cond b (Some (mark i)) None) h

pub mark_at-unseen : (limit : ℕ) (k : List ℕ) (i : Item) → is_seen limit k i ≡ false → mark_at limit k i ≡ None
mark_at-unseen limit k i h = ap (λ b. cond b (Some (mark i)) None) h

-- the greatest item decides

-- a mark is the greatest item's, and where there is none no item is seen
abbrev pub Decided : List Item → ℕ → List ℕ → Option Mark → Type 0
Decided c limit k None = (i : Item) → Has c i → is_seen limit k i ≡ true → ⊥
Decided c limit k (Some m) = (i : Item) × IsGreatest c limit k i × (mark i ≡ m)

decided_unseen : (i : Item) (c : List Item) (limit : ℕ) (k : List ℕ) (o : Option Mark) → is_seen limit k i ≡ false → Decided c limit k o → Decided (i ∷ c) limit k o
decided_unseen i c limit k None not_seen d = λ j h s. elim h [
  | inl e ↦ false≢true (sym not_seen ∙ ap (λ x. is_seen limit k x) e ∙ s)
  | inr g ↦ d j g s
]
decided_unseen i c limit k (Some m) not_seen (j, g, e) = (
  j,
  record {
    member = inr g.member;
    seen = g.seen;
    highest = λ x h s. elim h [
      | inl p ↦ absurd (false≢true (sym not_seen ∙ ap (λ y. is_seen limit k y) p ∙ s))
      | inr q ↦ g.highest x q s
    ];
  },
  e,
)

decided_seen : (i : Item) (c : List Item) (limit : ℕ) (k : List ℕ) (o : Option Mark) → is_seen limit k i ≡ true → Decided c limit k o → Decided (i ∷ c) limit k (newer (Some (mark i)) o)
decided_seen i c limit k None s d = (
  i,
  record {
    member = inl refl;
    seen = s;
    highest = λ x h t. elim h [
      | inl p ↦ let e : rank i ≡ rank x = ap rank p in omega arith
      | inr q ↦ absurd (d x q t)
    ];
  },
  refl,
)
decided_seen i c limit k (Some m) s (j, g, e) =
    let places : rank j ≡ m.place = ap (λ x. x.place) e in
    elim (cases_lt (rank i) m.place) [
      | inl up ↦ subst (λ o. Decided (i ∷ c) limit k o) (sym (newer-rises (mark i) m up)) (
        j,
        record {
          member = inr g.member;
          seen = g.seen;
          highest = λ x h t. elim h [
            | inl p ↦ let r : rank i ≡ rank x = ap rank p in omega arith
            | inr q ↦ g.highest x q t
          ];
        },
        e,
      )
      | inr down ↦ subst (λ o. Decided (i ∷ c) limit k o) (sym (newer-stays (mark i) m down)) (
        i,
        record {
          member = inl refl;
          seen = s;
          highest = λ x h t. elim h [
            | inl p ↦ let r : rank i ≡ rank x = ap rank p in omega arith
            | inr q ↦ let r : rank x ≤ rank j = g.highest x q t in omega arith
          ];
        },
        refl,
      )
    ]

pub decided : (c : List Item) (limit : ℕ) (k : List ℕ) → Decided c limit k (newest c limit k)
decided [] limit k = λ i h s. h
decided (i ∷ c) limit k = elim (cases_Bool (is_seen limit k i)) [
  | inl s ↦ subst (λ o. Decided (i ∷ c) limit k (newer o (newest c limit k))) (sym (mark_at-seen limit k i s)) (decided_seen i c limit k (newest c limit k) s (decided c limit k))
  | inr n ↦ subst (λ o. Decided (i ∷ c) limit k (newer o (newest c limit k))) (sym (mark_at-unseen limit k i n)) (decided_unseen i c limit k (newest c limit k) n (decided c limit k))
]

decided_at : (c : List Item) (limit : ℕ) (k : List ℕ) (o : Option Mark) → newest c limit k ≡ o → Decided c limit k o
decided_at c limit k o e = subst (λ x. Decided c limit k x) e (decided c limit k)

pub newest-None : (c : List Item) (limit : ℕ) (k : List ℕ) → newest c limit k ≡ None → (i : Item) → Has c i → IsTrue (is_seen limit k i) → ⊥
newest-None c limit k e = decided_at c limit k None e

pub newest-Some : (c : List Item) (limit : ℕ) (k : List ℕ) (m : Mark) → newest c limit k ≡ Some m → (i : Item) × IsGreatest c limit k i × (mark i ≡ m)
newest-Some c limit k m e = decided_at c limit k (Some m) e

-- clear contents

pub same_key-tells : (a b : List ℕ) → same_key a b ≡ true → a ≡ b
same_key-tells a b h = key_exact a b ((Equal-is (key_cmp a b)).0 h)

pub same_key-itself : (a : List ℕ) → same_key a a ≡ true
same_key-itself a = ap is_eq (tied_itself key_total a)

pub verdict_by-tells : (v w : Option (List ℕ)) → verdict_by v ≡ verdict_by w → v ≡ w
verdict_by-tells None None e = refl
verdict_by-tells None (Some w) e = cc
verdict_by-tells (Some v) None e = cc
verdict_by-tells (Some v) (Some w) e = cc

-- at one key, items of one rank say the same
pub clear_says : (c : List Item) (k : List ℕ) (i j : Item) → IsClear c → Has c i → Has c j → here k i ≡ true → here k j ≡ true → rank i ≡ rank j → said i ≡ said j
clear_says c k (entry a s v) (entry b t w) clear hi hj at_i at_j e =
    let keys : b ≡ a = same_key-tells b k at_j ∙ sym (same_key-tells a k at_i) in
    let seqs : t ≡ s = omega arith in
    ap verdict_by (clear a s v w hi (subst (λ y. Has c (entry a y w)) seqs (subst (λ x. Has c (entry x t w)) keys hj)))
clear_says c k (entry a s v) (span t) clear hi hj at_i at_j e = absurd (omega arith)
clear_says c k (span t) (entry a s v) clear hi hj at_i at_j e = absurd (omega arith)
clear_says c k (span t) (span u) clear hi hj at_i at_j e = refl

mark-same : (i j : Item) → rank i ≡ rank j → said i ≡ said j → mark i ≡ mark j
mark-same i j e f = λ x. record { place = e x; says = f x }

-- what is seen is here
pub seen-here : (limit : ℕ) (k : List ℕ) (i : Item) → is_seen limit k i ≡ true → here k i ≡ true
seen-here limit k i s = (and_parts (here k i) (ltb (seq_of i) limit) s).0

greatest_by : (c : List Item) (limit : ℕ) (k : List ℕ) (i : Item) (o : Option Mark) → IsClear c → IsGreatest c limit k i → Decided c limit k o → o ≡ Some (mark i)
greatest_by c limit k i None clear g d = absurd (d i g.member g.seen)
greatest_by c limit k i (Some m) clear g (j, f, e) =
    let up : rank j ≤ rank i = g.highest j f.member f.seen in
    let down : rank i ≤ rank j = f.highest i g.member g.seen in
    let ranks : rank j ≡ rank i = omega arith in
    ap Some (sym e ∙ mark-same j i ranks (clear_says c k j i clear f.member g.member (seen-here limit k j f.seen) (seen-here limit k i g.seen) ranks))

pub newest-greatest : (c : List Item) (limit : ℕ) (k : List ℕ) (i : Item) → IsClear c → IsGreatest c limit k i → newest c limit k ≡ Some (mark i)
newest-greatest c limit k i clear g = greatest_by c limit k i (newest c limit k) clear g (decided c limit k)

clear_along : (a b : List Item) → SameMembers a b → IsClear a → IsClear b
clear_along a b same clear = λ key seq v w hv hw. clear key seq v w ((same (entry key seq v)).1 hv) ((same (entry key seq w)).1 hw)

order_by : (a b : List Item) (limit : ℕ) (k : List ℕ) (o p : Option Mark) → SameMembers a b → IsClear a → Decided a limit k o → newest b limit k ≡ p → Decided b limit k p → o ≡ p
order_by a b limit k None None same clear d e f = refl
order_by a b limit k None (Some m) same clear d e (j, g, q) = absurd (d j ((same j).1 g.member) g.seen)
order_by a b limit k (Some m) p same clear (i, g, q) e f =
    sym (ap Some q) ∙ sym (newest-greatest b limit k i (clear_along a b same clear) (record {
      member = (same i).0 g.member;
      seen = g.seen;
      highest = λ j h s. g.highest j ((same j).1 h) s;
    })) ∙ e

-- neither order nor repetition matters in a clear content
pub newest_unordered : (a b : List Item) (limit : ℕ) (k : List ℕ) → SameMembers a b → IsClear a → newest a limit k ≡ newest b limit k
newest_unordered a b limit k same clear = order_by a b limit k (newest a limit k) (newest b limit k) same clear (decided a limit k) refl (decided b limit k)

-- numbers above and below the limit

pub newest_raised : (c : List Item) (limit more : ℕ) (k : List ℕ) → IsAllBelow limit c → limit ≤ more → newest c more k ≡ newest c limit k
newest_raised [] limit more k below h = refl
newest_raised (i ∷ c) limit more k below h =
    let low : seq_of i < limit = below i (inl refl) in
    let tests : ltb (seq_of i) more ≡ ltb (seq_of i) limit = lt-ltb (seq_of i) more (omega arith) ∙ sym (lt-ltb (seq_of i) limit low) in
    ap (λ b. newer (cond (here k i && b) (Some (mark i)) None) (newest c more k)) tests
    ∙ ap (λ o. newer (mark_at limit k i) o) (newest_raised c limit more k (λ j g. below j (inr g)) h)

pub newest_unseen : (c : List Item) (limit : ℕ) (k : List ℕ) → IsAllFrom limit c → newest c limit k ≡ None
newest_unseen [] limit k from = refl
newest_unseen (i ∷ c) limit k from =
    ap (λ o. newer o (newest c limit k)) (mark_at-unseen limit k i (and_right (here k i) (ltb (seq_of i) limit) (le-ltb (seq_of i) limit (from i (inl refl)))))
    ∙ newest_unseen c limit k (λ j g. from j (inr g))

pub newest_silent : (c : List Item) (limit : ℕ) (k : List ℕ) → IsSilentAt k c → newest c limit k ≡ None
newest_silent [] limit k silent = refl
newest_silent (i ∷ c) limit k silent =
    ap (λ o. newer o (newest c limit k)) (mark_at-unseen limit k i (and_left (here k i) (ltb (seq_of i) limit) (false_from_ne_true (here k i) (silent i (inl refl)))))
    ∙ newest_silent c limit k (λ j g. silent j (inr g))

-- a content has one image at a number
pub image_is_one : (c : List Item) (limit : ℕ) (m n : FinMap key_cmp (List ℕ)) → IsImage c limit m → IsImage c limit n → m ≡ n
image_is_one c limit m n p q = same_map key_total key_exact m n (λ k. p k ∙ sym (q k))
