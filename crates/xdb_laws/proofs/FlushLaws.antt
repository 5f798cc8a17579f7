-- Flushes: a table in place of the oldest group keeps order, image and numbers; and where it stands in L0.
use Rattle.std.proofs.Common.{◌≡◌, ℕ, ◌+◌, ◌<◌, ◌≤◌, ◌⊎◌, List, [], ◌∷◌, ◌++◌, map, reverse, inl, inr, refl, sym, ap, ◌∙◌, subst, arith}
use Rattle.std.proofs.lemmas.Grind.{reverse_onto}
use Rattle.std.proofs.lemmas.List.{append_assoc, reverse-append}
use Rattle.xdb_rangedel.specs.Content.{Item, seq_of}
use Rattle.xdb_rangedel.specs.Layers.{IsAllBelow}
use Rattle.xdb_rangedel.specs.Members.{Has, SameMembers}
use Rattle.xdb_rangedel.proofs.MemberLaws.{Has-append_left, Has-append_right, Has-append_cases}
use Rattle.xdb_stripes.specs.Keeps.{IsLimit}
use Rattle.xdb_stripes.specs.declared.floor.Floor.TheVariants.{All}
use Rattle.xdb_laws.specs.Compaction.{LiesBetween}
use Rattle.xdb_laws.specs.Flush.{Flush, IsFlush, groups_before, levels_before, levels_after}
use Rattle.xdb_laws.specs.Image.{image}
use Rattle.xdb_laws.specs.Ordered.{IsNewer, IsNumberedUpTo, StandsByNumber, joined, Ordered, places, whole}
use Rattle.xdb_laws.proofs.OrderLaws.{seq-of_rank, joined-append, joined-left, newer-within, ordered-layers, ordered-lower, ordered-sunk}
use Rattle.xdb_laws.proofs.PlaceLaws.{same-reversed, same-turned, same-along, same-equal, same-joint, image-same, places-same, places-clear, numbers-drawn}
use Rattle.xdb_laws.proofs.ReplaceLaws.{made-drawn, made-numbers, image-replaced}

module _ (f : Flush) where
  -- from the newest to the oldest: the groups behind, the tables of L0 behind, those before, and the levels below
  abbrev late : List (List Item)
  late = reverse f.groups

  abbrev ahead : List (List Item)
  ahead = reverse f.newer

  abbrev back : List (List Item)
  back = reverse f.older ++ map joined f.lower

  places-before : places (groups_before f) (levels_before f) ≡ late ++ (f.group ∷ (ahead ++ back))
  places-before =
      ap (λ x. x ++ (reverse (f.older ++ f.newer) ++ map joined f.lower)) (reverse_onto f.groups f.group [])
      ∙ append_assoc (reverse f.groups) (f.group ∷ []) (reverse (f.older ++ f.newer) ++ map joined f.lower)
      ∙ ap (λ x. reverse f.groups ++ (f.group ∷ (x ++ map joined f.lower))) (reverse-append f.older f.newer)
      ∙ ap (λ x. reverse f.groups ++ (f.group ∷ x)) (append_assoc (reverse f.newer) (reverse f.older) (map joined f.lower))

  places-after : places f.groups (levels_after f) ≡ late ++ (ahead ++ (f.table ∷ back))
  places-after = ap (λ x. reverse f.groups ++ x) (
      ap (λ x. x ++ map joined f.lower) (reverse-append f.older (f.table ∷ f.newer) ∙ ap (λ x. x ++ reverse f.older) (reverse_onto f.newer f.table []))
      ∙ append_assoc (reverse f.newer ++ f.table ∷ []) (reverse f.older) (map joined f.lower)
      ∙ append_assoc (reverse f.newer) (f.table ∷ []) (reverse f.older ++ map joined f.lower)
      )

  before-same : SameMembers (whole (groups_before f) (levels_before f)) (joined late ++ (f.group ++ joined (ahead ++ back)))
  before-same = same-along (whole (groups_before f) (levels_before f)) (joined (places (groups_before f) (levels_before f))) (joined late ++ (f.group ++ joined (ahead ++ back)))
      (same-turned (joined (places (groups_before f) (levels_before f))) (whole (groups_before f) (levels_before f)) (places-same (groups_before f) (levels_before f)))
      (same-equal (joined (places (groups_before f) (levels_before f))) (joined late ++ (f.group ++ joined (ahead ++ back)))
      (ap joined places-before ∙ joined-append late (f.group ∷ (ahead ++ back))))

  swapped : (a b c d : List Item) → SameMembers (a ++ (b ++ (c ++ d))) (a ++ (c ++ (b ++ d)))
  swapped a b c d = same-joint a a (b ++ (c ++ d)) (c ++ (b ++ d)) (same-equal a a refl) (λ i. (one b c i, one c b i))
    where
      one : (b c : List Item) (i : Item) → Has (b ++ (c ++ d)) i → Has (c ++ (b ++ d)) i
      one b c i h = elim (Has-append_cases b (c ++ d) i h) [
        | inl p ↦ Has-append_right c (b ++ d) i (Has-append_left b d i p)
        | inr p ↦ elim (Has-append_cases c d i p) [
          | inl q ↦ Has-append_left c (b ++ d) i q
          | inr q ↦ Has-append_right c (b ++ d) i (Has-append_right b d i q)
        ]
      ]

  after-equal : joined (places f.groups (levels_after f)) ≡ joined late ++ (joined ahead ++ (f.table ++ joined back))
  after-equal = ap joined places-after ∙ joined-append late (ahead ++ (f.table ∷ back)) ∙ ap (λ x. joined late ++ x) (joined-append ahead (f.table ∷ back))

  after-same : SameMembers (whole f.groups (levels_after f)) (joined late ++ (f.table ++ joined (ahead ++ back)))
  after-same = same-along (whole f.groups (levels_after f)) (joined late ++ (joined ahead ++ (f.table ++ joined back))) (joined late ++ (f.table ++ joined (ahead ++ back)))
      (same-along (whole f.groups (levels_after f)) (joined (places f.groups (levels_after f))) (joined late ++ (joined ahead ++ (f.table ++ joined back)))
      (same-turned (joined (places f.groups (levels_after f))) (whole f.groups (levels_after f)) (places-same f.groups (levels_after f)))
      (same-equal (joined (places f.groups (levels_after f))) (joined late ++ (joined ahead ++ (f.table ++ joined back))) after-equal))
      (same-along (joined late ++ (joined ahead ++ (f.table ++ joined back))) (joined late ++ (f.table ++ (joined ahead ++ joined back))) (joined late ++ (f.table ++ joined (ahead ++ back)))
      (swapped (joined late) (joined ahead) f.table (joined back))
      (same-equal (joined late ++ (f.table ++ (joined ahead ++ joined back))) (joined late ++ (f.table ++ joined (ahead ++ back))) (ap (λ x. joined late ++ (f.table ++ x)) (sym (joined-append ahead back)))))

  module _ (stripes : List ℕ) (o : Ordered (places (groups_before f) (levels_before f))) (c : IsFlush stripes f) where
    laid : Ordered (late ++ (f.group ∷ (ahead ++ back)))
    laid = subst Ordered places-before o

    over_all : Ordered (f.group ∷ (ahead ++ back))
    over_all = ordered-lower late (f.group ∷ (ahead ++ back)) laid

    -- what stands behind the table in L0 has no key with it: the group was newer there, and its numbers aren't greater
    newer_ahead : IsNewer (joined ahead) f.table
    newer_ahead k i j p q at_i at_j =
        let from = made-drawn f.group stripes All f.table c.made k j q at_j in
        let less : seq_of i < seq_of from.0 = over_all.1 k from.0 i from.1 (joined-left ahead back i p) from.2 at_i in
        let same : seq_of from.0 ≡ seq_of j = seq-of_rank j from.0 from.3 in
        let most : seq_of j ≤ seq_of i = c.place j i q ((same-reversed f.newer i).0 p) in
        absurd (omega arith)

    pub flushed-ordered : Ordered (places f.groups (levels_after f))
    flushed-ordered = subst Ordered (sym places-after) (ordered-sunk late ahead back f.group f.table laid (made-drawn f.group stripes All f.table c.made) newer_ahead)

    between : LiesBetween f.group (joined late) (joined (ahead ++ back)) All
    between = record {
      clear = over_all.0;
      newer = newer-within (joined late) (f.group ++ joined (ahead ++ back)) (joined late) f.group (λ i h. h) (λ i h. Has-append_left f.group (joined (ahead ++ back)) i h) (ordered-layers late (f.group ∷ (ahead ++ back)) laid);
      older = over_all.1;
      floored = λ k i j p q at_i at_j. refl;
    }

    pub flushed-image : (limit : ℕ) → IsLimit f.group stripes limit → image (whole (groups_before f) (levels_before f)) limit ≡ image (whole f.groups (levels_after f)) limit
    flushed-image limit at_limit =
        image-same (whole (groups_before f) (levels_before f)) (joined late ++ (f.group ++ joined (ahead ++ back))) limit (places-clear (groups_before f) (levels_before f) o) before-same
        ∙ image-replaced f.group f.table (joined late) (joined (ahead ++ back)) stripes All limit between c.made at_limit
        ∙ sym (image-same (whole f.groups (levels_after f)) (joined late ++ (f.table ++ joined (ahead ++ back))) limit (places-clear f.groups (levels_after f) flushed-ordered) after-same)

  pub flushed-numbers : (stripes : List ℕ) (next : ℕ) (marks : List ℕ) → IsFlush stripes f → IsNumberedUpTo next (whole (groups_before f) (levels_before f)) marks → IsNumberedUpTo next (whole f.groups (levels_after f)) marks
  flushed-numbers stripes next marks c n = numbers-drawn next (whole (groups_before f) (levels_before f)) (whole f.groups (levels_after f)) marks n (λ i h.
      elim (Has-append_cases (joined late) (f.table ++ joined (ahead ++ back)) i ((after-same i).0 h)) [
        | inl p ↦ (i, (before-same i).1 (Has-append_left (joined late) (f.group ++ joined (ahead ++ back)) i p), refl)
        | inr p ↦ elim (Has-append_cases f.table (joined (ahead ++ back)) i p) [
          | inl q ↦
              let from = made-numbers f.group stripes All f.table c.made i q in
              (from.0, (before-same from.0).1 (Has-append_right (joined late) (f.group ++ joined (ahead ++ back)) from.0 (Has-append_left f.group (joined (ahead ++ back)) from.0 from.1)), from.2)
          | inr q ↦ (i, (before-same i).1 (Has-append_right (joined late) (f.group ++ joined (ahead ++ back)) i (Has-append_right f.group (joined (ahead ++ back)) i q)), refl)
        ]
      ])

-- where a table stands in L0

from-joined_map : (newer : List (ℕ × List Item)) (i : Item) → Has (joined (map (λ u. u.1) newer)) i → (u : ℕ × List Item) × Has newer u × Has u.1 i
from-joined_map [] i h = absurd h
from-joined_map (u ∷ newer) i h = elim (Has-append_cases u.1 (joined (map (λ x. x.1) newer)) i h) [
  | inl p ↦ (u, inl refl, p)
  | inr p ↦ let from = from-joined_map newer i p in (from.0, inr from.1, from.2)
]

pub table-placed : (unflushed table : List Item) (next greatest : ℕ) (newer : List (ℕ × List Item)) → ((u : ℕ × List Item) → Has newer u → StandsByNumber unflushed next u.0 u.1 × (greatest ≤ u.0)) → IsAllBelow (greatest + 1) table → ((i : Item) → Has table i → (j : Item) × Has unflushed j × (seq_of j ≡ seq_of i)) → (i j : Item) → Has table i → Has (joined (map (λ u. u.1) newer)) j → seq_of i ≤ seq_of j
table-placed unflushed table next greatest newer stands within from i j p q =
    let u = from-joined_map newer j q in
    let s = stands u.0 u.1 in
    let most : seq_of i < greatest + 1 = within i p in
    elim s.0.apart [
      | inl all ↦
          let back = from i p in
          let least : u.0.0 + 1 ≤ seq_of back.0 = all back.0 back.1 in
          absurd (omega (arith, back.2, s.1))
      | inr one ↦ omega (arith, one j u.2, s.1)
    ]

pub table-new : (group rest table : List Item) (next greatest : ℕ) → IsAllBelow next group → ((i j : Item) → Has group i → Has rest j → seq_of i < seq_of j) → ((i : Item) → Has table i → (j : Item) × Has group j × (seq_of j ≡ seq_of i)) → IsAllBelow (greatest + 1) table → ((i : Item) × Has table i × (seq_of i ≡ greatest)) → StandsByNumber rest next greatest table
table-new group rest table next greatest below rising from within (top, has, number) =
    let back = from top has in
    record {
      below = let less : seq_of back.0 < next = below back.0 back.1 in omega (arith, back.2, number);
      within = within;
      apart = inl (λ j h. let less : seq_of back.0 < seq_of j = rising back.0 j back.1 h in omega (arith, back.2, number));
    }

pub table-stays : (unflushed more table : List Item) (next later greatest : ℕ) → StandsByNumber unflushed next greatest table → next ≤ later → ((i : Item) → Has more i → Has unflushed i ⊎ (next ≤ seq_of i)) → StandsByNumber more later greatest table
table-stays unflushed more table next later greatest s grows from = record {
  below = let less : greatest < next = s.below in omega (arith, grows);
  within = s.within;
  apart = elim s.apart [
    | inl all ↦ inl (λ i h. elim (from i h) [
      | inl old ↦ all i old
      | inr new ↦ let less : greatest < next = s.below in omega (arith, new)
    ])
    | inr one ↦ inr one
  ];
}
