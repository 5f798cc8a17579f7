-- Compactions: what they are given lies between what stands above and below from the take to the end, and what they
-- make in its place keeps order, image and numbers.
use Rattle.std.proofs.Common.{◌≡◌, ℕ, false, ◌<◌, List, ◌∷◌, ◌++◌, inl, inr, IsTrue, refl, sym, ap, ◌∙◌, subst, arith}
use Rattle.std.proofs.lemmas.List.{append_assoc}
use Rattle.std.proofs.lemmas.Bool.{false≢true}
use Rattle.xdb_key.specs.Bounds.{Bounds, holds, covers, meets}
use Rattle.xdb_rangedel.specs.Content.{Item, seq_of, here}
use Rattle.xdb_rangedel.specs.Layers.{IsAllBelow}
use Rattle.xdb_rangedel.specs.Members.{Has, SameMembers}
use Rattle.xdb_rangedel.proofs.MemberLaws.{Has-append_left, Has-append_right, Has-append_cases}
use Rattle.xdb_rangedel.proofs.LayerLaws.{drawn_clear}
use Rattle.xdb_stripes.specs.Floors.{floor_holds}
use Rattle.xdb_stripes.specs.Keeps.{IsLimit}
use Rattle.xdb_stripes.specs.declared.floor.Floor.{Floor}
use Rattle.xdb_stripes.specs.declared.floor.Floor.TheVariants.{Ranges}
use Rattle.xdb_stripes.proofs.AnyLaws.{any-from}
use Rattle.xdb_rangedel.proofs.CoverLaws.{meets-from_held}
use Rattle.xdb_laws.proofs.AnswerLaws.{holds-covered}
use Rattle.xdb_laws.proofs.RewriteLaws.{lies-held}
use Rattle.xdb_laws.specs.Compaction.{LiesBetween, ChangesAround, ShareNoKey, LiesWithin, Move, IsCompaction, places_before, places_after, upper_of, lower_of}
use Rattle.xdb_laws.specs.Image.{image}
use Rattle.xdb_laws.specs.Ordered.{IsNewer, HasSource, IsNumberedUpTo, joined, Ordered}
use Rattle.xdb_laws.proofs.OrderLaws.{seq-of_rank, joined-append, joined-left, newer-upper, newer-lower, newer-within, newer-drawn, drawn-itself, clear-together, clear-within, ordered-layers, ordered-upper, ordered-lower, ordered-together, ordered-clear, left-below}
use Rattle.xdb_laws.proofs.PlaceLaws.{same-along, same-equal, same-joint, image-same, numbers-drawn}
use Rattle.xdb_laws.proofs.ReplaceLaws.{made-drawn, made-numbers, image-replaced}

-- the take

pub taken-between : (above middle below : List (List Item)) (given rest : List Item) (floor : Floor) → Ordered (above ++ (middle ++ below)) → SameMembers (joined middle) (rest ++ given) → ShareNoKey rest given → ((k : List ℕ) (i : Item) → Has (joined below) i → IsTrue (here k i) → IsTrue (floor_holds floor k)) → LiesBetween given (joined above ++ rest) (joined below) floor
taken-between above middle below given rest floor o same apart floored =
    let om = ordered-lower above (middle ++ below) o in
    let in_middle = λ (i : Item) (h : Has given i). (same i).1 (Has-append_right rest given i h) in
    record {
      clear = clear-within (joined middle) given in_middle (ordered-clear middle (ordered-upper middle below om));
      newer = newer-upper (joined above) rest given
          (newer-within (joined above) (joined (middle ++ below)) (joined above) given (λ i h. h) (λ i h. joined-left middle below i (in_middle i h)) (ordered-layers above (middle ++ below) o))
          (λ k i j p q at_i at_j. absurd (apart k i j p q at_i at_j));
      older = newer-within (joined middle) (joined below) given (joined below) in_middle (λ i h. h) (ordered-layers middle below om);
      floored = λ k i j p q at_i at_j. floored k j q at_j;
    }

pub bounds-apart : (hull : Bounds) (others inputs : List Bounds) (rest given : List Item) → LiesWithin others rest → LiesWithin inputs given → ((r : Bounds) → Has others r → meets hull r ≡ false) → ((r : Bounds) → Has inputs r → IsTrue (covers hull r)) → ShareNoKey rest given
bounds-apart hull others inputs rest given out within beside covered k i j p q at_i at_j =
    let (r, has, lies) = out i p in
    let (s, there, inside) = within j q in
    let in_hull = holds-covered hull s k (covered s there) (lies-held s k j inside at_j) in
    false≢true (sym (beside r has) ∙ meets-from_held hull r k in_hull (lies-held r k i lies at_i))

pub bounds-floor : (rs : List Bounds) (c : List Item) → LiesWithin rs c → (k : List ℕ) (i : Item) → Has c i → IsTrue (here k i) → IsTrue (floor_holds (Ranges rs) k)
bounds-floor rs c within k i h at_i =
    let (r, has, lies) = within i h in
    any-from (λ o. holds o k) rs r has (lies-held r k i lies at_i)

-- while it runs

pub between-changed : (given upper lower new_upper new_lower : List Item) (floor : Floor) → LiesBetween given upper lower floor → IsNewer new_upper given → ((k : List ℕ) (g i : Item) → Has given g → Has new_lower i → IsTrue (here k g) → IsTrue (here k i) → HasSource lower k i) → LiesBetween given new_upper new_lower floor
between-changed given upper lower new_upper new_lower floor b newer below = record {
  clear = b.clear;
  newer = newer;
  older = λ k i j p q at_i at_j.
      let s = below k i j p q at_i at_j in
      let less : seq_of s.0 < seq_of i = b.older k i s.0 p s.1 at_i s.2 in
      let same : seq_of s.0 ≡ seq_of j = seq-of_rank j s.0 s.3 in
      omega arith;
  floored = λ k i j p q at_i at_j.
      let s = below k i j p q at_i at_j in
      b.floored k i s.0 p s.1 at_i s.2;
}

pub stays-between : (next : ℕ) (given upper lower new_upper new_lower : List Item) (floor : Floor) → LiesBetween given upper lower floor → IsAllBelow next given → ChangesAround next given upper lower new_upper new_lower → LiesBetween given new_upper new_lower floor
stays-between next given upper lower new_upper new_lower floor b below c = between-changed given upper lower new_upper new_lower floor b (λ k i j p q at_i at_j. elim (c.above k i p at_i) [
  | inl s ↦
      let less : seq_of j < seq_of s.0 = b.newer k s.0 j s.1 q s.2 at_j in
      let same : seq_of s.0 ≡ seq_of i = seq-of_rank i s.0 s.3 in
      omega arith
  | inr from ↦ let less : seq_of j < next = below j q in omega (arith, from)
]) c.below

-- the end

module _ (stripes : List ℕ) (floor : Floor) (m : Move) where
  -- what is made stands in the level as it should
  pub compacted-ordered : Ordered (places_before m) → IsCompaction stripes floor m → Ordered (places_after m)
  compacted-ordered o c =
      let drawn = made-drawn m.given stripes floor m.made c.made in
      let left = left-below m.above m.left (m.level ∷ m.below) c.left o in
      let level = ordered-lower m.left (m.level ∷ m.below) left in
      let over_made : IsNewer (upper_of m) m.made = newer-drawn (upper_of m) m.given (upper_of m) m.made (drawn-itself (upper_of m)) drawn c.between.newer in
      let rest_made : IsNewer m.rest m.made = newer-within (upper_of m) m.made m.rest m.made (λ i h. Has-append_right (joined m.left) m.rest i h) (λ i h. h) over_made in
      let left_made : IsNewer (joined m.left) m.made = newer-within (upper_of m) m.made (joined m.left) m.made (λ i h. Has-append_left (joined m.left) m.rest i h) (λ i h. h) over_made in
      let all_left = ordered-layers m.left (m.level ∷ m.below) left in
      let left_rest : IsNewer (joined m.left) m.rest = newer-within (joined m.left) (m.level ++ joined m.below) (joined m.left) m.rest (λ i h. h) (λ i h. Has-append_left m.level (joined m.below) i (c.rest i h)) all_left in
      let left_below : IsNewer (joined m.left) (joined m.below) = newer-within (joined m.left) (m.level ++ joined m.below) (joined m.left) (joined m.below) (λ i h. h) (λ i h. Has-append_right m.level (joined m.below) i h) all_left in
      ordered-together m.left ((m.rest ++ m.made) ∷ m.below) (ordered-upper m.left (m.level ∷ m.below) left) (
        clear-together m.rest m.made (clear-within m.level m.rest c.rest level.0) (drawn_clear m.given m.made drawn c.between.clear) rest_made,
        newer-upper m.rest m.made (joined m.below)
            (newer-within m.level (joined m.below) m.rest (joined m.below) c.rest (λ i h. h) level.1)
            (newer-drawn m.given (joined m.below) m.made (joined m.below) drawn (drawn-itself (joined m.below)) c.between.older),
        level.2,
      )
      (newer-lower (joined m.left) (m.rest ++ m.made) (joined m.below) (newer-lower (joined m.left) m.rest m.made left_rest left_made) left_below)

  -- what stood there is the given content between the rest
  before-same : IsCompaction stripes floor m → SameMembers (joined (places_before m)) (upper_of m ++ (m.given ++ lower_of m))
  before-same c =
      same-along (joined (places_before m)) ((joined m.above ++ m.level) ++ joined m.below) (upper_of m ++ (m.given ++ lower_of m))
      (same-equal (joined (places_before m)) ((joined m.above ++ m.level) ++ joined m.below)
      (joined-append m.above (m.level ∷ m.below) ∙ sym (append_assoc (joined m.above) m.level (joined m.below))))
      (same-along ((joined m.above ++ m.level) ++ joined m.below) ((upper_of m ++ m.given) ++ joined m.below) (upper_of m ++ (m.given ++ lower_of m))
      (same-joint (joined m.above ++ m.level) (upper_of m ++ m.given) (joined m.below) (joined m.below) c.all (same-equal (joined m.below) (joined m.below) refl))
      (same-equal ((upper_of m ++ m.given) ++ joined m.below) (upper_of m ++ (m.given ++ lower_of m)) (append_assoc (upper_of m) m.given (joined m.below))))

  after-equal : joined (places_after m) ≡ upper_of m ++ (m.made ++ lower_of m)
  after-equal =
      joined-append m.left ((m.rest ++ m.made) ∷ m.below)
      ∙ ap (λ x. joined m.left ++ x) (append_assoc m.rest m.made (joined m.below))
      ∙ sym (append_assoc (joined m.left) m.rest (m.made ++ joined m.below))

  pub compacted-image : Ordered (places_before m) → IsCompaction stripes floor m → (limit : ℕ) → IsLimit m.given stripes limit → image (joined (places_before m)) limit ≡ image (joined (places_after m)) limit
  compacted-image o c limit at_limit =
      image-same (joined (places_before m)) (upper_of m ++ (m.given ++ lower_of m)) limit (ordered-clear (places_before m) o) (before-same c)
      ∙ image-replaced m.given m.made (upper_of m) (lower_of m) stripes floor limit c.between c.made at_limit
      ∙ ap (λ x. image x limit) (sym after-equal)

  pub compacted-numbers : (next : ℕ) (marks : List ℕ) → IsCompaction stripes floor m → IsNumberedUpTo next (joined (places_before m)) marks → IsNumberedUpTo next (joined (places_after m)) marks
  compacted-numbers next marks c n = numbers-drawn next (joined (places_before m)) (joined (places_after m)) marks n (λ i h.
      elim (Has-append_cases (upper_of m) (m.made ++ lower_of m) i (subst (λ x. Has x i) after-equal h)) [
        | inl p ↦ (i, (before-same c i).1 (Has-append_left (upper_of m) (m.given ++ lower_of m) i p), refl)
        | inr p ↦ elim (Has-append_cases m.made (lower_of m) i p) [
          | inl q ↦
              let from = made-numbers m.given stripes floor m.made c.made i q in
              (from.0, (before-same c from.0).1 (Has-append_right (upper_of m) (m.given ++ lower_of m) from.0 (Has-append_left m.given (lower_of m) from.0 from.1)), from.2)
          | inr q ↦ (i, (before-same c i).1 (Has-append_right (upper_of m) (m.given ++ lower_of m) i (Has-append_right m.given (lower_of m) i q)), refl)
        ]
      ])
