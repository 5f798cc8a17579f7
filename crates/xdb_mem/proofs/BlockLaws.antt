-- The index of range deletes: blocks that join, and what is skipped.
use Rattle.std.proofs.Common.{◌≡◌, ℕ, suc, ◌+◌, ◌-◌, ◌<◌, ◌≤◌, false, ltb, List, [], ◌∷◌, ◌++◌, length, get_or, take, drop, Option, inl, inr, sym, ap, ◌∙◌, subst, arith}
use Rattle.std.proofs.lemmas.Bool.{cases_Bool, cases_order, and_parts, and_from, ltb-true, ltb-false, false≢true}
use Rattle.std.proofs.lemmas.List.{take-append-drop, take-take, take-append-le, take_at, length-take-le, length-take, get_or-take, get_or_push, get_or_append_left, get_or_read, length_push, length-append, append_assoc, take_more, map-append}
use Rattle.std.specs.List.{All, filter_map}
use Rattle.xdb_key.specs.Bounds.{Bounds, bounds, meets}
use Rattle.xdb_key.specs.Entries.{Tombstone, tombstone}
use Rattle.xdb_key.specs.Order.{is_below, is_upto}
use Rattle.xdb_key.proofs.OrderLaws.{upto-itself, upto_below, below_upto}
use Rattle.xdb_rangedel.specs.Members.{Has, SameMembers}
use Rattle.xdb_rangedel.proofs.FragmentLaws.{All-from_Has, All-at_Has}
use Rattle.xdb_rangedel.proofs.MemberLaws.{Has-append_left, Has-append_right, Has-append_cases, Has-map, Has-from_map, Has-from_filter_map, Has-get_or}
use Rattle.xdb_mem.specs.Blocks.{span_at, places_of, spans_of, hull_of, Lies, IsInside, GoBack, IsBlock, AreBlocks, IsIndex, AreApart}
use Rattle.xdb_mem.specs.declared.index.Block.{Block}
use Rattle.xdb_mem.specs.Parts.{part_below}
use Rattle.xdb_mem.proofs.HeldLaws.{Has-filter_map, same_then}
use Rattle.xdb_mem.proofs.PutLaws.{same_behind}

-- ---- where members stand

pub has_place : {A : Type 0} (xs : List A) (x : A) → Has xs x → (i : ℕ) × (i < length xs) × ((d : A) → get_or xs i d ≡ x)
has_place [] x h = absurd h
has_place (y ∷ xs) x (inl e) = (0, omega arith, λ d. e)
has_place (y ∷ xs) x (inr h) = let more = has_place xs x h in (suc more.0, omega (arith, more.1), more.2)

-- ---- blocks

pub go_back : (ts : List Tombstone) (bs : List Block) → AreBlocks ts bs → GoBack bs
go_back ts bs h = λ i d inside. omega (arith, (h i d inside).back, length-take-le i bs (omega (arith, inside)))

pub inside_of : (ts : List Tombstone) (bs : List Block) → AreBlocks ts bs → (b : Block) → Has bs b → IsInside (length ts) b
inside_of ts bs h b has =
    let at = has_place bs b has in
    subst (IsInside (length ts)) (at.2 b) (h at.0 b at.1).inside

pub places-inside : (ts : List Tombstone) (bs : List Block) → AreBlocks ts bs → All (λ p. p < length ts) (places_of bs)
places-inside ts bs h = All-from_Has (λ p. p < length ts) (places_of bs) (λ p has.
    let from = Has-from_map (λ (b : Block). b.place) bs p has in
    subst (λ n. n < length ts) from.2 (inside_of ts bs h from.0 from.1).place)

pub first_blocks : (ts : List Tombstone) (n : ℕ) (bs : List Block) → AreBlocks ts bs → AreBlocks ts (take n bs)
first_blocks ts n bs h = λ i d inside.
    let within : i < n = omega (arith, inside, length-take n bs) in
    let under : i < length bs = omega (arith, inside, length-take n bs) in
    subst (λ x. IsBlock ts (take i (take n bs)) x) (sym (get_or-take n bs i d within)) (subst (λ xs. IsBlock ts xs (get_or bs i d)) (sym (take-take i n bs (omega (arith, within)))) (h i d under))

pub last_places : (ts : List Tombstone) (n : ℕ) (bs : List Block) → AreBlocks ts bs → All (λ p. p < length ts) (places_of (drop n bs))
last_places ts n bs h = All-from_Has (λ p. p < length ts) (places_of (drop n bs)) (λ p has.
    let from = Has-from_map (λ (b : Block). b.place) (drop n bs) p has in
    let there = subst (λ xs. Has xs from.0) (take-append-drop n bs) (Has-append_right (take n bs) (drop n bs) from.0 from.1) in
    subst (λ n. n < length ts) from.2 (inside_of ts bs h from.0 there).place)

-- ---- a list that grows

span_at-grown : (ts more : List Tombstone) (p : ℕ) → p < length ts → span_at (ts ++ more) p ≡ span_at ts p
span_at-grown ts more p inside = get_or_append_left ts more (tombstone (bounds [] []) 0) p inside

lies-grown : (ts more : List Tombstone) (b : Block) (p : ℕ) → IsInside (length ts) b → p < length ts → Lies ts b p → Lies (ts ++ more) b p
lies-grown ts more b p inside within l =
    let here = span_at-grown ts more p within in
    let first = span_at-grown ts more b.first inside.first in
    let last = span_at-grown ts more b.last inside.last in
    record {
      start = (λ i. is_upto (first i).range.lo (here i).range.lo) ∙ l.start;
      end = (λ i. is_upto (here i).range.hi (last i).range.hi) ∙ l.end;
    }

inside-grown : (ts more : List Tombstone) (b : Block) → IsInside (length ts) b → IsInside (length (ts ++ more)) b
inside-grown ts more b inside =
    let longer = length-append ts more in
    record {
      place = omega (arith, longer, inside.place);
      first = omega (arith, longer, inside.first);
      last = omega (arith, longer, inside.last);
    }

pub blocks-grown : (ts more : List Tombstone) (bs : List Block) → AreBlocks ts bs → AreBlocks (ts ++ more) bs
blocks-grown ts more bs h = λ i d inside.
    let b = h i d inside in
    record {
      inside = inside-grown ts more (get_or bs i d) b.inside;
      back = b.back;
      own = lies-grown ts more (get_or bs i d) (get_or bs i d).place b.inside b.inside.place b.own;
      others = λ j e from less.
          let below : j < i = omega (arith, less, length-take i bs) in
          let other : IsInside (length ts) (get_or (take i bs) j e) = subst (IsInside (length ts)) (sym (get_or-take i bs j e below)) (h j e (omega (arith, below, inside))).inside in
          lies-grown ts more (get_or bs i d) (get_or (take i bs) j e).place b.inside other.place (b.others j e from less);
    }

-- ---- a block that is added

pub own_block : (ts : List Tombstone) (bs : List Block) (b : Block) (place : ℕ) → place < length ts → b.place ≡ place → b.from ≡ length bs → b.first ≡ place → b.last ≡ place → IsBlock ts bs b
own_block ts bs b place inside is from first last = record {
  inside = record { place = omega (arith, is, inside); first = omega (arith, first, inside); last = omega (arith, last, inside) };
  back = omega (arith, from);
  own = record {
    start = (λ i. is_upto (span_at ts ((first ∙ sym is) i)).range.lo (span_at ts b.place).range.lo) ∙ upto-itself (span_at ts b.place).range.lo;
    end = (λ i. is_upto (span_at ts b.place).range.hi (span_at ts ((last ∙ sym is) i)).range.hi) ∙ upto-itself (span_at ts b.place).range.hi;
  };
  others = λ j d low high. absurd (omega (arith, from, low, high));
}

pub pushed_block : (ts : List Tombstone) (bs : List Block) (b : Block) → AreBlocks ts bs → IsBlock ts bs b → AreBlocks ts (bs ++ b ∷ [])
pushed_block ts bs b h g = λ i d inside. elim (cases_order i (length bs)) [
  | inl same ↦ subst (IsBlock ts (take i (bs ++ b ∷ []))) (sym (get_or_push bs b d i (sym same))) (subst (λ xs. IsBlock ts xs b) (sym (take_at bs (b ∷ []) i (sym same))) g)
  | inr (inl less) ↦ subst (IsBlock ts (take i (bs ++ b ∷ []))) (sym (get_or_append_left bs (b ∷ []) d i less)) (subst (λ xs. IsBlock ts xs (get_or bs i d)) (sym (take-append-le i bs (b ∷ []) (omega (arith, less)))) (h i d less))
  | inr (inr more) ↦ absurd (omega (arith, inside, more, length_push bs b))
]

-- the last block before an end, and those that it goes back over
pub record IsLast (bs : List Block) (end : ℕ) (b : Block) : Type 0 where
  pub some : 0 < end
  pub bound : end ≤ length bs
  pub is : b ≡ get_or bs (end - 1) b

last_is : (ts : List Tombstone) (bs : List Block) (end : ℕ) (b : Block) → AreBlocks ts bs → IsLast bs end b → IsBlock ts (take (end - 1) bs) b
last_is ts bs end b h last = subst (IsBlock ts (take (end - 1) bs)) (sym last.is) (h (end - 1) b (omega (arith, last.some, last.bound)))

pub last_back : (ts : List Tombstone) (bs : List Block) (end : ℕ) (b : Block) → AreBlocks ts bs → IsLast bs end b → b.from < end
last_back ts bs end b h last =
    omega (arith, (last_is ts bs end b h last).back, last.some, length-take-le (end - 1) bs (omega (arith, last.bound)))

-- what holds of all that lies in the block holds of each place that it goes back over
pub of_last : (P : ℕ → Type 0) (ts : List Tombstone) (bs : List Block) (end : ℕ) (b : Block) → AreBlocks ts bs → IsLast bs end b → ((p : ℕ) → Lies ts b p → P p) → (j : ℕ) (d : Block) → b.from ≤ j → j < end → P (get_or bs j d).place
of_last P ts bs end b h last holds j d from less =
    let i = end - 1 in
    let block = last_is ts bs end b h last in
    let len : length (take i bs) ≡ i = length-take-le i bs (omega (arith, last.bound)) in
    elim (cases_order j i) [
      | inl same ↦
          let there : b ≡ get_or bs i d = get_or_read bs i b (omega (arith, last.some, last.bound)) last.is d in
          subst (λ k. P (get_or bs k d).place) (sym same) (subst (λ (x : Block). P x.place) there (holds b.place block.own))
      | inr (inl below) ↦ subst (λ (x : Block). P x.place) (get_or-take i bs j d below) (holds (get_or (take i bs) j d).place (block.others j d from (omega (arith, below, len))))
      | inr (inr above) ↦ absurd (omega (arith, less, above))
    ]

-- a block goes back over the one before it too
pub joined_block : (ts : List Tombstone) (bs : List Block) (before block new : Block) → AreBlocks ts bs → IsBlock ts bs block → IsLast bs block.from before → new.place ≡ block.place → new.from ≡ before.from → IsInside (length ts) new → ((p : ℕ) → Lies ts before p → Lies ts new p) → ((p : ℕ) → Lies ts block p → Lies ts new p) → IsBlock ts bs new
joined_block ts bs before block new h g last place from inside lower upper = record {
  inside = inside;
  back = omega (arith, from, last_back ts bs block.from before h last, last.bound);
  own = subst (Lies ts new) (sym place) (upper block.place g.own);
  others = λ j d low high. elim (cases_Bool (ltb j block.from)) [
    | inl below ↦ of_last (Lies ts new) ts bs block.from before h last lower j d (omega (arith, from, low)) (ltb-true j block.from below)
    | inr above ↦ upper (get_or bs j d).place (g.others j d (ltb-false j block.from above) high)
  ];
}

-- ---- what is skipped

pub apart_from : (ts : List Tombstone) (b : Block) (range : Bounds) → meets (hull_of ts b) range ≡ false → (p : ℕ) → Lies ts b p → meets (span_at ts p).range range ≡ false
apart_from ts b range none p lies =
    let t = span_at ts p in
    elim (cases_Bool (meets t.range range)) [
      | inl e ↦
          let both = and_parts (is_below t.range.lo range.hi) (is_below range.lo t.range.hi) e in
          let start = upto_below (span_at ts b.first).range.lo t.range.lo range.hi lies.start both.0 in
          let end = below_upto range.lo t.range.hi (span_at ts b.last).range.hi both.1 lies.end in
          absurd (false≢true (sym none ∙ and_from (is_below (span_at ts b.first).range.lo range.hi) (is_below range.lo (span_at ts b.last).range.hi) start end))
      | inr e ↦ e
    ]

pub block_apart : (ts : List Tombstone) (bs : List Block) (range : Bounds) (end : ℕ) (b : Block) → AreBlocks ts bs → IsLast bs end b → meets (hull_of ts b) range ≡ false → AreApart ts bs range b.from end
block_apart ts bs range end b h last none = of_last (λ p. meets (span_at ts p).range range ≡ false) ts bs end b h last (apart_from ts b range none)

pub apart_then : (ts : List Tombstone) (bs : List Block) (range : Bounds) (from mid end : ℕ) → AreApart ts bs range from mid → AreApart ts bs range mid end → AreApart ts bs range from end
apart_then ts bs range from mid end h g = λ j d low high. elim (cases_Bool (ltb j mid)) [
  | inl below ↦ h j d low (ltb-true j mid below)
  | inr above ↦ g j d (ltb-false j mid above) high
]

-- ---- the index has all

pub all_spans : (ts : List Tombstone) (bs : List Block) → IsIndex ts bs → SameMembers (spans_of ts bs) ts
all_spans ts bs index = λ z. (
  λ h.
      let from = Has-from_map (λ (b : Block). span_at ts b.place) bs z h in
      subst (Has ts) from.2 (Has-get_or ts from.0.place (tombstone (bounds [] []) 0) (inside_of ts bs index.blocks from.0 from.1).place),
  λ h.
      let at = has_place ts z h in
      let from = Has-from_map (λ (b : Block). b.place) bs at.0 (index.all at.0 at.1) in
      subst (Has (spans_of ts bs)) (ap (span_at ts) from.2 ∙ at.2 (tombstone (bounds [] []) 0)) (Has-map (λ (b : Block). span_at ts b.place) bs from.0 from.1),
)

pub same_filter_map : {A B : Type 0} (f : A → Option B) (xs ys : List A) → SameMembers xs ys → SameMembers (filter_map f xs) (filter_map f ys)
same_filter_map f xs ys same = λ z. (
  λ h. let from = Has-from_filter_map f xs z h in Has-filter_map f ys from.0 z ((same from.0).0 from.1) from.2,
  λ h. let from = Has-from_filter_map f ys z h in Has-filter_map f xs from.0 z ((same from.0).1 from.1) from.2,
)

-- what a walk over the whole index has clipped
pub clipped_all : (ts : List Tombstone) (bs : List Block) (range : Bounds) (limit : ℕ) (old out : List Tombstone) → IsIndex ts bs → SameMembers out (old ++ filter_map (part_below range limit) (spans_of ts bs)) → SameMembers out (old ++ filter_map (part_below range limit) ts)
clipped_all ts bs range limit old out index found =
    let f = part_below range limit in
    same_then out (old ++ filter_map f (spans_of ts bs)) (old ++ filter_map f ts) found (same_behind old (filter_map f (spans_of ts bs)) (filter_map f ts) (same_filter_map f (spans_of ts bs) ts (all_spans ts bs index)))

pub empty_index : (ts : List Tombstone) (bs : List Block) → ts ≡ [] → bs ≡ [] → IsIndex ts bs
empty_index ts bs no_spans no_blocks = record {
  blocks = λ i d inside. absurd (omega (arith, inside, ap length no_blocks));
  all = λ place inside. absurd (omega (arith, inside, ap length no_spans));
}

-- ---- the index grows

pub record Grows (ts : List Tombstone) (first : ℕ) (bs : List Block) (kept : ℕ) (places : List ℕ) : Type 0 where
  pub index : IsIndex (take first ts) bs
  pub bound : first ≤ length ts
  pub old : (p : ℕ) → Has (places_of (drop kept bs)) p → Has places p
  pub new : (p : ℕ) → first ≤ p → p < length ts → Has places p

pub grown_all : (ts : List Tombstone) (first : ℕ) (bs : List Block) → IsIndex (take first ts) bs → AreBlocks ts bs
grown_all ts first bs index = subst (λ xs. AreBlocks xs bs) (take-append-drop first ts) (blocks-grown (take first ts) (drop first ts) bs index.blocks)

pub grown_blocks : (ts : List Tombstone) (first kept : ℕ) (bs : List Block) → IsIndex (take first ts) bs → AreBlocks ts (take kept bs)
grown_blocks ts first kept bs index =
    first_blocks ts kept bs (grown_all ts first bs index)

pub grown_index : (ts : List Tombstone) (first : ℕ) (bs new : List Block) (kept : ℕ) (places : List ℕ) → Grows ts first bs kept places → AreBlocks ts new → places_of new ≡ places_of (take kept bs) ++ places → IsIndex ts new
grown_index ts first bs new kept places g blocks made = record {
  blocks = blocks;
  all = λ p inside. subst (λ xs. Has xs p) (sym made) (elim (cases_Bool (ltb p first)) [
    | inl below ↦
        let len : length (take first ts) ≡ first = length-take-le first ts g.bound in
        let less : p < first = ltb-true p first below in
        let halves : places_of bs ≡ places_of (take kept bs) ++ places_of (drop kept bs) = ap places_of (sym (take-append-drop kept bs)) ∙ map-append (λ (b : Block). b.place) (take kept bs) (drop kept bs) in
        elim (Has-append_cases (places_of (take kept bs)) (places_of (drop kept bs)) p (subst (λ xs. Has xs p) halves (g.index.all p (omega (arith, less, len))))) [
          | inl a ↦ Has-append_left (places_of (take kept bs)) places p a
          | inr b ↦ Has-append_right (places_of (take kept bs)) places p (g.old p b)
        ]
    | inr above ↦ Has-append_right (places_of (take kept bs)) places p (g.new p (ltb-false p first above) inside)
  ]);
}

-- ---- places

pub places_more : (bs : List Block) (i : ℕ) (d : Block) (out : List ℕ) → i < length bs → out ≡ places_of (take i bs) → out ++ (get_or bs i d).place ∷ [] ≡ places_of (take (i + 1) bs)
places_more bs i d out inside made =
    ap (λ xs. xs ++ (get_or bs i d).place ∷ []) made ∙ sym (map-append (λ (x : Block). x.place) (take i bs) (get_or bs i d ∷ [])) ∙ ap places_of (sym (take_more bs i d inside))

pub places_pushed : (old ps : List ℕ) (bs new : List Block) (b : Block) (i d : ℕ) → i < length ps → new ≡ bs ++ b ∷ [] → b.place ≡ get_or ps i d → places_of bs ≡ old ++ take i ps → places_of new ≡ old ++ take (i + 1) ps
places_pushed old ps bs new b i d inside made is before =
    ap places_of made ∙ map-append (λ (x : Block). x.place) bs (b ∷ []) ∙ (λ j. before j ++ is j ∷ []) ∙ append_assoc old (take i ps) (get_or ps i d ∷ [])
    ∙ ap (λ xs. old ++ xs) (sym (take_more ps i d inside))

pub all_through : (n : ℕ) (xs ys : List ℕ) → SameMembers ys xs → All (λ p. p < n) xs → All (λ p. p < n) ys
all_through n xs ys same all = All-from_Has (λ p. p < n) ys (λ p h. All-at_Has (λ p. p < n) xs p all ((same p).0 h))
