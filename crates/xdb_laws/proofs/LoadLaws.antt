-- Tables that come with one number act on the image of what lies below it.
use Rattle.std.proofs.Common.{◌≡◌, ℕ, ◌+◌, ◌*◌, ◌≤◌, Bool, true, false, not, cond, List, [], ◌∷◌, ◌++◌, map, Option, Some, None, is_none, inl, inr, refl, sym, ap, ◌∙◌, subst, arith}
use Rattle.std.proofs.lemmas.Bool.{cases_Bool, and_from, and_parts, false≢true}
use Rattle.std.specs.FinMap as map
use Rattle.std.specs.List.{AllByRecursion, filter, find}
use Rattle.std.specs.Option.{option_map}
use Rattle.xdb_key.specs.Bounds.{Bounds, bounds, holds, covers, meets, lesser, greater}
use Rattle.xdb_key.specs.Ops.{op_hull, rises, disorder_after, disorder, is_table}
use Rattle.xdb_key.specs.Order.{is_below}
use Rattle.xdb_key.specs.declared.op.Op.{Op}
use Rattle.xdb_key.specs.declared.op.Op.TheVariants.{Set, Del, DelSpan}
use Rattle.xdb_key.proofs.OrderLaws.{below_trans, below-itself, lesser_upto_first, lesser_upto_second, first_upto_greater, second_upto_greater}
use Rattle.xdb_edit.specs.Versions.{or_else}
use Rattle.xdb_mem.specs.Parts.{item_at}
use Rattle.xdb_plain.specs.Fences.{first_overlap, met_by}
use Rattle.xdb_plain.specs.PlainMap.{PlainMap, acted, acted_all, with_tables}
use Rattle.xdb_plain.specs.Tables.{TableOps, is_span, spans_first, least_range, ops_bounds, table_bounds}
use Rattle.xdb_rangedel.specs.Content.{Item, entry, span, Verdict, found, deleted, nothing, seq_of, here, rank, said, said_by, verdict, value_of, IsClear}
use Rattle.xdb_rangedel.specs.Layers.{IsOverAt, over}
use Rattle.xdb_rangedel.specs.Members.{Has, SameMembers}
use Rattle.xdb_rangedel.proofs.CoverLaws.{meets-from_held}
use Rattle.xdb_rangedel.proofs.LayerLaws.{newer-over, verdict_layered, newest_layers_swapped, drawn_clear}
use Rattle.xdb_rangedel.proofs.MemberLaws.{Has-append_left, Has-append_right, Has-append_cases, Has-map, Has-from_map}
use Rattle.xdb_rangedel.proofs.NewestLaws.{newest_unordered, clear_says}
use Rattle.xdb_laws.specs.Loads.{items_at, AreLoadsOf, AreLoadable}
use Rattle.xdb_laws.specs.Ordered.{joined}
use Rattle.xdb_laws.specs.Rewrite.{IsRewrite}
use Rattle.xdb_laws.proofs.AnswerLaws.{holds-covered}
use Rattle.xdb_laws.proofs.CommitLaws.{verdict-one, seen-next, seq-item, get-acted}
use Rattle.xdb_laws.proofs.OrderLaws.{clear-together}
use Rattle.xdb_laws.proofs.RewriteLaws.{rewrite-says}
use Rattle.xdb_laws.proofs.TouchLaws.{here-hull}

-- ---- what a verdict makes of a value

abbrev pub value_over : Verdict → Option (List ℕ) → Option (List ℕ)
value_over (found value) before = Some value
value_over deleted before = None
value_over nothing before = before

value_over-over : (v w : Verdict) (before : Option (List ℕ)) → value_over (over v w) before ≡ value_over v (value_over w before)
value_over-over (found value) w before = refl
value_over-over deleted w before = refl
value_over-over nothing w before = refl

pub value_of-over : (v w : Verdict) → value_of (over v w) ≡ value_over v (value_of w)
value_of-over (found value) w = refl
value_of-over deleted w = refl
value_of-over nothing w = refl

value_over-said : (b : Bool) (i : Item) (before : Option (List ℕ)) → value_over (cond b (said i) nothing) before ≡ cond b (value_of (said i)) before
value_over-said true (entry key seq None) before = refl
value_over-said true (entry key seq (Some value)) before = refl
value_over-said true (span t) before = refl
value_over-said false i before = refl

-- ---- the items of operations at one number

rank-item : (n : ℕ) (op : Op) → rank (item_at n op) ≡ cond (is_span op) (2 * n) (2 * n + 1)
rank-item n (Set key value) = refl
rank-item n (Del key) = refl
rank-item n (DelSpan range) = refl

rank-span : (n : ℕ) (op : Op) → is_span op ≡ true → rank (item_at n op) ≡ 2 * n
rank-span n op e = rank-item n op ∙ ap (λ b. cond b (2 * n) (2 * n + 1)) e

rank-point : (n : ℕ) (op : Op) → is_span op ≡ false → rank (item_at n op) ≡ 2 * n + 1
rank-point n op e = rank-item n op ∙ ap (λ b. cond b (2 * n) (2 * n + 1)) e

rank-bounds : (n : ℕ) (op : Op) → (2 * n ≤ rank (item_at n op)) × (rank (item_at n op) ≤ 2 * n + 1)
rank-bounds n (Set key value) = (omega arith, omega arith)
rank-bounds n (Del key) = (omega arith, omega arith)
rank-bounds n (DelSpan range) = (omega arith, omega arith)

-- ---- where points rise, no two have one key

goes_on : (b : Bool) (rest : Option ℕ) (at : ℕ) → cond b rest (Some at) ≡ None → (b ≡ true) × (rest ≡ None)
goes_on true rest at e = (refl, e)
goes_on false rest at e = absurd (cc)

later-above : (a : List ℕ) (at n : ℕ) (ops : List Op) (key : List ℕ) (seq : ℕ) (v : Option (List ℕ)) → disorder_after (Some a) at ops ≡ None → Has (items_at n ops) (entry key seq v) → is_below a key ≡ true
later-above a at n [] key seq v none has = absurd has
later-above a at n (Set b value ∷ ops) key seq v none (inl e) =
    let keys : b ≡ key = cc in
    subst (λ x. is_below a x ≡ true) keys (goes_on (is_below a b) (disorder_after (Some b) (at + 1) ops) at none).0
later-above a at n (Set b value ∷ ops) key seq v none (inr h) =
    let parts = goes_on (is_below a b) (disorder_after (Some b) (at + 1) ops) at none in
    below_trans a b key parts.0 (later-above b (at + 1) n ops key seq v parts.1 h)
later-above a at n (Del b ∷ ops) key seq v none (inl e) =
    let keys : b ≡ key = cc in
    subst (λ x. is_below a x ≡ true) keys (goes_on (is_below a b) (disorder_after (Some b) (at + 1) ops) at none).0
later-above a at n (Del b ∷ ops) key seq v none (inr h) =
    let parts = goes_on (is_below a b) (disorder_after (Some b) (at + 1) ops) at none in
    below_trans a b key parts.0 (later-above b (at + 1) n ops key seq v parts.1 h)
later-above a at n (DelSpan range ∷ ops) key seq v none (inl e) = absurd (cc)
later-above a at n (DelSpan range ∷ ops) key seq v none (inr h) = later-above a (at + 1) n ops key seq v none h

-- a key that comes later isn't there before
not-again : (b : List ℕ) (at n : ℕ) (ops : List Op) (key : List ℕ) (seq : ℕ) (v : Option (List ℕ)) → disorder_after (Some b) at ops ≡ None → b ≡ key → Has (items_at n ops) (entry key seq v) → ⊥
not-again b at n ops key seq v none e h = false≢true (sym (below-itself b) ∙ subst (λ x. is_below b x ≡ true) (sym e) (later-above b at n ops key seq v none h))

clear-point : (op : Op) (b : List ℕ) (value : Option (List ℕ)) (at n : ℕ) (ops : List Op) → item_at n op ≡ entry b n value → disorder_after (Some b) at ops ≡ None → IsClear (items_at n ops) → IsClear (items_at n (op ∷ ops))
clear-point op b value at n ops is none clear = λ key seq v w hv hw. one key seq v w hv hw
  where
    at_key : (key : List ℕ) (seq : ℕ) (v : Option (List ℕ)) → item_at n op ≡ entry key seq v → (b ≡ key) × (value ≡ v)
    at_key key seq v e = let same : entry b n value ≡ entry key seq v = sym is ∙ e in (cc, cc)

    one : (key : List ℕ) (seq : ℕ) (v w : Option (List ℕ)) → Has (items_at n (op ∷ ops)) (entry key seq v) → Has (items_at n (op ∷ ops)) (entry key seq w) → v ≡ w
    one key seq v w (inl e) (inl f) = sym (at_key key seq v e).1 ∙ (at_key key seq w f).1
    one key seq v w (inl e) (inr h) = absurd (not-again b at n ops key seq w none (at_key key seq v e).0 h)
    one key seq v w (inr h) (inl f) = absurd (not-again b at n ops key seq v none (at_key key seq w f).0 h)
    one key seq v w (inr g) (inr h) = clear key seq v w g h

clear-span : (range : Bounds) (n : ℕ) (ops : List Op) → IsClear (items_at n ops) → IsClear (items_at n (DelSpan range ∷ ops))
clear-span range n ops clear = λ key seq v w hv hw. one key seq v w hv hw
  where
    one : (key : List ℕ) (seq : ℕ) (v w : Option (List ℕ)) → Has (items_at n (DelSpan range ∷ ops)) (entry key seq v) → Has (items_at n (DelSpan range ∷ ops)) (entry key seq w) → v ≡ w
    one key seq v w (inl e) h = absurd (cc)
    one key seq v w (inr g) (inl f) = absurd (cc)
    one key seq v w (inr g) (inr h) = clear key seq v w g h

clear-after : (last : Option (List ℕ)) (at n : ℕ) (ops : List Op) → disorder_after last at ops ≡ None → IsClear (items_at n ops)
clear-after last at n [] none = λ key seq v w hv hw. absurd hv
clear-after last at n (Set b value ∷ ops) none =
    let parts = goes_on (rises last b) (disorder_after (Some b) (at + 1) ops) at none in
    clear-point (Set b value) b (Some value) (at + 1) n ops refl parts.1 (clear-after (Some b) (at + 1) n ops parts.1)
clear-after last at n (Del b ∷ ops) none =
    let parts = goes_on (rises last b) (disorder_after (Some b) (at + 1) ops) at none in
    clear-point (Del b) b None (at + 1) n ops refl parts.1 (clear-after (Some b) (at + 1) n ops parts.1)
clear-after last at n (DelSpan range ∷ ops) none = clear-span range n ops (clear-after last (at + 1) n ops none)

is_none-tells : {A : Type 0} (o : Option A) → is_none o ≡ true → o ≡ None
is_none-tells None e = refl
is_none-tells (Some x) e = absurd (false≢true e)

pub clear-table : (n : ℕ) (ops : List Op) → is_table ops ≡ true → IsClear (items_at n ops)
clear-table n ops table = clear-after None 0 n ops (is_none-tells (disorder ops) (and_parts _ (is_none (disorder ops)) table).1)

-- ---- one operation after the other

-- at the key, what comes later doesn't stand below what came before
abbrev AreStacked : List ℕ → List Item → Type 0
AreStacked k [] = Unit {0}
AreStacked k (i ∷ c) = IsOverAt k c (i ∷ []) × AreStacked k c

verdict-first : (i : Item) (c : List Item) (n : ℕ) (k : List ℕ) → seq_of i ≡ n → IsOverAt k c (i ∷ []) → verdict (i ∷ c) (n + 1) k ≡ over (verdict c (n + 1) k) (cond (here k i) (said i) nothing)
verdict-first i c n k e above =
    ap said_by (newest_layers_swapped k c (i ∷ []) (n + 1) above)
    ∙ verdict_layered k c (i ∷ []) (n + 1) above
    ∙ ap (over (verdict c (n + 1) k)) (verdict-one i (n + 1) k ∙ ap (λ b. cond b (said i) nothing) (seen-next n k i e))

-- operations that come as they stand over one another act as their items say
get-acted_all : (n : ℕ) (ops : List Op) (m : PlainMap) (k : List ℕ) → AreStacked k (items_at n ops) → map.get (acted_all m ops) k ≡ value_over (verdict (items_at n ops) (n + 1) k) (map.get m k)
get-acted_all n [] m k stacked = refl
get-acted_all n (op ∷ ops) m k stacked =
    let i = item_at n op in
    let rest = verdict (items_at n ops) (n + 1) k in
    get-acted_all n ops (acted m op) k stacked.1
    ∙ ap (value_over rest) (get-acted m n op k ∙ sym (value_over-said (here k i) i (map.get m k)))
    ∙ sym (value_over-over rest (cond (here k i) (said i) nothing) (map.get m k))
    ∙ ap (λ v. value_over v (map.get m k)) (sym (verdict-first i (items_at n ops) n k (seq-item n op) stacked.0))

-- ---- a table's spans, and then its points

module _ (n : ℕ) (k : List ℕ) (all : List Item) (clear : IsClear all) where
  stands-over : (ops : List Op) (op : Op) → ((x : Op) → Has (op ∷ ops) x → Has all (item_at n x)) → ((x : Op) → Has ops x → rank (item_at n op) ≤ rank (item_at n x)) → IsOverAt k (items_at n ops) (item_at n op ∷ [])
  stands-over ops op there high = record {
    not_below = λ i j p q a b.
        let (x, has, e) = Has-from_map (item_at n) ops i p in
        elim q [
          | inl f ↦ let one : rank (item_at n op) ≡ rank j = ap rank f in let other : rank (item_at n x) ≡ rank i = ap rank e in let low = high x has in omega arith
          | inr never ↦ absurd never
        ];
    tied = λ i j p q a b tie.
        let (x, has, e) = Has-from_map (item_at n) ops i p in
        elim q [
          | inl f ↦ clear_says all k i j clear (subst (Has all) e (there x (inr has))) (subst (Has all) f (there op (inl refl))) a b tie
          | inr never ↦ absurd never
        ];
  }

  stacked-points : (ops : List Op) → ((x : Op) → Has ops x → Has all (item_at n x)) → ((x : Op) → Has ops x → is_span x ≡ false) → AreStacked k (items_at n ops)
  stacked-points [] there points = tt
  stacked-points (op ∷ ops) there points = (
    stands-over ops op there (λ x h. let one = rank-point n op (points op (inl refl)) in let other = rank-point n x (points x (inr h)) in omega arith),
    stacked-points ops (λ x h. there x (inr h)) (λ x h. points x (inr h)),
  )

  stacked-spans : (spans points : List Op) → ((x : Op) → Has (spans ++ points) x → Has all (item_at n x)) → ((x : Op) → Has spans x → is_span x ≡ true) → ((x : Op) → Has points x → is_span x ≡ false) → AreStacked k (items_at n (spans ++ points))
  stacked-spans [] points there are_spans are_points = stacked-points points there are_points
  stacked-spans (op ∷ spans) points there are_spans are_points = (
    stands-over (spans ++ points) op there (λ x h. let one = rank-span n op (are_spans op (inl refl)) in let other = (rank-bounds n x).0 in omega arith),
    stacked-spans spans points (λ x h. there x (inr h)) (λ x h. are_spans x (inr h)) are_points,
  )

kept-by : {A : Type 0} (p : A → Bool) (xs : List A) (x : A) → Has (filter p xs) x → Has xs x × (p x ≡ true)
kept-by p [] x h = absurd h
kept-by p (y ∷ xs) x h = elim (cases_Bool (p y)) [
  | inl e ↦ elim (subst (λ b. Has (cond b (y ∷ filter p xs) (filter p xs)) x) e h) [
    | inl is ↦ (inl is, subst (λ z. p z ≡ true) is e)
    | inr g ↦ let more = kept-by p xs x g in (inr more.0, more.1)
  ]
  | inr e ↦ let more = kept-by p xs x (subst (λ b. Has (cond b (y ∷ filter p xs) (filter p xs)) x) e h) in (inr more.0, more.1)
]

keeps : {A : Type 0} (p : A → Bool) (xs : List A) (x : A) → Has xs x → p x ≡ true → Has (filter p xs) x
keeps p [] x h e = absurd h
keeps p (y ∷ xs) x (inl is) e = subst (λ b. Has (cond b (y ∷ filter p xs) (filter p xs)) x) (sym (ap p is ∙ e)) (inl is)
keeps p (y ∷ xs) x (inr h) e = elim (cases_Bool (p y)) [
  | inl f ↦ subst (λ b. Has (cond b (y ∷ filter p xs) (filter p xs)) x) (sym f) (inr (keeps p xs x h e))
  | inr f ↦ subst (λ b. Has (cond b (y ∷ filter p xs) (filter p xs)) x) (sym f) (keeps p xs x h e)
]

not-turned : (b : Bool) → not b ≡ true → b ≡ false
not-turned true e = absurd (false≢true e)
not-turned false e = refl

in-turn : (ops : List Op) (op : Op) → Has (spans_first ops) op → Has ops op
in-turn ops op h = elim (Has-append_cases (filter is_span ops) (filter (λ x. not (is_span x)) ops) op h) [
  | inl g ↦ (kept-by is_span ops op g).0
  | inr g ↦ (kept-by (λ x. not (is_span x)) ops op g).0
]

to-turn : (ops : List Op) (op : Op) → Has ops op → Has (spans_first ops) op
to-turn ops op h = elim (cases_Bool (is_span op)) [
  | inl e ↦ Has-append_left (filter is_span ops) (filter (λ x. not (is_span x)) ops) op (keeps is_span ops op h e)
  | inr e ↦ Has-append_right (filter is_span ops) (filter (λ x. not (is_span x)) ops) op (keeps (λ x. not (is_span x)) ops op h (ap not e))
]

stacked-in_turn : (n : ℕ) (ops : List Op) (k : List ℕ) → is_table ops ≡ true → AreStacked k (items_at n (spans_first ops))
stacked-in_turn n ops k table =
    stacked-spans n k (items_at n ops) (clear-table n ops table) (filter is_span ops) (filter (λ x. not (is_span x)) ops)
    (λ x h. Has-map (item_at n) ops x (in-turn ops x h))
    (λ x h. (kept-by is_span ops x h).1)
    (λ x h. not-turned (is_span x) (kept-by (λ y. not (is_span y)) ops x h).1)

same-in_turn : (n : ℕ) (ops : List Op) → SameMembers (items_at n ops) (items_at n (spans_first ops))
same-in_turn n ops = λ i. (
  λ h. let (op, has, e) = Has-from_map (item_at n) ops i h in subst (Has (items_at n (spans_first ops))) e (Has-map (item_at n) (spans_first ops) op (to-turn ops op has)),
  λ h. let (op, has, e) = Has-from_map (item_at n) (spans_first ops) i h in subst (Has (items_at n ops)) e (Has-map (item_at n) ops op (in-turn ops op has)),
)

-- what a table's content says is what its operations do
get-table : (n : ℕ) (ops : List Op) (c : List Item) (m : PlainMap) (k : List ℕ) → is_table ops ≡ true → IsRewrite (items_at n ops) c → map.get (acted_all m (spans_first ops)) k ≡ value_over (verdict c (n + 1) k) (map.get m k)
get-table n ops c m k table load =
    get-acted_all n (spans_first ops) m k (stacked-in_turn n ops k table)
    ∙ ap (λ o. value_over (said_by o) (map.get m k)) (sym (newest_unordered (items_at n ops) (items_at n (spans_first ops)) (n + 1) k (same-in_turn n ops) (clear-table n ops table)) ∙ sym (rewrite-says (items_at n ops) c (n + 1) k (clear-table n ops table) load))

-- ---- tables that don't meet

covers-lesser : (r b : Bounds) → (covers (bounds (lesser r.lo b.lo) (greater r.hi b.hi)) r ≡ true) × (covers (bounds (lesser r.lo b.lo) (greater r.hi b.hi)) b ≡ true)
covers-lesser r b = (
  and_from _ _ (lesser_upto_first r.lo b.lo) (first_upto_greater r.hi b.hi),
  and_from _ _ (lesser_upto_second r.lo b.lo) (second_upto_greater r.hi b.hi),
)

holds-wider : (bs : List Bounds) (r : Bounds) (k : List ℕ) → holds r k ≡ true → holds (least_range r bs) k ≡ true
holds-wider [] r k e = e
holds-wider (b ∷ bs) r k e = holds-wider bs (bounds (lesser r.lo b.lo) (greater r.hi b.hi)) k (holds-covered (bounds (lesser r.lo b.lo) (greater r.hi b.hi)) r k (covers-lesser r b).0 e)

holds-least : (bs : List Bounds) (r b : Bounds) (k : List ℕ) → Has bs b → holds b k ≡ true → holds (least_range r bs) k ≡ true
holds-least [] r b k h e = absurd h
holds-least (c ∷ bs) r b k (inl is) e =
    let w = bounds (lesser r.lo c.lo) (greater r.hi c.hi) in
    holds-wider bs w k (holds-covered w c k (covers-lesser r c).1 (subst (λ x. holds x k ≡ true) (sym is) e))
holds-least (c ∷ bs) r b k (inr h) e = holds-least bs (bounds (lesser r.lo c.lo) (greater r.hi c.hi)) b k h e

-- what the operations speak of lies in their bounds
inside-ops : (n : ℕ) (ops : List Op) (k : List ℕ) (i : Item) → Has (items_at n ops) i → here k i ≡ true → holds (ops_bounds ops) k ≡ true
inside-ops n [] k i h at_i = absurd h
inside-ops n (op ∷ ops) k i (inl e) at_i = holds-wider (map op_hull ops) (op_hull op) k (here-hull n op k (ap (here k) e ∙ at_i))
inside-ops n (op ∷ ops) k i (inr h) at_i =
    let (x, has, e) = Has-from_map (item_at n) ops i h in
    holds-least (map op_hull ops) (op_hull op) (op_hull x) k (Has-map op_hull ops x has) (here-hull n x k (ap (here k) e ∙ at_i))

pub inside-load : (n : ℕ) (t : TableOps) (c : List Item) (k : List ℕ) (i : Item) → IsRewrite (items_at n t.ops) c → Has c i → here k i ≡ true → holds (table_bounds t) k ≡ true
inside-load n t c k i load h at_i = let from = load.drawn k i h at_i in inside-ops n t.ops k from.0 from.1 from.2

-- the table meets none of the others
abbrev pub IsOff : TableOps → List TableOps → Type 0
IsOff t us = AllByRecursion (λ u. meets (table_bounds t) (table_bounds u) ≡ false) us

found-none : (t u : TableOps) (rest : Option TableOps) (b : Bool) → option_map {U = List ℕ × List ℕ} (λ (x : TableOps). (t.name, x.name)) (cond b (Some u) rest) ≡ None → (b ≡ false) × (option_map {U = List ℕ × List ℕ} (λ (x : TableOps). (t.name, x.name)) rest ≡ None)
found-none t u rest true e = absurd (cc)
found-none t u rest false e = (refl, e)

met-none : (t : TableOps) (us : List TableOps) → met_by t us ≡ None → IsOff t us
met-none t [] none = tt
met-none t (u ∷ us) none =
    let parts = found-none t u (find (λ x. meets (table_bounds t) (table_bounds x)) us) (meets (table_bounds t) (table_bounds u)) none in
    (parts.0, met-none t us parts.1)

or_else-none : {A : Type 0} (a b : Option A) → or_else a b ≡ None → (a ≡ None) × (b ≡ None)
or_else-none (Some x) b h = absurd (cc)
or_else-none None b h = (refl, h)

pub loadable-off : (t : TableOps) (ts : List TableOps) → AreLoadable (t ∷ ts) → IsOff t ts
loadable-off t ts l = met-none t ts (or_else-none (met_by t ts) (first_overlap ts) l.apart).0

pub loadable-rest : (t : TableOps) (ts : List TableOps) → AreLoadable (t ∷ ts) → AreLoadable ts
loadable-rest t ts l = record { in_order = l.in_order.1; apart = (or_else-none (met_by t ts) (first_overlap ts) l.apart).1 }

-- a key of one table is none of the others'
pub off-key : (n : ℕ) (t : TableOps) (ts : List TableOps) (cs : List (List Item)) (k : List ℕ) (i : Item) → IsOff t ts → AreLoadsOf n ts cs → holds (table_bounds t) k ≡ true → Has (joined cs) i → here k i ≡ true → ⊥
off-key n t [] [] k i off loads held h at_i = h
off-key n t [] (c ∷ cs) k i off loads held h at_i = loads
off-key n t (u ∷ us) [] k i off loads held h at_i = loads
off-key n t (u ∷ us) (c ∷ cs) k i off loads held h at_i = elim (Has-append_cases c (joined cs) i h) [
  | inl g ↦ false≢true (sym off.0 ∙ meets-from_held (table_bounds t) (table_bounds u) k held (inside-load n u c k i loads.0 g at_i))
  | inr g ↦ off-key n t us cs k i off.1 loads.1 held g at_i
]

over-off : (n : ℕ) (t : TableOps) (ts : List TableOps) (c : List Item) (cs : List (List Item)) (k : List ℕ) → IsOff t ts → IsRewrite (items_at n t.ops) c → AreLoadsOf n ts cs → IsOverAt k (joined cs) c
over-off n t ts c cs k off load loads = newer-over k (joined cs) c (λ i j p q a b. absurd (off-key n t ts cs k i off loads (inside-load n t c k j load q b) p a))

-- table after table
pub get-tables : (n : ℕ) (ts : List TableOps) (cs : List (List Item)) (m : PlainMap) (k : List ℕ) → AreLoadable ts → AreLoadsOf n ts cs → map.get (with_tables m ts) k ≡ value_over (verdict (joined cs) (n + 1) k) (map.get m k)
get-tables n [] [] m k able loads = refl
get-tables n [] (c ∷ cs) m k able loads = absurd loads
get-tables n (t ∷ ts) [] m k able loads = absurd loads
get-tables n (t ∷ ts) (c ∷ cs) m k able loads =
    let rest = verdict (joined cs) (n + 1) k in
    let above = over-off n t ts c cs k (loadable-off t ts able) loads.0 loads.1 in
    get-tables n ts cs (acted_all m (spans_first t.ops)) k (loadable-rest t ts able) loads.1
    ∙ ap (value_over rest) (get-table n t.ops c m k able.in_order.0 loads.0)
    ∙ sym (value_over-over rest (verdict c (n + 1) k) (map.get m k))
    ∙ ap (λ v. value_over v (map.get m k)) (sym (ap said_by (newest_layers_swapped k (joined cs) c (n + 1) above) ∙ verdict_layered k (joined cs) c (n + 1) above))

-- ---- what tables bring is clear

pub clear-loads : (n : ℕ) (ts : List TableOps) (cs : List (List Item)) → AreLoadable ts → AreLoadsOf n ts cs → IsClear (joined cs)
clear-loads n [] [] able loads = λ key seq v w p q. absurd p
clear-loads n [] (c ∷ cs) able loads = absurd loads
clear-loads n (t ∷ ts) [] able loads = absurd loads
clear-loads n (t ∷ ts) (c ∷ cs) able loads =
    let off = loadable-off t ts able in
    clear-together c (joined cs) (drawn_clear (items_at n t.ops) c loads.0.drawn (clear-table n t.ops able.in_order.0)) (clear-loads n ts cs (loadable-rest t ts able) loads.1)
    (λ k i j p q a b. absurd (off-key n t ts cs k j off loads.1 (inside-load n t c k i loads.0 p a) q b))
