-- What is read of the views of tables and put in order is what the tables have.
use Rattle.std.proofs.Common.{◌≡◌, ℕ, ◌<◌, Bool, true, false, not, ◌&&◌, cond, List, [], ◌∷◌, ◌++◌, length, get_or, map, Option, Some, None, IsTrue, Result, Ok, Err, IsErr, IsErrAnd, IsErrOf, IfErr, inl, inr, ◌⊎◌, refl, sym, ap, ◌∙◌, subst, arith}
use Rattle.std.proofs.lemmas.Bool.{true≢false, false≢true, and_parts, and_from}
use Rattle.std.proofs.lemmas.Grind.{flat_map-append}
use Rattle.std.proofs.lemmas.List.{append-nil, map-append}
use Rattle.std.proofs.lemmas.Option.{none-some, same_Some}
use Rattle.std.proofs.lemmas.List.Elements.{All-from_recursion}
use Rattle.std.proofs.lemmas.List.Kept.{AllPairs-cons, Any-dedup, Contains-from_dedup, IsStrictlySortedBy-dedup}
use Rattle.std.specs.Cmp.{eq_by_cmp_equiv}
use Rattle.std.specs.List.{AllByRecursion, dedup}
use Rattle.std.specs.List.Sorted.{IsPermutation, IsSorted, IsStrictlySortedBy}
use Rattle.std.specs.Ordering.{is_eq, is_lt, eq_by_cmp, ordering_reverse}
use Rattle.std.specs.declared.cmp.Ordering.{Ordering}
use Rattle.std.specs.declared.cmp.Ordering.TheVariants.{Less, Equal, Greater}
use Rattle.xdb_key.specs.Bounds.{Bounds, bounds, holds, covers}
use Rattle.xdb_key.specs.Entries.{Point, Tombstone}
use Rattle.xdb_key.specs.InOrder.{internal_order, comes_before, AreInOrder}
use Rattle.xdb_key.specs.Order.{is_below, is_upto}
use Rattle.xdb_key.proofs.InOrderLaws.{internal_total, tied}
use Rattle.xdb_key.proofs.OrderLaws.{upto-itself, below-itself, upto-not_below, upto_trans}
use Rattle.xdb_mem.specs.Parts.{Parts}
use Rattle.xdb_mem.proofs.PieceLaws.{pieces_same}
use Rattle.xdb_merge.specs.Layers.{layer, content_of_layers}
use Rattle.xdb_merge.specs.Merge.{layer_of, layers}
use Rattle.xdb_merge.specs.Steps.{IsLoaded, NamesDefect, views}
use Rattle.xdb_merge.specs.Tables.{content_of_tables, AreTold, IsViewOf, AreViewsOf, NamesDamage}
use Rattle.xdb_meta.specs.Table.{Table, bounds_of}
use Rattle.xdb_rangedel.specs.Clip.{later_of, earlier_of, starting_from, ending_by, part_in, parts_in}
use Rattle.xdb_rangedel.specs.Content.{Item, entry, span, IsClear, entries_in, spans_in, in_pieces, entry_of, content_of, value_at}
use Rattle.xdb_rangedel.specs.Members.{Has, SameMembers}
use Rattle.xdb_rangedel.specs.Pieces.{pieces, is_ordered, AreFragments}
use Rattle.xdb_rangedel.proofs.CoverLaws.{upto-later_of, below-earlier_of}
use Rattle.xdb_rangedel.proofs.FragmentLaws.{All-at_Has, All-from_Has}
use Rattle.xdb_rangedel.proofs.MemberLaws.{Has-append_left, Has-append_right, Has-append_cases, Has-map, Has-from_map, Has-from_filter_map, Has-from_Contains, Contains-from_Has, Has-get_or}
use Rattle.xdb_rangedel.proofs.PieceLaws.{pieces-tell}
use Rattle.xdb_rangedel.proofs.SpanLaws.{Has-entries_in, Has-spans_in, entries_in-keeps, spans_in-keeps}
use Rattle.xdb_rangedel.proofs.StripLaws.{same_after_sort}
use Rattle.xdb_table_r.specs.Cursors.{Walk}
use Rattle.xdb_table_r.specs.Views.{Shown, keys_of, span_for}
use Rattle.xdb_table_r.specs.declared.error.TableNo.{TableNo}
use Rattle.xdb_table_r.specs.declared.error.TableNo.TheVariants.{ReadFault, Damaged, Memory}
use Rattle.xdb_build.specs.Gathered.{LiesInOne, IsGathered}
use Rattle.xdb_build.specs.Gathering.{AreSortedOf, AreReadOf, NamesOneDefect}

-- ---- answers and their errors

pub no_fault : {X : Type 0} {x : X} {e : TableNo} → IsErrOf {T = X} (Ok x) e → ⊥
no_fault h = absurd (cc)

-- want of memory is no fault
pub lack_no_fault : {X : Type 0} (r : Result X TableNo) → IsErr r × IsErrAnd r (λ y. y ≡ Memory) → IsErrOf r ReadFault → ⊥
lack_no_fault (Ok x) e fault = false≢true e.0
lack_no_fault (Err y) e fault = let same : y ≡ ReadFault = cc in let is : y ≡ Memory = e.1 in absurd (cc)

-- an error that `?` passes on
pub fault_before : {X Y : Type 0} (r : Result X TableNo) (e : TableNo) → IsErr r × IsErrAnd r (λ y. y ≡ e) → IsErrOf r ReadFault → IsErrOf {T = Y} (Err e) ReadFault
fault_before (Ok x) e f fault = absurd (false≢true f.0)
fault_before (Err y) e f fault = let same : y ≡ ReadFault = cc in ap Err (sym f.1 ∙ same)

pub error_passed : {X : Type 0} (P : TableNo → Type 0) (r : Result X TableNo) (e : TableNo) → IsErr r × IsErrAnd r (λ y. y ≡ e) → P e → IfErr r P
error_passed P (Ok x) e f h = tt
error_passed P (Err y) e f h = subst P (sym f.1) h

-- ---- in internal order

in_order_by : (ps : List Point) → IsStrictlySortedBy internal_order ps → AreInOrder ps
unfolding IsStrictlySortedBy
in_order_by [] h = λ i j d less within. absurd (omega arith)
in_order_by (p ∷ ps) h =
    AllPairs-cons (λ x y. IsTrue (comes_before x y)) p ps (λ k d l. ap is_lt (All-from_recursion (λ y. internal_order p y ≡ Less) ps h.0 k d l)) (in_order_by ps h.1)

level : (r : Ordering) → is_eq r ≡ true → (is_lt r ≡ false) × (is_lt (ordering_reverse r) ≡ false)
level Less h = absurd (true≢false (sym h))
level Equal h = (refl, refl)
level Greater h = absurd (true≢false (sym h))

tie_tells : (p q : Point) → eq_by_cmp internal_order p q ≡ true → (p.key ≡ q.key) × (p.seq ≡ q.seq)
tie_tells p q h =
    let both = level (internal_order p q) h in
    tied p q both.0 (ap is_lt (internal_total.antisymm q p) ∙ both.1)

pub sorted_once : (given sorted made : List Point) → IsPermutation given sorted → IsSorted internal_order sorted → made ≡ dedup (eq_by_cmp internal_order) sorted → AreSortedOf given made
sorted_once given sorted made moved up is =
    let ties : Point → Point → Bool = eq_by_cmp internal_order in
    let left = dedup ties sorted in
    subst (AreSortedOf given) (sym is) (record {
      order = in_order_by left (IsStrictlySortedBy-dedup internal_total (λ x y. refl) sorted up);
      drawn = λ p h. (same_after_sort given sorted moved p).0 (Has-from_Contains sorted p (Contains-from_dedup ties sorted p (Contains-from_Has left p h)));
      kept = λ p h.
          let any = Any-dedup (eq_by_cmp_equiv internal_total) sorted p (Contains-from_Has sorted p ((same_after_sort given sorted moved p).1 h)) in
          let same = tie_tells p any.1 any.4 in
          (any.1, Has-from_Contains left any.1 (any.0, any.2, any.3), sym same.0, sym same.1);
    })

-- ---- contents side by side

split_joined : (es ps : List Point) (ts us : List Tombstone) (i : Item) → Has (content_of (es ++ ps) (ts ++ us)) i → Has (content_of es ts) i ⊎ Has (content_of ps us) i
split_joined es ps ts us i h = elim (Has-append_cases (map entry_of (es ++ ps)) (map span (ts ++ us)) i h) [
  | inl e ↦ elim (Has-append_cases (map entry_of es) (map entry_of ps) i (subst (λ c. Has c i) (map-append entry_of es ps) e)) [
    | inl a ↦ inl (Has-append_left (map entry_of es) (map span ts) i a)
    | inr b ↦ inr (Has-append_left (map entry_of ps) (map span us) i b)
  ]
  | inr s ↦ elim (Has-append_cases (map span ts) (map span us) i (subst (λ c. Has c i) (map-append span ts us) s)) [
    | inl a ↦ inl (Has-append_right (map entry_of es) (map span ts) i a)
    | inr b ↦ inr (Has-append_right (map entry_of ps) (map span us) i b)
  ]
]

first_joined : (es ps : List Point) (ts us : List Tombstone) (i : Item) → Has (content_of es ts) i → Has (content_of (es ++ ps) (ts ++ us)) i
first_joined es ps ts us i h = elim (Has-append_cases (map entry_of es) (map span ts) i h) [
  | inl e ↦ Has-append_left (map entry_of (es ++ ps)) (map span (ts ++ us)) i (subst (λ c. Has c i) (sym (map-append entry_of es ps)) (Has-append_left (map entry_of es) (map entry_of ps) i e))
  | inr s ↦ Has-append_right (map entry_of (es ++ ps)) (map span (ts ++ us)) i (subst (λ c. Has c i) (sym (map-append span ts us)) (Has-append_left (map span ts) (map span us) i s))
]

second_joined : (es ps : List Point) (ts us : List Tombstone) (i : Item) → Has (content_of ps us) i → Has (content_of (es ++ ps) (ts ++ us)) i
second_joined es ps ts us i h = elim (Has-append_cases (map entry_of ps) (map span us) i h) [
  | inl e ↦ Has-append_left (map entry_of (es ++ ps)) (map span (ts ++ us)) i (subst (λ c. Has c i) (sym (map-append entry_of es ps)) (Has-append_right (map entry_of es) (map entry_of ps) i e))
  | inr s ↦ Has-append_right (map entry_of (es ++ ps)) (map span (ts ++ us)) i (subst (λ c. Has c i) (sym (map-append span ts us)) (Has-append_right (map span ts) (map span us) i s))
]

spans_along : (ps : List Point) (us vs : List Tombstone) → ((t : Tombstone) → Has us t → Has vs t) → (i : Item) → Has (content_of ps us) i → Has (content_of ps vs) i
spans_along ps us vs to i h = elim (Has-append_cases (map entry_of ps) (map span us) i h) [
  | inl e ↦ Has-append_left (map entry_of ps) (map span vs) i e
  | inr s ↦
      let from = Has-from_map span us i s in
      subst (Has (content_of ps vs)) from.2 (Has-append_right (map entry_of ps) (map span vs) (span from.0) (Has-map span vs from.0 (to from.0 from.1)))
]

-- ---- what has an entry, and what has a span

entry_apart : (ps : List Point) (ts : List Tombstone) (k : List ℕ) (n : ℕ) (v : Option (List ℕ)) → Has (content_of ps ts) (entry k n v) → (p : Point) × Has ps p × (entry_of p ≡ entry k n v)
entry_apart ps ts k n v h = elim (Has-append_cases (map entry_of ps) (map span ts) (entry k n v) h) [
  | inl e ↦ Has-from_map entry_of ps (entry k n v) e
  | inr s ↦ let from = Has-from_map span ts (entry k n v) s in absurd (span_no_entry from.0 k n v from.2)
]
  where
    span_no_entry : (t : Tombstone) (k : List ℕ) (n : ℕ) (v : Option (List ℕ)) → span t ≡ entry k n v → ⊥
    span_no_entry t k n v e = absurd (cc)

span_same : (t u : Tombstone) → ◌≡◌ {A = Item} (span t) (span u) → t ≡ u
span_same t u e = cc

entry_no_span : (p : Point) (t : Tombstone) → entry_of p ≡ span t → ⊥
entry_no_span p t e = absurd (cc)

span_apart : (ps : List Point) (ts : List Tombstone) (t : Tombstone) → Has (content_of ps ts) (span t) → Has ts t
span_apart ps ts t h = elim (Has-append_cases (map entry_of ps) (map span ts) (span t) h) [
  | inl e ↦ let from = Has-from_map entry_of ps (span t) e in absurd (entry_no_span from.0 t from.2)
  | inr s ↦ let from = Has-from_map span ts (span t) s in subst (Has ts) (span_same from.0 t from.2) from.1
]

no_span : (c : List Item) (t : Tombstone) → Has (entries_in c) (span t) → ⊥
no_span [] t h = absurd h
no_span (entry k n v ∷ c) t (inl e) = absurd (cc)
no_span (entry k n v ∷ c) t (inr h) = no_span c t h
no_span (span u ∷ c) t h = no_span c t h

-- ---- what a view has lies within its bounds

covers_chain : (r o p : Bounds) → covers r o ≡ true → covers o p ≡ true → covers r p ≡ true
covers_chain r o p a b =
    let outer = and_parts (is_upto r.lo o.lo) (is_upto o.hi r.hi) a in
    let inner = and_parts (is_upto o.lo p.lo) (is_upto p.hi o.hi) b in
    and_from (is_upto r.lo p.lo) (is_upto p.hi r.hi) (upto_trans r.lo o.lo p.lo outer.0 inner.0) (upto_trans p.hi o.hi r.hi inner.1 outer.1)

some_then : (b : Bool) (t u : Tombstone) → cond b (Some t) None ≡ Some u → t ≡ u
some_then true t u e = same_Some t u e
some_then false t u e = absurd (none-some u e)

part_covered : (r : Bounds) (t u : Tombstone) → part_in r t ≡ Some u → covers r u.range ≡ true
part_covered r t u e =
    let same = some_then _ (starting_from r.lo (ending_by r.hi t)) u e in
    let lo = later_of r.lo t.range.lo in
    let hi = earlier_of r.hi t.range.hi in
    let start : is_upto r.lo lo ≡ true = (and_parts (is_upto r.lo lo) (is_upto t.range.lo lo) (sym (upto-later_of r.lo t.range.lo lo) ∙ upto-itself lo)).0 in
    let end : is_upto hi r.hi ≡ true = upto-not_below hi r.hi ∙ ap not (below-earlier_of r.hi t.range.hi r.hi ∙ ap (λ b. b && is_below r.hi t.range.hi) (below-itself r.hi)) in
    ap (λ x. covers r x.range) (sym same) ∙ and_from (is_upto r.lo lo) (is_upto hi r.hi) start end

shown_covered : (b : Bool) (r : Bounds) (n : ℕ) (ts : List Tombstone) (t : Tombstone) → Has (cond b (map (span_for n) (parts_in r ts)) []) t → covers r t.range ≡ true
shown_covered false r n ts t h = absurd h
shown_covered true r n ts t h =
    let from = Has-from_map (span_for n) (parts_in r ts) t h in
    let part = Has-from_filter_map (part_in r) ts from.0 from.1 in
    ap (λ x. covers r x.range) (sym from.2) ∙ part_covered r part.0 from.0 part.2

-- the range has the key of the entry, or the whole range of the span
abbrev lies_about : Bounds → Item → Bool
lies_about r (entry k n v) = holds r k
lies_about r (span t) = covers r t.range

module _ {F : Type 0} where
  item_about : (bytes : F → Option (List ℕ)) (w : Walk F) (i : Item) → IsLoaded bytes w → Has (content_of w.points (layer_of w).spans) i → lies_about (keys_of w.view) i ≡ true
  item_about bytes w i loaded h =
      let r = keys_of w.view in
      let ts = (layer_of w).spans in
      elim (Has-append_cases (map entry_of w.points) (map span ts) i h) [
        | inl e ↦
            let from = Has-from_map entry_of w.points i e in
            ap (lies_about r) (sym from.2) ∙ All-at_Has (λ (p : Point). IsTrue (holds r p.key)) w.points from.0 loaded.points.seen.within from.1
        | inr s ↦
            let from = Has-from_map span ts i s in
            ap (lies_about r) (sym from.2) ∙ shown_covered (is_below r.lo r.hi) r w.view.synthetic w.view.table.spans from.0 from.1
      ]

  in_layers : (ws : List (Walk F)) (i : Item) → Has (content_of_layers (map layer_of ws)) i → (w : Walk F) × Has ws w × Has (content_of w.points (layer_of w).spans) i
  in_layers [] i h = absurd h
  in_layers (w ∷ ws) i h = elim (Has-append_cases (content_of w.points (layer_of w).spans) (content_of_layers (map layer_of ws)) i h) [
    | inl a ↦ (w, inl refl, a)
    | inr b ↦ let more = in_layers ws i b in (more.0, inr more.1, more.2)
  ]

  layers_joined : (ws : List (Walk F)) (w : Walk F) → content_of_layers (map layer_of (ws ++ w ∷ [])) ≡ content_of_layers (map layer_of ws) ++ content_of w.points (layer_of w).spans
  layers_joined ws w =
      ap content_of_layers (map-append layer_of ws (w ∷ []))
      ∙ flat_map-append (λ (l : Parts). content_of l.entries l.spans) (map layer_of ws) (layer_of w ∷ [])
      ∙ ap (λ c. content_of_layers (map layer_of ws) ++ c) (append-nil (content_of w.points (layer_of w).spans))

all_more : {A : Type 0} (P : A → Type 0) (xs : List A) (y : A) → AllByRecursion P xs → P y → AllByRecursion P (xs ++ y ∷ [])
all_more P [] y h p = (p, tt)
all_more P (x ∷ xs) y h p = (h.0, all_more P xs y h.1 p)

all_in : {A : Type 0} (P : A → Type 0) (xs : List A) (x : A) → AllByRecursion P xs → Has xs x → P x
all_in P xs x all has = All-at_Has P xs x (All-from_recursion P xs all) has

module _ {F : Type 0} (bytes : F → Option (List ℕ)) where
  -- ---- views are read

  read_nothing : AreReadOf bytes [] [] []
  read_nothing = record { walks = []; seen = refl; loaded = tt; members = λ i. ((λ h. h), (λ h. h)); ordered = λ t h. absurd h }

  pub read_none : (es : List Point) (ts : List Tombstone) → es ≡ [] → ts ≡ [] → AreReadOf bytes [] es ts
  read_none es ts none nothing = subst (λ ps. AreReadOf bytes [] ps ts) (sym none) (subst (AreReadOf bytes [] []) (sym nothing) read_nothing)

  read_joined : (vs : List (Shown F)) (es : List Point) (ts : List Tombstone) (w : Walk F) (us : List Tombstone) → AreReadOf bytes vs es ts → IsLoaded bytes w → SameMembers us (layer_of w).spans → AreFragments us → AreReadOf bytes (vs ++ w.view ∷ []) (es ++ w.points) (ts ++ us)
  read_joined vs es ts w us r loaded spans f =
      let own = content_of w.points (layer_of w).spans in
      let before = content_of_layers (map layer_of r.walks) in
      record {
        walks = r.walks ++ w ∷ [];
        seen = map-append (λ (x : Walk F). x.view) r.walks (w ∷ []) ∙ ap (λ xs. xs ++ w.view ∷ []) r.seen;
        loaded = all_more (IsLoaded bytes) r.walks w r.loaded loaded;
        members = λ i. (
          (λ h. subst (λ c. Has c i) (sym (layers_joined r.walks w)) (elim (split_joined es w.points ts us i h) [
            | inl a ↦ Has-append_left before own i ((r.members i).0 a)
            | inr b ↦ Has-append_right before own i (spans_along w.points us (layer_of w).spans (λ t. (spans t).0) i b)
          ])),
          (λ h. elim (Has-append_cases before own i (subst (λ c. Has c i) (layers_joined r.walks w) h)) [
            | inl a ↦ first_joined es w.points ts us i ((r.members i).1 a)
            | inr b ↦ second_joined es w.points ts us i (spans_along w.points (layer_of w).spans us (λ t. (spans t).1) i b)
          ]),
        );
        ordered = λ t h. elim (Has-append_cases ts us t h) [
          | inl a ↦ r.ordered t a
          | inr b ↦ All-at_Has (λ x. IsTrue (is_ordered x)) us t f.ordered b
        ];
      }

  pub read_more : (vs : List (Shown F)) (v : Shown F) (es made : List Point) (ts over : List Tombstone) (w : Walk F) (us : List Tombstone) → AreReadOf bytes vs es ts → w.view ≡ v → IsLoaded bytes w → SameMembers us (layer_of w).spans → AreFragments us
      → made ≡ es ++ w.points → over ≡ ts ++ us → AreReadOf bytes (vs ++ v ∷ []) made over
  read_more vs v es made ts over w us r view loaded spans f made_is over_is =
      subst (λ ps. AreReadOf bytes (vs ++ v ∷ []) ps over) (sym made_is)
      (subst (AreReadOf bytes (vs ++ v ∷ []) (es ++ w.points)) (sym over_is)
      (subst (λ x. AreReadOf bytes (vs ++ x ∷ []) (es ++ w.points) (ts ++ us)) view (read_joined vs es ts w us r loaded spans f)))

  map_same : {A : Type 0} (xs : List A) → map (λ x. x) xs ≡ xs
  map_same [] = refl
  map_same (x ∷ xs) = ap (λ ys. x ∷ ys) (map_same xs)

  pub read_all : (vs yielded : List (Shown F)) (es : List Point) (ts : List Tombstone) → map (λ v. v) yielded ≡ vs → AreReadOf bytes yielded es ts → AreReadOf bytes vs es ts
  read_all vs yielded es ts all r = subst (λ xs. AreReadOf bytes xs es ts) (sym (map_same yielded) ∙ all) r

  -- ---- defects

  one_defect : (vs : List (Shown F)) (v : Shown F) (e : TableNo) → Has vs v → NamesDefect bytes (v ∷ []) e → NamesOneDefect bytes vs e
  one_defect vs v (Damaged b at) has h = (v, has, h)
  one_defect vs v ReadFault has h = tt
  one_defect vs v Memory has h = tt

  pub defect_at : (vs : List (Shown F)) (i : ℕ) (v : Shown F) (e : TableNo) → i < length vs → v ≡ get_or vs i v → NamesDefect bytes (v ∷ []) e → NamesOneDefect bytes vs e
  defect_at vs i v e inside at h = one_defect vs v e (subst (Has vs) (sym at) (Has-get_or vs i v inside)) h

  view_in : (ts : List (Table × F)) (vs : List (Shown F)) (v : Shown F) → AreViewsOf bytes ts vs → Has vs v → (t : Table × F) × Has ts t × IsViewOf bytes t v
  view_in [] [] v are h = absurd h
  view_in [] (x ∷ vs) v are h = absurd are
  view_in (t ∷ ts) [] v are h = absurd are
  view_in (t ∷ ts) (x ∷ vs) v are (inl e) = (t, inl refl, subst (IsViewOf bytes t) e are.0)
  view_in (t ∷ ts) (x ∷ vs) v are (inr h) = let more = view_in ts vs v are.1 h in (more.0, inr more.1, more.2)

  -- a defect of views is one of the tables
  abbrev pub DefectsAreDamage : Type 0
  DefectsAreDamage = (ts : List (Table × F)) (vs : List (Shown F)) (no : TableNo) → AreViewsOf bytes ts vs → NamesDefect bytes vs no → NamesDamage bytes ts no

  pub damage_is : DefectsAreDamage → (ts : List (Table × F)) (vs : List (Shown F)) (no : TableNo) → AreViewsOf bytes ts vs → NamesOneDefect bytes vs no → NamesDamage bytes ts no
  damage_is law ts vs (Damaged b at) are h =
      let table = view_in ts vs h.0 are h.1 in
      let one = law (table.0 ∷ []) (h.0 ∷ []) (Damaged b at) (table.2, tt) h.2 in
      (one.0, among one.1 table.1, one.2)
    where
      among : {t u : Table × F} → Has (t ∷ []) u → Has ts t → Has ts u
      among (inl e) has = subst (Has ts) e has
      among (inr never) has = absurd never
  damage_is law ts vs ReadFault are h = tt
  damage_is law ts vs Memory are h = tt

  -- ---- all that the tables have

  -- the content of cursors of all views is that of the tables
  abbrev pub ContentIsOfTables : Type 0
  ContentIsOfTables = (mem : Parts) (ts : List (Table × F)) (ws : List (Walk F)) → AreViewsOf bytes ts (views ws) → AllByRecursion (IsLoaded bytes) ws → AreTold bytes ts → content_of_layers (layers mem ws) ≡ content_of mem.entries mem.spans ++ content_of_tables bytes ts

  module _ (ts : List (Table × F)) (vs : List (Shown F)) (es made : List Point) (ss over : List Tombstone) (are : AreViewsOf bytes ts vs) (r : AreReadOf bytes vs es ss) (sorted : AreSortedOf es made) (fragments : SameMembers over (pieces ss)) where
    about_one : (i : Item) → Has (content_of es ss) i → (t : Table) × Has (map (λ t. t.0) ts) t × (lies_about (bounds_of t) i ≡ true)
    about_one i h =
        let from = in_layers r.walks i ((r.members i).0 h) in
        let w = from.0 in
        let view : Has vs w.view = subst (λ xs. Has xs w.view) r.seen (Has-map (λ (x : Walk F). x.view) r.walks w from.1) in
        let table = view_in ts vs w.view are view in
        let range : keys_of w.view ≡ bounds_of table.0.0 = ap (λ lo. bounds lo w.view.hi) table.2.lo ∙ ap (bounds table.0.0.lo) table.2.hi in (
          table.0.0,
          Has-map (λ (t : Table × F). t.0) ts table.0 table.1,
          ap (λ x. lies_about x i) (sym range) ∙ item_about bytes w i (all_in (IsLoaded bytes) r.walks w r.loaded from.1) from.2,
        )

    point_inside : (p : Point) → Has made p → LiesInOne (map (λ t. t.0) ts) (entry_of p)
    point_inside p h = about_one (entry_of p) (Has-append_left (map entry_of es) (map span ss) (entry_of p) (Has-map entry_of es p (sorted.drawn p h)))

    span_inside : (t : Tombstone) → Has over t → LiesInOne (map (λ t. t.0) ts) (span t)
    span_inside t h =
        let piece = pieces-tell ss t r.ordered ((fragments t).0 h) in
        let s = piece.source.0 in
        let table = about_one (span s) (Has-append_right (map entry_of es) (map span ss) (span s) (Has-map span ss s piece.source.1)) in
        (table.0, table.1, and_from (is_ordered t) (covers (bounds_of table.0) t.range) piece.ordered (covers_chain (bounds_of table.0) s.range t.range table.2 piece.source.2))

    inside_is : (i : Item) → Has (content_of made over) i → LiesInOne (map (λ t. t.0) ts) i
    inside_is i h = elim (Has-append_cases (map entry_of made) (map span over) i h) [
      | inl e ↦ let from = Has-from_map entry_of made i e in subst (LiesInOne (map (λ t. t.0) ts)) from.2 (point_inside from.0 from.1)
      | inr s ↦ let from = Has-from_map span over i s in subst (LiesInOne (map (λ t. t.0) ts)) from.2 (span_inside from.0 from.1)
    ]

    module _ (c : List Item) (same : SameMembers (content_of es ss) c) (clear : IsClear c) where
      spans_are : SameMembers ss (spans_in c)
      spans_are t = (
        (λ h. spans_in-keeps c t ((same (span t)).0 (Has-append_right (map entry_of es) (map span ss) (span t) (Has-map span ss t h)))),
        (λ h. span_apart es ss t ((same (span t)).1 (Has-spans_in c t h))),
      )

      pieces_are : SameMembers (pieces ss) (pieces (spans_in c))
      pieces_are = pieces_same ss (spans_in c) spans_are (All-from_Has (λ t. IsTrue (is_ordered t)) ss r.ordered)

      point_of : (p : Point) → Has es p → Has c (entry_of p)
      point_of p h = (same (entry_of p)).0 (Has-append_left (map entry_of es) (map span ss) (entry_of p) (Has-map entry_of es p h))

      -- an entry of the tables is that of a point, since what ties with it says the same
      point_kept : (k : List ℕ) (n : ℕ) (v : Option (List ℕ)) → Has c (entry k n v) → Has (map entry_of made) (entry k n v)
      point_kept k n v h =
          let from = entry_apart es ss k n v ((same (entry k n v)).1 h) in
          let kept = sorted.kept from.0 from.1 in
          let q = kept.0 in
          let key : q.key ≡ k = kept.2 ∙ entry_key from.0 k n v from.2 in
          let seq : q.seq ≡ n = kept.3 ∙ entry_seq from.0 k n v from.2 in
          let at : entry_of q ≡ entry k n (value_at q.kind q.value) = λ i. entry (key i) (seq i) (value_at q.kind q.value) in
          let value : value_at q.kind q.value ≡ v = clear k n (value_at q.kind q.value) v (subst (Has c) at (point_of q (sorted.drawn q kept.1))) h in
          subst (Has (map entry_of made)) (at ∙ ap (entry k n) value) (Has-map entry_of made q kept.1)
        where
          entry_key : (p : Point) (k : List ℕ) (n : ℕ) (v : Option (List ℕ)) → entry_of p ≡ entry k n v → p.key ≡ k
          entry_key p k n v e = cc

          entry_seq : (p : Point) (k : List ℕ) (n : ℕ) (v : Option (List ℕ)) → entry_of p ≡ entry k n v → p.seq ≡ n
          entry_seq p k n v e = cc

      kept_in : (i : Item) → Has (entries_in c) i → Has (map entry_of made) i
      kept_in (entry k n v) h = point_kept k n v (Has-entries_in c (entry k n v) h)
      kept_in (span t) h = absurd (no_span c t h)

      members_are : SameMembers (content_of made over) (in_pieces c)
      members_are i = (
        (λ h. elim (Has-append_cases (map entry_of made) (map span over) i h) [
          | inl e ↦
              let from = Has-from_map entry_of made i e in
              let p = from.0 in
              subst (Has (in_pieces c)) from.2 (Has-append_left (entries_in c) (map span (pieces (spans_in c))) (entry_of p) (entries_in-keeps c p.key p.seq (value_at p.kind p.value) (point_of p (sorted.drawn p from.1))))
          | inr s ↦
              let from = Has-from_map span over i s in
              let t = from.0 in
              subst (Has (in_pieces c)) from.2 (Has-append_right (entries_in c) (map span (pieces (spans_in c))) (span t) (Has-map span (pieces (spans_in c)) t ((pieces_are t).0 ((fragments t).0 from.1))))
        ]),
        (λ h. elim (Has-append_cases (entries_in c) (map span (pieces (spans_in c))) i h) [
          | inl e ↦ Has-append_left (map entry_of made) (map span over) i (kept_in i e)
          | inr s ↦
              let from = Has-from_map span (pieces (spans_in c)) i s in
              let t = from.0 in
              subst (Has (content_of made over)) from.2 (Has-append_right (map entry_of made) (map span over) (span t) (Has-map span over t ((fragments t).1 ((pieces_are t).1 from.1))))
        ]),
      )

    pub gathered_is : ContentIsOfTables → AreFragments over → IsGathered bytes ts made over
    gathered_is law f = record {
      order = sorted.order;
      fragments = f;
      inside = inside_is;
      members = λ told clear.
          let whole : content_of_layers (map layer_of r.walks) ≡ content_of_tables bytes ts =
          law (layer [] []) ts r.walks (subst (AreViewsOf bytes ts) (sym r.seen) are) r.loaded told in
          members_are (content_of_tables bytes ts) (subst (SameMembers (content_of es ss)) whole r.members) clear;
    }
