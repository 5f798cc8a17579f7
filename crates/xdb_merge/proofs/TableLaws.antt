-- Views of tables show what the tables have, and a defect that is named is one of a table.
use Rattle.std.proofs.Common.{◌≡◌, ℕ, ◌+◌, ◌<◌, ◌≤◌, true, false, cond, List, [], ◌∷◌, ◌++◌, length, get_or, take, map, append-nil, Option, Some, None, IsSome, IfSome, Result, Ok, Err, IsErr, IsErrAnd, IsErrOf, IfErr, inl, inr, refl, sym, ap, ◌∙◌, subst}
use Rattle.std.proofs.lemmas.Bool.{cases_Bool, and_parts, and_from, false≢true}
use Rattle.std.proofs.lemmas.List.{take_more, take_all}
use Rattle.std.proofs.lemmas.List.Elements.{filter-append}
use Rattle.std.specs.List.{AllByRecursion}
use Rattle.xdb_key.specs.Bounds.{Bounds, bounds, holds, meets}
use Rattle.xdb_key.specs.Entries.{Point}
use Rattle.xdb_key.specs.Order.{is_below, is_upto}
use Rattle.xdb_key.specs.Reading.{◌>>=◌}
use Rattle.xdb_key.proofs.OrderLaws.{upto_below}
use Rattle.xdb_mem.specs.Parts.{Parts}
use Rattle.xdb_mem.proofs.PickLaws.{Has-filter}
use Rattle.xdb_meta.specs.Table.{Table, bounds_of}
use Rattle.xdb_rangedel.specs.Content.{Item, newer, newest, content_of}
use Rattle.xdb_rangedel.specs.Members.{Has}
use Rattle.xdb_rangedel.specs.View.{renumbered, view}
use Rattle.xdb_rangedel.proofs.MemberLaws.{Has-get_or}
use Rattle.xdb_rangedel.proofs.NewestLaws.{newest-append}
use Rattle.xdb_rangedel.proofs.RangeLaws.{newest-view}
use Rattle.xdb_table_r.specs.Contents.{content_in}
use Rattle.xdb_table_r.specs.Cursors.{Walk}
use Rattle.xdb_table_r.specs.Opening.{IsNo, opened, opened_at}
use Rattle.xdb_table_r.specs.Points.{points_at}
use Rattle.xdb_table_r.specs.Views.{Shown, keys_of, points_in, view_at}
use Rattle.xdb_table_r.specs.declared.error.TableNo.{TableNo}
use Rattle.xdb_table_r.specs.declared.error.TableNo.TheVariants.{ReadFault, Damaged, Memory}
use Rattle.xdb_table_r.proofs.ContentLaws.{seen_is_view}
use Rattle.xdb_merge.specs.Layers.{content_of_layers}
use Rattle.xdb_merge.specs.Merge.{layer_of, layers}
use Rattle.xdb_merge.specs.Steps.{IsLoaded, IsFirstDefect, NamesDefect, views}
use Rattle.xdb_merge.specs.Tables.{table_at, shown, content_told, tables_in, content_of_tables, AreTold, IsViewOf, AreViewsOf, IsDamage, NamesDamage}

-- ---- results one after the other

bind-err : {A B : Type 0} (r : Result A ℕ) (f : A → Result B ℕ) (at : ℕ) → r ≡ Err at → (r >>= f) ≡ Err at
bind-err r f at e = ap (λ x. x >>= f) e

bind-back : {A B C : Type 0} (r : Result A ℕ) (f : A → B) (g : A → C) (at : ℕ) → (r >>= λ x. Ok (f x)) ≡ Err at → (r >>= λ x. Ok (g x)) ≡ Err at
bind-back (Ok x) f g at e = absurd (cc)
bind-back (Err b) f g at e = let same : b ≡ at = cc in ap Err same

bind-shown : {A : Type 0} (r : Result A ℕ) (f : A → List Point) (g : A → List Item) (ps : List Point) (c : List Item) → (r >>= λ x. Ok (f x)) ≡ Ok ps → ((x : A) → f x ≡ ps → c ≡ g x) → c ≡ shown (r >>= λ x. Ok (g x))
bind-shown (Ok x) f g ps c e h = let same : f x ≡ ps = cc in h x same
bind-shown (Err b) f g ps c e h = absurd (cc)

if_both : {A : Type 0} (o : Option A) (P Q R : A → Type 0) → ((x : A) → P x → Q x → R x) → IfSome o P → IfSome o Q → IfSome o R
if_both None P Q R h p q = tt
if_both (Some x) P Q R h p q = h x p q

if_then : {A : Type 0} (o : Option A) (P R : A → Type 0) → ((x : A) → P x → R x) → IfSome o P → IfSome o R
if_then None P R h p = tt
if_then (Some x) P R h p = h x p

-- want of memory is no fault
pub not_fault : {X : Type 0} (r : Result X TableNo) → IsErr r × IsErrAnd r (λ y. y ≡ Memory) → IsErrOf r ReadFault → ⊥
not_fault (Ok x) e fault = false≢true e.0
not_fault (Err y) e fault = let same : y ≡ ReadFault = cc in let is : y ≡ Memory = e.1 in absurd (cc)

-- what is silent is so whatever came before it
bind-silent : {A : Type 0} (r : Result A ℕ) (f : A → Result (List Item) ℕ) (limit : ℕ) (k : List ℕ) → ((x : A) → newest (shown (f x)) limit k ≡ None) → newest (shown (r >>= f)) limit k ≡ None
bind-silent (Ok x) f limit k h = h x
bind-silent (Err b) f limit k h = refl

-- a range that holds a key meets each other one that does
outside_apart : (a b : Bounds) (k : List ℕ) → holds b k ≡ true → meets a b ≡ false → holds a k ≡ false
outside_apart a b k at_k apart = elim (cases_Bool (holds a k)) [
  | inr e ↦ e
  | inl e ↦
      let one = and_parts (is_upto a.lo k) (is_below k a.hi) e in
      let two = and_parts (is_upto b.lo k) (is_below k b.hi) at_k in
      absurd (false≢true (sym apart ∙ and_from (is_below a.lo b.hi) (is_below b.lo a.hi) (upto_below a.lo k b.hi one.0 two.1) (upto_below b.lo k a.hi two.0 one.1)))
]

module _ {F : Type 0} (bytes : F → Option (List ℕ)) where
  -- ---- opening

  views_joined : (ts : List (Table × F)) (vs : List (Shown F)) (t : Table × F) (v : Shown F) → AreViewsOf bytes ts vs → IsViewOf bytes t v → AreViewsOf bytes (ts ++ t ∷ []) (vs ++ v ∷ [])
  views_joined [] [] t v h is = (is, tt)
  views_joined [] (w ∷ vs) t v h is = absurd h
  views_joined (u ∷ ts) [] t v h is = absurd h
  views_joined (u ∷ ts) (w ∷ vs) t v h is = (h.0, views_joined ts vs t v h.1 is)

  pub views_more : (ts : List (Table × F)) (i : ℕ) (t : Table × F) (vs : List (Shown F)) (v : Shown F) → i < length ts → t ≡ get_or ts i t → AreViewsOf bytes (take i ts) vs → IsViewOf bytes t v → AreViewsOf bytes (take (i + 1) ts) (vs ++ v ∷ [])
  views_more ts i t vs v inside at h is =
      subst (λ us. AreViewsOf bytes us (vs ++ v ∷ [])) (sym (take_more ts i t inside ∙ ap (λ u. take i ts ++ u ∷ []) (sym at)))
      (views_joined (take i ts) vs t v h is)

  pub views_all : (ts : List (Table × F)) (i : ℕ) (vs : List (Shown F)) → length ts ≤ i → AreViewsOf bytes (take i ts) vs → AreViewsOf bytes ts vs
  views_all ts i vs past h = subst (λ us. AreViewsOf bytes us vs) (take_all i ts past) h

  pub damage_among : (ts : List (Table × F)) (i : ℕ) (t : Table × F) (no : TableNo) → i < length ts → t ≡ get_or ts i t → NamesDamage bytes (t ∷ []) no → NamesDamage bytes ts no
  damage_among ts i t (Damaged b at) inside is h =
      let has : Has ts t = subst (Has ts) (sym is) (Has-get_or ts i t inside) in
      elim h.1 [
        | inl e ↦ (h.0, subst (Has ts) e has, h.2)
        | inr never ↦ absurd never
      ]
  damage_among ts i t ReadFault inside is h = tt
  damage_among ts i t Memory inside is h = tt

  pub damage_opened : (t : Table × F) (file : F) (no : TableNo) → bytes file ≡ bytes t.1 → IfSome (bytes file) (λ b. IsNo t.0.backing no (opened_at b)) → NamesDamage bytes (t ∷ []) no
  damage_opened t file (Damaged b at) same h = (
    t,
    inl refl,
    if_then (bytes t.1) (λ x. (b ≡ t.0.backing) × (opened_at x ≡ Err at)) (λ x. (b ≡ t.0.backing) × (table_at x (bounds_of t.0) t.0.synthetic ≡ Err at))
        (λ x p. (p.0, bind-err (opened_at x) _ at p.1))
        (subst (λ o. IfSome o (λ x. (b ≡ t.0.backing) × (opened_at x ≡ Err at))) same h),
  )
  damage_opened t file ReadFault same h = tt
  damage_opened t file Memory same h = tt

  -- an error that `?` passes on
  pub passed_damage : {X : Type 0} (ts : List (Table × F)) (r : Result X TableNo) (e : TableNo) → IsErr r × IsErrAnd r (λ y. y ≡ e) → NamesDamage bytes ts e → IfErr r (NamesDamage bytes ts)
  passed_damage ts (Ok x) e f h = tt
  passed_damage ts (Err y) e f h = subst (NamesDamage bytes ts) (sym f.1) h

  -- ---- content

  shown_is : (t : Table × F) (w : Walk F) (file : List ℕ) → IsViewOf bytes t w.view → IsLoaded bytes w → bytes t.1 ≡ Some file → content_of w.points (layer_of w).spans ≡ shown (table_at file (bounds_of t.0) t.0.synthetic)
  shown_is t w file is loaded told =
      let v = w.view in
      let read : view_at v file ≡ Ok w.points = subst (λ o. IfSome o (λ b. view_at v b ≡ Ok w.points)) (is.file ∙ told) loaded.points.told in
      let opens : opened_at file ≡ Ok (opened v.table.spans v.table.index v.table.end) = subst (λ o. IfSome o (λ b. opened_at b ≡ Ok (opened v.table.spans v.table.index v.table.end))) told is.opens in
      let range : keys_of v ≡ bounds_of t.0 = ap (λ lo. bounds lo v.hi) is.lo ∙ ap (bounds t.0.lo) is.hi in
      bind-shown (points_at v.table.index file) (points_in (keys_of v) v.synthetic) (λ rows. view (content_in rows v.table.spans) (keys_of v) v.synthetic) w.points (content_of w.points (layer_of w).spans) read
      (λ rows h. ap (λ ps. content_of ps (layer_of w).spans) (sym h) ∙ seen_is_view (keys_of v) v.synthetic rows v.table.spans)
      ∙ ap (λ r. shown (points_at v.table.index file >>= λ rows. Ok (view (content_in rows v.table.spans) r v.synthetic))) range
      ∙ ap (λ n. shown (points_at v.table.index file >>= λ rows. Ok (view (content_in rows v.table.spans) (bounds_of t.0) n))) is.synthetic
      ∙ ap (λ o. shown (o >>= λ x. points_at x.index file >>= λ rows. Ok (view (content_in rows x.spans) (bounds_of t.0) t.0.synthetic))) (sym opens)

  one_content : (t : Table × F) (w : Walk F) (o : Option (List ℕ)) → bytes t.1 ≡ o → IsSome o → IsViewOf bytes t w.view → IsLoaded bytes w → content_of w.points (layer_of w).spans ≡ content_told o t.0
  one_content t w None e told is loaded = absurd (false≢true told)
  one_content t w (Some file) e told is loaded = shown_is t w file is loaded e

  all_content : (ts : List (Table × F)) (ws : List (Walk F)) → AreViewsOf bytes ts (views ws) → AllByRecursion (IsLoaded bytes) ws → AreTold bytes ts → content_of_layers (map layer_of ws) ≡ content_of_tables bytes ts
  all_content [] [] are loaded told = refl
  all_content [] (w ∷ ws) are loaded told = absurd are
  all_content (t ∷ ts) [] are loaded told = absurd are
  all_content (t ∷ ts) (w ∷ ws) are loaded told =
      ap (λ c. c ++ content_of_layers (map layer_of ws)) (one_content t w (bytes t.1) refl told.0 are.0 loaded.0)
      ∙ ap (λ c. content_told (bytes t.1) t.0 ++ c) (all_content ts ws are.1 loaded.1 told.1)

  pub content_is_of_tables : (mem : Parts) (ts : List (Table × F)) (ws : List (Walk F)) → AreViewsOf bytes ts (views ws) → AllByRecursion (IsLoaded bytes) ws → AreTold bytes ts → content_of_layers (layers mem ws) ≡ content_of mem.entries mem.spans ++ content_of_tables bytes ts
  content_is_of_tables mem ts ws are loaded told = ap (λ c. content_of mem.entries mem.spans ++ c) (all_content ts ws are loaded told)

  -- ---- a defect

  defect_is : (t : Table × F) (v : Shown F) (backing at : ℕ) → IsViewOf bytes t v → IfSome (bytes v.table.file) (λ b. (backing ≡ v.table.backing) × (view_at v b ≡ Err at)) → IfSome (bytes t.1) (λ b. (backing ≡ t.0.backing) × (table_at b (bounds_of t.0) t.0.synthetic ≡ Err at))
  defect_is t v backing at is h = if_both (bytes t.1)
      (λ b. (backing ≡ v.table.backing) × (view_at v b ≡ Err at))
      (λ b. opened_at b ≡ Ok (opened v.table.spans v.table.index v.table.end))
      (λ b. (backing ≡ t.0.backing) × (table_at b (bounds_of t.0) t.0.synthetic ≡ Err at))
      (λ b p opens. (
        p.0 ∙ is.backing,
        ap (λ o. o >>= λ x. points_at x.index b >>= λ rows. Ok (view (content_in rows x.spans) (bounds_of t.0) t.0.synthetic)) opens
            ∙ bind-back (points_at v.table.index b) (points_in (keys_of v) v.synthetic) (λ rows. view (content_in rows v.table.spans) (bounds_of t.0) t.0.synthetic) at p.1,
      ))
      (subst (λ o. IfSome o (λ b. (backing ≡ v.table.backing) × (view_at v b ≡ Err at))) is.file h)
      is.opens

  defect_among : (ts : List (Table × F)) (vs : List (Shown F)) (backing at : ℕ) → AreViewsOf bytes ts vs → IsFirstDefect bytes backing at vs → IsDamage bytes ts backing at
  defect_among [] [] backing at are h = absurd h
  defect_among [] (v ∷ vs) backing at are h = absurd are
  defect_among (t ∷ ts) [] backing at are h = absurd are
  defect_among (t ∷ ts) (v ∷ vs) backing at are h = elim h [
    | inl here ↦ (t, inl refl, defect_is t v backing at are.0 here)
    | inr later ↦ let found = defect_among ts vs backing at are.1 later.1 in (found.0, inr found.1, found.2)
  ]

  pub damage_is_of_tables : (ts : List (Table × F)) (vs : List (Shown F)) (no : TableNo) → AreViewsOf bytes ts vs → NamesDefect bytes vs no → NamesDamage bytes ts no
  damage_is_of_tables ts vs (Damaged backing at) are h = defect_among ts vs backing at are h
  damage_is_of_tables ts vs ReadFault are h = tt
  damage_is_of_tables ts vs Memory are h = tt

  -- ---- the tables of a range

  in_more : (r : Bounds) (ts : List (Table × F)) (i : ℕ) (t : Table × F) → i < length ts → t ≡ get_or ts i t → tables_in r (take (i + 1) ts) ≡ tables_in r (take i ts) ++ cond (meets (bounds_of t.0) r) (t ∷ []) []
  in_more r ts i t inside at =
      ap (tables_in r) (take_more ts i t inside ∙ ap (λ u. take i ts ++ u ∷ []) (sym at))
      ∙ filter-append (λ u. meets (bounds_of u.0) r) (take i ts) (t ∷ [])

  pub views_more_in : (r : Bounds) (ts : List (Table × F)) (i : ℕ) (t : Table × F) (vs : List (Shown F)) (v : Shown F) → i < length ts → t ≡ get_or ts i t → meets (bounds_of t.0) r ≡ true → AreViewsOf bytes (tables_in r (take i ts)) vs → IsViewOf bytes t v → AreViewsOf bytes (tables_in r (take (i + 1) ts)) (vs ++ v ∷ [])
  views_more_in r ts i t vs v inside at meet h is =
      subst (λ us. AreViewsOf bytes us (vs ++ v ∷ [])) (sym (in_more r ts i t inside at ∙ ap (λ b. tables_in r (take i ts) ++ cond b (t ∷ []) []) meet))
      (views_joined (tables_in r (take i ts)) vs t v h is)

  pub views_same_in : (r : Bounds) (ts : List (Table × F)) (i : ℕ) (t : Table × F) (vs : List (Shown F)) → i < length ts → t ≡ get_or ts i t → meets (bounds_of t.0) r ≡ false → AreViewsOf bytes (tables_in r (take i ts)) vs → AreViewsOf bytes (tables_in r (take (i + 1) ts)) vs
  views_same_in r ts i t vs inside at apart h =
      subst (λ us. AreViewsOf bytes us vs) (sym (in_more r ts i t inside at ∙ ap (λ b. tables_in r (take i ts) ++ cond b (t ∷ []) []) apart ∙ append-nil (tables_in r (take i ts)))) h

  pub views_all_in : (r : Bounds) (ts : List (Table × F)) (i : ℕ) (vs : List (Shown F)) → length ts ≤ i → AreViewsOf bytes (tables_in r (take i ts)) vs → AreViewsOf bytes (tables_in r ts) vs
  views_all_in r ts i vs past h = subst (λ us. AreViewsOf bytes (tables_in r us) vs) (take_all i ts past) h

  pub has_in : (r : Bounds) (ts : List (Table × F)) (i : ℕ) (t : Table × F) → i < length ts → t ≡ get_or ts i t → meets (bounds_of t.0) r ≡ true → Has (tables_in r ts) t
  has_in r ts i t inside is meet = Has-filter (λ u. meets (bounds_of u.0) r) ts t (subst (Has ts) (sym is) (Has-get_or ts i t inside)) meet

  none_in : (r : Bounds) (ts : List (Table × F)) (i : ℕ) (t : Table × F) → i < length ts → t ≡ get_or ts i t → meets (bounds_of t.0) r ≡ true → tables_in r ts ≡ [] → ⊥
  none_in r ts i t inside is meet none = subst (λ us. Has us t) none (has_in r ts i t inside is meet)

  -- where there is no table of the range, this one isn't opened
  pub alone_in : {D : Type 0} (a b : D) (r : Bounds) (ts : List (Table × F)) (i : ℕ) (t : Table × F) → i < length ts → t ≡ get_or ts i t → meets (bounds_of t.0) r ≡ true → tables_in r ts ≡ [] → a ≡ b
  alone_in a b r ts i t inside is meet none = absurd (none_in r ts i t inside is meet none)

  pub calm_in : {X : Type 0} (res : Result X TableNo) (r : Bounds) (ts : List (Table × F)) (i : ℕ) (t : Table × F) → i < length ts → t ≡ get_or ts i t → meets (bounds_of t.0) r ≡ true → tables_in r ts ≡ [] → IfErr res (λ no. no ≡ Memory)
  calm_in res r ts i t inside is meet none = absurd (none_in r ts i t inside is meet none)

  pub damage_in : (r : Bounds) (ts : List (Table × F)) (i : ℕ) (t : Table × F) (no : TableNo) → i < length ts → t ≡ get_or ts i t → meets (bounds_of t.0) r ≡ true → NamesDamage bytes (t ∷ []) no → NamesDamage bytes (tables_in r ts) no
  damage_in r ts i t (Damaged b at) inside is meet h = elim h.1 [
    | inl e ↦ (h.0, subst (Has (tables_in r ts)) e (has_in r ts i t inside is meet), h.2)
    | inr never ↦ absurd never
  ]
  damage_in r ts i t ReadFault inside is meet h = tt
  damage_in r ts i t Memory inside is meet h = tt

  -- a table says nothing outside its bounds
  silent_outside : (o : Option (List ℕ)) (t : Table) (limit : ℕ) (k : List ℕ) → holds (bounds_of t) k ≡ false → newest (content_told o t) limit k ≡ None
  silent_outside None t limit k outside = refl
  silent_outside (Some file) t limit k outside =
      bind-silent (opened_at file) (λ o. points_at o.index file >>= λ rows. Ok (view (content_in rows o.spans) (bounds_of t) t.synthetic)) limit k
      (λ o. bind-silent (points_at o.index file) (λ rows. Ok (view (content_in rows o.spans) (bounds_of t) t.synthetic)) limit k
      (λ rows. newest-view (content_in rows o.spans) (bounds_of t) t.synthetic limit k
      ∙ ap (λ b. cond b (newest (renumbered t.synthetic (content_in rows o.spans)) limit k) None) outside))

  pub others_say_nothing : (ts : List (Table × F)) (r : Bounds) (limit : ℕ) (k : List ℕ) → holds r k ≡ true → newest (content_of_tables bytes (tables_in r ts)) limit k ≡ newest (content_of_tables bytes ts) limit k
  others_say_nothing [] r limit k at_k = refl
  others_say_nothing (t ∷ ts) r limit k at_k =
      let own = content_told (bytes t.1) t.0 in
      let rest = others_say_nothing ts r limit k at_k in
      let whole = newest-append own (content_of_tables bytes ts) limit k in
      elim (cases_Bool (meets (bounds_of t.0) r)) [
        | inl meet ↦
            ap (λ b. newest (content_of_tables bytes (cond b (t ∷ tables_in r ts) (tables_in r ts))) limit k) meet
            ∙ newest-append own (content_of_tables bytes (tables_in r ts)) limit k ∙ ap (newer (newest own limit k)) rest ∙ sym whole
        | inr apart ↦
            ap (λ b. newest (content_of_tables bytes (cond b (t ∷ tables_in r ts) (tables_in r ts))) limit k) apart
            ∙ rest ∙ ap (λ o. newer o (newest (content_of_tables bytes ts) limit k)) (sym (silent_outside (bytes t.1) t.0 limit k (outside_apart (bounds_of t.0) r k at_k apart))) ∙ sym whole
      ]
