-- Views are read one after the other, up to the first that has a defect.
use Rattle.std.proofs.Common.{◌≡◌, ℕ, zero, suc, ◌+◌, ◌<◌, ◌≤◌, true, List, [], ◌∷◌, ◌++◌, length, get_or, take, drop, Option, Some, None, IfSome, Result, Ok, Err, IsOk, IsErr, IsErrOf, IsErrAnd, IfErr, inl, inr, slice_set, refl, sym, ap, ◌∙◌, subst, arith}
use Rattle.std.proofs.lemmas.Bool.{false≢true}
use Rattle.std.proofs.lemmas.List.{take_more_set, take_all, drop_all, append-nil, drop-set-lt, drop-drop, get_or-drop}
use Rattle.std.specs.List.{AllByRecursion}
use Rattle.xdb_key.specs.Entries.{Point}
use Rattle.xdb_table_r.specs.Cursors.{Walk}
use Rattle.xdb_table_r.specs.Views.{Shown, view_at}
use Rattle.xdb_table_r.specs.Opening.{IsNo}
use Rattle.xdb_table_r.specs.declared.error.TableNo.{TableNo}
use Rattle.xdb_table_r.specs.declared.error.TableNo.TheVariants.{ReadFault, Damaged, Memory}
use Rattle.xdb_merge.specs.Steps.{ArePaired, AreRead, IsLater, IsLoaded, IsFirstDefect, NamesDefect, views}

-- ---- lists

paired_set : {A : Type 0} (R : A → A → Type 0) (xs ys : List A) (i : ℕ) (y d : A) → ArePaired R xs ys → i < length ys → R (get_or xs i d) y → ArePaired R xs (slice_set ys i y)
paired_set R [] [] i y d p inside h = absurd (omega arith)
paired_set R [] (z ∷ ys) i y d p inside h = absurd p
paired_set R (x ∷ xs) [] i y d p inside h = absurd p
paired_set R (x ∷ xs) (z ∷ ys) zero y d p inside h = (h, p.1)
paired_set R (x ∷ xs) (z ∷ ys) (suc i) y d p inside h = (p.0, paired_set R xs ys i y d p.1 (omega arith) h)

paired_length : {A : Type 0} (R : A → A → Type 0) (xs ys : List A) → ArePaired R xs ys → length xs ≡ length ys
paired_length R [] [] p = refl
paired_length R [] (z ∷ ys) p = absurd p
paired_length R (x ∷ xs) [] p = absurd p
paired_length R (x ∷ xs) (z ∷ ys) p = ap suc (paired_length R xs ys p.1)

all_more : {A : Type 0} (P : A → Type 0) (xs : List A) (y : A) → AllByRecursion P xs → P y → AllByRecursion P (xs ++ y ∷ [])
all_more P [] y h p = (p, tt)
all_more P (x ∷ xs) y h p = (h.0, all_more P xs y h.1 p)

all_at : {A : Type 0} (P : A → Type 0) (xs : List A) (i : ℕ) (d : A) → AllByRecursion P xs → i < length xs → P (get_or xs i d)
all_at P [] i d h inside = absurd (omega arith)
all_at P (x ∷ xs) zero d h inside = h.0
all_at P (x ∷ xs) (suc i) d h inside = all_at P xs i d h.1 (omega arith)

at_drop : {A : Type 0} (xs : List A) (i : ℕ) (d : A) → get_or (drop i xs) 0 d ≡ get_or xs i d
at_drop xs i d =
    let e : i + 0 ≡ i = omega arith in
    get_or-drop i xs 0 d ∙ ap (λ n. get_or xs n d) e

drop_next : {A : Type 0} (xs : List A) (i : ℕ) → drop (i + 1) xs ≡ drop 1 (drop i xs)
drop_next xs i = sym (drop-drop 1 i xs)

some_points : (known : Option (List ℕ)) (ps : List Point) (read : List ℕ → Result (List Point) ℕ) → IfSome known (λ b. read b ≡ Ok ps) → IfSome known (λ b. (qs : List Point) × (read b ≡ Ok qs))
some_points None ps read h = tt
some_points (Some b) ps read h = (ps, h)

-- what succeeds answers no fault
pub no_fault : {X : Type 0} {x : X} {e : TableNo} → IsErrOf {T = X} (Ok x) e → ⊥
no_fault h = absurd (cc)

-- what didn't fail has no error to pass on
pub never_err : {X Y : Type 0} (r : Result X TableNo) (e : TableNo) (passed : Result Y TableNo) → r ≡ Err e → IsOk r → IsOk passed
never_err (Ok x) e passed is ok = absurd (cc)
never_err (Err y) e passed is ok = absurd (false≢true ok)

-- what a loop over a vector's slice wrote stands in the vector
pub written : {A : Type 0} (n : ℕ) (now old : List A) → n ≡ length old → length now ≡ length old → take n (now ++ drop (length now) old) ≡ now
written n now old len same =
    let all : drop (length now) old ≡ [] = drop_all (length now) old (omega arith) in
    ap (λ xs. take n (now ++ xs)) all ∙ ap (take n) (append-nil now) ∙ take_all n now (omega arith)

module _ {F : Type 0} where
  later_refl : (bytes : F → Option (List ℕ)) (w : Walk F) → IsLater bytes w w
  later_refl bytes w = record { view = refl; place = refl; read = λ h. h; kept = λ h. refl; points = λ unread h. absurd (false≢true (sym unread ∙ h)) }

  paired_refl : (bytes : F → Option (List ℕ)) (ws : List (Walk F)) → ArePaired (IsLater bytes) ws ws
  paired_refl bytes [] = tt
  paired_refl bytes (w ∷ ws) = (later_refl bytes w, paired_refl bytes ws)

  -- the first ones are loaded, and the rest is as it was
  pub record LoadsSoFar (bytes : F → Option (List ℕ)) (old now : List (Walk F)) (i : ℕ) : Type 0 where
    pub later : ArePaired (IsLater bytes) old now
    pub done : AllByRecursion (IsLoaded bytes) (take i now)
    pub rest : drop i now ≡ drop i old

  loads_none : (bytes : F → Option (List ℕ)) (ws : List (Walk F)) → LoadsSoFar bytes ws ws 0
  loads_none bytes ws = record { later = paired_refl bytes ws; done = tt; rest = refl }

  pub loads_start : (bytes : F → Option (List ℕ)) (ws now : List (Walk F)) → now ≡ ws → LoadsSoFar bytes ws now 0
  loads_start bytes ws now is = subst (λ xs. LoadsSoFar bytes ws xs 0) (sym is) (loads_none bytes ws)

  same_at : (bytes : F → Option (List ℕ)) (old now : List (Walk F)) (i : ℕ) (d : Walk F) → LoadsSoFar bytes old now i → get_or now i d ≡ get_or old i d
  same_at bytes old now i d so_far = sym (at_drop now i d) ∙ ap (λ ws. get_or ws 0 d) so_far.rest ∙ at_drop old i d

  pub loads_later : (bytes : F → Option (List ℕ)) (old now : List (Walk F)) (i : ℕ) (d new : Walk F) → LoadsSoFar bytes old now i → i < length now → IsLater bytes (get_or now i d) new → ArePaired (IsLater bytes) old (slice_set now i new)
  loads_later bytes old now i d new so_far inside later =
      paired_set (IsLater bytes) old now i new d so_far.later inside (subst (λ w. IsLater bytes w new) (same_at bytes old now i d so_far) later)

  pub loads_more : (bytes : F → Option (List ℕ)) (old now : List (Walk F)) (i : ℕ) (d new : Walk F) → LoadsSoFar bytes old now i → i < length now → IsLater bytes (get_or now i d) new → IsLoaded bytes new → LoadsSoFar bytes old (slice_set now i new) (i + 1)
  loads_more bytes old now i d new so_far inside later loaded = record {
    later = loads_later bytes old now i d new so_far inside later;
    done = subst (AllByRecursion (IsLoaded bytes)) (sym (take_more_set now i new inside)) (all_more (IsLoaded bytes) (take i now) new so_far.done loaded);
    rest = drop-set-lt (i + 1) now i new (omega arith) ∙ drop_next now i ∙ ap (drop 1) so_far.rest ∙ sym (drop_next old i);
  }

  -- where all was read, this one was
  pub read_at : (bytes : F → Option (List ℕ)) (old now : List (Walk F)) (i : ℕ) (d : Walk F) → LoadsSoFar bytes old now i → i < length now → AreRead old → (get_or now i d).read ≡ true
  read_at bytes old now i d so_far inside read =
      let within : i < length old = omega (arith, paired_length (IsLater bytes) old now so_far.later) in
      ap (λ w. w.read) (same_at bytes old now i d so_far) ∙ all_at (λ w. w.read ≡ true) old i d read within

  pub loads_length : (bytes : F → Option (List ℕ)) (old now : List (Walk F)) (i : ℕ) → LoadsSoFar bytes old now i → length now ≡ length old
  loads_length bytes old now i so_far = sym (paired_length (IsLater bytes) old now so_far.later)

  pub read_one : (ws : List (Walk F)) (i : ℕ) (w : Walk F) → AreRead ws → i < length ws → w ≡ get_or ws i w → w.read ≡ true
  read_one ws i w read inside is = ap (λ x. x.read) is ∙ all_at (λ x. x.read ≡ true) ws i w read inside

  pub loads_all : (bytes : F → Option (List ℕ)) (old now : List (Walk F)) (i : ℕ) → LoadsSoFar bytes old now i → length now ≤ i → AllByRecursion (IsLoaded bytes) now
  loads_all bytes old now i so_far past = subst (AllByRecursion (IsLoaded bytes)) (take_all i now past) so_far.done

  pub loaded_read : (bytes : F → Option (List ℕ)) (ws : List (Walk F)) → AllByRecursion (IsLoaded bytes) ws → AreRead ws
  loaded_read bytes [] h = tt
  loaded_read bytes (w ∷ ws) h = (h.0.read, loaded_read bytes ws h.1)

  -- ---- a defect

  pub one_defect : (bytes : F → Option (List ℕ)) (v : Shown F) (e : TableNo) → IfSome (bytes v.table.file) (λ b. IsNo v.table.backing e (view_at v b)) → NamesDefect bytes (v ∷ []) e
  one_defect bytes v (Damaged b at) h = inl h
  one_defect bytes v ReadFault h = tt
  one_defect bytes v Memory h = tt

  reads_well : (bytes : F → Option (List ℕ)) (old now : Walk F) → IsLater bytes old now → IsLoaded bytes now → IfSome (bytes old.view.table.file) (λ b. (ps : List Point) × (view_at old.view b ≡ Ok ps))
  reads_well bytes old now later loaded =
      subst (λ (v : Shown F). IfSome (bytes v.table.file) (λ b. (ps : List Point) × (view_at v b ≡ Ok ps))) later.view
      (some_points (bytes now.view.table.file) now.points (view_at now.view) loaded.points.told)

  defect_at : (bytes : F → Option (List ℕ)) (backing at : ℕ) (old now : List (Walk F)) (i : ℕ) (d : Walk F) → ArePaired (IsLater bytes) old now → AllByRecursion (IsLoaded bytes) (take i now) → i < length old → IsFirstDefect bytes backing at ((get_or old i d).view ∷ []) → IsFirstDefect bytes backing at (views old)
  defect_at bytes backing at [] now i d p done inside h = absurd (omega arith)
  defect_at bytes backing at (w ∷ ws) [] i d p done inside h = absurd p
  defect_at bytes backing at (w ∷ ws) (n ∷ ns) zero d p done inside h = elim h [
    | inl g ↦ inl g
    | inr g ↦ absurd g.1
  ]
  defect_at bytes backing at (w ∷ ws) (n ∷ ns) (suc i) d p done inside h =
      inr (reads_well bytes w n p.0 done.0, defect_at bytes backing at ws ns i d p.1 done.1 (omega arith) h)

  pub loads_defect : (bytes : F → Option (List ℕ)) (old now : List (Walk F)) (i : ℕ) (d : Walk F) (e : TableNo) → LoadsSoFar bytes old now i → i < length now → NamesDefect bytes ((get_or now i d).view ∷ []) e → NamesDefect bytes (views old) e
  loads_defect bytes old now i d (Damaged b at) so_far inside h =
      defect_at bytes b at old now i d so_far.later so_far.done (omega (arith, paired_length (IsLater bytes) old now so_far.later))
      (subst (λ (w : Walk F). IsFirstDefect bytes b at (w.view ∷ [])) (same_at bytes old now i d so_far) h)
  loads_defect bytes old now i d ReadFault so_far inside h = tt
  loads_defect bytes old now i d Memory so_far inside h = tt

  -- an error that `?` passes on
  pub passed_defect : {X : Type 0} (bytes : F → Option (List ℕ)) (vs : List (Shown F)) (r : Result X TableNo) (e : TableNo) → IsErr r × IsErrAnd r (λ y. y ≡ e) → NamesDefect bytes vs e → IfErr r (NamesDefect bytes vs)
  passed_defect bytes vs (Ok x) e f h = tt
  passed_defect bytes vs (Err y) e f h = subst (NamesDefect bytes vs) (sym f.1) h
