-- Files and their running counts: read, raised, lowered and taken out; and what holds of all the lists stays.
use Rattle.std.proofs.Common.{◌≡◌, ℕ, [], ◌∷◌, ◌+◌, ◌-◌, ◌<◌, ◌≤◌, Bool, true, false, not, ◌&&◌, ◌||◌, cond, eqb, List, ◌++◌, map, length, get_or, set, Option, Some, None, Result, Ok, Err, refl, sym, ap, ap₂, subst, ◌∙◌, inl, inr, ◌⊎◌, arith}
use Rattle.std.specs.List.{insert, remove}
use Rattle.std.specs.Result.{is_err}
use Rattle.std.specs.Option.{option_map, unwrap_or, is_some, IsSome}
use Rattle.std.proofs.lemmas.Bool.{cases_eq, eq-eqb, ne_eqb, cond-true, cond-false, and_right, or_left, or_right, false≢true}
use Rattle.std.proofs.lemmas.List.{get_or_default}
use Rattle.std.proofs.lemmas.List.Quantifiers.{all_pairs_remove}
use Rattle.xdb_vset.specs.declared.files.Backing.{Backing}
use Rattle.xdb_lists.specs.Numbers.{EndsAt, EndsRising, is_among, NumbersRise}
use Rattle.xdb_lists.specs.Keyed.{IsRising, at_key}
use Rattle.xdb_vset.specs.Backings.{count_in, file_in, file_from, FilesAre}
use Rattle.xdb_vset.specs.FileLists.{AreFiles, AreLow}
use Rattle.xdb_lists.proofs.KeyLaws.{key_found, key_missing, key_set, key_insert, key_remove, rising_set}
use Rattle.xdb_lists.proofs.NumberLaws.{left_over, rest_rises, eqb_turned}

module _ {F : Type 0} (bs : List (Backing F)) (num : ℕ) where
  pub count_found : (at : ℕ) (d : Backing F) → IsRising (λ b. b.num) bs → at < length bs → ((d : Backing F) → (get_or bs at d).num ≡ num) → (get_or bs at d).count ≡ count_in num bs
  count_found at d rising l here = sym (ap (λ o. unwrap_or (option_map (λ b. b.count) o) 0) (key_found (λ b. b.num) num bs at d rising l here))

  pub count_missing : (at : ℕ) → EndsAt (λ b. b.num) (λ b. b.num < num) (λ b. num < b.num) bs num (Err at) → 0 ≡ count_in num bs
  count_missing at h = sym (ap (λ o. unwrap_or (option_map (λ b. b.count) o) 0) (key_missing (λ b. b.num) num bs at h))

  pub file_found : (at : ℕ) (d : Backing F) → IsRising (λ b. b.num) bs → at < length bs → ((d : Backing F) → (get_or bs at d).num ≡ num) → Some (get_or bs at d).file ≡ file_in num bs
  file_found at d rising l here = sym (ap (option_map (λ b. b.file)) (key_found (λ b. b.num) num bs at d rising l here))

  pub file_missing : (at : ℕ) → EndsAt (λ b. b.num) (λ b. b.num < num) (λ b. num < b.num) bs num (Err at) → None ≡ file_in num bs
  file_missing at h = sym (ap (option_map (λ b. b.file)) (key_missing (λ b. b.num) num bs at h))

-- a choice between one number and the others
pub same_choice : {A : Type 0} (b num : ℕ) (f : ℕ → A) (x : A) → x ≡ f num → cond (eqb b num) x (f b) ≡ f b
same_choice b num f x h = elim (cases_eq b num) [
  | inl e ↦ cond-true (eqb b num) x (f b) (eq-eqb b num e) ∙ h ∙ sym (ap f e)
  | inr ne ↦ cond-false (eqb b num) x (f b) (ne_eqb b num ne)
]

pub one_more : (b num : ℕ) (f : ℕ → ℕ) (c : ℕ) → c ≡ f num → cond (eqb b num) (c + 1) (f b) ≡ f b + cond (eqb b num) 1 0
one_more b num f c h = elim (cases_eq b num) [
  | inl e ↦
      let t = eq-eqb b num e in
      let same : f b ≡ f num = ap f e in
      let left = cond-true (eqb b num) (c + 1) (f b) t in
      let right : cond {A = ℕ} (eqb b num) 1 0 ≡ 1 = cond-true {A = ℕ} (eqb b num) 1 0 t in
      omega arith
  | inr ne ↦
      let t = ne_eqb b num ne in
      let left = cond-false (eqb b num) (c + 1) (f b) t in
      let right : cond {A = ℕ} (eqb b num) 1 0 ≡ 0 = cond-false {A = ℕ} (eqb b num) 1 0 t in
      omega arith
]

pub one_less : (b num : ℕ) (f : ℕ → ℕ) (c : ℕ) → c + 1 ≡ f num → cond (eqb b num) c (f b) + cond (eqb b num) 1 0 ≡ f b
one_less b num f c h = elim (cases_eq b num) [
  | inl e ↦
      let t = eq-eqb b num e in
      let same : f b ≡ f num = ap f e in
      let left = cond-true (eqb b num) c (f b) t in
      let right : cond {A = ℕ} (eqb b num) 1 0 ≡ 1 = cond-true {A = ℕ} (eqb b num) 1 0 t in
      omega arith
  | inr ne ↦
      let t = ne_eqb b num ne in
      let left = cond-false (eqb b num) c (f b) t in
      let right : cond {A = ℕ} (eqb b num) 1 0 ≡ 0 = cond-false {A = ℕ} (eqb b num) 1 0 t in
      omega arith
]

pub ap_cond : {A B : Type 0} (f : A → B) (t : Bool) (x y : A) → f (cond t x y) ≡ cond t (f x) (f y)
ap_cond f true x y = refl
ap_cond f false x y = refl

module _ {F : Type 0} (bs : List (Backing F)) (num : ℕ) (at : ℕ) (rising : IsRising (λ b. b.num) bs) (l : at < length bs) (here : (d : Backing F) → (get_or bs at d).num ≡ num) where
  pub set_count : (y : Backing F) → y.num ≡ num → (b : ℕ) → count_in b (set bs at y) ≡ cond (eqb b num) y.count (count_in b bs)
  set_count y e b = ap (λ o. unwrap_or (option_map (λ b. b.count) o) 0) (key_set (λ b. b.num) num bs at y rising l here e b) ∙ ap_cond (λ (o : Option (Backing F)). unwrap_or (option_map (λ b. b.count) o) 0) (eqb b num) (Some y) (at_key (λ b. b.num) b bs)

  pub set_file : (y : Backing F) → y.num ≡ num → (b : ℕ) → file_in b (set bs at y) ≡ cond (eqb b num) (Some y.file) (file_in b bs)
  set_file y e b = ap (option_map (λ b. b.file)) (key_set (λ b. b.num) num bs at y rising l here e b) ∙ ap_cond (λ (o : Option (Backing F)). option_map (λ b. b.file) o) (eqb b num) (Some y) (at_key (λ b. b.num) b bs)

  pub remove_count : (d : Backing F) (b : ℕ) → count_in b (remove bs at) ≡ cond (eqb b num) 0 (count_in b bs)
  remove_count d b = ap (λ o. unwrap_or (option_map (λ b. b.count) o) 0) (key_remove (λ b. b.num) num bs at d rising l here b) ∙ ap_cond (λ (o : Option (Backing F)). unwrap_or (option_map (λ b. b.count) o) 0) (eqb b num) None (at_key (λ b. b.num) b bs)

  pub remove_file : (d : Backing F) (b : ℕ) → file_in b (remove bs at) ≡ cond (eqb b num) None (file_in b bs)
  remove_file d b = ap (option_map (λ b. b.file)) (key_remove (λ b. b.num) num bs at d rising l here b) ∙ ap_cond (λ (o : Option (Backing F)). option_map (λ b. b.file) o) (eqb b num) None (at_key (λ b. b.num) b bs)

pub never_missing : {F : Type 0} (bs : List (Backing F)) (num at : ℕ) → EndsAt (λ b. b.num) (λ b. b.num < num) (λ b. num < b.num) bs num (Err at) → IsSome (file_in num bs) → ⊥
never_missing bs num at h some = false≢true (ap is_some (file_missing bs num at h) ∙ some)

module _ {F : Type 0} (bs : List (Backing F)) (num : ℕ) (at : ℕ) (h : EndsAt (λ b. b.num) (λ b. b.num < num) (λ b. num < b.num) bs num (Err at)) where
  pub insert_count : (y : Backing F) → y.num ≡ num → (b : ℕ) → count_in b (insert bs at y) ≡ cond (eqb b num) y.count (count_in b bs)
  insert_count y e b = ap (λ o. unwrap_or (option_map (λ b. b.count) o) 0) (key_insert (λ b. b.num) num bs at y h e b) ∙ ap_cond (λ (o : Option (Backing F)). unwrap_or (option_map (λ b. b.count) o) 0) (eqb b num) (Some y) (at_key (λ b. b.num) b bs)

  pub insert_file : (y : Backing F) → y.num ≡ num → (b : ℕ) → file_in b (insert bs at y) ≡ cond (eqb b num) (Some y.file) (file_in b bs)
  insert_file y e b = ap (option_map (λ b. b.file)) (key_insert (λ b. b.num) num bs at y h e b) ∙ ap_cond (λ (o : Option (Backing F)). option_map (λ b. b.file) o) (eqb b num) (Some y) (at_key (λ b. b.num) b bs)

-- ---- what is as it was for each number but one, and for that one too

pub files_stay : {F : Type 0} (files : ℕ → Option F) (old new : List (Backing F)) → ((b : ℕ) → eqb (count_in b new) 0 ≡ eqb (count_in b old) 0) → ((b : ℕ) → file_in b new ≡ file_in b old) → FilesAre files old → FilesAre files new
files_stay files old new same kept h = λ b. kept b ∙ h b ∙ ap (λ t. cond t None (files b)) (sym (same b))

pub zero_alike : (b num : ℕ) (f : ℕ → ℕ) (c : ℕ) → 0 < c → 0 < f num → eqb (cond (eqb b num) c (f b)) 0 ≡ eqb (f b) 0
zero_alike b num f c some above = elim (cases_eq b num) [
  | inl e ↦
      ap (λ n. eqb n 0) (cond-true (eqb b num) c (f b) (eq-eqb b num e)) ∙ ne_eqb c 0 (λ z. omega arith)
      ∙ sym (ne_eqb (f b) 0 (λ z. let same : f b ≡ f num = ap f e in omega arith))
  | inr ne ↦ ap (λ n. eqb n 0) (cond-false (eqb b num) c (f b) (ne_eqb b num ne))
]

-- the one number is gone
pub gone_files : {F : Type 0} (files : ℕ → Option F) (old new : List (Backing F)) (num : ℕ) → ((b : ℕ) → count_in b new ≡ cond (eqb b num) 0 (count_in b old)) → ((b : ℕ) → file_in b new ≡ cond (eqb b num) None (file_in b old)) → FilesAre files old → FilesAre files new
gone_files {F} files old new num counts gone h = λ b. elim (cases_eq b num) [
  | inl e ↦
      gone b ∙ cond-true (eqb b num) None (file_in b old) (eq-eqb b num e)
      ∙ sym (ap (λ t. cond {A = Option F} t None (files b)) (eq-eqb (count_in b new) 0 (counts b ∙ cond-true (eqb b num) 0 (count_in b old) (eq-eqb b num e))))
  | inr ne ↦
      gone b ∙ cond-false (eqb b num) None (file_in b old) (ne_eqb b num ne) ∙ h b
      ∙ ap (λ (n : ℕ). cond {A = Option F} (eqb n 0) None (files b)) (sym (counts b ∙ cond-false (eqb b num) 0 (count_in b old) (ne_eqb b num ne)))
]

-- ---- one less, over plain lists

module _ {F : Type 0} (bs : List (Backing F)) (num : ℕ) (at : ℕ) (rising : IsRising (λ b. b.num) bs) (l : at < length bs) (here : (d : Backing F) → (get_or bs at d).num ≡ num) (x y : Backing F) (read : x ≡ get_or bs at x) (seen : y ≡ get_or bs at y) where
  counted : y.count ≡ count_in num bs
  counted = ap (λ b. b.count) seen ∙ count_found bs num at y rising l here

  pub less_count : (b : ℕ) → 1 ≤ y.count → count_in b (set bs at (record { num = x.num; count = y.count - 1; file = x.file })) + cond (eqb b num) 1 0 ≡ count_in b bs
  less_count b some =
      let c = counted in
      ap (λ n. n + cond (eqb b num) 1 0) (set_count bs num at rising l here (record { num = x.num; count = y.count - 1; file = x.file }) (ap (λ b. b.num) read ∙ here x) b)
      ∙ one_less b num (λ n. count_in n bs) (y.count - 1) (omega arith)

  zeros : 0 < y.count - 1 → (b : ℕ) → eqb (count_in b (set bs at (record { num = x.num; count = y.count - 1; file = x.file }))) 0 ≡ eqb (count_in b bs) 0
  zeros many b =
      let c = counted in
      ap (λ n. eqb n 0) (set_count bs num at rising l here (record { num = x.num; count = y.count - 1; file = x.file }) (ap (λ b. b.num) read ∙ here x) b)
      ∙ zero_alike b num (λ n. count_in n bs) (y.count - 1) many (omega arith)

  pub less_files : (files : ℕ → Option F) → 0 < y.count - 1 → FilesAre files bs → FilesAre files (set bs at (record { num = x.num; count = y.count - 1; file = x.file }))
  less_files files many h = files_stay files bs (set bs at (record { num = x.num; count = y.count - 1; file = x.file })) (zeros many)
      (λ b. set_file bs num at rising l here (record { num = x.num; count = y.count - 1; file = x.file }) (ap (λ b. b.num) read ∙ here x) b
      ∙ same_choice b num (λ n. file_in n bs) (Some x.file) (ap (λ b. Some b.file) read ∙ file_found bs num at x rising l here))
      h

  pub last_count : (new : List (Backing F)) (b : ℕ) → new ≡ remove bs at → y.count ≡ 1 → count_in b new + cond (eqb b num) 1 0 ≡ count_in b bs
  last_count new b same one =
      let c = counted in
      ap (λ xs. count_in b xs + cond (eqb b num) 1 0) same
      ∙ ap (λ n. n + cond (eqb b num) 1 0) (remove_count bs num at rising l here y b)
      ∙ one_less b num (λ n. count_in n bs) 0 (omega arith)

  pub last_files : (files : ℕ → Option F) (new : List (Backing F)) → new ≡ remove bs at → FilesAre files bs → FilesAre files new
  last_files files new same h = subst (FilesAre files) (sym same) (gone_files files bs (remove bs at) num (remove_count bs num at rising l here y) (remove_file bs num at rising l here y) h)

  pub last_rising : (new : List (Backing F)) → new ≡ remove bs at → IsRising (λ b. b.num) new
  last_rising new same = subst (IsRising (λ b. b.num)) (sym same) (all_pairs_remove (λ a b. a.num < b.num) bs at l rising)

-- ---- a file is settled: it goes where nothing names it

module _ {F : Type 0} (bs : List (Backing F)) (num b : ℕ) where
  -- a choice that falls on what is there
  pub unsettled_file : (eqb b num ≡ true → (eqb (count_in b bs) 0 ≡ false) ⊎ (file_in b bs ≡ None)) → file_in b bs ≡ cond (eqb b num && eqb (count_in b bs) 0) None (file_in b bs)
  unsettled_file h = choose (eqb b num) (eqb (count_in b bs) 0) refl refl
    where
      choose : (t z : Bool) → eqb b num ≡ t → eqb (count_in b bs) 0 ≡ z → file_in b bs ≡ cond (eqb b num && eqb (count_in b bs) 0) None (file_in b bs)
      choose true true e f = elim (h e) [
        | inl g ↦ absurd (false≢true (sym g ∙ f))
        | inr g ↦ g ∙ sym (ap₂ (λ t z. cond (t && z) None (file_in b bs)) e f)
      ]
      choose true false e f = sym (ap₂ (λ t z. cond (t && z) None (file_in b bs)) e f)
      choose false z e f = sym (ap (λ t. cond (t && eqb (count_in b bs) 0) None (file_in b bs)) e)

  pub settled_file : (eqb b num ≡ true → eqb (count_in b bs) 0 ≡ true) → cond (eqb b num) None (file_in b bs) ≡ cond (eqb b num && eqb (count_in b bs) 0) None (file_in b bs)
  settled_file h = choose (eqb b num) refl
    where
      choose : (t : Bool) → eqb b num ≡ t → cond (eqb b num) None (file_in b bs) ≡ cond (eqb b num && eqb (count_in b bs) 0) None (file_in b bs)
      choose true e = ap (λ t. cond t None (file_in b bs)) e ∙ sym (ap₂ (λ t z. cond (t && z) None (file_in b bs)) e (h e))
      choose false e = ap (λ t. cond t None (file_in b bs)) e ∙ sym (ap (λ t. cond (t && eqb (count_in b bs) 0) None (file_in b bs)) e)

-- one number more is settled
pub more_files : {F : Type 0} (T t z : Bool) (o : Option F) → cond (t && z) None (cond (T && z) None o) ≡ cond ((T || t) && z) None o
more_files true true true o = refl
more_files true true false o = refl
more_files true false true o = refl
more_files true false false o = refl
more_files false t z o = refl

-- one file more is brought
pub file_from_push : {F : Type 0} (fs : List (ℕ × F)) (f : ℕ × F) (b : ℕ) (o : Option F) → file_from (fs ++ f ∷ []) b o ≡ cond (eqb b f.0) (Some f.1) (file_from fs b o)
file_from_push [] f b o = refl
file_from_push (x ∷ fs) f b o = file_from_push fs f b (cond (eqb b x.0) (Some x.1) o)

-- the numbers of the files that were brought
pub names_pushed : {F : Type 0} (fs : List (ℕ × F)) (f : ℕ × F) (n : ℕ) (k : Bool) → (eqb n f.0 || (is_among n (map (λ f. f.0) fs) || k)) ≡ (is_among n (map (λ f. f.0) (fs ++ f ∷ [])) || k)
names_pushed [] f n k = ap (λ t. t || k) (eqb_turned n f.0 ∙ sym (or_none (eqb f.0 n)))
  where
    or_none : (t : Bool) → (t || false) ≡ t
    or_none true = refl
    or_none false = refl
names_pushed (x ∷ fs) f n k = by (eqb x.0 n) (names_pushed fs f n k)
  where
    by : (t : Bool) → (eqb n f.0 || (is_among n (map (λ f. f.0) fs) || k)) ≡ (is_among n (map (λ f. f.0) (fs ++ f ∷ [])) || k) → (eqb n f.0 || ((t || is_among n (map (λ f. f.0) fs)) || k)) ≡ ((t || is_among n (map (λ f. f.0) (fs ++ f ∷ []))) || k)
    by true h = or_right (eqb n f.0) true refl
    by false h = h

-- ---- what holds of the lists stays

-- whether a number that is known from now on dies
died_by : (test : ℕ → Bool) (num n : ℕ) (t d : Bool) → test num ≡ t → ((eqb n num && t) || d) ≡ ((eqb n num && test n) || d)
died_by test num n t d h = elim (cases_eq n num) [
  | inl e ↦ ap (λ z. (eqb n num && z) || d) (sym h ∙ ap test (sym e))
  | inr ne ↦
      let off = ne_eqb n num ne in
      ap (λ a. (a && t) || d) off ∙ sym (ap (λ a. (a && test n) || d) off)
]

pub dies : (test : ℕ → Bool) (num n : ℕ) (d : Bool) → test num ≡ true → (eqb n num || d) ≡ ((eqb n num && test n) || d)
dies test num n d h = ap (λ a. a || d) (sym (and_true (eqb n num))) ∙ died_by test num n true d h
  where
    and_true : (a : Bool) → (a && true) ≡ a
    and_true true = refl
    and_true false = refl

pub lives : (test : ℕ → Bool) (num n : ℕ) (d : Bool) → test num ≡ false → d ≡ ((eqb n num && test n) || d)
lives test num n d h = sym (ap (λ a. a || d) (and_right (eqb n num) false refl)) ∙ died_by test num n false d h

module _ {F : Type 0} (named : List (Backing F)) (known dead taken : List ℕ) (are : AreFiles named known dead taken) where
  -- one number more is known
  pub files_known : (known' dead' : List ℕ) (num : ℕ) → NumbersRise known' → NumbersRise dead' → ((n : ℕ) → is_among n known' ≡ (eqb n num || is_among n known))
      → ((n : ℕ) → is_among n dead' ≡ ((eqb n num && (not (is_some (file_in n named)) && not (is_among n taken))) || is_among n dead)) → AreFiles named known' dead' taken
  files_known known' dead' num rises falls more died = record {
    named_rise = are.named_rise;
    known_rise = rises;
    dead_rise = falls;
    taken_rise = are.taken_rise;
    named_known = λ b some. more b ∙ or_right (eqb b num) (is_among b known) (are.named_known b some);
    dead_wait = λ n.
        died n ∙ ap (λ t. (eqb n num && (not (is_some (file_in n named)) && not (is_among n taken))) || t) (are.dead_wait n)
        ∙ joined (eqb n num) (is_among n known) (not (is_some (file_in n named)) && not (is_among n taken))
        ∙ ap (λ t. t && (not (is_some (file_in n named)) && not (is_among n taken))) (sym (more n));
  }
    where
      joined : (a k z : Bool) → ((a && z) || (k && z)) ≡ ((a || k) && z)
      joined true true true = refl
      joined true true false = refl
      joined true false true = refl
      joined true false false = refl
      joined false k z = refl

  -- the least dead number is taken
  pub files_taken : (num : ℕ) (rest taken' : List ℕ) → dead ≡ num ∷ rest → NumbersRise taken' → ((n : ℕ) → is_among n taken' ≡ (eqb n num || is_among n taken)) → AreFiles named known rest taken'
  files_taken num rest taken' e rises more =
      let rising : NumbersRise (num ∷ rest) = subst NumbersRise e are.dead_rise in
      record {
        named_rise = are.named_rise;
        known_rise = are.known_rise;
        dead_rise = rest_rises num rest rising;
        taken_rise = rises;
        named_known = are.named_known;
        dead_wait = λ n.
            left_over num rest n rising ∙ ap (λ ns. not (eqb n num) && is_among n ns) (sym e) ∙ ap (λ t. not (eqb n num) && t) (are.dead_wait n)
            ∙ moved (eqb n num) (is_among n known) (not (is_some (file_in n named))) (is_among n taken)
            ∙ ap (λ t. is_among n known && (not (is_some (file_in n named)) && not t)) (sym (more n));
      }
    where
      moved : (a k z t : Bool) → (not a && (k && (z && not t))) ≡ (k && (z && not (a || t)))
      moved true true true t = refl
      moved true true false t = refl
      moved true false z t = refl
      moved false k z t = refl

  -- one number more is known, and has a file
  pub files_added : (named' : List (Backing F)) (known' dead' : List ℕ) (num : ℕ) (f : F) → IsRising (λ b. b.num) named' → NumbersRise known' → NumbersRise dead' → ((n : ℕ) → is_among n known' ≡ (eqb n num || is_among n known))
      → ((n : ℕ) → is_among n dead' ≡ (not (eqb n num) && is_among n dead)) → ((b : ℕ) → file_in b named' ≡ cond (eqb b num) (Some f) (file_in b named)) → AreFiles named' known' dead' taken
  files_added named' known' dead' num f rises grows falls more fewer file = record {
    named_rise = rises;
    known_rise = grows;
    dead_rise = falls;
    taken_rise = are.taken_rise;
    named_known = λ b some. elim (cases_eq b num) [
      | inl e ↦ more b ∙ or_left (eqb b num) (is_among b known) (eq-eqb b num e)
      | inr ne ↦ more b ∙ or_right (eqb b num) (is_among b known) (are.named_known b (sym (ap is_some (file b ∙ cond-false (eqb b num) (Some f) (file_in b named) (ne_eqb b num ne))) ∙ some))
    ];
    dead_wait = λ b. elim (cases_eq b num) [
      | inl e ↦
          let t = eq-eqb b num e in
          let there : is_some (file_in b named') ≡ true = ap is_some (file b ∙ cond-true (eqb b num) (Some f) (file_in b named) t) in
          fewer b ∙ ap (λ a. not a && is_among b dead) t ∙ sym (ap (λ a. is_among b known' && (not a && not (is_among b taken))) there ∙ and_right (is_among b known') false refl)
      | inr ne ↦
          let t = ne_eqb b num ne in
          fewer b ∙ ap (λ a. not a && is_among b dead) t ∙ are.dead_wait b
          ∙ ap₂ (λ k o. k && (not (is_some o) && not (is_among b taken))) (sym (more b ∙ ap (λ a. a || is_among b known) t)) (sym (file b ∙ cond-false (eqb b num) (Some f) (file_in b named) t))
    ];
  }

  -- the same files are there
  pub files_same : (named' : List (Backing F)) → IsRising (λ b. b.num) named' → ((b : ℕ) → file_in b named' ≡ file_in b named) → AreFiles named' known dead taken
  files_same named' rises file = record {
    named_rise = rises;
    known_rise = are.known_rise;
    dead_rise = are.dead_rise;
    taken_rise = are.taken_rise;
    named_known = λ b some. are.named_known b (sym (ap is_some (file b)) ∙ some);
    dead_wait = λ b. are.dead_wait b ∙ ap (λ (o : Option F). is_among b known && (not (is_some o) && not (is_among b taken))) (sym (file b));
  }

  -- the file at a place is gone
  pub files_without : (at : ℕ) (named' : List (Backing F)) (dead' : List ℕ) (x : Backing F) → at < length named → named' ≡ remove named at → x ≡ get_or named at x → NumbersRise dead'
      → ((b : ℕ) → is_among b dead' ≡ (is_among b dead || (eqb b x.num && not (is_among b taken)))) → AreFiles named' known dead' taken
  files_without at named' dead' x l same read falls died =
      let here : (d : Backing F) → (get_or named at d).num ≡ x.num = λ d. ap (λ (y : Backing F). y.num) (get_or_default named at d x l) ∙ sym (ap (λ (y : Backing F). y.num) read) in
      let file : (b : ℕ) → file_in b named' ≡ cond (eqb b x.num) None (file_in b named) = λ b. ap (file_in b) same ∙ remove_file named x.num at are.named_rise l here x b in
      let there : (b : ℕ) → b ≡ x.num → is_some (file_in b named) ≡ true = λ b e. ap (λ (n : ℕ). is_some (file_in n named)) e ∙ sym (ap is_some (file_found named x.num at x are.named_rise l here)) in
      record {
        named_rise = subst (IsRising (λ b. b.num)) (sym same) (all_pairs_remove (λ a b. a.num < b.num) named at l are.named_rise);
        known_rise = are.known_rise;
        dead_rise = falls;
        taken_rise = are.taken_rise;
        named_known = λ b some. elim (cases_eq b x.num) [
          | inl e ↦ are.named_known b (there b e)
          | inr ne ↦ are.named_known b (sym (ap is_some (file b ∙ cond-false (eqb b x.num) None (file_in b named) (ne_eqb b x.num ne))) ∙ some)
        ];
        dead_wait = λ b. elim (cases_eq b x.num) [
          | inl e ↦
              let t = eq-eqb b x.num e in
              let k = are.named_known b (there b e) in
              let off : is_among b dead ≡ false = are.dead_wait b ∙ ap₂ (λ k s. k && (not s && not (is_among b taken))) k (there b e) in
              died b ∙ ap₂ (λ d s. d || (s && not (is_among b taken))) off t
              ∙ sym (ap₂ (λ k (o : Option F). k && (not (is_some o) && not (is_among b taken))) k (file b ∙ cond-true (eqb b x.num) None (file_in b named) t))
          | inr ne ↦
              let t = ne_eqb b x.num ne in
              died b ∙ ap (λ s. is_among b dead || (s && not (is_among b taken))) t ∙ or_false (is_among b dead) ∙ are.dead_wait b
              ∙ ap (λ (o : Option F). is_among b known && (not (is_some o) && not (is_among b taken))) (sym (file b ∙ cond-false (eqb b x.num) None (file_in b named) t))
        ];
      }
    where
      or_false : (b : Bool) → (b || false) ≡ b
      or_false true = refl
      or_false false = refl

-- a number that was taken doesn't die again
pub taken_stays : (num b : ℕ) (taken : List ℕ) (d : Bool) → is_among num taken ≡ true → d ≡ (d || (eqb b num && not (is_among b taken)))
taken_stays num b taken d t = elim (cases_eq b num) [
  | inl e ↦ sym (ap (λ s. d || (eqb b num && not s)) (ap (λ n. is_among n taken) e ∙ t) ∙ ap (λ s. d || s) (and_right (eqb b num) false refl) ∙ or_false d)
  | inr ne ↦ sym (ap (λ s. d || (s && not (is_among b taken))) (ne_eqb b num ne) ∙ or_false d)
]
  where
    or_false : (b : Bool) → (b || false) ≡ b
    or_false true = refl
    or_false false = refl

pub dies_too : (num b : ℕ) (taken : List ℕ) (d : Bool) → is_among num taken ≡ false → (eqb b num || d) ≡ (d || (eqb b num && not (is_among b taken)))
dies_too num b taken d t = elim (cases_eq b num) [
  | inl e ↦
      let on = eq-eqb b num e in
      ap (λ s. s || d) on ∙ sym (ap₂ (λ s n. d || (s && not n)) on (ap (λ n. is_among n taken) e ∙ t) ∙ or_right d true refl)
  | inr ne ↦ let off = ne_eqb b num ne in ap (λ s. s || d) off ∙ sym (ap (λ s. d || (s && not (is_among b taken))) off ∙ or_false d)
]
  where
    or_false : (b : Bool) → (b || false) ≡ b
    or_false true = refl
    or_false false = refl

-- ---- a search tells whether there is a file

pub unnamed_tells : {F : Type 0} (bs : List (Backing F)) (num : ℕ) (r : Result ℕ ℕ) → IsRising (λ b. b.num) bs → EndsRising (λ b. b.num) bs num r → is_err r ≡ not (is_some (file_in num bs))
unnamed_tells [] num (Ok at) rising h = absurd (omega (arith, h.0))
unnamed_tells (x ∷ bs) num (Ok at) rising h = ap (λ o. not (is_some o)) (file_found (x ∷ bs) num at x rising h.0 h.1)
unnamed_tells bs num (Err at) rising h = ap (λ o. not (is_some o)) (file_missing bs num at h)

-- ---- one count changes

one_or_none : (t : Bool) → cond {A = ℕ} t 1 0 ≤ 1
one_or_none true = omega arith
one_or_none false = omega arith

module _ {F : Type 0} (bs : List (Backing F)) (num : ℕ) (at : ℕ) (rising : IsRising (λ b. b.num) bs) (l : at < length bs) (here : (d : Backing F) → (get_or bs at d).num ≡ num) (x : Backing F) (read : x ≡ get_or bs at x) (c : ℕ) where
  same_num : x.num ≡ num
  same_num = ap (λ b. b.num) read ∙ here x

  pub counted_rising : IsRising (λ b. b.num) (set bs at (record { num = x.num; count = c; file = x.file }))
  counted_rising = rising_set (λ b. b.num) bs at (record { num = x.num; count = c; file = x.file }) rising l (λ d. here d ∙ sym same_num)

  pub counted_file : (b : ℕ) → file_in b (set bs at (record { num = x.num; count = c; file = x.file })) ≡ file_in b bs
  counted_file b =
      set_file bs num at rising l here (record { num = x.num; count = c; file = x.file }) same_num b
      ∙ same_choice b num (λ n. file_in n bs) (Some x.file) (ap (λ b. Some b.file) read ∙ file_found bs num at x rising l here)

  pub raised_count : c ≡ x.count + 1 → (b : ℕ) → count_in b (set bs at (record { num = x.num; count = c; file = x.file })) ≡ count_in b bs + cond (eqb b num) 1 0
  raised_count e b =
      set_count bs num at rising l here (record { num = x.num; count = c; file = x.file }) same_num b
      ∙ ap (λ n. cond (eqb b num) n (count_in b bs)) e
      ∙ one_more b num (λ n. count_in n bs) x.count (ap (λ b. b.count) read ∙ count_found bs num at x rising l here)

  pub raised_low : c ≡ x.count + 1 → (m : ℕ) → AreLow bs m → AreLow (set bs at (record { num = x.num; count = c; file = x.file })) (m + 1)
  raised_low e m low = λ b.
      let sum = raised_count e b in
      let one = one_or_none (eqb b num) in
      let before = low b in
      omega arith

  pub lowered_low : c ≤ x.count → (m : ℕ) → AreLow bs m → AreLow (set bs at (record { num = x.num; count = c; file = x.file })) m
  lowered_low e m low = λ b.
      let now = set_count bs num at rising l here (record { num = x.num; count = c; file = x.file }) same_num b in
      let was : x.count ≡ count_in num bs = ap (λ b. b.count) read ∙ count_found bs num at x rising l here in
      elim (cases_eq b num) [
        | inl f ↦
            let is = cond-true (eqb b num) c (count_in b bs) (eq-eqb b num f) in
            let before = low num in
            omega arith
        | inr ne ↦
            let is = cond-false (eqb b num) c (count_in b bs) (ne_eqb b num ne) in
            let before = low b in
            omega arith
      ]

pub without_low : {F : Type 0} (bs new : List (Backing F)) (at : ℕ) (x : Backing F) (m : ℕ) → IsRising (λ b. b.num) bs → at < length bs → new ≡ remove bs at → x ≡ get_or bs at x → AreLow bs m → AreLow new m
without_low {F} bs new at x m rising l same read low = λ b.
    let here : (d : Backing F) → (get_or bs at d).num ≡ x.num = λ d. ap (λ (y : Backing F). y.num) (get_or_default bs at d x l) ∙ sym (ap (λ (y : Backing F). y.num) read) in
    let now = ap (count_in b) same ∙ remove_count bs x.num at rising l here x b in
    let before = low b in
    elim (cases_eq b x.num) [
      | inl f ↦ let is = cond-true (eqb b x.num) 0 (count_in b bs) (eq-eqb b x.num f) in omega arith
      | inr ne ↦ let is = cond-false (eqb b x.num) 0 (count_in b bs) (ne_eqb b x.num ne) in omega arith
    ]
