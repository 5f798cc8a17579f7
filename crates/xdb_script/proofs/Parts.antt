-- Ranges, operations and questions: what is read is spelled so, and what is spelled so is read.
use Rattle.std.proofs.Common.{◌≡◌, ℕ, ◌≤◌, Bool, true, false, cond, not, ◌&&◌, leb, List, [], ◌∷◌, ◌++◌, length, map, append-nil, Ok, Err, refl, sym, ap, subst, ◌∙◌, inl, inr, arith, codes}
use Rattle.std.specs.List.{list_all, flat_map, slice_split, onto_first}
use Rattle.std.proofs.lemmas.Bool.{and_parts, and_from, le-leb, leb-true, not-true, not_from_false, cond-true}
use Rattle.std.proofs.lemmas.List.{length-map}
use Rattle.std.proofs.lemmas.List.Splits.{slice_split-cons_yes, slice_split-cons_no, length-slice_split}
use Rattle.xdb_key.proofs.ReadingLaws.{bind_ok, chosen}
use Rattle.xdb_key.specs.Bounds.{Bounds, bounds}
use Rattle.xdb_key.specs.Reading.{◌>>=◌}
use Rattle.xdb_key.specs.declared.TheConstants.{MAX_KEY, MAX_BOUND, MAX_VALUE}
use Rattle.xdb_key.specs.declared.op.Op.{Op}
use Rattle.xdb_key.specs.declared.op.Op.TheVariants as op
use Rattle.xdb_plain.specs.Scripts.{is_value_of}
use Rattle.xdb_plain.specs.Words.{string_word, range_words, op_words, ops_words}
use Rattle.xdb_script.proofs.Words.{ok_is, passed, same-tells, string-is, string-again, all-is, all-again, no-semicolon}
use Rattle.xdb_script.specs.Fields.{same_word, key_read, bound_read, value_read, all_read}
use Rattle.xdb_script.specs.Reading.{pair_read, set_read, del_read, span_read, op_read, is_op_shape, is_semicolon, ops_shape}
use Rattle.xdb_script.specs.Rules.{are_bytes, has_length, is_key, is_bound, is_value, has_bounds, op_fits}
use Rattle.xdb_script.specs.declared.error.Why.TheVariants as why

-- ---- ranges

abbrev pub pair_words : Bounds → List ℕ × List ℕ
pair_words range = (string_word range.lo, string_word range.hi)

pub pair-is : (pair : List ℕ × List ℕ) (range : Bounds) → pair_read pair ≡ Ok range → (pair ≡ pair_words range) × (has_bounds range ≡ true)
pair-is (lo, hi) range e =
    let a = bind_ok (bound_read lo) (λ l. bound_read hi >>= λ h. Ok (bounds l h)) e in
    let b = bind_ok (bound_read hi) (λ h. Ok (bounds a.0 h)) a.2 in
    let low = string-is 1 MAX_BOUND lo a.0 a.1 in
    let high = string-is 1 MAX_BOUND hi b.0 b.1 in
    subst (λ r. ((lo, hi) ≡ pair_words r) × (has_bounds r ≡ true)) (ok_is (bounds a.0 b.0) range b.2) ((λ i. (low.0 i, high.0 i)), and_from _ _ low.1 high.1)

pub pair-again : (range : Bounds) → has_bounds range ≡ true → pair_read (pair_words range) ≡ Ok range
pair-again range h =
    let parts = and_parts (is_bound range.lo) (is_bound range.hi) h in
    ap (λ r. r >>= λ l. bound_read (string_word range.hi) >>= λ k. Ok (bounds l k)) (string-again 1 MAX_BOUND range.lo parts.0)
    ∙ ap (λ r. r >>= λ k. Ok (bounds range.lo k)) (string-again 1 MAX_BOUND range.hi parts.1)

-- ---- single operations

-- an operation that was read behind a verb of this spelling
pub record ReadsOp (v : List ℕ) (words : List (List ℕ)) (o : Op) : Type 0 where
  pub is : v ∷ words ≡ op_words o
  pub limits : op_fits o ≡ true

pub record IsSet (words : List (List ℕ)) (o : Op) : Type 0 where
  pub key : List ℕ
  pub value : List ℕ
  pub made : op.Set key value ≡ o
  pub is : words ≡ string_word key ∷ string_word value ∷ []
  pub limits : op_fits (op.Set key value) ≡ true

pub set-is : (words : List (List ℕ)) (o : Op) → set_read words ≡ Ok o → IsSet words o
set-is [] o e = cc
set-is (k ∷ []) o e = cc
set-is (k ∷ v ∷ x ∷ words) o e = cc
set-is (k ∷ v ∷ []) o e =
    let a = bind_ok (key_read k) (λ key. value_read v >>= λ value. Ok (op.Set key value)) e in
    let b = bind_ok (value_read v) (λ value. Ok (op.Set a.0 value)) a.2 in
    let key = string-is 1 MAX_KEY k a.0 a.1 in
    let value = string-is 0 MAX_VALUE v b.0 b.1 in
    record { key = a.0; value = b.0; made = ok_is (op.Set a.0 b.0) o b.2; is = λ i. key.0 i ∷ value.0 i ∷ []; limits = and_from _ _ key.1 value.1 }

pub record IsDel (words : List (List ℕ)) (o : Op) : Type 0 where
  pub key : List ℕ
  pub made : op.Del key ≡ o
  pub is : words ≡ string_word key ∷ []
  pub limits : op_fits (op.Del key) ≡ true

pub del-is : (words : List (List ℕ)) (o : Op) → del_read words ≡ Ok o → IsDel words o
del-is [] o e = cc
del-is (k ∷ x ∷ words) o e = cc
del-is (k ∷ []) o e =
    let a = bind_ok (key_read k) (λ key. Ok (op.Del key)) e in
    let key = string-is 1 MAX_KEY k a.0 a.1 in
    record { key = a.0; made = ok_is (op.Del a.0) o a.2; is = λ i. key.0 i ∷ []; limits = key.1 }

pub record IsSpan (words : List (List ℕ)) (o : Op) : Type 0 where
  pub range : Bounds
  pub made : op.DelSpan range ≡ o
  pub is : words ≡ range_words range
  pub limits : op_fits (op.DelSpan range) ≡ true

pub span-is : (words : List (List ℕ)) (o : Op) → span_read words ≡ Ok o → IsSpan words o
span-is [] o e = cc
span-is (lo ∷ []) o e = cc
span-is (lo ∷ hi ∷ x ∷ words) o e = cc
span-is (lo ∷ hi ∷ []) o e =
    let a = bind_ok (pair_read (lo, hi)) (λ range. Ok (op.DelSpan range)) e in
    let range = pair-is (lo, hi) a.0 a.1 in
    record { range = a.0; made = ok_is (op.DelSpan a.0) o a.2; is = ap (λ p. p.0 ∷ p.1 ∷ []) range.0; limits = range.1 }

op-is-made : (words : List (List ℕ)) (o made : Op) → made ≡ o → (words ≡ op_words made) × (op_fits made ≡ true) → (words ≡ op_words o) × (op_fits o ≡ true)
op-is-made words o made same h = subst (λ x. (words ≡ op_words x) × (op_fits x ≡ true)) same h

pub op-is : (words : List (List ℕ)) (o : Op) → op_read words ≡ Ok o → (words ≡ op_words o) × (op_fits o ≡ true)
op-is [] o e = cc
op-is (v ∷ words) o e = elim (chosen (same_word v (codes "set")) (set_read words) _ e) [
  | inl h ↦ let s = set-is words o h.1 in op-is-made (v ∷ words) o _ s.made ((λ i. same-tells v (codes "set") h.0 i ∷ s.is i), s.limits)
  | inr g ↦ elim (chosen (same_word v (codes "del")) (del_read words) _ g.1) [
    | inl h ↦ let s = del-is words o h.1 in op-is-made (v ∷ words) o _ s.made ((λ i. same-tells v (codes "del") h.0 i ∷ s.is i), s.limits)
    | inr k ↦ elim (chosen (same_word v (codes "delspan")) (span_read words) (Err why.Shape) k.1) [
      | inl h ↦ let s = span-is words o h.1 in op-is-made (v ∷ words) o _ s.made ((λ i. same-tells v (codes "delspan") h.0 i ∷ s.is i), s.limits)
      | inr x ↦ cc
    ]
  ]
]

pub set-again : (key value : List ℕ) → op_fits (op.Set key value) ≡ true → set_read (string_word key ∷ string_word value ∷ []) ≡ Ok (op.Set key value)
set-again key value h =
    let parts = and_parts (is_key key) (is_value value) h in
    ap (λ r. r >>= λ k. value_read (string_word value) >>= λ v. Ok (op.Set k v)) (string-again 1 MAX_KEY key parts.0)
    ∙ ap (λ r. r >>= λ v. Ok (op.Set key v)) (string-again 0 MAX_VALUE value parts.1)

pub del-again : (key : List ℕ) → op_fits (op.Del key) ≡ true → del_read (string_word key ∷ []) ≡ Ok (op.Del key)
del-again key h = ap (λ r. r >>= λ k. Ok (op.Del k)) (string-again 1 MAX_KEY key h)

pub span-again : (range : Bounds) → op_fits (op.DelSpan range) ≡ true → span_read (range_words range) ≡ Ok (op.DelSpan range)
span-again range h = ap (λ r. r >>= λ b. Ok (op.DelSpan b)) (pair-again range h)

pub op-again : (o : Op) → op_fits o ≡ true → op_read (op_words o) ≡ Ok o
op-again (op.Set key value) h = set-again key value h
op-again (op.Del key) h = del-again key h
op-again (op.DelSpan range) h = span-again range h

-- ---- operations between semicolons

pub values-fit : (ops : List Op) → list_all op_fits ops ≡ true → list_all is_value_of ops ≡ true
values-fit [] h = refl
values-fit (o ∷ ops) h = let parts = and_parts (op_fits o) _ h in and_from _ _ (one o parts.0) (values-fit ops parts.1)
  where
    one : (x : Op) → op_fits x ≡ true → is_value_of x ≡ true
    one (op.Set key value) f = (and_parts _ _ (and_parts (are_bytes value) _ (and_parts (is_key key) _ f).1).1).1
    one (op.Del key) f = refl
    one (op.DelSpan range) f = refl

-- parts with a semicolon between two
joined : List (List (List ℕ)) → List (List ℕ)
joined [] = []
joined (part ∷ parts) = part ++ flat_map (λ next. codes ";" ∷ next) parts

split-some : (words : List (List ℕ)) → 1 ≤ length (slice_split is_semicolon words)
split-some words = omega (arith, length-slice_split is_semicolon words)

joined-by : (w : List ℕ) (parts : List (List (List ℕ))) (t : Bool) → is_semicolon w ≡ t → 1 ≤ length parts → joined (cond t ([] ∷ parts) (onto_first w parts)) ≡ w ∷ joined parts
unfolding joined
joined-by w [] t e some = absurd (omega arith)
joined-by w (part ∷ parts) true e some = ap (λ v. v ∷ (part ++ flat_map (λ next. codes ";" ∷ next) parts)) (sym (same-tells w (codes ";") e))
joined-by w (part ∷ parts) false e some = refl

joined-split : (words : List (List ℕ)) → joined (slice_split is_semicolon words) ≡ words
unfolding joined
joined-split [] = refl
joined-split (w ∷ words) = joined-by w (slice_split is_semicolon words) (is_semicolon w) refl (split-some words) ∙ ap (λ ws. w ∷ ws) (joined-split words)

behind-map : (ops : List Op) → flat_map (λ next. codes ";" ∷ op_words next) ops ≡ flat_map (λ next. codes ";" ∷ next) (map op_words ops)
behind-map [] = refl
behind-map (o ∷ ops) = ap (λ ws. codes ";" ∷ (op_words o ++ ws)) (behind-map ops)

ops-joined : (ops : List Op) → ops_words ops ≡ joined (map op_words ops)
unfolding joined
ops-joined [] = refl
ops-joined (o ∷ ops) = ap (λ ws. op_words o ++ ws) (behind-map ops)

abbrev pub has_count : List Op → Bool
has_count ops = leb 1 (length ops) && leb (length ops) 4096

pub record ReadsOps (words : List (List ℕ)) (ops : List Op) : Type 0 where
  pub is : words ≡ ops_words ops
  pub limits : list_all op_fits ops ≡ true
  pub counted : has_count ops ≡ true

pub ops-is : (words : List (List ℕ)) (parts : List (List (List ℕ))) (ops : List Op) → ops_shape words ≡ Ok parts → all_read op_read parts ≡ Ok ops → ReadsOps words ops
ops-is words parts ops shape read =
    let split = slice_split is_semicolon words in
    let a = passed (list_all is_op_shape split && leb (length split) 4096) (Ok split) why.Shape shape in
    let same : split ≡ parts = ok_is split parts a.1 in
    let all = all-is op_read op_words op_fits op-is parts ops read in
    let are : split ≡ map op_words ops = same ∙ all.0 in
    let counts : length split ≡ length ops = ap length are ∙ length-map ops op_words in
    let some : 1 ≤ length split = split-some words in
    let few : length split ≤ 4096 = leb-true (length split) 4096 (and_parts (list_all is_op_shape split) (leb (length split) 4096) a.0).1 in
    record {
      is = sym (joined-split words) ∙ ap joined are ∙ sym (ops-joined ops);
      limits = all.1;
      counted = and_from _ _ (le-leb 1 (length ops) (omega arith)) (le-leb (length ops) 4096 (omega arith));
    }

abbrev no_semicolons : List (List ℕ) → Bool
no_semicolons words = list_all (λ w. not (is_semicolon w)) words

split-none : (words : List (List ℕ)) → no_semicolons words ≡ true → slice_split is_semicolon words ≡ words ∷ []
split-none [] h = refl
split-none (w ∷ words) h =
    let parts = and_parts (not (is_semicolon w)) _ h in
    slice_split-cons_no is_semicolon w words (not-true _ parts.0) ∙ ap (onto_first w) (split-none words parts.1)

split-at : (words rest : List (List ℕ)) → no_semicolons words ≡ true → slice_split is_semicolon (words ++ codes ";" ∷ rest) ≡ words ∷ slice_split is_semicolon rest
split-at [] rest h = slice_split-cons_yes is_semicolon (codes ";") rest refl
split-at (w ∷ words) rest h =
    let parts = and_parts (not (is_semicolon w)) _ h in
    slice_split-cons_no is_semicolon w (words ++ codes ";" ∷ rest) (not-true _ parts.0) ∙ ap (onto_first w) (split-at words rest parts.1)

no-semicolon-word : (least most : ℕ) (bytes : List ℕ) → (are_bytes bytes && has_length least most bytes) ≡ true → not (is_semicolon (string_word bytes)) ≡ true
no-semicolon-word least most bytes h = not_from_false _ (no-semicolon bytes (and_parts _ _ h).0)

no-semicolons : (o : Op) → op_fits o ≡ true → no_semicolons (op_words o) ≡ true
no-semicolons (op.Set key value) h =
    let parts = and_parts (is_key key) (is_value value) h in
    and_from _ _ (no-semicolon-word 1 MAX_KEY key parts.0) (and_from _ true (no-semicolon-word 0 MAX_VALUE value parts.1) refl)
no-semicolons (op.Del key) h = and_from _ true (no-semicolon-word 1 MAX_KEY key h) refl
no-semicolons (op.DelSpan range) h =
    let parts = and_parts (is_bound range.lo) (is_bound range.hi) h in
    and_from _ _ (no-semicolon-word 1 MAX_BOUND range.lo parts.0) (and_from _ true (no-semicolon-word 1 MAX_BOUND range.hi parts.1) refl)

split-again : (o : Op) (ops : List Op) → list_all op_fits (o ∷ ops) ≡ true → slice_split is_semicolon (ops_words (o ∷ ops)) ≡ map op_words (o ∷ ops)
split-again o [] h =
    let parts = and_parts (op_fits o) _ h in
    ap (slice_split is_semicolon) (append-nil (op_words o)) ∙ split-none (op_words o) (no-semicolons o parts.0)
split-again o (p ∷ ops) h =
    let parts = and_parts (op_fits o) _ h in
    split-at (op_words o) (ops_words (p ∷ ops)) (no-semicolons o parts.0) ∙ ap (λ ps. op_words o ∷ ps) (split-again p ops parts.1)

op-shaped : (o : Op) → is_op_shape (op_words o) ≡ true
op-shaped (op.Set key value) = refl
op-shaped (op.Del key) = refl
op-shaped (op.DelSpan range) = refl

ops-shaped : (ops : List Op) → list_all is_op_shape (map op_words ops) ≡ true
ops-shaped [] = refl
ops-shaped (o ∷ ops) = and_from _ _ (op-shaped o) (ops-shaped ops)

split-all : (ops : List Op) → list_all op_fits ops ≡ true → 1 ≤ length ops → slice_split is_semicolon (ops_words ops) ≡ map op_words ops
split-all [] h some = absurd (omega arith)
split-all (o ∷ ops) h some = split-again o ops h

pub shape-again : (ops : List Op) → list_all op_fits ops ≡ true → has_count ops ≡ true → ops_shape (ops_words ops) ≡ Ok (map op_words ops)
shape-again ops h counted =
    let bounds = and_parts (leb 1 (length ops)) (leb (length ops) 4096) counted in
    let same = split-all ops h (leb-true 1 (length ops) bounds.0) in
    ap (λ ps. cond (list_all is_op_shape ps && leb (length ps) 4096) (Ok ps) (Err why.Shape)) same
    ∙ cond-true _ _ _ (and_from _ _ (ops-shaped ops) (ap (λ n. leb n 4096) (length-map ops op_words) ∙ bounds.1))

pub ops-again : (ops : List Op) → list_all op_fits ops ≡ true → all_read op_read (map op_words ops) ≡ Ok ops
ops-again ops h = all-again op_read op_words op_fits op-again ops h
