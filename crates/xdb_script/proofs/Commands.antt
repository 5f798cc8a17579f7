-- Commands: what is read is spelled so, and keeps the limits.
use Rattle.std.proofs.Common.{◌≡◌, ℕ, ◌-◌, ◌^◌, Bool, true, false, cond, ◌&&◌, leb, ltb, List, [], ◌∷◌, ◌++◌, length, map, Option, Some, None, Result, Ok, refl, sym, ap, subst, ◌∙◌, inl, inr, arith, codes}
use Rattle.std.specs.Fmt.{decimal}
use Rattle.std.specs.List.{list_all, flat_map}
use Rattle.std.proofs.lemmas.Bool.{and_parts, and_from, leb-true, lt-ltb, true≢false}
use Rattle.std.proofs.lemmas.List.{length-map, map-id}
use Rattle.xdb_key.proofs.ReadingLaws.{bind_ok, chosen}
use Rattle.xdb_key.specs.Bounds.{Bounds}
use Rattle.xdb_key.specs.Name.{is_name}
use Rattle.xdb_key.specs.Ops.{batch_len}
use Rattle.xdb_key.specs.Reading.{◌>>=◌}
use Rattle.xdb_key.specs.declared.op.Op.{Op}
use Rattle.xdb_key.specs.declared.op.Op.TheVariants as op
use Rattle.xdb_plain.specs.Scripts.{suits, are_batch, is_job_number, by_client, by_db, is_for_workers, suits_which}
use Rattle.xdb_plain.specs.Tables.{TableOps, table_ops}
use Rattle.xdb_plain.specs.Words.{string_word, range_words, at_words, excise_words, cmd_words}
use Rattle.xdb_plain.specs.declared.act.By.{By}
use Rattle.xdb_plain.specs.declared.act.CommitForm.TheVariants as commit
use Rattle.xdb_plain.specs.declared.act.ShowWhat.TheVariants as what
use Rattle.xdb_plain.specs.declared.act.StatusForm.TheVariants as status
use Rattle.xdb_plain.specs.declared.act.Which.{Which}
use Rattle.xdb_plain.specs.declared.act.Which.TheVariants.{Auto, At}
use Rattle.xdb_plain.specs.declared.script.Cmd.{Cmd}
use Rattle.xdb_plain.specs.declared.script.Cmd.TheVariants as cmd
use Rattle.xdb_script.proofs.Words.{ok_is, passed, found_tells, same-tells, number-is, name-is, all-is}
use Rattle.xdb_script.proofs.Parts.{pair_words, pair-is, set-is, del-is, span-is, values-fit, has_count, ops-is}
use Rattle.xdb_script.proofs.Questions.{at-is, some-name-is, question-is}
use Rattle.xdb_script.specs.Fields.{same_word, name_read, number_read, all_read, some_read}
use Rattle.xdb_script.specs.Reading.{pair_read, set_read, del_read, span_read, op_read, ops_shape, at_shape, question_read, found_or, found_read, begin_read, commit_read, batch_read, named_read, numbered_read, pairs_shape, few_shape, snap_read, cursor_read, is_excise, up_to_excise, excise_shape, load_read, client_read, alone_read, which_shape, which_made, which_read, show_read, db_read, table_read}
use Rattle.xdb_script.specs.Rules.{has_bounds, op_fits, span_fits, which_fits, fits, tables_stand, points_rise, is_sound}
use Rattle.xdb_script.specs.Verbs.{read_word, client_word, db_word, read_verbs, is_parted}
use Rattle.xdb_script.specs.declared.verbs.ClientVerb.{ClientVerb}
use Rattle.xdb_script.specs.declared.verbs.ReadVerb.{ReadVerb}
use Rattle.xdb_script.specs.declared.verbs.DbVerb.{DbVerb}
use Rattle.xdb_script.specs.declared.verbs.ClientVerb.TheVariants as says
use Rattle.xdb_script.specs.declared.verbs.DbVerb.TheVariants as owns
use Rattle.xdb_script.specs.declared.error.Why.{Why}
use Rattle.xdb_script.specs.declared.error.Why.TheVariants as why

-- a commit is at most 1 MiB as a batch
abbrev pub batch_fits : Cmd → Bool
batch_fits (cmd.Commit form ops) = leb (batch_len ops) 1048576
batch_fits _ = true

-- A command that was read from these words, said by this one; `parted` where it may be about a question in parts.
pub record ReadsCmd (by : Option By) (parted : Bool) (words : List (List ℕ)) (c : Cmd) : Type 0 where
  pub is : words ≡ cmd_words c
  pub limits : fits c ≡ true
  pub sound : points_rise c ≡ true → is_sound c ≡ true
  pub suited : (tables : List TableOps) → tables_stand tables c ≡ true → batch_fits c ≡ true → suits tables by c ≡ true
  pub workers : parted ≡ false → is_for_workers c ≡ true

pub found_is : {A : Type 0} (why : Why) (found : Option A) (x : A) → found_or why found ≡ Ok x → found ≡ Some x
found_is why None x e = cc
found_is why (Some y) x e = ap (λ z. Some z) (ok_is y x e)

-- ---- one word

named-is : (by : Option By) (v : List ℕ) (make : List ℕ → Cmd) → ((n : List ℕ) → v ∷ n ∷ [] ≡ cmd_words (make n)) → ((n : List ℕ) → is_name n ≡ true → fits (make n) ≡ true) → ((n : List ℕ) → is_sound (make n) ≡ true) → ((tables : List TableOps) (n : List ℕ) → suits tables by (make n) ≡ true) → ((n : List ℕ) → is_for_workers (make n) ≡ true) → (words : List (List ℕ)) (c : Cmd) → named_read make words ≡ Ok c → ReadsCmd by false (v ∷ words) c
named-is by v make spelled limit sound suited workers [] c e = cc
named-is by v make spelled limit sound suited workers (w ∷ x ∷ words) c e = cc
named-is by v make spelled limit sound suited workers (w ∷ []) c e =
    let a = bind_ok (name_read w) (λ n. Ok (make n)) e in
    let name = name-is w a.0 a.1 in
    subst (λ x. ReadsCmd by false (v ∷ w ∷ []) x) (ok_is (make a.0) c a.2) (record {
      is = ap (λ n. v ∷ n ∷ []) name.0 ∙ spelled a.0;
      limits = limit a.0 name.1;
      sound = λ h. sound a.0;
      suited = λ tables h b. suited tables a.0;
      workers = λ h. workers a.0;
    })

job-from : (n : ℕ) → (leb 1 n && leb n (2 ^ 56 - 1)) ≡ true → is_job_number n ≡ true
job-from n h =
    let parts = and_parts (leb 1 n) (leb n (2 ^ 56 - 1)) h in
    let high = leb-true n (2 ^ 56 - 1) parts.1 in
    and_from (leb 1 n) (ltb n (2 ^ 56)) parts.0 (lt-ltb n (2 ^ 56) (omega arith))

numbered-is : (by : Option By) (parted : Bool) (v : List ℕ) (make : ℕ → Cmd) → ((n : ℕ) → v ∷ decimal n ∷ [] ≡ cmd_words (make n)) → ((n : ℕ) → fits (make n) ≡ true) → ((n : ℕ) → is_sound (make n) ≡ true) → ((tables : List TableOps) (n : ℕ) → is_job_number n ≡ true → suits tables by (make n) ≡ true) → (parted ≡ false → (n : ℕ) → is_for_workers (make n) ≡ true) → (words : List (List ℕ)) (c : Cmd) → numbered_read make words ≡ Ok c → ReadsCmd by parted (v ∷ words) c
numbered-is by parted v make spelled limit sound suited workers [] c e = cc
numbered-is by parted v make spelled limit sound suited workers (w ∷ x ∷ words) c e = cc
numbered-is by parted v make spelled limit sound suited workers (w ∷ []) c e =
    let a = bind_ok (number_read 1 (2 ^ 56 - 1) w) (λ n. Ok (make n)) e in
    let number = number-is 1 (2 ^ 56 - 1) w a.0 a.1 in
    subst (λ x. ReadsCmd by parted (v ∷ w ∷ []) x) (ok_is (make a.0) c a.2) (record {
      is = ap (λ n. v ∷ n ∷ []) number.0 ∙ spelled a.0;
      limits = limit a.0;
      sound = λ h. sound a.0;
      suited = λ tables h b. suited tables a.0 (job-from a.0 number.1);
      workers = λ h. workers h a.0;
    })

-- ---- commits

pub batch-suits : (ops : List Op) → has_count ops ≡ true → leb (batch_len ops) 1048576 ≡ true → list_all op_fits ops ≡ true → are_batch ops ≡ true
batch-suits ops counted short limits = and_from _ _ (and_from _ _ counted short) (values-fit ops limits)

put-is : (by : Option By) → by_client by ≡ true → (words : List (List ℕ)) (c : Cmd) → commit_read commit.Put (set_read words) ≡ Ok c → ReadsCmd by false (codes "put" ∷ words) c
put-is by h words c e =
    let a = bind_ok (set_read words) (λ o. Ok (cmd.Commit commit.Put (o ∷ []))) e in
    let s = set-is words a.0 a.1 in
    let made : Op = op.Set s.key s.value in
    let limits : list_all op_fits (made ∷ []) ≡ true = and_from (op_fits made) true s.limits refl in
    let same : cmd.Commit commit.Put (made ∷ []) ≡ c = ap (λ o. cmd.Commit commit.Put (o ∷ [])) s.made ∙ ok_is (cmd.Commit commit.Put (a.0 ∷ [])) c a.2 in
    subst (λ x. ReadsCmd by false (codes "put" ∷ words) x) same (record {
      is = ap (λ ws. codes "put" ∷ ws) s.is;
      limits = limits;
      sound = λ x. refl;
      suited = λ tables x short. and_from (by_client by) _ h (batch-suits (made ∷ []) refl short limits);
      workers = λ x. refl;
    })

del-is-read : (by : Option By) → by_client by ≡ true → (words : List (List ℕ)) (c : Cmd) → commit_read commit.Del (del_read words) ≡ Ok c → ReadsCmd by false (codes "del" ∷ words) c
del-is-read by h words c e =
    let a = bind_ok (del_read words) (λ o. Ok (cmd.Commit commit.Del (o ∷ []))) e in
    let s = del-is words a.0 a.1 in
    let made : Op = op.Del s.key in
    let limits : list_all op_fits (made ∷ []) ≡ true = and_from (op_fits made) true s.limits refl in
    let same : cmd.Commit commit.Del (made ∷ []) ≡ c = ap (λ o. cmd.Commit commit.Del (o ∷ [])) s.made ∙ ok_is (cmd.Commit commit.Del (a.0 ∷ [])) c a.2 in
    subst (λ x. ReadsCmd by false (codes "del" ∷ words) x) same (record {
      is = ap (λ ws. codes "del" ∷ ws) s.is;
      limits = limits;
      sound = λ x. refl;
      suited = λ tables x short. and_from (by_client by) _ h (batch-suits (made ∷ []) refl short limits);
      workers = λ x. refl;
    })

delspan-is : (by : Option By) → by_client by ≡ true → (words : List (List ℕ)) (c : Cmd) → commit_read commit.DelSpan (span_read words) ≡ Ok c → ReadsCmd by false (codes "delspan" ∷ words) c
delspan-is by h words c e =
    let a = bind_ok (span_read words) (λ o. Ok (cmd.Commit commit.DelSpan (o ∷ []))) e in
    let s = span-is words a.0 a.1 in
    let made : Op = op.DelSpan s.range in
    let limits : list_all op_fits (made ∷ []) ≡ true = and_from (op_fits made) true s.limits refl in
    let same : cmd.Commit commit.DelSpan (made ∷ []) ≡ c = ap (λ o. cmd.Commit commit.DelSpan (o ∷ [])) s.made ∙ ok_is (cmd.Commit commit.DelSpan (a.0 ∷ [])) c a.2 in
    subst (λ x. ReadsCmd by false (codes "delspan" ∷ words) x) same (record {
      is = ap (λ ws. codes "delspan" ∷ ws) s.is;
      limits = limits;
      sound = λ x. refl;
      suited = λ tables x short. and_from (by_client by) _ h (batch-suits (made ∷ []) refl short limits);
      workers = λ x. refl;
    })

batch-is : (by : Option By) → by_client by ≡ true → (words : List (List ℕ)) (c : Cmd) → batch_read words ≡ Ok c → ReadsCmd by false (codes "batch" ∷ words) c
batch-is by h words c e =
    let a = bind_ok (ops_shape words) (λ parts. all_read op_read parts >>= λ ops. Ok (cmd.Commit commit.Batch ops)) e in
    let b = bind_ok (all_read op_read a.0) (λ ops. Ok (cmd.Commit commit.Batch ops)) a.2 in
    let ops = ops-is words a.0 b.0 a.1 b.1 in
    subst (λ x. ReadsCmd by false (codes "batch" ∷ words) x) (ok_is (cmd.Commit commit.Batch b.0) c b.2) (record {
      is = ap (λ ws. codes "batch" ∷ ws) ops.is;
      limits = ops.limits;
      sound = λ x. refl;
      suited = λ tables x short. and_from (by_client by) _ h (batch-suits b.0 ops.counted short ops.limits);
      workers = λ x. refl;
    })

-- ---- questions

read-is : (by : Option By) → by_client by ≡ true → (v : ReadVerb) (words : List (List ℕ)) (c : Cmd) → client_read (says.Read v) words ≡ Ok c → ReadsCmd by false (read_word v ∷ words) c
read-is by h v words c e =
    let a = bind_ok (question_read v words) (λ q. Ok (cmd.Ask q false)) e in
    let q = question-is v words a.0 a.1 in
    subst (λ x. ReadsCmd by false (read_word v ∷ words) x) (ok_is (cmd.Ask a.0 false) c a.2) (record {
      is = q.is;
      limits = q.limits;
      sound = λ x. refl;
      suited = λ tables x short. and_from (by_client by) _ h q.suited;
      workers = λ x. refl;
    })

begin-is : (by : Option By) → by_client by ≡ true → (words : List (List ℕ)) (c : Cmd) → begin_read words ≡ Ok c → ReadsCmd by true (codes "begin" ∷ words) c
begin-is by h [] c e = cc
begin-is by h (w ∷ words) c e =
    let a = bind_ok (found_or why.Shape (found_read w)) (λ v. question_read v words >>= λ q. Ok (cmd.Ask q true)) e in
    let b = bind_ok (question_read a.0 words) (λ q. Ok (cmd.Ask q true)) a.2 in
    let found = found_is why.Shape (found_read w) a.0 a.1 in
    let word : read_word a.0 ≡ w = same-tells _ _ (found_tells (λ v. same_word (read_word v) w) read_verbs a.0 found) in
    let q = question-is a.0 words b.0 b.1 in
    subst (λ x. ReadsCmd by true (codes "begin" ∷ w ∷ words) x) (ok_is (cmd.Ask b.0 true) c b.2) (record {
      is = ap (λ x. codes "begin" ∷ x ∷ words) (sym word) ∙ ap (λ ws. codes "begin" ∷ ws) q.is;
      limits = q.limits;
      sound = λ x. refl;
      suited = λ tables x short. and_from (by_client by) _ h q.suited;
      workers = λ x. absurd (true≢false x);
    })

-- ---- snapshots and cursors

pairs-are : (words : List (List ℕ)) (pairs : List (List ℕ × List ℕ)) → pairs_shape words ≡ Ok pairs → words ≡ flat_map (λ p. p.0 ∷ p.1 ∷ []) pairs
pairs-are [] pairs e = ap (flat_map (λ p. p.0 ∷ p.1 ∷ [])) (ok_is [] pairs e)
pairs-are (w ∷ []) pairs e = cc
pairs-are (lo ∷ hi ∷ words) pairs e =
    let a = bind_ok (pairs_shape words) (λ ps. Ok ((lo, hi) ∷ ps)) e in
    ap (λ ws. lo ∷ hi ∷ ws) (pairs-are words a.0 a.1) ∙ ap (flat_map (λ p. p.0 ∷ p.1 ∷ [])) (ok_is ((lo, hi) ∷ a.0) pairs a.2)

pub ranges-spelled : (ranges : List Bounds) → flat_map (λ p. p.0 ∷ p.1 ∷ []) (map pair_words ranges) ≡ flat_map range_words ranges
ranges-spelled [] = refl
ranges-spelled (r ∷ ranges) = ap (λ ws. string_word r.lo ∷ string_word r.hi ∷ ws) (ranges-spelled ranges)

few-is : {A : Type 0} (least most : ℕ) (xs ys : List A) → few_shape least most xs ≡ Ok ys → (xs ≡ ys) × ((leb least (length ys) && leb (length ys) most) ≡ true)
few-is least most xs ys e =
    let a = passed (leb least (length xs) && leb (length xs) most) (Ok xs) why.Shape e in
    let same = ok_is xs ys a.1 in
    (same, ap (λ zs. leb least (length zs) && leb (length zs) most) (sym same) ∙ a.0)

snap-is : (by : Option By) → by_client by ≡ true → (words : List (List ℕ)) (c : Cmd) → snap_read words ≡ Ok c → ReadsCmd by false (codes "snap" ∷ words) c
snap-is by h [] c e = cc
snap-is by h (w ∷ words) c e =
    let a = bind_ok (pairs_shape words) (λ all. few_shape 1 8 all >>= λ pairs. name_read w >>= λ name. all_read pair_read pairs >>= λ ranges. Ok (cmd.Snap name ranges)) e in
    let b = bind_ok (few_shape 1 8 a.0) (λ pairs. name_read w >>= λ name. all_read pair_read pairs >>= λ ranges. Ok (cmd.Snap name ranges)) a.2 in
    let n = bind_ok (name_read w) (λ name. all_read pair_read b.0 >>= λ ranges. Ok (cmd.Snap name ranges)) b.2 in
    let r = bind_ok (all_read pair_read b.0) (λ ranges. Ok (cmd.Snap n.0 ranges)) n.2 in
    let few = few-is 1 8 a.0 b.0 b.1 in
    let name = name-is w n.0 n.1 in
    let all = all-is pair_read pair_words has_bounds pair-is b.0 r.0 r.1 in
    let behind : words ≡ flat_map range_words r.0 = pairs-are words a.0 a.1 ∙ ap (flat_map (λ p. p.0 ∷ p.1 ∷ [])) (few.0 ∙ all.0) ∙ ranges-spelled r.0 in
    let counts : length b.0 ≡ length r.0 = ap length all.0 ∙ length-map r.0 pair_words in
    let bounds = and_parts (leb 1 (length b.0)) (leb (length b.0) 8) few.1 in
    subst (λ x. ReadsCmd by false (codes "snap" ∷ w ∷ words) x) (ok_is (cmd.Snap n.0 r.0) c r.2) (record {
      is = λ i. codes "snap" ∷ name.0 i ∷ behind i;
      limits = and_from _ _ name.1 all.1;
      sound = λ x. refl;
      suited = λ tables x short. and_from _ _ (and_from (by_client by) _ h (ap (leb 1) (sym counts) ∙ bounds.0)) (ap (λ k. leb k 8) (sym counts) ∙ bounds.1);
      workers = λ x. refl;
    })

cursor-is : (by : Option By) → by_client by ≡ true → (words : List (List ℕ)) (c : Cmd) → cursor_read words ≡ Ok c → ReadsCmd by false (codes "cursor" ∷ words) c
cursor-is by h [] c e = cc
cursor-is by h (w ∷ []) c e = cc
cursor-is by h (w ∷ lo ∷ []) c e = cc
cursor-is by h (w ∷ lo ∷ hi ∷ words) c e =
    let a = bind_ok (at_shape words) (λ snap. name_read w >>= λ name. pair_read (lo, hi) >>= λ range. some_read name_read snap >>= λ at. Ok (cmd.Cursor name range at)) e in
    let n = bind_ok (name_read w) (λ name. pair_read (lo, hi) >>= λ range. some_read name_read a.0 >>= λ at. Ok (cmd.Cursor name range at)) a.2 in
    let r = bind_ok (pair_read (lo, hi)) (λ range. some_read name_read a.0 >>= λ at. Ok (cmd.Cursor n.0 range at)) n.2 in
    let s = bind_ok (some_read name_read a.0) (λ at. Ok (cmd.Cursor n.0 r.0 at)) r.2 in
    let name = name-is w n.0 n.1 in
    let range = pair-is (lo, hi) r.0 r.1 in
    let at = some-name-is a.0 s.0 s.1 in
    let behind : words ≡ at_words s.0 = at-is words a.0 a.1 ∙ ap at_words at.0 in
    subst (λ x. ReadsCmd by false (codes "cursor" ∷ w ∷ lo ∷ hi ∷ words) x) (ok_is (cmd.Cursor n.0 r.0 s.0) c s.2) (record {
      is = λ i. codes "cursor" ∷ name.0 i ∷ (range.0 i).0 ∷ (range.0 i).1 ∷ behind i;
      limits = and_from _ _ name.1 (and_from _ _ range.1 at.1);
      sound = λ x. refl;
      suited = λ tables x short. h;
      workers = λ x. refl;
    })

-- ---- loads

up-by : (w : List ℕ) (words front back : List (List ℕ)) (t : Bool) → words ≡ front ++ back → let r : List (List ℕ) × List (List ℕ) = cond t ([], w ∷ words) (w ∷ front, back) in w ∷ words ≡ r.0 ++ r.1
up-by w words front back true e = refl
up-by w words front back false e = ap (λ ws. w ∷ ws) e

up-is : (words : List (List ℕ)) → words ≡ (up_to_excise words).0 ++ (up_to_excise words).1
up-is [] = refl
up-is (w ∷ words) = up-by w words (up_to_excise words).0 (up_to_excise words).1 (is_excise w) (up-is words)

-- there is nothing, or `excise` comes first
abbrev pub starts_excise : List (List ℕ) → Bool
starts_excise [] = true
starts_excise (w ∷ words) = is_excise w

up-starts-by : (w : List ℕ) (words front back : List (List ℕ)) (t : Bool) → is_excise w ≡ t → starts_excise back ≡ true → let r : List (List ℕ) × List (List ℕ) = cond t ([], w ∷ words) (w ∷ front, back) in starts_excise r.1 ≡ true
up-starts-by w words front back true e h = e
up-starts-by w words front back false e h = h

up-starts : (words : List (List ℕ)) → starts_excise (up_to_excise words).1 ≡ true
up-starts [] = refl
up-starts (w ∷ words) = up-starts-by w words (up_to_excise words).0 (up_to_excise words).1 (is_excise w) refl (up-starts words)

excise_list : Option (List ℕ × List ℕ) → List (List ℕ)
excise_list None = []
excise_list (Some pair) = codes "excise" ∷ pair.0 ∷ pair.1 ∷ []

excise-is : (words : List (List ℕ)) (span : Option (List ℕ × List ℕ)) → starts_excise words ≡ true → excise_shape words ≡ Ok span → words ≡ excise_list span
unfolding excise_list
excise-is [] span h e = ap excise_list (ok_is None span e)
excise-is (w ∷ []) span h e = cc
excise-is (w ∷ lo ∷ []) span h e = cc
excise-is (w ∷ lo ∷ hi ∷ x ∷ words) span h e = cc
excise-is (w ∷ lo ∷ hi ∷ []) span h e = ap (λ v. v ∷ lo ∷ hi ∷ []) (same-tells w (codes "excise") h) ∙ ap excise_list (ok_is (Some (lo, hi)) span e)

some-pair-is : (pair : Option (List ℕ × List ℕ)) (span : Option Bounds) → some_read pair_read pair ≡ Ok span → (excise_list pair ≡ excise_words span) × (span_fits span ≡ true)
unfolding excise_list
some-pair-is None span e = subst (λ x. (excise_list None ≡ excise_words x) × (span_fits x ≡ true)) (ok_is None span e) (refl, refl)
some-pair-is (Some p) span e =
    let a = bind_ok (pair_read p) (λ r. Ok (Some r)) e in
    let range = pair-is p a.0 a.1 in
    subst (λ x. (excise_list (Some p) ≡ excise_words x) × (span_fits x ≡ true)) (ok_is (Some a.0) span a.2) (ap (λ q. codes "excise" ∷ q.0 ∷ q.1 ∷ []) range.0, range.1)

load-is : (by : Option By) → by_client by ≡ true → (words : List (List ℕ)) (c : Cmd) → load_read words ≡ Ok c → ReadsCmd by false (codes "load" ∷ words) c
load-is by h [] c e = cc
load-is by h (w ∷ words) c e =
    let up = up_to_excise words in
    let f = bind_ok (few_shape 0 16 up.0) (λ few. excise_shape up.1 >>= λ excise. name_read w >>= λ name. all_read name_read few >>= λ tables. some_read pair_read excise >>= λ span. Ok (cmd.Load name tables span)) e in
    let x = bind_ok (excise_shape up.1) (λ excise. name_read w >>= λ name. all_read name_read f.0 >>= λ tables. some_read pair_read excise >>= λ span. Ok (cmd.Load name tables span)) f.2 in
    let n = bind_ok (name_read w) (λ name. all_read name_read f.0 >>= λ tables. some_read pair_read x.0 >>= λ span. Ok (cmd.Load name tables span)) x.2 in
    let t = bind_ok (all_read name_read f.0) (λ tables. some_read pair_read x.0 >>= λ span. Ok (cmd.Load n.0 tables span)) n.2 in
    let s = bind_ok (some_read pair_read x.0) (λ span. Ok (cmd.Load n.0 t.0 span)) t.2 in
    let few = few-is 0 16 up.0 f.0 f.1 in
    let name = name-is w n.0 n.1 in
    let all = all-is name_read (λ y. y) is_name name-is f.0 t.0 t.1 in
    let same : f.0 ≡ t.0 = all.0 ∙ map-id t.0 in
    let span = some-pair-is x.0 s.0 s.1 in
    let front : up.0 ≡ t.0 = few.0 ∙ same in
    let back : up.1 ≡ excise_words s.0 = excise-is up.1 x.0 (up-starts words) x.1 ∙ span.0 in
    let behind : words ≡ t.0 ++ excise_words s.0 = up-is words ∙ (λ i. front i ++ back i) in
    let count : leb (length t.0) 16 ≡ true = ap (λ ts. leb (length ts) 16) (sym same) ∙ (and_parts (leb 0 (length f.0)) _ few.1).1 in
    subst (λ y. ReadsCmd by false (codes "load" ∷ w ∷ words) y) (ok_is (cmd.Load n.0 t.0 s.0) c s.2) (record {
      is = λ i. codes "load" ∷ name.0 i ∷ behind i;
      limits = and_from _ _ name.1 (and_from _ _ all.1 span.1);
      sound = λ y. refl;
      suited = λ tables stand short. and_from _ _ (and_from (by_client by) _ h count) stand;
      workers = λ y. refl;
    })

-- ---- what a client says

pub client-is : (by : Option By) → by_client by ≡ true → (v : ClientVerb) (words : List (List ℕ)) (c : Cmd) → client_read v words ≡ Ok c → ReadsCmd by (is_parted v) (client_word v ∷ words) c
client-is by h says.Put words c e = put-is by h words c e
client-is by h says.Del words c e = del-is-read by h words c e
client-is by h says.DelSpan words c e = delspan-is by h words c e
client-is by h says.Batch words c e = batch-is by h words c e
client-is by h (says.Read v) words c e = read-is by h v words c e
client-is by h says.Begin words c e = begin-is by h words c e
client-is by h says.Settle words c e = numbered-is by true (codes "settle") (λ n. cmd.Settle n) (λ n. refl) (λ n. refl) (λ n. refl) (λ tables n job. and_from (by_client by) _ h job) (λ x n. absurd (true≢false x)) words c e
client-is by h says.Snap words c e = snap-is by h words c e
client-is by h says.Drop words c e = named-is by (codes "drop") (λ n. cmd.Drop n) (λ n. refl) (λ n k. k) (λ n. refl) (λ tables n. h) (λ n. refl) words c e
client-is by h says.Status words c e = named-is by (codes "status") (λ n. cmd.Status n status.Status) (λ n. refl) (λ n k. k) (λ n. refl) (λ tables n. h) (λ n. refl) words c e
client-is by h says.Await words c e = named-is by (codes "await") (λ n. cmd.Status n status.Await) (λ n. refl) (λ n k. k) (λ n. refl) (λ tables n. h) (λ n. refl) words c e
client-is by h says.Cursor words c e = cursor-is by h words c e
client-is by h says.Shut words c e = named-is by (codes "shut") (λ n. cmd.Shut n) (λ n. refl) (λ n k. k) (λ n. refl) (λ tables n. h) (λ n. refl) words c e
client-is by h says.Load words c e = load-is by h words c e
client-is by h says.Install words c e = named-is by (codes "install") (λ n. cmd.Install n) (λ n. refl) (λ n k. k) (λ n. refl) (λ tables n. h) (λ n. refl) words c e

-- ---- what the owner says

alone-is : (by : Option By) (v : List ℕ) (made : Cmd) → v ∷ [] ≡ cmd_words made → fits made ≡ true → is_sound made ≡ true → ((tables : List TableOps) → suits tables by made ≡ true) → is_for_workers made ≡ true → (words : List (List ℕ)) (c : Cmd) → alone_read made words ≡ Ok c → ReadsCmd by false (v ∷ words) c
alone-is by v made spelled limit sound suited workers (w ∷ words) c e = cc
alone-is by v made spelled limit sound suited workers [] c e =
    subst (λ x. ReadsCmd by false (v ∷ []) x) (ok_is made c e) (record { is = spelled; limits = limit; sound = λ h. sound; suited = λ tables h b. suited tables; workers = λ h. workers })

which-is : (by : Option By) (v : List ℕ) (make : Which → Cmd) → v ∷ codes "auto" ∷ [] ≡ cmd_words (make Auto) → ((level : ℕ) (range : Bounds) → v ∷ decimal level ∷ range_words range ≡ cmd_words (make (At level range))) → ((w : Which) → which_fits w ≡ true → fits (make w) ≡ true) → ((w : Which) → is_sound (make w) ≡ true) → ((tables : List TableOps) (w : Which) → suits_which w ≡ true → suits tables by (make w) ≡ true) → ((w : Which) → is_for_workers (make w) ≡ true) → (words : List (List ℕ)) (c : Cmd) → which_read make words ≡ Ok c → ReadsCmd by false (v ∷ words) c
which-is by v make auto at limit sound suited workers [] c e = cc
which-is by v make auto at limit sound suited workers (w ∷ lo ∷ []) c e = cc
which-is by v make auto at limit sound suited workers (w ∷ lo ∷ hi ∷ x ∷ words) c e = cc
which-is by v make auto at limit sound suited workers (w ∷ []) c e =
    let s = bind_ok (which_shape (w ∷ [])) (λ which. which_made make which) e in
    let a = passed (same_word w (codes "auto")) (Ok None) why.Shape s.1 in
    let none : None ≡ s.0 = ok_is None s.0 a.1 in
    subst (λ x. ReadsCmd by false (v ∷ w ∷ []) x) (ok_is (make Auto) c (ap (which_made make) none ∙ s.2)) (record {
      is = ap (λ x. v ∷ x ∷ []) (same-tells w (codes "auto") a.0) ∙ auto;
      limits = limit Auto refl;
      sound = λ h. sound Auto;
      suited = λ tables h b. suited tables Auto refl;
      workers = λ h. workers Auto;
    })
which-is by v make auto at limit sound suited workers (w ∷ lo ∷ hi ∷ []) c e =
    let a = bind_ok (number_read 0 6 w) (λ level. pair_read (lo, hi) >>= λ range. Ok (make (At level range))) e in
    let b = bind_ok (pair_read (lo, hi)) (λ range. Ok (make (At a.0 range))) a.2 in
    let level = number-is 0 6 w a.0 a.1 in
    let range = pair-is (lo, hi) b.0 b.1 in
    let high = leb-true a.0 6 (and_parts (leb 0 a.0) (leb a.0 6) level.1).1 in
    subst (λ x. ReadsCmd by false (v ∷ w ∷ lo ∷ hi ∷ []) x) (ok_is (make (At a.0 b.0)) c b.2) (record {
      is = (λ i. v ∷ level.0 i ∷ (range.0 i).0 ∷ (range.0 i).1 ∷ []) ∙ at a.0 b.0;
      limits = limit (At a.0 b.0) range.1;
      sound = λ h. sound (At a.0 b.0);
      suited = λ tables h k. suited tables (At a.0 b.0) (lt-ltb a.0 7 (omega arith));
      workers = λ h. workers (At a.0 b.0);
    })

shown : (by : Option By) → by_db by ≡ true → (w word : List ℕ) (made c : Cmd) → same_word w word ≡ true → codes "show" ∷ word ∷ [] ≡ cmd_words made → fits made ≡ true → is_sound made ≡ true → ((tables : List TableOps) → suits tables by made ≡ true) → is_for_workers made ≡ true → ◌≡◌ {A = Result Cmd Why} (Ok made) (Ok c) → ReadsCmd by false (codes "show" ∷ w ∷ []) c
shown by h w word made c same spelled limit sound suited workers e =
    subst (λ x. ReadsCmd by false (codes "show" ∷ w ∷ []) x) (ok_is made c e)
    (record { is = ap (λ x. codes "show" ∷ x ∷ []) (same-tells w word same) ∙ spelled; limits = limit; sound = λ k. sound; suited = λ tables k b. suited tables; workers = λ k. workers })

show-is : (by : Option By) → by_db by ≡ true → (words : List (List ℕ)) (c : Cmd) → show_read words ≡ Ok c → ReadsCmd by false (codes "show" ∷ words) c
show-is by h [] c e = cc
show-is by h (w ∷ x ∷ words) c e = cc
show-is by h (w ∷ []) c e = elim (chosen (same_word w (codes "levels")) (Ok (cmd.Show what.Levels)) _ e) [
  | inl a ↦ shown by h w (codes "levels") (cmd.Show what.Levels) c a.0 refl refl refl (λ tables. h) refl a.1
  | inr f ↦ elim (chosen (same_word w (codes "counts")) (Ok (cmd.Show what.Counts)) _ f.1) [
    | inl a ↦ shown by h w (codes "counts") (cmd.Show what.Counts) c a.0 refl refl refl (λ tables. h) refl a.1
    | inr g ↦ let a = passed (same_word w (codes "snaps")) (Ok (cmd.Show what.Snaps)) why.Shape g.1 in shown by h w (codes "snaps") (cmd.Show what.Snaps) c a.0 refl refl refl (λ tables. h) refl a.1
  ]
]

pub db-is : (by : Option By) → by_db by ≡ true → (v : DbVerb) (words : List (List ℕ)) (c : Cmd) → db_read v words ≡ Ok c → ReadsCmd by false (db_word v ∷ words) c
db-is by h owns.Seal words c e = alone-is by (codes "seal") cmd.Seal refl refl refl (λ tables. h) refl words c e
db-is by h owns.FlushTake words c e = alone-is by (codes "flush-take") cmd.FlushTake refl refl refl (λ tables. h) refl words c e
db-is by h owns.Put words c e = numbered-is by false (codes "put") (λ n. cmd.Put n) (λ n. refl) (λ n. refl) (λ n. refl) (λ tables n job. and_from (by_db by) _ h job) (λ x n. refl) words c e
db-is by h owns.CompactTake words c e = which-is by (codes "compact-take") (λ w. cmd.CompactTake w) refl (λ l r. refl) (λ w k. k) (λ w. refl) (λ tables w k. and_from (by_db by) _ h k) (λ w. refl) words c e
db-is by h owns.Build words c e = numbered-is by false (codes "build") (λ n. cmd.Build n) (λ n. refl) (λ n. refl) (λ n. refl) (λ tables n job. and_from (by_db by) _ h job) (λ x n. refl) words c e
db-is by h owns.Work words c e = numbered-is by false (codes "work") (λ n. cmd.Work n) (λ n. refl) (λ n. refl) (λ n. refl) (λ tables n job. and_from (by_db by) _ h job) (λ x n. refl) words c e
db-is by h owns.Flush words c e = alone-is by (codes "flush") cmd.Flush refl refl refl (λ tables. h) refl words c e
db-is by h owns.Compact words c e = which-is by (codes "compact") (λ w. cmd.Compact w) refl (λ l r. refl) (λ w k. k) (λ w. refl) (λ tables w k. and_from (by_db by) _ h k) (λ w. refl) words c e
db-is by h owns.Reap words c e = alone-is by (codes "reap") cmd.Reap refl refl refl (λ tables. h) refl words c e
db-is by h owns.Show words c e = show-is by h words c e

-- ---- tables

pub table-is : (words : List (List ℕ)) (c : Cmd) → table_read words ≡ Ok c → ReadsCmd None false words c
table-is [] c e = cc
table-is (w ∷ words) c e =
    let p = bind_ok (ops_shape words) (λ parts. name_read w >>= λ name. all_read op_read parts >>= λ ops. Ok (cmd.Table (table_ops name ops))) e in
    let n = bind_ok (name_read w) (λ name. all_read op_read p.0 >>= λ ops. Ok (cmd.Table (table_ops name ops))) p.2 in
    let o = bind_ok (all_read op_read p.0) (λ ops. Ok (cmd.Table (table_ops n.0 ops))) n.2 in
    let name = name-is w n.0 n.1 in
    let ops = ops-is words p.0 o.0 p.1 o.1 in
    subst (λ x. ReadsCmd None false (w ∷ words) x) (ok_is (cmd.Table (table_ops n.0 o.0)) c o.2) (record {
      is = λ i. name.0 i ∷ ops.is i;
      limits = and_from _ _ name.1 ops.limits;
      sound = λ rise. and_from _ _ ops.counted rise;
      suited = λ tables stand short. and_from _ _ stand (values-fit o.0 ops.limits);
      workers = λ x. refl;
    })
