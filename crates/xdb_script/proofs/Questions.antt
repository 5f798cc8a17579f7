-- Questions: what is read is spelled so, and what is spelled so is read.
use Rattle.std.proofs.Common.{◌≡◌, ℕ, true, ◌&&◌, leb, List, [], ◌∷◌, ◌++◌, Option, Some, None, Ok, refl, ap, subst, ◌∙◌, arith, codes}
use Rattle.std.specs.Fmt.{decimal}
use Rattle.std.proofs.lemmas.Bool.{and_parts, and_from, leb-true}
use Rattle.xdb_key.proofs.ReadingLaws.{bind_ok}
use Rattle.xdb_key.specs.Bounds.{Bounds}
use Rattle.xdb_key.specs.Name.{is_name}
use Rattle.xdb_key.specs.Reading.{◌>>=◌}
use Rattle.xdb_key.specs.declared.TheConstants.{MAX_KEY}
use Rattle.xdb_plain.specs.Scripts.{suits_question, is_limit}
use Rattle.xdb_plain.specs.Words.{string_word, range_words, at_words, question_words}
use Rattle.xdb_plain.specs.declared.question.Question.{Question}
use Rattle.xdb_plain.specs.declared.question.Question.TheVariants.{Get, Scan, RScan, Move}
use Rattle.xdb_plain.specs.declared.question.Step.{Step}
use Rattle.xdb_plain.specs.declared.question.Step.TheVariants.{First, Last, Next, Prev, Seek, SeekLt}
use Rattle.xdb_script.proofs.Words.{ok_is, passed, same-tells, string-is, string-again, number-is, number-again, name-is, name-again}
use Rattle.xdb_script.proofs.Parts.{pair_words, pair-is, pair-again}
use Rattle.xdb_script.specs.Fields.{same_word, key_read, name_read, number_read, some_read}
use Rattle.xdb_script.specs.Reading.{pair_read, at_shape, get_read, scan_read, move_read, seek_read, question_read}
use Rattle.xdb_script.specs.Rules.{is_key, has_bounds, at_fits, step_fits, question_fits}
use Rattle.xdb_script.specs.Verbs.{read_word}
use Rattle.xdb_script.specs.declared.verbs.ReadVerb.{ReadVerb}
use Rattle.xdb_script.specs.declared.verbs.ReadVerb.TheVariants as reads
use Rattle.xdb_script.specs.declared.error.Why.TheVariants as why

-- ---- `at` and a snapshot

pub at-is : (words : List (List ℕ)) (snap : Option (List ℕ)) → at_shape words ≡ Ok snap → words ≡ at_words snap
at-is [] snap e = ap at_words (ok_is None snap e)
at-is (w ∷ []) snap e = cc
at-is (w ∷ s ∷ x ∷ words) snap e = cc
at-is (w ∷ s ∷ []) snap e =
    let a = passed (same_word w (codes "at")) (Ok (Some s)) why.Shape e in
    ap (λ v. v ∷ s ∷ []) (same-tells w (codes "at") a.0) ∙ ap at_words (ok_is (Some s) snap a.1)

pub at-again : (snap : Option (List ℕ)) → at_shape (at_words snap) ≡ Ok snap
at-again None = refl
at-again (Some s) = refl

pub some-name-is : (snap at : Option (List ℕ)) → some_read name_read snap ≡ Ok at → (snap ≡ at) × (at_fits at ≡ true)
some-name-is None at e = subst (λ x. (None ≡ x) × (at_fits x ≡ true)) (ok_is None at e) (refl, refl)
some-name-is (Some s) at e =
    let a = bind_ok (name_read s) (λ n. Ok (Some n)) e in
    let name = name-is s a.0 a.1 in
    subst (λ x. (Some s ≡ x) × (at_fits x ≡ true)) (ok_is (Some a.0) at a.2) (ap (λ n. Some n) name.0, name.1)

pub some-name-again : (at : Option (List ℕ)) → at_fits at ≡ true → some_read name_read at ≡ Ok at
some-name-again None h = refl
some-name-again (Some s) h = ap (λ r. r >>= λ n. Ok (Some n)) (name-again s h)

-- ---- each kind of question

-- a question that was read behind a verb of this spelling
pub record ReadsQuestion (v : List ℕ) (words : List (List ℕ)) (q : Question) : Type 0 where
  pub is : v ∷ words ≡ question_words q
  pub limits : question_fits q ≡ true
  pub suited : suits_question q ≡ true

get-is : (words : List (List ℕ)) (q : Question) → get_read words ≡ Ok q → ReadsQuestion (codes "get") words q
get-is [] q e = cc
get-is (k ∷ words) q e =
    let a = bind_ok (at_shape words) (λ snap. key_read k >>= λ key. some_read name_read snap >>= λ at. Ok (Get key at)) e in
    let b = bind_ok (key_read k) (λ key. some_read name_read a.0 >>= λ at. Ok (Get key at)) a.2 in
    let c = bind_ok (some_read name_read a.0) (λ at. Ok (Get b.0 at)) b.2 in
    let key = string-is 1 MAX_KEY k b.0 b.1 in
    let at = some-name-is a.0 c.0 c.1 in
    let behind = at-is words a.0 a.1 ∙ ap at_words at.0 in
    subst (λ x. ReadsQuestion (codes "get") (k ∷ words) x) (ok_is (Get b.0 c.0) q c.2) (record { is = λ i. codes "get" ∷ key.0 i ∷ behind i; limits = and_from _ _ key.1 at.1; suited = refl })

get-again : (key : List ℕ) (at : Option (List ℕ)) → question_fits (Get key at) ≡ true → get_read (string_word key ∷ at_words at) ≡ Ok (Get key at)
get-again key at h =
    let parts = and_parts (is_key key) (at_fits at) h in
    ap (λ r. r >>= λ snap. key_read (string_word key) >>= λ k. some_read name_read snap >>= λ x. Ok (Get k x)) (at-again at)
    ∙ ap (λ r. r >>= λ k. some_read name_read at >>= λ x. Ok (Get k x)) (string-again 1 MAX_KEY key parts.0)
    ∙ ap (λ r. r >>= λ x. Ok (Get key x)) (some-name-again at parts.1)

-- the parts of a scan
record IsScan (make : Bounds → ℕ → Option (List ℕ) → Question) (words : List (List ℕ)) (q : Question) : Type 0 where
  range : Bounds
  most : ℕ
  at : Option (List ℕ)
  made : make range most at ≡ q
  is : words ≡ range_words range ++ decimal most ∷ at_words at
  range_fits : has_bounds range ≡ true
  at_name : at_fits at ≡ true
  limit : is_limit most ≡ true

scan-is : (make : Bounds → ℕ → Option (List ℕ) → Question) (words : List (List ℕ)) (q : Question) → scan_read make words ≡ Ok q → IsScan make words q
scan-is make [] q e = cc
scan-is make (lo ∷ []) q e = cc
scan-is make (lo ∷ hi ∷ []) q e = cc
scan-is make (lo ∷ hi ∷ n ∷ words) q e =
    let a = bind_ok (at_shape words) (λ snap. pair_read (lo, hi) >>= λ range. number_read 1 1000 n >>= λ most. some_read name_read snap >>= λ at. Ok (make range most at)) e in
    let b = bind_ok (pair_read (lo, hi)) (λ range. number_read 1 1000 n >>= λ most. some_read name_read a.0 >>= λ at. Ok (make range most at)) a.2 in
    let c = bind_ok (number_read 1 1000 n) (λ most. some_read name_read a.0 >>= λ at. Ok (make b.0 most at)) b.2 in
    let d = bind_ok (some_read name_read a.0) (λ at. Ok (make b.0 c.0 at)) c.2 in
    let range = pair-is (lo, hi) b.0 b.1 in
    let most = number-is 1 1000 n c.0 c.1 in
    let at = some-name-is a.0 d.0 d.1 in
    let behind = at-is words a.0 a.1 ∙ ap at_words at.0 in
    record {
      range = b.0;
      most = c.0;
      at = d.0;
      made = ok_is (make b.0 c.0 d.0) q d.2;
      is = λ i. (range.0 i).0 ∷ (range.0 i).1 ∷ most.0 i ∷ behind i;
      range_fits = range.1;
      at_name = at.1;
      limit = most.1;
    }

scan-again : (make : Bounds → ℕ → Option (List ℕ) → Question) (range : Bounds) (most : ℕ) (at : Option (List ℕ)) → (has_bounds range && at_fits at) ≡ true → is_limit most ≡ true → scan_read make (range_words range ++ decimal most ∷ at_words at) ≡ Ok (make range most at)
scan-again make range most at h limit =
    let parts = and_parts (has_bounds range) (at_fits at) h in
    let high = leb-true most 1000 (and_parts (leb 1 most) (leb most 1000) limit).1 in
    ap (λ r. r >>= λ snap. pair_read (pair_words range) >>= λ b. number_read 1 1000 (decimal most) >>= λ n. some_read name_read snap >>= λ x. Ok (make b n x)) (at-again at)
    ∙ ap (λ r. r >>= λ b. number_read 1 1000 (decimal most) >>= λ n. some_read name_read at >>= λ x. Ok (make b n x)) (pair-again range parts.0)
    ∙ ap (λ r. r >>= λ n. some_read name_read at >>= λ x. Ok (make range n x)) (number-again 1 1000 most (omega arith) limit)
    ∙ ap (λ r. r >>= λ x. Ok (make range most x)) (some-name-again at parts.1)

scan-reads : (words : List (List ℕ)) (q : Question) → IsScan (λ r n a. Scan r n a) words q → ReadsQuestion (codes "scan") words q
scan-reads words q s = subst (λ x. ReadsQuestion (codes "scan") words x) s.made (record { is = ap (λ ws. codes "scan" ∷ ws) s.is; limits = and_from _ _ s.range_fits s.at_name; suited = s.limit })

rscan-reads : (words : List (List ℕ)) (q : Question) → IsScan (λ r n a. RScan r n a) words q → ReadsQuestion (codes "rscan") words q
rscan-reads words q s = subst (λ x. ReadsQuestion (codes "rscan") words x) s.made (record { is = ap (λ ws. codes "rscan" ∷ ws) s.is; limits = and_from _ _ s.range_fits s.at_name; suited = s.limit })

-- a move without a key
move-is : (v : List ℕ) (step : Step) → ((cursor : List ℕ) → v ∷ cursor ∷ [] ≡ question_words (Move cursor step)) → step_fits step ≡ true → (words : List (List ℕ)) (q : Question) → move_read step words ≡ Ok q → ReadsQuestion v words q
move-is v step spelled fit [] q e = cc
move-is v step spelled fit (c ∷ x ∷ words) q e = cc
move-is v step spelled fit (c ∷ []) q e =
    let a = bind_ok (name_read c) (λ name. Ok (Move name step)) e in
    let name = name-is c a.0 a.1 in
    subst (λ x. ReadsQuestion v (c ∷ []) x) (ok_is (Move a.0 step) q a.2) (record { is = ap (λ n. v ∷ n ∷ []) name.0 ∙ spelled a.0; limits = and_from _ _ name.1 fit; suited = refl })

move-again : (step : Step) (cursor : List ℕ) → (is_name cursor && step_fits step) ≡ true → move_read step (cursor ∷ []) ≡ Ok (Move cursor step)
move-again step cursor h = ap (λ r. r >>= λ n. Ok (Move n step)) (name-again cursor (and_parts (is_name cursor) _ h).0)

-- a move to a key
seek-is : (v : List ℕ) (make : List ℕ → Step) → ((cursor key : List ℕ) → v ∷ cursor ∷ string_word key ∷ [] ≡ question_words (Move cursor (make key))) → ((key : List ℕ) → is_key key ≡ true → step_fits (make key) ≡ true) → (words : List (List ℕ)) (q : Question) → seek_read make words ≡ Ok q → ReadsQuestion v words q
seek-is v make spelled fit [] q e = cc
seek-is v make spelled fit (c ∷ []) q e = cc
seek-is v make spelled fit (c ∷ k ∷ x ∷ words) q e = cc
seek-is v make spelled fit (c ∷ k ∷ []) q e =
    let a = bind_ok (name_read c) (λ name. key_read k >>= λ key. Ok (Move name (make key))) e in
    let b = bind_ok (key_read k) (λ key. Ok (Move a.0 (make key))) a.2 in
    let name = name-is c a.0 a.1 in
    let key = string-is 1 MAX_KEY k b.0 b.1 in
    subst (λ x. ReadsQuestion v (c ∷ k ∷ []) x) (ok_is (Move a.0 (make b.0)) q b.2)
    (record { is = (λ i. v ∷ name.0 i ∷ key.0 i ∷ []) ∙ spelled a.0 b.0; limits = and_from _ _ name.1 (fit b.0 key.1); suited = refl })

seek-again : (make : List ℕ → Step) (cursor key : List ℕ) → is_name cursor ≡ true → is_key key ≡ true → seek_read make (cursor ∷ string_word key ∷ []) ≡ Ok (Move cursor (make key))
seek-again make cursor key n k =
    ap (λ r. r >>= λ c. key_read (string_word key) >>= λ x. Ok (Move c (make x))) (name-again cursor n)
    ∙ ap (λ r. r >>= λ x. Ok (Move cursor (make x))) (string-again 1 MAX_KEY key k)

-- ---- questions

pub question-is : (v : ReadVerb) (words : List (List ℕ)) (q : Question) → question_read v words ≡ Ok q → ReadsQuestion (read_word v) words q
question-is reads.Get words q e = get-is words q e
question-is reads.Scan words q e = scan-reads words q (scan-is (λ r n a. Scan r n a) words q e)
question-is reads.RScan words q e = rscan-reads words q (scan-is (λ r n a. RScan r n a) words q e)
question-is reads.First words q e = move-is (codes "first") First (λ c. refl) refl words q e
question-is reads.Last words q e = move-is (codes "last") Last (λ c. refl) refl words q e
question-is reads.Next words q e = move-is (codes "next") Next (λ c. refl) refl words q e
question-is reads.Prev words q e = move-is (codes "prev") Prev (λ c. refl) refl words q e
question-is reads.Seek words q e = seek-is (codes "seek") (λ k. Seek k) (λ c k. refl) (λ k h. h) words q e
question-is reads.SeekLt words q e = seek-is (codes "seeklt") (λ k. SeekLt k) (λ c k. refl) (λ k h. h) words q e

-- the verb of a question, and the words behind it
pub record HasVerb (q : Question) : Type 0 where
  pub v : ReadVerb
  pub words : List (List ℕ)
  pub is : question_words q ≡ read_word v ∷ words
  pub reads : question_read v words ≡ Ok q

move-has : (cursor : List ℕ) (step : Step) → (is_name cursor && step_fits step) ≡ true → HasVerb (Move cursor step)
move-has cursor First h = record { v = reads.First; words = cursor ∷ []; is = refl; reads = move-again First cursor h }
move-has cursor Last h = record { v = reads.Last; words = cursor ∷ []; is = refl; reads = move-again Last cursor h }
move-has cursor Next h = record { v = reads.Next; words = cursor ∷ []; is = refl; reads = move-again Next cursor h }
move-has cursor Prev h = record { v = reads.Prev; words = cursor ∷ []; is = refl; reads = move-again Prev cursor h }
move-has cursor (Seek key) h = let p = and_parts (is_name cursor) (is_key key) h in record { v = reads.Seek; words = cursor ∷ string_word key ∷ []; is = refl; reads = seek-again (λ k. Seek k) cursor key p.0 p.1 }
move-has cursor (SeekLt key) h = let p = and_parts (is_name cursor) (is_key key) h in record { v = reads.SeekLt; words = cursor ∷ string_word key ∷ []; is = refl; reads = seek-again (λ k. SeekLt k) cursor key p.0 p.1 }

pub has-verb : (q : Question) → question_fits q ≡ true → suits_question q ≡ true → HasVerb q
has-verb (Get key at) h s = record { v = reads.Get; words = string_word key ∷ at_words at; is = refl; reads = get-again key at h }
has-verb (Scan range most at) h s = record { v = reads.Scan; words = range_words range ++ decimal most ∷ at_words at; is = refl; reads = scan-again (λ r n a. Scan r n a) range most at h s }
has-verb (RScan range most at) h s = record { v = reads.RScan; words = range_words range ++ decimal most ∷ at_words at; is = refl; reads = scan-again (λ r n a. RScan r n a) range most at h s }
has-verb (Move cursor step) h s = move-has cursor step h
