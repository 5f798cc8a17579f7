-- A commit is no longer as a batch than the line that spells it, or far below 1 MiB.
use Rattle.std.proofs.Common.{◌≡◌, ℕ, suc, ◌+◌, ◌*◌, ◌/◌, ◌%◌, ◌^◌, ◌<◌, ◌≤◌, Bool, true, false, cond, leb, ltb, List, [], ◌∷◌, ◌++◌, length, map, refl, sym, ap, subst, ◌∙◌, arith, codes}
use Rattle.std.specs.Prelude.{sum}
use Rattle.std.specs.List.{list_all, flat_map, filter, enumerate_from, slice_split, onto_first, join_with_byte}
use Rattle.std.proofs.lemmas.Bool.{and_parts, and_from, leb-true, le-leb, lt-ltb, cond-true}
use Rattle.std.proofs.lemmas.List.{length-append}
use Rattle.std.proofs.lemmas.List.Sums.{sum_by-cons}
use Rattle.std.proofs.lemmas.List.Splits.{join_with_byte-slice_split}
use Rattle.xdb_key.specs.Ops.{op_len, batch_len}
use Rattle.xdb_key.specs.Varint.{varint_len}
use Rattle.xdb_key.specs.declared.op.Op.{Op}
use Rattle.xdb_key.specs.declared.op.Op.TheVariants as op
use Rattle.xdb_plain.specs.Words.{is_plain, hex_digit, byte_word, string_word, op_words, ops_words, commit_words}
use Rattle.xdb_plain.specs.declared.act.CommitForm.{CommitForm}
use Rattle.xdb_plain.specs.declared.act.CommitForm.TheVariants as commit
use Rattle.xdb_script.specs.Grammar.{most_bytes, is_line_feed, words_in, without_empty_last, lines_in, says_something, said_in}
use Rattle.xdb_script.specs.Rules.{are_bytes, has_length, is_string, is_key, is_bound, is_value, op_fits}

-- ---- bytes and their words

at-most : (m : ℕ) (t : Bool) (x y : ℕ) → x ≤ m → y ≤ m → cond t x y ≤ m
at-most m true x y h k = h
at-most m false x y h k = k

varint-two : (n : ℕ) → n < 2 ^ 14 → varint_len n ≤ 2
varint-two n h = at-most 2 (ltb n (2 ^ 7)) 1 _ (omega arith) (subst (λ k. k ≤ 2) (sym (cond-true (ltb n (2 ^ 14)) 2 _ (lt-ltb n (2 ^ 14) h))) (omega arith))

varint-three : (n : ℕ) → n < 2 ^ 21 → varint_len n ≤ 3
varint-three n h =
    at-most 3 (ltb n (2 ^ 7)) 1 _ (omega arith) (at-most 3 (ltb n (2 ^ 14)) 2 _ (omega arith) (subst (λ k. k ≤ 3) (sym (cond-true (ltb n (2 ^ 21)) 3 _ (lt-ltb n (2 ^ 21) h))) (omega arith)))

string-most : (least most : ℕ) (bytes : List ℕ) → is_string least most bytes ≡ true → length bytes ≤ most
string-most least most bytes h = leb-true (length bytes) most (and_parts (leb least (length bytes)) _ (and_parts (are_bytes bytes) (has_length least most bytes) h).1).1

byte-long : (b : ℕ) (word : List ℕ) (t : Bool) → suc (length word) ≤ length (cond t (b ∷ []) (37 ∷ hex_digit (b / 16) ∷ hex_digit (b % 16) ∷ []) ++ word)
byte-long b word true = omega arith
byte-long b word false = omega arith

bytes-long : (bytes : List ℕ) → length bytes ≤ length (flat_map byte_word bytes)
bytes-long [] = omega arith
bytes-long (b ∷ bs) = let behind = bytes-long bs in let one = byte-long b (flat_map byte_word bs) (is_plain b) in omega arith

string-long : (bytes : List ℕ) → length bytes ≤ length (string_word bytes)
string-long [] = omega arith
string-long (b ∷ bs) = bytes-long (b ∷ bs)

-- ---- how many bytes words take with a space behind each

taken : List (List ℕ) → ℕ
taken [] = 0
taken (word ∷ words) = length word + 1 + taken words

taken-append : (xs ys : List (List ℕ)) → taken (xs ++ ys) ≡ taken xs + taken ys
unfolding taken
taken-append [] ys = omega arith
taken-append (x ∷ xs) ys = let behind = taken-append xs ys in omega arith

taken-joined : (word : List ℕ) (words : List (List ℕ)) → length (join_with_byte 32 (word ∷ words)) + 1 ≡ taken (word ∷ words)
unfolding taken
taken-joined word [] = omega arith
taken-joined word (next ∷ words) = let behind = taken-joined next words in omega (arith, length-append word (32 ∷ join_with_byte 32 (next ∷ words)))

part-long : (part word : List ℕ) (words : List (List ℕ)) → words_in part ≡ word ∷ words → length part + 1 ≡ taken (word ∷ words)
part-long part word words e = ap (λ bs. length bs + 1) (sym (join_with_byte-slice_split 32 part) ∙ ap (join_with_byte 32) e) ∙ taken-joined word words

-- ---- operations

sum-cons : (o : Op) (ops : List Op) → sum (map op_len (o ∷ ops)) ≡ op_len o + sum (map op_len ops)
sum-cons o ops = sum_by-cons (λ x. x) (op_len o) (map op_len ops)

record IsShort (o : Op) : Type 0 where
  spelled : op_len o ≤ taken (op_words o)
  small : op_len o ≤ 66571

op-short : (o : Op) → op_fits o ≡ true → IsShort o
unfolding taken
op-short (op.Set key value) h =
    let parts = and_parts (is_key key) (is_value value) h in
    let k = string-most 1 1024 key parts.0 in
    let v = string-most 0 65536 value parts.1 in
    let kv = varint-two (length key) (omega arith) in
    let vv = varint-three (length value) (omega arith) in
    let kl = string-long key in
    let vl = string-long value in
    record { spelled = omega arith; small = omega arith }
op-short (op.Del key) h =
    let k = string-most 1 1024 key h in
    let kv = varint-two (length key) (omega arith) in
    let kl = string-long key in
    record { spelled = omega arith; small = omega arith }
op-short (op.DelSpan range) h =
    let parts = and_parts (is_bound range.lo) (is_bound range.hi) h in
    let a = string-most 1 1025 range.lo parts.0 in
    let b = string-most 1 1025 range.hi parts.1 in
    let av = varint-two (length range.lo) (omega arith) in
    let bv = varint-two (length range.hi) (omega arith) in
    let al = string-long range.lo in
    let bl = string-long range.hi in
    record { spelled = omega arith; small = omega arith }

behind-short : (ops : List Op) → list_all op_fits ops ≡ true → sum (map op_len ops) + 2 * length ops ≤ taken (flat_map (λ next. codes ";" ∷ op_words next) ops)
unfolding taken
behind-short [] h = omega arith
behind-short (o ∷ ops) h =
    let parts = and_parts (op_fits o) _ h in
    let one = (op-short o parts.0).spelled in
    let others = behind-short ops parts.1 in
    omega (arith, sum-cons o ops, taken-append (op_words o) (flat_map (λ next. codes ";" ∷ op_words next) ops))

ops-short : (o : Op) (ops : List Op) → list_all op_fits (o ∷ ops) ≡ true → sum (map op_len (o ∷ ops)) + 2 * length ops ≤ taken (ops_words (o ∷ ops))
ops-short o ops h =
    let parts = and_parts (op_fits o) _ h in
    let one = (op-short o parts.0).spelled in
    let others = behind-short ops parts.1 in
    omega (arith, sum-cons o ops, taken-append (op_words o) (flat_map (λ next. codes ";" ∷ op_words next) ops))

-- three operations or more are spelled as a batch
three-words : (f : CommitForm) (o p q : Op) (ops : List Op) → commit_words f (o ∷ p ∷ q ∷ ops) ≡ codes "batch" ∷ ops_words (o ∷ p ∷ q ∷ ops)
three-words commit.Batch o p q ops = refl
three-words commit.Put (op.Set key value) p q ops = refl
three-words commit.Put (op.Del key) p q ops = refl
three-words commit.Put (op.DelSpan range) p q ops = refl
three-words commit.Del (op.Set key value) p q ops = refl
three-words commit.Del (op.Del key) p q ops = refl
three-words commit.Del (op.DelSpan range) p q ops = refl
three-words commit.DelSpan (op.Set key value) p q ops = refl
three-words commit.DelSpan (op.Del key) p q ops = refl
three-words commit.DelSpan (op.DelSpan range) p q ops = refl

-- a commit that a line of at most 1 MiB spells is at most 1 MiB as a batch
pub commit-short : (part who : List ℕ) (f : CommitForm) (ops : List Op) → list_all op_fits ops ≡ true → words_in part ≡ who ∷ commit_words f ops → length part ≤ most_bytes → batch_len ops ≤ 1048576
unfolding taken
commit-short part who f [] h e short = omega arith
commit-short part who f (o ∷ []) h e short =
    let one = (op-short o (and_parts (op_fits o) _ h).0).small in
    omega (arith, sum-cons o [])
commit-short part who f (o ∷ p ∷ []) h e short =
    let parts = and_parts (op_fits o) _ h in
    let one = (op-short o parts.0).small in
    let two = (op-short p (and_parts (op_fits p) _ parts.1).0).small in
    omega (arith, sum-cons o (p ∷ []), sum-cons p [])
commit-short part who f (o ∷ p ∷ q ∷ []) h e short =
    let parts = and_parts (op_fits o) _ h in
    let more = and_parts (op_fits p) _ parts.1 in
    let one = (op-short o parts.0).small in
    let two = (op-short p more.0).small in
    let three = (op-short q (and_parts (op_fits q) _ more.1).0).small in
    omega (arith, sum-cons o (p ∷ q ∷ []), sum-cons p (q ∷ []), sum-cons q [])
commit-short part who f (o ∷ p ∷ q ∷ r ∷ ops) h e short =
    let long = part-long part who _ (e ∙ ap (λ ws. who ∷ ws) (three-words f o p q (r ∷ ops))) in
    let all = ops-short o (p ∷ q ∷ r ∷ ops) h in
    omega arith

-- ---- the parts of a list are no longer than it

abbrev are_short : ℕ → List (List ℕ) → Bool
are_short m parts = list_all (λ part. leb (length part) m) parts

-- the first part may have `k` bytes more in front
record AreShort (k m : ℕ) (parts : List (List ℕ)) : Type 0 where
  part : List ℕ
  others : List (List ℕ)
  are : parts ≡ part ∷ others
  first : length part + k ≤ m
  behind : are_short m others ≡ true

split-short-by : (x k m : ℕ) (t : Bool) (parts : List (List ℕ)) → k ≤ m → AreShort (suc k) m parts → AreShort k m (cond t ([] ∷ parts) (onto_first x parts))
split-short-by x k m true parts few h =
    let first = h.first in
    record {
      part = [];
      others = parts;
      are = refl;
      first = omega arith;
      behind = ap (are_short m) h.are ∙ and_from (leb (length h.part) m) _ (le-leb (length h.part) m (omega arith)) h.behind;
    }
split-short-by x k m false parts few h =
    let first = h.first in
    record { part = x ∷ h.part; others = h.others; are = ap (onto_first x) h.are; first = omega arith; behind = h.behind }

split-short : (test : ℕ → Bool) (xs : List ℕ) (k m : ℕ) → length xs + k ≤ m → AreShort k m (slice_split test xs)
split-short test [] k m h = record { part = []; others = []; are = refl; first = h; behind = refl }
split-short test (x ∷ xs) k m h = split-short-by x k m (test x) (slice_split test xs) (omega arith) (split-short test xs (suc k) m (omega arith))

without-last : (m : ℕ) (parts : List (List ℕ)) → are_short m parts ≡ true → are_short m (without_empty_last parts) ≡ true
without-last m [] h = refl
without-last m ([] ∷ []) h = refl
without-last m ([] ∷ p ∷ parts) h =
    let both = and_parts (leb 0 m) (are_short m (p ∷ parts)) h in
    and_from (leb 0 m) _ both.0 (without-last m (p ∷ parts) both.1)
without-last m ((b ∷ bs) ∷ parts) h =
    let both = and_parts (leb (length (b ∷ bs)) m) (are_short m parts) h in
    and_from (leb (length (b ∷ bs)) m) _ both.0 (without-last m parts both.1)

-- parts with numbers
abbrev pub parts_short : List (ℕ × List ℕ) → Bool
parts_short parts = list_all (λ part. leb (length part.1) most_bytes) parts

filtered-by : (n : ℕ) (part : List ℕ) (others : List (ℕ × List ℕ)) (t : Bool) → leb (length part) most_bytes ≡ true → parts_short others ≡ true → parts_short (cond t ((n, part) ∷ others) others) ≡ true
filtered-by n part others true h k = and_from (leb (length part) most_bytes) _ h k
filtered-by n part others false h k = k

filtered : (n : ℕ) (parts : List (List ℕ)) → are_short most_bytes parts ≡ true → parts_short (filter (λ part. says_something part.1) (enumerate_from n parts)) ≡ true
filtered n [] h = refl
filtered n (part ∷ parts) h =
    let both = and_parts (leb (length part) most_bytes) (are_short most_bytes parts) h in
    filtered-by n part (filter (λ p. says_something p.1) (enumerate_from (n + 1) parts)) (says_something part) both.0 (filtered (n + 1) parts both.1)

-- no line of a script is longer than the script
pub said-short : (bytes : List ℕ) → length bytes ≤ most_bytes → parts_short (said_in bytes) ≡ true
said-short bytes h =
    let split = split-short is_line_feed bytes 0 most_bytes (omega arith) in
    let first = split.first in
    let all : are_short most_bytes (slice_split is_line_feed bytes) ≡ true =
    ap (are_short most_bytes) split.are ∙ and_from (leb (length split.part) most_bytes) _ (le-leb (length split.part) most_bytes (omega arith)) split.behind in
    filtered 1 (lines_in bytes) (without-last most_bytes (slice_split is_line_feed bytes) all)
