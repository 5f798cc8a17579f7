-- Points and tombstones as rows.
use Rattle.std.proofs.Common.{◌≡◌, ℕ, ◌+◌, ◌-◌, ◌/◌, ◌%◌, ◌^◌, ◌<◌, ◌≤◌, true, false, cond, eqb, ltb, leb, List, [], length, drop, sym, ap, ◌∙◌, arith}
use Rattle.std.proofs.lemmas.Bool.{le-ltb, le-leb, or_left, or_right, and_from}
use Rattle.std.proofs.lemmas.List.{append-nil, length-append, take_at, drop_at}
use Rattle.byteorder.specs.Endian.{little_bytes, little_number}
use Rattle.byteorder.specs.Numbers.{little_number-reads_back}
use Rattle.xdb_key.specs.Entries.{Point, Tombstone, SuitsKind, IsPoint}
use Rattle.xdb_key.specs.Kinds.{kind_code, trailer}
use Rattle.xdb_key.specs.Limits.{IsKey, IsBound}
use Rattle.xdb_key.specs.Order.{is_below}
use Rattle.xdb_key.specs.declared.op.Kind.{Kind}
use Rattle.xdb_key.specs.declared.op.Kind.TheVariants as kinds
use Rattle.xdb_block.specs.declared.kind.BlockKind.TheVariants.{Point as point_kind, Spans as spans_kind}
use Rattle.xdb_block.specs.Rows.{user_part, trailer_part, is_within, is_point_key, is_span_key, suits}
use Rattle.xdb_table_w.specs.Content.{internal, point_row, span_row}
use Rattle.xdb_table_w.specs.Extents.{user, number}

length-internal : (key : List ℕ) (seq : ℕ) (kind : Kind) → length (internal key seq kind) ≡ length key + 8
length-internal key seq kind = length-append key (little_bytes 8 (trailer seq kind))

pub internal-user : (key : List ℕ) (seq : ℕ) (kind : Kind) → user_part (internal key seq kind) ≡ key
internal-user key seq kind = take_at key (little_bytes 8 (trailer seq kind)) (length (internal key seq kind) - 8) (omega (arith, length-internal key seq kind))

code-small : (kind : Kind) → kind_code kind < 256
code-small kinds.Del = omega arith
code-small kinds.Set = omega arith
code-small kinds.SpanDel = omega arith

pub internal-trailer : (key : List ℕ) (seq : ℕ) (kind : Kind) → seq < 2 ^ 56 → trailer_part (internal key seq kind) ≡ trailer seq kind
internal-trailer key seq kind small =
    let bytes = internal key seq kind in
    let len = length-internal key seq kind in
    let long : ltb (length bytes) 8 ≡ false = le-ltb (length bytes) 8 (omega arith) in
    let last : drop (length bytes - 8) bytes ≡ little_bytes 8 (trailer seq kind) = drop_at key (little_bytes 8 (trailer seq kind)) (length bytes - 8) (omega arith) in
    let read : little_number 8 (drop (length bytes - 8) bytes) ≡ trailer seq kind =
    ap (little_number 8) (last ∙ sym (append-nil (little_bytes 8 (trailer seq kind)))) ∙ little_number-reads_back 8 (trailer seq kind) [] (omega (arith, code-small kind)) in
    ap (λ b. cond b 0 (little_number 8 (drop (length bytes - 8) bytes))) long ∙ read

code_of : (key : List ℕ) (seq : ℕ) (kind : Kind) → seq < 2 ^ 56 → trailer_part (internal key seq kind) % 256 ≡ kind_code kind
code_of key seq kind small =
    let less = code-small kind in
    let code : trailer seq kind % 256 ≡ kind_code kind = omega arith in
    ap (λ n. n % 256) (internal-trailer key seq kind small) ∙ code

number_of : (key : List ℕ) (seq : ℕ) (kind : Kind) → seq < 2 ^ 56 → trailer_part (internal key seq kind) / 256 ≡ seq
number_of key seq kind small =
    let less = code-small kind in
    let seq_is : trailer seq kind / 256 ≡ seq = omega arith in
    ap (λ n. n / 256) (internal-trailer key seq kind small) ∙ seq_is

pub point_user : (p : Point) → user (point_row p) ≡ p.key
point_user p = internal-user p.key p.seq p.kind

pub point_number : (p : Point) → p.seq < 2 ^ 56 → number (point_row p) ≡ p.seq
point_number p small = number_of p.key p.seq p.kind small

pub span_user : (t : Tombstone) → user (span_row t) ≡ t.range.lo
span_user t = internal-user t.range.lo t.seq kinds.SpanDel

pub span_number : (t : Tombstone) → t.seq < 2 ^ 56 → number (span_row t) ≡ t.seq
span_number t small = number_of t.range.lo t.seq kinds.SpanDel small

pub within : (least most : ℕ) (bytes : List ℕ) → least ≤ length bytes → length bytes ≤ most → is_within least most (length bytes) ≡ true
within least most bytes low high = and_from _ _ (le-leb least (length bytes) low) (le-leb (length bytes) most high)

point_key : (p : Point) → p.seq < 2 ^ 56 → IsKey p.key → kind_code p.kind ≤ 1 → is_point_key (point_row p).key ≡ true
point_key p small key code =
    let is = internal-user p.key p.seq p.kind in
    and_from _ _ (ap (λ k. is_within 1 1024 (length k)) is ∙ within 1 1024 p.key key.0 key.1)
    (ap (λ n. leb n 1) (code_of p.key p.seq p.kind small) ∙ le-leb (kind_code p.kind) 1 code)

point_by : (key : List ℕ) (seq : ℕ) (kind : Kind) (value : List ℕ) → seq < 2 ^ 56 → SuitsKind kind value → IsKey key → suits point_kind (point_row (record { key = key; seq = seq; kind = kind; value = value })) ≡ true
point_by key seq kinds.Del value small fits k =
    let p : Point = record { key = key; seq = seq; kind = kinds.Del; value = value } in
    and_from _ _ (point_key p small k (omega arith)) (or_right _ _ (ap (λ v. eqb (length v) 0) fits))
point_by key seq kinds.Set value small fits k =
    let p : Point = record { key = key; seq = seq; kind = kinds.Set; value = value } in
    and_from _ _ (point_key p small k (omega arith)) (or_left _ _ (ap (λ n. eqb n 1) (code_of key seq kinds.Set small)))
point_by key seq kinds.SpanDel value small fits k = absurd fits

pub point_suits : (p : Point) → IsPoint p → IsKey p.key → suits point_kind (point_row p) ≡ true
point_suits p h k = point_by p.key p.seq p.kind p.value h.0 h.1 k

pub span_suits : (t : Tombstone) → t.seq < 2 ^ 56 → IsBound t.range.lo → IsBound t.range.hi → is_below t.range.lo t.range.hi ≡ true → suits spans_kind (span_row t) ≡ true
span_suits t small lo hi some =
    let is = internal-user t.range.lo t.seq kinds.SpanDel in
    let key : is_span_key (span_row t).key ≡ true =
    and_from _ _ (ap (λ k. is_within 1 1025 (length k)) is ∙ within 1 1025 t.range.lo lo.0 lo.1) (ap (λ n. eqb n 15) (code_of t.range.lo t.seq kinds.SpanDel small)) in
    and_from _ _ (and_from _ _ key (within 1 1025 t.range.hi hi.0 hi.1)) (ap (λ k. is_below k t.range.hi) is ∙ some)
