-- Rows in order: their parts, and the index made of them.
use Rattle.std.proofs.Common.{◌≡◌, ℕ, ◌+◌, ◌^◌, ◌<◌, ◌≤◌, true, List, [], ◌∷◌, ◌++◌, length, Option, Some, None, Ok, refl, sym, ap, ◌∙◌, subst, arith}
use Rattle.std.specs.List.{AllByRecursion}
use Rattle.std.proofs.lemmas.Bool.{and_parts, and_from}
use Rattle.std.proofs.lemmas.List.{append-nil, length-append}
use Rattle.std.proofs.lemmas.List.Concat.{flat_map-cons}
use Rattle.xdb_key.proofs.VarintLaws.{varint_at-again}
use Rattle.xdb_key.specs.Reading.{◌>>=◌}
use Rattle.xdb_key.specs.Varint.{varint, varint_at}
use Rattle.xdb_block.specs.declared.kind.BlockKind.{BlockKind}
use Rattle.xdb_block.specs.declared.kind.BlockKind.TheVariants.{Point, Spans, Index}
use Rattle.xdb_block.specs.Kept.{last_key}
use Rattle.xdb_block.specs.Rows.{Row, row, user_part, trailer_part, precedes, is_point_key, is_handle, is_whole, is_apart, suits, follows, Follow}
use Rattle.xdb_block.specs.Spelling.{block_bytes}
use Rattle.xdb_block.proofs.SeekLaws.{before_trans}
use Rattle.xdb_table_w.specs.Content.{last_of, goes_behind, lies_behind}
use Rattle.xdb_table_w.specs.Files.{joined, part, parts, handle, index_from}

-- ---- parts

pub follow_append : (kind : BlockKind) (last : Option Row) (xs ys : List Row) → Follow kind last (xs ++ ys) → Follow kind last xs × Follow kind (last_of last xs) ys
follow_append kind last [] ys h = (tt, h)
follow_append kind last (r ∷ xs) ys h =
    let rest = follow_append kind (Some r) xs ys h.1 in
    ((h.0, rest.0), rest.1)

pub follow_push : (kind : BlockKind) (last : Option Row) (xs : List Row) (r : Row) → Follow kind last xs → follows kind (last_of last xs) r ≡ true → Follow kind last (xs ++ r ∷ [])
follow_push kind last [] r h e = (e, tt)
follow_push kind last (q ∷ xs) r h e = (h.0, follow_push kind (Some q) xs r h.1 e)

pub follows_suits : (kind : BlockKind) (last : Option Row) (r : Row) → follows kind last r ≡ true → suits kind r ≡ true
follows_suits kind None r h = h
follows_suits kind (Some last) r h = (and_parts _ _ (and_parts _ _ h).0).0

pub follow_any : (kind : BlockKind) (last : Option Row) (xs : List Row) → Follow kind last xs → Follow kind None xs
follow_any kind last [] h = tt
follow_any kind last (r ∷ xs) h = (follows_suits kind last r h.0, h.1)

pub point_follows : (last : Option Row) (r : Row) → suits Point r ≡ true → goes_behind last r ≡ true → follows Point last r ≡ true
point_follows None r fits behind = fits
point_follows (Some last) r fits behind = and_from _ _ (and_from _ _ fits behind) refl

pub span_follows : (last : Option Row) (r : Row) → suits Spans r ≡ true → lies_behind last r ≡ true → follows Spans last r ≡ true
span_follows None r fits behind = fits
span_follows (Some last) r fits behind =
    let b = and_parts (precedes last.key r.key) (is_apart last r) behind in
    and_from _ _ (and_from _ _ fits b.0) b.1

pub joined-cons : (b : List Row) (bs : List (List Row)) → joined (b ∷ bs) ≡ b ++ joined bs
joined-cons b bs = flat_map-cons (λ (x : List Row). x) b bs

blocks_from : (last : Option Row) (blocks : List (List Row)) → Follow Point last (joined blocks) → AllByRecursion (λ b. Follow Point None b) blocks
blocks_from last [] h = tt
blocks_from last (b ∷ bs) h =
    let p = follow_append Point last b (joined bs) (subst (Follow Point last) (joined-cons b bs) h) in
    (follow_any Point last b p.0, blocks_from (last_of last b) bs p.1)

pub blocks_follow : (blocks : List (List Row)) → Follow Point None (joined blocks) → AllByRecursion (λ b. Follow Point None b) blocks
blocks_follow blocks h = blocks_from None blocks h

-- ---- the last key of a block

precedes_trans : (a b c : List ℕ) → precedes a b ≡ true → precedes b c ≡ true → precedes a c ≡ true
precedes_trans a b c h g = before_trans (user_part c) (trailer_part c) a b h g

precedes_last : (q : Row) (xs : List Row) → Follow Point (Some q) xs → 1 ≤ length xs → precedes q.key (last_key [] xs) ≡ true
precedes_last q [] h some = absurd (omega arith)
precedes_last q (r ∷ []) h some = (and_parts _ _ (and_parts _ _ h.0).0).1
precedes_last q (r ∷ s ∷ xs) h some =
    let first = (and_parts (suits Point r) (precedes q.key r.key) (and_parts _ _ h.0).0).1 in
    precedes_trans q.key r.key (last_key [] (r ∷ s ∷ xs)) first (precedes_last r (s ∷ xs) h.1 (omega arith))

pub last_point : (last : Option Row) (xs : List Row) → Follow Point last xs → 1 ≤ length xs → is_point_key (last_key [] xs) ≡ true
last_point last [] h some = absurd (omega arith)
last_point last (r ∷ []) h some = (and_parts _ _ (follows_suits Point last r h.0)).0
last_point last (r ∷ s ∷ xs) h some = last_point (Some r) (s ∷ xs) h.1 (omega arith)

-- the row before is the one whose key it is
abbrev HasKey : List ℕ → Option Row → Type 0
HasKey key None = ⊥
HasKey key (Some r) = r.key ≡ key

last_has : (last : Option Row) (xs : List Row) → 1 ≤ length xs → HasKey (last_key [] xs) (last_of last xs)
last_has last [] some = absurd (omega arith)
last_has last (r ∷ []) some = refl
last_has last (r ∷ s ∷ xs) some = last_has (Some r) (s ∷ xs) (omega arith)

-- ---- the index

handle_is : (at len : ℕ) → at < 2 ^ 63 → len < 2 ^ 63 → is_handle (handle at len) ≡ true
handle_is at len small_at small_len =
    let first : varint_at (handle at len) ≡ Ok (at, varint len) = varint_at-again at (varint len) small_at in
    let second : varint_at (varint len) ≡ Ok (len, []) = ap varint_at (sym (append-nil (varint len))) ∙ varint_at-again len [] small_len in
    ap (λ r. is_whole (r >>= λ offset. varint_at offset.1)) first ∙ ap is_whole second

-- an index row before, if there is one, has the key of the last row before
abbrev Tied : Option Row → Option Row → Type 0
Tied None last = last ≡ None
Tied (Some q) last = HasKey q.key last

index_step : (q last : Option Row) (b : List Row) (value : List ℕ) → Tied q last → Follow Point last b → 1 ≤ length b → is_handle value ≡ true → follows Index q (row (last_key [] b) value) ≡ true
index_step None last b value tied h some fits = and_from _ _ (last_point last b h some) fits
index_step (Some q) None b value tied h some fits = absurd tied
index_step (Some q) (Some l) b value tied h some fits =
    let before : precedes q.key (last_key [] b) ≡ true = ap (λ k. precedes k (last_key [] b)) (sym tied) ∙ precedes_last l b h some in
    and_from _ _ (and_from _ _ (and_from _ _ (last_point (Some l) b h some) fits) before) refl

index_follows : (interval at : ℕ) (q last : Option Row) (blocks : List (List Row)) → Tied q last → Follow Point last (joined blocks) → AllByRecursion (λ b. 1 ≤ length b) blocks → at + length (parts interval blocks) < 2 ^ 63
    → Follow Index q (index_from interval at blocks)
index_follows interval at q last [] tied h some small = tt
index_follows interval at q last (b ∷ bs) tied h some small =
    let p = follow_append Point last b (joined bs) (subst (Follow Point last) (joined-cons b bs) h) in
    let len = ap length (flat_map-cons (part interval) b bs) ∙ length-append (part interval b) (parts interval bs) in
    let block = length-append (block_bytes interval b) (0 ∷ []) in
    let here = index_step q last b (handle at (length (block_bytes interval b))) tied p.0 some.0 (handle_is at (length (block_bytes interval b)) (omega arith) (omega arith)) in
    (here, index_follows interval (at + length (part interval b)) (Some (row (last_key [] b) (handle at (length (block_bytes interval b))))) (last_of last b) bs (last_has last b some.0) p.1 some.1 (omega arith))

pub index_follow : (interval : ℕ) (blocks : List (List Row)) → Follow Point None (joined blocks) → AllByRecursion (λ b. 1 ≤ length b) blocks → length (parts interval blocks) < 2 ^ 63 → Follow Index None (index_from interval 0 blocks)
index_follow interval blocks h some small = index_follows interval 0 None None blocks refl h some (omega arith)

pub length-index : (interval at : ℕ) (blocks : List (List Row)) → length (index_from interval at blocks) ≡ length blocks
length-index interval at [] = refl
length-index interval at (b ∷ bs) =
    let rest = length-index interval (at + length (part interval b)) bs in
    omega arith

-- one block more
pub index_more : (interval at : ℕ) (blocks : List (List Row)) (b : List Row) → index_from interval at (blocks ++ b ∷ []) ≡ index_from interval at blocks ++ row (last_key [] b) (handle (at + length (parts interval blocks)) (length (block_bytes interval b))) ∷ []
index_more interval at [] b =
    let none : at ≡ at + 0 = omega arith in
    ap (λ n. row (last_key [] b) (handle n (length (block_bytes interval b))) ∷ []) none
index_more interval at (c ∷ bs) b =
    let len : at + length (part interval c) + length (parts interval bs) ≡ at + length (parts interval (c ∷ bs)) =
    omega (arith, ap length (flat_map-cons (part interval) c bs), length-append (part interval c) (parts interval bs)) in
    let first = row (last_key [] c) (handle at (length (block_bytes interval c))) in
    ap (λ rows. first ∷ rows) (index_more interval (at + length (part interval c)) bs b
    ∙ ap (λ n. index_from interval (at + length (part interval c)) bs ++ row (last_key [] b) (handle n (length (block_bytes interval b))) ∷ []) len)
