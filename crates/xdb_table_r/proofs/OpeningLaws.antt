-- What the parts of a file read as, step by step.
use Rattle.std.proofs.Common.{◌≡◌, ℕ, ◌-◌, ◌<◌, ◌≤◌, Bool, false, cond, eqb, List, [], length, drop, Option, Some, None, IfSome, Result, Ok, Err, inl, inr, refl, sym, ap, ◌∙◌, arith}
use Rattle.std.specs.List.{slice_range}
use Rattle.std.proofs.lemmas.Bool.{lt-ltb, le-ltb, eq-eqb, cases_Bool, eqb-true}
use Rattle.xdb_key.specs.Reading.{◌>>=◌}
use Rattle.xdb_block.specs.declared.kind.BlockKind.{BlockKind}
use Rattle.xdb_block.specs.declared.kind.BlockKind.TheVariants as kinds
use Rattle.xdb_block.specs.Rows.{Row}
use Rattle.xdb_table_r.specs.declared.part.Layout.{Layout}
use Rattle.xdb_table_r.specs.declared.part.Part.{Part}
use Rattle.xdb_table_r.specs.Parts.{part_at, rows_at, follow_on}
use Rattle.xdb_key.specs.Entries.{Tombstone}
use Rattle.xdb_table_r.specs.declared.error.TableNo.{TableNo}
use Rattle.xdb_table_r.specs.Opening.{IsNo, layout_at, laid_out, footer_at, points_end, tiled, index_at, tombstones, spans_at, opened, opened_at}
use Rattle.xdb_table_r.proofs.Lists.{range_to_end}
use Rattle.xdb_table_r.proofs.TellLaws.{no_then}

-- ---- the footer

pub footer_short : (file : List ℕ) → length file < 40 → footer_at file ≡ Err 0
unfolding footer_at
footer_short file small = ap (λ b. cond b (Err 0) (laid_out (length file - 40) (layout_at (length file - 40) (drop (length file - 40) file)))) (lt-ltb (length file) 40 small)

pub footer_is : (file bytes : List ℕ) (size : ℕ) (o : Option Layout) → length file ≡ size → 40 ≤ size → bytes ≡ slice_range file (size - 40) size → layout_at (size - 40) bytes ≡ o → footer_at file ≡ laid_out (size - 40) o
unfolding footer_at
footer_is file bytes size o is long range read =
    ap (λ b. cond b (Err 0) (laid_out (length file - 40) (layout_at (length file - 40) (drop (length file - 40) file)))) (le-ltb (length file) 40 (omega arith))
    ∙ ap (λ n. laid_out (n - 40) (layout_at (n - 40) (drop (n - 40) file))) is
    ∙ ap (λ x. laid_out (size - 40) (layout_at (size - 40) x)) (sym (range ∙ range_to_end file (size - 40) size is))
    ∙ ap (laid_out (size - 40)) read

-- ---- a part that may be left out

pub rows_none : (kind : BlockKind) (p : Part) (file : List ℕ) → p.len ≡ 0 → rows_at kind p file ≡ Ok []
rows_none kind p file none = ap (λ b. cond b (Ok []) (part_at kind p file)) (eq-eqb p.len 0 none)

pub not_zero : (n : ℕ) → 1 ≤ n → eqb n 0 ≡ false
not_zero n some = elim (cases_Bool (eqb n 0)) [
  | inl e ↦ let is = eqb-true n 0 e in absurd (omega arith)
  | inr e ↦ e
]

pub rows_some : (kind : BlockKind) (p : Part) (file : List ℕ) → 1 ≤ p.len → rows_at kind p file ≡ part_at kind p file
rows_some kind p file some = ap (λ b. cond b (Ok []) (part_at kind p file)) (not_zero p.len some)

-- ---- the index

pub index_none : (l : Layout) (file : List ℕ) → l.index.len ≡ 0 → points_end l ≡ 0 → index_at l file ≡ Ok []
unfolding index_at
index_none l file none end =
    ap (λ r. r >>= tiled l.index.at (points_end l)) (rows_none kinds.Index l.index file none) ∙ ap (λ b. cond b (Ok []) (Err l.index.at)) (eq-eqb 0 (points_end l) (sym end))

pub index_some : (l : Layout) (file : List ℕ) (r : Result (List Row) ℕ) → 1 ≤ l.index.len → part_at kinds.Index l.index file ≡ r → index_at l file ≡ (r >>= tiled l.index.at (points_end l))
unfolding index_at
index_some l file r some is = ap (λ x. x >>= tiled l.index.at (points_end l)) (rows_some kinds.Index l.index file some ∙ is)

pub index_whole : (l : Layout) (file : List ℕ) (rows : List Row) (b : Bool) → 1 ≤ l.index.len → part_at kinds.Index l.index file ≡ Ok rows → follow_on 0 (points_end l) rows ≡ b → index_at l file ≡ cond b (Ok rows) (Err l.index.at)
index_whole l file rows b some is follow = index_some l file (Ok rows) some is ∙ ap (λ x. cond x (Ok rows) (Err l.index.at)) follow

-- ---- the spans

pub spans_none : (p : Part) (file : List ℕ) → p.len ≡ 0 → spans_at p file ≡ Ok []
unfolding spans_at
spans_none p file none = ap (λ r. r >>= λ rows. Ok (tombstones rows)) (rows_none kinds.Spans p file none)

pub spans_some : (p : Part) (file : List ℕ) (r : Result (List Row) ℕ) → 1 ≤ p.len → part_at kinds.Spans p file ≡ r → spans_at p file ≡ (r >>= λ rows. Ok (tombstones rows))
unfolding spans_at
spans_some p file r some is = ap (λ x. x >>= λ rows. Ok (tombstones rows)) (rows_some kinds.Spans p file some ∙ is)

-- ---- the same of a file that may tell its bytes

pub told_short : (known : Option (List ℕ)) (size backing : ℕ) → IfSome known (λ b. length b ≡ size) → size < 40 → IfSome known (λ b. (backing ≡ backing) × (footer_at b ≡ Err 0))
told_short None size backing is small = tt
told_short (Some b) size backing is small = (refl, footer_short b (omega arith))

pub told_footer : (known : Option (List ℕ)) (size : ℕ) (bytes : List ℕ) (o : Option Layout) → IfSome known (λ b. length b ≡ size) → 40 ≤ size → IfSome known (λ b. bytes ≡ slice_range b (size - 40) size)
    → layout_at (size - 40) bytes ≡ o → IfSome known (λ b. footer_at b ≡ laid_out (size - 40) o)
told_footer None size bytes o is long range read = tt
told_footer (Some b) size bytes o is long range read = footer_is b bytes size o is long range read

-- with the number that is named
pub told_named : (known : Option (List ℕ)) {Y : Type 0} (at : ℕ) (backing : ℕ) (read : List ℕ → Result Y ℕ) → IfSome known (λ b. read b ≡ Err at) → IfSome known (λ b. (backing ≡ backing) × (read b ≡ Err at))
told_named None at backing read h = tt
told_named (Some b) at backing read h = (refl, h)

pub told_no_index : (known : Option (List ℕ)) (l : Layout) → l.index.len ≡ 0 → points_end l ≡ 0 → IfSome known (λ b. index_at l b ≡ Ok [])
told_no_index None l none end = tt
told_no_index (Some b) l none end = index_none l b none end

pub told_bad_index : (known : Option (List ℕ)) (backing : ℕ) (e : TableNo) (l : Layout) → 1 ≤ l.index.len → IfSome known (λ b. IsNo backing e (part_at kinds.Index l.index b)) → IfSome known (λ b. IsNo backing e (index_at l b))
told_bad_index None backing e l some h = tt
told_bad_index (Some b) backing e l some h = no_then backing e (part_at kinds.Index l.index b) (index_at l b) (λ at is. index_some l b (Err at) some is) h

pub told_index : (known : Option (List ℕ)) (l : Layout) (rows : List Row) (t : Bool) → 1 ≤ l.index.len → IfSome known (λ b. part_at kinds.Index l.index b ≡ Ok rows) → follow_on 0 (points_end l) rows ≡ t
    → IfSome known (λ b. index_at l b ≡ cond t (Ok rows) (Err l.index.at))
told_index None l rows t some h follow = tt
told_index (Some b) l rows t some h follow = index_whole l b rows t some h follow

pub told_no_spans : (known : Option (List ℕ)) (p : Part) (made : List Tombstone) → p.len ≡ 0 → made ≡ [] → IfSome known (λ b. spans_at p b ≡ Ok made)
told_no_spans None p made none is = tt
told_no_spans (Some b) p made none is = spans_none p b none ∙ ap Ok (sym is)

pub told_bad_spans : (known : Option (List ℕ)) (backing : ℕ) (e : TableNo) (p : Part) → 1 ≤ p.len → IfSome known (λ b. IsNo backing e (part_at kinds.Spans p b)) → IfSome known (λ b. IsNo backing e (spans_at p b))
told_bad_spans None backing e p some h = tt
told_bad_spans (Some b) backing e p some h = no_then backing e (part_at kinds.Spans p b) (spans_at p b) (λ at is. spans_some p b (Err at) some is) h

pub told_spans : (known : Option (List ℕ)) (p : Part) (rows : List Row) (made : List Tombstone) → 1 ≤ p.len → IfSome known (λ b. part_at kinds.Spans p b ≡ Ok rows) → made ≡ tombstones rows → IfSome known (λ b. spans_at p b ≡ Ok made)
told_spans None p rows made some h is = tt
told_spans (Some b) p rows made some h is = spans_some p b (Ok rows) some h ∙ ap Ok (sym is)

-- ---- the whole file

pub opened_no_footer : (file : List ℕ) (at : ℕ) → footer_at file ≡ Err at → opened_at file ≡ Err at
unfolding opened_at
opened_no_footer file at e = ap (λ r. r >>= λ l. index_at l file >>= λ index. spans_at l.spans file >>= λ spans. Ok (opened spans index (points_end l))) e

opened_index : (file : List ℕ) (l : Layout) (r : Result (List Row) ℕ) → footer_at file ≡ Ok l → index_at l file ≡ r → opened_at file ≡ (r >>= λ index. spans_at l.spans file >>= λ spans. Ok (opened spans index (points_end l)))
unfolding opened_at
opened_index file l r e f =
    ap (λ x. x >>= λ l2. index_at l2 file >>= λ index. spans_at l2.spans file >>= λ spans. Ok (opened spans index (points_end l2))) e
    ∙ ap (λ (x : Result (List Row) ℕ). x >>= λ index. spans_at l.spans file >>= λ spans. Ok (opened spans index (points_end l))) f

pub opened_spans : (file : List ℕ) (l : Layout) (index : List Row) (r : Result (List Tombstone) ℕ) → footer_at file ≡ Ok l → index_at l file ≡ Ok index → spans_at l.spans file ≡ r → opened_at file ≡ (r >>= λ spans. Ok (opened spans index (points_end l)))
opened_spans file l index r e f h = opened_index file l (Ok index) e f ∙ ap (λ (x : Result (List Tombstone) ℕ). x >>= λ spans. Ok (opened spans index (points_end l))) h

pub told_opened_no_footer : (known : Option (List ℕ)) (backing : ℕ) (e : TableNo) → IfSome known (λ b. IsNo backing e (footer_at b)) → IfSome known (λ b. IsNo backing e (opened_at b))
told_opened_no_footer None backing e h = tt
told_opened_no_footer (Some b) backing e h = no_then backing e (footer_at b) (opened_at b) (λ at is. opened_no_footer b at is) h

pub told_opened_no_index : (known : Option (List ℕ)) (backing : ℕ) (e : TableNo) (l : Layout) → IfSome known (λ b. footer_at b ≡ Ok l) → IfSome known (λ b. IsNo backing e (index_at l b)) → IfSome known (λ b. IsNo backing e (opened_at b))
told_opened_no_index None backing e l f h = tt
told_opened_no_index (Some b) backing e l f h = no_then backing e (index_at l b) (opened_at b) (λ at is. opened_index b l (Err at) f is) h

pub told_opened_no_spans : (known : Option (List ℕ)) (backing : ℕ) (e : TableNo) (l : Layout) (index : List Row) → IfSome known (λ b. footer_at b ≡ Ok l) → IfSome known (λ b. index_at l b ≡ Ok index) → IfSome known (λ b. IsNo backing e (spans_at l.spans b)) → IfSome known (λ b. IsNo backing e (opened_at b))
told_opened_no_spans None backing e l index f i h = tt
told_opened_no_spans (Some b) backing e l index f i h = no_then backing e (spans_at l.spans b) (opened_at b) (λ at is. opened_spans b l index (Err at) f i is) h

pub told_opened : (known : Option (List ℕ)) (l : Layout) (index : List Row) (spans : List Tombstone) (end : ℕ) → IfSome known (λ b. footer_at b ≡ Ok l) → IfSome known (λ b. index_at l b ≡ Ok index) → IfSome known (λ b. spans_at l.spans b ≡ Ok spans) → end ≡ points_end l
    → IfSome known (λ b. opened_at b ≡ Ok (opened spans index end))
told_opened None l index spans end f i h is = tt
told_opened (Some b) l index spans end f i h is = opened_spans b l index (Ok spans) f i h ∙ ap (λ n. Ok (opened spans index n)) (sym is)
