-- Words with a space before each.
use Rattle.std.proofs.Common.{◌≡◌, ℕ, ◌+◌, ◌<◌, List, [], ◌∷◌, ◌++◌, length, get_or, take, Result, Ok, Err, OnOk, if◌then◌else◌, ◌==◌, arith, sym, ap, ◌∙◌, append_assoc, append-nil}
use Rattle.std.proofs.lemmas.Grind.{common_steps}
use Rattle.std.proofs.lemmas.List.{take_more}
use Rattle.std.proofs.lemmas.List.Concat.{flat_map-append}
use Rattle.std.specs.Prelude.{codes}
use Rattle.std.specs.List.{flat_map, enumerate_from}
use Rattle.xdb_meta.specs.Table.{Table}
use Rattle.xdb_edit.specs.Versions.{LevelLists}
use Rattle.xdb_plain.specs.Printed.{spaced, or_none, level_words, levels_words}

-- `none` is put where no words were
pub spaced-or-none : (ws : List (List ℕ)) (old out new : List ℕ) (start : ℕ) → start ≡ length old → out ≡ old ++ spaced ws → new ≡ (if length out == start then out ++ 32 ∷ codes "none" else out) → new ≡ old ++ 32 ∷ or_none ws
spaced-or-none [] old out new start at is put = grind (arith, common_steps)
spaced-or-none (w ∷ ws) old out new start at is put = grind (arith, common_steps)

pub none-printed : {T E : Type 0} (r : Result T E) (words ws : List (List ℕ)) (old out new : List ℕ) (start : ℕ) → start ≡ length old → words ≡ ws → out ≡ old ++ spaced words → OnOk r (new ≡ (if length out == start then out ++ 32 ∷ codes "none" else out)) → OnOk r (new ≡ old ++ 32 ∷ or_none ws)
none-printed (Ok x) words ws old out new start at is first put = spaced-or-none ws old out new start at (first ∙ ap (λ xs. old ++ spaced xs) is) put
none-printed (Err e) words ws old out new start at is first put = tt

abbrev words_from : ℕ → LevelLists → List (List ℕ)
words_from n levels = flat_map (λ l. level_words l.0 l.1) (enumerate_from n levels)

-- one level more
words_from-more : (n : ℕ) (levels : LevelLists) (tables : List Table) (last : ℕ) → last ≡ n + length levels → words_from n (levels ++ tables ∷ []) ≡ words_from n levels ++ level_words last tables
words_from-more n [] tables last is =
    let e : n ≡ last = omega (arith, is) in
    append-nil (level_words n tables) ∙ ap (λ m. level_words m tables) e
words_from-more n (l ∷ ls) tables last is =
    let e : last ≡ n + 1 + length ls = omega (arith, is) in
    ap (λ ws. level_words n l ++ ws) (words_from-more (n + 1) ls tables last e)
    ∙ sym (append_assoc (level_words n l) (words_from (n + 1) ls) (level_words last tables))

length-front : (levels : LevelLists) (i : ℕ) → i < length levels → i ≡ 0 + length (take i levels)
length-front levels i below = grind (arith, common_steps)

pub levels-printed : (old mid new : List ℕ) (levels : LevelLists) (i : ℕ) (tables given : List Table) → i < length levels → tables ≡ given → given ≡ get_or levels i given → mid ≡ old ++ spaced (levels_words (take i levels)) → new ≡ mid ++ spaced (level_words i tables) → new ≡ old ++ spaced (levels_words (take (i + 1) levels))
levels-printed old mid new levels i tables given below is at front more =
    more ∙ ap (λ xs. xs ++ spaced (level_words i tables)) front ∙ append_assoc old _ _
    ∙ ap (λ xs. old ++ xs) (sym (flat_map-append (λ word. 32 ∷ word) (levels_words (take i levels)) (level_words i tables)))
    ∙ ap (λ ws. old ++ spaced ws) (sym (words_from-more 0 (take i levels) tables i (length-front levels i below)))
    ∙ ap (λ ts. old ++ spaced (levels_words (take i levels ++ ts ∷ []))) (is ∙ at)
    ∙ ap (λ ls. old ++ spaced (levels_words ls)) (sym (take_more levels i given below))
