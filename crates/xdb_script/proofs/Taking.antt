-- Parts taken one after the other: the lines so far, and what the parts that are left come to.
use Rattle.std.proofs.Common.{◌≡◌, ℕ, ◌+◌, ◌<◌, ◌≤◌, Bool, true, false, cond, not, ltb, ◌||◌, List, [], ◌∷◌, ◌++◌, length, get_or, drop, filter, append_assoc, append-nil, Option, Some, None, Result, Ok, Err, refl, sym, ap, subst, ◌∙◌, arith, is_some, IfOk, IfErr}
use Rattle.std.specs.Borrow.{Bor}
use Rattle.std.specs.Ordering.{eq_by_cmp}
use Rattle.std.specs.List.{enumerate_from, list_all, slice_split}
use Rattle.std.proofs.lemmas.Bool.{le-ltb, cond-false, lt-ltb, cond-true}
use Rattle.std.proofs.lemmas.List.{drop_more, drop_all, length-append}
use Rattle.std.proofs.Math.Bool.{or_comm}
use Rattle.xdb_key.proofs.ReadingLaws.{bind_ok}
use Rattle.xdb_key.specs.Order.{key_cmp}
use Rattle.xdb_key.specs.Reading.{◌>>=◌}
use Rattle.xdb_plain.specs.Scripts.{found_table, is_script, tables_below}
use Rattle.xdb_plain.specs.State.{same_name}
use Rattle.xdb_plain.specs.Tables.{TableOps}
use Rattle.xdb_plain.specs.declared.script.Cmd.{Cmd}
use Rattle.xdb_plain.specs.declared.script.Cmd.TheVariants as cmd
use Rattle.xdb_plain.specs.declared.script.Line.{Line}
use Rattle.xdb_script.proofs.Named.{SameNames, found_named, rules-same}
use Rattle.xdb_script.proofs.Scripts.{script-is, script-again, spelled-script}
use Rattle.xdb_script.proofs.Words.{ok_is}
use Rattle.xdb_script.specs.Answers.{as_tables, has_name}
use Rattle.xdb_script.specs.Defects.{at_line, lines_read, long_line, script_read, defect_of, first_defect, tables_behind}
use Rattle.xdb_script.specs.Grammar.{Spells, most_bytes, is_line_feed, words_in, without_empty_last, says_something, said_in}
use Rattle.xdb_script.specs.Reading.{line_read, who_read, cmd_read, is_clean, line_of}
use Rattle.xdb_script.specs.Whole.{IsAnswer, IsOnly, IsFirst, IsRefusal, IsTaken, IsStopped}
use Rattle.xdb_script.specs.declared.error.ScriptNo.{ScriptNo}
use Rattle.xdb_script.specs.declared.error.ScriptNo.TheVariants.{BadLine, Memory}
use Rattle.xdb_script.specs.declared.error.Why.{Why}
use Rattle.xdb_script.specs.declared.error.Why.TheVariants as why
use Rattle.xdb_script.specs.declared.form.ScriptForm.{ScriptForm}

-- ---- tables go by their names

pub line-same : (form : ScriptForm) (a b : List TableOps) (number : ℕ) (words : List (List ℕ)) → SameNames a b → line_read form a number words ≡ line_read form b number words
line-same form a b number [] h = refl
line-same form a b number (who ∷ words) h =
    λ i. cond (not (list_all is_clean (who ∷ words))) (Err why.Spaces) (who_read form who >>= λ by. cmd_read form by words >>= λ c. rules-same a b c h i >>= λ x. Ok (line_of number by x))

push-by : (first : TableOps) (more found : Option TableOps) (last t : Bool) → is_some more ≡ (is_some found || last) → is_some (cond t (Some first) more) ≡ (is_some (cond t (Some first) found) || last)
push-by first more found last true h = refl
push-by first more found last false h = h

found-push : (name : List ℕ) (tables : List TableOps) (table : TableOps) → is_some (found_table name (tables ++ table ∷ [])) ≡ (is_some (found_table name tables) || same_name table.name name)
found-push name [] table = by (same_name table.name name)
  where
    by : (t : Bool) → is_some (cond t (Some table) None) ≡ t
    by true = refl
    by false = refl
found-push name (first ∷ tables) table = push-by first (found_table name (tables ++ table ∷ [])) (found_table name tables) (same_name table.name name) (same_name first.name name) (found-push name tables table)

pub below-same : (a b : List TableOps) (c : Cmd) → SameNames a b → SameNames (tables_below a c) (tables_below b c)
below-same a b (cmd.Table table) h = record { same = λ name. found-push name a table ∙ ap (λ t. t || same_name table.name name) (h.same name) ∙ sym (found-push name b table) }
below-same a b _ h = h

-- ---- parts

abbrev pub said_from : ℕ → List (List ℕ) → List (ℕ × List ℕ)
said_from n parts = filter (λ part. says_something part.1) (enumerate_from n parts)

pub said-all : (n : ℕ) (parts : List (List ℕ)) → said_from n (without_empty_last parts) ≡ said_from n parts
said-all n [] = refl
said-all n ([] ∷ []) = refl
said-all n ((b ∷ bs) ∷ []) = refl
said-all n ([] ∷ q ∷ parts) = said-all (n + 1) (q ∷ parts)
said-all n ((b ∷ bs) ∷ q ∷ parts) = ap (λ xs. cond (says_something (b ∷ bs)) ((n, b ∷ bs) ∷ xs) xs) (said-all (n + 1) (q ∷ parts))

behind-push : (tables : List TableOps) (lines : List Line) (line : Line) → tables_behind tables (lines ++ line ∷ []) ≡ tables_below (tables_behind tables lines) line.cmd
behind-push tables [] line = refl
behind-push tables (l ∷ lines) line = behind-push (tables_below tables l.cmd) lines line

-- so many parts were taken: these are their lines, and the names of their tables
pub record SoFar (form : ScriptForm) (all : List (List ℕ)) (i : ℕ) (names : List (List ℕ)) (lines : List Line) : Type 0 where
  pub is : lines_read form [] (said_from 1 all) ≡ (lines_read form (tables_behind [] lines) (said_from (i + 1) (drop i all)) >>= λ more. Ok (lines ++ more))
  pub known : SameNames (as_tables names) (tables_behind [] lines)

same-then : (r : Result (List Line) (ℕ × Why)) → r ≡ (r >>= λ more. Ok more)
same-then (Ok ls) = refl
same-then (Err d) = refl

pub so_far_none : (form : ScriptForm) (all : List (List ℕ)) → SoFar form all 0 [] []
so_far_none form all = record { is = same-then (lines_read form [] (said_from 1 all)); known = record { same = λ name. refl } }

one-then : (lines : List Line) (line : Line) (r : Result (List Line) (ℕ × Why)) → ((r >>= λ ls. Ok (line ∷ ls)) >>= λ more. Ok (lines ++ more)) ≡ (r >>= λ more. Ok ((lines ++ line ∷ []) ++ more))
one-then lines line (Ok ls) = ap (λ xs. Ok xs) (sym (append_assoc lines (line ∷ []) ls))
one-then lines line (Err d) = refl

-- the parts that are left, with the first one apart
left-is : (form : ScriptForm) (all : List (List ℕ)) (i : ℕ) (part : List ℕ) (tables : List TableOps) (lines : List Line) → i < length all → part ≡ get_or all i part → (lines_read form tables (said_from (i + 1) (drop i all)) >>= λ more. Ok (lines ++ more)) ≡ (lines_read form tables (cond (says_something part) ((i + 1, part) ∷ said_from (i + 1 + 1) (drop (i + 1) all)) (said_from (i + 1 + 1) (drop (i + 1) all))) >>= λ more. Ok (lines ++ more))
left-is form all i part tables lines within is =
    ap (λ ps. lines_read form tables (said_from (i + 1) ps) >>= λ more. Ok (lines ++ more)) (drop_more all i part within ∙ ap (λ p. p ∷ drop (i + 1) all) (sym is))

taken-by : (form : ScriptForm) (all : List (List ℕ)) (i : ℕ) (part : List ℕ) (names names' : List (List ℕ)) (lines lines' : List Line) (t : Bool) → lines_read form [] (said_from 1 all) ≡ (lines_read form (tables_behind [] lines) (cond t ((i + 1, part) ∷ said_from (i + 1 + 1) (drop (i + 1) all)) (said_from (i + 1 + 1) (drop (i + 1) all))) >>= λ more. Ok (lines ++ more)) → SameNames (as_tables names) (tables_behind [] lines) → IsTaken t (line_read form (as_tables names) (i + 1) (words_in part)) names names' lines lines' → SoFar form all (i + 1) names' lines'
taken-by form all i part names names' lines lines' false whole known h = record {
  is = whole ∙ (λ j. lines_read form (tables_behind [] (sym h.1 j)) (said_from (i + 1 + 1) (drop (i + 1) all)) >>= λ more. Ok (sym h.1 j ++ more));
  known = record { same = λ name. ap (λ ns. is_some (found_table name (as_tables ns))) h.0 ∙ known.same name ∙ ap (λ ls. is_some (found_table name (tables_behind [] ls))) (sym h.1) };
}
taken-by form all i part names names' lines lines' true whole known h =
    let read = line_read form (as_tables names) (i + 1) (words_in part) in
    let tables = tables_behind [] lines in
    let left = said_from (i + 1 + 1) (drop (i + 1) all) in
    let b = bind_ok read (λ line. Ok (lines ++ line ∷ [])) h.0 in
    let line : Line = b.0 in
    let added : lines ++ line ∷ [] ≡ lines' = ok_is {E = Why} (lines ++ line ∷ []) lines' b.2 in
    let here : line_read form tables (i + 1) (words_in part) ≡ Ok line = sym (line-same form (as_tables names) tables (i + 1) (words_in part) known) ∙ b.1 in
    let behind : tables_behind [] lines' ≡ tables_below tables line.cmd = ap (tables_behind []) (sym added) ∙ behind-push [] lines line in
    let below = below-same (as_tables names) tables line.cmd known in
    let named : (name : List ℕ) → is_some (found_table name (tables_below (as_tables names) line.cmd)) ≡ has_name names' name =
    λ name. ok_is {E = Why} (is_some (found_table name (tables_below (as_tables names) line.cmd))) (has_name names' name) (ap (λ r. r >>= λ l. Ok (is_some (found_table name (tables_below (as_tables names) l.cmd)))) (sym b.1) ∙ h.1 name) in
    record {
      is =
          whole
          ∙ ap (λ r. (at_line (i + 1) r >>= λ l. lines_read form (tables_below tables l.cmd) left >>= λ ls. Ok (l ∷ ls)) >>= λ more. Ok (lines ++ more)) here
          ∙ one-then lines line (lines_read form (tables_below tables line.cmd) left)
          ∙ (λ j. lines_read form (sym behind j) left >>= λ more. Ok (added j ++ more));
      known = record { same = λ name. found_named names' name ∙ sym (named name) ∙ below.same name ∙ ap (λ ts. is_some (found_table name ts)) (sym behind) };
    }

-- one part more was taken
pub so_far_more : (form : ScriptForm) (all : List (List ℕ)) (i : ℕ) (part : List ℕ) (names names' : List (List ℕ)) (lines lines' : List Line) → i < length all → part ≡ get_or all i part → IsTaken (says_something part) (line_read form (as_tables names) (i + 1) (words_in part)) names names' lines lines' → SoFar form all i names lines → SoFar form all (i + 1) names' lines'
so_far_more form all i part names names' lines lines' within is h so =
    taken-by form all i part names names' lines lines' (says_something part) (so.is ∙ left-is form all i part (tables_behind [] lines) lines within is) so.known h

stopped-by : (form : ScriptForm) (all : List (List ℕ)) (i : ℕ) (part : List ℕ) (names : List (List ℕ)) (lines : List Line) (t : Bool) (refusal : ScriptNo) → lines_read form [] (said_from 1 all) ≡ (lines_read form (tables_behind [] lines) (cond t ((i + 1, part) ∷ said_from (i + 1 + 1) (drop (i + 1) all)) (said_from (i + 1 + 1) (drop (i + 1) all))) >>= λ more. Ok (lines ++ more)) → SameNames (as_tables names) (tables_behind [] lines) → IsStopped t (i + 1) (line_read form (as_tables names) (i + 1) (words_in part)) refusal → IsRefusal refusal (lines_read form [] (said_from 1 all))
stopped-by form all i part names lines true Memory whole known h = tt
stopped-by form all i part names lines false Memory whole known h = tt
stopped-by form all i part names lines false (BadLine line reason) whole known h = absurd h
stopped-by form all i part names lines true (BadLine line reason) whole known h =
    let tables = tables_behind [] lines in
    let left = said_from (i + 1 + 1) (drop (i + 1) all) in
    let here : line_read form tables (i + 1) (words_in part) ≡ Err reason = sym (line-same form (as_tables names) tables (i + 1) (words_in part) known) ∙ h.1 in
    whole
    ∙ ap (λ r. (at_line (i + 1) r >>= λ l. lines_read form (tables_below tables l.cmd) left >>= λ ls. Ok (l ∷ ls)) >>= λ more. Ok (lines ++ more)) here
    ∙ ap (λ n. Err (n, reason)) (sym h.0)

-- a part isn't read
pub so_far_stops : (form : ScriptForm) (all : List (List ℕ)) (i : ℕ) (part : List ℕ) (names : List (List ℕ)) (lines : List Line) (refusal : ScriptNo) → i < length all → part ≡ get_or all i part → IsStopped (says_something part) (i + 1) (line_read form (as_tables names) (i + 1) (words_in part)) refusal → SoFar form all i names lines → IsRefusal refusal (lines_read form [] (said_from 1 all))
so_far_stops form all i part names lines refusal within is h so =
    stopped-by form all i part names lines (says_something part) refusal (so.is ∙ left-is form all i part (tables_behind [] lines) lines within is) so.known h

-- no part is left
pub so_far_ends : (form : ScriptForm) (all : List (List ℕ)) (i : ℕ) (names : List (List ℕ)) (lines : List Line) → length all ≤ i → SoFar form all i names lines → lines_read form [] (said_from 1 all) ≡ Ok lines
so_far_ends form all i names lines past so =
    so.is ∙ ap (λ ps. lines_read form (tables_behind [] lines) (said_from (i + 1) ps) >>= λ more. Ok (lines ++ more)) (drop_all i all past) ∙ ap (λ ls. Ok ls) (append-nil lines)

-- ---- whole scripts

-- the parts between line feeds, among them an empty one behind the last
pub said-parts : (form : ScriptForm) (bytes : List ℕ) → lines_read form [] (said_from 1 (slice_split is_line_feed bytes)) ≡ lines_read form [] (said_in bytes)
said-parts form bytes = ap (lines_read form []) (sym (said-all 1 (slice_split is_line_feed bytes)))

pub short-read : (form : ScriptForm) (bytes : List ℕ) → length bytes ≤ most_bytes → script_read form bytes ≡ lines_read form [] (said_in bytes)
short-read form bytes short = cond-false (ltb most_bytes (length bytes)) _ _ (le-ltb most_bytes (length bytes) short)

pub long-read : (form : ScriptForm) (bytes : List ℕ) → most_bytes < length bytes → script_read form bytes ≡ Err (long_line bytes, why.Long)
long-read form bytes long = cond-true (ltb most_bytes (length bytes)) _ _ (lt-ltb most_bytes (length bytes) long)

pub short-script : (form : ScriptForm) (bytes : List ℕ) (lines : List Line) → length bytes ≤ most_bytes → lines_read form [] (said_in bytes) ≡ Ok lines → is_script lines ≡ true
short-script form bytes lines short e = spelled-script form bytes lines (script-is form bytes lines (short-read form bytes short ∙ e))

pub answer-found : (form : ScriptForm) (bytes : List ℕ) (result : Result (List Line) ScriptNo) → IsAnswer result (script_read form bytes) → IfOk result (λ lines. Spells form bytes lines)
answer-found form bytes (Ok lines) h = script-is form bytes lines h
answer-found form bytes (Err refusal) h = tt

pub answer-only : (form : ScriptForm) (bytes : List ℕ) (result : Result (List Line) ScriptNo) → IsAnswer result (script_read form bytes) → (lines : List Line) → Spells form bytes lines → IsOnly result lines
answer-only form bytes (Ok script) h lines spelled = ok_is {E = ℕ × Why} script lines (sym h ∙ script-again form bytes lines spelled)
answer-only form bytes (Err Memory) h lines spelled = tt
answer-only form bytes (Err (BadLine line reason)) h lines spelled = let both : ◌≡◌ {A = Result (List Line) (ℕ × Why)} (Err (line, reason)) (Ok lines) = sym h ∙ script-again form bytes lines spelled in cc

pub answer-exact : (form : ScriptForm) (bytes : List ℕ) (result : Result (List Line) ScriptNo) → IsAnswer result (script_read form bytes) → IfErr result (λ refusal. IsFirst refusal (first_defect form bytes))
answer-exact form bytes (Ok lines) h = tt
answer-exact form bytes (Err Memory) h = tt
answer-exact form bytes (Err (BadLine line reason)) h = ap defect_of h

-- ---- the loop over parts

-- a part is at its place among all parts
abbrev pub IsAt : List ℕ → List (Bor (List ℕ)) → Bor (List ℕ) → Type 0
IsAt bytes yielded part =
    (length yielded < length (slice_split is_line_feed bytes)) × (part.now ≡ get_or (slice_split is_line_feed bytes) (length yielded) part.now)

pub loop_more : (form : ScriptForm) (bytes : List ℕ) (number : ℕ) (yielded : List (Bor (List ℕ))) (part : Bor (List ℕ)) (names names' : List (List ℕ)) (lines lines' : List Line) → number ≡ length yielded → IsAt bytes yielded part → IsTaken (says_something part.now) (line_read form (as_tables names) (number + 1) (words_in part.now)) names names' lines lines' → SoFar form (slice_split is_line_feed bytes) (length yielded) names lines → SoFar form (slice_split is_line_feed bytes) (length (yielded ++ part ∷ [])) names' lines'
loop_more form bytes number yielded part names names' lines lines' counted at taken so =
    let all = slice_split is_line_feed bytes in
    let more = so_far_more form all (length yielded) part.now names names' lines lines' at.0 at.1 (subst (λ n. IsTaken (says_something part.now) (line_read form (as_tables names) (n + 1) (words_in part.now)) names names' lines lines') counted taken) so in
    subst (λ n. SoFar form all n names' lines') (sym (length-append yielded (part ∷ []))) more

pub loop_counts : (number : ℕ) (yielded : List (Bor (List ℕ))) (part : Bor (List ℕ)) → number ≡ length yielded → number + 1 ≡ length (yielded ++ part ∷ [])
loop_counts number yielded part counted = ap (λ n. n + 1) counted ∙ sym (length-append yielded (part ∷ []))

pub loop_stops : (form : ScriptForm) (bytes : List ℕ) (number : ℕ) (yielded : List (Bor (List ℕ))) (part : Bor (List ℕ)) (names : List (List ℕ)) (lines : List Line) (refusal : ScriptNo) → number ≡ length yielded → IsAt bytes yielded part → IsStopped (says_something part.now) (number + 1) (line_read form (as_tables names) (number + 1) (words_in part.now)) refusal → SoFar form (slice_split is_line_feed bytes) (length yielded) names lines → IsRefusal refusal (lines_read form [] (said_in bytes))
loop_stops form bytes number yielded part names lines refusal counted at stopped so =
    let all = slice_split is_line_feed bytes in
    subst (λ r. IsRefusal refusal r) (said-parts form bytes)
    (so_far_stops form all (length yielded) part.now names lines refusal at.0 at.1 (subst (λ n. IsStopped (says_something part.now) (n + 1) (line_read form (as_tables names) (n + 1) (words_in part.now)) refusal) counted stopped) so)

pub loop_ends : (form : ScriptForm) (bytes : List ℕ) (yielded : List (Bor (List ℕ))) (names : List (List ℕ)) (lines : List Line) → length yielded ≡ length (slice_split is_line_feed bytes) → SoFar form (slice_split is_line_feed bytes) (length yielded) names lines → lines_read form [] (said_in bytes) ≡ Ok lines
loop_ends form bytes yielded names lines whole so =
    sym (said-parts form bytes) ∙ so_far_ends form (slice_split is_line_feed bytes) (length yielded) names lines (omega arith) so

-- ---- names that are known behind a command

pub table-known : (old new : List (List ℕ)) (c : Cmd) (table : TableOps) (name : List ℕ) → c ≡ cmd.Table table → name ≡ table.name → ((n : List ℕ) → has_name new n ≡ (eq_by_cmp key_cmp name n || has_name old n)) → (n : List ℕ) → has_name new n ≡ is_some (found_table n (tables_below (as_tables old) c))
table-known old new c table name is same h n =
    h n ∙ or_comm (eq_by_cmp key_cmp name n) (has_name old n)
    ∙ (λ i. sym (found_named old n) i || eq_by_cmp key_cmp (same i) n)
    ∙ sym (found-push n (as_tables old) table)
    ∙ ap (λ x. is_some (found_table n (tables_below (as_tables old) x))) (sym is)

pub other-known : (old : List (List ℕ)) (c : Cmd) → ((table : TableOps) → c ≡ cmd.Table table → ⊥) → (n : List ℕ) → has_name old n ≡ is_some (found_table n (tables_below (as_tables old) c))
other-known old (cmd.Table table) h n = absurd (h table refl)
other-known old _ h n = sym (found_named old n)
