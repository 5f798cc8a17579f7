-- Whole scripts: they are spelled so or have a first defect, and never both.
use Rattle.std.proofs.lemmas.List.{take-replicate, length-replicate}
use Rattle.std.proofs.Common.{◌≡◌, ℕ, zero, suc, ◌+◌, ◌<◌, ◌≤◌, Bool, true, false, cond, leb, ltb, List, [], ◌∷◌, ◌++◌, length, replicate, filter, Some, None, Result, Ok, Err, refl, sym, ap, subst, ◌∙◌, arith}
use Rattle.std.specs.List.{enumerate_from}
use Rattle.std.proofs.lemmas.Bool.{and_parts, and_from, leb-true, ltb-false, lt-ltb, le-ltb, cond-true, cond-false}
use Rattle.xdb_key.proofs.ReadingLaws.{bind_ok, guard_ok}
use Rattle.xdb_key.specs.Reading.{◌>>=◌}
use Rattle.xdb_plain.specs.Scripts.{tables_below, are_lines, is_script}
use Rattle.xdb_plain.specs.Tables.{TableOps}
use Rattle.xdb_plain.specs.declared.script.Line.{Line}
use Rattle.xdb_script.proofs.Lengths.{parts_short, said-short}
use Rattle.xdb_script.proofs.Lines.{line-is, line-again}
use Rattle.xdb_script.proofs.Words.{ok_is}
use Rattle.xdb_script.specs.Defects.{at_line, lines_read, long_line, script_read, defect_of, first_defect, tables_behind, IsFirstBad}
use Rattle.xdb_script.specs.Grammar.{most_bytes, is_line_feed, words_in, lines_in, says_something, said_in, IsLine, AreLines, Spells}
use Rattle.xdb_script.specs.Reading.{line_read}
use Rattle.xdb_script.specs.declared.error.Why.{Why}
use Rattle.xdb_script.specs.declared.error.Why.TheVariants as why
use Rattle.xdb_script.specs.declared.form.ScriptForm.{ScriptForm}

at-line-is : {A : Type 0} (number : ℕ) (r : Result A Why) (x : A) → at_line number r ≡ Ok x → r ≡ Ok x
at-line-is number (Ok y) x e = ap (λ z. Ok z) (ok_is y x e)
at-line-is number (Err d) x e = cc

pub lines-are : (form : ScriptForm) (tables : List TableOps) (parts : List (ℕ × List ℕ)) (lines : List Line) → parts_short parts ≡ true → lines_read form tables parts ≡ Ok lines → AreLines form tables parts lines
lines-are form tables [] lines short e = subst (λ ls. AreLines form tables [] ls) (ok_is [] lines e) tt
lines-are form tables (part ∷ parts) lines short e =
    let a = bind_ok (at_line part.0 (line_read form tables part.0 (words_in part.1))) (λ line. lines_read form (tables_below tables line.cmd) parts >>= λ ls. Ok (line ∷ ls)) e in
    let b = bind_ok (lines_read form (tables_below tables a.0.cmd) parts) (λ ls. Ok (a.0 ∷ ls)) a.2 in
    let both = and_parts (leb (length part.1) most_bytes) (parts_short parts) short in
    let first = line-is form tables part.0 part.1 a.0 (leb-true (length part.1) most_bytes both.0) (at-line-is part.0 (line_read form tables part.0 (words_in part.1)) a.0 a.1) in
    subst (λ ls. AreLines form tables (part ∷ parts) ls) (ok_is (a.0 ∷ b.0) lines b.2) (first, lines-are form (tables_below tables a.0.cmd) parts b.0 both.1 b.1)

pub lines-again : (form : ScriptForm) (tables : List TableOps) (parts : List (ℕ × List ℕ)) (lines : List Line) → AreLines form tables parts lines → lines_read form tables parts ≡ Ok lines
lines-again form tables [] [] h = refl
lines-again form tables [] (line ∷ lines) h = absurd h
lines-again form tables (part ∷ parts) [] h = absurd h
lines-again form tables (part ∷ parts) (line ∷ lines) h =
    ap (λ r. at_line part.0 r >>= λ l. lines_read form (tables_below tables l.cmd) parts >>= λ ls. Ok (l ∷ ls)) (line-again form tables part.0 (words_in part.1) line h.0)
    ∙ ap (λ r. r >>= λ ls. Ok (line ∷ ls)) (lines-again form (tables_below tables line.cmd) parts lines h.1)

pub script-is : (form : ScriptForm) (bytes : List ℕ) (lines : List Line) → script_read form bytes ≡ Ok lines → Spells form bytes lines
script-is form bytes lines e =
    let a = guard_ok (ltb most_bytes (length bytes)) (long_line bytes, why.Long) (lines_read form [] (said_in bytes)) e in
    let short = ltb-false most_bytes (length bytes) a.0 in
    record { short = short; are_lines = lines-are form [] (said_in bytes) lines (said-short bytes short) a.1 }

pub script-again : (form : ScriptForm) (bytes : List ℕ) (lines : List Line) → Spells form bytes lines → script_read form bytes ≡ Ok lines
script-again form bytes lines h =
    cond-false (ltb most_bytes (length bytes)) _ _ (le-ltb most_bytes (length bytes) h.short) ∙ lines-again form [] (said_in bytes) lines h.are_lines

pub lines-are-one : (form : ScriptForm) (bytes : List ℕ) (a b : List Line) → Spells form bytes a → Spells form bytes b → a ≡ b
lines-are-one form bytes a b h k = ok_is {E = ℕ × Why} a b (sym (script-again form bytes a h) ∙ script-again form bytes b k)

pub no-defect : (form : ScriptForm) (bytes : List ℕ) (lines : List Line) → Spells form bytes lines → first_defect form bytes ≡ None
no-defect form bytes lines h = ap defect_of (script-again form bytes lines h)

spelled-by : (form : ScriptForm) (bytes : List ℕ) (r : Result (List Line) (ℕ × Why)) → script_read form bytes ≡ r → defect_of r ≡ None → (lines : List Line) × Spells form bytes lines
spelled-by form bytes (Ok lines) e h = (lines, script-is form bytes lines e)
spelled-by form bytes (Err d) e h = cc

pub spelled-without-defect : (form : ScriptForm) (bytes : List ℕ) → first_defect form bytes ≡ None → (lines : List Line) × Spells form bytes lines
spelled-without-defect form bytes h = spelled-by form bytes (script_read form bytes) refl h

pub long-first : (form : ScriptForm) (bytes : List ℕ) → most_bytes < length bytes → first_defect form bytes ≡ Some (long_line bytes, why.Long)
long-first form bytes h = ap defect_of (cond-true (ltb most_bytes (length bytes)) _ _ (lt-ltb most_bytes (length bytes) h))

-- ---- line feeds alone

all-feeds : (n : ℕ) → length (filter is_line_feed (replicate n 10)) ≡ n
all-feeds zero = refl
all-feeds (suc n) = ap suc (all-feeds n)

pub long-feeds : (form : ScriptForm) (n : ℕ) → most_bytes < n → first_defect form (replicate n 10) ≡ Some (most_bytes + 1, why.Long)
long-feeds form n h =
    let counted : long_line (replicate n 10) ≡ most_bytes + 1 = ap (λ bs. 1 + length (filter is_line_feed bs)) (take-replicate most_bytes n 10 (omega arith)) ∙ ap (λ k. 1 + k) (all-feeds most_bytes) ∙ omega arith in
    long-first form (replicate n 10) (subst (λ k. most_bytes < k) (sym (length-replicate {A = ℕ} n 10)) h) ∙ ap (λ k. Some (k, why.Long)) counted

-- ---- the first defect is that of the first bad line

err_is : {A E : Type 0} (x y : E) → ◌≡◌ {A = Result A E} (Err x) (Err y) → x ≡ y
err_is x y e = cc

bad-here : (form : ScriptForm) (tables : List TableOps) (part : ℕ × List ℕ) (parts : List (ℕ × List ℕ)) (reason : Why) (number : ℕ) (other : Why) → line_read form tables part.0 (words_in part.1) ≡ Err reason → ◌≡◌ {A = ℕ × Why} (part.0, reason) (number, other) → IsFirstBad form tables (part ∷ parts) number other
bad-here form tables part parts reason number other e same =
    subst (λ d. IsFirstBad form tables (part ∷ parts) d.0 d.1) same (record { before = []; part = part.1; after = parts; lines = []; stands = refl; good = tt; bad = e })

bad-behind : (form : ScriptForm) (tables : List TableOps) (part : ℕ × List ℕ) (parts : List (ℕ × List ℕ)) (line : Line) (number : ℕ) (reason : Why) → IsLine form tables part.0 (words_in part.1) line → IsFirstBad form (tables_below tables line.cmd) parts number reason → IsFirstBad form tables (part ∷ parts) number reason
bad-behind form tables part parts line number reason first h =
    record { before = part ∷ h.before; part = h.part; after = h.after; lines = line ∷ h.lines; stands = ap (λ ps. part ∷ ps) h.stands; good = (first, h.good); bad = h.bad }

pub lines-bad : (form : ScriptForm) (tables : List TableOps) (parts : List (ℕ × List ℕ)) (number : ℕ) (reason : Why) → parts_short parts ≡ true → lines_read form tables parts ≡ Err (number, reason) → IsFirstBad form tables parts number reason
lines-bad form tables [] number reason short e = cc
lines-bad form tables (part ∷ parts) number reason short e =
    let both = and_parts (leb (length part.1) most_bytes) (parts_short parts) short in
    by form tables part parts number reason (leb-true (length part.1) most_bytes both.0) (line_read form tables part.0 (words_in part.1)) refl
    (λ line behind. lines-bad form (tables_below tables line.cmd) parts number reason both.1 behind) e
  where
    others-by : (line : Line) (r : Result (List Line) (ℕ × Why)) (d : ℕ × Why) → (r >>= λ ls. Ok (line ∷ ls)) ≡ Err d → r ≡ Err d
    others-by line (Ok ls) d e = cc
    others-by line (Err x) d e = ap (λ y. Err y) (err_is {A = List Line} x d e)

    by : (form : ScriptForm) (tables : List TableOps) (part : ℕ × List ℕ) (parts : List (ℕ × List ℕ)) (number : ℕ) (reason : Why) → length part.1 ≤ most_bytes → (r : Result Line Why) → line_read form tables part.0 (words_in part.1) ≡ r → ((line : Line) → lines_read form (tables_below tables line.cmd) parts ≡ Err (number, reason) → IsFirstBad form (tables_below tables line.cmd) parts number reason) → (at_line part.0 r >>= λ line. lines_read form (tables_below tables line.cmd) parts >>= λ ls. Ok (line ∷ ls)) ≡ Err (number, reason) → IsFirstBad form tables (part ∷ parts) number reason
    by form tables part parts number reason few (Err w) is behind e = bad-here form tables part parts w number reason is (err_is {A = List Line} (part.0, w) (number, reason) e)
    by form tables part parts number reason few (Ok line) is behind e =
        bad-behind form tables part parts line number reason (line-is form tables part.0 part.1 line few is)
        (behind line (others-by line (lines_read form (tables_below tables line.cmd) parts) (number, reason) e))

bad-again : (form : ScriptForm) (tables : List TableOps) (before : List (ℕ × List ℕ)) (lines : List Line) (number : ℕ) (part : List ℕ) (after : List (ℕ × List ℕ)) (reason : Why) → AreLines form tables before lines → line_read form (tables_behind tables lines) number (words_in part) ≡ Err reason → lines_read form tables (before ++ (number, part) ∷ after) ≡ Err (number, reason)
bad-again form tables [] [] number part after reason good bad = ap (λ r. at_line number r >>= λ l. lines_read form (tables_below tables l.cmd) after >>= λ ls. Ok (l ∷ ls)) bad
bad-again form tables [] (line ∷ lines) number part after reason good bad = absurd good
bad-again form tables (p ∷ before) [] number part after reason good bad = absurd good
bad-again form tables (p ∷ before) (line ∷ lines) number part after reason good bad =
    ap (λ r. at_line p.0 r >>= λ l. lines_read form (tables_below tables l.cmd) (before ++ (number, part) ∷ after) >>= λ ls. Ok (l ∷ ls)) (line-again form tables p.0 (words_in p.1) line good.0)
    ∙ ap (λ r. r >>= λ ls. Ok (line ∷ ls)) (bad-again form (tables_below tables line.cmd) before lines number part after reason good.1 bad)

defect-tells : (r : Result (List Line) (ℕ × Why)) (d : ℕ × Why) → defect_of r ≡ Some d → r ≡ Err d
defect-tells (Ok lines) d e = cc
defect-tells (Err x) d e = ap (λ y. Err y) cc

pub first-bad : (form : ScriptForm) (bytes : List ℕ) (number : ℕ) (reason : Why) → length bytes ≤ most_bytes → first_defect form bytes ≡ Some (number, reason) → IsFirstBad form [] (said_in bytes) number reason
first-bad form bytes number reason short e =
    lines-bad form [] (said_in bytes) number reason (said-short bytes short)
    (sym (cond-false (ltb most_bytes (length bytes)) _ _ (le-ltb most_bytes (length bytes) short)) ∙ defect-tells (script_read form bytes) (number, reason) e)

pub first-bad-again : (form : ScriptForm) (bytes : List ℕ) (number : ℕ) (reason : Why) → length bytes ≤ most_bytes → IsFirstBad form [] (said_in bytes) number reason → first_defect form bytes ≡ Some (number, reason)
first-bad-again form bytes number reason short h =
    ap defect_of (cond-false (ltb most_bytes (length bytes)) _ _ (le-ltb most_bytes (length bytes) short))
    ∙ ap (λ ps. defect_of (lines_read form [] ps)) h.stands
    ∙ ap defect_of (bad-again form [] h.before h.lines number h.part h.after reason h.good h.bad)

-- ---- the lines of a script are a script

numbers-rise : (form : ScriptForm) (last n : ℕ) (parts : List (List ℕ)) (tables : List TableOps) (lines : List Line) → last < n → AreLines form tables (filter (λ p. says_something p.1) (enumerate_from n parts)) lines → are_lines last tables lines ≡ true
numbers-rise form last n [] tables [] h are = refl
numbers-rise form last n [] tables (line ∷ lines) h are = absurd are
numbers-rise form last n (part ∷ parts) tables lines h are =
    rise-by form last n part (filter (λ p. says_something p.1) (enumerate_from (n + 1) parts)) tables lines (says_something part) h
    (λ more below few. numbers-rise form n (n + 1) parts more below (omega arith) few)
    (λ all. numbers-rise form last (n + 1) parts tables lines (omega arith) all) are
  where
    rise-by : (form : ScriptForm) (last n : ℕ) (part : List ℕ) (others : List (ℕ × List ℕ)) (tables : List TableOps) (lines : List Line) (t : Bool) → last < n → ((more : List TableOps) (below : List Line) → AreLines form more others below → are_lines n more below ≡ true) → (AreLines form tables others lines → are_lines last tables lines ≡ true) → AreLines form tables (cond t ((n, part) ∷ others) others) lines → are_lines last tables lines ≡ true
    rise-by form last n part others tables lines false h behind same are = same are
    rise-by form last n part others tables [] true h behind same are = absurd are
    rise-by form last n part others tables (line ∷ lines) true h behind same are =
        let numbered = are.0.numbered in
        let above : ltb last line.number ≡ true = lt-ltb last line.number (omega arith) in
        let below : are_lines line.number (tables_below tables line.cmd) lines ≡ true = ap (λ k. are_lines k (tables_below tables line.cmd) lines) numbered ∙ behind (tables_below tables line.cmd) lines are.1 in
        and_from _ _ (and_from _ _ above are.0.suited) below

pub spelled-script : (form : ScriptForm) (bytes : List ℕ) (lines : List Line) → Spells form bytes lines → is_script lines ≡ true
spelled-script form bytes lines h = numbers-rise form 0 1 (lines_in bytes) [] lines (omega arith) h.are_lines
