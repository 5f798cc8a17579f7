-- Tables by their names: a rule on tables asks for names alone.
use Rattle.std.proofs.Common.{◌≡◌, ℕ, Bool, true, false, cond, eqb, not, ◌&&◌, ◌||◌, List, [], ◌∷◌, length, map, Option, Some, Result, Ok, Err, refl, sym, ap, ◌∙◌, is_some, is_none}
use Rattle.std.specs.Borrow.{Bor}
use Rattle.std.specs.List.{flat_map, list_all}
use Rattle.std.specs.Ordering.{eq_by_cmp}
use Rattle.std.proofs.lemmas.Bool.{and_from, true≢false}
use Rattle.std.proofs.lemmas.List.Folds.{list_all-map}
use Rattle.std.proofs.lemmas.Cmp.{eq_by_cmp_equiv}
use Rattle.xdb_key.proofs.OrderLaws.{key_total}
use Rattle.xdb_key.specs.Ops.{disorder, is_table}
use Rattle.xdb_key.specs.Order.{key_cmp}
use Rattle.xdb_key.specs.Reading.{◌>>=◌}
use Rattle.xdb_plain.specs.Scripts.{found_table, are_defined}
use Rattle.xdb_plain.specs.State.{same_name}
use Rattle.xdb_plain.specs.Tables.{TableOps, table_ops}
use Rattle.xdb_key.specs.declared.op.Op.{Op}
use Rattle.xdb_plain.specs.declared.act.By.{By}
use Rattle.xdb_plain.specs.declared.script.Cmd.{Cmd}
use Rattle.xdb_plain.specs.declared.script.Cmd.TheVariants as cmd
use Rattle.xdb_script.proofs.Parts.{ops-is}
use Rattle.xdb_script.specs.Answers.{IsDefect, as_tables, has_name, ranged, rises, ruled, texts}
use Rattle.xdb_script.specs.Drafts.{drafted}
use Rattle.xdb_script.specs.Fields.{all_read, name_read}
use Rattle.xdb_script.specs.Reading.{rules_read, line_of, is_visible, is_clean, who_read, cmd_read, spoken_read, ops_shape, op_read, named_table_read}
use Rattle.xdb_script.specs.Rules.{ranges, ranges_rise, op_ranges, tables_stand, points_rise}
use Rattle.xdb_script.specs.declared.form.ScriptForm.{ScriptForm}
use Rattle.xdb_script.specs.declared.operations.Draft.{Draft}
use Rattle.xdb_script.specs.declared.error.LineNo.{LineNo}
use Rattle.xdb_script.specs.declared.error.LineNo.TheVariants.{Bad, Memory}
use Rattle.xdb_script.specs.declared.error.Why.{Why}
use Rattle.xdb_script.specs.declared.error.Why.TheVariants as why

-- two words are one, whichever stands first
pub same-turned : (a b : List ℕ) → eq_by_cmp key_cmp a b ≡ eq_by_cmp key_cmp b a
same-turned a b = (eq_by_cmp_equiv key_total).symm a b

found-by : (n name : List ℕ) (tables : List TableOps) (more t u : Bool) → t ≡ u → is_some (found_table name tables) ≡ more → is_some (cond t (Some (table_ops n [])) (found_table name tables)) ≡ (u || more)
found-by n name tables more true true e h = refl
found-by n name tables more false false e h = h
found-by n name tables more true false e h = cc
found-by n name tables more false true e h = cc

-- a table is found where its name is among the names
pub found_named : (names : List (List ℕ)) (name : List ℕ) → is_some (found_table name (as_tables names)) ≡ has_name names name
found_named [] name = refl
found_named (n ∷ names) name = found-by n name (as_tables names) (has_name names name) (same_name n name) (eq_by_cmp key_cmp name n) (same-turned n name) (found_named names name)

-- tables that have the same names
pub record SameNames (a b : List TableOps) : Type 0 where
  pub same : (name : List ℕ) → is_some (found_table name a) ≡ is_some (found_table name b)

defined-same : (a b : List TableOps) (names : List (List ℕ)) → SameNames a b → are_defined names a ≡ are_defined names b
defined-same a b [] h = refl
defined-same a b (n ∷ names) h = λ i. h.same n i && defined-same a b names h i

pub none_not : {A : Type 0} (o : Option A) → is_none o ≡ not (is_some o)
none_not o = refl

stand-same : (a b : List TableOps) (c : Cmd) → SameNames a b → tables_stand a c ≡ tables_stand b c
stand-same a b (cmd.Table table) h = ap not (h.same table.name)
stand-same a b (cmd.Load load names span) h = defined-same a b names h
stand-same a b _ h = refl

pub rules-same : (a b : List TableOps) (c : Cmd) → SameNames a b → rules_read a c ≡ rules_read b c
rules-same a b c h = ap (λ t. cond (not (ranges_rise c)) (Err why.Range) (cond (not t) (Err why.Table) (cond (not (points_rise c)) (Err why.Order) (Ok c)))) (stand-same a b c h)

-- what was read and passed the rules becomes a line
pub ruled_then : (names : List (List ℕ)) (read : Result Cmd Why) (number : ℕ) (by : Option By) → (read >>= λ c. rules_read (as_tables names) c >>= λ x. Ok (line_of number by x)) ≡ (ruled names read >>= λ x. Ok (line_of number by x))
ruled_then names (Ok c) number by = refl
ruled_then names (Err d) number by = refl

pub clean_texts : (words : List (Bor (List ℕ))) → list_all is_clean (texts words) ≡ list_all (λ word. is_clean word.now) words
clean_texts words = list_all-map is_clean (λ word. word.now) words

or-is : (t b : Bool) → cond t true b ≡ (t || b)
or-is true b = refl
or-is false b = refl

-- a name joins the others
pub one-name : (names more : List (List ℕ)) (name n : List ℕ) → has_name more n ≡ cond (eq_by_cmp key_cmp name n) true (has_name names n) → has_name more n ≡ (eq_by_cmp key_cmp name n || has_name names n)
one-name names more name n h = h ∙ or-is (eq_by_cmp key_cmp name n) (has_name names n)

-- ---- commands that pass all rules

-- a command without a table of its own, whose ranges rise
pub standing_ruled : (names : List (List ℕ)) (read : Result Cmd Why) (c : Cmd) (t : Bool) → ranged ranges read ≡ Ok c → tables_stand (as_tables names) c ≡ t → points_rise c ≡ true → ruled names read ≡ cond t (Ok c) (Err why.Table)
standing_ruled names (Err d) c t e stand rise = cc
standing_ruled names (Ok r) c t e stand rise = by r c t (ranges_rise r) refl e stand rise
  where
    ok-is : (x y : Cmd) → ◌≡◌ {A = Result Cmd Why} (Ok x) (Ok y) → x ≡ y
    ok-is x y h = cc

    chosen : (c : Cmd) (t : Bool) → cond (not t) (Err why.Table) (cond false (Err why.Order) (Ok c)) ≡ cond t (Ok c) (Err why.Table)
    chosen c true = refl
    chosen c false = refl

    by : (r c : Cmd) (t u : Bool) → ranges_rise r ≡ u → cond (not u) (Err why.Range) (Ok r) ≡ Ok c → tables_stand (as_tables names) c ≡ t → points_rise c ≡ true → rules_read (as_tables names) r ≡ cond t (Ok c) (Err why.Table)
    by r c t false rr h stand rise = cc
    by r c t true rr h stand rise =
        let same : r ≡ c = ok-is r c h in
        let up : ranges_rise c ≡ true = ap ranges_rise (sym same) ∙ rr in
        ap (rules_read (as_tables names)) same
        ∙ ap (λ x. cond (not x) (Err why.Range) (cond (not (tables_stand (as_tables names) c)) (Err why.Table) (cond (not (points_rise c)) (Err why.Order) (Ok c)))) up
        ∙ ap (λ x. cond (not x) (Err why.Table) (cond (not (points_rise c)) (Err why.Order) (Ok c))) stand
        ∙ ap (λ x. cond (not t) (Err why.Table) (cond (not x) (Err why.Order) (Ok c))) rise
        ∙ chosen c t

-- a defect of the words or of a range comes before the other rules
pub ranged_ruled : (names : List (List ℕ)) (read : Result Cmd Why) (d : Why) → ranged ranges read ≡ Err d → ruled names read ≡ Err d
ranged_ruled names (Err e) d h = ap (λ x. Err x) (err-is e d h)
  where
    err-is : (x y : Why) → ◌≡◌ {A = Result Cmd Why} (Err x) (Err y) → x ≡ y
    err-is x y h = cc
ranged_ruled names (Ok c) d h = by (ranges_rise c) h
  where
    by : (u : Bool) → cond (not u) (Err why.Range) (Ok c) ≡ Err d → cond (not u) (Err why.Range) (cond (not (tables_stand (as_tables names) c)) (Err why.Table) (cond (not (points_rise c)) (Err why.Order) (Ok c))) ≡ Err d
    by true h = cc
    by false h = h

pub ranged_failed : (names : List (List ℕ)) (read : Result Cmd Why) (refusal : LineNo) → IsDefect refusal (ranged ranges read) → IsDefect refusal (ruled names read)
ranged_failed names read Memory h = tt
ranged_failed names read (Bad d) h = ranged_ruled names read d h

-- ---- tables

-- the name and the operations that were read, whose ranges rise
pub record TableRead (word : List ℕ) (words : List (List ℕ)) (parts : List (List (List ℕ))) (name : List ℕ) (ops : List Op) : Type 0 where
  pub shape : ops_shape words ≡ Ok parts
  pub named : name_read word ≡ Ok name
  pub read : all_read op_read parts ≡ Ok ops
  pub rise : list_all rises (flat_map op_ranges ops) ≡ true

pub risen_ops : (read ops : List Op) → ranged (λ xs. flat_map op_ranges xs) (Ok read) ≡ Ok ops → (list_all rises (flat_map op_ranges read) ≡ true) × (read ≡ ops)
risen_ops read ops e = by (list_all rises (flat_map op_ranges read)) e
  where
    by : (t : Bool) → cond (not t) (Err why.Range) (Ok read) ≡ Ok ops → (t ≡ true) × (read ≡ ops)
    by true h = (refl, cc)
    by false h = cc

table-is-read : (word : List ℕ) (words : List (List ℕ)) (parts : List (List (List ℕ))) (name : List ℕ) (ops : List Op) → TableRead word words parts name ops → named_table_read word words ≡ Ok (cmd.Table (table_ops name ops))
table-is-read word words parts name ops h =
    ap (λ r. r >>= λ ps. name_read word >>= λ n. all_read op_read ps >>= λ os. Ok (cmd.Table (table_ops n os))) h.shape
    ∙ ap (λ r. r >>= λ n. all_read op_read parts >>= λ os. Ok (cmd.Table (table_ops n os))) h.named
    ∙ ap (λ r. r >>= λ os. Ok (cmd.Table (table_ops name os))) h.read

-- all rules on such a table
pub table-ruled : (names : List (List ℕ)) (word : List ℕ) (words : List (List ℕ)) (parts : List (List (List ℕ))) (name : List ℕ) (ops : List Op) (t u : Bool) → TableRead word words parts name ops → is_some (found_table name (as_tables names)) ≡ t → is_none (disorder ops) ≡ u → ruled names (named_table_read word words) ≡ cond (not (not t)) (Err why.Table) (cond (not u) (Err why.Order) (Ok (cmd.Table (table_ops name ops))))
table-ruled names word words parts name ops t u h found order =
    let c = cmd.Table (table_ops name ops) in
    let stand : tables_stand (as_tables names) c ≡ not t = ap not found in
    ap (ruled names) (table-is-read word words parts name ops h)
    ∙ ap (λ x. cond (not x) (Err why.Range) (cond (not (tables_stand (as_tables names) c)) (Err why.Table) (cond (not (points_rise c)) (Err why.Order) (Ok c)))) h.rise
    ∙ ap (λ x. cond (not x) (Err why.Table) (cond (not (points_rise c)) (Err why.Order) (Ok c))) stand
    ∙ ap (λ x. cond (not (not t)) (Err why.Table) (cond (not x) (Err why.Order) (Ok c))) order

-- its operations are a table's where they keep their order
pub table-sound : (word : List ℕ) (words : List (List ℕ)) (parts : List (List (List ℕ))) (name : List ℕ) (ops : List Op) → TableRead word words parts name ops → is_none (disorder ops) ≡ true → is_table ops ≡ true
table-sound word words parts name ops h order = and_from _ _ (ops-is words parts ops h.shape h.read).counted order

pub table_of : (word : List ℕ) (words : List (List ℕ)) (parts seen : List (Bor (List (Bor (List ℕ))))) (name : List ℕ) (drafts : List Draft) (ops : List Op) → ops_shape words ≡ Ok (map (λ part. texts part.now) parts) → seen ≡ parts → name_read word ≡ Ok name → all_read op_read (map (λ part. texts part.now) seen) ≡ Ok (map drafted drafts) → ranged (λ xs. flat_map op_ranges xs) (Ok (map drafted drafts)) ≡ Ok ops → TableRead word words (map (λ part. texts part.now) parts) name ops
table_of word words parts seen name drafts ops shape same named read risen =
    let r = risen_ops (map drafted drafts) ops risen in
    record {
      shape = shape;
      named = named;
      read = ap (λ ps. all_read op_read (map (λ part. texts part.now) ps)) (sym same) ∙ read ∙ ap (λ os. Ok os) r.1;
      rise = ap (λ os. list_all rises (flat_map op_ranges os)) (sym r.1) ∙ r.0;
    }

pub in_order : (seen ops : List Op) (o : Option ℕ) (b : Bool) → o ≡ disorder seen → seen ≡ ops → b ≡ is_some o → is_none (disorder ops) ≡ not b
in_order seen ops o b is same some = ap (λ xs. is_none (disorder xs)) (sym same) ∙ ap (λ x. not (is_some x)) (sym is) ∙ ap not (sym some)

pub spoken : (names : List (List ℕ)) (form : ScriptForm) (number : ℕ) (who : List ℕ) (words : List (List ℕ)) (by : Option By) → who_read form who ≡ Ok by → spoken_read form (as_tables names) number who words ≡ (ruled names (cmd_read form by words) >>= λ x. Ok (line_of number by x))
spoken names form number who words by e =
    ap (λ r. r >>= λ b. cmd_read form b words >>= λ c. rules_read (as_tables names) c >>= λ x. Ok (line_of number b x)) e ∙ ruled_then names (cmd_read form by words) number by

pub failed_then : {A B : Type 0} (read : Result A Why) (f : A → Result B Why) (refusal : LineNo) → IsDefect refusal read → IsDefect refusal (read >>= f)
failed_then read f Memory h = tt
failed_then read f (Bad d) h = ap (λ r. r >>= f) h

pub clean_some : (word : List ℕ) → eqb (length word) 0 ≡ false → list_all is_visible word ≡ is_clean word
clean_some [] h = absurd (true≢false h)
clean_some (b ∷ word) h = refl
