-- Lines: what is read is spelled so and keeps the rules, and such a line is read.
use Rattle.std.proofs.Common.{◌≡◌, ℕ, ◌^◌, ◌≤◌, Bool, true, false, cond, not, ◌&&◌, eqb, leb, ltb, List, [], ◌∷◌, ◌++◌, length, Option, Some, None, Result, Ok, Err, refl, sym, ap, subst, ◌∙◌, inl, inr, arith, codes}
use Rattle.std.specs.Fmt.{decimal}
use Rattle.std.specs.List.{list_all, flat_map}
use Rattle.std.proofs.lemmas.Bool.{and_parts, and_from, leb-true, le-leb, ltb-true, eqb-true, not-false, false≢true, not-true}
use Rattle.std.proofs.lemmas.List.Folds.{list_all-append}
use Rattle.std.proofs.Math.Bool.{or-false}
use Rattle.xdb_key.proofs.ReadingLaws.{bind_ok, guard_ok, chosen}
use Rattle.xdb_key.specs.Bounds.{Bounds}
use Rattle.xdb_key.specs.Name.{is_name}
use Rattle.xdb_key.specs.Ops.{batch_len}
use Rattle.xdb_key.specs.Reading.{◌>>=◌}
use Rattle.xdb_key.specs.declared.op.Op.{Op}
use Rattle.xdb_key.specs.declared.op.Op.TheVariants as op
use Rattle.xdb_plain.specs.Scripts.{suits, suits_form, suits_question, is_limit, is_job_number, is_for_workers, by_client, by_db}
use Rattle.xdb_plain.specs.Steps.{is_client}
use Rattle.xdb_plain.specs.Tables.{TableOps}
use Rattle.xdb_plain.specs.Words.{who_word, string_word, range_words, commit_words, op_words, ops_words, at_words, excise_words, question_words, cmd_words}
use Rattle.xdb_plain.specs.declared.act.By.{By}
use Rattle.xdb_plain.specs.declared.act.By.TheVariants.{Client, Db}
use Rattle.xdb_plain.specs.declared.act.CommitForm.{CommitForm}
use Rattle.xdb_plain.specs.declared.act.CommitForm.TheVariants as commit
use Rattle.xdb_plain.specs.declared.act.ShowWhat.TheVariants as what
use Rattle.xdb_plain.specs.declared.act.StatusForm.TheVariants as status
use Rattle.xdb_plain.specs.declared.act.Which.TheVariants.{Auto, At}
use Rattle.xdb_plain.specs.declared.question.Question.{Question}
use Rattle.xdb_plain.specs.declared.question.Question.TheVariants.{Get, Scan, RScan, Move}
use Rattle.xdb_plain.specs.declared.question.Step.{Step}
use Rattle.xdb_plain.specs.declared.question.Step.TheVariants.{First, Last, Next, Prev, Seek, SeekLt}
use Rattle.xdb_plain.specs.declared.script.Cmd.{Cmd}
use Rattle.xdb_plain.specs.declared.script.Cmd.TheVariants as cmd
use Rattle.xdb_plain.specs.declared.script.Line.{Line}
use Rattle.xdb_script.proofs.Words.{ok_is, passed, found_tells, same-tells, number-is, number-again, clean-string, clean-decimal, clean-name}
use Rattle.xdb_script.proofs.Commands.{batch_fits, found_is, client-is, db-is, table-is}
use Rattle.xdb_script.proofs.Lengths.{commit-short}
use Rattle.xdb_script.proofs.Spelled.{cmd-again}
use Rattle.xdb_script.specs.Fields.{same_word, number_read}
use Rattle.xdb_script.specs.Grammar.{most_bytes, words_in, IsLine, suits_script}
use Rattle.xdb_script.specs.Reading.{found_or, found_client, found_db, client_read, db_read, client_numbered, client_of, db_in, who_read, client_line, db_line, cmd_read, rules_read, is_clean, line_of, line_read}
use Rattle.xdb_script.specs.Rules.{is_string, is_key, is_bound, is_value, are_bytes, has_length, has_bounds, op_fits, at_fits, step_fits, question_fits, span_fits, fits, ranges_rise, tables_stand, points_rise, is_sound}
use Rattle.xdb_script.specs.Verbs.{client_word, db_word, client_verbs, db_verbs, is_parted, is_run, is_verb_in}
use Rattle.xdb_script.specs.declared.verbs.ClientVerb.{ClientVerb}
use Rattle.xdb_script.specs.declared.error.Why.{Why}
use Rattle.xdb_script.specs.declared.error.Why.TheVariants as why
use Rattle.xdb_script.specs.declared.form.ScriptForm.{ScriptForm}
use Rattle.xdb_script.specs.declared.form.ScriptForm.TheVariants.{Run, Threads}

-- ---- who speaks

-- who may speak in a script of the form
abbrev pub speaks : ScriptForm → Option By → Bool
speaks form None = true
speaks form (Some (Client n)) = is_client (Client n)
speaks form (Some Db) = is_run form

who-made : (form : ScriptForm) (word : List ℕ) (made by : Option By) → made ≡ by → (word ≡ who_word made) × (speaks form made ≡ true) → (word ≡ who_word by) × (speaks form by ≡ true)
who-made form word made by same h = subst (λ x. (word ≡ who_word x) × (speaks form x ≡ true)) same h

numbered-tells : (r : Result ℕ Why) (by : Option By) → client_numbered r ≡ Ok by → (n : ℕ) × (r ≡ Ok n) × (Some (Client n) ≡ by)
numbered-tells (Ok n) by e = (n, refl, ok_is (Some (Client n)) by e)
numbered-tells (Err d) by e = cc

client-of-is : (form : ScriptForm) (word : List ℕ) (by : Option By) → client_of word ≡ Ok by → (word ≡ who_word by) × (speaks form by ≡ true)
client-of-is form [] by e = cc
client-of-is form (b ∷ digits) by e =
    let a = passed (eqb b 99) (client_numbered (number_read 1 16 digits)) why.Who e in
    let c = numbered-tells (number_read 1 16 digits) by a.1 in
    let n = number-is 1 16 digits c.0 c.1 in
    who-made form (b ∷ digits) (Some (Client c.0)) by c.2 ((λ i. eqb-true b 99 a.0 i ∷ n.0 i), n.1)

db-in-is : (form : ScriptForm) (word : List ℕ) (by : Option By) → word ≡ codes "db" → db_in form ≡ Ok by → (word ≡ who_word by) × (speaks form by ≡ true)
db-in-is Run word by same e = who-made Run word (Some Db) by (ok_is (Some Db) by e) (same, refl)
db-in-is Threads word by same e = cc

who-is : (form : ScriptForm) (word : List ℕ) (by : Option By) → who_read form word ≡ Ok by → (word ≡ who_word by) × (speaks form by ≡ true)
who-is form word by e = elim (chosen (same_word word (codes "table")) (Ok None) _ e) [
  | inl t ↦ who-made form word None by (ok_is None by t.1) (same-tells word (codes "table") t.0, refl)
  | inr f ↦ elim (chosen (same_word word (codes "db")) (db_in form) (client_of word) f.1) [
    | inl d ↦ db-in-is form word by (same-tells word (codes "db") d.0) d.1
    | inr c ↦ client-of-is form word by c.1
  ]
]

who-again : (form : ScriptForm) (by : Option By) → speaks form by ≡ true → who_read form (who_word by) ≡ Ok by
who-again form None h = refl
who-again Run (Some Db) h = refl
who-again Threads (Some Db) h = absurd (false≢true h)
who-again form (Some (Client n)) h =
    let high = leb-true n 16 (and_parts (leb 1 n) (leb n 16) h).1 in
    ap client_numbered (number-again 1 16 n (omega arith) h)

-- ---- commands by who says them

-- a command that was read for a script of the form
record ReadsLine (form : ScriptForm) (by : Option By) (words : List (List ℕ)) (c : Cmd) : Type 0 where
  is : words ≡ cmd_words c
  limits : fits c ≡ true
  sound : points_rise c ≡ true → is_sound c ≡ true
  suited : (tables : List TableOps) → tables_stand tables c ≡ true → batch_fits c ≡ true → suits tables by c ≡ true
  in_form : (number : ℕ) → suits_script form (line_of number by c) ≡ true

client-in-form : (form : ScriptForm) (n number : ℕ) (v : ClientVerb) (c : Cmd) → is_client (Client n) ≡ true → is_verb_in form v ≡ true → (is_parted v ≡ false → is_for_workers c ≡ true) → suits_script form (line_of number (Some (Client n)) c) ≡ true
client-in-form Run n number v c client verbed workers = refl
client-in-form Threads n number v c client verbed workers = and_from _ _ client (workers (not-true (is_parted v) (sym (or-false (not (is_parted v))) ∙ verbed)))

client-line-is : (form : ScriptForm) (n : ℕ) → is_client (Client n) ≡ true → (words : List (List ℕ)) (c : Cmd) → client_line form words ≡ Ok c → ReadsLine form (Some (Client n)) words c
client-line-is form n client [] c e = cc
client-line-is form n client (w ∷ words) c e =
    let a = bind_ok (found_or why.Verb (found_client form w)) (λ v. client_read v words) e in
    let found = found_tells (λ v. same_word (client_word v) w && is_verb_in form v) client_verbs a.0 (found_is why.Verb (found_client form w) a.0 a.1) in
    let parts = and_parts (same_word (client_word a.0) w) (is_verb_in form a.0) found in
    let r = client-is (Some (Client n)) client a.0 words c a.2 in
    record {
      is = ap (λ x. x ∷ words) (sym (same-tells (client_word a.0) w parts.0)) ∙ r.is;
      limits = r.limits;
      sound = r.sound;
      suited = r.suited;
      in_form = λ number. client-in-form form n number a.0 c client parts.1 r.workers;
    }

db-line-is : (words : List (List ℕ)) (c : Cmd) → db_line words ≡ Ok c → ReadsLine Run (Some Db) words c
db-line-is [] c e = cc
db-line-is (w ∷ words) c e =
    let a = bind_ok (found_or why.Verb (found_db w)) (λ v. db_read v words) e in
    let found = found_tells (λ v. same_word (db_word v) w) db_verbs a.0 (found_is why.Verb (found_db w) a.0 a.1) in
    let r = db-is (Some Db) refl a.0 words c a.2 in
    record {
      is = ap (λ x. x ∷ words) (sym (same-tells (db_word a.0) w found)) ∙ r.is;
      limits = r.limits;
      sound = r.sound;
      suited = r.suited;
      in_form = λ number. refl;
    }

table-in-form : (form : ScriptForm) (number : ℕ) (c : Cmd) → is_for_workers c ≡ true → suits_script form (line_of number None c) ≡ true
table-in-form Run number c h = refl
table-in-form Threads number c h = h

cmd-is : (form : ScriptForm) (by : Option By) → speaks form by ≡ true → (words : List (List ℕ)) (c : Cmd) → cmd_read form by words ≡ Ok c → ReadsLine form by words c
cmd-is form None h words c e =
    let r = table-is words c e in
    record { is = r.is; limits = r.limits; sound = r.sound; suited = r.suited; in_form = λ number. table-in-form form number c (r.workers refl) }
cmd-is form (Some (Client n)) h words c e = client-line-is form n h words c e
cmd-is Run (Some Db) h words c e = db-line-is words c e
cmd-is Threads (Some Db) h words c e = absurd (false≢true h)

-- ---- rules

record KeepsRules (tables : List TableOps) (c : Cmd) : Type 0 where
  rising : ranges_rise c ≡ true
  standing : tables_stand tables c ≡ true
  ordered : points_rise c ≡ true

rules-are : (tables : List TableOps) (c ruled : Cmd) → rules_read tables c ≡ Ok ruled → (c ≡ ruled) × KeepsRules tables c
rules-are tables c ruled e =
    let a = guard_ok (not (ranges_rise c)) why.Range _ e in
    let b = guard_ok (not (tables_stand tables c)) why.Table _ a.1 in
    let d = guard_ok (not (points_rise c)) why.Order (Ok c) b.1 in
    (ok_is c ruled d.1, record { rising = not-false _ a.0; standing = not-false _ b.0; ordered = not-false _ d.0 })

rules-again : (tables : List TableOps) (c : Cmd) → KeepsRules tables c → rules_read tables c ≡ Ok c
rules-again tables c h =
    ap (λ t. cond (not t) (Err why.Range) (cond (not (tables_stand tables c)) (Err why.Table) (cond (not (points_rise c)) (Err why.Order) (Ok c)))) h.rising
    ∙ ap (λ t. cond (not t) (Err why.Table) (cond (not (points_rise c)) (Err why.Order) (Ok c))) h.standing
    ∙ ap (λ t. cond (not t) (Err why.Order) (Ok c)) h.ordered

-- ---- lines read

batch-fits : (part who : List ℕ) (c : Cmd) → fits c ≡ true → words_in part ≡ who ∷ cmd_words c → length part ≤ most_bytes → batch_fits c ≡ true
batch-fits part who (cmd.Table table) h e short = refl
batch-fits part who (cmd.Commit f ops) h e short = le-leb (batch_len ops) 1048576 (commit-short part who f ops h e short)
batch-fits part who (cmd.Ask q parted) h e short = refl
batch-fits part who (cmd.Settle ask) h e short = refl
batch-fits part who (cmd.Snap name ranges) h e short = refl
batch-fits part who (cmd.Drop name) h e short = refl
batch-fits part who (cmd.Status name form) h e short = refl
batch-fits part who (cmd.Cursor name range at) h e short = refl
batch-fits part who (cmd.Shut name) h e short = refl
batch-fits part who (cmd.Load load names span) h e short = refl
batch-fits part who (cmd.Install load) h e short = refl
batch-fits part who cmd.Seal h e short = refl
batch-fits part who cmd.FlushTake h e short = refl
batch-fits part who (cmd.Put job) h e short = refl
batch-fits part who (cmd.CompactTake which) h e short = refl
batch-fits part who (cmd.Build job) h e short = refl
batch-fits part who (cmd.Work ask) h e short = refl
batch-fits part who cmd.Flush h e short = refl
batch-fits part who (cmd.Compact which) h e short = refl
batch-fits part who cmd.Reap h e short = refl
batch-fits part who (cmd.Show what) h e short = refl

line-is-by : (form : ScriptForm) (tables : List TableOps) (number : ℕ) (part : List ℕ) (words : List (List ℕ)) (line : Line) → words_in part ≡ words → length part ≤ most_bytes → line_read form tables number words ≡ Ok line → IsLine form tables number words line
line-is-by form tables number part [] line split short e = cc
line-is-by form tables number part (w ∷ words) line split short e =
    let clean = guard_ok (not (list_all is_clean (w ∷ words))) why.Spaces _ e in
    let a = bind_ok (who_read form w) (λ by. cmd_read form by words >>= λ c. rules_read tables c >>= λ ruled. Ok (line_of number by ruled)) clean.1 in
    let b = bind_ok (cmd_read form a.0 words) (λ c. rules_read tables c >>= λ ruled. Ok (line_of number a.0 ruled)) a.2 in
    let d = bind_ok (rules_read tables b.0) (λ ruled. Ok (line_of number a.0 ruled)) b.2 in
    let who = who-is form w a.0 a.1 in
    let r = cmd-is form a.0 who.1 words b.0 b.1 in
    let rules = rules-are tables b.0 d.0 d.1 in
    let fit : batch_fits b.0 ≡ true = batch-fits part w b.0 r.limits (split ∙ ap (λ ws. w ∷ ws) r.is) short in
    let same : line_of number a.0 b.0 ≡ line = ap (λ c. line_of number a.0 c) rules.0 ∙ ok_is (line_of number a.0 d.0) line d.2 in
    subst (λ l. IsLine form tables number (w ∷ words) l) same (record {
      numbered = refl;
      spelled = λ i. who.0 i ∷ r.is i;
      limits = r.limits;
      rising = rules.1.rising;
      table = r.sound rules.1.ordered;
      suited = r.suited tables rules.1.standing fit;
      in_form = r.in_form number;
    })

pub line-is : (form : ScriptForm) (tables : List TableOps) (number : ℕ) (part : List ℕ) (line : Line) → length part ≤ most_bytes → line_read form tables number (words_in part) ≡ Ok line → IsLine form tables number (words_in part) line
line-is form tables number part line short e = line-is-by form tables number part (words_in part) line refl short e

-- ---- words are clean

clean-word : (least most : ℕ) (bytes : List ℕ) → is_string least most bytes ≡ true → is_clean (string_word bytes) ≡ true
clean-word least most bytes h = clean-string bytes (and_parts (are_bytes bytes) (has_length least most bytes) h).0

alone : (b : Bool) → b ≡ true → (b && true) ≡ true
alone b h = and_from b true h refl

clean-both : (xs ys : List (List ℕ)) → list_all is_clean xs ≡ true → list_all is_clean ys ≡ true → list_all is_clean (xs ++ ys) ≡ true
clean-both xs ys h k = list_all-append is_clean xs ys ∙ and_from _ _ h k

clean-range : (range : Bounds) → has_bounds range ≡ true → list_all is_clean (range_words range) ≡ true
clean-range range h =
    let parts = and_parts (is_bound range.lo) (is_bound range.hi) h in
    and_from (is_clean (string_word range.lo)) _ (clean-word 1 1025 range.lo parts.0) (alone (is_clean (string_word range.hi)) (clean-word 1 1025 range.hi parts.1))

clean-op : (o : Op) → op_fits o ≡ true → list_all is_clean (op_words o) ≡ true
clean-op (op.Set key value) h =
    let parts = and_parts (is_key key) (is_value value) h in
    and_from (is_clean (string_word key)) _ (clean-word 1 1024 key parts.0) (alone (is_clean (string_word value)) (clean-word 0 65536 value parts.1))
clean-op (op.Del key) h = alone (is_clean (string_word key)) (clean-word 1 1024 key h)
clean-op (op.DelSpan range) h = clean-range range h

clean-behind : (ops : List Op) → list_all op_fits ops ≡ true → list_all is_clean (flat_map (λ next. codes ";" ∷ op_words next) ops) ≡ true
clean-behind [] h = refl
clean-behind (o ∷ ops) h =
    let parts = and_parts (op_fits o) _ h in
    clean-both (op_words o) (flat_map (λ next. codes ";" ∷ op_words next) ops) (clean-op o parts.0) (clean-behind ops parts.1)

clean-ops : (ops : List Op) → list_all op_fits ops ≡ true → list_all is_clean (ops_words ops) ≡ true
clean-ops [] h = refl
clean-ops (o ∷ ops) h =
    let parts = and_parts (op_fits o) _ h in
    clean-both (op_words o) (flat_map (λ next. codes ";" ∷ op_words next) ops) (clean-op o parts.0) (clean-behind ops parts.1)

clean-at : (at : Option (List ℕ)) → at_fits at ≡ true → list_all is_clean (at_words at) ≡ true
clean-at None h = refl
clean-at (Some snap) h = alone (is_clean snap) (clean-name snap h)

clean-scan : (range : Bounds) (most : ℕ) (at : Option (List ℕ)) → (has_bounds range && at_fits at) ≡ true → is_limit most ≡ true → list_all is_clean (range_words range ++ decimal most ∷ at_words at) ≡ true
clean-scan range most at h limit =
    let parts = and_parts (has_bounds range) (at_fits at) h in
    let high = leb-true most 1000 (and_parts (leb 1 most) (leb most 1000) limit).1 in
    clean-both (range_words range) (decimal most ∷ at_words at) (clean-range range parts.0) (and_from (is_clean (decimal most)) _ (clean-decimal most (omega arith)) (clean-at at parts.1))

clean-move : (cursor : List ℕ) (step : Step) → (is_name cursor && step_fits step) ≡ true → list_all is_clean (question_words (Move cursor step)) ≡ true
clean-move cursor First h = alone (is_clean cursor) (clean-name cursor (and_parts (is_name cursor) true h).0)
clean-move cursor Last h = alone (is_clean cursor) (clean-name cursor (and_parts (is_name cursor) true h).0)
clean-move cursor Next h = alone (is_clean cursor) (clean-name cursor (and_parts (is_name cursor) true h).0)
clean-move cursor Prev h = alone (is_clean cursor) (clean-name cursor (and_parts (is_name cursor) true h).0)
clean-move cursor (Seek key) h = let p = and_parts (is_name cursor) (is_key key) h in and_from (is_clean cursor) _ (clean-name cursor p.0) (alone (is_clean (string_word key)) (clean-word 1 1024 key p.1))
clean-move cursor (SeekLt key) h = let p = and_parts (is_name cursor) (is_key key) h in and_from (is_clean cursor) _ (clean-name cursor p.0) (alone (is_clean (string_word key)) (clean-word 1 1024 key p.1))

clean-question : (q : Question) → question_fits q ≡ true → suits_question q ≡ true → list_all is_clean (question_words q) ≡ true
clean-question (Get key at) h s = let p = and_parts (is_key key) (at_fits at) h in and_from (is_clean (string_word key)) _ (clean-word 1 1024 key p.0) (clean-at at p.1)
clean-question (Scan range most at) h s = clean-scan range most at h s
clean-question (RScan range most at) h s = clean-scan range most at h s
clean-question (Move cursor step) h s = clean-move cursor step h

clean-ranges : (ranges : List Bounds) → list_all has_bounds ranges ≡ true → list_all is_clean (flat_map range_words ranges) ≡ true
clean-ranges [] h = refl
clean-ranges (r ∷ ranges) h = let p = and_parts (has_bounds r) _ h in clean-both (range_words r) (flat_map range_words ranges) (clean-range r p.0) (clean-ranges ranges p.1)

clean-names : (names : List (List ℕ)) → list_all is_name names ≡ true → list_all is_clean names ≡ true
clean-names [] h = refl
clean-names (n ∷ names) h = let p = and_parts (is_name n) _ h in and_from _ _ (clean-name n p.0) (clean-names names p.1)

clean-span : (span : Option Bounds) → span_fits span ≡ true → list_all is_clean (excise_words span) ≡ true
clean-span None h = refl
clean-span (Some span) h = clean-range span h

clean-job : (b : Bool) (n : ℕ) → (b && is_job_number n) ≡ true → list_all is_clean (decimal n ∷ []) ≡ true
clean-job b n h =
    let small = ltb-true n (2 ^ 56) (and_parts (leb 1 n) (ltb n (2 ^ 56)) (and_parts b _ h).1).1 in
    alone (is_clean (decimal n)) (clean-decimal n (omega arith))

clean-level : (b : Bool) (level : ℕ) (range : Bounds) → (b && ltb level 7) ≡ true → has_bounds range ≡ true → list_all is_clean (decimal level ∷ range_words range) ≡ true
clean-level b level range s h =
    let small = ltb-true level 7 (and_parts b _ s).1 in
    and_from (is_clean (decimal level)) _ (clean-decimal level (omega arith)) (clean-range range h)

clean-commit : (b : Bool) (f : CommitForm) (ops : List Op) → (b && suits_form f ops) ≡ true → list_all op_fits ops ≡ true → list_all is_clean (commit_words f ops) ≡ true
clean-commit b commit.Put [] s h = absurd (false≢true (and_parts b _ s).1)
clean-commit b commit.Put (op.Set key value ∷ o ∷ ops) s h = absurd (false≢true (and_parts b _ s).1)
clean-commit b commit.Put (op.Del key ∷ ops) s h = absurd (false≢true (and_parts b _ s).1)
clean-commit b commit.Put (op.DelSpan range ∷ ops) s h = absurd (false≢true (and_parts b _ s).1)
clean-commit b commit.Put (op.Set key value ∷ []) s h = clean-op (op.Set key value) (and_parts (op_fits (op.Set key value)) true h).0
clean-commit b commit.Del [] s h = absurd (false≢true (and_parts b _ s).1)
clean-commit b commit.Del (op.Del key ∷ o ∷ ops) s h = absurd (false≢true (and_parts b _ s).1)
clean-commit b commit.Del (op.Set key value ∷ ops) s h = absurd (false≢true (and_parts b _ s).1)
clean-commit b commit.Del (op.DelSpan range ∷ ops) s h = absurd (false≢true (and_parts b _ s).1)
clean-commit b commit.Del (op.Del key ∷ []) s h = clean-op (op.Del key) (and_parts (op_fits (op.Del key)) true h).0
clean-commit b commit.DelSpan [] s h = absurd (false≢true (and_parts b _ s).1)
clean-commit b commit.DelSpan (op.DelSpan range ∷ o ∷ ops) s h = absurd (false≢true (and_parts b _ s).1)
clean-commit b commit.DelSpan (op.Set key value ∷ ops) s h = absurd (false≢true (and_parts b _ s).1)
clean-commit b commit.DelSpan (op.Del key ∷ ops) s h = absurd (false≢true (and_parts b _ s).1)
clean-commit b commit.DelSpan (op.DelSpan range ∷ []) s h = clean-op (op.DelSpan range) (and_parts (op_fits (op.DelSpan range)) true h).0
clean-commit b commit.Batch ops s h = clean-ops ops h

clean-cmd : (tables : List TableOps) (by : Option By) (c : Cmd) → fits c ≡ true → suits tables by c ≡ true → list_all is_clean (cmd_words c) ≡ true
clean-cmd tables by (cmd.Table table) h s = let p = and_parts (is_name table.name) (list_all op_fits table.ops) h in and_from (is_clean table.name) _ (clean-name table.name p.0) (clean-ops table.ops p.1)
clean-cmd tables by (cmd.Commit f ops) h s = clean-commit (by_client by) f ops s h
clean-cmd tables by (cmd.Ask q false) h s = clean-question q h (and_parts (by_client by) _ s).1
clean-cmd tables by (cmd.Ask q true) h s = clean-question q h (and_parts (by_client by) _ s).1
clean-cmd tables by (cmd.Settle ask) h s = clean-job (by_client by) ask s
clean-cmd tables by (cmd.Snap name ranges) h s = let p = and_parts (is_name name) _ h in and_from (is_clean name) _ (clean-name name p.0) (clean-ranges ranges p.1)
clean-cmd tables by (cmd.Drop name) h s = alone (is_clean name) (clean-name name h)
clean-cmd tables by (cmd.Status name status.Status) h s = alone (is_clean name) (clean-name name h)
clean-cmd tables by (cmd.Status name status.Await) h s = alone (is_clean name) (clean-name name h)
clean-cmd tables by (cmd.Cursor name range at) h s = let p = and_parts (is_name name) _ h in let q = and_parts (has_bounds range) (at_fits at) p.1 in and_from (is_clean name) _ (clean-name name p.0) (clean-both (range_words range) (at_words at) (clean-range range q.0) (clean-at at q.1))
clean-cmd tables by (cmd.Shut name) h s = alone (is_clean name) (clean-name name h)
clean-cmd tables by (cmd.Load load names span) h s = let p = and_parts (is_name load) _ h in let q = and_parts (list_all is_name names) (span_fits span) p.1 in and_from (is_clean load) _ (clean-name load p.0) (clean-both names (excise_words span) (clean-names names q.0) (clean-span span q.1))
clean-cmd tables by (cmd.Install load) h s = alone (is_clean load) (clean-name load h)
clean-cmd tables by cmd.Seal h s = refl
clean-cmd tables by cmd.FlushTake h s = refl
clean-cmd tables by (cmd.Put job) h s = clean-job (by_db by) job s
clean-cmd tables by (cmd.CompactTake Auto) h s = refl
clean-cmd tables by (cmd.CompactTake (At level range)) h s = clean-level (by_db by) level range s h
clean-cmd tables by (cmd.Build job) h s = clean-job (by_db by) job s
clean-cmd tables by (cmd.Work ask) h s = clean-job (by_db by) ask s
clean-cmd tables by cmd.Flush h s = refl
clean-cmd tables by (cmd.Compact Auto) h s = refl
clean-cmd tables by (cmd.Compact (At level range)) h s = clean-level (by_db by) level range s h
clean-cmd tables by cmd.Reap h s = refl
clean-cmd tables by (cmd.Show what.Levels) h s = refl
clean-cmd tables by (cmd.Show what.Counts) h s = refl
clean-cmd tables by (cmd.Show what.Snaps) h s = refl

shown-of : (word : List ℕ) → is_clean word ≡ true → is_clean (99 ∷ word) ≡ true
shown-of [] h = refl
shown-of (b ∷ bs) h = h

clean-after : (n : ℕ) → is_clean (decimal n) ≡ true → is_clean (99 ∷ decimal n) ≡ true
clean-after n h = shown-of (decimal n) h

clean-who : (form : ScriptForm) (by : Option By) → speaks form by ≡ true → is_clean (who_word by) ≡ true
clean-who form None h = refl
clean-who form (Some Db) h = refl
clean-who form (Some (Client n)) h =
    let high = leb-true n 16 (and_parts (leb 1 n) (leb n 16) h).1 in
    clean-after n (clean-decimal n (omega arith))

-- ---- spelled lines

rules-from : (tables : List TableOps) (by : Option By) (c : Cmd) → ranges_rise c ≡ true → is_sound c ≡ true → suits tables by c ≡ true → KeepsRules tables c
rules-from tables by (cmd.Table table) rise sound s = record { rising = rise; standing = (and_parts _ _ (and_parts _ _ s).0).1; ordered = (and_parts _ _ sound).1 }
rules-from tables by (cmd.Commit f ops) rise sound s = record { rising = rise; standing = refl; ordered = refl }
rules-from tables by (cmd.Ask q parted) rise sound s = record { rising = rise; standing = refl; ordered = refl }
rules-from tables by (cmd.Settle ask) rise sound s = record { rising = rise; standing = refl; ordered = refl }
rules-from tables by (cmd.Snap name ranges) rise sound s = record { rising = rise; standing = refl; ordered = refl }
rules-from tables by (cmd.Drop name) rise sound s = record { rising = rise; standing = refl; ordered = refl }
rules-from tables by (cmd.Status name form) rise sound s = record { rising = rise; standing = refl; ordered = refl }
rules-from tables by (cmd.Cursor name range at) rise sound s = record { rising = rise; standing = refl; ordered = refl }
rules-from tables by (cmd.Shut name) rise sound s = record { rising = rise; standing = refl; ordered = refl }
rules-from tables by (cmd.Load load names span) rise sound s = record { rising = rise; standing = (and_parts _ _ s).1; ordered = refl }
rules-from tables by (cmd.Install load) rise sound s = record { rising = rise; standing = refl; ordered = refl }
rules-from tables by cmd.Seal rise sound s = record { rising = rise; standing = refl; ordered = refl }
rules-from tables by cmd.FlushTake rise sound s = record { rising = rise; standing = refl; ordered = refl }
rules-from tables by (cmd.Put job) rise sound s = record { rising = rise; standing = refl; ordered = refl }
rules-from tables by (cmd.CompactTake which) rise sound s = record { rising = rise; standing = refl; ordered = refl }
rules-from tables by (cmd.Build job) rise sound s = record { rising = rise; standing = refl; ordered = refl }
rules-from tables by (cmd.Work ask) rise sound s = record { rising = rise; standing = refl; ordered = refl }
rules-from tables by cmd.Flush rise sound s = record { rising = rise; standing = refl; ordered = refl }
rules-from tables by (cmd.Compact which) rise sound s = record { rising = rise; standing = refl; ordered = refl }
rules-from tables by cmd.Reap rise sound s = record { rising = rise; standing = refl; ordered = refl }
rules-from tables by (cmd.Show what) rise sound s = record { rising = rise; standing = refl; ordered = refl }

client-speaks : (tables : List TableOps) (n : ℕ) (c : Cmd) → suits tables (Some (Client n)) c ≡ true → is_client (Client n) ≡ true
client-speaks tables n (cmd.Table table) s = absurd (false≢true s)
client-speaks tables n (cmd.Commit f ops) s = (and_parts _ _ s).0
client-speaks tables n (cmd.Ask q parted) s = (and_parts _ _ s).0
client-speaks tables n (cmd.Settle ask) s = (and_parts _ _ s).0
client-speaks tables n (cmd.Snap name ranges) s = (and_parts _ _ (and_parts _ _ s).0).0
client-speaks tables n (cmd.Drop name) s = s
client-speaks tables n (cmd.Status name form) s = s
client-speaks tables n (cmd.Cursor name range at) s = s
client-speaks tables n (cmd.Shut name) s = s
client-speaks tables n (cmd.Load load names span) s = (and_parts _ _ (and_parts _ _ s).0).0
client-speaks tables n (cmd.Install load) s = s
client-speaks tables n cmd.Seal s = absurd (false≢true s)
client-speaks tables n cmd.FlushTake s = absurd (false≢true s)
client-speaks tables n (cmd.Put job) s = absurd (false≢true s)
client-speaks tables n (cmd.CompactTake which) s = absurd (false≢true s)
client-speaks tables n (cmd.Build job) s = absurd (false≢true s)
client-speaks tables n (cmd.Work ask) s = absurd (false≢true s)
client-speaks tables n cmd.Flush s = absurd (false≢true s)
client-speaks tables n (cmd.Compact which) s = absurd (false≢true s)
client-speaks tables n cmd.Reap s = absurd (false≢true s)
client-speaks tables n (cmd.Show what) s = absurd (false≢true s)

speaks-from : (form : ScriptForm) (tables : List TableOps) (number : ℕ) (by : Option By) (c : Cmd) → suits tables by c ≡ true → suits_script form (line_of number by c) ≡ true → speaks form by ≡ true
speaks-from form tables number None c s i = refl
speaks-from Run tables number (Some Db) c s i = refl
speaks-from Threads tables number (Some Db) c s i = absurd (false≢true i)
speaks-from form tables number (Some (Client n)) c s i = client-speaks tables n c s

pub line-again : (form : ScriptForm) (tables : List TableOps) (number : ℕ) (words : List (List ℕ)) (line : Line) → IsLine form tables number words line → line_read form tables number words ≡ Ok line
line-again form tables number words line h =
    let by = line.by in
    let c = line.cmd in
    let speaking = speaks-from form tables line.number by c h.suited h.in_form in
    let clean : list_all is_clean (who_word by ∷ cmd_words c) ≡ true = and_from (is_clean (who_word by)) _ (clean-who form by speaking) (clean-cmd tables by c h.limits h.suited) in
    ap (line_read form tables number) h.spelled
    ∙ ap (λ t. cond (not t) (Err why.Spaces) (who_read form (who_word by) >>= λ b. cmd_read form b (cmd_words c) >>= λ x. rules_read tables x >>= λ ruled. Ok (line_of number b ruled))) clean
    ∙ ap (λ r. r >>= λ b. cmd_read form b (cmd_words c) >>= λ x. rules_read tables x >>= λ ruled. Ok (line_of number b ruled)) (who-again form by speaking)
    ∙ ap (λ r. r >>= λ x. rules_read tables x >>= λ ruled. Ok (line_of number by ruled)) (cmd-again form tables line.number by c h.limits h.table h.suited h.in_form)
    ∙ ap (λ r. r >>= λ ruled. Ok (line_of number by ruled)) (rules-again tables c (rules-from tables by c h.rising h.table h.suited))
    ∙ ap (λ n. Ok (line_of n by c)) (sym h.numbered)
