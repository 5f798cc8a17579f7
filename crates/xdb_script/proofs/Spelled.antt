-- Commands: what is spelled and keeps the limits is read.
use Rattle.std.proofs.Common.{◌≡◌, ℕ, ◌-◌, ◌^◌, Bool, true, false, ◌&&◌, leb, ltb, List, [], ◌∷◌, ◌++◌, length, map, Option, Some, None, Ok, refl, ap, ◌∙◌, arith}
use Rattle.std.specs.Fmt.{decimal}
use Rattle.std.specs.List.{list_all, flat_map}
use Rattle.std.proofs.lemmas.Bool.{and_parts, and_from, le-leb, ltb-true, false≢true, cond-true, cond-false}
use Rattle.std.proofs.lemmas.List.{length-map}
use Rattle.xdb_key.specs.Bounds.{Bounds}
use Rattle.xdb_key.specs.Name.{is_name}
use Rattle.xdb_key.specs.Reading.{◌>>=◌}
use Rattle.xdb_key.specs.declared.op.Op.{Op}
use Rattle.xdb_key.specs.declared.op.Op.TheVariants as op
use Rattle.xdb_plain.specs.Scripts.{suits, suits_form, suits_question, are_batch, is_job_number, by_client}
use Rattle.xdb_plain.specs.Tables.{TableOps, table_ops}
use Rattle.xdb_plain.specs.Words.{range_words, op_words, at_words, excise_words, ask_words, commit_words, cmd_words}
use Rattle.xdb_plain.specs.declared.act.By.{By}
use Rattle.xdb_plain.specs.declared.act.By.TheVariants.{Client, Db}
use Rattle.xdb_plain.specs.declared.act.CommitForm.{CommitForm}
use Rattle.xdb_plain.specs.declared.act.CommitForm.TheVariants as commit
use Rattle.xdb_plain.specs.declared.act.ShowWhat.TheVariants as what
use Rattle.xdb_plain.specs.declared.act.StatusForm.TheVariants as status
use Rattle.xdb_plain.specs.declared.act.Which.{Which}
use Rattle.xdb_plain.specs.declared.act.Which.TheVariants.{Auto, At}
use Rattle.xdb_plain.specs.declared.question.Question.{Question}
use Rattle.xdb_plain.specs.declared.script.Cmd.{Cmd}
use Rattle.xdb_plain.specs.declared.script.Cmd.TheVariants as cmd
use Rattle.xdb_script.proofs.Words.{number-again, name-again, all-again, no-excise}
use Rattle.xdb_script.proofs.Parts.{pair_words, pair-again, set-again, del-again, span-again, has_count, shape-again, ops-again}
use Rattle.xdb_script.proofs.Questions.{at-again, some-name-again, has-verb}
use Rattle.xdb_script.proofs.Commands.{starts_excise}
use Rattle.xdb_script.specs.Fields.{name_read, all_read, some_read}
use Rattle.xdb_script.specs.Reading.{pair_read, op_read, question_read, found_or, found_read, found_client, begin_read, commit_read, named_read, numbered_read, pairs_shape, few_shape, snap_read, cursor_read, is_excise, up_to_excise, excise_shape, load_read, client_read, which_read, table_read, client_line, db_line, cmd_read, line_of}
use Rattle.xdb_script.specs.Grammar.{suits_script}
use Rattle.xdb_script.specs.Rules.{has_bounds, op_fits, at_fits, span_fits, question_fits, fits, is_sound}
use Rattle.xdb_script.specs.Verbs.{read_word}
use Rattle.xdb_script.specs.declared.verbs.ReadVerb.{ReadVerb}
use Rattle.xdb_script.specs.declared.verbs.ReadVerb.TheVariants as reads
use Rattle.xdb_script.specs.declared.verbs.ClientVerb.TheVariants as says
use Rattle.xdb_script.specs.declared.error.Why.TheVariants as why
use Rattle.xdb_script.specs.declared.form.ScriptForm.{ScriptForm}
use Rattle.xdb_script.specs.declared.form.ScriptForm.TheVariants.{Run, Threads}

-- ---- verbs

found-read : (v : ReadVerb) → found_read (read_word v) ≡ Some v
found-read reads.Get = refl
found-read reads.Scan = refl
found-read reads.RScan = refl
found-read reads.First = refl
found-read reads.Last = refl
found-read reads.Next = refl
found-read reads.Prev = refl
found-read reads.Seek = refl
found-read reads.SeekLt = refl

found-client : (form : ScriptForm) (v : ReadVerb) → found_client form (read_word v) ≡ Some (says.Read v)
found-client form reads.Get = refl
found-client form reads.Scan = refl
found-client form reads.RScan = refl
found-client form reads.First = refl
found-client form reads.Last = refl
found-client form reads.Next = refl
found-client form reads.Prev = refl
found-client form reads.Seek = refl
found-client form reads.SeekLt = refl

-- ---- operands

named-again : (make : List ℕ → Cmd) (name : List ℕ) → is_name name ≡ true → named_read make (name ∷ []) ≡ Ok (make name)
named-again make name h = ap (λ r. r >>= λ n. Ok (make n)) (name-again name h)

numbered-again : (make : ℕ → Cmd) (n : ℕ) → is_job_number n ≡ true → numbered_read make (decimal n ∷ []) ≡ Ok (make n)
numbered-again make n h =
    let parts = and_parts (leb 1 n) (ltb n (2 ^ 56)) h in
    let high = ltb-true n (2 ^ 56) parts.1 in
    ap (λ r. r >>= λ k. Ok (make k)) (number-again 1 (2 ^ 56 - 1) n (omega arith) (and_from (leb 1 n) (leb n (2 ^ 56 - 1)) parts.0 (le-leb n (2 ^ 56 - 1) (omega arith))))

few-again : {A : Type 0} (least most : ℕ) (xs : List A) → (leb least (length xs) && leb (length xs) most) ≡ true → few_shape least most xs ≡ Ok xs
few-again least most xs h = cond-true _ _ _ h

-- ---- commits

count-of : (ops : List Op) → are_batch ops ≡ true → has_count ops ≡ true
count-of ops h = (and_parts _ _ (and_parts _ _ h).0).0

commit-again : (form : ScriptForm) (f : CommitForm) (ops : List Op) → suits_form f ops ≡ true → list_all op_fits ops ≡ true → client_line form (commit_words f ops) ≡ Ok (cmd.Commit f ops)
commit-again form commit.Put [] s h = absurd (false≢true s)
commit-again form commit.Put (op.Set key value ∷ o ∷ ops) s h = absurd (false≢true s)
commit-again form commit.Put (op.Del key ∷ ops) s h = absurd (false≢true s)
commit-again form commit.Put (op.DelSpan range ∷ ops) s h = absurd (false≢true s)
commit-again form commit.Put (op.Set key value ∷ []) s h = ap (commit_read commit.Put) (set-again key value (and_parts _ _ h).0)
commit-again form commit.Del [] s h = absurd (false≢true s)
commit-again form commit.Del (op.Del key ∷ o ∷ ops) s h = absurd (false≢true s)
commit-again form commit.Del (op.Set key value ∷ ops) s h = absurd (false≢true s)
commit-again form commit.Del (op.DelSpan range ∷ ops) s h = absurd (false≢true s)
commit-again form commit.Del (op.Del key ∷ []) s h = ap (commit_read commit.Del) (del-again key (and_parts _ _ h).0)
commit-again form commit.DelSpan [] s h = absurd (false≢true s)
commit-again form commit.DelSpan (op.DelSpan range ∷ o ∷ ops) s h = absurd (false≢true s)
commit-again form commit.DelSpan (op.Set key value ∷ ops) s h = absurd (false≢true s)
commit-again form commit.DelSpan (op.Del key ∷ ops) s h = absurd (false≢true s)
commit-again form commit.DelSpan (op.DelSpan range ∷ []) s h = ap (commit_read commit.DelSpan) (span-again range (and_parts _ _ h).0)
commit-again form commit.Batch ops s h =
    ap (λ r. r >>= λ parts. all_read op_read parts >>= λ os. Ok (cmd.Commit commit.Batch os)) (shape-again ops h (count-of ops s))
    ∙ ap (λ r. r >>= λ os. Ok (cmd.Commit commit.Batch os)) (ops-again ops h)

-- ---- questions

ask-again : (form : ScriptForm) (q : Question) → question_fits q ≡ true → suits_question q ≡ true → client_line form (ask_words q false) ≡ Ok (cmd.Ask q false)
ask-again form q h s =
    let has = has-verb q h s in
    ap (client_line form) has.is
    ∙ ap (λ f. found_or why.Verb f >>= λ v. client_read v has.words) (found-client form has.v)
    ∙ ap (λ r. r >>= λ x. Ok (cmd.Ask x false)) has.reads

begin-again : (q : Question) → question_fits q ≡ true → suits_question q ≡ true → client_line Run (ask_words q true) ≡ Ok (cmd.Ask q true)
begin-again q h s =
    let has = has-verb q h s in
    ap begin_read has.is
    ∙ ap (λ f. found_or why.Shape f >>= λ v. question_read v has.words >>= λ x. Ok (cmd.Ask x true)) (found-read has.v)
    ∙ ap (λ r. r >>= λ x. Ok (cmd.Ask x true)) has.reads

-- ---- snapshots, cursors and loads

pairs-again : (ranges : List Bounds) → pairs_shape (flat_map range_words ranges) ≡ Ok (map pair_words ranges)
pairs-again [] = refl
pairs-again (r ∷ ranges) = ap (λ x. x >>= λ ps. Ok (pair_words r ∷ ps)) (pairs-again ranges)

snap-count : (b : Bool) (ranges : List Bounds) → ((b && leb 1 (length ranges)) && leb (length ranges) 8) ≡ true → (leb 1 (length ranges) && leb (length ranges) 8) ≡ true
snap-count b ranges h =
    let high = and_parts (b && leb 1 (length ranges)) (leb (length ranges) 8) h in
    and_from _ _ (and_parts b _ high.0).1 high.1

snap-again : (name : List ℕ) (ranges : List Bounds) → is_name name ≡ true → list_all has_bounds ranges ≡ true → (leb 1 (length ranges) && leb (length ranges) 8) ≡ true → snap_read (name ∷ flat_map range_words ranges) ≡ Ok (cmd.Snap name ranges)
snap-again name ranges n h count =
    let counts = length-map ranges pair_words in
    ap (λ r. r >>= λ all. few_shape 1 8 all >>= λ pairs. name_read name >>= λ x. all_read pair_read pairs >>= λ rs. Ok (cmd.Snap x rs)) (pairs-again ranges)
    ∙ ap (λ r. r >>= λ pairs. name_read name >>= λ x. all_read pair_read pairs >>= λ rs. Ok (cmd.Snap x rs)) (few-again 1 8 (map pair_words ranges) (ap (λ k. leb 1 k && leb k 8) counts ∙ count))
    ∙ ap (λ r. r >>= λ x. all_read pair_read (map pair_words ranges) >>= λ rs. Ok (cmd.Snap x rs)) (name-again name n)
    ∙ ap (λ r. r >>= λ rs. Ok (cmd.Snap name rs)) (all-again pair_read pair_words has_bounds pair-again ranges h)

cursor-again : (name : List ℕ) (range : Bounds) (at : Option (List ℕ)) → is_name name ≡ true → has_bounds range ≡ true → at_fits at ≡ true → cursor_read (name ∷ range_words range ++ at_words at) ≡ Ok (cmd.Cursor name range at)
cursor-again name range at n h a =
    ap (λ r. r >>= λ snap. name_read name >>= λ x. pair_read (pair_words range) >>= λ b. some_read name_read snap >>= λ y. Ok (cmd.Cursor x b y)) (at-again at)
    ∙ ap (λ r. r >>= λ x. pair_read (pair_words range) >>= λ b. some_read name_read at >>= λ y. Ok (cmd.Cursor x b y)) (name-again name n)
    ∙ ap (λ r. r >>= λ b. some_read name_read at >>= λ y. Ok (cmd.Cursor name b y)) (pair-again range h)
    ∙ ap (λ r. r >>= λ y. Ok (cmd.Cursor name range y)) (some-name-again at a)

up-again : (names rest : List (List ℕ)) → list_all is_name names ≡ true → starts_excise rest ≡ true → up_to_excise (names ++ rest) ≡ (names, rest)
up-again [] [] h s = refl
up-again [] (w ∷ words) h s = cond-true (is_excise w) _ _ s
up-again (n ∷ names) rest h s =
    let parts = and_parts (is_name n) _ h in
    cond-false (is_excise n) _ _ (no-excise n parts.0) ∙ ap (λ more. (n ∷ more.0, more.1)) (up-again names rest parts.1 s)

starts-again : (span : Option Bounds) → starts_excise (excise_words span) ≡ true
starts-again None = refl
starts-again (Some span) = refl

abbrev span_pair : Option Bounds → Option (List ℕ × List ℕ)
span_pair None = None
span_pair (Some span) = Some (pair_words span)

excise-again : (span : Option Bounds) → excise_shape (excise_words span) ≡ Ok (span_pair span)
excise-again None = refl
excise-again (Some span) = refl

some-pair-again : (span : Option Bounds) → span_fits span ≡ true → some_read pair_read (span_pair span) ≡ Ok span
some-pair-again None h = refl
some-pair-again (Some span) h = ap (λ r. r >>= λ b. Ok (Some b)) (pair-again span h)

names-again : (names : List (List ℕ)) → list_all is_name names ≡ true → all_read name_read names ≡ Ok names
names-again [] h = refl
names-again (n ∷ names) h =
    let parts = and_parts (is_name n) _ h in
    ap (λ r. r >>= λ x. all_read name_read names >>= λ xs. Ok (x ∷ xs)) (name-again n parts.0) ∙ ap (λ r. r >>= λ xs. Ok (n ∷ xs)) (names-again names parts.1)

load-again : (load : List ℕ) (names : List (List ℕ)) (span : Option Bounds) → is_name load ≡ true → list_all is_name names ≡ true → span_fits span ≡ true → leb (length names) 16 ≡ true → load_read (load ∷ names ++ excise_words span) ≡ Ok (cmd.Load load names span)
load-again load names span l n s count =
    ap (λ up. few_shape 0 16 up.0 >>= λ few. excise_shape up.1 >>= λ excise. name_read load >>= λ x. all_read name_read few >>= λ ts. some_read pair_read excise >>= λ y. Ok (cmd.Load x ts y)) (up-again names (excise_words span) n (starts-again span))
    ∙ ap (λ r. r >>= λ few. excise_shape (excise_words span) >>= λ excise. name_read load >>= λ x. all_read name_read few >>= λ ts. some_read pair_read excise >>= λ y. Ok (cmd.Load x ts y)) (few-again 0 16 names (and_from (leb 0 (length names)) _ (le-leb 0 (length names) (omega arith)) count))
    ∙ ap (λ r. r >>= λ excise. name_read load >>= λ x. all_read name_read names >>= λ ts. some_read pair_read excise >>= λ y. Ok (cmd.Load x ts y)) (excise-again span)
    ∙ ap (λ r. r >>= λ x. all_read name_read names >>= λ ts. some_read pair_read (span_pair span) >>= λ y. Ok (cmd.Load x ts y)) (name-again load l)
    ∙ ap (λ r. r >>= λ ts. some_read pair_read (span_pair span) >>= λ y. Ok (cmd.Load load ts y)) (names-again names n)
    ∙ ap (λ r. r >>= λ y. Ok (cmd.Load load names y)) (some-pair-again span s)

-- ---- compactions and tables

which-again : (make : Which → Cmd) (level : ℕ) (range : Bounds) → has_bounds range ≡ true → ltb level 7 ≡ true → which_read make (decimal level ∷ range_words range) ≡ Ok (make (At level range))
which-again make level range h low =
    let small = ltb-true level 7 low in
    ap (λ r. r >>= λ l. pair_read (pair_words range) >>= λ b. Ok (make (At l b))) (number-again 0 6 level (omega arith) (and_from (leb 0 level) (leb level 6) (le-leb 0 level (omega arith)) (le-leb level 6 (omega arith))))
    ∙ ap (λ r. r >>= λ b. Ok (make (At level b))) (pair-again range h)

table-again : (table : TableOps) → fits (cmd.Table table) ≡ true → is_sound (cmd.Table table) ≡ true → table_read (cmd_words (cmd.Table table)) ≡ Ok (cmd.Table table)
table-again table h sound =
    let parts = and_parts (is_name table.name) (list_all op_fits table.ops) h in
    let count = (and_parts _ _ sound).0 in
    ap (λ r. r >>= λ ps. name_read table.name >>= λ x. all_read op_read ps >>= λ os. Ok (cmd.Table (table_ops x os))) (shape-again table.ops parts.1 count)
    ∙ ap (λ r. r >>= λ x. all_read op_read (map op_words table.ops) >>= λ os. Ok (cmd.Table (table_ops x os))) (name-again table.name parts.0)
    ∙ ap (λ r. r >>= λ os. Ok (cmd.Table (table_ops table.name os))) (ops-again table.ops parts.1)

-- ---- who says what

client-again : (form : ScriptForm) (tables : List TableOps) (n number : ℕ) (c : Cmd) → fits c ≡ true → suits tables (Some (Client n)) c ≡ true → suits_script form (line_of number (Some (Client n)) c) ≡ true → client_line form (cmd_words c) ≡ Ok c
client-again form tables n number (cmd.Table table) h s i = absurd (false≢true s)
client-again form tables n number (cmd.Commit f ops) h s i = commit-again form f ops (and_parts _ _ s).1 h
client-again form tables n number (cmd.Ask q false) h s i = ask-again form q h (and_parts _ _ s).1
client-again Run tables n number (cmd.Ask q true) h s i = begin-again q h (and_parts _ _ s).1
client-again Threads tables n number (cmd.Ask q true) h s i = absurd (false≢true (and_parts _ _ i).1)
client-again Run tables n number (cmd.Settle ask) h s i = numbered-again (λ x. cmd.Settle x) ask (and_parts _ _ s).1
client-again Threads tables n number (cmd.Settle ask) h s i = absurd (false≢true (and_parts _ _ i).1)
client-again form tables n number (cmd.Snap name ranges) h s i = let p = and_parts (is_name name) _ h in snap-again name ranges p.0 p.1 (snap-count (by_client (Some (Client n))) ranges s)
client-again form tables n number (cmd.Drop name) h s i = named-again (λ x. cmd.Drop x) name h
client-again form tables n number (cmd.Status name status.Status) h s i = named-again (λ x. cmd.Status x status.Status) name h
client-again form tables n number (cmd.Status name status.Await) h s i = named-again (λ x. cmd.Status x status.Await) name h
client-again form tables n number (cmd.Cursor name range at) h s i = let p = and_parts (is_name name) _ h in let q = and_parts (has_bounds range) (at_fits at) p.1 in cursor-again name range at p.0 q.0 q.1
client-again form tables n number (cmd.Shut name) h s i = named-again (λ x. cmd.Shut x) name h
client-again form tables n number (cmd.Load load names span) h s i = let p = and_parts (is_name load) _ h in let q = and_parts (list_all is_name names) (span_fits span) p.1 in load-again load names span p.0 q.0 q.1 (and_parts _ _ (and_parts _ _ s).0).1
client-again form tables n number (cmd.Install load) h s i = named-again (λ x. cmd.Install x) load h
client-again form tables n number cmd.Seal h s i = absurd (false≢true s)
client-again form tables n number cmd.FlushTake h s i = absurd (false≢true s)
client-again form tables n number (cmd.Put job) h s i = absurd (false≢true s)
client-again form tables n number (cmd.CompactTake which) h s i = absurd (false≢true s)
client-again form tables n number (cmd.Build job) h s i = absurd (false≢true s)
client-again form tables n number (cmd.Work ask) h s i = absurd (false≢true s)
client-again form tables n number cmd.Flush h s i = absurd (false≢true s)
client-again form tables n number (cmd.Compact which) h s i = absurd (false≢true s)
client-again form tables n number cmd.Reap h s i = absurd (false≢true s)
client-again form tables n number (cmd.Show what) h s i = absurd (false≢true s)

db-again : (tables : List TableOps) (c : Cmd) → fits c ≡ true → suits tables (Some Db) c ≡ true → db_line (cmd_words c) ≡ Ok c
db-again tables (cmd.Table table) h s = absurd (false≢true s)
db-again tables (cmd.Commit f ops) h s = absurd (false≢true s)
db-again tables (cmd.Ask q parted) h s = absurd (false≢true s)
db-again tables (cmd.Settle ask) h s = absurd (false≢true s)
db-again tables (cmd.Snap name ranges) h s = absurd (false≢true s)
db-again tables (cmd.Drop name) h s = absurd (false≢true s)
db-again tables (cmd.Status name form) h s = absurd (false≢true s)
db-again tables (cmd.Cursor name range at) h s = absurd (false≢true s)
db-again tables (cmd.Shut name) h s = absurd (false≢true s)
db-again tables (cmd.Load load names span) h s = absurd (false≢true s)
db-again tables (cmd.Install load) h s = absurd (false≢true s)
db-again tables cmd.Seal h s = refl
db-again tables cmd.FlushTake h s = refl
db-again tables (cmd.Put job) h s = numbered-again (λ x. cmd.Put x) job s
db-again tables (cmd.CompactTake Auto) h s = refl
db-again tables (cmd.CompactTake (At level range)) h s = which-again (λ x. cmd.CompactTake x) level range h s
db-again tables (cmd.Build job) h s = numbered-again (λ x. cmd.Build x) job s
db-again tables (cmd.Work ask) h s = numbered-again (λ x. cmd.Work x) ask s
db-again tables cmd.Flush h s = refl
db-again tables (cmd.Compact Auto) h s = refl
db-again tables (cmd.Compact (At level range)) h s = which-again (λ x. cmd.Compact x) level range h s
db-again tables cmd.Reap h s = refl
db-again tables (cmd.Show what.Levels) h s = refl
db-again tables (cmd.Show what.Counts) h s = refl
db-again tables (cmd.Show what.Snaps) h s = refl

none-again : (tables : List TableOps) (c : Cmd) → fits c ≡ true → is_sound c ≡ true → suits tables None c ≡ true → table_read (cmd_words c) ≡ Ok c
none-again tables (cmd.Table table) h sound s = table-again table h sound
none-again tables (cmd.Commit f ops) h sound s = absurd (false≢true s)
none-again tables (cmd.Ask q parted) h sound s = absurd (false≢true s)
none-again tables (cmd.Settle ask) h sound s = absurd (false≢true s)
none-again tables (cmd.Snap name ranges) h sound s = absurd (false≢true s)
none-again tables (cmd.Drop name) h sound s = absurd (false≢true s)
none-again tables (cmd.Status name form) h sound s = absurd (false≢true s)
none-again tables (cmd.Cursor name range at) h sound s = absurd (false≢true s)
none-again tables (cmd.Shut name) h sound s = absurd (false≢true s)
none-again tables (cmd.Load load names span) h sound s = absurd (false≢true s)
none-again tables (cmd.Install load) h sound s = absurd (false≢true s)
none-again tables cmd.Seal h sound s = absurd (false≢true s)
none-again tables cmd.FlushTake h sound s = absurd (false≢true s)
none-again tables (cmd.Put job) h sound s = absurd (false≢true s)
none-again tables (cmd.CompactTake which) h sound s = absurd (false≢true s)
none-again tables (cmd.Build job) h sound s = absurd (false≢true s)
none-again tables (cmd.Work ask) h sound s = absurd (false≢true s)
none-again tables cmd.Flush h sound s = absurd (false≢true s)
none-again tables (cmd.Compact which) h sound s = absurd (false≢true s)
none-again tables cmd.Reap h sound s = absurd (false≢true s)
none-again tables (cmd.Show what) h sound s = absurd (false≢true s)

-- a command that is spelled, keeps the limits and suits the one who says it is read again
pub cmd-again : (form : ScriptForm) (tables : List TableOps) (number : ℕ) (by : Option By) (c : Cmd) → fits c ≡ true → is_sound c ≡ true → suits tables by c ≡ true → suits_script form (line_of number by c) ≡ true → cmd_read form by (cmd_words c) ≡ Ok c
cmd-again form tables number None c h sound s i = none-again tables c h sound s
cmd-again form tables number (Some (Client n)) c h sound s i = client-again form tables n number c h s i
cmd-again form tables number (Some Db) c h sound s i = db-again tables c h s
