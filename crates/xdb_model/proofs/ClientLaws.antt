-- A client goes through its lines, block by block.
use Rattle.std.proofs.Common.{◌≡◌, ℕ, zero, suc, ◌+◌, ◌≤◌, true, false, List, [], ◌∷◌, ◌++◌, length, take, drop, Option, Some, None, refl, sym, ap, subst, ◌∙◌, arith}
use Rattle.std.proofs.lemmas.Bool.{false≢true}
use Rattle.std.proofs.lemmas.List.{append-nil, append_assoc, take-append-drop, take_all}
use Rattle.std.proofs.Math.Seq.{take-append_seam, drop-append_seam}
use Rattle.xdb_plain.specs.Answers.{first_of}
use Rattle.xdb_plain.specs.Runs.{IsBlock, block_len}
use Rattle.xdb_plain.specs.Scripts.{tables_below}
use Rattle.xdb_plain.specs.Tables.{TableOps}
use Rattle.xdb_plain.specs.Workers.{AreClientBlocks, IsBegun, IsUnderWay, HasCome, tables_over}
use Rattle.xdb_plain.specs.declared.act.By.{By}
use Rattle.xdb_plain.specs.declared.note.Note.{Note}
use Rattle.xdb_plain.specs.declared.script.Cmd.{Cmd}
use Rattle.xdb_plain.specs.declared.script.Cmd.TheVariants as cmd
use Rattle.xdb_plain.specs.declared.script.Line.{Line}
use Rattle.xdb_plain.proofs.RunLaws.{block-whole}
use Rattle.xdb_model.specs.Clients.{next_line, tables_of_done, client_run}

-- ---- a block with more notes behind it

-- how long a block is is seen from its first note
front-tells : (tables : List TableOps) (by : Option By) (c : Cmd) (n : Note) (notes more : List Note) → block_len (client_run tables) by c ((n ∷ notes) ++ more) ≡ block_len (client_run tables) by c (n ∷ notes)
front-tells tables None c n notes more = refl
front-tells tables (Some by) (cmd.Ask question true) n notes more = refl
front-tells tables (Some by) (cmd.Ask question false) n notes more = refl
front-tells tables (Some by) _ n notes more = refl

-- a line that has no notes
no-notes : (tables : List TableOps) (by : Option By) (c : Cmd) (more : List Note) → IsBlock (client_run tables) by c [] → block_len (client_run tables) by c more ≡ 0
no-notes tables None c more b = refl
no-notes tables (Some by) (cmd.Table table) more b = refl
no-notes tables (Some by) (cmd.Ask question true) more b = absurd b
no-notes tables (Some by) (cmd.Ask question false) more b = absurd b
no-notes tables (Some by) (cmd.Build job) more b = absurd (false≢true b)
no-notes tables (Some by) (cmd.Work ask) more b = absurd (false≢true b)
no-notes tables (Some by) _ more b = absurd b

front-len : (tables : List TableOps) (by : Option By) (c : Cmd) (block more : List Note) → IsBlock (client_run tables) by c block → block_len (client_run tables) by c (block ++ more) ≡ length block
front-len tables by c [] more b = no-notes tables by c more b
front-len tables by c (n ∷ notes) more b = front-tells tables by c n notes more ∙ block-whole (client_run tables) by c (n ∷ notes) b

blocks-first : (tables : List TableOps) (line : Line) (lines : List Line) (block more : List Note) → IsBlock (client_run tables) line.by line.cmd block → AreClientBlocks (tables_below tables line.cmd) lines more → AreClientBlocks tables (line ∷ lines) (block ++ more)
blocks-first tables line lines block more b a =
    let len = front-len tables line.by line.cmd block more b in
    let block_is : take (block_len (client_run tables) line.by line.cmd (block ++ more)) (block ++ more) ≡ block = ap (λ (n : ℕ). take n (block ++ more)) len ∙ take-append_seam block more in
    let more_is : drop (block_len (client_run tables) line.by line.cmd (block ++ more)) (block ++ more) ≡ more = ap (λ (n : ℕ). drop n (block ++ more)) len ∙ drop-append_seam block more in
    (subst (IsBlock (client_run tables) line.by line.cmd) (sym block_is) b, subst (AreClientBlocks (tables_below tables line.cmd) lines) (sym more_is) a)

pub blocks-push : (tables : List TableOps) (lines : List Line) (notes : List Note) (line : Line) (block : List Note) → AreClientBlocks tables lines notes → IsBlock (client_run (tables_over tables lines)) line.by line.cmd block → AreClientBlocks tables (lines ++ line ∷ []) (notes ++ block)
blocks-push tables [] notes line block a b =
    let one = blocks-first tables line [] block [] b refl in
    subst (AreClientBlocks tables (line ∷ [])) (append-nil block ∙ sym (ap (λ (ns : List Note). ns ++ block) a)) one
blocks-push tables (l ∷ lines) notes line block a b =
    let len = block_len (client_run tables) l.by l.cmd notes in
    let behind = blocks-push (tables_below tables l.cmd) lines (drop len notes) line block a.1 b in
    let all = blocks-first tables l (lines ++ line ∷ []) (take len notes) (drop len notes ++ block) a.0 behind in
    subst (AreClientBlocks tables ((l ∷ lines) ++ line ∷ [])) (sym (append_assoc (take len notes) (drop len notes) block) ∙ ap (λ (ns : List Note). ns ++ block) (take-append-drop len notes)) all

-- ---- one line more

record IsNext (lines : List Line) (done more : ℕ) (line : Line) : Type 0 where
  within : more ≤ length lines
  taken : take more lines ≡ take done lines ++ line ∷ []

first-is : (l line : Line) → Some l ≡ Some line → l ≡ line
first-is l line e = cc

next-behind : (lines : List Line) (done : ℕ) (line : Line) → next_line lines done ≡ Some line → IsNext lines done (suc done) line
next-behind [] zero line e = absurd (cc)
next-behind [] (suc done) line e = absurd (cc)
next-behind (l ∷ lines) zero line e = record { within = omega arith; taken = ap (λ (x : Line). x ∷ []) (first-is l line e) }
next-behind (l ∷ lines) (suc done) line e =
    let next = next-behind lines done line e in
    let within = next.within in
    record { within = omega arith; taken = ap (λ (ls : List Line). l ∷ ls) next.taken }

one-more : (n : ℕ) → suc n ≡ n + 1
one-more n = omega arith

next-is : (lines : List Line) (done : ℕ) (line : Line) → next_line lines done ≡ Some line → IsNext lines done (done + 1) line
next-is lines done line e = subst (λ (more : ℕ). IsNext lines done more line) (one-more done) (next-behind lines done line e)

tables-push : (tables : List TableOps) (lines : List Line) (line : Line) → tables_over tables (lines ++ line ∷ []) ≡ tables_below (tables_over tables lines) line.cmd
tables-push tables [] line = refl
tables-push tables (l ∷ lines) line = tables-push (tables_below tables l.cmd) lines line

pub tables-next : (lines : List Line) (done : ℕ) (line : Line) → next_line lines done ≡ Some line → tables_of_done lines (done + 1) ≡ tables_below (tables_of_done lines done) line.cmd
tables-next lines done line e = ap (tables_over []) (next-is lines done line e).taken ∙ tables-push [] (take done lines) line

-- ---- how far a client has come

nothing-begun : (tables : List TableOps) (line : Option Line) → IsUnderWay tables line []
nothing-begun tables None = refl
nothing-begun tables (Some line) = tt

pub starts : (lines : List Line) → HasCome lines 0 [] []
starts lines = record { blocks = []; whole = refl; within = omega arith; are_done = refl; under_way = nothing-begun [] (first_of lines) }

pub begins : (lines : List Line) (done : ℕ) (notes : List Note) (line : Line) (note : Note) → HasCome lines done [] notes → next_line lines done ≡ Some line → IsBegun (tables_of_done lines done) line.by line.cmd (note ∷ []) → HasCome lines done (note ∷ []) (notes ++ note ∷ [])
begins lines done notes line note come next begun = record {
  blocks = come.blocks;
  whole = ap (λ (ns : List Note). ns ++ note ∷ []) (come.whole ∙ append-nil come.blocks);
  within = come.within;
  are_done = come.are_done;
  under_way = subst (λ (l : Option Line). IsUnderWay (tables_of_done lines done) l (note ∷ [])) (sym next) begun;
}

pub goes-on : (lines : List Line) (done : ℕ) (begun notes : List Note) (line : Line) (more : List Note) → HasCome lines done begun notes → next_line lines done ≡ Some line → IsBlock (client_run (tables_of_done lines done)) line.by line.cmd (begun ++ more) → HasCome lines (done + 1) [] (notes ++ more)
goes-on lines done begun notes line more come next block =
    let is = next-is lines done line next in record {
      blocks = come.blocks ++ (begun ++ more);
      whole = ap (λ (ns : List Note). ns ++ more) come.whole ∙ append_assoc come.blocks begun more ∙ sym (append-nil (come.blocks ++ (begun ++ more)));
      within = is.within;
      are_done = subst (λ (ls : List Line). AreClientBlocks [] ls (come.blocks ++ (begun ++ more))) (sym is.taken) (blocks-push [] (take done lines) come.blocks line (begun ++ more) come.are_done block);
      under_way = nothing-begun (tables_of_done lines (done + 1)) (next_line lines (done + 1));
    }

none-left : (lines : List Line) → next_line lines (length lines) ≡ None
none-left [] = refl
none-left (l ∷ lines) = none-left lines

pub ends : (lines : List Line) (begun notes : List Note) → HasCome lines (length lines) begun notes → AreClientBlocks [] lines notes
ends lines begun notes come =
    let none : begun ≡ [] = subst (λ (l : Option Line). IsUnderWay (tables_of_done lines (length lines)) l begun) (none-left lines) come.under_way in
    let same : come.blocks ≡ notes = sym (come.whole ∙ ap (λ (ns : List Note). come.blocks ++ ns) none ∙ append-nil come.blocks) in
    subst (AreClientBlocks [] lines) same (subst (λ (ls : List Line). AreClientBlocks [] ls come.blocks) (take_all (length lines) lines (omega arith)) come.are_done)
