-- Lines one after another, and the lines that a commit, a seal and the definition of a table are.
use Rattle.std.proofs.Common.{◌≡◌, ℕ, true, List, [], ◌∷◌, ◌++◌, append-nil, append_assoc, reverse, Some, None, refl, sym, ap, ◌∙◌, subst}
use Rattle.std.specs.List.{list_all}
use Rattle.std.proofs.lemmas.Bool.{and_parts}
use Rattle.std.proofs.lemmas.List.{reverse-append}
use Rattle.std.proofs.lemmas.List.Folds.{list_all-append}
use Rattle.xdb_engine.specs.Notes.{commit_note}
use Rattle.xdb_steps.specs.Notes.{plain_note}
use Rattle.xdb_engine.specs.View.{EngineView, plain_of, Adds}
use Rattle.xdb_key.specs.declared.op.Op.{Op}
use Rattle.xdb_plain.specs.Counts.{dead}
use Rattle.xdb_plain.specs.Legal.{after_all}
use Rattle.xdb_plain.specs.Runs.{first_run, run_over, AreBlocks, IsRunOf}
use Rattle.xdb_plain.specs.State.{opening}
use Rattle.xdb_plain.specs.declared.act.Act.TheVariants as act
use Rattle.xdb_plain.specs.declared.act.By.{By}
use Rattle.xdb_plain.specs.declared.act.By.TheVariants.{Db}
use Rattle.xdb_plain.specs.declared.act.CommitForm.{CommitForm}
use Rattle.xdb_plain.specs.declared.note.Note.{Note}
use Rattle.xdb_plain.specs.declared.reply.Reply.{Reply}
use Rattle.xdb_plain.specs.declared.script.Cmd.TheVariants as cmd
use Rattle.xdb_plain.specs.declared.script.Line.{Line}
use Rattle.xdb_plain.specs.Tables.{TableOps}
use Rattle.xdb_plain.proofs.RunLaws.{blocks-push, behind-push, run-ends}
use Rattle.xdb_run.specs.Built.{is_run}
use Rattle.xdb_run.specs.Running.{IsAt, TakesLine, HasTakenLines, StillTakesLines}
use Rattle.xdb_run.proofs.StateLaws.{grows-none, grows-one, takes-alike}

-- the line that is taken from those left
front-left : (left rest : List Line) (line : Line) → left ≡ rest ++ line ∷ [] → reverse left ≡ line ∷ reverse rest
front-left left rest line is = ap reverse is ∙ reverse-append rest (line ∷ [])

module _ {F : Type 0} where
  -- ---- lines that leave the questions

  pub commit-takes : {old new : EngineView F} {by : By} {form : CommitForm} {ops batch : List Op} {told : Reply} → batch ≡ ops → Adds old new (commit_note by form batch told) → new.questions ≡ old.questions → TakesLine old new (Some by) (cmd.Commit form ops)
  commit-takes {form = form} is adds same = takes-alike (grows-one adds) refl (λ r at. record { same_by = refl; same_act = ap (act.Commit form) is }) same

  pub seal-takes : {old new : EngineView F} {told : Reply} → Adds old new (plain_note Db act.Seal told) → new.questions ≡ old.questions → TakesLine old new (Some Db) cmd.Seal
  seal-takes adds same = takes-alike (grows-one adds) refl (λ r at. record { same_by = refl; same_act = refl }) same

  -- nobody says the definition of a table
  pub table-takes : (e : EngineView F) (table : TableOps) → TakesLine e e None (cmd.Table table)
  table-takes e table = takes-alike (grows-none refl refl refl) refl (λ r at. refl) refl

  -- ---- lines one after another

  -- one line more
  line-taken : (lines : List Line) (line : Line) (old new : EngineView F) → HasTakenLines lines old → TakesLine old new line.by line.cmd → HasTakenLines (lines ++ line ∷ []) new
  line-taken lines line old new taken takes =
      let r = first_run (opening 1 1) in
      let block = takes.is_block (run_over r lines old.notes) taken.here in
      let behind = behind-push r lines old.notes line takes.block taken.blocks block in
      record {
        first_seq = takes.grows.first_seq ∙ taken.first_seq;
        first_file = takes.grows.first_file ∙ taken.first_file;
        blocks = subst (λ ns. AreBlocks r (lines ++ line ∷ []) ns) (sym takes.grows.notes) (blocks-push r lines old.notes line takes.block taken.blocks block);
        here = subst (λ x. IsAt x new) (sym (ap (λ ns. run_over r (lines ++ line ∷ []) ns) takes.grows.notes ∙ behind)) (takes.goes_on (run_over r lines old.notes) taken.here);
      }

  pub next-run : (script left rest : List Line) (line : Line) (e : EngineView F) → StillTakesLines script left e → left ≡ rest ++ line ∷ [] → list_all is_run script ≡ true → is_run line ≡ true
  next-run script left rest line e still is all =
      let whole : script ≡ still.lines ++ line ∷ reverse rest = still.whole ∙ ap (λ ls. still.lines ++ ls) (front-left left rest line is) in
      let parts = and_parts (list_all is_run still.lines) (list_all is_run (line ∷ reverse rest)) (sym (list_all-append is_run still.lines (line ∷ reverse rest)) ∙ sym (ap (list_all is_run) whole) ∙ all) in
      (and_parts (is_run line) (list_all is_run (reverse rest)) parts.1).0

  pub next-taken : (script left rest : List Line) (line : Line) (old new : EngineView F) → StillTakesLines script left old → left ≡ rest ++ line ∷ [] → TakesLine old new line.by line.cmd → StillTakesLines script rest new
  next-taken script left rest line old new still is more = record {
    lines = still.lines ++ line ∷ [];
    whole = still.whole ∙ ap (λ ls. still.lines ++ ls) (front-left left rest line is) ∙ sym (append_assoc still.lines (line ∷ []) (reverse rest));
    has = line-taken still.lines line old new still.has more;
  }

  -- the lines are a run where there is nothing to remove
  pub run-whole : (lines given : List Line) (e : EngineView F) (notes : List Note) → given ≡ lines → HasTakenLines given e → notes ≡ e.notes → dead (plain_of e) ≡ [] → IsRunOf 1 1 lines notes
  run-whole lines given e notes is taken same clean =
      let blocks : AreBlocks (first_run (opening 1 1)) lines e.notes = subst (λ ls. AreBlocks (first_run (opening 1 1)) ls e.notes) is taken.blocks in
      let empty : dead (after_all (opening 1 1) e.notes) ≡ [] = subst (λ (x : ℕ × ℕ). dead (after_all (opening x.0 x.1) e.notes) ≡ []) (λ i. (taken.first_seq i, taken.first_file i)) clean in
      subst (λ ns. IsRunOf 1 1 lines ns) (append-nil e.notes ∙ sym same) (run-ends 1 1 lines e.notes [] blocks empty)
