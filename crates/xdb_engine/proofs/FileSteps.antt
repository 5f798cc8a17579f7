-- What is shown, what is taken for removal, and what can't be removed: each is a step.
use Rattle.std.proofs.Common.{◌≡◌, ℕ, ◌≤◌, true, false, eqb, ◌||◌, List, [], ◌∷◌, map, length, Option, refl, sym, ap, ◌∙◌, subst}
use Rattle.std.proofs.lemmas.Bool.{false≢true}
use Rattle.xdb_lists.proofs.NumberLaws.{among_first}
use Rattle.xdb_lists.specs.Numbers.{is_among}
use Rattle.xdb_plain.specs.Counts.{dead}
use Rattle.xdb_plain.specs.State.{Plain}
use Rattle.xdb_plain.specs.declared.act.Act.TheVariants as act
use Rattle.xdb_plain.specs.declared.act.By.TheVariants.{Db}
use Rattle.xdb_plain.specs.declared.act.ShowWhat.{ShowWhat}
use Rattle.xdb_plain.specs.declared.act.ShowWhat.TheVariants as show
use Rattle.xdb_plain.specs.declared.note.Note.{Note}
use Rattle.xdb_plain.specs.declared.reply.Reply.TheVariants.{Nothing, Took, Stuck, Memory}
use Rattle.xdb_steps.proofs.Counting.{all-counted, dead-list, least-dead}
use Rattle.xdb_steps.proofs.JobLaws.{known-unowned}
use Rattle.xdb_steps.proofs.RemovalSteps.{nothing, took, stuck, unremoved, unshown, levels, shows-counts, snaps}
use Rattle.xdb_steps.proofs.SetSteps.{numbers-keep}
use Rattle.xdb_steps.specs.Core.{Core, core, numbers, reaped_core}
use Rattle.xdb_steps.specs.Keeps.{Agrees}
use Rattle.xdb_steps.specs.Notes.{plain_note}
use Rattle.xdb_steps.specs.SetFiles.{AreOfSet}
use Rattle.xdb_steps.specs.Step.{HeldStep}
use Rattle.xdb_vset.specs.Seen.{Seen, IsSet, is_dead, named}
use Rattle.xdb_engine.specs.Files.{HasNoFiles}
use Rattle.xdb_engine.specs.Holds.{ask_holds}
use Rattle.xdb_engine.specs.Questions.{plain_question}
use Rattle.xdb_engine.specs.Shows.{shown_of}
use Rattle.xdb_engine.specs.State.{core_of, files_of, SetStands, Steps}
use Rattle.xdb_engine.specs.declared.state.State.{State}

-- a list that has no number is empty
pub none-among : (ns : List ℕ) → ((n : ℕ) → is_among n ns ≡ false) → ns ≡ []
none-among [] off = refl
none-among (n ∷ ns) off = absurd (false≢true (sym (off n) ∙ among_first n ns))

module _ {F : Type 0} (s : State F) (bytes : F → Option (List ℕ)) where
  abbrev before : Core
  before = core_of bytes s

  -- the dead numbers are those of the set
  pub dead-same : (p : Plain) → IsSet s.files → SetStands bytes s → Agrees before p → dead p ≡ s.files.dead
  dead-same p is set a = dead-list s.files is before.files p before.numbers.file set.of_set a.files (known-unowned before p a)

  -- ---- what is shown

  pub shown-steps : (what : ShowWhat) (note : Note) → IsSet s.files → note ≡ plain_note Db (act.Show what) (shown_of s.files what) → Steps bytes 0 s s note
  shown-steps show.Levels note is told = subst (Steps bytes 0 s s) (sym told)
      (λ p a held set. record { step = levels before p a held s.files.current.levels refl; set = set })
  shown-steps show.Counts note is told = subst (Steps bytes 0 s s) (sym told)
      (λ p a held set. record {
        step = shows-counts before p a held (map (λ x. (x.num, named s.files x.num)) s.files.backings) (sym (all-counted s.files is before.files p before.numbers.file set.of_set a.files));
        set = set;
      })
  shown-steps show.Snaps note is told = subst (Steps bytes 0 s s) (sym told)
      (λ p a held set. record { step = snaps before p a held; set = set })

  pub unshown-steps : (what : ShowWhat) (note : Note) → note ≡ plain_note Db (act.Show what) Memory → Steps bytes 0 s s note
  unshown-steps what note told = subst (Steps bytes 0 s s) (sym told)
      (λ p a held set. record { step = unshown before p a held what; set = set })

  -- ---- what can't be removed

  pub stuck-steps : (num : ℕ) → is_among num s.files.taken ≡ true → Steps bytes 1 s s (plain_note Db (act.Remove num) Stuck)
  stuck-steps num there = λ p a held set. record { step = stuck before p a held num there; set = set }

  pub unremoved-steps : (num : ℕ) → is_among num s.files.taken ≡ true → Steps bytes 0 s s (plain_note Db (act.Remove num) Memory)
  unremoved-steps num there = λ p a held set. record { step = unremoved before p a held num there; set = set }

  -- ---- what is taken

  pub idle-steps : (note : Note) → IsSet s.files → length s.files.dead ≡ 0 → note ≡ plain_note Db act.Reap Nothing → Steps bytes 0 s s note
  idle-steps note is none told = subst (Steps bytes 0 s s) (sym told)
      (λ p a held set. record { step = nothing before p a held (dead-same p is set a ∙ empty s.files.dead none); set = set })
    where
      empty : (ns : List ℕ) → length ns ≡ 0 → ns ≡ []
      empty [] e = refl
      empty (n ∷ ns) e = absurd (cc)

  -- `later` is the set once the number was taken
  module _ (later : Seen F) (num : ℕ) (rest : later ≡ record s.files { dead = later.dead; taken = later.taken; spare = later.spare }) (taken : (m : ℕ) → is_among m later.taken ≡ (eqb m num || is_among m s.files.taken)) where
    new-core : reaped_core before later.taken ≡ core_of bytes (record s { files = later })
    new-core = λ i. core s.mem (numbers s.numbers.next s.numbers.file s.numbers.asked 0) (map plain_question s.asks)
        (files_of bytes (sym rest i) (ask_holds (sym rest i) s.asks)) []

    new-set : SetStands bytes s → SetStands bytes (record s { files = later })
    new-set set = record {
      of_set = subst (λ (c : Core). AreOfSet later c.files) new-core
          (numbers-keep s.files before.files set.of_set later s.files.known later.taken (ap (λ (t : Seen F). t.current) rest) (ap (λ (t : Seen F). t.older) rest) (ap (λ (t : Seen F). t.slots) rest)
          (λ n. ap (λ (t : Seen F). is_among n t.known) (sym rest)) (λ n. refl));
      none = subst HasNoFiles (sym rest) (record { levels = set.none.levels; known = set.none.known });
    }

    pub took-steps : (note : Note) → IsSet s.files → is_dead s.files num ≡ true → ((n : ℕ) → is_dead s.files n ≡ true → num ≤ n) → note ≡ plain_note Db act.Reap (Took num) → Steps bytes 0 s (record s { files = later }) note
    took-steps note is there least told = subst (Steps bytes 0 s (record s { files = later })) (sym told)
        (λ p a held set.
        let dead_is = least-dead s.files is before.files p before.numbers.file set.of_set a.files (known-unowned before p a) num there least in
        record {
          step = subst (λ d. HeldStep (Unit {0}) 0 before d p (plain_note Db act.Reap (Took num))) new-core
              (took before p a held num dead_is.0 later.taken dead_is.1 taken);
          set = new-set set;
        })
