-- What a call of the program has read and written when it ends, by its status.
use Rattle.std.specs.Prelude.{◌≡◌, ◌≢◌, ◌⊎◌, ℕ, ◌+◌, ◌≤◌, false, Option, Some, None, List, [], ◌∷◌, ◌++◌, length, take, Result, Ok, Err, codes}
use Rattle.std.specs.Fmt.{decimal}
use Rattle.std.specs.Option.{option_map}
use Rattle.std.specs.Io.KnownBytes.{Appends, Consumes, IsAtEnd}
use Rattle.xdb_plain.specs.Failures.{faults, has_damage}
use Rattle.xdb_plain.specs.Legal.{IsRight}
use Rattle.xdb_plain.specs.Printed.{text_of}
use Rattle.xdb_plain.specs.Runs.{IsRunOf}
use Rattle.xdb_plain.specs.declared.note.Note.{Note}
use Rattle.xdb_plain.specs.declared.script.Line.{Line}
use Rattle.xdb_script.specs.Defects.{script_read}
use Rattle.xdb_script.specs.Grammar.{Spells, most_bytes}
use Rattle.xdb_script.specs.declared.error.Why.{Why}
use Rattle.xdb_script.specs.declared.error.Why.TheVariants as why
use Rattle.xdb_script.specs.declared.form.ScriptForm.TheVariants.{Run}
use Rattle.xdb_run.specs.Built.{first_unbuilt}
use Rattle.xdb_run.specs.Outside.{RoseBy}
use Rattle.excisedb.specs.Devices.{DeviceSeen, first}
use Rattle.excisedb.specs.declared.status.Status.{Status}
use Rattle.excisedb.specs.declared.status.Status.TheVariants.{Done, Words, Script, ReadFault, WriteFault, Memory}

-- the one command
abbrev pub run_words : List (List ℕ)
run_words = codes "run" ∷ []

abbrev pub usage_text : List ℕ
usage_text = codes "usage: excisedb run | threads --workers N | gen --ops N --seed X\n"

abbrev pub why_word : Why → List ℕ
why_word why.Long = codes "long"
why_word why.Spaces = codes "spaces"
why_word why.Who = codes "who"
why_word why.Verb = codes "verb"
why_word why.Shape = codes "shape"
why_word why.Token = codes "token"
why_word why.Length = codes "length"
why_word why.Name = codes "name"
why_word why.Number = codes "number"
why_word why.Range = codes "range"
why_word why.Table = codes "table"
why_word why.Order = codes "order"

-- a line and a reason
abbrev pub refusal_text : ℕ × Why → List ℕ
refusal_text defect = codes "line " ++ decimal defect.0 ++ codes ": " ++ why_word defect.1 ++ 10 ∷ []

-- the first defect of what was read; of a script it is the first line whose verb isn't built
abbrev pub refused : Result (List Line) (ℕ × Why) → Option (ℕ × Why)
refused (Err defect) = Some defect
refused (Ok lines) = option_map (λ line. (line, why.Verb)) (first_unbuilt lines)

-- The bytes read: all that were left, or the first 1,048,577 of them.
pub record AreRead (left left' : Option (List ℕ)) (bytes : List ℕ) : Type 0 where
  pub consumed : Consumes left left' bytes
  pub within : length bytes ≤ most_bytes + 1
  pub whole : IsAtEnd left' ⊎ (length bytes ≡ most_bytes + 1)

-- The text is that of a history which is right and is a run of these lines. It tells of at most as many faults as the
-- device's count rose by, and of no damage where files tell their bytes.
pub record IsRunText (told : Type 0) (dev dev' : DeviceSeen) (lines : List Line) (text : List ℕ) : Type 0 where
  pub notes : List Note
  pub right : IsRight 1 1 notes
  pub run : IsRunOf 1 1 lines notes
  pub faults : RoseBy (faults notes) dev.faults dev'.faults
  pub undamaged : told → has_damage notes ≡ false
  pub printed : text ≡ text_of notes

-- The bytes spell a script, and the text is that of its run.
pub record IsReply (told : Type 0) (dev dev' : DeviceSeen) (bytes text : List ℕ) : Type 0 where
  pub lines : List Line
  pub spelled : Spells Run bytes lines
  pub built : first_unbuilt lines ≡ None
  pub text_is : IsRunText told dev dev' lines text

-- The bytes spell no script, or one with a verb that isn't built, and the text names the first such line.
pub record IsRefusal (bytes text : List ℕ) : Type 0 where
  pub defect : ℕ × Why
  pub found : refused (script_read Run bytes) ≡ Some defect
  pub told : text ≡ refusal_text defect

-- Words other than the command: the source is left alone, and the text is the usage line.
pub record IsUsage (words : List (List ℕ)) (left left' : Option (List ℕ)) (text : List ℕ) : Type 0 where
  pub others : words ≢ run_words
  pub alone : left' ≡ left
  pub told : text ≡ usage_text

-- The script was read, and a text belongs to it.
pub record IsAnswered (P : List ℕ → List ℕ → Type 0) (words : List (List ℕ)) (left left' : Option (List ℕ)) (text : List ℕ) : Type 0 where
  pub command : words ≡ run_words
  pub bytes : List ℕ
  pub read : AreRead left left' bytes
  pub text_is : P bytes text

-- The texts that a call may write. A run is on the first device.
abbrev pub MayWrite : List (List ℕ) → Option (List ℕ) → Option (List ℕ) → Type 0 → List DeviceSeen → List DeviceSeen → List ℕ → Type 0
MayWrite words left left' told devs devs' text =
    IsUsage words left left' text ⊎ (IsAnswered IsRefusal words left left' text ⊎ IsAnswered (IsReply told (first devs) (first devs')) words left left' text)

-- a text was written whole, which is of this kind
pub record WritesWhole (kind : List ℕ → Type 0) (old new : Option (List ℕ)) : Type 0 where
  pub text : List ℕ
  pub is : kind text
  pub written : Appends old new text

-- a part from its front was written of a text of this kind
pub record WritesPart (kind : List ℕ → Type 0) (old new : Option (List ℕ)) : Type 0 where
  pub text : List ℕ
  pub is : kind text
  pub count : ℕ
  pub within : count ≤ length text
  pub written : Appends old new (take count text)

-- By status: the words, what the source had left before and after, what the sink had before and after, that files tell
-- their bytes, and the devices before and after.
abbrev pub Ends : Status → List (List ℕ) → Option (List ℕ) → Option (List ℕ) → Option (List ℕ) → Option (List ℕ) → Type 0 → List DeviceSeen → List DeviceSeen → Type 0
Ends Done words left left' old new told devs devs' = WritesWhole (IsAnswered (IsReply told (first devs) (first devs')) words left left') old new
Ends Words words left left' old new told devs devs' = WritesWhole (IsUsage words left left') old new
Ends Script words left left' old new told devs devs' = WritesWhole (IsAnswered IsRefusal words left left') old new
Ends ReadFault words left left' old new told devs devs' = (words ≡ run_words) × (new ≡ old)
Ends WriteFault words left left' old new told devs devs' = WritesPart (MayWrite words left left' told devs devs') old new
Ends Memory words left left' old new told devs devs' = (new ≡ old) ⊎ WritesPart (MayWrite words left left' told devs devs') old new
