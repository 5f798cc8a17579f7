-- What the steps of a call come to.
use Rattle.std.specs.Prelude.{◌≡◌, ◌⊎◌, ℕ, ◌≤◌, Option, Some, None, List, length, take}
use Rattle.std.specs.Io.KnownBytes.{append_known}
use Rattle.xdb_plain.specs.declared.script.Line.{Line}
use Rattle.xdb_script.specs.declared.error.Why.TheVariants as why
use Rattle.xdb_run.specs.Built.{first_unbuilt}
use Rattle.excisedb.specs.Devices.{DeviceSeen}
use Rattle.excisedb.specs.Ends.{IsRunText, IsReply, IsRefusal, refusal_text}
use Rattle.excisedb.specs.declared.status.Status.{Status}
use Rattle.excisedb.specs.declared.status.Status.TheVariants.{Done, Words, Script, ReadFault, WriteFault, Memory}

-- With the device before and after. `told` says that files tell their bytes.
module _ (told : Type 0) (dev dev' : DeviceSeen) where
  -- The bytes of a script get this status and this text.
  abbrev pub Replies : List ℕ → Status → List ℕ → Type 0
  Replies bytes Done text = IsReply told dev dev' bytes text
  Replies bytes Script text = IsRefusal bytes text
  Replies bytes Words text = ⊥
  Replies bytes ReadFault text = ⊥
  Replies bytes WriteFault text = ⊥
  Replies bytes Memory text = ⊥

  -- A script gets this status and this text: that of a run, or the refusal of its first line that isn't built.
  abbrev pub RepliesTo : List Line → Status → List ℕ → Type 0
  RepliesTo lines Done text = (first_unbuilt lines ≡ None) × IsRunText told dev dev' lines text
  RepliesTo lines Script text = (line : ℕ) × (first_unbuilt lines ≡ Some line) × (text ≡ refusal_text (line, why.Verb))
  RepliesTo lines _ text = ⊥

-- a part from the front of the text was written
pub record IsPart (text : List ℕ) (old new : Option (List ℕ)) : Type 0 where
  pub count : ℕ
  pub within : count ≤ length text
  pub written : new ≡ append_known old (take count text)

-- The text was written whole and the status is its own, or a part was written and the status says why.
abbrev pub IsSent : Status → List ℕ → Option (List ℕ) → Option (List ℕ) → Status → Type 0
IsSent status text old new result =
    ((result ≡ status) × (new ≡ append_known old text)) ⊎ (((result ≡ WriteFault) ⊎ (result ≡ Memory)) × IsPart text old new)
