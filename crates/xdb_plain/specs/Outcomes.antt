-- How a step ended, as far as it changes the state, and what becomes of the groups.
use Rattle.std.specs.Prelude.{ℕ, Bool, true, false, List, [], ◌∷◌, ◌++◌, drop, Option, Some, None, is_none}
use Rattle.xdb_key.specs.Groups.{Group}
use Rattle.xdb_plain.specs.Replies.{is_flush}
use Rattle.xdb_plain.specs.State.{Plain, Job, found_load, found_question, found_job}
use Rattle.xdb_plain.specs.declared.act.Act.{Act}
use Rattle.xdb_plain.specs.declared.act.Act.TheVariants as act
use Rattle.xdb_plain.specs.declared.reply.Reply.{Reply}
use Rattle.xdb_plain.specs.declared.reply.Reply.TheVariants.{Done, Installed, Opened, Opening, Dropped, Shut, CursorOn, Answered, Asked, Group as Sealed, Job as Started, Took, FileOnly, Pinned, Cancelled, Fault, Memory, Damaged}

pub data Outcome : Type 0 where
  -- done
  succeeds : Outcome
  -- a question, or the opening of a load, goes on
  begins : Outcome
  -- a question, a job or the opening of a load ended in vain
  fails : Outcome
  -- a compaction ended in vain for a load
  cancels : Outcome
  -- nothing changed
  stays : Outcome

abbrev pub outcome : Reply → Outcome
outcome Done = succeeds
outcome Installed = succeeds
outcome Opened = succeeds
outcome Opening = begins
outcome Dropped = succeeds
outcome Shut = succeeds
outcome CursorOn = succeeds
outcome (Answered answer) = succeeds
outcome (Asked ask) = begins
outcome (Sealed group) = succeeds
outcome (Started job) = succeeds
outcome (Took num) = succeeds
outcome FileOnly = succeeds
outcome (Pinned group) = succeeds
outcome (Cancelled load) = cancels
outcome Fault = fails
outcome Memory = fails
outcome (Damaged backing at) = fails
outcome _ = stays

-- the groups without the oldest sealed one
abbrev pub groups_after : Plain → List Group
groups_after p = drop 1 p.sealed ++ p.active ∷ []

abbrev pub is_put_of_flush : Plain → ℕ → Bool
is_put_of_flush p job = is_of_flush (found_job job p.jobs)
  where
    is_of_flush : Option Job → Bool
    is_of_flush None = false
    is_of_flush (Some j) = is_flush j.kind

-- there is no question, job or opening that a failure of the act would end
abbrev pub ends_nothing : Plain → Act → Bool
ends_nothing p (act.Ask ask question parted) = is_none (found_question ask p.questions)
ends_nothing p (act.Work ask) = is_none (found_question ask p.questions)
ends_nothing p (act.Build job) = is_none (found_job job p.jobs)
ends_nothing p (act.LoadOpen load tables span) = is_none (found_load load p.loads)
ends_nothing p _ = true

-- the step was refused, or failed with nothing to end: it changes nothing
abbrev pub is_refused : Plain → Act → Outcome → Bool
is_refused p a stays = true
is_refused p a fails = ends_nothing p a
is_refused p a _ = false
