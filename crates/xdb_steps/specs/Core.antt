-- The parts of an engine beside its history, as plain data.
use Rattle.std.specs.Prelude.{ℕ, ◌+◌, ◌==◌, ◌||◌, Bool, not, List, [], ◌∷◌, ◌++◌, length, map, drop, filter, Option, Some, None}
use Rattle.std.specs.List.{find, list_any, filter_map, flat_map}
use Rattle.xdb_edit.specs.Changes.{Changes}
use Rattle.xdb_edit.specs.Versions.{no_tables}
use Rattle.xdb_key.specs.declared.op.Op.{Op}
use Rattle.xdb_mem.specs.Queue.{Queue, committed, sealed_once}
use Rattle.xdb_plain.specs.Answers.{Landing}
use Rattle.xdb_plain.specs.Edits.{is_empty}
use Rattle.xdb_plain.specs.Holds.{version_after}
use Rattle.xdb_plain.specs.Replies.{is_flush}
use Rattle.xdb_plain.specs.State.{Version, Hold, Holder, for_ask, for_job, Job, JobKind, flush_of, compaction_of, OpenQuestion, without_question}
use Rattle.xdb_plain.specs.declared.act.By.{By}
use Rattle.xdb_plain.specs.declared.question.Question.{Question}
use Rattle.xdb_rangedel.specs.Content.{Item}
pub use Rattle.xdb_steps.specs.Tables.{Contents, no_contents}

-- the next sequence number, the next file number, how many questions were asked, and how many jobs were started
pub record Numbers : Type 0 where
  pub next : ℕ
  pub file : ℕ
  pub asked : ℕ
  pub started : ℕ

abbrev pub numbers : ℕ → ℕ → ℕ → ℕ → Numbers
numbers next file asked started = record { next = next; file = file; asked = asked; started = started }

-- all that tables have
abbrev pub table_items : Contents → List Item
table_items levels = flat_map (λ tables. flat_map (λ c. c) tables) levels

-- The current version, and what its tables have; who holds which version; the numbers of files that are known, and of
-- them those that were taken.
pub record Files : Type 0 where
  pub current : Version
  pub contents : Contents
  pub holds : List Hold
  pub known : List ℕ
  pub taken : List ℕ

-- version 0, which nobody holds, and no file
abbrev pub no_files : Files
no_files = record {
  current = record { num = 0; levels = no_tables };
  contents = no_contents;
  holds = [];
  known = [];
  taken = [];
}

-- a running job, with the content that it was given and the marks that it keeps apart
pub record RunningJob : Type 0 where
  pub job : Job
  pub content : List Item
  pub stripes : List ℕ

pub record Core : Type 0 where
  pub mem : Queue
  pub numbers : Numbers
  -- the open questions, each with the answer and the place that its parts mean
  pub asks : List OpenQuestion
  pub files : Files
  -- in the order of their start
  pub jobs : List RunningJob

abbrev pub core : Queue → Numbers → List OpenQuestion → Files → List RunningJob → Core
core mem numbers asks files jobs = record { mem = mem; numbers = numbers; asks = asks; files = files; jobs = jobs }

-- ---- who holds a version

abbrev pub job_holder : ℕ → JobKind → Option Holder
job_holder num (flush_of group) = None
job_holder num (compaction_of c) = Some (for_job num)

abbrev pub ask_holders : List OpenQuestion → List Holder
ask_holders asks = map (λ q. for_ask q.ask) asks

abbrev pub job_holders : List RunningJob → List Holder
job_holders jobs = filter_map (λ r. job_holder r.job.num r.job.kind) jobs

-- those who hold a version: open questions, and running compactions
abbrev pub holders : Core → List Holder
holders c = ask_holders c.asks ++ job_holders c.jobs

-- ---- what steps make of the parts

-- operations join the active group under the numbers from the next one on
abbrev pub committed_core : Core → List Op → Core
committed_core c ops = record c {
  mem = committed c.numbers.next ops c.mem;
  numbers = record c.numbers { next = c.numbers.next + length ops };
}

abbrev pub sealed_core : Core → Core
sealed_core c = record c { mem = sealed_once c.mem }

-- a question with the answer and the place that a landing has
abbrev pub open_question : ℕ → By → Question → Bool → Landing → OpenQuestion
open_question ask by question parted l =
    record { ask = ask; by = by; question = question; parted = parted; answer = l.answer; place = l.place }

-- one more question is open, under the next number
abbrev pub asked_core : Core → By → Question → Bool → Landing → Core
asked_core c by question parted l = record c {
  numbers = record c.numbers { asked = c.numbers.asked + 1 };
  asks = c.asks ++ open_question (c.numbers.asked + 1) by question parted l ∷ [];
}

-- the question of the number is open no more
abbrev pub ended_core : Core → ℕ → Core
ended_core c ask = record c { asks = without_question ask c.asks }

-- the others than the hold of a number
abbrev pub without_hold : ℕ → List Hold → List Hold
without_hold id holds = filter (λ h. not (h.id == id)) holds

-- the hold of the current version that the next question has under a number
abbrev pub next_hold : Core → ℕ → Hold
next_hold c id = record { id = id; holder = for_ask (c.numbers.asked + 1); version = c.files.current }

-- these are the holds
abbrev pub holding_core : Core → List Hold → Core
holding_core c holds = record c { files = record c.files { holds = holds } }

-- these numbers were taken
abbrev pub reaped_core : Core → List ℕ → Core
reaped_core c taken = record c { files = record c.files { taken = taken } }

-- no group is sealed, or a flush runs
abbrev pub flush_idle : Core → Bool
flush_idle c = is_empty c.mem.sealed || list_any (λ r. is_flush r.job.kind) c.jobs

-- a flush of the group runs, under the next numbers
abbrev pub next_flush : Numbers → ℕ → List Item → List ℕ → RunningJob
next_flush n group content stripes = record {
  job = record { num = n.started + 1; first = n.file; kind = flush_of group };
  content = content;
  stripes = stripes;
}

abbrev pub flushing_core : Core → ℕ → List Item → List ℕ → Core
flushing_core c group content stripes = record c {
  numbers = record c.numbers { file = c.numbers.file + 1; started = c.numbers.started + 1 };
  jobs = c.jobs ++ next_flush c.numbers group content stripes ∷ [];
}

-- the running job of a number, and the others
abbrev pub running_job : ℕ → List RunningJob → Option RunningJob
running_job num jobs = find (λ r. r.job.num == num) jobs

abbrev pub other_jobs : ℕ → List RunningJob → List RunningJob
other_jobs num jobs = filter (λ r. not (r.job.num == num)) jobs

-- the job of the number ended in vain, and these numbers are known
abbrev pub vain_core : Core → ℕ → List ℕ → Core
vain_core c num known = record c { files = record c.files { known = known }; jobs = other_jobs num c.jobs }

-- the edit led to the next version, whose tables have this, and these numbers are known
abbrev pub edited_files : Files → Changes → Contents → List ℕ → Files
edited_files f e contents known =
    record f { current = version_after f.current (Some e); contents = contents; known = known }

-- the oldest sealed group is in a table
abbrev pub flushed_core : Core → ℕ → Changes → Contents → List ℕ → Core
flushed_core c num e contents known = record c {
  mem = record c.mem { sealed = drop 1 c.mem.sealed };
  files = edited_files c.files e contents known;
  jobs = other_jobs num c.jobs;
}
