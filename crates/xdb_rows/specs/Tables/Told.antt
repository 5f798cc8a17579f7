-- What histories tell of failures, removals and reservations, and when a flush or a compaction is due.
use Rattle.std.specs.Prelude.{◌≡◌, ℕ, Bool, true, false, List, [], ◌∷◌, ◌++◌, take, None, codes}
use Rattle.std.specs.List.{range_with_len}
use Rattle.xdb_key.specs.declared.op.Op.TheVariants.{Set}
use Rattle.xdb_plain.specs.Failures.{faults, has_damage, is_faultless}
use Rattle.xdb_plain.specs.Legal.{after_all}
use Rattle.xdb_plain.specs.Removals.{taken_in, left_in, removed_in}
use Rattle.xdb_plain.specs.Reservations.{reserved_in}
use Rattle.xdb_plain.specs.State.{Plain, opening}
use Rattle.xdb_plain.specs.Tables.{TableOps, table_ops}
use Rattle.xdb_plain.specs.Upkeep.{flush_due, compact_due}
use Rattle.xdb_plain.specs.Workers.{ends_failed, is_failure}
use Rattle.xdb_plain.specs.declared.act.Act.TheVariants as act
use Rattle.xdb_plain.specs.declared.act.ShowWhat.TheVariants as show
use Rattle.xdb_plain.specs.declared.act.Which.TheVariants.{Auto}
use Rattle.xdb_plain.specs.declared.note.HoldNote.TheVariants.{Hold, Release}
use Rattle.xdb_plain.specs.declared.note.Note.{Note}
use Rattle.xdb_plain.specs.declared.reply.Reply.{Reply}
use Rattle.xdb_plain.specs.declared.reply.Reply.TheVariants as reply
use Rattle.xdb_rows.specs.Excises.{two_halves}
use Rattle.xdb_rows.specs.Loads.{only_a, only_b}
use Rattle.xdb_rows.specs.Notes.{c1, db, holding, trying, from_to, table_of_key, put, put_flush, flushed, get, ask_held, ask_answered, excise, compact_l0}

-- in each pair the two are equal
abbrev pub AreEqual : {A : Type 0} → List (A × A) → Type 0
AreEqual [] = Unit {0}
AreEqual (pair ∷ pairs) = (pair.0 ≡ pair.1) × AreEqual pairs

abbrev pub put_a : Note
put_a = c1 (put (codes "a") (codes "1")) reply.Done

abbrev pub sealed : ℕ → Note
sealed group = db act.Seal (reply.Group group)

abbrev pub flush_taken : ℕ → Note
flush_taken job = db act.FlushTake (reply.Job job)

abbrev pub build_fails : Note
build_fails = trying (db (act.Build 1) reply.Fault) (1 ∷ [])

abbrev pub build_damaged : Note
build_damaged = db (act.Build 1) (reply.Damaged 1 0)

abbrev pub took : ℕ → Note
took num = db act.Reap (reply.Took num)

abbrev pub stuck : ℕ → Note
stuck num = db (act.Remove num) reply.Stuck

-- a device failed: at work, at a read, at a removal
abbrev pub fault_counts : List (ℕ × ℕ)
fault_counts =
    (faults [], 0)
    ∷ (faults (put_a ∷ sealed 1 ∷ flush_taken 1 ∷ build_fails ∷ took 1 ∷ stuck 1 ∷ []), 2)
    ∷ (
      faults (ask_held 1 (get (codes "a")) false (Hold 1 0)
          ∷ ask_answered 1 (get (codes "a")) 1 reply.Fault ∷ []),
      1,
    )
    ∷ (faults (stuck 1 ∷ stuck 2 ∷ stuck 3 ∷ []), 3)
    -- want of memory, damage and spent numbers are none
    ∷ (
      faults (db (act.Remove 1) reply.Memory ∷ build_damaged ∷ db act.FlushTake reply.Spent
          ∷ db act.Reap reply.Nothing ∷ []),
      0,
    )
    ∷ []

-- bytes were damaged, and neither that nor a failing device
abbrev pub damage_told : List (Bool × Bool)
damage_told =
    (has_damage [], false)
    ∷ (has_damage (put_a ∷ build_damaged ∷ put_a ∷ []), true)
    ∷ (has_damage (put_a ∷ build_fails ∷ stuck 1 ∷ db (act.Build 1) reply.Memory ∷ []), false)
    ∷ (is_faultless [], true)
    ∷ (is_faultless (put_a ∷ db (act.Build 1) reply.Memory ∷ db act.FlushTake reply.Spent ∷ []), true)
    ∷ (is_faultless (put_a ∷ build_fails ∷ put_a ∷ []), false)
    ∷ (is_faultless (put_a ∷ stuck 1 ∷ put_a ∷ []), false)
    ∷ (is_faultless (put_a ∷ build_damaged ∷ put_a ∷ []), false)
    ∷ []

-- what workers' runs count as failures, and what excuses work that is left, with replies that short histories can't have
abbrev pub failures_counted : List (Bool × Bool)
failures_counted =
    (is_failure reply.Fault, true)
    ∷ (is_failure reply.Stuck, true)
    ∷ (is_failure reply.Memory, true)
    ∷ (is_failure (reply.Damaged 1 0), true)
    ∷ (is_failure reply.Spent, false)
    ∷ (is_failure (reply.Cancelled (codes "l1")), false)
    ∷ (ends_failed [], false)
    ∷ (ends_failed (put_a ∷ db act.FlushTake reply.Spent ∷ []), true)
    ∷ (ends_failed (put_a ∷ db (act.CompactTake Auto) reply.Spent ∷ []), true)
    ∷ (ends_failed (put_a ∷ db (act.Put 1) (reply.Cancelled (codes "l1")) ∷ []), false)
    ∷ (ends_failed (put_a ∷ stuck 1 ∷ []), false)
    -- notes that no flush and no compaction goes by stand behind
    ∷ (ends_failed (db act.FlushTake reply.Spent ∷ took 1 ∷ stuck 1 ∷ sealed 2 ∷ []), true)
    ∷ (
      ends_failed (db act.FlushTake reply.Spent ∷ db (act.Work 1) reply.NoSuch
          ∷ db (act.Show show.Snaps) (reply.Snaps []) ∷ []),
      true,
    )
    ∷ (ends_failed (db act.FlushTake reply.Spent ∷ db (act.Put 1) reply.NoSuch ∷ []), false)
    ∷ (ends_failed (db act.FlushTake reply.Spent ∷ db (act.Build 1) reply.NoSuch ∷ []), false)
    ∷ (ends_failed (db act.FlushTake reply.Spent ∷ put_a ∷ []), false)
    ∷ (ends_failed (db act.FlushTake reply.Spent ∷ db act.FlushTake reply.Nothing ∷ []), false)
    ∷ []

-- which numbers were taken, left and removed, in order
abbrev pub removals : List (List ℕ × List ℕ)
removals =
    (taken_in [], [])
    ∷ (taken_in (took 1 ∷ stuck 1 ∷ put_a ∷ took 3 ∷ db act.Reap reply.Nothing ∷ []), 1 ∷ 3 ∷ [])
    ∷ (left_in (took 1 ∷ stuck 1 ∷ put_a ∷ took 3 ∷ db (act.Remove 3) reply.Memory ∷ took 4 ∷ []), 1 ∷ 3 ∷ [])
    ∷ (left_in (took 1 ∷ []), [])
    ∷ (
      removed_in (took 1 ∷ stuck 1 ∷ put_a ∷ took 3 ∷ took 4 ∷ db (act.Remove 4) reply.Memory
          ∷ took 5 ∷ []),
      3 ∷ 5 ∷ [],
    )
    ∷ (removed_in (took 2 ∷ []), 2 ∷ [])
    ∷ (removed_in (stuck 2 ∷ []), [])
    ∷ []

abbrev pub reserved : List Note → List ℕ
reserved notes = reserved_in (opening 1 1) notes

abbrev pub key_flushed : ℕ → List ℕ → ℕ → List Note
key_flushed job key num = c1 (put key (codes "1")) reply.Done ∷ flushed job job (table_of_key num key job)

abbrev pub compaction_taken : Note
compaction_taken = holding (db (compact_l0 (from_to (codes "a") (codes "b"))) (reply.Job 2)) (Hold 1 1 ∷ [])

-- a flush has one number, a compaction 64, each the next ones
abbrev pub jobs_reserve : List (List ℕ × List ℕ)
jobs_reserve =
    (reserved [], [])
    ∷ (reserved (put_a ∷ sealed 1 ∷ []), [])
    ∷ (reserved (put_a ∷ sealed 1 ∷ flush_taken 1 ∷ []), 1 ∷ [])
    ∷ (
      reserved_in (opening 1 7) (put_a ∷ sealed 1 ∷ flush_taken 1
          ∷ put_flush 1 (table_of_key 7 (codes "a") 1) ∷ []),
      7 ∷ [],
    )
    ∷ (reserved (key_flushed 1 (codes "a") 1 ++ compaction_taken ∷ []), 1 ∷ range_with_len 2 64)
    ∷ (
      reserved (key_flushed 1 (codes "a") 1 ++ compaction_taken ∷ put_a ∷ sealed 2 ∷ flush_taken 3 ∷ []),
      1 ∷ range_with_len 2 64 ++ 66 ∷ [],
    )
    -- one that fails keeps its number, and the next has another
    ∷ (reserved (put_a ∷ sealed 1 ∷ flush_taken 1 ∷ build_fails ∷ flush_taken 2 ∷ []), 1 ∷ 2 ∷ [])
    -- refused ones have none
    ∷ (
      reserved (put_a ∷ sealed 1 ∷ db act.FlushTake reply.Memory ∷ db act.FlushTake reply.Spent
          ∷ flush_taken 1 ∷ db act.FlushTake reply.Nothing ∷ []),
      1 ∷ [],
    )
    ∷ (
      reserved (db (act.CompactTake Auto) reply.Nothing ∷ db (act.CompactTake Auto) reply.Memory
          ∷ db (act.CompactTake Auto) reply.Spent ∷ []),
      [],
    )
    ∷ []

abbrev pub opens : List TableOps → Reply → Note
opens tables r = c1 (act.LoadOpen (codes "l1") tables None) r

abbrev pub apart : TableOps
apart = table_ops (codes "t3") (Set (codes "c") (codes "1") ∷ [])

-- a load has one number for each table as its opening begins
abbrev pub loads_reserve : List (List ℕ × List ℕ)
loads_reserve =
    (reserved (opens (only_b ∷ apart ∷ []) reply.Opening ∷ []), 1 ∷ 2 ∷ [])
    ∷ (
      reserved (opens (only_b ∷ apart ∷ []) reply.Opening
          ∷ opens (only_b ∷ apart ∷ []) reply.Opened ∷ []),
      1 ∷ 2 ∷ [],
    )
    ∷ (
      reserved (opens (only_a ∷ []) reply.Opening ∷ trying (opens (only_a ∷ []) reply.Fault) (1 ∷ [])
          ∷ opens (only_a ∷ []) reply.Opening ∷ []),
      1 ∷ 2 ∷ [],
    )
    -- without tables, and refused
    ∷ (reserved (excise (codes "l1") (from_to (codes "a") (codes "m")) ∷ []), [])
    ∷ (
      reserved (opens [] reply.Nothing ∷ opens (only_a ∷ []) reply.Memory ∷ opens (only_a ∷ []) reply.Spent
          ∷ opens (only_a ∷ []) reply.TooMany ∷ []),
      [],
    )
    ∷ (reserved (opens (only_a ∷ []) reply.Opening ∷ opens (only_a ∷ []) reply.NameInUse ∷ []), 1 ∷ [])
    -- the halves of an install have the next numbers, and they aren't reserved
    ∷ (reserved (take 6 two_halves), 1 ∷ [])
    ∷ (reserved (take 6 two_halves ++ put_a ∷ sealed 2 ∷ flush_taken 2 ∷ []), 1 ∷ 4 ∷ [])
    ∷ []

abbrev pub now : List Note → Plain
now notes = after_all (opening 1 1) notes

-- a flush is due where a group is sealed and no flush runs
abbrev pub flushes_due : List (Bool × Bool)
flushes_due =
    (flush_due (now []), false)
    ∷ (flush_due (now (put_a ∷ [])), false)
    ∷ (flush_due (now (put_a ∷ sealed 1 ∷ [])), true)
    ∷ (flush_due (now (put_a ∷ sealed 1 ∷ flush_taken 1 ∷ [])), false)
    ∷ (flush_due (now (put_a ∷ sealed 1 ∷ flush_taken 1 ∷ put_a ∷ sealed 2 ∷ [])), false)
    ∷ (flush_due (now (put_a ∷ sealed 1 ∷ flush_taken 1 ∷ build_fails ∷ [])), true)
    ∷ (
      flush_due (now (put_a ∷ sealed 1 ∷ flush_taken 1 ∷ put_a ∷ sealed 2
          ∷ put_flush 1 (table_of_key 1 (codes "a") 1) ∷ [])),
      true,
    )
    ∷ (flush_due (now (key_flushed 1 (codes "a") 1)), false)
    -- beside a compaction
    ∷ (flush_due (now (key_flushed 1 (codes "a") 1 ++ compaction_taken ∷ [])), false)
    ∷ (flush_due (now (key_flushed 1 (codes "a") 1 ++ compaction_taken ∷ put_a ∷ sealed 2 ∷ [])), true)
    ∷ []

abbrev pub three_flushed : List Note
three_flushed = key_flushed 1 (codes "a") 1 ++ key_flushed 2 (codes "b") 2 ++ key_flushed 3 (codes "c") 3

abbrev pub four_flushed : List Note
four_flushed = three_flushed ++ key_flushed 4 (codes "d") 4

abbrev pub five_flushed : List Note
five_flushed = four_flushed ++ key_flushed 5 (codes "e") 5

-- a compaction of the table of one key, as a job, with its hold
abbrev pub compacts : List ℕ → List ℕ → ℕ → ℕ → ℕ → Note
compacts lo hi job hold version =
    holding (db (compact_l0 (from_to lo hi)) (reply.Job job)) (Hold hold version ∷ [])

abbrev pub three_running : List Note
three_running =
    five_flushed
    ++ compacts (codes "a") (codes "b") 6 1 5
    ∷ compacts (codes "b") (codes "c") 7 2 5
    ∷ compacts (codes "c") (codes "d") 8 3 5
    ∷ []

abbrev pub four_running : List Note
four_running = three_running ++ compacts (codes "d") (codes "e") 9 4 5 ∷ []

-- a compaction is due where fewer than four run, and there is a plan beside them
abbrev pub compactions_due : List (Bool × Bool)
compactions_due =
    (compact_due (now []), false)
    ∷ (compact_due (now three_flushed), false)
    ∷ (compact_due (now four_flushed), true)
    ∷ (compact_due (now three_running), true)
    ∷ (compact_due (now four_running), false)
    ∷ (compact_due (now (four_running ++ holding (db (act.Build 9) reply.Fault) (Release 4 ∷ []) ∷ [])), true)
    -- it is over all that is due
    ∷ (compact_due (now (four_flushed ++ compacts (codes "a") (codes "e") 5 1 4 ∷ [])), false)
    -- beside a flush
    ∷ (compact_due (now (four_flushed ++ put_a ∷ sealed 5 ∷ flush_taken 5 ∷ [])), true)
    ∷ []
