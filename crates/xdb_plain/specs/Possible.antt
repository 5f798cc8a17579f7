-- Which replies an act can have at all, whatever the state.
use Rattle.std.specs.Prelude.{Bool, List, [], ◌∷◌}
use Rattle.std.specs.List.{list_any}
use Rattle.xdb_plain.specs.Replies.{same_reply}
use Rattle.xdb_plain.specs.declared.act.Act.{Act}
use Rattle.xdb_plain.specs.declared.act.Act.TheVariants as act
use Rattle.xdb_plain.specs.declared.act.ShowWhat.{ShowWhat}
use Rattle.xdb_plain.specs.declared.act.ShowWhat.TheVariants as show
use Rattle.xdb_plain.specs.declared.answer.Answer.TheVariants.{Absent}
use Rattle.xdb_plain.specs.declared.reply.Reply.{Reply}
use Rattle.xdb_plain.specs.declared.reply.Reply.TheVariants.{Done, Installed, Opened, Opening, Dropped, Shut, CursorOn, Answered, Asked, Group, Job as Started, Took, FileOnly, Pinned, Excised, Fenced, Waits, Cancelled, Busy, Overlap, Nothing, NoSuch, Outside, NameInUse, TooMany, BadRanges, Spent, NotYet, Fault, Stuck, Memory, Damaged, Levels, Counts, Snaps}

-- a reply without what it carries
abbrev pub bare : Reply → Reply
bare (Answered answer) = Answered Absent
bare (Asked ask) = Asked 0
bare (Group group) = Group 0
bare (Started job) = Started 0
bare (Took num) = Took 0
bare (Pinned group) = Pinned 0
bare (Excised load) = Excised []
bare (Fenced load) = Fenced []
bare (Waits group) = Waits 0
bare (Cancelled load) = Cancelled []
bare (Busy ask) = Busy 0
bare (Overlap a b) = Overlap [] []
bare (Damaged backing at) = Damaged 0 0
bare (Levels levels) = Levels []
bare (Counts counts) = Counts []
bare (Snaps states) = Snaps []
bare r = r

abbrev pub bare_shown : ShowWhat → Reply
bare_shown show.Levels = Levels []
bare_shown show.Counts = Counts []
bare_shown show.Snaps = Snaps []

-- the replies of an act, bare
abbrev pub bare_replies : Act → List Reply
bare_replies (act.Commit form ops) = Fenced [] ∷ Spent ∷ Memory ∷ Done ∷ []
bare_replies act.Seal = Nothing ∷ Group 0 ∷ []
bare_replies act.FlushTake = Nothing ∷ Spent ∷ Memory ∷ Started 0 ∷ []
bare_replies (act.CompactTake which) = Memory ∷ Nothing ∷ Spent ∷ Started 0 ∷ []
bare_replies (act.Put job) = NoSuch ∷ NotYet ∷ Cancelled [] ∷ Memory ∷ Installed ∷ []
bare_replies (act.Build job) = NoSuch ∷ Fault ∷ Damaged 0 0 ∷ Memory ∷ []
bare_replies (act.Work ask) = NoSuch ∷ Fault ∷ Damaged 0 0 ∷ Memory ∷ []
bare_replies (act.LoadOpen load tables span) =
    Nothing ∷ TooMany ∷ Overlap [] [] ∷ Fenced [] ∷ Spent ∷ Opening ∷ NameInUse ∷ Opened ∷ Fault ∷ Memory ∷ []
bare_replies (act.LoadKept load) = NoSuch ∷ NotYet ∷ []
bare_replies (act.Install load) = NoSuch ∷ NotYet ∷ Waits 0 ∷ Spent ∷ Memory ∷ Fault ∷ Damaged 0 0 ∷ Installed ∷ []
bare_replies (act.Snap name ranges) = NameInUse ∷ BadRanges ∷ TooMany ∷ Memory ∷ FileOnly ∷ Pinned 0 ∷ []
bare_replies (act.Drop name) = NoSuch ∷ Dropped ∷ []
bare_replies (act.Status name form) = NoSuch ∷ FileOnly ∷ Pinned 0 ∷ Excised [] ∷ []
bare_replies (act.Cursor name range at) = NameInUse ∷ NoSuch ∷ Outside ∷ Excised [] ∷ TooMany ∷ Memory ∷ CursorOn ∷ []
bare_replies (act.Shut name) = NoSuch ∷ Busy 0 ∷ Shut ∷ []
bare_replies (act.Ask ask question parted) =
    NoSuch ∷ Outside ∷ Excised [] ∷ Busy 0 ∷ TooMany ∷ Asked 0 ∷ Answered Absent ∷ Fault ∷ Damaged 0 0 ∷ Memory ∷ []
bare_replies (act.Settle ask) = NoSuch ∷ NotYet ∷ Answered Absent ∷ []
bare_replies act.Reap = Nothing ∷ Took 0 ∷ []
bare_replies (act.Remove num) = Stuck ∷ Memory ∷ []
bare_replies (act.Show what) = Memory ∷ bare_shown what ∷ []

abbrev pub is_reply_of : Act → Reply → Bool
is_reply_of a r = list_any (same_reply (bare r)) (bare_replies a)
