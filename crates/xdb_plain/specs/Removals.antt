-- Files that a history takes for removal.
use Rattle.std.specs.Prelude.{ℕ, Bool, not, List, filter, Option, Some, None}
use Rattle.std.specs.List.{filter_map}
use Rattle.xdb_plain.specs.Counts.{is_among}
use Rattle.xdb_plain.specs.declared.act.Act.{Act}
use Rattle.xdb_plain.specs.declared.act.Act.TheVariants as act
use Rattle.xdb_plain.specs.declared.reply.Reply.{Reply}
use Rattle.xdb_plain.specs.declared.reply.Reply.TheVariants as reply
use Rattle.xdb_plain.specs.declared.note.Note.{Note}

-- a number that was taken
abbrev pub took : Reply → Option ℕ
took (reply.Took num) = Some num
took _ = None

-- the numbers that were taken, in order
abbrev pub taken_in : List Note → List ℕ
taken_in notes = filter_map (λ note. took note.reply) notes

-- the number of a file that wasn't removed
abbrev pub left_by : Act → Option ℕ
left_by (act.Remove num) = Some num
left_by _ = None

-- the numbers of files that weren't removed though they were taken, in order
abbrev pub left_in : List Note → List ℕ
left_in notes = filter_map (λ note. left_by note.act) notes

-- the numbers of the files that were removed, in order: each that was taken and isn't told to be left
abbrev pub removed_in : List Note → List ℕ
removed_in notes = filter (λ num. not (is_among num (left_in notes))) (taken_in notes)
