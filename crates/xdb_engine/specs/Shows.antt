-- What is shown of the files.
use Rattle.std.specs.Prelude.{[], map}
use Rattle.xdb_plain.specs.declared.act.ShowWhat.{ShowWhat}
use Rattle.xdb_plain.specs.declared.act.ShowWhat.TheVariants as show
use Rattle.xdb_plain.specs.declared.reply.Reply.{Reply}
use Rattle.xdb_plain.specs.declared.reply.Reply.TheVariants.{Levels, Counts, Snaps}
use Rattle.xdb_vset.specs.Seen.{Seen, named}

-- the tables of the current version; how many tables of versions in use stand on each file; and no snapshot
abbrev pub shown_of : {F : Type 0} → Seen F → ShowWhat → Reply
shown_of s show.Levels = Levels s.current.levels
shown_of s show.Counts = Counts (map (λ x. (x.num, named s x.num)) s.backings)
shown_of s show.Snaps = Snaps []
