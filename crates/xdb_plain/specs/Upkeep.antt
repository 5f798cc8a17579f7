-- Whether a flush or a compaction is due.
use Rattle.std.specs.Prelude.{Bool, not, ◌&&◌, length, nat_lt, is_some}
use Rattle.std.specs.List.{list_any}
use Rattle.xdb_plain.specs.Edits.{is_empty, running_hulls}
use Rattle.xdb_plain.specs.Replies.{is_flush, plan_now}
use Rattle.xdb_plain.specs.State.{Plain}
use Rattle.xdb_plain.specs.declared.act.Which.TheVariants.{Auto}

-- a group is sealed, and no flush runs
abbrev pub flush_due : Plain → Bool
flush_due p = not (is_empty p.sealed) && not (list_any (λ j. is_flush j.kind) p.jobs)

-- fewer than four compactions run, and there is a plan for one more
abbrev pub compact_due : Plain → Bool
compact_due p = nat_lt (length (running_hulls p.jobs)) 4 && is_some (plan_now p Auto)
