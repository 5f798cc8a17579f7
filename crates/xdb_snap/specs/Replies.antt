-- What the plain model replies where a snapshot isn't made.
use Rattle.std.specs.Prelude.{List, [], ◌∷◌, Option, Some, None}
use Rattle.xdb_plain.specs.declared.reply.Reply.{Reply}
use Rattle.xdb_plain.specs.declared.reply.Reply.TheVariants as reply
use Rattle.xdb_snap.specs.declared.error.SnapNo.{SnapNo}
use Rattle.xdb_snap.specs.declared.error.SnapNo.TheVariants.{NameInUse, BadRanges, TooMany, Memory}

-- the one reply for the refusal, or these where there is none
abbrev pub replies_by : Option SnapNo → List Reply → List Reply
replies_by None granted = granted
replies_by (Some NameInUse) granted = reply.NameInUse ∷ []
replies_by (Some BadRanges) granted = reply.BadRanges ∷ []
replies_by (Some TooMany) granted = reply.TooMany ∷ []
replies_by (Some Memory) granted = reply.Memory ∷ []
