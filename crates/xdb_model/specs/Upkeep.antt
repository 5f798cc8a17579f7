-- What the beginning of a flush or a compaction tells by its reply.
use Rattle.std.specs.Prelude.{◌≡◌, ℕ, Bool, true, false}
use Rattle.xdb_plain.specs.declared.reply.Reply.{Reply}
use Rattle.xdb_plain.specs.declared.reply.Reply.TheVariants as reply

-- The reply where a flush is to begin, given whether one is due, whether its file number is no longer there, and the
-- number that the next job has. Memory is wanted behind the other tests.
abbrev pub IsFlushReply : Bool → Bool → ℕ → Reply → Type 0
IsFlushReply due lacking next (reply.Job job) = (due ≡ true) × (lacking ≡ false) × (job ≡ next)
IsFlushReply due lacking next reply.Memory = (due ≡ true) × (lacking ≡ false)
IsFlushReply due lacking next reply.Spent = (due ≡ true) × (lacking ≡ true)
IsFlushReply due lacking next reply.Nothing = due ≡ false
IsFlushReply due lacking next _ = ⊥

-- The same of a compaction, where memory may be wanting at any place.
abbrev pub IsCompactReply : Bool → Bool → ℕ → Reply → Type 0
IsCompactReply due lacking next (reply.Job job) = (due ≡ true) × (lacking ≡ false) × (job ≡ next)
IsCompactReply due lacking next reply.Memory = Unit {0}
IsCompactReply due lacking next reply.Spent = (due ≡ true) × (lacking ≡ true)
IsCompactReply due lacking next reply.Nothing = due ≡ false
IsCompactReply due lacking next _ = ⊥
