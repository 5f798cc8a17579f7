-- The words of the verbs, and who may use them.
use Rattle.std.specs.Prelude.{ℕ, Bool, true, false, not, ◌||◌, List, [], ◌∷◌, map, codes}
use Rattle.xdb_script.specs.declared.form.ScriptForm.{ScriptForm}
use Rattle.xdb_script.specs.declared.form.ScriptForm.TheVariants.{Run, Threads}
use Rattle.xdb_script.specs.declared.verbs.ClientVerb.{ClientVerb}
use Rattle.xdb_script.specs.declared.verbs.ClientVerb.TheVariants as says
use Rattle.xdb_script.specs.declared.verbs.DbVerb.{DbVerb}
use Rattle.xdb_script.specs.declared.verbs.DbVerb.TheVariants as owns
use Rattle.xdb_script.specs.declared.verbs.ReadVerb.{ReadVerb}
use Rattle.xdb_script.specs.declared.verbs.ReadVerb.TheVariants as reads

abbrev pub read_word : ReadVerb → List ℕ
read_word reads.Get = codes "get"
read_word reads.Scan = codes "scan"
read_word reads.RScan = codes "rscan"
read_word reads.First = codes "first"
read_word reads.Last = codes "last"
read_word reads.Next = codes "next"
read_word reads.Prev = codes "prev"
read_word reads.Seek = codes "seek"
read_word reads.SeekLt = codes "seeklt"

abbrev pub client_word : ClientVerb → List ℕ
client_word says.Put = codes "put"
client_word says.Del = codes "del"
client_word says.DelSpan = codes "delspan"
client_word says.Batch = codes "batch"
client_word (says.Read v) = read_word v
client_word says.Begin = codes "begin"
client_word says.Settle = codes "settle"
client_word says.Snap = codes "snap"
client_word says.Drop = codes "drop"
client_word says.Status = codes "status"
client_word says.Await = codes "await"
client_word says.Cursor = codes "cursor"
client_word says.Shut = codes "shut"
client_word says.Load = codes "load"
client_word says.Install = codes "install"

abbrev pub db_word : DbVerb → List ℕ
db_word owns.Seal = codes "seal"
db_word owns.FlushTake = codes "flush-take"
db_word owns.Put = codes "put"
db_word owns.CompactTake = codes "compact-take"
db_word owns.Build = codes "build"
db_word owns.Work = codes "work"
db_word owns.Flush = codes "flush"
db_word owns.Compact = codes "compact"
db_word owns.Reap = codes "reap"
db_word owns.Show = codes "show"

abbrev pub read_verbs : List ReadVerb
read_verbs =
    reads.Get ∷ reads.Scan ∷ reads.RScan ∷ reads.First ∷ reads.Last ∷ reads.Next ∷ reads.Prev ∷ reads.Seek ∷ reads.SeekLt ∷ []

abbrev pub client_verbs : List ClientVerb
client_verbs =
    says.Put ∷ says.Del ∷ says.DelSpan ∷ says.Batch ∷ says.Begin ∷ says.Settle ∷ says.Snap ∷ says.Drop ∷ says.Status ∷ says.Await ∷ says.Cursor ∷ says.Shut
    ∷ says.Load ∷ says.Install ∷ map (λ v. says.Read v) read_verbs

abbrev pub db_verbs : List DbVerb
db_verbs =
    owns.Seal ∷ owns.FlushTake ∷ owns.Put ∷ owns.CompactTake ∷ owns.Build ∷ owns.Work ∷ owns.Flush ∷ owns.Compact ∷ owns.Reap ∷ owns.Show ∷ []

-- a question in parts
abbrev pub is_parted : ClientVerb → Bool
is_parted says.Begin = true
is_parted says.Settle = true
is_parted _ = false

abbrev pub is_run : ScriptForm → Bool
is_run Run = true
is_run Threads = false

-- the clients of workers ask no question in parts
abbrev pub is_verb_in : ScriptForm → ClientVerb → Bool
is_verb_in form v = not (is_parted v) || is_run form
