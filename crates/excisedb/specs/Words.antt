-- The words of a call, as the runtime hands them over: the first is the program's name.
use Rattle.std.specs.Prelude.{◌≡◌, ◌≢◌, ℕ, List, [], map, drop, Result, Ok, Err, string_bytes}
use Rattle.std.specs.IoError.{error_kind}
use Rattle.std.specs.Vec.Iter.{into_iter_items}
use Rattle.std.specs.declared.alloc.Global.{Global}
use Rattle.std.specs.declared.io.Error.{Error}
use Rattle.std.specs.declared.io.ErrorKind.TheVariants.{OutOfMemory}
use Rattle.std.specs.declared.string.String.{String}
use Rattle.std.specs.declared.vec.IntoIter.{IntoIter}

abbrev pub Args : Type 0
Args = IntoIter (String Global) Global

-- The words behind the program's name. Words that aren't text are no words.
abbrev pub words_of : Result Args Error → List (List ℕ)
words_of (Ok args) = map string_bytes (drop 1 (into_iter_items args))
words_of (Err error) = []

-- There was no memory to read the words.
abbrev pub LacksMemory : Result Args Error → Type 0
LacksMemory (Ok args) = ⊥
LacksMemory (Err error) = error_kind error ≡ OutOfMemory

-- The words aren't text.
abbrev pub ArentText : Result Args Error → Type 0
ArentText (Ok args) = ⊥
ArentText (Err error) = error_kind error ≢ OutOfMemory
