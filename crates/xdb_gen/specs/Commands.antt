-- The commands of a generated script, by the number of their operation and a number that was drawn.
use Rattle.std.specs.Prelude.{ℕ, ◌+◌, ◌/◌, ◌%◌, List, [], ◌∷◌, ◌++◌, Some, None, false, nat_lt, ◌==◌, if◌then◌else◌, codes}
use Rattle.std.specs.Fmt.{decimal}
use Rattle.xdb_key.specs.Bounds.{Bounds, bounds}
use Rattle.xdb_key.specs.declared.op.Op.TheVariants as op
use Rattle.xdb_plain.specs.declared.act.CommitForm.TheVariants as form
use Rattle.xdb_plain.specs.declared.question.Question.TheVariants.{Get, Scan}
use Rattle.xdb_plain.specs.declared.script.Cmd.{Cmd}
use Rattle.xdb_plain.specs.declared.script.Cmd.TheVariants as cmd

-- the last four digits of a number, with zeros in front; 48 is the digit 0
abbrev pub four_digits : ℕ → List ℕ
four_digits a = (48 + a / 1000 % 10) ∷ (48 + a / 100 % 10) ∷ (48 + a / 10 % 10) ∷ (48 + a % 10) ∷ []

-- k0000 to k9999
abbrev pub key_of : ℕ → List ℕ
key_of a = codes "k" ++ four_digits a

abbrev pub key_range : ℕ → ℕ → Bounds
key_range a b = bounds (key_of a) (key_of b)

-- values and names end in the number of an operation
abbrev pub put_value : ℕ → List ℕ
put_value i = codes "v" ++ decimal i

abbrev pub load_name : ℕ → List ℕ
load_name i = codes "l" ++ decimal i

abbrev pub snap_name : ℕ → List ℕ
snap_name i = codes "s" ++ decimal i

abbrev pub put : ℕ → ℕ → Cmd
put i a = cmd.Commit form.Put (op.Set (key_of a) (put_value i) ∷ [])

abbrev pub del : ℕ → Cmd
del a = cmd.Commit form.Del (op.Del (key_of a) ∷ [])

abbrev pub del_span : ℕ → Cmd
del_span a = cmd.Commit form.DelSpan (op.DelSpan (key_range a (a + 5)) ∷ [])

abbrev pub get : ℕ → Cmd
get a = cmd.Ask (Get (key_of a) None) false

abbrev pub scan : ℕ → Cmd
scan a = cmd.Ask (Scan (key_range a (a + 50)) 10 None) false

-- a command by a number below 10: half of them are puts
abbrev pub command_by : ℕ → ℕ → ℕ → Cmd
command_by c i a =
    if nat_lt c 5 then put i a else (if c == 5 then del a else (if c == 6 then del_span a else (
    if nat_lt c 9 then get a else scan a)))

-- a load of no tables, which cuts out ten keys
abbrev pub load_open : ℕ → ℕ → Cmd
load_open i a = cmd.Load (load_name i) [] (Some (key_range a (a + 10)))
