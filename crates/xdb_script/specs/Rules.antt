-- The rules that a command keeps by itself, beside those on who says it and which tables there are (`suits`).
use Rattle.std.specs.Prelude.{ℕ, Bool, true, ◌&&◌, List, [], ◌∷◌, length, Option, Some, None, nat_le, nat_lt, is_none}
use Rattle.std.specs.List.{list_all, flat_map}
use Rattle.xdb_key.specs.Bounds.{Bounds}
use Rattle.xdb_key.specs.Name.{is_name}
use Rattle.xdb_key.specs.Ops.{disorder, is_table}
use Rattle.xdb_key.specs.Order.{is_below}
use Rattle.xdb_key.specs.declared.TheConstants.{MAX_KEY, MAX_BOUND, MAX_VALUE}
use Rattle.xdb_key.specs.declared.op.Op.{Op}
use Rattle.xdb_key.specs.declared.op.Op.TheVariants as op
use Rattle.xdb_plain.specs.Scripts.{found_table, are_defined}
use Rattle.xdb_plain.specs.Tables.{TableOps}
use Rattle.xdb_plain.specs.declared.act.Which.{Which}
use Rattle.xdb_plain.specs.declared.act.Which.TheVariants.{Auto, At}
use Rattle.xdb_plain.specs.declared.question.Question.{Question}
use Rattle.xdb_plain.specs.declared.question.Question.TheVariants.{Get, Scan, RScan, Move}
use Rattle.xdb_plain.specs.declared.question.Step.{Step}
use Rattle.xdb_plain.specs.declared.question.Step.TheVariants.{First, Last, Next, Prev, Seek, SeekLt}
use Rattle.xdb_plain.specs.declared.script.Cmd.{Cmd}
use Rattle.xdb_plain.specs.declared.script.Cmd.TheVariants as cmd

-- ---- lengths and names

abbrev pub are_bytes : List ℕ → Bool
are_bytes bytes = list_all (λ b. nat_lt b 256) bytes

abbrev pub has_length : ℕ → ℕ → List ℕ → Bool
has_length least most bytes = nat_le least (length bytes) && nat_le (length bytes) most

-- bytes, at least and at most so many
abbrev pub is_string : ℕ → ℕ → List ℕ → Bool
is_string least most bytes = are_bytes bytes && has_length least most bytes

abbrev pub is_key : List ℕ → Bool
is_key bytes = is_string 1 MAX_KEY bytes

abbrev pub is_bound : List ℕ → Bool
is_bound bytes = is_string 1 MAX_BOUND bytes

abbrev pub is_value : List ℕ → Bool
is_value bytes = is_string 0 MAX_VALUE bytes

abbrev pub has_bounds : Bounds → Bool
has_bounds range = is_bound range.lo && is_bound range.hi

abbrev pub op_fits : Op → Bool
op_fits (op.Set key value) = is_key key && is_value value
op_fits (op.Del key) = is_key key
op_fits (op.DelSpan range) = has_bounds range

abbrev pub at_fits : Option (List ℕ) → Bool
at_fits None = true
at_fits (Some snap) = is_name snap

abbrev pub step_fits : Step → Bool
step_fits First = true
step_fits Last = true
step_fits Next = true
step_fits Prev = true
step_fits (Seek key) = is_key key
step_fits (SeekLt key) = is_key key

abbrev pub question_fits : Question → Bool
question_fits (Get key at) = is_key key && at_fits at
question_fits (Scan range most at) = has_bounds range && at_fits at
question_fits (RScan range most at) = has_bounds range && at_fits at
question_fits (Move cursor step) = is_name cursor && step_fits step

abbrev pub which_fits : Which → Bool
which_fits Auto = true
which_fits (At level range) = has_bounds range

abbrev pub span_fits : Option Bounds → Bool
span_fits None = true
span_fits (Some span) = has_bounds span

-- its keys, bounds, values and names are within their limits
abbrev pub fits : Cmd → Bool
fits (cmd.Table table) = is_name table.name && list_all op_fits table.ops
fits (cmd.Commit form ops) = list_all op_fits ops
fits (cmd.Ask question parted) = question_fits question
fits (cmd.Snap name ranges) = is_name name && list_all has_bounds ranges
fits (cmd.Drop name) = is_name name
fits (cmd.Status name form) = is_name name
fits (cmd.Cursor name range at) = is_name name && (has_bounds range && at_fits at)
fits (cmd.Shut name) = is_name name
fits (cmd.Load load tables span) = is_name load && (list_all is_name tables && span_fits span)
fits (cmd.Install load) = is_name load
fits (cmd.CompactTake which) = which_fits which
fits (cmd.Compact which) = which_fits which
fits _ = true

-- ---- ranges

abbrev pub op_ranges : Op → List Bounds
op_ranges (op.Set key value) = []
op_ranges (op.Del key) = []
op_ranges (op.DelSpan range) = range ∷ []

abbrev pub question_ranges : Question → List Bounds
question_ranges (Get key at) = []
question_ranges (Scan range most at) = range ∷ []
question_ranges (RScan range most at) = range ∷ []
question_ranges (Move cursor step) = []

abbrev pub which_ranges : Which → List Bounds
which_ranges Auto = []
which_ranges (At level range) = range ∷ []

abbrev pub span_ranges : Option Bounds → List Bounds
span_ranges None = []
span_ranges (Some span) = span ∷ []

-- the ranges that a command names
abbrev pub ranges : Cmd → List Bounds
ranges (cmd.Table table) = flat_map op_ranges table.ops
ranges (cmd.Commit form ops) = flat_map op_ranges ops
ranges (cmd.Ask question parted) = question_ranges question
ranges (cmd.Snap name snapped) = snapped
ranges (cmd.Cursor name range at) = range ∷ []
ranges (cmd.Load load tables span) = span_ranges span
ranges (cmd.CompactTake which) = which_ranges which
ranges (cmd.Compact which) = which_ranges which
ranges _ = []

-- each range's start is below its end
abbrev pub ranges_rise : Cmd → Bool
ranges_rise c = list_all (λ range. is_below range.lo range.hi) (ranges c)

-- ---- tables

-- the tables of a load are defined, and a table that is defined is new
abbrev pub tables_stand : List TableOps → Cmd → Bool
tables_stand tables (cmd.Load load names span) = are_defined names tables
tables_stand tables (cmd.Table table) = is_none (found_table table.name tables)
tables_stand tables _ = true

-- the keys of a table's points rise
abbrev pub points_rise : Cmd → Bool
points_rise (cmd.Table table) = is_none (disorder table.ops)
points_rise _ = true

-- a table has 1 to 4,096 operations, and the keys of its points rise
abbrev pub is_sound : Cmd → Bool
is_sound (cmd.Table table) = is_table table.ops
is_sound _ = true
