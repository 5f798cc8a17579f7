-- What an operation says, by its number.
use Rattle.std.specs.Prelude.{ℕ, ◌-◌, ◌%◌, List, [], ◌∷◌, ◌++◌, map, nat_lt, ◌==◌, if◌then◌else◌}
use Rattle.xdb_gen.specs.Commands.{command_by, key_range, load_name, load_open, snap_name}
use Rattle.xdb_gen.specs.Draws.{next_state, drawn}
use Rattle.xdb_gen.specs.Said.{Said, client, owner, said_in}
use Rattle.xdb_gen.specs.declared.rule.Rule.{Rule}
use Rattle.xdb_gen.specs.declared.rule.Rule.TheVariants.{Upkeep, Load, Snapshot, Command}
use Rattle.xdb_plain.specs.declared.act.Which.TheVariants.{Auto}
use Rattle.xdb_plain.specs.declared.script.Cmd.TheVariants as cmd
use Rattle.xdb_plain.specs.declared.script.Line.{Line}

-- the first rule that fits
abbrev pub rule_of : ℕ → Rule
rule_of i = if i % 500 == 0 then Upkeep else (if i % 700 == 0 then Load else (if i % 900 == 0 then Snapshot else Command))

-- the memtables are flushed, and the level that needs it most is compacted
abbrev pub upkeep : List Said
upkeep = owner cmd.Seal ∷ owner cmd.Flush ∷ owner (cmd.Compact Auto) ∷ []

-- a load is opened, and installed once the memtables are flushed
abbrev pub loads : ℕ → ℕ → List Said
loads i a = client (load_open i a) ∷ owner cmd.Seal ∷ owner cmd.Flush ∷ client (cmd.Install (load_name i)) ∷ []

-- the snapshot from 900 operations before is dropped; the first one is made at 900
abbrev pub old_snapshot : ℕ → List Said
old_snapshot i = if nat_lt i 1800 then [] else client (cmd.Drop (snap_name (i - 900))) ∷ []

-- and then one of all keys but k9999 is made
abbrev pub snapshots : ℕ → List Said
snapshots i = old_snapshot i ++ client (cmd.Snap (snap_name i) (key_range 0 9999 ∷ [])) ∷ []

-- what has been said, and the state that the draws have come to
pub record Progress : Type 0 where
  pub said : List Said
  pub state : ℕ

-- what lines say, and a state
abbrev pub seen : List Line → ℕ → Progress
seen lines state = record { said = map said_in lines; state = state }

abbrev pub with_said : Progress → List Said → Progress
with_said p more = record { said = p.said ++ more; state = p.state }

-- one more draw
abbrev pub with_draw : Progress → Progress
with_draw p = record { said = p.said; state = next_state p.state }

-- a load draws the first key of its span
abbrev pub with_load : ℕ → Progress → Progress
with_load i p = let q = with_draw p in with_said q (loads i (drawn 1000 q.state))

-- a command draws its kind, and then its key
abbrev pub with_command : ℕ → Progress → Progress
with_command i p =
    let q = with_draw p in
    let r = with_draw q in
    with_said r (client (command_by (drawn 10 q.state) i (drawn 1000 r.state)) ∷ [])

abbrev pub by_rule : Rule → ℕ → Progress → Progress
by_rule Upkeep i p = with_said p upkeep
by_rule Load i p = with_load i p
by_rule Snapshot i p = with_said p (snapshots i)
by_rule Command i p = with_command i p
