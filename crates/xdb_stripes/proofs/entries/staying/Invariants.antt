-- What the loop of `staying` keeps: what stays so far, and what is known of the entry before.
use Rattle.std.proofs.Common.{◌≡◌, ◌<◌, ◌-◌, ◌^◌, take, get_or}
use Rattle.std.specs.List.{filter, list_any}
use Rattle.xdb_key.specs.Entries.{Point}
use Rattle.xdb_stripes.specs.Steps.{shadows_entry, is_kept_entry}
use Rattle.xdb_stripes.proofs.entries.staying.Given as goal

abbrev pub invariant-loop-at : goal.invariant-loop-at
invariant-loop-at l = record {
  kept : l.kept.items ≡ filter (is_kept_entry l.stripes l.floor l.entries l.spans) (take l.at l.entries);
  shadowed : (d : Point) → 0 < l.at → l.shadowed ≡ list_any (shadows_entry l.stripes (get_or l.entries (l.at - 1) d)) l.entries;
  small : (d : Point) → 0 < l.at → (get_or l.entries (l.at - 1) d).seq < 2 ^ 56;
}
