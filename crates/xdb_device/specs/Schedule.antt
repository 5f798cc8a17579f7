-- Which calls of an object in memory fail. Its calls are numbered from 1, and the numbers of those that fail are listed.
use Rattle.std.specs.Prelude.{ℕ, ◌+◌, ◌-◌, ◌^◌, Bool, ◌==◌, ◌&&◌, nat_lt, List, if◌then◌else◌}
use Rattle.std.specs.List.{list_any}
use Rattle.xdb_device.specs.Faults.{one_more}

-- the numbers of the calls that fail, how many calls there were, and how many of them failed
pub record Calls : Type 0 where
  pub fails : List ℕ
  pub count : ℕ
  pub faults : ℕ

-- The next call is one of those that fail. At the end of the count none does.
abbrev pub fails_next : Calls → Bool
fails_next c = nat_lt (c.count + 1) (2 ^ 64 - 1) && list_any (λ call. call == c.count + 1) c.fails

abbrev pub after_call : Calls → Calls
after_call c = record {
  fails = c.fails;
  count = one_more c.count;
  faults = if fails_next c then one_more c.faults else c.faults;
}
