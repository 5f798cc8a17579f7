-- Numbers that are given in order.
use Rattle.std.specs.Prelude.{◌≡◌, ℕ, ◌≤◌, ◌^◌}
use Rattle.xdb_steps.specs.Core.{Numbers}

-- They are the plain ones, and sequence numbers and file numbers end at 2^56.
pub record NumbersAgree (n : Numbers) (plain_next plain_file plain_asked plain_started : ℕ) : Type 0 where
  pub next : plain_next ≡ n.next
  pub file : plain_file ≡ n.file
  pub asked : plain_asked ≡ n.asked
  pub started : plain_started ≡ n.started
  pub upto : n.next ≤ 2 ^ 56
  pub files_upto : n.file ≤ 2 ^ 56
