-- Numbers of files that are taken for removal.
use Rattle.std.specs.Prelude.{ℕ, ◌==◌, not, List, [], ◌∷◌, filter, Option, Some, None}
use Rattle.xdb_plain.specs.declared.reply.Reply.{Reply}
use Rattle.xdb_plain.specs.declared.reply.Reply.TheVariants.{Nothing, Took}

-- the numbers that were taken whose removal hasn't ended, and room for so many more
pub record Removing : Type 0 where
  pub numbers : List ℕ
  pub room : ℕ

abbrev pub removing : List ℕ → ℕ → Removing
removing numbers room = record { numbers = numbers; room = room }

-- the others
abbrev pub without_number : ℕ → List ℕ → List ℕ
without_number num numbers = filter (λ n. not (n == num)) numbers

-- the number that is taken, if one is, and the reply that says so
abbrev pub taken_by : Option ℕ → List ℕ
taken_by None = []
taken_by (Some num) = num ∷ []

abbrev pub reap_reply : Option ℕ → Reply
reap_reply None = Nothing
reap_reply (Some num) = Took num
