-- What clauses see of a desk: its given, and the story of its looks.
use Rattle.std.specs.Prelude.{◌≡◌, ℕ, ◌+◌, Bool, true, false}
use Rattle.xdb_order.specs.declared.story.Story.{Story}

pub record DeskView (G : Type 0) : Type 0 where
  pub given : G
  pub story : Story

abbrev pub story_at : ℕ → Bool → Story
story_at looks found = record { looks = looks; found = found }

-- no look yet
abbrev pub fresh_story : Story
fresh_story = story_at 0 false

abbrev pub fresh_desk : {G : Type 0} → G → DeskView G
fresh_desk given = record { given = given; story = fresh_story }

-- One look, which finds the result or not: where it does, no look had found it before,
-- and where it does not, nothing was at home in the slot (the law `what_was_home`).
abbrev pub Looks : Story → Bool → Story → Type 0
Looks before true after = (before.found ≡ false) × (after ≡ story_at (before.looks + 1) true)
Looks before false after = after ≡ story_at (before.looks + 1) before.found
