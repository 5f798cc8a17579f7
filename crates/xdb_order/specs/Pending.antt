-- What clauses see of ordered work that is pending: its given, the story of its desk, and its result while it is kept.
use Rattle.std.specs.Prelude.{◌≡◌, Bool, Option, Some, None, IfSome, is_some}
use Rattle.xdb_order.specs.Desk.{Looks}
use Rattle.xdb_order.specs.declared.story.Story.{Story}

pub record PendingView (I O : Type 0) : Type 0 where
  pub given : I
  pub story : Story
  pub kept : Option O

module _ {I O : Type 0} where
  abbrev pub pending : I → Story → Option O → PendingView I O
  pending given story kept = record { given = given; story = story; kept = kept }

  -- what is kept fits the given
  abbrev pub KeepsFitting : (I → O → Type 0) → PendingView I O → Type 0
  KeepsFitting fits p = IfSome p.kept (fits p.given)

  -- Where a result is kept nothing changes, and else it is one look at the desk: what it finds is kept.
  abbrev pub LooksUnlessKept : Option O → PendingView I O → PendingView I O → Type 0
  LooksUnlessKept (Some out) old new = new ≡ old
  LooksUnlessKept None old new = Looks old.story (is_some new.kept) new.story

  -- the result is looked for, and this is whether it is kept then
  pub record Arrives (fits : I → O → Type 0) (old new : PendingView I O) (is_kept : Bool) : Type 0 where
    pub same : new.given ≡ old.given
    pub look : LooksUnlessKept old.kept old new
    pub tells : is_kept ≡ is_some new.kept
    pub fitting : IfSome new.kept (fits old.given)
