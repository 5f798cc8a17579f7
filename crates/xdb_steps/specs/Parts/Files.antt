-- Versions, and who holds them; numbers of files.
use Rattle.std.specs.Prelude.{◌≡◌, ℕ, List}
use Rattle.xdb_lists.specs.Numbers.{is_among}
use Rattle.xdb_model.specs.Reserved.{RiseWithin}
use Rattle.xdb_plain.specs.State.{Version, Hold}
use Rattle.xdb_rangedel.specs.Members.{SameMembers}
use Rattle.xdb_steps.specs.Core.{Files}

-- The current version is the plain one. Holds and numbers are the plain ones too, in whatever order: holds stand with
-- their holders here, and in the order of their notes there. Known numbers rise there, below the next file number.
pub record FilesAgree (f : Files) (file : ℕ) (plain_current : Version) (plain_holds : List Hold) (plain_known plain_taken : List ℕ) : Type 0 where
  pub current : plain_current ≡ f.current
  pub holds : SameMembers plain_holds f.holds
  pub known : (n : ℕ) → is_among n plain_known ≡ is_among n f.known
  pub taken : (n : ℕ) → is_among n plain_taken ≡ is_among n f.taken
  pub rising : RiseWithin 0 file plain_known
