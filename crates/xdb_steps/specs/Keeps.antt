-- An engine's parts are those of a plain state.
use Rattle.std.specs.Prelude.{◌≡◌}
use Rattle.xdb_laws.specs.Ordered.{IsNumberedUpTo}
use Rattle.xdb_plain.specs.State.{Plain}
use Rattle.xdb_steps.specs.Between.{Owned, UnderWay, ImageIs, InLevelOrder, Striped, all_items, pinned_marks}
use Rattle.xdb_steps.specs.Core.{Core}
use Rattle.xdb_steps.specs.Parts.Mem.{MemAgrees}
use Rattle.xdb_steps.specs.Parts.Numbers.{NumbersAgree}
use Rattle.xdb_steps.specs.Parts.Asks.{AsksAgree}
use Rattle.xdb_steps.specs.Parts.Files.{FilesAgree}
use Rattle.xdb_steps.specs.Parts.Jobs.{JobsAgree}
use Rattle.xdb_steps.specs.Tables.{AreTables}
use Rattle.xdb_steps.specs.Parts.Unbuilt.{SnapsAgree, CursorsAgree, LoadsAgree}

-- In all that doesn't speak of content, topic by topic and between topics.
pub record Agrees (c : Core) (p : Plain) : Type 0 where
  pub mem : MemAgrees c.mem c.numbers.next p.sealed p.active
  pub numbers : NumbersAgree c.numbers p.next p.file p.asked p.started
  pub asks : AsksAgree c.numbers.asked c.asks p.questions
  pub files : FilesAgree c.files c.numbers.file p.current p.holds p.known p.taken
  pub jobs : JobsAgree c.jobs p.jobs
  pub snaps : SnapsAgree p.snaps
  pub cursors : CursorsAgree p.cursors
  pub loads : LoadsAgree p.loads
  pub owned : Owned c.numbers.file c.files.known c.jobs
  pub under_way : UnderWay c.mem.sealed c.jobs

-- In content: the image is the map; tables and memtables stand in order, with numbers below the next one, and each
-- pinned mark is at most that; each table has what is kept with it; each job can keep apart what the marks see; and
-- what the parts of questions mean are their answers.
pub record Means (c : Core) (p : Plain) : Type 0 where
  pub image : ImageIs c.files.contents c.mem c.numbers.next p.map
  pub order : InLevelOrder c.files.current.levels c.files.contents c.mem c.numbers.next
  pub numbers : IsNumberedUpTo c.numbers.next (all_items c.files.contents c.mem)
      (pinned_marks p.snaps)
  pub tables : AreTables c.files.current.levels c.files.contents
  pub striped : Striped (pinned_marks p.snaps) c.jobs
  pub asks : c.asks ≡ p.questions
