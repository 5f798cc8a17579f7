-- The law `one_sort_puts_all_in`, by its lemma.
use Rattle.xdb_lists.proofs.StableLaws.{put_all_in-sorted}
use Rattle.xdb_lists.proofs.one_sort_puts_all_in.Goals as goal

pub returns : goal.returns
returns g c = λ cmp total. put_all_in-sorted total
