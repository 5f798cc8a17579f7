use Rattle.xdb_steps.proofs.Counting.{counted, all-counted, dead-is, dead-list, none-dead, least-dead}
use Rattle.xdb_steps.proofs.JobLaws.{known-unowned}
use Rattle.xdb_steps.proofs.counts.sets_are_counted.Goals as goal

pub returns : goal.returns
returns g c = record {
  count = λ s x p is of a b. counted s is x.files p x.numbers.file of a.files b;
  counts = λ s x p is of a. all-counted s is x.files p x.numbers.file of a.files;
  dead = λ s x p is of a n. dead-is s is x.files p x.numbers.file of a.files (known-unowned x p a) n;
  dead_list = λ s x p is of a. dead-list s is x.files p x.numbers.file of a.files (known-unowned x p a);
  nothing = λ s x p is of a off. none-dead s is x.files p x.numbers.file of a.files (known-unowned x p a) off;
  least = λ s x p d is of a is_d low. least-dead s is x.files p x.numbers.file of a.files (known-unowned x p a) d is_d low;
}
