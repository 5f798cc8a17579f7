use Rattle.xdb_steps.proofs.Stories.{first-agrees, whole-story, last-means, last-handout}
use Rattle.xdb_steps.proofs.story.a_flush_comes_before_the_answer.Goals as goal

pub returns : goal.returns
returns c = record { first = first-agrees; steps = whole-story; means = last-means; handout = last-handout }
