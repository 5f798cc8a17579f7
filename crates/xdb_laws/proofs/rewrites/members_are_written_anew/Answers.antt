-- The law `members_are_written_anew`, by its lemmas.
use Rattle.xdb_laws.proofs.RewriteLaws.{rewrite-same, rewrite-cut, rewrite-shown, rewrite-parts}
use Rattle.xdb_laws.proofs.rewrites.members_are_written_anew.Goals as goal

pub returns : goal.returns
returns c = record {
  same = rewrite-same;
  cut = λ x d ats same. rewrite-cut x ats d same;
  shown = rewrite-shown;
  parts = rewrite-parts;
}
