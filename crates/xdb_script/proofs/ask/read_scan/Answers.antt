use Rattle.std.proofs.Common.{arith}
use Rattle.std.proofs.lemmas.List.{length-map}
use Rattle.xdb_plain.specs.declared.question.Question.TheVariants.{Scan, RScan}
use Rattle.xdb_script.proofs.Ranged.{scan_short}
use Rattle.xdb_script.specs.Answers.{texts}
use Rattle.xdb_script.proofs.ask.read_scan.Goals as goal

pub returns-in_default-clause-up : goal.returns-in_default-clause-up
returns-in_default-clause-up c = rw (scan_short (λ range most at. Scan range most at) (texts c.args.words.now) (omega (arith, length-map c.args.words.now (λ w. w.now), c.in_default.len_below)))

pub returns-in_default-clause-down : goal.returns-in_default-clause-down
returns-in_default-clause-down c = rw (scan_short (λ range most at. RScan range most at) (texts c.args.words.now) (omega (arith, length-map c.args.words.now (λ w. w.now), c.in_default.len_below)))
