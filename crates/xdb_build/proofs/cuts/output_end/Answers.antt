-- What is left to answer of `output_end`.
use Rattle.std.proofs.Common.{◌+◌, ◌-◌, length, take, drop, sym, subst, arith}
use Rattle.std.proofs.lemmas.List.{take_all, length-drop}
use Rattle.xdb_build.proofs.CutLaws.{ends_behind}
use Rattle.xdb_build.specs.Series.{EndsFrom}
use Rattle.xdb_build.proofs.cuts.output_end.Goals as goal

pub returns : goal.returns
returns c =
    let ps = c.args.entries.now in
    let rest = take (length ps - c.args.from) (drop c.args.from ps) in
    record {
      ends = subst (λ more. EndsFrom ps c.args.from more (c.args.from + c.output_len.result)) (sym c.if-not-more.false)
          (ends_behind ps rest c.args.from c.output_len.result (take_all (length ps - c.args.from) (drop c.args.from ps) (omega (arith, length-drop c.args.from ps))) c.requires.within c.output_len.ensures);
    }
