-- One level more.
use Rattle.std.proofs.Common.{◌∙◌, ap, arith}
use Rattle.xdb_vset.specs.Counts.{named_in}
use Rattle.xdb_vset.specs.FileLists.{FileLists}
use Rattle.xdb_vset.proofs.VersionLaws.{named_more, named_more_le, named_whole}
use Rattle.xdb_vset.proofs.files.Files.lower_version.Goals as goal

pub lower_all-requires : goal.lower_all-requires
lower_all-requires g c = λ b.
    let here = ap (named_in b) c.tables.ensures.tables in
    let top = named_more_le b c.args.version.now c.loop-level.level (omega arith) in
    let before = c.loop-level.invariant.count b in
    let enough = c.requires b in
    omega arith

pub loop-level-preserved : goal.loop-level-preserved
loop-level-preserved g c =
    let inv = c.loop-level.invariant in
    record {
      count = λ b.
          let here = ap (named_in b) c.tables.ensures.tables in
          let more = named_more b c.args.version.now c.loop-level.level (omega arith) in
          let less = c.lower_all.ensures.count b in
          let before = inv.count b in
          omega arith;
      kept = λ files h. c.lower_all.ensures.kept files (inv.kept files h);
      rest = c.lower_all.ensures.rest ∙ ap (λ (f : FileLists g.row.F.Denot). record f { named = c.lower_all.new.self.named; dead = c.lower_all.new.self.dead }) inv.rest;
    }

pub returns-clause-count : goal.returns-clause-count
returns-clause-count g c = λ b.
    let whole = named_whole b c.args.version.now c.loop-level.level (omega arith) in
    let all = c.loop-level.invariant.count b in
    omega arith
