-- One file more is brought.
use Rattle.std.proofs.Common.{◌||◌, ◌∙◌, ℕ, Some, cond, eqb, sym, ap, arith}
use Rattle.std.proofs.lemmas.List.{length_push}
use Rattle.xdb_lists.specs.Numbers.{is_among}
use Rattle.xdb_vset.specs.Backings.{file_in}
use Rattle.xdb_vset.specs.FileLists.{FileLists}
use Rattle.xdb_vset.proofs.FileLaws.{file_from_push, names_pushed}
use Rattle.xdb_vset.proofs.files.Files.add_all.Goals as goal

pub loop-num-preserved : goal.loop-num-preserved
loop-num-preserved g c =
    let inv = c.loop-num.invariant in
    let one : ℕ × _ = (c.in-Some.num, c.in-Some.file) in
    let long = length_push c.loop-num.yielded one in
    let less = c.add.ensures.spare in
    let before = inv.spare in
    let next = c.add.new.self in
    record {
      known = λ n. c.add.ensures.known n ∙ ap (λ t. eqb n c.in-Some.num || t) (inv.known n) ∙ names_pushed c.loop-num.yielded one n (is_among n c.args.self.now.known);
      count = λ b. c.add.ensures.count b ∙ inv.count b;
      file = λ b. c.add.ensures.file b ∙ ap (cond (eqb b c.in-Some.num) (Some c.in-Some.file)) (inv.file b) ∙ sym (file_from_push c.loop-num.yielded one b (file_in b c.args.self.now.named));
      spare = omega arith;
      rest = c.add.ensures.rest ∙ ap (λ (f : FileLists g.row.F.Denot). record f { named = next.named; known = next.known; dead = next.dead; spare = next.spare }) inv.rest;
    }
