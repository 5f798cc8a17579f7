-- One table more.
use Rattle.std.proofs.Common.{◌≡◌, ◌+◌, ℕ, cond, eqb, get_or, take, ◌∙◌, sym, ap, arith}
use Rattle.std.proofs.lemmas.Bool.{eq-eqb, cond-true}
use Rattle.std.proofs.lemmas.List.Sums.{sum_by_more, sum_by_more_le}
use Rattle.xdb_meta.specs.Table.{Table}
use Rattle.xdb_vset.specs.Counts.{named_in}
use Rattle.xdb_vset.specs.FileLists.{FileLists}
use Rattle.xdb_vset.proofs.files.Files.lower_all.Goals as goal

pub lower-requires : goal.lower-requires
lower-requires g c =
    let ts = c.args.tables.now in
    let i = c.loop-table.table-index in
    let t = c.table-item.result in
    let num = c.backing.result in
    let same : (get_or ts i t).backing ≡ num = ap (λ (x : Table). x.backing) (sym c.table-item.is) ∙ sym c.backing.ensures.backing in
    let top = sum_by_more_le (λ (x : Table). cond {A = ℕ} (eqb num x.backing) 1 0) ts i t c.loop-table-test.true in
    let one : cond {A = ℕ} (eqb num (get_or ts i t).backing) 1 0 ≡ 1 = cond-true {A = ℕ} (eqb num (get_or ts i t).backing) 1 0 (eq-eqb num (get_or ts i t).backing (sym same)) in
    let before = c.loop-table.invariant.count num in
    let enough = c.requires num in
    omega arith

pub loop-table-preserved : goal.loop-table-preserved
loop-table-preserved g c =
    let ts = c.args.tables.now in
    let i = c.loop-table.table-index in
    let t = c.table-item.result in
    let num = c.backing.result in
    let inv = c.loop-table.invariant in
    let same : (get_or ts i t).backing ≡ num = ap (λ (x : Table). x.backing) (sym c.table-item.is) ∙ sym c.backing.ensures.backing in
    record {
      count = λ b.
          let more : named_in b (take (i + 1) ts) ≡ named_in b (take i ts) + cond {A = ℕ} (eqb b num) 1 0 = sum_by_more (λ (x : Table). cond {A = ℕ} (eqb b x.backing) 1 0) ts i t c.loop-table-test.true ∙ ap (λ n. named_in b (take i ts) + cond {A = ℕ} (eqb b n) 1 0) same in
          let less = c.lower.ensures.count b in
          let before = inv.count b in
          omega arith;
      kept = λ files h. c.lower.ensures.kept files (inv.kept files h);
      rest = c.lower.ensures.rest ∙ ap (λ (f : FileLists g.row.F.Denot). record f { named = c.lower.new.self.named; dead = c.lower.new.self.dead }) inv.rest;
    }
