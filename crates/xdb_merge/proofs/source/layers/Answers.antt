-- What is left to answer of `layers`.
use Rattle.std.proofs.Common.{◌≡◌, ◌+◌, ◌<◌, length, get_or, take, ◌∷◌, [], ◌++◌, sym, ap, ◌∙◌, subst}
use Rattle.xdb_merge.specs.Layers.{layer, AreSorted}
use Rattle.xdb_merge.specs.Merge.{layers}
use Rattle.xdb_merge.specs.Sources.{AreAlike}
use Rattle.xdb_merge.proofs.LoadLaws.{read_one}
use Rattle.xdb_merge.proofs.SourceLaws.{sorted_mem, alike_mem, alike_more}
use Rattle.xdb_merge.proofs.source.layers.Goals as goal

pub new-requires : goal.new-requires
new-requires g c = subst AreSorted (sym c.entries.ensures.entries) (sorted_mem _ c.entries.ensures.order)

pub loop-source-init : goal.loop-source-init
loop-source-init g c =
    let made : c.push.new.self.items ≡ c.new.result ∷ [] = c.in_ok-push.ensures.items ∙ ap (λ ls. ls ++ c.new.result ∷ []) c.in_ok-made.ensures.items in
    let is : c.new.result ≡ c.args.mem.now = c.new.ensures ∙ ap (λ es. layer es c.spans.result.now) c.entries.ensures.entries ∙ ap (layer c.args.mem.now.entries) c.spans.ensures in
    alike_mem g.row.F.Denot c.args.mem.now c.new.result c.push.new.self.items made is

pub loop-source-preserved : goal.loop-source-preserved
loop-source-preserved g c =
    let ws = c.args.sources.now.items in
    let value : c.deref-source-items.result.now ≡ ws = c.deref-source-items.ensures.value in
    let is : c.source-item.result ≡ get_or ws c.loop-source.source-index c.source-item.result = c.source-item.is ∙ ap (λ xs. get_or xs c.loop-source.source-index c.source-item.result) value in
    let inside : c.loop-source.source-index < length ws = subst (λ xs. c.loop-source.source-index < length xs) value c.loop-source-test.true in
    subst (λ ls. AreAlike ls (layers c.args.mem.now (take (c.loop-source.source-index + 1) ws))) (sym c.in_ok-push-2.ensures.items)
    (alike_more c.args.mem.now ws c.loop-source.source-index c.source-item.result c.loop-source.made.items c.layer.result inside is (read_one ws c.loop-source.source-index c.source-item.result c.requires inside is) c.loop-source.invariant c.layer.ensures)
