-- What is left to answer of `group`.
use Rattle.std.proofs.Common.{◌≡◌, ◌+◌, ◌-◌, ◌<◌, ◌≤◌, ◌++◌, [], ◌∷◌, length, Some, sym, ap, ◌∙◌, arith}
use Rattle.std.proofs.lemmas.List.{length_push, get_or_push, get_or_append_left}
use Rattle.xdb_mem.proofs.FindLaws.{ops_in-below, ops_in-behind, ops_in-at, found-in}
use Rattle.xdb_mem.proofs.queue.MemQueue.group.Goals as goal

pub returns-then-g-self : goal.returns-then-g-self
returns-then-g-self c =
    let ms = c.self.inside.sealed.items in
    let a = c.self.inside.active in
    sym (ops_in-below c.args.g c.self.inside.oldest (ms ++ a ∷ []) c.if-g-self.true) ∙ found-in c.args.g c.self.inside.oldest ms a c.self.inside.greatest c.args.self.now c.self.view_is

pub returns-then-at-len : goal.returns-then-at-len
returns-then-at-len c =
    let ms = c.self.inside.sealed.items in
    let a = c.self.inside.active in
    let d = c.index.result.now in
    let i = c.args.g - c.self.inside.oldest in
    let inside : i < length ms = omega (arith, c.if-at-len.true, c.len.ensures, c.self.inside.sealed.ok.0) in
    let more = length_push ms a in
    let number : c.args.g ≡ c.self.inside.oldest + i = omega (arith, c.if-g-self.false) in
    ap Some (c.index.ensures ∙ sym (get_or_append_left ms (a ∷ []) d i inside))
    ∙ sym (ops_in-at c.args.g c.self.inside.oldest i (ms ++ a ∷ []) d number (omega (arith, inside, more)))
    ∙ found-in c.args.g c.self.inside.oldest ms a c.self.inside.greatest c.args.self.now c.self.view_is

pub returns-then-at-len-2 : goal.returns-then-at-len-2
returns-then-at-len-2 c =
    let ms = c.self.inside.sealed.items in
    let a = c.self.inside.active in
    let i = c.args.g - c.self.inside.oldest in
    let last : length ms ≡ i = omega (arith, c.if-at-len-2.true, c.len-2.ensures, c.self.inside.sealed.ok.0) in
    let more = length_push ms a in
    let number : c.args.g ≡ c.self.inside.oldest + i = omega (arith, c.if-g-self.false) in
    ap Some (sym (get_or_push ms a a i last))
    ∙ sym (ops_in-at c.args.g c.self.inside.oldest i (ms ++ a ∷ []) a number (omega (arith, last, more)))
    ∙ found-in c.args.g c.self.inside.oldest ms a c.self.inside.greatest c.args.self.now c.self.view_is

pub returns : goal.returns
returns c =
    let ms = c.self.inside.sealed.items in
    let a = c.self.inside.active in
    let more = length_push ms a in
    let behind : c.self.inside.oldest + length (ms ++ a ∷ []) ≤ c.args.g = omega (arith, more, c.if-g-self.false, c.if-at-len.false, c.if-at-len-2.false, c.len.ensures, c.len-2.ensures, c.self.inside.sealed.ok.0) in
    sym (ops_in-behind c.args.g c.self.inside.oldest (ms ++ a ∷ []) behind) ∙ found-in c.args.g c.self.inside.oldest ms a c.self.inside.greatest c.args.self.now c.self.view_is
