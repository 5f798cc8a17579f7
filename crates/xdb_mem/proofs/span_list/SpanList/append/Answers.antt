-- What is left to answer of `append`.
use Rattle.std.proofs.Common.{◌≡◌, ◌++◌, length, vec_len, sym, ap, ◌∙◌, arith}
use Rattle.std.proofs.lemmas.Bool.{eqb-true}
use Rattle.std.proofs.lemmas.List.{nil_from_length, append-nil}
use Rattle.xdb_mem.proofs.span_list.SpanList.append.Goals as goal

pub returns-then-is_empty-clause-added : goal.returns-then-is_empty-clause-added
returns-then-is_empty-clause-added c =
    let zero_long : length c.args.more.items ≡ 0 = omega (arith, c.args.more.ok.0, eqb-true (vec_len c.args.more) 0 (sym c.is_empty.ensures ∙ c.if-is_empty.true)) in
    let none = nil_from_length c.args.more.items zero_long in
    sym (ap (λ xs. c.args.self.now ++ xs) none ∙ append-nil c.args.self.now)
