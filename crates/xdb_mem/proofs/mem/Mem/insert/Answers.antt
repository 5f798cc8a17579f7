-- What is left to answer of `insert`.
use Rattle.std.proofs.Common.{◌++◌, length, ap, ◌∙◌, arith}
use Rattle.xdb_mem.specs.Numbered.{numbered, spans}
use Rattle.xdb_mem.proofs.HeldLaws.{stands-from, stands-numbered, stands-small, inserted-ops, inserted-keeps}
use Rattle.xdb_mem.proofs.mem.Mem.insert.Goals as goal

pub put_all-requires-clause-numbers : goal.put_all-requires-clause-numbers
put_all-requires-clause-numbers c =
    let es = c.self.inside.entries.items in
    let stands = stands-from c.args.self.now es c.self.inside.spans c.self.inside.len c.args.first c.args.batch.now c.self.view_is c.self.invariant c.requires.from c.requires.upto c.requires.above in
    rw (c.try_reserve.ensures.items, c.in_ok-entries.ensures, c.ops-ops.ensures.ops) (stands-numbered c.args.self.now es c.self.inside.spans c.self.inside.len c.args.first c.args.batch.now stands)

pub overflow_add-self : goal.overflow_add-self
overflow_add-self c =
    let stands = stands-from c.args.self.now c.self.inside.entries.items c.self.inside.spans c.self.inside.len c.args.first c.args.batch.now c.self.view_is c.self.invariant c.requires.from c.requires.upto c.requires.above in
    let small = stands-small c.args.self.now c.self.inside.entries.items c.self.inside.spans c.self.inside.len c.args.first c.args.batch.now stands in
    omega (arith, small, ap length c.ops-ops.ensures.ops)

pub invariant_of-self-2 : goal.invariant_of-self-2
invariant_of-self-2 c =
    let es = c.self.inside.entries.items in
    let ts = c.self.inside.spans in
    let stands = stands-from c.args.self.now es ts c.self.inside.len c.args.first c.args.batch.now c.self.view_is c.self.invariant c.requires.from c.requires.upto c.requires.above in
    let same = rw (c.try_reserve.ensures.items, c.in_ok-entries.ensures, c.ops-ops.ensures.ops) at c.put_all.ensures.members in
    let more = c.in_ok-append.ensures.added ∙ ap (λ xs. ts ++ xs) (c.in_ok-spans.ensures ∙ ap (λ os. spans (numbered c.args.first os)) c.ops-ops.ensures.ops) in
    rw c.ops-ops.ensures.ops (inserted-keeps c.args.self.now es c.put_all.new.entries.items ts c.append.new.self c.self.inside.len c.args.first c.args.batch.now stands same c.put_all.ensures.order more)

pub returns-clause-added : goal.returns-clause-added
returns-clause-added c =
    let es = c.self.inside.entries.items in
    let ts = c.self.inside.spans in
    let stands = stands-from c.args.self.now es ts c.self.inside.len c.args.first c.args.batch.now c.self.view_is c.self.invariant c.requires.from c.requires.upto c.requires.above in
    let same = rw (c.try_reserve.ensures.items, c.in_ok-entries.ensures, c.ops-ops.ensures.ops) at c.put_all.ensures.members in
    let more = c.in_ok-append.ensures.added ∙ ap (λ xs. ts ++ xs) (c.in_ok-spans.ensures ∙ ap (λ os. spans (numbered c.args.first os)) c.ops-ops.ensures.ops) in
    inserted-ops c.args.self.now es c.put_all.new.entries.items ts c.append.new.self c.self.inside.len c.args.first c.args.batch.now stands same c.put_all.ensures.order more
