use Rattle.std.proofs.Common.{◌≡◌, ◌-◌, drop, length, ℕ, ◌∙◌, ap, sym, Ok, Result, List, arith}
use Rattle.std.proofs.Math.ListN.{drop_of_length-le}
use Rattle.xdb_key.proofs.ReadingLaws.{AreBytes-drop}
use Rattle.xdb_key.proofs.VarintLaws.{place-after, varint_at-takes}
use Rattle.xdb_key.specs.Varint.{varint, varint_at}
use Rattle.xdb_key.specs.declared.error.VarintNo.{VarintNo}
use Rattle.xdb_key.proofs.varint.get_varint.Goals as goal

pub returns-then-at-bytes-clause-gives : goal.returns-then-at-bytes-clause-gives
unfolding varint_at
returns-then-at-bytes-clause-gives c = ap varint_at (drop_of_length-le c.args.bytes.now {i = c.args.at} (omega arith))

pub returns-clause-gives : goal.returns-clause-gives
returns-clause-gives c =
    let bytes = c.args.bytes.now in
    let n = c.in_ok-n.n in
    let rest = c.in_ok-n.rest.now in
    let read : varint_at (drop c.args.at bytes) ≡ Ok (n, rest) = ap varint_at (sym c.split_at.ensures.back) ∙ c.in_ok-n.ensures.gives in
    let spelled = varint_at-takes (drop c.args.at bytes) rest n (AreBytes-drop c.args.at bytes (λ i. omega (arith, c.type_inv.bytes i))) read in
    let after : drop (length bytes - length rest) bytes ≡ rest = place-after bytes (varint n) rest c.args.at (omega arith) spelled.1 in
    read ∙ ap (λ xs. let r : Result (ℕ × List ℕ) VarintNo = Ok (n, xs) in r) (sym after)
