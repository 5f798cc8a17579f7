use Rattle.std.proofs.Common.{◌≡◌, ◌∙◌, ◌&&◌, ap, sym, drop}
use Rattle.std.proofs.lemmas.Bool.{eq-eqb}
use Rattle.std.proofs.lemmas.List.{take_rest}
use Rattle.std.specs.Ordering.{is_eq}
use Rattle.xdb_key.specs.Order.{key_cmp}
use Rattle.xdb_table_w.specs.Files.{name}
use Rattle.xdb_table_r.specs.Opening.{number_at}
use Rattle.xdb_table_r.proofs.footer.is_ending.Goals as goal

pub returns-then-wide-eq-FORMAT : goal.returns-then-wide-eq-FORMAT
returns-then-wide-eq-FORMAT c =
    let f = c.args.footer.now in
    let is : c.is_eq.result ≡ is_eq (key_cmp (drop 32 f) name) = c.is_eq.ensures ∙ ap is_eq (c.compare.ensures ∙ ap (λ x. key_cmp x name) (take_rest f 32)) in
    is ∙ ap (λ b. b && is_eq (key_cmp (drop 32 f) name)) (sym (eq-eqb (number_at 8 24 f) 1 (sym c.wide.ensures ∙ c.if-wide-eq-FORMAT.true)))
