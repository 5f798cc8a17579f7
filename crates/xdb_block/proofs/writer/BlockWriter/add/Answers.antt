use Rattle.std.proofs.Common.{◌≡◌, ◌∙◌, ◌++◌, ◌∷◌, [], ◌<◌, ◌^◌, ap, length, arith}
use Rattle.xdb_block.specs.Kept.{Draft, draft, rows_in}
use Rattle.xdb_block.specs.Rows.{row}
use Rattle.xdb_block.specs.Spelling.{is_restart, left_out, entry_bytes, offset_of}
use Rattle.xdb_block.proofs.DraftLaws.{goes_on, many}
use Rattle.xdb_block.proofs.EntryLaws.{leaves}
use Rattle.xdb_block.proofs.writer.BlockWriter.add.Goals as goal

pub put_entry-requires : goal.put_entry-requires
put_entry-requires c =
    let l = leaves (is_restart c.self.inside.interval c.self.inside.count) c.deref.result.now c.args.key.now in
    let of_key = l.of_key in
    omega (arith, of_key, c.left_out-shared.ensures)

pub overflow_add-self : goal.overflow_add-self
overflow_add-self c =
    let w = c.self.inside in
    let few = many w.interval (rows_in w.interval w.out.items) w.out.items w.last.items w.restarts.items w.count c.self.invariant in
    let small : length w.out.items < 2 ^ 63 = omega arith in
    omega arith

pub invariant_of-self-2 : goal.invariant_of-self-2
invariant_of-self-2 c =
    let w = c.self.inside in
    let last = c.deref.ensures.value ∙ c.in_ok-try_reserve.ensures.items in
    let shared = c.left_out-shared.ensures ∙ ap (λ l. left_out (is_restart w.interval w.count) l c.args.key.now) last in
    let out = c.in_ok-put_entry.ensures.ok ∙ ap (λ n. w.out.items ++ entry_bytes n (row c.args.key.now c.args.value.now)) shared in
    let at : c.in_ok-at.at ≡ length w.out.items = omega (arith, c.in_ok-at.ensures.place) in
    let os = c.put_offset.ensures ∙ (λ i. c.in_ok-try_reserve-2.ensures.items i ++ offset_of (is_restart w.interval w.count) (at i)) in
    let small_key : length c.args.key.now < 2 ^ 63 = omega arith in
    let small_value : length c.args.value.now < 2 ^ 63 = omega arith in
    (goes_on w.interval w.out.items w.last.items w.restarts.items w.count c.args.key.now c.args.value.now c.put_entry.new.out.items c.replace.new.last.items c.put_offset.new.offsets.items small_key small_value c.self.invariant out c.replace.ensures os).kept

pub returns-clause-added : goal.returns-clause-added
returns-clause-added c =
    let w = c.self.inside in
    let last = c.deref.ensures.value ∙ c.in_ok-try_reserve.ensures.items in
    let shared = c.left_out-shared.ensures ∙ ap (λ l. left_out (is_restart w.interval w.count) l c.args.key.now) last in
    let out = c.in_ok-put_entry.ensures.ok ∙ ap (λ n. w.out.items ++ entry_bytes n (row c.args.key.now c.args.value.now)) shared in
    let at : c.in_ok-at.at ≡ length w.out.items = omega (arith, c.in_ok-at.ensures.place) in
    let os = c.put_offset.ensures ∙ (λ i. c.in_ok-try_reserve-2.ensures.items i ++ offset_of (is_restart w.interval w.count) (at i)) in
    let small_key : length c.args.key.now < 2 ^ 63 = omega arith in
    let small_value : length c.args.value.now < 2 ^ 63 = omega arith in
    let next = goes_on w.interval w.out.items w.last.items w.restarts.items w.count c.args.key.now c.args.value.now c.put_entry.new.out.items c.replace.new.last.items c.put_offset.new.offsets.items small_key small_value c.self.invariant out c.replace.ensures os in
    ap (draft w.interval) next.is ∙ ap (λ (d : Draft). draft d.interval (d.rows ++ row c.args.key.now c.args.value.now ∷ [])) c.self.view_is
