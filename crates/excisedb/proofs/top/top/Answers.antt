use Rattle.std.proofs.Common.{◌≡◌, length, set, sym, subst, refl, ◌∙◌, arith}
use Rattle.std.proofs.lemmas.Bool.{false≢true}
use Rattle.xdb_engine.specs.Files.{AreTold}
use Rattle.excisedb.specs.Devices.{first, devices_seen}
use Rattle.excisedb.specs.Outcome.{Replies}
use Rattle.excisedb.proofs.TopLaws.{usage-ends, reply-ends, are-read, on-first}
use Rattle.excisedb.proofs.top.top.Goals as goal

pub returns-then-not-are_run-clause-ends : goal.returns-then-not-are_run-clause-ends
returns-then-not-are_run-clause-ends g c = usage-ends _ _ _ _ _ _ _ _ (λ e. false≢true (c.if-not-are_run.ensures.1 e)) c.send.ensures.sent

pub returns-in-Ok-reply_to-clause-ends : goal.returns-in-Ok-reply_to-clause-ends
returns-in-Ok-reply_to-clause-ends g c =
    let status = c.in-Ok-reply_to.status in
    let text = c.deref.result.now in
    let devs = c.args.devs.now in
    let count : length devs.items ≡ 16 = sym devs.ok.0 ∙ c.requires.devices in
    let told = AreTold g.D.File.FileRef.bytes in
    let read = are-read (g.S.Source.left c.args.script.now) (g.S.Source.left c.read_up_to.new.source) _ _ c.in-Ok.field-0 c.new-bytes.ensures.items c.in-Ok.ensures.taken c.in-Ok.ensures.grew.0 c.in-Ok.ensures.grew.1 c.in-Ok.ensures.end in
    let own = on-first g.D.Reader.faults g.D.Reader.told told devs.items c.index_mut.result.now c.reply_to.new.dev c.read_up_to.new.out.items status c.in-Ok-reply_to.text.items (omega (arith, count)) c.index_mut.ensures.value c.in-Ok-reply_to.ensures.reply in
    let before = devices_seen g.D.Reader.faults g.D.Reader.told devs.items in
    let after = devices_seen g.D.Reader.faults g.D.Reader.told (set devs.items 0 c.reply_to.new.dev) in
    let replies : Replies told (first before) (first after) c.read_up_to.new.out.items status text = subst (Replies told (first before) (first after) c.read_up_to.new.out.items status) (sym c.deref.ensures.value) own in
    reply-ends told before after status _ _ _ _ _ _ c.read_up_to.new.out.items text (c.if-not-are_run.ensures.0 refl) read replies c.send-in-Ok-reply_to.ensures.sent
