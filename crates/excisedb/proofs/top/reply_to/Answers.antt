-- What was read of the bytes, and what belongs to it.
use Rattle.std.proofs.Common.{Err, ap, ◌∙◌, subst}
use Rattle.std.proofs.lemmas.Result.{IfOk-weaker}
use Rattle.xdb_engine.specs.Files.{AreTold}
use Rattle.xdb_script.specs.Defects.{script_read}
use Rattle.excisedb.specs.Devices.{device_seen}
use Rattle.excisedb.specs.Outcome.{Replies, RepliesTo}
use Rattle.excisedb.specs.declared.status.Status.TheVariants.{Script}
use Rattle.xdb_script.specs.declared.form.ScriptForm.TheVariants.{Run}
use Rattle.excisedb.proofs.TopLaws.{replies-to, read-refused, replies-refused}
use Rattle.excisedb.proofs.top.reply_to.Goals as goal

pub returns-in-Ok-clause-reply : goal.returns-in-Ok-clause-reply
returns-in-Ok-clause-reply g c =
    let told = AreTold g.D.File.FileRef.bytes in
    let dev = device_seen g.D.Reader.faults g.D.Reader.told c.args.dev.now in
    let dev' = device_seen g.D.Reader.faults g.D.Reader.told c.reply_to_script.new.dev in
    IfOk-weaker c.reply_to_script.result (λ reply. RepliesTo told dev dev' c.in-Ok.script reply.0 reply.1.items) (λ reply. Replies told dev dev' c.args.bytes.items reply.0 reply.1.items)
    (λ reply h. subst (λ bytes. Replies told dev dev' bytes reply.0 reply.1.items) c.deref.ensures.value (replies-to told dev dev' c.deref.result.now c.in-Ok.script reply.0 reply.1.items c.in-Ok.ensures.answers c.in-Ok.ensures.found h)) c.reply_to_script.ensures.reply

pub returns-in-Err-BadLine-clause-reply : goal.returns-in-Err-BadLine-clause-reply
returns-in-Err-BadLine-clause-reply g c =
    let told = AreTold g.D.File.FileRef.bytes in
    let dev = device_seen g.D.Reader.faults g.D.Reader.told c.args.dev.now in
    let bad = c.in-Err-BadLine in
    let read = read-refused c.parse.result (script_read Run c.deref.result.now) bad.line bad.why c.parse.ensures.answers (bad.is ∙ ap Err bad.field-0-is) in
    subst (λ bytes. Replies told dev dev bytes Script c.in_ok-text-in-Err-BadLine.text.items) c.deref.ensures.value
    (replies-refused told dev dev c.deref.result.now bad.line bad.why c.in_ok-text-in-Err-BadLine.text.items read c.in_ok-text-in-Err-BadLine.ensures)
