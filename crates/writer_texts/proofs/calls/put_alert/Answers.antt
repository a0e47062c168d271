-- `writer_texts::put_alert` meets its contract: by the flag.
use Rattle.output.proofs.Laws.{start, finish}
use Rattle.writer_texts.proofs.CallLaws.{alert_none}
use Rattle.writer_texts.proofs.calls.put_alert.Goals as goal

pub returns-then-alerted-eq0 : goal.returns-then-alerted-eq0
returns-then-alerted-eq0 c = rw (alert_none _ c.if-alerted-eq0.true) (finish (start (rw (alert_none _ c.if-alerted-eq0.true) at c.requires)))
