-- `writer_texts::put_call` meets its contract: a run of puts, each of which takes one piece off what is left to write.
-- what is left to write after k of the puts
use lib.ListN.{drop}
use Rattle.output.specs.Put.{joined}
use Rattle.output.proofs.Laws.{Left, start, roomy, step, finish}
use Rattle.writer_texts.specs.Calls.{call_pieces, call_bytes}
use Rattle.writer_texts.proofs.CallLaws.{call-is}
use Rattle.writer_texts.proofs.calls.put_call.Goals as goal

pub put_all-a-requires : goal.put_all-a-requires
put_all-a-requires c =
    let after-0 : (Left c.args.out.now c.args.at (joined (drop 0 (call_pieces c.args.marks.pipe c.args.marks.line c.args.text.now c.args.c))) c.args.out.now c.args.at (call_bytes c.args.marks.pipe c.args.marks.line c.args.text.now c.args.c)) = rw (← call-is c.args.marks.pipe c.args.marks.line c.args.text.now c.args.c) (start c.requires) in
    roomy _ _ (after-0)

pub put_clean-b-requires : goal.put_clean-b-requires
put_clean-b-requires c =
    let after-0 : (Left c.args.out.now c.args.at (joined (drop 0 (call_pieces c.args.marks.pipe c.args.marks.line c.args.text.now c.args.c))) c.args.out.now c.args.at (call_bytes c.args.marks.pipe c.args.marks.line c.args.text.now c.args.c)) = rw (← call-is c.args.marks.pipe c.args.marks.line c.args.text.now c.args.c) (start c.requires) in
    let after-1 : (Left c.put_all-a.new.out c.put_all-a.result (joined (drop 1 (call_pieces c.args.marks.pipe c.args.marks.line c.args.text.now c.args.c))) c.args.out.now c.args.at (call_bytes c.args.marks.pipe c.args.marks.line c.args.text.now c.args.c)) = step (after-0) c.put_all-a.ensures in
    roomy _ _ (after-1)

pub put_alert-d-requires : goal.put_alert-d-requires
put_alert-d-requires c =
    let after-0 : (Left c.args.out.now c.args.at (joined (drop 0 (call_pieces c.args.marks.pipe c.args.marks.line c.args.text.now c.args.c))) c.args.out.now c.args.at (call_bytes c.args.marks.pipe c.args.marks.line c.args.text.now c.args.c)) = rw (← call-is c.args.marks.pipe c.args.marks.line c.args.text.now c.args.c) (start c.requires) in
    let after-1 : (Left c.put_all-a.new.out c.put_all-a.result (joined (drop 1 (call_pieces c.args.marks.pipe c.args.marks.line c.args.text.now c.args.c))) c.args.out.now c.args.at (call_bytes c.args.marks.pipe c.args.marks.line c.args.text.now c.args.c)) = step (after-0) c.put_all-a.ensures in
    let after-2 : (Left c.put_clean-b.new.out c.put_clean-b.result (joined (drop 2 (call_pieces c.args.marks.pipe c.args.marks.line c.args.text.now c.args.c))) c.args.out.now c.args.at (call_bytes c.args.marks.pipe c.args.marks.line c.args.text.now c.args.c)) = step (after-1) c.put_clean-b.ensures in
    roomy _ _ (after-2)

pub put-e-requires : goal.put-e-requires
put-e-requires c =
    let after-0 : (Left c.args.out.now c.args.at (joined (drop 0 (call_pieces c.args.marks.pipe c.args.marks.line c.args.text.now c.args.c))) c.args.out.now c.args.at (call_bytes c.args.marks.pipe c.args.marks.line c.args.text.now c.args.c)) = rw (← call-is c.args.marks.pipe c.args.marks.line c.args.text.now c.args.c) (start c.requires) in
    let after-1 : (Left c.put_all-a.new.out c.put_all-a.result (joined (drop 1 (call_pieces c.args.marks.pipe c.args.marks.line c.args.text.now c.args.c))) c.args.out.now c.args.at (call_bytes c.args.marks.pipe c.args.marks.line c.args.text.now c.args.c)) = step (after-0) c.put_all-a.ensures in
    let after-2 : (Left c.put_clean-b.new.out c.put_clean-b.result (joined (drop 2 (call_pieces c.args.marks.pipe c.args.marks.line c.args.text.now c.args.c))) c.args.out.now c.args.at (call_bytes c.args.marks.pipe c.args.marks.line c.args.text.now c.args.c)) = step (after-1) c.put_clean-b.ensures in
    let after-3 : (Left c.put_alert-d.new.out c.put_alert-d.result (joined (drop 3 (call_pieces c.args.marks.pipe c.args.marks.line c.args.text.now c.args.c))) c.args.out.now c.args.at (call_bytes c.args.marks.pipe c.args.marks.line c.args.text.now c.args.c)) = step (after-2) c.put_alert-d.ensures in
    roomy _ _ (after-3)

pub put_an-requires : goal.put_an-requires
put_an-requires c =
    let after-0 : (Left c.args.out.now c.args.at (joined (drop 0 (call_pieces c.args.marks.pipe c.args.marks.line c.args.text.now c.args.c))) c.args.out.now c.args.at (call_bytes c.args.marks.pipe c.args.marks.line c.args.text.now c.args.c)) = rw (← call-is c.args.marks.pipe c.args.marks.line c.args.text.now c.args.c) (start c.requires) in
    let after-1 : (Left c.put_all-a.new.out c.put_all-a.result (joined (drop 1 (call_pieces c.args.marks.pipe c.args.marks.line c.args.text.now c.args.c))) c.args.out.now c.args.at (call_bytes c.args.marks.pipe c.args.marks.line c.args.text.now c.args.c)) = step (after-0) c.put_all-a.ensures in
    let after-2 : (Left c.put_clean-b.new.out c.put_clean-b.result (joined (drop 2 (call_pieces c.args.marks.pipe c.args.marks.line c.args.text.now c.args.c))) c.args.out.now c.args.at (call_bytes c.args.marks.pipe c.args.marks.line c.args.text.now c.args.c)) = step (after-1) c.put_clean-b.ensures in
    let after-3 : (Left c.put_alert-d.new.out c.put_alert-d.result (joined (drop 3 (call_pieces c.args.marks.pipe c.args.marks.line c.args.text.now c.args.c))) c.args.out.now c.args.at (call_bytes c.args.marks.pipe c.args.marks.line c.args.text.now c.args.c)) = step (after-2) c.put_alert-d.ensures in
    let after-4 : (Left c.put-e.new.out c.put-e.result (joined (drop 4 (call_pieces c.args.marks.pipe c.args.marks.line c.args.text.now c.args.c))) c.args.out.now c.args.at (call_bytes c.args.marks.pipe c.args.marks.line c.args.text.now c.args.c)) = step (after-3) c.put-e.ensures in
    roomy _ _ (after-4)

pub returns : goal.returns
returns c =
    let after-0 : (Left c.args.out.now c.args.at (joined (drop 0 (call_pieces c.args.marks.pipe c.args.marks.line c.args.text.now c.args.c))) c.args.out.now c.args.at (call_bytes c.args.marks.pipe c.args.marks.line c.args.text.now c.args.c)) = rw (← call-is c.args.marks.pipe c.args.marks.line c.args.text.now c.args.c) (start c.requires) in
    let after-1 : (Left c.put_all-a.new.out c.put_all-a.result (joined (drop 1 (call_pieces c.args.marks.pipe c.args.marks.line c.args.text.now c.args.c))) c.args.out.now c.args.at (call_bytes c.args.marks.pipe c.args.marks.line c.args.text.now c.args.c)) = step (after-0) c.put_all-a.ensures in
    let after-2 : (Left c.put_clean-b.new.out c.put_clean-b.result (joined (drop 2 (call_pieces c.args.marks.pipe c.args.marks.line c.args.text.now c.args.c))) c.args.out.now c.args.at (call_bytes c.args.marks.pipe c.args.marks.line c.args.text.now c.args.c)) = step (after-1) c.put_clean-b.ensures in
    let after-3 : (Left c.put_alert-d.new.out c.put_alert-d.result (joined (drop 3 (call_pieces c.args.marks.pipe c.args.marks.line c.args.text.now c.args.c))) c.args.out.now c.args.at (call_bytes c.args.marks.pipe c.args.marks.line c.args.text.now c.args.c)) = step (after-2) c.put_alert-d.ensures in
    let after-4 : (Left c.put-e.new.out c.put-e.result (joined (drop 4 (call_pieces c.args.marks.pipe c.args.marks.line c.args.text.now c.args.c))) c.args.out.now c.args.at (call_bytes c.args.marks.pipe c.args.marks.line c.args.text.now c.args.c)) = step (after-3) c.put-e.ensures in
    let after-5 : (Left c.put_an.new.out c.put_an.result (joined (drop 5 (call_pieces c.args.marks.pipe c.args.marks.line c.args.text.now c.args.c))) c.args.out.now c.args.at (call_bytes c.args.marks.pipe c.args.marks.line c.args.text.now c.args.c)) = step (after-4) c.put_an.ensures in
    finish (after-5)
