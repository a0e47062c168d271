-- `pbn_checks::record_faulty` meets its contract: the names, the texts that may be absent, the calls and the notes.
use Rattle.pbn_checks.proofs.CheckLaws.{in_names, in_event, in_date, in_id, in_raws, in_notes}
use Rattle.pbn_checks.proofs.checks.record_faulty.Goals as goal

pub returns-then-names_faulty : goal.returns-then-names_faulty
returns-then-names_faulty c = in_names _ _ c.args.board _ _ _ c.names_faulty.ensures c.if-names_faulty.true

pub returns-then-present_faulty : goal.returns-then-present_faulty
returns-then-present_faulty c = in_event _ _ c.args.board _ _ _ c.names_faulty.ensures c.if-names_faulty.false _ c.present_faulty.ensures c.if-present_faulty.true

pub returns-then-present_faulty-2 : goal.returns-then-present_faulty-2
returns-then-present_faulty-2 c = in_date _ _ c.args.board _ _ _ c.names_faulty.ensures c.if-names_faulty.false _ c.present_faulty.ensures c.if-present_faulty.false _ c.present_faulty-2.ensures c.if-present_faulty-2.true

pub returns-then-present_faulty-3 : goal.returns-then-present_faulty-3
returns-then-present_faulty-3 c = in_id _ _ c.args.board _ _ _ c.names_faulty.ensures c.if-names_faulty.false _ c.present_faulty.ensures c.if-present_faulty.false _ c.present_faulty-2.ensures c.if-present_faulty-2.false _ c.present_faulty-3.ensures c.if-present_faulty-3.true

pub returns-then-raws_faulty : goal.returns-then-raws_faulty
returns-then-raws_faulty c = in_raws _ _ c.args.board _ _ _ c.names_faulty.ensures c.if-names_faulty.false _ c.present_faulty.ensures c.if-present_faulty.false _ c.present_faulty-2.ensures c.if-present_faulty-2.false _ c.present_faulty-3.ensures c.if-present_faulty-3.false _ c.raws_faulty.ensures c.if-raws_faulty.true

pub returns : goal.returns
returns c = in_notes _ _ c.args.board _ _ _ c.names_faulty.ensures c.if-names_faulty.false _ c.present_faulty.ensures c.if-present_faulty.false _ c.present_faulty-2.ensures c.if-present_faulty-2.false _ c.present_faulty-3.ensures c.if-present_faulty-3.false _ c.raws_faulty.ensures c.if-raws_faulty.false _ c.any_note_faulty.ensures
