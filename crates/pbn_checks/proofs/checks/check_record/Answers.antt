-- `pbn_checks::check_record` meets its contract: each verdict by the tests that led there.
use Rattle.pbn_checks.proofs.CheckLaws.{check_long, check_other, check_number, check_past, check_ill, check_good}
use Rattle.pbn_checks.proofs.checks.check_record.Goals as goal

pub returns-then-text-gt-LIMIT : goal.returns-then-text-gt-LIMIT
returns-then-text-gt-LIMIT c = check_long _ _ c.args.board _ _ _ c.if-text-gt-LIMIT.true

pub returns-then-other : goal.returns-then-other
returns-then-other c = check_other _ _ c.args.board _ _ _ c.if-text-gt-LIMIT.false c.if-other.true

pub returns-then-bad_record : goal.returns-then-bad_record
returns-then-bad_record c = check_number _ _ c.args.board _ _ _ c.if-text-gt-LIMIT.false c.if-other.false _ c.bad_record.ensures c.if-bad_record.true

pub returns-then-record_past : goal.returns-then-record_past
returns-then-record_past c = check_past _ _ c.args.board _ _ _ c.if-text-gt-LIMIT.false c.if-other.false _ c.bad_record.ensures c.if-bad_record.false _ c.record_past.ensures c.if-record_past.true

pub returns-then-record_ill : goal.returns-then-record_ill
returns-then-record_ill c = check_ill _ _ c.args.board _ _ _ c.if-text-gt-LIMIT.false c.if-other.false _ c.bad_record.ensures c.if-bad_record.false _ c.record_past.ensures c.if-record_past.false _ c.record_ill.ensures c.if-record_ill.true

pub returns : goal.returns
returns c = check_good _ _ c.args.board _ _ _ c.if-text-gt-LIMIT.false c.if-other.false _ c.bad_record.ensures c.if-bad_record.false _ c.record_past.ensures c.if-record_past.false _ c.record_ill.ensures c.if-record_ill.false
