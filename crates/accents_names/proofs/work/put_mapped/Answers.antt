-- `accents_names::work::put_mapped` meets its contract. The loop's invariant: what is left to put is what the rest from i on is mapped to. The measure is what is left of the length.
use Rattle.accents_names.proofs.FillLaws.{char_fits, char_put, chars-end}
use Rattle.accents_names.proofs.work.put_mapped.Goals as goal

pub put_full-n-requires : goal.put_full-n-requires
put_full-n-requires c = char_fits c.args.s.now _ _ _ _ _ _ _ _ c.loop-i.invariant c.char_at-c.ensures c.full_of-f.ensures

pub loop-i-preserved : goal.loop-i-preserved
loop-i-preserved c = char_put c.args.s.now _ _ _ _ _ _ _ _ c.loop-i.invariant c.char_at-c.ensures c.full_of-f.ensures c.put_full-n.ensures

pub returns : goal.returns
returns c = chars-end c.args.s.now _ _ _ _ _ c.loop-i.invariant c.loop-i-test.false
