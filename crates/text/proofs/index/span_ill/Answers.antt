-- `text::span_ill` meets its contract: by its two ends before the first ill-formed place, else by the index.
use native.Mathlib.Omega.{arith}
use Rattle.text.proofs.IndexLaws.{word_first}
use Rattle.text.proofs.index.span_ill.Goals as goal

pub near_ill-requires : goal.near_ill-requires
near_ill-requires c = (word_first c.args.text.now c.args.next.now c.requires (omega arith), omega arith)
