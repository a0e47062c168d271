-- `pbn_texts::put_kept_cards` meets its contract: a turn takes one entry off those that are left to store.
use lib.ListN.{drop}
use Rattle.lin_spec.specs.Pbn.{kept_cards}
use Rattle.output.proofs.Laws.{Left}
use Rattle.pbn_texts.proofs.calls.put_kept_cards.Given as goal

abbrev pub invariant-loop-b : goal.invariant-loop-b
invariant-loop-b l = Left l.cards l.n (kept_cards (drop l.b-index l.plays)) l.initial.cards 0 (kept_cards l.plays)
