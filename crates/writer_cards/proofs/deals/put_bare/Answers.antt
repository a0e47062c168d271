-- `writer_cards::deals::put_bare` meets its contract: a digit, then the commas.
use mathlib.Core.Path.{refl}
use mathlib.Core.List.{[], ◌∷◌}
use Rattle.lin_spec.specs.Base.{ascii}
use Rattle.lin_spec.specs.Writer.{dealer_digit}
use Rattle.writer_cards.proofs.PutLaws.{put_both}
use Rattle.writer_cards.specs.Hands.{bare_text}
use Rattle.writer_cards.proofs.deals.put_bare.Goals as goal

pub returns : goal.returns
returns c = let q = rw c.dealer_digit.ensures at c.put-a.ensures in
    put_both (bare_text c.args.dealer) (dealer_digit c.args.dealer ∷ []) (ascii ",,,") refl c.requires q c.put_all.ensures
