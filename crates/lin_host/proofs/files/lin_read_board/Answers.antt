-- `lin_host::lin_read_board` meets its contract: the numbers of the entry's answer, with the same rows and cards.
use mathlib.Core.Path.{ap, ◌∙◌}
use Rattle.lin_spec.specs.File.{Standing, read_step}
use Rattle.lin_host.specs.Files.{read_numbers}
use Rattle.lin_host.proofs.files.lin_read_board.Goals as goal

pub returns : goal.returns
unfolding read_numbers
returns c = let a = c.args in
    rw (c.read_numbers.ensures c.read_board.new.rows c.read_board.new.cards)
    (ap read_numbers (c.read_board.ensures ∙ ap (λ (x : Standing). read_step a.text.now x a.rows.now a.cards.now) c.standing.ensures))
