-- `lin_host_numbers::names_of` meets its contract: an array of eight words has four spans.
use Rattle.lin_host_numbers.proofs.CodeLaws.{eight}
use borrow.Author.Rules.{rules}
use Rattle.lin_host_numbers.proofs.codes.names_of.Goals as goal

pub returns : goal.returns
returns c = rw (c.span.ensures, c.span-2.ensures, c.span-3.ensures, c.span-4.ensures) (eight _ (search rules))
