-- `pbn_texts::label_len` meets its contract: by the kind of label.
use native.Mathlib.Omega.{arith}
use mathlib.Core.Path.{◌≡◌, ap}
use Rattle.pbn_texts.specs.declared.sources.Label.TheVariants.{Id, Number}
use lib.ListN.{length}
use Rattle.pbn_texts.proofs.TextLaws.{bytes_most, ten_digits}
use borrow.Author.Rules.{rules}
use Rattle.pbn_texts.proofs.texts.label_len.Goals as goal

pub returns-in-Some-Id : goal.returns-in-Some-Id
returns-in-Some-Id c = rw (c.in-Some-Id.is, label_is) (let e = ap length c.shown.ensures in (e, omega (arith, e, bytes_most c.args.text.now c.in-Some-Id.x)))
  where
    label_is : c.in-Some-Id.field-0 ≡ Id c.in-Some-Id.x
    label_is = rw c.in-Some-Id.is at c.in-Some-Id.field-0-is

pub returns-in-Some-Number : goal.returns-in-Some-Number
returns-in-Some-Number c = rw (c.in-Some-Number.is, label_is) (c.decimal_len.ensures, omega (arith, c.decimal_len.ensures, ten_digits c.in-Some-Number.n (search rules)))
  where
    label_is : c.in-Some-Number.field-0 ≡ Number c.in-Some-Number.n
    label_is = rw c.in-Some-Number.is at c.in-Some-Number.field-0-is
