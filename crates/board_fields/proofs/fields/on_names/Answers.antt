-- `board_fields::on_names` meets its contract: the pieces of the value.
use mathlib.Core.Path.{ap, ◌∙◌}
use mathlib.Core.List.{List}
use Prim.Native.Nat.{ℕ}
use Rattle.lin_spec.specs.Tokens.{cut}
use Rattle.board_fields.specs.Fields.{names_from}
use Rattle.board_fields.proofs.FieldLaws.{changed, names-by, value-end}
use Rattle.board_fields.proofs.fields.on_names.Goals as goal

pub split_names-requires : goal.split_names-requires
split_names-requires c = value-end c.args.text.now c.args.v _ c.requires.0 c.requires.1 c.shown.ensures

pub returns : goal.returns
returns c = let a = c.args in
    changed a.on _ _ c.if-not-on.false-raw (c.split_names.ensures ∙ ap (λ (x : List ℕ). names_from a.v.start 0 (cut 0x2C x) a.old) c.shown.ensures ∙ names-by a.text.now a.v 0 _ a.old)
