-- `listing_lines::lengths_len` meets its contract: four lengths, each after a space.
use Rattle.listing_lines.proofs.LineLaws.{lengths_long}
use Rattle.listing_lines.specs.Pieces.{field_text}
use Rattle.output.proofs.Laws.{sat-sum}
use Rattle.lin_spec.specs.declared.Seat.TheVariants.{South, West, North, East}
use Rattle.lin_spec.specs.declared.Seat.{Seat}
use Rattle.lin_spec.specs.Refusals.{sat}
use Rattle.lin_spec.specs.Letters.{hand_length}
use lib.ListN.{length}
use mathlib.Core.Path.{ap, sym, ◌∙◌}
use Prim.Native.Nat.{ℕ, ◌+◌}
use Rattle.listing_lines.proofs.words.lengths_len.Goals as goal

pub returns : goal.returns
returns c = let d = c.args.deal.counts in
    let f : Seat → ℕ = λ x. length (field_text (hand_length d x)) in
    let p = sat-sum (f South) (f West) c.length_len-a.ensures c.length_len.ensures c.sat_add-b.ensures in
    let q = sat-sum (f South + f West) (f North) p c.length_len-2.ensures c.sat_add-c.ensures in
    sat-sum (f South + f West + f North) (f East) q c.length_len-3.ensures c.sat_add.ensures ∙ ap (λ (n : ℕ). sat n) (sym (lengths_long d))
