use Rattle.std.proofs.Common.{take, arith, ap, ◌∙◌}
use Rattle.std.proofs.lemmas.Result.{on_ok_weaker}
use Rattle.lin_spec.specs.Listing.{listing}
use Rattle.linlist_input.proofs.ReadLaws.{part_front, put_front, whole-listing}
use Rattle.linlist_input.proofs.read_and_list.Goals as goal

pub returns : goal.returns
returns g c =
    let read = c.in_ok-read.ensures in
    on_ok_weaker c.write_all.result
    (whole-listing _ _ _ _ (take c.in_ok-read.read c.read_full.new.buf) c.part-2.result.now read.bytes
    (λ h. read.end (omega (arith, read.bound.1, c.told-text)))
    (c.part-2.ensures ∙ put_front _ _ _ _ c.list_whole-n.ensures ∙ ap listing (c.part.ensures ∙ part_front _ _)))
    c.write_all.ensures.bytes
