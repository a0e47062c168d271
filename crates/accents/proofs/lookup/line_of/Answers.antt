-- `accents::lookup::line_of` meets its contract: the line is in its block's part of the table, whose numbers rise.
use native.Mathlib.Omega.{arith}
use Rattle.std.proofs.Common.{◌/◌, ◌≤◌, rules}
use lib.Dec.{ltb}
use Rattle.std.proofs.lemmas.List.Sorted.{IsPartitionPoint-from_clause}
use Rattle.accents.proofs.LineLaws.{halves, halved}
use Rattle.accents.proofs.BlockLaws.{line_in}
use Rattle.accents.proofs.lookup.line_of.Goals as goal

pub returns : goal.returns
returns c =
    let r = line_in _ _ c.block_of.ensures _ c.lines_before-low.ensures.0 in
    let ends : c.min-high.result ≤ 501 = omega (arith, c.min-high.ensures) in
    let p = IsPartitionPoint-from_clause (λ v. ltb (v / 4294967296) c.args.c) _ _ c.partition_point.ensures.partitioned (halves _ c.requires.0 _ _ ends c.args.c) (λ a r f h. search rules) in
    halved _ c.requires.0 _ _ ends _ _ r.0 (omega (arith, r.1, c.min-high.ensures)) c.partition_point.ensures.bound p
