-- `text::same_at` meets its contract: the bytes are compared, or the next place where the texts differ decides.
use Prim.Native.Nat.{◌+◌, ◌*◌, ◌-◌, ◌/◌}
use native.Mathlib.Omega.{arith}
use mathlib.Core.Path.{refl}
use lib.ListN.{length}
use Rattle.text.proofs.ApartLaws.{looked_up, by_place, block_differs, block_same, word-here, word_next}
use Rattle.text.proofs.apart.same_at.Goals as goal

pub returns-then-start-here : goal.returns-then-start-here
returns-then-start-here c = let q = looked_up c.args.start c.args.end (length c.args.a.now) (length c.args.b.now) (length c.args.next.now) c.if-len-over.false in
    by_place c.args.a.now c.args.b.now c.args.start c.args.end c.requires.1 q.1 q.2 _ (word-here c.args.a.now c.args.b.now c.args.next.now c.requires.0 c.args.start (omega (arith, q.3)) c.if-start-here.true)

pub returns-then-not-same_bytes : goal.returns-then-not-same_bytes
returns-then-not-same_bytes c = let q = looked_up c.args.start c.args.end (length c.args.a.now) (length c.args.b.now) (length c.args.next.now) c.if-len-over.false in
    block_differs c.args.a.now c.args.b.now c.args.start c.args.end c.requires.1 q.1 q.2 ((c.args.start / 1024 + 1) * 1024 - c.args.start) (omega (arith, q.0)) _ (rw (c.part-2.ensures, c.part-3.ensures) at c.same_bytes-2.ensures) c.if-not-same_bytes.true

pub returns : goal.returns
returns c = let q = looked_up c.args.start c.args.end (length c.args.a.now) (length c.args.b.now) (length c.args.next.now) c.if-len-over.false in
    let m = block_same c.args.a.now c.args.b.now c.args.start c.args.end c.requires.1 q.1 q.2 ((c.args.start / 1024 + 1) * 1024 - c.args.start) (omega (arith, q.0)) _ (rw (c.part-2.ensures, c.part-3.ensures) at c.same_bytes-2.ensures) c.if-not-same_bytes.false in
    by_place c.args.a.now c.args.b.now c.args.start c.args.end c.requires.1 q.1 q.2 _ (word_next c.args.a.now c.args.b.now c.args.next.now c.requires.0 c.args.start q.3 _ refl m)
