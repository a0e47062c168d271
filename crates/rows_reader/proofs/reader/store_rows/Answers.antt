-- `rows_reader::store_rows` meets its contract: a turn stores one call more.
use Prim.Native.Nat.{◌<◌}
use native.Mathlib.Omega.{arith}
use mathlib.Core.Path.{ap, ◌∙◌}
use mathlib.Core.List.{List, ◌++◌, map}
use lib.ListN.{take, drop, length-map, length-take}
use Rattle.rows.specs.declared.CallRow.{CallRow}
use Rattle.rows.specs.Rows.{row_in}
use Rattle.board_loop.specs.Head.{board_at}
use Rattle.rows_reader.proofs.ReaderLaws.{store-start, store-more, store-end, laid-part}
use Rattle.rows_reader.proofs.reader.store_rows.Goals as goal

pub loop-row-init : goal.loop-row-init
loop-row-init c = store-start _ _ _ _

pub loop-row-preserved : goal.loop-row-preserved
loop-row-preserved c =
    let a = c.args in
    let l = c.loop-row in
    let within : l.row-index < a.n = omega (arith, l.row-index, c.loop-row-test.true, length-take a.n a.rows.now) in
    store-more _ _ _ _ _ _ _ l.invariant c.requires.1 within _ c.next_row-next.ensures

pub returns : goal.returns
returns c =
    let a = c.args in
    let calls = take a.n (board_at (take a.stop a.text.now) a.start).calls in
    ap (λ (l : List CallRow). l ++ drop a.n a.rows.now) (store-end _ _ _ _ _ _ _ c.loop-row.invariant c.requires.1 (omega (arith, c.requires.0, length-take a.n a.rows.now)))
    ∙ laid-part a.n (map row_in calls) a.rows.now (omega (arith, length-map calls row_in, length-take a.n (board_at (take a.stop a.text.now) a.start).calls))
