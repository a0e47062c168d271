-- `pbn::convert_counted` meets its contract: refused by the room, or texts, rows and cards put whole, and the heading.
-- what is known before the room is looked at
use mathlib.Core.Path.{refl}
use Prim.Native.Nat.{◌≤◌}
use native.Mathlib.Omega.{arith}
use Rattle.lin_spec.specs.Output.{room}
use Rattle.pbn.proofs.StoreLaws.{Known, output-refused, texts-room, rows-room, stored}
use Rattle.pbn.proofs.entry.convert_counted.Goals as goal

pub returns-then-room-need : goal.returns-then-room-need
returns-then-room-need c =
    let known : (Known c.args.marks.pipe c.args.marks.line c.args.text.now c.args.board c.args.calls.now c.args.plays.now c.args.notes.now c.args.rows.now c.args.cards.now c.args.n c.args.k c.pbn_names-names.result c.sources_of-sources.result c.layout_of-layout.result c.sat_add-need.result) = record {
      counts = c.requires;
      names-are = c.pbn_names-names.ensures;
      sources_are = c.sources_of-sources.ensures;
      layout_is = c.layout_of-layout.ensures;
      need-is = omega (arith, c.pbn_calls_len.ensures, c.sat_add-need.ensures);
    } in
    output-refused (known) c.args.out.now (omega (arith, c.room.ensures, c.if-room-need.true)) _ refl

pub put_texts-len-requires : goal.put_texts-len-requires
put_texts-len-requires c =
    let known : (Known c.args.marks.pipe c.args.marks.line c.args.text.now c.args.board c.args.calls.now c.args.plays.now c.args.notes.now c.args.rows.now c.args.cards.now c.args.n c.args.k c.pbn_names-names.result c.sources_of-sources.result c.layout_of-layout.result c.sat_add-need.result) = record {
      counts = c.requires;
      names-are = c.pbn_names-names.ensures;
      sources_are = c.sources_of-sources.ensures;
      layout_is = c.layout_of-layout.ensures;
      need-is = omega (arith, c.pbn_calls_len.ensures, c.sat_add-need.ensures);
    } in
    let fits : (c.sat_add-need.result ≤ room c.args.out.now) = omega (arith, c.room.ensures, c.if-room-need.false) in
    (texts-room (known) c.args.out.now (fits), c.requires.sound)

pub put_kept_rows-requires : goal.put_kept_rows-requires
put_kept_rows-requires c =
    let known : (Known c.args.marks.pipe c.args.marks.line c.args.text.now c.args.board c.args.calls.now c.args.plays.now c.args.notes.now c.args.rows.now c.args.cards.now c.args.n c.args.k c.pbn_names-names.result c.sources_of-sources.result c.layout_of-layout.result c.sat_add-need.result) = record {
      counts = c.requires;
      names-are = c.pbn_names-names.ensures;
      sources_are = c.sources_of-sources.ensures;
      layout_is = c.layout_of-layout.ensures;
      need-is = omega (arith, c.pbn_calls_len.ensures, c.sat_add-need.ensures);
    } in
    let fits : (c.sat_add-need.result ≤ room c.args.out.now) = omega (arith, c.room.ensures, c.if-room-need.false) in
    rows-room (known) c.args.out.now (fits)

pub returns : goal.returns
returns c =
    let known : (Known c.args.marks.pipe c.args.marks.line c.args.text.now c.args.board c.args.calls.now c.args.plays.now c.args.notes.now c.args.rows.now c.args.cards.now c.args.n c.args.k c.pbn_names-names.result c.sources_of-sources.result c.layout_of-layout.result c.sat_add-need.result) = record {
      counts = c.requires;
      names-are = c.pbn_names-names.ensures;
      sources_are = c.sources_of-sources.ensures;
      layout_is = c.layout_of-layout.ensures;
      need-is = omega (arith, c.pbn_calls_len.ensures, c.sat_add-need.ensures);
    } in
    let fits : (c.sat_add-need.result ≤ room c.args.out.now) = omega (arith, c.room.ensures, c.if-room-need.false) in
    stored (known) c.args.out.now (fits) c.put_texts-len.ensures c.put_kept_rows.ensures c.put_kept_cards.ensures _ c.made_heading-heading.ensures
