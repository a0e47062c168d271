-- `pbn_texts::layout_of` meets its contract: each text begins where the one before it ends, and no text is longer than the limit lets it be.
-- the names and the title, by how many bytes they have
use Prim.Native.Nat.{◌+◌, ◌*◌, ◌≤◌}
use native.Mathlib.Omega.{arith}
use mathlib.Core.Path.{◌≡◌, ◌∙◌, ap}
use Rattle.std.specs.Prelude.{not}
use lib.ListN.{length, get_or}
use Rattle.lin_spec.specs.Records.{span}
use Rattle.pbn_texts.specs.Texts.{title_text}
use Rattle.pbn_texts.specs.Names.{pbn_names_text}
use Rattle.pbn_texts.proofs.TextLaws.{title_most}
use Rattle.pbn_texts.proofs.NameLaws.{names-end, names_most}
use Rattle.pbn_texts.proofs.LayoutLaws.{layout_plain, layout_labelled}
use borrow.Author.Rules.{rules}
use Rattle.pbn_texts.proofs.layout.layout_of.Goals as goal

pub overflow_add-title : goal.overflow_add-title
overflow_add-title c =
    let title-at : (((get_or c.name_spans-spans.result 3 (span 0 0))).start + ((get_or c.name_spans-spans.result 3 (span 0 0))).len ≡ (length (pbn_names_text c.args.marks.pipe c.args.marks.line c.args.text.now c.args.names))) × ((length (pbn_names_text c.args.marks.pipe c.args.marks.line c.args.text.now c.args.names)) ≤ 4 * length c.args.text.now) = let a = c.args in
    (names-end a.marks.pipe a.marks.line a.text.now a.names (search rules) _ c.name_spans-spans.ensures, names_most a.marks.pipe a.marks.line a.text.now a.names (search rules)) in
    let z = title-at in omega (arith, z.0, z.1, c.requires)

pub overflow_cast-room_board : goal.overflow_cast-room_board
overflow_cast-room_board c =
    let title-at : (((get_or c.name_spans-spans.result 3 (span 0 0))).start + ((get_or c.name_spans-spans.result 3 (span 0 0))).len ≡ (length (pbn_names_text c.args.marks.pipe c.args.marks.line c.args.text.now c.args.names))) × ((length (pbn_names_text c.args.marks.pipe c.args.marks.line c.args.text.now c.args.names)) ≤ 4 * length c.args.text.now) = let a = c.args in
    (names-end a.marks.pipe a.marks.line a.text.now a.names (search rules) _ c.name_spans-spans.ensures, names_most a.marks.pipe a.marks.line a.text.now a.names (search rules)) in
    let room_at : (c.title_len.result ≡ (length (title_text c.args.text.now c.args.sources.event c.args.sources.date))) × (((get_or c.name_spans-spans.result 3 (span 0 0))).start + ((get_or c.name_spans-spans.result 3 (span 0 0))).len ≡ (length (pbn_names_text c.args.marks.pipe c.args.marks.line c.args.text.now c.args.names))) × ((length (pbn_names_text c.args.marks.pipe c.args.marks.line c.args.text.now c.args.names)) + (length (title_text c.args.text.now c.args.sources.event c.args.sources.date)) ≤ 6291459) = let a = c.args in
    let z = title-at in
    let m = title_most a.text.now a.sources.event a.sources.date in
    (omega (arith, m, c.title_len.ensures, c.requires), z.0, omega (arith, z.1, m, c.requires)) in
    let z = room_at in omega (arith, z.0, z.2)

pub overflow_add-room_board : goal.overflow_add-room_board
overflow_add-room_board c =
    let title-at : (((get_or c.name_spans-spans.result 3 (span 0 0))).start + ((get_or c.name_spans-spans.result 3 (span 0 0))).len ≡ (length (pbn_names_text c.args.marks.pipe c.args.marks.line c.args.text.now c.args.names))) × ((length (pbn_names_text c.args.marks.pipe c.args.marks.line c.args.text.now c.args.names)) ≤ 4 * length c.args.text.now) = let a = c.args in
    (names-end a.marks.pipe a.marks.line a.text.now a.names (search rules) _ c.name_spans-spans.ensures, names_most a.marks.pipe a.marks.line a.text.now a.names (search rules)) in
    let room_at : (c.title_len.result ≡ (length (title_text c.args.text.now c.args.sources.event c.args.sources.date))) × (((get_or c.name_spans-spans.result 3 (span 0 0))).start + ((get_or c.name_spans-spans.result 3 (span 0 0))).len ≡ (length (pbn_names_text c.args.marks.pipe c.args.marks.line c.args.text.now c.args.names))) × ((length (pbn_names_text c.args.marks.pipe c.args.marks.line c.args.text.now c.args.names)) + (length (title_text c.args.text.now c.args.sources.event c.args.sources.date)) ≤ 6291459) = let a = c.args in
    let z = title-at in
    let m = title_most a.text.now a.sources.event a.sources.date in
    (omega (arith, m, c.title_len.ensures, c.requires), z.0, omega (arith, z.1, m, c.requires)) in
    let z = room_at in omega (arith, z.0, z.1, z.2)

pub returns-then-is_none : goal.returns-then-is_none
returns-then-is_none c =
    let title-at : (((get_or c.name_spans-spans.result 3 (span 0 0))).start + ((get_or c.name_spans-spans.result 3 (span 0 0))).len ≡ (length (pbn_names_text c.args.marks.pipe c.args.marks.line c.args.text.now c.args.names))) × ((length (pbn_names_text c.args.marks.pipe c.args.marks.line c.args.text.now c.args.names)) ≤ 4 * length c.args.text.now) = let a = c.args in
    (names-end a.marks.pipe a.marks.line a.text.now a.names (search rules) _ c.name_spans-spans.ensures, names_most a.marks.pipe a.marks.line a.text.now a.names (search rules)) in
    let room_at : (c.title_len.result ≡ (length (title_text c.args.text.now c.args.sources.event c.args.sources.date))) × (((get_or c.name_spans-spans.result 3 (span 0 0))).start + ((get_or c.name_spans-spans.result 3 (span 0 0))).len ≡ (length (pbn_names_text c.args.marks.pipe c.args.marks.line c.args.text.now c.args.names))) × ((length (pbn_names_text c.args.marks.pipe c.args.marks.line c.args.text.now c.args.names)) + (length (title_text c.args.text.now c.args.sources.event c.args.sources.date)) ≤ 6291459) = let a = c.args in
    let z = title-at in
    let m = title_most a.text.now a.sources.event a.sources.date in
    (omega (arith, m, c.title_len.ensures, c.requires), z.0, omega (arith, z.1, m, c.requires)) in
    let a = c.args in
    let z = room_at in
    layout_plain a.marks.pipe a.marks.line a.text.now a.names a.sources _ c.name_spans-spans.ensures _ z.1 _ (omega (arith, z.0)) (c.is_none.ensures ∙ ap not c.if-is_none.true)

pub overflow_add-header : goal.overflow_add-header
overflow_add-header c =
    let title-at : (((get_or c.name_spans-spans.result 3 (span 0 0))).start + ((get_or c.name_spans-spans.result 3 (span 0 0))).len ≡ (length (pbn_names_text c.args.marks.pipe c.args.marks.line c.args.text.now c.args.names))) × ((length (pbn_names_text c.args.marks.pipe c.args.marks.line c.args.text.now c.args.names)) ≤ 4 * length c.args.text.now) = let a = c.args in
    (names-end a.marks.pipe a.marks.line a.text.now a.names (search rules) _ c.name_spans-spans.ensures, names_most a.marks.pipe a.marks.line a.text.now a.names (search rules)) in
    let room_at : (c.title_len.result ≡ (length (title_text c.args.text.now c.args.sources.event c.args.sources.date))) × (((get_or c.name_spans-spans.result 3 (span 0 0))).start + ((get_or c.name_spans-spans.result 3 (span 0 0))).len ≡ (length (pbn_names_text c.args.marks.pipe c.args.marks.line c.args.text.now c.args.names))) × ((length (pbn_names_text c.args.marks.pipe c.args.marks.line c.args.text.now c.args.names)) + (length (title_text c.args.text.now c.args.sources.event c.args.sources.date)) ≤ 6291459) = let a = c.args in
    let z = title-at in
    let m = title_most a.text.now a.sources.event a.sources.date in
    (omega (arith, m, c.title_len.ensures, c.requires), z.0, omega (arith, z.1, m, c.requires)) in
    let z = room_at in omega (arith, z.0, z.1, z.2)

pub overflow_add-header-2 : goal.overflow_add-header-2
overflow_add-header-2 c =
    let title-at : (((get_or c.name_spans-spans.result 3 (span 0 0))).start + ((get_or c.name_spans-spans.result 3 (span 0 0))).len ≡ (length (pbn_names_text c.args.marks.pipe c.args.marks.line c.args.text.now c.args.names))) × ((length (pbn_names_text c.args.marks.pipe c.args.marks.line c.args.text.now c.args.names)) ≤ 4 * length c.args.text.now) = let a = c.args in
    (names-end a.marks.pipe a.marks.line a.text.now a.names (search rules) _ c.name_spans-spans.ensures, names_most a.marks.pipe a.marks.line a.text.now a.names (search rules)) in
    let room_at : (c.title_len.result ≡ (length (title_text c.args.text.now c.args.sources.event c.args.sources.date))) × (((get_or c.name_spans-spans.result 3 (span 0 0))).start + ((get_or c.name_spans-spans.result 3 (span 0 0))).len ≡ (length (pbn_names_text c.args.marks.pipe c.args.marks.line c.args.text.now c.args.names))) × ((length (pbn_names_text c.args.marks.pipe c.args.marks.line c.args.text.now c.args.names)) + (length (title_text c.args.text.now c.args.sources.event c.args.sources.date)) ≤ 6291459) = let a = c.args in
    let z = title-at in
    let m = title_most a.text.now a.sources.event a.sources.date in
    (omega (arith, m, c.title_len.ensures, c.requires), z.0, omega (arith, z.1, m, c.requires)) in
    let z = room_at in omega (arith, z.0, z.1, z.2, c.label_len-n.ensures.1, c.requires)

pub overflow_add-header-3 : goal.overflow_add-header-3
overflow_add-header-3 c =
    let title-at : (((get_or c.name_spans-spans.result 3 (span 0 0))).start + ((get_or c.name_spans-spans.result 3 (span 0 0))).len ≡ (length (pbn_names_text c.args.marks.pipe c.args.marks.line c.args.text.now c.args.names))) × ((length (pbn_names_text c.args.marks.pipe c.args.marks.line c.args.text.now c.args.names)) ≤ 4 * length c.args.text.now) = let a = c.args in
    (names-end a.marks.pipe a.marks.line a.text.now a.names (search rules) _ c.name_spans-spans.ensures, names_most a.marks.pipe a.marks.line a.text.now a.names (search rules)) in
    let room_at : (c.title_len.result ≡ (length (title_text c.args.text.now c.args.sources.event c.args.sources.date))) × (((get_or c.name_spans-spans.result 3 (span 0 0))).start + ((get_or c.name_spans-spans.result 3 (span 0 0))).len ≡ (length (pbn_names_text c.args.marks.pipe c.args.marks.line c.args.text.now c.args.names))) × ((length (pbn_names_text c.args.marks.pipe c.args.marks.line c.args.text.now c.args.names)) + (length (title_text c.args.text.now c.args.sources.event c.args.sources.date)) ≤ 6291459) = let a = c.args in
    let z = title-at in
    let m = title_most a.text.now a.sources.event a.sources.date in
    (omega (arith, m, c.title_len.ensures, c.requires), z.0, omega (arith, z.1, m, c.requires)) in
    let z = room_at in omega (arith, z.0, z.1, z.2, c.label_len-n.ensures.1, c.requires)

pub overflow_add-calls : goal.overflow_add-calls
overflow_add-calls c =
    let title-at : (((get_or c.name_spans-spans.result 3 (span 0 0))).start + ((get_or c.name_spans-spans.result 3 (span 0 0))).len ≡ (length (pbn_names_text c.args.marks.pipe c.args.marks.line c.args.text.now c.args.names))) × ((length (pbn_names_text c.args.marks.pipe c.args.marks.line c.args.text.now c.args.names)) ≤ 4 * length c.args.text.now) = let a = c.args in
    (names-end a.marks.pipe a.marks.line a.text.now a.names (search rules) _ c.name_spans-spans.ensures, names_most a.marks.pipe a.marks.line a.text.now a.names (search rules)) in
    let room_at : (c.title_len.result ≡ (length (title_text c.args.text.now c.args.sources.event c.args.sources.date))) × (((get_or c.name_spans-spans.result 3 (span 0 0))).start + ((get_or c.name_spans-spans.result 3 (span 0 0))).len ≡ (length (pbn_names_text c.args.marks.pipe c.args.marks.line c.args.text.now c.args.names))) × ((length (pbn_names_text c.args.marks.pipe c.args.marks.line c.args.text.now c.args.names)) + (length (title_text c.args.text.now c.args.sources.event c.args.sources.date)) ≤ 6291459) = let a = c.args in
    let z = title-at in
    let m = title_most a.text.now a.sources.event a.sources.date in
    (omega (arith, m, c.title_len.ensures, c.requires), z.0, omega (arith, z.1, m, c.requires)) in
    let z = room_at in omega (arith, z.0, z.1, z.2, c.label_len-n.ensures.1, c.requires)

pub overflow_add-calls-2 : goal.overflow_add-calls-2
overflow_add-calls-2 c =
    let title-at : (((get_or c.name_spans-spans.result 3 (span 0 0))).start + ((get_or c.name_spans-spans.result 3 (span 0 0))).len ≡ (length (pbn_names_text c.args.marks.pipe c.args.marks.line c.args.text.now c.args.names))) × ((length (pbn_names_text c.args.marks.pipe c.args.marks.line c.args.text.now c.args.names)) ≤ 4 * length c.args.text.now) = let a = c.args in
    (names-end a.marks.pipe a.marks.line a.text.now a.names (search rules) _ c.name_spans-spans.ensures, names_most a.marks.pipe a.marks.line a.text.now a.names (search rules)) in
    let room_at : (c.title_len.result ≡ (length (title_text c.args.text.now c.args.sources.event c.args.sources.date))) × (((get_or c.name_spans-spans.result 3 (span 0 0))).start + ((get_or c.name_spans-spans.result 3 (span 0 0))).len ≡ (length (pbn_names_text c.args.marks.pipe c.args.marks.line c.args.text.now c.args.names))) × ((length (pbn_names_text c.args.marks.pipe c.args.marks.line c.args.text.now c.args.names)) + (length (title_text c.args.text.now c.args.sources.event c.args.sources.date)) ≤ 6291459) = let a = c.args in
    let z = title-at in
    let m = title_most a.text.now a.sources.event a.sources.date in
    (omega (arith, m, c.title_len.ensures, c.requires), z.0, omega (arith, z.1, m, c.requires)) in
    let z = room_at in omega (arith, z.0, z.1, z.2, c.label_len-n.ensures.1, c.requires)

pub returns : goal.returns
returns c =
    let title-at : (((get_or c.name_spans-spans.result 3 (span 0 0))).start + ((get_or c.name_spans-spans.result 3 (span 0 0))).len ≡ (length (pbn_names_text c.args.marks.pipe c.args.marks.line c.args.text.now c.args.names))) × ((length (pbn_names_text c.args.marks.pipe c.args.marks.line c.args.text.now c.args.names)) ≤ 4 * length c.args.text.now) = let a = c.args in
    (names-end a.marks.pipe a.marks.line a.text.now a.names (search rules) _ c.name_spans-spans.ensures, names_most a.marks.pipe a.marks.line a.text.now a.names (search rules)) in
    let room_at : (c.title_len.result ≡ (length (title_text c.args.text.now c.args.sources.event c.args.sources.date))) × (((get_or c.name_spans-spans.result 3 (span 0 0))).start + ((get_or c.name_spans-spans.result 3 (span 0 0))).len ≡ (length (pbn_names_text c.args.marks.pipe c.args.marks.line c.args.text.now c.args.names))) × ((length (pbn_names_text c.args.marks.pipe c.args.marks.line c.args.text.now c.args.names)) + (length (title_text c.args.text.now c.args.sources.event c.args.sources.date)) ≤ 6291459) = let a = c.args in
    let z = title-at in
    let m = title_most a.text.now a.sources.event a.sources.date in
    (omega (arith, m, c.title_len.ensures, c.requires), z.0, omega (arith, z.1, m, c.requires)) in
    let a = c.args in
    let z = room_at in
    layout_labelled a.marks.pipe a.marks.line a.text.now a.names a.sources _ c.name_spans-spans.ensures _ z.1 _ (omega (arith, z.0)) (c.is_none.ensures ∙ ap not c.if-is_none.false) c.label_len-n.result c.label_len-n.ensures.0
