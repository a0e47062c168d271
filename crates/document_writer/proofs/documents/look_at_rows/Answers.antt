-- `document_writer::look_at_rows` meets its contract. The loop's invariant: no span so far passes the end, `ill` says whether one is not UTF-8, and n counts the bytes.
use Prim.Native.Nat.{◌+◌, ◌*◌}
use native.Mathlib.Omega.{arith}
use mathlib.Core.Path.{◌≡◌, sym, ◌∙◌}
use Rattle.lin_spec.specs.Refusals.{passes_end, ill_span}
use Rattle.lin_spec.proofs.Utf8.{longest-within}
use Rattle.document_writer.proofs.Answers.{looked-past, looked-ill, looked-well}
use Rattle.document_writer.proofs.RowLaws.{row_chunk, count_turn, count-end, row-yes, row_no, row_or, last-any, last_or, row_sized, span-within, span_sized}
use Rattle.document_writer.proofs.documents.look_at_rows.Goals as goal

pub row_past-requires : goal.row_past-requires
row_past-requires c = omega (arith, c.requires.0, longest-within c.args.text.now)

pub returns-then-row_past : goal.returns-then-row_past
returns-then-row_past c = let a = c.args in
    let q = row_chunk a.rows.now _ _ _ c.as_chunks.ensures.front c.as_chunks.ensures.front_len c.loop-words-test.true in
    looked-past _ _ _ (row-yes (passes_end a.text.now) a.rows.now a.trailing (c.loop-words.words-index * 4) q.0 _ (c.row_of-row.ensures ∙ q.1) _ c.row_past.ensures c.loop-words.invariant.0 c.if-row_past.true)

pub loop-words-preserved : goal.loop-words-preserved
loop-words-preserved c = let a = c.args in
    let v = c.loop-words.invariant in
    let i = c.loop-words.words-index * 4 in
    let q = row_chunk a.rows.now _ _ _ c.as_chunks.ensures.front c.as_chunks.ensures.front_len c.loop-words-test.true in
    let h = q.0 in
    let e = c.row_of-row.ensures ∙ q.1 in
    let p = c.row_past.ensures in
    let k = c.if-row_past.false in
    let s : (c.loop-words.words-index + 1) * 4 ≡ i + 4 = omega arith in
    rw s (
      row_no (passes_end a.text.now) a.rows.now a.trailing i h _ e _ p v.0 k,
      row_or (ill_span a.text.now) a.rows.now a.trailing i h _ e _ c.row_ill-ill.ensures c.loop-words.ill v.1,
      count_turn a.text.now a.rows.now a.trailing i _ _ _ _ _ h e v.2 (row_sized a.text.now _ _ (sym p ∙ k) c.row_size.ensures (omega arith)) c.sat_add-n.ensures,
      omega (arith, c.sat_add-n.ensures),
    )

pub returns-then-past_end : goal.returns-then-past_end
returns-then-past_end c = let a = c.args in
    looked-past _ _ _ (last-any (passes_end a.text.now) a.rows.now a.trailing (c.loop-words.words-index * 4) (omega (arith, c.as_chunks.ensures.front_len)) c.loop-words.invariant.0 _ c.past_end.ensures ∙ c.if-past_end.true)

pub returns-then-ill-span_ill : goal.returns-then-ill-span_ill
returns-then-ill-span_ill c = let a = c.args in
    let l = c.loop-words in
    let i = l.words-index * 4 in
    looked-ill _ _ _
    (last-any (passes_end a.text.now) a.rows.now a.trailing i (omega (arith, c.as_chunks.ensures.front_len)) l.invariant.0 _ c.past_end.ensures ∙ c.if-past_end.false)
    (last_or (ill_span a.text.now) a.rows.now a.trailing i (omega (arith, c.as_chunks.ensures.front_len)) l.ill l.invariant.1 _ c.span_ill.ensures ∙ c.if-ill-span_ill.true)

pub returns : goal.returns
returns c = let a = c.args in
    let l = c.loop-words in
    let i = l.words-index * 4 in
    let z = span_sized a.text.now a.trailing (span-within a.text.now a.trailing _ c.past_end.ensures c.if-past_end.false) in
    looked-well _ _ _
    (last-any (passes_end a.text.now) a.rows.now a.trailing i (omega (arith, c.as_chunks.ensures.front_len)) l.invariant.0 _ c.past_end.ensures ∙ c.if-past_end.false)
    (last_or (ill_span a.text.now) a.rows.now a.trailing i (omega (arith, c.as_chunks.ensures.front_len)) l.ill l.invariant.1 _ c.span_ill.ensures ∙ c.if-ill-span_ill.false)
    (count-end a.text.now a.rows.now a.trailing i _ _ _ (omega (arith, c.as_chunks.ensures.front_len)) l.invariant.2 (omega (arith, z, c.sat_add.ensures)))
