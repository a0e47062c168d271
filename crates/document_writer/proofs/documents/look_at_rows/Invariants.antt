-- `document_writer::look_at_rows` meets its contract. The loop's invariant: no span so far passes the end, `ill` says whether one is not UTF-8, and n counts the bytes.
use Prim.Native.Nat.{◌+◌, ◌*◌, ◌^◌, ◌<◌}
use mathlib.Core.Path.{◌≡◌}
use mathlib.Core.Bool.{◌||◌}
use lib.ListN.{length, drop}
use Rattle.lin_spec.specs.Base.{any}
use Rattle.lin_spec.specs.Refusals.{sat, passes_end, ill_span}
use Rattle.lin_spec.specs.Document.{rows_in, spans_of, document_text}
use Rattle.document_writer.proofs.documents.look_at_rows.Given as goal

abbrev pub invariant-loop-words : goal.invariant-loop-words
invariant-loop-words l =
    let rest = drop (l.words-index * 4) l.rows in
    (any (passes_end l.text) (spans_of (rows_in rest) l.trailing) ≡ any (passes_end l.text) (spans_of (rows_in l.rows) l.trailing))
    × ((l.ill || any (ill_span l.text) (spans_of (rows_in rest) l.trailing)) ≡ any (ill_span l.text) (spans_of (rows_in l.rows) l.trailing))
    × (sat (l.n + length (document_text l.text rest l.trailing)) ≡ sat (length (document_text l.text l.rows l.trailing))) × (l.n < 2 ^ 64)
