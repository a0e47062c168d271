-- What two scans of rows find: one that measures, and one that looks. (01: Eight refusals, 5 to 7)
-- Assumes nothing.
use Prim.Native.Nat.{ℕ, ◌≤◌}
use native.Mathlib.Omega.{arith}
use mathlib.Core.Path.{◌≡◌, refl, ap, sym, ◌∙◌, subst}
use mathlib.Core.Bool.{Bool, true, false, ◌&&◌}
use mathlib.Core.List.{List}
use lib.ListN.{length, take}
use lib.Seq.{take_all}
use lib.Dec.{leb}
use borrow.Author.Tests.{le-leb, leb-true}
use Rattle.lin_spec.specs.Writer.{pipe_mark, line_mark}
use Rattle.lin_spec.specs.Records.{limit}
use Rattle.lin_spec.proofs.Base.{and_left}
use Rattle.text.specs.Index.{Indexed}
use Rattle.text.proofs.IndexLaws.{indexed_none}
use Rattle.rows.specs.declared.CallRow.{CallRow}
use Rattle.rows_walks.specs.declared.Scan.{Scan}
use Rattle.rows_walks.specs.Walks.{scanned}
use Rattle.rows_walks.proofs.ScanLaws.{look-past, look-need, found-past, found-ill, found-need}
use Rattle.rows_writer.specs.Seen.{measuring_scan, Looks, Seen}

-- a scan that has found nothing looks at nothing
pub first-index : (s next : List ℕ) (z : Scan) → z ≡ measuring_scan → Indexed s (take z.blocks next)
first-index s next z e = subst (λ (y : Scan). Indexed s (take y.blocks next)) (sym e) (indexed_none s)

-- a look by an index that has a word for each block, and by none
module _ (s next : List ℕ) (y : Scan) where
  pub looks_index : (n : ℕ) → n ≡ length next → Indexed s next → Looks s y (record { look = leb (length s) limit; blocks = n; past = y.past; ill = false; spans = y.spans; need = y.need }) next
  looks_index n e i = record {
    index = subst (Indexed s) (sym (take_all n next (omega (arith, e)))) i;
    look = λ h. le-leb (length s) limit h;
    past = refl;
    ill = refl;
    need = refl;
  }

  pub looks_none : Looks s y (record { look = leb (length s) limit; blocks = 0; past = y.past; ill = false; spans = y.spans; need = y.need }) next
  looks_none = record { index = indexed_none s; look = λ h. le-leb (length s) limit h; past = refl; ill = refl; need = refl }

-- a text that has an index is not too long
pub looked_short : (n : ℕ) (t : Bool) → (leb n limit && t) ≡ true → n ≤ limit
looked_short n t e = leb-true n limit (and_left (leb n limit) t e)

pub seen_found : (s : List ℕ) (rs : List CallRow) (z₀ z₁ z₂ z₃ : Scan) (next : List ℕ) → z₀ ≡ measuring_scan → z₁ ≡ scanned s rs z₀ → Looks s z₁ z₂ next → z₃ ≡ scanned s rs z₂ → Seen s rs z₃
seen_found s rs z₀ z₁ z₂ z₃ next e₀ e₁ g e₃ h =
    let first = e₁ ∙ ap (λ (y : Scan). scanned s rs y) e₀ in
    record {
      past = ap (λ (y : Scan). y.past) e₃ ∙ look-past s rs z₂ (g.look h) ∙ g.past ∙ ap (λ (y : Scan). y.past) first ∙ found-past s rs measuring_scan refl refl;
      ill = ap (λ (y : Scan). y.ill) e₃ ∙ found-ill s rs z₂ (g.look h) g.ill;
      need = ap (λ (y : Scan). y.need) e₃ ∙ look-need s rs z₂ (g.look h) ∙ g.need ∙ ap (λ (y : Scan). y.need) first ∙ found-need s rs measuring_scan refl refl pipe_mark line_mark;
    }
