-- Laws of the layout: each text begins where the one before it ends, and all of them begin within 32 bits. (01: From PBN)
-- Assumes nothing.
use Rattle.std.specs.Prelude.{Option}
use Prim.Native.Nat.{ℕ, ◌+◌}
use native.Mathlib.Omega.{arith}
use mathlib.Core.Path.{◌≡◌}
use mathlib.Core.Bool.{true, false}
use mathlib.Core.List.{List, map}
use lib.ListN.{length}
use Rattle.lin_spec.specs.Pbn.{name_by, laid_names}
use Rattle.lin_spec.specs.declared.Span.{Span}
use Rattle.pbn_texts.specs.declared.sources.Sources.{Sources}
use Rattle.pbn_texts.specs.declared.layout.Layout.{Layout}
use Rattle.pbn_texts.specs.Sources.{labelled}
use Rattle.pbn_texts.specs.Texts.{label_bytes, title_text, room_text, label_header}
use Rattle.pbn_texts.specs.Names.{pbn_names_text}
use Rattle.pbn_texts.specs.Layout.{layout_of}
use Rattle.pbn_texts.proofs.TextLaws.{labels_long, labels_none}

-- the layout, by its names, where they end, and where the title ends
module _ (p q : ℕ) (s : List ℕ) (ms : List (Option Span)) (x : Sources) (xs : List Span) (ex : xs ≡ laid_names 0 (map (name_by p q s) ms))
    (t : ℕ) (et : t ≡ length (pbn_names_text p q s ms)) (r : ℕ) (er : r ≡ t + length (title_text s x.event x.date)) where
  layout_is : (h : ℕ) → h ≡ r + length (room_text s x.label) → (k : ℕ) → k ≡ h + length (label_header s x.label)
      → ◌≡◌ {A = Layout} (record { names = xs; title = t; room_board = r; header = h; calls = k }) (layout_of p q s ms x)
  unfolding layout_of
  layout_is h eh k ek =
      let x₁ : r ≡ length (pbn_names_text p q s ms) + length (title_text s x.event x.date) = omega arith in
      let x₂ : h ≡ length (pbn_names_text p q s ms) + length (title_text s x.event x.date) + length (room_text s x.label) = omega arith in
      let x₃ : k ≡ length (pbn_names_text p q s ms) + length (title_text s x.event x.date) + length (room_text s x.label) + length (label_header s x.label) = omega arith in
      λ i. record { names = ex i; title = et i; room_board = x₁ i; header = x₂ i; calls = x₃ i }

  pub layout_plain : labelled x.label ≡ false → ◌≡◌ {A = Layout} (record { names = xs; title = t; room_board = r; header = r; calls = r }) (layout_of p q s ms x)
  layout_plain l =
      let z = labels_none s x.label l in
      layout_is r (omega (arith, z.0)) r (omega (arith, z.1))

  pub layout_labelled : labelled x.label ≡ true → (n : ℕ) → n ≡ length (label_bytes s x.label)
      → ◌≡◌ {A = Layout} (record { names = xs; title = t; room_board = r; header = r + 8 + n + n; calls = r + 8 + n + n + 6 + n }) (layout_of p q s ms x)
  layout_labelled l n en =
      let z = labels_long s x.label l in
      layout_is (r + 8 + n + n) (omega (arith, z.0)) (r + 8 + n + n + 6 + n) (omega (arith, z.1))
