-- The parts of a file are 01's, by the numbers of their tokens: "parts begin at token 0 and at each qx moved back over the mn and pn tokens directly
-- before it, if past the last beginning". (01: File)
-- Assumes nothing.
use Prim.Native.Nat.{ℕ, zero, suc, ◌+◌, ◌-◌, ◌≤◌, ◌<◌}
use native.Mathlib.Omega.{arith}
use mathlib.Core.Path.{◌≡◌, refl, ap, sym, ◌∙◌}
use mathlib.Core.Bool.{Bool, true, false, ◌&&◌}
use mathlib.Core.List.{List, [], ◌∷◌, map}
use lib.ListN.{length}
use lib.Dec.{ltb}
use borrow.Author.Tests.{lt-ltb}
use Rattle.lin_spec.specs.Base.{pick, ascii, eq_all}
use Rattle.lin_spec.specs.Records.{end_of}
use Rattle.lin_spec.specs.White.{trim, lower, same_word, is_command}
use Rattle.lin_spec.specs.Tokens.{TokenOf}
use Rattle.lin_spec.specs.Tokens.TokenOf.{token}
use Rattle.lin_spec.specs.Reading.{stream}
use Rattle.lin_spec.specs.File.{Section, leads, part_at, parts_from}
use Rattle.lin_spec.specs.declared.Span.{Span}
use Rattle.lin_spec.proofs.Base.{eq_list_lem}
use Rattle.lin_spec.proofs.File.{Chain, chain}
use Rattle.lin_spec.proofs.File.Chain.{done, more}

-- how many mn and pn tokens stand directly before; the commands that were passed, the nearest first
unfoldable pub lead_run : List (List ℕ) → ℕ
lead_run [] = 0
lead_run (c ∷ cs) = pick (leads c) (suc (lead_run cs)) 0

-- the numbers of the tokens at which parts begin after the last beginning, where i tokens were passed
unfoldable pub beginnings : (i last : ℕ) (passed : List (List ℕ)) → List (TokenOf Span) → List ℕ
beginnings i last passed [] = []
beginnings i last passed (token c v ∷ ts) =
    let b = i - lead_run passed in
    pick (is_command c (ascii "qx") && ltb last b) (b ∷ beginnings (suc i) b (c ∷ passed) ts) (beginnings (suc i) last (c ∷ passed) ts)

-- the place at which the token of a number begins; past the last, the place after it
unfoldable pub place_of : (at : ℕ) → List (TokenOf Span) → (number : ℕ) → ℕ
place_of at ts zero = at
place_of at [] (suc k) = at
place_of at (token c v ∷ ts) (suc k) = place_of (end_of v + 1) ts k

-- parts that begin at these places, the last of them up to the end
unfoldable pub bounded : (s : List ℕ) (start : ℕ) → List ℕ → (stop : ℕ) → List Section
bounded s a [] e = part_at s a e ∷ []
bounded s a (b ∷ bs) e = part_at s a b ∷ bounded s b bs e

qx-leads : (c : List ℕ) → is_command c (ascii "qx") ≡ true → leads c ≡ false
unfolding is_command same_word eq_all
qx-leads c h = rw (eq_list_lem (map lower (trim c)) (ascii "qx") h) refl

-- the state of the definition against the numbers: Q gives the place of each token
record State (s : List ℕ) (Q : ℕ → ℕ) (begin back at i last : ℕ) (passed : List (List ℕ)) : Type 0 where
  places : (k : ℕ) → Q (i + k) ≡ place_of at (stream s at) k
  begin_is : begin ≡ Q last
  back_is : back ≡ Q (i - lead_run passed)
  begin_most : begin ≤ at
  back_most : back ≤ at
  last_most : last ≤ i
  order : ltb begin back ≡ ltb last (i - lead_run passed)

module _ (s : List ℕ) (Q : ℕ → ℕ) (begin back at i last : ℕ) (passed : List (List ℕ)) (t : State s Q begin back at i last passed)
    (c : List ℕ) (v : Span) (e : stream s at ≡ token c v ∷ stream s (end_of v + 1)) (m : at < end_of v + 1)
  where
    next-places : (k : ℕ) → Q (suc i + k) ≡ place_of (end_of v + 1) (stream s (end_of v + 1)) k
    unfolding place_of
    next-places k = (let q : suc i + k ≡ i + suc k = omega arith in ap Q q) ∙ t.places (suc k) ∙ ap (λ (ts : List (TokenOf Span)). place_of at ts (suc k)) e

    next-is : end_of v + 1 ≡ Q (suc i)
    unfolding place_of
    next-is = sym ((let q : suc i ≡ suc i + 0 = omega arith in ap Q q) ∙ next-places 0)

    -- after a token that is no mn or pn, with the last beginning at `b`, token number j
    fresh : leads c ≡ false → (b j : ℕ) → b ≡ Q j → b ≤ at → j ≤ i → State s Q b (end_of v + 1) (end_of v + 1) (suc i) j (c ∷ passed)
    unfolding lead_run
    fresh l b j q h k =
        let r : lead_run (c ∷ passed) ≡ 0 = simp l in
        let z : suc i - lead_run (c ∷ passed) ≡ suc i = omega arith in
        record {
          places = next-places;
          begin_is = q;
          back_is = rw z next-is;
          begin_most = omega arith;
          back_most = omega arith;
          last_most = omega arith;
          order = rw z (lt-ltb b (end_of v + 1) (omega arith) ∙ sym (lt-ltb j (suc i) (omega arith)));
        }

    led : leads c ≡ true → State s Q begin back (end_of v + 1) (suc i) last (c ∷ passed)
    unfolding lead_run
    led l =
        let r : lead_run (c ∷ passed) ≡ suc (lead_run passed) = simp l in
        let z : suc i - lead_run (c ∷ passed) ≡ i - lead_run passed = omega arith in
        record {
          places = next-places;
          begin_is = t.begin_is;
          back_is = rw z t.back_is;
          begin_most = let x = t.begin_most in omega arith;
          back_most = let x = t.back_most in omega arith;
          last_most = let x = t.last_most in omega arith;
          order = rw z t.order;
        }

numbered-by : (s : List ℕ) (Q : ℕ → ℕ) (at : ℕ) → Chain s at → (begin back i last : ℕ) (passed : List (List ℕ)) → State s Q begin back at i last passed
    → parts_from s begin back at (stream s at) ≡ bounded s begin (map Q (beginnings i last passed (stream s at))) (Q (i + length (stream s at)))
unfolding parts_from beginnings bounded place_of
numbered-by s Q at (done e) begin back i last passed t = simp e (ap (λ (x : ℕ). part_at s begin x ∷ []) (sym (t.places 0)))
numbered-by s Q at (more c v e m z y r) begin back i last passed t =
    go (is_command c (ascii "qx")) refl (ltb begin back) refl (leads c) refl (numbered-by s Q (end_of v + 1) r)
  where
    last_end : Q (suc i + length (stream s (end_of v + 1))) ≡ Q (i + suc (length (stream s (end_of v + 1))))
    last_end = let q : suc i + length (stream s (end_of v + 1)) ≡ i + suc (length (stream s (end_of v + 1))) = omega arith in ap Q q

    past : ltb begin back ≡ ltb last (i - lead_run passed)
    past = t.order

    go : (q : Bool) → is_command c (ascii "qx") ≡ q → (x : Bool) → ltb begin back ≡ x → (w : Bool) → leads c ≡ w
        → ((b k j l : ℕ) (p : List (List ℕ)) → State s Q b k (end_of v + 1) j l p
        → parts_from s b k (end_of v + 1) (stream s (end_of v + 1)) ≡ bounded s b (map Q (beginnings j l p (stream s (end_of v + 1)))) (Q (j + length (stream s (end_of v + 1)))))
        → parts_from s begin back at (stream s at) ≡ bounded s begin (map Q (beginnings i last passed (stream s at))) (Q (i + length (stream s at)))
    go true q true x w u ih =
        let f = fresh s Q begin back at i last passed t c v e m (qx-leads c q) back (i - lead_run passed) t.back_is t.back_most (omega arith) in
        simp (e, q, x, sym past ∙ x, ← t.back_is) (ap (λ (ps : List Section). part_at s begin back ∷ ps) (ih back (end_of v + 1) (suc i) (i - lead_run passed) (c ∷ passed) f ∙ ap (bounded s back (map Q (beginnings (suc i) (i - lead_run passed) (c ∷ passed) (stream s (end_of v + 1))))) last_end))
    go true q false x w u ih =
        let f = fresh s Q begin back at i last passed t c v e m (qx-leads c q) begin last t.begin_is t.begin_most t.last_most in
        simp (e, q, x, sym past ∙ x) (ih begin (end_of v + 1) (suc i) last (c ∷ passed) f ∙ ap (bounded s begin (map Q (beginnings (suc i) last (c ∷ passed) (stream s (end_of v + 1))))) last_end)
    go false q x y true u ih =
        let f = led s Q begin back at i last passed t c v e m u in
        simp (e, q, u) (ih begin back (suc i) last (c ∷ passed) f ∙ ap (bounded s begin (map Q (beginnings (suc i) last (c ∷ passed) (stream s (end_of v + 1))))) last_end)
    go false q x y false u ih =
        let f = fresh s Q begin back at i last passed t c v e m u begin last t.begin_is t.begin_most t.last_most in
        simp (e, q, u) (ih begin (end_of v + 1) (suc i) last (c ∷ passed) f ∙ ap (bounded s begin (map Q (beginnings (suc i) last (c ∷ passed) (stream s (end_of v + 1))))) last_end)

pub parts_are : (s : List ℕ)
    → parts_from s 0 0 0 (stream s 0) ≡ bounded s 0 (map (place_of 0 (stream s 0)) (beginnings 0 0 [] (stream s 0))) (place_of 0 (stream s 0) (length (stream s 0)))
unfolding place_of lead_run
parts_are s =
    let Q = place_of 0 (stream s 0) in
    let z : (k : ℕ) → 0 + k ≡ k = λ k. omega arith in
    numbered-by s Q 0 (chain s 0) 0 0 0 0 []
    (record { places = λ k. ap Q (z k); begin_is = refl; back_is = refl; begin_most = omega arith; back_most = omega arith; last_most = omega arith; order = refl })
    ∙ ap (λ (x : ℕ). bounded s 0 (map Q (beginnings 0 0 [] (stream s 0))) (Q x)) (z (length (stream s 0)))
