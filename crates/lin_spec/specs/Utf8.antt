-- UTF-8 by RFC 3629, as a machine that is fed a text's bytes. (01: "For UTF-8 (RFC 3629) .. the public document prevails")
use Rattle.std.specs.Prelude.{ℕ, zero, suc, ◌+◌, ◌/◌, ◌%◌, Bool, true, false, ◌&&◌, ◌||◌, not, List, [], ◌∷◌, map, eqb, leb, ltb}
use Rattle.lin_spec.specs.Base.{pick, concat}

-- Between two characters; within one that has n + 1 bytes to come, the next of them from lo to hi; past a byte that no text has there.
pub data Utf : Type 0 where
  whole : Utf
  needs : (n lo hi : ℕ) → Utf
  ill : Utf

-- RFC 3629, 4: the first byte of a character says how many follow, and what the second may be.
--   UTF8-1 = %x00-7F
--   UTF8-2 = %xC2-DF UTF8-tail
--   UTF8-3 = %xE0 %xA0-BF UTF8-tail / %xE1-EC 2( UTF8-tail ) / %xED %x80-9F UTF8-tail / %xEE-EF 2( UTF8-tail )
--   UTF8-4 = %xF0 %x90-BF 2( UTF8-tail ) / %xF1-F3 3( UTF8-tail ) / %xF4 %x80-8F 2( UTF8-tail )
unfoldable pub first : ℕ → Utf
first b =
    pick (leb b 0x7F) whole
    (pick (leb 0xC2 b && leb b 0xDF) (needs 0 0x80 0xBF)
    (pick (eqb b 0xE0) (needs 1 0xA0 0xBF)
    (pick (eqb b 0xED) (needs 1 0x80 0x9F)
    (pick (leb 0xE1 b && leb b 0xEF) (needs 1 0x80 0xBF)
    (pick (eqb b 0xF0) (needs 2 0x90 0xBF)
    (pick (leb 0xF1 b && leb b 0xF3) (needs 2 0x80 0xBF)
    (pick (eqb b 0xF4) (needs 2 0x80 0x8F) ill)))))))

-- after a byte in its range, with n bytes to come: UTF8-tail = %x80-BF
abbrev pub tails : ℕ → Utf
tails zero = whole
tails (suc n) = needs n 0x80 0xBF

unfoldable pub utf_step : Utf → ℕ → Utf
utf_step whole b = first b
utf_step (needs n lo hi) b = pick (leb lo b && leb b hi) (tails n) ill
utf_step ill b = ill

-- where the machine stands after the bytes s
unfoldable pub utf : Utf → List ℕ → Utf
utf u [] = u
utf u (b ∷ s) = utf (utf_step u b) s

abbrev pub is_whole : Utf → Bool
is_whole whole = true
is_whole (needs n lo hi) = false
is_whole ill = false

-- RFC 3629, 4: UTF8-octets = *( UTF8-char )
unfoldable pub utf8 : List ℕ → Bool
utf8 s = is_whole (utf whole s)

-- how many more bytes of s bring the machine between characters for the last time, 0 where none do
unfoldable pub reach : Utf → List ℕ → ℕ
reach u [] = 0
reach u (b ∷ s) =
    let v = utf_step u b in
    let k = reach v s in
    pick (is_whole v || not (eqb k 0)) (suc k) 0

-- refusal 2 carries the "length of the longest well-formed start"
unfoldable pub longest : List ℕ → ℕ
longest s = reach whole s

-- RFC 3629, 3: a character number as bytes
unfoldable pub encode : ℕ → List ℕ
encode c =
    pick (ltb c 0x80) (c ∷ [])
    (pick (ltb c 0x800) ((0xC0 + c / 64) ∷ (0x80 + c % 64) ∷ [])
    (pick (ltb c 0x10000) ((0xE0 + c / 4096) ∷ (0x80 + c / 64 % 64) ∷ (0x80 + c % 64) ∷ [])
    ((0xF0 + c / 262144) ∷ (0x80 + c / 4096 % 64) ∷ (0x80 + c / 64 % 64) ∷ (0x80 + c % 64) ∷ [])))

-- the numbers that have bytes: 0 to 10FFFF hex, without D800 to DFFF
abbrev pub scalar : ℕ → Bool
scalar c = ltb c 0xD800 || (leb 0xE000 c && ltb c 0x110000)

-- the bytes of a text that is given as characters
abbrev pub encode_all : List ℕ → List ℕ
encode_all cs = concat (map encode cs)
