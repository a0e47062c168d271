-- White space, trimming and ASCII case. (01: Records, Tokens; 02: N2)
use Rattle.std.specs.Prelude.{ℕ, zero, suc, ◌+◌, ◌-◌, Bool, ◌&&◌, List, [], ◌∷◌, ◌++◌, map, length, eqb, leb}
use Rattle.lin_spec.specs.Base.{pick, null, eq_list, starts}
use Rattle.lin_spec.specs.Utf8.{encode}

-- "White space is U+0009 to U+000D, 0020, 0085, 00A0, 1680, 2000 to 200A, 2028, 2029, 202F, 205F, 3000 (hex)"
unfoldable pub white_space : List ℕ
white_space =
    0x9 ∷ 0xA ∷ 0xB ∷ 0xC ∷ 0xD ∷ 0x20 ∷ 0x85 ∷ 0xA0 ∷ 0x1680
    ∷ 0x2000 ∷ 0x2001 ∷ 0x2002 ∷ 0x2003 ∷ 0x2004 ∷ 0x2005 ∷ 0x2006 ∷ 0x2007 ∷ 0x2008 ∷ 0x2009 ∷ 0x200A
    ∷ 0x2028 ∷ 0x2029 ∷ 0x202F ∷ 0x205F ∷ 0x3000 ∷ []

-- "Trimming removes U+FEFF as well as white space": these characters, which are called white here. (02: N2)
abbrev pub whites : List ℕ
whites = white_space ++ 0xFEFF ∷ []

-- the length of the first of the texts ws that s begins with, 0 where it begins with none
unfoldable pub front : (ws : List (List ℕ)) (s : List ℕ) → ℕ
front [] s = 0
front (w ∷ ws) s = pick (starts w s) (length w) (front ws s)

-- how many bytes the white character at the front of s has, 0 where there is none
unfoldable pub white_at : List ℕ → ℕ
white_at s = front (map encode whites) s

-- s without n bytes, and then without the white characters at its front
unfoldable pub skip_white : ℕ → List ℕ → List ℕ
skip_white n [] = []
skip_white zero (b ∷ s) = pick (eqb (white_at (b ∷ s)) 0) (b ∷ s) (skip_white (white_at (b ∷ s) - 1) s)
skip_white (suc n) (b ∷ s) = skip_white n s

unfoldable pub trim_start : List ℕ → List ℕ
trim_start s = skip_white 0 s

-- nothing but white characters
unfoldable pub blank : List ℕ → Bool
blank s = null (trim_start s)

unfoldable pub trim_end : List ℕ → List ℕ
trim_end [] = []
trim_end (b ∷ s) = pick (blank (b ∷ s)) [] (b ∷ trim_end s)

-- "trim removes it from both ends", white characters since N2
unfoldable pub trim : List ℕ → List ℕ
trim s = trim_end (trim_start s)

-- a capital of ASCII as the small letter, any other byte as it is
unfoldable pub lower : ℕ → ℕ
lower b = pick (leb 0x41 b && leb b 0x5A) (b + 0x20) b

-- the same "ignoring ASCII case"; w is in small letters
unfoldable pub same_word : (s w : List ℕ) → Bool
same_word s w = eq_list (map lower s) w

-- "Commands are trimmed, then compared ignoring ASCII case."
unfoldable pub is_command : (command w : List ℕ) → Bool
is_command c w = same_word (trim c) w
