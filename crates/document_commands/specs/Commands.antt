-- The commands of a board by number. (01: Board)
use Rattle.std.specs.Prelude.{ℕ, suc, ◌-◌, ◌≤◌, ◌≡◌, List, [], ◌∷◌, false, eqb}
use Rattle.lin_spec.specs.Base.{pick, ascii, eq_list}
use Rattle.lin_spec.specs.Records.{part}
use Rattle.lin_spec.specs.White.{trim, same_word}

abbrev pub words : List (List ℕ)
words =
    ascii "pc" ∷ ascii "mb" ∷ ascii "an" ∷ ascii "md" ∷ ascii "pn"
    ∷ ascii "qx" ∷ ascii "mn" ∷ ascii "sv" ∷ ascii "ah" ∷ ascii "mc" ∷ []

-- the number of each word, by its place in the list, and of a command that is none of them
abbrev pub pc_no : ℕ
pc_no = 0

abbrev pub mb_no : ℕ
mb_no = 1

abbrev pub an_no : ℕ
an_no = 2

abbrev pub md_no : ℕ
md_no = 3

abbrev pub pn_no : ℕ
pn_no = 4

abbrev pub qx_no : ℕ
qx_no = 5

abbrev pub mn_no : ℕ
mn_no = 6

abbrev pub sv_no : ℕ
sv_no = 7

abbrev pub ah_no : ℕ
ah_no = 8

abbrev pub mc_no : ℕ
mc_no = 9

abbrev pub other_no : ℕ
other_no = 10

-- the number of the first of the words ws that s is, counted from n; past the last where it is none
unfoldable pub first_word : (n : ℕ) (ws : List (List ℕ)) (s : List ℕ) → ℕ
first_word n [] s = n
first_word n (w ∷ ws) s = pick (same_word s w) n (first_word (suc n) ws s)

-- the same of a word x that is in small letters already
unfoldable pub first_small : (n : ℕ) (ws : List (List ℕ)) (x : List ℕ) → ℕ
first_small n [] x = n
first_small n (w ∷ ws) x = pick (eq_list x w) n (first_small (suc n) ws x)

-- the number of the word of the small letters x and y
abbrev pub code_of : (x y : ℕ) → ℕ
code_of x y = first_small 0 words (x ∷ y ∷ [])

unfoldable pub command_of : (command : List ℕ) → ℕ
command_of c = first_word 0 words (trim c)

-- from r up to p stands the same command as from `at` up to p
pub record SameFrom (s : List ℕ) (at p r : ℕ) : Type 0 where
  pub from : at ≤ r
  pub to : r ≤ p
  pub same : command_of (part s r (p - r)) ≡ command_of (part s at (p - at))

-- the number of a command that is none of md, pn, qx and mn, which alone tell a file's parts
pub record Unmarked (k : ℕ) : Type 0 where
  pub md : eqb k md_no ≡ false
  pub pn : eqb k pn_no ≡ false
  pub qx : eqb k qx_no ≡ false
  pub mn : eqb k mn_no ≡ false
