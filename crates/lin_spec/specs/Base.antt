-- Small tools that the definitions share: a choice, tests of lists, texts that are written out. Nothing of LIN.
use Rattle.std.specs.Prelude.{ℕ, Bool, true, false, ◌&&◌, ◌||◌, List, [], ◌∷◌, ◌++◌, length, eqb}
use Prim.Native.Char.{code}
use Prim.Native.String.{String, [] as []ˢ, ◌∷◌ as ◌∷ˢ◌}

abbrev pub pick : {A : Type 0} → Bool → A → A → A
pick true a b = a
pick false a b = b

-- P holds of every element
abbrev pub All : {A : Type 0} → (A → Type 0) → List A → Type 0
All P [] = Unit
All P (a ∷ s) = P a × All P s

-- the test holds of some element
unfoldable pub any : {A : Type 0} → (A → Bool) → List A → Bool
any f [] = false
any f (a ∷ s) = f a || any f s

-- the test holds of each
unfoldable pub all : {A : Type 0} → (A → Bool) → List A → Bool
all f [] = true
all f (a ∷ s) = f a && all f s

-- the elements of which the test holds, and how many they are
unfoldable pub keep : {A : Type 0} → (A → Bool) → List A → List A
keep f [] = []
keep f (a ∷ s) = pick (f a) (a ∷ keep f s) (keep f s)

abbrev pub count_if : {A : Type 0} → (A → Bool) → List A → ℕ
count_if f s = length (keep f s)

abbrev pub null : {A : Type 0} → List A → Bool
null [] = true
null (a ∷ s) = false

-- lists one after the other
unfoldable pub concat : {A : Type 0} → List (List A) → List A
concat [] = []
concat (x ∷ xs) = x ++ concat xs

-- lists one after the other, with `between` between each two
unfoldable pub join_by : (between : List ℕ) → List (List ℕ) → List ℕ
join_by w [] = []
join_by w (x ∷ []) = x
join_by w (x ∷ y ∷ r) = x ++ (w ++ join_by w (y ∷ r))

-- two lists are the same, their elements compared by f
unfoldable pub eq_all : {A : Type 0} → (A → A → Bool) → List A → List A → Bool
eq_all f [] [] = true
eq_all f [] (b ∷ t) = false
eq_all f (a ∷ s) [] = false
eq_all f (a ∷ s) (b ∷ t) = f a b && eq_all f s t

abbrev pub eq_list : List ℕ → List ℕ → Bool
eq_list x y = eq_all eqb x y

-- s begins with w
unfoldable pub starts : (w s : List ℕ) → Bool
starts [] s = true
starts (x ∷ w) [] = false
starts (x ∷ w) (b ∷ s) = eqb b x && starts w s

-- the bytes of a text of ASCII characters
abbrev pub ascii : String → List ℕ
ascii []ˢ = []
ascii (c ∷ˢ s) = code c ∷ ascii s
