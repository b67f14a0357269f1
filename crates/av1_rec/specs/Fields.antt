-- What stands at the front of some bytes, and the bytes after it: words, numbers in decimal, and bytes and
-- samples in hexadecimal digits. A number has no sign and no leading zero, a signed one may have a minus.
use Rattle.std.specs.Prelude.{ℕ, ◌+◌, ◌-◌, ◌*◌, ℤ, pos, ◌-ℤ◌, List, [], ◌∷◌, Bool, true, false, ◌==◌, ◌&&◌, nat_le, nat_lt, if◌then◌else◌, Option, Some, None, option_and_then, codes, slice_get, length}

-- reading one thing after another, as `do` writes it
infixl 10 ◌>>=◌
abbrev pub ◌>>=◌ : {A B : Type 0} → Option A → (A → Option B) → Option B
o >>= f = option_and_then f o

-- reading one thing after another, by name
abbrev pub option_bind : {A B : Type 0} → Option A → (A → Option B) → Option B
option_bind o f = option_and_then f o

-- the bytes behind a word, where the text begins with it
abbrev pub tag : List ℕ → List ℕ → Option (List ℕ)
tag [] text = Some text
tag (w ∷ ws) [] = None
tag (w ∷ ws) (c ∷ cs) = if c == w then tag ws cs else None

-- whether a byte is a decimal digit
abbrev pub is_digit : ℕ → Bool
is_digit c = nat_le 48 c && nat_le c 57

-- the number that the digits at the front make behind a number read so far, and the bytes after them
unfoldable pub digits : ℕ → List ℕ → ℕ × List ℕ
digits value [] = (value, [])
digits value (c ∷ cs) = if is_digit c then digits (value * 10 + (c - 48)) cs else (value, c ∷ cs)

-- a number: 0, or digits without a leading zero
unfoldable pub number : List ℕ → Option (ℕ × List ℕ)
number [] = None
number (c ∷ cs) = if c == 48 then Some (0, cs) else (if is_digit c then Some (digits 0 (c ∷ cs)) else None)

-- a number between two bounds
unfoldable pub number_in : ℕ → ℕ → List ℕ → Option (ℕ × List ℕ)
number_in low high text = do
  n ← number text
  if nat_le low n.0 && nat_le n.0 high then Some n else None

-- a space, and a number between two bounds
unfoldable pub field : ℕ → ℕ → List ℕ → Option (ℕ × List ℕ)
field low high text = do
  rest ← tag (codes " ") text
  number_in low high rest

-- a number from -128 to 127, without a minus at 0
unfoldable pub signed : List ℕ → Option (ℤ × List ℕ)
signed [] = None
signed (c ∷ cs) = if c == 45 then (do
  n ← number_in 1 128 cs
  Some (pos 0 -ℤ pos n.0, n.1)) else (do
    n ← number_in 0 127 (c ∷ cs)
    Some (pos n.0, n.1))

-- a space, and a signed number from -128 to 127
unfoldable pub delta : List ℕ → Option (ℤ × List ℕ)
delta text = do
  rest ← tag (codes " ") text
  signed rest

-- a digit of a hexadecimal number, in lower case
unfoldable pub hex_digit : List ℕ → Option (ℕ × List ℕ)
hex_digit [] = None
hex_digit (c ∷ cs) = if is_digit c then Some (c - 48, cs) else (if nat_le 97 c && nat_le c 102 then Some (c - 87, cs) else None)

-- a byte of two hexadecimal digits
unfoldable pub hex_byte : List ℕ → Option (ℕ × List ℕ)
hex_byte text = do
  high ← hex_digit text
  low ← hex_digit high.1
  Some (high.0 * 16 + low.0, low.1)

-- a sample of four hexadecimal digits where it is wide, else of two
unfoldable pub hex_sample : Bool → List ℕ → Option (ℕ × List ℕ)
hex_sample true text = do
  high ← hex_byte text
  low ← hex_byte high.1
  Some (high.0 * 256 + low.0, low.1)
hex_sample false text = hex_byte text

-- a sample of hexadecimal digits, below a limit
unfoldable pub below : Bool → ℕ → List ℕ → Option (ℕ × List ℕ)
below wide limit text = do
  v ← hex_sample wide text
  if nat_lt v.0 limit then Some v else None

-- a space, and 0 or 1
unfoldable pub flag : List ℕ → Option (Bool × List ℕ)
flag text = do
  n ← field 0 1 text
  Some (n.0 == 1, n.1)

-- a space, and the number of one of these values, counted from 0
unfoldable pub choice : {A : Type 0} → List A → List ℕ → Option (A × List ℕ)
choice values text = do
  n ← field 0 (length values - 1) text
  x ← slice_get values n.0
  Some (x, n.1)
