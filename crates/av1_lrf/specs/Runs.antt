-- Parts of a list of numbers that are written anew.
use Rattle.std.specs.Prelude.{ℕ, ℤ, ◌+◌, ◌*◌, ◌<◌, ◌≤◌, ◌≡◌, ◌≢◌, length, List}
use Rattle.av1_lrf.specs.Rows.{sample}

-- After is before with n numbers from `at` on as given, and all else as it was.
pub record HasSampleRun (at n : ℕ) (value : ℕ → ℤ) (before after : List ℤ) : Type 0 where
  pub on : (i : ℕ) → i < n → sample after (at + i) ≡ value i
  pub off : (k : ℕ) → ((i : ℕ) → i < n → k ≢ at + i) → sample after k ≡ sample before k
  pub long : length after ≡ length before

-- After is before with the columns from x0 up to x1 of the rows from y0 up to y1 as given, and all else
-- as it was. Row y is the numbers from origin + y * step on.
pub record HasArea (origin step x0 x1 y0 y1 : ℕ) (value : ℕ → ℕ → ℤ) (before after : List ℤ) : Type 0 where
  pub on : (x y : ℕ) → x0 ≤ x → x < x1 → y0 ≤ y → y < y1 → sample after (origin + y * step + x) ≡ value x y
  pub off : (i : ℕ) → ((x y : ℕ) → x0 ≤ x → x < x1 → y0 ≤ y → y < y1 → i ≢ origin + y * step + x) → sample after i ≡ sample before i
  pub long : length after ≡ length before

-- `height` rows of `width` numbers lie in a list of n numbers
pub record HasRowRoom (origin step width height n : ℕ) : Type 0 where
  pub wide : width ≤ step
  pub inside : origin + height * step + width ≤ n + step
