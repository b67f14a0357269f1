-- Lines, each read whole or not at all. A fault says how many bytes are left where the first wrong line begins.
use Rattle.std.specs.Prelude.{◌≡◌, ℕ, zero, suc, ◌+◌, ℤ, pos, List, [], ◌∷◌, Bool, length, map, Option, Some, None, Result, Ok, Err, codes}
use Rattle.std.specs.Global.{Vec}
use Rattle.av1_plane.specs.declared.three.Three.{Three}
use Rattle.av1_rec.specs.declared.text.extent.Extent.{Extent}
use Rattle.av1_rec.specs.declared.text.fault.Fault.{Fault}
use Rattle.av1_rec.specs.declared.text.fault.Fault.TheVariants.{Wrong}
use Rattle.av1_rec.specs.declared.text.fault.TextError.{TextError}
use Rattle.av1_rec.specs.declared.text.fault.TextError.TheVariants as errors
use Rattle.av1_rec.specs.Fields.{tag, below, option_bind}

-- reading one line after another, as `do` writes it
infixl 10 ◌>>=◌
abbrev pub ◌>>=◌ : {A B : Type 0} → Result A Fault → (A → Result B Fault) → Result B Fault
(Ok x) >>= f = f x
(Err e) >>= f = Err e

-- a function's error is the fault that reading gives, unless memory ran out
abbrev pub Fails : {Y : Type 0} → TextError → Result Y Fault → Type 0
Fails errors.OutOfMemory read = Unit {0}
Fails (errors.Fault f) read = read ≡ Err f

-- what a function returned, seen by view, is what reading gives, unless memory ran out
abbrev pub Gives : {X Y : Type 0} → (X → Y) → Result X TextError → Result Y Fault → Type 0
Gives view (Ok x) read = read ≡ Ok (view x)
Gives view (Err e) read = Fails e read

-- what is read at the front of a line, or the fault that begins where `left` bytes are left
abbrev pub line_or : {A : Type 0} → ℕ → Option A → Result A Fault
line_or left None = Err (Wrong left)
line_or left (Some x) = Ok x

-- one line of a text, or the fault that begins at it
abbrev pub text_line : {A : Type 0} → (List ℕ → Option A) → List ℕ → Result A Fault
text_line read text = line_or (length text) (read text)

-- `count` samples below a limit, and a line feed
unfoldable pub row : Bool → ℕ → ℕ → List ℕ → Option (List ℤ × List ℕ)
row wide limit zero text = option_bind (tag (codes "\n") text) (λ rest. Some ([], rest))
row wide limit (suc count) text = option_bind (below wide limit text) (λ v. option_bind (row wide limit count v.1) (λ vs. Some (pos v.0 ∷ vs.0, vs.1)))

-- `count` of what `read` reads, one after another
unfoldable pub many : {A : Type 0} → (List ℕ → Result (A × List ℕ) Fault) → ℕ → List ℕ → Result (List A × List ℕ) Fault
many read zero text = Ok ([], text)
many read (suc count) text = do
  first ← read text
  others ← many read count first.1
  Ok (first.0 ∷ others.0, others.1)

-- `height` lines of `width` samples
abbrev pub text_rows : Bool → ℕ → ℕ → ℕ → List ℕ → Result (List (List ℤ) × List ℕ) Fault
text_rows wide limit width height text = many (text_line (row wide limit width)) height text

-- luma rows and the rows of two chroma planes
unfoldable pub planes : Bool → ℕ → Extent → Extent → List ℕ → Result (Three (List (List ℤ)) × List ℕ) Fault
planes wide limit luma chroma text = do
  y ← text_rows wide limit luma.width luma.height text
  u ← text_rows wide limit chroma.width chroma.height y.1
  v ← text_rows wide limit chroma.width chroma.height u.1
  Ok (record { y = y.0; u = u.0; v = v.0 }, v.1)

-- the numbers in rows
abbrev pub numbers_of : {X : Type 0} → (X → ℤ) → List (Vec X) → List (List ℤ)
numbers_of number rows = map (λ row. map number row.items) rows

-- the numbers in the rows of each plane
abbrev pub said_planes : {X : Type 0} → (X → ℤ) → Three (Vec (Vec X)) → Three (List (List ℤ))
said_planes number p = record {
  y = numbers_of number p.y.items;
  u = numbers_of number p.u.items;
  v = numbers_of number p.v.items;
}

-- `count` parts that begin with their numbers, from n on
unfoldable pub numbered : {A : Type 0} → (ℕ → List ℕ → Result (A × List ℕ) Fault) → ℕ → ℕ → List ℕ → Result (List A × List ℕ) Fault
numbered read n zero text = Ok ([], text)
numbered read n (suc count) text = do
  first ← read n text
  others ← numbered read (n + 1) count first.1
  Ok (first.0 ∷ others.0, others.1)
