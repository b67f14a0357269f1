-- Tiles that seats claim of a table: what holds between any two steps, and what each step tells a seat.
-- The word of a tile is 0 while it is free, 1 while its claimer codes it, and 3 once its result lies in its slot.
-- What a slot has at home is only named here, as `At about n word value`.
use Rattle.std.specs.Prelude.{◌≡◌, ◌≢◌, ◌⊎◌, ℕ, zero, suc, ◌+◌, ◌<◌, ◌==◌, List, [], ◌∷◌, ◌++◌, length, slice_index, Bool, false, Some, None, is_none, if◌then◌else◌}
use mathlib.Core.Option.{some, none}
use lib.ListN.{get_elem?}
use Rattle.atomic_table.specs.Table.{State, Me, Step, rest}
use Rattle.av1_frame.specs.declared.doing.Knows.{Knows}
use Rattle.av1_frame.specs.declared.doing.Doing.{Doing}
use Rattle.av1_frame.specs.declared.doing.Doing.TheVariants.{Spent, Live}

-- how often n stands in the list
abbrev pub times : ℕ → List ℕ → ℕ
times n [] = 0
times n (x ∷ xs) = (if x == n then 1 else 0) + times n xs

-- n stands in the list
abbrev pub Has : List ℕ → ℕ → Type 0
Has xs n = 0 < times n xs

-- no number stands in both lists, and none stands twice in one
abbrev pub HaveNoneInCommon : List ℕ → List ℕ → Type 0
HaveNoneInCommon xs ys = (n : ℕ) → times n xs + times n ys < 2

-- a list of tiles, with tile n at its end if `more`
abbrev pub with_tile : Bool → ℕ → List ℕ → List ℕ
with_tile more n xs = if more then xs ++ n ∷ [] else xs

-- 0 for 0, and 1 for every other number
abbrev pub sign : ℕ → ℕ
sign zero = 0
sign (suc n) = 1

module _ {X : Type 0} where
  -- the numbers that a seat claimed
  abbrev pub claims : Doing X → List ℕ
  claims Spent = []
  claims (Live k) = k.claimed

  -- the numbers that a seat found taken
  abbrev pub misses : Doing X → List ℕ
  misses Spent = []
  misses (Live k) = k.missed

  -- how often n stands in the claimed numbers of all seats
  abbrev pub claims_of : ℕ → List (Doing X) → ℕ
  claims_of n [] = 0
  claims_of n (d ∷ ds) = times n (claims d) + claims_of n ds

  -- what one seat knows of the words is true
  pub record Sits (words : List ℕ) (about : X) (k : Knows X) : Type 0 where
    pub same : k.about ≡ about
    pub opened : (n : ℕ) → k.held ≡ Some n → Has k.claimed n × (slice_index words n ≡ 1)
    pub taken : (n : ℕ) → Has k.missed n → slice_index words n ≢ 0

  -- what a seat knows of the words is true, unless the seat is spent
  abbrev pub SitsIf : List ℕ → X → Doing X → Type 0
  SitsIf words about Spent = Unit {0}
  SitsIf words about (Live k) = Sits words about k

  -- The rule on words, on slots at home and on what all seats know: in the claimed numbers of all seats a number stands
  -- at most once, and exactly where its word isn't 0; a word is 1 exactly where a seat holds its number, and exactly then
  -- its slot is out.
  pub record Ruled {S : Type 0} (At : X → ℕ → ℕ → S → Type 0) (about : X) (s : State S (Doing X)) : Type 0 where
    pub deep : length s.homes ≡ length s.words
    pub values : (n : ℕ) → (slice_index s.words n ≡ 0) ⊎ ((slice_index s.words n ≡ 1) ⊎ (slice_index s.words n ≡ 3))
    pub once : (n : ℕ) → claims_of n s.views ≡ sign (slice_index s.words n)
    pub seats : (j : ℕ) (d : Doing X) → get_elem? s.views j ≡ some d → SitsIf s.words about d
    pub opened : (n : ℕ) → slice_index s.words n ≡ 1
        → (j : ℕ) × (k : Knows X) × (get_elem? s.views j ≡ some (Live k)) × (k.held ≡ Some n)
    pub out : (n : ℕ) → slice_index s.words n ≡ 1 → get_elem? s.homes n ≡ some none
    pub home : (n : ℕ) → n < length s.words → slice_index s.words n ≢ 1
        → (y : S) × (get_elem? s.homes n ≡ some (some y)) × At about n (slice_index s.words n) y

  -- a seat without tiles
  abbrev pub fresh : X → Doing X
  fresh about = Live (record { claimed = []; missed = []; held = None; about = about })

  -- a seat with one more number, which it claimed and holds
  abbrev pub with_claimed : Knows X → ℕ → Doing X
  with_claimed k n = Live (record { claimed = k.claimed ++ n ∷ []; missed = k.missed; held = Some n; about = k.about })

  -- a seat with one more number, which it found taken
  abbrev pub with_missed : Knows X → ℕ → Doing X
  with_missed k n = Live (record { claimed = k.claimed; missed = k.missed ++ n ∷ []; held = k.held; about = k.about })

  -- a seat that holds no number
  abbrev pub with_closed : Knows X → Doing X
  with_closed k = Live (record { claimed = k.claimed; missed = k.missed; held = None; about = k.about })

  -- a seat after a claim that found the tile free
  abbrev pub taking : Doing X → ℕ → Doing X
  taking Spent n = Spent
  taking (Live k) n = with_claimed k n

  -- a seat after a claim that found the tile taken
  abbrev pub missing : Doing X → ℕ → Doing X
  missing Spent n = Spent
  missing (Live k) n = with_missed k n

  module _ {S : Type 0} (At : X → ℕ → ℕ → S → Type 0) where
    -- what is at home in a slot, by the copy that the seat has
    abbrev pub AtBy : Doing X → ℕ → ℕ → S → Type 0
    AtBy Spent n word y = Unit {0}
    AtBy (Live k) n word y = At k.about n word y

    -- a claim: at 0 the tile was free, and the seat has its slot, with what was at home
    abbrev pub Claimed : Step S → Me S (Doing X) → ℕ → Me S (Doing X) → Type 0
    Claimed st m found m' =
        (found ≡ 0 → (times st.word (claims m.0) ≡ 0)
        × ((y : S) × AtBy m.0 st.word 0 y × (m' ≡ (taking m.0 st.word, (st.word, y) ∷ m.1))))
        × (found ≢ 0 → m' ≡ (missing m.0 st.word, m.1))

  -- a seat that holds nothing any more, its slot being at home
  abbrev pub closed : Doing X → Doing X
  closed Spent = Spent
  closed (Live k) = with_closed k

  -- the end of a claim, whose slot is given back
  abbrev pub Finished : {S : Type 0} → Step S → Me S (Doing X) → ℕ → Me S (Doing X) → Type 0
  Finished st m found m' = m' ≡ (closed m.0, rest m.1)

  -- a look: the seat's claimed numbers are different
  abbrev pub Looked : {S : Type 0} → Step S → Me S (Doing X) → ℕ → Me S (Doing X) → Type 0
  Looked st m found m' = (m' ≡ m) × ((n : ℕ) → times n (claims m.0) < 2)

  -- two seats as one: the lists of the second after those of the first
  abbrev pub joined : Doing X → Doing X → Doing X
  joined (Live k) (Live l) = Live (record {
    claimed = k.claimed ++ l.claimed;
    missed = k.missed ++ l.missed;
    held = k.held;
    about = k.about;
  })
  joined (Live k) Spent = Live k
  joined Spent d = Spent

  -- a seat that is split off another
  abbrev pub split_off : Doing X → Doing X
  split_off (Live k) = fresh k.about
  split_off Spent = Spent

  -- whether a seat works on no claim
  abbrev pub is_idle : Doing X → Bool
  is_idle Spent = false
  is_idle (Live k) = is_none k.held

  -- a seat that isn't spent, with this copy of what all seats know
  abbrev pub IsAbout : X → Doing X → Type 0
  IsAbout about Spent = ⊥
  IsAbout about (Live k) = k.about ≡ about
