-- Claims and deliveries of tiles as events, in any order: what each event leaves, and what holds after
-- any list of events.
use Rattle.std.specs.Prelude.{◌≡◌, ℕ, zero, suc, ◌+◌, ◌<◌, ◌==◌, ◌&&◌, List, [], ◌∷◌, ◌++◌, length, map, All, nat_lt, replicate, Option, Some, None, slice_get, slice_set, if◌then◌else◌}
use Rattle.av1_tiling.specs.Views.{View}
use Rattle.av1_tiling.specs.Puts.{Tables, coded_tables}
use Rattle.av1_tiling.specs.Coded.{ViewLies, AreViewsApart, AreCoded}
use Rattle.av1_frame.specs.Claims.{times}

-- a worker claims a tile, or delivers the one that it holds
pub data Event : Type 0 where
  claim : ℕ → ℕ → Event
  deliver : ℕ → Event

-- which tiles are taken, what each worker holds, and which results are delivered, each with its number
pub record Machine (R : Type 0) : Type 0 where
  pub taken : List ℕ
  pub held : List (Option ℕ)
  pub delivered : List (ℕ × R)

-- the numbers that workers hold
abbrev pub held_numbers : List (Option ℕ) → List ℕ
held_numbers [] = []
held_numbers (None ∷ hs) = held_numbers hs
held_numbers (Some n ∷ hs) = n ∷ held_numbers hs

module _ {R : Type 0} where
  -- the numbers of the delivered results
  abbrev pub numbers : List (ℕ × R) → List ℕ
  numbers [] = []
  numbers (p ∷ ps) = p.0 ∷ numbers ps

  -- the results of the number n
  abbrev pub results_of : ℕ → List (ℕ × R) → List R
  results_of n [] = []
  results_of n (p ∷ ps) = if p.0 == n then p.1 ∷ results_of n ps else results_of n ps

  -- the results of all numbers below n, in the order of their numbers
  abbrev pub by_number : ℕ → List (ℕ × R) → List R
  by_number zero ps = []
  by_number (suc n) ps = by_number n ps ++ results_of n ps

  -- the machine at the start: nothing is taken, held or delivered
  abbrev pub start : ℕ → Machine R
  start workers = record { taken = []; held = replicate workers None; delivered = [] }

  module _ (results : List R) where
    -- a worker that holds nothing claims a tile's number that isn't taken, and nothing else changes
    abbrev pub after_claim : Option (Option ℕ) → ℕ → ℕ → ℕ → Machine R → Machine R
    after_claim (Some None) tiles w n m =
        if nat_lt n tiles && (times n m.taken == 0)
        then record { taken = m.taken ++ n ∷ []; held = slice_set m.held w (Some n); delivered = m.delivered }
        else m
    after_claim _ tiles w n m = m

    -- the number that a worker held is delivered with its entry of the results
    abbrev pub after_result : Option R → ℕ → ℕ → Machine R → Machine R
    after_result (Some r) w n m =
        record { taken = m.taken; held = slice_set m.held w None; delivered = m.delivered ++ (n, r) ∷ [] }
    after_result None w n m = m

    -- a worker that holds nothing delivers nothing
    abbrev pub after_delivery : Option (Option ℕ) → ℕ → Machine R → Machine R
    after_delivery (Some (Some n)) w m = after_result (slice_get results n) w n m
    after_delivery _ w m = m

    -- the machine after one event
    abbrev pub step : ℕ → Event → Machine R → Machine R
    step tiles (claim w n) m = after_claim (slice_get m.held w) tiles w n m
    step tiles (deliver w) m = after_delivery (slice_get m.held w) w m

    -- the machine after a list of events
    abbrev pub after : ℕ → List Event → Machine R → Machine R
    after tiles [] m = m
    after tiles (e ∷ es) m = after tiles es (step tiles e m)

-- The delivered numbers are different, the taken ones are the delivered and the held ones, each once, and each delivered
-- pair has its entry of the results. Where all are delivered, they are the results once sorted by number.
pub record InOrder {R : Type 0} (results : List R) (m : Machine R) : Type 0 where
  pub different : (n : ℕ) → times n (numbers m.delivered) < 2
  pub exact : (n : ℕ) → times n m.taken ≡ times n (numbers m.delivered) + times n (held_numbers m.held)
  pub once : (n : ℕ) → times n m.taken < 2
  pub entries : (k : ℕ) (p : ℕ × R) → slice_get m.delivered k ≡ Some p → slice_get results p.0 ≡ Some p.1
  pub sorted : length m.delivered ≡ length results → by_number (length results) m.delivered ≡ results

-- any list of events, by any number of workers, leaves a machine that is in order
abbrev pub CoreAnyOrder : Type 0 → Type 0
CoreAnyOrder R =
    (workers : ℕ) (results : List R) (events : List Event)
    → InOrder results (after results (length results) events (start workers))

-- the delivered results, in the order of their delivery
abbrev pub delivered_results : {R : Type 0} → Machine R → List R
delivered_results m = map (λ p. p.1) m.delivered

-- tables with views put in as they were delivered are those with the views put in by number,
-- and have each view's content in its rectangles
pub record AreCodedByNumber (tables : Tables) (views delivered : List View) : Type 0 where
  pub order : coded_tables tables delivered ≡ coded_tables tables views
  pub coded : AreCoded views tables (coded_tables tables delivered)

-- Where the results are views that lie in the tables and have no place in common, they may be put in in the order in
-- which any number of workers delivers them, once all are delivered.
abbrev pub CodedAnyOrder : Type 0
CodedAnyOrder =
    (tables : Tables) (views : List View) → All (ViewLies tables) views → AreViewsApart views
    → (workers : ℕ) (events : List Event)
    → length (after views (length views) events (start workers)).delivered ≡ length views
    → AreCodedByNumber tables views (delivered_results (after views (length views) events (start workers)))
