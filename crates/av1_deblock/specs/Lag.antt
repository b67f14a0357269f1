-- The edges of a plane in one walk: the horizontal edges follow the vertical ones, one row and two
-- columns behind.
use Rattle.std.specs.Prelude.{ℕ, zero, suc, ℤ, ◌≡◌, ◌+◌, ◌-◌, ◌≤◌, nat_le, nat_lt, ◌&&◌, true, false, if◌then◌else◌, List, [], ◌++◌, Option}
use Rattle.std.specs.Option.{option_to_list}
use Rattle.av1_deblock.specs.declared.edge.Edge.{Edge}
use Rattle.av1_deblock.specs.Edges.{EdgeSet, edge_in, IsEdgeSet}
use Rattle.av1_deblock.specs.Passes.{Raster, filtered, passed}

-- what the walk does at column u of row v: the vertical edge there, and the horizontal one of two columns
-- before in the row above. It goes two columns and one row past the plane.
abbrev pub leading : (ℕ → ℕ → Option Edge) → ℕ → ℕ → ℕ → ℕ → List Edge
leading vertical cols rows u v = if nat_lt u cols && nat_lt v rows then option_to_list (vertical u v) else []

-- the horizontal edge two columns before in the row above, if there is one
abbrev pub following : (ℕ → ℕ → Option Edge) → ℕ → ℕ → List Edge
following horizontal u v = if nat_le 2 u && nat_le 1 v then option_to_list (horizontal (u - 2) (v - 1)) else []

-- the first n columns of the walk's row v
unfoldable pub lag_row : (ℕ → ℕ → Option Edge) → (ℕ → ℕ → Option Edge) → ℕ → ℕ → ℕ → ℕ → List Edge
lag_row vertical horizontal cols rows v zero = []
lag_row vertical horizontal cols rows v (suc n) =
    lag_row vertical horizontal cols rows v n ++ (leading vertical cols rows n v ++ following horizontal n v)

-- the first n rows of the walk
unfoldable pub lag_above : (ℕ → ℕ → Option Edge) → (ℕ → ℕ → Option Edge) → ℕ → ℕ → ℕ → List Edge
lag_above vertical horizontal cols rows zero = []
lag_above vertical horizontal cols rows (suc n) =
    lag_above vertical horizontal cols rows n ++ lag_row vertical horizontal cols rows n (cols + 2)

-- the whole walk
abbrev pub lag : (ℕ → ℕ → Option Edge) → (ℕ → ℕ → Option Edge) → ℕ → ℕ → List Edge
lag vertical horizontal cols rows = lag_above vertical horizontal cols rows (rows + 1)

-- one walk over a set's edges
abbrev pub lagged : Raster → ℕ → ℕ → EdgeSet → List ℤ
lagged r cols rows set = filtered r (lag (edge_in set true) (edge_in set false) cols rows)

-- one walk gives the two whole passes, for each plane and edge set with lines inside the plane's columns
abbrev pub LagIsTwoPasses : Type 0
LagIsTwoPasses = (r : Raster) (cols rows width height : ℕ) (set : EdgeSet) →
    width ≤ r.step → IsEdgeSet cols rows width height set →
    lagged r cols rows set ≡ passed r cols rows set
