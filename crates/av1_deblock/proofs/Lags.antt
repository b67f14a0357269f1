-- Edges that share no sample change places, so that one walk gives the two passes.
use Rattle.std.proofs.Common.{◌≡◌, ◌≢◌, ℕ, ℤ, pos, zero, suc, ◌+◌, ◌-◌, ◌*◌, ◌/◌, ◌<◌, ◌≤◌, Bool, true, false, nat_le, nat_lt, ◌&&◌, if◌then◌else◌, List, [], ◌∷◌, ◌++◌, set, get_or, All, refl, sym, ◌∙◌, ap, subst, arith, append_assoc, append-nil, inl, inr, ◌⊎◌}
use Rattle.std.specs.Prelude.{Option, Some, None}
use Rattle.std.specs.Option.{option_to_list}
use Rattle.std.proofs.Math.Nat.{mul-le-mul_right}
use Rattle.std.proofs.lemmas.Bool.{cases_lt, cases_eq}
use Rattle.std.proofs.lemmas.Bool.Decides.{nat_tests}
use Rattle.std.proofs.lemmas.List.{set_comm}
use Rattle.std.proofs.lemmas.List.Elements.{All-append}
use Rattle.av1_plane.specs.Region.{spot}
use Rattle.av1_deblock.specs.declared.edge.Edge.{Edge}
use Rattle.av1_deblock.specs.Line.{IsSize, line}
use Rattle.av1_deblock.specs.Edges.{EdgeFilter, EdgeSet, edge_of, edge_with, edge_in, row_edges, edges_above, IsEdgeSet}
use Rattle.av1_deblock.specs.Passes.{edge_place, gathered, scattered, with_line, with_lines, with_edge, with_edges}
use Rattle.av1_deblock.specs.Lag.{leading, following, lag_row, lag_above, lag, LagIsTwoPasses}
use Rattle.av1_deblock.proofs.Lines.{place_vertical, place_horizontal}
use Rattle.av1_deblock.proofs.SideBySide.{gathered_same, scattered_off}
use Rattle.av1_deblock.proofs.EdgeLists.{with_edges-append}

-- Where edges stand.

-- a vertical edge before column u in row v; its lines lie in rows of `step` samples
record StandsBefore (step u v : ℕ) (e : Edge) : Type 0 where
  vertical : e.vertical ≡ true
  x : e.x + e.size / 2 ≡ 4 * u
  y : e.y ≡ 4 * v
  size : e.size ≤ 14
  inside : e.x + e.size ≤ step

-- a horizontal edge above row v in column u
record StandsAbove (step u v : ℕ) (e : Edge) : Type 0 where
  vertical : e.vertical ≡ false
  x : e.x ≡ 4 * u
  y : e.y + e.size / 2 ≡ 4 * v
  size : e.size ≤ 14
  inside : e.x + 4 ≤ step

-- vertical edges that each stand before their column, inside the plane
record IsVerticalSet (step cols rows : ℕ) (f : ℕ → ℕ → Option Edge) : Type 0 where
  each : (u v : ℕ) (e : Edge) → u < cols → v < rows → f u v ≡ Some e → StandsBefore step u v e

-- horizontal edges that each stand above their row, inside the plane
record IsHorizontalSet (step cols rows : ℕ) (f : ℕ → ℕ → Option Edge) : Type 0 where
  each : (u v : ℕ) (e : Edge) → u < cols → v < rows → f u v ≡ Some e → StandsAbove step u v e

-- two edges have no sample in common
record AreApart (origin step : ℕ) (e f : Edge) : Type 0 where
  each : (k j l i : ℕ) → k < 4 → j < e.size → l < 4 → i < f.size → edge_place origin step e k j ≢ edge_place origin step f l i

-- Edges apart change places.

-- a line is read as before where another is written
gather_past : (o s : ℕ) (xs : List ℤ) (e : Edge) (k n : ℕ) (f : Edge) (l : ℕ) (ys : List ℤ) (m : ℕ) → ((j i : ℕ) → j < n → i < m → edge_place o s e k j ≢ edge_place o s f l i) →
    gathered o s (scattered o s xs f l ys m) e k n ≡ gathered o s xs e k n
gather_past o s xs e k n f l ys m h = gathered_same o s (scattered o s xs f l ys m) xs e k n (λ j lj. scattered_off o s xs f l ys m (edge_place o s e k j) (λ i li. h j i lj li))

-- a sample is written before or after a line that doesn't have it
set_past : (o s : ℕ) (xs : List ℤ) (f : Edge) (l : ℕ) (ys : List ℤ) (m p : ℕ) (z : ℤ) → ((i : ℕ) → i < m → p ≢ edge_place o s f l i) →
    set (scattered o s xs f l ys m) p z ≡ scattered o s (set xs p z) f l ys m
unfolding scattered
set_past o s xs f l ys zero p z h = refl
set_past o s xs f l ys (suc m) p z h =
    set_comm (scattered o s xs f l ys m) (edge_place o s f l m) p (get_or ys m (pos 0)) z (λ e. h m (omega arith) (sym e))
    ∙ ap (λ zs. set zs (edge_place o s f l m) (get_or ys m (pos 0))) (set_past o s xs f l ys m p z (λ i li. h i (omega arith)))

-- two lines without a common sample are written in either order
scatter_past : (o s : ℕ) (xs : List ℤ) (e : Edge) (k : ℕ) (zs : List ℤ) (n : ℕ) (f : Edge) (l : ℕ) (ys : List ℤ) (m : ℕ) → ((j i : ℕ) → j < n → i < m → edge_place o s e k j ≢ edge_place o s f l i) →
    scattered o s (scattered o s xs f l ys m) e k zs n ≡ scattered o s (scattered o s xs e k zs n) f l ys m
unfolding scattered
scatter_past o s xs e k zs zero f l ys m h = refl
scatter_past o s xs e k zs (suc n) f l ys m h =
    ap (λ ws. set ws (edge_place o s e k n) (get_or zs n (pos 0))) (scatter_past o s xs e k zs n f l ys m (λ j i lj li. h j i (omega arith) li))
    ∙ set_past o s (scattered o s xs e k zs n) f l ys m (edge_place o s e k n) (get_or zs n (pos 0)) (λ i li. h n i (omega arith) li)

-- two lines without a common sample are filtered in either order
line_past : (bd o s : ℕ) (xs : List ℤ) (e : Edge) (k : ℕ) (f : Edge) (l : ℕ) → k < 4 → l < 4 → AreApart o s e f →
    with_line bd o s (with_line bd o s xs f l) e k ≡ with_line bd o s (with_line bd o s xs e k) f l
unfolding with_line
line_past bd o s xs e k f l lk ll h =
    let ys = line bd f.size f.level (gathered o s xs f l f.size) in
    let zs = line bd e.size e.level (gathered o s xs e k e.size) in
    ap (λ ws. scattered o s (scattered o s xs f l ys f.size) e k (line bd e.size e.level ws) e.size) (gather_past o s xs e k e.size f l ys f.size (λ j i lj li. h.each k j l i lk lj ll li))
    ∙ scatter_past o s xs e k zs e.size f l ys f.size (λ j i lj li. h.each k j l i lk lj ll li)
    ∙ ap (λ ws. scattered o s (scattered o s xs e k zs e.size) f l (line bd f.size f.level ws) f.size) (sym (gather_past o s xs f l f.size e k zs e.size (λ i j li lj g. h.each k j l i lk lj ll li (sym g))))

-- a line and the lines of an edge without a common sample are filtered in either order
lines_past : (bd o s : ℕ) (xs : List ℤ) (e : Edge) (k : ℕ) (f : Edge) (m : ℕ) → k < 4 → m ≤ 4 → AreApart o s e f →
    with_line bd o s (with_lines bd o s xs f m) e k ≡ with_lines bd o s (with_line bd o s xs e k) f m
unfolding with_lines
lines_past bd o s xs e k f zero lk lm h = refl
lines_past bd o s xs e k f (suc m) lk lm h =
    line_past bd o s (with_lines bd o s xs f m) e k f m lk (omega arith) h
    ∙ ap (λ zs. with_line bd o s zs f m) (lines_past bd o s xs e k f m lk (omega arith) h)

-- two edges without a common sample are filtered in either order
edge_past : (bd o s : ℕ) (xs : List ℤ) (e f : Edge) (n : ℕ) → n ≤ 4 → AreApart o s e f →
    with_lines bd o s (with_lines bd o s xs f 4) e n ≡ with_lines bd o s (with_lines bd o s xs e n) f 4
unfolding with_lines
edge_past bd o s xs e f zero l h = refl
edge_past bd o s xs e f (suc n) l h =
    ap (λ zs. with_line bd o s zs e n) (edge_past bd o s xs e f n (omega arith) h)
    ∙ lines_past bd o s (with_lines bd o s xs e n) e n f 4 (omega arith) (omega arith) h

-- what holds of a list holds of its first edge
head_of : (P : Edge → Type 0) (f : Edge) (fs : List Edge) → All P (f ∷ fs) → P f
head_of P f fs h = h 0 f (omega arith)

-- what holds of all edges of a list holds of all but the first
tail_of : (P : Edge → Type 0) (f : Edge) (fs : List Edge) → All P (f ∷ fs) → All P fs
tail_of P f fs h k d l = h (suc k) d (omega arith)

-- an edge goes before edges with which it shares no sample
edges_past : (bd o s : ℕ) (xs : List ℤ) (e : Edge) (fs : List Edge) → All (AreApart o s e) fs → with_edge bd o s (with_edges bd o s xs fs) e ≡ with_edges bd o s (with_edge bd o s xs e) fs
unfolding with_edges
edges_past bd o s xs e [] h = refl
edges_past bd o s xs e (f ∷ fs) h =
    edges_past bd o s (with_edge bd o s xs f) e fs (tail_of (AreApart o s e) f fs h)
    ∙ ap (λ zs. with_edges bd o s zs fs) (edge_past bd o s xs e f 4 (omega arith) (head_of (AreApart o s e) f fs h))

-- A walk's edges, sorted by direction.

-- the walk's vertical and horizontal edges by themselves
lead_row : (ℕ → ℕ → Option Edge) → ℕ → ℕ → ℕ → ℕ → List Edge
lead_row vs cols rows v zero = []
lead_row vs cols rows v (suc n) = lead_row vs cols rows v n ++ leading vs cols rows n v

-- the vertical edges of the walk's first n rows
lead_above : (ℕ → ℕ → Option Edge) → ℕ → ℕ → ℕ → List Edge
lead_above vs cols rows zero = []
lead_above vs cols rows (suc n) = lead_above vs cols rows n ++ lead_row vs cols rows n (cols + 2)

-- the horizontal edges of the first n columns of row v
follow_row : (ℕ → ℕ → Option Edge) → ℕ → ℕ → List Edge
follow_row hs v zero = []
follow_row hs v (suc n) = follow_row hs v n ++ following hs n v

-- the horizontal edges that follow in the first n rows of the walk
follow_above : (ℕ → ℕ → Option Edge) → ℕ → ℕ → List Edge
follow_above hs cols zero = []
follow_above hs cols (suc n) = follow_above hs cols n ++ follow_row hs n (cols + 2)

-- every vertical edge in ws is apart from every horizontal one in hs
AllApart : ℕ → ℕ → List Edge → List Edge → Type 0
AllApart o s ws hs = All (λ w. All (AreApart o s w) hs) ws

-- edges go before edges with which they share no sample
lists_past : (bd o s : ℕ) (xs : List ℤ) (ws hs : List Edge) → AllApart o s ws hs → with_edges bd o s (with_edges bd o s xs hs) ws ≡ with_edges bd o s (with_edges bd o s xs ws) hs
unfolding with_edges AllApart
lists_past bd o s xs [] hs h = refl
lists_past bd o s xs (w ∷ ws) hs h =
    ap (λ zs. with_edges bd o s zs ws) (edges_past bd o s xs w hs (head_of (λ e. All (AreApart o s e) hs) w ws h))
    ∙ lists_past bd o s (with_edge bd o s xs w) ws hs (tail_of (λ e. All (AreApart o s e) hs) w ws h)

-- the edges es are applied as the vertical ones vs and then the horizontal ones hs
record IsSorted (bd o s : ℕ) (es vs hs : List Edge) : Type 0 where
  each : (xs : List ℤ) → with_edges bd o s xs es ≡ with_edges bd o s (with_edges bd o s xs vs) hs

-- an empty list is sorted into two empty lists
sorted_none : (bd o s : ℕ) → IsSorted bd o s [] [] []
unfolding with_edges
sorted_none bd o s = record { each = λ xs. refl }

-- one place more of a walk keeps its list sorted
sorted_more : (bd o s : ℕ) (es vs hs ws fs : List Edge) → IsSorted bd o s es vs hs → AllApart o s ws hs → IsSorted bd o s (es ++ (ws ++ fs)) (vs ++ ws) (hs ++ fs)
sorted_more bd o s es vs hs ws fs h a = record {
  each = λ xs.
      with_edges-append bd o s xs es (ws ++ fs)
      ∙ with_edges-append bd o s (with_edges bd o s xs es) ws fs
      ∙ ap (λ zs. with_edges bd o s (with_edges bd o s zs ws) fs) (h.each xs)
      ∙ ap (λ zs. with_edges bd o s zs fs) (lists_past bd o s (with_edges bd o s xs vs) ws hs a)
      ∙ ap (λ zs. with_edges bd o s (with_edges bd o s zs hs) fs) (sym (with_edges-append bd o s xs vs ws))
      ∙ sym (with_edges-append bd o s (with_edges bd o s xs (vs ++ ws)) hs fs);
}

-- Which edges are apart.

-- places in different rows differ
rows_differ : (o s x y x' y' : ℕ) → x < s → y < y' → spot o s x y ≢ spot o s x' y'
rows_differ o s x y x' y' l h e =
    let rows : (y + 1) * s ≤ y' * s = mul-le-mul_right s (omega arith) in
    let more : (y + 1) * s ≡ y * s + s = grind arith in
    omega arith

-- places in different columns differ
columns_differ : (o s x y x' y' : ℕ) → x < s → x' < s → x < x' → spot o s x y ≢ spot o s x' y'
columns_differ o s x y x' y' l l' h e = elim (cases_lt y y') [
  | inl less ↦ rows_differ o s x y x' y' l less e
  | inr more ↦ elim (cases_eq y y') [
    | inl same ↦ let rows : y * s ≡ y' * s = ap (λ i. i * s) same in omega arith
    | inr other ↦ rows_differ o s x' y' x y l' (omega arith) (sym e)
  ]
]

-- a vertical edge at least two rows below a horizontal one is apart from it
below_apart : (o s u v x y : ℕ) (e f : Edge) → StandsBefore s u v e → StandsAbove s x y f → y + 2 ≤ v → AreApart o s e f
below_apart o s u v x y e f h k d = record {
  each = λ i j l m li lj ll lm g.
      let a = place_vertical o s e i j h.vertical in
      let b = place_horizontal o s f l m k.vertical in
      let iy = h.y in let ky = k.y in let ks = k.size in let fi = k.inside in
      rows_differ o s (f.x + l) (f.y + m) (e.x + j) (e.y + i) (omega arith) (omega arith) (sym b ∙ sym g ∙ a);
}

-- a vertical edge one row below a horizontal one, and three columns right of it, is apart from it
right_apart : (o s u v x y : ℕ) (e f : Edge) → StandsBefore s u v e → StandsAbove s x y f → x + 3 ≤ u → AreApart o s e f
right_apart o s u v x y e f h k d = record {
  each = λ i j l m li lj ll lm g.
      let a = place_vertical o s e i j h.vertical in
      let b = place_horizontal o s f l m k.vertical in
      let hx = h.x in let hs = h.size in let hi = h.inside in let kx = k.x in let ki = k.inside in
      columns_differ o s (f.x + l) (f.y + m) (e.x + j) (e.y + i) (omega arith) (omega arith) (omega arith) (sym b ∙ sym g ∙ a);
}

-- lists that are equal to sorted lists are sorted
sorted_as : (bd o s : ℕ) (es es' vs vs' hs hs' : List Edge) → es ≡ es' → vs ≡ vs' → hs ≡ hs' → IsSorted bd o s es vs hs → IsSorted bd o s es' vs' hs'
sorted_as bd o s es es' vs vs' hs hs' e f g h = rw (← e, ← f, ← g) h

-- any fact holds of all of no edges
all_none : (P : Edge → Type 0) → All P []
all_none P k d l = absurd (omega arith)

-- what holds of an edge holds of the list of this edge
all_one : (P : Edge → Type 0) (e : Edge) → P e → All P (e ∷ [])
all_one P e h zero d l = h
all_one P e h (suc k) d l = absurd (omega arith)

-- what holds of the edge at a place, if there is one, holds of the list with it
all_option : (P : Edge → Type 0) (o : Option Edge) → ((e : Edge) → o ≡ Some e → P e) → All P (option_to_list o)
all_option P None h = all_none P
all_option P (Some e) h = all_one P e (h e refl)

-- what holds of a list holds where a test lets it in
all_if : (P : Edge → Type 0) (b : Bool) (es : List Edge) → (b ≡ true → All P es) → All P (if b then es else [])
all_if P true es h = h refl
all_if P false es h = all_none P

-- two tests for at most that hold together hold each
both_true : (a b c d : ℕ) → (nat_le a b && nat_le c d) ≡ true → (a ≤ b) × (c ≤ d)
both_true a b c d h = (grind (arith, nat_tests), grind (arith, nat_tests))

-- two tests for less that hold together hold each
both_less : (a b c d : ℕ) → (nat_lt a b && nat_lt c d) ≡ true → (a < b) × (c < d)
both_less a b c d h = (grind (arith, nat_tests), grind (arith, nat_tests))

-- the horizontal edge that follows at column n of row v', as a vertical edge at column u of row v comes later
following_apart : (o s cols rows u v n v' : ℕ) (hs : ℕ → ℕ → Option Edge) (e : Edge) → IsHorizontalSet s cols rows hs → StandsBefore s u v e → v < rows → n < cols + 2 → v' ≤ v → (v' < v) ⊎ (n < u) →
    All (AreApart o s e) (following hs n v')
following_apart o s cols rows u v n v' hs e k h lv ln lv' later =
    all_if (AreApart o s e) (nat_le 2 n && nat_le 1 v') (option_to_list (hs (n - 2) (v' - 1))) (λ t. all_option (AreApart o s e) (hs (n - 2) (v' - 1)) (at (both_true 2 n 1 v' t)))
  where
    at : (2 ≤ n) × (1 ≤ v') → (f : Edge) → hs (n - 2) (v' - 1) ≡ Some f → AreApart o s e f
    at b f is =
        let two = b.0 in
        let one = b.1 in
        let stands = k.each (n - 2) (v' - 1) f (omega arith) (omega arith) is in
        elim later [
          | inl row ↦ below_apart o s u v (n - 2) (v' - 1) e f h stands (omega arith)
          | inr column ↦ right_apart o s u v (n - 2) (v' - 1) e f h stands (omega arith)
        ]

-- a vertical edge of the walk is apart from the horizontal edges before it in a row
row_apart : (o s cols rows u v n v' : ℕ) (hs : ℕ → ℕ → Option Edge) (e : Edge) → IsHorizontalSet s cols rows hs → StandsBefore s u v e → v < rows → n ≤ cols + 2 → v' ≤ v → (v' < v) ⊎ (n ≤ u) →
    All (AreApart o s e) (follow_row hs v' n)
unfolding follow_row
row_apart o s cols rows u v zero v' hs e k h lv ln lv' later = all_none (AreApart o s e)
row_apart o s cols rows u v (suc n) v' hs e k h lv ln lv' (inl row) =
    All-append (AreApart o s e) (follow_row hs v' n) (following hs n v')
    (row_apart o s cols rows u v n v' hs e k h lv (omega arith) lv' (inl row))
    (following_apart o s cols rows u v n v' hs e k h lv (omega arith) lv' (inl row))
row_apart o s cols rows u v (suc n) v' hs e k h lv ln lv' (inr column) =
    All-append (AreApart o s e) (follow_row hs v' n) (following hs n v')
    (row_apart o s cols rows u v n v' hs e k h lv (omega arith) lv' (inr (omega arith)))
    (following_apart o s cols rows u v n v' hs e k h lv (omega arith) lv' (inr (omega arith)))

-- a vertical edge of the walk is apart from the horizontal edges in the rows above
above_apart : (o s cols rows u v n : ℕ) (hs : ℕ → ℕ → Option Edge) (e : Edge) → IsHorizontalSet s cols rows hs → StandsBefore s u v e → v < rows → n ≤ v → All (AreApart o s e) (follow_above hs cols n)
unfolding follow_above
above_apart o s cols rows u v zero hs e k h lv l = all_none (AreApart o s e)
above_apart o s cols rows u v (suc n) hs e k h lv l =
    All-append (AreApart o s e) (follow_above hs cols n) (follow_row hs n (cols + 2))
    (above_apart o s cols rows u v n hs e k h lv (omega arith))
    (row_apart o s cols rows u v (cols + 2) n hs e k h lv (omega arith) (omega arith) (inl (omega arith)))

-- a vertical edge of the walk is apart from all horizontal edges before it
leading_apart : (o s cols rows u v : ℕ) (vs hs : ℕ → ℕ → Option Edge) → IsVerticalSet s cols rows vs → IsHorizontalSet s cols rows hs → u < cols + 2 →
    AllApart o s (leading vs cols rows u v) (follow_above hs cols v ++ follow_row hs v u)
unfolding AllApart
leading_apart o s cols rows u v vs hs k h lu =
    all_if (λ w. All (AreApart o s w) (follow_above hs cols v ++ follow_row hs v u)) (nat_lt u cols && nat_lt v rows) (option_to_list (vs u v))
    (λ t. all_option (λ w. All (AreApart o s w) (follow_above hs cols v ++ follow_row hs v u)) (vs u v) (at (both_less u cols v rows t)))
  where
    at : (u < cols) × (v < rows) → (e : Edge) → vs u v ≡ Some e → All (AreApart o s e) (follow_above hs cols v ++ follow_row hs v u)
    at b e is =
        let stands = k.each u v e b.0 b.1 is in
        All-append (AreApart o s e) (follow_above hs cols v) (follow_row hs v u)
        (above_apart o s cols rows u v v hs e h stands b.1 (omega arith))
        (row_apart o s cols rows u v u v hs e h stands b.1 (omega arith) (omega arith) (inr (omega arith)))

-- the first n columns of row v, after the rows above
row_sorted : (bd o s cols rows v n : ℕ) (vs hs : ℕ → ℕ → Option Edge) → IsVerticalSet s cols rows vs → IsHorizontalSet s cols rows hs → n ≤ cols + 2 →
    IsSorted bd o s (lag_above vs hs cols rows v) (lead_above vs cols rows v) (follow_above hs cols v) →
    IsSorted bd o s (lag_above vs hs cols rows v ++ lag_row vs hs cols rows v n) (lead_above vs cols rows v ++ lead_row vs cols rows v n) (follow_above hs cols v ++ follow_row hs v n)
unfolding lag_row lead_row follow_row
row_sorted bd o s cols rows v zero vs hs k h l i =
    sorted_as bd o s _ _ _ _ _ _ (sym (append-nil (lag_above vs hs cols rows v))) (sym (append-nil (lead_above vs cols rows v))) (sym (append-nil (follow_above hs cols v))) i
row_sorted bd o s cols rows v (suc n) vs hs k h l i =
    sorted_as bd o s _ _ _ _ _ _
    (append_assoc (lag_above vs hs cols rows v) (lag_row vs hs cols rows v n) (leading vs cols rows n v ++ following hs n v))
    (append_assoc (lead_above vs cols rows v) (lead_row vs cols rows v n) (leading vs cols rows n v))
    (append_assoc (follow_above hs cols v) (follow_row hs v n) (following hs n v))
    (sorted_more bd o s _ _ _ (leading vs cols rows n v) (following hs n v)
    (row_sorted bd o s cols rows v n vs hs k h (omega arith) i)
    (leading_apart o s cols rows n v vs hs k h (omega arith)))

-- the first n rows of the walk are sorted
walk_sorted : (bd o s cols rows n : ℕ) (vs hs : ℕ → ℕ → Option Edge) → IsVerticalSet s cols rows vs → IsHorizontalSet s cols rows hs →
    IsSorted bd o s (lag_above vs hs cols rows n) (lead_above vs cols rows n) (follow_above hs cols n)
unfolding lag_above lead_above follow_above
walk_sorted bd o s cols rows zero vs hs k h = sorted_none bd o s
walk_sorted bd o s cols rows (suc n) vs hs k h = row_sorted bd o s cols rows n (cols + 2) vs hs k h (omega arith) (walk_sorted bd o s cols rows n vs hs k h)

-- The walk has the vertical and the horizontal edges of the two passes, each in the order of its pass.

-- a list under a test that holds is the list
if_true : (b : Bool) (es : List Edge) → b ≡ true → (if b then es else []) ≡ es
if_true b es h = rw h refl

-- a list under a test that fails is empty
if_false : (b : Bool) (es : List Edge) → b ≡ false → (if b then es else []) ≡ []
if_false b es h = rw h refl

-- inside the plane the walk's vertical edges are the pass's
lead_inside : (vs : ℕ → ℕ → Option Edge) (cols rows v n : ℕ) → v < rows → n ≤ cols → lead_row vs cols rows v n ≡ row_edges vs v n
unfolding lead_row row_edges
lead_inside vs cols rows v zero lv ln = refl
lead_inside vs cols rows v (suc n) lv ln =
    let t : (nat_lt n cols && nat_lt v rows) ≡ true = grind (arith, nat_tests) in
    ap (λ es. es ++ leading vs cols rows n v) (lead_inside vs cols rows v n lv (omega arith))
    ∙ ap (λ es. row_edges vs v n ++ es) (if_true (nat_lt n cols && nat_lt v rows) (option_to_list (vs n v)) t)

-- no vertical edge stands in the two columns past a row
lead_past : (vs : ℕ → ℕ → Option Edge) (cols rows v : ℕ) → v < rows → lead_row vs cols rows v (suc (suc cols)) ≡ row_edges vs v cols
unfolding lead_row
lead_past vs cols rows v lv =
    let a : (nat_lt cols cols && nat_lt v rows) ≡ false = grind (arith, nat_tests) in
    let b : (nat_lt (suc cols) cols && nat_lt v rows) ≡ false = grind (arith, nat_tests) in
    ap (λ es. (lead_row vs cols rows v cols ++ leading vs cols rows cols v) ++ es) (if_false (nat_lt (suc cols) cols && nat_lt v rows) (option_to_list (vs (suc cols) v)) b)
    ∙ append-nil (lead_row vs cols rows v cols ++ leading vs cols rows cols v)
    ∙ ap (λ es. lead_row vs cols rows v cols ++ es) (if_false (nat_lt cols cols && nat_lt v rows) (option_to_list (vs cols v)) a)
    ∙ append-nil (lead_row vs cols rows v cols)
    ∙ lead_inside vs cols rows v cols lv (omega arith)

-- no vertical edge stands in the row past the plane
lead_last : (vs : ℕ → ℕ → Option Edge) (cols rows n : ℕ) → lead_row vs cols rows rows n ≡ []
unfolding lead_row
lead_last vs cols rows zero = refl
lead_last vs cols rows (suc n) =
    let t : (nat_lt n cols && nat_lt rows rows) ≡ false = grind (arith, nat_tests) in
    ap (λ es. lead_row vs cols rows rows n ++ es) (if_false (nat_lt n cols && nat_lt rows rows) (option_to_list (vs n rows)) t)
    ∙ append-nil (lead_row vs cols rows rows n) ∙ lead_last vs cols rows n

-- two more than n is the second number after n
two_more : (n : ℕ) → n + 2 ≡ suc (suc n)
two_more n = omega arith

-- the walk has the vertical edges of the pass, row by row
lead_rows : (vs : ℕ → ℕ → Option Edge) (cols rows n : ℕ) → n ≤ rows → lead_above vs cols rows n ≡ edges_above vs cols n
unfolding lead_above edges_above
lead_rows vs cols rows zero l = refl
lead_rows vs cols rows (suc n) l =
    ap (λ es. es ++ lead_row vs cols rows n (cols + 2)) (lead_rows vs cols rows n (omega arith))
    ∙ ap (λ m. edges_above vs cols n ++ lead_row vs cols rows n m) (two_more cols)
    ∙ ap (λ es. edges_above vs cols n ++ es) (lead_past vs cols rows n (omega arith))

-- the vertical edges of the walk are the edges of the vertical pass
lead_all : (vs : ℕ → ℕ → Option Edge) (cols rows : ℕ) → lead_above vs cols rows (suc rows) ≡ edges_above vs cols rows
unfolding lead_above
lead_all vs cols rows =
    ap (λ es. lead_above vs cols rows rows ++ es) (lead_last vs cols rows (cols + 2)) ∙ append-nil (lead_above vs cols rows rows) ∙ lead_rows vs cols rows rows (omega arith)

-- no horizontal edge follows in the first row
follow_first : (hs : ℕ → ℕ → Option Edge) (n : ℕ) → follow_row hs 0 n ≡ []
unfolding follow_row
follow_first hs zero = refl
follow_first hs (suc n) =
    let t : (nat_le 2 n && nat_le 1 0) ≡ false = grind (arith, nat_tests) in
    ap (λ es. follow_row hs 0 n ++ es) (if_false (nat_le 2 n && nat_le 1 0) (option_to_list (hs (n - 2) (0 - 1))) t) ∙ append-nil (follow_row hs 0 n) ∙ follow_first hs n

-- one column more adds the horizontal edge that follows there
follow_more : (hs : ℕ → ℕ → Option Edge) (v n : ℕ) → follow_row hs v (suc n) ≡ follow_row hs v n ++ following hs n v
unfolding follow_row
follow_more hs v n = refl

-- two columns behind, the walk has the horizontal edges of a row of the pass
follow_inside : (hs : ℕ → ℕ → Option Edge) (v n : ℕ) → follow_row hs (suc v) (suc (suc n)) ≡ row_edges hs v n
unfolding follow_row row_edges
follow_inside hs v zero =
    let a : (nat_le 2 0 && nat_le 1 (suc v)) ≡ false = grind (arith, nat_tests) in
    let b : (nat_le 2 1 && nat_le 1 (suc v)) ≡ false = grind (arith, nat_tests) in
    follow_more hs (suc v) 1
    ∙ ap (λ es. es ++ following hs 1 (suc v)) (follow_more hs (suc v) 0)
    ∙ ap (λ es. es ++ following hs 1 (suc v)) (if_false (nat_le 2 0 && nat_le 1 (suc v)) (option_to_list (hs (0 - 2) (suc v - 1))) a)
    ∙ if_false (nat_le 2 1 && nat_le 1 (suc v)) (option_to_list (hs (1 - 2) (suc v - 1))) b
follow_inside hs v (suc n) =
    let t : (nat_le 2 (suc (suc n)) && nat_le 1 (suc v)) ≡ true = grind (arith, nat_tests) in
    let x : suc (suc n) - 2 ≡ n = omega arith in
    let y : suc v - 1 ≡ v = omega arith in
    ap (λ es. es ++ following hs (suc (suc n)) (suc v)) (follow_inside hs v n)
    ∙ ap (λ es. row_edges hs v n ++ es) (if_true (nat_le 2 (suc (suc n)) && nat_le 1 (suc v)) (option_to_list (hs (suc (suc n) - 2) (suc v - 1))) t)
    ∙ ap (λ i. row_edges hs v n ++ option_to_list (hs i (suc v - 1))) x
    ∙ ap (λ i. row_edges hs v n ++ option_to_list (hs n i)) y

-- the horizontal edges of the walk are the edges of the horizontal pass
follow_all : (hs : ℕ → ℕ → Option Edge) (cols n : ℕ) → follow_above hs cols (suc n) ≡ edges_above hs cols n
unfolding follow_above edges_above
follow_all hs cols zero = follow_first hs (cols + 2)
follow_all hs cols (suc n) =
    ap (λ es. es ++ follow_row hs (suc n) (cols + 2)) (follow_all hs cols n)
    ∙ ap (λ m. edges_above hs cols n ++ follow_row hs (suc n) m) (two_more cols)
    ∙ ap (λ es. edges_above hs cols n ++ es) (follow_inside hs n cols)

-- the walk gives the passes
two_passes : (bd o s cols rows : ℕ) (xs : List ℤ) (vs hs : ℕ → ℕ → Option Edge) → IsVerticalSet s cols rows vs → IsHorizontalSet s cols rows hs →
    with_edges bd o s xs (lag vs hs cols rows) ≡ with_edges bd o s xs (edges_above vs cols rows ++ edges_above hs cols rows)
two_passes bd o s cols rows xs vs hs k h =
    let last : rows + 1 ≡ suc rows = omega arith in
    ap (λ n. with_edges bd o s xs (lag_above vs hs cols rows n)) last
    ∙ (walk_sorted bd o s cols rows (suc rows) vs hs k h).each xs
    ∙ ap (λ es. with_edges bd o s (with_edges bd o s xs es) (follow_above hs cols (suc rows))) (lead_all vs cols rows)
    ∙ ap (λ es. with_edges bd o s (with_edges bd o s xs (edges_above vs cols rows)) es) (follow_all hs cols rows)
    ∙ sym (with_edges-append bd o s xs (edges_above vs cols rows) (edges_above hs cols rows))

-- The edges of a set stand as the walk wants them.

-- a line has at most 14 samples
few : (n : ℕ) → IsSize n → n ≤ 14
few n h = elim h [ inl e ↦ omega arith | inr k ↦ elim k [ inl e ↦ omega arith | inr j ↦ elim j [ inl e ↦ omega arith | inr e ↦ omega arith ] ] ]

-- the edge of a filter is that of some filter
with_some : (vertical : Bool) (u v : ℕ) (o : Option EdgeFilter) (e : Edge) (P : Edge → Type 0) → ((f : EdgeFilter) → o ≡ Some f → P (edge_of vertical u v f)) → edge_with vertical u v o ≡ Some e → P e
with_some vertical u v None e P at h = absurd (cc)
with_some vertical u v (Some f) e P at h =
    let same : edge_of vertical u v f ≡ e = cc in subst P same (at f refl)

-- the vertical edges of an edge set stand as the walk needs them
set_vertical : (cols rows width height step : ℕ) (set : EdgeSet) → width ≤ step → IsEdgeSet cols rows width height set → IsVerticalSet step cols rows (edge_in set true)
set_vertical cols rows width height step set l h = record {
  each = λ u v e lu lv is. with_some true u v (set true u v) e (StandsBefore step u v) (at u v lu lv) is;
}
  where
    at : (u v : ℕ) → u < cols → v < rows → (f : EdgeFilter) → set true u v ≡ Some f → StandsBefore step u v (edge_of true u v f)
    at u v lu lv f is =
        let half = h.half true u v f lu lv is in
        let inside = (h.inside true u v f lu lv is).wide in
        record { vertical = refl; x = omega arith; y = refl; size = few f.size (h.size true u v f lu lv is); inside = omega arith }

-- the horizontal edges of an edge set stand as the walk needs them
set_horizontal : (cols rows width height step : ℕ) (set : EdgeSet) → width ≤ step → IsEdgeSet cols rows width height set → IsHorizontalSet step cols rows (edge_in set false)
set_horizontal cols rows width height step set l h = record {
  each = λ u v e lu lv is. with_some false u v (set false u v) e (StandsAbove step u v) (at u v lu lv) is;
}
  where
    at : (u v : ℕ) → u < cols → v < rows → (f : EdgeFilter) → set false u v ≡ Some f → StandsAbove step u v (edge_of false u v f)
    at u v lu lv f is =
        let half = h.half false u v f lu lv is in
        let inside = (h.inside false u v f lu lv is).wide in
        record { vertical = refl; x = refl; y = omega arith; size = few f.size (h.size false u v f lu lv is); inside = omega arith }

-- one walk over an edge set gives the two whole passes
pub lag_is_two_passes : LagIsTwoPasses
lag_is_two_passes r cols rows width height set l h =
    two_passes r.depth r.origin r.step cols rows r.numbers (edge_in set true) (edge_in set false)
    (set_vertical cols rows width height r.step set l h) (set_horizontal cols rows width height r.step set l h)
