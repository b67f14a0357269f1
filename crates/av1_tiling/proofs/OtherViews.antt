-- Writing through the view of one tile changes the view of no other.
use Rattle.std.proofs.Common.{◌≡◌, ◌≢◌, ℕ, ℤ, ◌*◌, ◌<◌, List, [], ◌∷◌, All, length, get_or, refl, inl, inr, sym, ap, ◌∙◌, subst}
use Rattle.std.proofs.Math.Nat.{mul_comm}
use Rattle.std.specs.List.{AllZip}
use Rattle.std.proofs.lemmas.Bool.{cases_order}
use Rattle.std.proofs.lemmas.List.Elements.{All-head, All-tail}
use Rattle.av1_plane.specs.declared.tile_rect.TileRect.{TileRect}
use Rattle.av1_block.specs.Cut.{LiesInTable, AreApart, cut_at, put_at}
use Rattle.av1_block.proofs.Cuts.{length-cut_of, length-with_cut}
use Rattle.av1_block.proofs.CutLaws.{put_of_cut_is_same, cut_of_put_is_put, puts_commute}
use Rattle.av1_tiling.specs.declared.tiling_info.TilingInfo.{TilingInfo}
use Rattle.av1_tiling.specs.Coded.{IsTablePart}
use Rattle.av1_block.specs.declared.me_stats.MEStats.{MEStats}
use Rattle.av1_block.specs.Rows.{Rows}
use Rattle.av1_tiling.specs.Frames.{PartFits, stored_rect, plane_part, part_at, motion_parts, view_of, unit_part, AreTileUnits}
use Rattle.av1_tiling.specs.Laws.{OthersStay}
use Rattle.av1_tiling.specs.Puts.{put, put_motion}
use Rattle.std.specs.Prelude.{◌^◌}
use Rattle.std.specs.Int.{div_ceil}
use Rattle.av1_block.specs.declared.restoration_unit.RestorationUnit.{RestorationUnit}
use Rattle.av1_tiling.specs.Restoration.{Units}
use Rattle.av1_tiling.specs.TileRects.{tile_superblock, tile_luma, tile_samples, tile_blocks, tile_motion, block_columns}
use Rattle.av1_tiling.specs.Views.{Part, PlaneView, SameRect, IsFull}
use Rattle.av1_tiling.proofs.ViewPlaces.{tile_fits_y, tile_fits_u, tile_fits_v, plane_of, table_of, motion_of, units_of, planes_apart, blocks_apart, motions_apart, units_apart}

-- a cut stays where another rectangle was written
cut_stays : {E : Type 0} (table entries : List E) (cols : ℕ) (one other : TileRect) → LiesInTable (length table) cols one → LiesInTable (length table) cols other → AreApart one other
    → cut_at (put_at table cols one entries) cols other ≡ cut_at table cols other
cut_stays table entries cols one other inside inside' apart =
    let before = cut_at table cols other in
    let written = put_at table cols one entries in
    let turned : put_at written cols other before ≡ written =
    puts_commute table entries before cols one other inside inside' apart ∙ ap (λ t. put_at t cols one entries) (put_of_cut_is_same table cols other inside') in
    let long : length written ≡ length table = length-with_cut table cols one.x one.y one.width one.height entries inside in
    let lies : LiesInTable (length written) cols other = subst (λ n. LiesInTable n cols other) (sym long) inside' in
    let area : length before ≡ other.width * other.height =
    length-cut_of table cols other.x other.y other.width other.height inside' ∙ mul_comm other.height other.width in
    ap (λ t. cut_at t cols other) (sym turned) ∙ cut_of_put_is_put written before cols other lies area

-- the part of a tile stays where the part of another tile was put back
part_stays : {E : Type 0} (table : List E) (cols : ℕ) (one other : TileRect) (part : Part E) → IsTablePart (length table) cols (part_at table cols one) → IsTablePart (length table) cols (part_at table cols other)
    → AreApart one other → SameRect (part_at table cols one) part → part_at (put table part) cols other ≡ part_at table cols other
part_stays table cols one other part of of' apart same =
    let entries = part.entries in
    let rect : part.rect ≡ one = same.rect in
    let columns : part.table_cols ≡ cols = same.table_cols in
    let put_is : put table part ≡ put_at table cols one entries = λ i. put_at table (columns i) (rect i) entries in
    let stays : cut_at (put table part) cols other ≡ cut_at table cols other = ap (λ t. cut_at t cols other) put_is ∙ cut_stays table entries cols one other of.lies of'.lies apart in
    λ i. record { rect = other; table_cols = cols; entries = stays i }

-- the motion parts of a tile stay where the parts of another tile were put back
motion_stays : (one other : TileRect) → AreApart one other → (tables : List (Rows MEStats)) (parts : List (Part MEStats))
    → All (λ m. IsTablePart (length m.entries) m.cols (part_at m.entries m.cols one)) tables → All (λ m. IsTablePart (length m.entries) m.cols (part_at m.entries m.cols other)) tables
    → AllZip SameRect (motion_parts tables one) parts → motion_parts (put_motion tables parts) other ≡ motion_parts tables other
unfolding put_motion
motion_stays one other apart [] parts of of' same = refl
motion_stays one other apart (m ∷ tables) [] of of' same = absurd same
motion_stays one other apart (m ∷ tables) (part ∷ parts) of of' same =
    let P = λ (r : TileRect) (t : Rows MEStats). IsTablePart (length t.entries) t.cols (part_at t.entries t.cols r) in
    let first = part_stays m.entries m.cols one other part (All-head (P one) m tables of) (All-head (P other) m tables of') apart same.0 in
    let rest = motion_stays one other apart tables parts (All-tail (P one) m tables of) (All-tail (P other) m tables of') same.1 in
    λ i. first i ∷ rest i

-- tile n's part of a plane's units
abbrev tile_unit_part : TilingInfo → Units → ℕ → Part RestorationUnit
tile_unit_part t u n = unit_part u (tile_superblock t n) (div_ceil (tile_luma t n).width (2 ^ t.sb_size_log2), div_ceil (tile_luma t n).height (2 ^ t.sb_size_log2))

-- what no two of a list have in common, no two have in either order
in_either_order : (count : ℕ) (rect : ℕ → TileRect) → ((m n : ℕ) → m < n → n < count → AreApart (rect m) (rect n)) → (m n : ℕ) → m < count → n < count → m ≢ n → AreApart (rect m) (rect n)
in_either_order count rect apart m n l k other = elim (cases_order m n) [
  | inl same ↦ absurd (other same)
  | inr (inl before) ↦ apart m n before k
  | inr (inr after) ↦ λ u v p q. apart n m after l u v q p
]

-- What is written through the view of one tile changes the view of no other.
pub others_stay : OthersStay
others_stay t s blocks cols rows m n written made full long l k other shape =
    let count = t.cols * t.rows in
    let wide = made.wide in
    let plane_stays = λ (p : PlaneView) (whole : IsFull p) (fits : (i : ℕ) → i < count → PartFits p.cfg (tile_samples t i)) (part : Part ℤ) (same : SameRect (plane_part p (tile_samples t m)) part).
    part_stays p.samples p.cfg.stride (stored_rect p.cfg (tile_samples t m)) (stored_rect p.cfg (tile_samples t n)) part
    (plane_of t s blocks cols rows made m l p whole (fits m l)) (plane_of t s blocks cols rows made n k p whole (fits n k))
    (in_either_order count (λ i. stored_rect p.cfg (tile_samples t i)) (λ a b less below. planes_apart t s blocks cols rows made p.cfg a b (fits b below) less below) m n l k other) same in
    let y = plane_stays s.rec.y full.y (tile_fits_y t s blocks cols rows made) written.ts.rec.y shape.y in
    let u = plane_stays s.rec.u full.u (tile_fits_u t s blocks cols rows made) written.ts.rec.u shape.u in
    let v = plane_stays s.rec.v full.v (tile_fits_v t s blocks cols rows made) written.ts.rec.v shape.v in
    let b = part_stays blocks (block_columns t) (tile_blocks t m) (tile_blocks t n) written.blocks
    (subst (λ c. IsTablePart (length blocks) c (part_at blocks (block_columns t) (tile_blocks t m))) wide (table_of t s blocks cols rows made m l blocks long))
    (subst (λ c. IsTablePart (length blocks) c (part_at blocks (block_columns t) (tile_blocks t n))) wide (table_of t s blocks cols rows made n k blocks long))
    (in_either_order count (tile_blocks t) (blocks_apart t s blocks cols rows made) m n l k other) shape.blocks in
    let unit_stays = λ (u : Units) (made_units : AreTileUnits t u) (part : Part RestorationUnit) (same : SameRect (tile_unit_part t u m) part).
    part_stays u.entries u.cols (tile_unit_part t u m).rect (tile_unit_part t u n).rect part
    (units_of t s blocks cols rows made m l u made_units) (units_of t s blocks cols rows made n k u made_units)
    (in_either_order count (λ i. (tile_unit_part t u i).rect) (units_apart t s blocks cols rows made u made_units) m n l k other) same in
    let y_units = unit_stays s.restoration.y made.y_units written.ts.units.y shape.y_units in
    let u_units = unit_stays s.restoration.u made.u_units written.ts.units.u shape.u_units in
    let v_units = unit_stays s.restoration.v made.v_units written.ts.units.v shape.v_units in
    let motion = motion_stays (tile_motion t m) (tile_motion t n)
    (in_either_order count (tile_motion t) (motions_apart t s blocks cols rows made) m n l k other) s.frame_me_stats written.ts.me_stats
    (λ i d below. motion_of t s blocks cols rows made m l (get_or s.frame_me_stats i d) (made.motion.full i d below) (made.motion.sides i d below))
    (λ i d below. motion_of t s blocks cols rows made n k (get_or s.frame_me_stats i d) (made.motion.full i d below) (made.motion.sides i d below)) shape.motion in
    let before = view_of t s blocks n in
    λ i. record before { ts = record before.ts { rec = record { y = y i; u = u i; v = v i }; units = record { y = y_units i; u = u_units i; v = v_units i }; me_stats = motion i }; blocks = b i }
