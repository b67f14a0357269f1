-- A tile's parts of motion tables.
use Rattle.std.proofs.Common.{◌≡◌, ℕ, ◌<◌, List, [], length, map, get_or, slice_set, sym, ap, ◌∙◌, arith}
use Rattle.std.proofs.lemmas.List.{length-map, get_or-map, map-set}
use Rattle.av1_plane.specs.declared.tile_rect.TileRect.{TileRect}
use Rattle.av1_block.specs.declared.cut.Cut.{Cut}
use Rattle.av1_block.specs.declared.me_stats.MEStats.{MEStats}
use Rattle.av1_block.specs.Cut.{cut_rect, recut, with_cut_table}
use Rattle.av1_block.specs.Rows.{Rows}
use Rattle.av1_tiling.specs.Views.{Part, view_cut, part_with_entries, part_with_table}
use Rattle.av1_tiling.specs.Frames.{motion_parts, part_at}
use Rattle.av1_tiling.specs.Coded.{no_part}
use Rattle.av1_tiling.specs.TileViews.{motion_part_at, parts_with_records, parts_with_table}

module _ (tables : List (Rows MEStats)) (cuts : List (Cut MEStats)) (rect : TileRect) (are : map view_cut cuts ≡ motion_parts tables rect) where
  -- there is one of each table
  pub one_of_each : length cuts ≡ length tables
  one_of_each = sym (length-map cuts view_cut) ∙ (ap (λ (parts : List (Part MEStats)). length parts) are ∙ length-map tables (λ (t : Rows MEStats). part_at t.entries t.cols rect))

  -- all are of one rectangle
  pub one_rect : (k : ℕ) (d : Cut MEStats) → k < length cuts → cut_rect (get_or cuts k d) ≡ rect
  one_rect k d below =
      let none : Rows MEStats = record { entries = []; cols = 0; rows = 0 } in
      let here = get_or-map view_cut cuts k d no_part below in
      let there = get_or-map (λ (t : Rows MEStats). part_at t.entries t.cols rect) tables k none no_part (omega (arith, one_of_each, below)) in
      ap (λ (part : Part MEStats). part.rect) (sym here ∙ (ap (λ (parts : List (Part MEStats)). get_or parts k no_part) are ∙ there))

module _ (cuts : List (Cut MEStats)) (i : ℕ) (cut : Cut MEStats) (inside : i < length cuts) (is : cut ≡ get_or cuts i cut) where
  -- a cut is a part
  pub cut_is_part : view_cut cut ≡ motion_part_at (map view_cut cuts) i
  cut_is_part = ap view_cut is ∙ sym (get_or-map view_cut cuts i cut no_part inside)

  -- a cut with other entries is a part with these entries
  pub records_replaced : (records : List MEStats) → map view_cut (slice_set cuts i (recut cut records)) ≡ parts_with_records (map view_cut cuts) i records
  records_replaced records = map-set view_cut cuts i (recut cut records) ∙ ap (λ (p : Part MEStats). slice_set (map view_cut cuts) i (part_with_entries p records)) cut_is_part

  -- a cut with another table is a part with that table
  pub part_replaced : (table : Rows MEStats) → map view_cut (slice_set cuts i (with_cut_table cut table)) ≡ parts_with_table (map view_cut cuts) i table
  part_replaced table = map-set view_cut cuts i (with_cut_table cut table) ∙ ap (λ (p : Part MEStats). slice_set (map view_cut cuts) i (part_with_table p table)) cut_is_part
