use Rattle.std.proofs.Common.{◌≡◌, ℕ, ◌+◌, ◌-◌, ◌*◌, ◌≤◌, length, min, arith, sym, subst, ap, ◌∙◌}
use Rattle.std.proofs.Math.Nat.{mul-le-mul_right}
use Rattle.av1_plane.specs.declared.tile_rect.TileRect.{TileRect}
use Rattle.av1_block.specs.Tables.{table_entries}
use Rattle.av1_block.specs.declared.block.Block.{Block}
use Rattle.av1_block.specs.Rows.{Rows}
use Rattle.av1_block.specs.Cut.{LiesInTable, cut_of, cut_entries, cut_rect, cut_table_cols}
use Rattle.av1_tiling.specs.Frames.{tile_state}
use Rattle.av1_tiling.specs.TileRects.{tile_superblock, block_columns, block_rows, tile_luma, tile_blocks}
use Rattle.av1_tiling.proofs.Inside.{placed, luma_width, luma_height, blocks_are}
use Rattle.av1_tiling.proofs.tile_context.TileContextMut.cut.Goals as goal

pub tile_superblock-sbo-requires-clause-some : goal.tile_superblock-sbo-requires-clause-some
tile_superblock-sbo-requires-clause-some g c = (placed _ _ _ _ c.requires.made_for _ c.requires.tile).some

pub tile_superblock-sbo-requires-clause-x : goal.tile_superblock-sbo-requires-clause-x
tile_superblock-sbo-requires-clause-x g c = (placed _ _ _ _ c.requires.made_for _ c.requires.tile).x

pub tile_superblock-sbo-requires-clause-y : goal.tile_superblock-sbo-requires-clause-y
tile_superblock-sbo-requires-clause-y g c = (placed _ _ _ _ c.requires.made_for _ c.requires.tile).y

pub tile_width-width-requires-clause-x : goal.tile_width-width-requires-clause-x
tile_width-width-requires-clause-x g c = rw (ap (λ s. s.0) c.tile_superblock-sbo.ensures) (placed _ _ _ _ c.requires.made_for _ c.requires.tile).x

pub tile_width-width-requires-clause-tile : goal.tile_width-width-requires-clause-tile
tile_width-width-requires-clause-tile g c = (placed _ _ _ _ c.requires.made_for _ c.requires.tile).tile_wide

pub tile_height-height-requires-clause-y : goal.tile_height-height-requires-clause-y
tile_height-height-requires-clause-y g c = rw (ap (λ s. s.1) c.tile_superblock-sbo.ensures) (placed _ _ _ _ c.requires.made_for _ c.requires.tile).y

pub tile_height-height-requires-clause-tile : goal.tile_height-height-requires-clause-tile
tile_height-height-requires-clause-tile g c = (placed _ _ _ _ c.requires.made_for _ c.requires.tile).tile_high

pub new-requires-clause-superblock : goal.new-requires-clause-superblock
new-requires-clause-superblock g c = (placed _ _ _ _ c.requires.made_for _ c.requires.tile).six

pub new-requires-clause-tile : goal.new-requires-clause-tile
new-requires-clause-tile g c =
    rw (c.tile_width-width.ensures, c.tile_height-height.ensures, ap (λ s. s.0) c.tile_superblock-sbo.ensures, ap (λ s. s.1) c.tile_superblock-sbo.ensures)
    (placed _ _ _ _ c.requires.made_for _ c.requires.tile).lies

pub tile_blocks-requires-clause-x : goal.tile_blocks-requires-clause-x
tile_blocks-requires-clause-x g c = rw (ap (λ s. s.0) c.tile_superblock-sbo.ensures) (placed _ _ _ _ c.requires.made_for _ c.requires.tile).x

pub tile_blocks-requires-clause-y : goal.tile_blocks-requires-clause-y
tile_blocks-requires-clause-y g c = rw (ap (λ s. s.1) c.tile_superblock-sbo.ensures) (placed _ _ _ _ c.requires.made_for _ c.requires.tile).y

pub tile_blocks-requires-clause-width : goal.tile_blocks-requires-clause-width
tile_blocks-requires-clause-width g c = (placed _ _ _ _ c.requires.made_for _ c.requires.tile).tile_wide

pub tile_blocks-requires-clause-height : goal.tile_blocks-requires-clause-height
tile_blocks-requires-clause-height g c = (placed _ _ _ _ c.requires.made_for _ c.requires.tile).tile_high

pub take-requires : goal.take-requires
take-requires g c =
    let p = placed _ _ _ _ c.requires.made_for _ c.requires.tile in
    let sx = ap (λ s. s.0) c.tile_superblock-sbo.ensures in
    let sy = ap (λ s. s.1) c.tile_superblock-sbo.ensures in
    let e = c.tile_blocks.ensures in
    let across : c.tile_blocks.result.x + c.tile_blocks.result.width ≤ c.args.fb.now.cols = rw (e.x, e.width, sx) p.across in
    let down : c.tile_blocks.result.y + c.tile_blocks.result.height ≤ c.args.fb.now.rows = rw (e.y, e.height, sy) p.down in
    let rows : (c.tile_blocks.result.y + c.tile_blocks.result.height) * c.args.fb.now.cols ≤ c.args.fb.now.rows * c.args.fb.now.cols = mul-le-mul_right c.args.fb.now.cols down in
    let long = c.entries.ensures.whole in
    let lies : LiesInTable (length c.entries.result.now) c.args.fb.now.cols c.tile_blocks.result = record { across = across; down = omega arith } in
    record { inside = subst (λ (r : Rows Block). LiesInTable (length c.entries.result.now) r.cols c.tile_blocks.result) (sym c.fb.view_is) lies }

pub returns : goal.returns
returns g c =
    let t = c.args.tiling.now in
    let n = c.args.n in
    let six = (placed _ _ _ _ c.requires.made_for _ c.requires.tile).six in
    let sx = ap (λ s. s.0) c.tile_superblock-sbo.ensures in
    let sy = ap (λ s. s.1) c.tile_superblock-sbo.ensures in
    let e = c.tile_blocks.ensures in
    let width : c.tile_width-width.result ≡ (tile_luma t n).width =
    c.tile_width-width.ensures ∙ (ap (λ (x : ℕ). min (t.tile_width_sb * 64) (t.frame_width - x * 64)) sx ∙ luma_width t n six) in
    let height : c.tile_height-height.result ≡ (tile_luma t n).height =
    c.tile_height-height.ensures ∙ (ap (λ (y : ℕ). min (t.tile_height_sb * 64) (t.frame_height - y * 64)) sy ∙ luma_height t n six) in
    let state : c.in_ok-ts.ts ≡ tile_state c.args.fs.now (tile_superblock t n) t.sb_size_log2 (tile_luma t n).width (tile_luma t n).height =
    c.in_ok-ts.ensures ∙ (λ i. tile_state c.args.fs.now (c.tile_superblock-sbo.ensures i) t.sb_size_log2 (width i) (height i)) in
    let place : c.tile_blocks.result ≡ tile_blocks t n =
    blocks_are t n six c.tile_blocks.result (e.x ∙ ap (λ (x : ℕ). x * 16) sx) (e.y ∙ ap (λ (y : ℕ). y * 16) sy)
    (e.width ∙ ap (λ (x : ℕ). min (t.tile_width_sb * 16) (block_columns t - x * 16)) sx)
    (e.height ∙ ap (λ (y : ℕ). min (t.tile_height_sb * 16) (block_rows t - y * 16)) sy) in
    let wide : c.fb.inside.cols ≡ block_columns t = ap (λ (r : Rows Block). r.cols) c.fb.view_is ∙ c.requires.made_for.wide in
    let high : c.fb.inside.rows ≡ block_rows t = ap (λ (r : Rows Block). r.rows) c.fb.view_is ∙ c.requires.made_for.high in
    let rect : cut_rect c.in_ok-blocks.blocks ≡ tile_blocks t n = c.in_ok-blocks.ensures.place ∙ place in
    let cols : cut_table_cols c.in_ok-blocks.blocks ≡ block_columns t = c.in_ok-blocks.ensures.cols ∙ wide in
    let entries : cut_entries c.in_ok-blocks.blocks ≡ cut_of (table_entries c.args.fb.now) (block_columns t) (tile_blocks t n).x (tile_blocks t n).y (tile_blocks t n).width (tile_blocks t n).height =
    c.in_ok-blocks.ensures.entries ∙ (λ i. cut_of (c.entries.ensures.entries i) (wide i) (place i).x (place i).y (place i).width (place i).height) in
    λ i. record {
      ts = state i;
      blocks = record { rect = rect i; table_cols = cols i; entries = entries i };
      frame_cols = wide i;
      frame_rows = high i;
    }

pub invariant_of-result : goal.invariant_of-result
invariant_of-result g c =
    let p = placed _ _ _ _ c.requires.made_for _ c.requires.tile in
    let sx = ap (λ s. s.0) c.tile_superblock-sbo.ensures in
    let sy = ap (λ s. s.1) c.tile_superblock-sbo.ensures in
    let e = c.tile_blocks.ensures in
    let table = c.args.fb.now in
    let rect = sym c.in_ok-blocks.ensures.place in
    let left : c.tile_blocks.result.x ≤ table.cols = rw (e.x, sx) (omega (arith, p.across)) in
    let top : c.tile_blocks.result.y ≤ table.rows = rw (e.y, sy) (omega (arith, p.down)) in
    let wide : table.cols ≡ c.fb.inside.cols = sym (ap (λ (r : Rows Block). r.cols) c.fb.view_is) in
    let high : table.rows ≡ c.fb.inside.rows = sym (ap (λ (r : Rows Block). r.rows) c.fb.view_is) in
    let blocks = c.in_ok-blocks.blocks in (
      subst (λ (n : ℕ). (cut_rect blocks).x ≤ n) wide (subst (λ (r : TileRect). r.x ≤ table.cols) rect left),
      (subst (λ (n : ℕ). (cut_rect blocks).y ≤ n) high (subst (λ (r : TileRect). r.y ≤ table.rows) rect top), tt),
    )
