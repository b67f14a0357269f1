use Rattle.std.proofs.Common.{◌≡◌, ◌+◌, ◌-◌, ◌*◌, ◌%◌, ◌<◌, ◌^◌, ℕ, length, refl, ap, ◌∙◌, arith}
use Rattle.std.specs.Prelude.{unsigned_abs, ◌==◌}
use Rattle.av1_plane.specs.declared.plane.PlaneConfig.{PlaneConfig}
use Rattle.av1_plane.specs.Place.{origin_place}
use Rattle.av1_plane.specs.Planes.{plane_numbers}
use Rattle.av1_lrf.specs.Rows.{sample, scene_in}
use Rattle.av1_lrf.specs.Guided.{guided}
use Rattle.av1_lrf.specs.Integral.{source_from}
use Rattle.av1_lrf.specs.Restore.{source_table}
use Rattle.av1_lrf.proofs.AreaFacts.{area_is}
use Rattle.av1_lrf.proofs.PictureFacts.{shape_of}
use Rattle.av1_lrf.proofs.ShiftFacts.{cells_room, area_shift, part_place, guided_shift, source_below}
use Rattle.av1_lrf.proofs.part.guided_columns_of.Goals as goal

pub fill_sums-requires-clause-scene : goal.fill_sums-requires-clause-scene
fill_sums-requires-clause-scene g c = record { enhanced = shape_of _ _ _ _ _ c.requires.enhanced; deblocked = shape_of _ _ _ _ _ c.requires.deblocked; start = omega arith; stop = omega arith; near = c.requires.stop }

pub fill_sums-requires-2-clause-scene : goal.fill_sums-requires-2-clause-scene
fill_sums-requires-2-clause-scene g c = record { enhanced = shape_of _ _ _ _ _ c.requires.enhanced; deblocked = shape_of _ _ _ _ _ c.requires.deblocked; start = omega arith; stop = omega arith; near = c.requires.stop }

pub fill_sums-requires-clause-cells : goal.fill_sums-requires-clause-cells
fill_sums-requires-clause-cells g c = cells_room (c.min.result - c.args.start) (c.args.right - c.args.left) c.args.pitch (length c.args.cells.now) (omega arith) (omega arith) c.requires.cells

pub fill_sums-requires-2-clause-cells : goal.fill_sums-requires-2-clause-cells
fill_sums-requires-2-clause-cells g c = cells_room (c.min.result - c.args.start) (c.args.right - c.args.left) c.args.pitch (length c.args.squares.now) (omega arith) (omega arith) c.requires.squares

pub guided_samples-requires-clause-cells : goal.guided_samples-requires-clause-cells
guided_samples-requires-clause-cells g c =
    let room : (c.min.result - c.args.start + 6) * c.args.pitch + (c.args.right - c.args.left + 6) < length c.args.cells.now = cells_room (c.min.result - c.args.start) (c.args.right - c.args.left) c.args.pitch (length c.args.cells.now) (omega arith) (omega arith) c.requires.cells in
    omega (arith, room, c.fill_sums.auto.cells)

pub guided_samples-requires-clause-squares : goal.guided_samples-requires-clause-squares
guided_samples-requires-clause-squares g c =
    let room : (c.min.result - c.args.start + 6) * c.args.pitch + (c.args.right - c.args.left + 6) < length c.args.squares.now = cells_room (c.min.result - c.args.start) (c.args.right - c.args.left) c.args.pitch (length c.args.squares.now) (omega arith) (omega arith) c.requires.squares in
    omega (arith, room, c.fill_sums-2.auto.cells)

pub returns-clause-value : goal.returns-clause-value
returns-clause-value g c =
    let number = g.T.Pixel.number in
    let p = c.args.cdeffed.now in
    let s = scene_in number c.args.crop_w c.args.crop_h c.args.start c.args.stop p c.args.deblocked.now in
    let nums = plane_numbers number p in
    let made = c.guided_samples.ensures.value (source_from s c.args.left c.args.start) (record {
      sums = c.fill_sums.ensures;
      square_sums = c.fill_sums-2.ensures;
      below = λ x y lx ly. source_below number (2 ^ c.args.bd) c.args.crop_w c.args.crop_h c.args.start c.args.stop p c.args.deblocked.now (c.args.left + x) (c.args.start + y) c.requires.enhanced c.requires.deblocked c.requires.start;
    }) in
    area_is _ _ c.args.left (c.args.left + (c.args.right - c.args.left)) c.args.start (c.args.start + (c.min.result - c.args.start)) _ _ _ _ _ _ _ refl (omega arith) refl (omega arith)
    (area_shift _ _ c.args.left c.args.start (c.args.right - c.args.left) (c.min.result - c.args.start) _ _ _ _
    (λ x y lx hx ly hy.
    let at : origin_place c.args.out.now.cfg + y * c.args.out.now.cfg.stride + x ≡ origin_place p.cfg + y * p.cfg.stride + x = ap (λ (k : PlaneConfig). origin_place k + y * k.stride + x) c.requires.shape in
    let ex : c.args.left + (x - c.args.left + 3) ≡ x + 3 = omega arith in
    let ey : c.args.start + (y - c.args.start + 3) ≡ y + 3 = omega arith in
    ap (λ (k : ℕ). guided c.args.bd c.args.set c.args.xqd ((y - c.args.start) % 2 == 1) (source_from s c.args.left c.args.start) (unsigned_abs (sample nums k)) (x - c.args.left + 3) (y - c.args.start + 3)) (part_place (origin_place c.args.out.now.cfg) c.args.out.now.cfg.stride c.args.left c.args.start x y lx ly ∙ at)
    ∙ guided_shift c.args.bd c.args.set c.args.xqd ((y - c.args.start) % 2 == 1) (source_from s c.args.left c.args.start) (source_table s) (unsigned_abs (sample nums (origin_place p.cfg + y * p.cfg.stride + x))) c.args.left c.args.start (x - c.args.left + 3) (y - c.args.start + 3) (λ i j. refl) (omega arith) (omega arith)
    ∙ ap (λ (k : ℕ). guided c.args.bd c.args.set c.args.xqd ((y - c.args.start) % 2 == 1) (source_table s) (unsigned_abs (sample nums (origin_place p.cfg + y * p.cfg.stride + x))) k (c.args.start + (y - c.args.start + 3))) ex
    ∙ ap (λ (k : ℕ). guided c.args.bd c.args.set c.args.xqd ((y - c.args.start) % 2 == 1) (source_table s) (unsigned_abs (sample nums (origin_place p.cfg + y * p.cfg.stride + x))) (x + 3) k) ey)
    made)
