use Rattle.std.proofs.Common.{ℕ, ap, ◌∙◌, arith}
use Rattle.av1_plane.specs.Planes.{layout_of}
use Rattle.av1_tiling.specs.declared.unit_sizes.UnitSizes.{UnitSizes}
use Rattle.av1_tiling.specs.Restoration.{blank_units}
use Rattle.av1_tiling.specs.UnitSizes.{unit_sizes, unit_layout}
use Rattle.av1_tiling.proofs.UnitSizeFacts.{shifts_small, input_shifts, three_units}
use Rattle.av1_tiling.proofs.restoration_state.RestorationState.new.Goals as goal

pub plane_units-requires-2-clause-xdec : goal.plane_units-requires-2-clause-xdec
plane_units-requires-2-clause-xdec g c =
    let e = input_shifts c.args.fi.now (layout_of c.args.input.now) c.requires.input in
    omega (arith, (shifts_small c.args.fi.now).0, ap (λ (d : ℕ × ℕ). d.0) e)

pub plane_units-requires-2-clause-ydec : goal.plane_units-requires-2-clause-ydec
plane_units-requires-2-clause-ydec g c =
    let e = input_shifts c.args.fi.now (layout_of c.args.input.now) c.requires.input in
    omega (arith, (shifts_small c.args.fi.now).1, ap (λ (d : ℕ × ℕ). d.1) e)

pub plane_units-requires-3-clause-xdec : goal.plane_units-requires-3-clause-xdec
plane_units-requires-3-clause-xdec g c =
    let e = input_shifts c.args.fi.now (layout_of c.args.input.now) c.requires.input in
    omega (arith, (shifts_small c.args.fi.now).0, ap (λ (d : ℕ × ℕ). d.0) e)

pub plane_units-requires-3-clause-ydec : goal.plane_units-requires-3-clause-ydec
plane_units-requires-3-clause-ydec g c =
    let e = input_shifts c.args.fi.now (layout_of c.args.input.now) c.requires.input in
    omega (arith, (shifts_small c.args.fi.now).1, ap (λ (d : ℕ × ℕ). d.1) e)

pub returns : goal.returns
returns g c =
    let p = c.args.fi.now in
    let e = input_shifts p (layout_of c.args.input.now) c.requires.input in
    let sizes = c.unit_sizes-sizes.ensures.value in
    three_units _ _ _ _ _ _
    (c.in_ok-y.ensures ∙ ap (λ (s : UnitSizes). blank_units (unit_layout p s.luma (0, 0))) sizes)
    (c.in_ok-u.ensures ∙ ap (λ (s : UnitSizes). blank_units (unit_layout p s.chroma (c.args.input.now.planes.u.cfg.xdec, c.args.input.now.planes.u.cfg.ydec))) sizes ∙ ap (λ (d : ℕ × ℕ). blank_units (unit_layout p (unit_sizes p).chroma d)) e)
    (c.in_ok-v.ensures ∙ ap (λ (s : UnitSizes). blank_units (unit_layout p s.chroma (c.args.input.now.planes.u.cfg.xdec, c.args.input.now.planes.u.cfg.ydec))) sizes ∙ ap (λ (d : ℕ × ℕ). blank_units (unit_layout p (unit_sizes p).chroma d)) e)
