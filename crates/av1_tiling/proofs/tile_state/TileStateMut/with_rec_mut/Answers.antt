use Rattle.av1_tiling.proofs.tile_state.TileStateMut.with_rec_mut.Goals as goal

pub with_parts-requires-clause-keeps : goal.with_parts-requires-clause-keeps
with_parts-requires-clause-keeps g c = λ a b r made met. c.requires.keeps a b r (rw (← c.self.view_is, ← c.as_mut-parts.ensures.value) made) met

pub returns : goal.returns
returns g c =
    let e = c.with_parts.ensures in
    rw (c.as_mut-parts.ensures.value, ← c.self.view_is, ← c.as_mut-parts.ensures.value) (e.0, e.1, e.2, e.3, cc (e.4, e.5, e.6))
