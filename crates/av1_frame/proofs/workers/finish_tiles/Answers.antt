use Rattle.std.proofs.Common.{◌≡◌, ℕ, ◌+◌, [], ◌∷◌, ◌++◌, ◌∙◌, List, length, take, sym, ap, arith, append_assoc, length-append, subst}
use Rattle.std.specs.List.{AllZip}
use Rattle.av1_tiling.specs.Frames.{views}
use Rattle.av1_tiling.specs.Views.{View}
use Rattle.av1_frame.specs.Worked.{IsCodedFrom, IsTileResult}
use Rattle.av1_frame.proofs.Worked.{entry_next, tile_below, tiles_more}
use Rattle.av1_frame.proofs.workers.finish_tiles.Goals as goal

pub finish_tile-requires-clause-tile : goal.finish_tile-requires-clause-tile
finish_tile-requires-clause-tile g c κs within =
    let all = views c.args.tiling.now c.args.fs.now c.args.blocks.now.entries in
    tile_below all c.loop-entry.yielded c.in-Some.entry _ c.args.entries.items c.len-in-loop-entry.result
    (c.len-in-loop-entry.ensures ∙ (c.loop-entry.tiles.ok.0 ∙ c.loop-entry.invariant.long)) (ap (λ l. c.loop-entry.yielded ++ l) (sym c.in-Some.ensures.steps.0) ∙ c.loop-entry.invariant.rest) (sym c.args.entries.ok.0 ∙ c.requires.count)

pub finish_tile-requires-clause-entry : goal.finish_tile-requires-clause-entry
finish_tile-requires-clause-entry g c κs within =
    entry_next g.C.TileCoder.meaning _ c.args.entries.items c.loop-entry.yielded c.in-Some.entry _ c.len-in-loop-entry.result c.requires.results
    (c.len-in-loop-entry.ensures ∙ (c.loop-entry.tiles.ok.0 ∙ c.loop-entry.invariant.long)) (ap (λ l. c.loop-entry.yielded ++ l) (sym c.in-Some.ensures.steps.0) ∙ c.loop-entry.invariant.rest)

pub loop-entry-preserved : goal.loop-entry-preserved
loop-entry-preserved g c =
    let v = c.loop-entry.invariant in
    let all = views c.args.tiling.now c.args.fs.now c.args.blocks.now.entries in
    let here = c.len-in-loop-entry.ensures ∙ (c.loop-entry.tiles.ok.0 ∙ v.long) in
    let one : length (c.loop-entry.yielded ++ c.in-Some.entry ∷ []) ≡ length c.loop-entry.yielded + 1 = length-append c.loop-entry.yielded (c.in-Some.entry ∷ []) in
    record {
      can = tt;
      ends = tt;
      rest = append_assoc c.loop-entry.yielded (c.in-Some.entry ∷ []) _ ∙ (ap (λ l. c.loop-entry.yielded ++ l) (sym c.in-Some.ensures.steps.0) ∙ v.rest);
      long = rw c.in_ok-push.ensures.items (omega (arith, length-append c.loop-entry.tiles.items, length-append c.loop-entry.yielded, v.long));
      made = subst (λ (n : ℕ). AllZip (IsCodedFrom (g.C.TileCoder.meaning c.args.coder.now)) (take n all) c.push.new.self.items) (sym one)
          (tiles_more (g.C.TileCoder.meaning c.args.coder.now) all (length c.loop-entry.yielded) c.in_ok-tile.tile c.loop-entry.tiles.items c.push.new.self.items v.made
          (subst (λ (n : ℕ). IsTileResult (g.C.TileCoder.meaning c.args.coder.now) all n c.in_ok-tile.tile) here c.in_ok-tile.ensures) c.in_ok-push.ensures.items);
    }
