use Rattle.std.proofs.Common.{◌≡◌, List, [], ◌∷◌, ◌++◌, map, ℕ, Some, None, ap, ◌∙◌, Vec, Global}
use Rattle.std.proofs.lemmas.List.{map-append}
use Rattle.av1_frame.proofs.Coding.{one_split, none_split}
use Rattle.av1_frame.proofs.coded_tile.split_tiles.Goals as goal

pub loop-tile-preserved-in-Continue-branch-4 : goal.loop-tile-preserved-in-Continue-branch-4
loop-tile-preserved-in-Continue-branch-4 g c =
    let kept = c.loop-tile.invariant in
    let one = c.in-Some-tile.field-0 in
    let is : c.in-Some.tile ≡ Some one = cc in
    let bytes : c.push.new.self.items ≡ c.loop-tile.raw_tiles.items ++ one.bytes ∷ [] = let pushed = c.in_ok-push.ensures.items in cc in
    let context : c.push-in-Some-tile.new.self.items ≡ c.loop-tile.contexts.items ++ one.context ∷ [] = let pushed = c.in_ok-push-2.ensures.items in cc in (
      one_split (λ m. m.0) c.loop-tile.yielded c.in-Some.tile one (map (λ tile. tile.items) c.loop-tile.raw_tiles.items) (map (λ tile. tile.items) c.push.new.self.items) is kept.0
          (ap (map (λ (tile : Vec ℕ Global). tile.items)) bytes ∙ map-append (λ (tile : Vec ℕ Global). tile.items) c.loop-tile.raw_tiles.items (one.bytes ∷ [])),
      one_split (λ m. m.1) c.loop-tile.yielded c.in-Some.tile one c.loop-tile.contexts.items c.push-in-Some-tile.new.self.items is kept.1 context,
    )

pub loop-tile-preserved : goal.loop-tile-preserved
loop-tile-preserved g c =
    let kept = c.loop-tile.invariant in
    let none = c.in_default.is in (
      none_split (λ m. m.0) c.loop-tile.yielded c.in-Some.tile (map (λ tile. tile.items) c.loop-tile.raw_tiles.items) none kept.0,
      none_split (λ m. m.1) c.loop-tile.yielded c.in-Some.tile c.loop-tile.contexts.items none kept.1,
    )
