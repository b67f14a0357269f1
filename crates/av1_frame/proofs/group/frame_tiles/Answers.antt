use Rattle.std.proofs.Common.{◌≡◌, ◌*◌, ◌≤◌, ◌<◌, ◌^◌, ℕ, List, All, length, map, subst, sym, ap, ◌∙◌, Vec, Global}
use Rattle.std.specs.Int.{div_ceil}
use Rattle.std.proofs.lemmas.List.{length-map}
use Rattle.std.proofs.lemmas.List.Elements.{All-map}
use Rattle.av1_frame.specs.Framing.{CanFrame, size_bytes, binary_digits}
use Rattle.av1_frame.proofs.Lengths.{can_frame}
use Rattle.av1_frame.proofs.group.frame_tiles.Goals as goal

pub build_raw_tile_group-requires-clause-framable : goal.build_raw_tile_group-requires-clause-framable
build_raw_tile_group-requires-clause-framable c =
    let raw = c.args.raw_tiles.now in
    let items : Vec ℕ Global → List ℕ = λ v. v.items in
    let tiles = map items raw in
    let long = length-map raw items in
    let can = can_frame tiles (subst (λ n. 1 ≤ n) (sym long) c.requires.some) (All-map (λ t. 1 ≤ length t) items raw c.requires.filled) (All-map (λ t. length t < 2 ^ 32) items raw c.requires.few) in
    let size : c.div_ceil-size_bytes.result ≡ size_bytes tiles = c.div_ceil-size_bytes.ensures ∙ ap (λ (n : ℕ). div_ceil (binary_digits n) 8) c.longest_tile-longest.ensures.len in
    subst (λ n. CanFrame n tiles) (sym size) can.0

pub build_raw_tile_group-requires-clause-size_bytes : goal.build_raw_tile_group-requires-clause-size_bytes
build_raw_tile_group-requires-clause-size_bytes c =
    let raw = c.args.raw_tiles.now in
    let items : Vec ℕ Global → List ℕ = λ v. v.items in
    let tiles = map items raw in
    let long = length-map raw items in
    let can = can_frame tiles (subst (λ n. 1 ≤ n) (sym long) c.requires.some) (All-map (λ t. 1 ≤ length t) items raw c.requires.filled) (All-map (λ t. length t < 2 ^ 32) items raw c.requires.few) in
    let size : c.div_ceil-size_bytes.result ≡ size_bytes tiles = c.div_ceil-size_bytes.ensures ∙ ap (λ (n : ℕ). div_ceil (binary_digits n) 8) c.longest_tile-longest.ensures.len in
    subst (λ n. (1 ≤ n) × (n ≤ 4)) (sym size) can.1
