-- The lines of a grid's tiles, one behind another.
use Rattle.std.proofs.Common.{◌≡◌, ℕ, ◌+◌, List, ◌++◌, sym, ap, ◌∙◌, append_assoc, add-one}
use Rattle.std.proofs.lemmas.List.{append-nil}
use Rattle.av1_tiling.specs.declared.tiling_info.TilingInfo.{TilingInfo}
use Rattle.av1_rec.specs.GridText.{tile_text, tile_texts}

-- no tiles have no lines
pub no_lines : (t : TilingInfo) (first : List ℕ) → first ≡ first ++ tile_texts t 0
unfolding tile_texts
no_lines t first = sym (append-nil first)

-- one tile more adds its line behind the lines of the tiles before
pub lines_more : (t : TilingInfo) (n : ℕ) (first before after : List ℕ) → after ≡ before ++ tile_text t n → before ≡ first ++ tile_texts t n
    → after ≡ first ++ tile_texts t (n + 1)
unfolding tile_texts
lines_more t n first before after line so_far =
    rw (add-one n) (line ∙ ap (λ (l : List ℕ). l ++ tile_text t n) so_far ∙ append_assoc first (tile_texts t n) (tile_text t n))
