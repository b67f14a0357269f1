-- A run that makes its own frame refuses nothing: the frame has a tiling, and all its results are valid.
use Rattle.std.proofs.Common.{◌≡◌, ℕ, ℤ, pos, ◌+◌, ◌*◌, ◌^◌, ◌<◌, List, [], map, replicate, All, Bool, cond, Option, Some, None, inl, true, true≢false, Result, Ok, Err, refl, sym, ap, ◌∙◌, subst, lit≤}
use Rattle.std.proofs.lemmas.List.Elements.{All-map, All-replicate}
use Rattle.std.proofs.lemmas.Nat.{pow_pos}
use Rattle.av1_plane.specs.declared.plane.PlaneConfig.{PlaneConfig}
use Rattle.av1_plane.specs.declared.three.Three.{Three}
use Rattle.av1_plane.specs.Layout.{frame_layout}
use Rattle.av1_plane.specs.Numbers.{InDepth}
use Rattle.av1_block.specs.Block.{default_block}
use Rattle.av1_block.specs.Cut.{cut_of, with_cut}
use Rattle.av1_block.specs.Rows.{refilled}
use Rattle.av1_block.specs.declared.restoration_unit.RestorationUnit.{RestorationUnit}
use Rattle.av1_block.specs.RestorationUnit.{no_unit}
use Rattle.av1_block.specs.Rule.{IsBlock}
use Rattle.av1_tiling.specs.Frames.{Parameters, views, view_of}
use Rattle.av1_tiling.specs.Grid.{rate_log2, tile_width}
use Rattle.av1_tiling.specs.Least.{least, tile_log2}
use Rattle.av1_tiling.specs.Restoration.{IsUnit}
use Rattle.av1_tiling.specs.TileRects.{tile_luma, tile_blocks}
use Rattle.av1_tiling.specs.UnitSizes.{unit_layouts}
use Rattle.av1_tiling.specs.Views.{View, Part, part_with_entries}
use Rattle.av1_tiling.specs.declared.tiling_info.TilingInfo.{TilingInfo}
use Rattle.av1_tiling.proofs.ViewPlaces.{all_views}
use Rattle.av1_frame.specs.Coding.{decimations_of, refusal}
use Rattle.av1_frame.specs.Valid.{IsPartInDepth, IsValid}
use Rattle.av1_frame.specs.declared.group_error.GroupError.{GroupError}
use Rattle.av1_frame.proofs.Validity.{accepts_valid}
use Rattle.av1_rec.specs.declared.program.commands.Command.{Command}
use Rattle.av1_rec.specs.declared.program.commands.Command.TheVariants.{Group, Tiles, Gen}
use Rattle.av1_rec.specs.declared.program.report.Form.{Form}
use Rattle.av1_rec.specs.declared.program.report.Form.TheVariants as forms
use Rattle.av1_rec.specs.declared.program.status.Status.{Status}
use Rattle.av1_rec.specs.declared.program.status.Status.TheVariants as status
use Rattle.av1_rec.specs.declared.text.fault.Fault.{Fault}
use Rattle.av1_rec.specs.declared.text.header.Header.{Header}
use Rattle.av1_rec.specs.Answer.{IsOfOwnFrame, Answered, asked, generated_answer, fault_answer}
use Rattle.av1_rec.specs.Begin.{start_state, start_blocks}
use Rattle.av1_rec.specs.BlockTable.{first_values}
use Rattle.av1_rec.specs.Commands.{makes_frame}
use Rattle.av1_rec.specs.Generated.{source, coded_bytes, coded_planes, generated_blocks, generated_units, coded_unit_lists, coded_tile, generated, generated_header}
use Rattle.av1_rec.specs.Group.{Answer, said_job, refused, reported, reported_text, group_answer}
use Rattle.av1_rec.specs.Header.{IsHeader}
use Rattle.av1_rec.specs.Parameters.{frame_parameters}
use Rattle.av1_rec.specs.Picture.{AreBelow, IsPictureBelow}
use Rattle.av1_rec.specs.Recorded.{joined, with_recorded, entry_meaning, recorded_meaning}
use Rattle.av1_rec.specs.Text.{Said, tiling}
use Rattle.av1_rec.proofs.CodedSides.{fits}
use Rattle.av1_rec.proofs.CodedValues.{all_refilled, all_with_cut, all_cut_of, all_joined, planes_below, generated_are_blocks, default_is_block, generated_are_units, bytes_right}
use Rattle.av1_rec.proofs.GeneratedRows.{generated_read}
use Rattle.av1_rec.proofs.OwnEntries.{own_entry}
use Rattle.av1_rec.proofs.PictureRange.{zero_below, entry_below}
use Rattle.av1_rec.proofs.Strengths.{eight_within}
use Rattle.av1_rec.proofs.TileFacts.{header_tiles}

-- a part below a bound into which rows below the bound are written is below the bound
part_right : (bound : ℕ) → 0 < bound → (cfg : PlaneConfig) (part : Part ℤ) (rows : List (List ℤ)) (width height : ℕ) → All (InDepth bound) part.entries → AreBelow bound rows
    → IsPartInDepth bound cfg (part_with_entries part (with_cut part.entries part.rect.width 0 0 width height (joined rows)))
part_right bound some cfg part rows width height before below x y hx hy =
    let new = with_cut part.entries part.rect.width 0 0 width height (joined rows) in
    let all = all_refilled (InDepth bound) part.entries new before (all_with_cut (InDepth bound) part.entries part.rect.width 0 0 width height (joined rows) before (all_joined (InDepth bound) rows below)) in
    entry_below bound some (part_with_entries part new).entries all (y * part.rect.width + x)

-- the frame that a right header of 8 bits and a seed make
module _ (h : Header) (t : TilingInfo) (seed : ℕ) (right : IsHeader h) (tiled : tiling h ≡ Ok t) (depth : h.format.depth ≡ 8) where
  -- The source of the frame.
  abbrev rows : Three (List (List ℤ))
  rows = source h.format seed

  -- The parameters of the frame.
  abbrev p : Parameters
  p = frame_parameters h t

  -- the starting view of tile n
  abbrev before : ℕ → View
  before n = view_of t (start_state h t rows) (start_blocks p) n

  -- what the recorded results of all tiles make of a view
  abbrev meaning : View → Option (List ℕ × View)
  meaning v = recorded_meaning t (first_values (λ n. coded_tile h t rows n) (t.cols * t.rows)) v

  -- the view that the result of tile n leaves
  abbrev after : ℕ → View
  after n = with_recorded (before n) (coded_planes h.format.sampling (tile_luma t n) rows) (generated_blocks (tile_blocks t n)) (coded_unit_lists t (unit_layouts p) n)

  -- the results make the bytes and the view of its own of each tile
  made : (n : ℕ) → n < t.cols * t.rows → meaning (before n) ≡ Some (coded_bytes n, after n)
  unfolding coded_tile
  made n l =
      ap (λ e. entry_meaning e (before n)) (own_entry t n ((header_tiles h t tiled).each n l) (λ n. coded_tile h t rows n) l)
      ∙ ap (λ (b : Bool). cond b (Some (coded_bytes n, after n)) None) (fits h t rows right tiled n l)

  -- the samples of the source have the frame's depth
  deep : IsPictureBelow (2 ^ h.format.depth) rows
  deep = (generated_read (record { header = h; tiling = t; source = rows; tiles = [] }) seed right tiled depth refl).depth

  -- the numbers of samples in the frame's depth are more than none
  some_numbers : 0 < 2 ^ h.format.depth
  some_numbers = pow_pos h.format.depth

  -- a rectangle of blank samples is in the frame's depth
  blank_deep : (count cols x y width height : ℕ) → All (InDepth (2 ^ h.format.depth)) (cut_of (replicate count (pos 0)) cols x y width height)
  blank_deep count cols x y width height =
      all_cut_of (InDepth (2 ^ h.format.depth)) (replicate count (pos 0)) cols x y width height (All-replicate (InDepth (2 ^ h.format.depth)) count (pos 0) (zero_below (2 ^ h.format.depth) some_numbers))

  -- the units of a tile are such as a bitstream describes, of blank ones that generated ones replace
  units_right : (count cols x y width height : ℕ) (new : List RestorationUnit) → All IsUnit new → All IsUnit (refilled (cut_of (replicate count no_unit) cols x y width height) new)
  units_right count cols x y width height new each =
      all_refilled IsUnit (cut_of (replicate count no_unit) cols x y width height) new (all_cut_of IsUnit (replicate count no_unit) cols x y width height (All-replicate IsUnit count no_unit tt)) each

  -- the bytes and the view of each tile are valid
  valid : (n : ℕ) → n < t.cols * t.rows → IsValid p (meaning (before n))
  valid n l =
      let bound = 2 ^ h.format.depth in
      let planes = coded_planes h.format.sampling (tile_luma t n) rows in
      let below = planes_below bound some_numbers h.format.sampling (tile_luma t n) rows deep in
      let d = decimations_of h.format.sampling in
      let layouts = unit_layouts p in
      let cfgs = frame_layout h.format.width h.format.height h.format.sampling in
      subst (IsValid p) (sym (made n l)) (record {
        some = (bytes_right n).0;
        few = (bytes_right n).1;
        samples = record {
          y = part_right bound some_numbers cfgs.y (before n).ts.rec.y planes.y _ _ (blank_deep _ _ _ _ _ _) below.y;
          u = part_right bound some_numbers cfgs.u (before n).ts.rec.u planes.u _ _ (blank_deep _ _ _ _ _ _) below.u;
          v = part_right bound some_numbers cfgs.v (before n).ts.rec.v planes.v _ _ (blank_deep _ _ _ _ _ _) below.v;
        };
        blocks =
            all_refilled (IsBlock d.0 d.1) (before n).blocks.entries (generated_blocks (tile_blocks t n))
            (all_cut_of (IsBlock d.0 d.1) (start_blocks p) _ _ _ _ _ (All-replicate (IsBlock d.0 d.1) (p.w_in_b * p.h_in_b) default_block (default_is_block d.0 d.1)))
            (generated_are_blocks d.0 d.1 (tile_blocks t n));
        units = record {
          y = units_right _ _ _ _ _ _ (generated_units t layouts.y n) (generated_are_units t layouts.y n);
          u = units_right _ _ _ _ _ _ (generated_units t layouts.u n) (generated_are_units t layouts.u n);
          v = units_right _ _ _ _ _ _ (generated_units t layouts.v n) (generated_are_units t layouts.v n);
        };
      })

  -- no result is refused
  pub accepted : refusal (said_job (generated h t seed)).parameters (said_job (generated h t seed)).results ≡ None
  unfolding generated
  accepted =
      (accepts_valid p (map meaning (views t (start_state h t rows) (start_blocks p)))).1
      (All-map (IsValid p) meaning (views t (start_state h t rows) (start_blocks p)) (all_views (λ v. IsValid p (meaning v)) t (start_state h t rows) (start_blocks p) valid))

-- an answer with results that aren't refused is that of a run that is done
reported_done : (form : Form) (s : Said) → refusal (said_job s).parameters (said_job s).results ≡ None → (group_answer form s).0 ≡ status.Done
unfolding group_answer
reported_done form s e =
    ap (λ (o : Option GroupError). (elim o as (λ _. Answer) [ Some x ↦ refused (status.Group x) | None ↦ (status.Done, reported_text form (reported (said_job s))) ]).0) e

-- the tiling of the generated frame: two by two tiles, each at most 15 superblocks wide and 9 high
abbrev own_tiling : TilingInfo
own_tiling = record {
  frame_width = 1920;
  frame_height = 1080;
  tile_width_sb = 15;
  tile_height_sb = 9;
  cols = 2;
  rows = 2;
  tile_cols_log2 = 1;
  tile_rows_log2 = 1;
  min_tile_cols_log2 = 0;
  max_tile_cols_log2 = 5;
  min_tile_rows_log2 = 0;
  max_tile_rows_log2 = 5;
  sb_size_log2 = 6;
  min_tiles_log2 = 0;
}

-- the generated frame has a tiling
tiled_so : tiling generated_header ≡ Ok own_tiling
unfolding tiling rate_log2 tile_width least tile_log2
tiled_so = refl

-- the generated header's numbers are within their bounds
header_right : IsHeader generated_header
header_right =
    let strengths = eight_within 0 4 8 12 1 2 3 21 (lit≤ tt) (lit≤ tt) (lit≤ tt) (lit≤ tt) (lit≤ tt) (lit≤ tt) (lit≤ tt) (lit≤ tt) in
    record {
      width = (lit≤ tt, lit≤ tt);
      height = (lit≤ tt, lit≤ tt);
      depth = inl refl;
      shift = lit≤ tt;
      damping = (lit≤ tt, lit≤ tt);
      y_strengths = strengths;
      uv_strengths = strengths;
      large = refl;
    }

-- the summary of a generated frame is answered, whatever the seed
generated_done : (seed : ℕ) → (generated_answer seed).0 ≡ status.Done
unfolding generated_answer
generated_done seed =
    ap (λ (r : Result TilingInfo Fault). (elim r as (λ _. Answer) [ Ok t ↦ group_answer forms.Summary (generated generated_header t seed) | Err fault ↦ fault_answer [] fault ]).0) tiled_so
    ∙ reported_done forms.Summary (generated generated_header own_tiling seed) (accepted generated_header own_tiling seed header_right tiled_so refl)

-- a status that the answer to a seed has is that of a run that is done
done_only : (seed : ℕ) (s : Status) → s ≡ (generated_answer seed).0 → IsOfOwnFrame s
done_only seed s e = subst IsOfOwnFrame (sym (e ∙ generated_done seed)) tt

-- a run that makes its own frame ends done, without memory, or with a write that failed
pub own_frame_ends : (command : Option Command) (left : Option (List ℕ)) (read_rose write_rose : Type 0) (old new : Option (List ℕ)) (s : Status)
    → Answered command (asked command left) read_rose write_rose old new s → makes_frame command ≡ true → IsOfOwnFrame s
unfolding asked
own_frame_ends None left read_rose write_rose old new s h made = absurd (true≢false (sym made))
own_frame_ends (Some (Group workers)) left read_rose write_rose old new s h made = absurd (true≢false (sym made))
own_frame_ends (Some Tiles) left read_rose write_rose old new s h made = absurd (true≢false (sym made))
own_frame_ends (Some (Gen seed workers)) left read_rose write_rose old new status.Done h made = tt
own_frame_ends (Some (Gen seed workers)) left read_rose write_rose old new status.OutOfMemory h made = tt
own_frame_ends (Some (Gen seed workers)) left read_rose write_rose old new status.WriteFault h made = tt
own_frame_ends (Some (Gen seed workers)) left read_rose write_rose old new status.Usage h made = absurd (true≢false h.0)
own_frame_ends (Some (Gen seed workers)) left read_rose write_rose old new status.ReadFault h made = absurd (true≢false (sym h.0))
own_frame_ends (Some (Gen seed workers)) left read_rose write_rose old new status.TooLong h made = done_only seed status.TooLong h.1.0
own_frame_ends (Some (Gen seed workers)) left read_rose write_rose old new status.NoTiling h made = done_only seed status.NoTiling h.1.0
own_frame_ends (Some (Gen seed workers)) left read_rose write_rose old new (status.Group error) h made = done_only seed (status.Group error) h.1.0
own_frame_ends (Some (Gen seed workers)) left read_rose write_rose old new (status.Syntax line) h made = done_only seed (status.Syntax line) h.1.0
