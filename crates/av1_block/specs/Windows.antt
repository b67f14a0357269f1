-- Where a view stands: in the table that it borrows, and in the frame's table.
use Rattle.std.specs.Prelude.{ℕ, ◌+◌, ◌-◌, min}
use Rattle.av1_plane.specs.declared.tile_rect.TileRect.{TileRect}
use Rattle.av1_block.specs.declared.window.Window.{Window}

-- a rectangle of the frame's own table
abbrev pub frame_window : (x y cols rows frame_cols frame_rows : ℕ) → Window
frame_window x y cols rows frame_cols frame_rows =
    record { left = x; top = y; x = x; y = y; cols = cols; rows = rows; frame_cols = frame_cols; frame_rows = frame_rows }

-- a rectangle that was cut out of a frame's table of these sides, as far as that table goes
abbrev pub cut_window : TileRect → (frame_cols frame_rows : ℕ) → Window
cut_window rect frame_cols frame_rows =
    record {
      left = 0;
      top = 0;
      x = rect.x;
      y = rect.y;
      cols = min rect.width (frame_cols - rect.x);
      rows = min rect.height (frame_rows - rect.y);
      frame_cols = frame_cols;
      frame_rows = frame_rows;
    }

-- the part of a window from column x of row y on, of these sides as far as the window goes
abbrev pub window_part : Window → (x y cols rows : ℕ) → Window
window_part w x y cols rows =
    record {
      left = w.left + x;
      top = w.top + y;
      x = w.x + x;
      y = w.y + y;
      cols = min cols (w.cols - x);
      rows = min rows (w.rows - y);
      frame_cols = w.frame_cols;
      frame_rows = w.frame_rows;
    }
