-- How a buffer is held: steps of the code.
use Rattle.std.specs.Prelude.{◌≡◌, ℕ, ◌≤◌, List, length}
use Rattle.std.specs.Int.{div_ceil}
use Rattle.cal_terms.specs.declared.kinds.WordKind.{WordKind}
use Rattle.write_buffer.specs.Buffered.{AreApart}

-- there is a frame and a mask for each page
pub record IsBuffer (kinds : List WordKind) (frames masks : List ℕ) : Type 0 where
  pub limit : length kinds ≤ 262144
  pub pages : length masks ≡ div_ceil (length kinds) 64
  pub same : length frames ≡ length masks
  pub apart : AreApart frames
