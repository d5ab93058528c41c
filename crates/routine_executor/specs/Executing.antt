-- What a contract sees of an executor, and how it holds its frames.
use Rattle.std.specs.Prelude.{◌≡◌, ℕ, ◌*◌, ◌<◌, ◌≤◌, List, length}
use Rattle.cal_terms.specs.declared.kinds.WordKind.{WordKind}
use Rattle.cal_base.specs.Updates.{Written}
use Rattle.cal_base.specs.Memory.{kinds_of}
use Rattle.cal_base.specs.Pages.{Paged, page_size, version_of}
use Rattle.frame_pool.specs.Pool.{Pool}
use Rattle.shared_pages.specs.declared.kept.Kept.{Kept}
use Rattle.shared_pages.specs.Kept.{IsNewFrame}
use Rattle.shared_pages.specs.Cached.{Cached, Fits, IsBacked, Serves}
use Rattle.write_buffer.specs.Buffered.{Buffered, frame_of, AreOut}

-- for how many pages there is room, those that are kept, and the frames in which they are
pub record KeptPages : Type 0 where
  pub size : ℕ
  pub frames : Pool
  pub pages : List Kept

-- the kinds of the words for which an executor was made, how many pages it fetched, those that it keeps, and what the last routine wrote
pub record Executing : Type 0 where
  pub words : List WordKind
  pub fetched : ℕ
  pub kept : KeptPages
  pub written : Written

-- the executor may execute on this image: it has the words for which it was made, and the kept pages fit it
pub record MayExecute (executor : Executing) (image : Paged) : Type 0 where
  pub words : executor.words ≡ kinds_of image.memory
  pub fits : Fits executor.kept.frames executor.kept.pages image

-- the frames of the cache and of the buffer are out of the pool, none is of both, and as many are free as the cache may still take
pub record HoldsFrames (pool : Pool) (cache : Cached) (buffer : Buffered) : Type 0 where
  pub backed : IsBacked pool cache.size cache.kept
  pub own : AreOut pool buffer.frames
  pub apart : (p : ℕ) → p < length buffer.frames → IsNewFrame cache.kept (frame_of buffer.frames p)

-- for how many pages there is room, those that are kept, and how many were fetched
abbrev pub cache_of : Executing → Cached
cache_of executor = record { size = executor.kept.size; kept = executor.kept.pages; fetched = executor.fetched }

-- page p was asked for where the image has it, and else the cache stays
pub record Asks (cache after : Cached) (image : Paged) (p : ℕ) : Type 0 where
  pub there : page_size * p < length image.memory → Serves cache after p (version_of image p)
  pub none : length image.memory ≤ page_size * p → after ≡ cache
