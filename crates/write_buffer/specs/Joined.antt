-- A pool, a cache and a buffer that serve a routine as its words.
use Rattle.std.specs.Prelude.{◌≡◌, ℕ, ◌<◌, ◌≤◌, length, None}
use Rattle.cal_base.specs.Memory.{kinds_of}
use Rattle.cal_base.specs.Pages.{Paged}
use Rattle.frame_pool.specs.Pool.{Pool, frame_at as words_in}
use Rattle.shared_pages.specs.Kept.{frame_at, IsNewFrame}
use Rattle.shared_pages.specs.Cached.{Cached, Fits, IsBacked}
use Rattle.write_buffer.specs.Buffered.{Buffered, frame_of, IsForeign, AreOut}

-- the cache fits the source and may take what it still needs, the frames of cache and buffer are out of the pool, and no frame is of both
pub record Joined (pool : Pool) (cache : Cached) (buffer : Buffered) (source : Paged) : Type 0 where
  pub fits : Fits pool cache.kept source
  pub backed : IsBacked pool cache.size cache.kept
  pub own : AreOut pool buffer.frames
  pub apart : (p : ℕ) → p < length buffer.frames → IsNewFrame cache.kept (frame_of buffer.frames p)
  pub kinds : buffer.kinds ≡ kinds_of source.memory

-- the same three references are held, and the source has the same pages
pub record SameLoans {N : Type 0} (pool pool' cache cache' buffer buffer' : N) (source source' : Paged) : Type 0 where
  pub pool_same : pool' ≡ pool
  pub cache_same : cache' ≡ cache
  pub buffer_same : buffer' ≡ buffer
  pub source_same : source' ≡ source

-- the cache keeps its frames and may have taken free ones, the buffer keeps its own, and every frame of neither stays as it is
pub record KeepsView (pool later : Pool) (cache after : Cached) (buffer now : Buffered) : Type 0 where
  pub size : after.size ≡ cache.size
  pub kinds : now.kinds ≡ buffer.kinds
  pub frames : now.frames ≡ buffer.frames
  pub no_fewer : length cache.kept ≤ length after.kept
  pub same : (i : ℕ) → i < length cache.kept → frame_at after.kept i ≡ frame_at cache.kept i
  pub taken : (i : ℕ) → length cache.kept ≤ i → i < length after.kept → words_in pool (frame_at after.kept i) ≡ None
  pub others : (f : ℕ) → IsNewFrame after.kept f → IsForeign buffer.frames f → words_in later f ≡ words_in pool f
