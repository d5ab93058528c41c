-- What becomes of a pool that lends the words of a frame.
use Rattle.std.specs.Prelude.{ℕ, ℤ, List, Some, slice_set}
use Rattle.std.specs.Borrow.{Lends, MutBor, Fml, i64, Array}
use Rattle.frame_pool.specs.Pool.{Pool}
use Rattle.frame_pool.specs.contracts.pool.FramePool.{the_row}

-- the frame has the words that were left, and the others stay
abbrev pub LendsWords : MutBor Pool → ℕ → MutBor (List ℤ) → Fml
LendsWords pool f lent = Lends the_row (Array i64 64) pool lent (λ words. slice_set pool.now f (Some words))
