-- The caller's laws stand in step_laws, and are cited from here too.
pub use Rattle.step_laws.proofs.Caller.{completed_is_whole, caller_completes}
