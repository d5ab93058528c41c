use Rattle.std.proofs.Common.{◌≡◌, ◌+◌, ℕ, List, Ok, Err, ap, subst, ◌∙◌}
use Rattle.std.proofs.lemmas.Result.{err_from_is_err_and}
use Rattle.std.specs.Io.KnownBytes.{Appends}
use Rattle.cal_base.specs.Contents.{Told}
use Rattle.cal_base.specs.Claims.{size_of, meant}
use Rattle.cal_base.specs.Main.{step_event}
use Rattle.cal_base.specs.Text.{event_text}
use Rattle.step_core.specs.Calls.{IsEnd}
use Rattle.engine_laws.specs.Steps.{step_job}
use Rattle.machine_meaning.specs.Meaning.{main_of}
use Rattle.routine_vm.specs.Held.{main_state}
use Rattle.run_report.specs.Logs.{step_log}
use Rattle.calypso_engine.specs.Asked.{log_of, Outside, outside_of}
use Rattle.calypso_engine.specs.Logs.{Logs, LogsFront}
use Rattle.calypso_engine.specs.Kept.{lines_behind, lines_of_end}
use Rattle.calypso_engine.specs.Running.{job_here, opening_here}
use Rattle.event_engine.specs.Simulating.{resumed, WasPlayed}
use Rattle.calypso_engine.proofs.Kept.{kept_lines}
use Rattle.calypso_engine.proofs.Logging.{log_holds}
use Rattle.event_engine.proofs.Simulating.{front_none, step_part, step_all, step_front}
use Rattle.event_engine.proofs.simulation.sim_step.Goals as goal

pub returns-in_err-widths-clause-goes : goal.returns-in_err-widths-clause-goes
returns-in_err-widths-clause-goes g c =
    let s = c.args.standing.now in
    let o = c.args.options.now in
    let p = err_from_is_err_and c.from_residual.result c.from_residual.ensures.1 in
    rw p.1
    (front_none o (resumed (opening_here c.args.code.now o.fuel c.args.first_block s) c.args.scene.now c.args.events.now)
    (outside_of (g.S.Sink.written c.args.out.now) (g.F.Files.holds c.args.files.now))
    (log_holds c.args.files.now g.F.Files.holds g.F.Files.created g.met.F.Files.created_holds o.log c.requires.created))

pub returns-in_err-closed-clause-goes : goal.returns-in_err-closed-clause-goes
returns-in_err-closed-clause-goes g c =
    let s = c.args.standing.now in
    let o = c.args.options.now in
    let p = err_from_is_err_and c.from_residual-in_err-closed.result c.from_residual-in_err-closed.ensures.1 in
    rw p.1
    (front_none o (resumed (opening_here c.args.code.now o.fuel c.args.first_block s) c.args.scene.now c.args.events.now)
    (outside_of (g.S.Sink.written c.args.out.now) (g.F.Files.holds c.args.files.now))
    (log_holds c.args.files.now g.F.Files.holds g.F.Files.created g.met.F.Files.created_holds o.log c.requires.created))

pub returns-in_err-tell_step-clause-goes : goal.returns-in_err-tell_step-clause-goes
returns-in_err-tell_step-clause-goes g c =
    let s = c.args.standing.now in
    let o = c.args.options.now in
    let job = job_here c.args.code.now o.fuel c.args.first_block s in
    let p = err_from_is_err_and c.from_residual-in_err-tell_step.result c.from_residual-in_err-tell_step.ensures.1 in
    let was : Outside = outside_of (g.S.Sink.written c.args.out.now) (g.F.Files.holds c.args.files.now) in
    let now : Outside = outside_of (g.S.Sink.written c.tell_step.new.out) (g.F.Files.holds c.tell_step.new.files) in
    let played : WasPlayed job c.args.total c.args.events.now c.args.scene.now c.play_step.new.scene c.play_step.new.image.memory c.in_ok-closed.closed =
    subst
    (λ (widths : List ℕ). WasPlayed (step_job c.args.code.now o.fuel (s.steps + 1) s.image.memory c.args.first_block widths) c.args.total c.args.events.now c.args.scene.now c.play_step.new.scene
    c.play_step.new.image.memory c.in_ok-closed.closed)
    (c.as_slice.ensures.value ∙ c.in_ok-widths.ensures) c.in_ok-closed.ensures.played
    in
    rw p.1
    (step_front o job c.in_ok-closed.closed.history.items played.whole (resumed (opening_here c.args.code.now o.fuel c.args.first_block s) c.args.scene.now c.args.events.now)
    (λ later. resumed (main_of c.args.code.now o.fuel (s.steps + 1) (main_state c.args.code.now s.machine later)) c.play_step.new.scene c.args.events.now)
    (played.goes (λ later. main_of c.args.code.now o.fuel (s.steps + 1) (main_state c.args.code.now s.machine later))) was now
    c.in_ok-closed.closed.result c.play_step.new.image.memory c.keep_words.new.kept played.left
    (kept_lines o.steps s.image.memory c.play_step.new.image.memory s.kept c.keep_words.new.kept (s.steps + 1) (size_of job) c.requires.may.room c.keep_words.ensures)
    c.in_err-tell_step.ensures.out_front
    (subst (λ (n : ℕ). Told was.files now.files (LogsFront (log_of o) (step_log (record { number = s.steps + 1; size = n; history = c.in_ok-closed.closed.history.items })))) played.size
    c.in_err-tell_step.ensures.log_front))

pub returns-in-Ok-clause-goes : goal.returns-in-Ok-clause-goes
returns-in-Ok-clause-goes g c =
    let s = c.args.standing.now in
    let o = c.args.options.now in
    let job = job_here c.args.code.now o.fuel c.args.first_block s in
    let later = c.play_step.new.image.memory in
    let was : Outside = outside_of (g.S.Sink.written c.args.out.now) (g.F.Files.holds c.args.files.now) in
    let now : Outside = outside_of (g.S.Sink.written c.tell_step.new.out) (g.F.Files.holds c.tell_step.new.files) in
    let played : WasPlayed job c.args.total c.args.events.now c.args.scene.now c.play_step.new.scene later c.in_ok-closed.closed =
    subst
    (λ (widths : List ℕ). WasPlayed (step_job c.args.code.now o.fuel (s.steps + 1) s.image.memory c.args.first_block widths) c.args.total c.args.events.now c.args.scene.now c.play_step.new.scene later
    c.in_ok-closed.closed)
    (c.as_slice.ensures.value ∙ c.in_ok-widths.ensures) c.in_ok-closed.ensures.played
    in
    let is : c.in_ok-closed.closed.result ≡ Ok tt = c.in-Ok.is in
    let lines : lines_behind c.keep_words.new.kept (s.steps + 1) later ≡ event_text o.steps (step_event job later) =
    kept_lines o.steps s.image.memory later s.kept c.keep_words.new.kept (s.steps + 1) (size_of job) c.requires.may.room c.keep_words.ensures
    in
    step_part o job c.in_ok-closed.closed.history.items played.whole (resumed (opening_here c.args.code.now o.fuel c.args.first_block s) c.args.scene.now c.args.events.now)
    (λ later. resumed (main_of c.args.code.now o.fuel (s.steps + 1) (main_state c.args.code.now s.machine later)) c.play_step.new.scene c.args.events.now)
    (played.goes (λ later. main_of c.args.code.now o.fuel (s.steps + 1) (main_state c.args.code.now s.machine later))) was now later
    (subst (λ r. IsEnd (meant job) later r) is played.left)
    (subst (Appends was.out now.out) (ap (λ r. lines_of_end r c.keep_words.new.kept (s.steps + 1) later) is ∙ lines) c.in_ok-tell_step.ensures.out)
    (subst (λ (n : ℕ). Told was.files now.files (Logs (log_of o) (step_log (record { number = s.steps + 1; size = n; history = c.in_ok-closed.closed.history.items })))) played.size
    c.in_ok-tell_step.ensures.log)

pub returns-clause-goes : goal.returns-clause-goes
returns-clause-goes g c =
    let s = c.args.standing.now in
    let o = c.args.options.now in
    let job = job_here c.args.code.now o.fuel c.args.first_block s in
    let later = c.play_step.new.image.memory in
    let was : Outside = outside_of (g.S.Sink.written c.args.out.now) (g.F.Files.holds c.args.files.now) in
    let now : Outside = outside_of (g.S.Sink.written c.tell_step.new.out) (g.F.Files.holds c.tell_step.new.files) in
    let played : WasPlayed job c.args.total c.args.events.now c.args.scene.now c.play_step.new.scene later c.in_ok-closed.closed =
    subst
    (λ (widths : List ℕ). WasPlayed (step_job c.args.code.now o.fuel (s.steps + 1) s.image.memory c.args.first_block widths) c.args.total c.args.events.now c.args.scene.now c.play_step.new.scene later
    c.in_ok-closed.closed)
    (c.as_slice.ensures.value ∙ c.in_ok-widths.ensures) c.in_ok-closed.ensures.played
    in
    let is : c.in_ok-closed.closed.result ≡ Err c.in-Err.fault = c.in-Err.is in
    step_all o job c.in_ok-closed.closed.history.items played.whole (resumed (opening_here c.args.code.now o.fuel c.args.first_block s) c.args.scene.now c.args.events.now)
    (λ later. resumed (main_of c.args.code.now o.fuel (s.steps + 1) (main_state c.args.code.now s.machine later)) c.play_step.new.scene c.args.events.now)
    (played.goes (λ later. main_of c.args.code.now o.fuel (s.steps + 1) (main_state c.args.code.now s.machine later))) was now c.in-Err.fault
    (subst (λ r. IsEnd (meant job) later r) is played.left)
    (subst (Appends was.out now.out) (ap (λ r. lines_of_end r c.keep_words.new.kept (s.steps + 1) later) is) c.in_ok-tell_step.ensures.out)
    (subst (λ (n : ℕ). Told was.files now.files (Logs (log_of o) (step_log (record { number = s.steps + 1; size = n; history = c.in_ok-closed.closed.history.items })))) played.size
    c.in_ok-tell_step.ensures.log)
