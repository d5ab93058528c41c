use Rattle.std.proofs.Common.{◌≡◌, ◌+◌, ◌≤◌, ℕ, length, arith, ◌++◌, ◌∷◌, [], List, Result, Ok, Err, IfOk, ap, subst, ◌∙◌}
use Rattle.std.proofs.lemmas.Result.{err_from_is_err_and}
use Rattle.cal_base.specs.declared.ends.RunEnd.{RunEnd}
use Rattle.cal_base.specs.declared.step.WorkerTally.{WorkerTally}
use Rattle.engine_laws.proofs.Units.{steps_are_numbered}
use Rattle.machine_meaning.specs.Meaning.{machine_main}
use Rattle.calypso_engine.specs.Asked.{outside_of}
use Rattle.calypso_engine.specs.Running.{rest_of, Comes}
use Rattle.calypso_engine.specs.declared.error.RunError.{RunError}
use Rattle.calypso_engine.specs.declared.error.RunError.TheVariants.{NoMemory}
use Rattle.calypso_engine.proofs.Events.{gave_nothing, stopped_here}
use Rattle.calypso_engine.proofs.Logging.{log_holds}
use Rattle.calypso_engine.proofs.Ready.{first_rest, first_ready}
use Rattle.calypso_engine.proofs.Teams.{team_count}
use Rattle.calypso_engine.proofs.Whole.{tallies_of, came_ending, came_text, came_told, gave_front, gave_log, gave_between}
use Rattle.calypso_engine.proofs.engine.run.Goals as goal

room_is : (len capacity n : ℕ) {made : ℕ} (long : ℕ) → len ≡ 0 → made + 1 ≤ capacity → made ≡ n → long ≡ n → len + (long + 1) ≤ capacity
room_is len capacity n long p q r s = omega arith

held_of : {T E P : Type 0} (r : Result T E) (x : T) → r ≡ Ok x → IfOk r (λ _. P) → P
held_of (Ok value) x e h = h
held_of (Err error) x e h = absurd (cc)

err_is : {T E : Type 0} (x y : E) → ◌≡◌ {A = Result T E} (Err x) (Err y) → x ≡ y
err_is x y e = cc

pub returns-in_err-tallies-clause-front : goal.returns-in_err-tallies-clause-front
returns-in_err-tallies-clause-front g c =
    let o = c.args.options.now in
    let m = c.args.code.now in
    let was = outside_of (g.S.Sink.written c.args.out.now) (g.F.Files.holds c.args.files.now) in
    let p = err_from_is_err_and c.from_residual.result c.from_residual.ensures.1 in
    rw p.1
    (gave_nothing o (machine_main m o.fuel) 0 (steps_are_numbered m o.fuel) p.0 was (log_holds c.args.files.now g.F.Files.holds g.F.Files.created g.met.F.Files.created_holds o.log
    c.requires.created)).logged

pub returns-in_err-tallies-clause-between : goal.returns-in_err-tallies-clause-between
returns-in_err-tallies-clause-between g c = λ none.
    let o = c.args.options.now in
    let was = outside_of (g.S.Sink.written c.args.out.now) (g.F.Files.holds c.args.files.now) in
    stopped_here o (machine_main c.args.code.now o.fuel) was (log_holds c.args.files.now g.F.Files.holds g.F.Files.created g.met.F.Files.created_holds o.log c.requires.created)

pub returns-in_err-standing-clause-front : goal.returns-in_err-standing-clause-front
returns-in_err-standing-clause-front g c =
    let o = c.args.options.now in
    let m = c.args.code.now in
    let was = outside_of (g.S.Sink.written c.args.out.now) (g.F.Files.holds c.args.files.now) in
    let p = err_from_is_err_and c.from_residual-in_err-standing.result c.from_residual-in_err-standing.ensures.1 in
    rw p.1
    (gave_nothing o (machine_main m o.fuel) 0 (steps_are_numbered m o.fuel) p.0 was (log_holds c.args.files.now g.F.Files.holds g.F.Files.created g.met.F.Files.created_holds o.log
    c.requires.created)).logged

pub returns-in_err-standing-clause-between : goal.returns-in_err-standing-clause-between
returns-in_err-standing-clause-between g c = λ none.
    let o = c.args.options.now in
    let was = outside_of (g.S.Sink.written c.args.out.now) (g.F.Files.holds c.args.files.now) in
    stopped_here o (machine_main c.args.code.now o.fuel) was (log_holds c.args.files.now g.F.Files.holds g.F.Files.created g.met.F.Files.created_holds o.log c.requires.created)

pub returns-in_err-team-clause-front : goal.returns-in_err-team-clause-front
returns-in_err-team-clause-front g c =
    let o = c.args.options.now in
    let m = c.args.code.now in
    let was = outside_of (g.S.Sink.written c.args.out.now) (g.F.Files.holds c.args.files.now) in
    let p = err_from_is_err_and c.from_residual-in_err-team.result c.from_residual-in_err-team.ensures.1 in
    rw p.1
    (gave_nothing o (machine_main m o.fuel) 0 (steps_are_numbered m o.fuel) p.0 was (log_holds c.args.files.now g.F.Files.holds g.F.Files.created g.met.F.Files.created_holds o.log
    c.requires.created)).logged

pub returns-in_err-team-clause-between : goal.returns-in_err-team-clause-between
returns-in_err-team-clause-between g c = λ none.
    let o = c.args.options.now in
    let was = outside_of (g.S.Sink.written c.args.out.now) (g.F.Files.holds c.args.files.now) in
    stopped_here o (machine_main c.args.code.now o.fuel) was (log_holds c.args.files.now g.F.Files.holds g.F.Files.created g.met.F.Files.created_holds o.log c.requires.created)

pub run_on-came-requires-clause-ready : goal.run_on-came-requires-clause-ready
run_on-came-requires-clause-ready g c κs within =
    first_ready c.args.code.now c.args.options.now c.in_ok-standing.standing c.in_ok-standing.ensures c.in_ok-team.team c.requires.few c.in_ok-team.ensures.working

pub returns-in-Err-clause-prefix : goal.returns-in-Err-clause-prefix
returns-in-Err-clause-prefix g c =
    let o = c.args.options.now in
    let m = c.args.code.now in
    let s = c.in_ok-standing.standing in
    let was = outside_of (g.S.Sink.written c.args.out.now) (g.F.Files.holds c.args.files.now) in
    let now = outside_of (g.S.Sink.written c.run_on-came.new.out) (g.F.Files.holds c.run_on-came.new.files) in
    (gave_front o (machine_main m o.fuel) (rest_of m o.fuel s) (first_rest m o s c.in_ok-standing.ensures) was now c.in-Err.error
    (subst (λ (r : Result RunEnd RunError). Comes o (rest_of m o.fuel s) c.in_ok-team.team c.run_on-came.new.team was now r) c.in-Err.is c.run_on-came.ensures.comes))

pub returns-in-Err-clause-front : goal.returns-in-Err-clause-front
returns-in-Err-clause-front g c =
    let o = c.args.options.now in
    let m = c.args.code.now in
    let s = c.in_ok-standing.standing in
    let was = outside_of (g.S.Sink.written c.args.out.now) (g.F.Files.holds c.args.files.now) in
    let now = outside_of (g.S.Sink.written c.run_on-came.new.out) (g.F.Files.holds c.run_on-came.new.files) in
    (gave_log o (machine_main m o.fuel) (rest_of m o.fuel s) (first_rest m o s c.in_ok-standing.ensures) was now c.in-Err.error
    (subst (λ (r : Result RunEnd RunError). Comes o (rest_of m o.fuel s) c.in_ok-team.team c.run_on-came.new.team was now r) c.in-Err.is c.run_on-came.ensures.comes))

pub returns-in-Err-clause-between : goal.returns-in-Err-clause-between
returns-in-Err-clause-between g c = λ none.
    let o = c.args.options.now in
    let m = c.args.code.now in
    let s = c.in_ok-standing.standing in
    let was = outside_of (g.S.Sink.written c.args.out.now) (g.F.Files.holds c.args.files.now) in
    let now = outside_of (g.S.Sink.written c.run_on-came.new.out) (g.F.Files.holds c.run_on-came.new.files) in
    gave_between o (machine_main m o.fuel) (rest_of m o.fuel s) (first_rest m o s c.in_ok-standing.ensures) was now c.in-Err.error
    (subst (λ (r : Result RunEnd RunError). Comes o (rest_of m o.fuel s) c.in_ok-team.team c.run_on-came.new.team was now r) c.in-Err.is c.run_on-came.ensures.comes)
    (err_is c.in-Err.error NoMemory none)

pub returns-in-Ok-clause-end : goal.returns-in-Ok-clause-end
returns-in-Ok-clause-end g c =
    let o = c.args.options.now in
    let m = c.args.code.now in
    let s = c.in_ok-standing.standing in
    let was = outside_of (g.S.Sink.written c.args.out.now) (g.F.Files.holds c.args.files.now) in
    let now = outside_of (g.S.Sink.written c.run_on-came.new.out) (g.F.Files.holds c.run_on-came.new.files) in
    came_ending o (machine_main m o.fuel) (rest_of m o.fuel s) (first_rest m o s c.in_ok-standing.ensures) was now c.in-Ok.ended c.in_ok-team.team c.run_on-came.new.team
    (subst (λ (r : Result RunEnd RunError). Comes o (rest_of m o.fuel s) c.in_ok-team.team c.run_on-came.new.team was now r) c.in-Ok.is c.run_on-came.ensures.comes)

pub returns-in-Ok-clause-whole : goal.returns-in-Ok-clause-whole
returns-in-Ok-clause-whole g c =
    let o = c.args.options.now in
    let m = c.args.code.now in
    let s = c.in_ok-standing.standing in
    let was = outside_of (g.S.Sink.written c.args.out.now) (g.F.Files.holds c.args.files.now) in
    let now = outside_of (g.S.Sink.written c.run_on-came.new.out) (g.F.Files.holds c.run_on-came.new.files) in
    came_text o (machine_main m o.fuel) (rest_of m o.fuel s) (first_rest m o s c.in_ok-standing.ensures) was now c.in-Ok.ended c.in_ok-team.team c.run_on-came.new.team
    (subst (λ (r : Result RunEnd RunError). Comes o (rest_of m o.fuel s) c.in_ok-team.team c.run_on-came.new.team was now r) c.in-Ok.is c.run_on-came.ensures.comes)

pub returns-in-Ok-clause-told : goal.returns-in-Ok-clause-told
returns-in-Ok-clause-told g c =
    let o = c.args.options.now in
    let m = c.args.code.now in
    let s = c.in_ok-standing.standing in
    let was = outside_of (g.S.Sink.written c.args.out.now) (g.F.Files.holds c.args.files.now) in
    let now = outside_of (g.S.Sink.written c.run_on-came.new.out) (g.F.Files.holds c.run_on-came.new.files) in
    came_told o (machine_main m o.fuel) (rest_of m o.fuel s) (first_rest m o s c.in_ok-standing.ensures) was now c.in-Ok.ended c.in_ok-team.team c.run_on-came.new.team
    (subst (λ (r : Result RunEnd RunError). Comes o (rest_of m o.fuel s) c.in_ok-team.team c.run_on-came.new.team was now r) c.in-Ok.is c.run_on-came.ensures.comes) c.in_ok-standing.standing.image m
    c.in_ok-team.ensures (held_of c.run_on-came.result c.in-Ok.ended c.in-Ok.is c.run_on-came.ensures.tallies) c.from_vec.result
    (c.from_vec.ensures ∙ c.add_tallies.ensures ∙ ap (λ (l : List WorkerTally). l ++ (tallies_of c.run_on-came.new.team.workers.items ++ c.run_on-came.new.team.caller.tally ∷ []))
    c.in_ok-tallies.ensures.items)

pub add_tallies-requires : goal.add_tallies-requires
add_tallies-requires g c =
    let has = held_of c.run_on-came.result c.in-Ok.ended c.in-Ok.is c.run_on-came.ensures.tallies in
    room_is _ _ c.args.options.now.workers (length c.run_on-came.new.team.workers.items) c.in_ok-tallies.ensures.len (c.in_ok-tallies.ensures.capacity) (c.from.ensures)
    (team_count c.args.options.now.workers c.run_on-came.new.team.workers.items has.numbers)
