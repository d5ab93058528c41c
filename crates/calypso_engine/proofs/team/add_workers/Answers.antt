use Rattle.std.proofs.Common.{◌≡◌, ◌+◌, ℕ, List, refl, sym, subst, ◌∙◌, arith}
use Rattle.worker_gate.specs.Working.{WorkerState}
use Rattle.calypso_engine.specs.Beginning.{AreBegun}
use Rattle.calypso_engine.proofs.Beginning.{begun_none, begun_push}
use Rattle.calypso_engine.proofs.team.add_workers.Goals as goal

pub loop-who-init : goal.loop-who-init
loop-who-init c = record {
  begun = subst (λ (ws : List WorkerState). AreBegun c.args.options.now.script.now 0 c.args.image.now c.args.code.now ws) (sym c.requires.none)
      (begun_none c.args.options.now.script.now c.args.image.now c.args.code.now);
  len = c.requires.empty;
  room = refl;
}

pub loop-who-preserved : goal.loop-who-preserved
loop-who-preserved c = record {
  begun =
      subst (λ (ws : List WorkerState). AreBegun c.args.options.now.script.now (c.loop-who.who + 1) c.args.image.now c.args.code.now ws) (sym c.push_reserved.ensures.items)
      (begun_push c.args.options.now.script.now c.loop-who.who c.args.image.now c.args.code.now c.loop-who.workers.items c.in_ok-worker.worker c.loop-who.invariant.begun c.in_ok-worker.ensures);
  len = omega (arith, c.push_reserved.ensures.len, c.loop-who.invariant.len);
  room = c.push_reserved.ensures.capacity ∙ c.loop-who.invariant.room;
}

pub returns : goal.returns
returns c =
    let all : c.loop-who.who ≡ c.args.options.now.workers = omega (arith, c.loop-who-test.false, c.loop-who.auto.who-end) in
    subst (λ (n : ℕ). AreBegun c.args.options.now.script.now n c.args.image.now c.args.code.now c.loop-who.workers.items) all c.loop-who.invariant.begun
