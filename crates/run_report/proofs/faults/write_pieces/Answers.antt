use Rattle.std.proofs.Common.{arith}
use Rattle.run_report.proofs.Fronts.{next_piece, stopped_piece, err_holds}
use Rattle.run_report.proofs.faults.write_pieces.Goals as goal

pub returns-in_err-write_all-clause-err : goal.returns-in_err-write_all-clause-err
returns-in_err-write_all-clause-err g c =
    err_holds _ (stopped_piece _ (g.S.Sink.written c.loop-piece.sink) _ c.args.pieces.now c.loop-piece.piece-index _ (omega arith) c.loop-piece.invariant.way c.in_err-write_all.ensures.err)

pub loop-piece-preserved : goal.loop-piece-preserved
loop-piece-preserved g c = record {
  way = next_piece _ (g.S.Sink.written c.loop-piece.sink) _ c.args.pieces.now c.loop-piece.piece-index _ (omega arith) c.loop-piece.invariant.way c.in_ok-write_all.ensures.ok;
  later = omega arith;
}
