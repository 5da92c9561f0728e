use Rattle.std.proofs.Common.{ℕ, List, arith, length-drop, subst}
use Rattle.common_laws.specs.Told.{AppendsFront}
use Rattle.col_io.specs.Sinks.{TakesFront}
use Rattle.col_io.proofs.Progress.{more_taken, front_taken}
use Rattle.col_io.proofs.writing.write_all.Goals as goal

pub loop-at-preserved : goal.loop-at-preserved
loop-at-preserved g c =
    let step = subst (λ (rest : List ℕ). TakesFront (g.S.Sink.taken c.loop-at.out) (g.S.Sink.taken c.write.new.self) rest c.in-Ok.count) c.rest_of.ensures c.in-Ok.ensures.taken in
    record {
      within = omega (arith, step.within, length-drop c.loop-at.at c.args.piece.now);
      so_far = more_taken _ _ _ c.args.piece.now c.loop-at.at c.in-Ok.count c.loop-at.invariant.so_far step.front;
      count = omega (arith, c.loop-at.invariant.count, c.in-Ok.ensures.cause.later);
    }

pub returns-in-Err-clause-front : goal.returns-in-Err-clause-front
returns-in-Err-clause-front g c =
    front_taken (g.S.Sink.taken c.args.out.now) (g.S.Sink.taken c.loop-at.out) (g.S.Sink.taken c.write.new.self) c.args.piece.now c.loop-at.at
    c.loop-at.invariant.so_far
    (subst (λ (rest : List ℕ). AppendsFront (g.S.Sink.taken c.loop-at.out) (g.S.Sink.taken c.write.new.self) rest) c.rest_of.ensures c.in-Err.ensures.front)
