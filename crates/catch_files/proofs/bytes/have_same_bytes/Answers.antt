use Rattle.std.proofs.Common.{◌∙◌, ◌≤◌, ◌+◌, arith, refl}
use Rattle.std.proofs.lemmas.Result.{IfOk-weaker}
use Rattle.col_disk.proofs.Moving.{moved_join, moved_none}
use Rattle.catch_files.proofs.Pieces.{goes_on, last, on_piece, starts}
use Rattle.catch_files.proofs.bytes.have_same_bytes.Goals as goal

pub loop-done-init : goal.loop-done-init
loop-done-init g c = record {
  within = omega arith;
  same = starts (g.A.Disk.holds c.args.at.now) (g.B.Disk.holds c.args.from.now) c.args.name c.args.len;
  behind_kept = refl;
  behind_moved = moved_none g.A.Disk c.args.at.now;
  ahead_kept = refl;
  ahead_moved = moved_none g.B.Disk c.args.from.now;
}

pub returns-in_err-is_same_piece-clause-behind_moved : goal.returns-in_err-is_same_piece-clause-behind_moved
returns-in_err-is_same_piece-clause-behind_moved g c = moved_join g.A.Disk c.loop-done.invariant.behind_moved c.is_same_piece.ensures.behind_moved

pub returns-in_err-is_same_piece-clause-ahead_moved : goal.returns-in_err-is_same_piece-clause-ahead_moved
returns-in_err-is_same_piece-clause-ahead_moved g c = moved_join g.B.Disk c.loop-done.invariant.ahead_moved c.is_same_piece.ensures.ahead_moved

pub returns-then-not-branch-clause-behind_moved : goal.returns-then-not-branch-clause-behind_moved
returns-then-not-branch-clause-behind_moved g c = moved_join g.A.Disk c.loop-done.invariant.behind_moved c.is_same_piece.ensures.behind_moved

pub returns-then-not-branch-clause-ahead_moved : goal.returns-then-not-branch-clause-ahead_moved
returns-then-not-branch-clause-ahead_moved g c = moved_join g.B.Disk c.loop-done.invariant.ahead_moved c.is_same_piece.ensures.ahead_moved

pub loop-done-preserved : goal.loop-done-preserved
loop-done-preserved g c = record {
  within = let more = c.loop-done-test.true in let was = c.loop-done.invariant.within in omega (arith, more, was);
  same = goes_on (g.A.Disk.holds c.args.at.now) (g.B.Disk.holds c.args.from.now) (g.A.Disk.holds c.loop-done.at) (g.B.Disk.holds c.loop-done.from) c.args.name c.args.len c.loop-done.done c.loop-done.invariant.behind_kept c.loop-done.invariant.ahead_kept
      c.loop-done.invariant.same (on_piece c.in_ok-is_same_piece.field-0 c.if-not-branch.false c.in_ok-is_same_piece.ensures.same);
  behind_kept = c.is_same_piece.ensures.behind_kept ∙ c.loop-done.invariant.behind_kept;
  behind_moved = moved_join g.A.Disk c.loop-done.invariant.behind_moved c.is_same_piece.ensures.behind_moved;
  ahead_kept = c.is_same_piece.ensures.ahead_kept ∙ c.loop-done.invariant.ahead_kept;
  ahead_moved = moved_join g.B.Disk c.loop-done.invariant.ahead_moved c.is_same_piece.ensures.ahead_moved;
}

pub returns-clause-same : goal.returns-clause-same
returns-clause-same g c =
    let all : c.args.len ≤ c.loop-done.done + 1048576 = let less = c.loop-done-test.false in let was = c.loop-done.invariant.within in omega (arith, less, was) in
    IfOk-weaker c.is_same_piece-2.result _ _ (λ r same. last r (g.A.Disk.holds c.args.at.now) (g.B.Disk.holds c.args.from.now) (g.A.Disk.holds c.loop-done.at) (g.B.Disk.holds c.loop-done.from) c.args.name c.args.len c.loop-done.done c.loop-done.invariant.behind_kept
    c.loop-done.invariant.ahead_kept all c.loop-done.invariant.same same) c.is_same_piece-2.ensures.same

pub returns-clause-behind_moved : goal.returns-clause-behind_moved
returns-clause-behind_moved g c = moved_join g.A.Disk c.loop-done.invariant.behind_moved c.is_same_piece-2.ensures.behind_moved

pub returns-clause-ahead_moved : goal.returns-clause-ahead_moved
returns-clause-ahead_moved g c = moved_join g.B.Disk c.loop-done.invariant.ahead_moved c.is_same_piece-2.ensures.ahead_moved
