use Rattle.std.proofs.Common.{◌∙◌, refl}
use Rattle.col_disk.proofs.Moving.{moved_join, moved_none}
use Rattle.catch_files.proofs.Pieces.{on_piece}
use Rattle.catch_files.proofs.Names.{none_yet, one_more}
use Rattle.catch_files.proofs.files.have_same_columns.Goals as goal

pub loop-j-init : goal.loop-j-init
loop-j-init g c = record {
  same = λ m n here there. none_yet c.args.container.now.base m n;
  behind_kept = refl;
  behind_moved = moved_none g.A.Disk c.args.at.now;
  ahead_kept = refl;
  ahead_moved = moved_none g.B.Disk c.args.from.now;
}

pub returns-in_err-is_same_file-clause-behind_moved : goal.returns-in_err-is_same_file-clause-behind_moved
returns-in_err-is_same_file-clause-behind_moved g c = moved_join g.A.Disk c.loop-j.invariant.behind_moved c.is_same_file.ensures.behind_moved

pub returns-in_err-is_same_file-clause-ahead_moved : goal.returns-in_err-is_same_file-clause-ahead_moved
returns-in_err-is_same_file-clause-ahead_moved g c = moved_join g.B.Disk c.loop-j.invariant.ahead_moved c.is_same_file.ensures.ahead_moved

pub returns-then-not-branch-clause-behind_moved : goal.returns-then-not-branch-clause-behind_moved
returns-then-not-branch-clause-behind_moved g c = moved_join g.A.Disk c.loop-j.invariant.behind_moved c.is_same_file.ensures.behind_moved

pub returns-then-not-branch-clause-ahead_moved : goal.returns-then-not-branch-clause-ahead_moved
returns-then-not-branch-clause-ahead_moved g c = moved_join g.B.Disk c.loop-j.invariant.ahead_moved c.is_same_file.ensures.ahead_moved

pub loop-j-preserved : goal.loop-j-preserved
loop-j-preserved g c = record {
  same = λ m n here there. one_more c.args.container.now.base c.loop-j.j m n (c.loop-j.invariant.same m n here there)
      (on_piece c.in_ok-is_same_file.field-0 c.if-not-branch.false c.in_ok-is_same_file.ensures.same m n (c.loop-j.invariant.behind_kept ∙ here) (c.loop-j.invariant.ahead_kept ∙ there));
  behind_kept = c.is_same_file.ensures.behind_kept ∙ c.loop-j.invariant.behind_kept;
  behind_moved = moved_join g.A.Disk c.loop-j.invariant.behind_moved c.is_same_file.ensures.behind_moved;
  ahead_kept = c.is_same_file.ensures.ahead_kept ∙ c.loop-j.invariant.ahead_kept;
  ahead_moved = moved_join g.B.Disk c.loop-j.invariant.ahead_moved c.is_same_file.ensures.ahead_moved;
}
