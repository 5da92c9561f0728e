use Rattle.std.proofs.Common.{rules}
use Rattle.std.specs.Ordering.{is_lt, nat_cmp}
use Rattle.std.proofs.lemmas.Cmp.{nat_cmp_total}
use Rattle.std.proofs.lemmas.List.MinMax.{ranks_by}
use Rattle.std.proofs.lemmas.Fn.{always_returns_same}
use Rattle.del_vector.specs.declared.mark.Mark.{Mark}
use Rattle.moveout_job.proofs.Joined.{sorted_epochs}
use Rattle.moveout_job.proofs.marks.by_position.Goals as goal

pub returns : goal.returns
returns c =
    λ i.
    sorted_epochs c.args.marks.items _ (c.in_ok-sort_by.ensures.stable (λ x y. is_lt (nat_cmp x.position y.position)) (ranks_by nat_cmp_total (λ (m : Mark). m.position)) (always_returns_same _ _ _ (λ a r g h. search rules))) i
