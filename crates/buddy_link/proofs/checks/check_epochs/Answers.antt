use Rattle.std.proofs.Common.{not, List, subst}
use Rattle.std.specs.List.{list_any}
use Rattle.catch_model.specs.Refused.{IsLeastEpoch, NoEpoch}
use Rattle.catch_tables.specs.Keyed.{has_change_in, has_more_in, Changed}
use Rattle.buddy_link.proofs.Telling.{ends_in_gap, ends_in_many, epochs_told, no_gaps, none_too_many}
use Rattle.buddy_link.proofs.checks.check_epochs.Goals as goal

pub returns-in-Some-clause-ends : goal.returns-in-Some-clause-ends
returns-in-Some-clause-ends c = λ mark a b sound le is told ahead older.
    ends_in_gap c.args.after c.args.last c.in-Some.epoch a b c.in_ok-ordered.ordered.items (epochs_told mark c.args.after b c.args.tables.now c.in_ok-ordered.ordered.items sound le told c.in_ok-ordered.ensures) is ahead older
    (subst (λ (cs : List Changed). IsLeastEpoch (λ k. not (list_any (has_change_in k) cs)) c.args.after c.args.last c.in-Some.epoch) c.as_slice.ensures.value c.in-Some.ensures.some)

pub returns-in-Some-first_too_many-clause-ends : goal.returns-in-Some-first_too_many-clause-ends
returns-in-Some-first_too_many-clause-ends c = λ mark a b sound le is told ahead older.
    ends_in_many c.args.after c.args.last c.in-Some-first_too_many.epoch a b c.in_ok-ordered.ordered.items (epochs_told mark c.args.after b c.args.tables.now c.in_ok-ordered.ordered.items sound le told c.in_ok-ordered.ensures) is ahead older
    (subst (λ (cs : List Changed). NoEpoch (λ k. not (list_any (has_change_in k) cs)) c.args.after c.args.last) c.as_slice.ensures.value c.in_default.ensures.none)
    (subst (λ (cs : List Changed). IsLeastEpoch (λ k. list_any (has_more_in k) cs) c.args.after c.args.last c.in-Some-first_too_many.epoch) c.as_slice-2.ensures.value c.in-Some-first_too_many.ensures.some)

pub returns-clause-good : goal.returns-clause-good
returns-clause-good c = λ mark b sound le is told.
    let tell = epochs_told mark c.args.after b c.args.tables.now c.in_ok-ordered.ordered.items sound le told c.in_ok-ordered.ensures in (
      no_gaps c.args.after c.args.last b c.in_ok-ordered.ordered.items tell (subst (λ (cs : List Changed). NoEpoch (λ k. not (list_any (has_change_in k) cs)) c.args.after c.args.last) c.as_slice.ensures.value c.in_default.ensures.none),
      none_too_many c.args.after c.args.last b c.in_ok-ordered.ordered.items tell (subst (λ (cs : List Changed). NoEpoch (λ k. list_any (has_more_in k) cs) c.args.after c.args.last) c.as_slice-2.ensures.value c.in-None.ensures.none),
    )
