use Rattle.std.proofs.Common.{◌≡◌, ◌∙◌, sym, ap, arith}
use Rattle.std.proofs.lemmas.Bool.Decides.{nat_tests}
use Rattle.wanted_rows.specs.Wanted.{need_in, needed, Needed}
use Rattle.wanted_rows.proofs.Counting.{none_left}
use Rattle.wanted_rows.proofs.needs.Needs.is_done.Goals as goal

pub returns : goal.returns
returns c = λ done q.
    let inside = c.self.inside in
    let none : inside.left ≡ 0 = grind (arith, nat_tests) in
    ap (λ (needs : Needed). need_in needs q) (sym c.self.view_is) ∙ none_left (needed inside.rows.items inside.counts.entries) inside.left c.self.invariant none q
