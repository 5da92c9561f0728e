use Rattle.std.proofs.Common.{◌≡◌, ◌<◌, List, length, get_or, ap, sym, ◌∙◌, subst, rules}
use Rattle.wanted_rows.specs.declared.spans.Span.{Span}
use Rattle.wanted_rows.specs.Spans.{lies_in}
use Rattle.wanted_rows.specs.Wanted.{need_in, Needed}
use Rattle.wanted_rows.proofs.Spanning.{not_wanted}
use Rattle.wanted_rows.proofs.wants.Wants.may_have.Goals as goal

pub returns-in-Some : goal.returns-in-Some
returns-in-Some c none q at =
    let spans = c.self.inside.spans.items in
    let span = c.in-Some.span.now in
    let same : c.deref.result.now ≡ spans = search rules in
    let there : (c.args.column < length spans) × (span ≡ get_or spans c.args.column span) =
    subst (λ (xs : List Span). (c.args.column < length xs) × (span ≡ get_or xs c.args.column span)) same (c.in-Some.ensures.lookup.3.0, c.in-Some.ensures.lookup.3.1 span) in
    ap (λ (needs : Needed). need_in needs q) (sym c.self.view_is)
    ∙ not_wanted spans (need_in c.self.inside.needs) c.args.column span q c.self.invariant there (ap (lies_in span) at ∙ sym c.has.ensures ∙ none)
