use Rattle.std.proofs.Common.{length, ap, sym, ◌∙◌}
use Rattle.std.proofs.lemmas.List.{length-map}
use Rattle.container_draft.specs.Draft.{Drafted}
use Rattle.container_draft.specs.Placed.{asked_at}
use Rattle.container_draft.proofs.draft.Draft.places.Goals as goal

pub returns-clause-count : goal.returns-clause-count
returns-clause-count c = ap length c.as_slice.ensures.value ∙ sym (length-map c.self.inside.places.items (asked_at c.self.inside.rows)) ∙ ap (λ (d : Drafted). length d.rows) c.self.view_is
