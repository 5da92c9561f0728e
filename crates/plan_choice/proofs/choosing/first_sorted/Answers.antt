use Rattle.std.proofs.Common.{◌∙◌, List, ap}
use Rattle.std.specs.Prelude.{option_map}
use Rattle.std.specs.List.{slice_get}
use Rattle.catalog_types.specs.declared.catalogue.ProjColumn.{ProjColumn}
use Rattle.plan_choice.proofs.Chosen.{first_there, sorted_first}
use Rattle.plan_choice.proofs.choosing.first_sorted.Goals as goal

pub returns-in-Some : goal.returns-in-Some
returns-in-Some c =
    c.ordinal_at.ensures
    ∙ ap (λ (ks : List ProjColumn). option_map (λ k. k.ordinal) (slice_get ks c.in-Some.place.now)) c.as_slice-in-Some.ensures
    ∙ sorted_first c.args.p.now c.in-Some.place.now
    (first_there c.as_slice.result.now c.args.p.now.sort c.in-Some.place.now c.as_slice.ensures c.in-Some.ensures.lookup.3.0 c.in-Some.ensures.lookup.1)
