use Rattle.std.proofs.Common.{List, map, subst}
use Rattle.catalog_types.specs.Lists.{Pairwise}
use Rattle.catalog_types.specs.Numbers.{AreApart}
use Rattle.catalog_laws.specs.Entries.{span_of_run}
use Rattle.catalog_laws.specs.declared.runs.Run.{Run}
use Rattle.catalog_laws.proofs.Apart.{drawn_apart}
use Rattle.catalog_laws.proofs.runs.are_drawn_once.Goals as goal

pub returns : goal.returns
returns c = λ says.
    subst (Pairwise AreApart) c.in_ok-drawn.ensures
    (drawn_apart c.in_ok-drawn.field-0.items c.in_ok-runs.runs.items c.in_ok-runs.ensures (subst (λ (rs : List Run). Pairwise AreApart (map span_of_run rs)) c.as_slice.ensures.value (c.are_apart.ensures says)))
