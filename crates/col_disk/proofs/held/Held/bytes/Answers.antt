use Rattle.std.proofs.Common.{sym, ◌∙◌, ap}
use Rattle.std.specs.Prelude.{Some}
use Rattle.std.specs.Option.{option_copied}
use Rattle.std.specs.FinMap.{get}
use Rattle.std.specs.Cmp.{nat_cmp_total}
use Rattle.common_laws.specs.Maps.{Contents}
use Rattle.common_laws.proofs.MapLaws.{get_lookup}
use Rattle.col_disk.proofs.held.Held.bytes.Goals as goal

pub returns-in-Some : goal.returns-in-Some
returns-in-Some c =
    ap Some c.as_slice.ensures ∙ ap option_copied (sym c.in-Some.is) ∙ c.get.ensures.value
    ∙ sym (get_lookup nat_cmp_total c.self.inside.files.entries c.args.name) ∙ ap (λ (m : Contents). get m c.args.name) c.self.view_is

pub returns-in-None : goal.returns-in-None
returns-in-None c =
    ap option_copied (sym c.in-None.is) ∙ c.get.ensures.value
    ∙ sym (get_lookup nat_cmp_total c.self.inside.files.entries c.args.name) ∙ ap (λ (m : Contents). get m c.args.name) c.self.view_is
