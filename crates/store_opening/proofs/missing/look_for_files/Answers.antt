use Rattle.std.proofs.Common.{ℕ, List, sym, subst}
use Rattle.std.specs.List.{All, Any}
use Rattle.catalog_types.specs.declared.catalogue.Table.{Table}
use Rattle.store_opening.specs.Missing.{HasFilesAmong, HasNamesAmong, IsMissingAmong}
use Rattle.store_opening.specs.Opening.{BlamesAbsent}
use Rattle.store_opening.proofs.Blames.{fault_blamed}
use Rattle.store_opening.proofs.Absent.{files_there, missing_absent, valid_named}
use Rattle.store_opening.proofs.missing.look_for_files.Goals as goal

pub returns-in-Err-clause-blamed : goal.returns-in-Err-clause-blamed
returns-in-Err-clause-blamed g c = fault_blamed (BlamesAbsent c.args.root.now (g.D.Disk.holds c.args.disk.now)) c.in-Err.fault c.from.result c.from.ensures

pub returns-in-Some-clause-blamed : goal.returns-in-Some-clause-blamed
returns-in-Some-clause-blamed g c =
    missing_absent c.args.root.now (g.D.Disk.holds c.args.disk.now) c.in-Ok.names.items c.in-Some.name c.in-Ok.ensures.answer
    (subst (λ (ts : List Table). Any (IsMissingAmong c.in-Ok.names.items c.in-Some.name) ts) c.as_slice-2.ensures
    (subst (λ (names : List ℕ). Any (IsMissingAmong names c.in-Some.name) c.as_slice-2.result.now) c.as_slice.ensures.value c.in-Some.ensures.some))

pub missing-requires : goal.missing-requires
missing-requires g c = subst (All HasNamesAmong) (sym c.as_slice-2.ensures) (valid_named c.args.root.now c.requires)

pub returns-clause-there : goal.returns-clause-there
returns-clause-there g c =
    files_there c.args.root.now (g.D.Disk.holds c.args.disk.now) c.in-Ok.names.items c.in-Ok.ensures.answer
    (subst (λ (ts : List Table). All (HasFilesAmong c.in-Ok.names.items) ts) c.as_slice-2.ensures
    (subst (λ (names : List ℕ). All (HasFilesAmong names) c.as_slice-2.result.now) c.as_slice.ensures.value c.in-None.ensures.none))
