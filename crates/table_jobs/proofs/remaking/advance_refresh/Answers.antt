use Rattle.std.proofs.Common.{◌≡◌, ◌∙◌, ℕ, sym, ap, subst}
use Rattle.catalog_types.specs.declared.catalogue.Catalogue.{Catalogue}
use Rattle.col_disk.specs.Moved.{Moved, NoName}
use Rattle.container_writer.specs.Writing.{DataFrom}
use Rattle.table_jobs.proofs.BeingMade.{goes_being_made, remake_below, stays_being_made}
use Rattle.table_jobs.proofs.Raising.{IsRooted}
use Rattle.table_jobs.proofs.Writing.{column_moved}
use Rattle.table_jobs.proofs.remaking.advance_refresh.Goals as goal

pub returns-clause-goes_on : goal.returns-clause-goes_on
returns-clause-goes_on g c =
    let s = c.args.store.now in
    let w = c.args.work.now in
    let root = c.root-root.result.now in
    let rooted : IsRooted s root = record { catalogue = c.root-root.ensures.root; entries = c.root-root.ensures.entries; valid = c.root-root.ensures.valid } in
    let next : w.job.draft.base ≡ root.next = sym c.requires.next ∙ ap (λ (k : Catalogue). k.next) rooted.catalogue in
    let moved : Moved g.D.Disk (DataFrom root.next) NoName c.args.disk.now c.write_next.new.disk =
    subst (λ (n : ℕ). Moved g.D.Disk (DataFrom n) NoName c.args.disk.now c.write_next.new.disk) next (column_moved g.D.Disk w.job.draft.base w.job.draft.done c.write_next.ensures.moved) in
    goes_being_made g.D.Disk c.write_next.result root.next w c.write_next.new.self (remake_below s root w rooted c.requires) moved c.write_next.ensures.more c.write_next.ensures.draft

pub returns-clause-stays : goal.returns-clause-stays
returns-clause-stays g c = λ d stands.
    let s = c.args.store.now in
    let w = c.args.work.now in
    let root = c.root-root.result.now in
    let rooted : IsRooted s root = record { catalogue = c.root-root.ensures.root; entries = c.root-root.ensures.entries; valid = c.root-root.ensures.valid } in
    let next : w.job.draft.base ≡ root.next = sym c.requires.next ∙ ap (λ (k : Catalogue). k.next) rooted.catalogue in
    let moved : Moved g.D.Disk (DataFrom root.next) NoName c.args.disk.now c.write_next.new.disk =
    subst (λ (n : ℕ). Moved g.D.Disk (DataFrom n) NoName c.args.disk.now c.write_next.new.disk) next (column_moved g.D.Disk w.job.draft.base w.job.draft.done c.write_next.ensures.moved) in
    stays_being_made g.D.Disk s root w d rooted c.requires moved stands
