use Rattle.std.proofs.Common.{◌≡◌, ◌<◌, ℕ, List, map, length, rules, sym, subst}
use Rattle.std.specs.List.{All, enumerate_from}
use Rattle.catalog_types.specs.declared.catalogue.ProjColumn.{ProjColumn}
use Rattle.table_store.specs.Creating.{whole_column}
use Rattle.table_store.proofs.Created.{first_sorted}
use Rattle.table_store.proofs.creating.first_entry.Goals as goal

pub returns-clause-sorted : goal.returns-clause-sorted
returns-clause-sorted c =
    let parts : c.new.result ≡ map whole_column (enumerate_from 0 c.args.columns.now) = search rules in
    let sort : c.new-2.result ≡ map {B = ℕ} (λ e. e.0) (enumerate_from 0 c.args.columns.now) = search rules in
    subst (λ (xs : List ℕ). All (λ i. i < length c.new.result) xs) (sym sort)
    (subst (λ (ps : List ProjColumn). All (λ i. i < length ps) (map {B = ℕ} (λ e. e.0) (enumerate_from 0 c.args.columns.now))) (sym parts)
    (first_sorted c.args.name c.args.columns.now c.args.last))
