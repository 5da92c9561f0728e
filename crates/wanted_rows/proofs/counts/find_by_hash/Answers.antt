use Rattle.std.proofs.Common.{◌≡◌, ◌∙◌, sym, ap}
use Rattle.std.specs.Prelude.{Some}
use Rattle.std.specs.Ordering.{eq_by_cmp}
use Rattle.std.proofs.lemmas.Map.Made.{lookup_key_passes}
use Rattle.write_store.specs.declared.held.Inserted.{Inserted}
use Rattle.wanted_rows.specs.Wanted.{inserted_cmp}
use Rattle.wanted_rows.proofs.Counting.{key_exact}
use Rattle.wanted_rows.proofs.counts.find_by_hash.Goals as goal

pub returns-clause-there : goal.returns-clause-there
returns-clause-there c =
    let key = c.in_ok-place.field-0-1.now in
    let same : c.args.row.now ≡ key =
    key_exact c.args.row.now key (lookup_key_passes (eq_by_cmp inserted_cmp c.args.row.now) c.args.counts.now.entries key (sym c.in_ok-place.ensures.key)) in
    c.in_ok-place.ensures.entry ∙ ap (λ (k : Inserted). Some (k, c.in_ok-place.count.now)) (sym same)
