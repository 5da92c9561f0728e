use Rattle.std.proofs.Common.{◌≡◌, sym, subst, map, None, rules}
use Rattle.std.specs.List.{All}
use Rattle.col_value.specs.Order.{IsRow}
use Rattle.db_model.specs.Events.{set_row}
use Rattle.db_model.specs.Refusals.{all_pairs, pairs_refusal}
use Rattle.row_setting.proofs.Accepted.{all_storable, rows_set}
use Rattle.row_setting.proofs.setting.set_rows.Goals as goal

pub changed_rows-requires-clause-storable : goal.changed_rows-requires-clause-storable
changed_rows-requires-clause-storable c =
    let free : pairs_refusal (all_pairs c.args.sets.now c.args.rows.now c.args.columns.now) ≡ None = search rules in
    all_storable c.args.sets.now c.args.rows.now c.args.columns.now free c.requires.places

pub returns-clause-valid : goal.returns-clause-valid
returns-clause-valid c =
    let free : pairs_refusal (all_pairs c.args.sets.now c.args.rows.now c.args.columns.now) ≡ None = search rules in
    let rows : c.in_ok-changed_rows.field-0.items ≡ map (set_row c.args.sets.now) c.args.rows.now = search rules in
    subst (All IsRow) (sym rows) (rows_set c.args.sets.now c.args.rows.now (all_storable c.args.sets.now c.args.rows.now c.args.columns.now free c.requires.places) c.requires.rows)
