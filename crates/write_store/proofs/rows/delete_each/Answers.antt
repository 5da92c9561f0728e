use Rattle.std.proofs.Common.{◌∙◌, ◌∷◌, [], List, ℕ, take, map, sym, ap, get_or, rules}
use Rattle.std.proofs.lemmas.List.{take_more}
use Rattle.col_value.specs.declared.row.Stamped.{Stamped}
use Rattle.write_store.specs.Memory.{stamp, deleted_at}
use Rattle.write_store.proofs.Marking.{more_deleted, none_deleted}
use Rattle.write_store.proofs.rows.delete_each.Goals as goal

pub loop-place-init : goal.loop-place-init
loop-place-init c = record { rows = sym (none_deleted c.args.epoch (map stamp c.args.rows.now)); valid = λ all. all; long = search rules }

pub loop-place-preserved : goal.loop-place-preserved
loop-place-preserved c =
    let ps = c.args.places.now in
    let i = c.loop-place.place-index in
    record {
      rows = c.delete.ensures.rows
          ∙ ap (λ (rows : List Stamped). deleted_at c.args.epoch (get_or ps i 0 ∷ []) rows) c.loop-place.invariant.rows
          ∙ more_deleted (get_or ps i 0) c.args.epoch (take i ps) (map stamp c.args.rows.now)
          ∙ ap (λ (qs : List ℕ). deleted_at c.args.epoch qs (map stamp c.args.rows.now)) (sym (take_more ps i 0 c.loop-place-test.true));
      valid = λ all. c.delete.ensures.valid (c.loop-place.invariant.valid all);
      long = search rules;
    }
