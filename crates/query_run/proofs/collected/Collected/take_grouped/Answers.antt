use Rattle.std.proofs.Common.{◌≡◌, ℕ, ◌+◌, length, map, refl, sym, ap, ◌∙◌}
use Rattle.std.proofs.lemmas.List.{length-map}
use Rattle.std.proofs.lemmas.Result.{on_ok_weaker}
use Rattle.exec_group.specs.Columns.{row_of}
use Rattle.query_run.proofs.Together.{groups_grown}
use Rattle.query_run.proofs.collected.Collected.take_grouped.Goals as goal

pub returns : goal.returns
returns c =
    let row = row_of c.args.columns.now in
    let places = c.args.places.now in
    let before = c.args.self.now.taken in
    let sum : c.in_ok-self.field-0 ≡ before + length (map row places) = c.in_ok-self.ensures.sum ∙ ap (λ (n : ℕ). before + n) (sym (length-map places row)) in
    on_ok_weaker c.push_columns.result (λ grows. groups_grown c.args.query.now c.args.self.now _ (map row places) c.requires.grouped sum c.in_ok-self.ensures.few refl refl grows) c.push_columns.ensures
