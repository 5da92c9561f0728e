use Rattle.std.proofs.Common.{◌≡◌, ◌++◌, ◌∷◌, [], List, length, map, ap, sym, ◌∙◌, arith}
use Rattle.std.proofs.lemmas.List.{append_assoc}
use Rattle.std.proofs.lemmas.List.Elements.{All-rest}
use Rattle.col_value.specs.declared.value.Value.{Value}
use Rattle.col_value.specs.declared.row.Stamped.{Stamped}
use Rattle.col_value.specs.Order.{IsRow}
use Rattle.row_history.specs.History.{inserted_at}
use Rattle.write_store.proofs.store.WriteStore.append_all.Goals as goal

pub loop-row-preserved : goal.loop-row-preserved
loop-row-preserved c =
    let rest = c.next.new.self.rest.items in
    let row = c.in-Some.row in
    let before : c.loop-row.row-iterator.rest.items ≡ row ∷ rest = c.in-Some.ensures.steps.0 in
    record {
      joined =
          ap (λ (rows : List Stamped). rows ++ map (inserted_at c.args.ins) rest) c.append.ensures.rows
          ∙ append_assoc c.loop-row.self.rows (inserted_at c.args.ins row ∷ []) (map (inserted_at c.args.ins) rest)
          ∙ ap (λ (rows : List (List Value)). c.loop-row.self.rows ++ map (inserted_at c.args.ins) rows) (sym before)
          ∙ c.loop-row.invariant.joined;
      valid = All-rest IsRow row rest c.loop-row.row-iterator.rest.items before c.loop-row.invariant.valid;
      room = omega (arith, ap length before, c.loop-row.invariant.room, c.append.ensures.spare);
      spare = omega (arith, ap length before, c.loop-row.invariant.room, c.loop-row.invariant.spare, c.append.ensures.spare);
    }
