-- Rows in memory with one value more each.
use Rattle.std.proofs.Common.{◌≡◌, List, [], ◌∷◌, map, refl, ap}
use Rattle.std.proofs.lemmas.List.Elements.{All-nil, All-cons, All-head, All-tail, All-push}
use Rattle.col_value.specs.Order.{IsValue, IsRow}
use Rattle.col_value.specs.declared.row.Stamped.{Stamped}
use Rattle.col_value.specs.declared.value.Value.{Value}
use Rattle.write_store.specs.declared.held.Held.{Held}
use Rattle.write_store.specs.Memory.{stamp, AreHeldRows, with_value, wider}

pub wider_stamps : (v : Value) (held : List Held) → map stamp (map (wider v) held) ≡ map (with_value v) (map stamp held)
wider_stamps v [] = refl
wider_stamps v (h ∷ held) = ap (λ (rows : List Stamped). with_value v (stamp h) ∷ rows) (wider_stamps v held)

pub wider_valid : (v : Value) (held : List Held) → IsValue v → AreHeldRows held → AreHeldRows (map (wider v) held)
wider_valid v [] is all = All-nil (λ (h : Held). IsRow h.inserted.row)
wider_valid v (h ∷ held) is all =
    All-cons (λ (x : Held). IsRow x.inserted.row) (wider v h) (map (wider v) held) (All-push IsValue h.inserted.row v (All-head (λ (x : Held). IsRow x.inserted.row) h held all) is)
    (wider_valid v held is (All-tail (λ (x : Held). IsRow x.inserted.row) h held all))
