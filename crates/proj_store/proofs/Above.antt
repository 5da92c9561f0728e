-- Marks of a later epoch stay above an earlier one.
use Rattle.std.proofs.Common.{◌≡◌, ◌+◌, ◌<◌, ◌++◌, ℕ, Bool, true, false, cond, List, [], ◌∷◌, refl, sym, ◌∙◌, ap, arith}
use Rattle.std.specs.Prelude.{Option, Some, None}
use Rattle.std.specs.Option.{option_or}
use Rattle.std.specs.List.{All}
use Rattle.std.proofs.lemmas.List.Elements.{All-cons, All-head, All-tail}
use Rattle.col_value.specs.declared.row.Stamped.{Stamped}
use Rattle.del_vector.specs.declared.mark.Mark.{Mark}
use Rattle.del_vector.specs.Marks.{epoch_at}
use Rattle.stored_rows.specs.Stored.{Beside, Projected, AreLater, IsMemoryAbove}
use Rattle.write_store.specs.Memory.{is_in, deleted_from}
use Rattle.proj_store.specs.Marking.{marks_at, marked_beside, all_marked, Places, with_marks}
use Rattle.proj_store.proofs.Epochs.{epochs_join}
use Rattle.proj_store.proofs.Marked.{epochs_of}

later_join : (low epoch : ℕ) (fresh : List Mark) (places : List ℕ) → low < epoch → AreLater low fresh → AreLater low (fresh ++ marks_at epoch places)
later_join low epoch fresh places lt later i e got =
    let told : option_or (epoch_at fresh i) (cond (is_in i places) (Some epoch) None) ≡ Some e =
    ap (option_or (epoch_at fresh i)) (sym (epochs_of epoch places i)) ∙ sym (epochs_join fresh (marks_at epoch places) i) ∙ got in
    by (epoch_at fresh i) (is_in i places) refl told
  where
    by : (o : Option ℕ) (b : Bool) → epoch_at fresh i ≡ o → option_or o (cond b (Some epoch) None) ≡ Some e → low < e
    by (Some d) b is same = later i e (is ∙ same)
    by None true is same = let eq : epoch ≡ e = cc in omega (arith, lt, eq)
    by None false is same = absurd (cc)

each_later : (low epoch : ℕ) (bs : List Beside) (each : List (List ℕ)) → low < epoch → All (λ b. AreLater low b.fresh) bs → All (λ b. AreLater low b.fresh) (all_marked epoch bs each)
each_later low epoch [] each lt all = all
each_later low epoch (b ∷ bs) [] lt all = all
each_later low epoch (b ∷ bs) (places ∷ each) lt all =
    All-cons (λ (c : Beside). AreLater low c.fresh) (marked_beside epoch b places) (all_marked epoch bs each) (later_join low epoch b.fresh places lt (All-head (λ (c : Beside). AreLater low c.fresh) b bs all))
    (each_later low epoch bs each lt (All-tail (λ (c : Beside). AreLater low c.fresh) b bs all))

rows_above : (low epoch i : ℕ) (places : List ℕ) (rows : List Stamped) → All (λ s. low < s.ins) rows → All (λ s. low < s.ins) (deleted_from i epoch places rows)
rows_above low epoch i places [] all = all
rows_above low epoch i places (s ∷ rows) all =
    All-cons (λ (t : Stamped). low < t.ins) (cond (is_in i places) (record s { del = Some epoch }) s) (deleted_from (i + 1) epoch places rows) (by (is_in i places))
    (rows_above low epoch (i + 1) places rows (All-tail (λ (t : Stamped). low < t.ins) s rows all))
  where
    by : (b : Bool) → low < (cond b (record s { del = Some epoch }) s).ins
    by true = All-head (λ (t : Stamped). low < t.ins) s rows all
    by false = All-head (λ (t : Stamped). low < t.ins) s rows all

pub marks_above : (low epoch : ℕ) (p : Projected) (ready : Places) → IsMemoryAbove low p → low < epoch → IsMemoryAbove low (with_marks epoch ready p)
marks_above low epoch p ready above lt = record {
  rows = rows_above low epoch 0 ready.unsaved p.unsaved above.rows;
  marks = each_later low epoch p.beside ready.each lt above.marks;
}
