-- A cut up to an epoch doesn't see what is in memory above it.
use Rattle.std.proofs.Common.{◌≡◌, ℕ, ◌+◌, ◌<◌, ◌++◌, Bool, true, false, cond, List, [], ◌∷◌, map, filter, Option, Some, None, refl, sym, ap, ap₂, ◌∙◌, arith}
use Rattle.std.specs.Prelude.{nat_le}
use Rattle.std.specs.Option.{option_or}
use Rattle.std.specs.List.{All}
use Rattle.std.proofs.lemmas.Bool.Decides.{nat_tests}
use Rattle.std.proofs.lemmas.List.{append-nil}
use Rattle.std.proofs.lemmas.List.Elements.{All-head, All-tail}
use Rattle.common_laws.specs.Maps.{Contents}
use Rattle.col_value.specs.declared.row.Asked.{Asked}
use Rattle.col_value.specs.declared.row.Stamped.{Stamped}
use Rattle.catalog_types.specs.declared.catalogue.Container.{Container}
use Rattle.ros_container.specs.Encodings.{Written, written_of}
use Rattle.row_history.specs.History.{cut_delete, cut_row, cut_rows, stamped}
use Rattle.row_history.proofs.Histories.{cut_append, cut_none}
use Rattle.del_vector.specs.Marks.{epoch_at}
use Rattle.stored_rows.specs.Held.{HoldsRows, Holds, stamped_from}
use Rattle.stored_rows.specs.Stored.{Beside, mark_in, StoresRows, Stores, Projected, AreLater, IsMemoryAbove}

-- a later mark is undone
cut_first : (epoch : ℕ) (held fresh : Option ℕ) → ((e : ℕ) → fresh ≡ Some e → epoch < e) → cut_delete epoch (option_or held fresh) ≡ cut_delete epoch held
cut_first epoch (Some e) fresh later = refl
cut_first epoch None None later = refl
cut_first epoch None (Some e) later = by (nat_le e epoch) refl (later e refl)
  where
    by : (b : Bool) → nat_le e epoch ≡ b → epoch < e → cond b (Some e) None ≡ None
    by true is lt = absurd (grind (arith, nat_tests))
    by false is lt = refl

cut_stamped : (epoch i : ℕ) (one other : ℕ → Option ℕ) (rows : List Asked) → ((j : ℕ) → cut_delete epoch (one j) ≡ cut_delete epoch (other j)) → cut_rows epoch (stamped_from i one rows) ≡ cut_rows epoch (stamped_from i other rows)
cut_stamped epoch i one other [] same = refl
cut_stamped epoch i one other (a ∷ rows) same = by (nat_le a.ins epoch) (cut_stamped epoch (i + 1) one other rows same)
  where
    by : (b : Bool) → cut_rows epoch (stamped_from (i + 1) one rows) ≡ cut_rows epoch (stamped_from (i + 1) other rows)
        → map (cut_row epoch) (cond b (stamped (one i) a ∷ filter (λ t. nat_le t.ins epoch) (stamped_from (i + 1) one rows)) (filter (λ t. nat_le t.ins epoch) (stamped_from (i + 1) one rows)))
        ≡ map (cut_row epoch) (cond b (stamped (other i) a ∷ filter (λ t. nat_le t.ins epoch) (stamped_from (i + 1) other rows)) (filter (λ t. nat_le t.ins epoch) (stamped_from (i + 1) other rows)))
    by true rest = ap₂ (λ (d : Option ℕ) (ss : List Stamped). stamped d a ∷ ss) (same i) rest
    by false rest = rest

-- the listed containers hold rows that are, cut, those with what is in memory
cut_saved : (m : Contents) (epoch : ℕ) (es : List Written) (ks : List Container) (bs : List Beside) (rows : List Stamped) → All (λ b. AreLater epoch b.fresh) bs → StoresRows m es ks bs rows
    → (held : List Stamped) × HoldsRows m es ks held × (cut_rows epoch rows ≡ cut_rows epoch held)
cut_saved m epoch es [] [] rows later is = ([], refl, ap (cut_rows epoch) is)
cut_saved m epoch es [] (b ∷ bs) rows later is = absurd is
cut_saved m epoch es (k ∷ ks) [] rows later is = absurd is
cut_saved m epoch es (k ∷ ks) (b ∷ bs) rows later (here, more, vector, (asked, held, stamp), rest, is) =
    let behind = cut_saved m epoch es ks bs more (All-tail (λ c. AreLater epoch c.fresh) b bs later) rest in
    let fresh = All-head (λ c. AreLater epoch c.fresh) b bs later in
    let same : cut_rows epoch here ≡ cut_rows epoch (stamped_from 0 (epoch_at b.held) asked) =
    ap (cut_rows epoch) stamp ∙ cut_stamped epoch 0 (mark_in b) (epoch_at b.held) asked (λ j. cut_first epoch (epoch_at b.held j) (epoch_at b.fresh j) (λ e got. fresh j e got)) in (
      stamped_from 0 (epoch_at b.held) asked ++ behind.0,
      (b.held, stamped_from 0 (epoch_at b.held) asked, behind.0, vector, (asked, held, refl), behind.1, refl),
      ap (cut_rows epoch) is ∙ cut_append epoch here more ∙ ap₂ (λ (xs ys : List Stamped). xs ++ ys) same behind.2 ∙ sym (cut_append epoch (stamped_from 0 (epoch_at b.held) asked) behind.0),
    )

-- what a crash leaves of a projection is a cut of what it has
pub cut_memory : (m : Contents) (epoch : ℕ) (p : Projected) (rows : List Stamped) → IsMemoryAbove epoch p → Stores m p rows
    → (held : List Stamped) × Holds m p.entry held × (cut_rows epoch rows ≡ cut_rows epoch held)
cut_memory m epoch p rows above (saved, stores, is) =
    let k = cut_saved m epoch (written_of p.entry) p.entry.containers p.beside saved above.marks stores in
    (k.0, k.1, ap (cut_rows epoch) is ∙ cut_append epoch saved p.unsaved ∙ ap (λ (ys : List Stamped). cut_rows epoch saved ++ ys) (cut_none epoch p.unsaved above.rows) ∙ append-nil (cut_rows epoch saved) ∙ k.2)
