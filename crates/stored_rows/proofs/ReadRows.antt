-- What was read from the disk is stored.
use Rattle.std.proofs.Common.{◌≡◌, ℕ, ◌+◌, ◌++◌, List, [], ◌∷◌, Option, Some, None, refl, sym, ap, ap₂, ◌∙◌, subst}
use Rattle.std.specs.Option.{option_or}
use Rattle.std.specs.List.{AllZip}
use Rattle.std.proofs.lemmas.List.{append-nil}
use Rattle.common_laws.specs.Maps.{Contents}
use Rattle.col_value.specs.declared.row.Asked.{Asked}
use Rattle.col_value.specs.declared.row.Stamped.{Stamped}
use Rattle.row_history.specs.History.{stamped}
use Rattle.catalog_types.specs.declared.catalogue.Container.{Container}
use Rattle.ros_container.specs.Encodings.{Written, written_of}
use Rattle.del_vector.specs.declared.mark.Mark.{Mark}
use Rattle.del_vector.specs.Marks.{epoch_at}
use Rattle.stored_rows.specs.Held.{HoldsMarked, HoldsRows, Holds, stamped_from}
use Rattle.stored_rows.specs.Stored.{Beside, Projected, mark_in, StoresRows, Stores, IsUnmarked, IsLoaded}
use Rattle.stored_rows.proofs.OneList.{OneVector, one_marks}

or_none : (o : Option ℕ) → option_or o None ≡ o
or_none None = refl
or_none (Some e) = refl

stamped_same : (i : ℕ) (one other : ℕ → Option ℕ) (rows : List Asked) → ((j : ℕ) → one j ≡ other j) → stamped_from i one rows ≡ stamped_from i other rows
stamped_same i one other [] same = refl
stamped_same i one other (a ∷ rows) same = ap₂ (λ (d : Option ℕ) (ss : List Stamped). stamped d a ∷ ss) (same i) (stamped_same (i + 1) one other rows same)

-- no mark came since
mark_read : (b : Beside) (i : ℕ) → b.fresh ≡ [] → mark_in b i ≡ epoch_at b.held i
mark_read b i none = ap (λ (v : List Mark). option_or (epoch_at b.held i) (epoch_at v i)) none ∙ or_none (epoch_at b.held i)

marked_read : (m : Contents) (es : List Written) (k : Container) (b : Beside) (rows : List Stamped) → b.fresh ≡ [] → HoldsMarked m es k (mark_in b) rows → HoldsMarked m es k (epoch_at b.held) rows
marked_read m es k b rows none (asked, held, is) = (asked, held, is ∙ stamped_same 0 (mark_in b) (epoch_at b.held) asked (λ j. mark_read b j none))

read_marked : (m : Contents) (es : List Written) (k : Container) (b : Beside) (rows : List Stamped) → b.fresh ≡ [] → HoldsMarked m es k (epoch_at b.held) rows → HoldsMarked m es k (mark_in b) rows
read_marked m es k b rows none (asked, held, is) = (asked, held, is ∙ sym (stamped_same 0 (mark_in b) (epoch_at b.held) asked (λ j. mark_read b j none)))

saved_held : (m : Contents) (es : List Written) (ks : List Container) (bs : List Beside) (rows : List Stamped) → AllZip (IsUnmarked m) ks bs → StoresRows m es ks bs rows → HoldsRows m es ks rows
saved_held m es [] [] rows loaded held = held
saved_held m es [] (b ∷ bs) rows loaded held = absurd held
saved_held m es (k ∷ ks) [] rows loaded held = absurd held
saved_held m es (k ∷ ks) (b ∷ bs) rows ((own, none), others) (here, more, vector, marked, rest, are) =
    (b.held, here, more, vector, marked_read m es k b here none marked, saved_held m es ks bs more others rest, are)

held_saved : OneVector → (m : Contents) (es : List Written) (ks : List Container) (bs : List Beside) (rows : List Stamped) → AllZip (IsUnmarked m) ks bs → HoldsRows m es ks rows → StoresRows m es ks bs rows
held_saved one m es [] [] rows loaded held = held
held_saved one m es [] (b ∷ bs) rows loaded held = absurd loaded
held_saved one m es (k ∷ ks) [] rows loaded held = absurd loaded
held_saved one m es (k ∷ ks) (b ∷ bs) rows ((own, none), others) (v, here, more, vector, marked, rest, are) =
    let same : v ≡ b.held = one_marks one m k v b.held vector own in
    (here, more, own, read_marked m es k b here none (subst (λ (x : List Mark). HoldsMarked m es k (epoch_at x) here) same marked), held_saved one m es ks bs more others rest, are)

pub stored_held : (m : Contents) (p : Projected) (rows : List Stamped) → IsLoaded m p → Stores m p rows → Holds m p.entry rows
stored_held m p rows loaded (saved, stores, is) =
    let same : saved ≡ rows = sym (is ∙ ap (λ (x : List Stamped). saved ++ x) loaded.unsaved ∙ append-nil saved) in
    subst (Holds m p.entry) same (saved_held m (written_of p.entry) p.entry.containers p.beside saved loaded.beside stores)

pub held_stored : OneVector → (m : Contents) (p : Projected) (rows : List Stamped) → IsLoaded m p → Holds m p.entry rows → Stores m p rows
held_stored one m p rows loaded held =
    (rows, held_saved one m (written_of p.entry) p.entry.containers p.beside rows loaded.beside held, sym (ap (λ (x : List Stamped). rows ++ x) loaded.unsaved ∙ append-nil rows))
