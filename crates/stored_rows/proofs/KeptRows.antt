-- Rows are held on while other files change.
use Rattle.std.proofs.Common.{◌≡◌, ℕ, List, [], ◌∷◌, Option, Some, None, refl, ◌∙◌, inl, inr}
use Rattle.std.specs.List.{All}
use Rattle.std.specs.FinMap.{get}
use Rattle.std.proofs.lemmas.List.Elements.{All-head, All-tail}
use Rattle.common_laws.specs.Maps.{Contents}
use Rattle.col_value.specs.declared.row.Stamped.{Stamped}
use Rattle.catalog_types.specs.declared.catalogue.Container.{Container}
use Rattle.catalog_types.specs.declared.catalogue.Projection.{Projection}
use Rattle.ros_container.specs.Encodings.{Written, written_of}
use Rattle.ros_container.proofs.Kept.{rows_kept}
use Rattle.del_vector.specs.declared.mark.Mark.{Mark}
use Rattle.del_vector.specs.Marks.{epoch_at}
use Rattle.stored_rows.specs.Listed.{IsVectorFile, SameFiles, SameEntry}
use Rattle.stored_rows.specs.Held.{HoldsVectorAt, HoldsVector, HoldsMarked, HoldsRows, Holds}
use Rattle.stored_rows.specs.Stored.{Beside, Projected, mark_in, StoresRows, Stores}

vector_at : (m n : Contents) (k : Container) (o : Option ℕ) (marks : List Mark) → ((q : ℕ) → IsVectorFile o q → get n q ≡ get m q) → HoldsVectorAt m k o marks → HoldsVectorAt n k o marks
vector_at m n k None marks same is = is
vector_at m n k (Some v) marks same (of, file) = (of, same _ refl ∙ file)

pub vector_kept : (m n : Contents) (k : Container) (marks : List Mark) → SameFiles m n k → HoldsVector m k marks → HoldsVector n k marks
vector_kept m n k marks same held = vector_at m n k k.marks marks (λ q is. same q (inr is)) held

marked_kept : (m n : Contents) (es : List Written) (k : Container) (mark : ℕ → Option ℕ) (rows : List Stamped) → SameFiles m n k → HoldsMarked m es k mark rows → HoldsMarked n es k mark rows
marked_kept m n es k mark rows same (asked, held, is) = (asked, rows_kept m n es k asked (λ q f. same q (inl f)) held, is)

held_kept : (m n : Contents) (es : List Written) (ks : List Container) (rows : List Stamped) → All (SameFiles m n) ks → HoldsRows m es ks rows → HoldsRows n es ks rows
held_kept m n es [] rows same held = held
held_kept m n es (k ∷ ks) rows same (v, here, more, vector, marked, rest, is) =
    let first = All-head (SameFiles m n) k ks same in
    (v, here, more, vector_kept m n k v first vector, marked_kept m n es k (epoch_at v) here first marked, held_kept m n es ks more (All-tail (SameFiles m n) k ks same) rest, is)

saved_kept : (m n : Contents) (es : List Written) (ks : List Container) (bs : List Beside) (rows : List Stamped) → All (SameFiles m n) ks → StoresRows m es ks bs rows → StoresRows n es ks bs rows
saved_kept m n es [] [] rows same held = held
saved_kept m n es [] (b ∷ bs) rows same held = absurd held
saved_kept m n es (k ∷ ks) [] rows same held = absurd held
saved_kept m n es (k ∷ ks) (b ∷ bs) rows same (here, more, vector, marked, rest, is) =
    let first = All-head (SameFiles m n) k ks same in
    (here, more, vector_kept m n k b.held first vector, marked_kept m n es k (mark_in b) here first marked, saved_kept m n es ks bs more (All-tail (SameFiles m n) k ks same) rest, is)

pub entry_kept : (m n : Contents) (p : Projection) (rows : List Stamped) → SameEntry m n p → Holds m p rows → Holds n p rows
entry_kept m n p rows same held = held_kept m n (written_of p) p.containers rows same held

pub stored_kept : (m n : Contents) (p : Projected) (rows : List Stamped) → SameEntry m n p.entry → Stores m p rows → Stores n p rows
stored_kept m n p rows same (saved, stores, is) = (saved, saved_kept m n (written_of p.entry) p.entry.containers p.beside saved same stores, is)
