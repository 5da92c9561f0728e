-- One list of rows.
use Rattle.std.proofs.Common.{◌≡◌, ℕ, ◌++◌, List, [], ◌∷◌, Option, Some, None, sym, ap, ap₂, ◌∙◌, subst}
use Rattle.common_laws.specs.Maps.{Contents}
use Rattle.col_value.specs.declared.row.Asked.{Asked}
use Rattle.col_value.specs.declared.row.Stamped.{Stamped}
use Rattle.catalog_types.specs.declared.catalogue.Container.{Container}
use Rattle.ros_container.specs.Encodings.{Written, written_of}
use Rattle.ros_container.specs.Held.{HoldsContainer}
use Rattle.del_vector.specs.declared.mark.Mark.{Mark}
use Rattle.del_vector.specs.Marks.{epoch_at}
use Rattle.del_vector.specs.Spelling.{spelling, IsSpelled}
use Rattle.stored_rows.specs.Held.{HoldsVectorAt, HoldsVector, HoldsMarked, HoldsRows, stamped_from}
use Rattle.stored_rows.specs.Stored.{Beside, Projected, mark_in, StoresRows, Stores}

-- two vectors of one spelling, and two lists of rows of one container, are one
abbrev pub OneVector : Type 0
OneVector = (xs ys : List Mark) → IsSpelled xs → IsSpelled ys → spelling xs ≡ spelling ys → xs ≡ ys

abbrev pub OneContainer : Type 0
OneContainer = (m : Contents) (written : List Written) (k : Container) (xs ys : List Asked) → HoldsContainer m written k xs → HoldsContainer m written k ys → xs ≡ ys

one_bytes : (a b : List ℕ) → Some a ≡ Some b → a ≡ b
one_bytes a b same = cc

marks_at : OneVector → (m : Contents) (k : Container) (o : Option ℕ) (xs ys : List Mark) → HoldsVectorAt m k o xs → HoldsVectorAt m k o ys → xs ≡ ys
marks_at one m k None xs ys first second = first ∙ sym second
marks_at one m k (Some n) xs ys (a, file) (b, also) = one xs ys a.spelled b.spelled (one_bytes (spelling xs) (spelling ys) (sym file ∙ also))

pub one_marks : OneVector → (m : Contents) (k : Container) (xs ys : List Mark) → HoldsVector m k xs → HoldsVector m k ys → xs ≡ ys
one_marks one m k xs ys first second = marks_at one m k k.marks xs ys first second

one_marked : OneContainer → (m : Contents) (es : List Written) (k : Container) (mark : ℕ → Option ℕ) (xs ys : List Stamped) → HoldsMarked m es k mark xs → HoldsMarked m es k mark ys → xs ≡ ys
one_marked one m es k mark xs ys (asked, held, is) (also, holds, are) = is ∙ ap (stamped_from 0 mark) (one m es k asked also held holds) ∙ sym are

pub one_held : OneVector → OneContainer → (m : Contents) (es : List Written) (ks : List Container) (xs ys : List Stamped) → HoldsRows m es ks xs → HoldsRows m es ks ys → xs ≡ ys
one_held one same m es [] xs ys first second = first ∙ sym second
one_held one same m es (k ∷ ks) xs ys (v, here, more, vector, marked, rest, is) (w, also, further, other, marks, others, are) =
    let marks_same : w ≡ v = one_marks one m k w v other vector in
    let front : here ≡ also = one_marked same m es k (epoch_at v) here also marked (subst (λ (x : List Mark). HoldsMarked m es k (epoch_at x) also) marks_same marks) in
    is ∙ ap₂ (λ (a b : List Stamped). a ++ b) front (one_held one same m es ks more further rest others) ∙ sym are

one_saved : OneContainer → (m : Contents) (es : List Written) (ks : List Container) (bs : List Beside) (xs ys : List Stamped) → StoresRows m es ks bs xs → StoresRows m es ks bs ys → xs ≡ ys
one_saved same m es [] [] xs ys first second = first ∙ sym second
one_saved same m es [] (b ∷ bs) xs ys first second = absurd first
one_saved same m es (k ∷ ks) [] xs ys first second = absurd first
one_saved same m es (k ∷ ks) (b ∷ bs) xs ys (here, more, vector, marked, rest, is) (also, further, other, marks, others, are) =
    is ∙ ap₂ (λ (x y : List Stamped). x ++ y) (one_marked same m es k (mark_in b) here also marked marks) (one_saved same m es ks bs more further rest others) ∙ sym are

pub one_stored : OneContainer → (m : Contents) (p : Projected) (xs ys : List Stamped) → Stores m p xs → Stores m p ys → xs ≡ ys
one_stored same m p xs ys (saved, stores, is) (also, holds, are) =
    is ∙ ap (λ (x : List Stamped). x ++ p.unsaved) (one_saved same m (written_of p.entry) p.entry.containers p.beside saved also stores holds) ∙ sym are
