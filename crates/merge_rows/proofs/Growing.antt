-- The inputs of a merge later on.
use Rattle.std.proofs.Common.{◌≡◌, ℕ, ◌+◌, ◌<◌, ◌≤◌, ◌++◌, Bool, true, false, List, [], ◌∷◌, length, map, Option, Some, None, refl, sym, ap, ◌∙◌, arith, subst, inl}
use Rattle.ros_container.proofs.Kept.{rows_kept}
use Rattle.stored_rows.specs.Listed.{SameFiles}
use Rattle.std.specs.Option.{option_or}
use Rattle.common_laws.specs.Maps.{Contents}
use Rattle.col_value.specs.declared.row.Asked.{Asked}
use Rattle.col_value.specs.declared.row.Stamped.{Stamped}
use Rattle.catalog_types.specs.declared.catalogue.Container.{Container}
use Rattle.catalog_types.specs.declared.catalogue.Projection.{Projection}
use Rattle.catalog_types.specs.declared.catalogue.ProjColumn.{ProjColumn}
use Rattle.ros_container.specs.Encodings.{Written, written_as, written_of}
use Rattle.del_vector.specs.declared.mark.Mark.{Mark}
use Rattle.del_vector.specs.Marks.{epoch_at}
use Rattle.del_vector.proofs.BothMarks.{joined_epochs}
use Rattle.stored_rows.specs.Held.{HoldsVector, HoldsMarked, stamped_from}
use Rattle.stored_rows.specs.Stored.{Beside, Projected, mark_in, StoresRows}
use Rattle.merge_rows.specs.Places.{rows_at, asked_of, TakesPlaces, AreGrown}
use Rattle.merge_rows.specs.Inputs.{chosen, others, Grows, GrowsEach, GrowsInto, Merging, IsMerging}
use Rattle.merge_rows.proofs.Taken.{places_grown, asked_grown, grown_append, grown_refl}

-- what chosen containers store later on
pub stored_grown : (m n : Contents) (es : List Written) (flags : List Bool) (ks : List Container) (bs : List Beside) (js : List Container) (cs : List Beside) (rows : List Stamped) → length flags ≤ length ks → GrowsEach m n es ks bs js cs
    → StoresRows m es (chosen flags ks) (chosen flags bs) rows → (now : List Stamped) × StoresRows n es (chosen flags js) (chosen flags cs) now × AreGrown rows now
stored_grown m n es [] ks bs js cs rows within grows stores = ([], refl, subst (λ (xs : List Stamped). AreGrown xs []) (sym stores) tt)
stored_grown m n es (f ∷ flags) [] bs js cs rows within grows stores = absurd (omega (arith, within))
stored_grown m n es (f ∷ flags) (k ∷ ks) [] js cs rows within grows stores = absurd grows
stored_grown m n es (f ∷ flags) (k ∷ ks) (b ∷ bs) [] cs rows within grows stores = absurd grows
stored_grown m n es (f ∷ flags) (k ∷ ks) (b ∷ bs) (j ∷ js) [] rows within grows stores = absurd grows
stored_grown m n es (true ∷ flags) (k ∷ ks) (b ∷ bs) (j ∷ js) (c ∷ cs) rows within (one, each) (here, more, vector, marked, rest, is) =
    let (front, front_marked, front_grown) = one.rows vector here marked in
    let (behind, behind_stored, behind_grown) = stored_grown m n es flags ks bs js cs more (omega (arith, within)) each rest in (
      front ++ behind,
      (front, behind, one.vector vector, front_marked, behind_stored, refl),
      subst (λ (xs : List Stamped). AreGrown xs (front ++ behind)) (sym is) (grown_append here more front behind front_grown behind_grown),
    )
stored_grown m n es (false ∷ flags) (k ∷ ks) (b ∷ bs) (j ∷ js) (c ∷ cs) rows within (one, each) stores = stored_grown m n es flags ks bs js cs rows (omega (arith, within)) each stores

chosen_long : (m n : Contents) (es : List Written) (flags : List Bool) (ks : List Container) (bs : List Beside) (js : List Container) (cs : List Beside) → length flags ≤ length ks → GrowsEach m n es ks bs js cs
    → length (chosen flags js) ≡ length (chosen flags ks)
chosen_long m n es [] ks bs js cs within grows = refl
chosen_long m n es (f ∷ flags) [] bs js cs within grows = absurd (omega (arith, within))
chosen_long m n es (f ∷ flags) (k ∷ ks) [] js cs within grows = absurd grows
chosen_long m n es (f ∷ flags) (k ∷ ks) (b ∷ bs) [] cs within grows = absurd grows
chosen_long m n es (f ∷ flags) (k ∷ ks) (b ∷ bs) (j ∷ js) [] within grows = absurd grows
chosen_long m n es (true ∷ flags) (k ∷ ks) (b ∷ bs) (j ∷ js) (c ∷ cs) within (one, each) = let same = chosen_long m n es flags ks bs js cs (omega (arith, within)) each in omega (arith, same)
chosen_long m n es (false ∷ flags) (k ∷ ks) (b ∷ bs) (j ∷ js) (c ∷ cs) within (one, each) = chosen_long m n es flags ks bs js cs (omega (arith, within)) each

grows_long : (m n : Contents) (es : List Written) (ks : List Container) (bs : List Beside) (js : List Container) (cs : List Beside) → GrowsEach m n es ks bs js cs → length ks ≤ length js
grows_long m n es [] [] js cs grows = omega arith
grows_long m n es [] (b ∷ bs) js cs grows = absurd grows
grows_long m n es (k ∷ ks) [] js cs grows = absurd grows
grows_long m n es (k ∷ ks) (b ∷ bs) [] cs grows = absurd grows
grows_long m n es (k ∷ ks) (b ∷ bs) (j ∷ js) [] grows = absurd grows
grows_long m n es (k ∷ ks) (b ∷ bs) (j ∷ js) (c ∷ cs) (one, each) = let le = grows_long m n es ks bs js cs each in omega (arith, le)

-- A merge stands on while its projection grows.
pub merging_grows : (m n : Contents) (p q : Projected) (j : Merging) → GrowsInto m n p q → IsMerging m p j → IsMerging n q j
merging_grows m n p q j grows is =
    let es = written_of p.entry in
    let (now, are, grown) = stored_grown m n es j.inputs p.entry.containers p.beside q.entry.containers q.beside is.stored is.within grows.each is.are in
    let same : written_of q.entry ≡ es = ap (λ (cs : List ProjColumn). map written_as cs) grows.columns in
    record {
      within = let le = grows_long m n es p.entry.containers p.beside q.entry.containers q.beside grows.each in let within = is.within in omega (arith, le, within);
      some = let long = chosen_long m n es j.inputs p.entry.containers p.beside q.entry.containers q.beside is.within grows.each in let some = is.some in omega (arith, long, some);
      stored = now;
      are = subst (λ (fs : List Written). StoresRows n fs (chosen j.inputs q.entry.containers) (chosen j.inputs q.beside) now) (sym same) are;
      taken = places_grown j.mark is.stored now j.places grown is.taken;
      rows = is.rows ∙ sym (asked_grown is.stored now j.places grown);
    }

-- ---- marks that come

stamped_grown : (i : ℕ) (one other : ℕ → Option ℕ) (rows : List Asked) → ((k e : ℕ) → one k ≡ Some e → other k ≡ Some e) → AreGrown (stamped_from i one rows) (stamped_from i other rows)
stamped_grown i one other [] more = tt
stamped_grown i one other (a ∷ rows) more = (record { row = refl; ins = refl; deleted = more i }, stamped_grown (i + 1) one other rows more)

or_grown : (held fresh more : Option ℕ) (e : ℕ) → option_or held fresh ≡ Some e → option_or held (option_or fresh more) ≡ Some e
or_grown (Some d) fresh more e is = is
or_grown None (Some d) more e is = is
or_grown None None more e is = absurd (cc)

-- marks that come behind the others
abbrev pub more_marks : Beside → List Mark → Beside
more_marks b more = record b { fresh = b.fresh ++ more }

pub marks_grow : (m : Contents) (es : List Written) (k : Container) (b : Beside) (more : List Mark) → Grows m m es k k b (more_marks b more)
marks_grow m es k b more = record {
  vector = λ v. v;
  rows = λ v old (asked, held, is). (
    stamped_from 0 (mark_in (more_marks b more)) asked,
    (asked, held, refl),
    subst (λ (xs : List Stamped). AreGrown xs (stamped_from 0 (mark_in (more_marks b more)) asked)) (sym is)
        (stamped_grown 0 (mark_in b) (mark_in (more_marks b more)) asked (λ i e was. ap (option_or (epoch_at b.held i)) (joined_epochs b.fresh more i) ∙ or_grown (epoch_at b.held i) (epoch_at b.fresh i) (epoch_at more i) e was)),
  );
}

-- a delete vector with all marks, and none beside it
pub vector_grows : (m n : Contents) (es : List Written) (k j : Container) (b c : Beside) → (HoldsVector m k b.held → (rows : List Stamped) → HoldsMarked m es k (mark_in b) rows → HoldsMarked n es j (mark_in c) rows) → HoldsVector n j c.held → Grows m n es k j b c
vector_grows m n es k j b c keeps vector = record { vector = λ v. vector; rows = λ v old was. (old, keeps v old was, grown_refl old) }

-- ---- files that stay

pub marked_stays : (m n : Contents) (es : List Written) (k : Container) (mark : ℕ → Option ℕ) (rows : List Stamped) → SameFiles m n k → HoldsMarked m es k mark rows → HoldsMarked n es k mark rows
marked_stays m n es k mark rows same (asked, held, is) = (asked, rows_kept m n es k asked (λ q f. same q (inl f)) held, is)
