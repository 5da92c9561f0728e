-- A container that is written one column after the other.
use Rattle.std.proofs.Common.{◌≡◌, ℕ, ◌+◌, ◌*◌, ◌<◌, ◌≤◌, List, [], ◌∷◌, length, map, get_or, refl, sym, ap, ◌∙◌, arith, subst, inl, inr}
use Rattle.std.specs.Prelude.{◌⊎◌, ◌==◌, if◌then◌else◌, Bool, true, false, Some}
use Rattle.std.proofs.lemmas.Bool.{cases_Bool, eqb-true, eq-eqb}
use Rattle.std.specs.FinMap.{get}
use Rattle.common_laws.specs.Maps.{Contents}
use Rattle.col_value.specs.declared.row.Asked.{Asked}
use Rattle.catalog_types.specs.declared.catalogue.Container.{Container}
use Rattle.col_file.specs.Held.{HoldsColumn}
use Rattle.ros_container.specs.Encodings.{Written, encoding_at}
use Rattle.ros_container.specs.Files.{body_of, index_of, IsFileOf}
use Rattle.ros_container.specs.Held.{HoldsContainer}
use Rattle.ros_container.specs.Rows.{stored_values, AreWithin}
use Rattle.ros_container.proofs.Kept.{column_kept, is_body, is_index}
use Rattle.col_disk.specs.Moved.{Changed, Moved, NoName, Named, Either}
use Rattle.col_disk.specs.declared.disk.Disk.{Ghosts}
use Rattle.col_disk.proofs.Moving.{changed_kept}
use Rattle.container_writer.proofs.ByColumn.{all_held}
use Rattle.container_writer.proofs.Filled.{told_before}
use Rattle.std.proofs.lemmas.List.{length-map}
use Rattle.container_draft.specs.Placed.{asked_at, all_at, seen}
use Rattle.container_draft.specs.Draft.{Drafted, IsDraft, one_more}

-- its files stay
pub draft_kept : (m n : Contents) (es : List Written) (d : Drafted) → ((q : ℕ) → IsFileOf d.base (length es) q → get n q ≡ get m q) → IsDraft m es d → IsDraft n es d
draft_kept m n es d same is = record {
  wide = is.wide;
  columns = λ some i lt within. column_kept _ _ _ _ m n _ (same _ (is_body d.base (length es) i (omega (arith, within)))) (same _ (is_index d.base (length es) i (omega (arith, within)))) (is.columns some i lt within);
}

-- one column more: files of other columns stay
pub draft_more : (m n : Contents) (es : List Written) (d : Drafted) → ((i : ℕ) → i < d.done → (get n (body_of d.base i) ≡ get m (body_of d.base i)) × (get n (index_of d.base i) ≡ get m (index_of d.base i)))
    → (0 < length d.rows → HoldsColumn (encoding_at es d.done) (body_of d.base d.done) (index_of d.base d.done) (length d.rows) n (stored_values (length es) d.done d.rows)) → IsDraft m es d → IsDraft n es (one_more d)
draft_more m n es d same here is = record { wide = is.wide; columns = λ some i lt within. by some i (cases i lt) within }
  where
    cases : (i : ℕ) → i < 1 + d.done → (i < d.done) ⊎ (i ≡ d.done)
    cases i lt = decide i d.done lt
      where
        decide : (i k : ℕ) → i < 1 + k → (i < k) ⊎ (i ≡ k)
        decide i k lt = elim (cases_Bool (i == k)) [ inl t ↦ inr (eqb-true i k t) | inr f ↦ inl (apart i k lt f) ]
          where
            apart : (i k : ℕ) → i < 1 + k → (i == k) ≡ false → i < k
            apart i k lt f = grind (arith, eq-eqb)

    by : 0 < length d.rows → (i : ℕ) → (i < d.done) ⊎ (i ≡ d.done) → i ≤ length es → HoldsColumn (encoding_at es i) (body_of d.base i) (index_of d.base i) (length d.rows) n (stored_values (length es) i d.rows)
    by some i (inl lt) within = let (body, index) = same i lt in column_kept _ _ _ _ m n _ body index (is.columns some i lt within)
    by some i (inr at) within = subst (λ (k : ℕ). HoldsColumn (encoding_at es k) (body_of d.base k) (index_of d.base k) (length d.rows) n (stored_values (length es) k d.rows)) (sym at) (here some)

-- all columns are there: the container holds the rows
pub draft_done : (m : Contents) (es : List Written) (d : Drafted) (k : Container) → length es < d.done → 0 < length d.rows → k.base ≡ d.base → k.rows ≡ length d.rows → k.stored ≡ length es → AreWithin k d.rows → IsDraft m es d → HoldsContainer m es k d.rows
draft_done m es d k all some base long stored within is =
    all_held d.base (length es) (length d.rows) es m d.rows k refl (λ j lt. is.columns some j (omega (arith, all, lt)) (omega (arith, lt))) is.wide base long stored within

-- one column more, by what was written
pub goes_on : {D : Type 0} (disk : Ghosts D) {old new : D} (es : List Written) (columns : ℕ) (d e : Drafted) → columns ≡ length es → e ≡ one_more d
    → (0 < length d.rows → (n : Contents) → disk.holds new ≡ Some n → HoldsColumn (encoding_at es d.done) (body_of d.base d.done) (index_of d.base d.done) (length d.rows) n (stored_values columns d.done d.rows))
    → Moved disk (Either (Named (body_of d.base d.done)) (Named (index_of d.base d.done))) NoName old new
    → (m n : Contents) → disk.holds old ≡ Some m → disk.holds new ≡ Some n → IsDraft m es d → IsDraft n es e
goes_on disk {old} {new} es columns d e long is here moved m n before after draft =
    subst (IsDraft n es) (sym is)
    (draft_more m n es d (λ i lt. (kept (body_of d.base i) (λ same. omega (arith, same, lt)) (λ same. omega (arith, same, lt)), kept (index_of d.base i) (λ same. omega (arith, same, lt)) (λ same. omega (arith, same, lt))))
    (λ some. subst (λ (c : ℕ). HoldsColumn (encoding_at es d.done) (body_of d.base d.done) (index_of d.base d.done) (length d.rows) n (stored_values c d.done d.rows)) long (here some n after)) draft)
  where
    kept : (q : ℕ) → (q ≡ body_of d.base d.done → ⊥) → (q ≡ index_of d.base d.done → ⊥) → get n q ≡ get m q
    kept q no_body no_index = changed_kept (Either (Named (body_of d.base d.done)) (Named (index_of d.base d.done))) NoName m n q neither (λ x. x) changed
      where
        neither : Either (Named (body_of d.base d.done)) (Named (index_of d.base d.done)) q → ⊥
        neither (inl body) = no_body body
        neither (inr index) = no_index index

        one_contents : (a b : Contents) → disk.holds old ≡ Some a → disk.holds old ≡ Some b → a ≡ b
        one_contents a b first second = cc

        changed : Changed (Either (Named (body_of d.base d.done)) (Named (index_of d.base d.done))) NoName m n
        changed =
            let (l, told, moves) = told_before disk n after moved in
            subst (λ (x : Contents). Changed (Either (Named (body_of d.base d.done)) (Named (index_of d.base d.done))) NoName x n) (one_contents l m told before) moves

-- the same of a draft as it is seen
pub goes_on_at : {D : Type 0} (disk : Ghosts D) {old new : D} (es : List Written) (columns : ℕ) (rows shown : List Asked) (places places_shown : List ℕ) (base done : ℕ) (d : Drafted) → columns ≡ length es → shown ≡ rows → places_shown ≡ places
    → seen rows places base done ≡ d
    → (0 < length places_shown → (n : Contents) → disk.holds new ≡ Some n → HoldsColumn (encoding_at es done) (body_of base done) (index_of base done) (length places_shown) n (stored_values columns done (all_at shown places_shown)))
    → Moved disk (Either (Named (body_of base done)) (Named (index_of base done))) NoName old new
    → (m n : Contents) → disk.holds old ≡ Some m → disk.holds new ≡ Some n → IsDraft m es d → IsDraft n es (seen rows places base (done + 1))
goes_on_at disk es columns rows shown places places_shown base done d long same same_too is here moved m n before after draft =
    let next : done + 1 ≡ 1 + done = omega arith in
    let many : length places_shown ≡ length (all_at rows places) = ap length same_too ∙ sym (length-map places (asked_at rows)) in
    let values : all_at shown places_shown ≡ all_at rows places = ap (λ (xs : List Asked). all_at xs places_shown) same ∙ ap (all_at rows) same_too in
    goes_on disk es columns (seen rows places base done) (seen rows places base (done + 1)) long (ap (seen rows places base) next)
    (λ some l told.
    subst (λ (xs : List Asked). HoldsColumn (encoding_at es done) (body_of base done) (index_of base done) (length (all_at rows places)) l (stored_values columns done xs)) values
    (subst (λ (k : ℕ). HoldsColumn (encoding_at es done) (body_of base done) (index_of base done) k l (stored_values columns done (all_at shown places_shown))) many (here (omega (arith, many, some)) l told)))
    moved m n before after (subst (IsDraft m es) (sym is) draft)
