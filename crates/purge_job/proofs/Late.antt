-- Marks that are all later than one.
use Rattle.std.proofs.Common.{◌≡◌, ◌+◌, ◌++◌, ◌<◌, ◌≤◌, ℕ, Bool, true, List, [], ◌∷◌, length, map, take, get_or, refl, sym, ◌∙◌, ap, ap₂, subst, arith}
use Rattle.std.specs.Prelude.{IsSomeAnd, ◌↔◌, IsTrue}
use Rattle.std.specs.List.{All, slice_get}
use Rattle.std.proofs.lemmas.List.{take_more, take_all}
use Rattle.std.proofs.lemmas.List.Elements.{All-contains, All-cons, All-head, All-tail, All-map, All-nil, All-push}
use Rattle.std.proofs.lemmas.Slice.Zip.{AllZip-long}
use Rattle.col_value.specs.declared.row.Stamped.{Stamped}
use Rattle.row_history.specs.History.{is_retained}
use Rattle.del_vector.specs.declared.mark.Mark.{Mark}
use Rattle.stored_rows.specs.Stored.{Beside, Projected}
use Rattle.proj_store.specs.Sound.{MarksItsRows, IsSound}
use Rattle.catalog_types.specs.declared.catalogue.Container.{Container}
use Rattle.write_store.specs.Memory.{stamp}
use Rattle.write_store.specs.declared.held.Held.{Held}
use Rattle.moveout_job.specs.OnDisk.{beside}
use Rattle.moveout_job.proofs.Renewed.{at_slice}
use Rattle.purge_job.specs.Purging.{AreLate, IsKeptWhole}

-- what is kept of the container at a place
place_is : (bs : List Beside) (i : ℕ) (held fresh : List Mark) → IsSomeAnd (slice_get bs i) (λ b. held ≡ b.held) → IsSomeAnd (slice_get bs i) (λ b. fresh ≡ b.fresh) → beside held fresh ≡ get_or bs i (beside held fresh)
place_is bs i held fresh held_is fresh_is = ap₂ beside (at_slice (λ c. held ≡ c.held) bs i (beside held fresh) held_is) (at_slice (λ c. fresh ≡ c.fresh) bs i (beside held fresh) fresh_is)

pub late_more : (mark i : ℕ) (bs : List Beside) (held fresh : List Mark) → i < length bs → IsSomeAnd (slice_get bs i) (λ b. held ≡ b.held) → IsSomeAnd (slice_get bs i) (λ b. fresh ≡ b.fresh) → AreLate mark (beside held fresh)
    → All (AreLate mark) (take i bs) → All (AreLate mark) (take (i + 1) bs)
late_more mark i bs held fresh lt held_is fresh_is late before =
    let d : Beside = beside held fresh in
    let next : take (i + 1) bs ≡ take i bs ++ d ∷ [] = take_more bs i d lt ∙ ap (λ (x : Beside). take i bs ++ x ∷ []) (sym (place_is bs i held fresh held_is fresh_is)) in
    subst (All (AreLate mark)) (sym next) (All-push (AreLate mark) (take i bs) d before late)

pub late_at : (mark i : ℕ) (bs : List Beside) (held fresh : List Mark) → i < length bs → IsSomeAnd (slice_get bs i) (λ b. held ≡ b.held) → IsSomeAnd (slice_get bs i) (λ b. fresh ≡ b.fresh) → All (AreLate mark) bs → AreLate mark (beside held fresh)
late_at mark i bs held fresh lt held_is fresh_is all =
    let d : Beside = beside held fresh in
    All-contains (AreLate mark) bs d all (i, lt, sym (place_is bs i held fresh held_is fresh_is))

pub late_all : (mark i : ℕ) (shown : List Container) (p : Projected) → shown ≡ p.entry.containers → IsSound p.entry p.beside → length shown ≤ i → All (AreLate mark) (take i p.beside) → All (AreLate mark) p.beside
late_all mark i shown p same sound done all =
    let past : length p.beside ≤ i = omega (arith, done, ap length same, AllZip-long MarksItsRows p.entry.containers p.beside sound.kept) in
    subst (All (AreLate mark)) (take_all i p.beside past) all

unmapped : (mark : ℕ) (rows : List Held) → All (λ s. is_retained mark s ≡ true) (map stamp rows) → All (λ h. is_retained mark (stamp h) ≡ true) rows
unmapped mark [] all = All-nil (λ h. is_retained mark (stamp h) ≡ true)
unmapped mark (h ∷ rows) all =
    All-cons (λ h. is_retained mark (stamp h) ≡ true) h rows (All-head (λ s. is_retained mark s ≡ true) (stamp h) (map stamp rows) all) (unmapped mark rows (All-tail (λ s. is_retained mark s ≡ true) (stamp h) (map stamp rows) all))

pub kept_whole : (mark : ℕ) (p : Projected) (rows : List Held) (r : Bool) → map stamp rows ≡ p.unsaved → All (AreLate mark) p.beside → (IsTrue r ↔ All (λ h. is_retained mark (stamp h) ≡ true) rows) → IsTrue r ↔ IsKeptWhole mark p
kept_whole mark p rows r are late both = (
  (λ yes. record { marks = late; rows = subst (All (λ s. is_retained mark s ≡ true)) are (All-map (λ s. is_retained mark s ≡ true) stamp rows (both.0 yes)) }),
  (λ whole. both.1 (unmapped mark rows (subst (All (λ s. is_retained mark s ≡ true)) (sym are) whole.rows))),
)
