-- What a mergeout begins with.
use Rattle.std.proofs.Common.{◌≡◌, ℕ, ◌+◌, ◌<◌, ◌≤◌, Bool, List, length, map, Option, refl, sym, ap, ◌∙◌, arith, subst}
use Rattle.std.specs.List.{All, AllZip}
use Rattle.common_laws.specs.Bags.{SameBag}
use Rattle.common_laws.specs.Maps.{Contents}
use Rattle.common_laws.proofs.BagLaws.{bag_sym}
use Rattle.col_value.specs.declared.row.Asked.{Asked}
use Rattle.col_value.specs.declared.row.Stamped.{Stamped}
use Rattle.ros_container.specs.Encodings.{written_of}
use Rattle.stored_rows.specs.Held.{HoldsVector}
use Rattle.stored_rows.specs.Stored.{Projected}
use Rattle.proj_store.specs.Reading.{HasVectors}
use Rattle.merge_rows.specs.Places.{asked_of}
use Rattle.merge_rows.specs.Inputs.{chosen, Merging, IsMerging}
use Rattle.merge_rows.proofs.Kept.{kept_taken}
use Rattle.container_draft.specs.Draft.{Drafted, IsDraft}
use Rattle.container_draft.specs.Keeping.{kept_of}
use Rattle.container_draft.specs.Placed.{all_at, seen}
use Rattle.container_draft.specs.Reading.{del_of, deletes_in, HoldEach}
use Rattle.container_draft.proofs.Flags.{zip_chosen}
use Rattle.container_draft.proofs.Chosen.{each_stored, stored_deletes, held_wide}
use Rattle.container_draft.proofs.Joined.{asked_at_places, kept_same}
use Rattle.container_draft.proofs.Rising.{wide_at}

abbrev pub merging_of : List Bool → ℕ → Drafted → Merging
merging_of flags mark d = record { inputs = flags; mark = mark; places = d.places; rows = d.rows }

-- the places of the rows that are retained, in any order
pub begun : (m : Contents) (p : Projected) (flags : List Bool) (mark base : ℕ) (rows shown : List Asked) (dels dels_shown : List (Option ℕ)) (kept kept_shown places : List ℕ) (d : Drafted) → length flags ≤ length p.entry.containers
    → 0 < length (chosen flags p.entry.containers) → HasVectors m p → HoldEach m (written_of p.entry) (chosen flags p.entry.containers) rows → dels ≡ deletes_in (chosen flags p.entry.containers) (chosen flags p.beside) → dels_shown ≡ dels
    → kept ≡ kept_of mark dels_shown → kept_shown ≡ kept → SameBag kept_shown places → d ≡ seen rows places base 0 → IsMerging m p (merging_of flags mark d)
begun m p flags mark base rows shown dels dels_shown kept kept_shown places d within some vectors held dels_are dels_same kept_are kept_same_too same is =
    let ks = chosen flags p.entry.containers in
    let bs = chosen flags p.beside in
    let stored = each_stored m (written_of p.entry) ks bs rows (zip_chosen (λ k b. HoldsVector m k b.held) flags p.entry.containers p.beside vectors) held in
    let places_are : kept_shown ≡ kept_of mark (map del_of stored.stored) = kept_same_too ∙ kept_are ∙ ap (kept_of mark) (dels_same ∙ dels_are ∙ stored_deletes m (written_of p.entry) ks bs stored.stored stored.are) in
    subst (λ (x : Drafted). IsMerging m p (merging_of flags mark x)) (sym is)
    (record {
      within = within;
      some = some;
      stored = stored.stored;
      are = stored.are;
      taken = kept_taken mark stored.stored places (subst (SameBag places) (places_are ∙ kept_same mark stored.stored) (bag_sym kept_shown places same));
      rows = ap (λ (xs : List Asked). all_at xs places) stored.rows ∙ sym (asked_at_places stored.stored places);
    })

-- no column is done
pub draft_begun : (m : Contents) (p : Projected) (flags : List Bool) (base : ℕ) (rows shown : List Asked) (places : List ℕ) (d : Drafted) → HoldEach m (written_of p.entry) (chosen flags p.entry.containers) rows → shown ≡ rows
    → All (λ i. i < length shown) places → d ≡ seen rows places base 0 → IsDraft m (written_of p.entry) d
draft_begun m p flags base rows shown places d held same within is =
    subst (IsDraft m (written_of p.entry)) (sym is)
    (record {
      wide = wide_at (length (written_of p.entry)) rows places (held_wide m (written_of p.entry) (chosen flags p.entry.containers) rows held) (subst (λ (xs : List Asked). All (λ i. i < length xs) places) same within);
      columns = λ some i lt inside. absurd (omega (arith, lt));
    })
