-- What two projections of a table tell, but for the containers that both hold in the same files.
use Rattle.std.proofs.Common.{◌≡◌, ◌++◌, ℕ, List, [], map, Option, Some, sym, ap, ◌∙◌, subst}
use Rattle.std.specs.List.{All}
use Rattle.common_laws.specs.Bags.{SameBag}
use Rattle.common_laws.specs.Maps.{Contents}
use Rattle.common_laws.proofs.BagLaws.{bag_sym, bag_trans}
use Rattle.bag_difference.proofs.Orders.{all_of_bag}
use Rattle.catalog_types.specs.declared.catalogue.Container.{Container}
use Rattle.catalog_types.specs.declared.catalogue.ProjColumn.{ProjColumn}
use Rattle.catalog_types.specs.declared.catalogue.Projection.{Projection}
use Rattle.col_value.specs.declared.row.Stamped.{Stamped}
use Rattle.col_value.specs.Order.{IsRow}
use Rattle.row_history.specs.History.{retained}
use Rattle.ros_container.specs.Encodings.{written_as, written_of, Written}
use Rattle.stored_rows.specs.Held.{Holds, HoldsRows}
use Rattle.stored_rows.specs.Listed.{SameEntry}
use Rattle.stored_rows.specs.Stored.{Projected}
use Rattle.row_matching.specs.Keeping.{history, KeepsAll}
use Rattle.catch_rows.specs.Sharing.{with_containers, AreRests, SharesRows}
use Rattle.catch_rows.proofs.Parted.{all_behind, bag_history, held_parts, history_append, HoldsParts}
use Rattle.catch_rows.proofs.Told.{TellsOf}

abbrev pub OneHeld : Type 0
OneHeld = (m : Contents) (p : Projection) (xs ys : List Stamped) → Holds m p xs → Holds m p ys → xs ≡ ys

abbrev pub HeldOn : Type 0
HeldOn = (m n : Contents) (p : Projection) (rows : List Stamped) → SameEntry m n p → Holds m p rows → Holds n p rows

-- of what a projection tells the common rows and the rest are the table's
rest_is : OneHeld → (m : Contents) (mark : ℕ) (places : List (Option ℕ)) (p : Projected) (shared ks : List Container) (rows out : List Stamped) (told : TellsOf m mark places p rows) (parts : HoldsParts m (written_of p.entry) shared ks told.stored)
    → ((held : List Stamped) × Holds m (with_containers ks p.entry) held × KeepsAll (history mark places held) [] out) → SameBag (history mark places parts.common ++ out) (retained mark rows)
rest_is one m mark places p shared ks rows out told parts (held, are, keeps) =
    let same : held ≡ parts.others = one m (with_containers ks p.entry) held parts.others are parts.second in
    let split : SameBag (history mark places told.stored) (history mark places parts.common ++ history mark places parts.others) =
    subst (SameBag (history mark places told.stored)) (history_append mark places parts.common parts.others) (bag_history mark places told.stored (parts.common ++ parts.others) parts.bag) in
    let bag : SameBag (history mark places parts.common ++ history mark places parts.others) (retained mark rows) =
    bag_trans (history mark places parts.common ++ history mark places parts.others) (history mark places told.stored) (retained mark rows)
    (bag_sym (history mark places told.stored) (history mark places parts.common ++ history mark places parts.others) split) told.bag in
    let valid : All (λ s. IsRow s.row) (history mark places parts.others) =
    all_behind (λ s. IsRow s.row) (history mark places parts.common) (history mark places parts.others)
    (all_of_bag (λ s. IsRow s.row) (retained mark rows) (history mark places parts.common ++ history mark places parts.others) (bag_sym (history mark places parts.common ++ history mark places parts.others) (retained mark rows) bag) told.valid) in
    let is : out ≡ history mark places parts.others = keeps (subst (λ (xs : List Stamped). All (λ s. IsRow s.row) (history mark places xs)) (sym same) valid) ∙ ap (history mark places) same in
    subst (λ (xs : List Stamped). SameBag (history mark places parts.common ++ xs) (retained mark rows)) (sym is) bag

pub shares : OneHeld → HeldOn → (at from : Option Contents) (m n : Contents) (mark : ℕ) (places : List (Option ℕ)) (p q : Projected) (old new behind ahead : List Stamped) → at ≡ Some m → from ≡ Some n → p.entry.columns ≡ q.entry.columns
    → TellsOf m mark places p old → TellsOf n mark places q new → AreRests at from mark places p q behind ahead → SharesRows mark old new behind ahead
shares one on at from m n mark places p q old new behind ahead here there columns first second rests =
    let parted = rests.parted in
    let a : HoldsParts m (written_of p.entry) parted.shared rests.ks first.stored = held_parts m (written_of p.entry) p.entry.containers parted.shared rests.ks first.stored parted.first first.held in
    let b : HoldsParts n (written_of q.entry) parted.shared rests.js second.stored = held_parts n (written_of q.entry) q.entry.containers parted.shared rests.js second.stored parted.second second.held in
    let moved : HoldsRows n (written_of p.entry) parted.shared a.common = on m n (with_containers parted.shared p.entry) a.common (parted.same m n here there) a.first in
    let written : written_of p.entry ≡ written_of q.entry = ap (λ (cs : List ProjColumn). map written_as cs) columns in
    let same : b.common ≡ a.common = one n (with_containers parted.shared q.entry) b.common a.common b.first (subst (λ (es : List Written). HoldsRows n es parted.shared a.common) written moved) in
    record {
      common = history mark places a.common;
      first = rest_is one m mark places p parted.shared rests.ks old behind first a (rests.first m here);
      second = subst (λ (xs : List Stamped). SameBag (history mark places xs ++ ahead) (retained mark new)) same (rest_is one n mark places q parted.shared rests.js new ahead second b (rests.second n there));
    }
