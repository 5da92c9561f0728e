-- The rows of containers that are parted.
use Rattle.std.proofs.Common.{◌≡◌, ℕ, ◌++◌, List, [], ◌∷◌, inl, inr, map, refl, sym, ap, ◌∙◌, subst, append_assoc}
use Rattle.std.specs.Prelude.{Option}
use Rattle.std.specs.List.{All}
use Rattle.std.proofs.lemmas.List.{map-append}
use Rattle.std.proofs.lemmas.List.Elements.{filter-append, All-tail}
use Rattle.common_laws.specs.Bags.{SameBag}
use Rattle.common_laws.specs.Maps.{Contents}
use Rattle.common_laws.proofs.BagLaws.{bag_append, bag_filter, bag_map, bag_refl, bag_trans}
use Rattle.col_value.specs.declared.row.Stamped.{Stamped}
use Rattle.row_history.specs.History.{is_retained, retained}
use Rattle.catalog_types.specs.declared.catalogue.Container.{Container}
use Rattle.ros_container.specs.Encodings.{Written}
use Rattle.stored_rows.specs.Held.{HoldsRows}
use Rattle.merge_rows.proofs.Parts.{bag_swap}
use Rattle.row_matching.specs.Keeping.{history, with_places}
use Rattle.catch_files.specs.Parting.{Parts}

-- rows that some containers hold are those of the shared ones and those of the rest
pub record HoldsParts (m : Contents) (es : List Written) (shared rest : List Container) (rows : List Stamped) : Type 0 where
  pub common : List Stamped
  pub others : List Stamped
  pub first : HoldsRows m es shared common
  pub second : HoldsRows m es rest others
  pub bag : SameBag rows (common ++ others)

pub held_parts : (m : Contents) (es : List Written) (ks shared rest : List Container) (rows : List Stamped) → Parts ks shared rest → HoldsRows m es ks rows → HoldsParts m es shared rest rows
held_parts m es [] shared rest rows (none, empty) held = record {
  common = [];
  others = [];
  first = subst (λ (js : List Container). HoldsRows m es js []) (sym none) refl;
  second = subst (λ (js : List Container). HoldsRows m es js []) (sym empty) refl;
  bag = subst (λ (xs : List Stamped). SameBag xs []) (sym held) (bag_refl []);
}
held_parts m es (k ∷ ks) shared rest rows (inl (more, is, parts)) (marks, here, later, vector, marked, others, all) =
    let p = held_parts m es ks more rest later parts others in
    record {
      common = here ++ p.common;
      others = p.others;
      first = subst (λ (js : List Container). HoldsRows m es js (here ++ p.common)) (sym is) (marks, here, p.common, vector, marked, p.first, refl);
      second = p.second;
      bag = subst (λ (xs : List Stamped). SameBag xs ((here ++ p.common) ++ p.others)) (sym all)
          (subst (SameBag (here ++ later)) (sym (append_assoc here p.common p.others)) (bag_append here later here (p.common ++ p.others) (bag_refl here) p.bag));
    }
held_parts m es (k ∷ ks) shared rest rows (inr (more, is, parts)) (marks, here, later, vector, marked, others, all) =
    let p = held_parts m es ks shared more later parts others in
    record {
      common = p.common;
      others = here ++ p.others;
      first = p.first;
      second = subst (λ (js : List Container). HoldsRows m es js (here ++ p.others)) (sym is) (marks, here, p.others, vector, marked, p.second, refl);
      bag = subst (λ (xs : List Stamped). SameBag xs (p.common ++ (here ++ p.others))) (sym all)
          (bag_trans (here ++ later) (here ++ (p.common ++ p.others)) (p.common ++ (here ++ p.others)) (bag_append here later here (p.common ++ p.others) (bag_refl here) p.bag) (bag_swap here p.common p.others));
    }

-- ---- histories

pub history_append : (mark : ℕ) (places : List (Option ℕ)) (xs ys : List Stamped) → history mark places (xs ++ ys) ≡ history mark places xs ++ history mark places ys
history_append mark places xs ys = ap (map (with_places places)) (filter-append (is_retained mark) xs ys) ∙ map-append (with_places places) (retained mark xs) (retained mark ys)

pub bag_history : (mark : ℕ) (places : List (Option ℕ)) (xs ys : List Stamped) → SameBag xs ys → SameBag (history mark places xs) (history mark places ys)
bag_history mark places xs ys same = bag_map (with_places places) (retained mark xs) (retained mark ys) (bag_filter (is_retained mark) xs ys same)

pub all_behind : {X : Type 0} (P : X → Type 0) (xs ys : List X) → All P (xs ++ ys) → All P ys
all_behind P [] ys all = all
all_behind P (x ∷ xs) ys all = all_behind P xs ys (All-tail P x (xs ++ ys) all)
