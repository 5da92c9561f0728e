-- Where no epochs are given and no row is deleted, each row is shown; and where all are alive, all are chosen.
use Rattle.std.proofs.Common.{◌≡◌, ℕ, Bool, List, [], ◌∷◌, length, map, true, false, refl, sym, ap, arith, rules, ◌∙◌, replicate}
use Rattle.std.specs.Prelude.{Option}
use Rattle.std.proofs.lemmas.List.{get_or-replicate, length-replicate}
use Rattle.std.specs.List.{list_all, range_with_len}
use Rattle.std.proofs.lemmas.List.FromFn.{fill_by_all, length-range_with_len}
use Rattle.exec_scan.specs.Batches.{chosen, is_shown}

shown_at : (epoch first k : ℕ) → true ≡ is_shown epoch [] [] first k
shown_at epoch first k = search rules

nothing : {X : Type 0} (xs : List X) → length xs ≡ 0 → xs ≡ []
nothing [] none = refl
nothing (x ∷ xs) none = absurd (omega (arith, none))

pub all_shown : (epoch first count : ℕ) (inserted : List ℕ) (deletes : List (Option ℕ)) → length inserted ≡ 0 → length deletes ≡ 0 → replicate count true ≡ map (is_shown epoch inserted deletes first) (range_with_len 0 count)
all_shown epoch first count inserted deletes no_epochs no_deletes =
    rw (nothing inserted no_epochs, nothing deletes no_deletes) (fill_by_all (is_shown epoch [] [] first) (replicate count true) count true (length-replicate count true) (λ k lt. get_or-replicate count k true true lt ∙ shown_at epoch first k))

chosen_all : {X : Type 0} (alive : List Bool) (xs : List X) → list_all (λ a. a) alive ≡ true → length alive ≡ length xs → chosen alive xs ≡ xs
chosen_all [] [] all same = refl
chosen_all [] (x ∷ xs) all same = absurd (omega (arith, same))
chosen_all (b ∷ bs) [] all same = absurd (omega (arith, same))
chosen_all (true ∷ bs) (x ∷ xs) all same = ap (λ ys. x ∷ ys) (chosen_all bs xs all (omega (arith, same)))
chosen_all (false ∷ bs) (x ∷ xs) all same = absurd cc

pub all_chosen : (alive : List Bool) → list_all (λ a. a) alive ≡ true → range_with_len 0 (length alive) ≡ chosen alive (range_with_len 0 (length alive))
all_chosen alive all = sym (chosen_all alive (range_with_len 0 (length alive)) all (sym (length-range_with_len 0 (length alive))))
