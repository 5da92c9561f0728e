use Rattle.std.proofs.Common.{◌≡◌, ℤ, ◌++◌, ◌∷◌, [], List, Some, None, length, map, of_z, position, to_z, refl, sym, ap, ◌∙◌, rules}
use Rattle.std.specs.Int.{w64}
use Rattle.std.proofs.lemmas.List.{length-map, map-append}
use Rattle.col_value.specs.declared.value.Value.{Value}
use Rattle.row_keys.specs.Numbers.{is_number}
use Rattle.sql_bound.specs.Outputs.{same_keys}
use Rattle.exec_group.specs.NumberKeys.{number_key}
use Rattle.exec_group.proofs.Entering.{known_met, new_met, new_there}
use Rattle.exec_group.proofs.Numbered.{place_of_number}
use Rattle.exec_group.proofs.number_keys.enter_number.Goals as goal

pub returns-in-Some-clause-there : goal.returns-in-Some-clause-there
returns-in-Some-clause-there c =
    let numbers = c.args.numbers.now in
    let same : to_z w64 (of_z w64 c.args.n) ≡ c.args.n = search rules in
    let at : position (is_number (to_z w64 (of_z w64 c.args.n))) numbers ≡ Some c.in-Some.place = search rules in
    sym (place_of_number c.args.n (number_key c.args.n) numbers refl) ∙ ap (λ (m : ℤ). position (is_number m) numbers) (sym same) ∙ at

pub returns-in-Some-clause-met : goal.returns-in-Some-clause-met
returns-in-Some-clause-met c =
    let numbers = c.args.numbers.now in
    let same : to_z w64 (of_z w64 c.args.n) ≡ c.args.n = search rules in
    let at : position (is_number (to_z w64 (of_z w64 c.args.n))) numbers ≡ Some c.in-Some.place = search rules in
    known_met (map number_key numbers) (number_key c.args.n) c.in-Some.place (sym (place_of_number c.args.n (number_key c.args.n) numbers refl) ∙ ap (λ (m : ℤ). position (is_number m) numbers) (sym same) ∙ at)

pub returns-in_ok-add-in-None-clause-met : goal.returns-in_ok-add-in-None-clause-met
returns-in_ok-add-in-None-clause-met c =
    let numbers = c.args.numbers.now in
    let key = number_key c.args.n in
    let same : to_z w64 (of_z w64 c.args.n) ≡ c.args.n = search rules in
    let at : position (is_number (to_z w64 (of_z w64 c.args.n))) numbers ≡ None = search rules in
    let none = sym (place_of_number c.args.n key numbers refl) ∙ ap (λ (m : ℤ). position (is_number m) numbers) (sym same) ∙ at in
    let added : c.add.new.self ≡ numbers ++ c.args.n ∷ [] = search rules in
    ap (map number_key) added ∙ map-append number_key numbers (c.args.n ∷ []) ∙ new_met (map number_key numbers) key none

pub returns-in_ok-add-in-None-clause-there : goal.returns-in_ok-add-in-None-clause-there
returns-in_ok-add-in-None-clause-there c =
    let numbers = c.args.numbers.now in
    let key = number_key c.args.n in
    let same : to_z w64 (of_z w64 c.args.n) ≡ c.args.n = search rules in
    let at : position (is_number (to_z w64 (of_z w64 c.args.n))) numbers ≡ None = search rules in
    let none = sym (place_of_number c.args.n key numbers refl) ∙ ap (λ (m : ℤ). position (is_number m) numbers) (sym same) ∙ at in
    let added : c.add.new.self ≡ numbers ++ c.args.n ∷ [] = search rules in
    let long : length numbers ≡ length c.numbers-place.result.now = search rules in
    ap (λ (ks : List (List Value)). position (λ k. same_keys k key) ks) (ap (map number_key) added ∙ map-append number_key numbers (c.args.n ∷ []))
    ∙ new_there (map number_key numbers) key none ∙ ap Some (length-map numbers number_key ∙ long)
