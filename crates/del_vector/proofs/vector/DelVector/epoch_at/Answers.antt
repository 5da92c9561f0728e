use Rattle.std.proofs.Common.{◌≡◌, ◌<◌, ◌≤◌, ◌∙◌, sym, ap, subst, true, List, ◌∷◌, [], length, get_or, ℕ}
use Rattle.std.proofs.lemmas.Bool.{ltb-true, ltb-false}
use Rattle.del_vector.specs.declared.mark.Mark.{Mark}
use Rattle.del_vector.specs.Marks.{Vector, are_marks, epoch_at, place_of}
use Rattle.del_vector.proofs.Places.{at_place, no_place}
use Rattle.del_vector.proofs.vector.DelVector.epoch_at.Goals as goal

pub returns-in-Some : goal.returns-in-Some
returns-in-Some c =
    let ms : List Mark = c.as_slice-marks.result.now in
    let view : c.self.inside.marks.items ≡ c.args.self.now.marks = ap (λ (v : Vector). v.marks) c.self.view_is in
    let seen : ms ≡ c.self.inside.marks.items = c.as_slice-marks.ensures.value in
    let order : are_marks 0 ms ≡ true = subst (λ (xs : List Mark). are_marks 0 xs ≡ true) (sym seen) c.self.invariant in
    let place = c.place_of.ensures.place in
    let small : place_of c.args.position ms < length ms = subst (λ (k : ℕ). k < length ms) place (ltb-true _ _ (sym c.in-Some.ensures.lookup.0)) in
    let found : c.in-Some.mark.now ≡ get_or ms (place_of c.args.position ms) c.in-Some.mark.now = c.in-Some.ensures.lookup.1 ∙ ap (λ (k : ℕ). get_or ms k c.in-Some.mark.now) place in
    c.at.ensures ∙ ap (λ (m : Mark). epoch_at (m ∷ []) c.args.position) found ∙ sym (at_place 0 c.args.position ms c.in-Some.mark.now order small) ∙ ap (λ (xs : List Mark). epoch_at xs c.args.position) (seen ∙ view)

pub returns-in-None : goal.returns-in-None
returns-in-None c =
    let ms : List Mark = c.as_slice-marks.result.now in
    let view : c.self.inside.marks.items ≡ c.args.self.now.marks = ap (λ (v : Vector). v.marks) c.self.view_is in
    let seen : ms ≡ c.self.inside.marks.items = c.as_slice-marks.ensures.value in
    let order : are_marks 0 ms ≡ true = subst (λ (xs : List Mark). are_marks 0 xs ≡ true) (sym seen) c.self.invariant in
    let place = c.place_of.ensures.place in
    let past : length ms ≤ place_of c.args.position ms = subst (λ (k : ℕ). length ms ≤ k) place (ltb-false _ _ (sym c.in-None.ensures.lookup.0)) in
    sym (no_place 0 c.args.position ms order past) ∙ ap (λ (xs : List Mark). epoch_at xs c.args.position) (seen ∙ view)
