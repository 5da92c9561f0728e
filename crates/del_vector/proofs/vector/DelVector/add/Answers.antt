use Rattle.std.proofs.Common.{◌≡◌, ◌∙◌, sym, ap, subst, arith, true, None, List}
use Rattle.del_vector.specs.declared.mark.Mark.{Mark}
use Rattle.del_vector.specs.Marks.{Vector, are_marks, epoch_at, with_mark, place_of}
use Rattle.del_vector.proofs.Places.{marks_with, added}
use Rattle.del_vector.proofs.vector.DelVector.add.Goals as goal

pub invariant_of-self : goal.invariant_of-self
invariant_of-self c =
    let n : Mark = record { position = c.args.position; epoch = c.args.epoch } in
    let view : c.args.self.now.marks ≡ c.self.inside.marks.items = sym (ap (λ (v : Vector). v.marks) c.self.view_is) in
    let seen : c.as_slice.result.now ≡ c.self.inside.marks.items = c.as_slice.ensures.value in
    let place : c.place_of-place.result ≡ place_of c.args.position c.self.inside.marks.items = c.place_of-place.ensures.place ∙ ap (place_of c.args.position) seen in
    let all : c.insert-room.new.self.items ≡ with_mark n c.self.inside.marks.items = added n c.self.inside.marks.items c.place_of-place.result _ _ c.insert-room.ensures.items (c.insert-room.ensures.succeeds (omega (arith, ap (λ (v : Vector). v.spare) c.self.view_is))) place in
    let free : epoch_at c.self.inside.marks.items c.args.position ≡ None = subst (λ (ms : List Mark). epoch_at ms c.args.position ≡ None) view c.requires.undeleted in
    subst (λ (ms : List Mark). are_marks 0 ms ≡ true) (sym all) (marks_with 0 n c.self.inside.marks.items c.self.invariant (omega arith) c.requires.epoch free)

pub returns-clause-marks : goal.returns-clause-marks
returns-clause-marks c =
    let n : Mark = record { position = c.args.position; epoch = c.args.epoch } in
    let view : c.args.self.now.marks ≡ c.self.inside.marks.items = sym (ap (λ (v : Vector). v.marks) c.self.view_is) in
    let seen : c.as_slice.result.now ≡ c.self.inside.marks.items = c.as_slice.ensures.value in
    let place : c.place_of-place.result ≡ place_of c.args.position c.self.inside.marks.items = c.place_of-place.ensures.place ∙ ap (place_of c.args.position) seen in
    added n c.self.inside.marks.items c.place_of-place.result _ _ c.insert-room.ensures.items (c.insert-room.ensures.succeeds (omega (arith, ap (λ (v : Vector). v.spare) c.self.view_is))) place ∙ sym (ap (with_mark n) view)
