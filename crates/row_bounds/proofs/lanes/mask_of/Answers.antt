use Rattle.std.proofs.Common.{[], ◌∷◌, map, ap, sym, ◌∙◌, to_z, of_z, w64}
use Rattle.std.specs.Prelude.{not, nat_eq}
use lib.Lanes.{mask_l}
use lib.Signed.{lt_z, le_z}
use Rattle.sql_tree.specs.declared.tree.Cmp.{Cmp}
use Rattle.row_bounds.specs.Lanes.{stands_so}
use Rattle.row_bounds.proofs.Bits.{masked, eq_bits, ne_bits, lt_bits, le_bits, gt_bits, ge_bits}
use Rattle.row_bounds.proofs.lanes.mask_of.Goals as goal

pub returns-in-Eq : goal.returns-in-Eq
returns-in-Eq k =
    let x = k.args in
    let r = k.ranges in
    masked (λ m n. nat_eq m n) (of_z w64 x.with) (stands_so Cmp.Eq x.with) x.a x.b x.c x.d x.e x.f x.g x.h
    (eq_bits x.with x.a r.with r.a) (eq_bits x.with x.b r.with r.b) (eq_bits x.with x.c r.with r.c) (eq_bits x.with x.d r.with r.d) (eq_bits x.with x.e r.with r.e) (eq_bits x.with x.f r.with r.f) (eq_bits x.with x.g r.with r.g) (eq_bits x.with x.h r.with r.h)
    ∙ ap (λ (o : Cmp). mask_l (map (stands_so o x.with) (x.a ∷ x.b ∷ x.c ∷ x.d ∷ x.e ∷ x.f ∷ x.g ∷ x.h ∷ []))) (sym k.in-Eq.is)

pub returns-in-Ne : goal.returns-in-Ne
returns-in-Ne k =
    let x = k.args in
    let r = k.ranges in
    masked (λ m n. not (nat_eq m n)) (of_z w64 x.with) (stands_so Cmp.Ne x.with) x.a x.b x.c x.d x.e x.f x.g x.h
    (ne_bits x.with x.a r.with r.a) (ne_bits x.with x.b r.with r.b) (ne_bits x.with x.c r.with r.c) (ne_bits x.with x.d r.with r.d) (ne_bits x.with x.e r.with r.e) (ne_bits x.with x.f r.with r.f) (ne_bits x.with x.g r.with r.g) (ne_bits x.with x.h r.with r.h)
    ∙ ap (λ (o : Cmp). mask_l (map (stands_so o x.with) (x.a ∷ x.b ∷ x.c ∷ x.d ∷ x.e ∷ x.f ∷ x.g ∷ x.h ∷ []))) (sym k.in-Ne.is)

pub returns-in-Lt : goal.returns-in-Lt
returns-in-Lt k =
    let x = k.args in
    let r = k.ranges in
    masked (λ m n. lt_z (to_z w64 m) (to_z w64 n)) (of_z w64 x.with) (stands_so Cmp.Lt x.with) x.a x.b x.c x.d x.e x.f x.g x.h
    (lt_bits x.with x.a r.with r.a) (lt_bits x.with x.b r.with r.b) (lt_bits x.with x.c r.with r.c) (lt_bits x.with x.d r.with r.d) (lt_bits x.with x.e r.with r.e) (lt_bits x.with x.f r.with r.f) (lt_bits x.with x.g r.with r.g) (lt_bits x.with x.h r.with r.h)
    ∙ ap (λ (o : Cmp). mask_l (map (stands_so o x.with) (x.a ∷ x.b ∷ x.c ∷ x.d ∷ x.e ∷ x.f ∷ x.g ∷ x.h ∷ []))) (sym k.in-Lt.is)

pub returns-in-Le : goal.returns-in-Le
returns-in-Le k =
    let x = k.args in
    let r = k.ranges in
    masked (λ m n. le_z (to_z w64 m) (to_z w64 n)) (of_z w64 x.with) (stands_so Cmp.Le x.with) x.a x.b x.c x.d x.e x.f x.g x.h
    (le_bits x.with x.a r.with r.a) (le_bits x.with x.b r.with r.b) (le_bits x.with x.c r.with r.c) (le_bits x.with x.d r.with r.d) (le_bits x.with x.e r.with r.e) (le_bits x.with x.f r.with r.f) (le_bits x.with x.g r.with r.g) (le_bits x.with x.h r.with r.h)
    ∙ ap (λ (o : Cmp). mask_l (map (stands_so o x.with) (x.a ∷ x.b ∷ x.c ∷ x.d ∷ x.e ∷ x.f ∷ x.g ∷ x.h ∷ []))) (sym k.in-Le.is)

pub returns-in-Gt : goal.returns-in-Gt
returns-in-Gt k =
    let x = k.args in
    let r = k.ranges in
    masked (λ m n. lt_z (to_z w64 n) (to_z w64 m)) (of_z w64 x.with) (stands_so Cmp.Gt x.with) x.a x.b x.c x.d x.e x.f x.g x.h
    (gt_bits x.with x.a r.with r.a) (gt_bits x.with x.b r.with r.b) (gt_bits x.with x.c r.with r.c) (gt_bits x.with x.d r.with r.d) (gt_bits x.with x.e r.with r.e) (gt_bits x.with x.f r.with r.f) (gt_bits x.with x.g r.with r.g) (gt_bits x.with x.h r.with r.h)
    ∙ ap (λ (o : Cmp). mask_l (map (stands_so o x.with) (x.a ∷ x.b ∷ x.c ∷ x.d ∷ x.e ∷ x.f ∷ x.g ∷ x.h ∷ []))) (sym k.in-Gt.is)

pub returns-in-Ge : goal.returns-in-Ge
returns-in-Ge k =
    let x = k.args in
    let r = k.ranges in
    masked (λ m n. le_z (to_z w64 n) (to_z w64 m)) (of_z w64 x.with) (stands_so Cmp.Ge x.with) x.a x.b x.c x.d x.e x.f x.g x.h
    (ge_bits x.with x.a r.with r.a) (ge_bits x.with x.b r.with r.b) (ge_bits x.with x.c r.with r.c) (ge_bits x.with x.d r.with r.d) (ge_bits x.with x.e r.with r.e) (ge_bits x.with x.f r.with r.f) (ge_bits x.with x.g r.with r.g) (ge_bits x.with x.h r.with r.h)
    ∙ ap (λ (o : Cmp). mask_l (map (stands_so o x.with) (x.a ∷ x.b ∷ x.c ∷ x.d ∷ x.e ∷ x.f ∷ x.g ∷ x.h ∷ []))) (sym k.in-Ge.is)
