-- The rows of chosen containers and of the others.
use Rattle.std.proofs.Common.{◌≡◌, ℕ, ◌+◌, ◌<◌, ◌≤◌, ◌++◌, Bool, true, false, Option, List, [], ◌∷◌, length, refl, sym, ap, ap₂, ◌∙◌, arith, subst, append_assoc}
use Rattle.common_laws.specs.Bags.{SameBag}
use Rattle.common_laws.specs.Maps.{Contents}
use Rattle.common_laws.proofs.BagLaws.{bag_refl, bag_sym, bag_trans, bag_append, count_append}
use Rattle.col_value.specs.declared.row.Stamped.{Stamped}
use Rattle.catalog_types.specs.declared.catalogue.Container.{Container}
use Rattle.ros_container.specs.Encodings.{Written}
use Rattle.stored_rows.specs.Held.{HoldsMarked, HoldsRows, stamped_from}
use Rattle.stored_rows.specs.Stored.{Beside, mark_in, StoresRows}
use Rattle.stored_rows.proofs.OneList.{OneContainer}
use Rattle.merge_rows.specs.Inputs.{chosen, others, replaced}

pub rows_join : (m : Contents) (es : List Written) (ks js : List Container) (xs ys : List Stamped) → HoldsRows m es ks xs → HoldsRows m es js ys → HoldsRows m es (ks ++ js) (xs ++ ys)
rows_join m es [] js xs ys held more_held = subst (λ (zs : List Stamped). HoldsRows m es js (zs ++ ys)) (sym held) more_held
rows_join m es (k ∷ ks) js xs ys (v, here, more, vector, marked, rest, is) more_held =
    (v, here, more ++ ys, vector, marked, rows_join m es ks js more ys rest more_held, ap (λ (zs : List Stamped). zs ++ ys) is ∙ append_assoc here more ys)

-- the front of a bag may go behind the next
pub bag_swap : {X : Type 0} (xs ys zs : List X) → SameBag (xs ++ (ys ++ zs)) (ys ++ (xs ++ zs))
bag_swap xs ys zs = record {
  counts = λ p.
      let a = count_append p xs (ys ++ zs) in
      let b = count_append p ys zs in
      let c = count_append p ys (xs ++ zs) in
      let d = count_append p xs zs in
      omega (arith, a, b, c, d);
}

-- Rows that are stored, parted by flags.
pub record Parted (m : Contents) (es : List Written) (flags : List Bool) (ks : List Container) (bs : List Beside) (rows : List Stamped) : Type 0 where
  pub ins : List Stamped
  pub outs : List Stamped
  pub chosen_are : StoresRows m es (chosen flags ks) (chosen flags bs) ins
  pub others_are : StoresRows m es (others flags ks) (others flags bs) outs
  pub bag : SameBag rows (ins ++ outs)

pub parted : (m : Contents) (es : List Written) (flags : List Bool) (ks : List Container) (bs : List Beside) (rows : List Stamped) → StoresRows m es ks bs rows → Parted m es flags ks bs rows
parted m es [] ks bs rows stores = record { ins = []; outs = rows; chosen_are = refl; others_are = stores; bag = bag_refl rows }
parted m es (f ∷ flags) [] [] rows stores = record { ins = []; outs = []; chosen_are = refl; others_are = refl; bag = subst (λ (xs : List Stamped). SameBag xs []) (sym stores) (bag_refl []) }
parted m es (f ∷ flags) [] (b ∷ bs) rows stores = absurd stores
parted m es (f ∷ flags) (k ∷ ks) [] rows stores = absurd stores
parted m es (true ∷ flags) (k ∷ ks) (b ∷ bs) rows (here, more, vector, marked, rest, is) =
    let p = parted m es flags ks bs more rest in
    record {
      ins = here ++ p.ins;
      outs = p.outs;
      chosen_are = (here, p.ins, vector, marked, p.chosen_are, refl);
      others_are = p.others_are;
      bag = subst (λ (xs : List Stamped). SameBag xs ((here ++ p.ins) ++ p.outs)) (sym is)
          (subst (SameBag (here ++ more)) (sym (append_assoc here p.ins p.outs)) (bag_append here more here (p.ins ++ p.outs) (bag_refl here) p.bag));
    }
parted m es (false ∷ flags) (k ∷ ks) (b ∷ bs) rows (here, more, vector, marked, rest, is) =
    let p = parted m es flags ks bs more rest in
    record {
      ins = p.ins;
      outs = here ++ p.outs;
      chosen_are = p.chosen_are;
      others_are = (here, p.outs, vector, marked, p.others_are, refl);
      bag = subst (λ (xs : List Stamped). SameBag xs (p.ins ++ (here ++ p.outs))) (sym is)
          (bag_trans (here ++ more) (here ++ (p.ins ++ p.outs)) (p.ins ++ (here ++ p.outs)) (bag_append here more here (p.ins ++ p.outs) (bag_refl here) p.bag) (bag_swap here p.ins p.outs));
    }

-- new containers in the place of the chosen ones
pub put_back : (n : Contents) (es : List Written) (flags : List Bool) (made js : List Container) (here outs : List Stamped) → 0 < length (chosen flags js) → HoldsRows n es made here → HoldsRows n es (others flags js) outs
    → (rows : List Stamped) × HoldsRows n es (replaced flags made js) rows × SameBag rows (here ++ outs)
put_back n es [] made js here outs some new old = absurd (omega (arith, some))
put_back n es (f ∷ flags) made [] here outs some new old = absurd (omega (arith, some))
put_back n es (true ∷ flags) made (j ∷ js) here outs some new old = (here ++ outs, rows_join n es made (others flags js) here outs new old, bag_refl (here ++ outs))
put_back n es (false ∷ flags) made (j ∷ js) here outs some new (v, first, more, vector, marked, rest, is) =
    let (rows, held, same) = put_back n es flags made js here more some new rest in (
      first ++ rows,
      (v, first, rows, vector, marked, held, refl),
      subst (λ (xs : List Stamped). SameBag (first ++ rows) (here ++ xs)) (sym is)
          (bag_trans (first ++ rows) (first ++ (here ++ more)) (here ++ (first ++ more)) (bag_append first rows first (here ++ more) (bag_refl first) same) (bag_swap first here more)),
    )

-- ---- one list (private in stored_rows)

one_marked : OneContainer → (m : Contents) (es : List Written) (k : Container) (mark : ℕ → Option ℕ) (xs ys : List Stamped) → HoldsMarked m es k mark xs → HoldsMarked m es k mark ys → xs ≡ ys
one_marked one m es k mark xs ys (asked, held, is) (also, holds, are) = is ∙ ap (stamped_from 0 mark) (one m es k asked also held holds) ∙ sym are

pub one_saved : OneContainer → (m : Contents) (es : List Written) (ks : List Container) (bs : List Beside) (xs ys : List Stamped) → StoresRows m es ks bs xs → StoresRows m es ks bs ys → xs ≡ ys
one_saved same m es [] [] xs ys first second = first ∙ sym second
one_saved same m es [] (b ∷ bs) xs ys first second = absurd first
one_saved same m es (k ∷ ks) [] xs ys first second = absurd first
one_saved same m es (k ∷ ks) (b ∷ bs) xs ys (here, more, vector, marked, rest, is) (also, further, other, marks, others, are) =
    is ∙ ap₂ (λ (x y : List Stamped). x ++ y) (one_marked same m es k (mark_in b) here also marked marks) (one_saved same m es ks bs more further rest others) ∙ sym are
