-- Numbers compared as their bits.
use Rattle.std.proofs.Common.{◌≡◌, ℕ, ◌^◌, ◌%◌, ℤ, pos, negsuc, Bool, true, false, cond, [], ◌∷◌, map, refl, sym, ap, ◌∙◌, arith, to_z, of_z, w64, FitsSigned}
use Rattle.std.specs.Prelude.{not}
use Rattle.std.specs.Ordering.{int_cmp, int_eq, is_lt, is_le, is_gt, is_ge}
use Rattle.std.specs.declared.cmp.Ordering.TheVariants.{Less, Equal, Greater}
use Rattle.std.proofs.lemmas.Int.{to_z-of_z}
use Rattle.std.proofs.Common.{inl, inr, eq-eqb, nat_eq}
use Rattle.std.proofs.lemmas.Bool.{cases_Bool, eqb-true}
use Rattle.std.proofs.lemmas.Bool.Decides.{nat_tests, Decides-int_eq}
use Rattle.std.proofs.lemmas.Simd.{bitmask_splat}
use lib.Lanes.{mask_l, zip2, top}
use lib.ListN.{replicate}
use lib.Signed.{lt_z, le_z}
use Rattle.sql_tree.specs.declared.tree.Cmp.{Cmp}
use Rattle.row_bounds.specs.Lanes.{stands_so}

-- ---- the tests of the machine are those of the order

less_is : (n w : ℤ) → lt_z n w ≡ is_lt (int_cmp n w)
less_is n w =
    elim (lt_z n w) as (λ v. v ≡ is_lt (cond v Less (cond (lt_z w n) Greater Equal)))
    [ true ↦ refl | false ↦ elim (lt_z w n) as (λ v. false ≡ is_lt (cond v Greater Equal)) [ true ↦ refl | false ↦ refl ] ]

least_is : (n w : ℤ) → le_z n w ≡ is_le (int_cmp n w)
least_is (pos a) (pos b) = grind (arith, nat_tests)
least_is (pos a) (negsuc b) = refl
least_is (negsuc a) (pos b) = refl
least_is (negsuc a) (negsuc b) = grind (arith, nat_tests)

more_is : (n w : ℤ) → lt_z w n ≡ is_gt (int_cmp n w)
more_is (pos a) (pos b) = grind (arith, nat_tests)
more_is (pos a) (negsuc b) = refl
more_is (negsuc a) (pos b) = refl
more_is (negsuc a) (negsuc b) = grind (arith, nat_tests)

most_is : (n w : ℤ) → le_z w n ≡ is_ge (int_cmp n w)
most_is (pos a) (pos b) = grind (arith, nat_tests)
most_is (pos a) (negsuc b) = refl
most_is (negsuc a) (pos b) = refl
most_is (negsuc a) (negsuc b) = grind (arith, nat_tests)

-- ---- and so are those of bits

pub lt_bits : (w n : ℤ) → FitsSigned w64 w → FitsSigned w64 n → lt_z (to_z w64 (of_z w64 n)) (to_z w64 (of_z w64 w)) ≡ stands_so Cmp.Lt w n
lt_bits w n a b = rw (to_z-of_z w64 n b, to_z-of_z w64 w a) (less_is n w)

pub le_bits : (w n : ℤ) → FitsSigned w64 w → FitsSigned w64 n → le_z (to_z w64 (of_z w64 n)) (to_z w64 (of_z w64 w)) ≡ stands_so Cmp.Le w n
le_bits w n a b = rw (to_z-of_z w64 n b, to_z-of_z w64 w a) (least_is n w)

pub gt_bits : (w n : ℤ) → FitsSigned w64 w → FitsSigned w64 n → lt_z (to_z w64 (of_z w64 w)) (to_z w64 (of_z w64 n)) ≡ stands_so Cmp.Gt w n
gt_bits w n a b = rw (to_z-of_z w64 n b, to_z-of_z w64 w a) (more_is n w)

pub ge_bits : (w n : ℤ) → FitsSigned w64 w → FitsSigned w64 n → le_z (to_z w64 (of_z w64 w)) (to_z w64 (of_z w64 n)) ≡ stands_so Cmp.Ge w n
ge_bits w n a b = rw (to_z-of_z w64 n b, to_z-of_z w64 w a) (most_is n w)

same_bits : (w n : ℤ) → FitsSigned w64 w → FitsSigned w64 n → of_z w64 n ≡ of_z w64 w → n ≡ w
same_bits w n a b e = sym (to_z-of_z w64 n b) ∙ ap (to_z w64) e ∙ to_z-of_z w64 w a

pub eq_bits : (w n : ℤ) → FitsSigned w64 w → FitsSigned w64 n → nat_eq (of_z w64 n) (of_z w64 w) ≡ stands_so Cmp.Eq w n
eq_bits w n a b =
    elim (cases_Bool (nat_eq (of_z w64 n) (of_z w64 w))) [
      | inl t ↦ let same = same_bits w n a b (eqb-true _ _ t) in t ∙ sym ((Decides-int_eq n w).1 same)
      | inr f ↦ elim (cases_Bool (int_eq n w)) [
        | inl t ↦ let same : of_z w64 n ≡ of_z w64 w = ap (of_z w64) ((Decides-int_eq n w).0 t) in absurd (let g : nat_eq (of_z w64 n) (of_z w64 w) ≡ true = eq-eqb _ _ same in cc)
        | inr g ↦ f ∙ sym g
      ]
    ]

pub ne_bits : (w n : ℤ) → FitsSigned w64 w → FitsSigned w64 n → not (nat_eq (of_z w64 n) (of_z w64 w)) ≡ stands_so Cmp.Ne w n
ne_bits w n a b = ap not (eq_bits w n a b)

-- ---- eight lanes

pub masked : (t : ℕ → ℕ → Bool) (y : ℕ) (p : ℤ → Bool) (a b c d e f g h : ℤ)
    → t (of_z w64 a) y ≡ p a → t (of_z w64 b) y ≡ p b → t (of_z w64 c) y ≡ p c → t (of_z w64 d) y ≡ p d → t (of_z w64 e) y ≡ p e → t (of_z w64 f) y ≡ p f → t (of_z w64 g) y ≡ p g → t (of_z w64 h) y ≡ p h
    → mask_l (map (top 63) (zip2 (λ x z. cond (t x z) 18446744073709551615 0) (of_z w64 a ∷ of_z w64 b ∷ of_z w64 c ∷ of_z w64 d ∷ of_z w64 e ∷ of_z w64 f ∷ of_z w64 g ∷ of_z w64 h ∷ []) (replicate 8 y))) % 2 ^ 64
    ≡ mask_l (map p (a ∷ b ∷ c ∷ d ∷ e ∷ f ∷ g ∷ h ∷ []))
masked t y p a b c d e f g h pa pb pc pd pe pf pg ph =
    bitmask_splat w64 t (of_z w64 a ∷ of_z w64 b ∷ of_z w64 c ∷ of_z w64 d ∷ of_z w64 e ∷ of_z w64 f ∷ of_z w64 g ∷ of_z w64 h ∷ []) 8 y refl (omega arith)
    ∙ rw (pa, pb, pc, pd, pe, pf, pg, ph) refl
