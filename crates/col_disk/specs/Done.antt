-- The laws of what a crash may leave of a disk in memory.
use Rattle.std.proofs.Common.{inl, inr, refl, sym, subst, ap, arith, ◌∙◌}
use Rattle.std.proofs.lemmas.Bool.Decides.{nat_tests}
use Rattle.std.specs.Prelude.{Bool, true, false, nat_le, ◌≡◌, ◌⊎◌, ℕ, ◌+◌, ◌≤◌, ◌<◌, List, [], ◌∷◌, ◌++◌, length, take, Option, Some}
use Rattle.std.proofs.lemmas.List.{take_all, take-append-le, length-append}
use Rattle.std.specs.FinMap.{empty, insert, remove}
use Rattle.common_laws.specs.Maps.{Contents}
use Rattle.col_disk.specs.Calls.{Elsewhere, GoneOrKept}
use Rattle.col_disk.specs.Written.{insert_elsewhere}
use Rattle.col_disk.specs.declared.did.Did.{Did}
use Rattle.col_disk.specs.declared.did.Did.TheVariants.{Placed, Wrote, Removed, Kept, Synced}
use Rattle.col_disk.specs.Dids.{after, replayed, Then, Images, contents_of, ImagesOf, ImagesSince}

shown_then : (m : Contents) (before : Contents → Type 0) (did : Did) → before m → Then m before did (after m did)
shown_then m before (Placed name bytes) is = (m, is, refl)
shown_then m before (Wrote name bytes) is = (m, is, insert_elsewhere m name bytes)
shown_then m before (Removed name) is = (m, is, inl refl)
shown_then m before (Kept name) is = (m, is, inr refl)
shown_then m before Synced is = refl

shown : (m : Contents) (before : Contents → Type 0) (dids : List Did) → before m → Images m before dids (replayed m dids)
shown m before [] is = is
shown m before (did ∷ more) is = shown (after m did) (Then m before did) more (shown_then m before did is)

pub replayed_more : (m : Contents) (dids : List Did) (did : Did) → replayed m (dids ++ did ∷ []) ≡ after (replayed m dids) did
replayed_more m [] did = refl
replayed_more m (d ∷ dids) did = replayed_more (after m d) dids did

-- the images after one thing more
pub images_more : (m : Contents) (before : Contents → Type 0) (dids : List Did) (did : Did) (c : Contents) → Images m before (dids ++ did ∷ []) c → Then (replayed m dids) (Images m before dids) did c
images_more m before [] did c is = is
images_more m before (d ∷ dids) did c is = images_more (after m d) (Then m before d) dids did c is

pub now_shown : (dids : List Did) → ImagesOf dids (contents_of dids)
now_shown dids = shown empty (λ m. m ≡ empty) dids refl

-- what may be left now, since now
pub at_last : (dids : List Did) (c : Contents) → ImagesOf dids c → ImagesSince dids (length dids) c
at_last dids c is = (length dids, omega arith, omega arith, subst (λ (ds : List Did). ImagesOf ds c) (sym (take_all (length dids) dids (omega arith))) is)

pub at_now : (dids : List Did) (c : Contents) → ImagesSince dids (length dids) c → ImagesOf dids c
at_now dids c (k, le, within, is) = subst (λ (ds : List Did). ImagesOf ds c) (take_all k dids (omega (arith, le))) is

pub last_shown : (dids : List Did) (m : Contents) → ◌≡◌ {A = Option Contents} (Some (contents_of dids)) (Some m) → ImagesSince dids (length dids) m
last_shown dids m told = let same : contents_of dids ≡ m = cc in at_last dids m (subst (ImagesOf dids) same (now_shown dids))

pub earlier_reached : (dids : List Did) (t u : ℕ) (c : Contents) → t ≤ u → ImagesSince dids u c → ImagesSince dids t c
earlier_reached dids t u c le (k, from, within, is) = (k, omega (arith, le, from), within, is)

-- since an earlier moment, after one thing more: as before, or now
pub since_more : (dids : List Did) (did : Did) (t : ℕ) (c : Contents) → t ≤ length dids → ImagesSince (dids ++ did ∷ []) t c → ImagesSince dids t c ⊎ ImagesSince (dids ++ did ∷ []) (length (dids ++ did ∷ [])) c
since_more dids did t c le (k, from, within, is) = by (le_or k (length dids))
  where
    le_or : (a b : ℕ) → (a ≤ b) ⊎ (b < a)
    le_or a b = known (nat_le a b) refl
      where
        known : (t : Bool) → nat_le a b ≡ t → (a ≤ b) ⊎ (b < a)
        known true is = inl (grind (arith, nat_tests))
        known false is = inr (grind (arith, nat_tests))

    by : (k ≤ length dids) ⊎ (length dids < k) → ImagesSince dids t c ⊎ ImagesSince (dids ++ did ∷ []) (length (dids ++ did ∷ [])) c
    by (inl small) = inl (k, from, small, subst (λ (ds : List Did). ImagesOf ds c) (take-append-le k dids (did ∷ []) small) is)
    by (inr great) = inr (k, omega (arith, great, length-append dids (did ∷ [])), within, is)
