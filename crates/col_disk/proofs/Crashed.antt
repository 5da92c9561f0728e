-- What is done again after a crash is an image.
use Rattle.std.proofs.Common.{◌≡◌, ℕ, Bool, true, false, List, [], ◌∷◌, ◌++◌, refl, sym, subst, ap, ap₂, ◌∙◌, inl, inr, suc, arith}
use Rattle.std.specs.Prelude.{take, drop, length, ◌+◌, ◌<◌, ◌⊎◌}
use Rattle.std.specs.List.{All}
use Rattle.std.proofs.lemmas.List.{take-append-drop}
use Rattle.std.proofs.lemmas.List.Elements.{All-head, All-tail}
use Rattle.std.proofs.Math.Seq.{drop-cons}
use Rattle.std.proofs.Math.ListN.{get_or}
use Rattle.std.specs.FinMap.{empty}
use Rattle.common_laws.specs.Maps.{Contents}
use Rattle.col_disk.specs.declared.did.Did.{Did}
use Rattle.col_disk.specs.declared.did.Did.TheVariants.{Placed, Wrote, Removed, Kept, Synced}
use Rattle.col_disk.specs.Dids.{after, replayed, Then, Images, ImagesOf, contents_of}
use Rattle.col_disk.specs.Done.{now_shown, replayed_more}
use Rattle.col_disk.specs.Memory.{Memory, held_by}
use Rattle.col_disk.specs.Crashing.{is_sync, StepTo, StepsTo}

then_of : (m : Contents) (before : Contents → Type 0) (did : Did) (d e : Contents) → is_sync did ≡ false → before d → StepTo did d e → Then m before did e
then_of m before (Placed name bytes) d e not is step = (d, is, step)
then_of m before (Wrote name bytes) d e not is step = (d, is, step)
then_of m before (Removed name) d e not is step = (d, is, step)
then_of m before (Kept name) d e not is step = (d, is, step)
then_of m before Synced d e not is step = absurd cc

steps_images : (m : Contents) (before : Contents → Type 0) (late : List Did) (d c : Contents) → All (λ x. is_sync x ≡ false) late → before d → StepsTo late d c → Images m before late c
steps_images m before [] d c nots is same = subst before (sym same) is
steps_images m before (did ∷ more) d c nots is (e, step, rest) =
    steps_images (after m did) (Then m before did) more e c (All-tail (λ x. is_sync x ≡ false) did more nots)
    (then_of m before did d e (All-head (λ x. is_sync x ≡ false) did more nots) is step) rest

images_append : (m : Contents) (before : Contents → Type 0) (early late : List Did) (c : Contents) → Images (replayed m early) (Images m before early) late c → Images m before (early ++ late) c
images_append m before [] late c is = is
images_append m before (did ∷ early) late c is = images_append (after m did) (Then m before did) early late c is

pub crashed : (dids : List Did) (k : ℕ) (c : Contents) → All (λ x. is_sync x ≡ false) (drop k dids) → StepsTo (drop k dids) (contents_of (take k dids)) c → ImagesOf dids c
crashed dids k c nots steps =
    subst (λ (ds : List Did). ImagesOf ds c) (take-append-drop k dids)
    (images_append empty (λ m. m ≡ empty) (take k dids) (drop k dids) c
    (steps_images (contents_of (take k dids)) (ImagesOf (take k dids)) (drop k dids) (contents_of (take k dids)) c nots (now_shown (take k dids)) steps))

-- one thing more is done again
pub steps_more : (dids : List Did) (i : ℕ) (did : Did) → i < length dids → did ≡ get_or dids i did → (d e c : Contents) → StepTo did d e → StepsTo (drop (i + 1) dids) e c → StepsTo (drop i dids) d c
steps_more dids i did lt is d e c step steps =
    subst (λ (ds : List Did). StepsTo ds d c) (sym front) (e, step, steps)
  where
    next : suc i ≡ i + 1
    next = omega arith

    front : drop i dids ≡ did ∷ drop (i + 1) dids
    front = drop-cons dids i did lt ∙ ap₂ (λ (x : Did) (n : ℕ). x ∷ drop n dids) (sym is) next

pub split_image : (dids early late : List Did) (k : ℕ) (first last : Contents) → early ≡ take k dids → late ≡ drop k dids → All (λ x. is_sync x ≡ false) (drop k dids)
    → first ≡ contents_of early → StepsTo late first last → ImagesOf dids last
split_image dids early late k first last front back nots is steps =
    crashed dids k last nots
    (subst (λ (ds : List Did). StepsTo ds (contents_of (take k dids)) last) back (subst (λ (m : Contents). StepsTo late m last) (is ∙ ap contents_of front) steps))

-- a sync changes no contents
pub held_settled : (old new : Memory) → (new ≡ old) ⊎ (new ≡ record old { done = old.done ++ Synced ∷ [] }) → held_by new ≡ held_by old
held_settled old new (inl is) = ap (λ (d : Memory). held_by d) is
held_settled old new (inr is) = ap (λ (d : Memory). held_by d) is ∙ replayed_more empty old.done Synced
