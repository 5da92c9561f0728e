-- Containers that aren't left out, one after the other.
use Rattle.std.proofs.Common.{◌≡◌, ◌+◌, ◌<◌, ◌≤◌, ◌++◌, not, cond, ℕ, zero, suc, Bool, true, false, List, [], ◌∷◌, length, take, get_or, refl, sym, ◌∙◌, ap, ap₂, subst, arith}
use Rattle.std.specs.Prelude.{Option, IsSomeAnd, slice_index_or}
use Rattle.std.specs.List.{AllZip, slice_get}
use Rattle.std.proofs.lemmas.List.{append-nil, take_more, take_all, length-take-le}
use Rattle.std.proofs.lemmas.Slice.Zip.{AllZip-long}
use Rattle.common_laws.specs.Maps.{Contents}
use Rattle.col_disk.specs.Moved.{Moved, NoName}
use Rattle.col_disk.specs.declared.disk.Disk.{Ghosts}
use Rattle.catalog_types.specs.declared.catalogue.Container.{Container}
use Rattle.ros_container.specs.Encodings.{Written, written_of}
use Rattle.del_vector.specs.declared.mark.Mark.{Mark}
use Rattle.stored_rows.specs.Stored.{Beside, Projected}
use Rattle.proj_store.specs.Sound.{MarksItsRows, IsSound}
use Rattle.container_writer.specs.Writing.{DataFrom}
use Rattle.merge_rows.specs.Inputs.{others}
use Rattle.moveout_job.specs.OnDisk.{IsRemarked, RemarksIf, RemarksEach, SavesOthers, beside}
use Rattle.moveout_job.proofs.Renewed.{each_none, each_more, at_slice, between, rows_below}

abbrev one_if : {X : Type 0} → Bool → X → List X
one_if b x = cond b (x ∷ []) []

-- one more at the end, which flags may leave out
others_last : {X : Type 0} (flags : List Bool) (xs : List X) (x : X) (i : ℕ) → length xs ≡ i → others flags (xs ++ x ∷ []) ≡ others flags xs ++ one_if (not (slice_index_or flags i false)) x
others_last [] xs x i long = refl
others_last {X} (true ∷ flags) [] x zero long = none flags
  where
    none : (fs : List Bool) → others {X = X} fs [] ≡ []
    none [] = refl
    none (f ∷ fs) = refl
others_last {X} (false ∷ flags) [] x zero long = ap (λ (zs : List X). x ∷ zs) (none flags)
  where
    none : (fs : List Bool) → others {X = X} fs [] ≡ []
    none [] = refl
    none (f ∷ fs) = refl
others_last (f ∷ flags) [] x (suc i) long = absurd (omega (arith, long))
others_last (f ∷ flags) (y ∷ xs) x zero long = absurd (omega (arith, long))
others_last (true ∷ flags) (y ∷ xs) x (suc i) long = others_last flags xs x i (omega (arith, long))
others_last {X} (false ∷ flags) (y ∷ xs) x (suc i) long = ap (λ (zs : List X). y ∷ zs) (others_last flags xs x i (omega (arith, long)))

others_take : {X : Type 0} (flags : List Bool) (xs : List X) (x : X) (i : ℕ) → i < length xs → x ≡ get_or xs i x → others flags (take (i + 1) xs) ≡ others flags (take i xs) ++ one_if (not (slice_index_or flags i false)) x
others_take {X} flags xs x i lt is =
    ap (others flags) (take_more xs i x lt ∙ ap (λ (y : X). take i xs ++ y ∷ []) (sym is)) ∙ others_last flags (take i xs) x i (length-take-le i xs (omega (arith, lt)))

nothing_left : {X : Type 0} (flags : List Bool) (xs : List X) → others flags (take 0 xs) ≡ []
nothing_left flags xs = ap (others flags) (none xs) ∙ empty flags
  where
    none : {X : Type 0} (ys : List X) → take 0 ys ≡ []
    none [] = refl
    none (y ∷ ys) = refl

    empty : {X : Type 0} (fs : List Bool) → others {X = X} fs [] ≡ []
    empty [] = refl
    empty (f ∷ fs) = refl

pub others_none : (es : List Written) (next : ℕ) (flags : List Bool) (ks out : List Container) (bs : List Beside) (found : Option Contents) → out ≡ []
    → RemarksEach es next next (others flags (take 0 ks)) (others flags (take 0 bs)) (others flags out) found found
others_none es next flags ks out bs found none =
    subst (λ (xs : List Container). RemarksEach es next next xs (others flags (take 0 bs)) (others flags out) found found) (sym (nothing_left flags ks))
    (subst (λ (cs : List Beside). RemarksEach es next next [] cs (others flags out) found found) (sym (nothing_left flags bs))
    (subst (λ (js : List Container). RemarksEach es next next [] [] js found found) (sym (ap (others flags) none ∙ nothing_left flags [])) (each_none es next found)))

-- of one that is left out the others stay
pub each_skip : (es : List Written) (next after end : ℕ) (ks js : List Container) (bs : List Beside) (k j : Container) (b : Beside) (found mid left : Option Contents) → RemarksEach es next after ks bs js found mid → RemarksIf true after end k b j mid left
    → RemarksEach es next end ks bs js found left
each_skip es next after end ks js bs k j b found mid left was (stays, same) =
    subst (λ (o : Option Contents). RemarksEach es next end ks bs js found o) (sym same) (subst (λ (n : ℕ). RemarksEach es next n ks bs js found mid) (sym stays) was)

pub others_turn : {D : Type 0} (disk : Ghosts D) {old mid new : D} (es : List Written) (next after end i : ℕ) (flags : List Bool) (shown ks js out : List Container) (bs : List Beside) (k j : Container) (held fresh : List Mark) (skip : Bool)
    → shown ≡ ks → i < length shown → i < length bs → length js ≡ i → skip ≡ slice_index_or flags i false
    → k ≡ get_or shown i k → IsSomeAnd (slice_get bs i) (λ b. held ≡ b.held) → IsSomeAnd (slice_get bs i) (λ b. fresh ≡ b.fresh) → out ≡ js ++ j ∷ [] → next ≤ after → after ≤ end
    → Moved disk (DataFrom next) NoName old mid → Moved disk (DataFrom after) NoName mid new → RemarksEach es next after (others flags (take i ks)) (others flags (take i bs)) (others flags js) (disk.holds old) (disk.holds mid)
    → RemarksIf skip after end k (beside held fresh) j (disk.holds mid) (disk.holds new) → RemarksEach es next end (others flags (take (i + 1) ks)) (others flags (take (i + 1) bs)) (others flags out) (disk.holds old) (disk.holds new)
others_turn disk {old} {mid} {new} es next after end i flags shown ks js out bs k j held fresh skip same lt also long skip_is k_is held_is fresh_is out_is le up first second was one =
    let d : Beside = beside held fresh in
    let b : Beside = get_or bs i d in
    let b_is : d ≡ get_or bs i d = ap₂ beside (at_slice (λ c. held ≡ c.held) bs i d held_is) (at_slice (λ c. fresh ≡ c.fresh) bs i d fresh_is) in
    let inside : i < length ks = omega (arith, lt, ap length same) in
    let here : k ≡ get_or ks i k = subst (λ (xs : List Container). k ≡ get_or xs i k) same k_is in
    by skip (others_take flags ks k i inside here ∙ flagged k) (others_take flags bs d i also b_is ∙ flagged_too d) (ap (others flags) out_is ∙ others_last flags js j i long ∙ flagged_out j) one
  where
    flagged : (x : Container) → others flags (take i ks) ++ one_if (not (slice_index_or flags i false)) x ≡ others flags (take i ks) ++ one_if (not skip) x
    flagged x = ap (λ (f : Bool). others flags (take i ks) ++ one_if (not f) x) (sym skip_is)

    flagged_too : (x : Beside) → others flags (take i bs) ++ one_if (not (slice_index_or flags i false)) x ≡ others flags (take i bs) ++ one_if (not skip) x
    flagged_too x = ap (λ (f : Bool). others flags (take i bs) ++ one_if (not f) x) (sym skip_is)

    flagged_out : (x : Container) → others flags js ++ one_if (not (slice_index_or flags i false)) x ≡ others flags js ++ one_if (not skip) x
    flagged_out x = ap (λ (f : Bool). others flags js ++ one_if (not f) x) (sym skip_is)

    by : (f : Bool) → others flags (take (i + 1) ks) ≡ others flags (take i ks) ++ one_if (not f) k → others flags (take (i + 1) bs) ≡ others flags (take i bs) ++ one_if (not f) (beside held fresh) → others flags out ≡ others flags js ++ one_if (not f) j
        → RemarksIf f after end k (beside held fresh) j (disk.holds mid) (disk.holds new) → RemarksEach es next end (others flags (take (i + 1) ks)) (others flags (take (i + 1) bs)) (others flags out) (disk.holds old) (disk.holds new)
    by true ks_are bs_are js_are skipped =
        subst (λ (xs : List Container). RemarksEach es next end xs (others flags (take (i + 1) bs)) (others flags out) (disk.holds old) (disk.holds new)) (sym (ks_are ∙ append-nil (others flags (take i ks))))
        (subst (λ (cs : List Beside). RemarksEach es next end (others flags (take i ks)) cs (others flags out) (disk.holds old) (disk.holds new)) (sym (bs_are ∙ append-nil (others flags (take i bs))))
        (subst (λ (ys : List Container). RemarksEach es next end (others flags (take i ks)) (others flags (take i bs)) ys (disk.holds old) (disk.holds new)) (sym (js_are ∙ append-nil (others flags js)))
        (each_skip es next after end (others flags (take i ks)) (others flags js) (others flags (take i bs)) k j (beside held fresh) (disk.holds old) (disk.holds mid) (disk.holds new) was skipped)))
    by false ks_are bs_are js_are marked =
        subst (λ (xs : List Container). RemarksEach es next end xs (others flags (take (i + 1) bs)) (others flags out) (disk.holds old) (disk.holds new)) (sym ks_are)
        (subst (λ (cs : List Beside). RemarksEach es next end (others flags (take i ks) ++ k ∷ []) cs (others flags out) (disk.holds old) (disk.holds new)) (sym bs_are)
        (subst (λ (ys : List Container). RemarksEach es next end (others flags (take i ks) ++ k ∷ []) (others flags (take i bs) ++ beside held fresh ∷ []) ys (disk.holds old) (disk.holds new)) (sym js_are)
        (each_more disk es next after end (others flags (take i ks)) (others flags js) (others flags (take i bs)) k j (beside held fresh) le up first second was marked)))

pub remarked_long : (next after i : ℕ) (ks js : List Container) → i ≤ length ks → AllZip (IsRemarked next after) (take i ks) js → length js ≡ i
remarked_long next after i ks js le each = AllZip-long (IsRemarked next after) (take i ks) js each ∙ length-take-le i ks le

pub others_all : (es : List Written) (next after i : ℕ) (flags : List Bool) (shown js : List Container) (p : Projected) (found left : Option Contents) → shown ≡ p.entry.containers → IsSound p.entry p.beside → length shown ≤ i
    → RemarksEach es next after (others flags (take i p.entry.containers)) (others flags (take i p.beside)) (others flags js) found left → RemarksEach es next after (others flags p.entry.containers) (others flags p.beside) (others flags js) found left
others_all es next after i flags shown js p found left same sound done each =
    let past : length p.entry.containers ≤ i = omega (arith, done, ap length same) in
    let also : length p.beside ≤ i = omega (arith, done, ap length same, AllZip-long MarksItsRows p.entry.containers p.beside sound.kept) in
    subst (λ (ks : List Container). RemarksEach es next after ks (others flags p.beside) (others flags js) found left) (ap (others flags) (take_all i p.entry.containers past))
    (subst (λ (bs : List Beside). RemarksEach es next after (others flags (take i p.entry.containers)) bs (others flags js) found left) (ap (others flags) (take_all i p.beside also)) each)

-- what they stored they hold, also after the rows in memory were written
pub saves_others : {D : Type 0} (disk : Ghosts D) {old mid new : D} (next after : ℕ) (flags : List Bool) (p : Projected) (js : List Container) → RemarksEach (written_of p.entry) next after (others flags p.entry.containers) (others flags p.beside) (others flags js) (disk.holds old) (disk.holds mid)
    → Moved disk (DataFrom after) NoName mid new → SavesOthers next flags p js (disk.holds old) (disk.holds new)
saves_others disk next after flags p js each second m n told left below rows stores =
    let (l, told_l, held) = each m rows told below stores in
    rows_below l n (written_of p.entry) (others flags js) rows after held.below (between disk l n told_l left second) held.held
