-- What a catalogue has no use for, and what is left when that is gone.
use Rattle.std.proofs.Common.{◌≡◌, ℕ, ◌+◌, ◌/◌, ◌%◌, ◌^◌, ◌<◌, ◌≤◌, Bool, true, false, List, length, get_or, refl, sym, ◌∙◌, ap, subst, inl, inr, arith}
use Rattle.std.specs.Prelude.{◌⊎◌, ◌↔◌, Option, Some, None, IsSome, Result, Ok, Err, OnOk, IsTrue, not, Contains}
use Rattle.std.specs.Option.{option_map}
use Rattle.std.specs.FinMap.{get, remove}
use Rattle.std.specs.List.{All}
use Rattle.std.specs.List.Sorted.{IsPermutation}
use Rattle.std.proofs.lemmas.List.Elements.{All-contains}
use Rattle.std.proofs.Math.Dec.{eqb}
use Rattle.std.proofs.lemmas.Bool.Decides.{eqb_tells}
use Rattle.std.proofs.lemmas.List.{get_or_default}
use Rattle.std.proofs.lemmas.List.Sorted.{Contains-permutation, IsPermutation-sym}
use Rattle.common_laws.specs.Maps.{Contents}
use Rattle.col_disk.specs.Calls.{Stepped, RemoveLeaves, AnswersNames}
use Rattle.col_disk.specs.declared.disk.DiskFault.{DiskFault}
use Rattle.col_disk.specs.Moved.{Changed, NoName}
use Rattle.col_disk.proofs.Moving.{remove_there}
use Rattle.catalog_types.specs.declared.catalogue.Catalogue.{Catalogue}
use Rattle.catalog_root.specs.Root.{data_file, body_file, gate_file, IsRoot}
use Rattle.catalog_root.specs.Listed.{IsListed, HasNoUse, IsUnlisted, IsSwept, listed_numbers}
use Rattle.catalog_root.proofs.Roots.{root_kept}
use Rattle.catalog_root.proofs.Listings.{listed}

-- the catalogue's own gate and body, and the files that it lists, are of use
pub gate_used : (version : ℕ) (c : Catalogue) → IsUnlisted version c (gate_file version) → ⊥
gate_used version c (inl (n, is, h)) = omega (arith, is)
gate_used version c (inr (v, other, inl is)) = omega (arith, is)
gate_used version c (inr (v, other, inr is)) = other (omega (arith, is))

pub body_used : (version : ℕ) (c : Catalogue) → IsUnlisted version c (body_file version) → ⊥
body_used version c (inl (n, is, h)) = omega (arith, is)
body_used version c (inr (v, other, inl is)) = other (omega (arith, is))
body_used version c (inr (v, other, inr is)) = omega (arith, is)

pub listed_used : (version : ℕ) (c : Catalogue) (n : ℕ) → IsListed c n → IsUnlisted version c (data_file n) → ⊥
listed_used version c n lists (inl (k, is, h)) = let same : n ≡ k = omega (arith, is) in h (subst (IsListed c) same lists)
listed_used version c n lists (inr (v, other, inl is)) = omega (arith, is)
listed_used version c n lists (inr (v, other, inr is)) = omega (arith, is)

-- a cleaned disk opens to the same
pub cleaned_root : (version : ℕ) (c : Catalogue) (m n : Contents) → Changed NoName (IsUnlisted version c) m n → IsRoot m version c → IsRoot n version c
cleaned_root version c m n changed root =
    root_kept NoName (IsUnlisted version c) m n version c changed (λ w is. is) (λ is. is) (gate_used version c) (body_used version c) root

-- a data file
pub data_no_use : (version name : ℕ) (numbers : List ℕ) (b : Bool) → name % 4 ≡ 0 → (IsTrue b ↔ Contains numbers (name / 4)) → IsTrue (not b) ↔ HasNoUse version (Contains numbers) name
data_no_use version name numbers b test is = (to b is, back b is)
  where
    to : (b : Bool) → (IsTrue b ↔ Contains numbers (name / 4)) → IsTrue (not b) → HasNoUse version (Contains numbers) name
    to true is e = absurd cc
    to false is e = inl (name / 4, omega (arith, test), λ c. let t = is.1 c in absurd cc)

    back : (b : Bool) → (IsTrue b ↔ Contains numbers (name / 4)) → HasNoUse version (Contains numbers) name → IsTrue (not b)
    back false is h = refl
    back true is (inl (n, file, h)) = let same : name / 4 ≡ n = omega (arith, file) in absurd (h (subst (Contains numbers) same (is.0 refl)))
    back true is (inr (v, other, inl file)) = absurd (omega (arith, file, test))
    back true is (inr (v, other, inr file)) = absurd (omega (arith, file, test))

-- a body or a gate
pub other_no_use : (version name : ℕ) (numbers : List ℕ) → (name % 4 ≡ 0 → ⊥) → (name % 4 ≡ 3 → ⊥) → IsTrue (not (eqb (name / 4) version)) ↔ HasNoUse version (Contains numbers) name
other_no_use version name numbers none three = (to (eqb_tells (name / 4) version), back (eqb_tells (name / 4) version))
  where
    file : ((eqb (name % 4) 1 ≡ true) × (name % 4 ≡ 1)) ⊎ ((eqb (name % 4) 1 ≡ false) × (name % 4 ≡ 1 → ⊥)) → (name ≡ body_file (name / 4)) ⊎ (name ≡ gate_file (name / 4))
    file (inl (t, e)) = inl (omega (arith, e))
    file (inr (t, e)) = inr (omega (arith, e, none, three))

    to : ((eqb (name / 4) version ≡ true) × (name / 4 ≡ version)) ⊎ ((eqb (name / 4) version ≡ false) × (name / 4 ≡ version → ⊥)) → IsTrue (not (eqb (name / 4) version)) → HasNoUse version (Contains numbers) name
    to (inl (t, same)) e = absurd cc
    to (inr (t, differs)) e = inr (name / 4, differs, file (eqb_tells (name % 4) 1))

    back : ((eqb (name / 4) version ≡ true) × (name / 4 ≡ version)) ⊎ ((eqb (name / 4) version ≡ false) × (name / 4 ≡ version → ⊥)) → HasNoUse version (Contains numbers) name → IsTrue (not (eqb (name / 4) version))
    back (inr (t, differs)) h = ap not t
    back (inl (t, same)) (inl (n, is, h)) = absurd (none (omega (arith, is)))
    back (inl (t, same)) (inr (v, other, inl is)) = absurd (other (omega (arith, is, same)))
    back (inl (t, same)) (inr (v, other, inr is)) = absurd (other (omega (arith, is, same)))

-- a name that was removed is absent
pub after_remove : (name : ℕ) (old new : Option Contents) → new ≡ option_map (λ (m : Contents). remove m name) old → (m : Contents) → new ≡ Some m → get m name ≡ None
after_remove name None new is m told = let both : ◌≡◌ {A = Option Contents} None (Some m) = sym is ∙ told in absurd cc
after_remove name (Some old) new is m told =
    let both : ◌≡◌ {A = Option Contents} (Some (remove old name)) (Some m) = sym is ∙ told in
    let same : remove old name ≡ m = cc in
    subst (λ (c : Contents). get c name ≡ None) same (remove_there old name)

pub gone_if_ok : (name : ℕ) (result : Result (Unit {0}) DiskFault) (old new : Option Contents) (R : Type 0) → RemoveLeaves name old new result
    → OnOk result ((m : Contents) → new ≡ Some m → R → get m name ≡ None)
gone_if_ok name (Ok done) old new R is = λ m told r. after_remove name old new is m told
gone_if_ok name (Err fault) old new R is = tt

-- what was gone stays so
stays_gone : (R : ℕ → Type 0) (m n : Contents) (q : ℕ) → Changed NoName R m n → get m q ≡ None → get n q ≡ None
stays_gone R m n q changed gone = known (changed q (λ is. is))
  where
    known : (get n q ≡ get m q) ⊎ (R q × (get n q ≡ None)) → get n q ≡ None
    known (inl same) = same ∙ gone
    known (inr (r, now)) = now

-- contents that are told were told before
told_before : (P : Contents → Contents → Type 0) (old new : Option Contents) (n : Contents) → new ≡ Some n → Stepped P old new → (m : Contents) × (old ≡ Some m) × P m n
told_before P old new n told step = there old (subst (λ (o : Option Contents). Stepped P old o) told step)
  where
    there : (o : Option Contents) → Stepped P o (Some n) → (m : Contents) × (o ≡ Some m) × P m n
    there (Some m) taken = (m, refl, taken)
    there None taken = absurd taken

-- of the names before a place, those to remove are gone
abbrev pub GoneBefore : (ℕ → Type 0) → List ℕ → ℕ → Option Contents → Type 0
GoneBefore R names i holds = (m : Contents) → holds ≡ Some m → (j : ℕ) → j < i → R (get_or names j 0) → get m (get_or names j 0) ≡ None

pub gone_more : (R : ℕ → Type 0) (names : List ℕ) (i : ℕ) (old new : Option Contents) → Stepped (Changed NoName R) old new
    → ((m : Contents) → new ≡ Some m → R (get_or names i 0) → get m (get_or names i 0) ≡ None) → GoneBefore R names i old → GoneBefore R names (i + 1) new
gone_more R names i old new step this before n told j lt r = known (eqb_tells j i)
  where
    known : ((eqb j i ≡ true) × (j ≡ i)) ⊎ ((eqb j i ≡ false) × (j ≡ i → ⊥)) → get n (get_or names j 0) ≡ None
    known (inl (t, same)) = subst (λ (k : ℕ). R (get_or names k 0) → get n (get_or names k 0) ≡ None) (sym same) (this n told) r
    known (inr (t, differs)) = let b = told_before (Changed NoName R) old new n told step in
        stays_gone R b.0 n (get_or names j 0) b.2 (before b.0 b.1 j (omega (arith, lt, differs)) r)

pub gone_all : (R : ℕ → Type 0) (names : List ℕ) (i : ℕ) (holds : Option Contents) → length names ≤ i → GoneBefore R names i holds
    → (m : Contents) → holds ≡ Some m → (q : ℕ) → Contains names q → R q → get m q ≡ None
gone_all R names i holds all before m told q (k, lt, is) r =
    let at : get_or names k 0 ≡ q = get_or_default names k 0 q lt ∙ is in
    subst (λ (x : ℕ). R x → get m x ≡ None) at (before m told k (omega (arith, all, lt))) r

-- each name is that of a file
pub names_fit : (names : List ℕ) → ((i : ℕ) → get_or names i 0 < 2 ^ 64) → All (λ q. q < 2 ^ 64) names
names_fit names fits k d lt = subst (λ (q : ℕ). q < 2 ^ 64) (get_or_default names k 0 d lt) (fits k)

-- by the sorted numbers, and by the catalogue
pub swept_unlisted : (version : ℕ) (c : Catalogue) (numbers : List ℕ) → IsPermutation (listed_numbers c) numbers → (q : ℕ) → IsSwept version numbers q → IsUnlisted version c q
swept_unlisted version c numbers same q (small, inl (n, is, h)) =
    inl (n, is, λ lists. h (Contains-permutation (listed_numbers c) numbers n same ((listed c n (omega (arith, small, is))).1 lists)))
swept_unlisted version c numbers same q (small, inr other) = inr other

unlisted_swept : (version : ℕ) (c : Catalogue) (numbers : List ℕ) → IsPermutation (listed_numbers c) numbers → (q : ℕ) → q < 2 ^ 64 → IsUnlisted version c q → IsSwept version numbers q
unlisted_swept version c numbers same q small (inl (n, is, h)) =
    (small, inl (n, is, λ has. h ((listed c n (omega (arith, small, is))).0 (Contains-permutation numbers (listed_numbers c) n (IsPermutation-sym (listed_numbers c) numbers same) has))))
unlisted_swept version c numbers same q small (inr other) = (small, inr other)

-- all is gone that has no use: a name that was there was swept, and no other came
pub all_gone : (version : ℕ) (c : Catalogue) (numbers names : List ℕ) (old new : Option Contents) → IsPermutation (listed_numbers c) numbers
    → All (λ q. q < 2 ^ 64) names → AnswersNames old names → Stepped (Changed NoName (IsSwept version numbers)) old new
    → ((m : Contents) → new ≡ Some m → (q : ℕ) → Contains names q → IsSwept version numbers q → get m q ≡ None)
    → (m : Contents) → new ≡ Some m → (q : ℕ) → IsUnlisted version c q → get m q ≡ None
all_gone version c numbers names old new same small answer step gone n told q useless = known (get m q) refl
  where
    b : (m : Contents) × (old ≡ Some m) × Changed NoName (IsSwept version numbers) m n
    b = told_before (Changed NoName (IsSwept version numbers)) old new n told step

    m : Contents
    m = b.0

    fits : Contains names q → q < 2 ^ 64
    fits has = All-contains (λ (x : ℕ). x < 2 ^ 64) names q small has

    known : (held : Option (List ℕ)) → get b.0 q ≡ held → get n q ≡ None
    known None e = stays_gone (IsSwept version numbers) b.0 n q b.2 e
    known (Some bytes) e =
        let has = ((answer b.0 b.1).there q).1 (subst IsSome (sym e) refl) in
        gone n told q has (unlisted_swept version c numbers same q (fits has) useless)
