-- The first of joined lists, and walks over them.
use Rattle.std.proofs.Common.{◌≡◌, ℕ, ◌+◌, ◌<◌, ◌≤◌, List, [], ◌∷◌, ◌++◌, length, take, drop, get_or, sym, ap, subst, ◌∙◌, append_assoc}
use Rattle.std.specs.Prelude.{Option, Result, Ok, Err}
use Rattle.std.specs.List.{All, flat_map}
use Rattle.std.proofs.lemmas.List.{append-nil, take_all, take_more, take-append-drop, drop_more}
use Rattle.std.proofs.lemmas.Grind.{flat_map-append}
use Rattle.std.proofs.lemmas.List.Elements.{All-nil, All-append, All-contains}
use Rattle.common_laws.specs.Maps.{Contents}
use Rattle.col_disk.specs.declared.disk.StoreFault.{StoreFault}
use Rattle.col_disk.specs.declared.disk.StoreFault.TheVariants.{Disk, Damaged, Memory}
use Rattle.audit_model.specs.First.{IsFirst}
use Rattle.audit_model.specs.Listed.{File, IsSpelled}
use Rattle.audit_files.specs.Walks.{HasFirst, Faults, Judges}

-- the first of a list is that of the list with more behind it
first_left : {X : Type 0} (P : X → Type 0) (xs ys : List X) (x : X) → IsFirst P xs x → IsFirst P (xs ++ ys) x
first_left P xs ys x first = record {
  before = first.before;
  after = first.after ++ ys;
  is = ap (λ zs. zs ++ ys) first.is ∙ append_assoc first.before (x ∷ first.after) ys;
  good = first.good;
  bad = first.bad;
}

-- and that of a list behind one of which all have the property
first_right : {X : Type 0} (P : X → Type 0) (xs ys : List X) (y : X) → All P xs → IsFirst P ys y → IsFirst P (xs ++ ys) y
first_right P xs ys y all first = record {
  before = xs ++ first.before;
  after = first.after;
  is = ap (λ zs. xs ++ zs) first.is ∙ sym (append_assoc xs first.before (y ∷ first.after));
  good = All-append P xs first.before all first.good;
  bad = first.bad;
}

named_left : (m : Contents) (xs ys : List File) (name : ℕ) → HasFirst m xs name → HasFirst m (xs ++ ys) name
named_left m xs ys name has = record { file = has.file; first = first_left (IsSpelled m) xs ys has.file has.first; named = has.named }

named_right : (m : Contents) (xs ys : List File) (name : ℕ) → All (IsSpelled m) xs → HasFirst m ys name → HasFirst m (xs ++ ys) name
named_right m xs ys name all has = record { file = has.file; first = first_right (IsSpelled m) xs ys has.file all has.first; named = has.named }

-- a walk that stopped in the first list
pub stopped_left : (holds : Option Contents) (xs ys : List File) (fault : StoreFault) → Faults holds xs fault → Faults holds (xs ++ ys) fault
stopped_left holds xs ys Disk given = tt
stopped_left holds xs ys (Damaged name) given = λ m told. named_left m xs ys name (given m told)
stopped_left holds xs ys Memory given = tt

-- a walk that went through the first list, over a disk that tells the same since
pub stopped_right : (holds now : Option Contents) (xs ys : List File) (fault : StoreFault) → now ≡ holds → Judges holds xs (Ok tt) → Faults now ys fault → Faults holds (xs ++ ys) fault
stopped_right holds now xs ys Disk same all given = tt
stopped_right holds now xs ys (Damaged name) same all given = λ m told. named_right m xs ys name (all m told) (given m (same ∙ told))
stopped_right holds now xs ys Memory same all given = tt

pub judged_right : (holds now : Option Contents) (xs ys : List File) (r : Result (Unit {0}) StoreFault) → now ≡ holds → Judges holds xs (Ok tt) → Judges now ys r → Judges holds (xs ++ ys) r
judged_right holds now xs ys (Ok done) same all given = λ m told. All-append (IsSpelled m) xs ys (all m told) (given m (same ∙ told))
judged_right holds now xs ys (Err fault) same all given = stopped_right holds now xs ys fault same all given

-- ---- walks over the files of each of a list

pub at_place : {X : Type 0} (P : X → Type 0) (xs : List X) (i : ℕ) (x : X) → i < length xs → x ≡ get_or xs i x → All P xs → P x
at_place P xs i x lt is all = All-contains P xs x all (i, lt, sym is)

pub walk_more : {X : Type 0} (f : X → List File) (xs : List X) (i : ℕ) (x : X) (holds now : Option Contents) → i < length xs → x ≡ get_or xs i x → now ≡ holds → Judges holds (flat_map f (take i xs)) (Ok tt) → Judges now (f x) (Ok tt)
    → Judges holds (flat_map f (take (i + 1) xs)) (Ok tt)
walk_more {X} f xs i x holds now lt is same before here =
    let front : take (i + 1) xs ≡ take i xs ++ x ∷ [] = take_more xs i x lt ∙ ap (λ (y : X). take i xs ++ y ∷ []) (sym is) in
    let files : flat_map f (take (i + 1) xs) ≡ flat_map f (take i xs) ++ f x = ap (flat_map f) front ∙ flat_map-append f (take i xs) (x ∷ []) ∙ ap (λ (ys : List File). flat_map f (take i xs) ++ ys) (append-nil (f x)) in
    subst (λ (ys : List File). Judges holds ys (Ok tt)) (sym files) (judged_right holds now (flat_map f (take i xs)) (f x) (Ok tt) same before here)

pub walk_stopped : {X : Type 0} (f : X → List File) (xs : List X) (i : ℕ) (x : X) (holds now : Option Contents) (fault : StoreFault) → i < length xs → x ≡ get_or xs i x → now ≡ holds → Judges holds (flat_map f (take i xs)) (Ok tt) → Faults now (f x) fault
    → Faults holds (flat_map f xs) fault
walk_stopped {X} f xs i x holds now fault lt is same before here =
    let rest : drop i xs ≡ x ∷ drop (i + 1) xs = drop_more xs i x lt ∙ ap (λ (y : X). y ∷ drop (i + 1) xs) (sym is) in
    let parts : xs ≡ take i xs ++ (x ∷ drop (i + 1) xs) = sym (take-append-drop i xs) ∙ ap (λ (ys : List X). take i xs ++ ys) rest in
    let files : flat_map f xs ≡ flat_map f (take i xs) ++ (f x ++ flat_map f (drop (i + 1) xs)) = ap (flat_map f) parts ∙ flat_map-append f (take i xs) (x ∷ drop (i + 1) xs) in
    subst (λ (ys : List File). Faults holds ys fault) (sym files)
    (stopped_right holds now (flat_map f (take i xs)) (f x ++ flat_map f (drop (i + 1) xs)) fault same before (stopped_left now (f x) (flat_map f (drop (i + 1) xs)) fault here))

pub walk_ended : {X : Type 0} (f : X → List File) (xs : List X) (i : ℕ) (holds : Option Contents) → length xs ≤ i → Judges holds (flat_map f (take i xs)) (Ok tt) → Judges holds (flat_map f xs) (Ok tt)
walk_ended {X} f xs i holds le all = subst (λ (ys : List X). Judges holds (flat_map f ys) (Ok tt)) (take_all i xs le) all

pub walk_none : (holds : Option Contents) → Judges holds [] (Ok tt)
walk_none holds = λ m told. All-nil (IsSpelled m)
