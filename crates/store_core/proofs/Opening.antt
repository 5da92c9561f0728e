-- A store that was opened.
use Rattle.std.proofs.Common.{◌≡◌, ◌≤◌, ℕ, List, [], ◌∷◌, length, refl, sym, ap, subst, arith, inl, inr}
use Rattle.std.specs.List.{All}
use Rattle.std.proofs.lemmas.Bool.{cases_lt}
use Rattle.std.proofs.lemmas.List.Elements.{All-cons, All-head, All-nil, All-tail, All-weaker}
use Rattle.common_laws.specs.Maps.{Contents}
use Rattle.col_disk.specs.declared.disk.Disk.{Ghosts}
use Rattle.catalog_types.specs.declared.catalogue.Projection.{Projection}
use Rattle.catalog_types.specs.declared.catalogue.Table as kept
use Rattle.db_model.specs.Database.{Database}
use Rattle.db_model.specs.State.{Changes, idle_sessions, opened_with}
use Rattle.db_laws.proofs.Sounds.{opened_sound}
use Rattle.store_commit.specs.Seen.{Seen, Stands}
use Rattle.alike_laws.specs.Reordered.{AreAlikeSessions}
use Rattle.alike_laws.proofs.Changes.{sessions_themselves}
use Rattle.store_core.proofs.Doing.{no_work}
use Rattle.store_core.specs.Running.{idle_mover, running, IsState, Mover}
use Rattle.store_opening.specs.Opening.{IsOpenedOf, IsStartOf}

abbrev HasFew : ℕ → Projection → Type 0
HasFew n p = length p.containers ≤ n

abbrev HasFewEach : ℕ → kept.Table → Type 0
HasFewEach n t = All (HasFew n) t.projections

few_more : (n m : ℕ) → n ≤ m → (ps : List Projection) → All (HasFew n) ps → All (HasFew m) ps
few_more n m le ps all = All-weaker (HasFew n) (HasFew m) (λ p few. omega (arith, few, le)) ps all

-- a number that is passed by no projection's containers, and that no lesser one is
abbrev MostOf : List Projection → Type 0
MostOf ps = (n : ℕ) × All (HasFew n) ps × ((k : ℕ) → All (HasFew k) ps → n ≤ k)

most_of : (ps : List Projection) → MostOf ps
most_of [] = (0, All-nil (HasFew 0), λ k all. omega arith)
most_of (p ∷ ps) =
    let (n, few, least) = most_of ps in
    elim (cases_lt (length p.containers) n) [
      | inl lt ↦ (n, All-cons (HasFew n) p ps (omega (arith, lt)) few, λ k all. least k (All-tail (HasFew k) p ps all))
      | inr le ↦ (length p.containers, All-cons (HasFew (length p.containers)) p ps (omega arith) (few_more n (length p.containers) le ps few), λ k all. All-head (HasFew k) p ps all)
    ]

abbrev MostIn : List kept.Table → Type 0
MostIn ts = (n : ℕ) × All (HasFewEach n) ts × ((k : ℕ) → All (HasFewEach k) ts → n ≤ k)

each_more : (n m : ℕ) → n ≤ m → (ts : List kept.Table) → All (HasFewEach n) ts → All (HasFewEach m) ts
each_more n m le ts all = All-weaker (HasFewEach n) (HasFewEach m) (λ t few. few_more n m le t.projections few) ts all

most_in : (ts : List kept.Table) → MostIn ts
most_in [] = (0, All-nil (HasFewEach 0), λ k all. omega arith)
most_in (t ∷ ts) =
    let (a, here, least_here) = most_of t.projections in
    let (n, rest, least) = most_in ts in
    elim (cases_lt a n) [
      | inl lt ↦ (n, All-cons (HasFewEach n) t ts (few_more a n (omega (arith, lt)) t.projections here) rest, λ k all. least k (All-tail (HasFewEach k) t ts all))
      | inr le ↦ (a, All-cons (HasFewEach a) t ts here (each_more n a le ts rest), λ k all. least_here k (All-head (HasFewEach k) t ts all))
    ]

pub opened_is : {D : Type 0} (disk : Ghosts D) (now : D) (s : Seen) (sessions : List (List Changes)) (mover : Mover) (m : Contents) (d : Database) → sessions ≡ idle_sessions → mover ≡ idle_mover → Stands disk s now d → IsOpenedOf m s.catalogue
    → (parts : ℕ) × IsStartOf m s.catalogue.next parts × IsState disk (running s sessions 1 mover) now (opened_with s.catalogue.next parts d)
opened_is disk now s sessions mover m d idle none stands opened =
    let (parts, few, least) = most_in s.catalogue.tables in (
      parts,
      record {
        fresh = λ fresh.
            let is = opened.fresh fresh in
            let bare : parts ≤ 0 = least 0 (subst (All (HasFewEach 0)) (sym is.1) (All-nil (HasFewEach 0))) in
            (is.0, omega (arith, bare));
        least = λ v c root. (opened.root v c root).least;
        most = λ v c root. (opened.root v c root).most;
        few = λ v c root n all. least n ((opened.root v c root).few n all);
      },
      record {
        database = stands;
        sessions = subst (λ (ss : List (List Changes)). AreAlikeSessions ss idle_sessions) (sym idle) (sessions_themselves idle_sessions);
        current = refl;
        asked = sym (ap (λ (x : Mover). x.asked) none);
        next = refl;
        busy = sym (ap (λ (x : Mover). x.busy) none);
        parts = few;
        work = no_work disk mover.work now (ap (λ (x : Mover). x.work) none);
        sound = opened_sound s.catalogue.next parts d stands.sound;
      },
    )
