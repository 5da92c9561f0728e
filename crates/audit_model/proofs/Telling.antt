-- The verdict is Yes exactly where the folder reopens.
use Rattle.std.proofs.Common.{◌≡◌, ℕ, List, sym, ap, refl, ◌∙◌, arith, subst, inl, inr}
use Rattle.std.specs.Prelude.{Option, Some, None, IsSome}
use Rattle.std.specs.FinMap.{get}
use Rattle.std.proofs.lemmas.List.Elements.{All-nil}
use Rattle.common_laws.specs.Maps.{Contents}
use Rattle.catalog_types.specs.declared.catalogue.Catalogue.{Catalogue}
use Rattle.catalog_root.specs.Root.{body_file, data_file, HasNoBody, IsDamage, IsFresh, IsRoot, Opens}
use Rattle.catalog_root.specs.declared.found.Found.{Found}
use Rattle.catalog_root.specs.declared.found.Found.TheVariants.{Fresh, Root}
use Rattle.catalog_root.proofs.Roots.{one_gate, not_fresh}
use Rattle.db_model.specs.Database.{Database, empty_database}
use Rattle.db_model.specs.Sound.{IsSoundTable, IsSoundDatabase}
use Rattle.folder_model.specs.Reopening.{ReopensBy, Reopens}
use Rattle.audit_model.specs.Listed.{files, places, IsSpelled}
use Rattle.audit_model.specs.Pairs.{pairs, IsSamePair}
use Rattle.audit_model.specs.Rows.{IsGoodPlace}
use Rattle.audit_model.specs.Verdicts.{IsVerdict, IsYes}
use Rattle.audit_model.specs.declared.verdict.Verdict.{Verdict}
use Rattle.audit_model.specs.declared.verdict.Verdict.TheVariants.{Yes, File as Damaged, BadRow, Differ}
use Rattle.audit_model.proofs.Back.{cut_by_root, reopening_passes}
use Rattle.audit_model.proofs.Lists.{first_lacks}
use Rattle.audit_model.proofs.Yes.{passing_reopens, HeldOnce}

empty_sound : IsSoundDatabase empty_database
empty_sound = record { names = λ i j d before lt. absurd (omega (arith, lt, before)); tables = All-nil (IsSoundTable empty_database); mark = omega arith }

abbrev pub ReopensTo : Contents → ℕ → ℕ → Type 0
ReopensTo m last ahm = (d : Database) × Reopens m d × (d.last ≡ last) × (d.ahm ≡ ahm)

pub yes_reopens : HeldOnce → (m : Contents) (verdict : Verdict) (last ahm : ℕ) → IsVerdict m verdict → IsYes last ahm verdict → ReopensTo m last ahm
yes_reopens once m (Yes l a) last ahm (inl (fresh, l_is, a_is)) (l_same, a_same) =
    (empty_database, record { root = Fresh; opens = fresh; is_cut = refl; sound = empty_sound }, sym l_is ∙ l_same, sym a_is ∙ a_same)
yes_reopens once m (Yes l a) last ahm (inr (v, c, root, (passes, l_is, a_is))) (l_same, a_same) =
    let k = passing_reopens once m v c root passes in (k.0, k.1, k.2 ∙ sym l_is ∙ l_same, k.3 ∙ sym a_is ∙ a_same)
yes_reopens once m (Damaged name) last ahm is told = absurd told
yes_reopens once m (BadRow table projection base pos) last ahm is told = absurd told
yes_reopens once m (Differ table first second first_count second_count row) last ahm is told = absurd told

-- ---- the other way

none_there : (o : Option (List ℕ)) → o ≡ None → IsSome o → ⊥
none_there None is there = absurd cc
none_there (Some bytes) is there = absurd (let never : Some bytes ≡ None = is in cc)

damage_fresh : (m : Contents) (name : ℕ) → IsDamage m name → IsFresh m → ⊥
damage_fresh m name (inl (v, is, gate, none)) fresh = fresh.closed v gate.is_open
damage_fresh m name (inr (n, is, closed, least)) fresh = none_there (get m (data_file n)) (fresh.blank n) least.there

damage_root : (m : Contents) (name w : ℕ) (c : Catalogue) → IsDamage m name → IsRoot m w c → ⊥
damage_root m name w c (inl (v, is, gate, none)) root =
    let same : w ≡ v = one_gate m w v root.gate gate in
    subst (λ (n : ℕ). HasNoBody (get m (body_file n)) n) (sym same) none c (record { valid = root.valid; below = root.below }) root.body
damage_root m name w c (inr (n, is, closed, least)) root = closed w root.gate.is_open

undamaged : (m : Contents) (name : ℕ) (d : Database) → IsDamage m name → Reopens m d → ⊥
undamaged m name d damage reopens = by reopens.root reopens.opens
  where
    by : (f : Found) → Opens m f → ⊥
    by Fresh opens = damage_fresh m name damage opens
    by (Root w c) opens = damage_root m name w c damage opens

fresh_reopens : (m : Contents) (d : Database) → IsFresh m → Reopens m d → d ≡ empty_database
fresh_reopens m d fresh reopens = by reopens.root reopens.opens reopens.is_cut
  where
    by : (f : Found) → Opens m f → ReopensBy m f d → d ≡ empty_database
    by Fresh opens is = is
    by (Root w c) opens is = absurd (not_fresh m w c opens fresh)

pub reopening_says_yes : (m : Contents) (verdict : Verdict) (d : Database) → IsVerdict m verdict → Reopens m d → IsYes d.last d.ahm verdict
reopening_says_yes m (Yes l a) d (inl (fresh, l_is, a_is)) reopens =
    let same = fresh_reopens m d fresh reopens in (l_is ∙ sym (ap (λ (x : Database). x.last) same), a_is ∙ sym (ap (λ (x : Database). x.ahm) same))
reopening_says_yes m (Yes l a) d (inr (v, c, root, (passes, l_is, a_is))) reopens = let cut = cut_by_root m v c d root reopens in (l_is ∙ sym cut.last, a_is ∙ sym cut.ahm)
reopening_says_yes m (Damaged name) d (inl damage) reopens = absurd (undamaged m name d damage reopens)
reopening_says_yes m (Damaged name) d (inr (v, c, root, first)) reopens =
    absurd (first_lacks (IsSpelled m) (files c) first.file first.first (reopening_passes m v c d root reopens).files)
reopening_says_yes m (BadRow table projection base pos) d (inl never) reopens = absurd never
reopening_says_yes m (BadRow table projection base pos) d (inr (v, c, root, first)) reopens =
    absurd (first_lacks (IsGoodPlace m c) (places c) first.at first.first (reopening_passes m v c d root reopens).rows)
reopening_says_yes m (Differ table one other first_count second_count row) d (inl never) reopens = absurd never
reopening_says_yes m (Differ table one other first_count second_count row) d (inr (v, c, root, first)) reopens =
    absurd (first_lacks (IsSamePair m c) (pairs c) first.at first.is (reopening_passes m v c d root reopens).pairs)
