-- The epochs of a block, tested one after the other.
use Rattle.std.proofs.Common.{◌≡◌, ℕ, ◌+◌, ◌<◌, ◌≤◌, List, [], ◌∷◌, Bool, true, false, length, take, get_or, sym, subst, ◌∙◌}
use Rattle.std.specs.Prelude.{◌↔◌}
use Rattle.std.specs.Bool.{IsTrue}
use Rattle.std.specs.List.{All}
use Rattle.std.proofs.lemmas.List.{take_all, take_more}
use Rattle.std.proofs.lemmas.List.Elements.{All-nil, All-cons, All-append}
use Rattle.catalog_types.specs.declared.catalogue.Container.{Container}
use Rattle.col_value.specs.declared.value.Value.{Value}
use Rattle.ros_container.specs.Rows.{IsEpochOf}
use Rattle.audit_files.specs.declared.stored.StoredColumn.{StoredColumn}
use Rattle.audit_files.specs.declared.stored.StoredColumn.TheVariants.{Epochs}
use Rattle.audit_files.specs.Columns.{MayStand}

pub all_more : (P : Value → Type 0) (vs : List Value) (i : ℕ) (d v : Value) → i < length vs → v ≡ get_or vs i d → All P (take i vs) → P v → All P (take (i + 1) vs)
all_more P vs i d v lt is all here =
    subst (All P) (sym (take_more vs i d lt)) (All-append P (take i vs) (get_or vs i d ∷ []) all (All-cons P (get_or vs i d) [] (subst P is here) (All-nil P)))

pub all_ended : (P : Value → Type 0) (vs : List Value) (i : ℕ) → length vs ≤ i → All P (take i vs) → All P vs
all_ended P vs i le all = subst (All P) (take_all i vs le) all

pub one_lacks : (P : Value → Type 0) (vs : List Value) (i : ℕ) (d v : Value) → i < length vs → v ≡ get_or vs i d → (P v → ⊥) → All P vs → ⊥
one_lacks P vs i d v lt is not all = not (subst P (sym is) (all i d lt))

-- of the epochs the values are to be epochs
pub of_epochs : (k : Container) (x : StoredColumn) (vs : List Value) (b : Bool) → x ≡ Epochs → IsTrue b ↔ All (IsEpochOf k) vs → IsTrue b ↔ All (MayStand k x) vs
of_epochs k x vs b is tells = subst (λ (y : StoredColumn). IsTrue b ↔ All (MayStand k y) vs) (sym is) tells

pub not_both : (b : Bool) → b ≡ false → IsTrue b → ⊥
not_both b is told = absurd (let never : false ≡ true = sym is ∙ told in cc)
