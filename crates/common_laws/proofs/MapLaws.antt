-- A map in code, seen as a finite map.
use Rattle.std.proofs.Common.{◌≡◌, List, [], ◌∷◌, cond, refl, sym, ◌∙◌, ap}
use Rattle.std.specs.Prelude.{Some, None}
use Rattle.std.specs.declared.cmp.Ordering.{Ordering}
use Rattle.std.specs.FinMap.{get, insert, remove, from_entries, find, get-from_entries, get-insert, get-remove, same_map, IsAntisymmetric}
use Rattle.std.specs.Map.{lookup}
use Rattle.std.specs.BTreeMap.{is_at}
use Rattle.std.specs.Cmp.{IsTotalOrder}
use Rattle.std.proofs.lemmas.Cmp.{eq_by_cmp_equiv}

-- what a map's entries have at a key
pub find_lookup : {K X : Type 0} (R : K → K → Ordering) (es : List (K × X)) (q : K) → find R q es ≡ lookup (is_at (R q)) es
find_lookup R [] q = refl
find_lookup R (e ∷ es) q = ap (cond (is_at (R q) e.0) (Some e.1)) (find_lookup R es q)

pub get_lookup : {K X : Type 0} {R : K → K → Ordering} (o : IsTotalOrder R) (es : List (K × X)) (q : K) → get (from_entries {R = R} es) q ≡ lookup (is_at (R q)) es
get_lookup {K} {X} {R} o es q = get-from_entries o es q ∙ find_lookup R es q

-- entries that differ at one key make finite maps that differ there
pub one_given : {K X : Type 0} {R : K → K → Ordering} (o : IsTotalOrder R) (same : IsAntisymmetric R) (es fs : List (K × X)) (k : K) (x : X)
    → ((q : K) → lookup (is_at (R q)) fs ≡ cond (is_at (R k) q) (Some x) (lookup (is_at (R q)) es))
    → from_entries {R = R} fs ≡ insert (from_entries es) k x
one_given {K} {X} {R} o same es fs k x at = same_map o same _ _ (λ q.
    get_lookup o fs q ∙ at q ∙ ap (λ b. cond b (Some x) (lookup (is_at (R q)) es)) ((eq_by_cmp_equiv o).symm k q)
    ∙ sym (get-insert o (from_entries es) k x q ∙ ap (cond (is_at (R q) k) (Some x)) (get_lookup o es q)))

-- and a key that went
pub one_gone : {K X : Type 0} {R : K → K → Ordering} (o : IsTotalOrder R) (same : IsAntisymmetric R) (es fs : List (K × X)) (k : K)
    → ((q : K) → lookup (is_at (R q)) fs ≡ cond (is_at (R k) q) None (lookup (is_at (R q)) es))
    → from_entries {R = R} fs ≡ remove (from_entries es) k
one_gone {K} {X} {R} o same es fs k at = same_map o same _ _ (λ q.
    get_lookup o fs q ∙ at q ∙ ap (λ b. cond b None (lookup (is_at (R q)) es)) ((eq_by_cmp_equiv o).symm k q)
    ∙ sym (get-remove o (from_entries es) k q ∙ ap (cond (is_at (R q) k) None) (get_lookup o es q)))
