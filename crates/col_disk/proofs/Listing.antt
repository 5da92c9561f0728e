-- The keys of a map in code are the names of the contents that it is seen as.
use Rattle.std.proofs.Common.{◌≡◌, ℕ, List, Bool, sym, ◌∙◌, ap, subst}
use Rattle.std.specs.Prelude.{is_some}
use Rattle.std.specs.Bool.{Decides}
use Rattle.std.specs.Ordering.{nat_cmp, eq_by_cmp}
use Rattle.std.specs.Cmp.{nat_cmp_total, unsigned_tied}
use Rattle.std.specs.FinMap.{get, from_entries}
use Rattle.std.specs.BTreeMap.{is_at}
use Rattle.std.specs.Map.{lookup, keys_of}
use Rattle.std.specs.Set.{is_member}
use Rattle.std.specs.List.Sorted.{IsStrictlySortedBy}
use Rattle.std.proofs.lemmas.Bool.Decides.{Decides-eqb}
use Rattle.std.proofs.lemmas.Map.Keys.{IsStrictlyIncreasing-from_sorted}
use Rattle.std.proofs.lemmas.Map.Made.{is_member-Decides}
use Rattle.common_laws.proofs.MapLaws.{get_lookup}
use Rattle.col_disk.specs.Calls.{ListsNames}

same_key : (a b : ℕ) → Decides (eq_by_cmp nat_cmp a b) (a ≡ b)
same_key a b = subst (λ (t : Bool). Decides t (a ≡ b)) (sym (unsigned_tied a b)) (Decides-eqb a b)

pub listed : (es : List (ℕ × List ℕ)) → IsStrictlySortedBy nat_cmp (keys_of es)
    → ((q : ℕ) → is_some (lookup (is_at (nat_cmp q)) es) ≡ is_member (eq_by_cmp nat_cmp) (keys_of es) q) → ListsNames (from_entries {R = nat_cmp} es) (keys_of es)
listed es sorted has = record {
  rising = IsStrictlyIncreasing-from_sorted (keys_of es) sorted;
  there = λ q.
      let found : is_some (get (from_entries {R = nat_cmp} es) q) ≡ is_member (eq_by_cmp nat_cmp) (keys_of es) q = ap is_some (get_lookup nat_cmp_total es q) ∙ has q in
      let decides = is_member-Decides same_key (keys_of es) q in
      (λ is. found ∙ decides.1 is, λ some. decides.0 (sym found ∙ some));
}
