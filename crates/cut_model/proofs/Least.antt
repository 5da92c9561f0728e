-- Between which epochs the least lies that an up-to-date projection has reached.
use Rattle.std.proofs.Common.{ℕ, ◌≤◌, Bool, true, false, cond, List, [], ◌∷◌, Option, Some, None, arith}
use Rattle.std.specs.Prelude.{fold, unwrap_or}
use Rattle.std.specs.Bool.{OnTrue}
use Rattle.std.specs.List.{All}
use Rattle.std.proofs.lemmas.List.Elements.{All-head, All-tail, All-weaker}
use Rattle.catalog_types.specs.declared.catalogue.Projection.{Projection}
use Rattle.catalog_types.specs.declared.catalogue.Table as kept
use Rattle.catalog_types.specs.declared.catalogue.Catalogue.{Catalogue}
use Rattle.catalog_types.specs.Parts.{IsProjection, IsTable, HasReached}
use Rattle.catalog_types.specs.Valid.{IsValid}
use Rattle.catalog_types.specs.Reached.{earlier, reached, table_reached, all_reached, least_lge}

-- an epoch that may be there lies between these
abbrev pub Between : ℕ → ℕ → Option ℕ → Type 0
Between low high None = Unit {0}
Between low high (Some e) = (low ≤ e) × (e ≤ high)

between_earlier : (low high : ℕ) (a b : Option ℕ) → Between low high a → Between low high b → Between low high (earlier a b)
between_earlier low high None b first second = second
between_earlier low high (Some a) None first second = first
between_earlier low high (Some a) (Some b) (la, ha) (lb, hb) = (omega (arith, la, lb), omega (arith, ha, hb))

between_fold : {X : Type 0} (low high : ℕ) (f : X → Option ℕ) (o : Option ℕ) (xs : List X) → Between low high o → All (λ x. Between low high (f x)) xs → Between low high (fold (λ a x. earlier a (f x)) o xs)
between_fold low high f o [] first all = first
between_fold low high f o (x ∷ xs) first all =
    between_fold low high f (earlier o (f x)) xs
    (between_earlier low high o (f x) first (All-head (λ y. Between low high (f y)) x xs all)) (All-tail (λ y. Between low high (f y)) x xs all)

-- what holds of an up-to-date projection's epoch
pub between_reached : (low high : ℕ) (p : Projection) → OnTrue p.fresh ((low ≤ p.lge) × (p.lge ≤ high)) → Between low high (reached p)
between_reached low high p is = by p.fresh is
  where
    by : (b : Bool) → OnTrue b ((low ≤ p.lge) × (p.lge ≤ high)) → Between low high (cond b (Some p.lge) None)
    by true is = is
    by false is = tt

pub between_all : (low high : ℕ) (ts : List kept.Table) → All (λ t. All (λ p. OnTrue p.fresh ((low ≤ p.lge) × (p.lge ≤ high))) t.projections) ts
    → Between low high (fold (λ e t. earlier e (table_reached t)) None ts)
between_all low high ts all =
    between_fold low high table_reached None ts tt
    (All-weaker (λ t. All (λ p. OnTrue p.fresh ((low ≤ p.lge) × (p.lge ≤ high))) t.projections) (λ t. Between low high (table_reached t))
    (λ t each. between_fold low high reached None t.projections tt
    (All-weaker (λ p. OnTrue p.fresh ((low ≤ p.lge) × (p.lge ≤ high))) (λ p. Between low high (reached p)) (λ p is. between_reached low high p is) t.projections each)) ts all)

pub between_least : (low high last : ℕ) (o : Option ℕ) → Between low high o → low ≤ last → last ≤ high → (low ≤ unwrap_or o last) × (unwrap_or o last ≤ high)
between_least low high last None is from to = (from, to)
between_least low high last (Some e) is from to = is

valid_between : (c : Catalogue) → IsValid c → (c.ahm ≤ least_lge c) × (least_lge c ≤ c.last)
valid_between c valid =
    between_least c.ahm c.last c.last (all_reached c)
    (between_all c.ahm c.last c.tables
    (All-weaker (IsTable c) (λ t. All (λ p. OnTrue p.fresh ((c.ahm ≤ p.lge) × (p.lge ≤ c.last))) t.projections)
    (λ t is. All-weaker (IsProjection c t) (HasReached c) (λ p h. h.reached) t.projections is.projections) c.tables valid.tables))
    valid.mark (omega arith)

pub mark_reached : (c : Catalogue) → IsValid c → c.ahm ≤ least_lge c
mark_reached c valid = (valid_between c valid).0

pub least_closed : (c : Catalogue) → IsValid c → least_lge c ≤ c.last
least_closed c valid = (valid_between c valid).1
