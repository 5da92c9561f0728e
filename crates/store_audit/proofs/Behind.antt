-- From what is found of the pairs of a catalogue to the verdict on its folder.
use Rattle.std.proofs.Common.{◌≡◌, ℕ, true, List, length, refl, ◌∙◌, subst}
use Rattle.std.specs.Prelude.{Option, Some, None, filter}
use Rattle.std.specs.List.{All, flat_map}
use Rattle.std.proofs.lemmas.List.Elements.{All-nil, All-map, All-weaker}
use Rattle.common_laws.specs.Maps.{Contents}
use Rattle.catalog_types.specs.declared.catalogue.Projection.{Projection}
use Rattle.catalog_types.specs.declared.catalogue.Table.{Table}
use Rattle.catalog_types.specs.declared.catalogue.Catalogue.{Catalogue}
use Rattle.catalog_types.specs.Reached.{least_lge}
use Rattle.audit_model.specs.Judging.{JudgesFiles, JudgesPairs, JudgesRows}
use Rattle.audit_model.specs.Listed.{files, places, places_of, IsSpelled}
use Rattle.audit_model.specs.Pairs.{is_other, is_super, pair, pairs_with, super_of}
use Rattle.audit_model.specs.Rows.{IsGoodPlace, IsGoodRow, judged}
use Rattle.audit_model.specs.Verdicts.{IsVerdictOf}
use Rattle.audit_model.specs.declared.verdict.Verdict.{Verdict}
use Rattle.audit_model.specs.declared.verdict.Verdict.TheVariants.{Yes, File, BadRow, Differ}
use Rattle.audit_model.proofs.Good.{good_long}
use Rattle.audit_model.proofs.Lists.{all_flat, all_kept, all_parts, found_has}
use Rattle.audit_model.proofs.Yes.{HasGood, table_good}
use Rattle.store_audit.specs.Passes.{HasBoth, HasBothOf, IsFirstApart, JudgesAll, JudgesBehindFiles, JudgesBehindRows, super_pairs}

-- ---- where each row is good, the files of each pair hold rows

both_good : (m : Contents) (c : Catalogue) (t : Table) (s q : Projection) → HasGood m c t s → HasGood m c t q → HasBoth m (least_lge c) c.ahm s q
both_good m c t s q (one, first, fits) (other, second, good) = record {
  one = one;
  other = other;
  first = first;
  second = second;
  wide = All-weaker (IsGoodRow t q) (λ x. length x.row ≡ length q.columns) (λ x is. good_long t q x is) (judged c other) good;
}

super_both : (m : Contents) (c : Catalogue) (t : Table) → All (IsGoodPlace m c) (places_of t) → All (HasBothOf m (least_lge c) c.ahm) (super_pairs t)
super_both m c t rows = by (super_of t) refl
  where
    goods : All (HasGood m c t) t.projections
    goods = table_good m c t rows

    by : (o : Option Projection) → super_of t ≡ o → All (HasBothOf m (least_lge c) c.ahm) (pairs_with t o)
    by None is = All-nil (HasBothOf m (least_lge c) c.ahm)
    by (Some s) is =
        let own = found_has (HasGood m c t) (is_super t) t.projections s is goods in
        All-map (HasBothOf m (least_lge c) c.ahm) (pair t s) (filter (is_other s) t.projections)
        (all_kept (λ q. HasBoth m (least_lge c) c.ahm s q) (is_other s) t.projections
        (All-weaker (HasGood m c t) (λ q. is_other s q ≡ true → HasBoth m (least_lge c) c.ahm s q) (λ q good _. both_good m c t s q own good) t.projections goods))

all_both : (m : Contents) (c : Catalogue) → All (IsGoodPlace m c) (places c) → All (HasBothOf m (least_lge c) c.ahm) (flat_map super_pairs c.tables)
all_both m c rows =
    all_flat (HasBothOf m (least_lge c) c.ahm) super_pairs c.tables
    (All-weaker (λ t. All (IsGoodPlace m c) (places_of t)) (λ t. All (HasBothOf m (least_lge c) c.ahm) (super_pairs t)) (λ t good. super_both m c t good) c.tables (all_parts (IsGoodPlace m c) places_of c.tables rows))

-- ---- the pass over the pairs

apart_is : (m : Contents) (c : Catalogue) (verdict : Verdict) → All (IsSpelled m) (files c) → All (IsGoodPlace m c) (places c) → IsFirstApart m (least_lge c) c.ahm (flat_map super_pairs c.tables) verdict → IsVerdictOf m c verdict
apart_is m c (Yes last ahm) spelled good found = absurd found.apart.told
apart_is m c (File name) spelled good found = absurd found.apart.told
apart_is m c (BadRow table projection base pos) spelled good found = absurd found.apart.told
apart_is m c (Differ table first second a b row) spelled good found =
    let told = found.apart.told in
    record {
      files = spelled;
      rows = good;
      at = found.at;
      is = found.first;
      xs = found.apart.xs;
      ys = found.apart.ys;
      one = found.apart.one;
      other = found.apart.other;
      difference = told.0;
      table_is = told.1;
      first_is = told.2;
      second_is = told.3;
    }

judged_pairs : (holds : Option Contents) (c : Catalogue) (o : Option Verdict) → JudgesAll holds (least_lge c) c.ahm (flat_map super_pairs c.tables) o → JudgesPairs holds c o
judged_pairs holds c None found = λ m told spelled good. found m told (all_both m c good)
judged_pairs holds c (Some verdict) found = λ m told spelled good. apart_is m c verdict spelled good (found m told (all_both m c good))

-- over the tables of the catalogue, at its epoch and its mark
pub pairs_judged : (holds : Option Contents) (c : Catalogue) (ts : List Table) (epoch mark : ℕ) (o : Option Verdict) → ts ≡ c.tables → epoch ≡ least_lge c → mark ≡ c.ahm → JudgesAll holds epoch mark (flat_map super_pairs ts) o → JudgesPairs holds c o
pairs_judged holds c ts epoch mark o tables least ahm found =
    judged_pairs holds c o
    (subst (λ (xs : List Table). JudgesAll holds (least_lge c) c.ahm (flat_map super_pairs xs) o) tables
    (subst (λ (e : ℕ). JudgesAll holds e c.ahm (flat_map super_pairs ts) o) least (subst (λ (a : ℕ). JudgesAll holds epoch a (flat_map super_pairs ts) o) ahm found)))

-- ---- one pass behind the other

pub yes_behind : (holds : Option Contents) (c : Catalogue) (last ahm : ℕ) → last ≡ least_lge c → ahm ≡ c.ahm → JudgesPairs holds c None → JudgesBehindRows holds c (Yes last ahm)
yes_behind holds c last ahm last_is ahm_is same = λ m told spelled good. (record { files = spelled; rows = good; pairs = same m told spelled good }, last_is, ahm_is)

pub rows_behind : (holds now : Option Contents) (c : Catalogue) (verdict : Verdict) → now ≡ holds → JudgesRows holds c None → JudgesBehindRows now c verdict → JudgesBehindFiles holds c verdict
rows_behind holds now c verdict same rows behind = λ m told spelled. behind m (same ∙ told) spelled (rows m told spelled)

pub files_behind : (holds now : Option Contents) (c : Catalogue) (verdict : Verdict) → now ≡ holds → JudgesFiles holds c None → JudgesBehindFiles now c verdict → (m : Contents) → holds ≡ Some m → IsVerdictOf m c verdict
files_behind holds now c verdict same spelled behind = λ m told. behind m (same ∙ told) (spelled m told)
