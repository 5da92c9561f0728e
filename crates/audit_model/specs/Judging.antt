-- What each of the three passes over a folder finds, where the disk tells its contents: nothing, or the verdict.
use Rattle.std.specs.Prelude.{◌≡◌, Option, Some, None}
use Rattle.std.specs.List.{All}
use Rattle.common_laws.specs.Maps.{Contents}
use Rattle.catalog_types.specs.declared.catalogue.Catalogue.{Catalogue}
use Rattle.audit_model.specs.Listed.{files, places, IsSpelled}
use Rattle.audit_model.specs.Rows.{IsGoodPlace}
use Rattle.audit_model.specs.Pairs.{pairs, IsSamePair}
use Rattle.audit_model.specs.Verdicts.{IsVerdictOf}
use Rattle.audit_model.specs.declared.verdict.Verdict.{Verdict}

-- each listed file is its spelling, or this is the verdict
abbrev pub JudgesFiles : Option Contents → Catalogue → Option Verdict → Type 0
JudgesFiles holds c None = (m : Contents) → holds ≡ Some m → All (IsSpelled m) (files c)
JudgesFiles holds c (Some verdict) = (m : Contents) → holds ≡ Some m → IsVerdictOf m c verdict

-- where each listed file is its spelling, each stored row that is judged is good, or this is the verdict
abbrev pub JudgesRows : Option Contents → Catalogue → Option Verdict → Type 0
JudgesRows holds c None = (m : Contents) → holds ≡ Some m → All (IsSpelled m) (files c) → All (IsGoodPlace m c) (places c)
JudgesRows holds c (Some verdict) = (m : Contents) → holds ≡ Some m → All (IsSpelled m) (files c) → IsVerdictOf m c verdict

-- where this is so, too, the projections of each table that are up to date hold the same rows, or this is the verdict
abbrev pub JudgesPairs : Option Contents → Catalogue → Option Verdict → Type 0
JudgesPairs holds c None = (m : Contents) → holds ≡ Some m → All (IsSpelled m) (files c) → All (IsGoodPlace m c) (places c) → All (IsSamePair m c) (pairs c)
JudgesPairs holds c (Some verdict) = (m : Contents) → holds ≡ Some m → All (IsSpelled m) (files c) → All (IsGoodPlace m c) (places c) → IsVerdictOf m c verdict
