-- A job of the mover that is made step by step.
use Rattle.common_laws.specs.Maps.{Contents}
use Rattle.store_commit.specs.Seen.{Seen}
use Rattle.table_jobs.specs.Remaking.{IsBeingMade, IsMadeOver, IsWritten}
use Rattle.table_jobs.specs.Working.{IsOfStore, IsUnderWay, IsWhole}
use Rattle.table_jobs.specs.declared.work.Work.{Work}
use Rattle.table_jobs.specs.declared.work.Work.TheVariants.{Merge, Refresh}

-- over these files it has its rows, and the files of the columns that are done hold theirs
abbrev pub IsGoing : Contents → Work → Type 0
IsGoing m (Merge w) = IsUnderWay m w
IsGoing m (Refresh w) = IsBeingMade m w

-- it is of a store
abbrev pub IsOver : Seen → Work → Type 0
IsOver s (Merge w) = IsOfStore s w
IsOver s (Refresh w) = IsMadeOver s w
