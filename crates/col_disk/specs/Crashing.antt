-- What a crash makes of what was done since the last sync.
use Rattle.std.specs.Prelude.{◌≡◌, ℕ, Bool, true, false, List, [], ◌∷◌}
use Rattle.std.specs.FinMap.{insert}
use Rattle.common_laws.specs.Maps.{Contents}
use Rattle.col_disk.specs.Calls.{Elsewhere, GoneOrKept}
use Rattle.col_disk.specs.declared.did.Did.{Did}
use Rattle.col_disk.specs.declared.did.Did.TheVariants.{Placed, Wrote, Removed, Kept, Synced}

abbrev pub is_sync : Did → Bool
is_sync (Placed name bytes) = false
is_sync (Wrote name bytes) = false
is_sync (Removed name) = false
is_sync (Kept name) = false
is_sync Synced = true

-- an image before it may be this one after it; what is synced stays
abbrev pub StepTo : Did → Contents → Contents → Type 0
StepTo (Placed name bytes) d c = c ≡ insert d name bytes
StepTo (Wrote name bytes) d c = Elsewhere name d c
StepTo (Removed name) d c = GoneOrKept name d c
StepTo (Kept name) d c = GoneOrKept name d c
StepTo Synced d c = c ≡ d

abbrev pub StepsTo : List Did → Contents → Contents → Type 0
StepsTo [] d c = c ≡ d
StepsTo (did ∷ more) d c = (e : Contents) × StepTo did d e × StepsTo more e c
