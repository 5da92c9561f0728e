-- The status of a catch-up and what the sink took.
use Rattle.std.proofs.Common.{◌≡◌, ◌⊎◌, inl, inr, ℕ, List, ◌∙◌, ap, subst}
use Rattle.std.specs.Prelude.{Option, Result, Err}
use Rattle.common_laws.specs.Causes.{HasCause, Rose}
use Rattle.common_laws.specs.Told.{Appends, AppendsFront}
use Rattle.col_disk.specs.declared.disk.Disk.{Ghosts}
use Rattle.db_model.specs.Database.{Database}
use Rattle.catch_model.specs.declared.fault.LinkFault.{LinkFault}
use Rattle.catch_model.specs.declared.fault.LinkFault.TheVariants as fault
use Rattle.catch_text.specs.Lines.{caught_text}
use Rattle.buddy_run.specs.Ends.{brought, done_text, HasCaughtUp, IsDiskFault, IsSinkStop, LinkEnds, StandsRefused, StopEnds}
use Rattle.buddy_run.specs.declared.linking.Brought.{Brought}
use Rattle.buddy_run.specs.declared.status.LinkStatus.{LinkStatus}
use Rattle.buddy_run.specs.declared.status.LinkStatus.TheVariants as status

-- ---- the folder behind has caught up, and the line is told

line_is : (a b : Database) (r : Brought) (text : List ℕ) → r ≡ brought a.last b.last b.last → text ≡ caught_text r.first r.second r.last → text ≡ done_text a b
line_is a b r text is told = told ∙ ap (λ (n : Brought). caught_text n.first n.second n.last) is

pub done_ends : {D : Type 0} (disk : Ghosts D) (now : D) (a b : Database) (before after : Option (List ℕ)) (r : Brought) (text : List ℕ) → (r ≡ brought a.last b.last b.last) × HasCaughtUp disk now a b → text ≡ caught_text r.first r.second r.last
    → Appends before after text → LinkEnds status.Done disk now a b before after
done_ends disk now a b before after r text (is, caught) told took = (caught, subst (Appends before after) (line_is a b r text is told) took)

-- or a front of it
pub sink_ends : {D : Type 0} (disk : Ghosts D) (now : D) (a b : Database) (before after : Option (List ℕ)) (r : Brought) (text : List ℕ) (s : LinkStatus) → (r ≡ brought a.last b.last b.last) × HasCaughtUp disk now a b → text ≡ caught_text r.first r.second r.last
    → IsSinkStop s × AppendsFront before after text → LinkEnds s disk now a b before after
sink_ends disk now a b before after r text s (is, caught) told (stop, took) = by s stop
  where
    front : AppendsFront before after (done_text a b)
    front = subst (AppendsFront before after) (line_is a b r text is told) took

    by : (t : LinkStatus) → IsSinkStop t → LinkEnds t disk now a b before after
    by status.Done stop = absurd stop
    by status.Refused stop = absurd stop
    by status.Usage stop = absurd stop
    by status.SinkFault stop = inl front
    by status.DiskFault stop = absurd stop
    by (status.Damaged name) stop = absurd stop
    by status.Memory stop = inr (inl front)

-- ---- it didn't come to its end

pub stop_ends : {D : Type 0} (disk : Ghosts D) (now : D) (a b : Database) (f : LinkFault) (before after : Option (List ℕ)) (s : LinkStatus) → StopEnds s a b f before after → StandsRefused disk now a b f → LinkEnds s disk now a b before after
stop_ends disk now a b f before after status.Done ends stands = absurd ends
stop_ends disk now a b f before after status.Refused ends stands = (f, ends, stands)
stop_ends disk now a b f before after status.Usage ends stands = absurd ends
stop_ends disk now a b f before after status.SinkFault ends stands = ends
stop_ends disk now a b f before after status.DiskFault ends stands = ends
stop_ends disk now a b f before after (status.Damaged name) ends stands = absurd ends
stop_ends disk now a b f before after status.Memory ends stands = ends

-- a sink stops with no other status
pub no_usage : (s : LinkStatus) → IsSinkStop s → s ≡ status.Usage → ⊥
no_usage s stop is = subst IsSinkStop is stop

pub no_disk_fault : (s : LinkStatus) → IsSinkStop s → s ≡ status.DiskFault → ⊥
no_disk_fault s stop is = subst IsSinkStop is stop

-- a disk's fault has its cause
abbrev stopped : LinkFault → Result Brought LinkFault
stopped f = Err f

pub disk_caused : (f : LinkFault) (before now there_before there_now : ℕ) → HasCause fault.BehindDisk before now (stopped f) → HasCause fault.AheadDisk there_before there_now (stopped f) → IsDiskFault f
    → Rose before now ⊎ Rose there_before there_now
disk_caused f before now there_before there_now behind ahead (inl is) = inl (behind.failed (ap stopped is))
disk_caused f before now there_before there_now behind ahead (inr is) = inr (ahead.failed (ap stopped is))
