-- Which file a run names that ends with status 6, and a call of a session.
use Rattle.std.proofs.Common.{ℕ, ◌≡◌, inl, inr, Bool, true, false, List, refl, sym, ap, subst}
use Rattle.std.specs.Prelude.{Option, Result, Ok, Err}
use Rattle.col_disk.specs.declared.disk.Disk.{Ghosts}
use Rattle.col_disk.specs.declared.disk.StoreFault.{StoreFault}
use Rattle.store_step.specs.Faults.{NamesStepped}
use Rattle.store_step.specs.Named.{NamesHeld, NamesListed}
use Rattle.store_step.specs.Opening.{BlamesOpening, IsLeftAlone, WhereBlamed}
use Rattle.store_step.specs.Running.{Running}
use Rattle.store_step.specs.declared.answer.StepFault.{StepFault}
use Rattle.vert_cli.specs.declared.faults.RunFault.{RunFault}
use Rattle.vert_cli.specs.declared.faults.Status.{Status}
use Rattle.vert_cli.specs.Audits.{IsAuditStatus}
use Rattle.vert_cli.specs.Blamed.{HasOpened, IsToldAs, NamesFile, NamesInRun}
use Rattle.vert_cli.specs.Statuses.{status_of_end}
use Rattle.vert_cli.specs.Statements.{fault_of, fault_of_step}

abbrev stopped_by : RunFault → Result Bool RunFault
stopped_by fault = Err fault

abbrev ended_so : Bool → Result Bool RunFault
ended_so refused = Ok refused

-- the opening answered so
pub shut_named : {D : Type 0} (disk : Ghosts D) (fault : StoreFault) (noted : RunFault) (old now : D) (told : Option (List ℕ)) → noted ≡ fault_of fault → BlamesOpening (disk.holds old) fault
    → WhereBlamed (IsLeftAlone disk old now) fault → (q : ℕ) → stopped_by noted ≡ stopped_by (RunFault.Damaged q) → NamesFile disk q old now told told
shut_named disk StoreFault.Disk noted old now told is blamed left q same = absurd (cc)
shut_named disk (StoreFault.Damaged n) noted old now told is blamed left q same =
    let named : n ≡ q = cc in inl (record { blamed = subst (λ (k : ℕ). BlamesOpening (disk.holds old) (StoreFault.Damaged k)) named blamed; left = left; untaken = refl })
shut_named disk StoreFault.Memory noted old now told is blamed left q same = absurd (cc)

-- only a run that stopped so ends with this status
pub damaged_only : (ended : Result Bool RunFault) (q : ℕ) → status_of_end ended ≡ Status.Damaged q → ended ≡ stopped_by (RunFault.Damaged q)
damaged_only (Ok true) q is = absurd (cc)
damaged_only (Ok false) q is = absurd (cc)
damaged_only (Err RunFault.Sink) q is = absurd (cc)
damaged_only (Err RunFault.Disk) q is = absurd (cc)
damaged_only (Err (RunFault.Damaged n)) q is = let named : n ≡ q = cc in ap (λ (k : ℕ). stopped_by (RunFault.Damaged k)) named
damaged_only (Err RunFault.Memory) q is = absurd (cc)
damaged_only (Err RunFault.Read) q is = absurd (cc)
damaged_only (Err RunFault.Halted) q is = absurd (cc)

-- an audit never does
pub audit_unnamed : (status : Status) → IsAuditStatus status → (q : ℕ) → status ≡ Status.Damaged q → ⊥
audit_unnamed Status.Done is q same = absurd (cc)
audit_unnamed Status.SinkFault is q same = absurd (cc)
audit_unnamed Status.DiskFault is q same = absurd (cc)
audit_unnamed Status.Memory is q same = absurd (cc)
audit_unnamed Status.AuditNo is q same = absurd (cc)
audit_unnamed Status.Refused is q same = absurd is
audit_unnamed Status.Usage is q same = absurd is
audit_unnamed Status.NoScript is q same = absurd is
audit_unnamed (Status.Damaged name) is q same = absurd is
audit_unnamed Status.ReadFault is q same = absurd is
audit_unnamed Status.TooLarge is q same = absurd is

-- ---- behind a call of a session

stepped_in_run : {D : Type 0} (disk : Ghosts D) (is : Running) (now : D) (fault : StepFault) → NamesStepped disk is now fault → NamesInRun disk is now (fault_of_step fault)
stepped_in_run disk is now StepFault.Read named = tt
stepped_in_run disk is now StepFault.Disk named = tt
stepped_in_run disk is now (StepFault.Damaged q) named = named
stepped_in_run disk is now StepFault.Memory named = tt

held_in_run : {D : Type 0} (disk : Ghosts D) (is : Running) (now : D) (fault : StoreFault) → NamesHeld disk is now fault → NamesInRun disk is now (fault_of fault)
held_in_run disk is now StoreFault.Disk named = tt
held_in_run disk is now (StoreFault.Damaged q) named = named
held_in_run disk is now StoreFault.Memory named = tt

-- what the session keeps in mind of a fault changes neither it nor the store
pub step_named : {D : Type 0} (disk : Ghosts D) (was is : Running) (now : D) (fault : StepFault) (told : RunFault) → told ≡ fault_of_step fault → is ≡ was → NamesStepped disk was now fault → NamesInRun disk is now told
step_named disk was is now fault told same kept named =
    subst (λ (f : RunFault). NamesInRun disk is now f) (sym same) (subst (λ (r : Running). NamesInRun disk r now (fault_of_step fault)) (sym kept) (stepped_in_run disk was now fault named))

pub move_named : {D : Type 0} (disk : Ghosts D) (was is : Running) (now : D) (fault : StoreFault) (told : RunFault) → told ≡ fault_of fault → is ≡ was → NamesHeld disk was now fault → NamesInRun disk is now told
move_named disk was is now fault told same kept named =
    subst (λ (f : RunFault). NamesInRun disk is now f) (sym same) (subst (λ (r : Running). NamesInRun disk r now (fault_of fault)) (sym kept) (held_in_run disk was now fault named))

-- ---- what a run tells of a fault that it ends with

-- what holds of the fault as it was met holds of it as it is told, where it names no file
pub told_over : {D : Type 0} (P : RunFault → D → Type 0) (fault told : RunFault) (mid new : D) → IsToldAs fault told mid new → ((q : ℕ) → P (RunFault.Damaged q) mid → ⊥) → P fault mid → P told new
told_over P RunFault.Sink told mid new (same, still) none holds = subst (λ (f : RunFault). P f new) (sym same) (subst (P RunFault.Sink) (sym still) holds)
told_over P RunFault.Disk told mid new (same, still) none holds = subst (λ (f : RunFault). P f new) (sym same) (subst (P RunFault.Disk) (sym still) holds)
told_over P (RunFault.Damaged q) told mid new here none holds = absurd (none q holds)
told_over P RunFault.Memory told mid new (same, still) none holds = subst (λ (f : RunFault). P f new) (sym same) (subst (P RunFault.Memory) (sym still) holds)
told_over P RunFault.Read told mid new (same, still) none holds = subst (λ (f : RunFault). P f new) (sym same) (subst (P RunFault.Read) (sym still) holds)
told_over P RunFault.Halted told mid new (same, still) none holds = subst (λ (f : RunFault). P f new) (sym same) (subst (P RunFault.Halted) (sym still) holds)

file_same : (f g : RunFault) → stopped_by f ≡ stopped_by g → f ≡ g
file_same f g is = cc

pub met_later : {D : Type 0} (disk : Ghosts D) (told : RunFault) (q : ℕ) (old now : D) (before after : Option (List ℕ)) → HasOpened disk old → ((n : ℕ) → told ≡ RunFault.Damaged n → NamesListed disk n now)
    → stopped_by told ≡ stopped_by (RunFault.Damaged q) → NamesFile disk q old now before after
met_later disk told q old now before after opened listed same = inr (record { opened = opened; listed = listed q (file_same told (RunFault.Damaged q) same) })

-- a run that ended stopped for none
pub ended_unnamed : (refused : Bool) (q : ℕ) {X : Type 0} → ended_so refused ≡ stopped_by (RunFault.Damaged q) → X
ended_unnamed refused q same = absurd (cc)

pub finish_named : {D : Type 0} (disk : Ghosts D) (is : Running) (now : D) (fault : StoreFault) (told : RunFault) → told ≡ fault_of fault → NamesHeld disk is now fault → NamesInRun disk is now told
finish_named disk is now fault told same named = subst (λ (f : RunFault). NamesInRun disk is now f) (sym same) (held_in_run disk is now fault named)
