use Rattle.std.proofs.Common.{◌≡◌, ◌≤◌, ◌++◌, ◌∷◌, [], ℕ, List, sym, ◌∙◌, ap, subst}
use Rattle.col_disk.specs.declared.did.Did.{Did}
use Rattle.col_disk.specs.declared.did.Did.TheVariants.{Removed, Kept}
use Rattle.col_disk.specs.Memory.{Memory}
use Rattle.col_disk.proofs.Keeping.{removed, not_removed}
use Rattle.col_disk.proofs.memory.MemDiskDisk.remove.Goals as goal

pub returns-in-Ok-clause-removes : goal.returns-in-Ok-clause-removes
returns-in-Ok-clause-removes c =
    not_removed c.args.name c.args.self.now c.keep.new.self
    (ap (λ (m : Memory). m.done) c.in-Ok.ensures.ok ∙ ap (λ (ds : List Did). ds ++ Kept c.args.name ∷ []) c.begin.ensures.kept)
    (subst (λ (n : ℕ). c.args.self.now.faults ≤ n) (sym (ap (λ (m : Memory). m.faults) c.in-Ok.ensures.ok)) c.begin.ensures.later) (ap (λ (m : Memory). m.changed) c.in-Ok.ensures.ok)

pub returns-in-Ok-take-clause-removes : goal.returns-in-Ok-take-clause-removes
returns-in-Ok-take-clause-removes c =
    removed c.args.name c.args.self.now c.take.new.self _
    (ap (λ (m : Memory). m.done) c.in-Ok-take.ensures.ok ∙ ap (λ (ds : List Did). ds ++ Removed c.args.name ∷ []) c.begin.ensures.kept)
    (subst (λ (n : ℕ). c.args.self.now.faults ≤ n) (sym (ap (λ (m : Memory). m.faults) c.in-Ok-take.ensures.ok)) c.begin.ensures.later) (ap (λ (m : Memory). m.changed) c.in-Ok-take.ensures.ok)
