use Rattle.std.proofs.Common.{◌≡◌, ◌≤◌, ◌++◌, ◌∷◌, [], ℕ, List, sym, ◌∙◌, ap, subst}
use Rattle.col_disk.specs.declared.did.Did.{Did}
use Rattle.col_disk.specs.declared.did.Did.TheVariants.{Wrote}
use Rattle.col_disk.specs.Memory.{Memory}
use Rattle.col_disk.proofs.Keeping.{written, torn}
use Rattle.col_disk.proofs.memory.MemDiskDisk.write.Goals as goal

pub returns-in-Ok-clause-writes : goal.returns-in-Ok-clause-writes
returns-in-Ok-clause-writes c =
    torn c.args.name c.args.bytes.now c.first_half.result.now c.args.self.now c.put.new.self
    (ap (λ (m : Memory). m.done) c.in-Ok.ensures.ok ∙ ap (λ (ds : List Did). ds ++ Wrote c.args.name c.first_half.result.now ∷ []) c.begin.ensures.kept)
    (subst (λ (n : ℕ). c.args.self.now.faults ≤ n) (sym (ap (λ (m : Memory). m.faults) c.in-Ok.ensures.ok)) c.begin.ensures.later) (ap (λ (m : Memory). m.changed) c.in-Ok.ensures.ok)

pub returns-in-Ok-put-clause-writes : goal.returns-in-Ok-put-clause-writes
returns-in-Ok-put-clause-writes c =
    written c.args.name c.args.bytes.now c.args.self.now c.put-2.new.self _
    (ap (λ (m : Memory). m.done) c.in-Ok-put.ensures.ok ∙ ap (λ (ds : List Did). ds ++ Wrote c.args.name c.args.bytes.now ∷ []) c.begin.ensures.kept)
    (subst (λ (n : ℕ). c.args.self.now.faults ≤ n) (sym (ap (λ (m : Memory). m.faults) c.in-Ok-put.ensures.ok)) c.begin.ensures.later) (ap (λ (m : Memory). m.changed) c.in-Ok-put.ensures.ok)
