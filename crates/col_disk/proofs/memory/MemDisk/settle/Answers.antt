use Rattle.std.specs.Vec.{vec_len, vec_capacity}
use Rattle.std.proofs.Common.{◌≡◌, ◌++◌, ◌∷◌, [], false, List, sym, ◌∙◌, subst}
use Rattle.common_laws.specs.Maps.{Contents}
use Rattle.col_disk.specs.declared.did.Did.{Did}
use Rattle.col_disk.specs.Dids.{IsMemDisk, ImagesOf, contents_of}
use Rattle.col_disk.proofs.Keeping.{kept_synced, synced_only}
use Rattle.col_disk.proofs.memory.MemDisk.settle.Goals as goal

pub invariant_of-self : goal.invariant_of-self
invariant_of-self c =
    subst (λ (ds : List Did). IsMemDisk c.self.inside.held ds false (vec_len c.push_reserved.new.self) (vec_capacity c.push_reserved.new.self)) (sym c.push_reserved.ensures.items)
    (kept_synced c.self.inside.held c.self.inside.done.items c.self.inside.dirty (vec_len c.self.inside.done) (vec_capacity c.self.inside.done) (vec_len c.push_reserved.new.self) (vec_capacity c.push_reserved.new.self) c.self.invariant)

pub returns-then-self-clause-settled : goal.returns-then-self-clause-settled
returns-then-self-clause-settled c =
    subst (λ (ds : List Did). (m : Contents) → ImagesOf ds m → m ≡ contents_of ds) (sym c.push_reserved.ensures.items) (synced_only c.self.inside.done.items)
