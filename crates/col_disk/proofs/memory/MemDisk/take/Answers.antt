use Rattle.std.specs.Vec.{vec_len, vec_capacity}
use Rattle.std.proofs.Common.{◌≡◌, ◌++◌, ◌∷◌, [], true, List, refl, sym, ◌∙◌, ap, subst, arith}
use Rattle.col_disk.specs.declared.did.Did.{Did}
use Rattle.col_disk.specs.declared.did.Did.TheVariants.{Placed, Wrote, Removed, Kept, Synced}
use Rattle.col_disk.specs.Dids.{IsMemDisk, contents_of}
use Rattle.col_disk.specs.Done.{replayed_more}
use Rattle.col_disk.specs.Memory.{Memory, held_by}
use Rattle.std.specs.FinMap.{empty, remove}
use Rattle.col_disk.proofs.Keeping.{kept_more}
use Rattle.col_disk.proofs.memory.MemDisk.take.Goals as goal

pub invariant_of-self-2 : goal.invariant_of-self-2
invariant_of-self-2 c =
    let items : c.push_reserved.new.self.items ≡ c.self.inside.done.items ++ Removed c.args.name ∷ [] = c.push_reserved.ensures.items ∙ ap (λ (ds : List Did). ds ++ Removed c.args.name ∷ []) c.in_ok-reserve.ensures.items in
    subst (λ (ds : List Did). IsMemDisk c.take.new.self ds true (vec_len c.push_reserved.new.self) (vec_capacity c.push_reserved.new.self)) (sym items)
    (kept_more c.self.inside.held c.take.new.self c.self.inside.done.items (Removed c.args.name) c.self.inside.dirty (vec_len c.self.inside.done) (vec_capacity c.self.inside.done) (vec_len c.push_reserved.new.self) (vec_capacity c.push_reserved.new.self) c.take.ensures
    (omega (arith, c.in_ok-reserve.ensures.ok, c.push_reserved.ensures.len, c.push_reserved.ensures.capacity)) c.self.invariant)

pub returns-clause-held : goal.returns-clause-held
returns-clause-held c =
    let items : c.push_reserved.new.self.items ≡ c.self.inside.done.items ++ Removed c.args.name ∷ [] = c.push_reserved.ensures.items ∙ ap (λ (ds : List Did). ds ++ Removed c.args.name ∷ []) c.in_ok-reserve.ensures.items in
    ap contents_of items ∙ replayed_more empty c.self.inside.done.items (Removed c.args.name) ∙ ap (λ (d : Memory). remove (held_by d) c.args.name) c.self.view_is
