use Rattle.std.specs.Vec.{vec_len, vec_capacity}
use Rattle.std.proofs.Common.{◌≡◌, ◌++◌, ◌∷◌, [], true, List, ℕ, refl, sym, ◌∙◌, ap, subst, arith}
use Rattle.col_disk.specs.declared.did.Did.{Did}
use Rattle.col_disk.specs.declared.did.Did.TheVariants.{Placed, Wrote, Removed, Kept, Synced}
use Rattle.col_disk.specs.Dids.{IsMemDisk}
use Rattle.col_disk.proofs.Keeping.{kept_more}
use Rattle.col_disk.proofs.memory.MemDisk.put.Goals as goal

pub invariant_of-self-2 : goal.invariant_of-self-2
invariant_of-self-2 c =
    let items : c.push_reserved.new.self.items ≡ c.self.inside.done.items ++ Wrote c.args.name c.args.bytes.now ∷ [] = c.push_reserved.ensures.items ∙ ap (λ (v : List ℕ). c.hold.new.done.items ++ Wrote c.args.name v ∷ []) (c.new-kept.ensures ∙ c.in_ok-from_slice.ensures.items) ∙ ap (λ (ds : List Did). ds ++ Wrote c.args.name c.args.bytes.now ∷ []) c.in_ok-hold.ensures.items in
    subst (λ (ds : List Did). IsMemDisk c.hold.new.held ds true (vec_len c.push_reserved.new.self) (vec_capacity c.push_reserved.new.self)) (sym items)
    (kept_more c.self.inside.held c.hold.new.held c.self.inside.done.items (Wrote c.args.name c.args.bytes.now) c.self.inside.dirty (vec_len c.self.inside.done) (vec_capacity c.self.inside.done) (vec_len c.push_reserved.new.self) (vec_capacity c.push_reserved.new.self) c.in_ok-hold.ensures.put
    (omega (arith, c.in_ok-hold.ensures.room, c.push_reserved.ensures.len, c.push_reserved.ensures.capacity)) c.self.invariant)
