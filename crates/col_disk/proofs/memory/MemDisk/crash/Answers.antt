use Rattle.std.proofs.Common.{◌≡◌, List, sym, ◌∙◌, ap, subst}
use Rattle.common_laws.specs.Maps.{Contents}
use Rattle.col_disk.specs.Dids.{ImagesOf, contents_of, replayed}
use Rattle.col_disk.specs.Memory.{Memory, held_by}
use Rattle.col_disk.proofs.Crashed.{split_image, held_settled}
use Rattle.col_disk.specs.declared.did.Did.{Did}
use Rattle.col_disk.proofs.memory.MemDisk.crash.Goals as goal

pub returns-clause-image : goal.returns-clause-image
returns-clause-image c =
    let first : held_by c.replay.new.self ≡ contents_of c.split_at.result.0.now = c.in_ok-replay.ensures ∙ ap (λ (d : Memory). replayed (held_by d) c.split_at.result.0.now) c.new-disk.ensures in
    let image : ImagesOf c.as_slice-dids.result.now (held_by c.replay_picked.new.self) =
    split_image c.as_slice-dids.result.now _ _ c.synced.result _ _ c.split_at.ensures.front c.split_at.ensures.back c.synced.ensures.none first c.in_ok-replay_picked.ensures in
    let done : c.as_slice-dids.result.now ≡ c.args.self.now.done = c.as_slice-dids.ensures.value ∙ ap (λ (d : Memory). d.done) c.self.view_is in
    let held : contents_of c.disk-3.inside.done.items ≡ held_by c.replay_picked.new.self = ap (λ (d : Memory). held_by d) c.disk-3.view_is ∙ held_settled c.replay_picked.new.self c.settle.new.self c.settle.ensures.noted in
    subst (λ (m : Contents). ImagesOf c.args.self.now.done m) (sym held) (subst (λ (ds : List Did). ImagesOf ds (held_by c.replay_picked.new.self)) done image)
