use Rattle.std.proofs.Common.{sym, subst}
use Rattle.std.proofs.lemmas.Result.{on_ok_weaker}
use Rattle.common_laws.specs.Maps.{Contents}
use Rattle.col_disk.specs.Calls.{Elsewhere}
use Rattle.col_disk.specs.Memory.{held_by}
use Rattle.col_disk.proofs.Moving.{insert_elsewhere, remove_elsewhere}
use Rattle.col_disk.proofs.memory.MemDisk.put_picked.Goals as goal

pub returns-in-Some-Bytes : goal.returns-in-Some-Bytes
returns-in-Some-Bytes c =
    on_ok_weaker c.place.result (λ is. subst (λ (m : Contents). Elsewhere c.args.name (held_by c.args.self.now) m) (sym is) (insert_elsewhere (held_by c.args.self.now) c.args.name _)) c.place.ensures.held

pub returns-in_default : goal.returns-in_default
returns-in_default c =
    on_ok_weaker c.take.result (λ is. subst (λ (m : Contents). Elsewhere c.args.name (held_by c.args.self.now) m) (sym is) (remove_elsewhere (held_by c.args.self.now) c.args.name)) c.take.ensures.held
