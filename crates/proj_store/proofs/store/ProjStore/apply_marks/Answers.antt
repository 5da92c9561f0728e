use Rattle.proj_store.proofs.Prepared.{sound_marked}
use Rattle.proj_store.proofs.store.ProjStore.apply_marks.Goals as goal

pub invariant_of-self : goal.invariant_of-self
invariant_of-self c =
    sound_marked c.args.epoch c.self.inside.entry c.self.inside.kept.items c.mark_all.new.kept.items c.self.inside.unsaved c.args.self.now c.ready.inside.each.items c.as_slice.result.now c.ready.inside.unsaved.items c.args.ready c.self.view_is c.ready.view_is
    c.as_slice.ensures.value c.self.invariant c.requires.inside c.mark_all.ensures
