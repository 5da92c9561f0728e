use Rattle.col_disk.specs.declared.disk.DiskFault.TheVariants.{Memory}
use Rattle.store_core.proofs.Events.{create_does}
use Rattle.store_core.proofs.store.Store.create_table.Goals as goal

pub returns-clause-does : goal.returns-clause-does
returns-clause-does g c = λ state here free.
    create_does g.D.Disk Memory c.self.inside.tables c.create_table.new.self c.self.inside.txns c.self.inside.current c.self.inside.mover c.drop_work.new.self c.args.self.now c.args.name c.args.columns c.create_table.result state c.self.view_is here c.drop_work.ensures
    (c.a_new_table_is_sound.ensures state c.args.name c.args.columns free here.sound) c.create_table.ensures.made c.create_table.ensures.drawn
