use Rattle.std.proofs.Common.{◌≤◌, arith}
use Rattle.col_disk.specs.declared.disk.DiskFault.TheVariants.{Memory}
use Rattle.store_core.proofs.Marked.{mark_does, stays_marked}
use Rattle.store_core.proofs.store.Store.set_mark.Goals as goal

pub returns-then-mark-now-clause-does : goal.returns-then-mark-now-clause-does
returns-then-mark-now-clause-does g c = λ state here within.
    let no_later : c.args.mark ≤ c.args.self.now.seen.catalogue.ahm = omega (arith, c.mark-now.ensures, c.if-mark-now.true) in
    stays_marked g.D.Disk c.args.disk.now c.args.self.now c.args.mark state here no_later

pub returns-clause-does : goal.returns-clause-does
returns-clause-does g c = λ state here within.
    let past : c.args.self.now.seen.catalogue.ahm ≤ c.args.mark = omega (arith, c.mark-now.ensures, c.if-mark-now.false) in
    mark_does g.D.Disk Memory c.self.inside.tables c.raise_mark.new.self c.self.inside.txns c.self.inside.current c.self.inside.mover c.drop_work.new.self c.args.self.now c.args.mark c.raise_mark.result state
    c.self.view_is here c.drop_work.ensures past (λ le. omega (arith, c.mark-now.ensures, c.if-mark-now.false, le)) (c.marks_up_to_the_last_good_epoch_are_sound.ensures state c.args.mark within here.sound) c.raise_mark.ensures.made c.raise_mark.ensures.drawn
