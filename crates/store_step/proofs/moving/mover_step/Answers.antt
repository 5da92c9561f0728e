use Rattle.store_step.proofs.Moved.{mover_stepped}
use Rattle.store_step.proofs.moving.mover_step.Goals as goal

pub returns-clause-moves : goal.returns-clause-moves
returns-clause-moves g c = λ state here.
    mover_stepped g.D.Disk c.args.store.now c.step_mover.new.self c.step_mover.result state (λ made steps sound. c.moves_keep_states_sound.ensures.mover state made steps sound) here (c.step_mover.ensures.steps state here)
