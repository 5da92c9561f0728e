use Rattle.state_laws.proofs.Events.{drawn_sound}
use Rattle.state_laws.proofs.laws.an_event_may_draw.Goals as goal

pub returns : goal.returns
returns c = drawn_sound
