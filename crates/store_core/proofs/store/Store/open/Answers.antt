use Rattle.std.proofs.Common.{inl, arith}
use Rattle.store_core.proofs.Opening.{opened_is}
use Rattle.store_core.proofs.store.Store.open.Goals as goal

pub returns-in-Ok-open-clause-opened : goal.returns-in-Ok-open-clause-opened
returns-in-Ok-open-clause-opened g c = λ m d told reopens. opened_is g.D.Disk c.open.new.disk c.in-Ok-open.tables c.in-Ok.txns c.idle.result m d c.in-Ok.ensures c.idle.ensures (c.in-Ok-open.ensures.stands m d told reopens) (c.in-Ok-open.ensures.numbers m d told reopens)

pub returns-in-Err-clause-any_moment : goal.returns-in-Err-clause-any_moment
returns-in-Err-clause-any_moment g c = λ m d told reopens. record { later = omega arith; since_then = λ x is. inl is; each = λ t x le is. inl is }
