use Rattle.std.proofs.Common.{◌≡◌, drop}
use Rattle.container_draft.specs.Leads.{key_but}
use Rattle.container_draft.proofs.leads.key_but.Given as goal

abbrev pub invariant-loop-column : goal.invariant-loop-column
invariant-loop-column l = key_but l.p l.q (drop l.column-index l.sort) ≡ key_but l.p l.q l.sort
