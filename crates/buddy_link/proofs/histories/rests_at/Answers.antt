use Rattle.std.proofs.Common.{ℕ, sym, subst}
use Rattle.std.proofs.lemmas.Result.{IfErr-weaker, IfOk-weaker}
use Rattle.store_commit.specs.Seen.{Seen, Stands}
use Rattle.catch_rows.specs.Sharing.{ShareAt}
use Rattle.buddy_link.proofs.histories.rests_at.Goals as goal

pub returns-clause-found : goal.returns-clause-found
returns-clause-found g c =
    IfOk-weaker c.rests_of.result _ _ (λ r found. λ a b here there.
    subst (λ (n : ℕ). ShareAt n c.args.place r.behind.items r.ahead.items a.database b.database) c.mark_of-mark.ensures
    (found a.database b.database (subst (λ (s : Seen). Stands g.A.Disk s c.args.at.now a.database) (sym c.stored.ensures) here.database) (subst (λ (s : Seen). Stands g.B.Disk s c.args.from.now b.database) (sym c.stored-2.ensures) there.database))) c.rests_of.ensures.found

pub returns-clause-short : goal.returns-clause-short
returns-clause-short g c =
    IfErr-weaker c.rests_of.result _ _ (λ fault short. λ a b here there.
    short a.database b.database (subst (λ (s : Seen). Stands g.A.Disk s c.args.at.now a.database) (sym c.stored.ensures) here.database) (subst (λ (s : Seen). Stands g.B.Disk s c.args.from.now b.database) (sym c.stored-2.ensures) there.database)) c.rests_of.ensures.short
