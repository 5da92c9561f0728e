use Rattle.store_opening.proofs.opening.cut_root.Goals as goal

pub returns-else-not-valid-clause-cut : goal.returns-else-not-valid-clause-cut
returns-else-not-valid-clause-cut g c = λ m n before after. let k = c.in-Ok.ensures.cut m n before after in record { last = k.last; ahm = k.ahm; tables = k.tables }
