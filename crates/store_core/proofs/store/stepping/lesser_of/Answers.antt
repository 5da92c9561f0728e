use Rattle.std.proofs.Common.{◌≡◌, ◌∙◌, [], ap₂, get_or, sym}
use Rattle.std.proofs.lemmas.List.{get_or_default}
use Rattle.store_core.specs.Stepping.{is_less}
use Rattle.store_core.proofs.LeastNames.{lesser_comes, other_comes}
use Rattle.store_core.proofs.store.stepping.lesser_of.Goals as goal

pub returns-then-is_less-clause-least : goal.returns-then-is_less-clause-least
returns-then-is_less-clause-least c = λ seen none.
    let names = c.args.names.now in
    let p : c.index-names-place.result ≡ get_or names c.args.place [] = c.index-names-place.is ∙ get_or_default names c.args.place _ [] c.requires.place in
    let b : c.index-names-best.result ≡ get_or names c.args.best [] = c.index-names-best.is ∙ get_or_default names c.args.best _ [] c.requires.best in
    lesser_comes (get_or names c.args.best []) (get_or names c.args.place []) seen (sym (ap₂ is_less p b) ∙ (sym c.is_less.ensures ∙ c.if-is_less.true)) none

pub returns-else-is_less-clause-least : goal.returns-else-is_less-clause-least
returns-else-is_less-clause-least c = λ seen none.
    let names = c.args.names.now in
    let p : c.index-names-place.result ≡ get_or names c.args.place [] = c.index-names-place.is ∙ get_or_default names c.args.place _ [] c.requires.place in
    let b : c.index-names-best.result ≡ get_or names c.args.best [] = c.index-names-best.is ∙ get_or_default names c.args.best _ [] c.requires.best in
    other_comes (get_or names c.args.best []) (get_or names c.args.place []) seen (sym (ap₂ is_less p b) ∙ (sym c.is_less.ensures ∙ c.if-is_less.false)) none
