use Rattle.std.proofs.Common.{◌≡◌, ◌∙◌, ap}
use Rattle.std.specs.Prelude.{Ok}
use Rattle.std.specs.Fmt.{decimal}
use Rattle.std.proofs.lemmas.Fmt.{parse-decimal}
use Rattle.col_disk.proofs.folder.number_of.Goals as goal

-- what is a spelling is parsed as its number, and spelled back alike
pub returns-else-branch : goal.returns-else-branch
returns-else-branch c = λ n small is.
    let got : c.parse.result ≡ Ok n = parse-decimal 64 n c.args.text.now c.parse.result small small is c.parse.ensures.value.0 in
    let number : n ≡ c.in-Ok.number = cc in
    let spelled = c.in_ok-is_spelling-in-Ok.ensures.1 (is ∙ ap decimal number) in
    cc (spelled, c.if-branch.false)

pub returns-in-Err : goal.returns-in-Err
returns-in-Err c = λ n small is.
    let got : c.parse.result ≡ Ok n = parse-decimal 64 n c.args.text.now c.parse.result small small is c.parse.ensures.value.0 in
    cc
