use Rattle.std.proofs.Common.{rules, ap₂, ◌≡◌, ◌∙◌}
use Rattle.std.proofs.lemmas.Result.{IfOk-weaker}
use Rattle.clap.specs.Words.{app_of, with_rule}
use Rattle.run_words.specs.Command.{bare}
use Rattle.run_words.proofs.command.command.Goals as goal

pub returns : goal.returns
returns c =
    let bare_is : app_of c.disable_version_flag.result ≡ bare = search rules in
    let one = c.in_ok-arg.ensures.shape c.dir.ensures.own ∙ ap₂ with_rule bare_is c.dir.ensures.rule in
    let two = c.in_ok-arg-2.ensures.shape c.option.ensures.own ∙ ap₂ with_rule one c.option.ensures.rule in
    let three = c.in_ok-arg-3.ensures.shape c.flag.ensures.own ∙ ap₂ with_rule two c.flag.ensures.rule in
    let four = c.in_ok-arg-4.ensures.shape c.flag-2.ensures.own ∙ ap₂ with_rule three c.flag-2.ensures.rule in
    let five = c.in_ok-arg-5.ensures.shape c.option-2.ensures.own ∙ ap₂ with_rule four c.option-2.ensures.rule in
    let six = c.in_ok-arg-6.ensures.shape c.option-3.ensures.own ∙ ap₂ with_rule five c.option-3.ensures.rule in
    IfOk-weaker c.arg-7.result _ _ (λ n h. h.shape c.script.ensures.own ∙ ap₂ with_rule six c.script.ensures.rule) c.arg-7.ensures
