use Rattle.std.proofs.Common.{◌≡◌, ◌∙◌, map, rules, sym}
use Rattle.std.specs.Prelude.{option_map, string_bytes}
use Rattle.std.proofs.lemmas.Result.{IfOk-weaker}
use Rattle.clap.specs.Words.{found_of, rows_of}
use Rattle.run_words.specs.Words.{asked_for, wanted}
use Rattle.run_words.specs.Told.{told}
use Rattle.run_words.proofs.Parses.{refused, taken}
use Rattle.run_words.proofs.reading.read_words.Goals as goal

pub returns-in-Ok : goal.returns-in-Ok
returns-in-Ok c =
    IfOk-weaker c.asked_for.result (λ w. option_map told w ≡ asked_for (rows_of (found_of c.in-Ok.matches))) (λ w. option_map told w ≡ wanted (map string_bytes c.args.words.now))
    (λ w e. e ∙ taken _ (map string_bytes c.args.words.now) c.in-Ok.matches c.in_ok-command.ensures c.in-Ok.ensures.matches c.in-Ok.ensures.kinds) c.asked_for.ensures

pub returns-in-Err-2 : goal.returns-in-Err-2
returns-in-Err-2 c = sym (refused _ (map string_bytes c.args.words.now) c.in-Err-2.field-0 c.in_ok-command.ensures c.in-Err-2.ensures.kinds (search rules))
