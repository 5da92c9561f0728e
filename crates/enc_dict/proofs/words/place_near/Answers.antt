use Rattle.std.proofs.Common.{map, sym, ◌∙◌}
use Rattle.enc_dict.proofs.Ascending.{ascends_is}
use Rattle.enc_dict.proofs.Places.{word_place}
use Rattle.enc_dict.proofs.words.place_near.Goals as goal

pub returns-then-is_word : goal.returns-then-is_word
returns-then-is_word c =
    sym (word_place (map (λ w. w.now) c.args.words.now) c.args.guess c.args.value.now (ascends_is (map (λ w. w.now) c.args.words.now) c.requires) (sym c.is_word.ensures ∙ c.if-is_word.true))
