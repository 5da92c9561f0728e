use Rattle.std.proofs.Common.{◌≡◌, ◌∙◌, ℤ, true, sym, subst, w64}
use Rattle.std.proofs.lemmas.Int.{to_z-of_z}
use Rattle.std.specs.List.{list_any}
use Rattle.std.specs.Ordering.{int_eq}
use Rattle.enc_delta.proofs.Lows.{among}
use Rattle.enc_delta.proofs.base.is_base.Goals as goal

pub returns-then-has_number : goal.returns-then-has_number
returns-then-has_number c =
    let back = to_z-of_z w64 c.args.base c.ranges.base in (
      λ t. among c.args.base c.args.numbers.now c.requires.number c.requires.low
          (subst (λ (x : ℤ). list_any (λ m. int_eq m x) c.args.numbers.now ≡ true) back (sym c.has_number.ensures ∙ c.if-has_number.true)),
      λ e. c.if-has_number.true,
    )
