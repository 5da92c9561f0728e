use Rattle.std.proofs.Common.{◌≡◌, ℕ, ◌++◌, ◌∷◌, [], ◌+◌, ◌<◌, List, Option, Some, ap, ap₂, get_or, length, position, set, subst, sym, take, ◌∙◌, arith, rules}
use Rattle.std.proofs.lemmas.List.{length-set}
use Rattle.sql_bound.specs.Outputs.{keys_of, same_keys}
use Rattle.exec_group.specs.Codes.{AreNoted}
use Rattle.exec_group.specs.Columns.{row_of}
use Rattle.exec_group.specs.Groups.{met_one, AreEntered}
use Rattle.exec_group.proofs.Entering.{entered_more}
use Rattle.exec_group.proofs.Noted.{noted_more}
use Rattle.exec_group.proofs.held_keys.Keys.enter_coded.Goals as goal

pub loop-place-preserved : goal.loop-place-preserved
loop-place-preserved g c =
    let i = c.loop-place.place-index in
    let places = c.args.places.now in
    let p = get_or places i 0 in
    let key : ℕ → _ = λ q. keys_of c.args.keys.now (row_of c.args.columns.now q) in
    let code : ℕ → ℕ = g.C.Codes.code c.args.codes.now in
    let next = c.enter_noted.new.self in
    let group = c.in_ok-group.group in
    let noted = c.loop-place.noted.items in
    let met : next ≡ met_one c.loop-place.self (key p) = search rules in
    let there : position (λ k. same_keys k (key p)) next ≡ Some group = search rules in
    let out : c.push_reserved.new.self.items ≡ c.loop-place.out.items ++ group ∷ [] = search rules in
    let code_is : c.code-code.result ≡ code p = search rules in
    let slot : c.enter_noted.new.noted ≡ Some group = search rules in
    let after : set noted c.code-code.result c.enter_noted.new.noted ≡ set noted (code p) (Some group) = ap₂ (λ (k : ℕ) (o : Option ℕ). set noted k o) code_is slot in
    let inside : code p < length noted = subst (λ (n : ℕ). code p < n) (sym c.loop-place.invariant.long) (g.met.C.Codes.within c.args.codes.now p) in
    record {
      entered =
          subst (AreEntered key (take (i + 1) places) c.args.self.now next) (sym out)
          (entered_more key places i c.args.self.now c.loop-place.self next c.loop-place.out.items group c.loop-place-test.true met there c.loop-place.invariant.entered);
      noted = subst (λ (ns : List (Option ℕ)). AreNoted key code ns next) (sym after) (noted_more key code noted c.loop-place.self next p group c.requires inside met there c.loop-place.invariant.noted);
      long = ap (λ (ns : List (Option ℕ)). length ns) after ∙ length-set noted (code p) (Some group) ∙ c.loop-place.invariant.long;
      room = omega (arith, c.push_reserved.ensures.len, c.push_reserved.ensures.capacity, c.loop-place.invariant.room, c.loop-place-test.true);
    }
