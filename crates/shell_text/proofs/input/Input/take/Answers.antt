use Rattle.std.proofs.Common.{◌≡◌, ◌+◌, ◌++◌, ◌∙◌, ℕ, List, take, drop, sym, ap}
use Rattle.shell_text.proofs.Cuts.{front_and_rest}
use Rattle.shell_text.proofs.input.Input.take.Goals as goal

pub returns-clause-joined : goal.returns-clause-joined
returns-clause-joined c =
    let bytes = c.self.inside.bytes.items in
    let at = c.self.inside.at in
    let size = c.in-Some.place.size in
    let rest : c.behind-rest.result.now ≡ drop at bytes = c.behind-rest.ensures ∙ ap (drop at) c.as_slice.ensures.value in
    let copied : c.in_ok-bytes.bytes.items ≡ take size (drop at bytes) = c.in_ok-bytes.ensures.items ∙ c.before-2.ensures ∙ ap (take size) rest in
    sym c.self.view_is ∙ front_and_rest bytes at size ∙ ap (λ (t : List ℕ). t ++ drop (at + size) bytes) (sym copied)
