-- The walk back, begun with what is shared and written behind.
use Rattle.std.proofs.Common.{◌≡◌, ◌++◌, List, [], ◌∷◌, Option, None, set, refl, ap, ap₂}
use Rattle.col_value.specs.declared.wide.Wide.{Wide}
use Rattle.sql_tree.specs.declared.query.WindowKind.{WindowKind}
use Rattle.exec_window.specs.declared.walk.Step.{Step}
use Rattle.exec_window.specs.Walks.{frame_of, shared, shared_of, value_of_step, written}

abbrev pub shared_with : List Step → Option Wide → Option Wide
shared_with [] sh = sh
shared_with (s ∷ ss) sh = shared_of s (frame_of s (shared_with ss sh))

abbrev pub written_with : WindowKind → List Step → Option Wide → List Wide → List Wide
written_with kind [] sh out = out
written_with kind (s ∷ ss) sh out = set (written_with kind ss sh out) s.place (value_of_step kind s (frame_of s (shared_with ss sh)))

shared_none : (ss : List Step) → shared_with ss None ≡ shared ss
shared_none [] = refl
shared_none (s ∷ ss) = ap (λ (sh : Option Wide). shared_of s (frame_of s sh)) (shared_none ss)

pub written_none : (kind : WindowKind) (ss : List Step) (out : List Wide) → written_with kind ss None out ≡ written kind ss out
written_none kind [] out = refl
written_none kind (s ∷ ss) out =
    ap₂ (λ (below : List Wide) (sh : Option Wide). set below s.place (value_of_step kind s (frame_of s sh))) (written_none kind ss out) (shared_none ss)

shared_last : (front : List Step) (s : Step) (sh : Option Wide) → shared_with (front ++ s ∷ []) sh ≡ shared_with front (shared_of s (frame_of s sh))
shared_last [] s sh = refl
shared_last (f ∷ front) s sh = ap (λ (o : Option Wide). shared_of f (frame_of f o)) (shared_last front s sh)

pub written_last : (kind : WindowKind) (front : List Step) (s : Step) (sh : Option Wide) (out : List Wide)
    → written_with kind (front ++ s ∷ []) sh out ≡ written_with kind front (shared_of s (frame_of s sh)) (set out s.place (value_of_step kind s (frame_of s sh)))
written_last kind [] s sh out = refl
written_last kind (f ∷ front) s sh out =
    ap₂ (λ (below : List Wide) (o : Option Wide). set below f.place (value_of_step kind f (frame_of f o))) (written_last kind front s sh out) (shared_last front s sh)
