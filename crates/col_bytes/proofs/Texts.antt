-- The text that is read is the text that was spelled.
use Rattle.std.proofs.Common.{◌≡◌, ℕ, ◌^◌, ◌<◌, ◌≤◌, false, ltb, List, ◌++◌, length, take, drop, Some, refl, sym, ap, subst, ◌∙◌, append_assoc, arith}
use Rattle.std.proofs.lemmas.Bool.{ltb-false, le-ltb}
use Rattle.std.proofs.lemmas.List.{take_at, drop_at, take-append-drop, length-append, length-take}
use Rattle.std.proofs.lemmas.Option.{option_and_then_some}
use Rattle.col_bytes.specs.Spellings.{vint, text}
use Rattle.col_bytes.specs.Fronts.{vint_at, cut, text_at}
use Rattle.col_bytes.proofs.Codecs.{IsBytes, IsBytes-drop, Takes, Takes-then, IsCodec, let_through}
use Rattle.col_bytes.proofs.Vints.{vint_codec}

cut_takes : (bytes : List ℕ) (x : List ℕ × List ℕ) → IsBytes bytes → (n : ℕ × List ℕ) → vint_at bytes ≡ Some n → cut n ≡ Some x → Takes bytes (text x.0) x.1 × (length x.0 < 2 ^ 64)
cut_takes bytes x fits n is h =
    let t = vint_codec.takes bytes n fits is in
    let g = let_through (ltb (length n.1) n.0) (take n.0 n.1, drop n.0 n.1) x h in
    let long : n.0 ≤ length n.1 = ltb-false _ _ g.0 in
    let len : length (take n.0 n.1) ≡ n.0 = omega (arith, length-take n.0 n.1) in
    let second : Takes n.1 (take n.0 n.1) (drop n.0 n.1) = record { parts = sym (take-append-drop n.0 n.1); rest_fits = IsBytes-drop n.0 n.1 t.0.rest_fits } in
    let two = Takes-then bytes (vint n.0) n.1 (take n.0 n.1) (drop n.0 n.1) t.0 second in
    let whole : Takes bytes (text (take n.0 n.1)) (drop n.0 n.1) = subst (λ (k : ℕ). Takes bytes (vint k ++ take n.0 n.1) (drop n.0 n.1)) (sym len) two in
    subst (λ (p : List ℕ × List ℕ). Takes bytes (text p.0) p.1 × (length p.0 < 2 ^ 64)) g.1 (whole, omega (arith, t.1))

text_takes : (bytes : List ℕ) (x : List ℕ × List ℕ) → IsBytes bytes → text_at bytes ≡ Some x → Takes bytes (text x.0) x.1 × (length x.0 < 2 ^ 64)
unfolding text_at
text_takes bytes x fits e = option_and_then_some cut (vint_at bytes) x e (λ n is h. cut_takes bytes x fits n is h)

text_again : (t rest : List ℕ) → length t < 2 ^ 64 → text_at (text t ++ rest) ≡ Some (t, rest)
unfolding text_at
text_again t rest lt =
    let long : ltb (length (t ++ rest)) (length t) ≡ false = le-ltb _ _ (omega (arith, length-append t rest)) in
    let after : cut (length t, t ++ rest) ≡ Some (t, rest) = rw (long, take_at t rest (length t) refl, drop_at t rest (length t) refl) refl in
    ap text_at (append_assoc (vint (length t)) t rest) ∙ rw (vint_codec.again (length t) (t ++ rest) lt) after

pub text_codec : IsCodec text (λ t. length t < 2 ^ 64) text_at
text_codec = record { takes = text_takes; again = text_again }
