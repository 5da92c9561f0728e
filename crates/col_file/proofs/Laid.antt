-- The blocks of written values lie one behind the other, as their index says.
use Rattle.std.proofs.Common.{◌≡◌, ℕ, zero, suc, ◌+◌, ◌-◌, ◌*◌, ◌^◌, ◌<◌, ◌≤◌, true, List, [], ◌∷◌, ◌++◌, length, take, drop, refl, sym, ap, subst, ◌∙◌, append_assoc, arith}
use Rattle.std.specs.Prelude.{min, not}
use Rattle.std.specs.List.{AllByRecursion, All}
use Rattle.std.proofs.Math.ListN.{drop_of_length-le}
use Rattle.std.proofs.Math.Seq.{drop-append_seam, take-append_seam}
use Rattle.std.proofs.lemmas.Bool.{and_from, le-ltb}
use Rattle.std.proofs.lemmas.List.{append-nil, length-append, length-take, length-drop, drop-drop, take-append-drop}
use Rattle.std.proofs.lemmas.List.Elements.{All-take, All-drop, All-from_recursion}
use Rattle.col_value.specs.declared.kinds.Encoding.{Encoding}
use Rattle.col_value.specs.declared.value.Value.{Value}
use Rattle.value_bytes.specs.Spelling.{IsSpelled}
use Rattle.block_codec.specs.Blocks.{IsOneBlock}
use Rattle.block_choice.specs.Choice.{TakesAll, block_of, SpellsAs}
use Rattle.block_choice.proofs.Spelled.{written, block_some}
use Rattle.block_choice.proofs.Taken.{front_taken, rest_taken}
use Rattle.pos_index.specs.declared.index.Entry.{Entry}
use Rattle.pos_index.specs.Index.{blocks, IsIndex, Fits}
use Rattle.pos_index.specs.Built.{nth_block, entry_of, entries_of, are_rising, ArePlaces}
use Rattle.pos_index.proofs.Building.{built_index, built_fits}
use Rattle.pos_index.proofs.Extremes.{between_all}
use Rattle.col_file.specs.Column.{first_blocks, body_spelling, first_places, column_index}
use Rattle.col_file.specs.Read.{IsBlock, end_of}
use Rattle.col_file.specs.Held.{first_of, HasBlocks}

-- the places of so many blocks from block k on
abbrev pub places_from : Encoding → ℕ → ℕ → List Value → List ℕ
places_from encoding k zero vs = []
places_from encoding k (suc n) vs = length (first_blocks encoding k vs) ∷ places_from encoding (suc k) n vs

places_split : (encoding : Encoding) (j k n : ℕ) (vs : List Value) → j ≡ k + n → first_places encoding j vs ≡ first_places encoding k vs ++ places_from encoding k n vs
places_split encoding j k zero vs e =
    let same : j ≡ k = omega (arith, e) in
    ap (λ (i : ℕ). first_places encoding i vs) same ∙ sym (append-nil (first_places encoding k vs))
places_split encoding j k (suc n) vs e =
    let up : j ≡ suc k + n = omega (arith, e) in
    places_split encoding j (suc k) n vs up ∙ append_assoc (first_places encoding k vs) (length (first_blocks encoding k vs) ∷ []) (places_from encoding (suc k) n vs)

all_places : (encoding : Encoding) (n : ℕ) (vs : List Value) → first_places encoding n vs ≡ places_from encoding 0 n vs
all_places encoding n vs = places_split encoding n 0 n vs (omega arith)

blocks_split : (encoding : Encoding) (j k n : ℕ) (vs : List Value) → j ≡ k + n → (rest : List ℕ) × (first_blocks encoding j vs ≡ first_blocks encoding k vs ++ rest)
blocks_split encoding j k zero vs e =
    let same : j ≡ k = omega (arith, e) in
    ([], ap (λ (i : ℕ). first_blocks encoding i vs) same ∙ sym (append-nil (first_blocks encoding k vs)))
blocks_split encoding j k (suc n) vs e =
    let up : j ≡ suc k + n = omega (arith, e) in
    let more = blocks_split encoding j (suc k) n vs up in
    (block_of encoding (nth_block k vs) ++ more.0, more.1 ∙ append_assoc (first_blocks encoding k vs) (block_of encoding (nth_block k vs)) more.0)

grown : (encoding : Encoding) (k : ℕ) (vs : List Value) → length (first_blocks encoding k vs) + 1 ≤ length (first_blocks encoding (suc k) vs)
grown encoding k vs =
    let all : length (first_blocks encoding (suc k) vs) ≡ length (first_blocks encoding k vs) + length (block_of encoding (nth_block k vs)) = length-append (first_blocks encoding k vs) (block_of encoding (nth_block k vs)) in
    omega (arith, all, block_some encoding (nth_block k vs))

-- ---- the places

places_long : (encoding : Encoding) (k n : ℕ) (vs : List Value) → length (places_from encoding k n vs) ≡ n
places_long encoding k zero vs = refl
places_long encoding k (suc n) vs = ap suc (places_long encoding (suc k) n vs)

rising : (encoding : Encoding) (k n from : ℕ) (vs : List Value) → from ≤ length (first_blocks encoding k vs) → are_rising from (places_from encoding k n vs) ≡ true
rising encoding k zero from vs le = refl
rising encoding k (suc n) from vs le =
    let above = ap not (le-ltb (length (first_blocks encoding k vs)) from le) in
    and_from _ _ above (rising encoding (suc k) n (length (first_blocks encoding k vs) + 1) vs (grown encoding k vs))

starting : (encoding : Encoding) (rows n : ℕ) (vs : List Value) → n ≡ blocks rows → ArePlaces rows (places_from encoding 0 n vs)
starting encoding rows zero vs e = record { long = e; first = refl; rising = refl }
starting encoding rows (suc n) vs e = record { long = places_long encoding 0 (suc n) vs ∙ e; first = refl; rising = rising encoding 0 (suc n) 0 vs (omega arith) }

pub are_places : (encoding : Encoding) (vs : List Value) → ArePlaces (length vs) (first_places encoding (blocks (length vs)) vs)
are_places encoding vs =
    subst (ArePlaces (length vs)) (sym (all_places encoding (blocks (length vs)) vs)) (starting encoding (length vs) (blocks (length vs)) vs refl)

abbrev IsWide : ℕ → Type 0
IsWide p = p < 2 ^ 64

places_wide : (encoding : Encoding) (j k n : ℕ) (vs : List Value) → j ≡ k + n → length (first_blocks encoding j vs) < 2 ^ 64 → AllByRecursion IsWide (places_from encoding k n vs)
places_wide encoding j k zero vs e small = tt
places_wide encoding j k (suc n) vs e small =
    let up : j ≡ suc k + n = omega (arith, e) in
    let behind = blocks_split encoding j k (suc n) vs e in
    let long : length (first_blocks encoding j vs) ≡ length (first_blocks encoding k vs) + length behind.0 = ap length behind.1 ∙ length-append (first_blocks encoding k vs) behind.0 in
    (omega (arith, long, small), places_wide encoding j (suc k) n vs up small)

-- ---- the index

pub written_index : (encoding : Encoding) (vs : List Value) → 0 < length vs → IsIndex (column_index encoding vs)
written_index encoding vs some = built_index vs (first_places encoding (blocks (length vs)) vs) some (are_places encoding vs)

pub written_fits : (encoding : Encoding) (vs : List Value) → 0 < length vs → length vs < 2 ^ 64 → length (body_spelling encoding vs) < 2 ^ 64 → All IsSpelled vs → Fits (column_index encoding vs)
written_fits encoding vs some few small all =
    let n : ℕ = blocks (length vs) in
    let wide : All IsWide (first_places encoding n vs) = subst (All IsWide) (sym (all_places encoding n vs)) (All-from_recursion IsWide (places_from encoding 0 n vs) (places_wide encoding n 0 n vs (omega arith) small)) in
    built_fits vs (first_places encoding n vs) some few all wide (are_places encoding vs)

-- ---- the blocks

last_block : (n : ℕ) → 0 < n → 1024 * blocks n < n + 1024
last_block n some = omega (arith, some)

cut_out : (a b c bytes : List ℕ) (end : ℕ) → bytes ≡ (a ++ b) ++ c → end ≡ length (a ++ b) → take (end - length a) (drop (length a) bytes) ≡ b
cut_out a b c bytes end is at_end =
    let long : end - length a ≡ length b = omega (arith, at_end, length-append a b) in
    let behind : drop (length a) bytes ≡ b ++ c = ap (drop (length a)) (is ∙ append_assoc a b c) ∙ drop-append_seam a (b ++ c) in
    rw (long, behind) (take-append_seam b c)

-- the entries of so many blocks from block k on
abbrev entries_from : Encoding → ℕ → ℕ → List Value → List Entry
entries_from encoding k n vs = entries_of k (places_from encoding k n vs) vs

end_there : (encoding : Encoding) (j k n : ℕ) (vs : List Value) → j ≡ suc k + n → end_of (first_of (entries_from encoding (suc k) n vs)) (first_blocks encoding j vs) ≡ length (first_blocks encoding (suc k) vs)
end_there encoding j k zero vs e = let same : j ≡ suc k = omega (arith, e) in ap (λ (i : ℕ). length (first_blocks encoding i vs)) same
end_there encoding j k (suc n) vs e = refl

pub one_block : (k : ℕ) (vs : List Value) → 1024 * k < length vs → All IsSpelled vs → IsOneBlock (nth_block k vs)
one_block k vs lt all =
    let long : length (nth_block k vs) ≡ min 1024 (length vs - 1024 * k) = length-take 1024 (drop (1024 * k) vs) ∙ ap (min 1024) (length-drop (1024 * k) vs) in
    record { some = omega (arith, long, lt); few = omega (arith, long); values = All-take IsSpelled 1024 (drop (1024 * k) vs) (All-drop IsSpelled (1024 * k) vs all) }

pub block_taken : (encoding : Encoding) (k : ℕ) (vs : List Value) → TakesAll encoding vs → TakesAll encoding (nth_block k vs)
block_taken encoding k vs taken = front_taken encoding 1024 (drop (1024 * k) vs) (rest_taken encoding (1024 * k) vs taken)

block_laid : (k place : ℕ) (vs : List Value) → 1024 * k < length vs → All IsSpelled vs → IsBlock (length vs) (entry_of k place vs) (nth_block k vs)
block_laid k place vs lt all = record {
  values = one_block k vs lt all;
  long = length-take 1024 (drop (1024 * k) vs) ∙ ap (min 1024) (length-drop (1024 * k) vs);
  between = between_all (nth_block k vs);
}

blocks_laid : (encoding : Encoding) (j k n : ℕ) (vs : List Value) → j ≡ k + n → 1024 * j < length vs + 1024 → length vs ≤ 1024 * j → All IsSpelled vs → TakesAll encoding vs
    → HasBlocks encoding (length vs) (first_blocks encoding j vs) (entries_from encoding k n vs) (drop (1024 * k) vs)
blocks_laid encoding j k zero vs e last whole all kinds =
    let past : length vs ≤ 1024 * k = omega (arith, e, whole) in
    drop_of_length-le vs past
blocks_laid encoding j k (suc n) vs e last whole all kinds =
    let up : j ≡ suc k + n = omega (arith, e) in
    let lt : 1024 * k < length vs = omega (arith, e, last) in
    let rest = blocks_split encoding j (suc k) n vs up in
    let next : 1024 * k + 1024 ≡ 1024 * suc k = omega arith in
    let block : List ℕ = block_of encoding (nth_block k vs) in
    let there = cut_out (first_blocks encoding k vs) block rest.0 (first_blocks encoding j vs) (end_of (first_of (entries_from encoding (suc k) n vs)) (first_blocks encoding j vs)) rest.1 (end_there encoding j k n vs up) in
    let parts : drop (1024 * k) vs ≡ nth_block k vs ++ drop (1024 * suc k) vs = sym (take-append-drop 1024 (drop (1024 * k) vs)) ∙ ap (λ (ws : List Value). nth_block k vs ++ ws) (drop-drop 1024 (1024 * k) vs ∙ ap (λ (i : ℕ). drop i vs) next) in (
      nth_block k vs,
      drop (1024 * suc k) vs,
      block_laid k (length (first_blocks encoding k vs)) vs lt all,
      subst (SpellsAs encoding (nth_block k vs)) (sym there) (written encoding (nth_block k vs) (one_block k vs lt all) (block_taken encoding k vs kinds)),
      blocks_laid encoding j (suc k) n vs up last whole all kinds,
      parts,
    )

pub written_blocks : (encoding : Encoding) (vs : List Value) → 0 < length vs → All IsSpelled vs → TakesAll encoding vs → HasBlocks encoding (length vs) (body_spelling encoding vs) (entries_of 0 (first_places encoding (blocks (length vs)) vs) vs) vs
written_blocks encoding vs some all kinds =
    let n : ℕ = blocks (length vs) in
    let whole : length vs ≤ 1024 * blocks (length vs) = omega arith in
    subst (λ (ps : List ℕ). HasBlocks encoding (length vs) (body_spelling encoding vs) (entries_of 0 ps vs) vs) (sym (all_places encoding n vs))
    (blocks_laid encoding n 0 n vs (omega arith) (last_block (length vs) some) whole all kinds)
