-- Bytes are a block of one list of values, and what is written is a block.
use Rattle.std.proofs.Common.{◌≡◌, ℕ, ◌≤◌, List, length, refl, sym, ap, subst, ◌∙◌}
use Rattle.std.specs.List.{list_all}
use Rattle.std.proofs.Common.{true, inl, inr}
use Rattle.std.proofs.lemmas.Bool.{cases_Bool}
use Rattle.col_value.specs.declared.kinds.Encoding.{Encoding}
use Rattle.col_value.specs.declared.kinds.Encoding.TheVariants as encoding
use Rattle.col_value.specs.declared.value.Value.{Value}
use Rattle.block_codec.specs.Blocks.{IsOneBlock}
use Rattle.enc_plain.proofs.Reading.{plain_one}
use Rattle.enc_rle.proofs.Reading.{rle_one}
use Rattle.enc_delta.proofs.Reading.{delta_one}
use Rattle.enc_delta.proofs.DateReading.{dates_one}
use Rattle.enc_dict.proofs.Reading.{dict_one}
use Rattle.block_choice.specs.declared.codec.Codec.{Codec}
use Rattle.block_choice.specs.declared.codec.Codec.TheVariants.{Rle, DeltaVal, BlockDict, Plain, DateDelta}
use Rattle.block_choice.specs.Codecs.{IsBlockOf, spelled_by}
use Rattle.block_choice.specs.Choice.{is_numeric, TakesAll, auto_codec, block_of, Accepts, SpellsAs}
use Rattle.block_choice.proofs.Shortest.{auto_fits, are_numeric, dates_where}
use Rattle.block_choice.proofs.Tags.{one_codec, some_bytes}

-- ---- one list

one_of : (c : Codec) (vs ws : List Value) → IsBlockOf c vs → IsBlockOf c ws → spelled_by c vs ≡ spelled_by c ws → vs ≡ ws
unfolding spelled_by
one_of Rle vs ws a b e = rle_one vs ws a b e
one_of DeltaVal vs ws a b e = delta_one vs ws a b e
one_of BlockDict vs ws a b e = dict_one vs ws a b e
one_of Plain vs ws a b e = plain_one vs ws a b e
one_of DateDelta vs ws a b e = dates_one vs ws a b e

pub one_list : (e f : Encoding) (vs ws : List Value) (bytes : List ℕ) → SpellsAs e vs bytes → SpellsAs f ws bytes → vs ≡ ws
one_list e f vs ws bytes a b =
    let same : spelled_by a.codec vs ≡ spelled_by b.codec ws = sym a.spelled ∙ b.spelled in
    let is : b.codec ≡ a.codec = sym (one_codec a.codec b.codec vs ws same) in
    one_of a.codec vs ws a.fits (subst (λ (c : Codec). IsBlockOf c ws) is b.fits) (same ∙ ap (λ (c : Codec). spelled_by c ws) is)

block : (c : Codec) (vs : List Value) → IsBlockOf c vs → IsOneBlock vs
block Rle vs is = is
block DeltaVal vs is = is.block
block BlockDict vs is = is
block Plain vs is = is
block DateDelta vs is = is.block

pub is_block : (e : Encoding) (vs : List Value) (bytes : List ℕ) → SpellsAs e vs bytes → IsOneBlock vs
is_block e vs bytes spells = block spells.codec vs spells.fits

-- ---- what is written

named : (c : Codec) (vs : List Value) → IsBlockOf c vs → (e : Encoding) → Accepts e c → SpellsAs e vs (spelled_by c vs)
named c vs fits e accepted = record { codec = c; accepted = accepted; fits = fits; spelled = refl }

pub written : (e : Encoding) (vs : List Value) → IsOneBlock vs → TakesAll e vs → SpellsAs e vs (block_of e vs)
unfolding block_of
written encoding.Auto vs is all = named (auto_codec vs) vs (auto_fits vs is) encoding.Auto tt
written encoding.Rle vs is all = named Rle vs is encoding.Rle refl
written encoding.DeltaVal vs is all =
    elim (cases_Bool (list_all is_numeric vs)) [
      | inl are ↦ rw are (named DeltaVal vs (record { block = is; numeric = are_numeric vs are }) encoding.DeltaVal (inl refl))
      | inr other ↦ rw other (named DateDelta vs (dates_where vs is all other) encoding.DeltaVal (inr refl))
    ]
written encoding.BlockDict vs is all = named BlockDict vs is encoding.BlockDict refl
written encoding.Plain vs is all = named Plain vs is encoding.Plain refl

pub numbers_block : (e : Encoding) (vs : List Value) → e ≡ encoding.DeltaVal → list_all is_numeric vs ≡ true → block_of e vs ≡ spelled_by DeltaVal vs
unfolding block_of
numbers_block e vs is are =
    let here : block_of encoding.DeltaVal vs ≡ spelled_by DeltaVal vs = rw are refl in
    ap (λ (x : Encoding). block_of x vs) is ∙ here

pub block_some : (e : Encoding) (vs : List Value) → 1 ≤ length (block_of e vs)
unfolding block_of
block_some encoding.Auto vs = some_bytes (auto_codec vs) vs
block_some encoding.Rle vs = some_bytes Rle vs
block_some encoding.DeltaVal vs =
    elim (cases_Bool (list_all is_numeric vs)) [
      | inl are ↦ rw are (some_bytes DeltaVal vs)
      | inr other ↦ rw other (some_bytes DateDelta vs)
    ]
block_some encoding.BlockDict vs = some_bytes BlockDict vs
block_some encoding.Plain vs = some_bytes Plain vs
