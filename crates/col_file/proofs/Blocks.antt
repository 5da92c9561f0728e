-- The values that were read are those of the block, or its bytes are no block.
use Rattle.std.proofs.Common.{◌≡◌, ℕ, ◌-◌, Bool, true, false, eqb, eq-eqb, List, length, refl, sym, subst}
use Rattle.std.specs.Prelude.{min, ◌&&◌}
use Rattle.std.specs.List.{list_all}
use Rattle.std.proofs.lemmas.Bool.{eqb-true}
use Rattle.col_disk.specs.declared.disk.StoreFault.{StoreFault}
use Rattle.col_disk.specs.declared.disk.StoreFault.TheVariants.{Disk, Damaged, Memory}
use Rattle.col_value.specs.declared.kinds.Encoding.{Encoding}
use Rattle.col_value.specs.declared.value.Value.{Value}
use Rattle.block_choice.specs.Choice.{SpellsAs}
use Rattle.block_choice.proofs.Spelled.{one_list, is_block}
use Rattle.pos_index.specs.declared.index.Entry.{Entry}
use Rattle.pos_index.proofs.Reading.{and_true}
use Rattle.col_file.specs.Read.{Blames, SpellsBlock, IsBlock, is_between}

abbrev pub test : ℕ → Entry → List Value → Bool
test rows e vs = eqb (length vs) (min 1024 (rows - e.first)) && list_all (is_between e) vs

pub block_is : (encoding : Encoding) (rows : ℕ) (e : Entry) (vs : List Value) (bytes : List ℕ) → SpellsAs encoding vs bytes → test rows e vs ≡ true → IsBlock rows e vs
block_is encoding rows e vs bytes spells told =
    let a = and_true (eqb (length vs) (min 1024 (rows - e.first))) (list_all (is_between e) vs) told in
    record { values = is_block encoding vs bytes spells; long = eqb-true _ _ a.0; between = a.1 }

told_true : (rows : ℕ) (e : Entry) (vs : List Value) → IsBlock rows e vs → test rows e vs ≡ true
told_true rows e vs is = rw (eq-eqb (length vs) (min 1024 (rows - e.first)) is.long, is.between) refl

pub block_not : (encoding : Encoding) (rows : ℕ) (e : Entry) (vs : List Value) (bytes : List ℕ) → SpellsAs encoding vs bytes → test rows e vs ≡ false → SpellsBlock encoding rows e bytes → ⊥
block_not encoding rows e vs bytes spells told (us, is, spelled) =
    let same : vs ≡ us = one_list encoding encoding vs us bytes spells spelled in
    let also : test rows e vs ≡ true = subst (λ (ws : List Value). test rows e ws ≡ true) (sym same) (told_true rows e us is) in
    absurd (cc)

pub blames : (name : ℕ) (P Q : Type 0) (fault : StoreFault) → (P → Q) → Blames name P fault → Blames name Q fault
blames name P Q (Damaged n) h given = (given.0, h given.1)
blames name P Q Disk h given = tt
blames name P Q Memory h given = tt
