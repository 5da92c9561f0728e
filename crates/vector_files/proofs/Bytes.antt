-- Vectors and their files.
use Rattle.std.proofs.Common.{◌≡◌, ◌<◌, ℕ, List, Bool, true, false, sym, ◌∙◌, ap, subst}
use Rattle.std.specs.Prelude.{Option, Some, None, Result, Ok, Err, OnOk}
use Rattle.std.specs.Bool.{IsTrue}
use Rattle.std.specs.List.{All}
use Rattle.std.specs.Option.{option_map}
use Rattle.std.specs.FinMap.{get, insert}
use Rattle.common_laws.specs.Maps.{Contents}
use Rattle.catalog_types.specs.declared.catalogue.Container.{Container}
use Rattle.col_disk.specs.Calls.{WriteLeaves}
use Rattle.col_disk.specs.declared.disk.DiskFault.{DiskFault}
use Rattle.col_disk.proofs.Moving.{insert_there}
use Rattle.del_vector.specs.declared.mark.Mark.{Mark}
use Rattle.del_vector.specs.Spelling.{spelling, IsSpelled}
use Rattle.stored_rows.specs.Listed.{vector_file}
use Rattle.stored_rows.specs.Held.{IsVectorOf, HoldsVectorAt, HoldsVector, greatest_epoch}
use Rattle.stored_rows.proofs.OneList.{OneVector}
use Rattle.vector_files.specs.Blamed.{IsNoVector}

-- a vector that doesn't fit is the only one of its bytes
pub none_fits : OneVector → (k : Container) (marks seen : List Mark) (bytes : List ℕ) → IsSpelled marks → bytes ≡ spelling marks → seen ≡ marks
    → (All (λ e. e.position < k.rows) seen × (greatest_epoch seen ≡ k.greatest_mark) → ⊥) → IsNoVector k bytes
none_fits one k marks seen bytes spelled is same unfit others of spells =
    let alike : seen ≡ others = same ∙ one marks others spelled of.spelled (sym is ∙ spells) in
    unfit (subst (λ (ms : List Mark). All (λ e. e.position < k.rows) ms × (greatest_epoch ms ≡ k.greatest_mark)) (sym alike) (of.within, of.greatest))

-- the file after a write
bytes_there : (name : ℕ) (bytes : List ℕ) (old new : Option Contents) (m : Contents) → new ≡ option_map (λ c. insert c name bytes) old → new ≡ Some m → get m name ≡ Some bytes
bytes_there name bytes None new m is told = absurd (let never : None ≡ Some m = sym is ∙ told in cc)
bytes_there name bytes (Some d) new m is told =
    let same : Some (insert d name bytes) ≡ Some m = sym is ∙ told in
    let inner : insert d name bytes ≡ m = cc in
    ap (λ (c : Contents). get c name) (sym inner) ∙ insert_there d name bytes

vector_by : (m : Contents) (k : Container) (number : ℕ) (marks : List Mark) (o : Option ℕ) → o ≡ Some number → IsVectorOf k marks → get m (vector_file number) ≡ Some (spelling marks) → HoldsVectorAt m k o marks
vector_by m k number marks o is of file = subst (λ (x : Option ℕ). HoldsVectorAt m k x marks) (sym is) (of, file)

pub written : (number : ℕ) (bytes : List ℕ) (marks : List Mark) (old new : Option Contents) (result : Result (Unit {0}) DiskFault) → IsSpelled marks → bytes ≡ spelling marks → WriteLeaves (vector_file number) bytes old new result
    → OnOk result ((m : Contents) → new ≡ Some m → (k : Container) → k.marks ≡ Some number → All (λ e. e.position < k.rows) marks → greatest_epoch marks ≡ k.greatest_mark → HoldsVector m k marks)
written number bytes marks old new (Ok done) spelled is leaves = λ m told k listed within greatest.
    vector_by m k number marks k.marks listed (record { spelled = spelled; within = within; greatest = greatest }) (bytes_there (vector_file number) bytes old new m leaves told ∙ ap Some is)
written number bytes marks old new (Err e) spelled is leaves = tt

pub not_both : (b : Bool) → b ≡ false → IsTrue b → ⊥
not_both b is told = absurd (let never : false ≡ true = sym is ∙ told in cc)
