use Rattle.std.proofs.Common.{◌≡◌, refl, rules}
use Rattle.pos_index.specs.Index.{blocks}
use Rattle.value_bytes.specs.Spelling.{IsSpelled}
use Rattle.container_blocks.specs.Parts.{entries_of_one}
use Rattle.container_blocks.proofs.Unstored.{is_index_of_one, is_of_one, first_of_one}
use Rattle.container_blocks.proofs.defaults.index_of_one.Goals as goal

pub returns-clause-index : goal.returns-clause-index
returns-clause-index c =
    let are : c.new.result ≡ entries_of_one c.args.value 0 (blocks c.args.rows) = search rules in
    is_index_of_one c.args.value c.args.rows _ c.requires.some c.ranges.rows.fits (first_of_one IsSpelled c.args.value c.as_slice.result.now (search rules) c.have_spellings.ensures.spelled) refl are

pub returns-clause-one : goal.returns-clause-one
returns-clause-one c =
    let are : c.new.result ≡ entries_of_one c.args.value 0 (blocks c.args.rows) = search rules in
    is_of_one c.args.value c.args.rows c.new.result are
