use Rattle.catalog_bytes.proofs.Versions.{version_one}
use Rattle.catalog_bytes.proofs.body.which_have_version_one.Goals as goal

pub returns : goal.returns
returns c = version_one
