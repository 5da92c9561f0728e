-- What a proof takes for the element behind the end of a list.
use Rattle.std.specs.Prelude.{None}
use Rattle.catalog_types.specs.declared.catalogue.Container.{Container}

abbrev pub blank_container : Container
blank_container = record { base = 0; rows = 0; least_epoch = 0; greatest_epoch = 0; level = 0; marks = None; greatest_mark = 0; stored = 0 }
