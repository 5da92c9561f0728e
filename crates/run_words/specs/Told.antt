-- What was read of the words, as they are told.
use Rattle.std.specs.Prelude.{string_bytes}
use Rattle.run_words.specs.declared.reading.Wanted.{Wanted as Read}
use Rattle.run_words.specs.declared.reading.Wanted.TheVariants.{Run, Audit}
use Rattle.run_words.specs.declared.reading.ScriptRun.{ScriptRun as ReadRun}
use Rattle.run_words.specs.declared.reading.Source.{Source as ReadSource}
use Rattle.run_words.specs.declared.reading.Source.TheVariants.{Script, Generated}
use Rattle.run_words.specs.Words.{Source, from_file, generated, ScriptRun, Wanted, runs, audits}

abbrev pub source_told : ReadSource → Source
source_told (Script name) = from_file (string_bytes name)
source_told (Generated lines seed) = generated lines seed

abbrev pub run_told : ReadRun → ScriptRun
run_told r = record { source = source_told r.source; steps = r.steps; halts = r.halts }

abbrev pub told : Read → Wanted
told (Run run) = runs (run_told run)
told Audit = audits
