use Rattle.folder_laws.proofs.Begun.{begun_alike}
use Rattle.folder_laws.proofs.Moved.{folders_once}
use Rattle.folder_laws.proofs.laws.one_folder_has_one_text_with_the_mover.Goals as goal

pub returns : goal.returns
returns c =
    folders_once (begun_alike c.one_folder_reopens_alike.ensures c.openings_are_sound.ensures.opened) c.alike_runs_print_alike.ensures.runs c.the_mover_changes_no_text.ensures.one_text c.numbers_last.ensures
    c.every_script_has_a_run.ensures.runs
