use Rattle.folder_laws.proofs.Begun.{begun_alike}
use Rattle.folder_laws.proofs.laws.one_folder_has_one_text.Goals as goal

pub returns : goal.returns
returns c =
    let starts = begun_alike c.one_folder_reopens_alike.ensures c.openings_are_sound.ensures.opened in
    record {
      runs = λ m setting start begin script printed other refused also new left one also_one unmoved quiet numbers ran again.
          c.alike_runs_print_alike.ensures.runs setting start begin script printed other refused also new left unmoved quiet (starts m start begin one also_one) numbers ran again;
      through = λ m setting start begin script printed other new left one also_one unmoved stepless ran again.
          c.alike_runs_go_through.ensures.runs setting start begin script printed other new left unmoved stepless (starts m start begin one also_one) ran again;
    }
