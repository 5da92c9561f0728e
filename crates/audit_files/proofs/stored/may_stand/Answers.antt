use Rattle.audit_files.proofs.Epochs.{of_epochs}
use Rattle.audit_files.proofs.stored.may_stand.Goals as goal

pub returns-in-Epochs : goal.returns-in-Epochs
returns-in-Epochs c = of_epochs c.args.entry.now c.args.column c.args.values.now c.are_epochs.result c.in-Epochs.is c.are_epochs.ensures
