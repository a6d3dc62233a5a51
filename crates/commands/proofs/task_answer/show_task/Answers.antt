use Rattle.commands.proofs.Words.{AreStreams-IsComplete}
use Rattle.commands.proofs.task_answer.show_task.Goals as goal

pub show_targets-requires : goal.show_targets-requires
show_targets-requires c = AreStreams-IsComplete c.args.case c.requires

pub show_curves-requires : goal.show_curves-requires
show_curves-requires c = AreStreams-IsComplete c.args.case c.requires
