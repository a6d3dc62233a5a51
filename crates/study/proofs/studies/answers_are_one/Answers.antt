use Rattle.study.proofs.OneAnswerList.{one_answer_list}
use Rattle.study.proofs.studies.answers_are_one.Goals as goal

pub returns : goal.returns
returns c = one_answer_list
