use Rattle.network_values.proofs.CourseLemmas.{mixes_lose}
use Rattle.network_values.proofs.heights.mixes_lose_height.Goals as goal

pub returns : goal.returns
returns c = mixes_lose
