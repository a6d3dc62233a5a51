-- What was made for each side.
use Rattle.grid.proofs.SizeLemmas.{IsSide, IsSide-made}
use Rattle.std.proofs.Common.{◌∙◌}
use Rattle.grid.proofs.Words.{Cold, Hot}
use Rattle.grid.proofs.making.parts_on.Goals as goal

hot_side : (c : goal.After-from_vec-2)
    → IsSide c.args.streams.now c.args.utilities.now Hot c.args.places.now c.from_vec.result
hot_side c =
    let are_made = c.from_vec.ensures ∙ c.in_ok-hot.ensures in
    IsSide-made c.args.streams.now c.args.utilities.now Hot c.args.places.now c.from_vec.result c.requires.streams
    c.requires.utilities c.requires.few_utilities c.requires.places c.requires.few_places are_made

cold_side : (c : goal.After-from_vec-2)
    → IsSide c.args.streams.now c.args.utilities.now Cold c.args.places.now c.from_vec-2.result
cold_side c =
    let are_made = c.from_vec-2.ensures ∙ c.in_ok-cold.ensures in
    IsSide-made c.args.streams.now c.args.utilities.now Cold c.args.places.now c.from_vec-2.result c.requires.streams
    c.requires.utilities c.requires.few_utilities c.requires.places c.requires.few_places are_made

pub invariant_of-result : goal.invariant_of-result
invariant_of-result c =
    record {
      few_hot = (hot_side c).few;
      few_cold = (cold_side c).few;
      hot_bounded = (hot_side c).bounded;
      cold_bounded = (cold_side c).bounded;
    }

pub returns-clause-hot : goal.returns-clause-hot
returns-clause-hot c = (hot_side c.before).are_parts

pub returns-clause-cold : goal.returns-clause-cold
returns-clause-cold c = (cold_side c.before).are_parts
