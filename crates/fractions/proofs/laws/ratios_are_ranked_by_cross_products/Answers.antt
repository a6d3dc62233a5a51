use Rattle.fractions.proofs.Comparisons.{at_most-cross, below-cross}
use Rattle.fractions.proofs.Ratios.{ratio-same, rational_cmp-ratio, same_from_ratio}
use Rattle.fractions.proofs.laws.ratios_are_ranked_by_cross_products.Goals as goal

pub returns-clause-same : goal.returns-clause-same
returns-clause-same c n m d e hd he = (same_from_ratio n m d e hd he, ratio-same n m d e hd he)

pub returns-clause-below : goal.returns-clause-below
returns-clause-below c = below-cross

pub returns-clause-at_most : goal.returns-clause-at_most
returns-clause-at_most c = at_most-cross

pub returns-clause-order : goal.returns-clause-order
returns-clause-order c = rational_cmp-ratio
