-- A network in which an audit finds nothing is shown with its balance, and what is printed is read as it.
use Rattle.commands.proofs.Words.{Balance, Case, HasFractions, HasNoFinding, HasShape, IsComplete, IsNetwork, IsShownNetwork, IsValidNetwork, Network}
use Rattle.commands.proofs.Words.{balance-within, balance_of, design-statements, shape-is_network}
use Rattle.commands.proofs.FileSizes.{design_fits}
use Rattle.std.proofs.Common.{refl, subst, sym, ◌≡◌}
use Rattle.reports.specs.declared.shown.Shown.TheVariants as show

pub shown_network : (c : Case) (network : Network) (balance : Balance) → IsComplete c → HasShape c network
    → IsValidNetwork c network → HasNoFinding c network
    → balance ≡ balance_of c network
    → IsShownNetwork c network balance (show.Design c network balance)
shown_network c network balance complete shape valid accepted sums =
    let within = subst HasFractions (sym sums) (balance-within c network shape accepted) in
    record {
      complete = complete;
      shape = shape;
      valid = valid;
      accepted = accepted;
      sums = sums;
      read_back =
          λ counts. subst (λ statements. IsNetwork c statements network) (sym (design-statements c network balance within))
          (shape-is_network c network complete shape counts);
      fits = design_fits c network balance complete shape within;
      is = refl;
    }
