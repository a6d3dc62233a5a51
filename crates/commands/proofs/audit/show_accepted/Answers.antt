use Rattle.commands.proofs.Words.{Accepted, Balance, IfListed, IsAtMost, Rational, sum_of, to_z-of_z, w128, whole}
use Rattle.std.proofs.Common.{FitsSigned, ap, rules, subst, sym, w32, ◌≡◌}
use Rattle.commands.proofs.audit.show_accepted.Goals as goal

pub returns : goal.returns
returns c =
    let case = c.args.case in
    let network = c.args.network in
    let balance = c.args.balance in
    let penalties = c.in_ok-penalties.penalties in
    let reference = c.reference_place.result in
    let floor = c.in_ok-floor.floor in
    let fits : FitsSigned w32 reference = search rules in
    let floor_fits : FitsSigned w128 floor = search rules in
    let found = c.in_ok-floor.ensures in
    let sums = c.requires.balance in
    record {
      reference = reference;
      is_reference = c.reference_place.ensures;
      floor = floor;
      is_floor = found.least;
      costs_no_less = subst (λ (b : Balance). IsAtMost (whole floor) b.cost) (sym sums) found.floor;
      penalties = penalties;
      lists = c.in_ok-penalties.ensures.lists;
      not_negative = c.in_ok-penalties.ensures.not_negative;
      sum = subst (λ (e : Rational). IfListed penalties (λ listed. sum_of listed ≡ e))
          (sym (ap (λ (b : Balance). b.excess) sums)) c.in_ok-penalties.ensures.sum;
      is =
          λ i. Accepted case network balance (to_z-of_z w32 reference fits i) (to_z-of_z w128 floor floor_fits i) penalties;
    }
