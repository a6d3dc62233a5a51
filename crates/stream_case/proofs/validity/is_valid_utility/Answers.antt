-- The record of a valid utility from its parts.
use Rattle.std.proofs.Common.{FitsSigned, arith, rules, w32, w64}
use Rattle.stream_case.proofs.Words.{ints}
use Rattle.stream_case.proofs.validity.is_valid_utility.Goals as goal

pub returns : goal.returns
returns c =
    let u = c.args.utility.now in
    let level_fits : FitsSigned w32 u.level = search rules in
    let least_fits : FitsSigned w64 u.least = search rules in
    let most_fits : FitsSigned w64 u.most = search rules in
    let price_fits : FitsSigned w64 u.price = search rules in
    let contribution_fits : FitsSigned w32 u.contribution = search rules in
    let level = c.is_temperature.ensures.0 c.if-not-is_temperature.false in
    let least = c.is_between.ensures.0 c.if-not-is_between.false in
    let most = c.is_between-2.ensures.0 c.if-not-is_between-2.false in
    let price = c.is_between-3.ensures.0 c.if-not-is_between-3.false in (
      λ h.
          let contribution = c.is_contribution.ensures.0 h in
          record {
            name = c.is_undotted.ensures.0 c.if-not-is_undotted.false;
            level = omega (arith, ints);
            least = omega (arith, ints);
            most = omega (arith, ints);
            price = omega (arith, ints);
            contribution = omega (arith, ints);
          },
      λ valid. c.is_contribution.ensures.1 (let k = valid.contribution in omega (arith, ints)),
    )
