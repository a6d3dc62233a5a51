-- The record of a valid stream from its parts.
use Rattle.std.proofs.Common.{FitsSigned, arith, rules, w32}
use Rattle.stream_case.proofs.Words.{ints}
use Rattle.stream_case.proofs.validity.is_valid_stream.Goals as goal

pub returns : goal.returns
returns c =
    let s = c.args.stream.now in
    let supply_fits : FitsSigned w32 s.supply = search rules in
    let target_fits : FitsSigned w32 s.target = search rules in
    let contribution_fits : FitsSigned w32 s.contribution = search rules in
    let supply = c.is_temperature.ensures.0 c.if-not-is_temperature.false in
    let target = c.is_temperature-2.ensures.0 c.if-not-is_temperature-2.false in (
      λ h.
          let contribution = c.is_contribution.ensures.0 h in
          record {
            name = c.is_undotted.ensures.0 c.if-not-is_undotted.false;
            supply = omega (arith, ints);
            target = omega (arith, ints);
            heat = c.is_sensible_or_latent.ensures.0 c.if-not-is_sensible_or_latent.false;
            contribution = omega (arith, ints);
          },
      λ valid. c.is_contribution.ensures.1 (let k = valid.contribution in omega (arith, ints)),
    )
