-- The branch behind a pass of a network with a valuation: its number, what it carries, and whether it is latent.
use Rattle.network_audit.proofs.Words.{Case, HasShape, IsLineOf, IsWholeValuation, Network, Rational, Solves}
use Rattle.network_audit.proofs.Words.{Valuation, all_at, all_made, all_solved, branch_above, branch_side, duty_at}
use Rattle.network_audit.proofs.Words.{is_latent, is_latent_branch, line_of, made_by, moved, option_map_or, over}
use Rattle.network_audit.proofs.Words.{pass_determined, take-length, value_at}
use Rattle.std.proofs.Common.{Some, ap, arith, false, length, slice_get, ℕ, ◌<◌, ◌≡◌}
use Rattle.networks.specs.declared.network.Line.TheVariants as line

-- the state that the schoolbook gives behind an exchanger
abbrev pub state_behind : Case → Network → Valuation → ℕ → ℕ → Rational
state_behind case network values from exchanger =
    let before = value_at values from in
    moved (branch_side case network from) before.t (over (duty_at network exchanger) before.cp)

module _ {case : Case} {network : Network} {values : Valuation} (shape : HasShape case network) (valuation : IsWholeValuation case network values)
    (k : ℕ) {from exchanger to : ℕ} (at : slice_get network.lines k ≡ Some (line.Pass from exchanger to)) where
  pass_here : IsLineOf case network k (line.Pass from exchanger to)
  pass_here = line_of shape k (line.Pass from exchanger to) at

  pub behind_there : to < length values
  unfolding made_by
  behind_there =
      let there = pass_here.known.2 in
      omega (arith, there, all_made shape.made_once, ap (λ ls. length (made_by ls)) (take-length network.lines))

  pub behind_state : (value_at values to).t ≡ state_behind case network values from exchanger
  behind_state =
      ap (λ v. v.t) (pass_determined (branch_side case network from) (value_at values from) (value_at values to) (duty_at network exchanger)
      (branch_above valuation shape from pass_here.known.0)
      (all_at (Solves case network values) network.lines k (line.Pass from exchanger to) (all_solved valuation) at))

  pub behind_latent : is_latent_branch case network to ≡ is_latent_branch case network from
  unfolding is_latent_branch
  behind_latent = ap (λ stream. option_map_or is_latent (slice_get case.streams stream) false) pass_here.one_stream
