use Rattle.commands.proofs.Words.{Balance}
use Rattle.commands.proofs.ShownNetworks.{shown_network}
use Rattle.std.proofs.Common.{ap, ◌∙◌}
use Rattle.commands.proofs.design.design_flow.Goals as goal

pub returns-clause-design : goal.returns-clause-design
returns-clause-design c =
    let made = c.in_ok-network.ensures in
    let sums = c.in_ok-balance.ensures in
    record {
      network = c.in_ok-network.network;
      balance = c.in_ok-balance.balance;
      shows =
          shown_network c.args.case c.in_ok-network.network c.in_ok-balance.balance c.requires.complete made.shape made.valid made.accepted sums;
      exchangers = made.exchangers;
      costs = ap (λ (b : Balance). b.cost) (sums ∙ made.balance);
    }
