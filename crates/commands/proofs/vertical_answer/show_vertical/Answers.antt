use Rattle.commands.proofs.Words.{Balance}
use Rattle.commands.proofs.ShownNetworks.{shown_network}
use Rattle.std.proofs.Common.{ap, ◌∙◌}
use Rattle.commands.proofs.vertical_answer.show_vertical.Goals as goal

pub returns : goal.returns
returns c =
    let made = c.in_ok-network.ensures in
    let sums = c.in_ok-balance.ensures in
    record {
      network = c.in_ok-network.network;
      balance = c.in_ok-balance.balance;
      shows =
          shown_network c.args.case c.in_ok-network.network c.in_ok-balance.balance c.requires.complete made.shape made.valid made.accepted sums;
      drawn = made.drawn;
      counts = made.counts;
      few_lines = made.few_lines;
      vertical = made.vertical;
      tight = ap (λ (b : Balance). b.excess) (sums ∙ made.balance);
      costs = ap (λ (b : Balance). b.cost) (sums ∙ made.balance);
    }
