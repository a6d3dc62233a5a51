use Rattle.flow_net.proofs.QueueLemmas.{pushed-far, pushed-near}
use Rattle.std.proofs.Common.{arith, rules, sym, w64, ◌≡◌}
use Rattle.flow_net.proofs.Words.{ints, to_z-of_z}
use Rattle.flow_net.proofs.queue.Queue.push.Goals as goal

pub returns-in_ok-push_back-clause-entries : goal.returns-in_ok-push_back-clause-entries
returns-in_ok-push_back-clause-entries c =
    let same : c.args.distance ≡ c.args.self.now.level = omega (arith, ints) in
    pushed-near c.args.self.now.level c.args.distance c.args.self.now.near.items c.push_back.new.self.items _
    c.args.node same c.in_ok-push_back.ensures.items

pub returns-in_ok-push-clause-entries : goal.returns-in_ok-push-clause-entries
returns-in_ok-push-clause-entries c =
    pushed-far c.args.distance _ c.args.node _ _ _ (sym (to_z-of_z w64 c.args.distance (search rules)))
    c.in_ok-push.ensures.permutation
