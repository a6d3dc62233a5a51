use Rattle.network_audit.proofs.JointLemmas.{found-all, length-joints}
use Rattle.network_audit.proofs.HeatLemmas.{balance-is, balance_items-are, heats-are}
use Rattle.network_audit.proofs.ItemLemmas.{found-behind, found-front}
use Rattle.network_audit.proofs.SumSteps.{length-numbers}
use Rattle.network_audit.proofs.auditor.audit_network.Goals.{After-hot_target-target, In_default}
use Rattle.network_audit.proofs.Words.{Finding, IsFinding, Item, all_heat_items, balance_in, balance_items, balance_of, balance_steps_in, exchanger_of}
use Rattle.network_audit.proofs.Words.{exchangers_of, first_finding, heats_in, items, joint_items, stream_items}
use Rattle.std.proofs.Common.{List, Some, ap, arith, length, sym, ◌++◌, ◌<◌, ◌^◌, ◌∙◌, ◌≡◌}
use Rattle.network_audit.proofs.auditor.audit_network.Goals as goal
use Rattle.network_audit.specs.declared.findings.Finding.TheVariants as finding
use Rattle.network_audit.specs.declared.findings.Place.TheVariants as place

-- the items behind the statements, read from the tables
abbrev behind : In_default → List Item
behind c =
    stream_items c.args.case.now c.args.network.now ++ (joint_items c.args.case.now c.audit_statements.new.values c.args.joints.now
    ++ (all_heat_items c.args.joints.now c.as_slice-utilities.result.now ++ balance_items c.args.case.now c.args.network.now))

all_found : (c : In_default)
    → first_finding (items c.args.case.now c.args.network.now c.audit_statements.new.values (length c.args.network.now.lines))
    ≡ first_finding (behind c)
all_found c =
    found-all c.args.case.now c.args.network.now c.audit_statements.new.values c.args.joints.now c.as_slice-utilities.result.now c.requires.shape
    c.requires.table c.as_slice-utilities.ensures c.in_default.ensures.1

is_finding : (c : In_default) (found : Finding) → first_finding (behind c) ≡ Some found
    → IsFinding c.args.case.now c.args.network.now found
is_finding c found some = record {
  n = length c.args.network.now.lines;
  values = c.audit_statements.new.values;
  valuation = c.in_default.ensures.0;
  first = all_found c ∙ some;
}

pub returns-in-Err-audit_streams : goal.returns-in-Err-audit_streams
returns-in-Err-audit_streams c =
    is_finding (goal.at.returns-in-Err-audit_streams c).In_default c.in-Err-audit_streams.found (found-front _ _ _ c.in-Err-audit_streams.ensures)

-- the exchangers are few
few_joints : (c : In_default) → length c.args.joints.now < 2 ^ 32
unfolding exchangers_of
few_joints c = let n = c.args.network.now in omega (
  arith,
  ap length c.requires.table,
  length-joints n.branches n.lines (exchangers_of n.lines),
  length-numbers exchanger_of n.lines,
  c.requires.shape.few,
)

pub audit_exchangers-requires : goal.audit_exchangers-requires
audit_exchangers-requires c = few_joints (goal.at.audit_exchangers-requires c).In_default

pub audit_utilities-requires-clause-joints : goal.audit_utilities-requires-clause-joints
audit_utilities-requires-clause-joints c = few_joints (goal.at.audit_utilities-requires-clause-joints c).In_default

pub returns-in-Err-audit_exchangers : goal.returns-in-Err-audit_exchangers
returns-in-Err-audit_exchangers c =
    is_finding (goal.at.returns-in-Err-audit_exchangers c).In_default c.in-Err-audit_exchangers.found (found-behind _ _ c.in_default-audit_streams.ensures.0
    ∙ found-front _ _ _ c.in-Err-audit_exchangers.ensures)

pub returns-in-Err-audit_utilities : goal.returns-in-Err-audit_utilities
returns-in-Err-audit_utilities c =
    is_finding (goal.at.returns-in-Err-audit_utilities c).In_default c.in-Err-audit_utilities.found
    (found-behind _ _ c.in_default-audit_streams.ensures.0 ∙ found-behind _ _ c.in_default-audit_exchangers.ensures.0
    ∙ found-front _ _ _ c.in-Err-audit_utilities.ensures)

-- behind the utilities come the steps of the balance over their heats, which is that of the network
record IsBalanced (c : After-hot_target-target) : Type 0 where
  found : first_finding (behind (goal.at.After-hot_target-target c).In_default)
      ≡ first_finding (balance_steps_in place.Balance c.hot_target-target.result c.as_slice-utilities.result.now c.audit_utilities.new.heats)
  is : balance_in c.hot_target-target.result c.as_slice-utilities.result.now c.audit_utilities.new.heats
      ≡ balance_of c.args.case.now c.args.network.now

balanced : (c : After-hot_target-target) → IsBalanced c
balanced c =
    let case = c.args.case.now in
    let n = c.args.network.now in
    let heats = c.audit_utilities.new.heats in
    let are = heats-are case n heats (c.in_default-audit_utilities.ensures.1 ∙ (λ i. heats_in (c.requires.table i) (c.as_slice-utilities.ensures i))) in
    let steps : balance_steps_in place.Balance c.hot_target-target.result c.as_slice-utilities.result.now heats
    ≡ balance_items case n
    =
    (λ i. balance_steps_in place.Balance (c.hot_target-target.ensures i) (c.as_slice-utilities.ensures i) heats)
    ∙ balance_items-are case n heats c.requires.shape are in record {
      found =
          found-behind _ _ c.in_default-audit_streams.ensures.0
          ∙ found-behind _ _ c.in_default-audit_exchangers.ensures.0
          ∙ found-behind _ _ c.in_default-audit_utilities.ensures.0 ∙ ap first_finding (sym steps);
      is =
          (λ i. balance_in (c.hot_target-target.ensures i) (c.as_slice-utilities.ensures i) heats)
          ∙ balance-is case n heats c.requires.shape are;
    }

pub returns-in-Ok : goal.returns-in-Ok
returns-in-Ok c = let b = balanced (goal.at.returns-in-Ok c).After-hot_target-target in record {
  faultless = record {
    valuation = c.in_default.ensures.0;
    none = all_found (goal.at.returns-in-Ok c).In_default ∙ b.found ∙ c.in-Ok.ensures.0 place.Balance;
  };
  sums = c.in-Ok.ensures.1 ∙ b.is;
}

pub returns-in-Err-balance_of : goal.returns-in-Err-balance_of
returns-in-Err-balance_of c =
    let b = balanced (goal.at.returns-in-Err-balance_of c).After-hot_target-target in
    is_finding (goal.at.returns-in-Err-balance_of c).In_default (finding.TooFine place.Balance c.in-Err-balance_of.step) (b.found
    ∙ c.in-Err-balance_of.ensures place.Balance)
