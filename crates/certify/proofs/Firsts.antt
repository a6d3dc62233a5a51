-- The first sentence that fails, and what a report proves of which none does.
use Rattle.certify.proofs.Words.{All, AreCaseParts, ArePricesOf, Case, Checked, HasNoFlow, HoldsOfFlow, HoldsOfParts-some, HoldsOfTransfers, IsAnswerOver}
use Rattle.certify.proofs.Words.{IsFirstOf, IsLeastCost, IsTrue, Moved, No, Part, Priced, Report, Transfer, Used, Yes, cost_of, cut_side, cuts_refuse_flows}
use Rattle.certify.proofs.Words.{flow_causes, is_some, prices_of, reach_between, transfer_causes, transfer_of, transfers_of, weak_duality, ◌≤ℤ◌}
use Rattle.certify.specs.Answers.{IsAnswer, Proves, cut_of}
use Rattle.std.proofs.Common.{Err, IfOk, List, Ok, Result, inr, subst, ℤ, ◌≡◌}
use Rattle.certify.specs.declared.report.Report.TheVariants as report

-- behind the two checks of names come those of the transfers
pub flow_first : (c : Case) (hot cold : List Part) (cost : ℤ) (uses : List Used) (moves : List Moved) (gives takes : List Priced) (transfers : List Transfer)
    (y z : List ℤ) (checked : Checked) → transfers ≡ transfers_of c hot cold moves → y ≡ prices_of gives
    → z ≡ prices_of takes
    → ArePricesOf c hot gives × ArePricesOf c cold takes → All (λ m. IsTrue (is_some (transfer_of c hot cold m))) moves
    → IsFirstOf transfer_causes (HoldsOfTransfers c hot cold cost uses transfers y z) checked
    → IsFirstOf flow_causes (HoldsOfFlow c hot cold cost uses moves gives takes) checked
flow_first c hot cold cost uses moves gives takes transfers y z checked is_said is_y is_z parts known rest =
    let said = subst (λ (ts : List Transfer). IsFirstOf transfer_causes (HoldsOfTransfers c hot cold cost uses ts y z) checked) is_said rest in
    let with_y =
    subst (λ (ps : List ℤ). IsFirstOf transfer_causes (HoldsOfTransfers c hot cold cost uses (transfers_of c hot cold moves) ps z) checked) is_y said in
    by checked (subst (λ (ps : List ℤ). IsFirstOf transfer_causes
    (HoldsOfTransfers c hot cold cost uses (transfers_of c hot cold moves) (prices_of gives) ps) checked) is_z with_y)
  where
    by : (checked : Checked)
        → IsFirstOf transfer_causes (HoldsOfTransfers c hot cold cost uses (transfers_of c hot cold moves) (prices_of gives) (prices_of takes)) checked
        → IsFirstOf flow_causes (HoldsOfFlow c hot cold cost uses moves gives takes) checked
    by Yes rest = (parts, (known, rest))
    by (No why) rest = inr (parts, inr (known, rest))

-- the cost of a flow that passes is the least one, and with a cut there is no flow
pub answer_proves : (c : Case) (hot cold : List Part) (r : Report) (checked : Checked)
    → AreCaseParts c hot cold → IsAnswerOver c hot cold r checked
    → Proves c r checked
answer_proves c hot cold (report.Flow cost uses moves gives takes) Yes parts (named, (known, (flow, (is_cost, (used, (support, (value, end))))))) =
    HoldsOfParts-some c (λ h k. IsLeastCost (reach_between c h k) h k cost) hot cold parts (record {
      transfers = transfers_of c hot cold moves;
      flow = flow;
      costs = is_cost;
      least = λ others is. subst (λ v. v ≤ℤ cost_of hot cold others) value
          (weak_duality (reach_between c hot cold) hot cold (prices_of gives) (prices_of takes) support others is);
    })
answer_proves c hot cold (report.Cut kind need offer parts) Yes case_parts (named, (cut, end)) =
    HoldsOfParts-some c (λ h k. HasNoFlow (reach_between c h k) h k) hot cold case_parts
    (cuts_refuse_flows (reach_between c hot cold) hot cold (cut_side kind) (cut_of c hot cold kind need offer parts).parts cut.parts)
answer_proves c hot cold (report.Flow cost uses moves gives takes) (No why) parts is = tt
answer_proves c hot cold (report.Cut kind need offer parts) (No why) case_parts is = tt

-- the answer over the parts of the case is the answer of the case
pub answered : {E : Type 0} (c : Case) (hot cold : List Part) (r : Report) (result : Result Checked E)
    → AreCaseParts c hot cold
    → IfOk result (IsAnswerOver c hot cold r) → IfOk result (IsAnswer c r) × IfOk result (Proves c r)
answered c hot cold r (Ok checked) parts is =
    (HoldsOfParts-some c (λ h k. IsAnswerOver c h k r checked) hot cold parts is, answer_proves c hot cold r checked parts is)
answered c hot cold r (Err refused) parts is = (tt, tt)
