-- The texts of what an audit says of a network.
use Rattle.std.specs.Prelude.{ℕ, ℤ, List, [], ◌∷◌, ◌++◌, slice_index_or, codes}
use Rattle.std.specs.List.{flat_map}
use Rattle.std.specs.Fmt.{decimal}
use Rattle.stream_case.specs.declared.case.Case.{Case}
use Rattle.stream_case.specs.declared.source.Source.TheVariants.{Stream as of_stream, Utility as of_utility}
use Rattle.fractions.specs.Rationals.{Rational, fraction_text}
use Rattle.networks.specs.declared.network.Network.{Network}
use Rattle.network_text.specs.Printed.{exchanger_name, exchanger_names}
use Rattle.network_audit.specs.declared.findings.Place.{Place}
use Rattle.network_audit.specs.declared.findings.Place.TheVariants as place
use Rattle.network_audit.specs.declared.findings.Reason.{Reason}
use Rattle.network_audit.specs.declared.findings.Reason.TheVariants as reason
use Rattle.network_audit.specs.declared.verdict.Balance.{Balance}
use Rattle.penalties.specs.declared.list.Penalty.{Penalty}
use Rattle.penalties.specs.declared.list.PenaltyList.{PenaltyList}
use Rattle.penalties.specs.declared.list.PenaltyList.TheVariants as list
use Rattle.reports.specs.Lines.{line}
use Rattle.reports.specs.Names.{case_names, source_name}

-- line LINE, stream NAME, exchanger NAME, utility NAME or balance
abbrev pub place_text : Case → Network → Place → List ℕ
place_text c network (place.Line number) = codes "line " ++ decimal number
place_text c network (place.Stream index) = codes "stream " ++ source_name (case_names c) (of_stream index)
place_text c network (place.Exchanger index) = codes "exchanger " ++ exchanger_name network index
place_text c network (place.Utility index) = codes "utility " ++ source_name (case_names c) (of_utility index)
place_text c network place.Balance = codes "balance"

-- REASON found FOUND wanted WANTED
abbrev pub measured_text : List ℕ → Rational → Rational → List ℕ
measured_text name found wanted =
    name ++ (codes " found " ++ (fraction_text found ++ (codes " wanted " ++ fraction_text wanted)))

-- the same, or the name alone where nothing is measured
abbrev pub reason_text : Reason → List ℕ
reason_text (reason.Overdrawn found wanted) = measured_text (codes "Overdrawn") found wanted
reason_text (reason.MissedTarget found wanted) = measured_text (codes "MissedTarget") found wanted
reason_text (reason.Unfinished found wanted) = measured_text (codes "Unfinished") found wanted
reason_text (reason.HotEndApproach found wanted) = measured_text (codes "HotEndApproach") found wanted
reason_text (reason.ColdEndApproach found wanted) = measured_text (codes "ColdEndApproach") found wanted
reason_text (reason.UtilityRange found wanted) = measured_text (codes "UtilityRange") found wanted
reason_text reason.Forbidden = codes "Forbidden"

-- a line of a word and a fraction
abbrev pub fraction_line : List ℕ → Rational → List ℕ
fraction_line word number = word ++ 32 ∷ (fraction_text number ++ 10 ∷ [])

-- the heat of the utilities, the excess and the cost
abbrev pub balance_lines : Balance → List ℕ
balance_lines balance =
    fraction_line (codes "hot") balance.hot ++ fraction_line (codes "cold") balance.cold
    ++ fraction_line (codes "excess") balance.excess ++ fraction_line (codes "cost") balance.cost

-- rejected PLACE REASON
abbrev pub rejected_text : Case → Network → Place → Reason → List ℕ
rejected_text c network place reason =
    codes "rejected " ++ (place_text c network place ++ 32 ∷ (reason_text reason ++ 10 ∷ []))

-- too fine PLACE step STEP
abbrev pub too_fine_text : Case → Network → Place → ℕ → List ℕ
too_fine_text c network place step =
    codes "too fine " ++ (place_text c network place ++ (codes " step " ++ (decimal step ++ 10 ∷ [])))

-- exchanger NAME, by the names of the exchangers, or mix LINE; nothing else has a penalty
abbrev pub loss_text : List (List ℕ) → Place → List ℕ
loss_text names (place.Exchanger index) = codes "exchanger " ++ slice_index_or names index []
loss_text names (place.Line number) = codes "mix " ++ decimal number
loss_text names (place.Stream index) = []
loss_text names (place.Utility index) = []
loss_text names place.Balance = []

-- penalty exchanger NAME VALUE, or penalty mix LINE VALUE
abbrev pub penalty_line : List (List ℕ) → Penalty → List ℕ
penalty_line names penalty = fraction_line (codes "penalty " ++ loss_text names penalty.place) penalty.value

-- each penalty in order, or one line that they are too fine: penalties too fine PLACE step STEP
abbrev pub penalty_lines : Case → Network → PenaltyList → List ℕ
penalty_lines c network (list.Listed penalties) = flat_map (penalty_line (exchanger_names network)) penalties
penalty_lines c network (list.TooFine place step) = codes "penalties " ++ too_fine_text c network place step

-- the floor under the cost and the reference place
abbrev pub floor_lines : ℤ → ℤ → List ℕ
floor_lines floor reference = line (codes "floor") floor ++ line (codes "place") reference

-- a network that is accepted, the floor under its cost, the reference place of its case, and the penalties
abbrev pub accepted_text : Case → Network → Balance → ℤ → ℤ → PenaltyList → List ℕ
accepted_text c network balance reference floor penalties =
    codes "accepted\n" ++ balance_lines balance ++ floor_lines floor reference ++ penalty_lines c network penalties
