-- The text of a design.
use Rattle.std.specs.Prelude.{ℕ, List, [], ◌∷◌, ◌++◌, codes}
use Rattle.stream_case.specs.declared.case.Case.{Case}
use Rattle.fractions.specs.Rationals.{fraction_text}
use Rattle.networks.specs.declared.network.Network.{Network}
use Rattle.network_text.specs.Printed as printed
use Rattle.network_audit.specs.declared.verdict.Balance.{Balance}

-- # hot HOT cold COLD excess EXCESS cost COST
abbrev pub balance_comment : Balance → List ℕ
balance_comment balance =
    codes "# hot " ++ (fraction_text balance.hot ++ (codes " cold " ++ (fraction_text balance.cold
    ++ (codes " excess " ++ (fraction_text balance.excess ++ (codes " cost " ++ (fraction_text balance.cost ++ 10 ∷ [])))))))

-- a network as its text, below its balance
abbrev pub design_text : Case → Network → Balance → List ℕ
design_text case network balance = balance_comment balance ++ printed.text_of case network
