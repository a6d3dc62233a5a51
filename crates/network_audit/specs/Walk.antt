-- What the walk over the statements answers.
use Rattle.std.specs.Prelude.{◌≡◌, length, None, Result, Ok, Err}
use Rattle.stream_case.specs.declared.case.Case.{Case}
use Rattle.networks.specs.declared.network.Network.{Network}
use Rattle.network_values.specs.Values.{IsWholeValuation, Valuation}
use Rattle.network_audit.specs.Findings.{IsFinding}
use Rattle.network_audit.specs.Items.{first_finding, items_before}
use Rattle.network_audit.specs.declared.findings.Finding.{Finding}

-- the branches carry a valuation and all statements are passed, or the network has this finding
abbrev pub WalkedAll : {X : Type 0} → Case → Network → Valuation → Result X Finding → Type 0
WalkedAll case network values (Ok x) =
    IsWholeValuation case network values
    × (first_finding (items_before case network values (length network.lines)) ≡ None)
WalkedAll case network values (Err found) = IsFinding case network found
