-- What holds of the statements, the networks and the texts of all cases.
use Rattle.std.specs.Prelude.{◌≡◌, ◌⊎◌, ℕ, List, Result, Ok, Err}
use Rattle.stream_case.specs.Case.{IsComplete}
use Rattle.stream_case.specs.declared.case.Case.{Case}
use Rattle.statements.specs.Statements.{Statement, statements_of}
use Rattle.networks.specs.Shape.{HasShape, KeepsCounts}
use Rattle.networks.specs.declared.network.Network.{Network}
use Rattle.network_text.specs.Outcome.{IsFault, IsNetwork, IsNetworkOf, IsOutcome}
use Rattle.network_text.specs.Printed.{text_of}
use Rattle.network_text.specs.declared.fault.NetFault.{NetFault}
use Rattle.network_text.specs.declared.fault.NetFault.TheVariants as fault
use Rattle.network_text.specs.declared.fault.NetWhy.{NetWhy}

-- ---- of the grammar

-- never two statements at fault, nor two causes
abbrev pub FaultsAreOne : Type 0
FaultsAreOne = (case : Case) (statements : List Statement) (number other : ℕ) (why cause : NetWhy)
    → IsFault case statements number why → IsFault case statements other cause → (number ≡ other) × (why ≡ cause)

-- never a fault and a network
abbrev pub FaultsGiveNoNetwork : Type 0
FaultsGiveNoNetwork = (case : Case) (statements : List Statement) (number : ℕ) (why : NetWhy) (network : Network)
    → IsFault case statements number why → IsNetwork case statements network → ⊥

-- never two networks
abbrev pub NetworksAreOne : Type 0
NetworksAreOne = (case : Case) (statements : List Statement) (network other : Network)
    → IsNetwork case statements network → IsNetwork case statements other → network ≡ other

-- for a completed case, a network that is given has the shape
abbrev pub GivenNetworksHaveTheShape : Type 0
GivenNetworksHaveTheShape = (case : Case) (statements : List Statement) (network : Network)
    → IsComplete case → IsNetwork case statements network → HasShape case network

-- and keeps the two counts
abbrev pub GivenNetworksKeepTheCounts : Type 0
GivenNetworksKeepTheCounts = (case : Case) (statements : List Statement) (network : Network)
    → IsNetwork case statements network → KeepsCounts network

-- ---- of printed networks

-- the network is the one outcome of a text, but for want of memory
abbrev pub IsOneOutcomeOf : Case → List ℕ → Network → Type 0
IsOneOutcomeOf case text network = (outcome : Result Network NetFault)
    → IsOutcome case (statements_of text) outcome → (outcome ≡ Ok network) ⊎ (outcome ≡ Err fault.OutOfMemory)

-- for a completed case, the text of a network of the shape that keeps the two counts gives it
abbrev pub TextsGiveTheirNetworks : Type 0
TextsGiveTheirNetworks = (case : Case) (network : Network)
    → IsComplete case → HasShape case network → KeepsCounts network → IsNetworkOf case (text_of case network) network

-- and has no other outcome
abbrev pub TextsGiveNoOther : Type 0
TextsGiveNoOther = (case : Case) (network : Network)
    → IsComplete case → HasShape case network → KeepsCounts network → IsOneOutcomeOf case (text_of case network) network

-- for a completed case, what statements give is given by its text again
abbrev pub GivenNetworksAreReadAgain : Type 0
GivenNetworksAreReadAgain = (case : Case) (statements : List Statement) (network : Network)
    → IsComplete case → IsNetwork case statements network → IsNetworkOf case (text_of case network) network

-- and its text has no other outcome
abbrev pub GivenNetworksAreTheOneOutcome : Type 0
GivenNetworksAreTheOneOutcome = (case : Case) (statements : List Statement) (network : Network)
    → IsComplete case → IsNetwork case statements network → IsOneOutcomeOf case (text_of case network) network
