-- The outcome of statements: the first of them at fault, else the missing pass, else the network.
use Rattle.std.specs.Prelude.{ℕ, ◌+◌, List, option_map, Result, Ok, Err}
use Rattle.stream_case.specs.declared.case.Case.{Case}
use Rattle.first_fault.specs.Outcome.{Grammar, IsFault as IsFaultOf, IsValue}
use Rattle.statements.specs.Statements.{Statement, statements_of}
use Rattle.network_text.specs.Given.{next, start}
use Rattle.network_text.specs.Checks.{checks, first_missing}
use Rattle.network_text.specs.declared.fault.NetFault.{NetFault}
use Rattle.network_text.specs.declared.fault.NetFault.TheVariants as fault
use Rattle.network_text.specs.declared.fault.NetWhy.{NetWhy}
use Rattle.network_text.specs.declared.fault.NetWhy.TheVariants as why
use Rattle.networks.specs.declared.network.Network.{Network}

-- how statements are read for a case. Behind the last of them it is a fault that a pass is missing, of the statement
-- that declares the exchanger
abbrev pub grammar : Case → Grammar Statement Network Network NetWhy
grammar case = record {
  start = start case;
  checks = checks case;
  next = next case;
  end_fault = λ count given. option_map (λ index. (index + 1, why.MissingPass)) (first_missing given);
  value = λ given. given;
}

-- the statement at fault, counted from 1, and its cause
abbrev pub IsFault : Case → List Statement → ℕ → NetWhy → Type 0
IsFault case statements number cause = IsFaultOf (grammar case) statements number cause

-- nothing is at fault, and the network is what the statements give
abbrev pub IsNetwork : Case → List Statement → Network → Type 0
IsNetwork case statements network = IsValue (grammar case) statements network

-- the statements of a text give the network
abbrev pub IsNetworkOf : Case → List ℕ → Network → Type 0
IsNetworkOf case text network = IsNetwork case (statements_of text) network

-- the outcome of statements for a completed case; want of memory is none
abbrev pub IsOutcome : Case → List Statement → Result Network NetFault → Type 0
IsOutcome case statements (Ok network) = IsNetwork case statements network
IsOutcome case statements (Err (fault.At number cause)) = IsFault case statements number cause
IsOutcome case statements (Err fault.OutOfMemory) = Unit {0}
