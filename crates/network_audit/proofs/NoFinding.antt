-- A valid network has no finding where its branches leave room and its heats are whole.
use Rattle.network_audit.proofs.FormedLemmas.{AreFormed, no_finding}
use Rattle.network_audit.proofs.LineSteps.{HasRoom, exchanger_formed, lines_formed}
use Rattle.network_audit.proofs.SumBounds.{HaveWholeHeats, balance_formed}
use Rattle.network_audit.proofs.PartLemmas.{each-part}
use Rattle.network_audit.proofs.Words.{All-from_recursion, Case, HasNoFinding, HasShape, IsComplete, IsFormed, IsValidNetwork, IsWholeValuation, Network}
use Rattle.network_audit.proofs.Words.{Utility, Valuation, stream_items_at, utility_items_at}
use Rattle.std.proofs.Common.{Some, slice_get, ℕ, ◌≡◌}

module _ (case : Case) (network : Network) (values : Valuation) (complete : IsComplete case) (shape : HasShape case network)
    (valuation : IsWholeValuation case network values) (valid : IsValidNetwork case network) (room : HasRoom case network values) where
  -- where each utility's heat is whole, and the sums on the way to it are within the limits
  pub no_finding_from_room : HaveWholeHeats case network
      → ((index : ℕ) (u : Utility) → slice_get case.utilities index ≡ Some u → AreFormed (utility_items_at network (index, u)))
      → HasNoFinding case network
  no_finding_from_room heats sums =
      no_finding case network values shape valuation valid (each-part IsFormed case network values (record {
        lines = lines_formed case network values shape valuation room;
        streams = λ index s here. All-from_recursion IsFormed (stream_items_at network (index, s)) (tt, tt);
        exchangers = λ number e here. exchanger_formed case network values complete room.branches number e;
        utilities = sums;
        balance = balance_formed case network complete shape heats;
      }))
