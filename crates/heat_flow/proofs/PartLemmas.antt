-- What holds of some parts of a case holds of its parts.
use Rattle.heat_flow.proofs.Words.{AreCaseParts, Case, Cold, HoldsOfParts, Hot, Part, one_side}
use Rattle.std.proofs.Common.{List, subst₂}

pub HoldsOfParts-some : (c : Case) (P : List Part → List Part → Type 0) (hot cold : List Part)
    → AreCaseParts c hot cold → P hot cold → HoldsOfParts c P
HoldsOfParts-some c P hot cold parts holds = record {
  some = (hot, cold, parts);
  each = λ others more other.
      subst₂ P (one_side c parts.grid other.grid Hot hot others parts.is_grid other.is_grid parts.hot_parts other.hot_parts)
      (one_side c parts.grid other.grid Cold cold more parts.is_grid other.is_grid parts.cold_parts other.cold_parts) holds;
}
