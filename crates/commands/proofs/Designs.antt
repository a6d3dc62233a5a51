-- What answers a case is shown as a design.
use Rattle.commands.proofs.Words.{AnswersDesign, Case, IsCaseAnswer, IsDesignOf, IsStandard, IsTightDesign, Least, Parts, Shown, cost_of, hot_target}
use Rattle.heat_flow.specs.declared.flow.Flow.{Flow}
use Rattle.heat_flow.specs.declared.prices.Prices.{Prices}
use Rattle.std.proofs.Common.{Err, IfOk, Ok, Result, length, subst, ℤ, ◌+◌, ◌-◌, ◌∙◌, ◌≡◌, ◌≤◌}

-- the heat flow costs the hot target and is that of fewer transfers than parts
abbrev IsTightFlow : Case → Parts → Flow → Type 0
IsTightFlow c parts flow =
    (cost_of parts.hot parts.cold flow.transfers ≡ hot_target c.streams) × (length flow.transfers ≤ length parts.hot + length parts.cold - 1)

module _ (c : Case) (parts : Parts) (flow : Flow) (prices : Prices) (cost : ℤ) (answer : IsCaseAnswer c parts (Least flow prices cost)) where
  corner_is_tight : IsStandard c → IsTightFlow c parts flow
  corner_is_tight standard =
      let corner = answer.standard standard in
      let same : corner.flow ≡ flow = cc (corner.is) in
      let costs : cost ≡ hot_target c.streams = cc (corner.is) in
      (answer.answers.certified.costs ∙ costs, subst (λ (f : Flow). length f.transfers ≤ length parts.hot + length parts.cold - 1) same corner.few)

  of_shown : (shown : Shown) → IsDesignOf c parts flow shown
      → (IsStandard c → cost_of parts.hot parts.cold flow.transfers ≡ hot_target c.streams
      → length flow.transfers ≤ length parts.hot + length parts.cold - 1 → IsTightDesign shown)
      → AnswersDesign c shown
  of_shown shown design tight = record {
    parts = parts;
    answer = Least flow prices cost;
    is_answer = answer;
    shows = (design, λ standard. let is = corner_is_tight standard in tight standard is.0 is.1);
  }

  pub of_least : {E : Type 0} (result : Result Shown E) → IfOk result (IsDesignOf c parts flow)
      → IfOk result (λ shown. IsStandard c → cost_of parts.hot parts.cold flow.transfers ≡ hot_target c.streams
      → length flow.transfers ≤ length parts.hot + length parts.cold - 1 → IsTightDesign shown)
      → IfOk result (AnswersDesign c)
  of_least (Ok shown) design tight = of_shown shown design tight
  of_least (Err e) design tight = tt
