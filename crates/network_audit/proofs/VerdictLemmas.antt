-- What follows from a verdict, and what is known of a network that an auditor has accepted.
use Rattle.network_audit.proofs.ValidLemmas.{invalid_network, valid_from_none, valid_network}
use Rattle.network_audit.proofs.Words.{AreStreams-IsComplete, Audit, Balance, Case, HasAccepted, HasShape, IfAccepted}
use Rattle.network_audit.proofs.Words.{IsAtMost, IsComplete, IsFaultless, IsValidNetwork, IsVerdict, IsWholeValuation}
use Rattle.network_audit.proofs.Words.{KnowsItsNetwork, Leaves, Network, SaysExactly, Valuation, Verdict}
use Rattle.network_audit.proofs.Words.{one_valuation, rational_zero, targets_met}
use Rattle.std.proofs.Common.{Some, ap, inl, inr, length, subst, sym, ◌∙◌, ◌≡◌}
use Rattle.network_audit.specs.declared.verdict.Verdict.TheVariants as verdict

-- the valuation that is left is the only one
pub one_valuation_left : (old new : Audit) (given : Verdict) → HasShape old.case old.network → Leaves old given new
    → IfAccepted given (λ balance. (values : Valuation) → IsWholeValuation old.case old.network values → new.values ≡ Some values)
one_valuation_left old new (verdict.Accepted balance) shape (kept, faultless, left) =
    λ values other. ap (λ a. a.values) left
    ∙ ap Some (one_valuation old.case old.network (length old.network.lines) kept values shape faultless.valuation other)
one_valuation_left old new other shape left = tt

-- an accepted network is so, and a rejected one is not
abbrev pub Says : Verdict → Type 0 → Type 0
Says (verdict.Accepted balance) P = P
Says (verdict.Rejected place reason) P = P → ⊥
Says (verdict.TooFine place step) P = Unit {0}

pub says_valid : (case : Case) (network : Network) (given : Verdict) → HasShape case network
    → IsVerdict case network given
    → Says given (IsValidNetwork case network)
says_valid case network (verdict.Accepted balance) shape is = valid_network case network shape is.0
says_valid case network (verdict.Rejected place reason) shape is = invalid_network case network place reason shape is
says_valid case network (verdict.TooFine place step) shape is = tt

pub says_exactly : (P : Type 0) (given : Verdict) → Says given P → SaysExactly given P
says_exactly P (verdict.Accepted balance) is = inr ((λ _. is), (λ _. tt))
says_exactly P (verdict.Rejected place reason) is = inr ((λ none. absurd none), is)
says_exactly P (verdict.TooFine place step) is = inl tt

module _ (case : Case) (network : Network) where
  -- what is accepted does not beat the target
  pub excess_of_verdict : (given : Verdict) → IsComplete case → HasShape case network → IsVerdict case network given
      → IfAccepted given (λ balance. IsAtMost rational_zero balance.excess)
  excess_of_verdict (verdict.Accepted balance) complete shape is =
      let valid = valid_network case network shape is.0 in
      subst (λ (b : Balance). IsAtMost rational_zero b.excess) (sym is.1)
      (targets_met case network valid.values (AreStreams-IsComplete case complete) shape valid.valuation valid.ended valid.approaches)
  excess_of_verdict other complete shape is = tt

  -- What is known of a network that an auditor has accepted.

  pub record IsKnown : Type 0 where
    pub complete : IsComplete case
    pub shape : HasShape case network
    pub valid : IsValidNetwork case network

module _ (audit : Audit) (case : Case) (network : Network) (accepted : HasAccepted audit case network) (knows : KnowsItsNetwork audit) where
  known_here : KnowsItsNetwork (record { case = case; network = network; values = Some accepted.values })
  known_here = subst KnowsItsNetwork accepted.is knows

  pub faultless_values : IsFaultless case network accepted.values
  faultless_values = known_here.kept

  pub known_network : IsKnown case network
  known_network = record {
    complete = known_here.complete;
    shape = known_here.shape;
    valid =
        valid_from_none case network accepted.values known_here.shape faultless_values.valuation faultless_values.none;
  }
