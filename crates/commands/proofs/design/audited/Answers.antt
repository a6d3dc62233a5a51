use Rattle.commands.proofs.Words.{Balance, IsVerdict, Place, Reason, Verdict, balance_of}
use Rattle.std.proofs.Common.{inl, inr, refl, subst, sym, ℕ, ◌∙◌, ◌≡◌, ◌⊎◌}
use Rattle.network_audit.specs.declared.verdict.Verdict.TheVariants as verdict
use Rattle.commands.proofs.design.audited.Goals as goal

-- a network is not both accepted and refused
not_both : (v : Verdict) (b : Balance) → verdict.Accepted b ≡ v
    → ((at : Place) × (why : Reason) × (v ≡ verdict.Rejected at why)) ⊎ ((at : Place) × (step : ℕ) × (v ≡ verdict.TooFine at step)) → ⊥
not_both v b accepted (inl other) = let is = accepted ∙ other.2 in cc
not_both v b accepted (inr other) = let is = accepted ∙ other.2 in cc

pub unreachable-requires : goal.unreachable-requires
unreachable-requires c =
    let case = c.args.case.now in
    let network = c.args.network.now in
    let balance = balance_of case network in
    let accepted = subst (λ a. IsVerdict a.case a.network (verdict.Accepted balance)) (sym c.in_ok-new.ensures) (c.requires.accepted, refl) in
    not_both c.audit.result balance (c.audit.ensures.again (verdict.Accepted balance) accepted) c.in-Rejected.is
