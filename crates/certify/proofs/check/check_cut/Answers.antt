use Rattle.certify.proofs.Moves.{none_some}
use Rattle.std.proofs.Common.{inl, refl}
use Rattle.certify.proofs.check.check_cut.Goals as goal

pub returns-in_default-clause-first : goal.returns-in_default-clause-first
returns-in_default-clause-first c = inl (
  refl,
  λ h. none_some c.in_ok-members.field-0 c.in_default.not-Some (c.in_ok-members.ensures.some.1 (rw (c.parts_of-own.ensures, c.side.ensures) h)),
)
