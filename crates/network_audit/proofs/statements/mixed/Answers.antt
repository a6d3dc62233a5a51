use Rattle.network_audit.proofs.Words.{Decides-rational_eq, IsBelow, err_from_is_err_and, first_finding, heat_of_both, mean_items, mixed_positive, over, plus}
use Rattle.network_audit.proofs.Words.{rational_eq, rational_zero, value_formed}
use Rattle.network_audit.proofs.ItemLemmas.{found-formed, found-not_formed, found-nothing}
use Rattle.network_audit.proofs.JointLemmas.{even_mix}
use Rattle.std.proofs.Common.{[], ap, false, if◌then◌else◌, subst, sym, true, ◌∙◌, ◌≡◌}
use Rattle.network_audit.proofs.statements.mixed.Goals as goal

pub returns-in_default : goal.returns-in_default
returns-in_default c = λ at. found-not_formed at 1 _ _ _ c.in_default.is c.plus.ensures

pub returns-then-eq : goal.returns-then-eq
returns-then-eq c =
    let f = c.args.first.now in
    let s = c.args.second.now in
    let even : rational_eq f.t s.t ≡ true = sym c.eq.ensures ∙ c.if-eq.true in
    let state = even_mix f s (mixed_positive f s c.requires.first c.requires.second) ((Decides-rational_eq f.t s.t).0 even) in (
      λ at. found-formed at 1 _ _ _ _ c.in-Some.is c.plus.ensures
          ∙ ap (λ b. first_finding (if b then [] else mean_items at f s (plus f.cp s.cp))) even ∙ found-nothing,
      λ i. record { cp = value_formed _ _ _ c.in-Some.is c.plus.ensures i; t = state i },
    )

pub mean-requires : goal.mean-requires
mean-requires c = subst (IsBelow rational_zero) (sym (value_formed _ _ _ c.in-Some.is c.plus.ensures))
    (mixed_positive c.args.first.now c.args.second.now c.requires.first c.requires.second)

pub returns-in_err-t : goal.returns-in_err-t
returns-in_err-t c =
    let f = c.args.first.now in
    let s = c.args.second.now in
    let even : rational_eq f.t s.t ≡ false = sym c.eq.ensures ∙ c.if-eq.false in
    let size = value_formed _ _ _ c.in-Some.is c.plus.ensures in
    let p = err_from_is_err_and c.from_residual.result c.from_residual.ensures.1 in
    rw (p.1, p.2)
    (λ at. found-formed at 1 _ _ _ _ c.in-Some.is c.plus.ensures ∙ ap (λ b. first_finding (if b then [] else mean_items at f s (plus f.cp s.cp))) even
    ∙ ap (λ cp. first_finding (mean_items at f s cp)) (sym size) ∙ c.in_err-t.ensures at)

pub returns : goal.returns
returns c =
    let f = c.args.first.now in
    let s = c.args.second.now in
    let even : rational_eq f.t s.t ≡ false = sym c.eq.ensures ∙ c.if-eq.false in
    let size = value_formed _ _ _ c.in-Some.is c.plus.ensures in (
      λ at. found-formed at 1 _ _ _ _ c.in-Some.is c.plus.ensures
          ∙ ap (λ b. first_finding (if b then [] else mean_items at f s (plus f.cp s.cp))) even
          ∙ ap (λ cp. first_finding (mean_items at f s cp)) (sym size) ∙ c.in_ok-t.ensures.0 at,
      λ i. record { cp = size i; t = (c.in_ok-t.ensures.1 ∙ ap (over (heat_of_both f s)) size) i },
    )
