use Rattle.network_audit.proofs.Words.{AreStreams-IsComplete, BranchValue, IsValidStream, NamesKnown, Rational, Side, all_at, branch_side, duty_at, end_items}
use Rattle.network_audit.proofs.Words.{err_from_is_err_and, exchangers_of, first_finding, is_latent_branch, mix_items, mixed_value, pass_items, passed_value}
use Rattle.network_audit.proofs.Words.{stream_at, uses, value_at}
use Rattle.network_audit.proofs.ItemLemmas.{found-nothing}
use Rattle.network_audit.proofs.JointLemmas.{duty-read, length-joints, value-read}
use Rattle.network_audit.proofs.statements.made_by.Goals.{After-ended, After-mixed, After-passed, In-Pass, In-Some}
use Rattle.std.proofs.Common.{All, Bool, None, Some, [], ap, arith, get_or, length, option_copied, refl, slice_get, subst, sym, ◌<◌, ◌∙◌, ◌∷◌, ◌≡◌}
use Rattle.network_audit.proofs.statements.made_by.Goals as goal

-- the exchanger of a pass is in the table
exchanger_in : (c : In-Pass) → c.in-Pass.exchanger < length c.args.joints.now
exchanger_in c =
    let n = c.args.network.now in
    let known = subst (NamesKnown c.args.case.now n) c.in-Pass.is c.requires.known in
    let long = ap length c.requires.joints ∙ length-joints n.branches n.lines (exchangers_of n.lines) in
    omega (arith, long, known.1)

pub bounds-joints-exchanger : goal.bounds-joints-exchanger
bounds-joints-exchanger c =
    let within = exchanger_in (goal.at.bounds-joints-exchanger c).In-Pass in
    omega (arith, within)

pub bounds-joints-exchanger-in-Pass : goal.bounds-joints-exchanger-in-Pass
bounds-joints-exchanger-in-Pass c =
    let within = exchanger_in (goal.at.bounds-joints-exchanger-in-Pass c).In-Pass in
    omega (arith, within)

pub returns-in-Exchanger : goal.returns-in-Exchanger
returns-in-Exchanger c = rw c.in-Exchanger.is (found-nothing, refl)

pub returns-in_default : goal.returns-in_default
returns-in_default c =
    let n = c.args.network.now in
    let stream = c.stream_at-stream.ensures ∙ ap (λ bs. stream_at bs c.in-End.branch) c.as_slice.ensures in
    let there : None ≡ slice_get c.args.case.now.streams (stream_at n.branches c.in-End.branch) =
    ap option_copied (sym c.in_default.is) ∙ c.get.ensures ∙ ap (slice_get c.args.case.now.streams) stream in
    rw c.in-End.is (ap (λ o. first_finding (end_items c.args.place (value_at c.args.values.now c.in-End.branch) o)) (sym there) ∙ found-nothing, refl)

-- what the code reads for a pass is what the pass is of
pass_read : {X : Type 0} (f : Side → Bool → BranchValue → Rational → X) (c : After-passed)
    → f c.branch_side-side.result c.is_latent_branch-is_latent.result c.index-values-from-in-Pass.result
    (get_or c.args.joints.now c.in-Pass.exchanger c.index-joints-exchanger.result).duty
    ≡ f (branch_side c.args.case.now c.args.network.now c.in-Pass.from) (is_latent_branch c.args.case.now c.args.network.now c.in-Pass.from)
    (value_at c.args.values.now c.in-Pass.from) (duty_at c.args.network.now c.in-Pass.exchanger)
pass_read f c =
    let n = c.args.network.now in
    let values = c.args.values.now in
    let known = subst (NamesKnown c.args.case.now n) c.in-Pass.is c.requires.known in
    let used = subst (λ l. All (λ b. b < length values) (uses l)) c.in-Pass.is c.requires.used in
    let latent = c.is_latent_branch-is_latent.ensures n (sym c.as_slice-branches.ensures) in
    let value = value-read values c.in-Pass.from c.index-values-from-in-Pass.result (used 0 0 (omega arith)) c.index-values-from-in-Pass.is in
    let duty = duty-read n c.args.joints.now c.in-Pass.exchanger c.index-joints-exchanger.result c.requires.joints known.1 in
    λ i. f ((c.branch_side-side.ensures n (sym c.as_slice-branches.ensures)) i) (latent i) (value i) (duty i)

pub returns-in_ok-to-in-Pass : goal.returns-in_ok-to-in-Pass
returns-in_ok-to-in-Pass c =
    let at = (goal.at.returns-in_ok-to-in-Pass c).After-passed in
    rw c.in-Pass.is (
      sym (pass_read (λ on latent v duty. first_finding (pass_items c.args.place on latent v duty)) at)
          ∙ c.in_ok-to-in-Pass.ensures.0,
      ap (λ v. v ∷ []) (c.in_ok-to-in-Pass.ensures.1 ∙ pass_read (λ on latent v duty. passed_value on v duty) at),
    )

pub returns-in_err-to-in-Pass : goal.returns-in_err-to-in-Pass
returns-in_err-to-in-Pass c = let at = (goal.at.returns-in_err-to-in-Pass c).After-passed in
    let p = err_from_is_err_and c.from_residual-in_err-to-in-Pass.result c.from_residual-in_err-to-in-Pass.ensures.1 in
    rw (p.1, p.2, c.in-Pass.is)
    (sym (pass_read (λ on latent v duty. first_finding (pass_items c.args.place on latent v duty)) at) ∙ c.in_err-to-in-Pass.ensures)

-- what the code reads for a mix
mix_read : {X : Type 0} (f : BranchValue → BranchValue → X) (c : After-mixed)
    → f c.index-values-first.result c.index-values-second.result
    ≡ f (value_at c.args.values.now c.in-Mix.first) (value_at c.args.values.now c.in-Mix.second)
mix_read f c =
    let values = c.args.values.now in
    let used = subst (λ l. All (λ b. b < length values) (uses l)) c.in-Mix.is c.requires.used in
    let first = value-read values c.in-Mix.first c.index-values-first.result (used 0 0 (omega arith)) c.index-values-first.is in
    let second = value-read values c.in-Mix.second c.index-values-second.result (used 1 0 (omega arith)) c.index-values-second.is in
    λ i. f (first i) (second i)

pub returns-in-Ok : goal.returns-in-Ok
returns-in-Ok c = let at = (goal.at.returns-in-Ok c).After-mixed in rw c.in-Mix.is (
  sym (mix_read (λ v w. first_finding (mix_items c.args.place v w)) at) ∙ c.in-Ok.ensures.0 c.args.place,
  ap (λ v. v ∷ []) (c.in-Ok.ensures.1 ∙ mix_read mixed_value at),
)

pub returns-in-Err : goal.returns-in-Err
returns-in-Err c =
    rw c.in-Mix.is (sym (mix_read (λ v w. first_finding (mix_items c.args.place v w)) (goal.at.returns-in-Err c).After-mixed) ∙ c.in-Err.ensures c.args.place)

-- the stream of the branch that ends
stream_there : (c : In-Some)
    → slice_get c.args.case.now.streams (stream_at c.args.network.now.branches c.in-End.branch)
    ≡ Some c.in-Some.stream.now
stream_there c =
    let stream = c.stream_at-stream.ensures ∙ ap (λ bs. stream_at bs c.in-End.branch) c.as_slice.ensures in
    sym (ap option_copied (sym c.in-Some.is) ∙ c.get.ensures ∙ ap (slice_get c.args.case.now.streams) stream)

pub ended-requires : goal.ended-requires
ended-requires c =
    let case = c.args.case.now in
    all_at IsValidStream case.streams (stream_at c.args.network.now.branches c.in-End.branch) c.in-Some.stream.now
    (AreStreams-IsComplete case c.requires.complete).each (stream_there (goal.at.ended-requires c).In-Some)

-- the items of an end, as the code reads them
end_read : (c : After-ended) → first_finding (end_items c.args.place (value_at c.args.values.now c.in-End.branch)
    (slice_get c.args.case.now.streams (stream_at c.args.network.now.branches c.in-End.branch)))
    ≡ first_finding (end_items c.args.place c.index-values-branch.result (Some c.in-Some.stream.now))
end_read c =
    let values = c.args.values.now in
    let used = subst (λ l. All (λ b. b < length values) (uses l)) c.in-End.is c.requires.used in
    let value = value-read values c.in-End.branch c.index-values-branch.result (used 0 0 (omega arith)) c.index-values-branch.is in
    let there = stream_there (goal.at.After-ended c).In-Some in
    λ i. first_finding (end_items c.args.place (sym value i) (there i))

pub returns-in-Ok-ended : goal.returns-in-Ok-ended
returns-in-Ok-ended c =
    rw c.in-End.is (end_read (goal.at.returns-in-Ok-ended c).After-ended ∙ c.in-Ok-ended.ensures.0 c.args.place, refl)

pub returns-in-Err-ended : goal.returns-in-Err-ended
returns-in-Err-ended c =
    rw c.in-End.is (end_read (goal.at.returns-in-Err-ended c).After-ended ∙ c.in-Err-ended.ensures c.args.place)
