use Rattle.commands.proofs.Early.{by_completed, form_ends, with_form, without_form, without_text}
use Rattle.commands.proofs.Words.{AreSensible, Case, EndsIn, IsStandard, Reading, ShelfState, case_file, one_file, ready, wanted}
use Rattle.commands.specs.Reading.{vertical_form}
use Rattle.commands.specs.declared.request.Request.TheVariants.{Vertical}
use Rattle.reports.specs.declared.shown.Shown.TheVariants.{Latent, NotStandard}
use Rattle.std.proofs.Common.{Err, Ok, inl, inr, refl}
use Rattle.commands.proofs.request.request_vertical.Goals as goal

-- what is wanted of a completed case
abbrev asked : Case → Reading
asked c =
    wanted (IsStandard c) NotStandard (wanted (AreSensible c.streams) Latent (ready (Vertical c)))

pub returns-in_err-case-clause-reads : goal.returns-in_err-case-clause-reads
unfolding vertical_form
returns-in_err-case-clause-reads g c =
    without_form (one_file c.args.words.now) _ _ _ c.in_err-case.ensures c.from_residual.ensures.1

pub returns-in_err-case-2-clause-reads : goal.returns-in_err-case-2-clause-reads
unfolding vertical_form
returns-in_err-case-2-clause-reads g c =
    with_form (one_file c.args.words.now) _ _ _ _ _ c.in_ok-case.ensures
    (without_text case_file _ _ _ _ _ _ c.from_residual-in_err-case-2.ensures.1 c.in_err-case-2.ensures.stop)

not_standard : (c : Case) (state : ShelfState) → (IsStandard c → ⊥) → EndsIn (asked c) state state (Err NotStandard)
unfolding EndsIn
not_standard c state not = inr (not, refl, refl)

latent : (c : Case) (state : ShelfState) → IsStandard c → (AreSensible c.streams → ⊥) → EndsIn (asked c) state state (Err Latent)
unfolding EndsIn
latent c state standard not = inl (standard, inr (not, refl, refl))

sensible : (c : Case) (state : ShelfState) → IsStandard c → AreSensible c.streams → EndsIn (asked c) state state (Ok (Vertical c))
unfolding EndsIn
sensible c state standard is = inl (standard, inl (is, (refl, refl)))

pub returns-then-not-is_standard-clause-reads : goal.returns-then-not-is_standard-clause-reads
unfolding vertical_form
returns-then-not-is_standard-clause-reads g c =
    let test = c.if-not-is_standard.ensures.1 in
    form_ends (one_file c.args.words.now) _ _ _ _ _ c.in_ok-case.ensures
    (by_completed _ asked _ _ _ _ _ c.in_ok-case-2.ensures.case (not_standard _ _ (λ standard. cc (test standard))))

pub returns-then-is_sensible-clause-reads : goal.returns-then-is_sensible-clause-reads
unfolding vertical_form
returns-then-is_sensible-clause-reads g c =
    let standard = c.if-not-is_standard.ensures.0 refl in
    form_ends (one_file c.args.words.now) _ _ _ _ _ c.in_ok-case.ensures
    (by_completed _ asked _ _ _ _ _ c.in_ok-case-2.ensures.case (sensible _ _ standard (c.if-is_sensible.ensures.0 refl)))

pub returns-else-is_sensible-clause-reads : goal.returns-else-is_sensible-clause-reads
unfolding vertical_form
returns-else-is_sensible-clause-reads g c =
    let standard = c.if-not-is_standard.ensures.0 refl in
    let test = c.if-is_sensible.ensures.1 in
    form_ends (one_file c.args.words.now) _ _ _ _ _ c.in_ok-case.ensures
    (by_completed _ asked _ _ _ _ _ c.in_ok-case-2.ensures.case (latent _ _ standard (λ is. cc (test is))))
