use Rattle.penalties.proofs.Words.{IsShifted, Sensible, all_at, base_of, counts_above, shifted, to_z-of_z, value_at, values_of, view_of}
use Rattle.network_audit.proofs.ItemLemmas.{found-nothing}
use Rattle.penalties.proofs.SurveyLemmas.{AnswersOn, LevelAnswers, answers-latent, answers-seen, answers-sensible, stream_read}
use Rattle.std.proofs.Common.{None, Ok, Some, ap, ap₂, option_copied, rules, subst, sym, w32, ◌∙◌}
use Rattle.penalties.proofs.heights.Survey.height.Goals as goal

pub returns-in_default : goal.returns-in_default
returns-in_default c =
    let s = c.args.self.now in
    let at = stream_read s c.args.branch _ _ None c.as_slice.ensures c.stream_at-stream.ensures (sym (ap option_copied c.in_default.is) ∙ c.get.ensures) in
    answers-seen s c.args.place c.args.step c.args.branch None (Ok c.whole.result) at (found-nothing, c.whole.ensures)

pub level_of-requires : goal.level_of-requires
level_of-requires c =
    let s = c.args.self.now in
    all_at (λ s. IsShifted (shifted s.side s.supply s.contribution)) s.case.now.streams _ c.in-Some.stream.now s.levels
    (sym c.get.ensures ∙ ap option_copied c.in-Some.is)

pub returns-then-is_latent : goal.returns-then-is_latent
returns-then-is_latent c =
    let s = c.args.self.now in
    let stream = c.in-Some.stream.now in
    let r = c.latent_height.result in
    let value = value_at (values_of s.auditor.now) c.args.branch in
    let at = stream_read s c.args.branch _ _ (Some stream) c.as_slice.ensures c.stream_at-stream.ensures
    (sym (ap option_copied c.in-Some.is) ∙ c.get.ensures) in
    let level = to_z-of_z w32 c.level_of.result (search rules) ∙ c.level_of.ensures in
    let counts = c.counts_above-counts.ensures
    ∙ ap₂ (counts_above s.reference.from_itself) (to_z-of_z w32 s.reference.place (search rules)) level in
    let answers = subst (λ b. LevelAnswers b c.args.place c.args.step value r) counts
    (subst (λ v. LevelAnswers c.counts_above-counts.result c.args.place c.args.step v r) c.value-value.ensures c.latent_height.ensures) in
    answers-seen s c.args.place c.args.step c.args.branch (Some stream) r at
    (answers-latent (view_of s) stream c.args.place c.args.step value r (sym c.is_latent.ensures.value ∙ c.if-is_latent.true) answers)

pub returns : goal.returns
returns c =
    let s = c.args.self.now in
    let stream = c.in-Some.stream.now in
    let r = c.sensible_height.result in
    let value = value_at (values_of s.auditor.now) c.args.branch in
    let at = stream_read s c.args.branch _ _ (Some stream) c.as_slice.ensures c.stream_at-stream.ensures
    (sym (ap option_copied c.in-Some.is) ∙ c.get.ensures) in
    let base = c.base_of-base.ensures ∙ ap (λ t. base_of t stream) (to_z-of_z w32 s.reference.place (search rules)) in
    let answers = subst (λ b. AnswersOn s.reference.from_itself (Sensible b) c.args.place c.args.step value r) base
    (subst (λ v. AnswersOn s.reference.from_itself (Sensible c.base_of-base.result) c.args.place c.args.step v r)
    c.value-value.ensures c.sensible_height.ensures) in
    answers-seen s c.args.place c.args.step c.args.branch (Some stream) r at
    (answers-sensible (view_of s) stream c.args.place c.args.step value r (sym c.is_latent.ensures.value ∙ c.if-is_latent.false) answers)
