use Rattle.std.proofs.Common.{ap, ap₂, arith, subst, sym, ◌*◌, ◌++◌, ◌+◌, ◌∙◌, ◌≡◌}
use Rattle.study.proofs.Words.{Cold, Hot, IsValid, SAMPLE_CONTRIBUTION, drawn_forbids, drawn_streams, state_after}
use Rattle.study.proofs.SampleLemmas.{IsValid-sample, state_after-add}
use Rattle.study.proofs.sample.sample_case.Goals as goal

pub returns-clause-case : goal.returns-clause-case
returns-clause-case c =
    let number = c.args.number in
    let count = c.args.count in
    let hots = c.in_ok-push_streams.ensures in
    let colds = c.in_ok-push_streams-2.ensures in
    let draws : 3 * count + 3 * count ≡ 6 * count = omega arith in
    let first = hots.streams
    ∙ ap₂ (λ ss x. ss ++ drawn_streams Hot x count) c.new-streams.ensures.items c.new-generator.ensures in
    let state = hots.state ∙ ap (λ x. state_after x (3 * count)) c.new-generator.ensures in
    let streams = c.from_vec.ensures ∙ colds.streams ∙ ap₂ (λ ss x. ss ++ drawn_streams Cold x count) first state in
    let last = colds.state ∙ ap (λ x. state_after x (3 * count)) state
    ∙ state_after-add number (3 * count) (3 * count) ∙ ap (state_after number) draws in
    let forbids = c.from_vec-2.ensures ∙ c.in_ok-forbids.ensures ∙ ap (λ x. drawn_forbids x count) last in
    λ i. record { contribution = SAMPLE_CONTRIBUTION; streams = streams i; utilities = c.new.ensures i; forbids = forbids i }

pub returns-clause-valid : goal.returns-clause-valid
returns-clause-valid c =
    subst IsValid (sym (returns-clause-case c)) (IsValid-sample c.args.number c.args.count c.requires.some_streams c.requires.few_streams)
