use Rattle.penalties.proofs.Words.{Penalty, Rational, all_mix_steps, enumerate_from, first-here, first-more, first-none, first_finding, line_steps, mix_row}
use Rattle.penalties.proofs.Words.{mix_rows, seen_height, seen_steps}
use Rattle.network_audit.proofs.ItemLemmas.{found-append, found-nothing}
use Rattle.penalties.proofs.StepLemmas.{filtered-more, no_row, no_steps}
use Rattle.penalties.proofs.heights.Survey.add_mixes.Goals.{in-Mix+in-Ok+in_ok-push-in-Ok, in_default}
use Rattle.std.proofs.Common.{[], ap, append-nil, filter_map, get_or, sym, take_all, ◌++◌, ◌+◌, ◌∙◌, ◌∷◌, ◌≡◌}
use Rattle.network_audit.specs.declared.findings.Place.TheVariants as place
use Rattle.penalties.proofs.heights.Survey.add_mixes.Goals as goal

pub loop-index-init : goal.loop-index-init
loop-index-init c = (found-nothing, sym (append-nil c.args.list.now.items))

pub returns-in-Err : goal.returns-in-Err
unfolding all_mix_steps
returns-in-Err c =
    let d = c.index-lines-index.result in
    let steps = line_steps (seen_height c.args.self.now) (seen_steps c.args.self.now) in
    first-here first_finding found-append steps c.args.lines.now c.loop-index.index d _ c.loop-index-test.true c.loop-index.invariant.0
    (ap (λ l. first_finding (steps (c.loop-index.index, l))) (sym c.index-lines-index.is ∙ c.in-Mix.is) ∙ c.in-Err.ensures)

pub loop-index-preserved : goal.loop-index-preserved
loop-index-preserved c =
    let d = c.index-lines-index.result in
    let n = c.loop-index.index in
    let lines = c.args.lines.now in
    let height = seen_height c.args.self.now in
    let steps = line_steps height (seen_steps c.args.self.now) in
    let more = filtered-more lines n d c.loop-index-test.true (mix_row height) c.loop-index.list.items c.args.list.now.items c.loop-index.invariant.1 in
    elim c.match-line.branch [
      | in-Mix+in-Ok+in_ok-push-in-Ok w ↦
          let at = sym c.index-lines-index.is ∙ w.in-Mix.is in
          let same = ap (λ l. filter_map (mix_row height) ((n, l) ∷ [])) at in (
            first-more first_finding found-append steps lines n d c.loop-index-test.true c.loop-index.invariant.0
                (ap (λ l. first_finding (steps (n, l))) at ∙ w.in-Ok.ensures.0),
            ap (λ v. v.items) w.list-is ∙ w.in_ok-push-in-Ok.ensures.items
                ∙ ap (λ (value : Rational). c.loop-index.list.items ++ (let row : Penalty = record { place = place.Line (n + 1); value = value } in row) ∷ [])
                w.in-Ok.ensures.1 ∙ ap (λ rows. c.loop-index.list.items ++ rows) (sym same) ∙ more,
          )
      | in_default w ↦
          let at = c.index-lines-index.is in
          let none : filter_map (mix_row height) ((n, get_or lines n d) ∷ []) ≡ [] =
          ap (λ l. filter_map (mix_row height) ((n, l) ∷ [])) (sym at) ∙ no_row height n d w.in_default.not-Mix in (
            first-more first_finding found-append steps lines n d c.loop-index-test.true c.loop-index.invariant.0
                (ap (λ l. first_finding (steps (n, l))) (sym at) ∙ ap first_finding (no_steps height (seen_steps c.args.self.now) n d w.in_default.not-Mix)
                ∙ found-nothing),
            ap (λ v. v.items) w.list-is ∙ sym (append-nil c.loop-index.list.items)
                ∙ ap (λ rows. c.loop-index.list.items ++ rows) (sym none) ∙ more,
          )
    ]

pub returns : goal.returns
unfolding all_mix_steps mix_rows
returns c =
    let height = seen_height c.args.self.now in (
      first-none first_finding found-append (line_steps height (seen_steps c.args.self.now))
          c.args.lines.now c.loop-index.index c.loop-index-test.false c.loop-index.invariant.0,
      c.loop-index.invariant.1 ∙ ap (λ ls. c.args.list.now.items ++ filter_map (mix_row height) (enumerate_from 0 ls))
          (take_all c.loop-index.index c.args.lines.now c.loop-index-test.false),
    )
