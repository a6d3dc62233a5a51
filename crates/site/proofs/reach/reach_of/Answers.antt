use Rattle.site.proofs.Words.{blank, get_or_default, reaches_within, stream_plants, take_all}
use Rattle.site.proofs.ReachLemmas.{cell_rows, cell_rows-more, cell_rows-reach, length-cell_rows}
use Rattle.std.proofs.Common.{List, ap, ap₂, arith, get_or, length, map, sym, ℕ, ◌*◌, ◌++◌, ◌∙◌, ◌≡◌}
use Rattle.site.proofs.reach.reach_of.Goals as goal

cells_are : (c : goal.After-from_vec)
    → c.from_vec.result ≡ cell_rows c.args.site.now c.args.parts.now.hot c.args.parts.now.cold
cells_are c = c.from_vec.ensures ∙ c.loop-part.invariant
    ∙ ap (λ ps. cell_rows c.args.site.now ps c.as_slice-cold.result.now) (take_all c.loop-part.part-index c.as_slice-hot.result.now c.loop-part-test.false)
    ∙ ap₂ (cell_rows c.args.site.now) c.as_slice-hot.ensures c.as_slice-cold.ensures

pub loop-part-preserved : goal.loop-part-preserved
loop-part-preserved c =
    let site = c.args.site.now in
    let hot = c.as_slice-hot.result.now in
    let cold = c.as_slice-cold.result.now in
    let i = c.loop-part.part-index in
    let part = get_or hot i blank in
    let plants = c.as_slice-plants.ensures.value ∙ c.in_ok-indexes.ensures ∙ ap stream_plants c.as_slice.ensures in
    c.in_ok-push_row.ensures
    ∙ ap₂ (λ cells (indexes : List ℕ). cells ++ map (reaches_within site indexes part) cold) c.loop-part.invariant plants
    ∙ sym (cell_rows-more site hot cold i part c.loop-part-test.true (get_or_default hot i blank part c.loop-part-test.true))

pub invariant_of-result : goal.invariant_of-result
invariant_of-result c =
    let hots = ap length c.as_slice-hot.ensures in
    let colds = ap length c.as_slice-cold.ensures in
    record {
      few_hots = omega (arith, c.args.parts.now.few_hot);
      few_colds = omega (arith, c.args.parts.now.few_cold);
      whole =
          ap length (cells_are c) ∙ length-cell_rows c.args.site.now c.args.parts.now.hot c.args.parts.now.cold ∙ sym (ap₂ ◌*◌ hots colds);
    }

pub returns-clause-cells : goal.returns-clause-cells
returns-clause-cells c a b = rw (cells_are c.before.before, c.as_slice-hot.ensures, c.as_slice-cold.ensures)
    (cell_rows-reach c.args.site.now c.args.parts.now.hot c.args.parts.now.cold a b)
