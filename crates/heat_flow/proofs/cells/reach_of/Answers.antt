use Rattle.heat_flow.proofs.ReachLemmas.{cell_rows, cell_rows-reach, length-cell_rows}
use Rattle.heat_flow.proofs.Words.{take_all}
use Rattle.std.proofs.Common.{ap, ap₂, arith, length, sym, ◌*◌, ◌∙◌, ◌≡◌}
use Rattle.heat_flow.proofs.cells.reach_of.Goals as goal

cells_are : (c : goal.After-from_vec)
    → c.from_vec.result ≡ cell_rows c.args.case.now c.args.parts.now.hot c.args.parts.now.cold
cells_are c = c.from_vec.ensures ∙ c.loop-part.invariant
    ∙ ap (λ ps. cell_rows c.args.case.now ps c.as_slice-cold.result.now) (take_all c.loop-part.part-index c.as_slice-hot.result.now c.loop-part-test.false)
    ∙ ap₂ (cell_rows c.args.case.now) c.as_slice-hot.ensures c.as_slice-cold.ensures

pub invariant_of-result : goal.invariant_of-result
invariant_of-result c =
    let hots = ap length c.as_slice-hot.ensures in
    let colds = ap length c.as_slice-cold.ensures in
    record {
      few_hots = omega (arith, c.args.parts.now.few_hot);
      few_colds = omega (arith, c.args.parts.now.few_cold);
      whole =
          ap length (cells_are c) ∙ length-cell_rows c.args.case.now c.args.parts.now.hot c.args.parts.now.cold ∙ sym (ap₂ ◌*◌ hots colds);
    }

pub returns-clause-cells : goal.returns-clause-cells
returns-clause-cells c a b =
    rw (cells_are c.before, c.as_slice-hot.ensures, c.as_slice-cold.ensures) (cell_rows-reach c.args.case.now c.args.parts.now.hot c.args.parts.now.cold a b)
