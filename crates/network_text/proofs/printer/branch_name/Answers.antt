use Rattle.network_text.proofs.Printed.Lengths.{branch_name-at}
use Rattle.network_text.proofs.Words.{Branch}
use Rattle.std.proofs.Common.{List, ap, get_or, sym, ◌∙◌, ◌≡◌}
use Rattle.network_text.proofs.printer.branch_name.Goals as goal

pub returns : goal.returns
returns c =
    let b = c.index-as_slice-number.result in
    let here : b ≡ get_or c.args.network.now.branches c.args.number b = c.index-as_slice-number.is
    ∙ ap (λ (bs : List Branch). get_or bs c.args.number b) c.as_slice.ensures in
    sym (ap (λ (x : Branch). x.name) c.index-as_slice-number.is)
    ∙ branch_name-at c.args.network.now c.args.number b c.requires here
