use Rattle.design_lines.proofs.NameLemmas.{IsDottedName-branch_name}
use Rattle.design_lines.proofs.Words.{IsAnyName, branch_name, decimal}
use Rattle.std.proofs.Common.{ap, arith, inr, subst, sym, ◌+◌, ◌∙◌, ◌∷◌, ◌≡◌}
use Rattle.design_lines.proofs.names.branch_name.Goals as goal

pub unreachable-requires : goal.unreachable-requires
unreachable-requires c =
    let text : c.as_bytes.result.now ≡ branch_name c.args.number
    = c.as_bytes.ensures.value ∙ c.as_str.ensures.value ∙ c.in_ok-text.ensures.ok
    ∙ ap (λ n. 46 ∷ decimal (n + 1)) c.from.ensures in
    c.in_default.ensures (subst IsAnyName (sym text) (inr (IsDottedName-branch_name c.args.number (omega arith))))
