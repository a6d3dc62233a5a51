use Rattle.design_lines.proofs.NameLemmas.{IsName-exchanger_name}
use Rattle.design_lines.proofs.Words.{IsAnyName, decimal, exchanger_name}
use Rattle.std.proofs.Common.{ap, arith, inl, subst, sym, ◌+◌, ◌∙◌, ◌∷◌, ◌≡◌}
use Rattle.design_lines.proofs.names.exchanger_name.Goals as goal

pub unreachable-requires : goal.unreachable-requires
unreachable-requires c =
    let text : c.as_bytes.result.now ≡ exchanger_name c.args.number
    = c.as_bytes.ensures.value ∙ c.as_str.ensures.value ∙ c.in_ok-text.ensures.ok
    ∙ ap (λ n. 69 ∷ decimal (n + 1)) c.from.ensures in
    c.in_default.ensures (subst IsAnyName (sym text) (inl (IsName-exchanger_name c.args.number (omega arith))))
