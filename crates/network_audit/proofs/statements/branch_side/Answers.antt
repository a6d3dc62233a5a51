use Rattle.network_audit.proofs.Words.{branch_side, side_of, stream_at}
use Rattle.std.proofs.Common.{ap, sym, unwrap_or, ◌∙◌}
use Rattle.network_audit.proofs.statements.branch_side.Goals as goal
use Rattle.stream_case.specs.declared.source.Side.TheVariants as side
use Rattle.stream_case.specs.declared.source.Source.TheVariants as source

pub returns : goal.returns
unfolding branch_side
returns c network same =
    let stream = c.stream_at.ensures ∙ ap (λ bs. stream_at bs c.args.number) (sym same) in
    c.unwrap_or.ensures ∙ ap (λ o. unwrap_or o side.Hot) (c.side_of.ensures ∙ ap (λ s. side_of c.args.case.now (source.Stream s)) stream)
