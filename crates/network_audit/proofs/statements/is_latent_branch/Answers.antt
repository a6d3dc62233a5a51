use Rattle.network_audit.proofs.Words.{is_latent_branch, stream_at}
use Rattle.std.proofs.Common.{ap, rules, sym, ◌∙◌, ◌≡◌}
use Rattle.network_audit.proofs.statements.is_latent_branch.Goals as goal

pub returns : goal.returns
unfolding is_latent_branch
returns c network same =
    let stream : c.stream_at.result ≡ stream_at network.branches c.args.number
    = c.stream_at.ensures ∙ ap (λ bs. stream_at bs c.args.number) (sym same) in
    rw (← stream) (search rules)
