-- The permissions of a group are those of its first source.
use Rattle.chains.proofs.PartnerLemmas.{ArePermitted-first}
use Rattle.chains.proofs.Words.{ArePermissions, ArePermitted, Contains, Contains-get_or, IfOk-weaker}
use Rattle.std.proofs.Common.{ap, arith, get_or, length, subst, ◌<◌}
use Rattle.chains.proofs.partners.permitted_to.Goals as goal
use Rattle.stream_case.specs.declared.source.Source.TheVariants.{Stream as of_stream}

pub returns : goal.returns
returns c =
    let case = c.args.case.now in
    let g = c.args.group.now in
    let sources = c.as_slice.result.now in
    let within : 0 < length sources = omega (arith, c.requires.group.filled, ap length c.as_slice.ensures) in
    let first = get_or sources 0 (of_stream 0) in
    let stands = subst (λ xs. Contains xs first) c.as_slice.ensures (Contains-get_or sources 0 (of_stream 0) within) in
    IfOk-weaker c.permissions.result (λ v. ArePermissions case case.forbids first v.items)
    (λ v. ArePermitted case g v.items) (λ v h. ArePermitted-first case g c.requires.group first stands v.items h)
    c.permissions.ensures
