use Rattle.network_audit.proofs.JointLemmas.{length-joints}
use Rattle.network_audit.proofs.Words.{PassesBelow, exchangers_of}
use Rattle.std.proofs.Common.{All, [], ap, length, subst, sym, ◌∙◌, ◌≡◌}
use Rattle.network_audit.proofs.joints.joints_of.Goals as goal

pub note_passes-requires : goal.note_passes-requires
note_passes-requires c =
    let lines = c.args.network.now.lines in
    let long : length c.deref_mut.result.now ≡ length (exchangers_of lines) =
    ap length (c.deref_mut.ensures.value ∙ c.in_ok-joints.ensures [])
    ∙ length-joints [] [] (exchangers_of c.as_slice.result.now)
    ∙ ap (λ ls. length (exchangers_of ls)) c.as_slice.ensures in subst (λ n. All (PassesBelow n) c.as_slice-3.result.now) (sym long)
    (subst (λ ls. All (PassesBelow (length (exchangers_of lines))) ls) (sym c.as_slice-3.ensures) c.requires)
