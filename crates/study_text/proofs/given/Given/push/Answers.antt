-- Where the entries of the last scenario begin behind one more.
use Rattle.std.proofs.Common.{[], ap, arith, length, sym, ◌++◌, ◌∙◌, ◌∷◌, ◌≡◌}
use Rattle.study_text.proofs.LastScenario.{own-more, own-scenario}
use Rattle.study_text.proofs.given.Given.push.Goals as goal

pub invariant_of-self-then-is_scenario : goal.invariant_of-self-then-is_scenario
invariant_of-self-then-is_scenario c =
    let entries = c.self.inside.entries.items in
    let long : c.len-self-inside.result ≡ length (entries ++ c.args.entry ∷ []) =
    omega (arith, c.len-self-inside.ensures, c.push.new.self.ok.0, ap length c.in_ok-push.ensures.items) in
    rw (c.in_ok-push.ensures.items) (own-scenario c.len-self-inside.result entries c.args.entry long (sym c.is_scenario.ensures ∙ c.if-is_scenario.true))

pub invariant_of-self-else-is_scenario : goal.invariant_of-self-else-is_scenario
invariant_of-self-else-is_scenario c = let entries = c.self.inside.entries.items in
    rw (c.in_ok-push.ensures.items) (own-more c.self.inside.own entries c.args.entry c.self.invariant (sym c.is_scenario.ensures ∙ c.if-is_scenario.false))
