use Rattle.price_floor.proofs.Words.{IsCutOf, false_from_ne_true, known_network, reach_between, reaches}
use Rattle.price_floor.proofs.CutLemmas.{no_cut-stands}
use Rattle.price_floor.proofs.UsesLemmas.{uses_ordered}
use Rattle.std.proofs.Common.{subst, sym, ◌≡◌}
use Rattle.price_floor.proofs.floor.cut_stands.Goals as goal

pub returns-clause-exact : goal.returns-clause-exact
returns-clause-exact c =
    let hot = c.args.parts.now.hot in
    let cold = c.args.parts.now.cold in
    let same : reaches c.args.reach.now ≡ reach_between c.args.case.now hot cold
    = λ i a b. c.requires.reach.cells a b i in
    let exact = c.is_cut.ensures.exact in (
      λ stands. subst (λ r. IsCutOf r hot cold c.args.cut.now) same (exact.0 stands).is_cut,
      λ cut. exact.1 (record { sizes = c.requires.reach.sizes; is_cut = subst (λ r. IsCutOf r hot cold c.args.cut.now) (sym same) cut }),
    )

pub returns-clause-never : goal.returns-clause-never
returns-clause-never c =
    let known = known_network _ _ _ c.requires.accepted c.knows_its_network.ensures in
    let exact = returns-clause-exact c in
    false_from_ne_true _ (λ stands.
    no_cut-stands uses_ordered c.args.case.now c.args.network.now c.args.parts.now.hot c.args.parts.now.cold c.args.cut.now known.complete known.shape
    known.valid c.requires.parts (exact.0 stands))
