use Rattle.pieces.proofs.Words.{AreStages, Course, IsLedNetwork, Network, all_branches, balance_of, courses_lines, exchangers_of, made_branches}
use Rattle.pieces.proofs.Words.{network_of, own_branches}
use Rattle.pieces.proofs.Law.{balance-network_of, led_network}
use Rattle.pieces.proofs.PieceShape.{exchangers_of-network_of, length-network_of}
use Rattle.pieces.proofs.PieceStages.{courses-used}
use Rattle.pieces.proofs.PieceShape.{few-branches, length-courses_of}
use Rattle.std.proofs.Common.{All, List, ap, arith, length, subst, sym, ◌++◌, ◌∙◌}
use Rattle.pieces.proofs.network.lead.Goals as goal

pub draw-requires-clause-stages : goal.draw-requires-clause-stages
draw-requires-clause-stages c =
    let courses = c.as_slice.ensures.value ∙ c.in_ok-courses.ensures in
    let used = courses-used c.args.exchanges.now c.args.case.now c.args.hot.now c.args.cold.now in
    subst (All AreStages) (sym courses) used

pub draw-requires-clause-all : goal.draw-requires-clause-all
draw-requires-clause-all c =
    ap length (c.as_slice.ensures.value ∙ c.in_ok-courses.ensures)
    ∙ length-courses_of c.args.case.now c.args.hot.now c.args.cold.now c.args.exchanges.now

pub draw-requires-clause-fits : goal.draw-requires-clause-fits
draw-requires-clause-fits c =
    let case = c.args.case.now in
    let hot = c.args.hot.now in
    let cold = c.args.cold.now in
    let exchanges = c.args.exchanges.now in
    let few = few-branches case hot cold exchanges (courses-used exchanges case hot cold) in
    omega (arith, ap all_branches (c.as_slice.ensures.value ∙ c.in_ok-courses.ensures), few, c.requires.few)

-- the network is the one that the sources and the exchanges draw
pub returns-clause-drawn : goal.returns-clause-drawn
unfolding network_of
returns-clause-drawn c =
    let case = c.args.case.now in
    let courses = c.as_slice.ensures.value ∙ c.in_ok-courses.ensures in
    let branches = c.in_ok-network.ensures.branches
    ∙ ap (λ (cs : List Course). own_branches case ++ made_branches 0 0 cs) courses in
    let lines = c.in_ok-network.ensures.lines
    ∙ (λ i. c.in_ok-declarations.ensures i ++ courses_lines (length case.streams) 0 (courses i)) in
    λ i. record { branches = branches i; lines = lines i }

pub returns-clause-exchangers : goal.returns-clause-exchangers
returns-clause-exchangers c =
    ap (λ (n : Network). exchangers_of n.lines) (returns-clause-drawn c)
    ∙ exchangers_of-network_of c.args.case.now c.args.hot.now c.args.cold.now c.args.exchanges.now

pub returns-clause-few_lines : goal.returns-clause-few_lines
returns-clause-few_lines c =
    let few = length-network_of c.args.case.now c.args.hot.now c.args.cold.now c.args.exchanges.now in
    omega (arith, ap (λ (n : Network). length n.lines) (returns-clause-drawn c), few)

pub returns-clause-balance : goal.returns-clause-balance
returns-clause-balance c =
    ap (balance_of c.args.case.now) (returns-clause-drawn c)
    ∙ balance-network_of c.args.case.now c.args.hot.now c.args.cold.now c.args.exchanges.now

pub returns-clause-led : goal.returns-clause-led
returns-clause-led c hots colds hot_is cold_is led =
    let case = c.args.case.now in
    let exchanges = c.args.exchanges.now in
    let led_all = led_network case hots colds exchanges c.requires.complete c.requires.few led in
    subst (IsLedNetwork case hots colds exchanges)
    ((λ i. network_of case (hot_is i) (cold_is i) exchanges) ∙ sym (returns-clause-drawn c)) led_all
