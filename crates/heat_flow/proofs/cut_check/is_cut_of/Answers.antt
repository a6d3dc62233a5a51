use Rattle.heat_flow.proofs.CutLemmas.{cuts_refuse_flows}
use Rattle.heat_flow.proofs.Words.{IsCutOf, IsTrue, Part, Side, cut_side, need_of, offer_of, opposite, parts_of, to_z-of_z, w128}
use Rattle.std.proofs.Common.{FitsSigned, List, of_z, refl, rules, sym, to_z, ◌∙◌, ◌≡◌}
use Rattle.heat_flow.proofs.cut_check.is_cut_of.Given as given
use Rattle.heat_flow.proofs.cut_check.is_cut_of.Goals as goal

module _ (g : given.Over) (c : goal.After-is_short g) where
  abbrev hots : List Part
  hots = c.args.parts.now.hot

  abbrev colds : List Part
  colds = c.args.parts.now.cold

  abbrev side : Side
  side = cut_side c.args.cut.now.kind

  own : c.parts_of-own.result.now ≡ parts_of side hots colds
  own = rw c.side-side.ensures at c.parts_of-own.ensures

  need : to_z w128 (of_z w128 c.need_of-need.result) ≡ need_of (parts_of side hots colds) c.args.cut.now.parts
  need =
      let fits : FitsSigned w128 c.need_of-need.result = search rules in
      to_z-of_z w128 c.need_of-need.result fits ∙ simp (own, c.as_slice-members.ensures) at c.need_of-need.ensures

  offer : to_z w128 (of_z w128 c.offer_of-offer.result)
      ≡ offer_of side (g.R.Reaches.reach c.args.reach.now) (parts_of (opposite side) hots colds) c.args.cut.now.parts
  offer =
      let fits : FitsSigned w128 c.offer_of-offer.result = search rules in
      to_z-of_z w128 c.offer_of-offer.result fits
      ∙ rw (c.parts_of-others.ensures, c.opposite.ensures, c.side-side.ensures, c.as_slice-members.ensures) at c.offer_of-offer.ensures

  cut : IsTrue c.is_short.result → IsCutOf (g.R.Reaches.reach c.args.reach.now) hots colds c.args.cut.now
  cut e =
      let short = c.is_short.ensures.0 e in
      record {
        parts = record {
          ordered = rw c.as_slice-members.ensures at (c.if-not-are_rising.ensures.0 refl);
          needing = simp (own, c.as_slice-members.ensures) at (c.if-not-are_needing.ensures.0 refl);
          short = rw (need, offer) at short.2;
        };
        need = short.0 ∙ need;
        offer = short.1 ∙ offer;
      }

pub returns-clause-exact : goal.returns-clause-exact
returns-clause-exact g c = (
  cut g c,
  λ h. c.is_short.ensures.1 (h.need ∙ sym (need g c), h.offer ∙ sym (offer g c), rw (need g c, offer g c) h.parts.short),
)

pub returns-clause-refuses : goal.returns-clause-refuses
returns-clause-refuses g c e =
    cuts_refuse_flows (g.R.Reaches.reach c.args.reach.now) c.args.parts.now.hot c.args.parts.now.cold (cut_side c.args.cut.now.kind) c.args.cut.now.parts
    (cut g c e).parts
