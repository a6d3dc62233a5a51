-- The grid of a valid site holds the places of its streams and utilities, and they are few.
use Rattle.site.proofs.Words.{All, AreStreams, Contains, HoldsPlaces, IsPlaced, IsSiteGrid, ListsFalling, site_utilities, streams_of}
use Rattle.site.proofs.PlaceLemmas.{HoldsPlaces-grid, length-grid, utilities-placed}
use Rattle.site_text.proofs.SiteLemmas.{AreStreams-site}
use Rattle.std.proofs.Common.{[], ap, subst, sym, ◌∙◌, ◌∷◌, ◌≡◌}
use Rattle.site.proofs.table.site_parts.Goals as goal

streams_are : (c : goal.After-as_slice-5) → c.as_slice-4.result.now ≡ streams_of c.args.site.now.plants
streams_are c = c.as_slice-4.ensures.value ∙ c.in_ok-streams.ensures ∙ ap streams_of c.as_slice.ensures

utilities_are : (c : goal.After-as_slice-5) → c.boiler.result ∷ c.cooling.result ∷ [] ≡ site_utilities c.args.site.now
utilities_are c = λ i. c.boiler.ensures i ∷ c.cooling.ensures i ∷ []

is_grid : (c : goal.After-as_slice-5) → IsSiteGrid c.args.site.now c.as_slice-5.result.now
is_grid c = rw c.as_slice-5.ensures.value
    (subst (λ places. ListsFalling (Contains places) c.falling-places.result.items) c.in_ok-places.ensures c.falling-places.ensures)

pub parts_on-requires-clause-streams : goal.parts_on-requires-clause-streams
parts_on-requires-clause-streams c = subst AreStreams (sym (streams_are c)) (AreStreams-site c.args.site.now c.requires)

pub parts_on-requires-clause-utilities : goal.parts_on-requires-clause-utilities
parts_on-requires-clause-utilities c =
    subst (All IsPlaced) (sym (utilities_are c)) (utilities-placed c.args.site.now c.requires)

pub parts_on-requires-clause-places : goal.parts_on-requires-clause-places
parts_on-requires-clause-places c =
    let holds = HoldsPlaces-grid c.args.site.now c.as_slice-5.result.now c.requires (is_grid c) in
    subst (λ streams. HoldsPlaces streams (c.boiler.result ∷ c.cooling.result ∷ []) c.as_slice-5.result.now) (sym (streams_are c))
    (subst (λ utilities. HoldsPlaces (streams_of c.args.site.now.plants) utilities c.as_slice-5.result.now) (sym (utilities_are c)) holds)

pub parts_on-requires-clause-few_places : goal.parts_on-requires-clause-few_places
parts_on-requires-clause-few_places c = length-grid c.args.site.now c.as_slice-5.result.now c.requires (is_grid c)
