-- The streams of a valid site, and those of each of its plants.
use Rattle.site_text.specs.Site.{ArePlantStreams, IsValidSite, streams_of}
use Rattle.site_text.specs.declared.site.Plant.{Plant}
use Rattle.site_text.specs.declared.site.Site.{Site}
use Rattle.std.proofs.lemmas.List.{append-nil, take_more}
use Rattle.std.proofs.lemmas.List.Concat.{flat_map-append}
use Rattle.std.proofs.lemmas.List.Elements.{All-cons, All-drop, All-nil, All-take}
use Rattle.std.specs.Prelude.{All}
use Rattle.stream_case.proofs.CaseLemmas.{count_on-append}
use Rattle.stream_case.proofs.EndLemmas.{stream_ends-append}
use Rattle.stream_case.specs.Stream.{AreStreams, IsSensible, IsValidStream, count_on, stream_ends}
use Rattle.stream_case.specs.declared.source.Side.{Side}
use Rattle.stream_case.specs.declared.stream.Stream.{Stream}
use Rattle.std.proofs.Common.{List, [], ap, arith, get_or, length, sym, take, ℕ, ◌++◌, ◌+◌, ◌<◌, ◌∙◌, ◌∷◌, ◌≡◌, ◌≤◌}
use Rattle.std.proofs.Math.Seq.{drop-append_seam, take-append_seam}

-- ---- a plant more

pub streams_of-more : (plants : List Plant) (i : ℕ) (plant : Plant) → i < length plants → plant ≡ get_or plants i plant
    → streams_of (take (i + 1) plants) ≡ streams_of (take i plants) ++ plant.streams
streams_of-more plants i plant within is =
    ap streams_of (take_more plants i plant within ∙ ap (λ p. take i plants ++ p ∷ []) (sym is))
    ∙ flat_map-append (λ (p : Plant). p.streams) (take i plants) (plant ∷ [])
    ∙ ap (λ ss. streams_of (take i plants) ++ ss) (append-nil plant.streams)

pub ends_of-more : (plants : List Plant) (i : ℕ) (plant : Plant) → i < length plants → plant ≡ get_or plants i plant
    → stream_ends (streams_of (take (i + 1) plants))
    ≡ stream_ends (streams_of (take i plants)) ++ stream_ends plant.streams
ends_of-more plants i plant within is = ap stream_ends (streams_of-more plants i plant within is)
    ∙ stream_ends-append (streams_of (take i plants)) plant.streams

-- ---- valid streams

pub AreStreams-site : (site : Site) → IsValidSite site → AreStreams (streams_of site.plants)
AreStreams-site site valid = record { each = valid.streams.each; few = λ side. omega (arith, valid.streams.few side) }

-- a plant has no more streams of a side than all plants
few_each : (side : Side) (most : ℕ) (plants : List Plant) → count_on side (streams_of plants) ≤ most
    → All (λ p. count_on side p.streams ≤ most) plants
few_each side most [] few = All-nil (λ (p : Plant). count_on side p.streams ≤ most)
few_each side most (plant ∷ plants) few =
    let all = count_on-append side plant.streams (streams_of plants) in
    All-cons (λ (p : Plant). count_on side p.streams ≤ most) plant plants (omega (arith, all, few)) (few_each side most plants (omega (arith, all, few)))

-- what holds of the streams of plants holds of those of each
pub All-plants : (P : Stream → Type 0) (plants : List Plant) → All P (streams_of plants)
    → All (λ plant. All P plant.streams) plants
All-plants P [] h = All-nil (λ (p : Plant). All P p.streams)
All-plants P (plant ∷ plants) h =
    All-cons (λ (p : Plant). All P p.streams) plant plants (rw take-append_seam at (All-take P (length plant.streams) (plant.streams ++ streams_of plants) h))
    (All-plants P plants (rw drop-append_seam at (All-drop P (length plant.streams) (plant.streams ++ streams_of plants) h)))

-- so the streams of each plant are as they have to be
pub ArePlantStreams-site : (site : Site) → IsValidSite site → All (λ plant. ArePlantStreams plant.streams) site.plants
ArePlantStreams-site site valid k d within = record {
  are_streams = record {
    each = All-plants IsValidStream site.plants valid.streams.each k d within;
    few = λ side. few_each side _ site.plants ((AreStreams-site site valid).few side) k d within;
  };
  sensible = All-plants IsSensible site.plants valid.streams.sensible k d within;
}
