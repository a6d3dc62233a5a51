-- The streams of a site, and the sites that the site grammar can give.
use Rattle.std.specs.Prelude.{◌≡◌, ◌≢◌, ◌<◌, ◌≤◌, ℕ, ℤ, List, length, map, All, AllPairs, codes}
use Rattle.std.specs.List.{flat_map}
use Rattle.stream_case.specs.Limits.{IsContribution, IsTemperature}
use Rattle.stream_case.specs.Name.{IsName}
use Rattle.stream_case.specs.Stream.{AreSensible, AreStreams, IsValidStream, count_on}
use Rattle.stream_case.specs.declared.limits.TheConstants.{MOST_MAINS}
use Rattle.stream_case.specs.declared.source.Side.{Side}
use Rattle.stream_case.specs.declared.stream.Stream.{Stream}
use Rattle.site_text.specs.declared.limits.TheConstants.{MOST_PLANTS, MOST_SIDE_STREAMS}
use Rattle.site_text.specs.declared.site.Main.{Main}
use Rattle.site_text.specs.declared.site.Plant.{Plant}
use Rattle.site_text.specs.declared.site.Site.{Site}

-- the streams of plants, those of one plant after those of the plants before it
abbrev pub streams_of : List Plant → List Stream
streams_of plants = flat_map (λ plant. plant.streams) plants

-- the streams of a plant: as those of a case, and none latent
pub record ArePlantStreams (streams : List Stream) : Type 0 where
  pub are_streams : AreStreams streams
  pub sensible : AreSensible streams

-- ---- sites that the site grammar can give

abbrev pub AreDistinct : List (List ℕ) → Type 0
AreDistinct names = AllPairs (λ a b. a ≢ b) names

-- no stream has the name of a utility of the site
abbrev pub IsUnreserved : List ℕ → Type 0
IsUnreserved name = (name ≢ codes "BOILER") × (name ≢ codes "COOLING")

pub record ArePlants (plants : List Plant) : Type 0 where
  pub names : All (λ plant. IsName plant.name) plants
  pub distinct : AreDistinct (map (λ plant. plant.name) plants)
  pub few : length plants ≤ MOST_PLANTS

-- there is one
pub record AreMains (mains : List Main) : Type 0 where
  pub some : 0 < length mains
  pub names : All (λ main. IsName main.name) mains
  pub levels : All (λ main. IsTemperature main.level) mains
  pub distinct : AreDistinct (map (λ main. main.name) mains)
  pub few : length mains ≤ MOST_MAINS

-- there is one, none is latent, and each has the contribution of the site
pub record AreSiteStreams (contribution : ℤ) (streams : List Stream) : Type 0 where
  pub some : 0 < length streams
  pub each : All IsValidStream streams
  pub sensible : AreSensible streams
  pub contributions : All (λ s. s.contribution ≡ contribution) streams
  pub names : All (λ s. IsUnreserved s.name) streams
  pub distinct : AreDistinct (map (λ s. s.name) streams)
  pub few : (side : Side) → count_on side streams ≤ MOST_SIDE_STREAMS

-- a plant may have no stream
pub record IsValidSite (site : Site) : Type 0 where
  pub contribution : IsContribution site.contribution
  pub plants : ArePlants site.plants
  pub mains : AreMains site.mains
  pub streams : AreSiteStreams site.contribution (streams_of site.plants)
