-- The places, the utilities and the parts of a site.
use Rattle.std.specs.Prelude.{ℤ, pos, ◌-ℤ◌, List, [], ◌∷◌, ◌++◌, map, Contains, codes}
use Rattle.stream_case.specs.Case.{greatest, least}
use Rattle.stream_case.specs.Shift.{shifted}
use Rattle.stream_case.specs.Stream.{stream_ends}
use Rattle.stream_case.specs.declared.limits.TheConstants.{MOST_HEAT}
use Rattle.stream_case.specs.declared.source.Side.TheVariants.{Hot, Cold}
use Rattle.stream_case.specs.declared.utility.Utility.{Utility}
use Rattle.sums.specs.Order.{ListsFalling}
use Rattle.site_text.specs.Site.{streams_of}
use Rattle.site_text.specs.declared.site.Main.{Main}
use Rattle.site_text.specs.declared.site.Site.{Site}

-- ---- places

-- where a main takes heat on the shifted scale, and where it gives it: it stands there as a cold and as a hot source
-- of its level do
abbrev pub takes_at : ℤ → Main → ℤ
takes_at contribution main = shifted Cold main.level contribution

abbrev pub gives_at : ℤ → Main → ℤ
gives_at contribution main = shifted Hot main.level contribution

abbrev pub main_places : ℤ → List Main → List ℤ
main_places contribution [] = []
main_places contribution (main ∷ mains) =
    takes_at contribution main ∷ gives_at contribution main ∷ main_places contribution mains

-- the shifted stream ends, and the two places of each main
abbrev pub site_places : Site → List ℤ
site_places site = stream_ends (streams_of site.plants) ++ main_places site.contribution site.mains

-- the strictly falling list of exactly these
abbrev pub IsSiteGrid : Site → List ℤ → Type 0
IsSiteGrid site places = ListsFalling (Contains (site_places site)) places

-- ---- utilities

-- the boiler gives heat where the highest main does
abbrev pub boiler : Site → Utility
boiler site = record {
  name = codes "BOILER";
  side = Hot;
  level = greatest (map (λ main. main.level) site.mains);
  least = pos 0;
  most = MOST_HEAT;
  price = pos 1;
  contribution = site.contribution;
}

-- and the cooling takes it at the lowest place
abbrev pub cooling : Site → Utility
cooling site = record {
  name = codes "COOLING";
  side = Cold;
  level = least (site_places site) -ℤ site.contribution;
  least = pos 0;
  most = MOST_HEAT;
  price = pos 0;
  contribution = site.contribution;
}

abbrev pub site_utilities : Site → List Utility
site_utilities site = boiler site ∷ cooling site ∷ []
