-- The names of the sources of a case or of a site.
use Rattle.std.specs.Prelude.{ℕ, List, [], ◌∷◌, map, slice_index_or, codes}
use Rattle.std.specs.List.{flat_map}
use Rattle.stream_case.specs.declared.case.Case.{Case}
use Rattle.stream_case.specs.declared.source.Source.{Source}
use Rattle.stream_case.specs.declared.source.Source.TheVariants.{Stream as of_stream, Utility as of_utility}
use Rattle.stream_case.specs.declared.stream.Stream.{Stream}
use Rattle.site_text.specs.declared.site.Site.{Site}
use Rattle.reports.specs.declared.names.SourceNames.{SourceNames}

-- the name of a source; nothing where there is no such source
abbrev pub source_name : SourceNames → Source → List ℕ
source_name names (of_stream i) = slice_index_or names.streams i []
source_name names (of_utility i) = slice_index_or names.utilities i []

abbrev pub stream_names : List Stream → List (List ℕ)
stream_names streams = map (λ s. s.name) streams

-- the streams and the utilities of a case have their own names
abbrev pub case_names : Case → SourceNames
case_names c = record { streams = stream_names c.streams; utilities = map (λ u. u.name) c.utilities }

-- the streams of a site, through the plants in their order; utility 0 is the boiler and utility 1 the cooling
abbrev pub site_names : Site → SourceNames
site_names site = record {
  streams = flat_map (λ plant. stream_names plant.streams) site.plants;
  utilities = codes "BOILER" ∷ codes "COOLING" ∷ [];
}
