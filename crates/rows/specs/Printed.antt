-- How the rows that every file may have are printed, the contribution and the streams, and numbers that may be left
-- out.
use Rattle.std.specs.Prelude.{ℕ, ℤ, List, [], ◌∷◌, Option, Some, None, codes}
use Rattle.std.specs.Fmt.{signed_decimal}
use Rattle.stream_case.specs.declared.source.Side.{Side}
use Rattle.stream_case.specs.declared.source.Side.TheVariants as side
use Rattle.stream_case.specs.declared.stream.Stream.{Stream}
use Rattle.rows.specs.Rows.{Row}

-- a number that may be left out
abbrev pub optional_field : Option ℤ → List ℕ
optional_field None = []
optional_field (Some n) = signed_decimal n

abbrev pub stream_kind : Side → List ℕ
stream_kind side.Hot = codes "hot"
stream_kind side.Cold = codes "cold"

abbrev pub contribution_row : ℤ → Row
contribution_row contribution = codes "contribution" ∷ [] ∷ signed_decimal contribution ∷ [] ∷ [] ∷ [] ∷ [] ∷ []

-- with these as its sixth and its seventh field
abbrev pub stream_row : List ℕ → List ℕ → Stream → Row
stream_row load last s =
    stream_kind s.side ∷ s.name ∷ signed_decimal s.supply ∷ signed_decimal s.target ∷ signed_decimal s.cp ∷ load ∷ last ∷ []
