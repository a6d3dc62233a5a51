-- How a case is printed.
use Rattle.std.specs.Prelude.{ℕ, ℤ, pos, List, [], ◌∷◌, ◌++◌, map, Option, Some, None, if◌then◌else◌, codes}
use Rattle.std.specs.Fmt.{signed_decimal}
use Rattle.std.specs.Ordering.{int_eq}
use Rattle.rows.specs.Printed.{contribution_row, optional_field}
use Rattle.rows.specs.Printed as rows
use Rattle.rows.specs.Rows.{Row}
use Rattle.stream_case.specs.Case.{source_name}
use Rattle.stream_case.specs.declared.case.Case.{Case}
use Rattle.stream_case.specs.declared.case.Forbid.{Forbid}
use Rattle.stream_case.specs.declared.source.Side.{Side}
use Rattle.stream_case.specs.declared.source.Side.TheVariants as side
use Rattle.stream_case.specs.declared.stream.Stream.{Stream}
use Rattle.stream_case.specs.declared.utility.Utility.{Utility}

-- the contribution that a source gives: none where it is that of the case
abbrev pub own_contribution : Case → ℤ → Option ℤ
own_contribution case contribution = if int_eq contribution case.contribution then None else Some contribution

-- the seventh field of a source
unfoldable pub contribution_field : Case → ℤ → List ℕ
contribution_field case contribution = optional_field (own_contribution case contribution)

-- the load that a stream gives: none where it is 0, as that of a sensible one
abbrev pub own_load : ℤ → Option ℤ
own_load load = if int_eq load (pos 0) then None else Some load

-- the sixth field of a stream
unfoldable pub load_field : ℤ → List ℕ
load_field load = optional_field (own_load load)

abbrev pub stream_row : Case → Stream → Row
stream_row case s = rows.stream_row (load_field s.load) (contribution_field case s.contribution) s

abbrev pub utility_kind : Side → List ℕ
utility_kind side.Hot = codes "heater"
utility_kind side.Cold = codes "cooler"

abbrev pub utility_row : Case → Utility → Row
utility_row case u =
    let last = contribution_field case u.contribution in
    utility_kind u.side ∷ u.name ∷ signed_decimal u.level ∷ signed_decimal u.least ∷ signed_decimal u.most
    ∷ signed_decimal u.price ∷ last ∷ []

abbrev pub forbid_row : Case → Forbid → Row
forbid_row case f = codes "forbid" ∷ source_name case f.hot ∷ source_name case f.cold ∷ [] ∷ [] ∷ [] ∷ [] ∷ []

-- the contribution, the streams, the utilities and the forbidden matches, in their order
unfoldable pub printed_rows : Case → List Row
printed_rows case =
    contribution_row case.contribution
    ∷ ((map (stream_row case) case.streams ++ map (utility_row case) case.utilities) ++ map (forbid_row case) case.forbids)
