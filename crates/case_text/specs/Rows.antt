-- The kind of a row.
use Rattle.std.specs.Prelude.{ℕ, List, Option, Some, None, if◌then◌else◌, codes}
use Rattle.std.specs.Str.{bytes_eq}
use Rattle.rows.specs.Rows.{Row}
use Rattle.stream_case.specs.declared.source.Side.TheVariants as side
use Rattle.rows.specs.Fields.{field, is_passed_over}
use Rattle.case_text.specs.declared.kind.Kind.{Kind}
use Rattle.case_text.specs.declared.kind.Kind.TheVariants as kind

abbrev pub kind_in : List ℕ → Option Kind
kind_in text =
    if bytes_eq text (codes "contribution") then Some kind.Contribution
    else if bytes_eq text (codes "hot") then Some (kind.Stream side.Hot)
    else if bytes_eq text (codes "cold") then Some (kind.Stream side.Cold)
    else if bytes_eq text (codes "heater") then Some (kind.Utility side.Hot)
    else if bytes_eq text (codes "cooler") then Some (kind.Utility side.Cold)
    else if bytes_eq text (codes "forbid") then Some kind.Forbid
    else None

-- a row is passed over, or its first field names its kind
unfoldable pub kind_of : Row → Option Kind
kind_of row = if is_passed_over row then Some kind.PassedOver else kind_in (field row 0)
