-- What the rows of a case file give, one after the other, and the case that is made of it.
use Rattle.std.specs.Prelude.{ℕ, ℤ, pos, List, [], ◌∷◌, ◌++◌, map, Option, Some, None, unwrap_or}
use Rattle.std.specs.declared.hash.DefaultHasher.{DefaultHasher}
use Rattle.rows.specs.Rows.{Row}
use Rattle.stream_case.specs.Case.{source_named}
use Rattle.stream_case.specs.declared.case.Case.{Case}
use Rattle.stream_case.specs.declared.case.Forbid.{Forbid}
use Rattle.stream_case.specs.declared.source.Side.{Side}
use Rattle.stream_case.specs.declared.source.Source.{Source}
use Rattle.stream_case.specs.declared.source.Source.TheVariants as source
use Rattle.stream_case.specs.declared.stream.Stream.{Stream}
use Rattle.stream_case.specs.declared.utility.Utility.{Utility}
use Rattle.rows.specs.Fields.{field, number, optional_number}
use Rattle.case_text.specs.Rows.{kind_of}
use Rattle.case_text.specs.declared.entry.Entry.{Entry}
use Rattle.case_text.specs.declared.entry.Entry.TheVariants as entry
use Rattle.case_text.specs.declared.entry.StreamData.{StreamData}
use Rattle.case_text.specs.declared.entry.UtilityData.{UtilityData}
use Rattle.case_text.specs.declared.kind.Kind.{Kind}
use Rattle.case_text.specs.declared.kind.Kind.TheVariants as kind

-- the contribution, the data of streams and utilities by name, and the forbidden matches, each in the order of their
-- rows
pub record Given : Type 0 where
  pub contribution : Option ℤ
  pub streams : List (List ℕ × StreamData)
  pub utilities : List (List ℕ × UtilityData)
  pub forbids : List Forbid

-- the same, in maps whose hashes begin with this hasher
pub record KeyedGiven : Type 0 where
  pub rows : Given
  pub key : DefaultHasher

abbrev pub nothing : Given
nothing = record { contribution = None; streams = []; utilities = []; forbids = [] }

-- ---- the case that is made of it

-- a source has the contribution that it gives, else that of the case; a stream has the load that it gives, else 0
abbrev pub stream_of : ℤ → List ℕ × StreamData → Stream
stream_of contribution (name, stream) = record {
  name = name;
  side = stream.side;
  supply = stream.supply;
  target = stream.target;
  cp = stream.cp;
  load = unwrap_or stream.load (pos 0);
  contribution = unwrap_or stream.contribution contribution;
}

abbrev pub utility_of : ℤ → List ℕ × UtilityData → Utility
utility_of contribution (name, utility) = record {
  name = name;
  side = utility.side;
  level = utility.level;
  least = utility.least;
  most = utility.most;
  price = utility.price;
  contribution = unwrap_or utility.contribution contribution;
}

-- with this contribution of the case
abbrev pub case_with : ℤ → Given → Case
case_with contribution given = record {
  contribution = contribution;
  streams = map (stream_of contribution) given.streams;
  utilities = map (utility_of contribution) given.utilities;
  forbids = given.forbids;
}

-- the case so far; its contribution is 0 where none was given yet
abbrev pub case_of : Given → Case
case_of given = case_with (unwrap_or given.contribution (pos 0)) given

-- the source so far with a name; the first stream, of which no rule speaks, where there is none
abbrev pub source_at : Given → List ℕ → Source
source_at given name = unwrap_or (source_named (case_of given) name) (source.Stream 0)

-- ---- what a row gives, behind rows that gave this

abbrev pub stream_data : Side → Row → StreamData
stream_data of row = record {
  side = of;
  supply = number row 2;
  target = number row 3;
  cp = number row 4;
  load = optional_number row 5;
  contribution = optional_number row 6;
}

abbrev pub utility_data : Side → Row → UtilityData
utility_data of row = record {
  side = of;
  level = number row 2;
  least = number row 3;
  most = number row 4;
  price = number row 5;
  contribution = optional_number row 6;
}

-- the names of a forbidden match are those of sources of earlier rows
abbrev pub forbid_in : Given → Row → Forbid
forbid_in given row = record { hot = source_at given (field row 1); cold = source_at given (field row 2) }

abbrev pub entry_by : Option Kind → Given → Row → Entry
entry_by None given row = entry.Nothing
entry_by (Some kind.PassedOver) given row = entry.Nothing
entry_by (Some kind.Contribution) given row = entry.Contribution (number row 2)
entry_by (Some (kind.Stream of)) given row = entry.Stream (field row 1) (stream_data of row)
entry_by (Some (kind.Utility of)) given row = entry.Utility (field row 1) (utility_data of row)
entry_by (Some kind.Forbid) given row = entry.Forbid (forbid_in given row)

abbrev pub entry_in : Given → Row → Entry
entry_in given row = entry_by (kind_of row) given row

abbrev pub with_entry : Given → Entry → Given
with_entry given entry.Nothing = given
with_entry given (entry.Contribution n) = record given { contribution = Some n }
with_entry given (entry.Stream name stream) = record given { streams = given.streams ++ (name, stream) ∷ [] }
with_entry given (entry.Utility name utility) = record given { utilities = given.utilities ++ (name, utility) ∷ [] }
with_entry given (entry.Forbid forbid) = record given { forbids = given.forbids ++ forbid ∷ [] }

abbrev pub next : Given → Row → Given
next given row = with_entry given (entry_in given row)
