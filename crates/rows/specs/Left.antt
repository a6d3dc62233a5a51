-- What a reader of rows has left.
use Rattle.std.specs.Prelude.{ℕ, ◌≡◌, ◌+◌, true, false, List, [], Option, Some, None, length, is_some, is_none}
use Rattle.std.proofs.Common.{Bor}
use Rattle.csv.specs.Machine.{ends_at_end}
use Rattle.csv.specs.Reading.{default_config, is_flexible, names_headers, reader_config, reader_headers, reader_state, reader_trim, records_from, source_of, took_first}
use Rattle.csv.specs.declared.parser.State.{State}
use Rattle.csv.specs.declared.reader.Reader.{Reader}
use Rattle.csv.specs.declared.reader.Trim.TheVariants as trim
use Rattle.rows.specs.Rows.{Row}

-- the bytes that a reader over memory has left, unless it has failed
abbrev pub bytes_left : Reader (Bor (List ℕ)) → Option (List ℕ)
bytes_left s = source_of (λ r. Some r.now) s

-- the records of the bytes that are left
unfoldable pub records_left : State → Option (List ℕ) → List Row
records_left state None = []
records_left state (Some bytes) = records_from default_config (length bytes + 1) state bytes

-- a reader that gives the records of known bytes, one at each read
pub record GivesRows (s : Reader (Bor (List ℕ))) : Type 0 where
  pub config : reader_config s ≡ default_config
  pub trim : reader_trim s ≡ trim.None
  pub flexible : is_flexible s ≡ true
  pub headers : names_headers s ≡ false
  pub first : took_first s ≡ false → is_none (reader_headers s) ≡ true
  pub state : ends_at_end (reader_state s) ≡ false
  pub known : is_some (bytes_left s) ≡ true
