-- What a key makes of a hasher.
use Rattle.std.specs.Prelude.{ℕ, List}
use Rattle.std.specs.Hash.DefaultHasher.{initial, write}
use Rattle.std.specs.declared.hash.DefaultHasher.{DefaultHasher}
use Rattle.sha2.specs.Sha256.{sha256}
use Rattle.keyed_index.specs.declared.text_key.TextKey.{TextKey}

-- the hasher that has taken the digest of some bytes, and nothing else
unfoldable pub keyed_by : List ℕ → DefaultHasher
keyed_by bytes = write initial (sha256 bytes)

-- the hasher that each hash under a key begins with
abbrev pub begun_by : TextKey → DefaultHasher
begun_by key = key.begun
