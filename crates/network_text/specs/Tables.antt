-- The keys of the tables that are kept beside a network.
use Rattle.std.specs.Prelude.{◌≡◌}
use Rattle.indexmap.specs.IndexMap.{hasher_of}
use Rattle.indexmap.specs.IndexSet.{hasher_of as set_hasher_of}
use Rattle.network_text.specs.declared.given.Tables.{Tables}

-- all have the key of the first
pub record ShareKey (t : Tables) : Type 0 where
  pub used : set_hasher_of t.used ≡ hasher_of t.branches
  pub exchangers : hasher_of t.exchangers ≡ hasher_of t.branches
  pub passed : set_hasher_of t.passed ≡ hasher_of t.branches

-- each has the key that it had
pub record KeepsKeys (old new : Tables) : Type 0 where
  pub branches : hasher_of new.branches ≡ hasher_of old.branches
  pub used : set_hasher_of new.used ≡ set_hasher_of old.used
  pub exchangers : hasher_of new.exchangers ≡ hasher_of old.exchangers
  pub passed : set_hasher_of new.passed ≡ set_hasher_of old.passed
