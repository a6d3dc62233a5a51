-- Paths of links, and nets whose paths are the pairs that reach.
use Rattle.std.specs.Prelude.{◌≡◌, ℕ, ◌+◌, ◌<◌, Bool, IsTrue, List, [], ◌∷◌, Contains}
use Rattle.flow_net.specs.declared.net.Link.{Link}

-- the links of the path lead one after the other from node u to node v
abbrev pub IsPath : List Link → List Link → ℕ → ℕ → Type 0
IsPath links [] u v = u ≡ v
IsPath links (l ∷ path) u v = Contains links l × (l.from ≡ u) × IsPath links path l.to v

-- a path of these links leads from node u to node v
abbrev pub LeadsTo : List Link → ℕ → ℕ → Type 0
LeadsTo links u v = (path : List Link) × IsPath links path u v

-- a path leads from the node of a hot part to that of a cold part exactly where the two reach
pub record PathsAreReaches (hots colds : ℕ) (links : List Link) (reach : ℕ → ℕ → Bool) : Type 0 where
  pub hot_within : (a b : ℕ) → IsTrue (reach a b) → a < hots
  pub cold_within : (a b : ℕ) → IsTrue (reach a b) → b < colds
  pub leads : (a b : ℕ) → IsTrue (reach a b) → LeadsTo links a (hots + b)
  pub reaches : (a b : ℕ) → a < hots → b < colds → LeadsTo links a (hots + b) → IsTrue (reach a b)
