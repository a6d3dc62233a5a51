-- Shares of heat gathered into transfers.
use Rattle.std.specs.Prelude.{◌≡◌, ◌⊎◌, ℕ, ◌+◌, ◌-◌, ◌<◌, ◌≤◌, ◌+ℤ◌, List, [], ◌∷◌, ◌++◌, length, slice_index_or, All, AllPairs, Contains}
use Rattle.stream_case.specs.declared.source.Side.TheVariants.{Hot, Cold}
use Rattle.heat_flow.specs.declared.flow.Transfer.{Transfer}
use Rattle.heat_flow.specs.Flow.{heat_at, precedes, ArePositive}
use Rattle.chains.specs.declared.stock.Share.{Share}
use Rattle.chains.specs.Stock.{held_of, held_at}

-- the transfer of a share at a cold part's node
abbrev pub transfer_of : ℕ → Share → Transfer
transfer_of hots s = record { hot = s.hot; cold = s.node - hots; heat = s.heat }

-- two transfers of one pair of parts
abbrev pub AreOfOnePair : Transfer → Transfer → Type 0
AreOfOnePair s t = (s.hot ≡ t.hot) × (s.cold ≡ t.cold)

-- by the hot part, then by the node
abbrev pub IsNotAfter : Share → Share → Type 0
IsNotAfter s t = (s.hot < t.hot) ⊎ ((s.hot ≡ t.hot) × (s.node ≤ t.node))

-- a transfer is added to the last one, which is of the same pair
pub record IsJoined (old : List Transfer) (t : Transfer) (new : List Transfer) : Type 0 where
  pub front : List Transfer
  pub last : Transfer
  pub one_pair : AreOfOnePair last t
  pub old_is : old ≡ front ++ last ∷ []
  pub new_is : new ≡ front ++ record last { heat = last.heat +ℤ t.heat } ∷ []

-- a transfer stands behind the last one, which is of another pair
pub record IsPushed (old : List Transfer) (t : Transfer) (new : List Transfer) : Type 0 where
  pub another_pair : (d : Transfer) → 0 < length old → ¬ AreOfOnePair (slice_index_or old (length old - 1) d) t
  pub new_is : new ≡ old ++ t ∷ []

abbrev pub IsAdded : List Transfer → Transfer → List Transfer → Type 0
IsAdded old t new = IsJoined old t new ⊎ IsPushed old t new

-- one positive transfer for each pair of which there are shares, in order: what a part gives or takes is what its
-- shares add up to
pub record AreGathered (hots : ℕ) (shares : List Share) (transfers : List Transfer) : Type 0 where
  pub positive : ArePositive transfers
  pub ordered : AllPairs precedes transfers
  pub pairs : All (λ t. (s : Share) × Contains shares s × (s.hot ≡ t.hot) × (s.node ≡ hots + t.cold)) transfers
  pub given : (a : ℕ) → heat_at Hot transfers a ≡ held_of shares a
  pub taken : (b : ℕ) → heat_at Cold transfers b ≡ held_at shares (hots + b)
