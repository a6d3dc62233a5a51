-- Inner nets, in which heat passes from hot parts to cold parts. The node of hot part a is a, that of cold part b is
-- the number of hot parts plus b; all further nodes are chain nodes.
use Rattle.std.specs.Prelude.{◌≡◌, ◌⊎◌, ℕ, ◌+◌, ◌<◌, ◌≤◌, ℤ, pos, ◌≤ℤ◌, List, length, All, Some, slice_get}
use Rattle.grid.specs.declared.part.Part.{Part}
use Rattle.flow_net.specs.declared.limits.TheConstants.{MOST_ROOM}
use Rattle.flow_net.specs.declared.net.Link.{Link}
use Rattle.flow_net.specs.declared.net.Net.{Net}
use Rattle.flow_net.specs.Net.{inflow, outflow, IsWithinRooms}

-- a link of an inner net: it enters no hot part's node, leaves no cold part's node, leads from a chain node to chain
-- nodes with greater numbers alone, and has room for all heat, at no cost
pub record IsInnerLink (hots colds nodes : ℕ) (l : Link) : Type 0 where
  pub from_in : l.from < nodes
  pub to_in : l.to < nodes
  pub leaves : (l.from < hots) ⊎ ((hots + colds) ≤ l.from)
  pub enters : hots ≤ l.to
  pub onward : (hots + colds) ≤ l.from → (hots + colds) ≤ l.to → l.from < l.to
  pub room : l.room ≡ MOST_ROOM
  pub cost : l.cost ≡ pos 0

-- an inner net for so many hot and cold parts
pub record IsInner (hots colds : ℕ) (inner : Net) : Type 0 where
  pub nodes : (hots + colds) ≤ inner.nodes
  pub links : All (IsInnerLink hots colds inner.nodes) inner.links

-- a flow of an inner net within the rooms: at each chain node what enters is what leaves, and no part gives or takes
-- more than its most
pub record IsHeatOf (hot cold : List Part) (inner : Net) (flow : List ℤ) : Type 0 where
  pub rooms : IsWithinRooms inner.links flow
  pub balances : (v : ℕ) → (length hot + length cold) ≤ v → v < inner.nodes
      → inflow inner.links flow v ≡ outflow inner.links flow v
  pub given : (a : ℕ) (p : Part) → slice_get hot a ≡ Some p → outflow inner.links flow a ≤ℤ p.most
  pub taken : (b : ℕ) (q : Part) → slice_get cold b ≡ Some q → inflow inner.links flow (length hot + b) ≤ℤ q.most
