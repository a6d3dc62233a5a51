-- The words and lemmas from elsewhere that the proofs of this crate speak in, passed on from one place. Declares nothing.
pub use Rattle.flow_problem.specs.Certificate.{AreBalanced, due, start_at, surplus_at}
pub use Rattle.flow_problem.specs.declared.problem.Problem.{Problem}
pub use Rattle.flow_net.proofs.Duality.{routing_from_surplus, surplus_is, surplus_of_routing, when}
pub use Rattle.flow_net.proofs.Lists.{set_cases}
pub use Rattle.flow_net.proofs.Sizes.{sizes}
pub use Rattle.flow_net.specs.Net.{IsWithinLimits, IsWithinRooms, flow_on, link_at}
pub use Rattle.flow_net.specs.Sum.{sum_below}
pub use Rattle.flow_net.specs.declared.net.Link.{Link}
pub use Rattle.flow_net.specs.declared.net.Net.{Net}
pub use Rattle.std.proofs.Math.Numerals.{add-one}
pub use Rattle.std.proofs.lemmas.Bool.{cases_eq, eq-eqb, ne_eqb}
pub use Rattle.std.proofs.lemmas.Int.{ints, to_z-of_z, unsigned_abs-mul}
pub use Rattle.std.proofs.lemmas.List.{length-set}
pub use Rattle.std.proofs.lemmas.List.FromFn.{map-range_with_len_more}
pub use Rattle.std.proofs.lemmas.Nat.{mul-le}
pub use Rattle.std.specs.Int.{w128}
pub use Rattle.std.specs.Int.RustNames.{unsigned_abs}
pub use Rattle.std.specs.List.{range_with_len}
