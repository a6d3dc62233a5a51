-- The words and lemmas from elsewhere that the proofs of this crate speak in, passed on from one place. Declares nothing.
pub use Rattle.std.proofs.Math.ListN.{length-set}
pub use Rattle.std.proofs.lemmas.Bool.{cases_eq, cases_lt}
pub use Rattle.std.proofs.lemmas.List.{get_or-reverse, get_or-set_other, get_or-set_same, length-reverse}
pub use Rattle.std.proofs.lemmas.Nat.{mod-mul-add, mod_below, mul-le}
pub use Rattle.std.proofs.lemmas.Option.{get_or_from_slice_get, slice_get-get_or, slice_get_within}
pub use Rattle.std.specs.Prelude.{IfOk, reverse, set}
pub use Rattle.sums.proofs.ListLemmas.{slice_get-append, slice_get_push}
pub use Rattle.workers.specs.Shares.{AreItems, AreItemsOfWorker, AreItemsOfWorkers, EachIsItem}
