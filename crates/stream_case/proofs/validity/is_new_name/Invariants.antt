use Rattle.std.proofs.Common.{[], slice_index_or, ℕ, ◌<◌, ◌≢◌}
use Rattle.stream_case.proofs.Words.{names_of, with_utilities}
use Rattle.stream_case.proofs.validity.is_new_name.Given as goal

abbrev pub invariant-loop-earlier : goal.invariant-loop-earlier
invariant-loop-earlier l =
    let names = names_of (with_utilities l.case l.utilities) in
    (i : ℕ) → i < l.earlier → slice_index_or names i [] ≢ slice_index_or names l.index []
