use Rattle.network_text.proofs.Tables.{own-tracked, own-view}
use Rattle.std.proofs.Common.{List, map, sym, ℕ, ◌∙◌, ◌≢◌}
use Rattle.network_text.proofs.Words.{AllPairs-front, StaysValid-IsComplete, Stream, Utility, length-AreStreams}
use Rattle.network_text.proofs.given.Given.new.Goals as goal

pub own_branches-requires : goal.own_branches-requires
own_branches-requires c =
    let case = c.args.case.now in
    let valid = StaysValid-IsComplete case c.requires in
    rw c.as_slice.ensures (record {
      few = length-AreStreams case.streams valid.streams.are_streams;
      distinct = AllPairs-front (λ (a b : List ℕ). a ≢ b) (map (λ (s : Stream). s.name) case.streams)
          (map (λ (u : Utility). u.name) case.utilities) valid.distinct_names;
    })

pub invariant_of-result : goal.invariant_of-result
invariant_of-result c = (
  rw (
    c.in_ok-own_branches.ensures.own,
    c.as_slice.ensures,
    c.with_hasher.ensures.empty,
    c.with_hasher-2.ensures.empty,
    c.with_hasher-3.ensures.empty,
    c.new.ensures.items,
  ) (own-tracked c.args.case.now (StaysValid-IsComplete c.args.case.now c.requires)),
  record {
    used = c.with_hasher.ensures.hasher ∙ sym c.in_ok-own_branches.ensures.key;
    exchangers = c.with_hasher-2.ensures.hasher ∙ sym c.in_ok-own_branches.ensures.key;
    passed = c.with_hasher-3.ensures.hasher ∙ sym c.in_ok-own_branches.ensures.key;
  },
)

pub returns-clause-start : goal.returns-clause-start
returns-clause-start c = rw (c.in_ok-own_branches.ensures.own, c.as_slice.ensures, c.new.ensures.items) (own-view c.args.case.now)
