use Rattle.network_text.proofs.Tables.{own_entries-more, own_entries-new}
use Rattle.network_text.proofs.Words.{own_entries}
use Rattle.std.proofs.Common.{List, [], ap, sym, take_all, ℕ, ◌++◌, ◌∙◌, ◌∷◌}
use Rattle.network_text.proofs.given.own_branches.Goals as goal

pub loop-index-init : goal.loop-index-init
unfolding own_entries
loop-index-init c =
    record { own = c.with_hasher-branches.ensures.empty; key = c.with_hasher-branches.ensures.hasher }

pub add_branch-requires : goal.add_branch-requires
add_branch-requires c =
    rw c.loop-index.invariant.own (own_entries-new c.args.streams.now c.loop-index.index c.index-streams-index.result c.loop-index-test.true
    (sym c.index-streams-index.is) c.requires.distinct)

pub loop-index-preserved : goal.loop-index-preserved
loop-index-preserved c =
    let s = c.index-streams-index.result in record {
      own =
          c.in_ok-add_branch.ensures.added
          ∙ ap (λ (l : List (List ℕ × ℕ)). l ++ (s.name, c.loop-index.index) ∷ []) c.loop-index.invariant.own
          ∙ sym (own_entries-more c.args.streams.now c.loop-index.index s c.loop-index-test.true (sym c.index-streams-index.is));
      key = c.add_branch.ensures.key ∙ c.loop-index.invariant.key;
    }

pub returns-clause-own : goal.returns-clause-own
returns-clause-own c =
    c.loop-index.invariant.own ∙ ap own_entries (take_all c.loop-index.index c.args.streams.now c.loop-index-test.false)
